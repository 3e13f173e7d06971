-- `math_unity::cut` meets its contract: the product, its whole part and the difference are exact. Assumes nothing.
use Rattle.std.proofs.Common.{◌≡◌, ℕ, T, pos, sym, refl, subst, le_trans, le_of_eq}
use lib.Ieee.{binary64, of_bits, in_float}
use Rattle.math_unity.specs.Cut.{times_of, digit_of, rest_of, cut_f64, times_asked, digit_held}
use Rattle.math_unity.proofs.cut.Goals as goal

pub truncating_f64_to_u64-d-requires : goal.truncating_f64_to_u64-d-requires
unfolding times_of of_bits
truncating_f64_to_u64-d-requires c = let both_of = times_asked c.args.x c.requires in record { lower_bound = both_of.0; upper_bound = both_of.1 }

pub int_to_float-result : goal.int_to_float-result
unfolding times_of digit_of
int_to_float-result c = subst (λ (n : ℕ). T (in_float binary64 (pos n))) (sym c.truncating_f64_to_u64-d.ensures) (digit_held c.args.x c.requires)

pub returns : goal.returns
unfolding times_of digit_of rest_of
returns c =
    let e : c.truncating_f64_to_u64-d.result ≡ digit_of c.args.x = c.truncating_f64_to_u64-d.ensures in
    record { digit = e; rest = rw e refl; digit_high = le_trans (le_of_eq e) (cut_f64 c.args.x c.requires).small }
