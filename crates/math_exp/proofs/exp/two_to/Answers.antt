-- `math_exp::exp::two_to` meets its contract: the pattern's fields are those of a power of two. Assumes nothing.
use Rattle.std.proofs.Common.{◌≡◌, ℕ, suc, ◌+◌, ◌-◌, ◌*◌, ◌≤◌, false, not, T, ℤ, sym, ap, ◌∙◌, subst, arith}
use lib.Ieee.{Float, binary64, fin, nan_bits, of_bits, neg, to_unsigned}
use Rattle.math_exp.specs.ExpLaws.{Below, below_asked, below_cut, power_bits, power_no_nan}
use Rattle.math_exp.proofs.exp.two_to.Goals as goal

-- the field of the exponent
field : (k : Float) (b : Below k) {n : ℕ} → n ≡ to_unsigned 64 (neg k) → (n ≤ 1023) × (1023 - n ≡ suc (1022 - b.n))
field k b e = (omega (arith, e ∙ below_cut k b, b.small), omega (arith, e ∙ below_cut k b, b.small))

rest : (n : ℕ) → n ≤ 1022 → 1022 - n + n ≡ 1022
rest n h = omega arith

pub truncating_f64_to_u64-n-requires : goal.truncating_f64_to_u64-n-requires
truncating_f64_to_u64-n-requires c = let both_of = below_asked c.args.k c.requires in record { lower_bound = both_of.0; upper_bound = both_of.1 }

pub overflow_sub-result : goal.overflow_sub-result
overflow_sub-result c = omega (arith, field c.args.k c.requires c.truncating_f64_to_u64-n.ensures)

pub float_from_bits-result : goal.float_from_bits-result
float_from_bits-result c =
    subst (λ (x : ℕ). T (not (nan_bits binary64 (x * 4503599627370496)))) (sym (field c.args.k c.requires c.truncating_f64_to_u64-n.ensures).1)
    (power_no_nan c.requires.n (1022 - c.requires.n) (rest c.requires.n c.requires.small))

pub returns : goal.returns
returns c =
    ap (λ (x : ℕ). of_bits binary64 (x * 4503599627370496)) (field c.args.k c.requires c.truncating_f64_to_u64-n.ensures).1
    ∙ power_bits c.requires.n (1022 - c.requires.n) (rest c.requires.n c.requires.small)
    ∙ ap (λ (z : ℤ). fin false 1 z) (sym c.requires.floor)
