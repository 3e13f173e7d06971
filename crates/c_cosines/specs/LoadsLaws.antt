-- Numbers read of bytes one at a time are those of the list. Assumes nothing.
use Rattle.std.specs.Prelude.{◌≡◌, Bool, true, false, cond, List, ℕ, ◌-◌, ◌*◌, ◌/◌, ◌%◌, ◌≤◌, ◌<◌, eqb, length, get_or, Float, Err, Ok}
use Rattle.std.proofs.Common.{sym, arith}
use Rattle.std.proofs.Math.ListN.{get_or-eq_default}
use Rattle.laws.specs.Filled.{get_d_tabulate, length_tabulate}
use Rattle.laws.specs.Results.{refused_never}
use Rattle.wire.specs.Bytes.{float_at}
use Rattle.verdict.specs.declared.Refusal.TheVariants.{Length}
use Rattle.win_shapes.specs.declared.cosines.Cosines.{Cosines}
use Rattle.win_cosines.specs.Load.{cosines_of, load_of}
use Rattle.win_cosines.proofs.LoadLaws.{these}
use Rattle.c_cosines.specs.Loads.{numbers_in, load_bytes}

module _ (s : List ℕ) (i : ℕ) (z : Float) where
  pub given : i < length s / 8 → float_at s (8 * i) ≡ get_or (numbers_in s) i z
  given h = sym (get_d_tabulate (length s / 8) (λ (k : ℕ). float_at s (8 * k)) i z h)

  pub not_given : length s / 8 ≤ i → z ≡ get_or (numbers_in s) i z
  not_given h = sym (get_or-eq_default (numbers_in s) z (omega (arith, length_tabulate (length s / 8) (λ (k : ℕ). float_at s (8 * k)))))

pub how_many : (s : List ℕ) → length (numbers_in s) ≡ length s / 8
how_many s = length_tabulate (length s / 8) (λ (k : ℕ). float_at s (8 * k))

-- a window that is loaded has the numbers of the bytes
pub bytes_these : (s : List ℕ) (c : Cosines) → load_bytes s ≡ Ok c → c ≡ cosines_of (numbers_in s)
unfolding load_bytes
bytes_these s c e = go (eqb (length s % 8) 0) e
  where
    go : (b : Bool) → cond b (load_of (numbers_in s)) (Err (Length (length s - length s % 8) (length s))) ≡ Ok c → c ≡ cosines_of (numbers_in s)
    go true e = these (numbers_in s) c e
    go false e = absurd (refused_never e)
