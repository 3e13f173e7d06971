-- What comes of one value in each format, and what that tells of the value. Assumes nothing.
use Rattle.std.specs.Prelude.{◌≡◌, Bool, ℕ, ◌<◌, ℤ, Float, Err, Ok}
use Rattle.std.proofs.Math.Path.{refl}
use Rattle.std.proofs.Math.Bool.{true, false, cond}
use Rattle.std.proofs.Common.{lit≤}
use Rattle.wire.specs.Bytes.{twos_of}
use Rattle.verdict.specs.declared.Refusal.{Refusal}
use Rattle.fmt_q15.specs.Q15 as Q15
use Rattle.fmt_q14.specs.Q14 as Q14
use Rattle.c_formats.specs.Format.{Format}
use Rattle.c_formats.specs.Formats.{width_of, takes_of, pattern_of, outside_of, encoded_of, coded_of}

-- an element has a byte at least
pub wide : (f : Format) → 0 < width_of f
unfolding width_of
wide Format.Q15 = lit≤ tt
wide Format.Q14 = lit≤ tt
wide Format.Single = lit≤ tt

-- ---- in each format
module _ (i : ℕ) (x : Float) where
  same : (b : Bool) (q : ℤ) (why : Refusal) → coded_of (cond b (Ok q) (Err why)) ≡ cond b (Ok (twos_of q)) (Err why)
  same true q why = refl
  same false q why = refl

  pub encoded_q15 : coded_of (Q15.q15_tap_of i x) ≡ encoded_of Format.Q15 i x
  unfolding Q15.q15_tap_of encoded_of takes_of pattern_of outside_of
  encoded_q15 = same (Q15.takes x) (Q15.q15_of x) (Q15.outside i x)

  pub encoded_q14 : coded_of (Q14.q14_tap_of i x) ≡ encoded_of Format.Q14 i x
  unfolding Q14.q14_tap_of encoded_of takes_of pattern_of outside_of
  encoded_q14 = same (Q14.takes x) (Q14.q14_of x) (Q14.outside i x)

  pub encoded_single : Ok (pattern_of Format.Single x) ≡ encoded_of Format.Single i x
  unfolding encoded_of takes_of
  encoded_single = refl

-- ---- what it tells
module _ (f : Format) (i : ℕ) (x : Float) where
  pub pattern_tells : (p : ℕ) → encoded_of f i x ≡ Ok p → (takes_of f x ≡ true) × (pattern_of f x ≡ p)
  unfolding encoded_of
  pattern_tells p e = go (takes_of f x) e
    where
      go : (b : Bool) → cond b (Ok (pattern_of f x)) (Err (outside_of f i x)) ≡ Ok p → (b ≡ true) × (pattern_of f x ≡ p)
      go true e = (refl, cc)
      go false e = (cc, cc)

  pub refusal_tells : (why : Refusal) → encoded_of f i x ≡ Err why → (takes_of f x ≡ false) × (outside_of f i x ≡ why)
  unfolding encoded_of
  refusal_tells why e = go (takes_of f x) e
    where
      go : (b : Bool) → cond b (Ok (pattern_of f x)) (Err (outside_of f i x)) ≡ Err why → (b ≡ false) × (outside_of f i x ≡ why)
      go true e = (cc, cc)
      go false e = (refl, cc)
