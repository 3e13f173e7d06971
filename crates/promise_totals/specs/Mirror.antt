-- The bytes of an accepted half-band: tap i and its mirror image are the same eight bytes, and every tap at an even
-- distance from the middle but 0 is zero, whether the taps are finite or not. Definitions only.
use Rattle.std.specs.Prelude.{◌≡◌, List, ℕ, ◌-◌, ◌*◌, ◌%◌, ◌<◌, take, drop, Float}
use Rattle.wire.specs.Bytes.{float_at}
use Rattle.verdict.specs.declared.Report.{Report}
use Rattle.verdict.specs.Outcome.{Outcome}
use Rattle.fir_halfband.specs.Halfband.{distance}
use Rattle.fir_halfband.specs.Mirror.{IsZero}

-- ---- the taps, wherever they are put
pub record Symmetric (n : ℕ) (tap : ℕ → Float) : Type 0 where
  pub mirrored : (i : ℕ) → i < n → tap i ≡ tap (n - 1 - i)
  pub zeros : (i : ℕ) → i < n → distance n i % 2 ≡ 0 → (distance n i ≡ 0 → ⊥) → IsZero (tap i)

abbrev pub WhereMade : Outcome → Type 0
WhereMade (Outcome.Designed n divisor tap) = Symmetric n tap
WhereMade (Outcome.Refused why) = Unit {0}

-- ---- the statements, of the export's report r and of its buffer afterwards
-- "accepted": the report's number is 0. n taps: n is the report's count, tap i the eight bytes from 8 i on
-- bit for bit the same as its mirror image
abbrev pub Mirrored : Report → List ℕ → Type 0
Mirrored r after = r.number ≡ 0 → (i : ℕ) → i < r.count → take 8 (drop (8 * i) after) ≡ take 8 (drop (8 * (r.count - 1 - i)) after)

-- zero, "of either sign", where its "distance" is even and not 0: the size of i − (n − 1)/2, index (n − 1)/2 being "the
-- middle"
abbrev pub Vanishes : Report → List ℕ → Type 0
Vanishes r after = r.number ≡ 0 → (i : ℕ) → i < r.count → distance r.count i % 2 ≡ 0 → (distance r.count i ≡ 0 → ⊥) → IsZero (float_at after (8 * i))
