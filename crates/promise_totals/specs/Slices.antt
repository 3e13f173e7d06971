-- Demand 3 of the taps that a design leaves in a slice of f64s, and the mirror and the zeros of a half-band there, for
-- every ticket and every length of the slice. Definitions only.
use Rattle.std.specs.Prelude.{◌≡◌, List, ℕ, ◌-◌, ◌%◌, ◌<◌, T, length, get_or, Float, Ok, Result}
use Rattle.std.specs.Float.{nan}
use Rattle.std.specs.Float.Ieee.Scale.{finite}
use Rattle.laws.specs.SumError.{Each}
use Rattle.verdict.specs.Outcome.{Outcome}
use Rattle.fmt_q15.specs.Q15.{takes}
use Rattle.fir_halfband.specs.Halfband.{distance}
use Rattle.fir_halfband.specs.Mirror.{IsZero}
use Rattle.promise_totals.specs.Bounds.{TapTotal, Q15Total, unsaturated}
use Rattle.verdict.specs.declared.Refusal.{Refusal}

-- ---- the statements, of a function's answer r and of its slice afterwards
-- "accepted": the answer is `Done`
abbrev pub IsDone : Result (Unit {0}) Refusal → Type 0
IsDone r = r ≡ Ok tt

-- "the last divisor", which an answer of `Done` doesn't tell: it is the one of the outcome that the function `ensures`,
-- and the record that `Lowpass::new`, `HalfbandDesign::new` or `Gaussian::new` makes of the same numbers has it
abbrev pub last_divisor : Outcome → Float
last_divisor (Outcome.Designed n divisor tap) = divisor
last_divisor (Outcome.Refused why) = nan

-- "its taps, index 0 to n − 1", are the slice's elements
pub record SliceTotals (o : Outcome) (r : Result (Unit {0}) Refusal) (after : List Float) : Type 0 where
  -- "the exact sum of the taps differs from 1 by at most n (1 + A)/2^52", where the ticket is accepted and the last
  -- divisor and all taps are finite
  pub taps : IsDone r → T (finite (last_divisor o)) → Each finite after → TapTotal after
  -- "the Q15 sum differs from 32768 by at most n (1/2 + (1 + A)/2^37)", where moreover "Q15 takes" every tap, which is
  -- finite then, and no tap "saturates"
  pub codes : IsDone r → T (finite (last_divisor o)) → Each takes after → Each unsaturated after → Q15Total after

-- of a half-band
pub record SliceMirrors (r : Result (Unit {0}) Refusal) (after : List Float) : Type 0 where
  -- each tap is bit for bit the same as its mirror image: equal floats have the same bits, but for a NaN's payload
  pub mirrored : IsDone r → (i : ℕ) → i < length after → get_or after i nan ≡ get_or after (length after - 1 - i) nan
  -- zero, "of either sign", where its "distance" is even and not 0: the size of i − (n − 1)/2, index (n − 1)/2 being
  -- "the middle"
  pub zeros : IsDone r → (i : ℕ) → i < length after → distance (length after) i % 2 ≡ 0 → (distance (length after) i ≡ 0 → ⊥) → IsZero (get_or after i nan)
