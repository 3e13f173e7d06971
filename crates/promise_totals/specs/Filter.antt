-- The chain to the filter as one statement: the taps that a design export writes, converted by an accepted `pel_to_q15`
-- and read back from the bytes as the signed 16-bit numbers that a filter runs on, have an exact sum within the Q15
-- total. Definitions only.
use Rattle.std.specs.Prelude.{◌≡◌, List, [], ◌∷◌, ℕ, ◌+◌, ◌*◌, ◌^◌, ◌≤◌, T, ℤ, pos, nat_abs, ◌+ℤ◌, ◌-ℤ◌, length, Float}
use Rattle.std.specs.Float.Ieee.Scale.{finite}
use Rattle.laws.specs.SumError.{Each}
use Rattle.wire.specs.Bytes.{codes_in}
use Rattle.verdict.specs.declared.Report.{Report}
use Rattle.promise_totals.specs.Bounds.{sizes, unsaturated}
use Rattle.promise_totals.specs.Written.{Accepted, divisor_in, taps_in}

-- ---- the statement
-- the exact sum of whole numbers
unfoldable pub sum_of_all : List ℤ → ℤ
sum_of_all [] = pos 0
sum_of_all (q ∷ qs) = q +ℤ sum_of_all qs

-- qs are the whole numbers that were read for the taps ts; all else is as in the Q15 total
--   2^37 · 2^1074 · |Σq − 32768| ≤ n · (2^36 · 2^1074 + 2^1074 + Σ|T|)
--   that is "differs from 32768 by at most n (1/2 + (1 + A)/2^37)"
abbrev pub FilterTotal : List Float → List ℤ → Type 0
FilterTotal ts qs = 2 ^ 37 * 2 ^ 1074 * nat_abs (sum_of_all qs -ℤ pos 32768) ≤ length ts * (2 ^ 36 * 2 ^ 1074 + 2 ^ 1074 + sizes ts)

-- of a design's report r and its bytes, which were given to a conversion, and of that one's report c and bytes: where
-- both were accepted
pub record Filters (r : Report) (taps : List ℕ) (c : Report) (codes : List ℕ) : Type 0 where
  -- the bytes are n numbers, two bytes each, and nothing else
  pub whole : Accepted r → Accepted c → length codes ≡ 2 * r.count
  -- and their sum is within the Q15 total, where the last divisor is finite and no tap "saturates". That "Q15 takes"
  -- every tap and that every tap is finite needn't be asked: the conversion was accepted
  pub total : Accepted r → Accepted c → T (finite (divisor_in r)) → Each unsaturated (taps_in r taps) → FilterTotal (taps_in r taps) (codes_in r.count codes)
