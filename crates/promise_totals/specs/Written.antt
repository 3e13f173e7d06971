-- Demand 3 of the taps that the exports write, read back from the bytes, for every ticket and every length of the
-- buffer. Definitions only.
use Rattle.std.specs.Prelude.{◌≡◌, List, ℕ, T, Float}
use Rattle.std.specs.Float.Ieee.Scale.{finite}
use Rattle.laws.specs.SumError.{Each}
use Rattle.wire.specs.Bytes.{floats_in}
use Rattle.verdict.specs.declared.Report.{Report}
use Rattle.fmt_q15.specs.Q15.{takes}
use Rattle.promise_totals.specs.Bounds.{TapTotal, Q15Total, unsaturated}

-- ---- the statement, of an export's report r and of its buffer afterwards
-- "accepted": the report's number is 0, none of the refusals'
abbrev pub Accepted : Report → Type 0
Accepted r = r.number ≡ 0

-- "the last divisor": the report's value
abbrev pub divisor_in : Report → Float
divisor_in r = r.value

-- "its taps, index 0 to n − 1": the f64s in the bytes, n being the report's count
abbrev pub taps_in : Report → List ℕ → List Float
taps_in r after = floats_in r.count after

pub record Totals (r : Report) (after : List ℕ) : Type 0 where
  -- "the exact sum of the taps differs from 1 by at most n (1 + A)/2^52", where the ticket is accepted and the last
  -- divisor and all taps are finite
  pub taps : Accepted r → T (finite (divisor_in r)) → Each finite (taps_in r after) → TapTotal (taps_in r after)
  -- "the Q15 sum differs from 32768 by at most n (1/2 + (1 + A)/2^37)", where moreover "Q15 takes" every tap (the
  -- conversion doesn't answer 11) and no tap "saturates"
  pub codes : Accepted r → T (finite (divisor_in r)) → Each finite (taps_in r after) → Each takes (taps_in r after) → Each unsaturated (taps_in r after) → Q15Total (taps_in r after)
