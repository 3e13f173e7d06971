-- What the definitions say of each kind of ticket, as a verdict: done where there is a design, a length, a number or
-- figures, else refused. Definitions only.
use Rattle.std.specs.Prelude.{ℕ, ◌-◌, ◌%◌, cond, List, eqb, length, Err, Ok, Result, ℤ}
use Rattle.verdict.specs.declared.Refusal.TheVariants as Refusal
use Rattle.math_bessel.specs.declared.Series.{Series}
use Rattle.fir_length.specs.declared.order.Order.{Order}
use Rattle.fir_delay.specs.declared.HalfSamples.{HalfSamples}
use Rattle.verdict.specs.declared.Refusal.{Refusal}
use Rattle.win_shapes.specs.declared.cosines.Cosines.{Cosines}
use Rattle.verdict.specs.declared.Reason.TheVariants as Reason

-- (of a design: `answered` in verdict/specs/Outcome)
abbrev pub of_length : Result ℕ Refusal → Result (Unit {0}) Refusal
of_length (Ok n) = Ok tt
of_length (Err why) = Err why

abbrev pub of_order : Result Order Refusal → Result (Unit {0}) Refusal
of_order (Ok o) = Ok tt
of_order (Err why) = Err why

abbrev pub of_delay : Result HalfSamples Refusal → Result (Unit {0}) Refusal
of_delay (Ok h) = Ok tt
of_delay (Err why) = Err why

abbrev pub of_coded : Result ℤ Refusal → Result (Unit {0}) Refusal
of_coded (Ok q) = Ok tt
of_coded (Err why) = Err why

abbrev pub of_loading : Result Cosines Refusal → Result (Unit {0}) Refusal
of_loading (Ok c) = Ok tt
of_loading (Err why) = Err why

abbrev pub of_series : Series → Result (Unit {0}) Refusal
of_series s = cond s.settled (Ok tt) (Err (Refusal.Plain Reason.Unsettled))

-- a window's gain, of a source of bytes: whole f32s have one
abbrev pub of_samples : List ℕ → Result (Unit {0}) Refusal
of_samples s = cond (eqb (length s % 4) 0) (Ok tt) (Err (Refusal.Length (length s - length s % 4) (length s)))
