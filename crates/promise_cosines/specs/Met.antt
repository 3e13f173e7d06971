-- A ticket with a loaded window that meets every premise of the totals, so that what they promise of such windows is not
-- empty. One evaluation. Assumes nothing.
use Rattle.std.specs.Prelude.{List, [], ◌∷◌, ◌≡◌, ℕ, T, length, Option, Some}
use Rattle.std.specs.Float.Ieee.{of_bits, of_int, round, add, sub, mul, div, lt, le, ne}
use Rattle.laws.specs.Binary64.{whole, fraction, fact, over}
use Rattle.laws.specs.Filled.{tabulate}
use Rattle.laws.specs.Sums.{sum_to}
use Rattle.laws.specs.Floor.{floor_z}
use Rattle.fmt_q15.specs.Q15.{takes, moved}
use Rattle.fir_sinc.specs.Windows.{window_at, norm_of}
use Rattle.math_trig.specs.Trig.{sin_of, cos_of}
use Rattle.math_numbers.specs.Numbers.{positive}
use Rattle.math_round.specs.Whole.{floor_of, abs_of, as_float}
use Rattle.verdict.specs.Outcome.{Outcome}
use Rattle.c_lowpass.specs.Lowpass.{lowpass_bytes}
use Rattle.promise_totals.proofs.Sound.{lowpass_bytes_sound}
use Rattle.promise_totals.proofs.WrittenLaws.{lowpass_written}
use Rattle.fir_lowpass.specs.Lowpass as Lowpass
use Rattle.win_cosines.specs.Load.{cosines_of}
use Rattle.fir_sinc.specs.declared.window.Window.TheVariants.{Cosines}
use Rattle.promise_totals.proofs.MetTickets.{all, met, Stands, itself, stands, of_size}
use Rattle.fir_sinc.specs.declared.window.Window.{Window}

-- Blackman and Harris's window, loaded: in 40 bytes 5 taps
abbrev pub harris_loaded : Option Window
harris_loaded = Some (Cosines (cosines_of (fraction 35875 100000 ∷ fraction 48829 100000 ∷ fraction 14128 100000 ∷ fraction 1168 100000 ∷ [])))

abbrev pub cosines_ticket : ℕ → Outcome
cosines_ticket len = lowpass_bytes (fraction 1 4) (whole 1) harris_loaded len

pub cosines_met : T (met (cosines_ticket 40))
unfolding met all tabulate takes moved Lowpass.lowpass_of Lowpass.tap_of window_at norm_of sin_of cos_of sum_to fact over positive floor_of abs_of as_float floor_z of_bits of_int round add sub mul div lt le ne
cosines_met = tt

pub cosines_stands : (before : List ℕ) → length before ≡ 40 → Stands (cosines_ticket (length before)) before
cosines_stands before e =
    stands _ before (lowpass_bytes_sound (fraction 1 4) (whole 1) harris_loaded (length before)) (of_size cosines_ticket 40 before e cosines_met)
    (lowpass_written (fraction 1 4) (whole 1) harris_loaded before _ _ itself)
