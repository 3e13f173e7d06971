-- A low-pass whose knob is turned: a new cutoff, given with its rate, or a new beta. Definitions only.
--   what isn't new stays as the record has it; a turn that is refused leaves the record
use Rattle.std.specs.Prelude.{Float, Err, Ok, Result}
use Rattle.laws.specs.Binary64.{whole}
use Rattle.verdict.specs.declared.Refusal.TheVariants.{Plain}
use Rattle.fir_sinc.specs.declared.window.Window.{Window}
use Rattle.fir_sinc.specs.declared.window.Window.TheVariants.{Hann, Hamming, Blackman, Kaiser, Cosines}
use Rattle.fir_lowpass.specs.Lowpass.{lowpass_with, lowpass_of}
use Rattle.fir_lowpass.specs.declared.lowpass.Lowpass.{Lowpass}
use Rattle.verdict.specs.declared.Refusal.{Refusal}
use Rattle.verdict.specs.declared.Reason.TheVariants as Reason

-- the window is divided by the value that the record keeps
unfoldable pub new_cutoff_of : Lowpass → Float → Float → Result Lowpass Refusal
new_cutoff_of l cutoff rate = lowpass_with cutoff rate l.window l.i0 l.n

-- a new beta is for Kaiser's window alone: 7 before anything else
abbrev pub where_kaiser : Window → Result Lowpass Refusal → Result Lowpass Refusal
where_kaiser Hann d = Err (Plain Reason.Code)
where_kaiser Hamming d = Err (Plain Reason.Code)
where_kaiser Blackman d = Err (Plain Reason.Code)
where_kaiser (Kaiser beta) d = d
where_kaiser (Cosines c) d = Err (Plain Reason.Code)

-- the record keeps its cutoff as a fraction of the rate, and so does this: at the rate 1
unfoldable pub new_beta_of : Lowpass → Float → Result Lowpass Refusal
new_beta_of l beta = where_kaiser l.window (lowpass_of l.fc (whole 1) (Kaiser beta) l.n)

-- ---- the record afterwards, and whether it was turned
abbrev pub kept_of : Lowpass → Result Lowpass Refusal → Lowpass
kept_of l (Ok new) = new
kept_of l (Err why) = l

abbrev pub verdict_of : Result Lowpass Refusal → Result (Unit {0}) Refusal
verdict_of (Ok new) = Ok tt
verdict_of (Err why) = Err why
