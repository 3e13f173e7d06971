-- What holds of every low-pass holds of a turned one; so it has as many taps as the record. Assumes nothing.
use Rattle.std.specs.Prelude.{Float, Err, Result}
use Rattle.laws.specs.Binary64.{whole}
use Rattle.verdict.specs.Counted.{Counted}
use Rattle.verdict.specs.declared.Refusal.TheVariants.{Plain}
use Rattle.fir_sinc.specs.declared.window.Window.{Window}
use Rattle.fir_sinc.specs.declared.window.Window.TheVariants.{Hann, Hamming, Blackman, Kaiser, Cosines}
use Rattle.fir_lowpass.specs.Lowpass.{lowpass_with, lowpass_of, outcome_of}
use Rattle.fir_lowpass.proofs.LowpassLaws.{with_count, lowpass_count}
use Rattle.fir_lowpass.specs.declared.lowpass.Lowpass.{Lowpass}
use Rattle.fir_retune.specs.Retune.{new_cutoff_of, where_kaiser, new_beta_of}
use Rattle.verdict.specs.declared.Refusal.{Refusal}
use Rattle.verdict.specs.declared.Reason.TheVariants as Reason

pub cutoff_has : (P : Result Lowpass Refusal → Type 0) (l : Lowpass) (cutoff rate : Float) → P (lowpass_with cutoff rate l.window l.i0 l.n) → P (new_cutoff_of l cutoff rate)
unfolding new_cutoff_of
cutoff_has P l cutoff rate p = p

pub beta_has : (P : Result Lowpass Refusal → Type 0) → P (Err (Plain Reason.Code)) → (l : Lowpass) (beta : Float) → P (lowpass_of l.fc (whole 1) (Kaiser beta) l.n) → P (new_beta_of l beta)
unfolding new_beta_of
beta_has P coded l beta p = go l.window _ p
  where
    go : (w : Window) (d : Result Lowpass Refusal) → P d → P (where_kaiser w d)
    go Hann d p = coded
    go Hamming d p = coded
    go Blackman d p = coded
    go (Kaiser b) d p = p
    go (Cosines c) d p = coded

pub cutoff_count : (l : Lowpass) (cutoff rate : Float) → Counted l.n (outcome_of (new_cutoff_of l cutoff rate))
cutoff_count l cutoff rate = cutoff_has (λ (d : Result Lowpass Refusal). Counted l.n (outcome_of d)) l cutoff rate (with_count cutoff rate l.window l.i0 l.n)

pub beta_count : (l : Lowpass) (beta : Float) → Counted l.n (outcome_of (new_beta_of l beta))
beta_count l beta = beta_has (λ (d : Result Lowpass Refusal). Counted l.n (outcome_of d)) tt l beta (lowpass_count l.fc (whole 1) (Kaiser beta) l.n)
