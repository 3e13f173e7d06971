-- `fir_retune::prepare_beta` meets its contract, a window at a time. Assumes nothing.
use Rattle.std.specs.Prelude.{Result}
use mathlib.Core.Path.{sym, ap}
use lib.Ieee.{of_bits, of_int}
use Rattle.laws.specs.Binary64.{whole}
use Rattle.fir_sinc.specs.declared.window.Window.{Window}
use Rattle.fir_sinc.specs.declared.window.Window.TheVariants.{Kaiser}
use Rattle.fir_lowpass.specs.Lowpass.{lowpass_of}
use Rattle.fir_design.specs.DesignsLaws.{prepares_as, prepares_refusal}
use Rattle.fir_retune.specs.Retune.{where_kaiser, new_beta_of}
use Rattle.fir_retune.proofs.prepare_beta.Goals as goal
use Rattle.verdict.specs.declared.Refusal.{Refusal}
use Rattle.fir_lowpass.specs.declared.lowpass.Lowpass.{Lowpass}

pub returns-in-Kaiser : goal.returns-in-Kaiser
unfolding new_beta_of of_int of_bits
returns-in-Kaiser c =
    let by-window : Window → Result Lowpass Refusal = λ w. let a = c.args in where_kaiser w (lowpass_of a.lp.fc (whole 1) (Kaiser a.beta) a.lp.n) in
    prepares_as (sym (ap by-window c.in-Kaiser.is)) c.prepare.ensures

pub returns-in-Hann : goal.returns-in-Hann
unfolding new_beta_of
returns-in-Hann c =
    let by-window : Window → Result Lowpass Refusal = λ w. let a = c.args in where_kaiser w (lowpass_of a.lp.fc (whole 1) (Kaiser a.beta) a.lp.n) in
    prepares_refusal _ _ _ (ap by-window c.in-Hann.is)

pub returns-in-Hamming : goal.returns-in-Hamming
unfolding new_beta_of
returns-in-Hamming c =
    let by-window : Window → Result Lowpass Refusal = λ w. let a = c.args in where_kaiser w (lowpass_of a.lp.fc (whole 1) (Kaiser a.beta) a.lp.n) in
    prepares_refusal _ _ _ (ap by-window c.in-Hamming.is)

pub returns-in-Blackman : goal.returns-in-Blackman
unfolding new_beta_of
returns-in-Blackman c =
    let by-window : Window → Result Lowpass Refusal = λ w. let a = c.args in where_kaiser w (lowpass_of a.lp.fc (whole 1) (Kaiser a.beta) a.lp.n) in
    prepares_refusal _ _ _ (ap by-window c.in-Blackman.is)

pub returns-in-Cosines : goal.returns-in-Cosines
unfolding new_beta_of
returns-in-Cosines c =
    let by-window : Window → Result Lowpass Refusal = λ w. let a = c.args in where_kaiser w (lowpass_of a.lp.fc (whole 1) (Kaiser a.beta) a.lp.n) in
    prepares_refusal _ _ _ (ap by-window c.in-Cosines.is)
