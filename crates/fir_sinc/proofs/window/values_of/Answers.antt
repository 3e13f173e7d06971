-- `fir_sinc::window::values_of` meets its contract, a window at a time. Kaiser's are worked out together, the others
-- each by itself. Assumes nothing.
use mathlib.Core.Path.{sym, ◌∙◌}
use Rattle.fir_sinc.specs.StepLaws.{value_of}
use Rattle.fir_sinc.proofs.window.values_of.Goals as goal

pub returns-in-Hann : goal.returns-in-Hann
unfolding value_of
returns-in-Hann c =
    let k = c.in-Hann.is in
    record { first = c.hann.ensures ∙ sym (rw k); second = c.hann-in-Hann.ensures ∙ sym (rw k) }

pub returns-in-Hamming : goal.returns-in-Hamming
unfolding value_of
returns-in-Hamming c =
    let k = c.in-Hamming.is in
    record { first = c.hamming.ensures ∙ sym (rw k); second = c.hamming-in-Hamming.ensures ∙ sym (rw k) }

pub returns-in-Blackman : goal.returns-in-Blackman
unfolding value_of
returns-in-Blackman c =
    let k = c.in-Blackman.is in
    record { first = c.blackman.ensures ∙ sym (rw k); second = c.blackman-in-Blackman.ensures ∙ sym (rw k) }

pub returns-in-Kaiser : goal.returns-in-Kaiser
unfolding value_of
returns-in-Kaiser c =
    let k = c.in-Kaiser.is in
    record { first = c.values.ensures.first ∙ sym (rw k); second = c.values.ensures.second ∙ sym (rw k) }

pub returns-in-Cosines : goal.returns-in-Cosines
unfolding value_of
returns-in-Cosines c =
    let k = c.in-Cosines.is in
    record { first = c.sum_of.ensures ∙ sym (rw k); second = c.sum_of-in-Cosines.ensures ∙ sym (rw k) }
