-- `fir_channelizer::takes_stopband` meets its contract. Assumes nothing.
use Rattle.std.proofs.Common.{sym, ◌∙◌, true≢false}
use lib.Ieee.{of_bits, round}
use Rattle.fir_channelizer.specs.Channelizer.{stop_taken}
use Rattle.fir_channelizer.proofs.takes_stopband.Goals as goal
use Rattle.fir_channelizer.proofs.takes_stopband.Goals.{else-is_finite, then-is_finite}

pub returns-then-passband-stopband : goal.returns-then-passband-stopband
unfolding stop_taken of_bits round
returns-then-passband-stopband c = elim c.if-is_finite.branch [ then-is_finite w ↦ sym (rw (sym c.is_finite.ensures ∙ w.if-is_finite.true, sym w.value-is ∙ c.if-passband-stopband.true)) | else-is_finite w ↦ absurd (true≢false (sym c.if-passband-stopband.true ∙ w.value-is ∙ w.if-is_finite.false)) ]

pub returns-else-passband-stopband : goal.returns-else-passband-stopband
unfolding stop_taken
returns-else-passband-stopband c = c.if-passband-stopband.false ∙ elim c.if-is_finite.branch [ then-is_finite w ↦ sym (rw (sym c.is_finite.ensures ∙ w.if-is_finite.true, sym w.value-is ∙ c.if-passband-stopband.false)) | else-is_finite w ↦ sym (rw (sym c.is_finite.ensures ∙ w.if-is_finite.false)) ]
