-- `ticket_codes::code_of` meets its contract, a window at a time. Assumes nothing.
use mathlib.Core.Path.{sym}
use Rattle.ticket_codes.specs.Codes.{code_of}
use Rattle.ticket_codes.proofs.code_of.Goals as goal

pub returns-in-Hann : goal.returns-in-Hann
unfolding code_of
returns-in-Hann c = sym (rw c.in-Hann.is)

pub returns-in-Hamming : goal.returns-in-Hamming
unfolding code_of
returns-in-Hamming c = sym (rw c.in-Hamming.is)

pub returns-in-Blackman : goal.returns-in-Blackman
unfolding code_of
returns-in-Blackman c = sym (rw c.in-Blackman.is)

pub returns-in-Kaiser : goal.returns-in-Kaiser
unfolding code_of
returns-in-Kaiser c = sym (rw c.in-Kaiser.is)

pub returns-in-Cosines : goal.returns-in-Cosines
unfolding code_of
returns-in-Cosines c = sym (rw c.in-Cosines.is)
