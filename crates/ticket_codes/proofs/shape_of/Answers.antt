-- `ticket_codes::shape_of` meets its contract, a window at a time. Assumes nothing.
use mathlib.Core.Path.{sym}
use lib.Ieee.{of_bits, of_int}
use Rattle.ticket_codes.specs.Codes.{shape_of}
use Rattle.ticket_codes.proofs.shape_of.Goals as goal

pub returns-in-Hann : goal.returns-in-Hann
unfolding shape_of of_int of_bits
returns-in-Hann c = sym (rw c.in-Hann.is)

pub returns-in-Hamming : goal.returns-in-Hamming
unfolding shape_of of_int of_bits
returns-in-Hamming c = sym (rw c.in-Hamming.is)

pub returns-in-Blackman : goal.returns-in-Blackman
unfolding shape_of of_int of_bits
returns-in-Blackman c = sym (rw c.in-Blackman.is)

pub returns-in-Kaiser : goal.returns-in-Kaiser
unfolding shape_of of_int of_bits
returns-in-Kaiser c = sym (rw c.in-Kaiser.is)

pub returns-in-Cosines : goal.returns-in-Cosines
unfolding shape_of of_int of_bits
returns-in-Cosines c = sym (rw c.in-Cosines.is)
