-- `iir_butterworth::section::Section::quality` meets its contract. Assumes nothing.
use lib.Ieee.{of_bits, of_int}
use Rattle.iir_butterworth.specs.Butterworth.{quality_of}
use Rattle.iir_butterworth.proofs.section.Section.quality.Goals as goal

pub returns : goal.returns
unfolding quality_of of_int of_bits
returns c = rw (c.cos.ensures, c.angle.ensures)
