-- `iir_biquad::biquad::section` meets its contract, a response at a time. Assumes nothing.
use lib.Ieee.{of_bits, of_int, neg}
use Rattle.iir_biquad.specs.Biquad.{section_of}
use Rattle.iir_biquad.proofs.biquad.section.Goals as goal

pub returns-in-Lowpass : goal.returns-in-Lowpass
unfolding section_of of_int of_bits neg
returns-in-Lowpass c = rw c.in-Lowpass.is

pub returns-in-Highpass : goal.returns-in-Highpass
unfolding section_of of_int of_bits neg
returns-in-Highpass c = rw c.in-Highpass.is

pub returns-in-Bandpass : goal.returns-in-Bandpass
unfolding section_of of_int of_bits neg
returns-in-Bandpass c = rw c.in-Bandpass.is

pub returns-in-Notch : goal.returns-in-Notch
unfolding section_of of_int of_bits neg
returns-in-Notch c = rw c.in-Notch.is
