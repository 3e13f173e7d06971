-- `iir_butterworth::section::first_order` meets its contract, a response at a time. Assumes nothing.
use lib.Ieee.{of_bits, of_int}
use Rattle.iir_butterworth.specs.Butterworth.{first_order_of}
use Rattle.iir_butterworth.proofs.section.first_order.Goals as goal

pub returns-in-Lowpass : goal.returns-in-Lowpass
unfolding first_order_of of_int of_bits
returns-in-Lowpass c = rw c.in-Lowpass.is

pub returns-in-Highpass : goal.returns-in-Highpass
unfolding first_order_of of_int of_bits
returns-in-Highpass c = rw c.in-Highpass.is

pub returns-in-Bandpass : goal.returns-in-Bandpass
unfolding first_order_of of_int of_bits
returns-in-Bandpass c = rw c.in-Bandpass.is

pub returns-in-Notch : goal.returns-in-Notch
unfolding first_order_of of_int of_bits
returns-in-Notch c = rw c.in-Notch.is
