-- `iir_butterworth::takes_response` meets its contract, a response at a time. Assumes nothing.
use Rattle.iir_butterworth.specs.Butterworth.{response_taken}
use Rattle.iir_butterworth.proofs.takes_response.Goals as goal

pub returns-in-Lowpass : goal.returns-in-Lowpass
unfolding response_taken
returns-in-Lowpass c = rw c.in-Lowpass.is

pub returns-in-Highpass : goal.returns-in-Highpass
unfolding response_taken
returns-in-Highpass c = rw c.in-Highpass.is

pub returns-in-Bandpass : goal.returns-in-Bandpass
unfolding response_taken
returns-in-Bandpass c = rw c.in-Bandpass.is

pub returns-in-Notch : goal.returns-in-Notch
unfolding response_taken
returns-in-Notch c = rw c.in-Notch.is
