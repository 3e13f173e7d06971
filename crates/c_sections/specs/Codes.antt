-- The responses by their codes. Definitions only.
use Rattle.std.specs.Prelude.{ℕ, zero, suc, None, Option, Some}
use Rattle.iir_biquad.specs.declared.biquad.Response.TheVariants.{Lowpass, Highpass, Bandpass, Notch}
use Rattle.iir_biquad.specs.declared.biquad.Response.{Response}

unfoldable pub response_of : ℕ → Option Response
response_of zero = Some Lowpass
response_of (suc zero) = Some Highpass
response_of (suc (suc zero)) = Some Bandpass
response_of (suc (suc (suc zero))) = Some Notch
response_of (suc (suc (suc (suc code)))) = None
