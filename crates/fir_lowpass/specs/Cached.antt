-- What stays from the sum of the raw taps to the division: the first raw taps, in a list. Definitions only.
use Rattle.std.specs.Prelude.{List, Float, Result}
use Rattle.fir_sinc.specs.Taps.{raw_at}
use Rattle.fir_cache.specs.Cached.{CachesOf}
use Rattle.fir_design.specs.Designs.{Prepares}
use Rattle.fir_lowpass.specs.declared.lowpass.Lowpass.{Lowpass}
use Rattle.verdict.specs.declared.Refusal.{Refusal}

-- a list keeps a design's first raw taps
abbrev pub Caches : Lowpass → List Float → Type 0
Caches l rs = CachesOf (raw_at l.fc l.window l.i0 l.n) l.n rs

-- an answer that is the design d, and, where there is one, a list that keeps its first raw taps
abbrev pub PreparesLowpass : Result Lowpass Refusal → Result Lowpass Refusal → List Float → Type 0
PreparesLowpass d r rs = Prepares Caches d r rs
