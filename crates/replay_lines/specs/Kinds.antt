-- The kinds of lines by their numbers. Definitions only.
use Rattle.std.specs.Prelude.{◌≡◌, ◌≢◌, ℕ, Result, MatchResult}
use Rattle.replay_lines.specs.declared.kind.Kind.{Kind}
use Rattle.replay_lines.specs.declared.kind.UnknownKind.{UnknownKind}

-- the number that stands at the front of a kind's lines
abbrev pub kind_number : Kind → ℕ
kind_number Kind.Floor = 1
kind_number Kind.Ceil = 2
kind_number Kind.Fabs = 3
kind_number Kind.Sqrt = 4
kind_number Kind.Sin = 5
kind_number Kind.Cos = 6
kind_number Kind.Exp = 7
kind_number Kind.Pow04 = 8
kind_number Kind.BesselI0 = 11
kind_number Kind.KaiserBeta = 12
kind_number Kind.Kaiserord = 13
kind_number Kind.HalfbandLen = 14
kind_number Kind.Delay = 15
kind_number Kind.LowpassNew = 16
kind_number Kind.Lowpass = 17
kind_number Kind.SpecNumTaps = 18
kind_number Kind.SpecLowpass = 19
kind_number Kind.SpecDesign = 20
kind_number Kind.HalfbandNew = 21
kind_number Kind.Halfband = 22
kind_number Kind.GaussianNew = 23
kind_number Kind.Gaussian = 24
kind_number Kind.ChannelizerTaps = 25
kind_number Kind.ChannelizerTapsPerBranch = 26
kind_number Kind.ChannelizerLowpass = 27
kind_number Kind.ChannelizerPrototype = 28
kind_number Kind.Q15FromF64 = 29
kind_number Kind.Q15Tap = 30
kind_number Kind.ToQ15 = 31
kind_number Kind.RrcLen = 32
kind_number Kind.RrcNew = 33
kind_number Kind.Rrc = 34
kind_number Kind.BiquadCoefs = 35
kind_number Kind.ButterworthSos = 36
kind_number Kind.PreemphasisCoefs = 37
kind_number Kind.Q14FromF64 = 38
kind_number Kind.ToQ14 = 39
kind_number Kind.ToF32 = 40
kind_number Kind.ToF32Sos = 41
kind_number Kind.HannF32 = 42
kind_number Kind.HannQ15 = 43
kind_number Kind.BlackmanHarrisF32 = 44
kind_number Kind.BlackmanHarrisQ15 = 45
kind_number Kind.KaiserF32 = 46
kind_number Kind.KaiserQ15 = 47
kind_number Kind.WindowGain = 48

-- what a number is taken for: the kind that has it, or an error where none has
abbrev pub NamesKind : ℕ → Result Kind UnknownKind → Type 0
NamesKind number r = MatchResult r (λ kind. kind_number kind ≡ number) (λ _. (kind : Kind) → kind_number kind ≢ number)
