-- A value rounded once to a narrower format. Definitions only.
use Rattle.std.specs.Prelude.{ℕ, ◌*◌, true, false, Float}
use Rattle.std.specs.Float.{nan, inf, fin, Format, binary32}
use Rattle.std.specs.Float.Ieee.{up, down, round}
use Rattle.verdict.specs.declared.Refusal.{Refusal}
use Rattle.verdict.specs.declared.Refusal.TheVariants.{Element}

-- the value of the format f nearest m 2^e, ties to even; a NaN and infinities are themselves
unfoldable pub round_to : Format → Float → Float
round_to f nan = nan
round_to f (inf s) = inf s
round_to f (fin s m e) = round f s (m * up e) (down e)

-- the f32 nearest x
abbrev pub single_of : Float → Float
single_of x = round_to binary32 x

-- what would be told of x at index i if it weren't taken: every value is
abbrev pub any_outside : ℕ → Float → Refusal
any_outside i x = Element i (inf true) (inf false) x
