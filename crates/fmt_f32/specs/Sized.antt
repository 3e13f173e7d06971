-- What a pattern without the bit of a sign narrows to. Definitions only.
use Rattle.std.specs.Prelude.{◌≡◌, Bool, cond, ℕ, ◌+◌, ◌/◌, ◌%◌, Float}
use Rattle.std.specs.Float.{binary32, binary64}
use Rattle.std.specs.Float.Ieee.{hid, top, of_fields, to_bits}
use Rattle.fmt_f32.specs.Single.{single_of}

-- the f64 with the sign s and the pattern n without the bit of its sign
abbrev pub signed : Bool → ℕ → Float
signed s n = of_fields binary64 s (n / hid binary64) (n % hid binary64)

-- r is the pattern, without the bit of a sign, of the f32 nearest that f64, with either sign
pub record Narrowed (n r : ℕ) : Type 0 where
  pub is : (s : Bool) → to_bits binary32 (single_of (signed s n)) ≡ cond s (top binary32) 0 + r
