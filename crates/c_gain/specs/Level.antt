-- A window's gain and bandwidth from a buffer of f32 samples. Definitions only.
use Rattle.std.specs.Prelude.{ℕ, ◌-◌, ◌/◌, ◌%◌, cond, List, eqb, length, Float}
use Rattle.laws.specs.Binary64.{whole}
use Rattle.verdict.specs.Numbers.{bad_length}
use Rattle.wire.specs.Bytes.{singles_in}
use Rattle.win_gain.specs.Gain.{gain_of}
use Rattle.c_gain.specs.declared.level.GainReport.{GainReport}

-- the f32s of a source of bytes
abbrev pub singles : List ℕ → List Float
singles s = singles_in (length s / 4) s

-- a length that isn't whole samples is refused with 8
unfoldable pub gain_report : List ℕ → GainReport
gain_report s =
    let m = length s in
    let g = gain_of (singles s) in
    cond (eqb (m % 4) 0)
    (record { number = 0; carries = 0; expected = 0; given = 0; count = m / 4; gain = g.gain; bandwidth = g.bandwidth })
    (record { number = bad_length; carries = 2; expected = m - m % 4; given = m; count = 0; gain = whole 0; bandwidth = whole 0 })
