-- What a caller may lean on where Kaiser's window takes Bessel series: a beta up to 713 is never refused for them, and a
-- window that is accepted has no sample that is a NaN, an infinity or negative. Definitions only.
use Rattle.std.specs.Prelude.{ℕ, ◌<◌, ◌≡◌, T, Float, Option, Some}
use Rattle.std.specs.Float.Ieee.{le}
use Rattle.laws.specs.Binary64.{whole}
use Rattle.laws.specs.Under.{natural}
use Rattle.verdict.specs.Numbers.{not_settled}
use Rattle.verdict.specs.declared.Report.{Report}
use Rattle.win_sampled.specs.Shapes.{window_at}
use Rattle.win_sampled.specs.declared.shape.Shape.TheVariants.{Kaiser}
use Rattle.win_sampled.specs.declared.shape.Symmetry.{Symmetry}

-- of a ticket with this beta and the report r
abbrev pub TakenTo713 : Float → Report → Type 0
TakenTo713 beta r = T (le (whole 0) beta) → T (le beta (whole 713)) → r.number ≡ not_settled → ⊥

-- of n samples with a symmetry by its code and the report r: each, before it is rounded to an f32 or a Q15 number, is
-- finite and has its sign clear
abbrev pub FiniteSamples : Float → Option Symmetry → ℕ → Report → Type 0
FiniteSamples beta c n r = (symmetry : Symmetry) → c ≡ Some symmetry → r.number ≡ 0 → (i : ℕ) → i < n → T (natural (window_at (Kaiser beta) symmetry n i))
