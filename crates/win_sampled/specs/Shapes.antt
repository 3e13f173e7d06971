-- Windows of n samples, symmetric or periodic, and the buffer that holds one. Definitions only.
--   the formulas of `win_shapes/Windows` with p = i and d = n, or n − 1 where the window is symmetric; 1 where that is
--   0
use Rattle.std.specs.Prelude.{◌≡◌, ℕ, ◌-◌, Bool, true, cond, ◌&&◌, List, length, ◌==◌, Float, Err, Ok, Result}
use Rattle.std.specs.Float.Ieee.{le}
use Rattle.std.specs.Float.Ieee.Scale.{finite}
use Rattle.laws.specs.Binary64.{whole}
use Rattle.laws.specs.Filled.{tabulate}
use Rattle.math_bessel.specs.Series.{series_of}
use Rattle.verdict.specs.Converts.{left_of}
use Rattle.verdict.specs.declared.Refusal.TheVariants.{Plain}
use Rattle.win_shapes.specs.Windows.{angle, hann_at, harris_at, kaiser_at}
use Rattle.win_settling.specs.Settling.{kaiser_settles}
use Rattle.win_sampled.specs.declared.shape.Shape.{Shape}
use Rattle.win_sampled.specs.declared.shape.Shape.TheVariants.{Hann, BlackmanHarris, Kaiser}
use Rattle.win_sampled.specs.declared.shape.Symmetry.{Symmetry}
use Rattle.win_sampled.specs.declared.shape.Symmetry.TheVariants.{Periodic, Symmetric}
use Rattle.verdict.specs.declared.Refusal.{Refusal}
use Rattle.verdict.specs.declared.Reason.TheVariants as Reason

-- beta must be finite and not negative
unfoldable pub shape_taken : Shape → Bool
shape_taken Hann = true
shape_taken BlackmanHarris = true
shape_taken (Kaiser beta) = finite beta && le (whole 0) beta

-- the series at beta, by which Kaiser's window is divided; 1 for the others
unfoldable pub norm_of : Shape → Float
norm_of Hann = whole 1
norm_of BlackmanHarris = whole 1
norm_of (Kaiser beta) = (series_of beta).sum

-- D; no samples have none less
unfoldable pub divisor_of : Symmetry → ℕ → ℕ
divisor_of Periodic n = n
divisor_of Symmetric n = n - 1

-- i0 the series at beta, p being i and d D
unfoldable pub shape_at : Shape → Float → Float → Float → Float
unfolding angle hann_at harris_at kaiser_at
shape_at Hann i0 p d = hann_at (angle p d)
shape_at BlackmanHarris i0 p d = harris_at (angle p d)
shape_at (Kaiser beta) i0 p d = kaiser_at beta i0 p d

-- 1 where D is 0
unfoldable pub sample_at : Shape → Float → ℕ → ℕ → Float
unfolding shape_at
sample_at shape i0 d i = cond (d == 0) (whole 1) (shape_at shape i0 (whole i) (whole d))

-- sample i of n
abbrev pub window_at : Shape → Symmetry → ℕ → ℕ → Float
window_at shape symmetry n i = sample_at shape (norm_of shape) (divisor_of symmetry n) i

-- ---- the judgement
-- every series that n samples take has settled, for a divisor
unfoldable pub series_settle : Shape → ℕ → ℕ → Bool
series_settle Hann d n = true
series_settle BlackmanHarris d n = true
series_settle (Kaiser beta) d n = kaiser_settles beta d n

-- n samples, in this order; 4 comes for none too
unfoldable pub judgement_of : Shape → Symmetry → ℕ → Result (Unit {0}) Refusal
unfolding shape_taken series_settle divisor_of
judgement_of shape symmetry n =
    cond (shape_taken shape)
    (cond (series_settle shape (divisor_of symmetry n) n)
    (Ok tt)
    (Err (Plain Reason.Unsettled)))
    (Err (Plain Reason.Attenuation))

-- what the answer and the buffer are afterwards, each sample through `code`
pub record FillsWindow {A : Type 0} (code : Float → A) (shape : Shape) (symmetry : Symmetry) (before : List A) (r : Result (Unit {0}) Refusal) (after : List A) : Type 0 where
  pub answer : r ≡ judgement_of shape symmetry (length before)
  pub buffer : after ≡ left_of (judgement_of shape symmetry (length before)) (tabulate (length before) (λ i. code (window_at shape symmetry (length before) i))) before
