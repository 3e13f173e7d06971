-- A window that has a code comes back from it and its beta, and a loaded one has none. Assumes nothing.
use Rattle.std.specs.Prelude.{◌≡◌, refl, ℕ, zero, suc, T, Float, None, Option, Some}
use Rattle.std.proofs.Common.{subst}
use Rattle.win_shapes.specs.declared.cosines.Cosines.{Cosines}
use Rattle.fir_sinc.specs.declared.window.Window.{Window}
use Rattle.ticket_codes.specs.Codes.{window_of, code_of, shape_of, has_code}

pub window_back : (w : Window) → T (has_code w) → window_of (code_of w) (shape_of w) ≡ Some w
unfolding window_of code_of shape_of
window_back Window.Hann h = refl
window_back Window.Hamming h = refl
window_back Window.Blackman h = refl
window_back (Window.Kaiser beta) h = refl
window_back (Window.Cosines c) h = absurd h

pub no_code : (c : Cosines) → window_of (code_of (Window.Cosines c)) (shape_of (Window.Cosines c)) ≡ None
unfolding window_of code_of shape_of
no_code c = refl

-- a window that came of a code has one
where_coded : Option Window → Type 0
where_coded (Some w) = T (has_code w)
where_coded None = Unit {0}

pub came_of_code : (code : ℕ) (beta : Float) (w : Window) → window_of code beta ≡ Some w → T (has_code w)
unfolding window_of where_coded
came_of_code code beta w e = subst where_coded e (go code)
  where
    go : (code : ℕ) → where_coded (window_of code beta)
    go zero = tt
    go (suc zero) = tt
    go (suc (suc zero)) = tt
    go (suc (suc (suc zero))) = tt
    go (suc (suc (suc (suc code)))) = tt
