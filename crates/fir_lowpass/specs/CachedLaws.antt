-- A tap from a raw tap that was kept. Assumes nothing.
use Rattle.std.specs.Prelude.{◌≡◌, List, ℕ, ◌<◌, ◌≤◌, length, get_or, Float}
use Rattle.std.proofs.Common.{sym, ap, ◌∙◌, lt-ltb, le-ltb}
use Rattle.std.specs.Float.{nan}
use Rattle.laws.specs.Binary64.{◌⊘◌}
use Rattle.fir_lowpass.specs.Lowpass.{tap_of}
use Rattle.fir_lowpass.specs.Cached.{Caches}
use Rattle.fir_lowpass.specs.declared.lowpass.Lowpass.{Lowpass}

pub cached_is : (l : Lowpass) (rs : List Float) (i : ℕ) → l.n ≤ 16777216 → i < l.n → i < length rs → Caches l rs → get_or rs i nan ⊘ l.sum ≡ tap_of l i
unfolding tap_of
cached_is l rs i h b m k = ap (λ (z : Float). z ⊘ l.sum) (k i b m) ∙ sym (rw (le-ltb 16777216 l.n h, lt-ltb i l.n b))
