-- The last f64 at which the series is known to settle and the one after it, whose sum overflows: whether a series has
-- settled is worked out in one pass. Assumes nothing.
use Rattle.std.specs.Prelude.{◌≡◌, refl, Bool, true, false, ◌&&◌, ℕ, zero, suc, Float}
use Rattle.std.proofs.Common.{sym, ap, ◌∙◌}
use Rattle.std.specs.Float.Ieee.{of_bits, of_int, round, mul, add, div, lt}
use Rattle.std.specs.Float.Ieee.Scale.{finite}
use Rattle.laws.specs.Binary64.{◌⊕◌, ◌⊗◌, ◌⊘◌, whole, b64}
use Rattle.math_bessel.specs.Series.{term, partial, least, small, first_small, terms_of, series_at, series_of, settled}

-- from the term t of number k and the sum s up to it, b says whether t ends the series, for d terms more at most
unfoldable pub scan : Float → ℕ → Bool → ℕ → Float → Float → Bool
scan h zero b k t s = b && finite s
scan h (suc d) true k t s = finite s
scan h (suc d) false k t s =
    let f = h ⊘ whole (suc k) in
    let u = t ⊗ (f ⊗ f) in
    let v = s ⊕ u in
    scan h d (lt u (least ⊗ v)) (suc k) u v

scan_is : (h : Float) (d : ℕ) (b : Bool) (k : ℕ) → small h k ≡ b
    → scan h d b k (term h k) (partial h k) ≡ small h (first_small h d b k) && finite (partial h (first_small h d b k))
unfolding scan first_small small term partial
scan_is h zero b k e = ap (λ (c : Bool). c && finite (partial h k)) (sym e)
scan_is h (suc d) true k e = ap (λ (c : Bool). c && finite (partial h k)) (sym e)
scan_is h (suc d) false k e = scan_is h d (small h (suc k)) (suc k) refl

pub settled_scan : (x : Float) → let h = x ⊘ whole 2 in scan h 499 (small h 1) 1 (term h 1) (partial h 1) ≡ settled x
unfolding series_of series_at terms_of
settled_scan x = let h = x ⊘ whole 2 in scan_is h 499 (small h 1) 1 refl

-- ---- 713.98690854396818, and the f64 after it
abbrev scanned : Float → Bool
scanned h = scan h 499 (small h 1) 1 (term h 1) (partial h 1)

abbrev last : Float
last = b64 0x4086_4FE5_304E_83E4

abbrev next : Float
next = b64 0x4086_4FE5_304E_83E5

scan_last : scanned (last ⊘ whole 2) ≡ true
unfolding scan small term partial of_bits of_int round mul add div lt
scan_last = refl

scan_next : scanned (next ⊘ whole 2) ≡ false
unfolding scan small term partial of_bits of_int round mul add div lt
scan_next = refl

pub at_last : settled last ≡ true
at_last = sym (settled_scan last) ∙ scan_last

pub not_at_next : settled next ≡ false
not_at_next = sym (settled_scan next) ∙ scan_next
