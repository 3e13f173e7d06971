-- A quotient by a power of two is the product with the inverse power, to the bit: both round the same number. And a
-- value over 1 is itself. Assumes nothing.
use Rattle.std.specs.Prelude.{◌≡◌, refl, Bool, true, false, ℕ, zero, suc, ◌+◌, ◌*◌, ◌^◌, ◌<◌, ℤ, pos, negsuc, neg_ℤ, T, Float}
use Rattle.std.proofs.Common.{sym, ◌∙◌, mul-pos, mul-one, mul_comm, arith, lit≤, pow_pos, pow-add}
use Rattle.std.specs.Float.{nan, inf, fin, Format}
use Rattle.std.specs.Float.Ieee.{emax, low, round, mul, div, unlike, up, down, fits}
use Rattle.std.specs.Float.Ieee.Exact.{HasValue, round_exact}
use Rattle.std.specs.Float.Ieee.Fits.{up_pos, down_pos, mul-fits}
use Rattle.std.specs.Float.Ieee.Scale.{round_same, finite}
use Rattle.laws.specs.Units.{mag, mag_cross, digits}
use Rattle.laws.specs.Values.{same_value, mag_lt}
use Rattle.laws.specs.Codes.{mul_exact}

-- 2 ^ e
abbrev pub two_to : ℤ → Float
two_to e = fin false 1 e

-- 2 ^ e is the fraction up e / down e, and its inverse the same upside down
up_inverse : (e : ℤ) → up (neg_ℤ e) ≡ down e
up_inverse (pos zero) = refl
up_inverse (pos (suc n)) = refl
up_inverse (negsuc n) = refl

down_inverse : (e : ℤ) → down (neg_ℤ e) ≡ up e
down_inverse (pos zero) = refl
down_inverse (pos (suc n)) = refl
down_inverse (negsuc n) = refl

-- (a / d) · (v / u) and (a / d) / (u / v), as the product and the quotient have them before they round
same : (f : Format) (s : Bool) (a d u v : ℕ) → 0 < d → 0 < u → round f s (a * (1 * v)) (d * u) ≡ round f s (a * v) (1 * u * d)
same f s a d u v D U = round_same f s (a * (1 * v)) (d * u) (a * v) (1 * u * d) (mul-pos D U) (mul-pos (mul-pos (lit≤ tt) U) D) (cross a d u v)
  where
    cross : (a d u v : ℕ) → a * (1 * v) * (1 * u * d) ≡ a * v * (d * u)
    cross a d u v = omega arith

-- x · 2 ^ -e is x / 2 ^ e for every x: a NaN, an infinity, a zero, and a result so small that digits are lost
pub by_inverse : (f : Format) (x : Float) (e : ℤ) → mul f x (two_to (neg_ℤ e)) ≡ div f x (two_to e)
unfolding mul div
by_inverse f nan e = refl
by_inverse f (inf s) e = refl
by_inverse f (fin s m d) e = rw (up_inverse e, down_inverse e) (same f (unlike s false) (m * up d) (down d) (up e) (down e) (down_pos d) (up_pos e))

-- ---- 1
like : (s : Bool) → inf (unlike s false) ≡ inf s
like false = refl
like true = refl

finite_value : (x : Float) (s : Bool) (a b : ℕ) → HasValue x s a b → T (finite x)
finite_value nan s a b h = absurd h
finite_value (inf t) s a b h = absurd h
finite_value (fin t m e) s a b h = tt

cross : (m u l d w q : ℕ) → w * d ≡ m * u * l → w ≡ q → m * u * (1 * 1) * l ≡ q * (d * 1)
cross m u l d w q e g = rw (sym g) (let h = e in omega arith)

product_finite : (f : Format) (s : Bool) (m : ℕ) (e : ℤ) → T (fits f (fin s m e)) → T (finite (mul f (fin s m e) (two_to (pos 0))))
unfolding mul
product_finite f s m e F =
    let d = digits f (fin s m e) F in
    let g : m * up e * (1 * 1) * 2 ^ low f ≡ d.0 * 2 ^ d.1 * (down e * 1) = cross m (up e) (2 ^ low f) (down e) (mag f (fin s m e)) (d.0 * 2 ^ d.1) (mag_cross f s m e F) d.3 in
    let l : d.0 * 2 ^ d.1 < 2 ^ (low f + suc (emax f)) = rw (sym d.3, pow-add 2 (low f) (suc (emax f)), mul_comm (2 ^ low f) (2 ^ suc (emax f))) (mag_lt f (fin s m e) F) in
    finite_value (round f (unlike s false) (m * up e * (1 * 1)) (down e * 1)) (unlike s false) (m * up e * (1 * 1)) (down e * 1) (round_exact f (unlike s false) (m * up e * (1 * 1)) (down e * 1) d.0 d.1 (mul-pos (down_pos e) (pow_pos 0)) d.2 l g)

pub over_one : (f : Format) (x : Float) → T (fits f x) → div f x (two_to (pos 0)) ≡ x
unfolding mul
over_one f x F = sym (by_inverse f x (pos 0)) ∙ times_one x F
  where
    times_one : (x : Float) → T (fits f x) → mul f x (two_to (pos 0)) ≡ x
    times_one nan F = refl
    times_one (inf s) F = like s
    times_one (fin s m e) F =
        let y = mul f (fin s m e) (two_to (pos 0)) in
        let t : T (finite y) = product_finite f s m e F in
        let k = mul_exact f (fin s m e) 0 F t in
        same_value f y (fin s m e) (mul-fits f (fin s m e) (two_to (pos 0))) F t tt k.0 (k.1 ∙ mul-one (mag f (fin s m e)))
