-- A finite value as a whole number of its format's smallest values, its units: `plus` of them less `less` of them, one
-- of the two 0. Assumes nothing.
use Rattle.std.specs.Prelude.{◌≡◌, refl, ℕ, zero, suc, ◌+◌, ◌-◌, ◌*◌, ◌/◌, ◌%◌, ◌^◌, ◌≤◌, ◌<◌, Bool, true, false, not, ◌&&◌, cond, ℤ, pos, negsuc, T, ltb, leb, eqb, Float}
use Rattle.std.proofs.Common.{sym, ap, ◌∙◌, subst, lt_of_not-le, not-le_of_lt, zero-mul, mul-one, mul_assoc, mul-div_cancel, le_of_suc-le-suc, arith, leb→le, ltb→lt, pow-add, pow_pos}
use Rattle.std.proofs.Math.Nat.{zero-div}
use Rattle.std.proofs.Math.Pow.{pow-lt}
use Rattle.std.specs.Float.{nan, inf, fin, Format}
use Rattle.std.specs.Float.Ieee.{prec, emax, low, up, down, odd, round, fits}
use Rattle.std.specs.Float.Ieee as I
use Rattle.std.specs.Float.Ieee.Fits.{round_is, down_pos, and_l, and_r}
use Rattle.std.specs.Float.Ieee.Exact.{HasValue, units_val}
use Rattle.std.specs.Float.Ieee.Order.{drop, kept}
use Rattle.std.specs.Float.Ieee.Scale.{grid, finite, overflow}

-- ---- the magnitude, in units of the format's smallest value; 0 for what is not finite
unfoldable pub mag : Format → Float → ℕ
mag f nan = 0
mag f (inf s) = 0
mag f (fin s m e) = m * up e * 2 ^ low f / down e

abbrev pub is_neg : Float → Bool
is_neg nan = false
is_neg (inf s) = s
is_neg (fin s m e) = s

-- n where the sign is clear, and 0 where it is set
abbrev pub part : Bool → ℕ → ℕ
part false n = n
part true n = 0

abbrev pub plus : Format → Float → ℕ
plus f x = part (is_neg x) (mag f x)

abbrev pub less : Format → Float → ℕ
less f x = part (not (is_neg x)) (mag f x)

pub parts_mag : (f : Format) (x : Float) → plus f x + less f x ≡ mag f x
parts_mag f x = go (is_neg x) (mag f x)
  where
    go : (s : Bool) (n : ℕ) → part s n + part (not s) n ≡ n
    go false n = omega arith
    go true n = omega arith

-- ---- from a fraction over 2 ^ low
pub mag_of_value : (f : Format) (x : Float) (s : Bool) (w : ℕ) → HasValue x s w (2 ^ low f) → (is_neg x ≡ s) × (mag f x ≡ w)
unfolding mag
mag_of_value f nan s w h = absurd h
mag_of_value f (inf t) s w h = absurd h
mag_of_value f (fin t m e) s w h = (h.0, ap (λ (x : ℕ). x / down e) h.1 ∙ mul-div_cancel w (down_pos e))

-- ---- a value that fits is a whole number of units
pow_le : (i j : ℕ) → 2 ^ i ≤ 2 ^ j → i ≤ j
pow_le i j h = le_of_suc-le-suc (lt_of_not-le (λ (g : suc j ≤ i). not-le_of_lt (pow-lt g) h))

whole : (l : ℕ) (e : ℤ) → down e ≤ 2 ^ l → (t : ℕ) × (2 ^ l ≡ t * down e)
whole l (pos k) h = (2 ^ l, sym (mul-one (2 ^ l)))
whole l (negsuc k) h = (2 ^ (l - suc k), ap (λ (x : ℕ). 2 ^ x) (back (suc k) l (pow_le (suc k) l h)) ∙ pow-add 2 (l - suc k) (suc k))
  where
    back : (a b : ℕ) → a ≤ b → b ≡ b - a + a
    back a b h = omega arith

exactly : (n l d t : ℕ) → 0 < d → l ≡ t * d → n * l / d * d ≡ n * l
exactly n l d t D e = ap (λ (x : ℕ). x / d * d) (p) ∙ ap (λ (x : ℕ). x * d) (mul-div_cancel (n * t) D) ∙ sym p
  where
    p : n * l ≡ n * t * d
    p = ap (λ (x : ℕ). n * x) e ∙ sym (mul_assoc n t d)

pub mag_cross : (f : Format) (s : Bool) (m : ℕ) (e : ℤ) → T (fits f (fin s m e)) → mag f (fin s m e) * down e ≡ m * up e * 2 ^ low f
unfolding mag fits
mag_cross f s zero e t = ap (λ (x : ℕ). x / down e * down e) z ∙ ap (λ (x : ℕ). x * down e) (zero-div (down e)) ∙ zero-mul (down e) ∙ sym z
  where
    z : 0 * up e * 2 ^ low f ≡ 0
    z = ap (λ (x : ℕ). x * 2 ^ low f) (zero-mul (up e)) ∙ zero-mul (2 ^ low f)
mag_cross f s (suc m) e t =
    let a : Bool = eqb (suc m % 2) 1 && ltb (suc m) (2 ^ prec f) in
    let b : Bool = leb (down e) (2 ^ low f) in
    let c : Bool = ltb (suc m * up e) (2 ^ suc (emax f) * down e) in
    let w = whole (low f) e (leb→le (down e) (2 ^ low f) (and_r a b (and_l (a && b) c t))) in
    exactly (suc m * up e) (2 ^ low f) (down e) w.0 (down_pos e) w.1

-- ---- `round`, with either sign
units_under : (f : Format) (s : Bool) (q k : ℕ) → T (finite (I.units f s q k)) → q * 2 ^ k < overflow f
unfolding I.units
units_under f s q k = go (ltb (q * 2 ^ k) (overflow f)) (ltb→lt (q * 2 ^ k) (overflow f))
  where
    go : (b : Bool) → (T b → q * 2 ^ k < overflow f) → T (finite (cond b (odd (suc (prec f)) s q k (low f)) (inf s))) → q * 2 ^ k < overflow f
    go true h t = h tt
    go false h t = absurd t

pub round_value : (f : Format) (s : Bool) (a c : ℕ) → T (finite (round f s a c)) → HasValue (round f s a c) s (grid f a c) (2 ^ low f)
round_value f s a c t =
    let q = kept (prec f) (a * 2 ^ low f) c in
    let k = drop (prec f) (a * 2 ^ low f) c in
    subst (λ (z : Float). HasValue z s (grid f a c) (2 ^ low f)) (sym (round_is f s a c))
    (units_val f s q k (units_under f s q k (subst (λ (z : Float). T (finite z)) (round_is f s a c) t)))

pub round_parts : (f : Format) (s : Bool) (a c : ℕ) → T (finite (round f s a c)) → (plus f (round f s a c) ≡ part s (grid f a c)) × (less f (round f s a c) ≡ part (not s) (grid f a c))
round_parts f s a c t = let h = mag_of_value f (round f s a c) s (grid f a c) (round_value f s a c t) in (cc, cc)

-- ---- the digits of a value
shift_up : (n l k : ℕ) → n * 2 ^ k * 2 ^ l ≡ n * 2 ^ (k + l) * 1
shift_up n l k = mul_assoc n (2 ^ k) (2 ^ l) ∙ ap (λ (x : ℕ). n * x) (sym (pow-add 2 k l)) ∙ sym (mul-one (n * 2 ^ (k + l)))

shift_down : (n l k : ℕ) → suc k ≤ l → n * 1 * 2 ^ l ≡ n * 2 ^ (l - suc k) * 2 ^ suc k
shift_down n l k h =
    ap (λ (x : ℕ). x * 2 ^ l) (mul-one n)
    ∙ ap (λ (x : ℕ). n * x) (ap (λ (x : ℕ). 2 ^ x) (back (suc k) l h) ∙ pow-add 2 (l - suc k) (suc k))
    ∙ sym (mul_assoc n (2 ^ (l - suc k)) (2 ^ suc k))
  where
    back : (a b : ℕ) → a ≤ b → b ≡ b - a + a
    back a b h = omega arith

-- a value that fits has no more digits than its format keeps, but for zeros at its end
pub digits : (f : Format) (x : Float) → T (fits f x) → (q : ℕ) × (j : ℕ) × (q < 2 ^ prec f) × (mag f x ≡ q * 2 ^ j)
unfolding mag fits
digits f nan t = (0, 0, pow_pos (prec f), refl)
digits f (inf s) t = (0, 0, pow_pos (prec f), refl)
digits f (fin s zero e) t = (0, 0, pow_pos (prec f), ap (λ (x : ℕ). x / down e) z ∙ zero-div (down e))
  where
    z : 0 * up e * 2 ^ low f ≡ 0
    z = ap (λ (x : ℕ). x * 2 ^ low f) (zero-mul (up e)) ∙ zero-mul (2 ^ low f)
digits f (fin s (suc m) e) t = go e (ltb→lt (suc m) (2 ^ prec f) (and_r a a' (and_l (a && a') b (and_l (a && a' && b) c t)))) (leb→le (down e) (2 ^ low f) (and_r (a && a') b (and_l (a && a' && b) c t)))
  where
    a : Bool
    a = eqb (suc m % 2) 1

    a' : Bool
    a' = ltb (suc m) (2 ^ prec f)

    b : Bool
    b = leb (down e) (2 ^ low f)

    c : Bool
    c = ltb (suc m * up e) (2 ^ suc (emax f) * down e)

    go : (e : ℤ) → suc m < 2 ^ prec f → down e ≤ 2 ^ low f → (q : ℕ) × (j : ℕ) × (q < 2 ^ prec f) × (suc m * up e * 2 ^ low f / down e ≡ q * 2 ^ j)
    go (pos k) h d = (suc m, k + low f, h, ap (λ (x : ℕ). x / 1) (shift_up (suc m) (low f) k) ∙ mul-div_cancel (suc m * 2 ^ (k + low f)) (pow_pos 0))
    go (negsuc k) h d = (suc m, low f - suc k, h, ap (λ (x : ℕ). x / 2 ^ suc k) (shift_down (suc m) (low f) k (pow_le (suc k) (low f) d)) ∙ mul-div_cancel (suc m * 2 ^ (low f - suc k)) (pow_pos (suc k)))

abbrev pub nought : Float
nought = fin false 0 (pos 0)

pub nought_fits : (f : Format) → T (fits f nought)
unfolding fits
nought_fits f = tt
