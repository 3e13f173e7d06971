-- What one addition, one product and one division of a format err by, in units of its smallest value. Assumes nothing.
use Rattle.std.specs.Prelude.{◌≡◌, ℕ, ◌+◌, ◌-◌, ◌*◌, ◌/◌, ◌^◌, ◌≤◌, ◌<◌, Bool, true, false, not, cond, T, ltb, eqb, Float}
use Rattle.std.proofs.Common.{sym, ap, ◌∙◌, subst, le_trans, le_of_eq, le_of_lt, zero-mul, mul_comm, mul_assoc, mul_right_comm, mul-pos, pos_of_ne-zero, mul-le-mul_right, le_of_mul-le-mul_right, arith, T_not, ltb→lt, nltb→le, pow_pos}
use Rattle.std.proofs.Math.Nat.{eq_of_mul-eq-mul_right, mul-sub, zero-div}
use Rattle.std.specs.Bool.{beq}
use Rattle.std.specs.Float.{nan, inf, fin, Format}
use Rattle.std.specs.Float.Ieee.{prec, low, up, down, unlike, round, sum, add, mul, div, fits}
use Rattle.std.specs.Float.Ieee.Fits.{eq→eqb, up_pos, down_pos}
use Rattle.std.specs.Float.Ieee.Positive.{first_pos}
use Rattle.std.specs.Float.Ieee.Scale.{round_same, grid, finite}
use Rattle.laws.specs.Rounding.{Within, cancel, grid_error, grid_error_whole, grid_exact}
use Rattle.laws.specs.Units.{mag, is_neg, part, plus, less, mag_of_value, mag_cross, round_value, round_parts, digits, nought, nought_fits}

-- ---- the sum
abbrev pub dist : ℕ → ℕ → ℕ
dist a b = (a - b) + (b - a)

-- z is p less l units, but for E / 2 ^ prec
abbrev pub Close : Format → Float → ℕ → ℕ → ℕ → Type 0
Close f z p l E = Within (2 ^ prec f * (plus f z + l)) (2 ^ prec f * (less f z + p)) E

-- how far off a fraction c-ths of w units may be rounded
abbrev Bound : Format → ℕ → ℕ → ℕ → Type 0
Bound f c w E = (a : ℕ) → a * 2 ^ low f ≡ w * c → Within (2 ^ prec f * grid f a c) (2 ^ prec f * w) E

finish : (P g w p l E : ℕ) → Within (P * g) (P * w) E → p ≡ l + w → Within (P * (g + l)) (P * (0 + p)) E
finish P g w p l E h e = let x : P * p ≡ P * (l + w) = ap (λ (z : ℕ). P * z) e in omega arith

finish' : (P g w p l E : ℕ) → Within (P * g) (P * w) E → l ≡ p + w → Within (P * (0 + l)) (P * (g + p)) E
finish' P g w p l E h e = let x : P * l ≡ P * (p + w) = ap (λ (z : ℕ). P * z) e in omega arith

one_round : (f : Format) (s : Bool) (a c w p l E : ℕ) → Bound f c (dist p l) E → a * 2 ^ low f ≡ w * c → p + part (not s) w ≡ l + part s w → T (finite (round f s a c)) → Close f (round f s a c) p l E
one_round f false a c w p l E B e g t =
    let r = round_parts f false a c t in
    let y : dist p l ≡ w = omega arith in
    rw (r.0, r.1) (finish (2 ^ prec f) (grid f a c) w p l E (subst (λ (z : ℕ). Bound f c z E) y B a e) (omega arith))
one_round f true a c w p l E B e g t =
    let r = round_parts f true a c t in
    let y : dist p l ≡ w = omega arith in
    rw (r.0, r.1) (finish' (2 ^ prec f) (grid f a c) w p l E (subst (λ (z : ℕ). Bound f c z E) y B a e) (omega arith))

minus_cross : (a b l x y c : ℕ) → a * l ≡ x * c → b * l ≡ y * c → (a - b) * l ≡ (x - y) * c
minus_cross a b l x y c p q = sub_mul a b l ∙ ap (λ (z : ℕ). z - b * l) p ∙ ap (λ (z : ℕ). x * c - z) q ∙ sym (sub_mul x y c)
  where
    sub_mul : (x y z : ℕ) → (x - y) * z ≡ x * z - y * z
    sub_mul x y z = mul_comm (x - y) z ∙ mul-sub z x y ∙ ap (λ (w : ℕ). w - z * y) (mul_comm z x) ∙ ap (λ (w : ℕ). x * z - w) (mul_comm z y)

plus_cross : (a b l x y c : ℕ) → a * l ≡ x * c → b * l ≡ y * c → (a + b) * l ≡ (x + y) * c
plus_cross a b l x y c p q = omega arith

order : (a b l x y c : ℕ) → 0 < c → 0 < l → a * l ≡ x * c → b * l ≡ y * c → a ≤ b → x ≤ y
order a b l x y c C L p q h = le_of_mul-le-mul_right (le_trans (le_of_eq (sym p)) (le_trans (mul-le-mul_right l h) (le_of_eq q))) C

-- ±a / c + ±b / c, where a / c is x units and b / c is y units
pub sum_error : (f : Format) (s : Bool) (a : ℕ) (t : Bool) (b c x y E : ℕ) → 0 < c → Bound f c (dist (part s x + part t y) (part (not s) x + part (not t) y)) E → a * 2 ^ low f ≡ x * c → b * 2 ^ low f ≡ y * c → T (finite (sum f s a t b c))
    → Close f (sum f s a t b c) (part s x + part t y) (part (not s) x + part (not t) y) E
unfolding sum
sum_error f false a false b c x y E C B p q t = one_round f false (a + b) c (x + y) (x + y) (0 + 0) E B (plus_cross a b (2 ^ low f) x y c p q) (omega arith) t
sum_error f true a true b c x y E C B p q t = one_round f true (a + b) c (x + y) (0 + 0) (x + y) E B (plus_cross a b (2 ^ low f) x y c p q) (omega arith) t
sum_error f true a false b c x y E C B p q t = go (ltb a b) (ltb b a) (ltb→lt a b) (nltb→le a b) (ltb→lt b a) (nltb→le b a) t
  where
    ab : a ≤ b → x ≤ y
    ab h = order a b (2 ^ low f) x y c C (pow_pos (low f)) p q h

    ba : b ≤ a → y ≤ x
    ba h = order b a (2 ^ low f) y x c C (pow_pos (low f)) q p h

    go : (u v : Bool) → (T u → a < b) → (T (not u) → b ≤ a) → (T v → b < a) → (T (not v) → a ≤ b) → T (finite (cond u (round f false (b - a) c) (round f v (a - b) c)))
        → Close f (cond u (round f false (b - a) c) (round f v (a - b) c)) (0 + y) (x + 0) E
    go true v h h' k k' t = one_round f false (b - a) c (y - x) (0 + y) (x + 0) E B (minus_cross b a (2 ^ low f) y x c q p) (let z = ab (le_of_lt (h tt)) in omega arith) t
    go false true h h' k k' t = one_round f true (a - b) c (x - y) (0 + y) (x + 0) E B (minus_cross a b (2 ^ low f) x y c p q) (let z = ba (h' tt) in omega arith) t
    go false false h h' k k' t = one_round f false (a - b) c (x - y) (0 + y) (x + 0) E B (minus_cross a b (2 ^ low f) x y c p q) (let z = ba (h' tt) in let z' = ab (k' tt) in omega arith) t
sum_error f false a true b c x y E C B p q t = go (ltb a b) (ltb→lt a b) (nltb→le a b) t
  where
    ab : a ≤ b → x ≤ y
    ab h = order a b (2 ^ low f) x y c C (pow_pos (low f)) p q h

    ba : b ≤ a → y ≤ x
    ba h = order b a (2 ^ low f) y x c C (pow_pos (low f)) q p h

    go : (u : Bool) → (T u → a < b) → (T (not u) → b ≤ a) → T (finite (cond u (round f true (b - a) c) (round f false (a - b) c)))
        → Close f (cond u (round f true (b - a) c) (round f false (a - b) c)) (x + 0) (0 + y) E
    go true h h' t = one_round f true (b - a) c (y - x) (x + 0) (0 + y) E B (minus_cross b a (2 ^ low f) y x c q p) (let z = ab (le_of_lt (h tt)) in omega arith) t
    go false h h' t = one_round f false (a - b) c (x - y) (x + 0) (0 + y) E B (minus_cross a b (2 ^ low f) x y c p q) (let z = ba (h' tt) in omega arith) t

-- ---- `add`
-- both operands of a finite sum are finite
pub add_finite : (f : Format) (x y : Float) → T (finite (add f x y)) → T (finite x) × T (finite y)
unfolding add
add_finite f nan y t = absurd t
add_finite f (inf s) nan t = absurd t
add_finite f (inf s) (inf u) t = absurd (go (beq s u) t)
  where
    go : (b : Bool) → T (finite (cond b (inf s) nan)) → ⊥
    go true t = t
    go false t = t
add_finite f (inf s) (fin u n d) t = absurd t
add_finite f (fin s m e) nan t = absurd t
add_finite f (fin s m e) (inf u) t = absurd t
add_finite f (fin s m e) (fin u n d) t = (tt, tt)

cross_l : (k u l d d' : ℕ) → k * d ≡ u * l → u * d' * l ≡ k * (d * d')
cross_l k u l d d' e = mul_right_comm u d' l ∙ ap (λ (x : ℕ). x * d') (sym e) ∙ mul_assoc k d d'

-- for each of the fractions that `add` may round
add_bound : (f : Format) (x y : Float) (E : ℕ) → T (fits f x) → T (fits f y) → ((c : ℕ) → 0 < c → Bound f c (dist (plus f x + plus f y) (less f x + less f y)) E) → T (finite (add f x y))
    → Close f (add f x y) (plus f x + plus f y) (less f x + less f y) E
unfolding add
add_bound f nan y E a b B t = absurd t
add_bound f (inf s) y E a b B t = absurd (add_finite f (inf s) y t).0
add_bound f (fin s m e) nan E a b B t = absurd t
add_bound f (fin s m e) (inf u) E a b B t = absurd t
add_bound f (fin s m e) (fin u n d) E a b B t =
    let x = mag f (fin s m e) in
    let y = mag f (fin u n d) in
    let C : 0 < down e * down d = mul-pos (down_pos e) (down_pos d) in
    sum_error f s (m * up e * down d) u (n * up d * down e) (down e * down d) x y E C (B (down e * down d) C)
    (cross_l x (m * up e) (2 ^ low f) (down e) (down d) (mag_cross f s m e a))
    (cross_l y (n * up d) (2 ^ low f) (down d) (down e) (mag_cross f u n d b) ∙ ap (λ (z : ℕ). y * z) (mul_comm (down d) (down e)))
    t

-- the units of x + y and of the exact sum differ by no more than 2 ^ -prec of the exact sum
pub add_error : (f : Format) (x y : Float) → T (fits f x) → T (fits f y) → T (finite (add f x y))
    → Close f (add f x y) (plus f x + plus f y) (less f x + less f y) (dist (plus f x + plus f y) (less f x + less f y))
add_error f x y a b t = add_bound f x y w a b (λ c C n e. grid_error_whole f n c w C e) t
  where
    w : ℕ
    w = dist (plus f x + plus f y) (less f x + less f y)

-- ---- +0 + y is y
nought_mag : (f : Format) → mag f nought ≡ 0
unfolding mag
nought_mag f = ap (λ (x : ℕ). x / 1) (zero-mul (2 ^ low f)) ∙ zero-div 1

one_part : (s : Bool) (n m : ℕ) → m ≡ 0 → dist (m + part s n) (0 + part (not s) n) ≡ n
one_part false n m e = omega arith
one_part true n m e = omega arith

tidy : (P x y m p l : ℕ) → m ≡ 0 → Within (P * (x + (0 + l))) (P * (y + (m + p))) 0 → Within (P * (x + l)) (P * (y + p)) 0
tidy P x y m p l e h = let g : P * m ≡ P * 0 = ap (λ (z : ℕ). P * z) e in omega arith

exact : (P g w : ℕ) → g ≡ w → Within (P * g) (P * w) 0
exact P g w h = let y : P * g ≡ P * w = ap (λ (z : ℕ). P * z) h in omega arith

pub zero_add_exact : (f : Format) (y : Float) → T (fits f y) → T (finite (add f nought y)) → Close f (add f nought y) (plus f y) (less f y) 0
zero_add_exact f y b t =
    let d = digits f y b in
    let z : mag f nought ≡ 0 = nought_mag f in
    let w = dist (mag f nought + plus f y) (0 + less f y) in
    let e : w ≡ mag f y = one_part (is_neg y) (mag f y) (mag f nought) z in
    tidy (2 ^ prec f) (plus f (add f nought y)) (less f (add f nought y)) (mag f nought) (plus f y) (less f y) z
    (add_bound f nought y 0 (nought_fits f) b (λ c C a h. exact (2 ^ prec f) (grid f a c) w (grid_exact f a c w d.0 d.1 C h (e ∙ d.3) d.2)) t)

-- ---- the product
-- m / e is x / l, and n / d is y / l: so (m * n) / (e * d) is (x * y) / (l * l)
crossed_mul : (m n e d x y l : ℕ) → x * e ≡ m * l → y * d ≡ n * l → m * n * (l * l) ≡ x * y * (e * d)
crossed_mul m n e d x y l p q =
    let h : m * l * (n * l) ≡ x * e * (y * d) = ap (λ (z : ℕ). z * (n * l)) (sym p) ∙ ap (λ (z : ℕ). x * e * z) (sym q) in
    omega arith

-- what a product of finite values is
pub mul_is : (f : Format) (x y : Float) → T (fits f x) → T (fits f y) → T (finite x) → T (finite y) → mul f x y ≡ round f (unlike (is_neg x) (is_neg y)) (mag f x * mag f y) (2 ^ low f * 2 ^ low f)
unfolding mul
mul_is f nan y a b u v = absurd u
mul_is f (inf s) y a b u v = absurd u
mul_is f (fin s m e) nan a b u v = absurd v
mul_is f (fin s m e) (inf t) a b u v = absurd v
mul_is f (fin s m e) (fin t n d) a b u v =
    let x = mag f (fin s m e) in
    let y = mag f (fin t n d) in
    let l = 2 ^ low f in
    round_same f (unlike s t) (m * up e * (n * up d)) (down e * down d) (x * y) (l * l) (mul-pos (down_pos e) (down_pos d)) (mul-pos (pow_pos (low f)) (pow_pos (low f)))
    (crossed_mul (m * up e) (n * up d) (down e) (down d) x y l (mag_cross f s m e a) (mag_cross f t n d b))

-- both factors of a finite product are finite
pub mul_finite : (f : Format) (x y : Float) → T (finite (mul f x y)) → T (finite x) × T (finite y)
unfolding mul
mul_finite f nan y t = absurd t
mul_finite f (inf s) nan t = absurd t
mul_finite f (inf s) (inf u) t = absurd t
mul_finite f (inf s) (fin u n d) t = absurd (go (eqb n 0) (unlike s u) t)
  where
    go : (b v : Bool) → T (finite (cond b nan (inf v))) → ⊥
    go true v t = t
    go false v t = t
mul_finite f (fin s m e) nan t = absurd t
mul_finite f (fin s m e) (inf u) t = absurd (go (eqb m 0) (unlike s u) t)
  where
    go : (b v : Bool) → T (finite (cond b nan (inf v))) → ⊥
    go true v t = t
    go false v t = t
mul_finite f (fin s m e) (fin u n d) t = (tt, tt)

lower : (P g l n h : ℕ) → 0 < l → Within (P * (g * (l * l))) (P * (n * l)) (n * l + h * (l * l)) → Within (P * (g * l)) (P * n) (n + h * l)
lower P g l n h L w = cancel l (P * (g * l)) (P * n) (n + h * l) L (omega arith)

-- The product's magnitude: off by no more than 2 ^ -prec of the exact product, and half a unit. Its sign is that of the
-- exact product. All of it is multiplied by 2 ^ low, the units in 1.
pub mul_error : (f : Format) (x y : Float) → T (fits f x) → T (fits f y) → T (finite (mul f x y))
    → (is_neg (mul f x y) ≡ unlike (is_neg x) (is_neg y))
    × Within (2 ^ prec f * (mag f (mul f x y) * 2 ^ low f)) (2 ^ prec f * (mag f x * mag f y)) (mag f x * mag f y + 2 ^ (prec f - 1) * 2 ^ low f)
mul_error f x y a b t =
    let fin' = mul_finite f x y t in
    let i = mul_is f x y a b fin'.0 fin'.1 in
    let s = unlike (is_neg x) (is_neg y) in
    let l = 2 ^ low f in
    let n = mag f x * mag f y in
    let r = round f s n (l * l) in
    let v = mag_of_value f r s (grid f n (l * l)) (round_value f s n (l * l) (subst (λ (z : Float). T (finite z)) i t)) in
    let w = lower (2 ^ prec f) (grid f n (l * l)) l n (2 ^ (prec f - 1)) (pow_pos (low f)) (grid_error f n (l * l) (mul-pos (pow_pos (low f)) (pow_pos (low f)))) in (
      ap is_neg i ∙ v.0,
      subst (λ (g : ℕ). Within (2 ^ prec f * (g * l)) (2 ^ prec f * n) (n + 2 ^ (prec f - 1) * l)) (sym (ap (λ (z : Float). mag f z) i ∙ v.1)) w,
    )

-- m / e is x / l, and n / d is y / l: so (m * d) / (n * e) is x / y
crossed : (m d n e x y l : ℕ) → 0 < l → x * e ≡ m * l → y * d ≡ n * l → m * d * y ≡ x * (n * e)
crossed m d n e x y l L p q =
    let h : m * l * (y * d) ≡ x * e * (n * l) = ap (λ (z : ℕ). z * (y * d)) (sym p) ∙ ap (λ (z : ℕ). x * e * z) q in
    eq_of_mul-eq-mul_right l L (m * d * y) (x * (n * e)) (omega arith)

-- ---- the quotient
-- what a finite quotient by a finite value is
pub div_is : (f : Format) (x y : Float) → T (fits f x) → T (fits f y) → T (finite y) → T (finite (div f x y))
    → (0 < mag f y) × (div f x y ≡ round f (unlike (is_neg x) (is_neg y)) (mag f x) (mag f y))
unfolding div
div_is f nan y a b u t = absurd t
div_is f (inf s) nan a b u t = absurd u
div_is f (inf s) (inf s') a b u t = absurd u
div_is f (inf s) (fin s' n d) a b u t = absurd t
div_is f (fin s m e) nan a b u t = absurd u
div_is f (fin s m e) (inf s') a b u t = absurd u
div_is f (fin s m e) (fin s' n d) a b u t = go (eqb n 0) (eqb m 0) (λ (h : T (not (eqb n 0))). pos_of_ne-zero (λ (z : n ≡ 0). T_not (eqb n 0) h (eq→eqb z))) t
  where
    num : ℕ
    num = m * up e * down d

    den : ℕ
    den = n * up d * down e

    go : (v v' : Bool) → (T (not v) → 0 < n) → T (finite (cond v (cond v' nan (inf (unlike s s'))) (round f (unlike s s') num den)))
        → (0 < mag f (fin s' n d)) × (cond v (cond v' nan (inf (unlike s s'))) (round f (unlike s s') num den) ≡ round f (unlike s s') (mag f (fin s m e)) (mag f (fin s' n d)))
    go true true h t = absurd t
    go true false h t = absurd t
    go false v' h t =
        let x = mag f (fin s m e) in
        let y = mag f (fin s' n d) in
        let l = 2 ^ low f in
        let p : x * down e ≡ m * up e * l = mag_cross f s m e a in
        let q : y * down d ≡ n * up d * l = mag_cross f s' n d b in
        let N : 0 < n = h tt in
        let Y : 0 < y = first_pos y (down d) (subst (λ (z : ℕ). 0 < z) (sym q) (mul-pos (mul-pos N (up_pos d)) (pow_pos (low f)))) in
        (Y, round_same f (unlike s s') num den x y (mul-pos (mul-pos N (up_pos d)) (down_pos e)) Y (crossed (m * up e) (down d) (n * up d) (down e) x y l (pow_pos (low f)) p q))

-- The quotient's magnitude times the divisor's: off by no more than 2 ^ -prec of the dividend's, and half a unit times
-- the divisor's. Its sign is that of the exact quotient.
pub div_error : (f : Format) (x y : Float) → T (fits f x) → T (fits f y) → T (finite y) → T (finite (div f x y))
    → (is_neg (div f x y) ≡ unlike (is_neg x) (is_neg y))
    × Within (2 ^ prec f * (mag f (div f x y) * mag f y)) (2 ^ prec f * (mag f x * 2 ^ low f)) (mag f x * 2 ^ low f + 2 ^ (prec f - 1) * mag f y)
div_error f x y a b u t =
    let h = div_is f x y a b u t in
    let s = unlike (is_neg x) (is_neg y) in
    let r = round f s (mag f x) (mag f y) in
    let v = mag_of_value f r s (grid f (mag f x) (mag f y)) (round_value f s (mag f x) (mag f y) (subst (λ (z : Float). T (finite z)) h.1 t)) in
    let w = grid_error f (mag f x) (mag f y) h.0 in (
      ap is_neg h.1 ∙ v.0,
      subst (λ (g : ℕ). Within (2 ^ prec f * (g * mag f y)) (2 ^ prec f * (mag f x * 2 ^ low f)) (mag f x * 2 ^ low f + 2 ^ (prec f - 1) * mag f y)) (sym (ap (λ (z : Float). mag f z) h.1 ∙ v.1)) w,
    )
