-- Two finite values with their signs clear, the first no larger than the second, and that sums, products and quotients
-- keep that order, over the format. Assumes nothing.
use Rattle.std.specs.Prelude.{◌≡◌, refl, ◌⊎◌, Bool, true, false, not, ◌||◌, cond, ℕ, zero, suc, ◌+◌, ◌*◌, ◌^◌, ◌≤◌, ◌<◌, ℤ, pos, T, ltb, eqb, Float}
use Rattle.std.proofs.Common.{sym, ◌∙◌, subst, inl, inr, le_refl, le_of_lt, mul-le-mul, mul-le-mul_right, mul-pos, zero-lt-suc, mul-lt-mul_of_pos_right, le_of_mul-le-mul_right, lt_of_mul-lt-mul_right, arith, ltb-true, lt-ltb}
use Rattle.std.proofs.Math.Dec.{eqb-suc-zero}
use Rattle.std.specs.Float.{nan, inf, fin, Format}
use Rattle.std.specs.Float.Ieee.{prec, emax, low, up, down, odd, units, round, sum, add, mul, div, lt, le}
use Rattle.std.specs.Float.Ieee.Fits.{round_is, up_pos, down_pos}
use Rattle.std.specs.Float.Ieee.Order.{drop, kept, round_mono}
use Rattle.std.specs.Float.Ieee.Positive.{num, den, den_pos}
use Rattle.std.specs.Float.Ieee.Scale.{finite}
use Rattle.laws.specs.AtMost.{of_test}
use Rattle.laws.specs.Cases.{either}
use Rattle.laws.specs.Numbers.{lt_or_le}

-- finite, with its sign clear
abbrev pub natural : Float → Bool
natural nan = false
natural (inf s) = false
natural (fin s m e) = not s

-- a value that isn't NaN, with this sign: set where it is true
abbrev pub signed : Bool → Float → Bool
signed s nan = false
signed true (inf t) = t
signed false (inf t) = not t
signed true (fin t m e) = t
signed false (fin t m e) = not t

-- with its sign clear, +infinity among them
abbrev pub plain : Float → Bool
plain x = signed false x

pub record Under (x y : Float) : Type 0 where
  pub lower : T (natural x)
  pub upper : T (natural y)
  pub order : num x * den y ≤ num y * den x

pub natural_finite : (x : Float) → T (natural x) → T (finite x)
natural_finite nan p = p
natural_finite (inf s) p = p
natural_finite (fin s m e) p = tt

pub under_same : (x : Float) → T (natural x) → Under x x
under_same x p = record { lower = p; upper = p; order = le_refl (num x * den x) }

-- ---- what a fraction rounds to
infinity_signed : (s : Bool) → T (signed s (inf s))
infinity_signed true = tt
infinity_signed false = tt

odd_signed : (D : ℕ) (s : Bool) (q k l : ℕ) → T (signed s (odd D s q k l))
unfolding odd
odd_signed D true zero k l = tt
odd_signed D true (suc q) k l = tt
odd_signed D false zero k l = tt
odd_signed D false (suc q) k l = tt

units_signed : (f : Format) (s : Bool) (q k : ℕ) → T (signed s (units f s q k))
unfolding units
units_signed f s q k = go (ltb (q * 2 ^ k) (2 ^ (low f + suc (emax f))))
  where
    go : (b : Bool) → T (signed s (cond b (odd (suc (prec f)) s q k (low f)) (inf s)))
    go true = odd_signed (suc (prec f)) s q k (low f)
    go false = infinity_signed s

pub round_signed : (f : Format) (s : Bool) (a b : ℕ) → T (signed s (round f s a b))
round_signed f s a b = rw (round_is f s a b) (units_signed f s (kept (prec f) (a * 2 ^ low f) b) (drop (prec f) (a * 2 ^ low f) b))

pub round_plain : (f : Format) (a b : ℕ) → T (plain (round f false a b))
round_plain f a b = round_signed f false a b

pub of_le : (x y : Float) → T (plain x) → T (plain y) → T (finite y) → T (le x y) → Under x y
unfolding le
of_le nan y p q u t = absurd p
of_le (inf true) y p q u t = absurd p
of_le (inf false) nan p q u t = absurd q
of_le (inf false) (inf s) p q u t = absurd u
of_le (inf false) (fin s n d) p q u t = absurd t
of_le (fin true m e) y p q u t = absurd p
of_le (fin false m e) nan p q u t = absurd q
of_le (fin false m e) (inf s) p q u t = absurd u
of_le (fin false m e) (fin true n d) p q u t = absurd q
of_le (fin false m e) (fin false n d) p q u t =
    record { lower = tt; upper = tt; order = of_test (m * up e * down d) (n * up d * down e) (true || eqb (m * up e * down d) 0) t }

pub round_under : (f : Format) (a b c d : ℕ) → 0 < b → 0 < d → a * d ≤ c * b → T (finite (round f false c d)) → Under (round f false a b) (round f false c d)
round_under f a b c d B D h u = of_le (round f false a b) (round f false c d) (round_plain f a b) (round_plain f c d) u (round_mono f a b c d B D h)

-- ---- the operations on such values
pub mul_is : (f : Format) (x y : Float) → T (natural x) → T (natural y) → mul f x y ≡ round f false (num x * num y) (den x * den y)
unfolding mul
mul_is f nan y p q = absurd p
mul_is f (inf s) y p q = absurd p
mul_is f (fin true m e) y p q = absurd p
mul_is f (fin false m e) nan p q = absurd q
mul_is f (fin false m e) (inf s) p q = absurd q
mul_is f (fin false m e) (fin true n d) p q = absurd q
mul_is f (fin false m e) (fin false n d) p q = refl

add_is : (f : Format) (x y : Float) → T (natural x) → T (natural y) → add f x y ≡ round f false (num x * den y + num y * den x) (den x * den y)
unfolding add sum
add_is f nan y p q = absurd p
add_is f (inf s) y p q = absurd p
add_is f (fin true m e) y p q = absurd p
add_is f (fin false m e) nan p q = absurd q
add_is f (fin false m e) (inf s) p q = absurd q
add_is f (fin false m e) (fin true n d) p q = absurd q
add_is f (fin false m e) (fin false n d) p q = refl

times : (x dx y dy X dX Y dY : ℕ) → x * dX ≤ X * dx → y * dY ≤ Y * dy → x * y * (dX * dY) ≤ X * Y * (dx * dy)
times x dx y dy X dX Y dY h k = let g : x * dX * (y * dY) ≤ X * dx * (Y * dy) = mul-le-mul h k in omega arith

gather : (x dx y dy X dX Y dY : ℕ) → x * dX ≤ X * dx → y * dY ≤ Y * dy → (x * dy + y * dx) * (dX * dY) ≤ (X * dY + Y * dX) * (dx * dy)
gather x dx y dy X dX Y dY h k =
    let g : x * dX * (dy * dY) ≤ X * dx * (dy * dY) = mul-le-mul_right (dy * dY) h in
    let l : y * dY * (dx * dX) ≤ Y * dy * (dx * dX) = mul-le-mul_right (dx * dX) k in
    omega arith

module _ (f : Format) {x X y Y : Float} (p : Under x X) (q : Under y Y) where
  pub mul_under : T (finite (mul f X Y)) → Under (mul f x y) (mul f X Y)
  mul_under u =
      rw (mul_is f x y p.lower q.lower, mul_is f X Y p.upper q.upper)
      (round_under f (num x * num y) (den x * den y) (num X * num Y) (den X * den Y) (mul-pos (den_pos x) (den_pos y)) (mul-pos (den_pos X) (den_pos Y))
      (times (num x) (den x) (num y) (den y) (num X) (den X) (num Y) (den Y) p.order q.order)
      (subst (λ (z : Float). T (finite z)) (mul_is f X Y p.upper q.upper) u))

  pub add_under : T (finite (add f X Y)) → Under (add f x y) (add f X Y)
  add_under u =
      rw (add_is f x y p.lower q.lower, add_is f X Y p.upper q.upper)
      (round_under f (num x * den y + num y * den x) (den x * den y) (num X * den Y + num Y * den X) (den X * den Y) (mul-pos (den_pos x) (den_pos y)) (mul-pos (den_pos X) (den_pos Y))
      (gather (num x) (den x) (num y) (den y) (num X) (den X) (num Y) (den Y) p.order q.order)
      (subst (λ (z : Float). T (finite z)) (add_is f X Y p.upper q.upper) u))

-- ---- a quotient by one value
div_zero : (f : Format) (x : Float) (d : ℤ) → T (natural x) → T (finite (div f x (fin false zero d))) → ⊥
unfolding div
div_zero f nan d p u = p
div_zero f (inf s) d p u = p
div_zero f (fin true m e) d p u = p
div_zero f (fin false m e) d p u = go (eqb m 0) u
  where
    go : (b : Bool) → T (finite (cond b nan (inf false))) → ⊥
    go true u = u
    go false u = u

div_is : (f : Format) (x : Float) (n : ℕ) (d : ℤ) → T (natural x) → div f x (fin false (suc n) d) ≡ round f false (num x * down d) (suc n * up d * den x)
unfolding div
div_is f nan n d p = absurd p
div_is f (inf s) n d p = absurd p
div_is f (fin true m e) n d p = absurd p
div_is f (fin false m e) n d p = rw (eqb-suc-zero n)

div_infinite : (f : Format) (x : Float) → T (natural x) → div f x (inf false) ≡ fin false 0 (pos 0)
unfolding div
div_infinite f nan p = absurd p
div_infinite f (inf s) p = absurd p
div_infinite f (fin true m e) p = absurd p
div_infinite f (fin false m e) p = refl

div_nan : (f : Format) (x : Float) → T (natural x) → T (finite (div f x nan)) → ⊥
unfolding div
div_nan f nan p u = p
div_nan f (inf s) p u = p
div_nan f (fin s m e) p u = u

over : (x dx X dX a b : ℕ) → x * dX ≤ X * dx → x * a * (b * dX) ≤ X * a * (b * dx)
over x dx X dX a b h = let g : x * dX * (a * b) ≤ X * dx * (a * b) = mul-le-mul_right (a * b) h in omega arith

pub div_under : (f : Format) {x X : Float} (y : Float) → T (plain y) → Under x X → T (finite (div f X y)) → Under (div f x y) (div f X y)
div_under f {X = X} nan q p u = absurd q
div_under f (inf true) q p u = absurd q
div_under f {x} {X} (inf false) q p u =
    rw (div_infinite f x p.lower, div_infinite f X p.upper) (under_same (fin false 0 (pos 0)) tt)
div_under f (fin true n d) q p u = absurd q
div_under f {X = X} (fin false zero d) q p u = absurd (div_zero f X d p.upper u)
div_under f {x} {X} (fin false (suc n) d) q p u =
    let N : 0 < suc n * up d = mul-pos (zero-lt-suc n) (up_pos d) in
    rw (div_is f x n d p.lower, div_is f X n d p.upper)
    (round_under f (num x * down d) (suc n * up d * den x) (num X * down d) (suc n * up d * den X) (mul-pos N (den_pos x)) (mul-pos N (den_pos X))
    (over (num x) (den x) (num X) (den X) (down d) (suc n * up d) p.order)
    (subst (λ (z : Float). T (finite z)) (div_is f X n d p.upper) u))

-- ---- one value over another: the larger the divisor, the smaller the quotient
across : (x dx y dy Y dY : ℕ) → y * dY ≤ Y * dy → x * dY * (y * dx) ≤ x * dy * (Y * dx)
across x dx y dy Y dY h = let g : y * dY * (x * dx) ≤ Y * dy * (x * dx) = mul-le-mul_right (x * dx) h in omega arith

pub div_over : (f : Format) (x y Y : Float) → T (natural x) → 0 < num y → Under y Y → T (finite (div f x y)) → Under (div f x Y) (div f x y)
div_over f x nan Y p l q u = absurd q.lower
div_over f x (inf s) Y p l q u = absurd q.lower
div_over f x (fin true n d) Y p l q u = absurd q.lower
div_over f x (fin false zero d) Y p l q u = absurd (omega (arith, l))
div_over f x (fin false (suc n) d) nan p l q u = absurd q.upper
div_over f x (fin false (suc n) d) (inf s) p l q u = absurd q.upper
div_over f x (fin false (suc n) d) (fin true N D) p l q u = absurd q.upper
div_over f x (fin false (suc n) d) (fin false zero D) p l q u = absurd (none (suc n * up d) (down D) (mul-pos (zero-lt-suc n) (up_pos d)) (down_pos D) q.order)
  where
    none : (y dY : ℕ) → 0 < y → 0 < dY → y * dY ≤ 0 * up D * down d → ⊥
    none y dY a b h = let g : 0 < y * dY = mul-pos a b in omega arith
div_over f x (fin false (suc n) d) (fin false (suc N) D) p l q u =
    let z : 0 < suc n * up d = mul-pos (zero-lt-suc n) (up_pos d) in
    let Z : 0 < suc N * up D = mul-pos (zero-lt-suc N) (up_pos D) in
    rw (div_is f x n d p, div_is f x N D p)
    (round_under f (num x * down D) (suc N * up D * den x) (num x * down d) (suc n * up d * den x) (mul-pos Z (den_pos x)) (mul-pos z (den_pos x))
    (across (num x) (den x) (suc n * up d) (down d) (suc N * up D) (down D) q.order)
    (subst (λ (z : Float). T (finite z)) (div_is f x n d p) u))

-- ---- a square, and a product of two such values
-- the sign is clear, or there is none
abbrev pub unsigned : Float → Bool
unsigned nan = true
unsigned (inf s) = not s
unsigned (fin s m e) = not s

plain_unsigned : (x : Float) → T (plain x) → T (unsigned x)
plain_unsigned nan p = tt
plain_unsigned (inf s) p = p
plain_unsigned (fin s m e) p = p

pub unsigned_natural : (x : Float) → T (unsigned x) → T (finite x) → T (natural x)
unsigned_natural nan p u = u
unsigned_natural (inf s) p u = u
unsigned_natural (fin s m e) p u = p

pub square_unsigned : (f : Format) (x : Float) → T (unsigned (mul f x x))
unfolding mul
square_unsigned f nan = tt
square_unsigned f (inf true) = tt
square_unsigned f (inf false) = tt
square_unsigned f (fin true m e) = plain_unsigned (round f false (m * up e * (m * up e)) (down e * down e)) (round_plain f (m * up e * (m * up e)) (down e * down e))
square_unsigned f (fin false m e) = plain_unsigned (round f false (m * up e * (m * up e)) (down e * down e)) (round_plain f (m * up e * (m * up e)) (down e * down e))

pub mul_unsigned : (f : Format) (x y : Float) → T (natural x) → T (natural y) → T (unsigned (mul f x y))
mul_unsigned f x y p q = plain_unsigned (mul f x y) (subst (λ (z : Float). T (plain z)) (sym (mul_is f x y p q)) (round_plain f (num x * num y) (den x * den y)))

-- ---- the order of two such values, and what lies between
pub lt_is : (x y : Float) → T (natural x) → T (natural y) → lt x y ≡ ltb (num x * den y) (num y * den x)
unfolding lt
lt_is nan y p q = absurd p
lt_is (inf s) y p q = absurd p
lt_is (fin true m e) y p q = absurd p
lt_is (fin false m e) nan p q = absurd q
lt_is (fin false m e) (inf s) p q = absurd q
lt_is (fin false m e) (fin true n d) p q = absurd q
lt_is (fin false m e) (fin false n d) p q = refl

pub chain : {w x y z : Float} → Under w x → lt x y ≡ true → T (natural y) → Under y z → lt w z ≡ true
chain {w} {x} {y} {z} p t q r =
    lt_is w z p.lower r.upper
    ∙ lt-ltb (num w * den z) (num z * den w)
    (strict (num w) (den w) (num x) (den x) (num y) (den y) (num z) (den z) (den_pos x) (den_pos w) (den_pos y) (den_pos z) p.order (ltb-true (num x * den y) (num y * den x) (sym (lt_is x y p.upper q) ∙ t)) r.order)
  where
    -- w ≤ x < y ≤ z
    strict : (w dw x dx y dy z dz : ℕ) → 0 < dx → 0 < dw → 0 < dy → 0 < dz → w * dx ≤ x * dw → x * dy < y * dx → y * dz ≤ z * dy → w * dz < z * dw
    strict w dw x dx y dy z dz DX DW DY DZ h k l =
        let a : w * dx * (dy * dz) ≤ x * dw * (dy * dz) = mul-le-mul_right (dy * dz) h in
        let b : x * dy * (dw * dz) < y * dx * (dw * dz) = mul-lt-mul_of_pos_right k (mul-pos DW DZ) in
        let c : y * dz * (dx * dw) ≤ z * dy * (dx * dw) = mul-le-mul_right (dx * dw) l in
        lt_of_mul-lt-mul_right (dx * dy) (omega arith)

pub lt_under : (c : Float) {y z : Float} → T (natural c) → lt c y ≡ true → Under y z → Under c z
lt_under c {y} {z} n t r = record {
  lower = n;
  upper = r.upper;
  order = through (num c) (den c) (num y) (den y) (num z) (den z) (den_pos y) (ltb-true (num c * den y) (num y * den c) (sym (lt_is c y n r.lower) ∙ t)) r.order;
}
  where
    through : (c dc y dy z dz : ℕ) → 0 < dy → c * dy < y * dc → y * dz ≤ z * dy → c * dz ≤ z * dc
    through c dc y dy z dz D h k =
        let a : c * dy * dz ≤ y * dc * dz = mul-le-mul_right dz (le_of_lt h) in
        let b : y * dz * dc ≤ z * dy * dc = mul-le-mul_right dc k in
        le_of_mul-le-mul_right {k = dy} (omega arith) D

pub under_or_over : (x y : Float) → T (natural x) → T (natural y) → Under x y ⊎ Under y x
under_or_over x y p q =
    either (lt_or_le (num x * den y) (num y * den x))
    (λ h. inl (record { lower = p; upper = q; order = le_of_lt h }))
    (λ h. inr (record { lower = q; upper = p; order = h }))
