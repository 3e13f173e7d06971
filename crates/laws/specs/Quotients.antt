-- A list of values divided by their sum: the quotients add up to 1, nearly. Assumes nothing.
use Rattle.std.specs.Prelude.{◌≡◌, refl, List, [], ◌∷◌, ℕ, suc, ◌+◌, ◌-◌, ◌*◌, ◌^◌, ◌≤◌, ◌<◌, Bool, true, false, not, cond, T, length, Float}
use Rattle.std.proofs.Common.{ap, ◌∙◌, mul-le-mul_left, mul-le-mul_right, mul-pos, arith, lit≤, pow_pos, pow_mono}
use Rattle.std.specs.Float.{Format, binary32, binary64}
use Rattle.std.specs.Float.Ieee.{prec, low, unlike, div, fits}
use Rattle.std.specs.Float.Ieee.Fits.{two, two-le_pos, div-fits}
use Rattle.std.specs.Float.Ieee.Scale.{finite}
use Rattle.laws.specs.Cases.{either}
use Rattle.laws.specs.Numbers.{lt_or_le}
use Rattle.laws.specs.Rounding.{Within, twice, times, cancel}
use Rattle.laws.specs.Units.{mag, is_neg, part, plus, less, parts_mag, nought, nought_fits}
use Rattle.laws.specs.Operations.{div_is, div_error}
use Rattle.laws.specs.SumError.{total, sum_of, Each, total_fits, total_error}

-- ---- the quotients
-- a value's parts, exchanged where the divisor is negative
abbrev pub fore : Format → Bool → Float → ℕ
fore f σ x = part (unlike (is_neg x) σ) (mag f x)

abbrev pub back : Format → Bool → Float → ℕ
back f σ x = part (not (unlike (is_neg x) σ)) (mag f x)

signed : (u : Bool) (P g b a L E : ℕ) → Within (P * (g * b)) (P * (a * L)) E
    → Within (P * (part u g * b + part (not u) a * L)) (P * (part (not u) g * b + part u a * L)) E
signed false P g b a L E h = omega arith
signed true P g b a L E h = omega arith

-- one quotient
pub tap_error : (f : Format) (x y : Float) → T (fits f x) → T (fits f y) → T (finite y) → T (finite (div f x y))
    → Within (2 ^ prec f * (plus f (div f x y) * mag f y + back f (is_neg y) x * 2 ^ low f)) (2 ^ prec f * (less f (div f x y) * mag f y + fore f (is_neg y) x * 2 ^ low f)) (mag f x * 2 ^ low f + 2 ^ (prec f - 1) * mag f y)
tap_error f x y a b u t =
    let d = div_error f x y a b u t in
    rw d.0 (signed (unlike (is_neg x) (is_neg y)) (2 ^ prec f) (mag f (div f x y)) (mag f y) (mag f x) (2 ^ low f) (mag f x * 2 ^ low f + 2 ^ (prec f - 1) * mag f y) d.1)

unfoldable pub quotients : Format → List Float → Float → List Float
quotients f [] y = []
quotients f (x ∷ xs) y = div f x y ∷ quotients f xs y

pub quotients_fit : (f : Format) (xs : List Float) (y : Float) → Each (fits f) (quotients f xs y)
unfolding quotients
quotients_fit f [] y = tt
quotients_fit f (x ∷ xs) y = (div-fits f x y, quotients_fit f xs y)

pub quotients_length : (f : Format) (xs : List Float) (y : Float) → length (quotients f xs y) ≡ length xs
unfolding quotients
quotients_length f [] y = refl
quotients_length f (x ∷ xs) y = ap suc (quotients_length f xs y)

join : (P L H b pt nt fr br m pt' nt' fr' br' m' n : ℕ)
    → Within (P * (pt * b + br * L)) (P * (nt * b + fr * L)) (m * L + H * b)
    → Within (P * (pt' * b + br' * L)) (P * (nt' * b + fr' * L)) (m' * L + n * (H * b))
    → Within (P * ((pt + pt') * b + (br + br') * L)) (P * ((nt + nt') * b + (fr + fr') * L)) ((m + m') * L + suc n * (H * b))
join P L H b pt nt fr br m pt' nt' fr' br' m' n h g = omega arith

pub taps_error : (f : Format) (xs : List Float) (y : Float) → Each (fits f) xs → T (fits f y) → T (finite y) → Each finite (quotients f xs y)
    → Within (2 ^ prec f * (sum_of (plus f) (quotients f xs y) * mag f y + sum_of (back f (is_neg y)) xs * 2 ^ low f))
    (2 ^ prec f * (sum_of (less f) (quotients f xs y) * mag f y + sum_of (fore f (is_neg y)) xs * 2 ^ low f))
    (sum_of (mag f) xs * 2 ^ low f + length xs * (2 ^ (prec f - 1) * mag f y))
unfolding sum_of quotients
taps_error f [] y a b u t = none (2 ^ prec f) (2 ^ low f) (2 ^ (prec f - 1)) (mag f y)
  where
    none : (P L H b : ℕ) → Within (P * (0 * b + 0 * L)) (P * (0 * b + 0 * L)) (0 * L + 0 * (H * b))
    none P L H b = omega arith
taps_error f (x ∷ xs) y a b u t =
    let z = div f x y in
    let zs = quotients f xs y in
    let σ = is_neg y in
    join (2 ^ prec f) (2 ^ low f) (2 ^ (prec f - 1)) (mag f y) (plus f z) (less f z) (fore f σ x) (back f σ x) (mag f x) (sum_of (plus f) zs) (sum_of (less f) zs) (sum_of (fore f σ) xs) (sum_of (back f σ) xs) (sum_of (mag f) xs) (length xs)
    (tap_error f x y a.0 b u t.0) (taps_error f xs y a.1 b u t.1)

-- the dividends' magnitudes, by the quotients'
size_join : (P L H b g m g' m' n : ℕ)
    → P * (m * L) ≤ P * (g * b) + (m * L + H * b)
    → P * (m' * L) ≤ P * (g' * b) + (m' * L + n * (H * b))
    → P * ((m + m') * L) ≤ P * ((g + g') * b) + ((m + m') * L + suc n * (H * b))
size_join P L H b g m g' m' n h k = omega arith

pub taps_size : (f : Format) (xs : List Float) (y : Float) → Each (fits f) xs → T (fits f y) → T (finite y) → Each finite (quotients f xs y)
    → 2 ^ prec f * (sum_of (mag f) xs * 2 ^ low f) ≤ 2 ^ prec f * (sum_of (mag f) (quotients f xs y) * mag f y) + (sum_of (mag f) xs * 2 ^ low f + length xs * (2 ^ (prec f - 1) * mag f y))
unfolding sum_of quotients
taps_size f [] y a b u t = none (2 ^ prec f) (2 ^ low f) (2 ^ (prec f - 1)) (mag f y)
  where
    none : (P L H b : ℕ) → P * (0 * L) ≤ P * (0 * b) + (0 * L + 0 * (H * b))
    none P L H b = omega arith
taps_size f (x ∷ xs) y a b u t =
    size_join (2 ^ prec f) (2 ^ low f) (2 ^ (prec f - 1)) (mag f y) (mag f (div f x y)) (mag f x) (sum_of (mag f) (quotients f xs y)) (sum_of (mag f) xs) (length xs)
    (div_error f x y a.0 b u t.0).1.1 (taps_size f xs y a.1 b u t.1)

-- ---- the parts of a list
sum_parts : (f : Format) (xs : List Float) → sum_of (plus f) xs + sum_of (less f) xs ≡ sum_of (mag f) xs
unfolding sum_of
sum_parts f [] = refl
sum_parts f (x ∷ xs) = go (plus f x) (less f x) (sum_of (plus f) xs) (sum_of (less f) xs) (mag f x) (sum_of (mag f) xs) (parts_mag f x) (sum_parts f xs)
  where
    go : (a b c d m n : ℕ) → a + b ≡ m → c + d ≡ n → (a + c) + (b + d) ≡ m + n
    go a b c d m n e g = omega arith

-- exchanged or not
sum_same : (g h : Float → ℕ) (xs : List Float) → ((x : Float) → g x ≡ h x) → sum_of g xs ≡ sum_of h xs
unfolding sum_of
sum_same g h [] e = refl
sum_same g h (x ∷ xs) e = ap (λ (z : ℕ). z + sum_of g xs) (e x) ∙ ap (λ (z : ℕ). h x + z) (sum_same g h xs e)

like : (s : Bool) → unlike s false ≡ s
like false = refl
like true = refl

other : (s : Bool) → unlike s true ≡ not s
other false = refl
other true = refl

not_not : (s : Bool) → not (not s) ≡ s
not_not false = refl
not_not true = refl

exchange : (f : Format) (xs : List Float) (σ : Bool) → (sum_of (fore f σ) xs ≡ cond σ (sum_of (less f) xs) (sum_of (plus f) xs)) × (sum_of (back f σ) xs ≡ cond σ (sum_of (plus f) xs) (sum_of (less f) xs))
exchange f xs false = (
  sum_same (fore f false) (plus f) xs (λ x. ap (λ (s : Bool). part s (mag f x)) (like (is_neg x))),
  sum_same (back f false) (less f) xs (λ x. ap (λ (s : Bool). part (not s) (mag f x)) (like (is_neg x))),
)
exchange f xs true = (
  sum_same (fore f true) (less f) xs (λ x. ap (λ (s : Bool). part s (mag f x)) (other (is_neg x))),
  sum_same (back f true) (plus f) xs (λ x. ap (λ (s : Bool). part s (mag f x)) (ap not (other (is_neg x)) ∙ not_not (is_neg x))),
)

-- ---- the theorem's arithmetic
-- X is the sum of the dividends' magnitudes times 2 ^ low, Y that of the quotients' times b, n + 1 their number
-- What X has above Y is small: the error that is allowed is a part of X
pub excess : (P k X Y E : ℕ) → k ≤ P → P * X ≤ P * Y + (X + E) → k * (X - Y) ≤ X + E
excess P k X Y E l h = either (lt_or_le Y X) (λ m. more (X - Y) (omega arith)) (λ m. none (X - Y) (omega arith))
  where
    more : (D : ℕ) → X ≡ Y + D → k * D ≤ X + E
    more D e = omega (arith, mul-le-mul_right D l, ap (λ (x : ℕ). P * x) e)

    none : (D : ℕ) → D ≡ 0 → k * D ≤ X + E
    none D e = omega (arith, ap (λ (x : ℕ). k * x) e)

key : (P H L X Y b n : ℕ) → H ≤ L → 2 * suc n ≤ P → P * X ≤ P * Y + (X + suc n * (H * b)) → (2 * n + 1) * X + suc n * (H * b) ≤ 2 * suc n * (L * b + Y)
key P H L X Y b n l k h = go (X - Y) (omega arith) (excess P (2 * suc n) X Y (suc n * (H * b)) k h)
  where
    go : (D : ℕ) → X ≤ Y + D → 2 * suc n * D ≤ X + suc n * (H * b) → (2 * n + 1) * X + suc n * (H * b) ≤ 2 * suc n * (L * b + Y)
    go D e d = omega (arith, mul-le-mul_right b l, mul-le-mul_left n (mul-le-mul_right b l), mul-le-mul_left n e)

-- Pt and Nt are the sums of the quotients' parts, Fr and Br of the dividends', A and R of the magnitudes; b is the
-- divisor's magnitude.
gather : (H L b n Pt Nt Fr Br R : ℕ)
    → Within (H * 2 * (Pt * b + Br * L)) (H * 2 * (Nt * b + Fr * L)) (R * L + suc n * (H * b))
    → Within (H * 2 * (b + Br)) (H * 2 * (0 + Fr)) (2 * n * R)
    → Within (H * 2 * (Pt * b)) (H * 2 * ((Nt + L) * b)) ((2 * n + 1) * (R * L) + suc n * (H * b))
gather H L b n Pt Nt Fr Br R h1 h2 =
    let g = times L (H * 2 * (b + Br)) (H * 2 * (0 + Fr)) (2 * n * R) h2 in
    omega arith

final : (H L b n Pt Nt R A : ℕ) → H ≤ L → suc n ≤ H → 0 < b
    → Within (H * 2 * (Pt * b)) (H * 2 * ((Nt + L) * b)) ((2 * n + 1) * (R * L) + suc n * (H * b))
    → H * 2 * (R * L) ≤ H * 2 * (A * b) + (R * L + suc n * (H * b))
    → Within (H * Pt) (H * (Nt + L)) (suc n * (L + A))
final H L b n Pt Nt R A l k B h1 h3 =
    let q = key (H * 2) H L (R * L) (A * b) b n l (omega arith) h3 in
    let w : Within (2 * b * (H * Pt)) (2 * b * (H * (Nt + L))) (2 * b * (suc n * (L + A))) = (omega arith) in
    cancel (2 * b) (H * Pt) (H * (Nt + L)) (suc n * (L + A)) (mul-pos (pow_pos 1) B) w

-- ---- the theorem
below_low : (f : Format) → prec f - 1 ≤ low f
below_low binary32 = lit≤ tt
below_low binary64 = lit≤ tt

turned : (σ : Bool) (P b p l E : ℕ) → Within (P * (part σ b + l)) (P * (part (not σ) b + p)) E → Within (P * (b + cond σ p l)) (P * (0 + cond σ l p)) E
turned false P b p l E h = h
turned true P b p l E h = (h.1, h.0)

room : (n H P : ℕ) → suc n ≤ H → P ≡ H * 2 → 2 * n ≤ P
room n H P h e = omega arith

head_finite : (f : Format) (x : Float) (xs : List Float) (y : Float) → Each finite (quotients f (x ∷ xs) y) → T (finite (div f x y))
unfolding quotients
head_finite f x xs y u = u.0

-- What is known of a list's sum and of the quotients by it, ts: their sum times the divisor's magnitude b, and the
-- magnitudes against one another. R is the sum of the dividends' magnitudes.
pub record Facts (f : Format) (x : Float) (xs ts : List Float) (b R : ℕ) : Type 0 where
  pub above : 0 < b
  pub near : Within (2 ^ (prec f - 1) * 2 * (sum_of (plus f) ts * b)) (2 ^ (prec f - 1) * 2 * ((sum_of (less f) ts + 2 ^ low f) * b)) ((2 * length xs + 1) * (R * 2 ^ low f) + suc (length xs) * (2 ^ (prec f - 1) * b))
  pub sizes : 2 ^ (prec f - 1) * 2 * (R * 2 ^ low f) ≤ 2 ^ (prec f - 1) * 2 * (sum_of (mag f) ts * b) + (R * 2 ^ low f + suc (length xs) * (2 ^ (prec f - 1) * b))

pub facts : (f : Format) (x : Float) (xs : List Float) → Each (fits f) (x ∷ xs) → T (finite (total f nought (x ∷ xs))) → Each finite (quotients f (x ∷ xs) (total f nought (x ∷ xs))) → length (x ∷ xs) ≤ 2 ^ (prec f - 1)
    → Facts f x xs (quotients f (x ∷ xs) (total f nought (x ∷ xs))) (mag f (total f nought (x ∷ xs))) (sum_of (mag f) (x ∷ xs))
facts f x xs a t u k =
    let rs = x ∷ xs in
    let S = total f nought rs in
    let σ = is_neg S in
    let F : T (fits f S) = total_fits f nought rs (nought_fits f) in
    let P : 0 < prec f = two-le_pos (prec f) (two f) in
    let H = 2 ^ (prec f - 1) in
    let L = 2 ^ low f in
    let p = sum_of (plus f) rs in
    let l = sum_of (less f) rs in
    let ex = exchange f rs σ in
    let tw : 2 ^ prec f ≡ H * 2 = twice (prec f) P in
    let h1 = rw (tw, ex.0, ex.1) at (taps_error f rs S a F t u) in
    let h2 = rw (tw, sum_parts f rs) at (turned σ (2 ^ prec f) (mag f S) p l (2 * length xs * (p + l)) (total_error f x xs a t (room (length xs) H (2 ^ prec f) k tw))) in
    record {
      above = (div_is f x S a.0 F t (head_finite f x xs S u)).0;
      near = gather H L (mag f S) (length xs) (sum_of (plus f) (quotients f rs S)) (sum_of (less f) (quotients f rs S)) (cond σ l p) (cond σ p l) (sum_of (mag f) rs) h1 h2;
      sizes = rw tw at (taps_size f rs S a F t u);
    }

-- The quotients of n values by their sum, which is worked out by rising index: their exact sum is off 1 by no more than
-- n * (1 + A) / 2 ^ (prec - 1), A the sum of their magnitudes.
-- All is in units of the format's smallest value, and multiplied by 2 ^ (prec - 1). The sum is not 0, since a quotient
-- by 0 is not finite.
pub normalized : (f : Format) (x : Float) (xs : List Float) → Each (fits f) (x ∷ xs) → T (finite (total f nought (x ∷ xs))) → Each finite (quotients f (x ∷ xs) (total f nought (x ∷ xs))) → length (x ∷ xs) ≤ 2 ^ (prec f - 1)
    → Within (2 ^ (prec f - 1) * sum_of (plus f) (quotients f (x ∷ xs) (total f nought (x ∷ xs))))
    (2 ^ (prec f - 1) * (sum_of (less f) (quotients f (x ∷ xs) (total f nought (x ∷ xs))) + 2 ^ low f))
    (length (x ∷ xs) * (2 ^ low f + sum_of (mag f) (quotients f (x ∷ xs) (total f nought (x ∷ xs)))))
normalized f x xs a t u k =
    let ts = quotients f (x ∷ xs) (total f nought (x ∷ xs)) in
    let c = facts f x xs a t u k in
    final (2 ^ (prec f - 1)) (2 ^ low f) (mag f (total f nought (x ∷ xs))) (length xs) (sum_of (plus f) ts) (sum_of (less f) ts) (sum_of (mag f) (x ∷ xs)) (sum_of (mag f) ts) (pow_mono (below_low f)) k c.above c.near c.sizes
