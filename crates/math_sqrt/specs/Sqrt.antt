-- What the square root of an f64 is: first as a relation that a reader can judge, then as a function that can be run.
-- Definitions only; `Laws` proves that the two agree.
use Rattle.std.specs.Prelude.{◌≡◌, true, false, cond, ℕ, zero, suc, ◌+◌, ◌-◌, ◌*◌, ◌/◌, ◌^◌, ◌<◌, T, leb, Float}
use Rattle.std.specs.Float.{nan, inf, fin, Format, binary64}
use Rattle.std.specs.Float.Ieee.{low, size, of_bits, fits}
use Rattle.std.specs.Float.Ieee.Scale.{finite}
use Rattle.laws.specs.Units.{mag, is_neg}

-- r is the value of the format that is nearest to the root of x: for every other value y of the format, the root lies
-- on r's side of the middle between r and y.
-- The root of x is below (r + y) / 2 exactly where 4 * x is below (r + y) * (r + y). In units of the format's smallest
-- value, r is mag r and x is mag x, and a product of two values is to be divided by 2 ^ low: hence the factor.
-- The root is never the middle itself, so that ties to even never has to decide. Only magnitudes are compared: a
-- negative y says what -y says, and one that is not finite counts as 0.
pub record NearestRoot (f : Format) (x r : Float) : Type 0 where
  pub over : (y : Float) → T (fits f y) → mag f r < mag f y → 4 * (mag f x * 2 ^ low f) < (mag f r + mag f y) * (mag f r + mag f y)
  pub under : (y : Float) → T (fits f y) → mag f y < mag f r → (mag f r + mag f y) * (mag f r + mag f y) < 4 * (mag f x * 2 ^ low f)

-- r is the square root of x. A zero and +infinity are their own; what is below 0 has none, and neither has a NaN.
unfoldable pub SqrtOf : Float → Float → Type 0
SqrtOf nan r = r ≡ nan
SqrtOf (inf true) r = r ≡ nan
SqrtOf (inf false) r = r ≡ inf false
SqrtOf (fin s zero e) r = r ≡ fin s zero e
SqrtOf (fin true (suc m) e) r = r ≡ nan
SqrtOf (fin false (suc m) e) r = T (finite r) × (is_neg r ≡ false) × NearestRoot binary64 (fin false (suc m) e) r

-- The greatest whole number whose square is not above n, for an n below 4 ^ k: it has one binary digit more than that
-- of n / 4.
unfoldable pub root_by : ℕ → ℕ → ℕ
root_by zero n = 0
root_by (suc k) n = let r = 2 * root_by k (n / 4) in cond (leb ((r + 1) * (r + 1)) n) (r + 1) r

-- the same for every n, which has size n digits and so is below 4 ^ size n
unfoldable pub whole_root : ℕ → ℕ
unfolding root_by size
whole_root n = root_by (size n) n

-- The bit pattern of the f64 nearest to the root of the f64 of X units of 2 ^ -1074, for an X above 0.
-- X is m * 2 ^ (2 * h) / 2 ^ 1024, for an m from 2 ^ 52 up to 2 ^ 54. The division that makes m loses nothing, since an
-- f64 has 53 digits at most.
-- So the root is half the root of m * 2 ^ 54, times 2 ^ (h - 1) units. The whole part q of the root of m * 2 ^ 54 has
-- 54 digits, one more than an f64 keeps. Half of it is rounded up where q is odd: the root is then above q, as the
-- square of q is odd and m * 2 ^ 54 is not.
-- The exponent's field of a value of 53 digits times 2 ^ (h - 1) units is h, and the leading digit adds the one that is
-- missing from h - 1.
unfoldable pub root_pattern : ℕ → ℕ
unfolding whole_root size
root_pattern X =
    let h = (size X + 971) / 2 in
    let m = X * 2 ^ 1024 / 2 ^ (2 * h) in
    let q = whole_root (m * 2 ^ 54) in
    (h - 1) * 2 ^ 52 + (q + 1) / 2

-- the square root of x, worked out
unfoldable pub sqrt_of : Float → Float
unfolding mag of_bits root_pattern
sqrt_of nan = nan
sqrt_of (inf true) = nan
sqrt_of (inf false) = inf false
sqrt_of (fin s zero e) = fin s zero e
sqrt_of (fin true (suc m) e) = nan
sqrt_of (fin false (suc m) e) = of_bits binary64 (root_pattern (mag binary64 (fin false (suc m) e)))
