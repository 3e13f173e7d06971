-- Rounding error, over whole numbers. Assumes nothing.
use Rattle.std.specs.Prelude.{◌≡◌}
use Rattle.std.proofs.Common.{sym, ap, ◌∙◌, subst, inl, inr, le_trans, le_of_eq, le-add_right, lt_irrefl, eq-zero-or-pos, mod-lt, div-add-mod', mul-one, mul_comm, mul_assoc, mul-le-mul_left, mul-le-mul_right, mul-pos, le-div_iff_mul-le, mul-div_cancel, pow-suc, arith, pow-add, pow_pos, shl_lt}
use Prim.Native.Nat.{ℕ, zero, suc, ◌+◌, ◌-◌, ◌*◌, ◌/◌, ◌%◌, ◌^◌, ◌≤◌, ◌<◌, compare, Ordering}
use Rattle.std.proofs.Math.Nat.{le_of_mul-le-mul_left}
use Rattle.std.specs.Float.{Format}
use Rattle.std.specs.Float.Ieee.{prec, low, size, nearest}
use Rattle.std.specs.Float.Ieee.Digits.{size_reaches, size-le, back}
use Rattle.std.specs.Float.Ieee.Fits.{two, two-le_pos}
use Rattle.std.specs.Float.Ieee.Nearest.{closest}
use Rattle.std.specs.Float.Ieee.Order.{drop, kept}
use Rattle.std.specs.Float.Ieee.Scale.{grid}
use Rattle.laws.specs.Closest.{Ordered, compare_says}

-- a and b differ by at most c
abbrev pub Within : ℕ → ℕ → ℕ → Type 0
Within a b c = (a ≤ b + c) × (b ≤ a + c)

bit : (q : ℕ) → q % 2 ≤ 1
bit q = omega arith

-- n = q * u + r: the nearest multiple of u is at most u / 2 away
near_half : (q r u n : ℕ) (o : Ordering) → q * u + r ≡ n → r < u → Ordered o (r * 2) u → Within (2 * (nearest q o * u)) (2 * n) u
near_half q r u n Ordering.lt e l c = omega arith
near_half q r u n Ordering.eq e l c = let h : q % 2 * u ≤ 1 * u = mul-le-mul_right u (bit q) in omega arith
near_half q r u n Ordering.gt e l c = omega arith

pub closest_half : (n u : ℕ) → 0 < u → Within (2 * (closest n u * u)) (2 * n) u
closest_half n u U = near_half (n / u) (n % u) u n (compare (n % u * 2) u) (div-add-mod' n u) (mod-lt n U) (compare_says (n % u * 2) u)

-- ---- `Within` under a factor
pub times : (h a b c : ℕ) → Within a b c → Within (h * a) (h * b) (h * c)
times h a b c w =
    let x : h * a ≤ h * (b + c) = mul-le-mul_left h w.0 in
    let y : h * b ≤ h * (a + c) = mul-le-mul_left h w.1 in
    omega arith

pub cancel : (h a b c : ℕ) → 0 < h → Within (h * a) (h * b) (h * c) → Within a b c
cancel h a b c H w =
    let x : h * a ≤ h * (b + c) = omega arith in
    let y : h * b ≤ h * (a + c) = omega arith in
    (le_of_mul-le-mul_left x H, le_of_mul-le-mul_left y H)

pub twice : (p : ℕ) → 0 < p → 2 ^ p ≡ 2 ^ (p - 1) * 2
twice zero h = absurd (lt_irrefl 0 h)
twice (suc p) h = pow-suc 2 p ∙ ap (λ (x : ℕ). 2 ^ x * 2) (back p)
  where
    back : (x : ℕ) → x ≡ suc x - 1
    back x = omega arith

-- ---- the unit, against the number
all_in_use : (z p : ℕ) → 0 < p → 0 < z - p → p - 1 + (z - p) < z
all_in_use z p P h = omega arith

-- where digits are dropped
pub half_unit : (p n c : ℕ) → 0 < p → 0 < c → 0 < drop p n c → 2 ^ (p - 1) * (c * 2 ^ drop p n c) ≤ n
half_unit p n c P C K =
    let k = drop p n c in
    let a : 2 ^ (p - 1 + k) * c ≤ n = (le-div_iff_mul-le C).0 (size_reaches (n / c) (p - 1 + k) (all_in_use (size (n / c)) p P K)) in
    let e : 2 ^ (p - 1 + k) ≡ 2 ^ (p - 1) * 2 ^ k = pow-add 2 (p - 1) k in
    let b : 2 ^ (p - 1) * 2 ^ k * c ≤ n = rw e at a in
    le_trans (le_of_eq (ap (λ (x : ℕ). 2 ^ (p - 1) * x) (mul_comm c (2 ^ k)) ∙ sym (mul_assoc (2 ^ (p - 1)) (2 ^ k) c))) b

slack : (p n c : ℕ) → 0 < p → 0 < c → 2 ^ (p - 1) * (c * 2 ^ drop p n c) ≤ n + 2 ^ (p - 1) * c
slack p n c P C = elim (eq-zero-or-pos (drop p n c)) [
  | inl z ↦ subst (λ (k : ℕ). 2 ^ (p - 1) * (c * 2 ^ k) ≤ n + 2 ^ (p - 1) * c) (sym z) (none (2 ^ (p - 1)))
  | inr K ↦ le_trans (half_unit p n c P C K) (le-add_right n (2 ^ (p - 1) * c))
]
  where
    none : (h : ℕ) → h * (c * 1) ≤ n + h * c
    none h = omega arith

pub kept_error : (p n c : ℕ) → 0 < p → 0 < c → Within (2 ^ p * (kept p n c * 2 ^ drop p n c * c)) (2 ^ p * n) (2 ^ (p - 1) * (c * 2 ^ drop p n c))
kept_error p n c P C =
    let k = drop p n c in
    let q = kept p n c in
    rw (twice p P) (go (2 ^ (p - 1)) q (2 ^ k) (closest_half n (c * 2 ^ k) (mul-pos C (pow_pos k))))
  where
    go : (h q t : ℕ) → Within (2 * (q * (c * t))) (2 * n) (c * t) → Within (h * 2 * (q * t * c)) (h * 2 * n) (h * (c * t))
    go h q t w = let x = times h (2 * (q * (c * t))) (2 * n) (c * t) w in omega arith

-- a / c rounded, in units: off by no more than 2 ^ -prec of itself and half a unit. All of it is multiplied by 2 ^ prec
-- * c
pub grid_error : (f : Format) (a c : ℕ) → 0 < c → Within (2 ^ prec f * (grid f a c * c)) (2 ^ prec f * (a * 2 ^ low f)) (a * 2 ^ low f + 2 ^ (prec f - 1) * c)
grid_error f a c C =
    let p = prec f in
    let P : 0 < p = two-le_pos p (two f) in
    let n = a * 2 ^ low f in
    go (kept_error p n c P C) (slack p n c P C)
  where
    go : {x y z w : ℕ} → Within x y z → z ≤ w → Within x y w
    go h l = omega arith

-- where a / c is w units, a whole number: the half unit is gone
same : (q w c t n : ℕ) → 0 < c → t ≡ 1 → n ≡ w * c → Within (2 * (q * (c * t))) (2 * n) (c * t) → q * t ≡ w
same q w c t n C T e h =
    let a : Within (2 * (q * (c * 1))) (2 * (w * c)) (c * 1) = subst (λ (x : ℕ). Within (2 * (q * (c * x))) (2 * (w * c)) (c * x)) T (subst (λ (x : ℕ). Within (2 * (q * (c * t))) (2 * x) (c * t)) e h) in
    let b : Within (c * (2 * q)) (c * (2 * w)) (c * 1) = omega arith in
    let d : Within (2 * q) (2 * w) 1 = cancel c (2 * q) (2 * w) 1 C b in
    let g : q ≡ w = omega arith in
    ap (λ (x : ℕ). q * x) T ∙ mul-one q ∙ g

drop_unit : (P H g w c t n : ℕ) → 0 < c → n ≡ w * c → Within (P * (g * c)) (P * n) (H * (c * t)) → H * (c * t) ≤ n → Within (P * g) (P * w) w
drop_unit P H g w c t n C e h l =
    let a : Within (P * (g * c)) (P * (w * c)) (w * c) = subst (λ (x : ℕ). Within (P * (g * c)) (P * x) x) e (weak h l) in
    cancel c (P * g) (P * w) w C (omega arith)
  where
    weak : {x y z v : ℕ} → Within x y z → z ≤ v → Within x y v
    weak h l = omega arith

pub grid_error_whole : (f : Format) (a c w : ℕ) → 0 < c → a * 2 ^ low f ≡ w * c → Within (2 ^ prec f * grid f a c) (2 ^ prec f * w) w
grid_error_whole f a c w C e =
    let p = prec f in
    let P : 0 < p = two-le_pos p (two f) in
    let n = a * 2 ^ low f in
    let k = drop p n c in
    elim (eq-zero-or-pos k) [
      | inl z ↦ exact (2 ^ p) (grid f a c) w (same (kept p n c) w c (2 ^ k) n C (ap (λ (x : ℕ). 2 ^ x) z) e (closest_half n (c * 2 ^ k) (mul-pos C (pow_pos k))))
      | inr K ↦ drop_unit (2 ^ p) (2 ^ (p - 1)) (grid f a c) w c (2 ^ k) n C e (kept_error p n c P C) (half_unit p n c P C K)
    ]
  where
    exact : (x g v : ℕ) → g ≡ v → Within (x * g) (x * v) v
    exact x g v h = let y : x * g ≡ x * v = ap (λ (z : ℕ). x * z) h in omega arith

-- where w has no more digits than the format keeps, but for zeros at its end, it is kept as it is
spare : (z p l : ℕ) → z ≤ p + l → z - p ≤ l
spare z p l h = omega arith

only : (q r u n : ℕ) → 0 < u → n ≡ r * u → Within (2 * (q * u)) (2 * n) u → q ≡ r
only q r u n U e h =
    let a : Within (2 * (q * u)) (2 * (r * u)) u = subst (λ (x : ℕ). Within (2 * (q * u)) (2 * x) u) e h in
    let b : Within (u * (2 * q)) (u * (2 * r)) (u * 1) = omega arith in
    let d : Within (2 * q) (2 * r) 1 = cancel u (2 * q) (2 * r) 1 U b in
    omega arith

pub grid_exact : (f : Format) (a c w q j : ℕ) → 0 < c → a * 2 ^ low f ≡ w * c → w ≡ q * 2 ^ j → q < 2 ^ prec f → grid f a c ≡ w
grid_exact f a c w q j C e g small =
    let p = prec f in
    let n = a * 2 ^ low f in
    let k = drop p n c in
    let v : n / c ≡ w = ap (λ (x : ℕ). x / c) e ∙ mul-div_cancel w C in
    let l : k ≤ j = spare (size (n / c)) p j (size-le (n / c) (p + j) (subst (λ (x : ℕ). x < 2 ^ (p + j)) (sym (v ∙ g)) (shl_lt p j small))) in
    let r = q * 2 ^ (j - k) in
    let h : r * 2 ^ k ≡ w = mul_assoc q (2 ^ (j - k)) (2 ^ k) ∙ ap (λ (x : ℕ). q * x) (sym (pow-add 2 (j - k) k) ∙ ap (λ (x : ℕ). 2 ^ x) (back j k l)) ∙ sym g in
    let i : n ≡ r * (c * 2 ^ k) = e ∙ ap (λ (x : ℕ). x * c) (sym h) ∙ mul_assoc r (2 ^ k) c ∙ ap (λ (x : ℕ). r * x) (mul_comm (2 ^ k) c) in
    let u : 0 < c * 2 ^ k = mul-pos C (pow_pos k) in
    ap (λ (x : ℕ). x * 2 ^ k) (only (kept p n c) r (c * 2 ^ k) n u i (closest_half n (c * 2 ^ k) u)) ∙ h
