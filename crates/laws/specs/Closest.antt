-- The nearest whole number to a fraction, ties to even: by the remainder, by one division, and how a factor or a sum
-- moves it. Assumes nothing.
use Rattle.std.specs.Prelude.{◌≡◌, refl, ◌⊎◌, not, T, eqb}
use Rattle.std.proofs.Common.{sym, ap, ◌∙◌, subst, inl, inr, zero-lt-suc, eq-zero-or-pos, mul_assoc, mul-pos, mod-lt, mod-eq_of_lt, div-add-mod', arith, leb→le, eqb→eq, pow-add, pow_pos}
use Prim.Native.Nat.{ℕ, ◌+◌, ◌-◌, ◌*◌, ◌/◌, ◌%◌, ◌^◌, ◌<◌, ◌≤◌, compare, Ordering}
use Rattle.std.proofs.Math.Nat.{div-eq_of_lt, div-eq_of_lt-le, add-mul-div_right, add-mul-mod_self_right}
use Rattle.std.proofs.Math.Dec.{is_le, compare_is_eq, nleb→lt, eqb_refl}
use Rattle.std.proofs.Math.Arith.{lt_of_le-ne}
use Rattle.std.specs.Float.Ieee.{nearest}
use Rattle.std.specs.Float.Ieee.Nearest.{closest, closest_same}

-- ---- what `compare` says
abbrev pub Ordered : Ordering → ℕ → ℕ → Type 0
Ordered Ordering.lt a b = a < b
Ordered Ordering.eq a b = a ≡ b
Ordered Ordering.gt a b = b < a

pub compare_says : (a b : ℕ) → Ordered (compare a b) a b
compare_says a b = go (compare a b) (leb→le a b) (nleb→lt a b) (eqb→eq a b) (λ (e : a ≡ b). subst (λ (x : ℕ). T (eqb a x)) e (eqb_refl a))
  where
    go : (o : Ordering) → (T (is_le o) → a ≤ b) → (T (not (is_le o)) → b < a) → (T (compare_is_eq o) → a ≡ b) → (a ≡ b → T (compare_is_eq o)) → Ordered o a b
    go Ordering.lt h k e n = lt_of_le-ne (h tt) n
    go Ordering.eq h k e n = e tt
    go Ordering.gt h k e n = k tt

one_order : (a b : ℕ) (o p : Ordering) → Ordered o a b → Ordered p a b → o ≡ p
one_order a b Ordering.lt Ordering.lt x y = refl
one_order a b Ordering.lt Ordering.eq x y = absurd (omega arith)
one_order a b Ordering.lt Ordering.gt x y = absurd (omega arith)
one_order a b Ordering.eq Ordering.lt x y = absurd (omega arith)
one_order a b Ordering.eq Ordering.eq x y = refl
one_order a b Ordering.eq Ordering.gt x y = absurd (omega arith)
one_order a b Ordering.gt Ordering.lt x y = absurd (omega arith)
one_order a b Ordering.gt Ordering.eq x y = absurd (omega arith)
one_order a b Ordering.gt Ordering.gt x y = refl

-- the nearest whole number by the remainder, which is below a half, a half or above it
pub closest_by : (n u : ℕ) (o : Ordering) → Ordered o (n % u * 2) u → closest n u ≡ nearest (n / u) o
closest_by n u o h = ap (λ (p : Ordering). nearest (n / u) p) (one_order (n % u * 2) u (compare (n % u * 2) u) o (compare_says (n % u * 2) u) h)

-- the nearest whole number to n / 2 h as one division: h - 1 more carries above a half, and at a half the 1 of an odd
-- quotient does
pub closest_added : (n h : ℕ) → 0 < h → closest n (2 * h) ≡ (n + (h - 1) + n / (2 * h) % 2) / (2 * h)
closest_added n h H = sym (go (n / (2 * h)) (n % (2 * h)) (compare (n % (2 * h) * 2) (2 * h)) (div-add-mod' n (2 * h)) (mod-lt n (mul-pos (zero-lt-suc 1) H)) (compare_says (n % (2 * h) * 2) (2 * h)))
  where
    tie : (q r : ℕ) → q * (2 * h) + r ≡ n → r * 2 ≡ 2 * h → (q % 2 ≡ 0) ⊎ (q % 2 ≡ 1) → (n + (h - 1) + q % 2) / (2 * h) ≡ q + q % 2
    tie q r e c (inl z) = rw z (div-eq_of_lt-le (2 * h) (omega arith) (omega arith))
    tie q r e c (inr z) = rw z (div-eq_of_lt-le (2 * h) (omega arith) (omega arith))

    parity : (q : ℕ) → (q % 2 ≡ 0) ⊎ (q % 2 ≡ 1)
    parity q = elim (eq-zero-or-pos (q % 2)) [ inl z ↦ inl z | inr o ↦ inr (omega arith) ]

    go : (q r : ℕ) (o : Ordering) → q * (2 * h) + r ≡ n → r < 2 * h → Ordered o (r * 2) (2 * h) → (n + (h - 1) + q % 2) / (2 * h) ≡ nearest q o
    go q r Ordering.lt e l c = div-eq_of_lt-le (2 * h) (omega arith) (omega arith)
    go q r Ordering.eq e l c = tie q r e c (parity q)
    go q r Ordering.gt e l c = div-eq_of_lt-le (2 * h) (omega arith) (omega arith)

-- an even whole number more
pub closest_even : (n y u : ℕ) → 0 < u → closest (n + 2 * y * u) u ≡ closest n u + 2 * y
closest_even n y u U = rw (add-mul-div_right n (2 * y) U, add-mul-mod_self_right n (2 * y) u) (go (n / u) (compare (n % u * 2) u))
  where
    go : (q : ℕ) (o : Ordering) → nearest (q + 2 * y) o ≡ nearest q o + 2 * y
    go q Ordering.lt = refl
    go q Ordering.eq = omega arith
    go q Ordering.gt = omega arith

-- powers of two cancel
pub closest_cancel : (n x j : ℕ) → closest (n * 2 ^ x) (2 ^ (x + j)) ≡ closest n (2 ^ j)
closest_cancel n x j =
    closest_same (n * 2 ^ x) (2 ^ (x + j)) n (2 ^ j) (pow_pos (x + j)) (pow_pos j) (mul_assoc n (2 ^ x) (2 ^ j) ∙ ap (λ (z : ℕ). n * z) (sym (pow-add 2 x j)))

-- below a half
pub closest_none : (n u : ℕ) → n * 2 < u → closest n u ≡ 0
closest_none n u h =
    let l : n < u = omega arith in
    closest_by n u Ordering.lt (rw (mod-eq_of_lt l) h) ∙ div-eq_of_lt l
