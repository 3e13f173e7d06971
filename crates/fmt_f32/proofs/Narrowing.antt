-- The pattern of a value of one format rounded to another, which has r digits less and whose smallest normal value is 2
-- ^ e times as large. Over any two formats. Assumes nothing.
use mathlib.Core.Path.{◌≡◌, ap, ◌∙◌, subst}
use mathlib.Core.Bool.{Bool, cond}
use Prim.Native.Nat.{ℕ, zero, suc, ◌+◌, ◌-◌, ◌*◌, ◌^◌, ◌≤◌, ◌<◌}
use native.Mathlib.Nat.{le_trans, le_of_eq, le_of_lt, lt_of_lt_of_le, le-add_right, add-zero}
use native.Mathlib.Numerals.{add-one}
use native.Mathlib.Omega.{arith}
use borrow.Author.Tests.{ne_eqb, eq-eqb}
use lib.Pow.{pow_pos, pow_mono, shl_lt}
use lib.Ieee.{Float, nan, inf, fin, Format, prec, emax, low, hid, ones, top, size, up, down, odd, of_fields, to_bits}
use lib.Ieee.Digits.{size-le}
use lib.Ieee.Fits.{two, two-le_pos, down_pos}
use lib.Ieee.Exact.{HasValue, odd_sign}
use lib.Ieee.Nearest.{closest}
use lib.Ieee.Scale.{round_same}
use Rattle.laws.specs.Patterns.{shifted_size}
use Rattle.laws.specs.Closest.{closest_cancel, closest_none}
use Rattle.laws.specs.Rounding.{twice}
use Rattle.laws.specs.RoundedBits.{capped, inf_pattern, cut_bits}
use Rattle.fmt_f32.specs.Single.{round_to}

-- ---- a value of w units, d digits of which are below those of f
value_bits : (f : Format) (l d : ℕ) → l ≡ low f + d → (v : Float) (s : Bool) (w k : ℕ) → HasValue v s w (2 ^ l) → size w - d - prec f ≡ k
    → to_bits f (round_to f v) ≡ cond s (top f) 0 + capped f (k * hid f + closest w (2 ^ (d + k)))
unfolding round_to
value_bits f l d c nan s w k v z = absurd v
value_bits f l d c (inf t) s w k v z = absurd v
value_bits f l d c (fin t m e) s w k v z =
    rw v.0 (ap (to_bits f) (round_same f s (m * up e) (down e) w (2 ^ (low f + d)) (down_pos e) (pow_pos (low f + d)) (subst (λ (x : ℕ). m * up e * 2 ^ x ≡ w * down e) c v.1)) ∙ cut_bits f s w d k z)

-- below half of f's smallest value, which is 2 ^ d units
tiny_bits : (f : Format) (l d i : ℕ) → l ≡ low f + d → (v : Float) (s : Bool) (w : ℕ) → HasValue v s w (2 ^ l) → w < 2 ^ i → i < d → to_bits f (round_to f v) ≡ cond s (top f) 0 + 0
tiny_bits f l d i c v s w h t I =
    let u : w * 2 < 2 ^ d = lt_of_lt_of_le (shl_lt i 1 t) (pow_mono (le_trans (le_of_eq (add-one i)) I)) in
    value_bits f l d c v s w 0 h (none (size w) d (prec f) (le_trans (size-le w i t) (le_of_lt I)))
    ∙ rw (add-zero d, closest_none w (2 ^ d) u) (omega arith)
  where
    none : (z d p : ℕ) → z ≤ d → z - d - p ≡ 0
    none z d p h = omega arith

-- ---- a value of g by the field x of its exponent and its digits t
module _ (f g : Format) (r e : ℕ) (P : prec g ≡ prec f + r) (L : low g ≡ low f + (r + e)) (s : Bool) (t : ℕ) (T : t < hid g) where
  with_lead : hid g + t < 2 ^ prec g
  with_lead = go (hid g) (2 ^ prec g) (twice (prec g) (two-le_pos (prec g) (two g))) T
    where
      go : (h p : ℕ) → p ≡ h * 2 → t < h → h + t < p
      go h p e l = omega arith

  finite : (x : ℕ) → suc x < ones g → of_fields g s (suc x) t ≡ odd (prec g) s (hid g + t) x (low g)
  unfolding of_fields
  finite x h = rw (ne_eqb (suc x) (ones g) (omega arith))

  -- with the leading digit: f drops k digits of its own, and j digits of g's are rounded away
  pub lead_bits : (x k j : ℕ) → suc x < ones g → x - e ≡ k → r + e + k ≡ x + j
      → to_bits f (round_to f (of_fields g s (suc x) t)) ≡ cond s (top f) 0 + capped f (k * hid f + closest (hid g + t) (2 ^ j))
  lead_bits x k j O K J =
      let n = hid g + t in
      let z = shifted_size (prec g) n x (two-le_pos (prec g) (two g)) (le-add_right (hid g) t) with_lead in
      ap (λ (v : Float). to_bits f (round_to f v)) (finite x O)
      ∙ value_bits f (low g) (r + e) L (odd (prec g) s n x (low g)) s (n * 2 ^ x) k (odd_sign (prec g) s n x (low g)) (dropped (size (n * 2 ^ x)) (prec g) (prec f) z P)
      ∙ rw (J, closest_cancel n x j)
    where
      dropped : (z p q : ℕ) → z ≡ p + x → p ≡ q + r → z - (r + e) - q ≡ k
      dropped z p q a b = omega arith

  -- below half of f's smallest value
  pub none_bits : (x : ℕ) → x < ones g → prec g + x ≤ r + e → to_bits f (round_to f (of_fields g s x t)) ≡ cond s (top f) 0 + 0
  unfolding of_fields
  none_bits zero O h =
      tiny_bits f (low g) (r + e) (prec g - 1 + 0) L (odd (prec g) s t 0 (low g)) s (t * 2 ^ 0) (odd_sign (prec g) s t 0 (low g)) (shl_lt (prec g - 1) 0 T) (less (prec g) (two g) h)
    where
      less : (p : ℕ) → 2 ≤ p → p + 0 ≤ r + e → p - 1 + 0 < r + e
      less p h l = omega arith
  none_bits (suc x) O h =
      ap (λ (v : Float). to_bits f (round_to f v)) (finite x O)
      ∙ tiny_bits f (low g) (r + e) (prec g + x) L (odd (prec g) s (hid g + t) x (low g)) s ((hid g + t) * 2 ^ x) (odd_sign (prec g) s (hid g + t) x (low g)) (shl_lt (prec g) x with_lead) (less (prec g) h)
    where
      less : (p : ℕ) → p + suc x ≤ r + e → p + x < r + e
      less p l = omega arith

-- an infinity
pub inf_bits : (f g : Format) (s : Bool) (x : ℕ) → x ≡ ones g → to_bits f (round_to f (of_fields g s x 0)) ≡ cond s (top f) 0 + ones f * hid f
unfolding round_to of_fields
inf_bits f g s zero e = absurd (none (emax g) e)
  where
    none : (n : ℕ) → 0 ≡ 2 * n + 1 → ⊥
    none n h = omega arith
inf_bits f g s (suc x) e = rw (eq-eqb (suc x) (ones g) e) (inf_pattern f s)
