-- What `q14_from_f64` rests on: the two tests of the floor tell together whether the value is finite and its floor has
-- 16 bits, and then casting the floor to an i16 gives it back. Assumes nothing.
use Rattle.std.specs.Prelude.{Err, Ok}
use mathlib.Core.Path.{◌≡◌, refl, sym, ap, ◌∙◌, subst}
use mathlib.Core.Bool.{Bool, true, false, ◌&&◌, cond, true≢false}
use Prim.Native.Nat.{ℕ, zero, suc}
use native.Mathlib.Omega.{arith}
use borrow.Author.Tests.{leb-true, leb-false, le-leb, lt-leb}
use lib.Dec.{leb, lit≤}
use lib.IntN.{ℤ, pos}
use lib.Ieee.{Float, nan, inf, fin, round, le, eq}
use lib.Ieee.Scale.{finite}
use Rattle.laws.specs.Floor.{floor_z}
use Rattle.laws.specs.Units.{nought}
use Rattle.laws.specs.WholeValues.{signed}
use Rattle.math_round.specs.Whole.{floor_of}
use Rattle.fmt_q15.specs.Q15.{in16}
use Rattle.fmt_q14.specs.Q14.{moved, q14_of, takes, outside, q14_tap_of}
use Rattle.math_round.specs.FloorAs.{rounded, floor_as}
use Rattle.fmt_q15.specs.WholeFloats.{most, least, signs_order, stays, turned, Cut, cut_some, cut_none}

-- ---- both tests of a whole number
one_less : (n : ℕ) → leb n 32768 ≡ in16 (signed true n)
one_less zero = refl
one_less (suc k) = go (leb k 32767) refl
  where
    go : (b : Bool) → leb k 32767 ≡ b → leb (suc k) 32768 ≡ b
    go true h = let l = leb-true k 32767 h in le-leb (suc k) 32768 (omega arith)
    go false h = let l = leb-false k 32767 h in lt-leb (suc k) 32768 (omega arith)

all : (b : Bool) → (b && true) ≡ b
all true = refl
all false = refl

ends : (s : Bool) (n : ℕ) → (le least (rounded s n) && le (rounded s n) most) ≡ in16 (signed s n)
unfolding round
ends false n = ap (λ (b : Bool). b && le (rounded false n) most) (signs_order 32768 n) ∙ stays n 32767 (lit≤ tt)
ends true n =
    ap (λ (b : Bool). le least (rounded true n) && b) (signs_order n 32767)
    ∙ all (le least (rounded true n))
    ∙ turned n 32768
    ∙ stays n 32768 (lit≤ tt)
    ∙ one_less n

-- ---- the same of a value's floor, as the code's paths ask it
tests : (w v : Float) → v ≡ floor_of w → (le least v && le v most) ≡ (finite w && in16 (floor_z w))
tests w v e = ap (λ (v : Float). le least v && le v most) e ∙ go w
  where
    go : (w : Float) → (le least (floor_of w) && le (floor_of w) most) ≡ (finite w && in16 (floor_z w))
    go nan = unfold le floor_of in refl
    go (inf true) = unfold le floor_of in refl
    go (inf false) = unfold le floor_of in refl
    go (fin s m e) = floor_as (λ v z. (le least v && le v most) ≡ in16 z) ends s m e

-- both tests pass
module _ (w v : Float) (e : v ≡ floor_of w) (a : le least v ≡ true) (b : le v most ≡ true) where
  taken : (finite w && in16 (floor_z w)) ≡ true
  taken = sym (tests w v e) ∙ ap (λ (t : Bool). t && le v most) a ∙ b

  -- what holds of every whole number of 16 bits holds of the floor
  inner : (P : Float → ℤ → Type 0) → ((s : Bool) (n : ℕ) → in16 (signed s n) ≡ true → P (rounded s n) (signed s n)) → P v (floor_z w)
  inner P p = subst (λ (v : Float). P v (floor_z w)) (sym e) (go w taken)
    where
      go : (w : Float) → (finite w && in16 (floor_z w)) ≡ true → P (floor_of w) (floor_z w)
      go nan h = absurd (true≢false (sym h))
      go (inf s) h = absurd (true≢false (sym h))
      go (fin s m e) h = floor_as (λ v z. in16 z ≡ true → P v z) p s m e h

  pub floor_nought : eq v nought ≡ true → pos 0 ≡ floor_z w
  floor_nought c = inner (λ v z. eq v nought ≡ true → pos 0 ≡ z) cut_none c

  pub floor_cut : eq v nought ≡ false → Cut v (floor_z w)
  floor_cut c = inner (λ v z. eq v nought ≡ false → Cut v z) cut_some c

-- ---- what comes of it
outcome : (i : ℕ) (x : Float) (t : Bool) → (finite (moved x) && in16 (floor_z (moved x))) ≡ t → cond t (Ok (floor_z (moved x))) (Err (outside i x)) ≡ q14_tap_of i x
unfolding q14_tap_of takes q14_of
outcome i x t h = ap (λ (t : Bool). cond t (Ok (floor_z (moved x))) (Err (outside i x))) (sym h)

pub code_number : (i : ℕ) (x v : Float) (q : ℤ) → v ≡ floor_of (moved x) → le least v ≡ true → le v most ≡ true → q ≡ floor_z (moved x) → Ok q ≡ q14_tap_of i x
code_number i x v q e a b z = ap Ok z ∙ outcome i x true (taken (moved x) v e a b)

pub code_low : (i : ℕ) (x v : Float) → v ≡ floor_of (moved x) → le least v ≡ false → Err (outside i x) ≡ q14_tap_of i x
code_low i x v e h = outcome i x false (sym (tests (moved x) v e) ∙ ap (λ (t : Bool). t && le v most) h)

pub code_high : (i : ℕ) (x v : Float) → v ≡ floor_of (moved x) → le v most ≡ false → Err (outside i x) ≡ q14_tap_of i x
code_high i x v e h = outcome i x false (sym (tests (moved x) v e) ∙ ap (λ (t : Bool). le least v && t) h ∙ none (le least v))
  where
    none : (t : Bool) → (t && false) ≡ false
    none true = refl
    none false = refl
