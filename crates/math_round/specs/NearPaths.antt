-- What each path of `floor` and `floor_small` rests on: the whole number near x, or the one under it, or x itself is
-- the floor. Assumes nothing.
use Rattle.std.specs.Prelude.{◌≡◌, ℕ, ◌+◌, ◌*◌, ◌^◌, ◌<◌, ◌≤◌, Bool, true, false, cond, not, ◌&&◌, T, pos, refl, Float}
use Rattle.std.proofs.Common.{sym, ap, ◌∙◌, le_of_lt, arith, ltb-true, ltb-false, pow_pos}
use Rattle.std.proofs.lemmas.Bool.{false≢true}
use Rattle.std.specs.Float.{nan, inf, fin, binary64}
use Rattle.std.specs.Float.Ieee.{low, up, down, add, sub, neg, lt, fits}
use Rattle.std.specs.Float.Ieee.Fits.{add-fits, sub-fits}
use Rattle.std.specs.Float.Ieee.Scale.{finite}
use Rattle.laws.specs.Compared.{lt_units}
use Rattle.laws.specs.Operations.{dist}
use Rattle.laws.specs.Units.{is_neg, mag, part, plus, less}
use Rattle.laws.specs.WholeSums.{add_whole, sum_units}
use Rattle.laws.specs.WholeUnits.{value_finite, units_of_whole, parts_of_whole}
use Rattle.math_round.specs.Whole.{floor_of}
use Rattle.math_round.specs.OneFloor.{Next, floor_is}
use Rattle.math_round.specs.Near.{middle, shifted, near, Small, U, Close, Near, near_is}

-- ---- the code's test for a small size
pub small_of : (x : Float) → lt (fin true 1 (pos 50)) x ≡ true → lt x (fin false 1 (pos 50)) ≡ true → Small x
unfolding lt
small_of nan a b = absurd (false≢true a)
small_of (inf true) a b = absurd (false≢true a)
small_of (inf false) a b = absurd (false≢true b)
small_of (fin false m e) a b = le_of_lt (ltb-true (m * up e * 1) (2 ^ 50 * down e) b)
small_of (fin true m e) a b = le_of_lt (ltb-true (m * up e * 1) (2 ^ 50 * down e) a)

-- ---- what is known of near
near_fits : (x : Float) → T (fits binary64 (near x))
near_fits x = sub-fits binary64 (shifted x) middle

near_finite : (x : Float) (d : Near x) → T (finite (near x))
near_finite x d = value_finite (near x) (is_neg (near x)) d.n 1 d.value

fit : (n : ℕ) → n + 1 ≤ 2 ^ 53 → n ≤ 2 ^ 53
fit n h = omega arith

-- ---- near is above x: the floor is one less
abbrev pub one : Float
one = fin false 1 (pos 0)

one_less : (a b c d p q w l : ℕ) → Close a b p q l → p + b < a + q → c + (b + w) ≡ d + (a + 0) → w ≡ 1 * l → Next c d p q l
one_less a b c d p q w l h k e g = (omega arith, omega arith)

-- near is 1 where the floor is 0: then x is above 0, and the floor has no sign
zero_less : (s r : Bool) (v w n j : ℕ) (t : Bool) (l : ℕ) → 0 < l → v ≡ n * l → Close (part s v) (part (not s) v) (part r w) (part (not r) w) l → part t j + (part (not s) n + 1) ≡ part (not t) j + (part s n + 0) → j ≡ 0 → (s && true) ≡ r
zero_less false false v w n j t l L g h e z = refl
zero_less true true v w n j t l L g h e z = refl
zero_less true false v w n j false l L g h e z = absurd (omega arith)
zero_less true false v w n j true l L g h e z = absurd (omega arith)
zero_less false true v w n j t l L g h e z = absurd (no (is_one t e))
  where
    is_one : (t : Bool) → part t j + (0 + 1) ≡ part (not t) j + (n + 0) → n ≡ 1
    is_one false e = omega arith
    is_one true e = omega arith

    no : n ≡ 1 → ⊥
    no i = let k : n * l ≡ 1 * l = ap (λ (m : ℕ). m * l) i in omega arith

room : (s : Bool) (n : ℕ) → n + 1 ≤ 2 ^ 53 → dist (part s n + 0) (part (not s) n + 1) ≤ 2 ^ 53
room false n h = omega arith
room true n h = omega arith

one_under : (x : Float) → T (fits binary64 x) → Small x → lt x (near x) ≡ true → sub binary64 (near x) one ≡ floor_of x
unfolding sub neg
one_under x F a c =
    let d = near_is x F a in
    let s = is_neg (near x) in
    let back = fin true 1 (pos 0) in
    let y = add binary64 (near x) back in
    let i = add_whole binary64 (near x) back s d.n true 1 d.value (refl, refl) (room s d.n d.small) in
    let j = units_of_whole binary64 y i.sign i.n i.value in
    let h = ltb-true (plus binary64 x + less binary64 (near x)) (plus binary64 (near x) + less binary64 x) (sym (lt_units binary64 x (near x) F (near_fits x) d.known (near_finite x d)) ∙ c) in
    floor_is x y i.n F d.known (add-fits binary64 (near x) back) (value_finite y i.sign i.n 1 i.value) j.1 i.small
    (one_less (plus binary64 (near x)) (less binary64 (near x)) (plus binary64 y) (less binary64 y) (plus binary64 x) (less binary64 x) (less binary64 back) U d.close h
    (sum_units binary64 (near x) back s d.n true 1 d.value (refl, refl) i) (parts_of_whole binary64 back true 1 (refl, refl)).1)
    (λ z. j.0 ∙ i.zero_sign z
    ∙ zero_less s (is_neg x) (mag binary64 (near x)) (mag binary64 x) d.n i.n i.sign U (pow_pos (low binary64)) (units_of_whole binary64 (near x) s d.n d.value).1 d.close i.sums z)

-- ---- near is below x: it is the floor
zero_below : (s r : Bool) (v w : ℕ) → s ≡ false → part s v + part (not r) w < part r w + part (not s) v → s ≡ r
zero_below true r v w e h = absurd (false≢true (sym e))
zero_below false false v w e h = refl
zero_below false true v w e h = absurd (omega arith)

below_next : (a b p q l : ℕ) → Close a b p q l → a + q < p + b → Next a b p q l
below_next a b p q l h k = (omega arith, omega arith)

itself_near : (x : Float) → T (fits binary64 x) → Small x → lt (near x) x ≡ true → near x ≡ floor_of x
itself_near x F a c =
    let d = near_is x F a in
    let h = ltb-true (plus binary64 (near x) + less binary64 x) (plus binary64 x + less binary64 (near x)) (sym (lt_units binary64 (near x) x (near_fits x) F (near_finite x d) d.known) ∙ c) in
    floor_is x (near x) d.n F d.known (near_fits x) (near_finite x d) (units_of_whole binary64 (near x) (is_neg (near x)) d.n d.value).1 (fit d.n d.small)
    (below_next (plus binary64 (near x)) (less binary64 (near x)) (plus binary64 x) (less binary64 x) U d.close h)
    (λ z. zero_below (is_neg (near x)) (is_neg x) (mag binary64 (near x)) (mag binary64 x) (d.zero_sign z) h)

-- ---- near is neither: it has the units of x
same_units : (s r : Bool) (v w : ℕ) → part s v + part (not r) w ≤ part r w + part (not s) v → part r w + part (not s) v ≤ part s v + part (not r) w → w ≡ v
same_units false false v w h k = omega arith
same_units false true v w h k = omega arith
same_units true false v w h k = omega arith
same_units true true v w h k = omega arith

at_itself : (p q l : ℕ) → 0 < l → Next p q p q l
at_itself p q l L = (omega arith, omega arith)

itself : (x : Float) → T (fits binary64 x) → Small x → lt x (near x) ≡ false → lt (near x) x ≡ false → x ≡ floor_of x
itself x F a c c' =
    let d = near_is x F a in
    let h = ltb-false (plus binary64 x + less binary64 (near x)) (plus binary64 (near x) + less binary64 x) (sym (lt_units binary64 x (near x) F (near_fits x) d.known (near_finite x d)) ∙ c) in
    let k = ltb-false (plus binary64 (near x) + less binary64 x) (plus binary64 x + less binary64 (near x)) (sym (lt_units binary64 (near x) x (near_fits x) F (near_finite x d) d.known) ∙ c') in
    let e : mag binary64 x ≡ d.n * U = same_units (is_neg (near x)) (is_neg x) (mag binary64 (near x)) (mag binary64 x) h k ∙ (units_of_whole binary64 (near x) (is_neg (near x)) d.n d.value).1 in
    floor_is x x d.n F d.known F d.known e (fit d.n d.small) (at_itself (plus binary64 x) (less binary64 x) U (pow_pos (low binary64))) (λ z. refl)

-- ---- the choice
pub chosen_is : (x : Float) → T (fits binary64 x) → Small x → cond (lt x (near x)) (sub binary64 (near x) one) (cond (lt (near x) x) (near x) x) ≡ floor_of x
chosen_is x F a = go (lt x (near x)) (lt (near x) x) (one_under x F a) (itself_near x F a) (itself x F a)
  where
    go : (b c : Bool) → (b ≡ true → sub binary64 (near x) one ≡ floor_of x) → (c ≡ true → near x ≡ floor_of x) → (b ≡ false → c ≡ false → x ≡ floor_of x) → cond b (sub binary64 (near x) one) (cond c (near x) x) ≡ floor_of x
    go true c h k l = h refl
    go false true h k l = k refl
    go false false h k l = l refl refl
