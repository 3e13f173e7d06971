-- Laws of sections: every section has five numbers, they are stored one after the other, and every quality of a
-- Butterworth filter is taken. Assumes nothing.
use Rattle.std.specs.Prelude.{ℕ, zero, suc, ◌+◌, ◌*◌, ◌/◌, ◌%◌, ◌<◌, ◌≤◌, ◌≡◌, refl, Bool, true, false, cond, List, [], ◌∷◌, leb, eqb, length, set, take, get_or, Float, Err, Ok}
use Rattle.std.proofs.Common.{sym, ap, ◌∙◌, not-suc-le-zero, le_of_suc-le-suc, zero-lt-suc, arith, leb-true, eqb-true}
use Rattle.std.proofs.Math.Nat.{suc-le-suc_iff}
use Rattle.std.proofs.lemmas.List.Edits.{sets}
use Rattle.std.specs.Float.{nan}
use Rattle.std.specs.Float.Ieee.{of_bits, of_int, round, add, sub, mul, div, neg, lt, le}
use Rattle.laws.specs.Binary64.{◌⊗◌, ◌⊘◌, whole, fact, over, nested}
use Rattle.laws.specs.Every.{every, every_at}
use Rattle.laws.specs.Filled.{filled, fill_more}
use Rattle.laws.specs.Floor.{floor_z}
use Rattle.laws.specs.Tests.{both}
use Rattle.math_round.specs.Whole.{floor_of, abs_of, as_float}
use Rattle.math_trig.specs.Trig.{sin_of, cos_of}
use Rattle.verdict.specs.Outcome.{Outcome, answered}
use Rattle.verdict.specs.declared.Refusal.{Refusal}
use Rattle.verdict.specs.declared.Refusal.TheVariants.{Plain, Range, Length}
use Rattle.iir_biquad.specs.Biquad.{centre_taken, quality_taken, w0_of, section_of, biquad_of}
use Rattle.iir_butterworth.specs.Butterworth.{response_taken, order_taken, sections_of, angle_of, quality_of, first_order_of, section_at, coef_at, butterworth_of}
use Rattle.iir_biquad.specs.declared.biquad.Response.{Response}
use Rattle.iir_biquad.specs.declared.biquad.Response.TheVariants.{Lowpass, Highpass, Bandpass, Notch}
use Rattle.iir_biquad.specs.declared.biquad.Biquad.{Biquad}
use Rattle.laws.specs.Cases.{either_way}
use Rattle.laws.specs.Results.{refused_never}
use Rattle.verdict.specs.declared.Reason.TheVariants as Reason

-- ---- a list stored into another, one element more
module _ {A : Type 0} where
  pub sets_more : (vs l : List A) (at j : ℕ) (z : A) → j < length vs → set (sets l at (take j vs)) (at + j) (get_or vs j z) ≡ sets l at (take (suc j) vs)
  sets_more [] l at j z h = absurd (not-suc-le-zero h)
  sets_more (a ∷ vs) l at zero z h =
      let e : at + 0 ≡ at = omega arith in
      ap (λ (k : ℕ). set l k a) e
  sets_more (a ∷ vs) l at (suc j) z h =
      let e : at + suc j ≡ suc at + j = omega arith in
      ap (λ (k : ℕ). set (sets (set l at a) (suc at) (take j vs)) k (get_or vs j z)) e ∙ sets_more vs (set l at a) (suc at) j z (le_of_suc-le-suc h)

  pub take_all : (vs : List A) → take (length vs) vs ≡ vs
  take_all [] = refl
  take_all (a ∷ vs) = ap (λ (t : List A). a ∷ t) (take_all vs)

  -- where it holds the next values of f, a buffer filled by f is filled further
  pub fill_sets : (vs : List A) (n : ℕ) (f : ℕ → A) (d : List A) (z : A) → n + length vs ≤ length d → ((j : ℕ) → j < length vs → get_or vs j z ≡ f (n + j)) → sets (filled n f d) n vs ≡ filled (n + length vs) f d
  fill_sets [] n f d z h e =
      let q : n ≡ n + 0 = omega arith in
      ap (λ (k : ℕ). filled k f d) q
  fill_sets (a ∷ vs) n f d z h e =
      let q : n + 0 ≡ n = omega arith in
      let s : n + 1 ≡ suc n = omega arith in
      let t : suc n + length vs ≡ n + suc (length vs) = omega arith in
      ap (λ (x : A). sets (set (filled n f d) n x) (suc n) vs) (e 0 (zero-lt-suc (length vs)) ∙ ap f q)
      ∙ ap (λ (l : List A). sets l (suc n) vs) (fill_more n f d (omega arith) ∙ ap (λ (k : ℕ). filled k f d) s)
      ∙ fill_sets vs (suc n) f d z (omega arith) (λ j k. let g : n + suc j ≡ suc n + j = omega arith in e (suc j) (suc-le-suc_iff.1 k) ∙ ap f g)
      ∙ ap (λ (k : ℕ). filled k f d) t

-- ---- five numbers
section_five : (r : Response) (c alpha : Float) → length (section_of r c alpha) ≡ 5
unfolding section_of
section_five Lowpass c alpha = refl
section_five Highpass c alpha = refl
section_five Bandpass c alpha = refl
section_five Notch c alpha = refl

coefs_five : (r : Response) (centre q rate : Float) → length (biquad_of r centre q rate).coefs ≡ 5
unfolding biquad_of
coefs_five r centre q rate =
    let five : Biquad → Type 0 = λ b. length b.coefs ≡ 5 in
    either_way five (centre_taken centre rate) _ _ (either_way five (quality_taken q) _ _ (section_five r _ _) refl) refl

first_order_five : (r : Response) (s d : Float) → length (first_order_of r s d) ≡ 5
unfolding first_order_of
first_order_five Lowpass s d = refl
first_order_five Highpass s d = refl
first_order_five Bandpass s d = refl
first_order_five Notch s d = refl

section_at_five : (r : Response) (order : ℕ) (cutoff rate : Float) (i : ℕ) → length (section_at r order cutoff rate i) ≡ 5
unfolding section_at
section_at_five r order cutoff rate i = either_way (λ (l : List Float). length l ≡ 5) (eqb order (2 * i + 1)) _ _ (first_order_five r _ _) (coefs_five r cutoff (quality_of order i) rate)

-- ---- a section in its place
pub section_stored : (r : Response) (order : ℕ) (cutoff rate : Float) (i : ℕ) (d : List Float) → 5 * i + 5 ≤ length d → sets (filled (5 * i) (coef_at r order cutoff rate) d) (5 * i) (section_at r order cutoff rate i) ≡ filled (5 * (i + 1)) (coef_at r order cutoff rate) d
section_stored r order cutoff rate i d h =
    let vs = section_at r order cutoff rate i in
    let n : length vs ≡ 5 = section_at_five r order cutoff rate i in
    let t : 5 * i + length vs ≡ 5 * (i + 1) = omega arith in
    fill_sets vs (5 * i) (coef_at r order cutoff rate) d nan (omega arith)
    (λ j k.
    let q : i ≡ (5 * i + j) / 5 = omega arith in
    let m : j ≡ (5 * i + j) % 5 = omega arith in
    ap (λ (z : ℕ). get_or (section_at r order cutoff rate z) j nan) q ∙ ap (λ (z : ℕ). get_or (section_at r order cutoff rate ((5 * i + j) / 5)) z nan) m)
    ∙ ap (λ (k : ℕ). filled k (coef_at r order cutoff rate) d) t

-- ---- an order that is taken
pub record OrderIs (order : ℕ) : Type 0 where
  pub least : 2 ≤ order
  pub most : order ≤ 8

pub order_is : (order : ℕ) → order_taken order ≡ true → OrderIs order
unfolding order_taken
order_is order h =
    let t = both (leb 2 order) (leb order 8) h in
    record { least = leb-true 2 order t.0; most = leb-true order 8 t.1 }

-- ---- every quality is taken, so that a Butterworth filter's sections are never refused for it: the ten of even orders
-- and the six of odd ones are evaluated
sixteen : every 9 (λ order. every (order / 2) (λ i. quality_taken (quality_of order i))) ≡ true
unfolding every quality_taken quality_of angle_of cos_of nested over fact floor_of abs_of floor_z as_float of_int of_bits round add sub mul div neg lt le
sixteen = refl

pub quality_taken_lem : (order i : ℕ) → order_taken order ≡ true → 2 * i + 2 ≤ order → quality_taken (quality_of order i) ≡ true
quality_taken_lem order i t h =
    let o = order_is order t in
    every_at (order / 2) (λ k. quality_taken (quality_of order k)) (every_at 9 (λ n. every (n / 2) (λ k. quality_taken (quality_of n k))) sixteen order (omega arith)) i (omega arith)

-- so each section of two poles is the section of its quality, and none is refused
pub never_refused : (r : Response) (order i : ℕ) (cutoff rate : Float) → order_taken order ≡ true → 2 * i + 2 ≤ order → centre_taken cutoff rate ≡ true → let w0 = w0_of cutoff rate in biquad_of r cutoff (quality_of order i) rate ≡ record { coefs = section_of r (cos_of w0) (sin_of w0 ⊘ (whole 2 ⊗ quality_of order i)); verdict = Ok tt }
unfolding biquad_of
never_refused r order i cutoff rate t h c = rw (c, quality_taken_lem order i t h)

-- ---- the outcome, from what the tests so far said
module _ (r : Response) (order : ℕ) (cutoff rate : Float) (len : ℕ) where
  pub no_response : response_taken r ≡ false → butterworth_of r order cutoff rate len ≡ Outcome.Refused (Plain Reason.Code)
  unfolding butterworth_of
  no_response a = rw a

  module _ (a : response_taken r ≡ true) where
    pub no_order : order_taken order ≡ false → butterworth_of r order cutoff rate len ≡ Outcome.Refused (Plain Reason.Count)
    unfolding butterworth_of
    no_order b = rw (a, b)

    module _ (b : order_taken order ≡ true) where
      pub no_length : eqb len (sections_of order * 5) ≡ false → butterworth_of r order cutoff rate len ≡ Outcome.Refused (Length (sections_of order * 5) len)
      unfolding butterworth_of
      no_length c = rw (a, b, c)

      module _ (c : eqb len (sections_of order * 5) ≡ true) where
        pub no_centre : centre_taken cutoff rate ≡ false → butterworth_of r order cutoff rate len ≡ Outcome.Refused (Range Reason.Frequency (whole 0) (rate ⊘ whole 2) cutoff)
        unfolding butterworth_of
        no_centre e = rw (a, b, c, e)

        pub made : centre_taken cutoff rate ≡ true → butterworth_of r order cutoff rate len ≡ Outcome.Designed len (whole 0) (coef_at r order cutoff rate)
        unfolding butterworth_of
        made e = rw (a, b, c, e)

-- ---- a filter that is judged right: its order is taken, and it has as many numbers as the buffer
pub record Right (r : Response) (order : ℕ) (cutoff rate : Float) (len : ℕ) : Type 0 where
  pub taken : OrderIs order
  pub count : len ≡ sections_of order * 5
  pub is : butterworth_of r order cutoff rate len ≡ Outcome.Designed len (whole 0) (coef_at r order cutoff rate)

pub right : (r : Response) (order : ℕ) (cutoff rate : Float) (len : ℕ) → (Ok tt) ≡ answered (butterworth_of r order cutoff rate len) → Right r order cutoff rate len
unfolding butterworth_of
right r order cutoff rate len e =
    let t = go (response_taken r) (order_taken order) (eqb len (sections_of order * 5)) (centre_taken cutoff rate) (order_is order) (eqb-true len (sections_of order * 5)) e in
    record { taken = t.0; count = t.1; is = t.2 }
  where
    n : ℕ
    n = sections_of order * 5

    is : Outcome
    is = Outcome.Designed len (whole 0) (coef_at r order cutoff rate)

    by : Bool → Bool → Bool → Bool → Outcome
    by a b c d = cond a (cond b (cond c (cond d is (Outcome.Refused (Range Reason.Frequency (whole 0) (rate ⊘ whole 2) cutoff))) (Outcome.Refused (Length n len))) (Outcome.Refused (Plain Reason.Count))) (Outcome.Refused (Plain Reason.Code))

    go : (a b c d : Bool) → (b ≡ true → OrderIs order) → (c ≡ true → len ≡ n) → (Ok tt) ≡ answered (by a b c d) → OrderIs order × (len ≡ n) × (by a b c d ≡ is)
    go true true true true p q e = (p refl, q refl, refl)
    go true true true false p q e = absurd (refused_never (sym e))
    go true true false d p q e = absurd (refused_never (sym e))
    go true false c d p q e = absurd (refused_never (sym e))
    go false b c d p q e = absurd (refused_never (sym e))

-- ---- one that is refused
pub turned : (why : Refusal) (o : Outcome) → Err why ≡ answered o → o ≡ Outcome.Refused why
turned why (Outcome.Designed n sum tap) e = absurd (refused_never e)
turned why (Outcome.Refused other) e = cc
