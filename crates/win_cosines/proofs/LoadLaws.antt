-- What loading comes to, from the five numbers of the window, those not given among them. Assumes nothing.
use Rattle.std.specs.Prelude.{◌≡◌, ℕ, zero, suc, ◌<◌, ◌≤◌, Bool, true, false, cond, ◌&&◌, List, [], ◌∷◌, length, pos, ◌≢◌, nat_le, slice_index_or, refl, Float, Err, Ok, Result}
use Rattle.std.proofs.Math.Path.{sym}
use Rattle.std.proofs.Common.{ap, ◌∙◌, subst, arith}
use borrow.Author.Tests.{le-leb, lt-leb}
use Rattle.std.specs.Float.{binary64}
use Rattle.std.specs.Float.Ieee.{of_int, round, neg}
use Rattle.laws.specs.Binary64.{whole}
use Rattle.laws.specs.Totals.{units, sum_z}
use Rattle.laws.specs.Units.{mag}
use Rattle.laws.specs.Results.{refused_never, same_answer}
use Rattle.math_unity.specs.Unity.{within, all_within, near_one}
use Rattle.verdict.specs.declared.Refusal.{Refusal}
use Rattle.verdict.specs.declared.Refusal.TheVariants.{Plain, Range}
use Rattle.win_shapes.specs.declared.cosines.Cosines.{Cosines}
use Rattle.win_cosines.specs.Load.{five_in, cosines_of, numbers_taken, where_passed, load_of}
use Rattle.verdict.specs.declared.Reason.TheVariants as Reason

-- a number that is given is read alike whatever one that isn't would be
pub given : (cs : List Float) (i : ℕ) (a b : Float) → i < length cs → slice_index_or cs i a ≡ slice_index_or cs i b
given [] i a b h = absurd (omega arith)
given (x ∷ cs) zero a b h = refl
given (x ∷ cs) (suc i) a b h = given cs i a b (omega arith)

-- ---- a number that isn't given is taken, and adds nothing
nothing_within : within (whole 0) ≡ true
unfolding within mag of_int round
nothing_within = refl

nothing_more : units binary64 (whole 0) ≡ pos 0
unfolding units mag of_int round
nothing_more = refl

pub padded_taken : (cs : List Float) → length cs ≤ 5 → numbers_taken (five_in (cosines_of cs)) ≡ numbers_taken cs
unfolding numbers_taken
padded_taken [] l = rw nothing_within refl
padded_taken (a ∷ []) l = rw nothing_within refl
padded_taken (a ∷ b ∷ []) l = rw nothing_within refl
padded_taken (a ∷ b ∷ c ∷ []) l = rw nothing_within refl
padded_taken (a ∷ b ∷ c ∷ d ∷ []) l = rw nothing_within refl
padded_taken (a ∷ b ∷ c ∷ d ∷ e ∷ []) l = refl
padded_taken (a ∷ b ∷ c ∷ d ∷ e ∷ f ∷ cs) l = absurd (omega arith)

same_sum : (cs : List Float) → length cs ≤ 5 → sum_z (units binary64) (five_in (cosines_of cs)) ≡ sum_z (units binary64) cs
unfolding sum_z
same_sum [] l = rw nothing_more refl
same_sum (a ∷ []) l = rw nothing_more refl
same_sum (a ∷ b ∷ []) l = rw nothing_more refl
same_sum (a ∷ b ∷ c ∷ []) l = rw nothing_more refl
same_sum (a ∷ b ∷ c ∷ d ∷ []) l = rw nothing_more refl
same_sum (a ∷ b ∷ c ∷ d ∷ e ∷ []) l = refl
same_sum (a ∷ b ∷ c ∷ d ∷ e ∷ f ∷ cs) l = absurd (omega arith)

padded_near : (cs : List Float) → length cs ≤ 5 → near_one (five_in (cosines_of cs)) ≡ near_one cs
unfolding near_one
padded_near cs l = rw (same_sum cs l) refl

-- numbers that are taken are within 1
taken_within : (cs : List Float) → numbers_taken cs ≡ Ok tt → all_within cs ≡ true
unfolding numbers_taken all_within
taken_within [] e = refl
taken_within (x ∷ xs) e = go (within x) (λ h. taken_within xs h) e
  where
    go : (b : Bool) → (numbers_taken xs ≡ Ok tt → all_within xs ≡ true) → cond b (numbers_taken xs) (Err (Range Reason.Coefficient (neg (whole 1)) (whole 1) x)) ≡ Ok tt → (b && all_within xs) ≡ true
    go true rest e = rest e
    go false rest e = absurd (refused_never e)

-- ---- each way that loading ends, for a list of n numbers that are those of the window c
module _ {n : ℕ} {c : Cosines} (cs : List Float) (k : length cs ≡ n) (is : cosines_of cs ≡ c) where
  pub too_few : n < 1 → Err (Range Reason.CoefficientCount (whole 1) (whole 5) (whole n)) ≡ load_of cs
  unfolding load_of
  too_few h = sym (rw (k, lt-leb 1 n h))

  pub too_many : 5 < n → Err (Range Reason.CoefficientCount (whole 1) (whole 5) (whole n)) ≡ load_of cs
  unfolding load_of
  too_many h = sym (rw (k, le-leb 1 n (omega arith), lt-leb n 5 h))

  module _ (low : 1 ≤ n) (high : n ≤ 5) where
    counted : load_of cs ≡ where_passed (numbers_taken cs) (cond (near_one cs) (Ok (cosines_of cs)) (Err (Plain Reason.CoefficientSum)))
    unfolding load_of
    counted = rw (k, le-leb 1 n low, le-leb n 5 high)

    few : length cs ≤ 5
    few = omega (arith, k, high)

    taken : numbers_taken (five_in c) ≡ numbers_taken cs
    taken = subst (λ (z : Cosines). numbers_taken (five_in z) ≡ numbers_taken cs) is (padded_taken cs few)

    near : near_one (five_in c) ≡ near_one cs
    near = subst (λ (z : Cosines). near_one (five_in z) ≡ near_one cs) is (padded_near cs few)

    pub not_taken : (why : Refusal) → Err why ≡ numbers_taken (five_in c) → Err why ≡ load_of cs
    not_taken why e = sym (counted ∙ ap (λ (v : Result (Unit {0}) Refusal). where_passed v (cond (near_one cs) (Ok (cosines_of cs)) (Err (Plain Reason.CoefficientSum)))) (sym (e ∙ taken)))

    pub by_sum : (b : Bool) → (Ok tt) ≡ numbers_taken (five_in c) → b ≡ (all_within (five_in c) && near_one (five_in c)) → cond b (Ok c) (Err (Plain Reason.CoefficientSum)) ≡ load_of cs
    by_sum b e g =
        let whole-five : all_within (five_in c) ≡ true = taken_within (five_in c) (sym e) in
        let h : b ≡ near_one cs = g ∙ ap (λ (a : Bool). a && near_one (five_in c)) whole-five ∙ near in
        ap (λ (a : Bool). cond a (Ok c) (Err (Plain Reason.CoefficientSum))) h
        ∙ ap (λ (z : Cosines). cond (near_one cs) (Ok z) (Err (Plain Reason.CoefficientSum))) (sym is)
        ∙ sym (counted ∙ ap (λ (v : Result (Unit {0}) Refusal). where_passed v (cond (near_one cs) (Ok (cosines_of cs)) (Err (Plain Reason.CoefficientSum)))) (sym (e ∙ taken)))

-- ---- a window that is loaded has the numbers that were given
pub these : (cs : List Float) (c : Cosines) → load_of cs ≡ Ok c → c ≡ cosines_of cs
unfolding load_of
these cs c e = go (nat_le 1 (length cs) && nat_le (length cs) 5) (numbers_taken cs) (near_one cs) e
  where
    go : (a : Bool) (v : Result (Unit {0}) Refusal) (b : Bool) → cond a (where_passed v (cond b (Ok (cosines_of cs)) (Err (Plain Reason.CoefficientSum)))) (Err (Range Reason.CoefficientCount (whole 1) (whole 5) (whole (length cs)))) ≡ Ok c → c ≡ cosines_of cs
    go true (Ok tt) true e = sym (same_answer e)
    go true (Ok tt) false e = absurd (refused_never e)
    go true (Err why) b e = absurd (refused_never e)
    go false v b e = absurd (refused_never e)
