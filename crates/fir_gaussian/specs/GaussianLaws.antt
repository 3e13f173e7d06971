-- Each outcome of the judgement of a Gaussian pulse, from what the tests said, and what an accepted ticket tells.
-- Assumes nothing.
use Rattle.std.specs.Prelude.{◌≡◌, ℕ, ◌+◌, ◌-◌, ◌*◌, ◌/◌, ◌<◌, ◌≤◌, Bool, true, false, cond, List, length, nat_le, slice_index_or, refl, Float, Err, Ok, Result}
use Rattle.std.proofs.Common.{sym, ap, ◌∙◌, subst, le_trans, le_of_eq, mul_comm, le-div_iff_mul-le, arith, leb-true, lt-ltb, le-ltb}
use Rattle.std.specs.Float.{nan}
use Rattle.laws.specs.Binary64.{◌⊘◌, whole, fraction}
use Rattle.laws.specs.Tests.{both}
use Rattle.laws.specs.Results.{refused_never, same_answer}
use Rattle.fir_cache.specs.Cached.{SumCached}
use Rattle.verdict.specs.declared.Refusal.{Refusal}
use Rattle.verdict.specs.declared.Refusal.TheVariants.{Range}
use Rattle.fir_gaussian.specs.Gaussian.{exponent, raw_at, bt_taken, span_taken, samples_taken, made_of, gaussian_of, fitted_of, tap_of, Caches, PreparesGaussian, outcome_of}
use Rattle.fir_gaussian.specs.declared.gaussian_design.Gaussian.{Gaussian}
use Rattle.verdict.specs.Counted.{Counted}
use Rattle.fir_design.specs.DesignsLaws as Designs
use Rattle.verdict.specs.declared.Reason.TheVariants as Reason

-- ---- the numbers that are taken
pub span_least : (span : ℕ) → span_taken span ≡ true → 2 ≤ span
unfolding span_taken
span_least span h = leb-true 2 span (both (nat_le 2 span) (nat_le span 8) h).0

pub samples_most : (sps most : ℕ) → samples_taken sps most ≡ true → sps ≤ most
unfolding samples_taken
samples_most sps most h = leb-true sps most (both (nat_le 2 sps) (nat_le sps most) h).1

-- the samples are few enough for the span: no product overflows, and the taps are at most 2^24
pub product_most : (span sps : ℕ) → span_taken span ≡ true → samples_taken sps (16777215 / span) ≡ true → span * sps ≤ 16777215
product_most span sps a b =
    let h = span_least span a in
    le_trans (le_of_eq (mul_comm span sps)) ((le-div_iff_mul-le (omega arith)).0 (samples_most sps (16777215 / span) b))

-- ---- the answer, from what the tests so far said
module _ (bt : Float) (sps span : ℕ) where
  module _ (a : bt_taken bt ≡ true) where
    module _ (b : span_taken span ≡ true) where
      pub ready : samples_taken sps (16777215 / span) ≡ true → gaussian_of bt sps span ≡ Ok (made_of bt sps (span * sps + 1))
      unfolding gaussian_of
      ready c = rw (a, b, c)

      pub no_samples : samples_taken sps (16777215 / span) ≡ false → gaussian_of bt sps span ≡ Err (Range Reason.Count (whole 2) (whole (16777215 / span)) (whole sps))
      unfolding gaussian_of
      no_samples c = rw (a, b, c)

    pub no_span : span_taken span ≡ false → gaussian_of bt sps span ≡ Err (Range Reason.Count (whole 2) (whole 8) (whole span))
    unfolding gaussian_of
    no_span b = rw (a, b)

  pub no_bt : bt_taken bt ≡ false → gaussian_of bt sps span ≡ Err (Range Reason.Shape (fraction 2 10) (whole 1) bt)
  unfolding gaussian_of
  no_bt a = rw a

-- ---- what an accepted ticket tells
pub record AcceptedGaussian (bt : Float) (sps span : ℕ) (g : Gaussian) : Type 0 where
  pub is : g ≡ made_of bt sps (span * sps + 1)
  pub some : 0 < span * sps + 1
  pub most : span * sps + 1 ≤ 16777216

pub accepted : (bt : Float) (sps span : ℕ) (g : Gaussian) → gaussian_of bt sps span ≡ Ok g → AcceptedGaussian bt sps span g
unfolding gaussian_of
accepted bt sps span g e = go (bt_taken bt) (span_taken span) (samples_taken sps (16777215 / span)) (product_most span sps) e
  where
    few : (k : ℕ) → k ≤ 16777215 → (0 < k + 1) × (k + 1 ≤ 16777216)
    few k h = (omega arith, omega arith)

    go : (a b c : Bool) → (b ≡ true → c ≡ true → span * sps ≤ 16777215)
        → cond a (cond b (cond c (Ok (made_of bt sps (span * sps + 1))) (Err (Range Reason.Count (whole 2) (whole (16777215 / span)) (whole sps)))) (Err (Range Reason.Count (whole 2) (whole 8) (whole span)))) (Err (Range Reason.Shape (fraction 2 10) (whole 1) bt)) ≡ Ok g
        → AcceptedGaussian bt sps span g
    go true true true k e = let t = few (span * sps) (k refl refl) in record { is = cc; some = t.0; most = t.1 }
    go true true false k e = absurd (refused_never e)
    go true false c k e = absurd (refused_never e)
    go false b c k e = absurd (refused_never e)

-- and one for a buffer: the design is accepted without the buffer too, and has as many taps as that has elements
pub fitted_is : (d : Result Gaussian Refusal) (len : ℕ) (g : Gaussian) → fitted_of d len ≡ Ok g → (d ≡ Ok g) × (g.n ≡ len)
fitted_is d len g e = Designs.fitted_is (λ (x : Gaussian). x.n) d len g e

-- ---- answers with what was kept
pub accepts : (bt : Float) (sps n : ℕ) (s : Float) (rs : List Float) (d : Result Gaussian Refusal) → d ≡ Ok (made_of bt sps n)
    → SumCached (raw_at (exponent bt) (whole sps) (whole (n - 1) ⊘ whole 2)) n s rs
    → PreparesGaussian d (Ok (record { a = exponent bt; sps = whole sps; mid = whole (n - 1) ⊘ whole 2; n = n; sum = s })) rs
unfolding made_of
accepts bt sps n s rs d h t =
    let made : Float → Gaussian = λ z. record { a = exponent bt; sps = whole sps; mid = whole (n - 1) ⊘ whole 2; n = n; sum = z } in
    record {
      is = ap (λ (z : Float). Ok (record { a = exponent bt; sps = whole sps; mid = whole (n - 1) ⊘ whole 2; n = n; sum = z })) t.is ∙ sym h;
      raws = λ g e. subst (λ (z : Gaussian). Caches z rs) (same_answer e) t.keeps;
    }

-- a design that was prepared, by another name
pub keeps_as : (d e : Result Gaussian Refusal) (g : Gaussian) {r : Result Gaussian Refusal} {rs : List Float} → PreparesGaussian d r rs → r ≡ Ok g → e ≡ Ok g → PreparesGaussian e (Ok g) rs
keeps_as d e g {r} p h k = record { is = sym k; raws = λ x q. p.raws x (h ∙ q) }

-- a tap from a raw tap that was kept
pub cached_is : (g : Gaussian) (rs : List Float) (i : ℕ) → g.n ≤ 16777216 → i < g.n → i < length rs → Caches g rs → slice_index_or rs i nan ⊘ g.sum ≡ tap_of g i
unfolding tap_of
cached_is g rs i h b m k = ap (λ (z : Float). z ⊘ g.sum) (k i b m) ∙ sym (rw (le-ltb 16777216 g.n h, lt-ltb i g.n b))

-- ---- an accepted pulse has as many taps as its buffer has elements
pub gaussian_count : (d : Result Gaussian Refusal) (len : ℕ) → Counted len (outcome_of (fitted_of d len))
gaussian_count d len = Designs.fitted_count (λ (g : Gaussian). g.n) (λ (g : Gaussian). g.sum) tap_of d len
