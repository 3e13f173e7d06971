-- Each outcome of the judgement of a root-raised-cosine pulse, from what the tests said, and how few taps are taken.
-- Assumes nothing.
use Rattle.std.specs.Prelude.{◌≡◌, ℕ, ◌+◌, ◌*◌, ◌≤◌, Bool, true, false, cond, nat_le, refl, Float, Err, Ok, Result}
use Rattle.std.proofs.Common.{ap, ◌∙◌, le_trans, mul-le-mul_left, mul-le-mul_right, arith, leb-true}
use Rattle.std.specs.Float.{binary64}
use Rattle.laws.specs.Binary64.{◌⊗◌, ◌⊘◌, whole, fraction}
use Rattle.laws.specs.Sums.{sum_to}
use Rattle.laws.specs.Tests.{both}
use Rattle.laws.specs.Results.{refused_never}
use Rattle.math_sqrt.specs.Sqrt.{sqrt_of}
use Rattle.verdict.specs.declared.Refusal.{Refusal}
use Rattle.verdict.specs.declared.Refusal.TheVariants.{Range}
use Rattle.fir_rrc.specs.Rrc.{sampled, spanned, rrc_len_of, unscaled_at, rolloff_taken, norm_of, rrc_in, rrc_of, fitted_of, tap_of, outcome_of}
use Rattle.verdict.specs.Counted.{Counted}
use Rattle.fir_design.specs.DesignsLaws as Designs
use Rattle.fir_rrc.specs.declared.design.Rrc.{Rrc}
use Rattle.verdict.specs.declared.Reason.TheVariants as Reason

-- ---- the numbers that are taken
pub samples_most : (sps : ℕ) → sampled sps ≡ true → sps ≤ 1024
unfolding sampled
samples_most sps h = leb-true sps 1024 (both (nat_le 2 sps) (nat_le sps 1024) h).1

pub span_most : (span : ℕ) → spanned span ≡ true → span ≤ 32
unfolding spanned
span_most span h = leb-true span 32 (both (nat_le 4 span) (nat_le span 32) h).1

-- so a pulse has at most 32 · 1024 + 1 taps
pub product_most : (sps span : ℕ) → sampled sps ≡ true → spanned span ≡ true → span * sps ≤ 32768
product_most sps span a b = le_trans (mul-le-mul_right sps (span_most span b)) (mul-le-mul_left 32 (samples_most sps a))

-- ---- the number of taps, from what the tests so far said
module _ (sps span : ℕ) where
  module _ (a : sampled sps ≡ true) where
    pub so_many : spanned span ≡ true → rrc_len_of sps span ≡ Ok (span * sps + 1)
    unfolding rrc_len_of
    so_many b = rw (a, b)

    pub no_span : spanned span ≡ false → rrc_len_of sps span ≡ Err (Range Reason.Count (whole 4) (whole 32) (whole span))
    unfolding rrc_len_of
    no_span b = rw (a, b)

  pub no_samples : sampled sps ≡ false → rrc_len_of sps span ≡ Err (Range Reason.Count (whole 2) (whole 1024) (whole sps))
  unfolding rrc_len_of
  no_samples a = rw a

-- ---- where there are taps, they and the samples are few
pub record Few (sps n : ℕ) : Type 0 where
  pub samples : sps ≤ 1024
  pub taps : n ≤ 32769

pub few : (sps span n : ℕ) → rrc_len_of sps span ≡ Ok n → Few sps n
unfolding rrc_len_of
few sps span n e = go (sampled sps) (spanned span) (samples_most sps) (product_most sps span) e
  where
    go : (a b : Bool) → (a ≡ true → sps ≤ 1024) → (a ≡ true → b ≡ true → span * sps ≤ 32768)
        → cond a (cond b (Ok (span * sps + 1)) (Err (Range Reason.Count (whole 4) (whole 32) (whole span)))) (Err (Range Reason.Count (whole 2) (whole 1024) (whole sps))) ≡ Ok n
        → Few sps n
    go true true h k e =
        let s : span * sps + 1 ≡ n = cc in
        let p = k refl refl in
        record { samples = h refl; taps = omega arith }
    go true false h k e = absurd (refused_never e)
    go false b h k e = absurd (refused_never e)

-- ---- the design, by the number of taps
module _ (b : Float) (sps span : ℕ) where
  pub by_length : rolloff_taken b ≡ true → rrc_of b sps span ≡ rrc_in b sps (rrc_len_of sps span)
  unfolding rrc_of
  by_length h = rw h

  pub no_rolloff : rolloff_taken b ≡ false → rrc_of b sps span ≡ Err (Range Reason.Shape (fraction 5 100) (whole 1) b)
  unfolding rrc_of
  no_rolloff h = rw h

-- an accepted one, its factor from the energy and the root of that
pub ready : (b : Float) (sps n : ℕ) {e s : Float} → e ≡ sum_to binary64 (λ k. unscaled_at b sps n k ⊗ unscaled_at b sps n k) n → s ≡ sqrt_of e → Ok (record { rolloff = b; sps = sps; n = n; norm = whole 1 ⊘ s }) ≡ rrc_in b sps (Ok n)
unfolding norm_of
ready b sps n h k = ap (λ (z : Float). Ok (record { rolloff = b; sps = sps; n = n; norm = whole 1 ⊘ z })) (k ∙ ap sqrt_of h)

-- ---- an accepted pulse has as many taps as its buffer has elements
pub rrc_count : (d : Result Rrc Refusal) (len : ℕ) → Counted len (outcome_of (fitted_of d len))
rrc_count d len = Designs.fitted_count (λ (r : Rrc). r.n) (λ (r : Rrc). r.norm) tap_of d len
