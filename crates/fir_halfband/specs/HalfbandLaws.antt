-- Each outcome of the judgement of a half-band, from what the tests said, and what an accepted ticket tells. Assumes
-- nothing.
use Rattle.std.specs.Prelude.{◌≡◌, refl, Bool, true, false, cond, List, ℕ, ◌<◌, Float, Err, Ok, Result}
use Rattle.std.proofs.Common.{sym, ap, ◌∙◌, subst, lt-ltb}
use Rattle.laws.specs.Binary64.{◌⊘◌}
use Rattle.verdict.specs.declared.Refusal.{Refusal}
use Rattle.verdict.specs.declared.Refusal.TheVariants.{Plain}
use Rattle.fir_lowpass.specs.Lowpass.{usable}
use Rattle.fir_lowpass.specs.Cached.{Caches}
use Rattle.fir_lowpass.specs.declared.lowpass.Lowpass.{Lowpass}
use Rattle.fir_halfband.specs.Halfband.{length_taken, quarter_of, unscaled, divisor_of, halfband_in, halfband_of, tap_of, PreparesHalfband, outcome_of}
use Rattle.fir_halfband.specs.declared.HalfbandDesign.{HalfbandDesign}
use Rattle.laws.specs.Cases.{either_way}
use Rattle.laws.specs.Results.{refused_never, same_answer}
use Rattle.verdict.specs.Counted.{Counted}
use Rattle.verdict.specs.declared.Reason.TheVariants as Reason

-- a tap of a design, below its length
pub tap_is : (d : HalfbandDesign) (k : ℕ) → k < d.n → tap_of d k ≡ unscaled d.lp d.n k ⊘ d.sum
unfolding tap_of
tap_is d k h = rw (lt-ltb k d.n h)

-- the design that comes of a low-pass
abbrev pub halved : Lowpass → ℕ → HalfbandDesign
halved l n = record { lp = l; n = n; sum = divisor_of l n }

module _ (beta : Float) (n : ℕ) where
  -- what the tests so far said
  module _ (a : length_taken n ≡ true) where
    module _ (l : Lowpass) (b : quarter_of beta n ≡ Ok l) where
      pub ready : usable (divisor_of l n) ≡ true → halfband_of beta n ≡ Ok (halved l n)
      unfolding halfband_of
      ready e = rw a (ap (halfband_in n) b ∙ rw e)

      pub no_divisor : usable (divisor_of l n) ≡ false → halfband_of beta n ≡ Err (Plain Reason.Divisor)
      unfolding halfband_of
      no_divisor e = rw a (ap (halfband_in n) b ∙ rw e)

    pub no_lowpass : (why : Refusal) → quarter_of beta n ≡ Err why → halfband_of beta n ≡ Err why
    unfolding halfband_of
    no_lowpass why b = rw a (ap (halfband_in n) b)

  pub no_length : length_taken n ≡ false → halfband_of beta n ≡ Err (Plain Reason.Count)
  unfolding halfband_of
  no_length a = rw a

  -- a design, as an answer
  pub accepts : (l : Lowpass) (s : Float) (rs : List Float) → s ≡ divisor_of l n → Caches l rs → halfband_of beta n ≡ Ok (halved l n) → PreparesHalfband (halfband_of beta n) (Ok (record { lp = l; n = n; sum = s })) rs
  accepts l s rs e k h =
      let r : HalfbandDesign = record { lp = l; n = n; sum = s } in
      record {
        is = ap (λ (z : Float). Ok (record { lp = l; n = n; sum = z })) e ∙ sym h;
        raws = λ d q. subst (λ (z : HalfbandDesign). Caches z.lp rs) (same_answer q) k;
      }

-- ---- what an accepted ticket tells
pub record AcceptedHalfband (beta : Float) (n : ℕ) (d : HalfbandDesign) : Type 0 where
  pub lowpass : Lowpass
  pub long : length_taken n ≡ true
  pub quarter : quarter_of beta n ≡ Ok lowpass
  pub divides : usable (divisor_of lowpass n) ≡ true
  pub is : d ≡ halved lowpass n

pub accepted : (beta : Float) (n : ℕ) (d : HalfbandDesign) → halfband_of beta n ≡ Ok d → AcceptedHalfband beta n d
unfolding halfband_of
accepted beta n d e = go (length_taken n) (quarter_of beta n) refl refl e
  where
    tested : (l : Lowpass) (c : Bool) → length_taken n ≡ true → quarter_of beta n ≡ Ok l → usable (divisor_of l n) ≡ c → cond c (Ok (halved l n)) (Err (Plain Reason.Divisor)) ≡ Ok d → AcceptedHalfband beta n d
    tested l true a b c e = record { lowpass = l; long = a; quarter = b; divides = c; is = sym (same_answer e) }
    tested l false a b c e = absurd (refused_never e)

    go : (a : Bool) (q : Result Lowpass Refusal) → length_taken n ≡ a → quarter_of beta n ≡ q → cond a (halfband_in n q) (Err (Plain Reason.Count)) ≡ Ok d → AcceptedHalfband beta n d
    go true (Ok l) a b e = tested l (usable (divisor_of l n)) a b refl e
    go true (Err why) a b e = absurd (refused_never e)
    go false q a b e = absurd (refused_never e)

-- ---- an accepted design has as many taps as it was asked for
in_halfband : (n : ℕ) (d : Result Lowpass Refusal) → Counted n (outcome_of (halfband_in n d))
in_halfband n (Ok l) = either_way (λ (h : Result HalfbandDesign Refusal). Counted n (outcome_of h)) (usable (divisor_of l n)) _ _ refl tt
in_halfband n (Err why) = tt

pub halfband_count : (beta : Float) (n : ℕ) → Counted n (outcome_of (halfband_of beta n))
unfolding halfband_of
halfband_count beta n = either_way (λ (h : Result HalfbandDesign Refusal). Counted n (outcome_of h)) (length_taken n) _ _ (in_halfband n (quarter_of beta n)) tt
