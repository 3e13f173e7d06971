-- A design of any kind as an answer, and for a buffer. Assumes nothing.
use Rattle.std.specs.Prelude.{◌≡◌, ℕ, List, Float, Err, Ok, Result}
use Rattle.std.proofs.Common.{sym, ap, ◌∙◌}
use Rattle.laws.specs.Results.{refused_never, same_answer}
use Rattle.verdict.specs.Counted.{Counted, where_equal, fitted}
use Rattle.verdict.specs.declared.Refusal.{Refusal}
use Rattle.verdict.specs.declared.Refusal.TheVariants.{Length}
use Rattle.fir_design.specs.Designs.{fitted_of, outcome_of, Prepares}

-- ---- an answer for an equal design, and one that is a refusal
module _ {D : Type 0} {keeps : D → List Float → Type 0} where
  pub prepares_as : {d e r : Result D Refusal} {rs : List Float} → d ≡ e → Prepares keeps d r rs → Prepares keeps e r rs
  prepares_as p f = record { is = f.is ∙ p; raws = f.raws }

  pub prepares_refusal : (d : Result D Refusal) (why : Refusal) (rs : List Float) → d ≡ Err why → Prepares keeps d (Err why) rs
  prepares_refusal d why rs e = record { is = sym e; raws = λ x g. absurd (refused_never g) }

-- ---- for a buffer of len elements
module _ {D : Type 0} (count : D → ℕ) where
  -- an accepted design was accepted without the buffer too, and has as many taps as that has elements
  pub fitted_is : (d : Result D Refusal) (len : ℕ) (x : D) → fitted_of count d len ≡ Ok x → (d ≡ Ok x) × (count x ≡ len)
  fitted_is (Err why) len x e = absurd (refused_never e)
  fitted_is (Ok d) len x e = fitted Ok count (Err (Length (count d) len)) len d x (λ x y q. same_answer q) (λ q. refused_never q) e

  pub fitted_count : (divisor : D → Float) (tap : D → ℕ → Float) (d : Result D Refusal) (len : ℕ) → Counted len (outcome_of count divisor tap (fitted_of count d len))
  fitted_count divisor tap (Ok d) len = where_equal (outcome_of count divisor tap) len _ _ (count d) len (λ e. e) tt
  fitted_count divisor tap (Err why) len = tt

  -- what was prepared
  pub prepares_fitted : {keeps : D → List Float → Type 0} {d r q : Result D Refusal} {rs : List Float} (len : ℕ) → Prepares keeps d r rs → q ≡ fitted_of count r len → Prepares keeps (fitted_of count d len) q rs
  prepares_fitted {r = r} len p e = record {
    is = e ∙ ap (λ (z : Result D Refusal). fitted_of count z len) p.is;
    raws = λ x g. p.raws x (fitted_is r len x (sym e ∙ g)).0;
  }
