-- A buffer that is filled by an outcome, or left; what is told of a judgement. Assumes nothing.
use Rattle.std.specs.Prelude.{◌≡◌, ℕ, List, length, refl, Float, Err, Ok, Result}
use Rattle.std.proofs.Common.{sym, ap, ◌∙◌, subst}
use Rattle.laws.specs.Filled.{tabulate}
use Rattle.verdict.specs.declared.Refusal.{Refusal}
use Rattle.verdict.specs.Outcome.{Outcome, judged_of, answered, stored, Fills}
use Rattle.verdict.specs.Reports.{outcome_report, judged_report}

module _ {o : Outcome} {before : List Float} where
  pub fills : {n : ℕ} {sum : Float} {tap : ℕ → Float} {after : List Float} → o ≡ Outcome.Designed n sum tap → after ≡ tabulate (length before) tap → Fills o before (Ok tt) after
  fills h e = record { answer = sym (ap answered h); buffer = e ∙ sym (ap (λ (z : Outcome). stored z before) h) }

  pub leaves : (why : Refusal) → o ≡ Outcome.Refused why → Fills o before (Err why) before
  leaves why h = record { answer = sym (ap answered h); buffer = sym (ap (λ (z : Outcome). stored z before) h) }

-- the same outcome by another name
pub fills_as : {o p : Outcome} {before after : List Float} {r : Result (Unit {0}) Refusal} → o ≡ p → Fills o before r after → Fills p before r after
fills_as {o} {p} {before} {after} {r} e f = subst (λ (z : Outcome). Fills z before r after) e f

-- of a judgement without a buffer the same is told as of what it judges
pub judged_told : (o : Outcome) → judged_report (judged_of o) ≡ outcome_report o
judged_told (Outcome.Designed n sum tap) = refl
judged_told (Outcome.Refused why) = refl
