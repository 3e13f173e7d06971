-- What a writer needs, of a design that was prepared and has as many taps as the buffer has room for. Assumes nothing.
use Rattle.std.specs.Prelude.{List, ℕ, Float, Result}
use Rattle.std.proofs.Common.{sym, subst}
use Rattle.verdict.specs.Outcome.{Outcome}
use Rattle.verdict.specs.declared.Refusal.{Refusal}
use Rattle.wire.specs.Writes.{Room}
use Rattle.fir_design.specs.Designs.{Prepares}
use Rattle.ticket_taps.specs.Fits.{Fits}

pub fits : {D : Type 0} {keeps : D → List Float → Type 0} {outcome_of : Result D Refusal → Outcome} (len : ℕ) {rs : List Float} {d r : Result D Refusal} → Prepares keeps d r rs → Room len (outcome_of d) → Fits keeps outcome_of r rs len
fits {D} {outcome_of = outcome_of} len h m = record { raws = h.raws; room = subst (λ (z : Result D Refusal). Room len (outcome_of z)) (sym h.is) m }
