-- `fir_rrc::design::Pulse::energy` meets its contract. The loop's invariant: the energy of the taps so far. Assumes nothing.
use Rattle.std.proofs.Common.{◌≡◌, ap, ◌∙◌, arith}
use lib.Ieee.{Float, binary64}
use Rattle.laws.specs.Binary64.{◌⊕◌, ◌⊗◌}
use Rattle.laws.specs.Sums.{sum_to}
use Rattle.laws.proofs.SumsLaws.{sum_none, sum_more}
use Rattle.fir_rrc.proofs.design.Pulse.energy.Invariants.{square}
use Rattle.fir_rrc.proofs.design.Pulse.energy.Goals as goal

pub loop-k-init : goal.loop-k-init
loop-k-init c =
    let a = c.args.self in
    sum_none binary64 (square a.rolloff a.sps a.n)

pub loop-k-preserved : goal.loop-k-preserved
loop-k-preserved c =
    let a = c.args.self in
    ap (λ (z : Float). z ⊕ c.unscaled_at-h.result ⊗ c.unscaled_at-h.result) c.loop-k.invariant
    ∙ ap (λ (z : Float). sum_to binary64 (square a.rolloff a.sps a.n) c.loop-k.k ⊕ z ⊗ z) c.unscaled_at-h.ensures
    ∙ sum_more binary64 (square a.rolloff a.sps a.n) c.loop-k.k

pub returns : goal.returns
returns c =
    let a = c.args.self in
    let e : c.loop-k.k ≡ a.n = omega arith in
    c.loop-k.invariant ∙ ap (sum_to binary64 (square a.rolloff a.sps a.n)) e
