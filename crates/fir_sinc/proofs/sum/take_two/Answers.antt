-- `fir_sinc::sum::take_two` meets its contract: four stores, one after the other. Assumes nothing.
use mathlib.Core.Path.{ap, ◌∙◌}
use mathlib.Core.List.{List}
use Prim.Native.Nat.{◌+◌, ◌-◌}
use lib.ListN.{set}
use lib.Ieee.{Float}
use Rattle.laws.specs.Binary64.{◌⊕◌}
use Rattle.fir_sinc.proofs.sum.take_two.Goals as goal

pub returns : goal.returns
returns c =
    let a = c.args in
    record {
      answer = c.take-two.ensures.0 ∙ ap (λ (z : Float). z ⊕ a.w) c.take-one.ensures.0;
      buffer = c.keep-2.ensures
          ∙ ap (λ (l : List Float). set l (a.last - (a.i + 1)) a.b) (c.keep.ensures ∙ ap (λ (l : List Float). set l (a.last - a.i) a.a) (c.take-two.ensures.1 ∙ ap (λ (l : List Float). set l (a.i + 1) a.w) c.take-one.ensures.1));
    }
