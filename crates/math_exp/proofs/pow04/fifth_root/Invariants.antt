-- `math_exp::pow04::fifth_root` meets its contract. The loop's invariant: the steps that are left lead from here to
-- where all of them lead from 4. Assumes nothing.
use Rattle.std.proofs.Common.{◌≡◌, ◌-◌}
use Rattle.laws.specs.Binary64.{whole}
use Rattle.math_exp.specs.Pow04.{steps}
use Rattle.math_exp.proofs.pow04.fifth_root.Given as goal

abbrev pub invariant-loop : goal.invariant-loop
invariant-loop l = steps (100 - l.counter) l.w l.y ≡ steps 100 l.w (whole 4)
