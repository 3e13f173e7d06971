-- `math_unity::each` meets its contract. Assumes nothing.
use Rattle.std.proofs.Common.{◌≡◌, length, sym, ap, rules}
use Rattle.math_unity.specs.Run.{each_of}
use Rattle.math_unity.specs.UnityLaws.{five_of}
use Rattle.math_unity.proofs.each.Goals as goal

pub returns : goal.returns
unfolding each_of
returns g c = λ h says.
    let l : length c.args.v ≡ 5 = search rules in
    rw (says _ _ c.f.ensures, says _ _ c.f-2.ensures, says _ _ c.f-3.ensures, says _ _ c.f-4.ensures, says _ _ c.f-5.ensures) (sym (ap (each_of h) (five_of c.args.v l)))
