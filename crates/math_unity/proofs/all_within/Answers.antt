-- `math_unity::all_within` meets its contract. Assumes nothing.
use Rattle.std.proofs.Common.{◌≡◌, length, sym, ap, ◌∙◌, rules}
use Rattle.math_unity.specs.Unity.{all_within}
use Rattle.math_unity.specs.UnityLaws.{all_five, five_of}
use Rattle.math_unity.proofs.all_within.Goals as goal

pub returns-clause-answer : goal.returns-clause-answer
returns-clause-answer c =
    let l : length c.args.v ≡ 5 = search rules in
    rw (c.is_within.ensures, c.is_within-2.ensures, c.is_within-3.ensures, c.is_within-4.ensures, c.is_within-5.ensures) (all_five _ _ _ _ _ ∙ sym (ap all_within (five_of c.args.v l)))
