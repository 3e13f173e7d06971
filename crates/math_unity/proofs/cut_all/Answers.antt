-- `math_unity::cut_all` meets its contract. Assumes nothing.
use Rattle.std.proofs.Common.{◌≡◌, length, sym, ap, arith, rules}
use Rattle.laws.specs.SumError.{sum_of}
use Rattle.math_unity.specs.Cut.{digit_of, rest_of}
use Rattle.math_unity.specs.Run.{each_of}
use Rattle.math_unity.specs.UnityLaws.{five_of}
use Rattle.math_unity.proofs.cut_all.Goals as goal

pub returns-clause-sum : goal.returns-clause-sum
unfolding sum_of
returns-clause-sum c =
    let l : length c.args.v ≡ 5 = search rules in
    rw (c.cut-a.ensures.digit, c.cut-b.ensures.digit, c.cut-c.ensures.digit, c.cut-d.ensures.digit, c.cut-e.ensures.digit) (omega (arith, ap (sum_of digit_of) (five_of c.args.v l)))

pub returns-clause-rests : goal.returns-clause-rests
unfolding each_of
returns-clause-rests c =
    let l : length c.args.v ≡ 5 = search rules in
    rw (c.cut-a.ensures.rest, c.cut-b.ensures.rest, c.cut-c.ensures.rest, c.cut-d.ensures.rest, c.cut-e.ensures.rest) (sym (ap (each_of rest_of) (five_of c.args.v l)))
