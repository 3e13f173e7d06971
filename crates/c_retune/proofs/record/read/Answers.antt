-- `c_retune::record::read` meets its contract, a code that is known and one that is not. Assumes nothing.
use Rattle.std.specs.Prelude.{Some}
use mathlib.Core.Path.{◌≡◌, sym, ap, ◌∙◌}
use Rattle.ticket_codes.specs.Codes.{window_of}
use Rattle.c_retune.specs.Designs.{read_in}
use Rattle.c_retune.specs.DesignsLaws.{read_part, read_other, read_ready}
use Rattle.c_retune.proofs.record.read.Goals as goal

pub returns-then-len-ne0 : goal.returns-then-len-ne0
returns-then-len-ne0 c =
    let known : (let d = c.args.kept in window_of d.window d.beta ≡ Some c.in-Some.w) = sym c.window_of-coded.ensures ∙ c.in-Some.is in
    let a = c.args in
    sym (read_part a.kept a.len c.in-Some.w known c.if-len-ne0.true)

pub returns-then-kept-len : goal.returns-then-kept-len
returns-then-kept-len c =
    let known : (let d = c.args.kept in window_of d.window d.beta ≡ Some c.in-Some.w) = sym c.window_of-coded.ensures ∙ c.in-Some.is in
    let a = c.args in
    sym (read_other a.kept a.len c.in-Some.w known c.if-len-ne0.false c.if-kept-len.true)

pub returns-else-kept-len : goal.returns-else-kept-len
returns-else-kept-len c =
    let known : (let d = c.args.kept in window_of d.window d.beta ≡ Some c.in-Some.w) = sym c.window_of-coded.ensures ∙ c.in-Some.is in
    let a = c.args in
    sym (read_ready a.kept a.len c.in-Some.w known c.if-len-ne0.false c.if-kept-len.false)

pub returns-in-None : goal.returns-in-None
returns-in-None c =
    let a = c.args in
    sym (ap (read_in a.kept a.len) (sym c.window_of-coded.ensures ∙ c.in-None.is))
