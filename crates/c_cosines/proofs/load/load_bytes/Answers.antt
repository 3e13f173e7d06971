-- `c_cosines::load::load_bytes` meets its contract. Assumes nothing.
use mathlib.Core.Path.{refl, sym, ◌∙◌}
use borrow.Author.Tests.{eq-eqb, ne_eqb}
use Rattle.c_cosines.specs.Loads.{numbers_in, load_bytes}
use Rattle.c_cosines.specs.LoadsLaws.{how_many}
use Rattle.c_cosines.proofs.load.load_bytes.Goals as goal

pub returns-then-len-ne0 : goal.returns-then-len-ne0
unfolding load_bytes
returns-then-len-ne0 c = sym (rw (ne_eqb _ 0 c.if-len-ne0.true))

pub returns : goal.returns
unfolding load_bytes
returns c =
    let s = c.args.src.now in
    c.loaded.ensures (numbers_in s) (how_many s)
    (rw (
      c.number_at.ensures,
      c.number_at-2.ensures,
      c.number_at-3.ensures,
      c.number_at-4.ensures,
      c.number_at-5.ensures,
    ) refl)
    ∙ sym (rw (eq-eqb _ 0 c.if-len-ne0.false))
