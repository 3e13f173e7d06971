-- `iir_butterworth::section::Section::numbers` meets its contract: the section of first order, and then those of second
-- order. Assumes nothing.
use mathlib.Core.Path.{sym}
use Prim.Native.Nat.{◌+◌, ◌*◌}
use borrow.Author.Tests.{eq-eqb, ne_eqb}
use lib.Ieee.{of_bits, of_int}
use Rattle.iir_butterworth.specs.Butterworth.{section_at}
use Rattle.iir_butterworth.proofs.section.Section.numbers.Goals as goal

pub returns-then-self : goal.returns-then-self
unfolding section_at of_int of_bits
returns-then-self c =
    let a = c.args.self in
    rw (c.first_order.ensures, c.cos.ensures, c.sin-s.ensures) (sym (rw (eq-eqb a.order (2 * a.i + 1) c.if-self.true)))

pub returns : goal.returns
unfolding section_at of_int of_bits
returns c =
    let a = c.args.self in
    rw (c.biquad_coefs-b.ensures, c.quality.ensures) (sym (rw (ne_eqb a.order (2 * a.i + 1) c.if-self.false)))
