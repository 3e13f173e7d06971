-- `c_formats::element::Q14::encode` meets its contract. Assumes nothing.
use Rattle.std.specs.Prelude.{Ok, Err, Float}
use Rattle.std.proofs.Common.{rules, ◌≡◌, w16, to_z, of_z}
use mathlib.Core.Path.{sym, ap, ◌∙◌}
use Rattle.wire.specs.Bytes.{twos_of}
use Rattle.c_formats.specs.Format.{Format}
use Rattle.c_formats.specs.Formats.{encoded_of, coded_of}
use Rattle.c_formats.specs.FormatLaws.{encoded_q14}
use Rattle.c_formats.proofs.element.Q14Encoded.encode.Goals as goal

pub returns-in_err-q : goal.returns-in_err-q
returns-in_err-q c =
    let a = c.args in
    let refused : c.from_residual.result ≡ Err c.in_err-q.field-0.0 = search rules in
    rw refused (ap coded_of (sym c.in_err-q.was ∙ c.q14_from_f64.ensures) ∙ encoded_q14 a.i _ ∙ ap (λ (x : Float). encoded_of Format.Q14 a.i x) c.float_of.ensures)

pub returns : goal.returns
returns c =
    let a = c.args in
    let held : to_z w16 (of_z w16 c.in_ok-q.q) ≡ c.in_ok-q.q = search rules in
    ap Ok (c.bits_of.ensures ∙ ap twos_of held) ∙ ap coded_of (sym c.in_ok-q.was ∙ c.q14_from_f64.ensures) ∙ encoded_q14 a.i _ ∙ ap (λ (x : Float). encoded_of Format.Q14 a.i x) c.float_of.ensures
