-- `c_lowpass::lowpass::pel_lowpass` meets its contract, a code that is known and one that is not. Assumes nothing.
use Rattle.std.specs.Prelude.{Option}
use mathlib.Core.Path.{sym, ap, ◌∙◌}
use lib.ListN.{length}
use Rattle.verdict.specs.Outcome.{Outcome}
use Rattle.c_lowpass.specs.Lowpass.{lowpass_bytes}
use Rattle.wire.proofs.WritesLaws.{leaves, writes_same}
use Rattle.c_lowpass.proofs.lowpass.pel_lowpass.Goals as goal
use Rattle.fir_sinc.specs.declared.window.Window.{Window}

pub returns-in-Some : goal.returns-in-Some
returns-in-Some c =
    let by_code : Option Window → Outcome = λ w. lowpass_bytes c.args.cutoff c.args.rate w (length c.args.out.now) in
    let known = ap by_code (sym c.in-Some.is ∙ c.window_of-coded.ensures) in
    writes_same known c.put_lowpass.ensures

pub returns-in-None : goal.returns-in-None
returns-in-None c =
    let by_code : Option Window → Outcome = λ w. lowpass_bytes c.args.cutoff c.args.rate w (length c.args.out.now) in
    leaves (ap by_code (sym c.window_of-coded.ensures ∙ c.in-None.is)) c.from.ensures
