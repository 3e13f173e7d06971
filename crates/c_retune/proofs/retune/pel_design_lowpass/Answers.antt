-- `c_retune::retune::pel_design_lowpass` meets its contract: the code, the length, and then what `prepare` answers. Assumes nothing.
use Rattle.std.specs.Prelude.{Option, Result}
use mathlib.Core.Path.{◌≡◌, sym, ap, ◌∙◌}
use Prim.Native.Nat.{ℕ, ◌/◌}
use borrow.Author.Tests.{eq-eqb, ne_eqb}
use lib.ListN.{length}
use lib.Ieee.{of_bits, of_int}
use Rattle.fir_sinc.specs.declared.window.Window.{Window}
use Rattle.fir_lowpass.specs.Lowpass.{lowpass_of, outcome_of}
use Rattle.fir_lowpass.proofs.LowpassLaws.{lowpass_count}
use Rattle.wire.proofs.WritesLaws.{room}
use Rattle.ticket_taps.specs.FitsLaws.{fits}
use Rattle.c_retune.specs.Designs.{lowpass_in, lowpass_for}
use Rattle.c_retune.specs.DesignsLaws.{left_so, tunes_as}
use Rattle.c_retune.proofs.retune.pel_design_lowpass.Goals as goal
use Rattle.fir_lowpass.specs.declared.lowpass.Lowpass.{Lowpass}
use Rattle.verdict.specs.declared.Refusal.{Refusal}

pub returns-then-len-ne0 : goal.returns-then-len-ne0
unfolding of_int of_bits lowpass_for
returns-then-len-ne0 c =
    let len : ℕ = length c.args.out.now in
    let by_code : Option Window → Result Lowpass Refusal = λ w. lowpass_in c.args.cutoff c.args.rate len w in
    let known : lowpass_for c.args.cutoff c.args.rate c.args.window c.args.beta len ≡ by_code c.window_of-coded.result = ap by_code (sym c.window_of-coded.ensures) in
    left_so (known ∙ ap by_code c.in-Some.is ∙ rw (ne_eqb _ 0 c.if-len-ne0.true)) c.left.ensures

pub written-requires : goal.written-requires
written-requires c =
    let len : ℕ = length c.args.out.now in
    let comes : Window → Result Lowpass Refusal = λ w. lowpass_of c.args.cutoff c.args.rate w (len / 8) in
    let w = c.in-Some.w in
    fits len c.prepare-designed.ensures (room len c.if-len-ne0.false (outcome_of (comes w)) (lowpass_count c.args.cutoff c.args.rate w (len / 8)))

pub returns-else-len-ne0 : goal.returns-else-len-ne0
unfolding of_int of_bits lowpass_for
returns-else-len-ne0 c =
    let len : ℕ = length c.args.out.now in
    let by_code : Option Window → Result Lowpass Refusal = λ w. lowpass_in c.args.cutoff c.args.rate len w in
    let known : lowpass_for c.args.cutoff c.args.rate c.args.window c.args.beta len ≡ by_code c.window_of-coded.result = ap by_code (sym c.window_of-coded.ensures) in
    tunes_as (c.prepare-designed.ensures.is ∙ sym (known ∙ ap by_code c.in-Some.is ∙ rw (eq-eqb _ 0 c.if-len-ne0.false))) c.written.ensures

pub returns-in-None : goal.returns-in-None
unfolding lowpass_for of_int of_bits
returns-in-None c =
    let len : ℕ = length c.args.out.now in
    let by_code : Option Window → Result Lowpass Refusal = λ w. lowpass_in c.args.cutoff c.args.rate len w in
    left_so (ap by_code (sym c.window_of-coded.ensures ∙ c.in-None.is)) c.left-in-None.ensures
