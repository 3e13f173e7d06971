-- `fir_rrc::design::Rrc::new` meets its contract: the roll-off first, and then by what came of the length. Assumes
-- nothing.
use Rattle.std.specs.Prelude.{Err, Ok, Result, ℕ}
use Rattle.std.proofs.Common.{◌≡◌, sym, ap, ◌∙◌, arith, rules}
use lib.Ieee.{of_bits, of_int, round}
use Rattle.fir_rrc.specs.Rrc.{rrc_in, rrc_of}
use Rattle.fir_rrc.specs.RrcLaws.{few, by_length, ready, no_rolloff}
use Rattle.fir_rrc.proofs.design.Rrc.new.Goals as goal
use Rattle.verdict.specs.declared.Refusal.{Refusal}

pub returns-then-not-takes_rolloff : goal.returns-then-not-takes_rolloff
unfolding of_int of_bits round
returns-then-not-takes_rolloff c =
    let a = c.args in
    sym (no_rolloff a.rolloff a.sps a.span (sym c.takes_rolloff.ensures ∙ c.if-not-takes_rolloff.true))

pub invariant_of-pulse : goal.invariant_of-pulse
invariant_of-pulse c =
    let a = c.args in
    let f = few a.sps a.span c.in_ok-n.n (sym c.rrc_len.ensures ∙ c.in_ok-n.was) in
    let s = f.samples in
    let t = f.taps in
    record { sps_high = omega arith; n_high = omega arith }

pub returns : goal.returns
unfolding of_int of_bits
returns c =
    let answer : (k : Result ℕ Refusal) → c.rrc_len.result ≡ k → rrc_of c.args.rolloff c.args.sps c.args.span ≡ rrc_in c.args.rolloff c.args.sps k = λ k e. let a = c.args in
    by_length a.rolloff a.sps a.span (sym c.takes_rolloff.ensures ∙ c.if-not-takes_rolloff.false)
    ∙ ap (rrc_in a.rolloff a.sps) (sym c.rrc_len.ensures ∙ e) in
    let a = c.args in
    ready a.rolloff a.sps c.in_ok-n.n c.energy.ensures c.sqrt-norm.ensures ∙ sym (answer (Ok c.in_ok-n.n) c.in_ok-n.was)

pub returns-in_err-n : goal.returns-in_err-n
returns-in_err-n c =
    let answer : (k : Result ℕ Refusal) → c.rrc_len.result ≡ k → rrc_of c.args.rolloff c.args.sps c.args.span ≡ rrc_in c.args.rolloff c.args.sps k = λ k e. let a = c.args in
    by_length a.rolloff a.sps a.span (sym c.takes_rolloff.ensures ∙ c.if-not-takes_rolloff.false)
    ∙ ap (rrc_in a.rolloff a.sps) (sym c.rrc_len.ensures ∙ e) in
    let refused : c.from_residual.result ≡ Err c.in_err-n.field-0.0 = search rules in
    rw refused (sym (answer (Err c.in_err-n.field-0.0) c.in_err-n.was))
