-- `ticket_taps::put_taps` meets its contract. The loop's invariant: where the first taps stood in a buffer that came,
-- as many as the loop began with, the first i stand in it now. Assumes nothing.
use Rattle.std.proofs.Common.{◌≡◌, ℕ, List, length}
use lib.Ieee.{binary64, to_bits}
use Rattle.wire.specs.WrittenPrefix.{WrittenPrefix}
use Rattle.ticket_taps.proofs.put_taps.Given as goal

abbrev pub invariant-loop-i : goal.invariant-loop-i
invariant-loop-i g l =
    let kind = g.D.Design in
    let Stands : List ℕ → ℕ → List ℕ → Type 0 = λ came i now. WrittenPrefix 8 (kind.keeps l.fn.design l.raws) (λ k. to_bits binary64 (kind.tap l.fn.design k)) came i now in
    (length l.out ≡ length l.initial.out) × ((came : List ℕ) → length came ≡ length l.initial.out → Stands came l.first l.initial.out → Stands came l.i l.out)
