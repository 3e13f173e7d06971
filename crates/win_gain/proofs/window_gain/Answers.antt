-- `win_gain::window_gain` meets its contract. The loop's invariant: both sums so far. Assumes nothing.
use Rattle.std.proofs.Common.{◌≡◌, ℕ, ◌+◌, length, ap, ◌∙◌, arith}
use lib.Ieee.{Float, binary64}
use Rattle.laws.specs.Binary64.{◌⊕◌, ◌⊗◌}
use Rattle.laws.specs.Sums.{sum_to}
use Rattle.laws.proofs.SumsLaws.{sum_none, sum_more}
use Rattle.win_gain.specs.Gain.{gain_of}
use Rattle.win_gain.proofs.window_gain.Invariants.{sample, square}
use Rattle.win_gain.proofs.window_gain.Goals as goal

-- a sum and the term after it
next : (g : ℕ → Float) {i : ℕ} {sum x : Float} → sum ≡ sum_to binary64 g i → x ≡ g i → sum ⊕ x ≡ sum_to binary64 g (i + 1)
next g {i} s e = rw (s, e) (sum_more binary64 g i)

pub loop-i-init : goal.loop-i-init
loop-i-init c = (omega arith, sum_none binary64 _, sum_none binary64 _)

pub loop-i-preserved : goal.loop-i-preserved
loop-i-preserved c =
    let w = c.args.w.now in
    (omega arith, next (sample w) c.loop-i.invariant.1 c.f32_to_f64_with_nan-v.ensures, next (square w) c.loop-i.invariant.2 (ap (λ (z : Float). z ⊗ z) c.f32_to_f64_with_nan-v.ensures))

pub returns : goal.returns
unfolding gain_of
returns c =
    let w = c.args.w.now in
    let end : c.loop-i.i ≡ length w = omega arith in
    c.gain_of.ensures ∙ rw (c.loop-i.invariant.1, c.loop-i.invariant.2, end)
