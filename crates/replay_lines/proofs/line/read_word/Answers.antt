-- `replay_lines::line::read_word` meets its contract: after i digits the rest of them make what all of them do, and the
-- value is below 16 ^ i. Assumes nothing.
use Rattle.std.proofs.Common.{◌≡◌, ℕ, suc, ◌+◌, ◌-◌, ◌*◌, ◌^◌, ◌<◌, List, length, take, drop, Option, Some, None, sym, ◌∙◌, ap, arith, pow-suc, add-one}
use Rattle.std.specs.Prelude.{slice_index, option_and_then}
use Rattle.std.proofs.Math.Nat.{pow-le-pow_right}
use Rattle.std.proofs.lemmas.List.{get_or-take}
use Rattle.std.proofs.lemmas.Grind.{common_steps, get_or_after_one}
use Rattle.replay_lines.specs.Digits.{digit_of}
use Rattle.replay_lines.specs.Words.{digits_at, word_at}
use Rattle.replay_lines.proofs.line.read_word.Goals as goal

-- a digit after i of them, which make v
module _ (text : List ℕ) (i v : ℕ) (l : i < length (take 16 (drop 1 text))) where
  below : i < 16
  below = grind (arith, common_steps)

  -- what 16 digits make fits a u64
  room : (d : ℕ) → v < 16 ^ i → d < 16 → (v * 16 + d < 2 ^ 64) × (v * 16 + d < 16 ^ (i + 1))
  room d h s =
      let b = below in
      (omega (arith, pow-le-pow_right {n = 16} (omega arith) {i = i} {j = 15} (omega arith)), rw (add-one i, pow-suc 16 i) (omega arith))

  -- it is the text's next
  step : (r : Option ℕ) → r ≡ digit_of (slice_index (take 16 (drop 1 text)) i)
      → digits_at (16 - i) text (1 + i) v ≡ option_and_then (λ d. digits_at (16 - (i + 1)) text (1 + (i + 1)) (v * 16 + d)) r
  unfolding digits_at
  step r p =
      let b = below in
      let e : 16 - i ≡ suc (16 - (i + 1)) = omega arith in
      let f : 1 + (i + 1) ≡ 1 + i + 1 = omega arith in
      let g : r ≡ digit_of (slice_index text (1 + i)) = p ∙ ap digit_of (get_or-take 16 (drop 1 text) i 0 b ∙ get_or_after_one text i 0) in
      rw (e, f, g)

pub overflow_mul-value : goal.overflow_mul-value
overflow_mul-value c =
    let w = c.loop-digit in
    omega (arith, (room c.args.text.now w.digit-index w.value c.loop-digit-test.true 0 w.invariant.0 (omega arith)).0)

pub overflow_add-value : goal.overflow_add-value
overflow_add-value c =
    let w = c.loop-digit in
    omega (arith, (room c.args.text.now w.digit-index w.value c.loop-digit-test.true c.in_ok-value.field-0 w.invariant.0 c.in_ok-value.ensures.small).0)

pub returns-in_err-value : goal.returns-in_err-value
unfolding word_at
returns-in_err-value c =
    let w = c.loop-digit in
    let on = step c.args.text.now w.digit-index w.value c.loop-digit-test.true None c.in_err-value.ensures.value in
    rw (c.if-text-ne32.false) (c.from_residual.ensures ∙ sym on ∙ w.invariant.1)

pub loop-digit-preserved : goal.loop-digit-preserved
loop-digit-preserved c =
    let w = c.loop-digit in
    let d = c.in_ok-value in
    let fits = room c.args.text.now w.digit-index w.value c.loop-digit-test.true d.field-0 w.invariant.0 d.ensures.small in
    let on = step c.args.text.now w.digit-index w.value c.loop-digit-test.true (Some d.field-0) d.ensures.value in
    (fits.1, sym on ∙ w.invariant.1)

pub returns : goal.returns
unfolding word_at digits_at
returns c =
    let w = c.loop-digit in
    let e : w.digit-index ≡ 16 = grind (arith, common_steps) in
    rw (c.if-text-ne32.false, ← w.invariant.1, e)
