-- The words of the list: a space and 16 digits, the highest first. Assumes nothing.
use Rattle.std.specs.Prelude.{◌≡◌, ℕ, zero, suc, ◌+◌, ◌-◌, ◌*◌, ◌<◌, ◌≤◌, cond, List, Option, Some, None, option_and_then, ◌==◌, ◌≢◌, slice_index}
use Rattle.std.proofs.Math.Path.{sym}
use Rattle.std.proofs.Common.{◌∙◌, eq-eqb, ne_eqb, arith}
use Rattle.replay_lines.specs.Digits.{digit_of}

-- the next k digits, where those before them make v
unfoldable pub digits_at : ℕ → List ℕ → ℕ → ℕ → Option ℕ
digits_at zero text at v = Some v
digits_at (suc k) text at v = option_and_then (λ d. digits_at k text (at + 1) (v * 16 + d)) (digit_of (slice_index text at))

-- the word whose space stands at index at
unfoldable pub word_at : List ℕ → ℕ → Option ℕ
word_at text at = cond (slice_index text at == 32) (digits_at 16 text (at + 1) 0) None

pub no_space : (text : List ℕ) (at : ℕ) → (slice_index text at ≢ 32) → None ≡ word_at text at
unfolding word_at
no_space text at h = rw (ne_eqb (slice_index text at) 32 h)

pub after_space : (text : List ℕ) (at : ℕ) (w : Option ℕ) → slice_index text at ≡ 32 → digits_at 16 text (at + 1) 0 ≡ w → w ≡ word_at text at
unfolding word_at
after_space text at w h e = rw (eq-eqb (slice_index text at) 32 h) (sym e)

module _ (text : List ℕ) (at : ℕ) (i v : ℕ) where
  -- a digit more
  pub step : (r : Option ℕ) (d : ℕ) → i < 16 → r ≡ digit_of (slice_index text (at + i)) → r ≡ Some d
      → digits_at (16 - i) text (at + i) v ≡ digits_at (16 - (i + 1)) text (at + (i + 1)) (v * 16 + d)
  unfolding digits_at
  step r d l p q =
      let e : 16 - i ≡ suc (16 - (i + 1)) = omega arith in
      let f : at + (i + 1) ≡ at + i + 1 = omega arith in
      rw (e, f, sym p ∙ q)

  -- no digit
  pub broken : (r : Option ℕ) → i < 16 → r ≡ digit_of (slice_index text (at + i)) → r ≡ None → digits_at (16 - i) text (at + i) v ≡ None
  unfolding digits_at
  broken r l p q =
      let e : 16 - i ≡ suc (16 - (i + 1)) = omega arith in
      rw (e, sym p ∙ q)

  -- all digits
  pub done : 16 ≤ i → digits_at (16 - i) text (at + i) v ≡ Some v
  unfolding digits_at
  done l = let e : 16 - i ≡ 0 = omega arith in rw e
