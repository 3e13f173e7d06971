-- What the answer and the buffer are, from what comes of a ticket. Assumes nothing.
use Rattle.std.specs.Prelude.{◌≡◌, List, ℕ, ◌-◌, ◌*◌, ◌/◌, ◌%◌, length, Float}
use Rattle.std.proofs.Common.{sym, ap, ◌∙◌, subst, arith, eq-eqb, ne_eqb}
use Rattle.std.specs.Float.{binary64}
use Rattle.std.specs.Float.Ieee.{to_bits}
use Rattle.laws.specs.Chunks.{chunks, chunked, chunks_below}
use Rattle.wire.specs.Bytes.{float_bytes}
use Rattle.wire.specs.Laws.{put_all}
use Rattle.wire.specs.Writes.{whole_elements, written, Writes, Room}
use Rattle.verdict.specs.declared.Refusal.{Refusal}
use Rattle.verdict.specs.declared.Refusal.TheVariants.{Length}
use Rattle.verdict.specs.declared.Report.{Report}
use Rattle.verdict.specs.Report.{report_of, accepted_of}
use Rattle.verdict.specs.Reports.{outcome_report}
use Rattle.verdict.specs.Outcome.{Outcome, Agrees}
use Rattle.verdict.specs.Counted.{Counted}

-- ---- by the outcome alone
module _ {bytes : Float → List ℕ} {o : Outcome} {before : List ℕ} {r : Report} where
  -- a refusal, told and with the buffer as it came
  pub leaves : {why : Refusal} → o ≡ Outcome.Refused why → r ≡ report_of why → Writes bytes o before r before
  leaves e told = record { answer = told ∙ ap outcome_report (sym e); buffer = ap (λ (p : Outcome). written bytes p before) (sym e) }

  -- a design, told and with all of its elements
  pub fills : {n : ℕ} {sum : Float} {tap : ℕ → Float} {after : List ℕ} → o ≡ Outcome.Designed n sum tap → r ≡ accepted_of n sum → after ≡ chunks n (λ i. bytes (tap i)) → Writes bytes o before r after
  fills e told put = record { answer = told ∙ ap outcome_report (sym e); buffer = put ∙ ap (λ (p : Outcome). written bytes p before) (sym e) }

  -- the same outcome by another name
  pub writes_same : {p : Outcome} {after : List ℕ} → o ≡ p → Writes bytes o before r after → Writes bytes p before r after
  writes_same e h = record { answer = h.answer ∙ ap outcome_report e; buffer = h.buffer ∙ ap (λ (p : Outcome). written bytes p before) e }

-- two outcomes that agree are told and written alike
pub writes_agreed : {bytes : Float → List ℕ} {before after : List ℕ} {r : Report} (o p : Outcome) → Agrees o p → Writes bytes o before r after → Writes bytes p before r after
writes_agreed {bytes} (Outcome.Designed n s t) (Outcome.Designed m u v) (counts, divisors, taps) h = record {
  answer = h.answer ∙ ap (λ (k : ℕ). accepted_of k s) counts ∙ ap (accepted_of m) divisors;
  buffer = h.buffer ∙ chunks_below n (λ i. bytes (t i)) (λ i. bytes (v i)) (λ i l. ap bytes (taps i l)) ∙ ap (λ (k : ℕ). chunks k (λ i. bytes (v i))) counts;
}
writes_agreed (Outcome.Designed n s t) (Outcome.Refused why) a h = absurd a
writes_agreed (Outcome.Refused why) (Outcome.Designed m u v) a h = absurd a
writes_agreed (Outcome.Refused why) (Outcome.Refused other) a h = record { answer = h.answer ∙ ap report_of a; buffer = h.buffer }

-- ---- by the length too: elements of w bytes in a buffer of len
module _ {bytes : Float → List ℕ} (w len : ℕ) (o : Outcome) {before : List ℕ} {r : Report} where
  -- part of an element is left over
  pub leaves_part : (len % w ≡ 0 → ⊥) → r ≡ report_of (Length (len - len % w) len) → Writes bytes (whole_elements w len o) before r before
  leaves_part e told = leaves (rw (ne_eqb (len % w) 0 e)) told

  -- whole elements, written by a design of this outcome
  pub writes_whole : {p : Outcome} {after : List ℕ} → len % w ≡ 0 → p ≡ o → Writes bytes p before r after → Writes bytes (whole_elements w len o) before r after
  writes_whole whole e h = writes_same (e ∙ sym (rw (eq-eqb (len % w) 0 whole))) h

-- ---- taps
-- as many as a buffer of whole taps is asked for have room in it
pub room : (len : ℕ) → len % 8 ≡ 0 → (o : Outcome) → Counted (len / 8) o → Room len o
room len whole (Outcome.Designed n sum tap) e = omega arith
room len whole (Outcome.Refused why) e = tt

-- a design whose taps have room and were put in the buffer one by one
pub fills_room : {o : Outcome} {before : List ℕ} {r : Report} {n : ℕ} {sum : Float} {tap : ℕ → Float} {after : List ℕ} → o ≡ Outcome.Designed n sum tap → r ≡ accepted_of n sum → Room (length before) o → after ≡ chunked 8 (length before / 8) (λ i. float_bytes (tap i)) before → Writes float_bytes o before r after
fills_room {before = before} {n = n} {tap = tap} e told fit put =
    let m : length before ≡ 8 * n = subst (Room (length before)) e fit in
    let k : length before / 8 ≡ n = omega arith in
    fills e told (put ∙ rw k (put_all 8 (λ i. to_bits binary64 (tap i)) n before (omega arith)))
