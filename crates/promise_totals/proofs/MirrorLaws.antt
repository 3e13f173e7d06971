-- The taps of a half-band mirror and vanish where half-bands do: of any outcome, and of the export.
use Rattle.std.specs.Prelude.{◌≡◌, refl, List, ℕ, ◌-◌, ◌*◌, ◌/◌, ◌%◌, ◌<◌, eqb, length, take, drop, Float, Err, Ok, Result}
use Rattle.std.proofs.Common.{sym, ap, ◌∙◌, subst, arith}
use Rattle.std.specs.Float.{binary64}
use Rattle.std.specs.Float.Ieee.{to_bits}
use Rattle.laws.specs.Chunks.{chunks}
use Rattle.wire.specs.Bytes.{float_bytes, float_of}
use Rattle.wire.specs.Laws.{length_bytes}
use Rattle.wire.specs.Read.{chunk_at, float_bytes_lem}
use Rattle.verdict.specs.Report.{accepted_of}
use Rattle.verdict.specs.declared.Refusal.TheVariants as Refusal
use Rattle.verdict.specs.declared.Report.{Report}
use Rattle.verdict.specs.Outcome.{Outcome}
use Rattle.fir_halfband.specs.Halfband.{halfband_of, tap_of, outcome_of}
use Rattle.fir_halfband.specs.HalfbandLaws.{accepted}
use Rattle.fir_halfband.specs.Mirror.{IsZero, mirror, zero_taps}
use Rattle.fir_halfband.specs.declared.HalfbandDesign.{HalfbandDesign}
use Rattle.c_pulses.specs.Buffers.{halfband_bytes}
use Rattle.verdict.specs.Reports.{outcome_report}
use Rattle.wire.specs.Writes.{Writes, written}
use Rattle.promise_totals.proofs.Sound.{Sound, halfband_bytes_sound}
use Rattle.promise_totals.proofs.WrittenLaws.{by_writes}
use Rattle.laws.specs.Cases.{either_way}
use Rattle.promise_totals.specs.Mirror.{Mirrored, Symmetric, Vanishes, WhereMade}
use Rattle.verdict.specs.declared.Refusal.{Refusal}

pub halfband_symmetric : (beta : Float) (n : ℕ) → WhereMade (outcome_of (halfband_of beta n))
halfband_symmetric beta n = go (halfband_of beta n) refl
  where
    go : (d : Result HalfbandDesign Refusal) → halfband_of beta n ≡ d → WhereMade (outcome_of d)
    go (Ok d) e =
        let count : d.n ≡ n = ap (λ (z : HalfbandDesign). z.n) (accepted beta n d e).is in
        subst (λ (m : ℕ). Symmetric m (tap_of d)) (sym count) (record { mirrored = mirror beta n d e; zeros = zero_taps beta n d e })
    go (Err why) e = tt

pub bytes_symmetric : (beta : Float) (len : ℕ) → WhereMade (halfband_bytes beta len)
bytes_symmetric beta len = either_way WhereMade (eqb (len % 8) 0) (outcome_of (halfband_of beta (len / 8))) (Outcome.Refused (Refusal.Length (len - len % 8) len)) (halfband_symmetric beta (len / 8)) tt

-- ---- of any outcome
tap_bytes : (n : ℕ) (tap : ℕ → Float) (i : ℕ) → i < n → take 8 (drop (8 * i) (chunks n (λ i. float_bytes (tap i)))) ≡ float_bytes (tap i)
tap_bytes n tap i h = chunk_at 8 (λ i. float_bytes (tap i)) (λ i. length_bytes 8 (to_bits binary64 (tap i))) n i h

symmetric_mirrored : (o : Outcome) (before : List ℕ) → Sound o → WhereMade o → Mirrored (outcome_report o) (written float_bytes o before)
unfolding accepted_of
symmetric_mirrored (Outcome.Designed n divisor tap) before sound s e i h = tap_bytes n tap i h ∙ ap float_bytes (s.mirrored i h) ∙ sym (tap_bytes n tap (n - 1 - i) (omega arith))
symmetric_mirrored (Outcome.Refused why) before numbered s e i h = absurd (numbered e)

symmetric_vanishes : (o : Outcome) (before : List ℕ) → Sound o → WhereMade o → Vanishes (outcome_report o) (written float_bytes o before)
unfolding accepted_of
symmetric_vanishes (Outcome.Designed n divisor tap) before (taps, fit) s e i h p q = subst IsZero (sym (ap float_of (tap_bytes n tap i h) ∙ float_bytes_lem (tap i) (fit i))) (s.zeros i h p q)
symmetric_vanishes (Outcome.Refused why) before numbered s e i h p q = absurd (numbered e)

module _ {o : Outcome} {before after : List ℕ} {r : Report} (sound : Sound o) (made : WhereMade o) (w : Writes float_bytes o before r after) where
  pub mirrored_written : Mirrored r after
  mirrored_written = by_writes Mirrored w (symmetric_mirrored o before sound made)

  pub zeros_written : Vanishes r after
  zeros_written = by_writes Vanishes w (symmetric_vanishes o before sound made)

-- ---- of `pel_halfband`; `Writes` is what it ensures
module _ (beta : Float) (before after : List ℕ) (r : Report) (w : Writes float_bytes (halfband_bytes beta (length before)) before r after) where
  pub halfband_mirrored : Mirrored r after
  halfband_mirrored = mirrored_written (halfband_bytes_sound beta (length before)) (bytes_symmetric beta (length before)) w

  pub halfband_zeros : Vanishes r after
  halfband_zeros = zeros_written (halfband_bytes_sound beta (length before)) (bytes_symmetric beta (length before)) w
