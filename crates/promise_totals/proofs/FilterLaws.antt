-- What is read after a conversion keeps its totals, a kind at a time.
use Rattle.std.specs.Prelude.{◌≡◌, refl, Bool, cond, List, [], ◌∷◌, ℕ, zero, suc, ◌+◌, ◌*◌, ◌/◌, ◌%◌, ◌^◌, ◌≤◌, ℤ, pos, nat_abs, ◌+ℤ◌, ◌-ℤ◌, length, get_or, Float, Err, Ok, Option, Result}
use Rattle.std.proofs.Common.{sym, ap, ◌∙◌, subst, arith, eq-eqb}
use Rattle.std.proofs.Math.Nat.{mod-one}
use Rattle.std.specs.Float.{nan, binary64}
use Rattle.std.specs.Float.Ieee.{to_bits}
use Rattle.std.specs.Float.Ieee.Bits.{is_true}
use Rattle.laws.specs.Chunks.{length_chunks}
use Rattle.laws.specs.Filled.{tabulate}
use Rattle.laws.specs.Prefix.{one_more, first_bad}
use Rattle.laws.specs.SumError.{Each}
use Rattle.laws.specs.Totals.{sum_z}
use Rattle.wire.specs.Bytes.{twos_of, float_bytes, float_at, floats_in, code_bytes, codes_in}
use Rattle.wire.specs.Laws.{length_bytes}
use Rattle.wire.specs.Writes.{Writes, written}
use Rattle.verdict.specs.Report.{accepted_of}
use Rattle.verdict.specs.declared.Report.{Report}
use Rattle.verdict.specs.Reports.{outcome_report, done_report}
use Rattle.verdict.specs.Converts.{taken_of, then_of}
use Rattle.verdict.specs.ConvertsLaws.{same_count}
use Rattle.verdict.specs.Outcome.{Outcome}
use Rattle.fmt_q15.specs.Q15.{takes, q15_of}
use Rattle.fir_spec.specs.declared.DesignSpec.{DesignSpec}
use Rattle.c_formats.specs.Format.{Q15}
use Rattle.c_formats.specs.Formats.{width_of, takes_of, pattern_of, outside_of}
use Rattle.c_formats.specs.Conversions.{floats, lengths_of, ConvertsBytes}
use Rattle.c_formats.specs.ConversionLaws.{whole_elements}
use Rattle.c_lowpass.specs.Lowpass.{lowpass_bytes}
use Rattle.c_lowpass.specs.Prototype.{channelizer_bytes}
use Rattle.c_lowpass.specs.Spec.{spec_bytes}
use Rattle.c_pulses.specs.Buffers.{halfband_bytes, gaussian_bytes}
use Rattle.promise_refusals.proofs.Kept.{Converted, accepted_conversion}
use Rattle.promise_totals.specs.Bounds.{sizes}
use Rattle.promise_totals.proofs.Normalised.{taken_finite}
use Rattle.promise_totals.proofs.Sound.{Sound, lowpass_bytes_sound, spec_bytes_sound, halfband_bytes_sound, gaussian_bytes_sound, channelizer_bytes_sound}
use Rattle.promise_totals.specs.Written.{Accepted, taps_in, Totals}
use Rattle.promise_totals.proofs.WrittenLaws.{by_writes, lowpass_written, spec_written, halfband_written, gaussian_written, channelizer_written}
use Rattle.promise_totals.specs.ReadCodes.{codes_back, q15_fits}
use Rattle.promise_totals.specs.Filter.{Filters, sum_of_all}
use Rattle.fir_sinc.specs.declared.window.Window.{Window}
use Rattle.verdict.specs.declared.Refusal.{Refusal}

-- ---- the numbers that are read are those that `q15_tap` makes
-- an accepted conversion to Q15, in the words of Q15 alone
record InQ15 (s codes : List ℕ) (n : ℕ) : Type 0 where
  size : length codes ≡ 2 * n
  taken : Each takes (floats_in n s)
  numbers : codes_in n codes ≡ tabulate n (λ i. q15_of (float_at s (8 * i)))

of_converted : (s codes : List ℕ) → Converted Q15 s codes → InQ15 s codes (length s / 8)
unfolding width_of takes_of pattern_of
of_converted s codes k =
    let n = length s / 8 in
    let number : ℕ → ℤ = λ i. q15_of (float_at s (8 * i)) in
    record {
      size = ap length k.bytes ∙ length_chunks 2 (λ i. code_bytes (number i)) (λ i. length_bytes 2 (twos_of (number i))) n;
      taken = k.taken;
      numbers = ap (codes_in n) k.bytes ∙ codes_back n number (λ i. q15_fits (float_at s (8 * i)));
    }

sum_tabulate : (g : Float → ℤ) (n : ℕ) (t : ℕ → Float) → sum_of_all (tabulate n (λ i. g (t i))) ≡ sum_z g (tabulate n t)
unfolding tabulate sum_of_all sum_z
sum_tabulate g zero t = refl
sum_tabulate g (suc n) t = ap (λ (z : ℤ). g (t 0) +ℤ z) (sum_tabulate g n (λ i. t (suc i)))

-- ---- of any design's bytes that are n taps and have the totals
abbrev pub WholeTaps : Report → List ℕ → Type 0
WholeTaps r after = Accepted r → length after ≡ 8 * r.count

made : (r c : Report) (taps out codes : List ℕ) → WholeTaps r taps → ConvertsBytes Q15 1 taps out c codes → Accepted r → Accepted c → InQ15 taps codes r.count
made r c taps out codes whole v a b =
    let n : length taps / 8 ≡ r.count = omega (arith, whole a) in
    subst (InQ15 taps codes) n (of_converted taps codes (accepted_conversion v b))

pub filter_total : {r c : Report} {taps out codes : List ℕ} → Totals r taps → WholeTaps r taps → ConvertsBytes Q15 1 taps out c codes → Filters r taps c codes
filter_total {r} {c} {taps} {out} {codes} t whole v = record {
  whole = λ a b. (made r c taps out codes whole v a b).size;
  total = λ a b d u.
      let k = made r c taps out codes whole v a b in
      let ts = taps_in r taps in
      let sum : sum_of_all (codes_in r.count codes) ≡ sum_z q15_of ts = ap sum_of_all k.numbers ∙ sum_tabulate q15_of r.count (λ i. float_at taps (8 * i)) in
      subst (λ (z : ℤ). 2 ^ 37 * 2 ^ 1074 * nat_abs (z -ℤ pos 32768) ≤ length ts * (2 ^ 36 * 2 ^ 1074 + 2 ^ 1074 + sizes ts)) (sym sum) (t.codes a d (taken_finite ts k.taken) k.taken u);
}

-- an accepted design's buffer is its taps, eight bytes each, and nothing else
whole_written : (o : Outcome) (before : List ℕ) → Sound o → WholeTaps (outcome_report o) (written float_bytes o before)
unfolding accepted_of
whole_written (Outcome.Designed n divisor tap) before sound e = length_chunks 8 (λ i. float_bytes (tap i)) (λ i. length_bytes 8 (to_bits binary64 (tap i))) n
whole_written (Outcome.Refused why) before numbered e = absurd (numbered e)

pub whole_taps_lem : {o : Outcome} {before after : List ℕ} {r : Report} → Sound o → Writes float_bytes o before r after → WholeTaps r after
whole_taps_lem {o} {before} s w = by_writes WholeTaps w (whole_written o before s)

-- ---- and such a conversion is accepted: one of n f64s that Q15 takes, into 2 n bytes
none_bad : (p : Float → Bool) (l : List Float) → Each p l → first_bad p l ≡ length l
unfolding first_bad
none_bad p [] a = refl
none_bad p (x ∷ l) a = ap (λ (b : Bool). one_more b (first_bad p l)) (is_true (p x) a.0) ∙ ap suc (none_bad p l a.1)

pub conversion_accepted : (n : ℕ) (s out codes : List ℕ) (c : Report) → ConvertsBytes Q15 1 s out c codes → length s ≡ 8 * n → length out ≡ 2 * n → Each takes (floats_in n s) → Accepted c
unfolding width_of takes_of taken_of accepted_of
conversion_accepted n s out codes c v long room a =
    let k : length s / 8 ≡ n = omega arith in
    let whole : length s % 8 ≡ 0 = omega arith in
    let even : length out % 2 ≡ 0 = omega arith in
    let half : length s / 8 ≡ length out / 2 = omega arith in
    let lengths : lengths_of 2 1 (length s) (length out) ≡ (Ok tt) = whole_elements 2 1 (length s) (length out) whole even ∙ same_count 1 (length s / 8) (length out / 2) (mod-one (length s / 8)) half in
    let all = none_bad takes (floats s) (subst (λ (m : ℕ). Each takes (floats_in m s)) (sym k) a) in
    ap (λ (z : Report). z.number) v.answer
    ∙ ap (λ (l : Result (Unit {0}) Refusal). (done_report (length s / 8) (then_of l (taken_of takes (outside_of Q15) (floats s)))).number) lengths
    ∙ ap (λ (b : Bool). (done_report (length s / 8) (cond b (Ok tt) (Err (outside_of Q15 (first_bad takes (floats s)) (get_or (floats s) (first_bad takes (floats s)) nan))))).number) (eq-eqb (first_bad takes (floats s)) (length (floats s)) all)

-- ---- of each export and `pel_to_q15`: `Writes` is what the one ensures, `ConvertsBytes Q15 1` what the other does
module _ {before taps out codes : List ℕ} {r c : Report} where
  -- `pel_lowpass` and `pel_lowpass_cosines`
  pub lowpass_filter : (cutoff rate : Float) (w : Option Window) → Writes float_bytes (lowpass_bytes cutoff rate w (length before)) before r taps → ConvertsBytes Q15 1 taps out c codes → Filters r taps c codes
  lowpass_filter cutoff rate w h v = filter_total (lowpass_written cutoff rate w before taps r h) (whole_taps_lem (lowpass_bytes_sound cutoff rate w (length before)) h) v

  -- `pel_spec_design`
  pub spec_filter : (spec : DesignSpec) (rate : Float) (m : ℕ) → Writes float_bytes (spec_bytes spec rate m (length before)) before r taps → ConvertsBytes Q15 1 taps out c codes → Filters r taps c codes
  spec_filter spec rate m w v = filter_total (spec_written spec rate m before taps r w) (whole_taps_lem (spec_bytes_sound spec rate m (length before)) w) v

  -- `pel_halfband`
  pub halfband_filter : (beta : Float) → Writes float_bytes (halfband_bytes beta (length before)) before r taps → ConvertsBytes Q15 1 taps out c codes → Filters r taps c codes
  halfband_filter beta w v = filter_total (halfband_written beta before taps r w) (whole_taps_lem (halfband_bytes_sound beta (length before)) w) v

  -- `pel_gaussian`
  pub gaussian_filter : (bt : Float) (sps span : ℕ) → Writes float_bytes (gaussian_bytes bt sps span (length before)) before r taps → ConvertsBytes Q15 1 taps out c codes → Filters r taps c codes
  gaussian_filter bt sps span w v = filter_total (gaussian_written bt sps span before taps r w) (whole_taps_lem (gaussian_bytes_sound bt sps span (length before)) w) v

  -- `pel_channelizer_prototype`
  pub channelizer_filter : (channels branch : ℕ) (passband stopband attenuation : Float) → Writes float_bytes (channelizer_bytes channels branch passband stopband attenuation (length before)) before r taps → ConvertsBytes Q15 1 taps out c codes → Filters r taps c codes
  channelizer_filter channels branch passband stopband attenuation w v = filter_total (channelizer_written channels branch passband stopband attenuation before taps r w) (whole_taps_lem (channelizer_bytes_sound channels branch passband stopband attenuation (length before)) w) v
