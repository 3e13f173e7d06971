-- A real ticket of each kind meets every premise of both totals: it is accepted, its last divisor and its taps are
-- finite, Q15 takes each of them and none saturates. So both totals stand for it with no premise left, in bytes, after a
-- conversion and in a slice, and the mirror and a zero of a half-band. Assumes nothing.
use Rattle.std.specs.Prelude.{◌≡◌, refl, Bool, true, false, ◌&&◌, List, [], ◌∷◌, T, eqb, length, take, drop, get_or, Float, Result}
use Rattle.std.proofs.Common.{sym, ap, ◌∙◌, subst, arith}
use Prim.Native.Nat.{ℕ, ◌-◌, ◌*◌, ◌/◌, ◌%◌, ◌<◌}
use Rattle.std.specs.Float.{nan}
use Rattle.std.specs.Float.Ieee.{of_bits, of_int, round, add, sub, mul, div, lt, le, ne, to_unsigned}
use Rattle.std.specs.Float.Ieee.Fits.{and_l, and_r}
use Rattle.std.specs.Float.Ieee.Scale.{finite}
use Rattle.laws.specs.Every.{every}
use Rattle.laws.specs.Binary64.{whole, fraction, fact, over}
use Rattle.laws.specs.Filled.{tabulate, length_tabulate}
use Rattle.laws.specs.Floor.{floor_z, ceil_z}
use Rattle.laws.specs.SumError.{Each}
use Rattle.laws.specs.Sums.{sum_to}
use Rattle.wire.specs.Bytes.{float_bytes, float_at, codes_in}
use Rattle.wire.specs.Read.{floats_back}
use Rattle.verdict.specs.Report.{accepted_of}
use Rattle.verdict.specs.declared.Report.{Report}
use Rattle.math_round.specs.Whole.{as_float, floor_of, ceil_of, abs_of}
use Rattle.math_sqrt.specs.Sqrt.{sqrt_of}
use Rattle.math_trig.specs.Trig.{sin_of, cos_of}
use Rattle.math_exp.specs.Exp.{exp_of}
use Rattle.math_numbers.specs.Numbers.{positive}
use Rattle.math_bessel.specs.Series.{series_of}
use Rattle.win_settling.specs.Settling.{kaiser_settles}
use Rattle.fir_length.specs.Kaiser.{beta_of, order_of}
use Rattle.fmt_q15.specs.Q15.{moved, takes}
use Rattle.verdict.specs.Outcome.{Outcome, Fills}
use Rattle.fir_sinc.specs.Windows.{window_at, norm_of}
use Rattle.fir_sinc.specs.declared.window.Window.TheVariants.{Hann}
use Rattle.fir_lowpass.proofs.LowpassLaws.{lowpass_count}
use Rattle.fir_spec.specs.SpecLaws.{spec_count}
use Rattle.fir_gaussian.specs.GaussianLaws.{gaussian_count}
use Rattle.fir_channelizer.specs.ChannelizerLaws.{channelizer_count}
use Rattle.fir_lowpass.specs.Lowpass as Lowpass
use Rattle.fir_spec.specs.Spec.{spec_order_of, spec_design_of}
use Rattle.fir_halfband.specs.Halfband as Halfband
use Rattle.fir_gaussian.specs.Gaussian as Gaussian
use Rattle.fir_channelizer.specs.Channelizer as Channelizer
use Rattle.c_formats.specs.Format.{Q15}
use Rattle.c_formats.specs.Conversions.{ConvertsBytes}
use Rattle.ticket_codes.specs.Codes.{window_of}
use Rattle.c_lowpass.specs.Lowpass.{lowpass_bytes}
use Rattle.c_lowpass.specs.Prototype.{channelizer_bytes}
use Rattle.c_pulses.specs.Buffers.{halfband_bytes, gaussian_bytes}
use Rattle.c_lowpass.specs.Spec.{spec_bytes, spec_of}
use Rattle.verdict.specs.Reports.{outcome_report}
use Rattle.wire.specs.Writes.{Writes, written}
use Rattle.verdict.specs.Counted.{Counted}
use Rattle.laws.specs.Cases.{either_way}
use Rattle.fir_halfband.specs.Halfband.{distance}
use Rattle.fir_halfband.specs.HalfbandLaws.{halfband_count}
use Rattle.fir_halfband.specs.Mirror.{IsZero}
use Rattle.promise_totals.specs.Bounds.{TapTotal, Q15Total, unsaturated}
use Rattle.promise_totals.proofs.Sound.{Sound, lowpass_bytes_sound, spec_bytes_sound, halfband_bytes_sound, gaussian_bytes_sound, channelizer_bytes_sound}
use Rattle.promise_totals.specs.Written.{Accepted, divisor_in, taps_in, Totals}
use Rattle.promise_totals.proofs.WrittenLaws.{lowpass_written, spec_written, halfband_written, gaussian_written, channelizer_written}
use Rattle.promise_totals.proofs.MirrorLaws.{halfband_mirrored, halfband_zeros}
use Rattle.promise_totals.specs.Slices.{IsDone, SliceTotals}
use Rattle.promise_totals.proofs.SlicesLaws.{lowpass_filled, spec_filled, gaussian_filled, channelizer_filled, by_taps, halfband_filled, halfband_mirrors}
use Rattle.promise_totals.specs.Filter.{FilterTotal}
use Rattle.promise_totals.proofs.FilterLaws.{WholeTaps, whole_taps_lem, filter_total, conversion_accepted}
use Rattle.verdict.specs.declared.Refusal.{Refusal}

-- ---- the premises
pub record Premises (r : Report) (after : List ℕ) : Type 0 where
  pub accepted : Accepted r
  pub divisor : T (finite (divisor_in r))
  pub finites : Each finite (taps_in r after)
  pub taken : Each takes (taps_in r after)
  pub within : Each unsaturated (taps_in r after)

-- as a test, of an outcome
unfoldable pub all : (Float → Bool) → List Float → Bool
all b [] = true
all b (t ∷ ts) = b t && all b ts

unfoldable pub met : Outcome → Bool
unfolding all
met (Outcome.Designed n divisor tap) = finite divisor && (all finite (tabulate n tap) && (all takes (tabulate n tap) && all unsaturated (tabulate n tap)))
met (Outcome.Refused why) = false

both : (a b : Bool) → T (a && b) → T a × T b
both a b h = (and_l a b h, and_r a b h)

all_each : (b : Float → Bool) (ts : List Float) → T (all b ts) → Each b ts
unfolding all
all_each b [] h = tt
all_each b (t ∷ ts) h = let p = both (b t) (all b ts) h in (p.0, all_each b ts p.1)

record Meets (divisor : Float) (ts : List Float) : Type 0 where
  divides : T (finite divisor)
  finites : Each finite ts
  taken : Each takes ts
  within : Each unsaturated ts

by_test : (n : ℕ) (divisor : Float) (tap : ℕ → Float) → T (met (Outcome.Designed n divisor tap)) → Meets divisor (tabulate n tap)
unfolding met
by_test n divisor tap h =
    let ts = tabulate n tap in
    let p = both (finite divisor) (all finite ts && (all takes ts && all unsaturated ts)) h in
    let q = both (all finite ts) (all takes ts && all unsaturated ts) p.1 in
    let s = both (all takes ts) (all unsaturated ts) q.1 in
    record { divides = p.0; finites = all_each finite ts q.0; taken = all_each takes ts s.0; within = all_each unsaturated ts s.1 }

-- an outcome that passes it meets them, with whatever was in the buffer
pub met_premises : (o : Outcome) (before : List ℕ) → Sound o → T (met o) → Premises (outcome_report o) (written float_bytes o before)
unfolding met accepted_of
met_premises (Outcome.Designed n divisor tap) before (taps, fit) h =
    let k = subst (Meets divisor) (sym (floats_back n tap fit)) (by_test n divisor tap h) in
    record { accepted = refl; divisor = k.divides; finites = k.finites; taken = k.taken; within = k.within }
met_premises (Outcome.Refused why) before numbered h = absurd h

-- ---- with no premise left: what an export that does as o answers and leaves in a buffer
pub record Stands (o : Outcome) (before : List ℕ) : Type 0 where
  pub accepted : Accepted (outcome_report o)
  pub taps : TapTotal (taps_in (outcome_report o) (written float_bytes o before))
  pub codes : Q15Total (taps_in (outcome_report o) (written float_bytes o before))
  -- `pel_to_q15` accepts these bytes for a destination of two bytes a tap, and what is read there has the total
  pub filter : (out codes : List ℕ) (c : Report) → length out ≡ 2 * (outcome_report o).count → ConvertsBytes Q15 1 (written float_bytes o before) out c codes → Accepted c × FilterTotal (taps_in (outcome_report o) (written float_bytes o before)) (codes_in (outcome_report o).count codes)

-- what such an export answers and leaves is what it answers and leaves
pub itself : {o : Outcome} {before : List ℕ} → Writes float_bytes o before (outcome_report o) (written float_bytes o before)
itself = record { answer = refl; buffer = refl }

pub stands : (o : Outcome) (before : List ℕ) → Sound o → T (met o) → Totals (outcome_report o) (written float_bytes o before) → Stands o before
stands o before s m t =
    let p = met_premises o before s m in
    let whole : WholeTaps (outcome_report o) (written float_bytes o before) = whole_taps_lem s (itself {o = o} {before = before}) in
    record {
      accepted = p.accepted;
      taps = t.taps p.accepted p.divisor p.finites;
      codes = t.codes p.accepted p.divisor p.finites p.taken p.within;
      filter = λ out codes c room v.
          let accepted = conversion_accepted (outcome_report o).count (written float_bytes o before) out codes c v (whole p.accepted) room p.taken in
          (accepted, (filter_total t whole v).total p.accepted accepted p.divisor p.within);
    }

-- the same ticket with another buffer of as many bytes
pub of_size : (made : ℕ → Outcome) (len : ℕ) (before : List ℕ) → length before ≡ len → T (met (made len)) → T (met (made (length before)))
of_size made len before e m = subst (λ (k : ℕ). T (met (made k))) (sym e) m

-- a ticket that meets them has as many taps as were asked for
counted : (o : Outcome) (n : ℕ) → T (met o) → Counted n o → (outcome_report o).count ≡ n
unfolding met accepted_of
counted (Outcome.Designed m divisor tap) n h e = e
counted (Outcome.Refused why) n h e = absurd h

-- ---- a ticket of each kind, for a buffer of so many bytes
-- Hann's window, cutoff 0.25 at the rate 1: in 40 bytes 5 taps
abbrev pub lowpass_ticket : ℕ → Outcome
lowpass_ticket len = lowpass_bytes (fraction 1 4) (whole 1) (window_of 0 (whole 0)) len

pub lowpass_met : T (met (lowpass_ticket 40))
unfolding met all tabulate takes moved window_of Lowpass.lowpass_of Lowpass.tap_of window_at norm_of sin_of cos_of sum_to fact over positive floor_of abs_of as_float floor_z of_bits of_int round add sub mul div lt le ne
lowpass_met = tt

pub lowpass_stands : (before : List ℕ) → length before ≡ 40 → Stands (lowpass_ticket (length before)) before
lowpass_stands before e =
    stands _ before (lowpass_bytes_sound (fraction 1 4) (whole 1) (window_of 0 (whole 0)) (length before)) (of_size lowpass_ticket 40 before e lowpass_met)
    (lowpass_written (fraction 1 4) (whole 1) (window_of 0 (whole 0)) before _ _ itself)

-- cutoff 0.25, transition 0.5, 8 dB at the rate 1, at most 3 taps: in 24 bytes 3 taps, beta 0
abbrev pub spec_ticket : ℕ → Outcome
spec_ticket len = spec_bytes (spec_of (fraction 1 4) (fraction 1 2) (whole 8)) (whole 1) 3 len

pub spec_met : T (met (spec_ticket 24))
unfolding met all tabulate takes moved spec_design_of spec_order_of order_of beta_of Lowpass.lowpass_of Lowpass.tap_of window_at norm_of kaiser_settles every series_of sqrt_of sin_of sum_to fact over positive floor_of ceil_of abs_of as_float floor_z ceil_z to_unsigned of_bits of_int round add sub mul div lt le ne
spec_met = tt

pub spec_stands : (before : List ℕ) → length before ≡ 24 → Stands (spec_ticket (length before)) before
spec_stands before e =
    stands _ before (spec_bytes_sound (spec_of (fraction 1 4) (fraction 1 2) (whole 8)) (whole 1) 3 (length before)) (of_size spec_ticket 24 before e spec_met)
    (spec_written (spec_of (fraction 1 4) (fraction 1 2) (whole 8)) (whole 1) 3 before _ _ itself)

-- bt 0.5, 2 samples a symbol, 2 symbols: in 40 bytes 5 taps
abbrev pub gaussian_ticket : ℕ → Outcome
gaussian_ticket len = gaussian_bytes (fraction 1 2) 2 2 len

pub gaussian_met : T (met (gaussian_ticket 40))
unfolding met all tabulate takes moved Gaussian.gaussian_of Gaussian.tap_of exp_of sum_to fact over floor_of abs_of as_float floor_z of_bits of_int round add sub mul div lt le
gaussian_met = tt

pub gaussian_stands : (before : List ℕ) → length before ≡ 40 → Stands (gaussian_ticket (length before)) before
gaussian_stands before e =
    stands _ before (gaussian_bytes_sound (fraction 1 2) 2 2 (length before)) (of_size gaussian_ticket 40 before e gaussian_met)
    (gaussian_written (fraction 1 2) 2 2 before _ _ itself)

-- 4 channels, 4 taps a branch, passband 0.5, stopband 1, 20 dB: in 128 bytes 16 taps, beta 0
abbrev pub channelizer_ticket : ℕ → Outcome
channelizer_ticket len = channelizer_bytes 4 4 (fraction 1 2) (whole 1) (whole 20) len

pub channelizer_met : T (met (channelizer_ticket 128))
unfolding met all tabulate takes moved Channelizer.channelizer_lowpass_of beta_of Lowpass.lowpass_of Lowpass.tap_of window_at norm_of kaiser_settles every series_of sqrt_of sin_of sum_to fact over positive floor_of abs_of as_float floor_z of_bits of_int round add sub mul div lt le ne
channelizer_met = tt

pub channelizer_stands : (before : List ℕ) → length before ≡ 128 → Stands (channelizer_ticket (length before)) before
channelizer_stands before e =
    stands _ before (channelizer_bytes_sound 4 4 (fraction 1 2) (whole 1) (whole 20) (length before)) (of_size channelizer_ticket 128 before e channelizer_met)
    (channelizer_written 4 4 (fraction 1 2) (whole 1) (whole 20) before _ _ itself)

-- beta 0: in 56 bytes 7 taps, of which index 3 is the middle and indices 1 and 5 are at the distance 2 from it
abbrev pub halfband_ticket : ℕ → Outcome
halfband_ticket len = halfband_bytes (whole 0) len

pub halfband_met : T (met (halfband_ticket 56))
unfolding met all tabulate takes moved Halfband.halfband_of Halfband.divisor_of Halfband.tap_of Lowpass.lowpass_of Lowpass.tap_of window_at norm_of kaiser_settles every series_of sqrt_of sin_of sum_to fact over positive floor_of abs_of as_float floor_z of_bits of_int round add sub mul div lt le ne
halfband_met = tt

module _ (before : List ℕ) (e : length before ≡ 56) where
  abbrev answer : Report
  answer = outcome_report (halfband_ticket (length before))

  abbrev left : List ℕ
  left = written float_bytes (halfband_ticket (length before)) before

  halfband_meets : T (met (halfband_ticket (length before)))
  halfband_meets = of_size halfband_ticket 56 before e halfband_met

  accepted : Accepted answer
  accepted = (met_premises _ before (halfband_bytes_sound (whole 0) (length before)) halfband_meets).accepted

  seven : answer.count ≡ 7
  seven =
      let n = length before / 8 in
      let count : Counted n (halfband_ticket (length before)) = either_way (Counted n) (eqb (length before % 8) 0) (Halfband.outcome_of (Halfband.halfband_of (whole 0) n)) (Outcome.Refused _) (halfband_count (whole 0) n) tt in
      let k : n ≡ 7 = omega arith in
      counted _ n halfband_meets count ∙ k

  pub halfband_stands : Stands (halfband_ticket (length before)) before
  halfband_stands = stands _ before (halfband_bytes_sound (whole 0) (length before)) halfband_meets (halfband_written (whole 0) before left answer itself)

  -- tap i and its mirror image, index 6 − i, are the same eight bytes
  pub halfband_mirror_stands : (i : ℕ) → i < 7 → take 8 (drop (8 * i) left) ≡ take 8 (drop (8 * (6 - i)) left)
  halfband_mirror_stands i h =
      subst (λ (n : ℕ). take 8 (drop (8 * i) left) ≡ take 8 (drop (8 * (n - 1 - i)) left)) seven
      (halfband_mirrored (whole 0) before left answer itself accepted i (omega (arith, seven)))

  -- a tap at an even distance but 0: there is one, index 1, and it is zero
  pub halfband_zero_stands : IsZero (float_at left (8 * 1))
  halfband_zero_stands =
      halfband_zeros (whole 0) before left answer itself accepted 1 (omega (arith, seven))
      (subst (λ (n : ℕ). distance n 1 % 2 ≡ 0) (sym seven) refl)
      (λ z. let none : distance 7 1 ≡ 0 = subst (λ (n : ℕ). distance n 1 ≡ 0) seven z in omega (arith, none))

-- ---- the same of a slice, by what each function ensures of these tickets
pub record SliceStands (r : Result (Unit {0}) Refusal) (after : List Float) : Type 0 where
  pub accepted : IsDone r
  pub taps : TapTotal after
  pub codes : Q15Total after

slice_stands : (o : Outcome) {before after : List Float} {r : Result (Unit {0}) Refusal} → Counted (length before) o → T (met o) → Fills o before r after → SliceTotals o r after → SliceStands r after
unfolding met
slice_stands (Outcome.Designed n divisor tap) e m f t =
    let k = subst (Meets divisor) (sym (f.buffer ∙ ap (λ (m : ℕ). tabulate m tap) (sym e))) (by_test n divisor tap m) in
    record { accepted = f.answer; taps = t.taps f.answer k.divides k.finites; codes = t.codes f.answer k.divides k.taken k.within }
slice_stands (Outcome.Refused why) e m f t = absurd m

-- the same ticket with another slice of as many elements
of_count : (made : ℕ → Outcome) (n : ℕ) (before : List Float) → length before ≡ n → T (met (made n)) → T (met (made (length before)))
of_count made n before e m = subst (λ (k : ℕ). T (met (made k))) (sym e) m

-- a slice keeps its length
same_length : (o : Outcome) {before after : List Float} {r : Result (Unit {0}) Refusal} → Fills o before r after → length after ≡ length before
same_length (Outcome.Designed n divisor tap) {before} f = ap length f.buffer ∙ length_tabulate (length before) tap
same_length (Outcome.Refused why) f = ap length f.buffer

module _ (before : List Float) {after : List Float} {r : Result (Unit {0}) Refusal} where
  pub lowpass_slice_stands : length before ≡ 5 → Fills (Lowpass.outcome_of (Lowpass.lowpass_of (fraction 1 4) (whole 1) Hann (length before))) before r after → SliceStands r after
  unfolding window_of
  lowpass_slice_stands e f =
      let made : ℕ → Outcome = λ n. Lowpass.outcome_of (Lowpass.lowpass_of (fraction 1 4) (whole 1) Hann n) in
      slice_stands (made (length before)) (lowpass_count (fraction 1 4) (whole 1) Hann (length before)) (of_count made 5 before e lowpass_met) f (lowpass_filled (fraction 1 4) (whole 1) Hann f)

  pub spec_slice_stands : length before ≡ 3 → Fills (Lowpass.outcome_of (spec_design_of (spec_of (fraction 1 4) (fraction 1 2) (whole 8)) (whole 1) 3 (length before))) before r after → SliceStands r after
  spec_slice_stands e f =
      let spec = spec_of (fraction 1 4) (fraction 1 2) (whole 8) in
      let made : ℕ → Outcome = λ n. Lowpass.outcome_of (spec_design_of spec (whole 1) 3 n) in
      slice_stands (made (length before)) (spec_count spec (whole 1) 3 (length before)) (of_count made 3 before e spec_met) f (spec_filled spec (whole 1) 3 f)

  pub gaussian_slice_stands : length before ≡ 5 → Fills (Gaussian.outcome_of (Gaussian.fitted_of (Gaussian.gaussian_of (fraction 1 2) 2 2) (length before))) before r after → SliceStands r after
  gaussian_slice_stands e f =
      let made : ℕ → Outcome = λ n. Gaussian.outcome_of (Gaussian.fitted_of (Gaussian.gaussian_of (fraction 1 2) 2 2) n) in
      slice_stands (made (length before)) (gaussian_count (Gaussian.gaussian_of (fraction 1 2) 2 2) (length before)) (of_count made 5 before e gaussian_met) f (gaussian_filled (fraction 1 2) 2 2 f)

  pub channelizer_slice_stands : length before ≡ 16 → Fills (Lowpass.outcome_of (Channelizer.fitted_of (Channelizer.channelizer_lowpass_of 4 4 (fraction 1 2) (whole 1) (whole 20)) (length before))) before r after → SliceStands r after
  channelizer_slice_stands e f =
      let prototype = Channelizer.channelizer_lowpass_of 4 4 (fraction 1 2) (whole 1) (whole 20) in
      let made : ℕ → Outcome = λ n. Lowpass.outcome_of (Channelizer.fitted_of prototype n) in
      slice_stands (made (length before)) (channelizer_count prototype (length before)) (of_count made 16 before e channelizer_met) f (channelizer_filled 4 4 (fraction 1 2) (whole 1) (whole 20) f)

  pub halfband_slice_stands : length before ≡ 7 → Fills (Halfband.halfband_taps_of (whole 0) (length before)) before r after → SliceStands r after
  halfband_slice_stands e f =
      let made : ℕ → Outcome = λ n. Halfband.outcome_of (Halfband.halfband_of (whole 0) n) in
      slice_stands (made (length before)) (halfband_count (whole 0) (length before)) (of_count made 7 before e halfband_met) (by_taps (whole 0) f) (halfband_filled (whole 0) f)

  -- index 1, at the distance 2 from the middle
  pub halfband_slice_zero_stands : length before ≡ 7 → Fills (Halfband.halfband_taps_of (whole 0) (length before)) before r after → IsZero (get_or after 1 nan)
  halfband_slice_zero_stands e f =
      let long : length after ≡ 7 = same_length (Halfband.halfband_taps_of (whole 0) (length before)) f ∙ e in
      (halfband_mirrors (whole 0) f).zeros (halfband_slice_stands e f).accepted 1 (omega (arith, long))
      (subst (λ (n : ℕ). distance n 1 % 2 ≡ 0) (sym long) refl)
      (λ z. let none : distance 7 1 ≡ 0 = subst (λ (n : ℕ). distance n 1 ≡ 0) long z in omega (arith, none))
