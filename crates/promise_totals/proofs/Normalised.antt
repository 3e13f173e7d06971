-- Taps that are raw values divided by their sum have both totals: the one argument under demand 3, of whichever kind
-- the design is. Assumes nothing.
use Rattle.std.specs.Prelude.{◌≡◌, refl, Bool, true, false, ◌&&◌, List, [], ◌∷◌, ℕ, zero, suc, ◌+◌, ◌*◌, ◌^◌, ◌≤◌, ◌<◌, T, leb, ℤ, pos, negsuc, nat_abs, ◌+ℤ◌, ◌-ℤ◌, length, Float}
use Rattle.std.proofs.Common.{sym, ap, ◌∙◌, subst, arith, leb-true, lit≤, le→leb}
use Rattle.std.specs.Float.{nan, inf, fin, binary64}
use Rattle.std.specs.Float.Ieee.{up, down, of_int, round, le, sub, mul, div, fits}
use Rattle.std.specs.Float.Ieee.Exact.{HasValue}
use Rattle.std.specs.Float.Ieee.Back.{round_whole}
use Rattle.std.specs.Float.Ieee.Bits.{is_true}
use Rattle.std.specs.Float.Ieee.Fits.{and_i}
use Rattle.std.specs.Float.Ieee.Scale.{finite}
use Rattle.laws.specs.AtMost.{AtMost, at_most_finite, of_le, mul_at_most, add_at_most}
use Rattle.laws.specs.Binary64.{◌⊘◌, whole, fraction}
use Rattle.laws.specs.CodeTotals.{codes_f64}
use Rattle.laws.specs.Codes as Codes
use Rattle.laws.specs.Filled.{tabulate, tabulate_below, length_tabulate}
use Rattle.laws.specs.Floor.{floor_z}
use Rattle.laws.specs.Quotients.{quotients, quotients_length}
use Rattle.laws.specs.SumError.{total, Each}
use Rattle.laws.specs.Sums.{sum_to}
use Rattle.laws.proofs.SumsLaws.{sum_of_list}
use Rattle.laws.specs.Totals.{sum_z, normalized_f64}
use Rattle.laws.specs.Units.{nought}
use Rattle.math_round.specs.Whole.{abs_of}
use Rattle.fmt_q15.specs.Q15.{moved, in16, takes, limit, q15_of}
use Rattle.fmt_q15.specs.Q15Laws.{code_is}
use Rattle.promise_totals.specs.Bounds.{sizes, TapTotal, Q15Total, unsaturated}

-- n taps that are raw values divided by their sum, which is worked out by rising index from +0
pub record Normalised (n : ℕ) (divisor : Float) (tap : ℕ → Float) : Type 0 where
  pub raw : ℕ → Float
  pub some : 0 < n
  pub most : n ≤ 2 ^ 24
  pub fit : (i : ℕ) → T (fits binary64 (raw i))
  pub sum : divisor ≡ sum_to binary64 raw n
  pub taps : (i : ℕ) → i < n → tap i ≡ raw i ⊘ divisor

-- ---- as lists
quotients_tabulate : (n : ℕ) (g : ℕ → Float) (s : Float) → quotients binary64 (tabulate n g) s ≡ tabulate n (λ i. div binary64 (g i) s)
unfolding quotients tabulate
quotients_tabulate zero g s = refl
quotients_tabulate (suc n) g s = ap (λ (l : List Float). div binary64 (g 0) s ∷ l) (quotients_tabulate n (λ i. g (suc i)) s)

each_tabulate : (b : Float → Bool) (n : ℕ) (g : ℕ → Float) → ((i : ℕ) → T (b (g i))) → Each b (tabulate n g)
unfolding tabulate
each_tabulate b zero g h = tt
each_tabulate b (suc n) g h = (h 0, each_tabulate b n (λ i. g (suc i)) (λ i. h (suc i)))

-- the Q15 total with the floors themselves
abbrev CodeTotal : List Float → Type 0
CodeTotal ts = 2 ^ 37 * 2 ^ 1074 * nat_abs (sum_z (Codes.code binary64) ts -ℤ pos 32768) ≤ length ts * (2 ^ 36 * 2 ^ 1074 + 2 ^ 1074 + sizes ts)

-- a list of raw values divided by its sum, with both totals; the first value is apart because a sum of none has no
-- quotients
abbrev divided : List Float → List Float
divided rs = quotients binary64 rs (total binary64 nought rs)

module _ (rs : List Float) (some : 0 < length rs) (short : length rs ≤ 2 ^ 24) (fit : Each (fits binary64) rs) (sum : T (finite (total binary64 nought rs))) (each : Each finite (divided rs)) where
  tap_total_list : TapTotal (divided rs)
  tap_total_list = go rs some short fit sum each
    where
      go : (rs : List Float) → 0 < length rs → length rs ≤ 2 ^ 24 → Each (fits binary64) rs → T (finite (total binary64 nought rs)) → Each finite (divided rs) → TapTotal (divided rs)
      go [] p k a t u = absurd (omega (arith, p))
      go (x ∷ xs) p k a t u = rw (quotients_length binary64 (x ∷ xs) (total binary64 nought (x ∷ xs))) (normalized_f64 x xs a t u k)

  q15_total_list : Each (Codes.coded binary64) (divided rs) → CodeTotal (divided rs)
  q15_total_list v = go rs some short fit sum each v
    where
      go : (rs : List Float) → 0 < length rs → length rs ≤ 2 ^ 24 → Each (fits binary64) rs → T (finite (total binary64 nought rs)) → Each finite (divided rs) → Each (Codes.coded binary64) (divided rs) → CodeTotal (divided rs)
      go [] p k a t u v = absurd (omega (arith, p))
      go (x ∷ xs) p k a t u v = rw (quotients_length binary64 (x ∷ xs) (total binary64 nought (x ∷ xs))) (codes_f64 x xs a t u k v)

-- ---- a tap that is taken and does not saturate has its floor as its number
-- the limit's value: sizes up to it are below 2, so that 32768 t + 0.5 is finite
limit_value : HasValue limit false 2274248405150597 2251799813685248
unfolding of_int round sub mul div
limit_value = (refl, refl)

no_nan : T (le nan limit) → ⊥
unfolding le
no_nan h = h

no_infinity : T (le (inf false) limit) → ⊥
unfolding le of_int round sub mul div
no_infinity h = h

within_limit : (t : Float) → T (takes t) → AtMost t 2274248405150597 2251799813685248
unfolding takes abs_of
within_limit nan h = absurd (no_nan h)
within_limit (inf s) h = absurd (no_infinity h)
within_limit (fin s m e) h = of_le (fin false m e) limit (m * up e) (down e) 2274248405150597 2251799813685248 (refl, refl) limit_value h

scale : AtMost (whole 32768) 32768 1
unfolding of_int round
scale = lit≤ tt

half : AtMost (fraction 1 2) 1 2
unfolding round
half = lit≤ tt

moved_finite : (t : Float) → T (takes t) → T (finite (moved t))
unfolding moved
moved_finite t h =
    let a = mul_at_most binary64 t (whole 32768) 2274248405150597 2251799813685248 32768 1 65536 1 (lit≤ tt) (lit≤ tt) (round_whole binary64 false 65536 (lit≤ tt)) (lit≤ tt) (within_limit t h) scale in
    at_most_finite (moved t) 65537 1
    (add_at_most binary64 (mul binary64 t (whole 32768)) (fraction 1 2) 65536 1 1 2 65537 1 (lit≤ tt) (lit≤ tt) (lit≤ tt) (round_whole binary64 false 65537 (lit≤ tt)) (lit≤ tt) a half)

-- so what is taken is finite
pub taken_finite : (ts : List Float) → Each takes ts → Each finite ts
taken_finite [] a = tt
taken_finite (t ∷ ts) a = (at_most_finite t 2274248405150597 2251799813685248 (within_limit t a.0), taken_finite ts a.1)

-- the two ways to write 32768 t + 0.5
moved_is : (t : Float) → moved t ≡ Codes.moved binary64 t
unfolding moved of_int round
moved_is t = refl

small : (z : ℤ) → in16 z ≡ true → nat_abs z ≤ 32768
small (pos n) h = let x : n ≤ 32767 = leb-true n 32767 h in omega arith
small (negsuc n) h = let x : n ≤ 32767 = leb-true n 32767 h in omega arith

-- its number, and that it has a code
module _ (t : Float) (taken : T (takes t)) (fine : T (unsaturated t)) where
  in_range : in16 (floor_z (moved t)) ≡ true
  in_range = is_true (in16 (floor_z (moved t))) fine

  number_is : q15_of t ≡ Codes.code binary64 t
  number_is = code_is t (moved_finite t taken) in_range ∙ ap floor_z (moved_is t)

  has_code : T (Codes.coded binary64 t)
  has_code =
      subst (λ (w : Float). T (finite w && leb (nat_abs (floor_z w)) (2 ^ 15))) (moved_is t)
      (and_i (finite (moved t)) (leb (nat_abs (floor_z (moved t))) (2 ^ 15)) (moved_finite t taken) (le→leb (nat_abs (floor_z (moved t))) (2 ^ 15) (small (floor_z (moved t)) in_range)))

have_codes : (ts : List Float) → Each takes ts → Each unsaturated ts → Each (Codes.coded binary64) ts
have_codes [] a b = tt
have_codes (t ∷ ts) a b = (has_code t a.0 b.0, have_codes ts a.1 b.1)

numbers_are : (ts : List Float) → Each takes ts → Each unsaturated ts → sum_z q15_of ts ≡ sum_z (Codes.code binary64) ts
unfolding sum_z
numbers_are [] a b = refl
numbers_are (t ∷ ts) a b = ap (λ (z : ℤ). z +ℤ sum_z q15_of ts) (number_is t a.0 b.0) ∙ ap (λ (z : ℤ). Codes.code binary64 t +ℤ z) (numbers_are ts a.1 b.1)

-- ---- the theorem
module _ {n : ℕ} {divisor : Float} {tap : ℕ → Float} (N : Normalised n divisor tap) where
  sum_is : total binary64 nought (tabulate n N.raw) ≡ divisor
  sum_is = sum_of_list binary64 N.raw n ∙ sym N.sum

  taps_are : divided (tabulate n N.raw) ≡ tabulate n tap
  taps_are =
      ap (λ (z : Float). quotients binary64 (tabulate n N.raw) z) sum_is
      ∙ quotients_tabulate n N.raw divisor
      ∙ sym (tabulate_below n tap (λ i. N.raw i ⊘ divisor) N.taps)

  count_is : length (tabulate n N.raw) ≡ n
  count_is = length_tabulate n N.raw

  module _ (finite-divisor : T (finite divisor)) (finite-taps : Each finite (tabulate n tap)) where
    abbrev sum_finite : T (finite (total binary64 nought (tabulate n N.raw)))
    sum_finite = subst (λ (z : Float). T (finite z)) (sym sum_is) finite-divisor

    -- "the exact tap sum"
    pub tap_total : TapTotal (tabulate n tap)
    tap_total =
        subst TapTotal taps_are
        (tap_total_list (tabulate n N.raw) (rw count_is N.some) (rw count_is N.most) (each_tabulate (fits binary64) n N.raw N.fit) sum_finite (subst (λ (z : List Float). Each finite z) (sym taps_are) finite-taps))

    -- "the Q15 sum", where Q15 takes every tap and none saturates
    pub q15_total : Each takes (tabulate n tap) → Each unsaturated (tabulate n tap) → Q15Total (tabulate n tap)
    q15_total a b =
        rw (numbers_are (tabulate n tap) a b)
        (subst CodeTotal taps_are
        (q15_total_list (tabulate n N.raw) (rw count_is N.some) (rw count_is N.most) (each_tabulate (fits binary64) n N.raw N.fit) sum_finite (subst (λ (z : List Float). Each finite z) (sym taps_are) finite-taps) (subst (λ (z : List Float). Each (Codes.coded binary64) z) (sym taps_are) (have_codes (tabulate n tap) a b))))

-- ---- demand 3 of a list of taps and its last divisor, wherever the list stands
pub record Promised (divisor : Float) (ts : List Float) : Type 0 where
  -- "the exact sum of the taps differs from 1 by at most n (1 + A)/2^52"
  pub taps : T (finite divisor) → Each finite ts → TapTotal ts
  -- "the Q15 sum differs from 32768 by at most n (1/2 + (1 + A)/2^37)"; a tap that Q15 takes is finite
  pub codes : T (finite divisor) → Each takes ts → Each unsaturated ts → Q15Total ts

pub normalised_promised : {n : ℕ} {divisor : Float} {tap : ℕ → Float} → Normalised n divisor tap → Promised divisor (tabulate n tap)
normalised_promised {n} {divisor} {tap} N = record { taps = tap_total N; codes = λ t a b. q15_total N t (taken_finite (tabulate n tap) a) a b }
