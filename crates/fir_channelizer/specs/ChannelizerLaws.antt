-- Each outcome of the judgement of a channelizer's prototype, from what the tests said, and what an accepted ticket
-- tells. Assumes nothing.
use Rattle.std.specs.Prelude.{◌≡◌, ℕ, ◌+◌, ◌-◌, ◌*◌, ◌/◌, ◌%◌, ◌<◌, ◌≤◌, Bool, true, false, cond, ◌||◌, List, ◌==◌, ◌≢◌, nat_eq, nat_le, Float, Err, Ok, Result}
use Rattle.std.proofs.Math.Path.{refl}
use Rattle.std.proofs.Common.{sym, ap, ◌∙◌, true≢false, le_trans, mul-le-mul_left, mul-le-mul_right, div-add-mod', mod-lt, arith, leb-true, eqb-true, eq-eqb, lit≤}
use Rattle.std.proofs.Math.Arith.{digits_div}
use Rattle.laws.specs.Binary64.{◌⊕◌, ◌⊖◌, ◌⊗◌, ◌⊘◌, whole}
use Rattle.laws.specs.Floor.{upward}
use Rattle.laws.specs.Tests.{both}
use Rattle.laws.specs.Results.{refused_never}
use Rattle.verdict.specs.declared.Refusal.{Refusal}
use Rattle.fir_length.specs.Kaiser.{beta_of, estimate}
use Rattle.fir_lowpass.specs.Lowpass.{where_passed, lowpass_of, tap_of, outcome_of}
use Rattle.fir_lowpass.specs.Cached.{PreparesLowpass}
use Rattle.fir_sinc.specs.declared.window.Window.TheVariants.{Kaiser}
use Rattle.fir_lowpass.specs.declared.lowpass.Lowpass.{Lowpass}
use Rattle.fir_channelizer.specs.Channelizer.{channels_taken, branch_taken, edges_of, taps_in, channelizer_taps_of, channelizer_lowpass_of, fitted_of}
use Rattle.verdict.specs.Counted.{Counted}
use Rattle.fir_design.specs.DesignsLaws as Designs
use Rattle.verdict.specs.declared.Reason.TheVariants as Reason

-- ---- the numbers that are taken
-- a number of channels: 4 to 256
pub record Channels (m : ℕ) : Type 0 where
  pub least : 4 ≤ m
  pub most : m ≤ 256

among : (m k : ℕ) (b : Bool) → 4 ≤ k → k ≤ 256 → (b ≡ true → Channels m) → b || (m == k) ≡ true → Channels m
among m k true p q h e = h refl
among m k false p q h e = let s = eqb-true m k e in record { least = omega arith; most = omega arith }

pub channels_are : (m : ℕ) → channels_taken m ≡ true → Channels m
unfolding channels_taken
channels_are m =
    let is : ℕ → Bool = nat_eq m in
    among m 256 (is 4 || is 8 || is 16 || is 32 || is 64 || is 128) (lit≤ tt) (lit≤ tt)
    (among m 128 (is 4 || is 8 || is 16 || is 32 || is 64) (lit≤ tt) (lit≤ tt)
    (among m 64 (is 4 || is 8 || is 16 || is 32) (lit≤ tt) (lit≤ tt)
    (among m 32 (is 4 || is 8 || is 16) (lit≤ tt) (lit≤ tt)
    (among m 16 (is 4 || is 8) (lit≤ tt) (lit≤ tt)
    (among m 8 (is 4) (lit≤ tt) (lit≤ tt)
    (among m 4 false (lit≤ tt) (lit≤ tt) (λ e. absurd (true≢false (sym e)))))))))

pub branch_most : (l : ℕ) → branch_taken l ≡ true → l ≤ 32
unfolding branch_taken
branch_most l h = leb-true l 32 (both (nat_le 4 l) (nat_le l 32) h).1

-- so a prototype has at most 256 · 32 taps
pub product_most : (m l : ℕ) → channels_taken m ≡ true → branch_taken l ≡ true → m * l ≤ 8192
product_most m l a b = le_trans (mul-le-mul_right l (channels_are m a).most) (mul-le-mul_left 256 (branch_most l b))

-- ---- the answers, from what the tests so far said
module _ (m : ℕ) (passband stopband a : Float) where
  pub taps_by_edges : channels_taken m ≡ true → channelizer_taps_of m passband stopband a ≡ taps_in (edges_of passband stopband a) (estimate a (whole 2 ⊗ (stopband ⊖ passband) ⊘ whole m))
  unfolding channelizer_taps_of
  taps_by_edges b = rw b

  pub taps_no_channels : channels_taken m ≡ false → channelizer_taps_of m passband stopband a ≡ Err (Refusal.Plain Reason.Count)
  unfolding channelizer_taps_of
  taps_no_channels b = rw b

  -- where there are taps the channels were taken
  pub taps_channels : (n : ℕ) → channelizer_taps_of m passband stopband a ≡ Ok n → channels_taken m ≡ true
  unfolding channelizer_taps_of
  taps_channels n e = go (channels_taken m) e
    where
      go : (b : Bool) → cond b (taps_in (edges_of passband stopband a) (estimate a (whole 2 ⊗ (stopband ⊖ passband) ⊘ whole m))) (Err (Refusal.Plain Reason.Count)) ≡ Ok n → b ≡ true
      go true e = refl
      go false e = let z : ◌≡◌ {A = ℕ} 0 1 = cc in absurd (omega arith)

-- the low-pass that a prototype is
abbrev pub prototype_of : ℕ → ℕ → Float → Float → Float → Result Lowpass Refusal
prototype_of m l passband stopband a = lowpass_of ((passband ⊕ stopband) ⊘ (whole 2 ⊗ whole m)) (whole 1) (Kaiser (beta_of a)) (m * l)

module _ (m l : ℕ) (passband stopband a : Float) where
  module _ (b : channels_taken m ≡ true) where
    pub by_edges : branch_taken l ≡ true → channelizer_lowpass_of m l passband stopband a ≡ where_passed (edges_of passband stopband a) (prototype_of m l passband stopband a)
    unfolding channelizer_lowpass_of
    by_edges c = rw (b, c)

    pub no_branch : branch_taken l ≡ false → channelizer_lowpass_of m l passband stopband a ≡ Err (Refusal.Plain Reason.Count)
    unfolding channelizer_lowpass_of
    no_branch c = rw (b, c)

  pub no_channels : channels_taken m ≡ false → channelizer_lowpass_of m l passband stopband a ≡ Err (Refusal.Plain Reason.Count)
  unfolding channelizer_lowpass_of
  no_channels b = rw b

-- ---- a branch's taps: n / m, rounded up
module _ (n m : ℕ) (h : 4 ≤ m) where
  pub upward_exact : n % m ≡ 0 → upward n m ≡ n / m
  upward_exact e =
      let d = div-add-mod' n m in
      let s : n + (m - 1) ≡ n / m * m + (m - 1) = omega arith in
      ap (λ (z : ℕ). z / m) s ∙ digits_div (n / m) (omega arith)

  pub upward_more : (n % m ≢ 0) → upward n m ≡ n / m + 1
  upward_more e =
      let d = div-add-mod' n m in
      let r : n % m < m = mod-lt n (omega arith) in
      let s : n + (m - 1) ≡ (n / m + 1) * m + (n % m - 1) = omega arith in
      ap (λ (z : ℕ). z / m) s ∙ digits_div (n / m + 1) (omega arith)

  -- so one more than the quotient does not overflow
  pub quotient_most : n / m * 4 ≤ n
  quotient_most =
      let d = div-add-mod' n m in
      let k = mul-le-mul_left (n / m) h in
      omega arith

-- ---- for a buffer of len elements
pub fits_as : {d r : Result Lowpass Refusal} {rs : List Float} {l : Lowpass} {len : ℕ} → r ≡ Ok l → l.n ≡ len → PreparesLowpass d r rs → PreparesLowpass (fitted_of d len) (Ok l) rs
fits_as {l = l} {len} e h f =
    Designs.prepares_fitted (λ (l : Lowpass). l.n) len f (sym (ap (λ (z : Result Lowpass Refusal). fitted_of z len) e ∙ rw (eq-eqb l.n len h)))

-- ---- what an accepted ticket tells
pub accepted : (m l : ℕ) (passband stopband a : Float) (d : Lowpass) → channelizer_lowpass_of m l passband stopband a ≡ Ok d → lowpass_of ((passband ⊕ stopband) ⊘ (whole 2 ⊗ whole m)) (whole 1) (Kaiser (beta_of a)) (m * l) ≡ Ok d
unfolding channelizer_lowpass_of
accepted m l passband stopband a d e = go (channels_taken m) (branch_taken l) (edges_of passband stopband a) (prototype_of m l passband stopband a) e
  where
    go : (b c : Bool) (k : Result (Unit {0}) Refusal) (p : Result Lowpass Refusal) → cond b (cond c (where_passed k p) (Err (Refusal.Plain Reason.Count))) (Err (Refusal.Plain Reason.Count)) ≡ Ok d → p ≡ Ok d
    go true true (Ok tt) p e = e
    go true true (Err why) p e = absurd (refused_never e)
    go true false k p e = absurd (refused_never e)
    go false c k p e = absurd (refused_never e)

-- and one for a buffer: the design is accepted without the buffer too, and has as many taps as that has elements
fitted_is : (g : Result Lowpass Refusal) (len : ℕ) (d : Lowpass) → fitted_of g len ≡ Ok d → (g ≡ Ok d) × (d.n ≡ len)
fitted_is g len d e = Designs.fitted_is (λ (l : Lowpass). l.n) g len d e

pub record Fitted (m l : ℕ) (passband stopband a : Float) (len : ℕ) (d : Lowpass) : Type 0 where
  pub is : lowpass_of ((passband ⊕ stopband) ⊘ (whole 2 ⊗ whole m)) (whole 1) (Kaiser (beta_of a)) (m * l) ≡ Ok d
  pub long : d.n ≡ len

pub fitted_accepted : (m l : ℕ) (passband stopband a : Float) (len : ℕ) (d : Lowpass) → fitted_of (channelizer_lowpass_of m l passband stopband a) len ≡ Ok d → Fitted m l passband stopband a len d
fitted_accepted m l passband stopband a len d e =
    let f = fitted_is (channelizer_lowpass_of m l passband stopband a) len d e in
    record { is = accepted m l passband stopband a d f.0; long = f.1 }

-- so an accepted one has as many taps as its buffer has elements
pub channelizer_count : (d : Result Lowpass Refusal) (len : ℕ) → Counted len (outcome_of (fitted_of d len))
channelizer_count d len = Designs.fitted_count (λ (l : Lowpass). l.n) (λ (l : Lowpass). l.sum) tap_of d len
