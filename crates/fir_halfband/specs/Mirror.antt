-- An accepted half-band is symmetric bit for bit, and every second tap from the middle is zero. Assumes nothing.
use Rattle.std.specs.Prelude.{◌≡◌, refl, Bool, true, false, cond, ℕ, ◌-◌, ◌*◌, ◌%◌, ◌<◌, min, ℤ, pos, Float, Ok}
use Rattle.std.proofs.Common.{sym, ap, ◌∙◌, subst, true≢false, zero-mul, mul-pos, pos_of_ne-zero, arith, ne_eqb, lit<}
use Rattle.std.specs.Float.{nan, inf, fin, binary64}
use Rattle.std.specs.Float.Ieee.{up, down, unlike, round, of_int, div, ne}
use Rattle.std.specs.Float.Ieee.Fits.{up_pos}
use Rattle.std.specs.Float.Ieee.Scale.{round_same}
use Rattle.laws.specs.Binary64.{◌⊘◌, whole}
use Rattle.fir_lowpass.specs.Lowpass as Lowpass
use Rattle.fir_lowpass.specs.Lowpass.{usable}
use Rattle.fir_lowpass.specs.declared.lowpass.Lowpass.{Lowpass}
use Rattle.fir_halfband.specs.Halfband.{distance, vanishes, unscaled, divisor_of, halfband_of, tap_of}
use Rattle.fir_halfband.specs.HalfbandLaws.{tap_is, halved, accepted}
use Rattle.fir_halfband.specs.Distance.{taken_odd, mirror_lesser, mirror_distance, vanishes_alike, vanishes_at}
use Rattle.fir_halfband.specs.declared.HalfbandDesign.{HalfbandDesign}

-- 0 of either sign
abbrev pub IsZero : Float → Type 0
IsZero nan = ⊥
IsZero (inf s) = ⊥
IsZero (fin s m e) = m ≡ 0

-- ---- before the last division
unscaled_mirror : (l : Lowpass) (n k : ℕ) → n % 2 ≡ 1 → k < n → unscaled l n k ≡ unscaled l n (n - 1 - k)
unfolding unscaled
unscaled_mirror l n k o h =
    ap (λ (v : Bool). cond v (whole 0) (Lowpass.tap_of l (min k (n - 1 - k)))) (sym (vanishes_alike n (n - 1 - k) k (mirror_distance n k o h)))
    ∙ ap (λ (j : ℕ). cond (vanishes n (n - 1 - k)) (whole 0) (Lowpass.tap_of l j)) (sym (mirror_lesser n k h))

unscaled_zero : (l : Lowpass) (n k : ℕ) → distance n k % 2 ≡ 0 → (distance n k ≡ 0 → ⊥) → unscaled l n k ≡ whole 0
unfolding unscaled
unscaled_zero l n k e h = rw (vanishes_at n k e h)

-- ---- 0 over a sum that taps can be divided by
nought_unusable : (s : Bool) (e : ℤ) → usable (fin s 0 e) ≡ false
unfolding usable ne of_int
nought_unusable true e = rw (zero-mul (up e), zero-mul (down e))
nought_unusable false e = rw (zero-mul (up e), zero-mul (down e))

usable_nonzero : (s : Bool) (m : ℕ) (e : ℤ) → usable (fin s m e) ≡ true → m ≡ 0 → ⊥
usable_nonzero s m e h q = true≢false (sym h ∙ ap (λ (z : ℕ). usable (fin s z e)) q ∙ nought_unusable s e)

round_nought : (s : Bool) (c : ℕ) → 0 < c → round binary64 s 0 c ≡ fin s 0 (pos 0)
unfolding round
round_nought s c h = round_same binary64 s 0 c 0 1 h (lit< tt) (omega arith)

zero_over : (x : Float) → usable x ≡ true → IsZero (whole 0 ⊘ x)
unfolding usable div of_int
zero_over nan h = absurd (true≢false (sym h))
zero_over (inf s) h = absurd (true≢false (sym h))
zero_over (fin s m e) h =
    let q = usable_nonzero s m e h in
    rw (ne_eqb m 0 q, zero-mul (down e), round_nought (unlike false s) (m * up e * 1) (mul-pos (mul-pos (pos_of_ne-zero q) (up_pos e)) (lit< tt))) refl

-- ---- of an accepted ticket
module _ (beta : Float) (n : ℕ) (d : HalfbandDesign) (r : halfband_of beta n ≡ Ok d) where
  pub mirror : (k : ℕ) → k < n → tap_of d k ≡ tap_of d (n - 1 - k)
  mirror k h =
      let a = accepted beta n d r in
      subst (λ (z : HalfbandDesign). tap_of z k ≡ tap_of z (n - 1 - k)) (sym a.is)
      (tap_is (halved a.lowpass n) k h
      ∙ ap (λ (z : Float). z ⊘ divisor_of a.lowpass n) (unscaled_mirror a.lowpass n k (taken_odd n a.long) h)
      ∙ sym (tap_is (halved a.lowpass n) (n - 1 - k) (omega arith)))

  pub zero_taps : (k : ℕ) → k < n → distance n k % 2 ≡ 0 → (distance n k ≡ 0 → ⊥) → IsZero (tap_of d k)
  zero_taps k h e q =
      let a = accepted beta n d r in
      subst (λ (z : HalfbandDesign). IsZero (tap_of z k)) (sym a.is)
      (subst IsZero (sym (tap_is (halved a.lowpass n) k h ∙ ap (λ (z : Float). z ⊘ divisor_of a.lowpass n) (unscaled_zero a.lowpass n k e q)))
      (zero_over (divisor_of a.lowpass n) a.divides))
