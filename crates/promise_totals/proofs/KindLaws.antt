-- Each kind of design has taps that are raw values divided by their sum, the last divisor, and every tap is an f64.
-- Assumes nothing.
-- The channelizer's prototype and the design of a specification are low-passes.
use Rattle.std.specs.Prelude.{◌≡◌, refl, ℕ, ◌+◌, ◌*◌, ◌≤◌, ◌<◌, T, ltb, Float, Ok}
use Rattle.std.proofs.Common.{sym, subst, lt-ltb, le-ltb}
use Rattle.std.specs.Float.{binary64}
use Rattle.std.specs.Float.Ieee.{fits}
use Rattle.std.specs.Float.Ieee.Fits.{cond-fits, mul-fits, div-fits, of_int-fits}
use Rattle.laws.specs.Binary64.{◌⊘◌, whole}
use Rattle.math_exp.specs.ExpFits.{exp_fits}
use Rattle.fir_sinc.specs.Taps.{raw_at}
use Rattle.fir_lowpass.specs.Lowpass as Lowpass
use Rattle.fir_lowpass.proofs.LowpassLaws.{designed, ready_is, ready_with, count_least, count_most}
use Rattle.fir_sinc.specs.declared.window.Window.{Window}
use Rattle.fir_lowpass.specs.declared.lowpass.Lowpass.{Lowpass}
use Rattle.fir_halfband.specs.Halfband as Halfband
use Rattle.fir_halfband.specs.HalfbandLaws as HalfbandLaws
use Rattle.fir_halfband.specs.declared.HalfbandDesign.{HalfbandDesign}
use Rattle.fir_gaussian.specs.Gaussian as Gaussian
use Rattle.fir_gaussian.specs.GaussianLaws as GaussianLaws
use Rattle.fir_gaussian.specs.declared.gaussian_design.Gaussian.{Gaussian}
use Rattle.promise_totals.proofs.Normalised.{Normalised}

nought_fits : T (fits binary64 (whole 0))
nought_fits = of_int-fits binary64 _

-- ---- the low-pass
lowpass_raw_fits : (fc : Float) (w : Window) (i0 : Float) (n i : ℕ) → T (fits binary64 (raw_at fc w i0 n i))
unfolding raw_at
lowpass_raw_fits fc w i0 n i = mul-fits binary64 _ _

lowpass_tap_is : (l : Lowpass) → l.n ≤ 16777216 → (i : ℕ) → i < l.n → Lowpass.tap_of l i ≡ raw_at l.fc l.window l.i0 l.n i ⊘ l.sum
unfolding Lowpass.tap_of
lowpass_tap_is l k i h = rw (le-ltb 16777216 l.n k, lt-ltb i l.n h)

pub lowpass_tap_fits : (l : Lowpass) (i : ℕ) → T (fits binary64 (Lowpass.tap_of l i))
unfolding Lowpass.tap_of
lowpass_tap_fits l i = cond-fits binary64 (ltb 16777216 l.n) _ _ nought_fits (cond-fits binary64 (ltb i l.n) _ _ (div-fits binary64 _ _) nought_fits)

-- whatever its window is divided by
pub with_normalised : (cutoff rate : Float) (w : Window) (i0 : Float) (n : ℕ) (l : Lowpass) → Lowpass.lowpass_with cutoff rate w i0 n ≡ Ok l → Normalised l.n l.sum (Lowpass.tap_of l)
unfolding Lowpass.divisor_of
with_normalised cutoff rate w i0 n l e =
    let a = ready_with cutoff rate w i0 n l e in
    let counted = a.passes.counted in
    let k : n ≤ 16777216 = count_most n counted in
    let fc = cutoff ⊘ rate in
    subst (λ (z : Lowpass). Normalised z.n z.sum (Lowpass.tap_of z)) (sym a.is)
    (record {
      raw = raw_at fc w i0 n;
      some = count_least n counted;
      most = k;
      fit = lowpass_raw_fits fc w i0 n;
      sum = refl;
      taps = lowpass_tap_is (designed fc w i0 n) k;
    })

-- ---- the half-band, whose last divisor is the second sum
unscaled_fits : (l : Lowpass) (n k : ℕ) → T (fits binary64 (Halfband.unscaled l n k))
unfolding Halfband.unscaled
unscaled_fits l n k = cond-fits binary64 (Halfband.vanishes n k) _ _ nought_fits (lowpass_tap_fits l _)

pub halfband_tap_fits : (d : HalfbandDesign) (i : ℕ) → T (fits binary64 (Halfband.tap_of d i))
unfolding Halfband.tap_of
halfband_tap_fits d i = cond-fits binary64 (ltb i d.n) _ _ (div-fits binary64 _ _) nought_fits

pub halfband_normalised : (beta : Float) (n : ℕ) (d : HalfbandDesign) → Halfband.halfband_of beta n ≡ Ok d → Normalised d.n d.sum (Halfband.tap_of d)
unfolding Halfband.divisor_of
halfband_normalised beta n d e =
    let a = HalfbandLaws.accepted beta n d e in
    let counted = (ready_is _ _ _ n a.lowpass a.quarter).counted in
    subst (λ (z : HalfbandDesign). Normalised z.n z.sum (Halfband.tap_of z)) (sym a.is)
    (record {
      raw = Halfband.unscaled a.lowpass n;
      some = count_least n counted;
      most = count_most n counted;
      fit = unscaled_fits a.lowpass n;
      sum = refl;
      taps = HalfbandLaws.tap_is (HalfbandLaws.halved a.lowpass n);
    })

-- ---- the Gaussian
gaussian_raw_fits : (a sps mid : Float) (i : ℕ) → T (fits binary64 (Gaussian.raw_at a sps mid i))
unfolding Gaussian.raw_at
gaussian_raw_fits a sps mid i = exp_fits _

gaussian_tap_is : (g : Gaussian) → g.n ≤ 16777216 → (i : ℕ) → i < g.n → Gaussian.tap_of g i ≡ Gaussian.raw_at g.a g.sps g.mid i ⊘ g.sum
unfolding Gaussian.tap_of
gaussian_tap_is g k i h = rw (le-ltb 16777216 g.n k, lt-ltb i g.n h)

pub gaussian_tap_fits : (g : Gaussian) (i : ℕ) → T (fits binary64 (Gaussian.tap_of g i))
unfolding Gaussian.tap_of
gaussian_tap_fits g i = cond-fits binary64 (ltb 16777216 g.n) _ _ nought_fits (cond-fits binary64 (ltb i g.n) _ _ (div-fits binary64 _ _) nought_fits)

pub gaussian_normalised : (bt : Float) (sps span : ℕ) (g : Gaussian) → Gaussian.gaussian_of bt sps span ≡ Ok g → Normalised g.n g.sum (Gaussian.tap_of g)
unfolding Gaussian.made_of
gaussian_normalised bt sps span g e =
    let a = GaussianLaws.accepted bt sps span g e in
    let made = Gaussian.made_of bt sps (span * sps + 1) in
    subst (λ (z : Gaussian). Normalised z.n z.sum (Gaussian.tap_of z)) (sym a.is)
    (record {
      raw = Gaussian.raw_at made.a made.sps made.mid;
      some = a.some;
      most = a.most;
      fit = gaussian_raw_fits made.a made.sps made.mid;
      sum = refl;
      taps = gaussian_tap_is made a.most;
    })
