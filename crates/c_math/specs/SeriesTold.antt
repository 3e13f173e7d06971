-- The number of terms and the sum of a series are told whether it has settled or not.
use Rattle.std.specs.Prelude.{◌≡◌, refl, Bool, true, false, cond, Float}
use Rattle.verdict.specs.declared.Report.{Report}
use Rattle.verdict.specs.Report.{accepted_of}
use Rattle.math_bessel.specs.Series.{series_of}
use Rattle.math_bessel.specs.declared.Series.{Series}
use Rattle.c_math.specs.Reports.{unsettled_of, series_report}

-- what the report r says of the series at x
abbrev pub KeepsSum : Float → Report → Type 0
KeepsSum x r = (r.count ≡ (series_of x).terms) × (r.value ≡ (series_of x).sum)

pub sum_kept : (x : Float) → KeepsSum x (series_report (series_of x))
unfolding accepted_of
sum_kept x = go (series_of x).settled
  where
    s : Series
    s = series_of x

    go : (b : Bool) → ((cond b (accepted_of s.terms s.sum) (unsettled_of s.terms s.sum)).count ≡ s.terms) × ((cond b (accepted_of s.terms s.sum) (unsettled_of s.terms s.sum)).value ≡ s.sum)
    go true = (refl, refl)
    go false = (refl, refl)
