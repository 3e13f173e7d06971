-- A sum of five cosines whose last coefficients are +0 is the shorter sum, to the bit. Assumes nothing.
use Rattle.std.specs.Prelude.{◌≡◌, T, Float}
use Rattle.std.proofs.Common.{◌∙◌}
use Rattle.std.specs.Float.{binary64}
use Rattle.std.specs.Float.Ieee.{fits}
use Rattle.std.specs.Float.Ieee.Fits.{add-fits, sub-fits, mul-fits}
use Rattle.std.specs.Float.Ieee.Scale.{finite}
use Rattle.laws.specs.Binary64.{◌⊕◌, ◌⊖◌, ◌⊗◌, whole}
use Rattle.math_trig.specs.Trig.{cos_of}
use Rattle.promise_cosines.specs.Zeros.{not_minus, add_keeps_clear, sub_keeps_clear, plus_nothing, minus_nothing}

-- ---- a sum's first terms, at the angle x
abbrev pub two : Float → Float → Float → Float
two x c0 c1 = c0 ⊖ c1 ⊗ cos_of x

abbrev pub three : Float → Float → Float → Float → Float
three x c0 c1 c2 = two x c0 c1 ⊕ c2 ⊗ cos_of (whole 2 ⊗ x)

abbrev pub four : Float → Float → Float → Float → Float → Float
four x c0 c1 c2 c3 = three x c0 c1 c2 ⊖ c3 ⊗ cos_of (whole 3 ⊗ x)

abbrev pub five : Float → Float → Float → Float → Float → Float → Float
five x c0 c1 c2 c3 c4 = four x c0 c1 c2 c3 ⊕ c4 ⊗ cos_of (whole 4 ⊗ x)

-- ---- each is no −0, and the last term of the next changes nothing
abbrev Finite : Float → Type 0
Finite x = T (finite (cos_of x))

module _ (x c0 c1 : Float) (F : T (fits binary64 c0)) (h : T (not_minus c0)) where
  two_fits : T (fits binary64 (two x c0 c1))
  two_fits = sub-fits binary64 c0 (c1 ⊗ cos_of x)

  two_clear : T (not_minus (two x c0 c1))
  two_clear = sub_keeps_clear binary64 c0 (c1 ⊗ cos_of x) F (mul-fits binary64 c1 (cos_of x)) h

  three_fits : (c2 : Float) → T (fits binary64 (three x c0 c1 c2))
  three_fits c2 = add-fits binary64 (two x c0 c1) (c2 ⊗ cos_of (whole 2 ⊗ x))

  three_clear : (c2 : Float) → T (not_minus (three x c0 c1 c2))
  three_clear c2 =
      let z = cos_of (whole 2 ⊗ x) in
      add_keeps_clear binary64 (two x c0 c1) (c2 ⊗ z) two_fits (mul-fits binary64 c2 z) two_clear

  pub four_terms : (c2 c3 : Float) → Finite (whole 4 ⊗ x) → five x c0 c1 c2 c3 (whole 0) ≡ four x c0 c1 c2 c3
  four_terms c2 c3 u =
      let z = cos_of (whole 3 ⊗ x) in
      plus_nothing (four x c0 c1 c2 c3) (cos_of (whole 4 ⊗ x)) (sub-fits binary64 (three x c0 c1 c2) (c3 ⊗ z))
      (sub_keeps_clear binary64 (three x c0 c1 c2) (c3 ⊗ z) (three_fits c2) (mul-fits binary64 c3 z) (three_clear c2)) u

  pub three_terms : (c2 : Float) → Finite (whole 3 ⊗ x) → Finite (whole 4 ⊗ x)
      → five x c0 c1 c2 (whole 0) (whole 0) ≡ three x c0 c1 c2
  three_terms c2 t u =
      four_terms c2 (whole 0) u
      ∙ minus_nothing (three x c0 c1 c2) (cos_of (whole 3 ⊗ x)) (three_fits c2) (three_clear c2) t

  pub two_terms : Finite (whole 2 ⊗ x) → Finite (whole 3 ⊗ x) → Finite (whole 4 ⊗ x)
      → five x c0 c1 (whole 0) (whole 0) (whole 0) ≡ two x c0 c1
  two_terms s t u = three_terms (whole 0) t u ∙ plus_nothing (two x c0 c1) (cos_of (whole 2 ⊗ x)) two_fits two_clear s
