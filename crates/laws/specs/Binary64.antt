-- Short names for what definitions say of an f64: its four operations, each rounded once, its bit patterns and its
-- whole numbers. Definitions only.
use Rattle.std.specs.Prelude.{ℕ, zero, suc, ◌*◌, List, [], ◌∷◌, false, pos, Float}
use Rattle.std.specs.Float.{binary64}
use Rattle.std.specs.Float.Ieee.{of_bits, of_int, round, add, sub, mul, div}

infixl 60 ◌⊕◌ ◌⊖◌
infixl 70 ◌⊗◌ ◌⊘◌
abbrev pub ◌⊕◌ : Float → Float → Float
x ⊕ y = add binary64 x y

abbrev pub ◌⊖◌ : Float → Float → Float
x ⊖ y = sub binary64 x y

abbrev pub ◌⊗◌ : Float → Float → Float
x ⊗ y = mul binary64 x y

abbrev pub ◌⊘◌ : Float → Float → Float
x ⊘ y = div binary64 x y

-- the f64 with the bit pattern n
abbrev pub b64 : ℕ → Float
b64 n = of_bits binary64 n

-- the f64 nearest the whole number n
abbrev pub whole : ℕ → Float
whole n = of_int binary64 (pos n)

-- the f64 nearest the fraction a / c
abbrev pub fraction : ℕ → ℕ → Float
fraction a c = round binary64 false a c

-- ---- constants
-- 3.141592653589793, 0.6931471805599453 and 1.4142135623730951
abbrev pub pi : Float
pi = b64 0x4009_21FB_5444_2D18

abbrev pub ln2 : Float
ln2 = b64 0x3FE6_2E42_FEFA_39EF

abbrev pub sqrt2 : Float
sqrt2 = b64 0x3FF6_A09E_667F_3BCD

-- ---- power series
unfoldable pub fact : ℕ → ℕ
fact zero = 1
fact (suc n) = suc n * fact n

-- 1 / n!, one division
unfoldable pub over : ℕ → Float
unfolding fact
over n = whole 1 ⊘ whole (fact n)

-- c0 + z · (c1 + z · (c2 + ..)), innermost first
unfoldable pub nested : Float → List Float → Float
nested z [] = whole 0
nested z (c ∷ []) = c
nested z (c ∷ d ∷ ds) = c ⊕ z ⊗ nested z (d ∷ ds)
