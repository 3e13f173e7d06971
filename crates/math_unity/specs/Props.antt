-- That five rests are each below 1 is known in one way: what a struct keeps of its fields has to be. Assumes nothing.
use Rattle.std.specs.Prelude.{List, [], ◌∷◌, Float}
use Rattle.std.specs.Coded.{×_prop, Unit-prop}
use Rattle.std.specs.Float.{binary64}
use Rattle.math_unity.specs.Cut.{Rest}
use Rattle.math_unity.specs.Run.{All}
use Rattle.std.proofs.Props.{props}

rest_prop : (x : Float) → IsProp (Rest binary64 x)
rest_prop x = Prim.hlevel props

pub rests_prop : (xs : List Float) → IsProp (All (Rest binary64) xs)
rests_prop [] = Unit-prop
rests_prop (x ∷ xs) = ×_prop (rest_prop x) (rests_prop xs)
