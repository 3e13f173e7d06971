-- What two results say that are one: an answer is no refusal, and one answer is one value. Assumes nothing.
use Rattle.std.specs.Prelude.{◌≡◌, ℕ, Result, Ok, Err}
use Rattle.std.proofs.Common.{arith}

module _ {A E : Type 0} where
  pub refused_never : {why : E} {x : A} → ◌≡◌ {A = Result A E} (Err why) (Ok x) → ⊥
  refused_never e = let z : ◌≡◌ {A = ℕ} 0 1 = cc in omega arith

  pub same_answer : {x y : A} → ◌≡◌ {A = Result A E} (Ok x) (Ok y) → x ≡ y
  same_answer e = cc

  pub same_refusal : {why other : E} → ◌≡◌ {A = Result A E} (Err why) (Err other) → why ≡ other
  same_refusal e = cc
