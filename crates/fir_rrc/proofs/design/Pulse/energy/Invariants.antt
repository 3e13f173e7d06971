-- `fir_rrc::design::Pulse::energy` meets its contract. The loop's invariant: the energy of the taps so far. Assumes nothing.
use Rattle.std.proofs.Common.{◌≡◌, ℕ}
use lib.Ieee.{Float, binary64}
use Rattle.laws.specs.Binary64.{◌⊗◌}
use Rattle.laws.specs.Sums.{sum_to}
use Rattle.fir_rrc.specs.Rrc.{unscaled_at}
use Rattle.fir_rrc.proofs.design.Pulse.energy.Given as goal

-- a tap squared
abbrev pub square : Float → ℕ → ℕ → ℕ → Float
square b sps n k = unscaled_at b sps n k ⊗ unscaled_at b sps n k

abbrev pub invariant-loop-k : goal.invariant-loop-k
invariant-loop-k l = l.sum ≡ sum_to binary64 (square l.self.rolloff l.self.sps l.self.n) l.k
