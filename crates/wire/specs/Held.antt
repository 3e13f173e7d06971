-- Bytes and the number that they hold: the bytes of that number are those very bytes, and it is no larger than their
-- count allows. Assumes nothing.
use Rattle.std.specs.Prelude.{◌≡◌, refl, List, [], ◌∷◌, ℕ, zero, suc, ◌+◌, ◌*◌, ◌/◌, ◌%◌, ◌^◌, ◌<◌, length, take, drop, get_or}
use Rattle.std.proofs.Common.{pow-suc, arith}
use Rattle.wire.specs.Bytes.{bytes_of, number_of}

-- every number of a list is below a limit: below 256 they are bytes
pub data Below (m : ℕ) : List ℕ → Type 0 where
  none : Below m []
  more : {b : ℕ} {bs : List ℕ} → b < m → Below m bs → Below m (b ∷ bs)

pub below_take : {m : ℕ} (n : ℕ) {bs : List ℕ} → Below m bs → Below m (take n bs)
below_take zero none = none
below_take zero (more b h) = none
below_take (suc n) none = none
below_take (suc n) (more b h) = more b (below_take n h)

pub below_drop : {m : ℕ} (n : ℕ) {bs : List ℕ} → Below m bs → Below m (drop n bs)
below_drop zero none = none
below_drop zero (more b h) = more b h
below_drop (suc n) none = none
below_drop (suc n) (more b h) = below_drop n h

-- as a slice tells it, element by element
pub below_all : (m : ℕ) (bs : List ℕ) → ((i : ℕ) → i < length bs → get_or bs i 0 < m) → Below m bs
below_all m [] h = none
below_all m (b ∷ bs) h = more (h 0 (omega arith)) (below_all m bs (λ i l. h (suc i) (omega arith)))

-- ---- the number that bytes hold
low : (b n : ℕ) → b < 256 → (b + 256 * n) % 256 ≡ b
low b n h = omega arith

rest : (b n : ℕ) → b < 256 → (b + 256 * n) / 256 ≡ n
rest b n h = omega arith

pub bytes_number : (w : ℕ) (bs : List ℕ) → length bs ≡ w → Below 256 bs → bytes_of w (number_of bs) ≡ bs
unfolding bytes_of number_of
bytes_number zero [] l none = refl
bytes_number zero (b ∷ bs) l (more s h) = absurd (omega arith)
bytes_number (suc w) [] l none = absurd (omega arith)
bytes_number (suc w) (b ∷ bs) l (more s h) =
    rw (low b (number_of bs) s, rest b (number_of bs) s, bytes_number w bs (omega arith) h)

pub number_below : (bs : List ℕ) → Below 256 bs → number_of bs < 256 ^ length bs
unfolding number_of
number_below [] none = omega arith
number_below (b ∷ bs) (more s h) =
    let i = number_below bs h in
    let p = pow-suc 256 (length bs) in
    omega (arith, i, p)
