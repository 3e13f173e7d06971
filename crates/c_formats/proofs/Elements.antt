-- What an element is, read from the chunk of eight bytes that holds it. Assumes nothing.
use Rattle.std.specs.Prelude.{Result}
use Rattle.std.specs.Simd.{first_chunks}
use mathlib.Core.Path.{◌≡◌, ap, ◌∙◌}
use mathlib.Core.List.{List}
use Prim.Native.Nat.{ℕ, ◌*◌, ◌/◌, ◌<◌}
use lib.ListN.{length, get_or}
use lib.Ieee.{binary64, of_bits}
use Rattle.wire.specs.Bytes.{float_at, number_of}
use Rattle.wire.specs.Read.{chunk_in}
use Rattle.verdict.specs.declared.Refusal.{Refusal}
use Rattle.c_formats.specs.Format.{Format}
use Rattle.c_formats.specs.Formats.{encoded_of}

-- element i, from the chunk that holds it
pub read : (f : Format) (s none : List ℕ) {words : List (List ℕ)} {i bits : ℕ} {r : Result ℕ Refusal} → words ≡ first_chunks 8 (length s / 8) s → bits ≡ number_of (get_or words i none) → i < length s / 8 → r ≡ encoded_of f i (of_bits binary64 bits) → r ≡ encoded_of f i (float_at s (8 * i))
read f s none {i = i} front chunk within told =
    let at = ap (λ (l : List (List ℕ)). get_or l i none) front ∙ chunk_in 8 (length s / 8) i s none within in
    told ∙ ap (λ (b : ℕ). encoded_of f i (of_bits binary64 b)) (chunk ∙ ap number_of at)
