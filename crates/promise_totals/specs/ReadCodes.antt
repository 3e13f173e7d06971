-- Signed 16-bit numbers read from bytes, two each: what the bytes of a number hold is the number, and every Q15 number
-- is one of 16 bits. Assumes nothing.
use Rattle.std.specs.Prelude.{◌≡◌, refl, Bool, true, false, cond, ℕ, ◌-◌, ◌*◌, ◌≤◌, ◌<◌, min, ℤ, pos, negsuc, take, drop, Float}
use Rattle.std.proofs.Common.{ap, ◌∙◌, lt_of_lt_of_le, arith, leb-true, le-leb, lt-ltb, le-ltb, lit≤}
use Rattle.std.specs.Float.{nan, inf, fin}
use Rattle.laws.specs.Chunks.{chunks}
use Rattle.laws.specs.Filled.{tabulate, tabulate_below}
use Rattle.laws.specs.Floor.{floor_z}
use Rattle.wire.specs.Bytes.{twos_of, code_bytes, signed_of, code_of, codes_in}
use Rattle.wire.specs.Laws.{length_bytes}
use Rattle.wire.specs.Read.{number_bytes, chunk_at}
use Rattle.fmt_q15.specs.Q15.{moved, saturated, in16, code_in, q15_of}

-- ---- reading gives back what was written
signed_twos : (q : ℤ) → in16 q ≡ true → signed_of (twos_of q) ≡ q
signed_twos (pos n) h =
    let m : n ≤ 32767 = leb-true n 32767 h in
    ap (λ (b : Bool). cond b (pos n) (negsuc (65535 - n))) (lt-ltb n 32768 (omega arith))
signed_twos (negsuc n) h =
    let m : n ≤ 32767 = leb-true n 32767 h in
    let e : 65535 - (65535 - n) ≡ n = omega arith in
    ap (λ (b : Bool). cond b (pos (65535 - n)) (negsuc (65535 - (65535 - n)))) (le-ltb (65535 - n) 32768 (omega arith)) ∙ ap negsuc e

twos_below : (q : ℤ) → in16 q ≡ true → twos_of q < 65536
twos_below (pos n) h = let m : n ≤ 32767 = leb-true n 32767 h in omega arith
twos_below (negsuc n) h = omega arith

pub code_bytes_lem : (q : ℤ) → in16 q ≡ true → code_of (code_bytes q) ≡ q
code_bytes_lem q h = ap signed_of (number_bytes 2 (twos_of q) (lt_of_lt_of_le (twos_below q h) (lit≤ tt))) ∙ signed_twos q h

pub codes_back : (n : ℕ) (q : ℕ → ℤ) → ((i : ℕ) → in16 (q i) ≡ true) → codes_in n (chunks n (λ i. code_bytes (q i))) ≡ tabulate n q
codes_back n q fit =
    tabulate_below n (λ i. code_of (take 2 (drop (2 * i) (chunks n (λ i. code_bytes (q i)))))) q
    (λ i h. ap code_of (chunk_at 2 (λ i. code_bytes (q i)) (λ i. length_bytes 2 (twos_of (q i))) n i h) ∙ code_bytes_lem (q i) (fit i))

-- ---- every Q15 number has 16 bits
saturated_fits : (z : ℤ) → in16 (saturated z) ≡ true
saturated_fits (pos n) = le-leb (min n 32767) 32767 (omega arith)
saturated_fits (negsuc n) = le-leb (min n 32767) 32767 (omega arith)

code_fits : (w : Float) → in16 (code_in w) ≡ true
code_fits nan = refl
code_fits (inf false) = refl
code_fits (inf true) = refl
code_fits (fin s m e) = saturated_fits (floor_z (fin s m e))

pub q15_fits : (t : Float) → in16 (q15_of t) ≡ true
unfolding q15_of
q15_fits t = code_fits (moved t)
