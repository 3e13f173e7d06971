-- `c_gain::level::gain_in` meets its contract. The invariant of both loops: the two sums so far. Assumes nothing.
use mathlib.Core.Path.{◌≡◌, refl, sym, ap, ◌∙◌}
use mathlib.Core.List.{List}
use Prim.Native.Nat.{ℕ, ◌+◌, ◌*◌, ◌/◌, ◌<◌, ◌≤◌}
use native.Mathlib.Omega.{arith}
use lib.ListN.{length, get_or}
use Rattle.std.specs.Simd.{first_chunks}
use lib.Ieee.{Float, nan, binary32, binary64, of_bits}
use Rattle.laws.specs.Binary64.{◌⊕◌, ◌⊗◌}
use Rattle.laws.specs.Filled.{length_tabulate, get_d_tabulate}
use Rattle.laws.proofs.SumsLaws.{sum_none, sum_more}
use Rattle.wire.specs.Bytes.{number_of, single_at}
use Rattle.wire.specs.Read.{chunk_in}
use Rattle.win_gain.specs.Gain.{summed, gain_of}
use Rattle.c_gain.specs.Level.{singles}
use Rattle.c_gain.proofs.level.gain_in.Invariants.{Summed, sample, square}
use Rattle.c_gain.proofs.level.gain_in.Goals as goal

-- how many samples, and sample i by its place
count : (s : List ℕ) → length (singles s) ≡ length s / 4
count s = length_tabulate (length s / 4) (λ i. single_at s (4 * i))

element : (s : List ℕ) (i : ℕ) → i < length s / 4 → single_at s (4 * i) ≡ sample s i
element s i h = sym (get_d_tabulate (length s / 4) (λ k. single_at s (4 * k)) i nan h)

-- and one more, from the chunk that holds it
more : (none : List ℕ) {s : List ℕ} {words : List (List ℕ)} {i k bits : ℕ} {sum squares v : Float} → words ≡ first_chunks 4 (length s / 4) s → bits ≡ number_of (get_or words k none) → v ≡ of_bits binary32 bits → Summed s i sum squares → k ≡ i → i < length s / 4 → Summed s (i + 1) (sum ⊕ v) (squares ⊕ v ⊗ v)
more none {s = s} {words = words} {i = i} {k = k} {v = v} front chunk e a at l =
    let held = ap (λ (j : ℕ). get_or words j none) at ∙ ap (λ (w : List (List ℕ)). get_or w i none) front ∙ chunk_in 4 (length s / 4) i s none l in
    let is : v ≡ sample s i = e ∙ ap (λ (n : ℕ). of_bits binary32 n) (chunk ∙ ap number_of held) ∙ element s i l in
    record {
      within = omega arith;
      sum_is = rw (a.sum_is, is) (sum_more binary64 (sample s) i);
      squares_are = rw (a.squares_are, is) (sum_more binary64 (square s) i);
    }

-- the sums of all the samples
all : {s : List ℕ} {n i : ℕ} {sum squares : Float} → n ≡ length s / 4 → Summed s i sum squares → n ≤ i → summed n sum squares ≡ gain_of (singles s)
unfolding gain_of
all {s = s} {n = n} {i = i} whole a l =
    let end : i ≡ length s / 4 = omega (arith, a.within) in
    rw (a.sum_is, a.squares_are, end, count s, whole)

pub loop-i-init : goal.loop-i-init
loop-i-init c = record { within = omega arith; sum_is = sum_none binary64 _; squares_are = sum_none binary64 _ }

pub overflow_add-i : goal.overflow_add-i
overflow_add-i c = let w = c.loop-i.invariant.within in omega (arith, c.as_chunks.ensures.front_len)

pub overflow_add-i-in-loop-i-4 : goal.overflow_add-i-in-loop-i-4
overflow_add-i-in-loop-i-4 c = let l = c.loop-i-test.true in omega arith

pub loop-i-smaller : goal.loop-i-smaller
loop-i-smaller c = let l = c.loop-i-test.true in omega arith

pub loop-i-preserved : goal.loop-i-preserved
loop-i-preserved c =
    let i = c.loop-i.i in
    let front = c.as_chunks.ensures.front in
    let l : i + 3 < length c.args.src.now / 4 = omega (arith, c.loop-i-test.true, c.as_chunks.ensures.front_len) in
    let four : i + 4 ≡ i + 1 + 1 + 1 + 1 = omega arith in
    let one = more _ front c.number_in_four-a.ensures c.wide_of-v.ensures c.loop-i.invariant refl (omega arith) in
    let two = more _ front c.number_in_four-b.ensures c.wide_of-w.ensures one refl (omega arith) in
    let three = more _ front c.number_in_four-c.ensures c.wide_of-x.ensures two (omega arith) (omega arith) in
    rw four (more _ front c.number_in_four-d.ensures c.wide_of-y.ensures three (omega arith) (omega arith))

pub loop-k-init : goal.loop-k-init
loop-k-init c = c.loop-i.invariant

pub loop-k-preserved : goal.loop-k-preserved
loop-k-preserved c =
    let l : c.loop-k.k < length c.args.src.now / 4 = omega (arith, c.loop-k-test.true, c.as_chunks.ensures.front_len) in
    more _ c.as_chunks.ensures.front c.number_in_four.ensures c.wide_of-v-in-loop-k.ensures c.loop-k.invariant refl l

pub returns : goal.returns
returns c = c.gain_of.ensures ∙ all c.as_chunks.ensures.front_len c.loop-k.invariant (omega arith)
