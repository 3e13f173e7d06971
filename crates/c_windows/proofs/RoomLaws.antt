-- The room that a buffer of bytes has for samples. Assumes nothing.
use mathlib.Core.Path.{◌≡◌}
use Prim.Native.Nat.{ℕ, ◌*◌, ◌/◌, ◌%◌, ◌<◌, ◌≤◌}
use native.Mathlib.Nat.{le_trans, mul-le-mul_left, mul-div-le, mod-add-div}
use native.Mathlib.Omega.{arith}
use Rattle.c_windows.specs.Samples.{width_of}
use Rattle.c_windows.specs.declared.sample.Sample.{Sample}
use Rattle.c_windows.specs.declared.sample.Sample.TheVariants.{Single, Q15}

-- a sample has bytes, so that a length can be divided by its width
pub some_width : (s : Sample) {w : ℕ} → w ≡ width_of s → 0 < w
unfolding width_of
some_width Single e = omega arith
some_width Q15 e = omega arith

-- and more than one, so that they are at most half as many as the bytes
pub half : (s : Sample) {w : ℕ} (len : ℕ) → w ≡ width_of s → 2 * (len / w) ≤ len
unfolding width_of
half Single len e = rw e (omega arith)
half Q15 len e = rw e (omega arith)

-- len bytes, in samples of w bytes: as many as go into them have room, and where none are left over they take all of it
pub room : (w len i : ℕ) → i ≤ len / w → w * i ≤ len
room w len i h = le_trans (mul-le-mul_left w h) (mul-div-le len w)

pub full : (w len : ℕ) → len % w ≡ 0 → len ≤ w * (len / w)
full w len h = omega (arith, mod-add-div len w)
