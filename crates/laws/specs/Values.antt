-- A finite value of a format is given by its sign and its magnitude, which has an upper bound. Assumes nothing.
use Rattle.std.specs.Prelude.{◌≡◌, refl, Bool, ◌&&◌, cond, ℕ, zero, suc, ◌+◌, ◌-◌, ◌*◌, ◌/◌, ◌%◌, ◌^◌, ◌<◌, ℤ, T, leb, ltb, eqb, Float}
use Rattle.std.proofs.Common.{sym, ◌∙◌, zero-lt-suc, zero-mul, mul-pos, mul_right_comm, mul-lt-mul_of_pos_right, div-lt_iff_lt-mul, lt_of_lt_of_le, le_of_eq, ltb→lt, pow_pos}
use Rattle.std.proofs.Math.Nat.{zero-div}
use Rattle.std.specs.Float.{nan, inf, fin, Format}
use Rattle.std.specs.Float.Ieee.{prec, emax, low, hid, top, up, down, size, to_bits, fits}
use Rattle.std.specs.Float.Ieee.Bits.{of_bits-to_bits}
use Rattle.std.specs.Float.Ieee.Fits.{and_r, up_pos, down_pos}
use Rattle.std.specs.Float.Ieee.Positive.{first_pos}
use Rattle.std.specs.Float.Ieee.Scale.{finite}
use Rattle.laws.specs.Units.{mag, is_neg, mag_cross}

-- the bit pattern of a sign and a magnitude
abbrev pub bits_of : Format → Bool → ℕ → ℕ
bits_of f s n = cond s (top f) 0 + (size n - prec f) * hid f + n / 2 ^ (size n - prec f)

pub to_bits_lem : (f : Format) (x : Float) → T (finite x) → to_bits f x ≡ bits_of f (is_neg x) (mag f x)
unfolding to_bits mag
to_bits_lem f nan u = absurd u
to_bits_lem f (inf s) u = absurd u
to_bits_lem f (fin s m e) u = refl

pub same_value : (f : Format) (x y : Float) → T (fits f x) → T (fits f y) → T (finite x) → T (finite y)
    → is_neg x ≡ is_neg y → mag f x ≡ mag f y → x ≡ y
same_value f x y F G u v s e =
    let p : to_bits f x ≡ to_bits f y = to_bits_lem f x u ∙ rw (s, e) (sym (to_bits_lem f y v)) in
    sym (of_bits-to_bits f x F) ∙ rw p (of_bits-to_bits f y G)

pub mag_lt : (f : Format) (x : Float) → T (fits f x) → mag f x < 2 ^ suc (emax f) * 2 ^ low f
unfolding mag fits
mag_lt f nan F = mul-pos (pow_pos (suc (emax f))) (pow_pos (low f))
mag_lt f (inf s) F = mul-pos (pow_pos (suc (emax f))) (pow_pos (low f))
mag_lt f (fin s zero e) F = rw (zero-mul (up e), zero-mul (2 ^ low f), zero-div (down e)) (mul-pos (pow_pos (suc (emax f))) (pow_pos (low f)))
mag_lt f (fin s (suc m) e) F =
    let d = eqb (suc m % 2) 1 && ltb (suc m) (2 ^ prec f) && leb (down e) (2 ^ low f) in
    let l = ltb→lt (suc m * up e) (2 ^ suc (emax f) * down e) (and_r d (ltb (suc m * up e) (2 ^ suc (emax f) * down e)) F) in
    (div-lt_iff_lt-mul (down_pos e)).1
    (lt_of_lt_of_le (mul-lt-mul_of_pos_right l (pow_pos (low f))) (le_of_eq (mul_right_comm (2 ^ suc (emax f)) (down e) (2 ^ low f))))

pub mag_pos : (f : Format) (s : Bool) (m : ℕ) (e : ℤ) → T (fits f (fin s (suc m) e)) → 0 < mag f (fin s (suc m) e)
mag_pos f s m e F = first_pos (mag f (fin s (suc m) e)) (down e) (rw (mag_cross f s (suc m) e F) (mul-pos (mul-pos (zero-lt-suc m) (up_pos e)) (pow_pos (low f))))
