-- How many bytes there are, whether a buffer has them, and a buffer that is filled with the bytes of numbers, one
-- number a turn. Assumes nothing.
use Rattle.std.specs.Prelude.{◌≡◌, refl, List, cond, ℕ, zero, suc, ◌+◌, ◌*◌, ◌/◌, ◌%◌, ◌-◌, ◌<◌, ◌≤◌, leb, length, set}
use Rattle.std.proofs.Common.{ap, ◌∙◌, mul-suc, add-one, arith, le-leb}
use Rattle.std.proofs.lemmas.Bool.{lt-leb}
use Rattle.std.proofs.lemmas.List.Edits.{sets}
use Rattle.laws.specs.Chunks.{chunks, chunked, chunk_none, chunk_more, chunk_all, length_chunked}
use Rattle.wire.specs.Bytes.{bytes_of, put_of}

pub length_bytes : (w n : ℕ) → length (bytes_of w n) ≡ w
unfolding bytes_of
length_bytes zero n = refl
length_bytes (suc w) n = ap suc (length_bytes w (n / 256))

-- what is left to store up to `end`: nothing, or a byte and then the rest
pub store_none : (d : List ℕ) (end i n : ℕ) → end ≤ i → sets d i (bytes_of (end - i) n) ≡ d
unfolding bytes_of
store_none d end i n h =
    let e : end - i ≡ 0 = omega arith in
    rw e

pub store_next : (d : List ℕ) (end i n : ℕ) → i < end → sets d i (bytes_of (end - i) n) ≡ sets (set d i (n % 256)) (i + 1) (bytes_of (end - (i + 1)) (n / 256))
unfolding bytes_of
store_next d end i n h =
    let e : end - i ≡ suc (end - (i + 1)) = omega arith in
    rw (e, add-one)

-- what the test for w bytes from `at` on chooses, to read or to store: where they are all there, and where not
module _ {A : Type 0} (w : ℕ) (d : List ℕ) (at : ℕ) (x y : A) where
  pub there : at + w ≤ length d → cond (leb (at + w) (length d)) x y ≡ x
  there h = rw (le-leb (at + w) (length d) h)

  pub missing : length d < at + w → cond (leb (at + w) (length d)) x y ≡ y
  missing h = rw (lt-leb (at + w) (length d) h)

module _ (w : ℕ) (d : List ℕ) (at n : ℕ) where
  pub put_fits : at + w ≤ length d → put_of w d at n ≡ sets d at (bytes_of w n)
  unfolding put_of
  put_fits = there w d at (sets d at (bytes_of w n)) d

  pub put_short : length d < at + w → put_of w d at n ≡ d
  unfolding put_of
  put_short = missing w d at (sets d at (bytes_of w n)) d

-- a buffer filled with the w lowest bytes of the numbers g 0, g 1, ..: at first, one more, its length, and all of them
module _ (w : ℕ) (g : ℕ → ℕ) where
  abbrev bytes : ℕ → List ℕ
  bytes i = bytes_of w (g i)

  width : (i : ℕ) → length (bytes i) ≡ w
  width i = length_bytes w (g i)

  pub put_none : (d : List ℕ) → d ≡ chunked w 0 bytes d
  put_none d = chunk_none w bytes width d

  pub put_length : (n : ℕ) (d : List ℕ) → w * n ≤ length d → length (chunked w n bytes d) ≡ length d
  put_length n d h = length_chunked w bytes width n d h

  pub put_more : (n : ℕ) (d : List ℕ) → w * (n + 1) ≤ length d → put_of w (chunked w n bytes d) (w * n) (g n) ≡ chunked w (n + 1) bytes d
  put_more n d h =
      let m : w * (n + 1) ≡ w * n + w = rw (add-one, mul-suc) refl in
      let l = put_length n d (omega (arith, m)) in
      put_fits w (chunked w n bytes d) (w * n) (g n) (omega (arith, m, l)) ∙ chunk_more w bytes width n d h

  pub put_all : (n : ℕ) (d : List ℕ) → length d ≤ w * n → chunked w n bytes d ≡ chunks n bytes
  put_all n d h = chunk_all w bytes width n d h
