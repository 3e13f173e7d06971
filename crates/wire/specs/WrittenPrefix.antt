-- A buffer that is written from the front, one number of w bytes a turn: what stands in it after i turns, over any
-- width and any numbers, and under a condition where what is written is right only under one. Assumes nothing.
use Rattle.std.specs.Prelude.{◌≡◌, refl, Bool, true, false, cond, List, ℕ, ◌+◌, ◌*◌, ◌≤◌, leb, length}
use Rattle.std.proofs.Common.{ap, ◌∙◌}
use Rattle.std.proofs.lemmas.List.Edits.{sets}
use Rattle.std.proofs.Math.Seq.{length-sets}
use Rattle.laws.specs.Chunks.{chunks, chunked}
use Rattle.wire.specs.Bytes.{bytes_of, put_of}
use Rattle.wire.specs.Laws.{put_none, put_more, put_all}

-- the first i of the numbers stand at the front of the buffer, the rest is as it came
pub record WrittenPrefix (w : ℕ) (right : Type 0) (number : ℕ → ℕ) (came : List ℕ) (i : ℕ) (now : List ℕ) : Type 0 where
  pub size : length now ≡ length came
  pub stands : right → now ≡ chunked w i (λ k. bytes_of w (number k)) came

pub put_size : (w : ℕ) (d : List ℕ) (at n : ℕ) → length (put_of w d at n) ≡ length d
unfolding put_of
put_size w d at n = go (leb (at + w) (length d))
  where
    go : (b : Bool) → length (cond b (sets d at (bytes_of w n)) d) ≡ length d
    go true = length-sets d at (bytes_of w n)
    go false = refl

pub at_first : (w : ℕ) (right : Type 0) (number : ℕ → ℕ) (came : List ℕ) → WrittenPrefix w right number came 0 came
at_first w right number came = record { size = refl; stands = λ k. put_none w number came }

module _ {w : ℕ} {right : Type 0} {number : ℕ → ℕ} {came : List ℕ} {i : ℕ} {now : List ℕ} (s : WrittenPrefix w right number came i now) where
  pub one_more : {n : ℕ} {next : List ℕ} → w * (i + 1) ≤ length came → (right → n ≡ number i) → next ≡ put_of w now (w * i) n → WrittenPrefix w right number came (i + 1) next
  one_more {n} room is put = record {
    size = ap length put ∙ put_size w now (w * i) n ∙ s.size;
    stands = λ k. put ∙ rw (is k, s.stands k) (put_more w number i came room);
  }

  -- all of them, where they take the whole buffer
  pub at_end : length came ≤ w * i → right → now ≡ chunks i (λ k. bytes_of w (number k))
  at_end l k = s.stands k ∙ put_all w number i came l
