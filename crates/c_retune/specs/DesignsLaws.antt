-- What is answered and left, from what comes of a record, and that a turned design has as many taps as its buffer has
-- room for. Assumes nothing.
use Rattle.std.specs.Prelude.{◌≡◌, refl, Bool, true, false, cond, List, ℕ, ◌-◌, ◌/◌, ◌%◌, eqb, Float, Err, None, Ok, Option, Result, Some}
use Rattle.std.proofs.Common.{sym, ap, ◌∙◌, subst, eq-eqb, ne_eqb, eqb-true}
use Rattle.laws.specs.Binary64.{whole}
use Rattle.laws.specs.Cases.{either_way}
use Rattle.laws.specs.Results.{refused_never, same_answer}
use Rattle.verdict.specs.Counted.{Counted}
use Rattle.verdict.specs.declared.Refusal.{Refusal}
use Rattle.verdict.specs.declared.Refusal.TheVariants.{Plain, Length}
use Rattle.wire.specs.Writes.{Room}
use Rattle.wire.proofs.WritesLaws.{room, leaves}
use Rattle.fir_sinc.specs.declared.window.Window.{Window}
use Rattle.fir_sinc.specs.declared.window.Window.TheVariants.{Kaiser}
use Rattle.fir_lowpass.specs.Lowpass.{lowpass_with, lowpass_of, outcome_of}
use Rattle.fir_lowpass.specs.declared.lowpass.Lowpass.{Lowpass}
use Rattle.fir_retune.specs.Retune.{new_cutoff_of, new_beta_of}
use Rattle.fir_retune.proofs.RetuneLaws as Retune
use Rattle.ticket_codes.specs.Codes.{window_of}
use Rattle.c_retune.specs.declared.record.Design.{Design}
use Rattle.c_retune.specs.declared.write.Tuned.{Tuned}
use Rattle.c_retune.specs.Designs.{lowpass_as, read_in, read_of, then_of, lowpass_in, lowpass_for, cutoff_for, beta_for, afterwards, left_of, Tunes}
use Rattle.verdict.specs.declared.Reason.TheVariants as Reason

-- ---- what is answered
module _ {d : Design} {x : Result Lowpass Refusal} {before : List ℕ} {r : Tuned} where
  -- a refusal, with the record and the buffer as they came
  pub left_so : {why : Refusal} → x ≡ Err why → r ≡ left_of d why → Tunes d x before r before
  left_so e told = record { writes = leaves (ap outcome_of e) (ap (λ (z : Tuned). z.report) told); design = ap (λ (z : Tuned). z.design) told ∙ sym (ap (afterwards d) e) }

  -- the same name
  pub tunes_as : {y : Result Lowpass Refusal} {after : List ℕ} → x ≡ y → Tunes d x before r after → Tunes d y before r after
  tunes_as {y} {after} e h = subst (λ (z : Result Lowpass Refusal). Tunes d z before r after) e h

-- ---- what is read of a record
module _ (d : Design) (len : ℕ) (w : Window) (h : window_of d.window d.beta ≡ Some w) where
  pub read_part : (len % 8 ≡ 0 → ⊥) → read_of d len ≡ Err (Length (len - len % 8) len)
  read_part e = ap (read_in d len) h ∙ rw (ne_eqb (len % 8) 0 e)

  module _ (e : len % 8 ≡ 0) where
    pub read_other : (d.taps ≡ len / 8 → ⊥) → read_of d len ≡ Err (Length d.taps (len / 8))
    read_other g = ap (read_in d len) h ∙ rw (eq-eqb (len % 8) 0 e, ne_eqb d.taps (len / 8) g)

    pub read_ready : d.taps ≡ len / 8 → read_of d len ≡ Ok (lowpass_as d w)
    read_ready g = ap (read_in d len) h ∙ rw (eq-eqb (len % 8) 0 e, eq-eqb d.taps (len / 8) g)

-- its buffer has whole taps, as many as the low-pass
pub record Fitting (len : ℕ) (l : Lowpass) : Type 0 where
  pub whole : len % 8 ≡ 0
  pub long : l.n ≡ len / 8

pub read_fits : (d : Design) (len : ℕ) (l : Lowpass) → read_of d len ≡ Ok l → Fitting len l
read_fits d len l e = by_code (window_of d.window d.beta) e
  where
    tested : (w : Window) (a b : Bool) → eqb (len % 8) 0 ≡ a → eqb d.taps (len / 8) ≡ b → cond a (cond b (Ok (lowpass_as d w)) (Err (Length d.taps (len / 8)))) (Err (Length (len - len % 8) len)) ≡ Ok l → Fitting len l
    tested w true true a b e = record { whole = eqb-true (len % 8) 0 a; long = ap (λ (z : Lowpass). z.n) (sym (same_answer e)) ∙ eqb-true d.taps (len / 8) b }
    tested w true false a b e = absurd (refused_never e)
    tested w false b a c e = absurd (refused_never e)

    by_code : (c : Option Window) → read_in d len c ≡ Ok l → Fitting len l
    by_code (Some w) e = tested w (eqb (len % 8) 0) (eqb d.taps (len / 8)) refl refl e
    by_code None e = absurd (refused_never e)

-- so a design of as many taps has room in it
pub fitting_room : (len : ℕ) (l : Lowpass) (x : Result Lowpass Refusal) → Fitting len l → Counted l.n (outcome_of x) → Room len (outcome_of x)
fitting_room len l x f c = room len f.whole (outcome_of x) (subst (λ (n : ℕ). Counted n (outcome_of x)) f.long c)

-- ---- what holds of a code and a length that are refused, and of every design, holds of what comes with a buffer
module _ (P : Result Lowpass Refusal → Type 0) (coded : P (Err (Plain Reason.Code))) (sized : (a b : ℕ) → P (Err (Length a b))) where
  then_has : (f : Lowpass → Result Lowpass Refusal) (d : Design) (len : ℕ) → ((l : Lowpass) → P (f l)) → (c : Option Window) → P (then_of f (read_in d len c))
  then_has f d len p (Some w) =
      let way = either_way (λ (x : Result Lowpass Refusal). P (then_of f x)) in
      way (eqb (len % 8) 0) _ _ (way (eqb d.taps (len / 8)) _ _ (p (lowpass_as d w)) (sized _ _)) (sized _ _)
  then_has f d len p None = coded

  pub lowpass_has : (cutoff rate : Float) (window : ℕ) (beta : Float) (len : ℕ) → ((w : Window) (n : ℕ) → P (lowpass_of cutoff rate w n)) → P (lowpass_for cutoff rate window beta len)
  unfolding lowpass_for
  lowpass_has cutoff rate window beta len p = go (window_of window beta)
    where
      go : (c : Option Window) → P (lowpass_in cutoff rate len c)
      go (Some w) = either_way P (eqb (len % 8) 0) _ _ (p w (len / 8)) (sized _ _)
      go None = coded

  pub cutoff_has : (d : Design) (cutoff rate : Float) (len : ℕ) → ((w : Window) (i0 : Float) (n : ℕ) → P (lowpass_with cutoff rate w i0 n)) → P (cutoff_for d cutoff rate len)
  unfolding cutoff_for
  cutoff_has d cutoff rate len p = then_has (λ (l : Lowpass). new_cutoff_of l cutoff rate) d len (λ l. Retune.cutoff_has P l cutoff rate (p l.window l.i0 l.n)) (window_of d.window d.beta)

  pub beta_has : (d : Design) (beta : Float) (len : ℕ) → ((fc : Float) (n : ℕ) → P (lowpass_of fc (whole 1) (Kaiser beta) n)) → P (beta_for d beta len)
  unfolding beta_for
  beta_has d beta len p = either_way P (eqb d.window 3) _ _ (then_has (λ (l : Lowpass). new_beta_of l beta) d len (λ l. Retune.beta_has P coded l beta (p l.fc l.n)) (window_of d.window d.beta)) coded
