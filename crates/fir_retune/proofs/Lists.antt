-- After any list of turns, refused ones included, a record that was designed is the one designed from the last accepted
-- numbers, and each turn is answered as those numbers are. Assumes nothing.
use Rattle.std.specs.Prelude.{◌≡◌, refl, true, List, [], ◌∷◌, ℕ, Float, Err, Ok, Result}
use Rattle.std.proofs.Common.{sym, ap, ◌∙◌, subst}
use Rattle.std.specs.Float.{binary64}
use Rattle.std.specs.Float.Ieee.{of_int, round, lt}
use Rattle.std.specs.Float.Ieee.Fits.{div-fits}
use Rattle.laws.specs.Binary64.{◌⊘◌, whole}
use Rattle.laws.specs.PowersOfTwo.{over_one}
use Rattle.laws.specs.Results.{refused_never}
use Rattle.math_numbers.specs.Numbers.{positive}
use Rattle.verdict.specs.declared.Refusal.TheVariants.{Plain}
use Rattle.fir_sinc.specs.Windows.{norm_of}
use Rattle.fir_sinc.specs.declared.window.Window.{Window}
use Rattle.fir_sinc.specs.declared.window.Window.TheVariants.{Hann, Hamming, Blackman, Kaiser, Cosines}
use Rattle.fir_lowpass.specs.Lowpass.{inside, judgement_of, lowpass_with, lowpass_of}
use Rattle.fir_lowpass.proofs.LowpassLaws.{designed, Passed, ready_with}
use Rattle.fir_lowpass.specs.declared.lowpass.Lowpass.{Lowpass}
use Rattle.fir_retune.specs.Retune.{new_cutoff_of, new_beta_of, where_kaiser, kept_of, verdict_of}
use Rattle.fir_retune.specs.Operations.{Numbers, designed_from, Operation, NewCutoff, NewBeta, placed, comes_of, accepted_in, last_accepted, verdicts_from, turned_of, retune, verdicts_of}
use Rattle.verdict.specs.declared.Refusal.{Refusal}
use Rattle.verdict.specs.declared.Reason.TheVariants as Reason

-- ---- one turn
-- a cutoff as a fraction of its rate, at the rate 1
same_fraction : (cutoff rate : Float) → (cutoff ⊘ rate) ⊘ whole 1 ≡ cutoff ⊘ rate
unfolding of_int round
same_fraction cutoff rate = over_one binary64 (cutoff ⊘ rate) (div-fits binary64 cutoff rate)

one_positive : positive (whole 1) ≡ true
unfolding positive of_int round lt
one_positive = refl

at_rate_one : (cutoff rate : Float) (w : Window) (n : ℕ) → positive rate ≡ true → inside (cutoff ⊘ rate) ≡ true → lowpass_of (cutoff ⊘ rate) (whole 1) w n ≡ lowpass_of cutoff rate w n
unfolding lowpass_of lowpass_with judgement_of
at_rate_one cutoff rate w n a b = rw (same_fraction cutoff rate, one_positive, a, b) refl

-- what a designed record's turn comes to is what the numbers come to
pub turn : (t : Numbers) (l : Lowpass) (o : Operation) → designed_from t ≡ Ok l → turned_of l o ≡ comes_of t o
unfolding lowpass_of new_cutoff_of new_beta_of
turn t l o e =
    let a = ready_with t.cutoff t.rate t.window (norm_of t.window) t.n l e in
    subst (λ (z : Lowpass). turned_of z o ≡ comes_of t o) (sym a.is) (go o a.passes)
  where
    go : (o : Operation) → Passed t.cutoff t.rate t.window t.n → turned_of (designed (t.cutoff ⊘ t.rate) t.window (norm_of t.window) t.n) o ≡ comes_of t o
    go (NewCutoff cutoff rate) p = refl
    go (NewBeta beta) p = ap (where_kaiser t.window) (at_rate_one t.cutoff t.rate (Kaiser beta) t.n p.rated p.inner)

-- what numbers come to that are accepted is their design
placed_is : (t : Numbers) (o : Operation) (m : Lowpass) → comes_of t o ≡ Ok m → designed_from (placed t o) ≡ Ok m
placed_is t (NewCutoff cutoff rate) m e = e
placed_is t (NewBeta beta) m e = go t.window e
  where
    go : (w : Window) → where_kaiser w (designed_from (placed t (NewBeta beta))) ≡ Ok m → designed_from (placed t (NewBeta beta)) ≡ Ok m
    go Hann e = absurd (refused_never e)
    go Hamming e = absurd (refused_never e)
    go Blackman e = absurd (refused_never e)
    go (Kaiser b) e = e
    go (Cosines c) e = absurd (refused_never e)

-- so the record after a turn is designed from the numbers after it
pub next : (t : Numbers) (l : Lowpass) (o : Operation) → designed_from t ≡ Ok l → designed_from (accepted_in t o (comes_of t o)) ≡ Ok (kept_of l (turned_of l o))
next t l o e = go (comes_of t o) refl ∙ ap (λ (d : Result Lowpass Refusal). Ok (kept_of l d)) (sym (turn t l o e))
  where
    go : (d : Result Lowpass Refusal) → comes_of t o ≡ d → designed_from (accepted_in t o d) ≡ Ok (kept_of l d)
    go (Ok m) g = placed_is t o m g
    go (Err why) g = e

-- ---- any list
pub retuned : (t : Numbers) (l : Lowpass) (os : List Operation) → designed_from t ≡ Ok l → designed_from (last_accepted t os) ≡ Ok (retune l os)
unfolding last_accepted retune
retuned t l [] e = e
retuned t l (o ∷ os) e = retuned (accepted_in t o (comes_of t o)) (kept_of l (turned_of l o)) os (next t l o e)

pub answered_so : (t : Numbers) (l : Lowpass) (os : List Operation) → designed_from t ≡ Ok l → verdicts_of l os ≡ verdicts_from t os
unfolding verdicts_of verdicts_from
answered_so t l [] e = refl
answered_so t l (o ∷ os) e =
    ap (λ (v : Result (Unit {0}) Refusal). v ∷ verdicts_of (kept_of l (turned_of l o)) os) (ap verdict_of (turn t l o e))
    ∙ ap (λ (vs : List (Result (Unit {0}) Refusal)). verdict_of (comes_of t o) ∷ vs) (answered_so (accepted_in t o (comes_of t o)) (kept_of l (turned_of l o)) os (next t l o e))

-- ---- the value that is kept is the series at the beta that is kept, 1 where the window isn't Kaiser's
pub series_kept : (t : Numbers) (l : Lowpass) (os : List Operation) → designed_from t ≡ Ok l → (retune l os).i0 ≡ norm_of (retune l os).window
unfolding lowpass_of
series_kept t l os e =
    let u = last_accepted t os in
    let a = ready_with u.cutoff u.rate u.window (norm_of u.window) u.n (retune l os) (retuned t l os e) in
    subst (λ (z : Lowpass). z.i0 ≡ norm_of z.window) (sym a.is) refl
