-- What the exports ensure makes every call advance, and so every list of calls, whatever is refused in it. Assumes
-- nothing.
use Rattle.std.specs.Prelude.{ℕ, ◌-◌, ◌/◌, ◌%◌, ◌≡◌, refl, Bool, true, false, cond, List, [], ◌∷◌, T, eqb, length, Float, Err, None, Ok, Option, Result, Some}
use Rattle.std.proofs.Common.{sym, ap, ◌∙◌, subst}
use Rattle.laws.specs.Binary64.{◌⊘◌}
use Rattle.laws.specs.Results.{refused_never}
use Rattle.verdict.specs.Report.{report_of, accepted_of}
use Rattle.verdict.specs.Outcome.{answered}
use Rattle.verdict.specs.Outcome as Outcome
use Rattle.verdict.specs.declared.Refusal.TheVariants.{Plain, Length}
use Rattle.verdict.specs.declared.Report.{Report}
use Rattle.wire.specs.Bytes.{float_bytes}
use Rattle.wire.specs.Writes.{written}
use Rattle.wire.proofs.WritesLaws.{writes_same}
use Rattle.fir_sinc.specs.Windows.{norm_of}
use Rattle.fir_sinc.specs.declared.window.Window.{Window}
use Rattle.fir_sinc.specs.declared.window.Window.TheVariants.{Hann, Hamming, Blackman, Kaiser, Cosines}
use Rattle.fir_lowpass.specs.Lowpass.{lowpass_of, outcome_of}
use Rattle.fir_lowpass.proofs.LowpassLaws.{designed, ready_is}
use Rattle.fir_lowpass.specs.declared.lowpass.Lowpass.{Lowpass}
use Rattle.fir_retune.specs.Retune.{new_cutoff_of, where_kaiser, new_beta_of}
use Rattle.fir_retune.specs.Operations.{Numbers, designed_from, Operation, NewCutoff, NewBeta, placed, accepted_in}
use Rattle.fir_retune.proofs.Lists as Lists
use Rattle.ticket_codes.specs.Codes.{window_of, code_of, has_code}
use Rattle.ticket_codes.specs.CodesLaws.{window_back, came_of_code}
use Rattle.c_lowpass.specs.Lowpass.{lowpass_bytes}
use Rattle.c_retune.specs.Designs.{design_as, none, whole_in, fits_in, read_in, read_of, then_of, lowpass_in, lowpass_for, cutoff_for, beta_for, afterwards, Tunes}
use Rattle.c_retune.specs.declared.record.Design.{Design}
use Rattle.c_retune.specs.declared.write.Tuned.{Tuned}
use Rattle.promise_refusals.specs.Listed.{Listed}
use Rattle.promise_refusals.proofs.ListedLaws.{never_zero}
use Rattle.promise_retune.specs.Histories.{comes_with, accepted_with, DesignedAs, Call, Advances, Promised, Follows, last_record, last_numbers, AllAdvance, Carried, last_bytes, Shows, Begins, LeavesRecord}
use Rattle.verdict.specs.declared.Refusal.{Refusal}
use Rattle.verdict.specs.declared.Reason.TheVariants as Reason

-- ---- the buffer's tests stand before the turn, or after
then_fits : (f : Lowpass → Result Lowpass Refusal) (n len : ℕ) (l : Lowpass) → then_of f (fits_in n len (Ok l)) ≡ fits_in n len (f l)
then_fits f n len l = go (eqb (len % 8) 0) (eqb n (len / 8))
  where
    go : (a b : Bool) → then_of f (cond a (cond b (Ok l) (Err (Length n (len / 8)))) (Err (Length (len - len % 8) len))) ≡ cond a (cond b (f l) (Err (Length n (len / 8)))) (Err (Length (len - len % 8) len))
    go true true = refl
    go true false = refl
    go false b = refl

-- what is read of a designed record, and comes of it
reads : (f : Lowpass → Result Lowpass Refusal) (l : Lowpass) (len : ℕ) → T (has_code l.window) → then_of f (read_of (design_as l) len) ≡ fits_in l.n len (f l)
reads f l len h = ap (λ (w : Option Window). then_of f (read_in (design_as l) len w)) (window_back l.window h) ∙ then_fits f l.n len l

cutoff_reads : (l : Lowpass) (cutoff rate : Float) (len : ℕ) → T (has_code l.window) → cutoff_for (design_as l) cutoff rate len ≡ fits_in l.n len (new_cutoff_of l cutoff rate)
unfolding cutoff_for
cutoff_reads l cutoff rate len h = reads (λ (z : Lowpass). new_cutoff_of z cutoff rate) l len h

beta_reads : (l : Lowpass) (beta : Float) (len : ℕ) → T (has_code l.window) → beta_for (design_as l) beta len ≡ where_kaiser l.window (fits_in l.n len (new_beta_of l beta))
unfolding beta_for code_of
beta_reads l beta len h = ap (λ (x : Result Lowpass Refusal). cond (eqb (code_of l.window) 3) x (Err (Plain Reason.Code))) (reads (λ (z : Lowpass). new_beta_of z beta) l len h) ∙ go l.window _
  where
    go : (w : Window) (x : Result Lowpass Refusal) → cond (eqb (code_of w) 3) x (Err (Plain Reason.Code)) ≡ where_kaiser w x
    go Hann x = refl
    go Hamming x = refl
    go Blackman x = refl
    go (Kaiser b) x = refl
    go (Cosines c) x = refl

-- asked once is asked twice
kaiser_twice : (w : Window) (n len : ℕ) (x : Result Lowpass Refusal) → where_kaiser w (fits_in n len (where_kaiser w x)) ≡ where_kaiser w (fits_in n len x)
kaiser_twice Hann n len x = refl
kaiser_twice Hamming n len x = refl
kaiser_twice Blackman n len x = refl
kaiser_twice (Kaiser b) n len x = refl
kaiser_twice (Cosines c) n len x = refl

-- ---- one call
-- what comes of an operation on a record, by its export
abbrev pub comes_for : Design → Operation → ℕ → Result Lowpass Refusal
comes_for d (NewCutoff cutoff rate) len = cutoff_for d cutoff rate len
comes_for d (NewBeta beta) len = beta_for d beta len

-- of a designed record it is what comes of the numbers
same_turn : (t : Numbers) (d : Design) (o : Operation) (len : ℕ) → DesignedAs t d → comes_for d o len ≡ comes_with t o len
same_turn t d o len p = subst (λ (z : Design). comes_for z o len ≡ comes_with t o len) (sym p.is) (go o)
  where
    l : Lowpass
    l = p.design

    made : l ≡ designed (t.cutoff ⊘ t.rate) t.window (norm_of t.window) t.n
    made = (ready_is t.cutoff t.rate t.window t.n l p.from).is

    count : l.n ≡ t.n
    count = ap (λ (z : Lowpass). z.n) made

    shape : l.window ≡ t.window
    shape = ap (λ (z : Lowpass). z.window) made

    coded : T (has_code l.window)
    coded = subst (λ (w : Window). T (has_code w)) (sym shape) p.coded

    go : (o : Operation) → comes_for (design_as l) o len ≡ comes_with t o len
    go (NewCutoff cutoff rate) =
        let x = designed_from (placed t (NewCutoff cutoff rate)) in
        cutoff_reads l cutoff rate len coded
        ∙ ap (fits_in l.n len) (Lists.turn t l (NewCutoff cutoff rate) p.from)
        ∙ ap (λ (n : ℕ). fits_in n len x) count
    go (NewBeta beta) =
        let x = designed_from (placed t (NewBeta beta)) in
        beta_reads l beta len coded
        ∙ ap (λ (z : Result Lowpass Refusal). where_kaiser l.window (fits_in l.n len z)) (Lists.turn t l (NewBeta beta) p.from)
        ∙ ap (λ (w : Window). where_kaiser w (fits_in l.n len (where_kaiser t.window x))) shape
        ∙ kaiser_twice t.window l.n len x
        ∙ ap (λ (n : ℕ). where_kaiser t.window (fits_in n len x)) count

-- and what numbers come to that are accepted is their design
fits_is : (n len : ℕ) (x : Result Lowpass Refusal) (m : Lowpass) → fits_in n len x ≡ Ok m → x ≡ Ok m
fits_is n len x m e = go (eqb (len % 8) 0) (eqb n (len / 8)) e
  where
    go : (a b : Bool) → cond a (cond b x (Err (Length n (len / 8)))) (Err (Length (len - len % 8) len)) ≡ Ok m → x ≡ Ok m
    go true true e = e
    go true false e = absurd (refused_never e)
    go false b e = absurd (refused_never e)

accepted_is : (t : Numbers) (o : Operation) (len : ℕ) (m : Lowpass) → comes_with t o len ≡ Ok m → designed_from (placed t o) ≡ Ok m
accepted_is t (NewCutoff cutoff rate) len m e = fits_is t.n len _ m e
accepted_is t (NewBeta beta) len m e = go t.window e
  where
    go : (w : Window) → where_kaiser w (fits_in t.n len (designed_from (placed t (NewBeta beta)))) ≡ Ok m → designed_from (placed t (NewBeta beta)) ≡ Ok m
    go Hann e = absurd (refused_never e)
    go Hamming e = absurd (refused_never e)
    go Blackman e = absurd (refused_never e)
    go (Kaiser b) e = fits_is t.n len _ m e
    go (Cosines c) e = absurd (refused_never e)

-- an operation's numbers have a window with a code, where those before it had
coded_next : (t : Numbers) (o : Operation) → T (has_code t.window) → T (has_code (placed t o).window)
coded_next t (NewCutoff cutoff rate) h = h
coded_next t (NewBeta beta) h = tt

pub advances : (c : Call) → Tunes c.kept (comes_for c.kept c.turn (length c.before)) c.before c.answer c.after → Promised c
advances c h t p =
    let e = same_turn t c.kept c.turn (length c.before) p in
    record { writes = writes_same (ap outcome_of e) h.writes; designed = go (comes_with t c.turn (length c.before)) refl (h.design ∙ ap (afterwards c.kept) e) }
  where
    go : (y : Result Lowpass Refusal) → comes_with t c.turn (length c.before) ≡ y → c.answer.design ≡ afterwards c.kept y → DesignedAs (accepted_in t c.turn y) c.answer.design
    go (Ok m) g q = record { coded = coded_next t c.turn p.coded; design = m; from = accepted_is t c.turn (length c.before) m g; is = q }
    go (Err why) g q = subst (DesignedAs t) (sym q) p

-- ---- any list of calls, refused ones included
pub histories : (t : Numbers) (d : Design) (cs : List Call) → DesignedAs t d → Follows d cs → AllAdvance t cs × DesignedAs (last_numbers t cs) (last_record d cs)
unfolding Follows AllAdvance last_numbers last_record
histories t d [] p f = (tt, p)
histories t d (c ∷ cs) p (e, h, f) =
    let a = h t (subst (DesignedAs t) (sym e) p) in
    let r = histories (accepted_with t c.turn (length c.before)) c.answer.design cs a.designed f in
    ((a, r.0), r.1)

-- so a buffer that is lent to each of them always holds the taps of the design from the last accepted numbers
shows_next : (t : Numbers) (c : Call) → Advances t c → Shows t c.before → Shows (accepted_with t c.turn (length c.before)) c.after
shows_next t c a s = go (comes_with t c.turn (length c.before)) refl a.writes.buffer
  where
    go : (y : Result Lowpass Refusal) → comes_with t c.turn (length c.before) ≡ y → c.after ≡ written float_bytes (outcome_of y) c.before → Shows (accepted_in t c.turn y) c.after
    go (Ok m) e w = w ∙ ap (λ (x : Result Lowpass Refusal). written float_bytes (outcome_of x) c.after) (sym (accepted_is t c.turn (length c.before) m e))
    go (Err why) e w = subst (Shows t) (sym w) s

pub one_buffer : (t : Numbers) (b : List ℕ) (cs : List Call) → AllAdvance t cs → Carried b cs → Shows t b → Shows (last_numbers t cs) (last_bytes b cs)
unfolding AllAdvance Carried last_numbers last_bytes
one_buffer t b [] a k s = s
one_buffer t b (c ∷ cs) (a, rest) (e, k) s = one_buffer (accepted_with t c.turn (length c.before)) c.after cs rest k (shows_next t c a (subst (Shows t) (sym e) s))

-- ---- what a designed record holds: the value that it keeps is the series at the beta that it keeps
pub series_kept : (t : Numbers) (d : Design) (w : Window) → DesignedAs t d → window_of d.window d.beta ≡ Some w → d.series ≡ norm_of w
series_kept t d w p e =
    let l = p.design in
    let made = (ready_is t.cutoff t.rate t.window t.n l p.from).is in
    let h = subst (λ (v : Window). T (has_code v)) (sym (ap (λ (z : Lowpass). z.window) made)) p.coded in
    let shape : l.window ≡ w = same_window l.window w (sym (window_back l.window h) ∙ subst (λ (z : Design). window_of z.window z.beta ≡ Some w) p.is e) in
    ap (λ (z : Design). z.series) p.is ∙ ap (λ (z : Lowpass). z.i0) made ∙ ap norm_of (sym (ap (λ (z : Lowpass). z.window) made) ∙ shape)
  where
    same_window : (v w : Window) → Some v ≡ Some w → v ≡ w
    same_window v w e = cc

-- ---- the record of a refusal, and the first design
module _ {d : Design} {before : List ℕ} {r : Tuned} {after : List ℕ} where
  pub leaves_record : (x : Result Lowpass Refusal) → Tunes d x before r after → LeavesRecord d r
  unfolding accepted_of
  leaves_record (Ok m) h k = absurd (k (ap (λ (z : Report). z.number) h.writes.answer))
  leaves_record (Err why) h k = h.design

  -- where it is accepted, there is a design
  ready_so : (x : Result Lowpass Refusal) → Listed (answered (outcome_of x)) → Tunes d x before r after → r.report.number ≡ 0 → (m : Lowpass) × (x ≡ Ok m) × (r.design ≡ design_as m)
  ready_so (Ok m) l h z = (m, refl, h.design)
  ready_so (Err why) l h z = absurd (never_zero (report_of why).number l (sym (ap (λ (z : Report). z.number) h.writes.answer) ∙ z))

whole_is : (len : ℕ) (x : Result Lowpass Refusal) (m : Lowpass) → whole_in len x ≡ Ok m → x ≡ Ok m
whole_is len x m e = go (eqb (len % 8) 0) e
  where
    go : (a : Bool) → cond a x (Err (Length (len - len % 8) len)) ≡ Ok m → x ≡ Ok m
    go true e = e
    go false e = absurd (refused_never e)

-- its report and its bytes are those of `pel_lowpass`
pub as_lowpass : (cutoff rate : Float) (window : ℕ) (beta : Float) (len : ℕ) → outcome_of (lowpass_for cutoff rate window beta len) ≡ lowpass_bytes cutoff rate (window_of window beta) len
unfolding lowpass_for
as_lowpass cutoff rate window beta len = by_code (window_of window beta)
  where
    by_length : (a : Bool) (x : Result Lowpass Refusal) → outcome_of (cond a x (Err (Length (len - len % 8) len))) ≡ cond a (outcome_of x) (Outcome.Refused (Length (len - len % 8) len))
    by_length true x = refl
    by_length false x = refl

    by_code : (c : Option Window) → outcome_of (lowpass_in cutoff rate len c) ≡ lowpass_bytes cutoff rate c len
    by_code (Some w) = by_length (eqb (len % 8) 0) (lowpass_of cutoff rate w (len / 8))
    by_code None = refl

pub begins : (cutoff rate : Float) (window : ℕ) (beta : Float) {before after : List ℕ} {r : Tuned} → Listed (answered (outcome_of (lowpass_for cutoff rate window beta (length before)))) → Tunes none (lowpass_for cutoff rate window beta (length before)) before r after → Begins cutoff rate window beta (length before / 8) r after
unfolding lowpass_for
begins cutoff rate window beta {before} {after} {r} l h w e z =
    let len = length before in
    let a = ready_so (lowpass_in cutoff rate len (window_of window beta)) l h z in
    let f : lowpass_of cutoff rate w (len / 8) ≡ Ok a.0 = whole_is len (lowpass_of cutoff rate w (len / 8)) a.0 (sym (ap (lowpass_in cutoff rate len) e) ∙ a.1) in
    (record { coded = came_of_code window beta w e; design = a.0; from = f; is = a.2 }, h.writes.buffer ∙ ap (λ (x : Result Lowpass Refusal). written float_bytes (outcome_of x) before) a.1 ∙ ap (λ (x : Result Lowpass Refusal). written float_bytes (outcome_of x) after) (sym f))
