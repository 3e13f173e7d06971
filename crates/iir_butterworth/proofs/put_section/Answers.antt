-- `iir_butterworth::put_section` meets its contract. The loop's invariant: the first numbers are stored. Assumes
-- nothing.
use mathlib.Core.Path.{◌≡◌, refl, ap, ◌∙◌}
use mathlib.Core.List.{List}
use Prim.Native.Nat.{ℕ, suc, ◌+◌}
use native.Mathlib.Omega.{arith}
use borrow.Author.Rules.{scaled_Fits}
use lib.ListN.{length, set, take, get_or}
use lib.Seq.{sets, length-sets}
use lib.Ieee.{Float, nan}
use Rattle.iir_butterworth.specs.SectionLaws.{sets_more, take_all}
use Rattle.iir_butterworth.proofs.put_section.Goals as goal

pub loop-j-init : goal.loop-j-init
loop-j-init c = (omega arith, refl)

pub overflow_add-sos : goal.overflow_add-sos
overflow_add-sos c =
    let g = c.well_formed.0.1 in
    omega arith

pub offset_bounds-sos-at : goal.offset_bounds-sos-at
offset_bounds-sos-at c = scaled_Fits (c.args.at + c.loop-j.j) (length c.args.sos.now) 8 (omega arith) c.well_formed.0.1

pub bounds-sos-at : goal.bounds-sos-at
bounds-sos-at c =
    let e : length c.loop-j.sos ≡ length c.args.sos.now = ap length c.loop-j.invariant.1 ∙ length-sets c.args.sos.now c.args.at (take c.loop-j.j c.args.coefs) in
    omega arith

pub loop-j-preserved : goal.loop-j-preserved
loop-j-preserved c =
    let n : length c.args.coefs ≡ 5 = c.well_formed.1.1.0.1.0.1 in
    let e : suc c.loop-j.j ≡ c.loop-j.j + 1 = omega arith in (
      omega arith,
      ap (λ (l : List Float). set l (c.args.at + c.loop-j.j) (get_or c.args.coefs c.loop-j.j nan)) c.loop-j.invariant.1
          ∙ sets_more c.args.coefs c.args.sos.now c.args.at c.loop-j.j nan (omega arith)
          ∙ ap (λ (k : ℕ). sets c.args.sos.now c.args.at (take k c.args.coefs)) e,
    )

pub shape_of-sos : goal.shape_of-sos
shape_of-sos c = ap length c.loop-j.invariant.1 ∙ length-sets c.args.sos.now c.args.at (take c.loop-j.j c.args.coefs)

pub returns : goal.returns
returns c =
    let n : length c.args.coefs ≡ 5 = c.well_formed.1.1.0.1.0.1 in
    let e : c.loop-j.j ≡ length c.args.coefs = omega arith in
    c.loop-j.invariant.1 ∙ ap (λ (k : ℕ). sets c.args.sos.now c.args.at (take k c.args.coefs)) e ∙ ap (sets c.args.sos.now c.args.at) (take_all c.args.coefs)
