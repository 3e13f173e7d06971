-- `math_unity::near_one` meets its contract. Assumes nothing.
use Rattle.std.proofs.Common.{◌≡◌, ◌≤◌, ◌&&◌, length, refl, ◌∙◌, rules}
use Rattle.math_unity.specs.Digits.{pos_of, neg_of, near_run}
use Rattle.math_unity.specs.Run.{each_of}
use Rattle.math_unity.specs.UnityLaws.{both_sizes, rests_of, near_law}
use Rattle.math_unity.proofs.near_one.Goals as goal

pub cut_all-a-requires : goal.cut_all-a-requires
cut_all-a-requires c =
    let e : c.each.result ≡ each_of pos_of c.args.v = c.each.ensures pos_of (λ x y e. e) in
    (both_sizes c.args.v c.requires e refl).0

pub cut_all-b-requires : goal.cut_all-b-requires
cut_all-b-requires c =
    let e : c.each-2.result ≡ each_of neg_of c.args.v = c.each-2.ensures neg_of (λ x y e. e) in
    (both_sizes c.args.v c.requires refl e).1

pub invariant_of-upper : goal.invariant_of-upper
invariant_of-upper c =
    let e : c.each.result ≡ each_of pos_of c.args.v = c.each.ensures pos_of (λ x y e. e) in
    let g : c.each-2.result ≡ each_of neg_of c.args.v = c.each-2.ensures neg_of (λ x y e. e) in
    let s = both_sizes c.args.v c.requires e g in
    record { of_p = rests_of _ _ s.0 c.cut_all-a.ensures.rests; of_n = rests_of _ _ s.1 c.cut_all-b.ensures.rests }

pub returns : goal.returns
unfolding near_run
returns c =
    let l : length c.args.v ≤ 5 = search rules in
    let e : c.each.result ≡ each_of pos_of c.args.v = c.each.ensures pos_of (λ x y e. e) in
    let g : c.each-2.result ≡ each_of neg_of c.args.v = c.each-2.ensures neg_of (λ x y e. e) in
    let r : (c.no_more.result && c.no_more-2.result) ≡ near_run c.each.result c.each-2.result = rw (c.no_more.ensures, c.no_more-2.ensures, ← c.cut_all-a.ensures.sum, ← c.cut_all-b.ensures.sum, ← c.cut_all-a.ensures.rests, ← c.cut_all-b.ensures.rests) refl in
    r ∙ rw (e, g) (near_law c.args.v c.requires l)
