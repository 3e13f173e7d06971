-- The kind's text ends where the first space stands, or with the line.
use Rattle.std.proofs.Common.{rules, ◌≡◌, ◌-◌, ◌≤◌, length, take, ◌==◌, List, ℕ, Bool, true, false, cond, nat_lt, Some, None, refl, ◌∙◌, ap, arith, ltb-false}
use Rattle.std.specs.List.{position_or_len}
use Rattle.std.specs.Option.{unwrap_or}
use Rattle.std.specs.Str.Parse.{digits_value}
use borrow.Author.Tests.{tests}
use Rattle.std.proofs.lemmas.List.Sums.{prefix_len-le-length}
use Rattle.std.proofs.lemmas.Iterator.{YieldsList-from_slice}
use Rattle.std.proofs.lemmas.Iterator.Search.{position_from_yields_List}
use Rattle.replay_lines.proofs.line.take_apart.Goals as goal

-- where none passes, the place is the end
at_end : (p n : ℕ) → p ≤ n → unwrap_or (cond (nat_lt p n) (Some p) None) n ≡ p
at_end p n h = by (nat_lt p n) refl where
  by : (b : Bool) → nat_lt p n ≡ b → unwrap_or (cond b (Some p) None) n ≡ p
  by true t = refl
  by false t = omega (arith, ltb-false p n t)

pub returns-clause-number : goal.returns-clause-number
returns-clause-number c =
    let line : List ℕ = take (length c.args.text.now - 1) c.args.text.now in
    let found = position_from_yields_List (λ b. b == 32) _ _ c.position.result c.position.ensures.ran (YieldsList-from_slice line cc) (λ x b q k. search (rules, tests)) in
    let end : c.unwrap_or-end.result ≡ position_or_len (λ b. b == 32) line = c.unwrap_or-end.ensures ∙ ap (λ r. unwrap_or r (length line)) found ∙ at_end _ _ (prefix_len-le-length _ line) in
    c.in_ok-read_kind.ensures.value ∙ ap (digits_value 10) (c.split_at.ensures.front ∙ ap (λ n. take n line) end)
