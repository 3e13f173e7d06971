-- `ticket_record::put_record` meets its contract: one number behind the other, by how many fields there are. Assumes
-- nothing.
use Rattle.std.proofs.Common.{rules, ◌≡◌, ◌∙◌, ap, ℕ, ◌≤◌, List, [], ◌∷◌, length, take, arith}
use Rattle.wire.specs.Bytes.{put_of}
use Rattle.ticket_kinds.specs.declared.numbers.Numbers.{Numbers}
use Rattle.ticket_kinds.specs.Kinds.{kind_number, field_count}
use Rattle.ticket_kinds.specs.KindsLaws.{least_fields, most_fields, never_four}
use Rattle.ticket_record.specs.Record.{record_bytes, field_list}
use Rattle.ticket_record.specs.Stores.{RecordFront, no_fields, one_field, all_fields}
use Rattle.ticket_record.proofs.put_record.Goals as goal

-- the first two fields, which every kind has
two_fields : {d a b x y : List ℕ} (n : Numbers) (m : ℕ) → 22 ≤ length d → a ≡ put_of 4 d 0 m → b ≡ put_of 2 a 4 n.kind → x ≡ put_of 8 b 6 n.first → y ≡ put_of 8 x 14 n.second → RecordFront d m n.kind (n.first ∷ n.second ∷ []) 22 y
two_fields n m h p q r s = one_field (one_field (no_fields m n.kind (omega arith) p q) n.first (omega arith) r) n.second (omega arith) s

pub returns-then-count-eq2 : goal.returns-then-count-eq2
returns-then-count-eq2 c =
    let n = c.args.n in
    let two : 2 ≡ field_count (kind_number c.args.kind) = search rules in
    let f = two_fields n _ (omega arith) c.put.ensures c.put-2.ensures c.put-3.ensures c.put-4.ensures in
    all_fields f (omega arith) (omega arith) ∙ ap (λ (j : ℕ). record_bytes n.kind (take j (field_list n))) two

pub returns-then-count-eq3 : goal.returns-then-count-eq3
returns-then-count-eq3 c =
    let n = c.args.n in
    let three : 3 ≡ field_count (kind_number c.args.kind) = search rules in
    let f = two_fields n _ (omega arith) c.put.ensures c.put-2.ensures c.put-3.ensures c.put-4.ensures in
    let g = one_field f n.third (omega arith) c.put-5.ensures in
    all_fields g (omega arith) (omega arith) ∙ ap (λ (j : ℕ). record_bytes n.kind (take j (field_list n))) three

pub returns : goal.returns
returns c =
    let n = c.args.n in
    let k = c.args.kind in
    let count = c.fields-count.ensures in
    let five : 5 ≡ field_count (kind_number k) = omega (arith, count, least_fields k, most_fields k, never_four k) in
    let f = two_fields n _ (omega arith) c.put.ensures c.put-2.ensures c.put-3.ensures c.put-4.ensures in
    let g = one_field (one_field f n.third (omega arith) c.put-5.ensures) n.fourth (omega arith) c.put-6.ensures in
    all_fields (one_field g n.fifth (omega arith) c.put-7.ensures) (omega arith) (omega arith) ∙ ap (λ (j : ℕ). record_bytes n.kind (take j (field_list n))) five
