use Rattle.std.proofs.Common.{◌≡◌, ◌∙◌, [], length, ap, sym, arith}
use Rattle.std.proofs.lemmas.Bool.Decides.{nat_tests}
use Rattle.std.proofs.lemmas.List.{nil_from_length}
use Rattle.meta_rows.specs.Prelude.{joined}
use Rattle.meta_rows.proofs.RangeLemmas.{range_rows}
use Rattle.meta_rows.proofs.TableLemmas.{ends_at_none}
use Rattle.meta_rows.proofs.row_table.RowTable.range.Goals as goal

pub returns-then-is_empty : goal.returns-then-is_empty
returns-then-is_empty c =
    let chunks = c.self.inside.all.list.items in
    let few : length c.as_slice-chunks.result.now ≡ 0 = grind (arith, nat_tests) in
    let none = nil_from_length chunks (sym (ap length c.as_slice-chunks.ensures.value) ∙ few) in
    c.new.ensures
    ∙ sym (range_rows c.args.self.now.rows (joined chunks) [] c.args.first.now _ 0 0 c.self.invariant.0.order (ap (λ t. t.rows) c.self.view_is)
    (sym (ap joined none)) (omega arith, tt, tt) (ends_at_none _))

pub returns : goal.returns
returns c =
    c.between.ensures
    ∙ sym (range_rows c.args.self.now.rows (joined c.self.inside.all.list.items) (joined c.as_slice-chunks.result.now) c.args.first.now _ _ _ c.self.invariant.0.order
    (ap (λ t. t.rows) c.self.view_is) (ap joined c.as_slice-chunks.ensures.value) c.begin_of-from.ensures.begins c.end_from.ensures.ends)
