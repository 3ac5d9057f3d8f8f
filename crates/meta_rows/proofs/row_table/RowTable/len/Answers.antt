use Rattle.std.proofs.Common.{◌≡◌, ◌∙◌, length, ap, sym, arith}
use Rattle.std.specs.FinMap as map
use Rattle.std.specs.FinMap.{entries-from_sorted}
use Rattle.byte_maps.specs.ByteMap.{byte_order}
use Rattle.meta_rows.specs.Prelude.{joined, row_sets, sets_of}
use Rattle.meta_rows.proofs.RowLemmas.{rows_size_is}
use Rattle.meta_rows.proofs.SetLemmas.{rows_fewer, sets_count}
use Rattle.meta_rows.proofs.row_table.RowTable.len.Goals as goal

pub returns : goal.returns
returns c =
    let rows = c.args.self.now.rows in
    let es = joined c.self.inside.all.list.items in
    let is = ap (λ t. t.rows) c.self.view_is in
    let order = c.self.invariant.0.order in
    let size = rows_size_is rows es order is in
    let here = ap joined c.as_slice.ensures.value in
    let count : length (row_sets rows) ≡ length es =
    ap (λ m. length (sets_of (map.entries m))) (sym is) ∙ ap (λ l. length (sets_of l)) (entries-from_sorted byte_order es order) ∙ sets_count es in
    c.rows_in.ensures (omega (arith, c.requires, size, rows_fewer es, ap length here)) ∙ ap length here ∙ sym count
