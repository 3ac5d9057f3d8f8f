use Rattle.std.proofs.Common.{◌≡◌, ap, sym, ◌∙◌, length, arith}
use Rattle.std.proofs.lemmas.Bool.Decides.{nat_tests}
use Rattle.std.proofs.lemmas.List.{nil_from_length}
use Rattle.std.specs.FinMap as map
use Rattle.std.specs.FinMap.{entries-from_sorted, len-entries}
use Rattle.byte_maps.specs.ByteMap.{byte_order}
use Rattle.meta_rows.specs.Prelude.{joined}
use Rattle.meta_rows.proofs.TableLemmas.{joined_some}
use Rattle.meta_rows.proofs.row_table.RowTable.is_empty.Goals as goal

pub returns : goal.returns
returns c =
    let chunks = c.self.inside.all.list.items in
    let same = ap length c.as_slice.ensures.value in
    let count = sym (len-entries _ ∙ ap length (entries-from_sorted byte_order (joined chunks) c.self.invariant.0.order)) ∙ ap (λ t. map.len t.rows) c.self.view_is in (
      λ is. map.empty_of_len c.args.self.now.rows (
          let none : length c.as_slice.result.now ≡ 0 = grind (arith, nat_tests) in
          sym count ∙ ap (λ l. length (joined l)) (nil_from_length chunks (sym same ∙ none))),
      λ is. let none : length chunks ≡ 0 = joined_some chunks c.self.invariant.0.some (count ∙ ap (λ m. map.len m) is ∙ map.len-empty byte_order _) in
          let held : length c.as_slice.result.now ≡ 0 = same ∙ none in grind (arith, nat_tests),
    )
