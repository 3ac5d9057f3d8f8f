use Rattle.std.proofs.Common.{ap, sym, ◌∙◌}
use Rattle.std.specs.FinMap as map
use Rattle.std.specs.FinMap.{get-from_sorted}
use Rattle.byte_maps.specs.ByteMap.{byte_order}
use Rattle.meta_rows.specs.Prelude.{joined}
use Rattle.meta_rows.proofs.row_table.RowTable.get.Goals as goal

pub returns : goal.returns
returns c =
    c.get.ensures
    ∙ sym (get-from_sorted byte_order (joined c.self.inside.all.list.items) c.args.key.now c.self.invariant.0.order)
    ∙ ap (λ t. map.get t.rows c.args.key.now) c.self.view_is
