use Rattle.std.proofs.Common.{ap, ◌∙◌}
use Rattle.std.specs.FinMap as map
use Rattle.byte_maps.proofs.Prelude.{none_is_empty}
use Rattle.meta_rows.specs.Prelude.{joined}
use Rattle.meta_rows.proofs.row_table.RowTable.new.Goals as goal

pub returns : goal.returns
returns c = ap (λ chunks. map.from_sorted (joined chunks)) c.new.ensures.items ∙ none_is_empty
