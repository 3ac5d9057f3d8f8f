use Rattle.std.proofs.Common.{◌∙◌, ◌%◌, ap, sym, length, arith}
use Rattle.meta_rows.specs.Prelude.{list_size, joined}
use Rattle.meta_rows.proofs.ChunkLemmas.{has_room}
use Rattle.meta_rows.proofs.row_table.RowTable.reserve.Goals as goal

pub invariant_of-self-2 : goal.invariant_of-self-2
invariant_of-self-2 c = (
  c.in_ok-reserve.ensures.chunked,
  has_room c.args.ops c.spare_for.result c.len-chunks.result c.reserve.new.self c.in_ok-reserve.ensures.chunked.most
      (omega (arith, ap length c.in_ok-reserve.ensures.rows, c.self.inside.all.list.ok.0, c.len-chunks.ensures)) c.spare_for.ensures c.in_ok-reserve.ensures.ok,
  c.self.invariant.2 ∙ ap (λ chunks. list_size (joined chunks) % 18446744073709551616) (sym c.in_ok-reserve.ensures.rows),
)
