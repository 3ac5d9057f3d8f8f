use Rattle.std.proofs.Common.{◌∙◌, ◌%◌, ap, sym, arith}
use Rattle.meta_rows.specs.Prelude.{list_size, joined}
use Rattle.meta_rows.proofs.ChunkLemmas.{given_back, room_left}
use Rattle.meta_rows.proofs.row_table.RowTable.give_back.Goals as goal

pub invariant_of-self : goal.invariant_of-self
invariant_of-self c =
    let old = c.self.inside.all in
    let new = c.give_back.new.self in
    let most = c.saturating_add-most.result in (
      given_back old new c.self.invariant.0 c.give_back.ensures.list most c.give_back.ensures.items c.give_back.ensures.len c.give_back.ensures.places,
      room_left old new c.self.invariant.0 c.give_back.ensures.list most c.give_back.ensures.items c.give_back.ensures.len c.give_back.ensures.places
          c.self.inside.room c.spare_for.result c.len.result (omega (arith, c.saturating_add-most.ensures)) (omega (arith, old.list.ok.0, c.len.ensures)) c.spare_for.ensures c.self.invariant.1,
      c.self.invariant.2 ∙ ap (λ chunks. list_size (joined chunks) % 18446744073709551616) (sym (ap (λ l. l.items) c.give_back.ensures.list)),
    )
