use Rattle.std.proofs.Common.{◌∙◌, ◌%◌, ap, sym}
use Rattle.meta_rows.specs.Prelude.{list_size}
use Rattle.meta_rows.proofs.chunk_list.ChunkList.apply_one.Goals as goal

pub returns-clause-rows : goal.returns-clause-rows
returns-clause-rows c = c.join_around.ensures.rows ∙ c.change-more.ensures.rows

pub returns-clause-chunked : goal.returns-clause-chunked
returns-clause-chunked c = c.join_around.ensures.chunked

pub returns-clause-room : goal.returns-clause-room
returns-clause-room c = λ n room. c.join_around.ensures.room n (c.change-more.ensures.room n room)

pub returns-clause-grows : goal.returns-clause-grows
returns-clause-grows c = c.change-more.ensures.grows ∙ ap (λ es. list_size es % 18446744073709551616) (sym c.join_around.ensures.rows)
