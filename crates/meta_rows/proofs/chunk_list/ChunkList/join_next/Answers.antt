use Rattle.std.proofs.Common.{◌∙◌, get_or, set, ap, arith}
use Rattle.meta_rows.proofs.ChunkLemmas.{joins}
use Rattle.meta_rows.proofs.chunk_list.ChunkList.join_next.Goals as goal

pub returns : goal.returns
returns c =
    let at = c.args.at in
    joins c.args.self.now _ at c.requires.chunked (omega (arith, c.requires.place, c.args.self.now.list.ok.0)) c.requires.few c.index_mut.result.now c.remove-behind.result
    c.take_from.new.self c.take_from.new.behind c.remove-behind.ensures.value
    (c.index_mut.ensures.value ∙ ap (λ l. get_or l at c.index_mut.result.now) c.remove-behind.ensures.items)
    c.take_from.ensures.rows
    (ap (λ l. set l at c.take_from.new.self) c.remove-behind.ensures.items)
    c.take_from.ensures.none c.push_reserved.ensures.items c.remove-behind.ensures.len c.push_reserved.ensures.len c.remove-behind.ensures.capacity c.push_reserved.ensures.capacity
