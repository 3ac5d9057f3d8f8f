use Rattle.std.proofs.Common.{arith}
use Rattle.meta_rows.proofs.ChunkLemmas.{begins, first_empty}
use Rattle.meta_rows.proofs.chunk_list.ChunkList.begin.Goals as goal

pub returns-clause-opened : goal.returns-clause-opened
returns-clause-opened c = λ key. begins c.args.self.now _ c.in-Some.chunk key c.requires.chunked c.requires.none c.push_reserved.ensures.items c.in-Some.ensures.items
    c.push_reserved.ensures.len (omega (arith, c.in-Some.ensures.len)) c.push_reserved.ensures.capacity c.in-Some.ensures.capacity

pub returns-clause-empty : goal.returns-clause-empty
returns-clause-empty c = first_empty c.args.self.now _ c.pop.new.self.items c.in-Some.chunk c.requires.chunked c.requires.none c.push_reserved.ensures.items c.in-Some.ensures.items
