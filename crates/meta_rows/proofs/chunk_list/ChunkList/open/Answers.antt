use Rattle.std.proofs.Common.{◌∙◌, List, [], length, get_or, ap, subst, arith}
use Rattle.meta_rows.specs.Prelude.{BelongsIn, IsKeyPlace, Entry}
use Rattle.meta_rows.proofs.ChunkLemmas.{chunk_is, open_as_is, place_of_none}
use Rattle.meta_rows.proofs.chunk_list.ChunkList.open.Goals as goal

pub returns-then-is_empty-clause-opened : goal.returns-then-is_empty-clause-opened
returns-then-is_empty-clause-opened c = c.begin.ensures.opened c.args.key.now

pub returns-then-is_empty-clause-place : goal.returns-then-is_empty-clause-place
returns-then-is_empty-clause-place c = place_of_none c.args.key.now _ c.begin.ensures.empty

pub returns-then-not-is_full-clause-opened : goal.returns-then-not-is_full-clause-opened
returns-then-not-is_full-clause-opened c =
    let at = c.place_in-at.result.0 in
    let b = subst (λ chunks. BelongsIn c.args.key.now chunks at) c.as_slice-2.ensures.value c.place_in-at.ensures.belongs in
    let short = c.is_full.ensures.short c.if-not-is_full.true in
    let here = ap length (c.index.ensures ∙ chunk_is b c.index.result.now) in
    open_as_is c.args.key.now c.args.self.now at c.requires.chunked b (omega (arith, short, here))

pub returns-then-not-is_full-clause-place : goal.returns-then-not-is_full-clause-place
returns-then-not-is_full-clause-place c =
    subst (λ (chunks : List (List Entry)). IsKeyPlace c.args.key.now (get_or chunks c.place_in-at.result.0 []) c.place_in-at.result.1) c.as_slice-2.ensures.value c.place_in-at.ensures.place

pub returns-clause-opened : goal.returns-clause-opened
returns-clause-opened c = c.open_part-part.ensures
