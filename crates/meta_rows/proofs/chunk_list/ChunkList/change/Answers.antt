use Rattle.std.proofs.Common.{◌∙◌, ◌%◌, List, [], length, ap, sym, subst, refl, arith}
use Rattle.std.proofs.lemmas.List.{get_or-set_same}
use Rattle.meta_rows.specs.Prelude.{list_size, IsMadeReady, joined, IsKeyPlace, Entry}
use Rattle.meta_rows.proofs.ChunkLemmas.{chunk_is, held_order, set_rows, grown, set_chunked, set_room, removed_rows, removed_chunked, removed_room, within}
use Rattle.meta_rows.proofs.chunk_list.ChunkList.change.Goals as goal

pub change-more-requires-clause-order : goal.change-more-requires-clause-order
change-more-requires-clause-order c =
    let o = subst (λ key. IsMadeReady key c.args.self.now c.open-at.new.self c.open-at.result.0) c.key.ensures c.open-at.ensures.opened in
    held_order c.args.op c.args.self.now c.open-at.new.self c.open-at.result.0 c.requires.chunked o c.index_mut.result.now c.index_mut.ensures.value

pub change-more-requires-clause-place : goal.change-more-requires-clause-place
change-more-requires-clause-place c =
    let place = c.open-at.result.1 in
    let held = c.index_mut.result.now in
    let b = c.open-at.ensures.opened.belongs in
    subst (λ key. IsKeyPlace key held place) c.key.ensures
    (subst (λ (es : List Entry). IsKeyPlace c.key.result.now es place) (chunk_is b [] ∙ sym (c.index_mut.ensures.value ∙ chunk_is b held)) c.open-at.ensures.place)

pub returns-then-is_empty-clause-rows : goal.returns-then-is_empty-clause-rows
returns-then-is_empty-clause-rows c =
    let o = subst (λ key. IsMadeReady key c.args.self.now c.open-at.new.self c.open-at.result.0) c.key.ensures c.open-at.ensures.opened in
    let none = sym (c.index.ensures ∙ get_or-set_same c.open-at.new.self.list.items c.open-at.result.0 c.change-more.new.self c.index.result.now (within o.belongs))
    ∙ c.is_empty.ensures.none c.if-is_empty.true in
    ap joined c.remove-chunk.ensures.items
    ∙ removed_rows c.args.op c.args.self.now c.open-at.new.self c.open-at.result.0 c.requires.chunked o c.index_mut.result.now c.index_mut.ensures.value
    c.change-more.new.self c.change-more.ensures.rows none

pub returns-then-is_empty-clause-chunked : goal.returns-then-is_empty-clause-chunked
returns-then-is_empty-clause-chunked c =
    let o = subst (λ key. IsMadeReady key c.args.self.now c.open-at.new.self c.open-at.result.0) c.key.ensures c.open-at.ensures.opened in
    let none = sym (c.index.ensures ∙ get_or-set_same c.open-at.new.self.list.items c.open-at.result.0 c.change-more.new.self c.index.result.now (within o.belongs))
    ∙ c.is_empty.ensures.none c.if-is_empty.true in
    removed_chunked c.args.op c.args.self.now c.open-at.new.self c.open-at.result.0 c.requires.chunked o c.index_mut.result.now c.index_mut.ensures.value
    c.change-more.new.self c.change-more.ensures.rows none _ c.remove-chunk.result c.remove-chunk.ensures.items c.remove-chunk.ensures.value
    c.push_reserved.ensures.items c.remove-chunk.ensures.len c.push_reserved.ensures.len c.remove-chunk.ensures.capacity c.push_reserved.ensures.capacity

pub returns-then-is_empty-clause-room : goal.returns-then-is_empty-clause-room
returns-then-is_empty-clause-room c =
    let o = subst (λ key. IsMadeReady key c.args.self.now c.open-at.new.self c.open-at.result.0) c.key.ensures c.open-at.ensures.opened in
    let none = sym (c.index.ensures ∙ get_or-set_same c.open-at.new.self.list.items c.open-at.result.0 c.change-more.new.self c.index.result.now (within o.belongs))
    ∙ c.is_empty.ensures.none c.if-is_empty.true in
    λ n room lt. rw c.remove-chunk.ensures.items (removed_room c.args.op c.args.self.now c.open-at.new.self c.open-at.result.0 c.requires.chunked o
    c.index_mut.result.now c.index_mut.ensures.value c.change-more.new.self c.change-more.ensures.rows none n _ room c.push_reserved.ensures.len lt)

pub returns-then-is_empty-clause-grows : goal.returns-then-is_empty-clause-grows
returns-then-is_empty-clause-grows c =
    let o = subst (λ key. IsMadeReady key c.args.self.now c.open-at.new.self c.open-at.result.0) c.key.ensures c.open-at.ensures.opened in
    grown c.args.op c.args.self.now c.open-at.new.self c.open-at.result.0 c.requires.chunked o c.index_mut.result.now c.index_mut.ensures.value
    c.change-more.new.self c.change-more.ensures.rows c.change-more.result c.change-more.ensures.grows
    ∙ ap (λ es. list_size es % 18446744073709551616) (sym (returns-then-is_empty-clause-rows c))

pub returns-clause-rows : goal.returns-clause-rows
returns-clause-rows c =
    let o = subst (λ key. IsMadeReady key c.args.self.now c.open-at.new.self c.open-at.result.0) c.key.ensures c.open-at.ensures.opened in
    set_rows c.args.op c.args.self.now c.open-at.new.self c.open-at.result.0 c.requires.chunked o c.index_mut.result.now c.index_mut.ensures.value
    c.change-more.new.self c.change-more.ensures.rows

pub returns-clause-chunked : goal.returns-clause-chunked
returns-clause-chunked c =
    let o = subst (λ key. IsMadeReady key c.args.self.now c.open-at.new.self c.open-at.result.0) c.key.ensures c.open-at.ensures.opened in
    let some = c.is_empty.ensures.some c.if-is_empty.false in
    let same = ap length (c.index.ensures ∙ get_or-set_same c.open-at.new.self.list.items c.open-at.result.0 c.change-more.new.self c.index.result.now (within o.belongs)) in
    set_chunked c.args.op c.args.self.now c.open-at.new.self c.open-at.result.0 c.requires.chunked o c.index_mut.result.now c.index_mut.ensures.value
    c.change-more.new.self c.change-more.ensures.rows _ refl refl refl refl refl refl (omega (arith, some, same))

pub returns-clause-room : goal.returns-clause-room
returns-clause-room c =
    let o = subst (λ key. IsMadeReady key c.args.self.now c.open-at.new.self c.open-at.result.0) c.key.ensures c.open-at.ensures.opened in
    set_room c.args.op c.args.self.now c.open-at.new.self c.open-at.result.0 c.requires.chunked o c.index_mut.result.now c.index_mut.ensures.value
    c.change-more.new.self c.change-more.ensures.rows

pub returns-clause-grows : goal.returns-clause-grows
returns-clause-grows c =
    let o = subst (λ key. IsMadeReady key c.args.self.now c.open-at.new.self c.open-at.result.0) c.key.ensures c.open-at.ensures.opened in
    grown c.args.op c.args.self.now c.open-at.new.self c.open-at.result.0 c.requires.chunked o c.index_mut.result.now c.index_mut.ensures.value
    c.change-more.new.self c.change-more.ensures.rows c.change-more.result c.change-more.ensures.grows
    ∙ ap (λ es. list_size es % 18446744073709551616) (sym (set_rows c.args.op c.args.self.now c.open-at.new.self c.open-at.result.0 c.requires.chunked o
    c.index_mut.result.now c.index_mut.ensures.value c.change-more.new.self c.change-more.ensures.rows))
