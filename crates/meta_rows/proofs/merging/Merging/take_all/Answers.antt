use Rattle.std.proofs.Common.{◌≡◌, ◌++◌, ◌∙◌, [], length, append-nil, ap, sym, subst, arith}
use Rattle.std.proofs.lemmas.List.{length-append, nil_from_length}
use Rattle.std.specs.List.{AllByRecursion}
use Rattle.std.specs.Vec.Iter.{into_iter_items}
use Rattle.std.specs.FinMap as map
use Rattle.byte_maps.specs.ByteMap.{byte_order}
use Rattle.meta_rows.specs.Prelude.{key_of, rows_after, joined, rows_of, Awaits, Goes, ops_left}
use Rattle.meta_rows.proofs.MergeLemmas.{IsInOrder, part_in_order, with_none, goes_both, goes_front}
use Rattle.meta_rows.proofs.merging.Merging.take_all.Goals as goal

pub take_chunk-requires-clause-order : goal.take_chunk-requires-clause-order
take_chunk-requires-clause-order c =
    let start = rows_of c.args.self.filling in
    let chunks = joined c.args.chunks.items in
    let now = rows_of c.loop-chunk.merging.filling in
    let first = with_none start chunks (subst (λ es. IsInOrder (es ++ chunks)) (sym c.requires.none) c.requires.order) in
    let all = c.loop-chunk.invariant.goes.order [] first in
    part_in_order now c.in-Some.chunk (joined (into_iter_items c.next.new.self)) (subst (λ l. IsInOrder (now ++ (l ++ []))) (ap joined c.in-Some.ensures.steps.0) all)

pub take_chunk-requires-clause-room : goal.take_chunk-requires-clause-room
take_chunk-requires-clause-room c =
    let room = c.loop-chunk.invariant.goes.room 1 c.requires.room in
    let long = ap (λ l. length (joined l)) c.in-Some.ensures.steps.0 in
    let both = length-append c.in-Some.chunk (joined (into_iter_items c.next.new.self)) in
    omega (arith, room, long, both)

pub loop-chunk-preserved : goal.loop-chunk-preserved
loop-chunk-preserved c =
    let s = c.in-Some.ensures.steps in
    let rest = joined (into_iter_items c.next.new.self) in
    let now = c.loop-chunk.merging in
    let new = c.take_chunk.new.self in
    record {
      can_next = tt;
      finite = tt;
      count = omega (arith, s.1, ap length s.0, c.loop-chunk.invariant.count);
      state = c.take_chunk.ensures.state;
      goes = goes_both (joined c.args.chunks.items) (joined (into_iter_items c.loop-chunk.chunk-iterator)) rest c.args.self now new c.loop-chunk.invariant.goes
          (subst (λ l. Goes l rest now new) (sym (ap joined s.0)) (goes_front c.in-Some.chunk rest now new c.take_chunk.ensures.goes));
    }

pub take_all-requires-clause-awaits : goal.take_all-requires-clause-awaits
take_all-requires-clause-awaits c = subst (λ ops. AllByRecursion (λ op. Awaits (key_of op) c.loop-chunk.merging.filling) ops) (sym c.reverse.ensures.items) c.loop-chunk.invariant.state.awaits

pub take_all-requires-clause-room : goal.take_all-requires-clause-room
take_all-requires-clause-room c =
    let room = c.loop-chunk.invariant.goes.room 1 c.requires.room in
    let long = ap length c.reverse.ensures.items in
    omega (arith, room, long)

pub returns-clause-rows : goal.returns-clause-rows
returns-clause-rows c =
    let start = c.args.self in
    let now = c.loop-chunk.merging in
    let chunks = joined c.args.chunks.items in
    let left = into_iter_items c.loop-chunk.chunk-iterator in
    let none : left ≡ [] = nil_from_length left (omega (arith, c.in-None.ensures.steps.0, c.loop-chunk.invariant.count)) in
    let first = with_none (rows_of start.filling) chunks (subst (λ es. IsInOrder (es ++ chunks)) (sym c.requires.none) c.requires.order) in
    c.take_all.ensures.rows
    ∙ ap (λ ops. rows_after (map.from_sorted {R = byte_order} (rows_of now.filling)) ops) c.reverse.ensures.items
    ∙ ap (λ es. rows_after (map.from_sorted {R = byte_order} es) (ops_left now)) (sym (ap (λ l. rows_of now.filling ++ (joined l ++ [])) none ∙ append-nil (rows_of now.filling)))
    ∙ c.loop-chunk.invariant.goes.rows [] first
    ∙ ap (λ es. rows_after (map.from_sorted {R = byte_order} es) (ops_left start)) (ap (λ es. es ++ (chunks ++ [])) c.requires.none ∙ append-nil chunks)
