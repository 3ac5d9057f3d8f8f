use Rattle.std.proofs.Common.{◌≡◌, ◌+◌, [], ◌∷◌, ◌++◌, None, Some, take, sym, ap, subst, ◌∙◌}
use Rattle.std.proofs.lemmas.Bool.Decides.{Decides-eqb}
use Rattle.std.proofs.lemmas.List.{take_more}
use Rattle.std.proofs.lemmas.Slice.Eq.{strip_prefix_is}
use Rattle.meta_rows.proofs.RangeLemmas.{left_more, left_none}
use Rattle.row_format.specs.Prelude.{onode_key}
use Rattle.onode_state.proofs.OnodeRows.{IsSeen, onwards, next_on, its_onode, its_shard, onode_seen, shard_seen, value_is_shard, value_is_onode, size_is_read, seen_past, seen_all, state_is}
use Rattle.onode_state.proofs.object.object_state.Goals as goal
use Rattle.onode_state.proofs.object.object_state.Goals.{in-None, in-Some+in-None-strip_prefix}

pub size_in-bytes-requires : goal.size_in-bytes-requires
size_in-bytes-requires c =
    let rows = c.args.rows.now.rows in
    let coll = c.args.coll.now in
    let object = c.args.object.now in
    let at = c.loop-key.invariant.at in
    let x = c.in-Some.field-0.now in
    let on = next_on c.args.width rows coll object c.onode_key.ensures.names.0 c.onode_key.ensures.names.1 c.requires at x c.next.new.self
    (sym c.loop-key.invariant.left ∙ c.in-Some.ensures.steps) in
    let fronted : x.0 ≡ onode_key coll object ++ c.in-Some-empty.field-0.now = sym c.as_slice-in-loop-key.ensures
    ∙ strip_prefix_is Decides-eqb c.as_slice-in-loop-key.result.now c.as_slice-in-loop-key-2.result.now (Some c.in-Some-empty.field-0) c.in-Some-empty.ensures.cases
    ∙ ap (λ k. k ++ c.in-Some-empty.field-0.now) (c.as_slice-in-loop-key-2.ensures ∙ c.in_ok-onode.ensures.key) in
    let key = its_onode c.args.width rows coll object c.onode_key.ensures.names.0 c.onode_key.ensures.names.1 c.requires x c.in-Some-empty.field-0.now c.in-Some-empty.len_below fronted in
    value_is_onode c.args.width rows coll object c.onode_key.ensures.names.0 c.onode_key.ensures.names.1 c.requires x c.as_slice-in-Some-empty.result.now on.0 key c.as_slice-in-Some-empty.ensures

pub loop-key-preserved-then-strip_prefix-lt1 : goal.loop-key-preserved-then-strip_prefix-lt1
loop-key-preserved-then-strip_prefix-lt1 c =
    let rows = c.args.rows.now.rows in
    let coll = c.args.coll.now in
    let object = c.args.object.now in
    let at = c.loop-key.invariant.at in
    let x = c.in-Some.field-0.now in
    let on = next_on c.args.width rows coll object c.onode_key.ensures.names.0 c.onode_key.ensures.names.1 c.requires at x c.next.new.self
    (sym c.loop-key.invariant.left ∙ c.in-Some.ensures.steps) in
    let fronted : x.0 ≡ onode_key coll object ++ c.in-Some-empty.field-0.now = sym c.as_slice-in-loop-key.ensures
    ∙ strip_prefix_is Decides-eqb c.as_slice-in-loop-key.result.now c.as_slice-in-loop-key-2.result.now (Some c.in-Some-empty.field-0) c.in-Some-empty.ensures.cases
    ∙ ap (λ k. k ++ c.in-Some-empty.field-0.now) (c.as_slice-in-loop-key-2.ensures ∙ c.in_ok-onode.ensures.key) in
    let key = its_onode c.args.width rows coll object c.onode_key.ensures.names.0 c.onode_key.ensures.names.1 c.requires x c.in-Some-empty.field-0.now c.in-Some-empty.len_below fronted in
    let more = left_more (onwards c.args.width rows coll object c.onode_key.ensures.names.0 c.onode_key.ensures.names.1 c.requires) at x c.next.new.self (sym c.loop-key.invariant.left ∙ c.in-Some.ensures.steps) in
    let taken : take (at + 1) (onwards c.args.width rows coll object c.onode_key.ensures.names.0 c.onode_key.ensures.names.1 c.requires) ≡ take at (onwards c.args.width rows coll object c.onode_key.ensures.names.0 c.onode_key.ensures.names.1 c.requires) ++ x ∷ [] =
    take_more (onwards c.args.width rows coll object c.onode_key.ensures.names.0 c.onode_key.ensures.names.1 c.requires) at x more.0 ∙ ap (λ y. take at (onwards c.args.width rows coll object c.onode_key.ensures.names.0 c.onode_key.ensures.names.1 c.requires) ++ y ∷ []) (sym more.1) in
    let size = size_is_read c.args.width rows coll object c.onode_key.ensures.names.0 c.onode_key.ensures.names.1 c.requires x c.as_slice-in-Some-empty.result.now c.size_in-bytes.result on.0 key c.as_slice-in-Some-empty.ensures c.size_in-bytes.ensures in
    record {
      can_next = tt;
      finite = tt;
      at = at + 1;
      left = more.2;
      seen = subst (λ es. IsSeen c.args.width rows coll object es (Some c.size_in-bytes.result) c.reserve.new.self.firsts.items c.reserve.new.self.pages) (sym taken)
          (subst (λ ps. IsSeen c.args.width rows coll object (take at (onwards c.args.width rows coll object c.onode_key.ensures.names.0 c.onode_key.ensures.names.1 c.requires) ++ x ∷ [])
          (Some c.size_in-bytes.result) c.reserve.new.self.firsts.items ps) (sym c.reserve.ensures.pages)
          (subst (λ fs. IsSeen c.args.width rows coll object (take at (onwards c.args.width rows coll object c.onode_key.ensures.names.0 c.onode_key.ensures.names.1 c.requires) ++ x ∷ [])
          (Some c.size_in-bytes.result) fs c.loop-key.shards.pages) (sym c.reserve.ensures.firsts)
          (onode_seen c.args.width rows coll object c.onode_key.ensures.names.0 c.onode_key.ensures.names.1 c.requires (take at (onwards c.args.width rows coll object c.onode_key.ensures.names.0 c.onode_key.ensures.names.1 c.requires)) x
          c.size_in-bytes.result c.loop-key.size c.loop-key.shards.firsts.items c.loop-key.shards.pages key size c.loop-key.invariant.seen)));
    }

pub add-requires : goal.add-requires
add-requires c =
    let rows = c.args.rows.now.rows in
    let coll = c.args.coll.now in
    let object = c.args.object.now in
    let at = c.loop-key.invariant.at in
    let x = c.in-Some.field-0.now in
    let on = next_on c.args.width rows coll object c.onode_key.ensures.names.0 c.onode_key.ensures.names.1 c.requires at x c.next.new.self
    (sym c.loop-key.invariant.left ∙ c.in-Some.ensures.steps) in
    let fronted : x.0 ≡ onode_key coll object ++ c.in-Some-strip_prefix.field-0.now = sym c.as_slice-in-loop-key.ensures
    ∙ strip_prefix_is Decides-eqb c.as_slice-in-loop-key.result.now c.as_slice-in-loop-key-2.result.now (Some c.in-Some-strip_prefix.field-0) c.in-Some-strip_prefix.ensures.cases
    ∙ ap (λ k. k ++ c.in-Some-strip_prefix.field-0.now) (c.as_slice-in-loop-key-2.ensures ∙ c.in_ok-onode.ensures.key) in
    let its = its_shard c.args.width rows coll object c.onode_key.ensures.names.0 c.onode_key.ensures.names.1 c.requires x c.in-Some-strip_prefix.field-0.now on.0 c.in-Some-strip_prefix.len_at_least fronted in
    value_is_shard c.args.width rows coll object c.onode_key.ensures.names.0 c.onode_key.ensures.names.1 c.requires x c.as_slice-in-Some-strip_prefix.result.now on.0 its c.as_slice-in-Some-strip_prefix.ensures

pub loop-key-preserved : goal.loop-key-preserved
loop-key-preserved c =
    let rows = c.args.rows.now.rows in
    let coll = c.args.coll.now in
    let object = c.args.object.now in
    let at = c.loop-key.invariant.at in
    let x = c.in-Some.field-0.now in
    let on = next_on c.args.width rows coll object c.onode_key.ensures.names.0 c.onode_key.ensures.names.1 c.requires at x c.next.new.self
    (sym c.loop-key.invariant.left ∙ c.in-Some.ensures.steps) in
    let fronted : x.0 ≡ onode_key coll object ++ c.in-Some-strip_prefix.field-0.now = sym c.as_slice-in-loop-key.ensures
    ∙ strip_prefix_is Decides-eqb c.as_slice-in-loop-key.result.now c.as_slice-in-loop-key-2.result.now (Some c.in-Some-strip_prefix.field-0) c.in-Some-strip_prefix.ensures.cases
    ∙ ap (λ k. k ++ c.in-Some-strip_prefix.field-0.now) (c.as_slice-in-loop-key-2.ensures ∙ c.in_ok-onode.ensures.key) in
    let its = its_shard c.args.width rows coll object c.onode_key.ensures.names.0 c.onode_key.ensures.names.1 c.requires x c.in-Some-strip_prefix.field-0.now on.0 c.in-Some-strip_prefix.len_at_least fronted in
    let more = left_more (onwards c.args.width rows coll object c.onode_key.ensures.names.0 c.onode_key.ensures.names.1 c.requires) at x c.next.new.self (sym c.loop-key.invariant.left ∙ c.in-Some.ensures.steps) in
    let taken : take (at + 1) (onwards c.args.width rows coll object c.onode_key.ensures.names.0 c.onode_key.ensures.names.1 c.requires) ≡ take at (onwards c.args.width rows coll object c.onode_key.ensures.names.0 c.onode_key.ensures.names.1 c.requires) ++ x ∷ [] =
    take_more (onwards c.args.width rows coll object c.onode_key.ensures.names.0 c.onode_key.ensures.names.1 c.requires) at x more.0 ∙ ap (λ y. take at (onwards c.args.width rows coll object c.onode_key.ensures.names.0 c.onode_key.ensures.names.1 c.requires) ++ y ∷ []) (sym more.1) in
    record {
      can_next = tt;
      finite = tt;
      at = at + 1;
      left = more.2;
      seen = subst (λ es. IsSeen c.args.width rows coll object es c.loop-key.size c.add.new.self.firsts.items c.add.new.self.pages) (sym taken)
          (shard_seen c.args.width rows coll object c.onode_key.ensures.names.0 c.onode_key.ensures.names.1 c.requires (take at (onwards c.args.width rows coll object c.onode_key.ensures.names.0 c.onode_key.ensures.names.1 c.requires)) x
          c.as_slice-in-Some-strip_prefix.result.now c.loop-key.size c.loop-key.shards.firsts.items c.add.new.self.firsts.items
          c.loop-key.shards.pages c.add.new.self.pages its c.as_slice-in-Some-strip_prefix.ensures c.in_ok-add-in-Some-strip_prefix.ensures
          c.loop-key.invariant.seen);
    }

pub returns : goal.returns
returns c =
    let rows = c.args.rows.now.rows in
    let coll = c.args.coll.now in
    let object = c.args.object.now in
    let at = c.loop-key.invariant.at in
    let size = c.loop-key.size in
    let firsts = c.loop-key.shards.firsts.items in
    let pages = c.loop-key.shards.pages in
    let seen : IsSeen c.args.width rows coll object (onwards c.args.width rows coll object c.onode_key.ensures.names.0 c.onode_key.ensures.names.1 c.requires) size firsts pages = elim c.match-next.branch [
      | in-None w ↦ seen_all c.args.width rows coll object c.onode_key.ensures.names.0 c.onode_key.ensures.names.1 c.requires at size firsts pages
          (left_none (onwards c.args.width rows coll object c.onode_key.ensures.names.0 c.onode_key.ensures.names.1 c.requires) at (sym c.loop-key.invariant.left ∙ w.in-None.ensures.steps.0)) c.loop-key.invariant.seen
      | in-Some+in-None-strip_prefix w ↦
          let apart = strip_prefix_is Decides-eqb w.as_slice-in-loop-key.result.now w.as_slice-in-loop-key-2.result.now None w.in-None-strip_prefix.ensures.cases in
          let whole = w.as_slice-in-loop-key-2.ensures ∙ c.in_ok-onode.ensures.key in
          seen_past c.args.width rows coll object c.onode_key.ensures.names.0 c.onode_key.ensures.names.1 c.requires at
          w.in-Some.field-0.now c.next.new.self size firsts pages (sym c.loop-key.invariant.left ∙ w.in-Some.ensures.steps)
          (λ rest is. apart rest (w.as_slice-in-loop-key.ensures ∙ is ∙ ap (λ k. k ++ rest) (sym whole))) c.loop-key.invariant.seen
    ] in
    state_is c.args.width rows coll object c.onode_key.ensures.names.0 c.onode_key.ensures.names.1 c.requires size firsts pages seen
