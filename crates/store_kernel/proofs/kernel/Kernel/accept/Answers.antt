use Rattle.std.proofs.Common.{◌≡◌, List, length, map, refl, ap, sym, ◌∙◌, rules}
use Rattle.plan_rows.specs.declared.plan.FreshUnit.{FreshUnit}
use Rattle.store_steps.specs.declared.context.Context.{Context}
use Rattle.unit_allocator.specs.Prelude.{taken}
use Rattle.write_buffers.specs.Prelude.{memory_in}
use Rattle.run_facts.proofs.SwitchFootprints.{check_fits}
use Rattle.store_kernel.proofs.Keeping.{known_accept, known_same}
use Rattle.store_kernel.proofs.Memories.{accept_memory}
use Rattle.store_kernel.proofs.Admitting.{planned_keeps, fresh_is_free, fresh_are_few, fresh_absent, found_added, added_is_found, accepted_state, accepted}
use Rattle.store_kernel.proofs.kernel.Kernel.accept.Goals as goal

pub split-context-requires : goal.split-context-requires
split-context-requires g c =
    let can = rw (← c.self.view_is) at c.requires.can_note in
    let prepared = rw (← c.self.view_is) at c.requires.prepared in
    fresh_are_few _ _ c.args.txn c.args.ready.plan c.self.invariant.kept can c.requires.known prepared.plan

pub enter-requires-clause-absent : goal.enter-requires-clause-absent
enter-requires-clause-absent g c =
    let can = rw (← c.self.view_is) at c.requires.can_note in
    let prepared = rw (← c.self.view_is) at c.requires.prepared in
    rw c.split-context.ensures.context
    (fresh_absent _ _ c.args.txn c.args.ready.plan _ c.self.invariant.kept can c.requires.known prepared.plan c.self.invariant.memory)

pub enter-requires-clause-ascend : goal.enter-requires-clause-ascend
enter-requires-clause-ascend g c =
    let can = rw (← c.self.view_is) at c.requires.can_note in
    let prepared = rw (← c.self.view_is) at c.requires.prepared in
    rw c.split-context.ensures.context
    (planned_keeps _ _ c.args.txn c.args.ready.plan c.self.invariant.kept can c.requires.known prepared.plan).ascend

pub reserve-requires-2 : goal.reserve-requires-2
reserve-requires-2 g c =
    let can = rw (← c.self.view_is) at c.requires.can_note in
    check_fits _ _ c.self.invariant.kept can.up

pub unreachable-requires-in_default-get : goal.unreachable-requires-in_default-get
unreachable-requires-in_default-get g c =
    let can = rw (← c.self.view_is) at c.requires.can_note in
    let place : c.len-place.result ≡ c.split-context.result.0.place = sym (ap (λ (x : Context). x.place) c.split-context.ensures.context) in
    let entry : c.len-place.result ≡ length c.self.inside.entries.items = search rules in
    added_is_found _ _ c.enter.new.contexts c.split-context.result.0 c.len-place.result c.self.invariant.kept can entry place c.in-Ok.ensures.waits
    c.in_default-get.ensures

pub take_fresh-requires-clause-ascend : goal.take_fresh-requires-clause-ascend
take_fresh-requires-clause-ascend g c =
    let can = rw (← c.self.view_is) at c.requires.can_note in
    let prepared = rw (← c.self.view_is) at c.requires.prepared in
    let place : c.len-place.result ≡ c.split-context.result.0.place = sym (ap (λ (x : Context). x.place) c.split-context.ensures.context) in
    let entry : c.len-place.result ≡ length c.self.inside.entries.items = search rules in
    let added : c.in-Some.added.now ≡ c.split-context.result.0 =
    found_added _ _ c.enter.new.contexts c.split-context.result.0 c.in-Some.added.now c.len-place.result c.self.invariant.kept can entry place c.in-Ok.ensures.waits
    c.in-Some.ensures in
    rw (c.fresh.ensures, added, c.split-context.ensures.context)
    (planned_keeps _ _ c.args.txn c.args.ready.plan c.self.invariant.kept can c.requires.known prepared.plan).ascend

pub take_fresh-requires-clause-free : goal.take_fresh-requires-clause-free
take_fresh-requires-clause-free g c =
    let can = rw (← c.self.view_is) at c.requires.can_note in
    let prepared = rw (← c.self.view_is) at c.requires.prepared in
    let place : c.len-place.result ≡ c.split-context.result.0.place = sym (ap (λ (x : Context). x.place) c.split-context.ensures.context) in
    let entry : c.len-place.result ≡ length c.self.inside.entries.items = search rules in
    let added : c.in-Some.added.now ≡ c.split-context.result.0 =
    found_added _ _ c.enter.new.contexts c.split-context.result.0 c.in-Some.added.now c.len-place.result c.self.invariant.kept can entry place c.in-Ok.ensures.waits
    c.in-Some.ensures in
    rw (c.fresh.ensures, added, c.split-context.ensures.context) (fresh_is_free _ _ c.args.txn c.args.ready.plan c.self.invariant.kept can c.requires.known prepared.plan)

pub invariant_of-self-in_default : goal.invariant_of-self-in_default
invariant_of-self-in_default g c =
    rw (c.in_default.ensures.same, c.reserve-else-is_err.ensures.rows, c.reserve.ensures.items)
    (known_same _ _ _ _ _ c.self.invariant c.in_default.ensures.err)

pub invariant_of-self-2 : goal.invariant_of-self-2
invariant_of-self-2 g c =
    let k = c.self.inside in
    let can = rw (← c.self.view_is) at c.requires.can_note in
    let prepared = rw (← c.self.view_is) at c.requires.prepared in
    let x = c.split-context.result.0 in
    let place : c.len-place.result ≡ x.place = sym (ap (λ (y : Context). y.place) c.split-context.ensures.context) in
    let entry : c.len-place.result ≡ length c.self.inside.entries.items = cc in
    let added : c.in-Some.added.now ≡ x =
    found_added _ _ c.enter.new.contexts x c.in-Some.added.now c.len-place.result c.self.invariant.kept can entry place c.in-Ok.ensures.waits c.in-Some.ensures in
    let space = c.take_fresh.ensures ∙ ap (λ (fs : List FreshUnit). taken k.space (map (λ (f : FreshUnit). f.unit) fs)) (c.fresh.ensures ∙ ap (λ (y : Context). y.fresh) added) in
    let fresh = ap (λ (y : Context). y.fresh) c.split-context.ensures.context in
    let is = accepted_state k.meta k.submitted.rows k.contexts k.batch k.switching k.flying.items k.down k.events k.space k.entries.items k.commits.items k.acked k.next_sbid
    c.args.client c.args.line c.args.txn c.args.ready (g.D.Device.disk k.device) c.reserve-2.new.self c.apply.new.self.rows c.enter.new.contexts x c.len-place.result c.take_fresh.new.space
    c.push_reserved.new.self.items can prepared c.in-Ok-reserve.ensures.set_aside (cc) c.in-Ok.ensures.waits c.split-context.ensures.context entry space _ refl (cc) in
    known_accept _ _ _ _ _ _ c.args.client c.args.line c.args.txn c.self.invariant c.requires.known
    (accepted k.meta k.submitted.rows k.contexts k.batch k.switching k.flying.items k.down k.events k.space k.entries.items k.commits.items k.acked k.next_sbid
    c.args.client c.args.line c.args.txn c.args.ready (g.D.Device.disk k.device) c.reserve-2.new.self c.apply.new.self.rows c.enter.new.contexts x c.len-place.result c.take_fresh.new.space
    c.push_reserved.new.self.items can prepared c.in-Ok-reserve.ensures.set_aside (cc) c.in-Ok.ensures.waits c.split-context.ensures.context entry space _ refl (cc))
    (accept_memory _ _ c.args.client c.args.line c.args.txn c.args.ready.plan x (memory_in k.buffers) (memory_in c.enter.new.buffers) is fresh
    c.self.invariant.memory c.in-Ok.ensures.found)

pub returns-clause-accepted : goal.returns-clause-accepted
returns-clause-accepted g c =
    let k = c.self.inside in
    let can = rw (← c.self.view_is) at c.requires.can_note in
    let prepared = rw (← c.self.view_is) at c.requires.prepared in
    let x = c.split-context.result.0 in
    let place : c.len-place.result ≡ x.place = sym (ap (λ (y : Context). y.place) c.split-context.ensures.context) in
    let entry : c.len-place.result ≡ length c.self.inside.entries.items = cc in
    let added : c.in-Some.added.now ≡ x =
    found_added _ _ c.enter.new.contexts x c.in-Some.added.now c.len-place.result c.self.invariant.kept can entry place c.in-Ok.ensures.waits c.in-Some.ensures in
    let space = c.take_fresh.ensures ∙ ap (λ (fs : List FreshUnit). taken k.space (map (λ (f : FreshUnit). f.unit) fs)) (c.fresh.ensures ∙ ap (λ (y : Context). y.fresh) added) in
    rw (← c.self.view_is)
    (accepted k.meta k.submitted.rows k.contexts k.batch k.switching k.flying.items k.down k.events k.space k.entries.items k.commits.items k.acked k.next_sbid
    c.args.client c.args.line c.args.txn c.args.ready (g.D.Device.disk k.device) c.reserve-2.new.self c.apply.new.self.rows c.enter.new.contexts x c.len-place.result c.take_fresh.new.space
    c.push_reserved.new.self.items can prepared c.in-Ok-reserve.ensures.set_aside (cc) c.in-Ok.ensures.waits c.split-context.ensures.context entry space _ refl (cc))
