use Rattle.std.proofs.Common.{refl, sym, subst, Bool, inl, inr, ◌∙◌, true, false}
use Rattle.block_device.specs.Prelude.{Reaped}
use Rattle.store_steps.specs.declared.step.Step.TheVariants.{Reap}
use Rattle.store_kernel.proofs.Keeping.{known_step}
use Rattle.store_kernel.proofs.Stages.{stage_ended}
use Rattle.store_kernel.proofs.Memories.{end_memory}
use Rattle.store_kernel.proofs.Ending.{it_counts, it_counts_not, was_flying, ended_for, can_count_done, piece_out, check_out, bad_takes, late_takes, good_takes, is_bad, is_good}
use Rattle.store_kernel.proofs.kernel.Kernel.take_end.Goals as goal

pub invariant_of-self : goal.invariant_of-self
invariant_of-self g c =
    let ready = rw (← c.self.view_is) at c.requires in
    known_step Reap _ _ _ _ _ _ _ _ c.self.invariant ready (inl (inr (c.in_default.ensures.none, refl))) c.reap.ensures.sound c.self.invariant.stage
    c.self.invariant.memory

pub invariant_of-self-then-not-done : goal.invariant_of-self-then-not-done
invariant_of-self-then-not-done g c =
    let k = c.self.inside in
    let ready = rw (← c.self.view_is) at c.requires in
    let bad = is_bad c.in-Some.done.ok c.if-not-done.true in
    let ended = subst (λ (ok : Bool). Reaped (g.D.Device.disk k.device) c.in-Some.done.ticket.place ok (g.D.Device.disk c.reap.new.self)) bad c.in-Some.ensures.done in
    let takes = bad_takes _ _ _ c.in-Some.done.ticket c.land-landed.new.flying.items c.or-self-inside.result c.land-landed.ensures.left c.or-self-inside.ensures ended in
    known_step Reap _ _ _ _ _ _ _ _ c.self.invariant ready (inr takes) c.reap.ensures.sound c.self.invariant.stage
    (c.self.invariant.memory ∙ sym (end_memory _ _ _ _ false takes))

pub count_end-requires-clause-given : goal.count_end-requires-clause-given
count_end-requires-clause-given g c =
    let k = c.self.inside in
    let counts = it_counts k.down c.land-landed.result c.in-Some-counting.job c.in-Some-counting.ensures in
    can_count_done _ _ c.in-Some.done.ticket c.in-Some-counting.job c.self.invariant.kept counts.0
    (ended_for _ _ _ c.in-Some.done.ticket c.in-Some.done.ok c.in-Some-counting.job c.self.invariant.kept c.in-Some.ensures.done
    (sym c.land-landed.ensures.job ∙ counts.1))

pub count_end-requires-clause-out : goal.count_end-requires-clause-out
count_end-requires-clause-out g c =
    let k = c.self.inside in
    let counts = it_counts k.down c.land-landed.result c.in-Some-counting.job c.in-Some-counting.ensures in
    piece_out _ _ c.in-Some.done.ticket c.in-Some-counting.job c.self.invariant.kept counts.0
    (ended_for _ _ _ c.in-Some.done.ticket c.in-Some.done.ok c.in-Some-counting.job c.self.invariant.kept c.in-Some.ensures.done
    (sym c.land-landed.ensures.job ∙ counts.1))

pub count_end-requires-clause-check_out : goal.count_end-requires-clause-check_out
count_end-requires-clause-check_out g c =
    let k = c.self.inside in
    let counts = it_counts k.down c.land-landed.result c.in-Some-counting.job c.in-Some-counting.ensures in
    check_out _ _ c.in-Some.done.ticket c.in-Some-counting.job c.self.invariant.kept counts.0
    (ended_for _ _ _ c.in-Some.done.ticket c.in-Some.done.ok c.in-Some-counting.job c.self.invariant.kept c.in-Some.ensures.done
    (sym c.land-landed.ensures.job ∙ counts.1))

pub invariant_of-self-in-Some-counting : goal.invariant_of-self-in-Some-counting
invariant_of-self-in-Some-counting g c =
    let k = c.self.inside in
    let ready = rw (← c.self.view_is) at c.requires in
    let good = is_good c.in-Some.done.ok c.if-not-done.false in
    let ended = subst (λ (ok : Bool). Reaped (g.D.Device.disk k.device) c.in-Some.done.ticket.place ok (g.D.Device.disk c.reap.new.self)) good c.in-Some.ensures.done in
    let counts = it_counts k.down c.land-landed.result c.in-Some-counting.job c.in-Some-counting.ensures in
    let takes = good_takes _ _ _ c.in-Some.done.ticket c.in-Some-counting.job k.batch c.land-landed.new.flying.items c.self.invariant.kept
    counts.0 refl c.land-landed.ensures.left (sym c.land-landed.ensures.job ∙ counts.1) ended in
    rw (c.count_end.ensures.contexts, c.count_end.ensures.batch, c.count_end.ensures.switching, c.count_end.ensures.meta)
    (known_step Reap _ _ _ _ _ _ _ _ c.self.invariant ready (inl (inl takes)) c.reap.ensures.sound
    (stage_ended c.in-Some-counting.job k.meta k.batch c.self.invariant.stage) (c.self.invariant.memory ∙ sym (end_memory _ _ _ _ true takes)))

pub invariant_of-self-in_default-counting : goal.invariant_of-self-in_default-counting
invariant_of-self-in_default-counting g c =
    let k = c.self.inside in
    let ready = rw (← c.self.view_is) at c.requires in
    let good = is_good c.in-Some.done.ok c.if-not-done.false in
    let ended = subst (λ (ok : Bool). Reaped (g.D.Device.disk k.device) c.in-Some.done.ticket.place ok (g.D.Device.disk c.reap.new.self)) good c.in-Some.ensures.done in
    let down = it_counts_not k.down c.land-landed.result c.in_default-counting.ensures
    (λ none. was_flying _ _ _ c.in-Some.done.ticket c.in-Some.done.ok c.self.invariant.kept c.in-Some.ensures.done (sym c.land-landed.ensures.job ∙ none)) in
    let takes = late_takes _ _ _ c.in-Some.done.ticket c.land-landed.new.flying.items c.land-landed.ensures.left down ended in
    known_step Reap _ _ _ _ _ _ _ _ c.self.invariant ready (inl (inl takes)) c.reap.ensures.sound c.self.invariant.stage
    (c.self.invariant.memory ∙ sym (end_memory _ _ _ _ true takes))

pub returns-in-Some-counting-clause-ok : goal.returns-in-Some-counting-clause-ok
returns-in-Some-counting-clause-ok g c =
    let k = c.self.inside in
    let good = is_good c.in-Some.done.ok c.if-not-done.false in
    let ended = subst (λ (ok : Bool). Reaped (g.D.Device.disk k.device) c.in-Some.done.ticket.place ok (g.D.Device.disk c.reap.new.self)) good c.in-Some.ensures.done in
    let counts = it_counts k.down c.land-landed.result c.in-Some-counting.job c.in-Some-counting.ensures in
    rw (c.count_end.ensures.contexts, c.count_end.ensures.batch, c.count_end.ensures.switching, c.count_end.ensures.meta, ← c.self.view_is)
    (inl (good_takes _ _ _ c.in-Some.done.ticket c.in-Some-counting.job k.batch c.land-landed.new.flying.items c.self.invariant.kept
    counts.0 refl c.land-landed.ensures.left (sym c.land-landed.ensures.job ∙ counts.1) ended))
