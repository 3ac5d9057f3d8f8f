use Rattle.store_kernel.proofs.Reading.{readable}
use Rattle.store_kernel.proofs.kernel.Kernel.answered.Goals as goal

pub answer-requires : goal.answer-requires
answer-requires g c =
    let can = rw (← c.self.view_is) at c.requires.can_note in
    record { readable = rw (c.width-width.ensures) (readable _ _ _ c.self.invariant.kept can.up c.self.invariant.memory) }

pub returns-clause-fault : goal.returns-clause-fault
returns-clause-fault g c is =
    let needs = c.answer.ensures.fault is in
    rw (← c.self.view_is) (rw (c.width-width.ensures, c.self.invariant.memory) at needs)
