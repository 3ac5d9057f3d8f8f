use Rattle.std.proofs.Common.{refl}
use Rattle.store_kernel.proofs.Keeping.{known_refuse}
use Rattle.store_kernel.proofs.kernel.Kernel.note.Goals as goal

pub invariant_of-self-2 : goal.invariant_of-self-2
invariant_of-self-2 g c =
    let can = rw (← c.self.view_is) at c.requires.can_note in
    let cause = rw (← c.self.view_is) at c.requires.cause in
    rw (c.push_reserved.ensures.items, c.reserve.ensures.items, c.new.ensures)
    (known_refuse _ _ _ _ _ c.args.client c.args.line c.args.txn c.args.answer c.self.invariant c.requires.known
    (record { can_note = can; cause = cause; after = refl }))
