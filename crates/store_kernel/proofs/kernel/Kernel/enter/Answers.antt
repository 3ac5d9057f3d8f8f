use Rattle.std.proofs.Common.{refl}
use Rattle.store_kernel.proofs.Keeping.{known_answer}
use Rattle.store_kernel.proofs.kernel.Kernel.enter.Goals as goal

pub invariant_of-self-2 : goal.invariant_of-self-2
invariant_of-self-2 g c =
    let can = rw (← c.self.view_is) at c.requires.can_note in
    let given = rw (← c.self.view_is) at c.requires.given in
    rw (c.push_reserved.ensures.items, c.reserve.ensures.items, c.new.ensures)
    (known_answer _ _ _ _ _ c.args.client c.args.line c.args.read c.args.answer c.self.invariant
    (record { can_note = can; names = c.requires.names; given = given; after = refl }))
