use Rattle.std.proofs.Common.{◌≡◌, None, rules}
use Rattle.store_kernel.proofs.Admitting.{rows_of_a_store}
use Rattle.store_kernel.proofs.kernel.Kernel.next_collection.Goals as goal

pub next_collection-requires : goal.next_collection-requires
next_collection-requires g c =
    let up : c.self.inside.down ≡ None = search rules in
    rows_of_a_store _ (g.D.Device.disk c.self.inside.device) c.self.invariant.kept up

pub returns-in-Ok-clause-ok : goal.returns-in-Ok-clause-ok
returns-in-Ok-clause-ok g c = rw (← c.self.view_is) c.in-Ok.ensures
