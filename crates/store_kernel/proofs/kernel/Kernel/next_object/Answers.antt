use Rattle.std.proofs.Common.{◌≡◌, None, rules}
use Rattle.store_kernel.proofs.Reading.{readable}
use Rattle.store_kernel.proofs.kernel.Kernel.next_object.Goals as goal

pub next_object-requires : goal.next_object-requires
next_object-requires g c =
    let up : c.self.inside.down ≡ None = search rules in
    record { readable = rw (c.width-width.ensures) (readable _ _ _ c.self.invariant.kept up c.self.invariant.memory) }
