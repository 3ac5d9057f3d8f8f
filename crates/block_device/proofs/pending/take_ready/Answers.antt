use Rattle.std.proofs.Common.{◌≡◌, List, length, map, ◌∙◌, ap, arith}
use Rattle.std.proofs.lemmas.List.{with_items_is, length-map}
use Rattle.std.specs.Vec.{with_items}
use Rattle.block_device.specs.Prelude.{lowered}
use Rattle.block_device.proofs.Pendings.{was_taken}
use Rattle.block_device.specs.declared.pending.Pending.{Pending}
use Rattle.block_device.proofs.pending.take_ready.Goals as goal

pub returns : goal.returns
returns c =
    let old = c.args.pending.now in
    let low = c.lower_lags.new.pending in
    let first = rw c.deref.ensures.value at c.in_ok-i.ensures in
    let is : low ≡ map lowered old.items = c.lower_lags.ensures ∙ ap (λ (l : List Pending). map lowered l) c.deref_mut.ensures.value in
    let items : (with_items old low).items ≡ low = with_items_is old low (omega (arith, ap length is, length-map old.items lowered)) in
    was_taken old.items (with_items old low).items c.remove.new.self.items c.in_ok-i.i c.remove.result first c.requires (items ∙ is) c.remove.ensures.value c.remove.ensures.items
