use Rattle.std.proofs.Common.{◌<◌, length, refl, subst, arith}
use Rattle.std.specs.BinaryHeap.{heap_items}
use Rattle.waiting_contexts.specs.Heads.{Heads, IsLeast}
use Rattle.waiting_contexts.proofs.HeadLemmas.{top_is_least}
use Rattle.waiting_contexts.proofs.done_heads.DoneHeads.first.Goals as goal

pub returns : goal.returns
returns c =
    let some : 0 < length (heap_items c.self.inside.heap) = omega (arith, c.in-Some.ensures.variant.0 refl) in
    subst (λ (h : Heads). IsLeast c.in-Some.field-0.now.0 h.places) c.self.view_is
    (top_is_least c.in-Some.field-0.now (heap_items c.self.inside.heap) some c.in-Some.ensures.lookup
    (c.in-Some.ensures.greatest c.self.invariant))
