use Rattle.std.proofs.Common.{ℕ, ◌∷◌, ap, ◌∙◌}
use Rattle.std.specs.declared.cmp.Reverse.{Reverse}
use Rattle.std.specs.BinaryHeap.{heap_items}
use Rattle.waiting_contexts.specs.Heads.{Heads, count_of}
use Rattle.waiting_contexts.proofs.HeadLemmas.{one_more}
use Rattle.waiting_contexts.proofs.done_heads.DoneHeads.push.Goals as goal

pub returns-clause-places : goal.returns-clause-places
returns-clause-places c =
    let x : Reverse ℕ = record { 0 = c.args.place } in
    λ q.
    one_more x (heap_items c.self.inside.heap) (heap_items c.push.new.self) c.in-Ok.ensures.permutation q
    ∙ ap (λ (h : Heads). count_of q (c.args.place ∷ h.places)) c.self.view_is
