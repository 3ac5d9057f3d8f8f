use Rattle.std.proofs.Common.{sym, subst, ap, ◌∙◌}
use Rattle.std.specs.BinaryHeap.{heap_items}
use Rattle.waiting_contexts.specs.Heads.{Heads, count_of, IsLeast}
use Rattle.waiting_contexts.proofs.HeadLemmas.{one_less, is_least}
use Rattle.waiting_contexts.proofs.done_heads.DoneHeads.pop.Goals as goal

pub returns-clause-least : goal.returns-clause-least
returns-clause-least c =
    subst (λ (h : Heads). IsLeast c.in-Some.field-0.0 h.places) c.self.view_is
    (is_least c.in-Some.field-0 (heap_items c.self.inside.heap) (heap_items c.pop.new.self) c.in-Some.ensures.permutation (c.in-Some.ensures.heap_order c.self.invariant).1)

pub returns-clause-rest : goal.returns-clause-rest
returns-clause-rest c =
    λ q.
    sym (ap (λ (h : Heads). count_of q h.places) c.self.view_is)
    ∙ one_less c.in-Some.field-0 (heap_items c.self.inside.heap) (heap_items c.pop.new.self) c.in-Some.ensures.permutation q
