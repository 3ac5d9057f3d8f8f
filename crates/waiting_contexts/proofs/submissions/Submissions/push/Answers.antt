use Rattle.std.proofs.Common.{ℕ, true, false, List, [], ◌∷◌, ◌++◌, sym, ap, ◌∙◌, append-nil}
use Rattle.waiting_contexts.proofs.UnsentLemmas.{queue_push}
use Rattle.waiting_contexts.proofs.submissions.Submissions.push.Goals as goal

pub invariant_of-self-then-has_unsent : goal.invariant_of-self-then-has_unsent
invariant_of-self-then-has_unsent c =
    queue_push c.self.inside.contexts c.push.new.self c.args.context c.self.inside.unsent.items c.push_back_reserved.new.self.items true c.in-Ok.ensures.ok c.self.invariant
    (sym c.has_unsent-has_unsent.ensures ∙ c.if-has_unsent.true)
    (c.push_back_reserved.ensures.items ∙ ap (λ (l : List ℕ). l ++ c.place-place.result ∷ []) c.reserve.ensures.items
    ∙ ap (λ (p : ℕ). c.self.inside.unsent.items ++ p ∷ []) c.place-place.ensures)

pub invariant_of-self-else-has_unsent : goal.invariant_of-self-else-has_unsent
invariant_of-self-else-has_unsent c =
    queue_push c.self.inside.contexts c.push.new.self c.args.context c.self.inside.unsent.items c.reserve.new.self.items false c.in-Ok.ensures.ok c.self.invariant
    (sym c.has_unsent-has_unsent.ensures ∙ c.if-has_unsent.false)
    (c.reserve.ensures.items ∙ sym (append-nil c.self.inside.unsent.items))
