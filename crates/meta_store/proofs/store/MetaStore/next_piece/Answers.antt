use Rattle.std.proofs.Common.{◌+◌, ap, subst, ◌∙◌, arith}
use Rattle.meta_store.specs.Store.{IsMeta, IsNextPiece}
use Rattle.meta_store.proofs.StoreLemmas.{next_of_held, left_of_next, lies_behind}
use Rattle.meta_store.proofs.store.MetaStore.next_piece.Goals as goal

pub returns-in_ok-first-in-Some-clause-next : goal.returns-in_ok-first-in-Some-clause-next
returns-in_ok-first-in-Some-clause-next c =
    let held = rw c.in-Some.is at c.self.invariant.held in
    let unit = c.new-unit.ensures ∙ ap (λ u. u + c.self.inside.tail + c.in_ok-first-in-Some.first) c.active_unit.ensures in
    subst (λ m. IsNextPiece m c.new-unit.result c.in_ok-first-in-Some.bytes.items) c.self.view_is
    (next_of_held c.self.inside c.in-Some.begun c.in_ok-first-in-Some.first _ _ c.in-Some.is held.next
    (omega (arith, c.pieces.ensures)) c.in_ok-first-in-Some.ensures.first c.in_ok-first-in-Some.ensures.bytes unit)

pub returns-in_ok-first-in-Some-clause-left : goal.returns-in_ok-first-in-Some-clause-left
returns-in_ok-first-in-Some-clause-left c = left_of_next c.args.self.now _ _ (returns-in_ok-first-in-Some-clause-next c)

pub returns-in_ok-first-in-Some-clause-place : goal.returns-in_ok-first-in-Some-clause-place
returns-in_ok-first-in-Some-clause-place c = lies_behind c.args.self.now _ _ (subst IsMeta c.self.view_is c.self.invariant.known)
    (returns-in_ok-first-in-Some-clause-next c)
