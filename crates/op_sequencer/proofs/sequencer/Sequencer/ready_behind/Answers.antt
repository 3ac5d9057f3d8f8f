use Rattle.std.proofs.Common.{◌≡◌, ℕ, ◌+◌, ◌<◌, ◌≤◌, true, false, cond, List, length, deque_len, drop, Option, Some, None, refl, sym, ap, ◌∙◌, arith}
use Rattle.op_sequencer.specs.declared.sequencer.Turn.{Turn}
use Rattle.op_sequencer.specs.Turns.{ready, behind}
use Rattle.op_sequencer.proofs.TurnLemmas.{behind_at, ready_none, ready_at, none_got}
use Rattle.op_sequencer.proofs.sequencer.Sequencer.ready_behind.Goals as goal

pub returns-in_err-next : goal.returns-in_err-next
returns-in_err-next c =
    c.from_residual.ensures
    ∙ sym (ap (λ (ts : List Turn). ready (behind c.args.place ts)) (sym c.self.view_is)
    ∙ ap ready (behind_at c.args.place c.index_of-at.result c.self.inside.turns.items c.self.invariant c.index_of-at.ensures)
    ∙ ready_none (c.index_of-at.result + 1) c.self.inside.turns.items
    (omega (arith, none_got c.index_of-at.result (deque_len c.self.inside.turns) c.in_err-next.ensures.variant.1)))

pub returns-then-next : goal.returns-then-next
returns-then-next c =
    sym (ap (λ (ts : List Turn). ready (behind c.args.place ts)) (sym c.self.view_is)
    ∙ ap ready (behind_at c.args.place c.index_of-at.result c.self.inside.turns.items c.self.invariant c.index_of-at.ensures)
    ∙ ready_at (c.index_of-at.result + 1) c.self.inside.turns.items c.in_ok-next.next.now (omega (arith, c.in_ok-next.ensures.variant.0 refl)) c.in_ok-next.ensures.item.1
    ∙ ap (λ b. cond b (Some c.in_ok-next.next.now.place) None) c.if-next.true)

pub returns-else-next : goal.returns-else-next
returns-else-next c =
    sym (ap (λ (ts : List Turn). ready (behind c.args.place ts)) (sym c.self.view_is)
    ∙ ap ready (behind_at c.args.place c.index_of-at.result c.self.inside.turns.items c.self.invariant c.index_of-at.ensures)
    ∙ ready_at (c.index_of-at.result + 1) c.self.inside.turns.items c.in_ok-next.next.now (omega (arith, c.in_ok-next.ensures.variant.0 refl)) c.in_ok-next.ensures.item.1
    ∙ ap (λ b. cond b (Some c.in_ok-next.next.now.place) None) c.if-next.false)
