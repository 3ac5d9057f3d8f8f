use Rattle.std.proofs.Common.{◌≡◌, ◌<◌, ◌^◌, length, List, Some, None, sym, ap, subst, ◌∙◌}
use Rattle.std.specs.Prelude.{option_copied}
use Rattle.op_sequencer.specs.declared.sequencer.Turn.{Turn}
use Rattle.op_sequencer.specs.Turns.{has_turn, behind, ready}
use Rattle.meta_rows.specs.declared.row_op.RowOp.{RowOp}
use Rattle.meta_rows.specs.Prelude.{ops_bytes}
use Rattle.waiting_contexts.specs.Choices.{AreBytesOf}
use Rattle.waiting_contexts.specs.Queues.{turns_in}
use Rattle.waiting_contexts.specs.Ties.{turns_of}
use Rattle.waiting_contexts.proofs.TiedLemmas.{turn_there}
use Rattle.waiting_contexts.proofs.ChoiceLemmas.{finds_none, picked_at, picks_with, picks_without}
use Rattle.waiting_contexts.proofs.choosing.pick_one.Goals.{in-Some-ready_behind, in_default-ready_behind}
use Rattle.waiting_contexts.proofs.choosing.pick_one.Goals as goal

pub returns-in_err-place : goal.returns-in_err-place
returns-in_err-place c = rw c.from_residual.ensures
    (finds_none c.args.submissions.now c.args.count c.args.hand.now c.args.beside.now c.args.back.now c.pop_least.new.hand c.pop_least.new.beside
    c.pop_least.new.back c.facts.ensures c.requires.heads c.in_err-place.ensures)

pub unreachable-requires : goal.unreachable-requires
unreachable-requires c =
    let at = picked_at c.args.submissions.now c.args.count c.in_ok-place.place c.args.hand.now c.args.beside.now c.args.back.now c.pop_least.new.hand
    c.pop_least.new.beside c.pop_least.new.back c.facts.ensures c.requires.heads c.in_ok-place.ensures in
    let both : None ≡ Some _ = ap (λ o. option_copied o) (sym c.in_default.is) ∙ c.get.ensures ∙ at in
    cc

pub ready_behind-requires : goal.ready_behind-requires
ready_behind-requires c =
    ap (λ n. has_turn c.in_ok-place.place (turns_in c.args.sequencers.now n)) c.coll.ensures
    ∙ ap (λ (ts : List Turn). has_turn c.in_ok-place.place ts) (c.requires.tied c.in-Some.context.now.coll)
    ∙ turn_there c.in_ok-place.place c.args.submissions.now c.in-Some.context.now (sym c.in-Some.ensures)

pub returns : goal.returns
returns c = elim c.match-ready_behind.branch [
  | in-Some-ready_behind w ↦ rw w.beside-is
      (picks_with c.args.submissions.now c.args.count c.in_ok-place.place c.args.hand.now c.args.beside.now c.args.back.now c.pop_least.new.hand
      c.pop_least.new.beside c.pop_least.new.back c.facts.ensures c.requires.heads c.in_ok-place.ensures c.in-Some.context.now (sym c.in-Some.ensures)
      c.encoded_len.result w.in-Some-ready_behind.next w.push.new.self bytes_are (found ∙ w.in-Some-ready_behind.is) w.push.ensures.places
      w.push.ensures.length w.push.ensures.room)
  | in_default-ready_behind w ↦ rw w.beside-is
      (picks_without c.args.submissions.now c.args.count c.in_ok-place.place c.args.hand.now c.args.beside.now c.args.back.now c.pop_least.new.hand
      c.pop_least.new.beside c.pop_least.new.back c.facts.ensures c.requires.heads c.in_ok-place.ensures c.in-Some.context.now (sym c.in-Some.ensures)
      c.encoded_len.result bytes_are (found ∙ w.in_default-ready_behind.is))
]
  where
    bytes_are : AreBytesOf c.in-Some.context.now c.encoded_len.result
    bytes_are = subst (λ (ops : List RowOp). length (ops_bytes ops) < 2 ^ 64 → c.encoded_len.result ≡ length (ops_bytes ops)) c.ops.ensures c.encoded_len.ensures

    found : ready (behind c.in_ok-place.place (turns_of c.in-Some.context.now.coll c.args.submissions.now)) ≡ c.ready_behind.result
    found = ap (λ (ts : List Turn). ready (behind c.in_ok-place.place ts)) (sym (c.requires.tied c.in-Some.context.now.coll))
        ∙ ap (λ n. ready (behind c.in_ok-place.place (turns_in c.args.sequencers.now n))) (sym c.coll.ensures) ∙ sym c.ready_behind.ensures
