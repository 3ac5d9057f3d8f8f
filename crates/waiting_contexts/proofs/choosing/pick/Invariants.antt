use Rattle.std.proofs.Common.{◌-◌, ◌≤◌}
use Rattle.store_steps.specs.Prelude.{choice}
use Rattle.waiting_contexts.specs.Choices.{IsChoiceOf, ArePickedFrom}
use Rattle.waiting_contexts.proofs.choosing.pick.Given as goal

abbrev pub invariant-loop-picked : goal.invariant-loop-picked
invariant-loop-picked l = record {
  within : l.picked.count ≤ l.most;
  from : ArePickedFrom l.submissions l.picked.count l.fn.hand l.hand l.beside l.back;
  chosen : IsChoiceOf (choice l.picked.count l.submissions) l.picked;
  beside : l.most ≤ l.beside.room;
  back : l.most ≤ l.back.room;
}

abbrev pub decreases-loop-picked : goal.decreases-loop-picked
decreases-loop-picked l = l.most - l.picked.count
