use Rattle.std.proofs.Common.{◌+◌, ◌≤◌, ◌++◌, length}
use Rattle.waiting_contexts.specs.Choices.{AreSamePlaces}
use Rattle.waiting_contexts.proofs.choosing.go_back.Given as goal

abbrev pub invariant-loop-place : goal.invariant-loop-place
invariant-loop-place l = record {
  kept : AreSamePlaces (l.fn.back.places ++ l.fn.hand.places) (l.back.places ++ l.hand.places);
  fits : length l.back.places + length l.hand.places ≤ l.hand.room;
  room : l.fn.hand.room ≤ l.hand.room;
}

abbrev pub decreases-loop-place : goal.decreases-loop-place
decreases-loop-place l = length l.back.places
