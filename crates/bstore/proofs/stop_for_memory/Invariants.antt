use Rattle.std.proofs.Common.{◌≡◌, ◌≤◌, length}
use Rattle.end_points.specs.Sink.{with_bytes}
use Rattle.bstore.specs.declared.TheConstants.{STOPPED}
use Rattle.bstore.proofs.stop_for_memory.Given as goal

-- what is left is what the text still lacks
abbrev pub invariant-loop-left : goal.invariant-loop-left
invariant-loop-left g l =
    (with_bytes (g.K.Sink.written l.initial.out) STOPPED.now ≡ with_bytes (g.K.Sink.written l.out) l.left)
    × (g.K.Sink.faults l.initial.out ≤ g.K.Sink.faults l.out)

abbrev pub decreases-loop-left : goal.decreases-loop-left
decreases-loop-left g l = length l.left
