use Rattle.std.proofs.Common.{◌≡◌}
use Rattle.script_text.specs.Prelude.{IsReadingOn}
use Rattle.script_text.proofs.script.read_pieces.Given as goal

abbrev pub invariant-pieces : goal.invariant-pieces
invariant-pieces g l =
    let left_of = g.S.Source.left in
    let faults = g.S.Source.faults in
    IsReadingOn (left_of l.initial.source) (left_of l.source) l.reader l.left × (faults l.source ≡ faults l.initial.source)

abbrev pub decreases-pieces : goal.decreases-pieces
decreases-pieces g l = l.left
