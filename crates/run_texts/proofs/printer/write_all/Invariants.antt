use Rattle.std.proofs.Common.{◌≡◌, ◌≤◌, ◌-◌, length, take}
use Rattle.end_points.specs.Sink.{with_bytes}
use Rattle.run_texts.proofs.printer.write_all.Given as goal

abbrev pub invariant-loop-at : goal.invariant-loop-at
invariant-loop-at g l = record {
  inside : l.at ≤ length l.text;
  written : g.K.Sink.written l.out ≡ with_bytes (g.K.Sink.written l.initial.out) (take l.at l.text);
  faults : g.K.Sink.faults l.out ≡ g.K.Sink.faults l.initial.out;
}

abbrev pub decreases-loop-at : goal.decreases-loop-at
decreases-loop-at g l = length l.text - l.at
