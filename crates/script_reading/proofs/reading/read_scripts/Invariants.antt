use Rattle.std.proofs.Common.{◌≡◌, ◌≤◌, length, map, take}
use Rattle.std.specs.Prelude.{vec_capacity}
use Rattle.script_reading.specs.Prelude.{HaveScripts, AreReadWhole}
use Rattle.script_reading.proofs.reading.read_scripts.Given as goal

abbrev pub invariant-loop-script : goal.invariant-loop-script
invariant-loop-script g l = record {
  have : HaveScripts (g.B.Bay.bay l.initial.bay).names (take l.script l.names) (map (λ s. s.items) l.scripts.items);
  whole : AreReadWhole l.script (map g.B.Src.Source.faults l.sources.items) (g.B.Bay.faults l.initial.bay) (g.B.Bay.faults l.bay);
  same : g.B.Bay.bay l.bay ≡ g.B.Bay.bay l.initial.bay;
  scripts : length l.scripts.items ≡ l.script;
  sources : length l.sources.items ≡ l.script;
  script_room : length l.names ≤ vec_capacity l.scripts;
  source_room : length l.names ≤ vec_capacity l.sources;
}
