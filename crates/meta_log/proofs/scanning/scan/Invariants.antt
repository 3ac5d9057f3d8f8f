use Rattle.std.proofs.Common.{◌≡◌, ◌+◌, ◌*◌, length}
use Rattle.meta_log.specs.Prelude.{units_of_records}
use Rattle.meta_log.proofs.ScanLemmas.{StandUpTo}
use Rattle.meta_log.proofs.scanning.scan.Given as goal

abbrev pub invariant-records : goal.invariant-records
invariant-records l = record {
  stand : StandUpTo l.records.items l.fn.first l.half l.left;
  number : l.next_number ≡ l.fn.first + length l.records.items;
  unit : l.next_unit ≡ units_of_records l.fn.first l.records.items;
  size : 4096 * l.next_unit + length l.left ≡ length l.half;
}

abbrev pub decreases-records : goal.decreases-records
decreases-records l = length l.left
