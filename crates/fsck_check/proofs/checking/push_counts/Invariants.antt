use Rattle.std.proofs.Common.{◌≡◌, ◌++◌, map, take}
use Rattle.findings.specs.Findings.{wrong_count}
use Rattle.fsck_check.proofs.checking.push_counts.Given as goal

abbrev pub invariant-loop-count : goal.invariant-loop-count
invariant-loop-count l = l.found.items ≡ l.initial.found.items ++ map wrong_count (take l.count-index l.counts)
