use Rattle.std.proofs.Common.{◌≡◌, ◌++◌, map, take}
use Rattle.findings.specs.declared.finding.Finding.TheVariants.{Doubled}
use Rattle.fsck_check.proofs.checking.push_doubled.Given as goal

abbrev pub invariant-loop-unit : goal.invariant-loop-unit
invariant-loop-unit l = l.found.items ≡ l.initial.found.items ++ map Doubled (take l.unit-index l.units)
