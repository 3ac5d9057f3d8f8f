use Rattle.std.proofs.Common.{◌≡◌, ◌<◌, ◌^◌, take}
use Rattle.std.specs.List.{AllByRecursion}
use Rattle.crc32c_csum.specs.Prelude.{crc32c}
use Rattle.plan_drafts.specs.Prelude.{filled}
use Rattle.page_edits.specs.Writes.{held_in}
use Rattle.txn_planner.proofs.standing.fresh_units.Given as goal

abbrev pub invariant-loop-taking : goal.invariant-loop-taking
invariant-loop-taking l = record {
  filled : l.fresh ≡ filled l.units (held_in l.contents) (take l.taking-index l.takings);
  csums : AllByRecursion (λ f. crc32c f.bytes < 2 ^ 32) l.fresh;
}
