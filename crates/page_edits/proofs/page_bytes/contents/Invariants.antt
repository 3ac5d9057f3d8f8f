use Rattle.std.proofs.Common.{◌≡◌, length, drop}
use Rattle.plan_drafts.specs.Drafts.{none_held}
use Rattle.page_edits.specs.Writes.{after_writes, held_in}
use Rattle.page_edits.proofs.page_bytes.contents.Given as goal

abbrev pub invariant-loop-write : goal.invariant-loop-write
invariant-loop-write l = record {
  held : after_writes l.ops l.read (drop l.write-index l.writes) (held_in l.held.items) ≡ after_writes l.ops l.read l.writes none_held;
  count : length l.held.items ≡ l.takings;
}
