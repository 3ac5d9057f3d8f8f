use Rattle.std.proofs.Common.{◌≡◌, drop}
use Rattle.plan_drafts.specs.Edits.{bytes_read}
use Rattle.page_edits.proofs.page_bytes.bytes_read.Given as goal

abbrev pub invariant-loop-one : goal.invariant-loop-one
invariant-loop-one l = bytes_read (drop l.one-index l.read) l.unit ≡ bytes_read l.read l.unit
