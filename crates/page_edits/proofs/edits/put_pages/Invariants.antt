use Rattle.std.proofs.Common.{◌≡◌, drop}
use Rattle.page_edits.specs.Writes.{with_puts}
use Rattle.page_edits.proofs.edits.put_pages.Given as goal

abbrev pub invariant-loop-write : goal.invariant-loop-write
invariant-loop-write l = with_puts l.puts (drop l.write-index l.writes) ≡ with_puts l.fn.puts l.writes
