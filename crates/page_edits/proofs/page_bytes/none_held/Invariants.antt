use Rattle.std.proofs.Common.{◌≡◌, [], replicate}
use Rattle.page_edits.proofs.page_bytes.none_held.Given as goal

abbrev pub invariant-loop-taking : goal.invariant-loop-taking
invariant-loop-taking l = l.held.items ≡ replicate l.taking []
