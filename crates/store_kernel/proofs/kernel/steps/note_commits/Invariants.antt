use Rattle.std.proofs.Common.{◌≡◌, ◌+◌, ◌++◌, map, take}
use Rattle.std.specs.Vec.{vec_len, vec_capacity}
use Rattle.store_steps.specs.Prelude.{commit_of}
use Rattle.store_kernel.proofs.kernel.steps.note_commits.Given as goal

abbrev pub invariant-loop-one : goal.invariant-loop-one
invariant-loop-one l = record {
  items : l.commits.items ≡ l.fn.commits.items ++ map commit_of (take l.one-index l.fn.queued);
  grown : vec_len l.commits ≡ vec_len l.fn.commits + l.one-index;
  room : vec_capacity l.commits ≡ vec_capacity l.fn.commits;
}
