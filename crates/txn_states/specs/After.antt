-- What comes after a commit.
use Rattle.std.specs.Prelude.{is_some, if◌then◌else◌}
use Rattle.txn_states.specs.Applied.{Applied}
use Rattle.txn_states.specs.declared.committed.After.{After}
use Rattle.txn_states.specs.declared.committed.After.TheVariants.{Finished, Deferred}

-- a deferred row that has to be dropped first, where there is one, and the end otherwise
abbrev pub after_of : Applied → After
after_of x = if is_some x.deferred then Deferred x else Finished x
