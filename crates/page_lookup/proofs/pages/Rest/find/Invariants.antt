use Rattle.std.proofs.Common.{length, ◌++◌}
use Rattle.page_lookup.specs.Prelude.{extents_read, rows_read, EndBehind, LeavesOut}
use Rattle.page_lookup.proofs.pages.Rest.find.Given as goal

-- what was left out ends in front of the page
abbrev pub invariant-shards : goal.invariant-shards
invariant-shards l =
    EndBehind l.page (extents_read l.self-inside.width l.self-inside.front.now)
    × LeavesOut l.page l.fn.self (extents_read l.self-inside.width l.self-inside.front.now ++ rows_read l.self-inside.width l.self-inside.rows)

abbrev pub decreases-shards : goal.decreases-shards
decreases-shards l = length l.self-inside.rows
