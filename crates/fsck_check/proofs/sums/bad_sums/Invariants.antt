use Rattle.std.proofs.Common.{◌≡◌, ◌≤◌, ℕ, List, [], None, drop, map}
use Rattle.meta_rows.specs.Prelude.{rows_from_to}
use Rattle.meta_log.specs.Prelude.{width_of}
use Rattle.read_facts.specs.Prelude.{IsHeldAt}
use Rattle.ordered_lists.specs.Lists.{ListsAll}
use Rattle.findings.specs.Findings.{PageSum, ComesBefore}
use Rattle.fsck_check.specs.Sums.{FindsBadSums}
use Rattle.fsck_check.proofs.Pages.{unit_sum}
use Rattle.fsck_check.proofs.Rows.{InRowsTo}
use Rattle.fsck_check.proofs.sums.bad_sums.Given as goal

abbrev pub invariant-loop-key : goal.invariant-loop-key
invariant-loop-key g l = record {
  can_next : (goal.iterator-loop-key g).can_next l.key-iterator;
  finite : (goal.iterator-loop-key g).is_finite l.key-iterator;
  at : ℕ;
  left : l.key-iterator ≡ drop at (rows_from_to l.fn.rows.rows [] None);
  same : g.D.Device.disk l.dev ≡ g.D.Device.disk l.initial.dev;
  later : g.D.Device.faults l.initial.dev ≤ g.D.Device.faults l.dev;
  pages : List PageSum;
  lists : ListsAll ComesBefore (InRowsTo (width_of l.fn.sup) l.fn.rows.rows (rows_from_to l.fn.rows.rows [] None) at) pages;
  sums : FindsBadSums (IsHeldAt (g.D.Device.disk l.initial.dev)) (map unit_sum pages) l.found;
}
