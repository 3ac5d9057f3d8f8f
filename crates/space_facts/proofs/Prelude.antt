-- The lemmas that other crates cite, passed on from one place.
pub use Rattle.space_facts.proofs.Lists.{listed_all, in_or_not, times, times_append, times_some}
pub use Rattle.space_facts.proofs.Rows.{is_own, each_named, rows_append, rows_by_ops}
pub use Rattle.space_facts.proofs.Making.{above_after, below_none, below_joined, below_committed}
pub use Rattle.space_facts.proofs.Selected.{keeps_on_data, small_of, selected_on_data, selection_good, selection_exact, idle_unmarked}
pub use Rattle.space_facts.proofs.Joining.{each_joined, suits_last, rows_last, apart_joined, homes_joined}
pub use Rattle.space_facts.proofs.Moving.{each_none, apart_none, homes_none, homes_alike, below_alike, homes_committed, each_alike, rows_alike, apart_alike, first_taken, each_committed, batch_fair, good_committed, pending_unmarked, apart_committed}
pub use Rattle.space_facts.proofs.Idle.{listed_is_idle, busy_is_not_free}
pub use Rattle.space_facts.proofs.Spaces.{taken_busy, counted_alike, counted_none, free_over, free_joins, counted_joined, released_on_data, counted_committed, not_idle_until}
pub use Rattle.space_facts.proofs.Within.{rows_units-bytes, rows_units-records, rows_units-after, check_units_are, within_opened, within_joined, within_applied, within_rewritten}
pub use Rattle.space_facts.proofs.Supers.{good_switched, planned_switched}
