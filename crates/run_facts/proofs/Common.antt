-- What most proofs about calls and runs cite of the crates below, passed on from one place.
pub use Rattle.flight_facts.proofs.Common.{AllByRecursion, Ascends, Begun, Context, Disk, Flight, FlushState, Flying, FreshUnit, IsSound, IsSuper, IsUntouched, Job, LiesInRecord, Reaped, RowOp, Step, Ticket, Waited, active_unit, and_parts, eq-eqb, flat_map, given_from, is_flushed, ltb-true, ne_eqb, option_map, option_map_or, option_or, piece_count, piece_first, piece_units, record_units, same_Some, unit_count}
pub use Rattle.std.specs.List.{cons_option}
unfoldable pub use Rattle.std.specs.List.{IsDistinct}
pub use Rattle.meta_rows.specs.Prelude.{Rows, ops_bytes, rows_after}
pub use Rattle.object_model.specs.Prelude.{Change, Objects, accepted, accepted_change, change_at, committed, committed_places, is_named, is_on, names_of, replay}
pub use Rattle.object_model.specs.declared.book.Commit.{Commit}
pub use Rattle.object_model.specs.declared.book.Entry.{Entry}
pub use Rattle.object_model.specs.declared.command.Answer.{Answer}
pub use Rattle.object_model.specs.declared.command.Command.{Command}
pub use Rattle.object_model.specs.declared.command.Read.{Read}
pub use Rattle.meta_log.specs.Prelude.{width_of}
pub use Rattle.meta_log.specs.declared.slot.Super.{Super}
pub use Rattle.store_image.specs.Prelude.{IsDataUnit}
pub use Rattle.plan_drafts.specs.Prelude.{IsGood, IsKnown, PlansKeep}
pub use Rattle.plan_rows.specs.declared.plan.Plan.{Plan}
pub use Rattle.unit_allocator.specs.Prelude.{IsWithin, Space, free_units, given, given_one, is_free, taken, taken_one}
