-- What most proofs about flights cite of the crates below, passed on from one place.
pub use Rattle.std.proofs.lemmas.Bool.{and_parts, cases_lt, eq-eqb, eqb-true, ltb-true, ne_eqb}
pub use Rattle.std.proofs.lemmas.Option.{same_Some}
pub use Rattle.std.specs.List.{AllByRecursion, flat_map}
pub use Rattle.std.specs.Option.{option_map, option_map_or, option_or}
pub use Rattle.unit_fields.specs.Prelude.{Ascends}
pub use Rattle.block_device.specs.Prelude.{Disk, Flight, IsApart, IsSound, IsUntouched, Reaped, Waited, flight_of, without}
pub use Rattle.block_device.specs.declared.device.Ticket.{Ticket}
pub use Rattle.meta_rows.specs.declared.row_op.RowOp.{RowOp}
pub use Rattle.meta_log.specs.Prelude.{IsSuper, LiesInRecord, active_unit, other_unit, other_slot, given_from, in_run, in_runs, piece_count, piece_first, piece_units, record_units, unit_count, check_units}
pub use Rattle.meta_log.specs.declared.runs.UnitRun.{UnitRun}
pub use Rattle.meta_store.specs.Store.{Begun, Checking, Meta}
pub use Rattle.plan_rows.specs.declared.plan.FreshUnit.{FreshUnit}
pub use Rattle.store_steps.specs.Ready.{is_flushed}
pub use Rattle.store_steps.specs.declared.context.Context.{Context}
pub use Rattle.store_steps.specs.declared.flight.FlushState.{FlushState}
pub use Rattle.store_steps.specs.declared.flight.Flying.{Flying}
pub use Rattle.store_steps.specs.declared.flight.Job.{Job}
pub use Rattle.store_steps.specs.declared.step.Step.{Step}
