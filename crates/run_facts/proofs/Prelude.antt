-- The lemmas that other crates cite, passed on from one place, with those of flights that they cite beside them.
pub use Rattle.flight_facts.proofs.Prelude.{end_book, does_well, book_step, step_entries, stays_up, goes_down, StepOutcome, has_stepped, has_waited, has_gone_down, IsFirst, ArePicked, picked, all_right, acknowledged_length, ready_by_table, was_up, GoesDown, all_take, all_join, IsIdle, idle_uncommitted, all_left, Ends, IsStill, not_both, some_units, all_then, ready_not_down, some_of, none_ready}
pub use Rattle.run_facts.proofs.Conditions.{batch_written, HasRecord, number_low, take_none, IsMade, made_batch, given_flushed, ReadyCommit, finish_ready}
pub use Rattle.run_facts.proofs.SpaceUnits.{data_within, space_given}
pub use Rattle.run_facts.proofs.Holds.{nothing_is_held, idle_is_free}
pub use Rattle.run_facts.proofs.PartsKept.{flat_intents, intents_both}
pub use Rattle.run_facts.proofs.RowsFacts.{units_of, taken_by, taken_data, back_data, back_in_turn}
pub use Rattle.run_facts.proofs.Apart.{fresh_taken, taken_fresh, given_of_all, given_taken, parts_apart}
pub use Rattle.run_facts.proofs.Known.{known_data_room, known_flush_room, known_record_room, known_sync_room, known_seal, known_commit, known_batch, known_finish, known_idle, next_data_untouched, data_inside, next_piece_untouched, idle_pending, idle_acked, few_units, whole_units}
pub use Rattle.run_facts.proofs.CommitFootprint.{given_all}
pub use Rattle.run_facts.proofs.BatchFootprints.{part_taken}
pub use Rattle.run_facts.proofs.Footprints.{footprint_of}
pub use Rattle.run_facts.proofs.RoomKept.{needs_join}
pub use Rattle.run_facts.proofs.RowsSteps.{IsNoJoin, none_joins}
pub use Rattle.run_facts.proofs.RowsAccepted.{submitted_good, submitted_free, submitted_above, accepted_keeps, accepted_makes, accepted_takes, accepted_joins}
pub use Rattle.run_facts.proofs.RowsNow.{kept_rows, kept_submitted, kept_above, kept_free, kept_space, submitted_short}
pub use Rattle.run_facts.proofs.Memory.{bytes_both, none_of_bytes, memory_whole, page_on_data, readable_now, fresh_not_in_memory, memory_accepted, memory_given, memory_reaped, memory_batch, memory_taken, memory_committed}
pub use Rattle.run_facts.proofs.Keeping.{kept_leaves, work_falls, down_call}
pub use Rattle.run_facts.proofs.Kept.{kept_step, kept_accept, kept_refuse, kept_answer, kept_open}
pub use Rattle.run_facts.proofs.KeptCalls.{kept_call, kept_run}
