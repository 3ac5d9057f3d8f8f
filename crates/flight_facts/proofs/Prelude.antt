-- The lemmas that other crates cite, passed on from one place.
pub use Rattle.flight_facts.proofs.Flying.{idle_device, same_count, Landed, landed_flight, reaped_good, others_of}
pub use Rattle.flight_facts.proofs.Ends.{intents_kept, good_end, end_book}
pub use Rattle.flight_facts.proofs.Leaves.{does_well, device_goes, book_step, step_entries, stays_up, goes_down}
pub use Rattle.flight_facts.proofs.Untouched.{all_then, run_untouched}
pub use Rattle.flight_facts.proofs.Lists.{all_left, all_right, all_join, all_take, StandsIn, with_in, without_in, all_at}
pub use Rattle.flight_facts.proofs.Landing.{IsLeftOut, left_out}
pub use Rattle.flight_facts.proofs.Pieces.{same_units, some_units, some_pieces, short_body}
pub use Rattle.flight_facts.proofs.Stages.{flight_for, ended_ahead, unsent_behind, unsent_is, written_ended, all_ended, nothing_before, HasNext, IsFlightOf, EndsIn, ends, flushed_ended, ended_flushed, not_sent_is}
pub use Rattle.flight_facts.proofs.Runs.{check_few, runs_left, in_next, in_run_at}
pub use Rattle.flight_facts.proofs.RunUnits.{IsRunOf, row_bytes, row_at, given_units}
pub use Rattle.flight_facts.proofs.RunPlaces.{earlier_spared, run_has, run_whole, given_before, run_inside, AreWholeUnits}
pub use Rattle.flight_facts.proofs.Choosing.{IsFirst}
pub use Rattle.flight_facts.proofs.Picking.{ArePicked, picked, choice_few, choice_done, choice_full, picked_up, all_picked, sum_picked, count_picked}
pub use Rattle.flight_facts.proofs.Needs.{needs_both, sum_both}
pub use Rattle.flight_facts.proofs.Matching.{open_far, begun_far, IsMadeFar, made_far, record_ended, synced_far, no_switch, rests_switch, record_long}
pub use Rattle.flight_facts.proofs.Switching.{IsSwitchOpen, switch_open, rests_batch, check_ended, ended_to_flush, ended_to_slot, ended_all}
pub use Rattle.flight_facts.proofs.MatchingMore.{next_stands, each_given, one_more_waits, one_more_entry}
pub use Rattle.flight_facts.proofs.MatchingSteps.{test_of, none_is, some_is, seal_none, first_waits, record_tests, pieces_left, sync_tests, pieces_ended, take_tests, runs_left_over, check_flush_tests, runs_ended, slot_tests, slot_flush_tests, check_switches, waited_does}
pub use Rattle.flight_facts.proofs.Unflown.{unflown, none_left, rest_not_given, flush_unflown, sync_unflown, check_unflown, slot_unflown, slot_flush_unflown}
pub use Rattle.flight_facts.proofs.Readiness.{ready_not_down, ready_by_table, some_of, none_ready, IsIdle, idle_uncommitted, drained_is_idle}
pub use Rattle.flight_facts.proofs.Paying.{Paid, due_most, acknowledged_length}
pub use Rattle.flight_facts.proofs.InFlight.{found_tells, IsSynced, ready_synced, unsealed_second, record_second, sync_begun, check_left_flush, check_flush_slot, slot_left_flush, IsOf}
pub use Rattle.flight_facts.proofs.Downs.{down_not_up, was_up, Ends, IsStill, waited_history, not_both, GoesDown}
pub use Rattle.flight_facts.proofs.Outcomes.{GoneDown, StepOutcome, step_leaves, measure_falls, has_stepped, has_waited, has_gone_down}
