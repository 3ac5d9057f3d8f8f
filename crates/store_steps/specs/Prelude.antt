-- What other crates and the proofs cite, passed on from one place.
pub use Rattle.store_steps.specs.State.{Batch, State, Machine}
pub use Rattle.store_steps.specs.Contexts.{run_from, run_bytes, Unsent, unsent_units, run_of, unsent, next_unsent, is_done, colls_of, chosen_behind, chosen, with_context, without_context, most_grouped, choice, left_by, given_more, done_more, batch_ops, batch_released, sum_needs}
pub use Rattle.store_steps.specs.Changes.{data_sent, flush_sent, record_sent, sync_sent, first_flushed, second_flushed, written_more, after_done, after_good, down_by, flying_of, landed, reaped, commit_of, taken_up, sealed, log_after, committed_batch, acknowledged, finished, check_sent, check_flush_sent, slot_sent, slot_flush_sent, checked_more, check_flushed, slot_written, slot_flushed, check_begun, switched}
pub use Rattle.store_steps.specs.Ready.{is_empty, is_not_sent, pieces_of, check_pieces, batch_is, begun_is, check_is, switch_is, applied_count, is_ready_up, is_ready_down, is_ready, all_steps, ready_steps, is_drained}
pub use Rattle.store_steps.specs.Steps.{piece_unit, begun_piece_bytes, DoesData, Takes, DoesReap, units_taken, OpensBatch, OpensCheck, DoesTake, DoesFlush, DoesSeal, DoesRecord, DoesSync, DoesCommit, DoesFinish, IsTarget, DoesCheckWrite, DoesCheckFlush, DoesSlotWrite, DoesSlotFlush, DoesSwitch, Does}
pub use Rattle.store_steps.specs.Submit.{need_of, free_count, entry_limit, context_of, entered, noted, accepted_with, CanNote, IsReadNow, Accepts, MeetsBadUnit, NeedsRoom, IsCause, Refuses, IsDownBy, IsBookFull}
pub use Rattle.meta_store.specs.Store.{room_of}
pub use Rattle.store_steps.specs.Intents.{Intent, intent_of, intents, names_in, is_in, plan_of, rows_by, ops_by, taken_by, released_by, needs_by, IsPlannedOver, EachIsPlanned, AreTakenApart, HaveHomes, AreBlobsBelow, SpaceIsCounted, HoldsAreCounted, CanJoin}
unfoldable pub use Rattle.store_steps.specs.Intents.{holds_in}
pub use Rattle.store_steps.specs.Opened.{Found, opened}
pub use Rattle.store_steps.specs.UnderWay.{uncommitted, all_fresh, bytes_in, memory_of, given_fresh, flush_of, second_flush, begun_ops, submitted_from}
pub use Rattle.store_steps.specs.Parts.{RowsPart, rows_part, DataPart, data_part, HalfPart, half_part, slot_phase, other_check, other_part, BookPart, book_part}
pub use Rattle.store_steps.specs.Touch.{Touch, nothing, ends, flushes, on_data, on_half, on_other, on_slot, run_write, Adds, event_of, ticket_of, events_of, after, IsPlaced, IsNoData, IsNoPiece, IsNoOther}
pub use Rattle.store_steps.specs.RowsGo.{with_accepted, applied, rewritten, RowsGo, joins, reorders, switches}
pub use Rattle.store_steps.specs.RowsWithin.{body_units, rows_units, NeedsEnough, AreRowsWithin}
pub use Rattle.store_steps.specs.DataGoes.{IsInRow, Spares, SubmitsRun, DataGoes, gives, opens, flushes_batch, retires}
pub use Rattle.store_steps.specs.HalfGoes.{half_switched, HalfGoes, begins, gives_piece, syncs, is_synced, moves_on}
pub use Rattle.store_steps.specs.BookGoes.{commits_of, BookGoes, enters, commits, acknowledges}
pub use Rattle.store_steps.specs.Footprint.{AcceptsOne, Replies, refuses, reads, IsCaused, Footprint}
pub use Rattle.store_steps.specs.Runs.{Call, submitting, reading, stepping, TurnsAway, Submits, AnswersRead, Reads, DoesOrFails, Calls, IsRun}
