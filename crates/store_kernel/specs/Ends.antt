-- What the good end of a submission changes of the kernel's parts.
use Rattle.std.specs.Prelude.{List, Option}
use Rattle.std.specs.Option.{option_map}
use Rattle.meta_store.specs.Store.{Meta, with_written}
use Rattle.meta_store.specs.Checks.{with_check_written}
use Rattle.store_steps.specs.Prelude.{with_context, done_more}
use Rattle.store_steps.specs.declared.context.Context.{Context}
use Rattle.store_steps.specs.declared.flight.FlushState.{FlushState}
use Rattle.store_steps.specs.declared.flight.FlushState.TheVariants as flush
use Rattle.store_steps.specs.declared.flight.Job.{Job}
use Rattle.store_steps.specs.declared.flight.Job.TheVariants.{Data, DataFlush, Record, RecordFlush, Check, CheckFlush, Slot, SlotFlush}
use Rattle.store_steps.specs.declared.flight.Switching.{Switching}
use Rattle.store_kernel.specs.declared.batch.OpenBatch.{OpenBatch}

-- a batch whose first or second flush is so far
abbrev pub with_first : FlushState → OpenBatch → OpenBatch
with_first state b = record b { first = state }

abbrev pub with_second : FlushState → OpenBatch → OpenBatch
with_second state b = record b { second = state }

-- a switch of halves whose flush of the checkpoint, whose superblock, or whose flush of that is so far
abbrev pub with_flush : FlushState → Switching → Switching
with_flush state w = record w { flush = state }

abbrev pub with_slot : FlushState → Switching → Switching
with_slot state w = record w { slot = state }

abbrev pub with_slot_flush : FlushState → Switching → Switching
with_slot_flush state w = record w { slot_flush = state }

abbrev pub contexts_after : Job → List Context → List Context
contexts_after (Data place count) xs = with_context place (done_more count) xs
contexts_after other xs = xs

abbrev pub batch_after : Job → Option OpenBatch → Option OpenBatch
batch_after DataFlush batch = option_map (with_first flush.Flushed) batch
batch_after RecordFlush batch = option_map (with_second flush.Flushed) batch
batch_after other batch = batch

abbrev pub switching_after : Job → Option Switching → Option Switching
switching_after CheckFlush switching = option_map (with_flush flush.Flushed) switching
switching_after Slot switching = option_map (with_slot flush.Flushed) switching
switching_after SlotFlush switching = option_map (with_slot_flush flush.Flushed) switching
switching_after other switching = switching

abbrev pub meta_after : Job → Meta → Meta
meta_after Record m = with_written m
meta_after Check m = with_check_written m
meta_after other m = m
