-- What is known of a device that tells its log, while the kernel isn't down.
use Rattle.std.specs.Prelude.{◌≡◌, ℕ, ◌+◌, List, length, Some}
use Rattle.block_device.specs.Prelude.{Disk, History, Flight, EachWriteIsAnswered, QuietAt}
use Rattle.meta_rows.specs.declared.row_op.RowOp.{RowOp}
use Rattle.log_facts.specs.Prelude.{FlushState, ActiveHalfStands}
use Rattle.switch_facts.specs.Prelude.{OtherIsKnown}
use Rattle.meta_store.specs.Store.{Meta}
use Rattle.store_steps.specs.Prelude.{State, uncommitted, given_fresh, second_flush, begun_ops, submitted_from, other_part}
use Rattle.unit_facts.specs.DataUnits.{DataUnitsAreClean, HeldBytesAreLast, BatchUnitsAreFlushed}

-- The device was quiet when it had `base` events, each submission since is in flight or has ended well, and all its events since are counted.
pub record IsAnsweredSince (base : ℕ) (h : History) (flights : List Flight) (events : ℕ) : Type 0 where
  pub quiet : QuietAt base h
  pub each : EachWriteIsAnswered base h flights
  pub counted : length h.log ≡ base + events

-- some records are known to stand in the active half, and behind them the record that is being written, as far as it was submitted
pub record HalfIsKnown (h : History) (m : Meta) (second : FlushState) : Type 0 where
  pub recs : List (List RowOp)
  pub stands : ActiveHalfStands h m.sup m.rows m.tail m.number (begun_ops m.begun) (submitted_from m.number m.begun) second recs

-- The device tells this history, and its slots, both halves of its log and its data units are known.
pub record KnownOfUnits (base : ℕ) (s : State) (d : Disk) (h : History) : Type 0 where
  pub told : d.history ≡ Some h
  pub answered : IsAnsweredSince base h d.flights s.events
  pub other : OtherIsKnown h (other_part s)
  pub half : HalfIsKnown h s.log (second_flush s.batch)
  pub clean : DataUnitsAreClean h s.log.sup (given_fresh (uncommitted s))
  pub held : HeldBytesAreLast h (given_fresh (uncommitted s))
  pub flushed : BatchUnitsAreFlushed h s.batch

-- a history is known that the device tells
pub record KnowsUnits (base : ℕ) (s : State) (d : Disk) : Type 0 where
  pub history : History
  pub known : KnownOfUnits base s d history
