-- What each step does, at the device and to the state.
use Rattle.std.specs.Prelude.{◌≡◌, ◌≢◌, ◌⊎◌, ℕ, ◌+◌, ◌*◌, ◌<◌, ◌≤◌, Bool, true, List, [], length, slice_get, Some}
use Rattle.std.specs.List.{flat_map}
use Rattle.byte_maps.specs.Units.{units_from, unit_at}
use Rattle.block_device.specs.Prelude.{Disk, Submitted, Reaped, Waited}
use Rattle.block_device.specs.declared.device.Ticket.{Ticket}
use Rattle.block_device.specs.declared.event.Event.TheVariants as event
use Rattle.meta_log.specs.declared.runs.UnitRun.{UnitRun}
use Rattle.meta_log.specs.Prelude.{record_units, unit_count, piece_first, piece_units, active_unit, other_unit, other_slot, next_super, super_bytes, check_records, check_units, target_unit}
use Rattle.store_steps.specs.declared.step.Step.{Step}
use Rattle.store_steps.specs.declared.step.Step.TheVariants.{Data, Reap, Take, Flush, Seal, Record, Sync, Commit, Finish, CheckWrite, CheckFlush, SlotWrite, SlotFlush, Switch}
use Rattle.meta_store.specs.Store.{Meta, Begun, Checking}
use Rattle.store_steps.specs.declared.flight.Switching.{Switching}
use Rattle.store_steps.specs.State.{Batch, State}
use Rattle.store_steps.specs.Ready.{check_pieces}
use Rattle.store_steps.specs.Contexts.{Unsent, unsent_units, run_bytes, next_unsent, choice, most_grouped}
use Rattle.store_steps.specs.Changes.{data_sent, flush_sent, record_sent, sync_sent, reaped, taken_up, sealed, committed_batch, finished, check_sent, check_flush_sent, slot_sent, slot_flush_sent, check_begun, switched}

-- where the next piece of a record goes, and its bytes
abbrev pub piece_unit : Meta → Begun → ℕ
piece_unit m r = active_unit m.sup + m.tail + piece_first (unit_count m.number r.ops) r.given

abbrev pub begun_piece_bytes : ℕ → Begun → List ℕ
begun_piece_bytes number r = let units : ℕ = unit_count number r.ops in
    units_from (piece_first units r.given) (piece_units units r.given) (record_units number r.ops)

-- the next data write of the context of least place is submitted
pub record DoesData (s : State) (d : Disk) (s' : State) (d' : Disk) : Type 0 where
  pub ticket : Ticket
  pub next : Unsent
  pub is_next : next_unsent s.pending ≡ Some next
  pub submitted : Submitted d ticket.place (event.Write next.first.unit (run_bytes (unsent_units next))) d'
  pub after : s' ≡ data_sent next.place (length (unsent_units next)) ticket s

-- the end of one submission is taken
pub record Takes (s : State) (d : Disk) (ok : Bool) (s' : State) (d' : Disk) : Type 0 where
  pub ticket : Ticket
  pub ended : Reaped d ticket.place ok d'
  pub after : s' ≡ reaped ticket ok s

-- one is taken that ended well, or none is ready
abbrev pub DoesReap : State → Disk → State → Disk → Type 0
DoesReap s d s' d' = Takes s d true s' d' ⊎ (Waited d d' × (s' ≡ s))

-- the units that the record of the batch takes that would be opened
abbrev pub units_taken : State → ℕ
units_taken s = unit_count s.log.number (flat_map (λ x. x.ops) (choice most_grouped s.pending))

-- a batch is opened, whose record fits behind the tail
pub record OpensBatch (s : State) (d : Disk) (s' : State) (d' : Disk) : Type 0 where
  pub some : choice most_grouped s.pending ≢ []
  pub fits : s.log.tail + units_taken s ≤ s.log.sup.half
  pub after : s' ≡ taken_up s
  pub same : d' ≡ d

-- or a checkpoint, where it doesn't, and each context waits on
pub record OpensCheck (s : State) (d : Disk) (s' : State) (d' : Disk) : Type 0 where
  pub some : choice most_grouped s.pending ≢ []
  pub too_long : s.log.sup.half < s.log.tail + units_taken s
  pub after : s' ≡ check_begun s
  pub same : d' ≡ d

abbrev pub DoesTake : State → Disk → State → Disk → Type 0
DoesTake s d s' d' = OpensBatch s d s' d' ⊎ OpensCheck s d s' d'

-- the flush of the batch's data is submitted
pub record DoesFlush (s : State) (d : Disk) (s' : State) (d' : Disk) : Type 0 where
  pub ticket : Ticket
  pub batch : Batch
  pub begun : s.batch ≡ Some batch
  pub submitted : Submitted d ticket.place event.Flush d'
  pub after : s' ≡ flush_sent batch ticket s

-- the batch's record is made
pub record DoesSeal (s : State) (d : Disk) (s' : State) (d' : Disk) : Type 0 where
  pub batch : Batch
  pub begun : s.batch ≡ Some batch
  pub after : s' ≡ sealed batch s
  pub same : d' ≡ d

-- the next piece of the record is submitted
pub record DoesRecord (s : State) (d : Disk) (s' : State) (d' : Disk) : Type 0 where
  pub ticket : Ticket
  pub writing : Begun
  pub begun : s.log.begun ≡ Some writing
  pub submitted : Submitted d ticket.place (event.Write (piece_unit s.log writing) (begun_piece_bytes s.log.number writing)) d'
  pub after : s' ≡ record_sent writing ticket s

-- the flush of the record is submitted
pub record DoesSync (s : State) (d : Disk) (s' : State) (d' : Disk) : Type 0 where
  pub ticket : Ticket
  pub batch : Batch
  pub begun : s.batch ≡ Some batch
  pub submitted : Submitted d ticket.place event.Flush d'
  pub after : s' ≡ sync_sent batch ticket s

-- the batch is applied to the committed rows
pub record DoesCommit (s : State) (d : Disk) (s' : State) (d' : Disk) : Type 0 where
  pub batch : Batch
  pub begun : s.batch ≡ Some batch
  pub after : s' ≡ committed_batch batch s
  pub same : d' ≡ d

-- the first committed transaction that isn't acknowledged is acknowledged
pub record DoesFinish (s : State) (d : Disk) (s' : State) (d' : Disk) : Type 0 where
  pub after : s' ≡ finished s
  pub same : d' ≡ d

-- the bytes of a run of the other half are what it is to hold: the checkpoint's record in front, and zeros behind it
pub record IsTarget (m : Meta) (run : UnitRun) (bytes : List ℕ) : Type 0 where
  pub size : length bytes ≡ 4096 * run.count
  pub each : (j : ℕ) → j < run.count → unit_at j bytes ≡ target_unit (check_units m.number m.rows) m.number (check_records m.rows) (run.first + j)

-- the next piece of the checkpoint is submitted
pub record DoesCheckWrite (s : State) (d : Disk) (s' : State) (d' : Disk) : Type 0 where
  pub ticket : Ticket
  pub checking : Checking
  pub begun : s.log.check ≡ Some checking
  pub run : UnitRun
  pub is_next : slice_get (check_pieces s.log) checking.given ≡ Some run
  pub within : run.first + run.count ≤ s.log.sup.half
  pub bytes : List ℕ
  pub target : IsTarget s.log run bytes
  pub submitted : Submitted d ticket.place (event.Write (other_unit s.log.sup + run.first) bytes) d'
  pub after : s' ≡ check_sent checking ticket s

-- the checkpoint's flush is submitted
pub record DoesCheckFlush (s : State) (d : Disk) (s' : State) (d' : Disk) : Type 0 where
  pub ticket : Ticket
  pub switching : Switching
  pub begun : s.switching ≡ Some switching
  pub submitted : Submitted d ticket.place event.Flush d'
  pub after : s' ≡ check_flush_sent switching ticket s

-- the next superblock is submitted
pub record DoesSlotWrite (s : State) (d : Disk) (s' : State) (d' : Disk) : Type 0 where
  pub ticket : Ticket
  pub switching : Switching
  pub begun : s.switching ≡ Some switching
  pub submitted : Submitted d ticket.place (event.Write (other_slot s.log.sup) (super_bytes (next_super s.log.sup s.log.number))) d'
  pub after : s' ≡ slot_sent switching ticket s

-- its flush is submitted
pub record DoesSlotFlush (s : State) (d : Disk) (s' : State) (d' : Disk) : Type 0 where
  pub ticket : Ticket
  pub switching : Switching
  pub begun : s.switching ≡ Some switching
  pub submitted : Submitted d ticket.place event.Flush d'
  pub after : s' ≡ slot_flush_sent switching ticket s

-- the halves change places
pub record DoesSwitch (s : State) (d : Disk) (s' : State) (d' : Disk) : Type 0 where
  pub after : s' ≡ switched s
  pub same : d' ≡ d

-- what a step does that ends well
abbrev pub Does : Step → State → Disk → State → Disk → Type 0
Does Data s d s' d' = DoesData s d s' d'
Does Reap s d s' d' = DoesReap s d s' d'
Does Take s d s' d' = DoesTake s d s' d'
Does Flush s d s' d' = DoesFlush s d s' d'
Does Seal s d s' d' = DoesSeal s d s' d'
Does Record s d s' d' = DoesRecord s d s' d'
Does Sync s d s' d' = DoesSync s d s' d'
Does Commit s d s' d' = DoesCommit s d s' d'
Does Finish s d s' d' = DoesFinish s d s' d'
Does CheckWrite s d s' d' = DoesCheckWrite s d s' d'
Does CheckFlush s d s' d' = DoesCheckFlush s d s' d'
Does SlotWrite s d s' d' = DoesSlotWrite s d s' d'
Does SlotFlush s d s' d' = DoesSlotFlush s d s' d'
Does Switch s d s' d' = DoesSwitch s d s' d'
