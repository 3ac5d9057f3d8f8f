-- What a run of `dump` does: it mounts a store and walks over its objects.
use Rattle.std.specs.Prelude.{◌≡◌, ◌⊎◌, ℕ, List, [], Some, None, IfSome}
use Rattle.std.specs.List.{AllByRecursion}
use Rattle.std.specs.FinMap as map
use Rattle.unit_fields.specs.declared.width.Width.{Width}
use Rattle.block_device.specs.Prelude.{Disk, History, IsSound, Rose}
use Rattle.end_points.specs.Bay.{BayView, HandedOut}
use Rattle.end_points.specs.declared.bay.How.TheVariants.{Plain}
use Rattle.meta_rows.specs.Prelude.{Rows}
use Rattle.object_model.specs.Prelude.{Objects}
use Rattle.meta_log.specs.Prelude.{width_of}
use Rattle.store_image.specs.Prelude.{StandsFor}
use Rattle.read_facts.specs.declared.view.CollView.{CollView}
use Rattle.read_facts.specs.Prelude.{IsHeldAt, no_memory, WalksTo, WalksAll, HasGoodViews, views_of}
use Rattle.unit_allocator.specs.Prelude.{Space}
use Rattle.store_steps.specs.Prelude.{State, Found}
use Rattle.mount_replay.specs.Mounting.{IsOpenedOn}
use Rattle.run_texts.specs.declared.work_end.WorkEnd.{WorkEnd}
use Rattle.run_texts.specs.declared.work_end.WorkEnd.TheVariants.{Done, DeviceFault, OutOfMemory, BayFault, SinkFault}
use Rattle.run_texts.specs.Prelude.{dump_text, Output, TookAll, FailedToPrint, ReportsDump}
use Rattle.bstore_top.specs.Keeping.{StaysDurable}
use Rattle.client_runs.specs.Prelude.{empty_book}
use Rattle.bstore_top.specs.StepRun.{Seen, FailsToMount, HasCounted, LeftByMount}

-- how far a walk came, whose run ended so
abbrev pub Walked : Width → WorkEnd → Disk → Rows → List CollView → Type 0
Walked w (Done free) d rows colls = WalksAll w no_memory (IsHeldAt d) rows colls
Walked w DeviceFault d rows colls = WalksTo w no_memory (IsHeldAt d) rows colls
Walked w OutOfMemory d rows colls = WalksTo w no_memory (IsHeldAt d) rows colls
Walked w SinkFault d rows colls = WalksTo w no_memory (IsHeldAt d) rows colls
Walked w end d rows colls = ⊥

-- A store was mounted, and a walk went over its objects. Nothing else was done: the device is as the mount left it.
pub record WalksStore (given : Disk) (end : WorkEnd) (colls : List CollView) (disk : Disk) : Type 0 where
  pub found : Found
  pub space : Space
  pub first : State
  pub mounted : IsOpenedOn given found space disk first
  pub walked : Walked (width_of found.sup) end disk found.rows colls

-- the device wasn't mounted, and nothing was seen; or a walk went over its objects
abbrev pub DumpsOn : Disk → ℕ → WorkEnd → List CollView → Disk → ℕ → Type 0
DumpsOn given before end colls disk now =
    (FailsToMount end given before now × (colls ≡ []) × LeftByMount end given disk)
    ⊎ (HasCounted end before now × WalksStore given end colls disk)

-- What a walk shows where the contents of the given device stood for some objects: no bad unit and, where it came to its end, just these objects.
abbrev pub Shows : WorkEnd → Objects → List CollView → Type 0
Shows (Done free) objects colls = (colls ≡ views_of objects) × AllByRecursion HasGoodViews colls
Shows end objects colls = AllByRecursion HasGoodViews colls

abbrev pub ShowsObjects : Disk → WorkEnd → List CollView → Type 0
ShowsObjects given end colls = (h : History) (objects : Objects) → given.history ≡ Some h → StandsFor h.start objects → Shows end objects colls

-- no device was opened: memory ran out, or the count of the bay rose
abbrev pub FailsUnopened : WorkEnd → ℕ → ℕ → Type 0
FailsUnopened OutOfMemory before now = Unit {0}
FailsUnopened BayFault before now = Rose before now
FailsUnopened end before now = ⊥

pub record DumpsUnopened (end : WorkEnd) (colls : List CollView) (seen : Seen) (before now : ℕ) : Type 0 where
  pub no_disk : seen.disk ≡ None
  pub nothing : colls ≡ []
  pub cause : FailsUnopened end before now

-- the device was opened, and comes back
pub record DumpsOpened (dev : List ℕ) (end : WorkEnd) (colls : List CollView) (seen : Seen) (old new : BayView) : Type 0 where
  pub given : Disk
  pub handed_out : HandedOut old dev Plain given 0 new
  pub sound : IsSound given
  pub disk : Disk
  pub is_disk : seen.disk ≡ Some disk
  pub faults : ℕ
  pub are_faults : seen.dev_faults ≡ Some faults
  pub dumps : DumpsOn given 0 end colls disk faults
  pub shows : ShowsObjects given end colls
  pub durable : StaysDurable given empty_book disk

-- how far a run came
abbrev pub IsDumpDone : List ℕ → WorkEnd → List CollView → Seen → BayView → BayView → ℕ → ℕ → Type 0
IsDumpDone dev end colls seen bay_old bay_new before now =
    DumpsUnopened end colls seen before now ⊎ DumpsOpened dev end colls seen bay_old bay_new

-- A run of `dump`: how far it came, and the text of that. Its book is empty, and it opens no script. A walk ends for the sink only where that has
-- failed at the text.
pub record RanDump (dev : List ℕ) (status : ℕ) (seen : Seen) (bay_old bay_new : BayView) (before now : ℕ) (old new : Output) : Type 0 where
  pub end : WorkEnd
  pub colls : List CollView
  pub no_book : seen.book ≡ empty_book
  pub no_source : seen.source_faults ≡ []
  pub course : IsDumpDone dev end colls seen bay_old bay_new before now
  pub printed : ReportsDump colls end status old new
  pub cut : end ≡ SinkFault → FailedToPrint (dump_text colls end) status old new

-- ---- what a run has shown that returns 0

-- so it is for whatever objects that stand under the device's name stand for
abbrev pub ShowsUnder : List ℕ → List CollView → BayView → Type 0
ShowsUnder dev colls bay = IfSome bay.names (λ names. (contents : List ℕ) (objects : Objects)
    → map.get names.devices dev ≡ Some contents → StandsFor contents objects → colls ≡ views_of objects)

-- The sink took the text of a walk over all objects of the store that was found on the device.
pub record Dumped (dev : List ℕ) (seen : Seen) (bay : BayView) (old new : Output) : Type 0 where
  pub colls : List CollView
  pub free : ℕ
  pub printed : TookAll (dump_text colls (Done free)) old new
  pub given : Disk
  pub disk : Disk
  pub is_disk : seen.disk ≡ Some disk
  pub walked : WalksStore given (Done free) colls disk
  pub shown : ShowsUnder dev colls bay
