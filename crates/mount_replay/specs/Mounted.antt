-- What a mount answers where the contents stand for objects.
use Rattle.std.specs.Prelude.{◌≡◌, ℕ, [], length, Some, None}
use Rattle.block_device.specs.Prelude.{last, Disk, History, IsSound, Rose, last_at}
use Rattle.object_model.specs.Prelude.{Objects}
use Rattle.meta_log.specs.Prelude.{width_of}
use Rattle.store_image.specs.Prelude.{StandsFor, ObjectsStand, EachCutStands}
use Rattle.unit_allocator.specs.Prelude.{Space}
use Rattle.store_steps.specs.Prelude.{State, Found}
use Rattle.log_replay.specs.Prelude.{IsAllClean, IsUnopenable, FailsMount}
use Rattle.mount_replay.specs.Mounting.{IsOpenedOn}
use Rattle.log_replay.specs.declared.opening.MountFail.{MountFail}
use Rattle.log_replay.specs.declared.opening.MountFail.TheVariants.{Memory, NoSuper, BadRow, NotExact, WornOut, Fault}

-- The device tells this history, nothing of it is dirty, and its contents stand for these objects.
pub record HoldsObjects (d : Disk) (h : History) (objects : Objects) : Type 0 where
  pub told : d.history ≡ Some h
  pub clean : IsAllClean h
  pub stands : StandsFor (last h.start h.log) objects

-- A kernel that begins with exactly these objects: its rows, and the units as they were last written, stand for them; it is up, no transaction
-- is under way, and its book is empty. Each crash since the log had `base` events leaves these objects.
pub record BeginsWith (objects : Objects) (base : ℕ) (d : Disk) (s : State) : Type 0 where
  pub history : History
  pub told : d.history ≡ Some history
  pub rows : ObjectsStand (width_of s.log.sup) (last_at history) s.log.rows objects
  pub submitted : s.submitted ≡ s.log.rows
  pub up : s.down ≡ None
  pub pending : s.pending ≡ []
  pub book : s.book ≡ record { entries = []; commits = [] }
  pub cuts : EachCutStands base history objects (record { entries = []; commits = [] })

-- Why a store isn't opened: its bitmap isn't exact, its numbers have run out, a call failed, or memory ran out. It isn't for want of a super or
-- for a bad row.
abbrev pub RefusesStore : MountFail → History → ℕ → ℕ → Type 0
RefusesStore Memory h before now = Unit {0}
RefusesStore NoSuper h before now = ⊥
RefusesStore (BadRow key) h before now = ⊥
RefusesStore (NotExact unit) h before now = IsUnopenable (NotExact unit) (last h.start h.log)
RefusesStore (WornOut value) h before now = IsUnopenable (WornOut value) (last h.start h.log)
RefusesStore Fault h before now = Rose before now

-- The law of a mount that opened a store.
abbrev pub OpensTheObjects : Type 0
OpensTheObjects = (given now : Disk) (h : History) (objects : Objects) (f : Found) (space : Space) (s : State) → IsSound given
    → HoldsObjects given h objects → IsOpenedOn given f space now s → BeginsWith objects (length h.log) now s

-- The law of a mount that didn't.
abbrev pub RefusesByTheCause : Type 0
RefusesByTheCause = (given : Disk) (h : History) (objects : Objects) (fail : MountFail) (before now : ℕ)
    → HoldsObjects given h objects → FailsMount fail given before now → RefusesStore fail h before now
