-- What mounting a store makes, and what unmounting it does.
use Rattle.std.specs.Prelude.{◌≡◌, ◌⊎◌, ℕ, ◌+◌, ◌*◌, ◌≤◌, List, [], length, drop, Some, All}
use Rattle.block_device.specs.Prelude.{last, Disk, History}
use Rattle.block_device.specs.declared.event.Event.{Event}
use Rattle.meta_log.specs.declared.runs.UnitRun.{UnitRun}
use Rattle.meta_log.specs.Prelude.{active_half, active_unit, other_unit, in_runs}
use Rattle.object_model.specs.Prelude.{Objects}
use Rattle.store_image.specs.Prelude.{StandsFor, EachCutStands}
use Rattle.log_facts.specs.Prelude.{OtherHalfRests}
use Rattle.unit_allocator.specs.Prelude.{Space}
use Rattle.plan_rows.specs.Prelude.{IsGood}
use Rattle.store_steps.specs.declared.step.Step.TheVariants.{Reap}
use Rattle.store_steps.specs.Prelude.{State, Found, opened, Call, stepping, IsRun}
use Rattle.run_facts.specs.Prelude.{IsOpenable}
use Rattle.log_replay.specs.Prelude.{Told, GoesOn, GoesOnBy, IsLater, IsAllClean, AreClearing, ClearsSoFar, IsAbout, IsFoundIn, IsNextBlob, HasLowNumbers, AreUnmarkedFree, AreZeroOutside, as_found}
use Rattle.log_replay.specs.declared.replaying.FoundStore.{FoundStore}

-- the bytes of the active half behind the records
abbrev pub behind_records : List ℕ → Found → List ℕ
behind_records contents f = drop (4096 * f.tail) (active_half contents f.sup)

-- what was found, with these runs of units of the other half
abbrev pub with_stale : FoundStore → List UnitRun → Found
with_stale s runs = record (as_found s) { stale = runs }

-- of the other half exactly the units outside the runs that were found are zero
abbrev pub IsStaleIn : List ℕ → Found → Type 0
IsStaleIn contents f = AreZeroOutside (other_unit f.sup) f.sup.half f.stale contents

-- The units of the active half behind the records were cleared, in so many events. The other half is as it was found.
pub record WasOpened (f : Found) (count : ℕ) (old new : History) : Type 0 where
  pub events : List Event
  pub by : GoesOnBy events old new
  pub counted : count ≡ length events
  pub clearing : IsAllClean old → AreClearing (length old.log) (active_unit f.sup + f.tail) (active_unit f.sup + f.sup.half)
      (behind_records (last old.start old.log) f) events
  pub clean : IsAllClean old → IsAllClean new
  pub rests : IsAllClean old → OtherHalfRests new f.sup (in_runs f.stale)

-- A kernel that was opened on this device: what the device holds is a store that a kernel can be opened on, the units behind its records
-- were cleared, and the kernel's state is the one that it begins in, with the number behind the greatest of its shared blobs as the next one.
pub record IsOpenedOn (given : Disk) (f : Found) (space : Space) (now : Disk) (s : State) : Type 0 where
  pub next : ℕ
  pub next_is : IsNextBlob f.rows next
  pub openable : IsOpenable f space next given.units
  pub unmarked : AreUnmarkedFree f space
  pub numbers : HasLowNumbers f
  pub found : IsAbout given (λ contents. IsFoundIn contents f × IsStaleIn contents f)
  pub events : ℕ
  pub state : s ≡ opened f space next events
  pub later : IsLater given now
  pub told : Told (WasOpened f events) given.history now.history

-- A store that a kernel can be opened on was found. Zeros were written over units behind its records, the first of them first, and nothing else.
pub record BeganToClear (given now : Disk) : Type 0 where
  pub found : Found
  pub good : IsGood found.sup found.rows
  pub units : found.sup.units ≡ given.units
  pub tail : found.tail ≤ found.sup.half
  pub half : List ℕ
  pub about : IsAbout given (λ contents. IsFoundIn contents found × (half ≡ active_half contents found.sup))
  pub told : Told (ClearsSoFar (active_unit found.sup + found.tail) (active_unit found.sup + found.sup.half) (drop (4096 * found.tail) half))
      given.history now.history

-- what a mount that opened no store leaves of the device: as it was, or with some of those zeros
abbrev pub LeftUnopened : Disk → Disk → Type 0
LeftUnopened given now = (now ≡ given) ⊎ BeganToClear given now

-- the device tells a later history, and each crash since then leaves these objects
pub record StandsStill (h : History) (opening : Objects) (now : Disk) : Type 0 where
  pub history : History
  pub told : now.history ≡ Some history
  pub goes_on : GoesOn h history
  pub cuts : EachCutStands (length h.log) history opening (record { entries = []; commits = [] })

-- Where nothing was dirty, each crash while a store was mounted leaves the objects that the contents stood for.
abbrev pub MountStaysDurable : Disk → Disk → Type 0
MountStaysDurable given now = (h : History) (opening : Objects) → given.history ≡ Some h → IsAllClean h → StandsFor (last h.start h.log) opening
    → StandsStill h opening now

-- ends of what was in flight were taken, and nothing else was done
pub record IsReapedTo (s : State) (d : Disk) (s' : State) (d' : Disk) : Type 0 where
  pub calls : List Call
  pub reaps : All (λ call. call ≡ stepping Reap) calls
  pub run : IsRun s d calls s' d'
