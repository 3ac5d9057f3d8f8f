-- What `fsck` tells of a device, and why it doesn't.
use Rattle.std.specs.Prelude.{ℕ, List, ◌++◌, map}
use Rattle.block_device.specs.Prelude.{Disk, Rose}
use Rattle.block_device.specs.declared.device.Failed.{Failed}
use Rattle.block_device.specs.declared.device.Failed.TheVariants as failed
use Rattle.read_facts.specs.Prelude.{IsHeldAt}
use Rattle.store_steps.specs.Prelude.{Found}
use Rattle.log_replay.specs.Opening.{IsAbout, HasNoSuper, IsFoundIn}
use Rattle.log_replay.specs.declared.opening.MountFail.{MountFail}
use Rattle.log_replay.specs.declared.opening.MountFail.TheVariants as mount
use Rattle.findings.specs.declared.finding.Finding.{Finding}
use Rattle.findings.specs.declared.finding.Finding.TheVariants.{Leaked, Unmarked, Doubled}
use Rattle.findings.specs.Findings.{SlotCount, wrong_count, AreFindings}
use Rattle.fsck_check.specs.declared.fail.FsckFail.{FsckFail}
use Rattle.fsck_check.specs.declared.fail.FsckFail.TheVariants.{Memory, NoSuper, Fault}

-- why a store isn't looked through, where the device says why
abbrev pub fsck_fail_of : Failed → FsckFail
fsck_fail_of failed.Memory = Memory
fsck_fail_of failed.Fault = Fault

abbrev pub fsck_fail_of_mount : MountFail → FsckFail
fsck_fail_of_mount mount.NoSuper = NoSuper
fsck_fail_of_mount mount.Fault = Fault
fsck_fail_of_mount _ = Memory

-- These are the findings of the rows that the log's records make, and of what the device's units hold.
pub record FoundAll (d : Disk) (found : List Finding) : Type 0 where
  pub store : Found
  pub about : IsAbout d (λ contents. IsFoundIn contents store)
  pub are : AreFindings store.sup (IsHeldAt d) store.rows found

-- The cause of each answer: of a fault that the count rose, of no super what the device holds.
abbrev pub FailsFsck : FsckFail → Disk → ℕ → ℕ → Type 0
FailsFsck Memory d before now = Unit {0}
FailsFsck NoSuper d before now = IsAbout d HasNoSuper
FailsFsck Fault d before now = Rose before now

-- The cause, once a store was found.
abbrev pub IsFsckCause : ℕ → ℕ → FsckFail → Type 0
IsFsckCause before now Memory = Unit {0}
IsFsckCause before now NoSuper = ⊥
IsFsckCause before now Fault = Rose before now

-- the findings of units that are leaked, unmarked or doubled, and of slots with wrong counts
abbrev pub found_units : List ℕ → List ℕ → List ℕ → List SlotCount → List Finding
found_units leaked unmarked doubled counts = map Leaked leaked ++ (map Unmarked unmarked ++ (map Doubled doubled ++ map wrong_count counts))
