-- What the work of `fsck` leaves.
use Rattle.std.proofs.Common.{◌≡◌, inr, ℕ, List, [], Some, Result, Err, refl, sym, subst}
use Rattle.block_device.specs.Prelude.{Disk, IsSound}
use Rattle.end_points.specs.Bay.{BayView, HandedOut}
use Rattle.end_points.specs.declared.bay.How.TheVariants.{Plain}
use Rattle.findings.specs.declared.finding.Finding.{Finding}
use Rattle.fsck_check.specs.Checking.{FoundAll, FailsFsck}
use Rattle.fsck_check.specs.declared.fail.FsckFail.{FsckFail}
use Rattle.fsck_check.specs.declared.fail.FsckFail.TheVariants as fail
use Rattle.run_texts.specs.declared.work_end.WorkEnd.{WorkEnd}
use Rattle.client_runs.specs.Prelude.{empty_book}
use Rattle.bstore_top.specs.Prelude.{end_of_fsck, LooksThrough, IsFsckDone, seen}

-- the end of a run that looked through no store
pub looks_fail : (fail : FsckFail) (given : Disk) (before now : ℕ) → FailsFsck fail given before now → LooksThrough given before (Err (end_of_fsck fail)) now
looks_fail fail.Memory given before now fails = tt
looks_fail fail.NoSuper given before now fails = fails
looks_fail fail.Fault given before now fails = fails

pub looks_failed : (fail : FsckFail) (end : WorkEnd) (given : Disk) (before now : ℕ) → end ≡ end_of_fsck fail → FailsFsck fail given before now
    → LooksThrough given before (Err end) now
looks_failed fail end given before now is fails =
    subst (λ (e : WorkEnd). LooksThrough given before (Err e) now) (sym is) (looks_fail fail given before now fails)

pub looks_found : (found items : List Finding) (given : Disk) → found ≡ items → FoundAll given items → FoundAll given found
looks_found found items given is all = subst (FoundAll given) (sym is) all

-- a run for which the bay gave a device
pub fsck_opened : (dev : List ℕ) (ended : Result (List Finding) WorkEnd) (given disk : Disk) (first faults : ℕ) (old new : BayView) (before now : ℕ)
    → HandedOut old dev Plain given first new → IsSound given → disk ≡ given → LooksThrough given first ended faults
    → IsFsckDone dev ended (seen (Some disk) (Some faults) [] empty_book) old new before now
fsck_opened dev ended given disk first faults old new before now handed sound same looked = inr (record {
  given = given;
  handed_out = subst (λ (n : ℕ). HandedOut old dev Plain given n new) handed.no_faults handed;
  sound = sound;
  is_disk = λ i. Some (same i);
  faults = faults;
  are_faults = refl;
  looked = subst (λ (n : ℕ). LooksThrough given n ended faults) handed.no_faults looked;
})
