use Rattle.std.proofs.Common.{◌≡◌, subst}
use Rattle.block_device.specs.Prelude.{Disk}
use Rattle.meta_log.specs.Prelude.{IsSuper, IsActiveSlot}
use Rattle.log_replay.specs.Prelude.{IsAbout, IsHalfRead}
use Rattle.log_replay.proofs.HalfLemmas.{found_on}
use Rattle.log_replay.proofs.replaying.find_store.Goals as goal

pub returns-in-Ok-read_half-clause-found : goal.returns-in-Ok-read_half-clause-found
returns-in-Ok-read_half-clause-found g c =
    let d = g.D.Device.disk c.args.dev.now in
    let sup = c.in-Some.sup in
    let at = c.active_unit-active.result in
    let log = c.in-Ok-read_half.log in
    let units = c.in-Ok-read_half.stale.items in
    let found : IsSuper sup × (sup.units ≡ d.units) = rw c.in-Some.is at c.in-Ok.ensures.found in
    let active : IsAbout d (λ contents. IsActiveSlot contents sup) = rw c.in-Some.is at c.in-Ok.ensures.active in
    let read : IsHalfRead d at sup.half sup.first log units =
    subst (λ (e : Disk). IsHalfRead e at sup.half sup.first log units) c.find_super.ensures.same c.in-Ok-read_half.ensures.read in
    found_on d _ at c.active_unit-active.ensures found.0 found.1 active read
