use Rattle.std.proofs.Common.{◌≡◌, subst, sym}
use Rattle.std.specs.Prelude.{MatchOption, IfSome}
use Rattle.block_device.specs.Prelude.{Disk}
use Rattle.meta_log.specs.Prelude.{IsSuper, IsActiveSlot}
use Rattle.log_replay.specs.Prelude.{IsAbout, HasNoSuper, newer_of}
use Rattle.log_replay.proofs.OpeningLemmas.{Shows, about_both, newest, newest_of}
use Rattle.log_replay.proofs.opening.find_super.Goals as goal

pub returns-clause-active : goal.returns-clause-active
returns-clause-active g c =
    let d = g.D.Device.disk c.args.dev.now in
    let first = c.in_ok-first.first in
    let second = c.in_ok-second.second in
    subst (λ found. IsAbout d (λ contents. MatchOption found (HasNoSuper contents) (IsActiveSlot contents))) (sym c.newer.ensures)
    (about_both d (Shows 0 first) (Shows 1 second) (λ contents. MatchOption (newer_of first second) (HasNoSuper contents) (IsActiveSlot contents))
    (λ contents a b. newest contents first second a b) c.in_ok-first.ensures.slot
    (subst (λ e. IsAbout e (Shows 1 second)) c.read_slot.ensures.same c.in_ok-second.ensures.slot))

pub returns-clause-found : goal.returns-clause-found
returns-clause-found g c =
    let d = g.D.Device.disk c.args.dev.now in
    let first = c.in_ok-first.first in
    let second = c.in_ok-second.second in
    subst (λ found. IfSome found (λ s. IsSuper s × (s.units ≡ d.units))) (sym c.newer.ensures)
    (newest_of (λ s. IsSuper s × (s.units ≡ d.units)) first second c.in_ok-first.ensures.found
    (subst (λ (e : Disk). IfSome second (λ s. IsSuper s × (s.units ≡ e.units))) c.read_slot.ensures.same c.in_ok-second.ensures.found))
