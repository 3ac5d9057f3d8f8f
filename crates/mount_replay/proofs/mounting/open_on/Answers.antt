use Rattle.std.proofs.Common.{ap, sym, subst, ◌∙◌}
use Rattle.block_device.specs.Prelude.{Disk}
use Rattle.meta_store.specs.Store.{Meta}
use Rattle.store_steps.specs.Prelude.{opened}
use Rattle.run_facts.specs.Prelude.{IsKept}
use Rattle.crash_facts.specs.Store.{KeepsDurable}
use Rattle.store_kernel.specs.Seen.{found_of}
use Rattle.log_replay.specs.Prelude.{as_found}
use Rattle.mount_replay.specs.Mounting.{IsOpenedOn, MountStaysDurable, with_stale}
use Rattle.mount_replay.proofs.MountLemmas.{stays_begun, opened_durable, opened_kept, opened_on}
use Rattle.mount_replay.proofs.mounting.open_on.Goals as goal

pub returns-in-Err-clause-durable : goal.returns-in-Err-clause-durable
returns-in-Err-clause-durable g c =
    let disk = g.D.Device.disk in
    stays_begun c.args.found (disk c.args.dev) c.requires.sound c.requires.found c.requires.judged.good c.args.stale.items c.requires.stale
    (disk c.clear_log.new.dev) (c.in-Err.ensures.only c.requires.found.half c.requires.found.stale)

pub returns-in-Err-clause-writes : goal.returns-in-Err-clause-writes
returns-in-Err-clause-writes g c = record {
  found = as_found c.args.found;
  good = c.requires.judged.good;
  units = c.requires.found.units_are;
  tail = c.requires.found.tail;
  half = c.requires.found.half;
  about = c.requires.found.about;
  told = c.in-Err.ensures.only c.requires.found.half c.requires.found.stale;
}

pub open-kernel-requires-clause-kept : goal.open-kernel-requires-clause-kept
open-kernel-requires-clause-kept g c =
    let disk = g.D.Device.disk in
    let old = disk c.args.dev in
    let now = disk c.clear_log.new.dev in
    let cleared = c.in-Ok.ensures in
    subst (λ (m : Meta). IsKept (opened (found_of m) c.args.space c.args.next_sbid c.in-Ok.events) now) (sym c.open-meta.ensures)
    (opened_kept c.args.found old c.requires.sound c.requires.found c.requires.judged.good c.args.stale.items c.requires.stale c.args.space c.args.next_sbid
    c.in-Ok.events now cleared.later.sound cleared.later.idle cleared.later.units cleared.few c.requires.judged c.requires.next)

pub open-kernel-requires-clause-durable : goal.open-kernel-requires-clause-durable
open-kernel-requires-clause-durable g c =
    let disk = g.D.Device.disk in
    let old = disk c.args.dev in
    let now = disk c.clear_log.new.dev in
    let cleared = c.in-Ok.ensures in
    subst (λ (m : Meta). KeepsDurable (opened (found_of m) c.args.space c.args.next_sbid c.in-Ok.events) now) (sym c.open-meta.ensures)
    (opened_durable c.args.found old c.requires.sound c.requires.found c.requires.judged.good c.args.stale.items c.requires.stale c.args.space c.args.next_sbid
    c.in-Ok.events now cleared.later.idle (cleared.only c.requires.found.half c.requires.found.stale) (cleared.cleared c.requires.found.half c.requires.found.stale))

pub returns-clause-ok : goal.returns-clause-ok
returns-clause-ok g c =
    let disk = g.D.Device.disk in
    let old = disk c.args.dev in
    let now = disk c.clear_log.new.dev in
    let cleared = c.in-Ok.ensures in
    let state = c.open-kernel.ensures.state ∙ ap (λ (m : Meta). opened (found_of m) c.args.space c.args.next_sbid c.in-Ok.events) c.open-meta.ensures in
    subst (λ (d : Disk). IsOpenedOn old (with_stale c.args.found c.args.stale.items) c.args.space d c.open-kernel.result.state) (sym (ap disk c.open-kernel.ensures.device))
    (opened_on c.args.found old c.requires.sound c.requires.found c.requires.judged.good c.args.stale.items c.requires.stale c.args.space c.args.next_sbid
    c.in-Ok.events now c.open-kernel.result.state c.requires.judged c.requires.next cleared.later (cleared.only c.requires.found.half c.requires.found.stale)
    (cleared.cleared c.requires.found.half c.requires.found.stale) state)

pub returns-clause-durable : goal.returns-clause-durable
returns-clause-durable g c =
    let disk = g.D.Device.disk in
    let old = disk c.args.dev in
    let now = disk c.clear_log.new.dev in
    subst (λ (d : Disk). MountStaysDurable old d) (sym (ap disk c.open-kernel.ensures.device))
    (stays_begun c.args.found old c.requires.sound c.requires.found c.requires.judged.good c.args.stale.items c.requires.stale now
    (c.in-Ok.ensures.only c.requires.found.half c.requires.found.stale))
