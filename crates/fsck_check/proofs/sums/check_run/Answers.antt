use Rattle.std.proofs.Common.{length, sym, subst}
use Rattle.block_device.specs.Prelude.{HasRead}
use Rattle.read_facts.specs.Prelude.{IsHeldAt}
use Rattle.fsck_check.specs.Sums.{IsUnitIn, unit_sums_from}
use Rattle.fsck_check.proofs.Adding.{adds_as, held_read}
use Rattle.fsck_check.proofs.sums.check_run.Goals as goal

pub returns-in-Ok-clause-sums : goal.returns-in-Ok-clause-sums
returns-in-Ok-clause-sums g c =
    let d = g.D.Device.disk c.args.dev.now in
    let count = length c.args.kept.now in
    let bytes = c.deref.result.now in
    let read : HasRead d c.args.at count bytes = subst (HasRead d c.args.at count) (sym c.deref.ensures.value) c.in_ok-read.ensures.ok in
    adds_as (IsUnitIn c.args.at count bytes) (IsHeldAt d) (held_read d c.args.at count bytes read) (unit_sums_from c.args.at c.args.kept.now) c.args.found.now
    c.compare.new.found c.in-Ok.ensures
