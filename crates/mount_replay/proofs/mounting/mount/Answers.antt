use Rattle.std.proofs.Common.{IfOk, IfErr, inr, sym, subst, ◌∙◌}
use Rattle.std.specs.Prelude.{MatchResult}
use Rattle.std.proofs.lemmas.Result.{IfOk-weaker, IfErr-weaker}
use Rattle.block_device.specs.Prelude.{Disk}
use Rattle.unit_allocator.specs.Prelude.{Space}
use Rattle.store_steps.specs.Prelude.{Found}
use Rattle.log_replay.specs.Prelude.{IsLater}
use Rattle.mount_replay.specs.Mounting.{IsOpenedOn, BeganToClear, LeftUnopened, MountStaysDurable, with_stale}
use Rattle.log_replay.proofs.ZeroLemmas.{later_same}
use Rattle.mount_replay.proofs.MountLemmas.{stays_same, refused_fails}
use Rattle.mount_replay.proofs.mounting.mount.Goals as goal

pub returns-in-Err-clause-durable : goal.returns-in-Err-clause-durable
returns-in-Err-clause-durable g c =
    let old = g.D.Device.disk c.args.dev in
    subst (λ (d : Disk). MountStaysDurable old d) (sym c.find_store.ensures.same) (stays_same old c.find_store.ensures.sound)

pub returns-in-Err-judge-clause-fails : goal.returns-in-Err-judge-clause-fails
returns-in-Err-judge-clause-fails g c =
    refused_fails c.in-Ok.found (g.D.Device.disk c.args.dev) (g.D.Device.faults c.args.dev) _ c.in-Err-judge.fail c.in-Ok.ensures.found c.in-Err-judge.ensures.refused

pub returns-in-Err-judge-clause-durable : goal.returns-in-Err-judge-clause-durable
returns-in-Err-judge-clause-durable g c =
    let old = g.D.Device.disk c.args.dev in
    subst (λ (d : Disk). MountStaysDurable old d) (sym c.find_store.ensures.same) (stays_same old c.find_store.ensures.sound)

pub returns-in-Err-judge-clause-back : goal.returns-in-Err-judge-clause-back
returns-in-Err-judge-clause-back g c =
    let old = g.D.Device.disk c.args.dev in
    subst (λ (d : Disk). IsLater old d) (sym c.find_store.ensures.same) (later_same old c.find_store.ensures.sound c.requires.idle)

pub returns-in_default-clause-back : goal.returns-in_default-clause-back
returns-in_default-clause-back g c =
    let old = g.D.Device.disk c.args.dev in
    subst (λ (d : Disk). IsLater old d) (sym c.find_store.ensures.same) (later_same old c.find_store.ensures.sound c.requires.idle)

pub returns-in_default-clause-durable : goal.returns-in_default-clause-durable
returns-in_default-clause-durable g c =
    let old = g.D.Device.disk c.args.dev in
    subst (λ (d : Disk). MountStaysDurable old d) (sym c.find_store.ensures.same) (stays_same old c.find_store.ensures.sound)

pub returns-clause-writes : goal.returns-clause-writes
returns-clause-writes g c =
    let disk = g.D.Device.disk in
    let same = c.other_runs.ensures.same ∙ c.find_store.ensures.same in
    let began = subst (λ (d : Disk). IfErr c.open_on.result (λ e. BeganToClear d (disk e.1))) same c.open_on.ensures.writes in
    IfErr-weaker c.open_on.result (λ e. BeganToClear (disk c.args.dev) (disk e.1)) (λ e. LeftUnopened (disk c.args.dev) (disk e.1)) (λ e is. inr is) began

pub returns-clause-ok : goal.returns-clause-ok
returns-clause-ok g c =
    let disk = g.D.Device.disk in
    let f = with_stale c.in-Ok.found c.in-Ok-other_runs.stale.items in
    let space = c.in-Ok-judge.space in
    let same = c.other_runs.ensures.same ∙ c.find_store.ensures.same in
    let ok = subst (λ (d : Disk). IfOk c.open_on.result (λ k. IsOpenedOn d f space (disk k.device) k.state)) same c.open_on.ensures.ok in
    IfOk-weaker c.open_on.result (λ k. IsOpenedOn (disk c.args.dev) f space (disk k.device) k.state)
    (λ k. (x : Found) × ((y : Space) × IsOpenedOn (disk c.args.dev) x y (disk k.device) k.state)) (λ k p. (f, (space, p))) ok

pub returns-in-Err-other_runs-clause-back : goal.returns-in-Err-other_runs-clause-back
returns-in-Err-other_runs-clause-back g c =
    let old = g.D.Device.disk c.args.dev in
    subst (λ (d : Disk). IsLater old d) (sym (c.other_runs.ensures.same ∙ c.find_store.ensures.same)) (later_same old c.find_store.ensures.sound c.requires.idle)

pub returns-in-Err-other_runs-clause-durable : goal.returns-in-Err-other_runs-clause-durable
returns-in-Err-other_runs-clause-durable g c =
    let old = g.D.Device.disk c.args.dev in
    subst (λ (d : Disk). MountStaysDurable old d) (sym (c.other_runs.ensures.same ∙ c.find_store.ensures.same)) (stays_same old c.find_store.ensures.sound)

pub returns-clause-durable : goal.returns-clause-durable
returns-clause-durable g c =
    let disk = g.D.Device.disk in
    subst (λ (d : Disk). MatchResult c.open_on.result (λ k. MountStaysDurable d (disk k.device)) (λ e. MountStaysDurable d (disk e.1)))
    (c.other_runs.ensures.same ∙ c.find_store.ensures.same) c.open_on.ensures.durable
