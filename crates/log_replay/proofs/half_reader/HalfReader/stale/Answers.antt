use Rattle.std.proofs.Common.{ℕ, ◌-◌, List, refl, subst}
use Rattle.log_replay.specs.Prelude.{AddsStale}
use Rattle.log_replay.proofs.StaleLemmas.{stale_found}
use Rattle.log_replay.proofs.half_reader.HalfReader.stale.Goals as goal

pub returns-clause-stale : goal.returns-clause-stale
returns-clause-stale g c =
    let half = c.args.self in
    stale_found (g.D.Device.disk c.args.dev.now) half (half.next - half.at) c.new-units.result.items c.add_stale.new.stale.items
    c.add_stale_between.new.stale.items c.new-units.ensures.items c.requires.reader refl
    (subst (λ (l : List ℕ). AddsStale half.at (half.next - half.at) l c.new-units.result.items c.add_stale.new.stale.items) c.left.ensures c.in-Ok.ensures)
    c.in_ok-add_stale_between.ensures.stale
