use Rattle.std.proofs.Common.{rules, ◌≡◌, ◌+◌, ◌<◌, length, get_or, sym, subst}
use Rattle.txn_planner.proofs.Turned.{AddsFirst, adds_next}
use Rattle.txn_planner.proofs.turns.insert_all.Goals as goal

pub loop-unit-preserved : goal.loop-unit-preserved
loop-unit-preserved c =
    let us = c.args.units.now in
    let i = c.loop-unit.unit-index in
    let below : i < length us = search rules in
    let is : c.number.result ≡ get_or us i c.number.result = subst (λ v. v ≡ get_or us i v) (sym c.number.ensures) c.unit-item.is in
    subst (AddsFirst (i + 1) us c.args.set.now) (sym c.in_ok-insert.ensures.ok)
    (adds_next us i c.number.result c.args.set.now c.loop-unit.set below is c.loop-unit.invariant)
