use Rattle.std.proofs.Common.{rules, ◌≡◌, ◌+◌, ◌<◌, ℕ, List, map, length, get_or, sym, ap, subst, ◌∙◌, arith}
use Rattle.std.proofs.lemmas.List.{get_or-map, length-map}
use Rattle.plan_rows.specs.declared.plan.FreshUnit.{FreshUnit}
use Rattle.txn_planner.proofs.Turned.{AddsFirst, adds_next}
use Rattle.txn_planner.proofs.turns.insert_fresh.Goals as goal

pub loop-one-preserved : goal.loop-one-preserved
loop-one-preserved c =
    let fresh : List FreshUnit = c.args.fresh.now in
    let us : List ℕ = map (λ f. f.unit) fresh in
    let i = c.loop-one.one-index in
    let n = c.number.result in
    let inside : i < length fresh = search rules in
    let below : i < length us = omega (arith, length-map fresh (λ f. f.unit), inside) in
    let is : n ≡ get_or us i n = c.number.ensures ∙ ap (λ (f : FreshUnit). f.unit) c.one-item.is
    ∙ sym (get_or-map (λ (f : FreshUnit). f.unit) fresh i c.one-item.result n inside) in
    subst (AddsFirst (i + 1) us c.args.set.now) (sym c.in_ok-insert.ensures.ok) (adds_next us i n c.args.set.now c.loop-one.set below is c.loop-one.invariant)
