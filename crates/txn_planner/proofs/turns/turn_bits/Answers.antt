use Rattle.std.proofs.Common.{ℕ, List, map}
use Rattle.std.proofs.lemmas.Result.{on_ok_weaker}
use Rattle.txn_planner.proofs.Turned.{gets_both}
use Rattle.txn_planner.proofs.turns.turn_bits.Goals as goal

pub returns : goal.returns
returns c =
    let taken : List ℕ = map (λ f. f.unit) c.args.fresh.now in
    on_ok_weaker c.push_flips.result
    (gets_both taken c.args.released.now c.new-units.result c.insert_fresh.new.set c.insert_all.new.set c.args.ops.now.items c.push_flips.new.ops.items
    c.new-units.ensures c.in_ok-insert_fresh.ensures c.in_ok-insert_all.ensures)
    c.push_flips.ensures
