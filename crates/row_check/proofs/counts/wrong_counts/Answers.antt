use Rattle.std.proofs.Common.{◌≡◌, ◌+◌, ◌<◌, List, length, get_or, sym, subst, ap, ◌∙◌, arith}
use Rattle.meta_log.specs.Prelude.{width_of}
use Rattle.row_format.specs.Prelude.{blob}
use Rattle.store_image.specs.Prelude.{IsCounted}
use Rattle.store_image.proofs.Prelude.{in_place}
use Rattle.findings.specs.Findings.{SlotCount}
use Rattle.row_check.specs.Tallies.{Tally, HasTally}
use Rattle.row_check.proofs.SlotOrder.{AreWrongTo, none_wrong, tally_of, blob_added, all_wrong}
use Rattle.row_check.proofs.counts.wrong_counts.Goals as goal

pub loop-tally-init : goal.loop-tally-init
loop-tally-init c =
    subst (λ (xs : List SlotCount). AreWrongTo c.list-tally-items.result.now 0 xs) (sym c.new-counts.ensures.items) (none_wrong c.list-tally-items.result.now)

pub add_wrong-requires-clause-named : goal.add_wrong-requires-clause-named
add_wrong-requires-clause-named c =
    let w = width_of c.args.sup.now in
    let rows = c.args.rows.now.rows in
    (tally_of w rows c.in_ok-tallies.tallies c.in_ok-tallies.ensures c.list-tally-items.result.now c.loop-tally.tally-index c.tally-item.result
    c.list-tally-items.ensures c.loop-tally-test.true c.tally-item.is).each

pub add_wrong-requires-clause-few : goal.add_wrong-requires-clause-few
add_wrong-requires-clause-few c =
    let w = width_of c.args.sup.now in
    let rows = c.args.rows.now.rows in
    (tally_of w rows c.in_ok-tallies.tallies c.in_ok-tallies.ensures c.list-tally-items.result.now c.loop-tally.tally-index c.tally-item.result
    c.list-tally-items.ensures c.loop-tally-test.true c.tally-item.is).has_blob.fits.few

pub add_wrong-requires-clause-units : goal.add_wrong-requires-clause-units
add_wrong-requires-clause-units c =
    let w = width_of c.args.sup.now in
    let rows = c.args.rows.now.rows in
    let x : Tally = c.tally-item.result in
    let tally : HasTally w rows (IsCounted w rows) x = tally_of w rows c.in_ok-tallies.tallies c.in_ok-tallies.ensures c.list-tally-items.result.now
    c.loop-tally.tally-index x c.list-tally-items.ensures c.loop-tally-test.true c.tally-item.is in
    let placed = in_place c.args.sup.now rows (blob x.sbid x.first x.slots) c.requires.good tally.has_blob in
    let most = c.requires.limits.units_most in
    omega (arith, placed.on_data.1, most)

pub loop-tally-preserved : goal.loop-tally-preserved
loop-tally-preserved c =
    let w = width_of c.args.sup.now in
    let rows = c.args.rows.now.rows in
    let t = c.in_ok-tallies.tallies in
    let x : Tally = c.tally-item.result in
    let at = c.loop-tally.tally-index in
    let list = c.list-tally-items.ensures in
    subst (λ (l : List Tally). AreWrongTo l (at + 1) c.add_wrong.new.counts.items) (sym list)
    (blob_added w rows t c.in_ok-tallies.ensures at x (subst (λ (l : List Tally). at < length l) list c.loop-tally-test.true)
    (c.tally-item.is ∙ ap (λ (l : List Tally). get_or l at x) list) c.loop-tally.counts.items c.add_wrong.new.counts.items c.in_ok-add_wrong.ensures
    (subst (λ (l : List Tally). AreWrongTo l at c.loop-tally.counts.items) list c.loop-tally.invariant))

pub returns : goal.returns
returns c =
    let w = width_of c.args.sup.now in
    let rows = c.args.rows.now.rows in
    let list = c.list-tally-items.ensures in
    let at = c.loop-tally.tally-index in
    all_wrong w rows c.in_ok-tallies.tallies c.in_ok-tallies.ensures at (omega (arith, c.loop-tally-test.false, ap length list)) c.loop-tally.counts.items
    (subst (λ (l : List Tally). AreWrongTo l at c.loop-tally.counts.items) list c.loop-tally.invariant)
