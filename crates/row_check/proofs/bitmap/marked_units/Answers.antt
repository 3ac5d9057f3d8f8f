use Rattle.std.proofs.Common.{sym, subst}
use Rattle.meta_log.specs.Prelude.{width_of}
use Rattle.store_image.specs.Prelude.{IsLeastInexact}
use Rattle.bitmap_freelist.proofs.GoodBitmaps.{bitmap_rows}
use Rattle.row_check.specs.Tallies.{AreWrongCounts}
use Rattle.row_check.proofs.ExactUnits.{AreUnitsOf, found_exact, found_inexact}
use Rattle.row_check.proofs.bitmap.marked_units.Goals as goal

pub read-requires : goal.read-requires
read-requires c = bitmap_rows c.args.sup.now c.args.rows.now.rows c.requires.good

pub returns-in-Some-clause-inexact : goal.returns-in-Some-clause-inexact
returns-in-Some-clause-inexact c =
    let rows = c.args.rows.now.rows in
    let owners = c.in_ok-owners.owners in
    let marked = c.in_ok-marked.marked in
    let counts = c.deref.result.now in
    let are : AreUnitsOf (width_of c.args.sup.now) rows owners.owned owners.shared marked counts c.args.sup.now.units = record {
      owned_are = c.in_ok-owners.ensures.owned;
      shared_are = c.in_ok-owners.ensures.shared;
      marked_are = c.in_ok-marked.ensures;
      below = c.in_ok-owners.ensures.below;
      counts_are = subst (AreWrongCounts (width_of c.args.sup.now) rows) (sym c.deref.ensures.value) c.in_ok-counts.ensures;
      most = c.requires.limits.units_most;
    } in
    subst (IsLeastInexact (width_of c.args.sup.now) rows) (sym c.new.ensures)
    (found_inexact (width_of c.args.sup.now) rows owners.owned owners.shared marked counts c.args.sup.now.units are c.least_wrong.result c.in-Some.unit
    c.least_wrong.ensures c.in-Some.is)

pub returns-clause-exact : goal.returns-clause-exact
returns-clause-exact c =
    let rows = c.args.rows.now.rows in
    let owners = c.in_ok-owners.owners in
    let marked = c.in_ok-marked.marked in
    let counts = c.deref.result.now in
    let are : AreUnitsOf (width_of c.args.sup.now) rows owners.owned owners.shared marked counts c.args.sup.now.units = record {
      owned_are = c.in_ok-owners.ensures.owned;
      shared_are = c.in_ok-owners.ensures.shared;
      marked_are = c.in_ok-marked.ensures;
      below = c.in_ok-owners.ensures.below;
      counts_are = subst (AreWrongCounts (width_of c.args.sup.now) rows) (sym c.deref.ensures.value) c.in_ok-counts.ensures;
      most = c.requires.limits.units_most;
    } in
    found_exact (width_of c.args.sup.now) rows owners.owned owners.shared marked counts c.args.sup.now.units are c.least_wrong.result
    c.least_wrong.ensures c.in-None.is
