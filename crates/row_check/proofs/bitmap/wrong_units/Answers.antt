use Rattle.std.proofs.Common.{ℕ, ◌<◌, ◌^◌, arith}
use Rattle.meta_log.specs.Prelude.{width_of}
use Rattle.store_image.specs.Prelude.{IsOwned}
use Rattle.bitmap_freelist.proofs.GoodBitmaps.{bitmap_rows}
use Rattle.row_check.proofs.UnitLists.{leaked_lists, unmarked_lists, doubled_lists, others_owned}
use Rattle.row_check.proofs.bitmap.wrong_units.Goals as goal

pub read-requires : goal.read-requires
read-requires c = bitmap_rows c.args.sup.now c.args.rows.now.rows c.requires.good

pub returns : goal.returns
returns c =
    let w = width_of c.args.sup.now in
    let rows = c.args.rows.now.rows in
    let o = c.in_ok-owners in
    let small : (unit : ℕ) → IsOwned w rows unit → unit < 2 ^ 32 = λ unit own. let lt = o.ensures.below unit own in let most = c.requires.limits.units_most in omega (arith, lt, most) in
    record {
      leaked = leaked_lists w rows o.owners.owned o.owners.shared c.in_ok-marked.marked o.ensures.owned o.ensures.shared c.in_ok-marked.ensures small c.in_ok-leaked.leaked.items c.in_ok-leaked.ensures;
      unmarked = unmarked_lists w rows o.owners.owned o.owners.shared c.in_ok-marked.marked o.ensures.owned o.ensures.shared c.in_ok-marked.ensures small c.in_ok-unmarked.unmarked.items c.in_ok-unmarked.ensures;
      doubled = doubled_lists w rows o.owners.owned o.owners.shared c.in_ok-marked.marked o.ensures.owned o.ensures.shared c.in_ok-marked.ensures small c.in_ok-doubled.doubled.items c.in_ok-doubled.ensures;
      others = others_owned w rows o.owners.owned o.owners.shared c.in_ok-marked.marked o.ensures.owned o.ensures.shared c.in_ok-marked.ensures small c.in_ok-leaked.leaked.items c.in_ok-leaked.ensures;
      counts = c.in_ok-counts.ensures;
    }
