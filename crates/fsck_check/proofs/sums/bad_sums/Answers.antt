use Rattle.std.proofs.Common.{◌≡◌, ◌+◌, [], ◌++◌, None, refl, sym, subst, ap, ◌∙◌, arith}
use Rattle.block_device.specs.Prelude.{Disk}
use Rattle.meta_rows.specs.Prelude.{rows_from_to}
use Rattle.meta_rows.proofs.RangeLemmas.{left_more, left_none}
use Rattle.meta_log.specs.Prelude.{width_of}
use Rattle.row_reading.proofs.Entries.{AreRows, are_rows}
use Rattle.read_facts.specs.Prelude.{IsHeldAt}
use Rattle.fsck_check.specs.Sums.{row_places, SpellsInside, AddsSums, AddsRowSums}
use Rattle.fsck_check.proofs.Rows.{row_pages, one_row_more, IsMapped, all_mapped}
use Rattle.fsck_check.proofs.Walked.{row_here, spells_inside, row_summed}
use Rattle.fsck_check.proofs.Found.{finds_sums}
use Rattle.fsck_check.proofs.sums.bad_sums.Goals as goal

pub check_row-requires-clause-rows : goal.check_row-requires-clause-rows
check_row-requires-clause-rows g c = record {
  store = record { sup = c.args.sup.now; limits = c.requires.limits; good = c.requires.good };
  wide = sym c.width-width.ensures;
}

pub check_row-requires-clause-spells : goal.check_row-requires-clause-spells
check_row-requires-clause-spells g c =
    let s = c.args.sup.now in
    let d = g.D.Device.disk c.args.dev.now in
    let rows = c.args.rows.now.rows in
    let es = rows_from_to rows [] None in
    let are : AreRows rows es = are_rows rows es refl in
    let at = c.loop-key.invariant.at in
    let x = c.in-Some.field-0.now in
    let more = left_more es at x c.next.new.self (sym c.loop-key.invariant.left ∙ c.in-Some.ensures.steps) in
    let key = c.as_slice.result.now in
    let value = c.as_slice-in-loop-key.result.now in
    let now = g.D.Device.disk c.loop-key.dev in
    let units : s.units ≡ now.units = c.requires.units ∙ sym (ap (λ (e : Disk). e.units) c.loop-key.invariant.same) in
    subst (λ w. SpellsInside w rows key value now.units) (sym c.width-width.ensures)
    (subst (SpellsInside (width_of s) rows key value) units
    (spells_inside s rows c.requires.good es are at x key value more.0 more.1 c.as_slice.ensures c.as_slice-in-loop-key.ensures))

pub loop-key-preserved : goal.loop-key-preserved
loop-key-preserved g c =
    let s = c.args.sup.now in
    let d = g.D.Device.disk c.args.dev.now in
    let rows = c.args.rows.now.rows in
    let es = rows_from_to rows [] None in
    let are : AreRows rows es = are_rows rows es refl in
    let at = c.loop-key.invariant.at in
    let x = c.in-Some.field-0.now in
    let more = left_more es at x c.next.new.self (sym c.loop-key.invariant.left ∙ c.in-Some.ensures.steps) in
    let key = c.as_slice.result.now in
    let value = c.as_slice-in-loop-key.result.now in
    let pages = c.loop-key.invariant.pages in
    let old = c.loop-key.found in
    let new = c.check_row.new.found in
    let here = spells_inside s rows c.requires.good es are at x key value more.0 more.1 c.as_slice.ensures c.as_slice-in-loop-key.ensures in
    let adds : AddsSums (IsHeldAt d) (row_places (width_of s) rows here.row) old new =
    subst (λ w. AddsRowSums w rows (IsHeldAt d) key value old new) c.width-width.ensures
    (subst (λ (e : Disk). AddsRowSums c.width-width.result rows (IsHeldAt e) key value old new) c.loop-key.invariant.same c.in_ok-check_row.ensures.sums) here.row here.spells in
    record {
      can_next = tt;
      finite = tt;
      at = at + 1;
      left = more.2;
      same = c.in_ok-check_row.ensures.same ∙ c.loop-key.invariant.same;
      later = omega (arith, c.in_ok-check_row.ensures.later, c.loop-key.invariant.later);
      pages = pages ++ row_pages (width_of s) rows here.row;
      lists = one_row_more s rows c.requires.good es are at here.row pages more.0
          (row_here (width_of s) es at x key value more.0 more.1 c.as_slice.ensures c.as_slice-in-loop-key.ensures here.row here.spells) c.loop-key.invariant.lists;
      sums = row_summed (width_of s) rows (IsHeldAt d) here.row pages old new c.loop-key.invariant.sums adds;
    }

pub returns-clause-sums : goal.returns-clause-sums
returns-clause-sums g c =
    let s = c.args.sup.now in
    let d = g.D.Device.disk c.args.dev.now in
    let rows = c.args.rows.now.rows in
    let es = rows_from_to rows [] None in
    let are : AreRows rows es = are_rows rows es refl in
    let at = c.loop-key.invariant.at in
    let le = left_none es at (sym c.loop-key.invariant.left ∙ c.in-None.ensures.steps.0) in
    let pages = c.loop-key.invariant.pages in
    finds_sums s (IsHeldAt d) rows (IsMapped s rows c.requires.good es are at) (λ p is. is.on) (λ b o page u on. record { on = on; fresh = refl }) pages
    c.loop-key.found (all_mapped s rows c.requires.good es are at le pages c.loop-key.invariant.lists) c.loop-key.invariant.sums
