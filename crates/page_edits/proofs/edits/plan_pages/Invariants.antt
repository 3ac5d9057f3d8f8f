use Rattle.std.proofs.Common.{◌≡◌, ◌≤◌, ◌+◌, ◌++◌, filter, length, drop}
use Rattle.std.specs.List.{flat_map}
use Rattle.std.specs.Option.{option_to_list}
use Rattle.std.specs.FinMap as finite
use Rattle.plan_drafts.specs.Edits.{takes_unit, place_read, page_unit}
use Rattle.page_edits.specs.Ranges.{fate_on}
use Rattle.page_edits.specs.Writes.{planned}
use Rattle.page_edits.proofs.edits.plan_pages.Given as goal

abbrev pub invariant-loop-page : goal.invariant-loop-page
invariant-loop-page l = record {
  writes : l.planned.writes ++ planned (page_unit l.width l.rows.rows) l.at l.span l.draft l.planned.taken (drop l.page-index l.pages) ≡ planned (page_unit l.width l.rows.rows) l.at l.span l.draft l.taken l.pages;
  places : l.planned.places ++ flat_map (λ page. option_to_list (place_read (page_unit l.width l.rows.rows) (fate_on l.span l.draft page) (finite.get l.draft.kept page))) (drop l.page-index l.pages)
      ≡ flat_map (λ page. option_to_list (place_read (page_unit l.width l.rows.rows) (fate_on l.span l.draft page) (finite.get l.draft.kept page))) l.pages;
  taken : l.planned.taken + length (filter (λ page. takes_unit (fate_on l.span l.draft page)) (drop l.page-index l.pages))
      ≡ l.taken + length (filter (λ page. takes_unit (fate_on l.span l.draft page)) l.pages);
  few : l.planned.taken ≤ l.taken + l.page-index;
}
