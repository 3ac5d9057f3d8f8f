use Rattle.std.proofs.Common.{◌≡◌, ◌≤◌, ◌-◌}
use Rattle.std.specs.List.{range_with_len}
use Rattle.page_edits.proofs.fate.pages_put.Given as goal

abbrev pub invariant-loop-page : goal.invariant-loop-page
invariant-loop-page l = record {
  from : l.initial.page ≤ l.page;
  pages : l.pages ≡ range_with_len l.initial.page (l.page - l.initial.page);
}
