use Rattle.std.proofs.Common.{◌≡◌, map, drop}
use Rattle.std.specs.FinMap as finite
use Rattle.blob_map.specs.Prelude.{with_pages}
use Rattle.plan_drafts.specs.Plans.{place_put}
use Rattle.page_edits.specs.Writes.{held_in}
use Rattle.page_edits.proofs.layouts.lay.Given as goal

abbrev pub invariant-loop-page : goal.invariant-loop-page
invariant-loop-page l =
    with_pages l.kept (map (λ p. (p.0, place_put l.units (held_in l.contents) p.1)) (drop l.page-index l.page-items))
    ≡ with_pages l.fn.draft.kept (map (λ p. (p.0, place_put l.units (held_in l.contents) p.1)) (finite.entries l.fn.draft.puts))
