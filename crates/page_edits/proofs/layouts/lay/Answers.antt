use Rattle.std.proofs.Common.{◌≡◌, ℕ, ◌+◌, ◌<◌, List, [], length, get_or, map, drop, Some, sym, ap, subst, ◌∙◌}
use Rattle.std.proofs.lemmas.List.{drop_more, get_or_read}
use Rattle.std.specs.FinMap as finite
use Rattle.std.specs.FinMap.{entries}
use Rattle.crc32c_csum.specs.Prelude.{crc32c}
use Rattle.number_map.specs.NumberMap.{NumberMap}
use Rattle.row_format.specs.Prelude.{own}
use Rattle.blob_map.specs.Prelude.{PageMap, with_pages}
use Rattle.plan_drafts.specs.Plans.{place_put}
use Rattle.page_edits.specs.Writes.{held_in}
use Rattle.page_edits.proofs.Lists.{In, in_at}
use Rattle.page_edits.proofs.Entries.{entry_found}
use Rattle.page_edits.proofs.layouts.lay.Goals as goal

-- the taking of an entry is one that a page was put by
put_at : (puts : NumberMap ℕ) (es : List (ℕ × ℕ)) (i count : ℕ) → es ≡ entries puts → i < length es
    → ((page taking : ℕ) → finite.get puts page ≡ Some taking → taking < count) → (get_or es i (0, 0)).1 < count
put_at puts es i count are less below =
    let p : ℕ × ℕ = get_or es i (0, 0) in
    below p.0 p.1 (entry_found puts p.0 p.1 (subst (λ l. In l (get_or es i (0, 0))) are (in_at es i (0, 0) less)))

pub bounds-units-taking : goal.bounds-units-taking
bounds-units-taking c =
    put_at c.args.draft.puts c.entries-page-items.result.now c.loop-page.page-index (length c.args.units.now) c.entries-page-items.ensures
    c.loop-page-test.true c.requires.units

pub bounds-contents-taking : goal.bounds-contents-taking
bounds-contents-taking c =
    put_at c.args.draft.puts c.entries-page-items.result.now c.loop-page.page-index (length c.args.contents.now) c.entries-page-items.ensures
    c.loop-page-test.true c.requires.contents

pub loop-page-preserved : goal.loop-page-preserved
loop-page-preserved c =
    let es : List (ℕ × ℕ) = c.entries-page-items.result.now in
    let i : ℕ = c.loop-page.page-index in
    let p : ℕ × ℕ = get_or es i (0, 0) in
    let units : List ℕ = c.args.units.now in
    let contents : List (List ℕ) = c.args.contents.now in
    let kept : PageMap = c.loop-page.kept in
    let unit : ℕ = c.index-units-taking.result in
    let bytes : List ℕ = c.index-contents-taking.result in
    let puts : NumberMap ℕ = c.args.draft.puts in
    let less = c.loop-page-test.true in
    let unit_is : unit ≡ get_or units p.1 0 =
    get_or_read units p.1 unit (put_at puts es i (length units) c.entries-page-items.ensures less c.requires.units) c.index-units-taking.is 0 in
    let csum_is : c.crc32c-csum.result ≡ crc32c (held_in contents p.1) =
    c.crc32c-csum.ensures ∙ ap crc32c (c.as_slice.ensures
    ∙ get_or_read contents p.1 bytes (put_at puts es i (length contents) c.entries-page-items.ensures less c.requires.contents) c.index-contents-taking.is []) in
    let rest : List (ℕ × ℕ) = drop (i + 1) es in
    let laid_from : PageMap → List (ℕ × ℕ) → PageMap = λ m l. with_pages m (map (λ (q : ℕ × ℕ). (q.0, place_put units (held_in contents) q.1)) l) in
    ap (λ m. laid_from m rest)
    (c.in_ok-set.ensures.ok
    ∙ ap (λ u. finite.insert kept p.0 (own u c.crc32c-csum.result)) unit_is
    ∙ ap (λ s. finite.insert kept p.0 (own (get_or units p.1 0) s)) csum_is)
    ∙ sym (ap (laid_from kept) (drop_more es i (0, 0) less))
    ∙ c.loop-page.invariant
