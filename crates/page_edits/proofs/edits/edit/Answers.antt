use Rattle.std.proofs.Common.{◌≡◌, ℕ, ◌+◌, ◌<◌, ◌≤◌, ◌^◌, List, length, map, filter, not, sym, ap, subst, ◌∙◌, arith}
use Rattle.std.specs.Prelude.{◌&&◌}
use Rattle.std.specs.FinMap as finite
use Rattle.std.specs.List.{AllByRecursion, flat_map}
use Rattle.std.specs.Option.{option_to_list}
use Rattle.number_map.specs.NumberMap.{NumberMap}
use Rattle.object_model.specs.declared.op.Op.{Op}
use Rattle.row_format.specs.Prelude.{Place}
use Rattle.store_image.specs.Prelude.{PageUnit}
use Rattle.blob_map.specs.Prelude.{PageMap}
use Rattle.plan_drafts.specs.declared.draft.Draft.{Draft}
use Rattle.plan_drafts.specs.Edits.{Edit, edit_of, end_of, has_bytes_of, covers_whole, gets_bytes, takes_unit, pages_touched, pages_put, pages_taking, place_read, places_read, page_unit, drafted, IsInLimits}
use Rattle.page_edits.specs.declared.spans.Span.{Span}
use Rattle.page_edits.specs.declared.writes.PageWrite.{PageWrite}
use Rattle.page_edits.specs.Ranges.{span_by, fate_on}
use Rattle.page_edits.specs.Writes.{planned, with_puts, made_by, IsWriteBy, CanBeMade}
use Rattle.page_edits.proofs.Counts.{few_put, units_within}
use Rattle.page_edits.proofs.PlannedWrites.{plans, planned_puts, planned_writes, planned_can, all_of_operation}
use Rattle.page_edits.proofs.Fates.{left_is}
use Rattle.page_edits.proofs.edits.edit.Goals as goal

few_pages : (op : Op) (d : Draft) (taken : ℕ) (pages : List ℕ) → IsInLimits op → taken ≤ 2 ^ 24 → pages ≡ pages_put (edit_of op d.size) d
    → taken + length pages < 2 ^ 32
few_pages op d taken pages within few are = omega (arith, few, few_put op d.size d, units_within op within, ap (λ l. length l) are)

-- the pages that get new bytes
abbrev put_on : Span → Draft → List ℕ
put_on s d = filter (λ page. gets_bytes (fate_on s d page)) (pages_touched s.off s.end)

-- the draft, as it is made
abbrev made : ℕ → PageMap → NumberMap ℕ → Draft
made size kept puts = record { size = size; kept = kept; puts = puts }

abbrev made_by_span : (Place → PageUnit) → ℕ → ℕ → Draft → Span → Draft
made_by_span on at n d s = made s.size (finite.retain_keys d.kept (λ page. not (has_bytes_of s.off s.end page)))
    (with_puts (finite.retain_keys d.puts (λ page. not (s.clears && covers_whole s.off s.end page))) (planned on at s d n (put_on s d)))

draft_is : (on : Place → PageUnit) (at : ℕ) (op : Op) (n : ℕ) (d : Draft) → made_by_span on at n d (span_by (edit_of op d.size)) ≡ drafted (edit_of op d.size) n d
draft_is on at op n d =
    let e : Edit = edit_of op d.size in
    (λ i. made e.size (finite.retain_keys d.kept (λ page. sym (left_is e.off (end_of e) e.clears d page) i)) (planned_puts on at op n d i))

pub plan_pages-requires-clause-few : goal.plan_pages-requires-clause-few
plan_pages-requires-clause-few c =
    let d : Draft = c.args.draft.now in
    few_pages c.args.op.now d c.args.taken c.as_slice.result.now c.requires.within c.requires.few
    (c.as_slice.ensures ∙ c.in_ok-pages.ensures ∙ ap (λ s. put_on s d) c.span_of-span.ensures.span)

pub returns-clause-draft : goal.returns-clause-draft
returns-clause-draft c =
    let d : Draft = c.args.draft.now in
    let on : Place → PageUnit = page_unit c.args.width c.args.rows.now.rows in
    let s : Span = c.span_of-span.result in
    let at : ℕ = c.args.at in
    let n : ℕ = c.args.taken in
    let uncleared : NumberMap ℕ = finite.retain_keys d.puts (λ page. not (s.clears && covers_whole s.off s.end page)) in
    let kept : PageMap = finite.retain_keys d.kept (λ page. not (has_bytes_of s.off s.end page)) in
    let puts : NumberMap ℕ = c.clear.new.puts in
    ap (λ k. made s.size k c.put_pages.new.puts) c.in_ok-left.ensures.kept
    ∙ ap (made s.size kept) (c.in_ok-put_pages.ensures ∙ ap (λ (l : List PageWrite). with_puts puts l) c.as_slice-2.ensures
    ∙ ap (λ m. with_puts m c.in_ok-planned.planned.writes) c.in_ok-clear.ensures
    ∙ ap (with_puts uncleared) (c.in_ok-planned.ensures.writes ∙ ap (planned on at s d n) (c.as_slice.ensures ∙ c.in_ok-pages.ensures)))
    ∙ ap (made_by_span on at n d) c.span_of-span.ensures.span
    ∙ draft_is on at c.args.op.now n d

module _ (c : goal.After-drop-pages-inside-2) where
  abbrev on : Place → PageUnit
  on = page_unit c.args.width c.args.rows.now.rows

  abbrev d : Draft
  d = c.args.draft.now

  abbrev e : Edit
  e = edit_of c.args.op.now d.size

  abbrev pages_are : c.as_slice.result.now ≡ put_on c.span_of-span.result d
  pages_are = c.as_slice.ensures ∙ c.in_ok-pages.ensures

  -- what is planned by the span is planned by the edit
  by_edit : {X : Type 0} (f : Span → List ℕ → X) → f c.span_of-span.result c.as_slice.result.now ≡ f (span_by e) (pages_put e d)
  by_edit f = ap (f c.span_of-span.result) pages_are ∙ ap (λ s. f s (put_on s d)) c.span_of-span.ensures.span

  writes_are : c.in_ok-planned.planned.writes ≡ plans on c.args.at c.args.op.now c.args.taken d
  writes_are = c.in_ok-planned.ensures.writes ∙ by_edit (λ s. planned on c.args.at s d c.args.taken)

  places_are : c.in_ok-planned.planned.places ≡ places_read on e d
  places_are = c.in_ok-planned.ensures.places ∙ by_edit (λ s. flat_map (λ page. option_to_list (place_read on (fate_on s d page) (finite.get d.kept page))))

  taken_is : c.in_ok-planned.planned.taken ≡ c.args.taken + length (pages_taking e d)
  taken_is = c.in_ok-planned.ensures.taken ∙ by_edit (λ s pages. c.args.taken + length (filter (λ page. takes_unit (fate_on s d page)) pages))

pub returns-clause-places : goal.returns-clause-places
returns-clause-places c = places_are c

pub returns-clause-taken : goal.returns-clause-taken
returns-clause-taken c = taken_is c

pub returns-clause-writes : goal.returns-clause-writes
returns-clause-writes c = λ read held whole.
    ap (λ (l : List PageWrite). map (made_by c.args.op.now read held) l) (writes_are c)
    ∙ planned_writes (page_unit c.args.width c.args.rows.now.rows) c.args.at c.args.op.now c.args.taken c.args.draft.now read held whole

pub returns-clause-of : goal.returns-clause-of
returns-clause-of c =
    let d : Draft = c.args.draft.now in
    let e : Edit = edit_of c.args.op.now d.size in
    subst (AllByRecursion (IsWriteBy c.args.at)) (sym (writes_are c))
    (all_of_operation (page_unit c.args.width c.args.rows.now.rows) c.args.at (span_by e) d (pages_put e d) c.args.taken)

pub returns-clause-can : goal.returns-clause-can
returns-clause-can c = λ ops there is num.
    subst (λ n. AllByRecursion (CanBeMade ops n) c.in_ok-planned.planned.writes) (sym (taken_is c))
    (subst (λ (l : List PageWrite). AllByRecursion
    (CanBeMade ops (c.args.taken + length (pages_taking (edit_of c.args.op.now c.args.draft.now.size) c.args.draft.now))) l) (sym (writes_are c))
    (planned_can (page_unit c.args.width c.args.rows.now.rows) c.args.at c.args.op.now c.args.taken c.args.draft.now ops there is c.requires.within num))
