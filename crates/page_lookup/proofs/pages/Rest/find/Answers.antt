use Rattle.std.proofs.Common.{◌≡◌, [], ◌++◌, sym, subst, ◌∙◌, rules}
use Rattle.row_format.specs.Prelude.{ExtentsAscend}
use Rattle.page_lookup.specs.Prelude.{extents_read, rows_read}
use Rattle.blob_map.proofs.Forms.{ascend_behind}
use Rattle.page_lookup.proofs.Finding.{left_ascend}
use Rattle.page_lookup.proofs.Rows.{no_row, next_row, nothing_left, found_left, number_left}
use Rattle.page_lookup.proofs.pages.Rest.find.Goals as goal

pub skip_rows-requires : goal.skip_rows-requires
skip_rows-requires c =
    ascend_behind (extents_read c.self.inside.width c.self.inside.front.now) (rows_read c.self.inside.width c.self.inside.rows) c.self.invariant

pub shards-preserved : goal.shards-preserved
shards-preserved c =
    let front = c.shards.self-inside.front.now in
    let rows = c.shards.self-inside.rows in
    let none : extents_read c.shards.self-inside.width front ≡ [] = search rules in (
      c.skip_to-self-inside-in-Some.ensures.reaches,
      next_row c.shards.self-inside.width c.args.page front rows c.args.self.now c.shards.invariant.1 c.as_slice.result.now
          c.skip_to-self-inside-in-Some.result.now
          c.in-Some.field-0.now c.next.new.self none c.in-Some.ensures.steps (search rules) c.skip_to-self-inside-in-Some.ensures.left,
    )

pub invariant_of-self : goal.invariant_of-self
invariant_of-self c =
    let front = c.shards.self-inside.front.now in
    let none : extents_read c.shards.self-inside.width front ≡ [] = search rules in
    subst ExtentsAscend
    (sym ((λ i. none i ++ rows_read c.shards.self-inside.width (c.in-None.ensures.steps.1 i)) ∙ no_row c.shards.self-inside.width)) tt

pub returns-in-None-clause-place : goal.returns-in-None-clause-place
returns-in-None-clause-place c =
    let front = c.shards.self-inside.front.now in
    let rows = c.shards.self-inside.rows in
    let none : extents_read c.shards.self-inside.width front ≡ [] = search rules in
    nothing_left c.shards.self-inside.width c.args.page front rows c.args.self.now c.shards.invariant.1 none c.in-None.ensures.steps.0

pub place_at_front-requires-clause-number : goal.place_at_front-requires-clause-number
place_at_front-requires-clause-number c =
    let front = c.shards.self-inside.front.now in
    let rows = c.shards.self-inside.rows in
    let some : extents_read c.shards.self-inside.width front ≡ [] → ⊥ = search rules in
    number_left c.shards.self-inside.width c.args.page front rows c.args.self.now c.shards.invariant.1 c.shards.invariant.0 some c.requires

pub invariant_of-self-2 : goal.invariant_of-self-2
invariant_of-self-2 c =
    left_ascend c.args.page c.args.self.now
    (extents_read c.shards.self-inside.width c.shards.self-inside.front.now ++ rows_read c.shards.self-inside.width c.shards.self-inside.rows)
    (subst ExtentsAscend c.self.view_is c.self.invariant) c.shards.invariant.1

pub returns-clause-place : goal.returns-clause-place
returns-clause-place c =
    let front = c.shards.self-inside.front.now in
    let rows = c.shards.self-inside.rows in
    let some : extents_read c.shards.self-inside.width front ≡ [] → ⊥ = search rules in
    c.place_at_front.ensures
    ∙ found_left c.shards.self-inside.width c.args.page front rows c.args.self.now c.shards.invariant.1 c.shards.invariant.0 some
