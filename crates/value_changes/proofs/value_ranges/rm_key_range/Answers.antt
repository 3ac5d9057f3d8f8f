use Rattle.std.proofs.Common.{List, ℕ, subst, ◌∙◌}
use Rattle.object_model.specs.declared.op.Op.TheVariants.{OmapRmRange}
use Rattle.row_format.specs.Prelude.{omap_key}
use Rattle.row_changes.specs.Prelude.{DropsRange}
use Rattle.value_changes.specs.Changed.{ChangesValues}
use Rattle.value_changes.proofs.Named.{on_ok}
use Rattle.value_changes.proofs.Gone.{pairs_gone}
use Rattle.value_changes.proofs.value_ranges.rm_key_range.Goals as goal

pub returns : goal.returns
returns c =
    let rows = c.args.rows.now.rows in
    let coll = c.args.coll.now in
    let names = c.omap_key.ensures.names in
    let o = c.args.object.now in
    let first = c.args.first.now in
    let last = c.args.last.now in
    let old = c.args.changes.now in
    let new = c.drop_range.new.self in
    let at_first = c.as_slice.ensures ∙ c.in_ok-first.ensures.key in
    let at_last = c.as_slice-2.ensures ∙ c.in_ok-end.ensures.key in
    on_ok c.drop_range.result (DropsRange rows c.as_slice.result.now c.as_slice-2.result.now old new)
    (ChangesValues (OmapRmRange o first last) rows coll o old new)
    (λ drops. pairs_gone rows coll o (names.0, names.1) c.requires.good old new c.requires.of_values first last
    (subst (λ (k : List ℕ). DropsRange rows k (omap_key coll o last) old new) at_first
    (subst (λ (k : List ℕ). DropsRange rows c.as_slice.result.now k old new) at_last drops)))
    c.drop_range.ensures
