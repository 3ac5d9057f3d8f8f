use Rattle.std.proofs.Common.{sym, ap, ◌∙◌, [], Some, arith}
use Rattle.std.proofs.lemmas.List.{get_or_read}
use Rattle.meta_rows.specs.Prelude.{left_at, value_left}
use Rattle.meta_rows.proofs.ListSizes.{set_grows, remove_grows}
use Rattle.meta_rows.proofs.PartLemmas.{remove_set}
use Rattle.meta_rows.proofs.chunk.change_there.Goals as goal

pub returns-in-Some-clause-grows : goal.returns-in-Some-clause-grows
returns-in-Some-clause-grows c =
    set_grows c.args.rows.now.items c.args.at c.index_mut-row.result.now c.in-Some.value c.row_size-before.result c.row_size-after.result
    (omega (arith, c.requires, c.args.rows.now.ok.0))
    c.index_mut-row.ensures.value c.row_size-before.ensures c.row_size-after.ensures

pub returns-in-None-clause-rows : goal.returns-in-None-clause-rows
returns-in-None-clause-rows c =
    let es = c.args.rows.now.items in
    let at = c.args.at in
    let row = c.index_mut-row.result.now in
    c.remove.ensures.items
    ∙ remove_set es at (row.0, c.replace-held.new.dest)
    ∙ ap (left_at es at) (sym c.in-None.is ∙ c.left_by-left.ensures.value
    ∙ ap (λ v. value_left (Some v) c.args.op) (c.replace-held.ensures.value ∙ ap (λ r. r.1) (get_or_read es at row (omega (arith, c.requires, c.args.rows.now.ok.0)) c.index_mut-row.ensures.value ([], []))))

pub returns-in-None-clause-grows : goal.returns-in-None-clause-grows
returns-in-None-clause-grows c =
    let es = c.args.rows.now.items in
    let at = c.args.at in
    let row = c.index_mut-row.result.now in
    rw c.remove.ensures.items (rw (remove_set es at (row.0, c.replace-held.new.dest)) (remove_grows es at row c.row_size-before.result
    (omega (arith, c.requires, c.args.rows.now.ok.0))
    c.index_mut-row.ensures.value c.row_size-before.ensures))
