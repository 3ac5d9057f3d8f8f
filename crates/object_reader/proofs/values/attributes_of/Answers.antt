use Rattle.std.proofs.Common.{◌≡◌, List, map, length, Some, sym, subst}
use Rattle.std.proofs.lemmas.Result.{IfOk-weaker}
use Rattle.meta_rows.specs.Prelude.{rows_from_to}
use Rattle.row_format.specs.Prelude.{attr_key}
use Rattle.read_facts.specs.Prelude.{AreValues}
use Rattle.read_facts.specs.declared.view.ValueView.{ValueView}
use Rattle.object_reader.specs.ValueRows.{value_behind}
use Rattle.object_reader.proofs.ValueRanges.{attrs_in}
use Rattle.object_reader.proofs.values.attributes_of.Goals as goal

pub values_between-requires : goal.values_between-requires
values_between-requires c =
    (attrs_in c.args.rows.now.rows c.args.coll.now c.args.object.now c.requires c.values_first.ensures.names.0 c.values_first.ensures.names.1 c.in_ok-first.first c.in_ok-end.end
    c.in_ok-first.ensures.key c.in_ok-end.ensures).are_named

pub returns : goal.returns
returns c =
    let rows = c.args.rows.now.rows in
    let first = c.in_ok-first.first in
    let values : List ValueView = map (value_behind (length first)) (rows_from_to rows first (Some c.in_ok-end.end)) in
    let says = attrs_in rows c.args.coll.now c.args.object.now c.requires c.values_first.ensures.names.0 c.values_first.ensures.names.1 first c.in_ok-end.end
    c.in_ok-first.ensures.key c.in_ok-end.ensures in
    IfOk-weaker c.values_between.result (λ found. found ≡ values) (AreValues (attr_key c.args.coll.now c.args.object.now) rows)
    (λ found is. subst (AreValues (attr_key c.args.coll.now c.args.object.now) rows) (sym is) says.values) c.values_between.ensures
