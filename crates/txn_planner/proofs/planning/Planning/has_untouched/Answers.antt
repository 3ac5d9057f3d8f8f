use Rattle.std.specs.Option.{option_copied}
use Rattle.object_rows.proofs.NamesWalk.{fewer_left, found_next}
use Rattle.txn_planner.proofs.ObjectsThere.{next_looked}
use Rattle.std.proofs.Common.{sym, ap, ◌∙◌}
use Rattle.std.specs.FinMap as finite
use Rattle.txn_planner.proofs.planning.Planning.has_untouched.Goals as goal

pub names-smaller : goal.names-smaller
names-smaller c =
    let rows = c.args.rows.now.rows in
    let coll = c.args.coll.now in
    let name = c.in-Some.name in
    let next = found_next rows coll c.in_ok-name.field-0 (option_copied c.as_ref.result) c.names.last name c.as_ref.ensures.value c.in-Some.is
    c.in_ok-name.ensures in
    fewer_left rows coll c.names.last name c.names.invariant.named next

pub names-preserved : goal.names-preserved
names-preserved c =
    let rows = c.args.rows.now.rows in
    let coll = c.args.coll.now in
    let name = c.in-Some.name in
    let next = found_next rows coll c.in_ok-name.field-0 (option_copied c.as_ref.result) c.names.last name c.as_ref.ensures.value c.in-Some.is
    c.in_ok-name.ensures in
    next_looked rows coll c.args.self.now.objects c.names.last name c.names.invariant next
    (ap (finite.contains_key c.args.self.now.objects) (sym c.as_slice.ensures.bytes) ∙ sym c.contains_key.ensures ∙ c.if-not-contains_key.false)
