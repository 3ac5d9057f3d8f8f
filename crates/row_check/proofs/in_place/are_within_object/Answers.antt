use Rattle.std.proofs.Common.{◌≡◌, Some, rules}
use Rattle.std.specs.FinMap as map
use Rattle.row_format.specs.Prelude.{onode_key}
use Rattle.row_check.proofs.Before.{within_size, within_found}
use Rattle.row_check.proofs.in_place.are_within_object.Goals as goal

pub returns-in-Some : goal.returns-in-Some
returns-in-Some c =
    let by = within_size c.args.rows.now.rows c.args.coll.now c.args.object.now c.in-Some.size c.args.extents.now (c.requires.before c.in-Some.size c.in-Some.ensures) in
    (λ yes. by.0 (c.are_within_size.ensures.0 yes), λ is. c.are_within_size.ensures.1 (by.1 is))

pub returns-in-Some-get : goal.returns-in-Some-get
returns-in-Some-get c =
    let value = c.as_slice-in-Some-get.result.now in
    let stands : map.get c.args.rows.now.rows (onode_key c.args.coll.now c.args.object.now) ≡ Some value = search rules in
    let by = within_found c.args.rows.now.rows c.args.coll.now c.args.object.now value c.args.extents.now c.requires.coll c.requires.object stands in
    (λ yes. by.0 (c.are_within.ensures.0 yes), λ is. c.are_within.ensures.1 (by.1 is))
