use Rattle.std.proofs.Common.{◌≡◌, true, false, sym, ◌∙◌}
use Rattle.row_check.specs.Bad.{EndsBefore, IsBelow}
use Rattle.row_format.specs.Prelude.{row_key}
use Rattle.row_reading.specs.Reading.{format_row}
use Rattle.row_check.proofs.Shards.{earlier_here, shard_answer, shard_refused}
use Rattle.row_check.proofs.Before.{object_before, collection_before, onode_before}
use Rattle.row_check.proofs.in_place.is_in_place.Goals as goal

pub has_collection-requires : goal.has_collection-requires
has_collection-requires c =
    collection_before c.args.sup.now c.args.rows.now.rows (IsBelow (row_key (format_row c.args.row.now c.requires.value))) c.args.passed.now c.requires.knows c.in-Onode.coll

pub shard_stands-requires-clause-collection : goal.shard_stands-requires-clause-collection
shard_stands-requires-clause-collection c =
    collection_before c.args.sup.now c.args.rows.now.rows (IsBelow (row_key (format_row c.args.row.now c.requires.value))) c.args.passed.now c.requires.knows c.in-Shard.coll

pub shard_stands-requires-clause-before : goal.shard_stands-requires-clause-before
shard_stands-requires-clause-before c = λ size.
    onode_before c.args.sup.now c.args.rows.now.rows (IsBelow (row_key (format_row c.args.row.now c.requires.value))) c.args.passed.now c.requires.knows c.in-Shard.coll c.in-Shard.object size

pub shard_stands-requires-clause-earlier : goal.shard_stands-requires-clause-earlier
shard_stands-requires-clause-earlier c =
    earlier_here c.args.sup.now c.args.rows.now.rows c.args.passed.now c.args.row.now c.in-Shard.coll c.in-Shard.object c.in-Shard.page c.in-Shard.extents
    c.in-Shard.is c.requires

pub returns-then-ends_before : goal.returns-then-ends_before
returns-then-ends_before c =
    let ends : EndsBefore c.args.passed.now c.in-Shard.coll c.in-Shard.object c.in-Shard.page = c.ends_before.ensures.0 c.if-ends_before.true in
    shard_answer c.args.sup.now c.args.rows.now.rows c.args.passed.now c.args.row.now c.in-Shard.coll c.in-Shard.object c.in-Shard.page c.in-Shard.extents
    c.as_slice.result.now c.shard_stands.result c.in-Shard.is c.as_slice.ensures c.requires ends c.shard_stands.ensures

pub returns-else-ends_before : goal.returns-else-ends_before
returns-else-ends_before c =
    let apart : ¬ (EndsBefore c.args.passed.now c.in-Shard.coll c.in-Shard.object c.in-Shard.page) = λ ends.
    let yes = c.ends_before.ensures.1 ends in
    let never : true ≡ false = sym yes ∙ c.if-ends_before.false in cc in
    λ value.
    let out = shard_refused c.args.sup.now c.args.rows.now.rows c.args.passed.now c.args.row.now c.in-Shard.coll c.in-Shard.object c.in-Shard.page c.in-Shard.extents
    c.in-Shard.is c.requires apart value in
    (λ yes. absurd cc, λ place. absurd (out place))

pub has_object-requires-clause-collection : goal.has_object-requires-clause-collection
has_object-requires-clause-collection c =
    collection_before c.args.sup.now c.args.rows.now.rows (IsBelow (row_key (format_row c.args.row.now c.requires.value))) c.args.passed.now c.requires.knows c.in-Attribute.coll

pub has_object-requires-clause-object : goal.has_object-requires-clause-object
has_object-requires-clause-object c =
    object_before c.args.sup.now c.args.rows.now.rows (IsBelow (row_key (format_row c.args.row.now c.requires.value))) c.args.passed.now c.requires.knows c.in-Attribute.coll c.in-Attribute.object

pub has_object-requires-in-OmapHeader-clause-collection : goal.has_object-requires-in-OmapHeader-clause-collection
has_object-requires-in-OmapHeader-clause-collection c =
    collection_before c.args.sup.now c.args.rows.now.rows (IsBelow (row_key (format_row c.args.row.now c.requires.value))) c.args.passed.now c.requires.knows c.in-OmapHeader.coll

pub has_object-requires-in-OmapHeader-clause-object : goal.has_object-requires-in-OmapHeader-clause-object
has_object-requires-in-OmapHeader-clause-object c =
    object_before c.args.sup.now c.args.rows.now.rows (IsBelow (row_key (format_row c.args.row.now c.requires.value))) c.args.passed.now c.requires.knows c.in-OmapHeader.coll c.in-OmapHeader.object

pub has_object-requires-in-OmapPair-clause-collection : goal.has_object-requires-in-OmapPair-clause-collection
has_object-requires-in-OmapPair-clause-collection c =
    collection_before c.args.sup.now c.args.rows.now.rows (IsBelow (row_key (format_row c.args.row.now c.requires.value))) c.args.passed.now c.requires.knows c.in-OmapPair.coll

pub has_object-requires-in-OmapPair-clause-object : goal.has_object-requires-in-OmapPair-clause-object
has_object-requires-in-OmapPair-clause-object c =
    object_before c.args.sup.now c.args.rows.now.rows (IsBelow (row_key (format_row c.args.row.now c.requires.value))) c.args.passed.now c.requires.knows c.in-OmapPair.coll c.in-OmapPair.object
