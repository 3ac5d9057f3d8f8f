use Rattle.std.proofs.Common.{◌≡◌, Some}
use Rattle.row_reading.specs.declared.key.RowKey.TheVariants.{Object}
use Rattle.object_rows.proofs.NamesNext.{onode_is_read, onode_reads_no_coll, reads_object}
use Rattle.object_rows.proofs.walk.object_in.Goals as goal

pub unreachable-requires : goal.unreachable-requires
unreachable-requires c =
    onode_reads_no_coll c.args.key.now c.in_ok-_coll.field-0 c.in-Some-Collection.field-0 c.in-Some-Collection.field-0-0 c.in_ok-_coll.ensures
    c.in-Some-Collection.is c.in-Some-Collection.field-0-is c.requires

pub unreachable-requires-in-None : goal.unreachable-requires-in-None
unreachable-requires-in-None c = onode_is_read c.args.key.now c.in_ok-_coll.field-0 c.in_ok-_coll.ensures c.in-None.is c.requires

pub returns : goal.returns
returns c coll object coll_is object_is is =
    let read = c.in-Some-Object in
    let outer = read.is in
    let inner = read.field-0-is in
    let got : c.in_ok-_coll.field-0 ≡ Some (Object read._coll read.object read._part) = cc in
    reads_object c.args.key.now c.in_ok-_coll.field-0 read._coll read.object read._part c.in_ok-_coll.ensures got coll object coll_is object_is is
