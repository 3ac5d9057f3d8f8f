use Rattle.object_rows.proofs.NamesNext.{coll_is_read, coll_reads_no_object}
use Rattle.object_rows.proofs.walk.coll_in.Goals as goal

pub unreachable-requires : goal.unreachable-requires
unreachable-requires c =
    coll_reads_no_object c.args.key.now c.in_ok-coll.field-0 c.in-Some-Object.field-0 c.in-Some-Object.field-0-0 c.in-Some-Object.field-0-1
    c.in-Some-Object.field-0-2 c.in_ok-coll.ensures c.in-Some-Object.is c.in-Some-Object.field-0-is c.requires

pub unreachable-requires-in-None : goal.unreachable-requires-in-None
unreachable-requires-in-None c = coll_is_read c.args.key.now c.in_ok-coll.field-0 c.in_ok-coll.ensures c.in-None.is c.requires
