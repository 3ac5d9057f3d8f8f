use Rattle.std.proofs.Common.{Some, ap, ◌∙◌}
use Rattle.shared_blobs.proofs.BlobRows.{not_missed, decoded_is}
use Rattle.shared_blobs.proofs.lowering.read_blob.Goals as goal

pub unreachable-requires : goal.unreachable-requires
unreachable-requires c =
    not_missed c.args.width c.args.rows.now.rows c.requires c.args.sbid c.ranges.sbid.fits c.as_slice.result.now
    (ap Some c.as_slice.ensures ∙ c.in-Some.ensures) c.in_ok-blob-in-Some.field-0 c.in_ok-blob-in-Some.ensures c.in-None-2.is

pub returns-in-Some-2 : goal.returns-in-Some-2
returns-in-Some-2 c =
    decoded_is c.args.width c.args.rows.now.rows c.requires c.args.sbid c.ranges.sbid.fits c.as_slice.result.now
    (ap Some c.as_slice.ensures ∙ c.in-Some.ensures) c.in_ok-blob-in-Some.field-0 c.in_ok-blob-in-Some.ensures c.in-Some-2.blob c.in-Some-2.is
