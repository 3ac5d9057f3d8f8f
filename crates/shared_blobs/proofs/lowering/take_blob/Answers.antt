use Rattle.std.proofs.lemmas.Result.{IfOk-weaker}
use Rattle.shared_blobs.proofs.BlobRows.{units_if}
use Rattle.shared_blobs.proofs.lowering.take_blob.Goals as goal

pub returns-in-None-clause-units : goal.returns-in-None-clause-units
returns-in-None-clause-units c =
    IfOk-weaker c.read_blob.result _ _ (units_if c.args.width c.args.rows.now.rows c.requires.good c.args.sbid c.ranges.sbid.fits) c.read_blob.ensures
