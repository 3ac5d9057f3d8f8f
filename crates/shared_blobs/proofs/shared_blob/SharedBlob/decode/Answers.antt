use Rattle.shared_blobs.proofs.Values.{none_read}
use Rattle.shared_blobs.proofs.shared_blob.SharedBlob.decode.Goals as goal

pub returns-in-None : goal.returns-in-None
returns-in-None c = none_read c.args.width c.args.value.now c.in_ok-row.field-0 c.in_ok-row.ensures c.in-None.is
