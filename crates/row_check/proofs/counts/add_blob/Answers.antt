use Rattle.std.proofs.lemmas.Result.{on_ok_weaker}
use Rattle.row_check.specs.Tallies.{BeginsBlob}
use Rattle.row_check.proofs.BlobList.{no_blob_added, row_added}
use Rattle.row_check.proofs.counts.add_blob.Goals as goal

pub returns-then-not-is_blob_key : goal.returns-then-not-is_blob_key
returns-then-not-is_blob_key c =
    let other : ¬ (BeginsBlob c.args.key.now) = λ begins. let yes = c.if-not-is_blob_key.ensures.1 begins in cc in
    no_blob_added c.args.width c.args.key.now c.args.value.now c.args.tallies.now other

pub returns : goal.returns
returns c =
    on_ok_weaker c.add_row.result
    (row_added c.args.width c.args.key.now c.args.value.now c.args.tallies.now c.add_row.new.tallies c.in_ok-row.row c.in_ok-row.ensures) c.add_row.ensures
