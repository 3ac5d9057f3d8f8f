use Rattle.std.proofs.Common.{sym, ◌∙◌}
use Rattle.log_replay.proofs.BlobNumbers.{none_read, last_read}
use Rattle.log_replay.proofs.judging.last_blob.Goals as goal

pub returns-in_err-key : goal.returns-in_err-key
returns-in_err-key c =
    none_read c.args.found.now.log.rows.rows c.range.result c.from_residual.result c.range.ensures c.in_err-key.ensures c.from_residual.ensures

pub returns : goal.returns
returns c =
    last_read c.args.found.now.sup c.args.found.now.log.rows.rows c.requires c.next_back.new.self c.in_ok-key.field-0.now
    (sym c.range.ensures ∙ c.in_ok-key.ensures) c.as_slice.result.now c.sbid_in.result c.as_slice.ensures c.sbid_in.ensures
