use Rattle.std.proofs.Common.{◌*◌, arith}
use Rattle.meta_rows.specs.Prelude.{row_sets}
use Rattle.meta_log.proofs.RowsLemmas.{filled}
use Rattle.meta_log.proofs.rows_record.Progress.spelled.Goals as goal

pub returns : goal.returns
returns c =
    let r = c.args.self.now in
    let ops = row_sets c.args.rows.now.rows in
    filled r.number ops c.args.first c.args.count (c.args.count * 4096) c.in_ok-bytes.bytes.len c.in_ok-bytes.bytes.items c.resize.new.self.items c.requires.some
    (omega (arith, c.requires.within, c.requires.record.units)) c.in_ok-bytes.ensures (omega arith) c.in_ok-bytes.bytes.ok.0 c.in_ok-resize.ensures.items
