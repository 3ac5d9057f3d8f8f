use Rattle.std.proofs.Common.{◌-◌, ◌*◌, ◌/◌, length, arith}
use Rattle.crc32c_csum.specs.Prelude.{of_taken}
use Rattle.crc32c_csum.proofs.Folding.{last_out}
use Rattle.crc32c_csum.proofs.fold.after_last.Goals as goal

pub returns : goal.returns
returns c =
    let n = (length c.args.bytes.now - 304) / 16 * 16 in
    last_out n (of_taken 0 c.args.taken.now) (of_taken 0 c.last_taken.result) c.of_last.result c.args.bytes.now c.split_at.result.0.now c.split_at.result.1.now
    c.split_at-2.result.0.now c.split_at-2.result.1.now c.take_all_out.new.taken c.split_at.ensures.front c.split_at.ensures.back (omega arith)
    c.split_at-2.ensures.front c.split_at-2.ensures.back c.take_all_out.ensures c.last_taken.ensures.same c.of_last.ensures
