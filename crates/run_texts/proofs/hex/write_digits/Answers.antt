use Rattle.std.proofs.Common.{arith}
use Rattle.run_texts.proofs.HexLemmas.{one_byte_more, all_bytes}
use Rattle.run_texts.proofs.hex.write_digits.Goals as goal

pub bytes-preserved : goal.bytes-preserved
bytes-preserved c =
    one_byte_more c.args.bytes.now c.bytes.digits c.bytes.i _ _ (omega arith) (omega arith) c.digit.ensures c.digit-in-bytes.ensures c.bytes.invariant

pub returns : goal.returns
returns c = all_bytes c.args.bytes.now _ c.bytes.i (omega arith) (omega arith) c.bytes.invariant
