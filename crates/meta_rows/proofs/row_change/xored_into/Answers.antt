use Rattle.std.proofs.Common.{◌∙◌, sym}
use Rattle.meta_rows.proofs.XorLemmas.{xor_bytes-none, xor_bytes-take_more, xor_bytes-place}
use Rattle.meta_rows.proofs.row_change.xored_into.Goals as goal

pub loop-i-init : goal.loop-i-init
loop-i-init c = sym (xor_bytes-none c.args.long)

pub flip_byte-requires : goal.flip_byte-requires
flip_byte-requires c =
    xor_bytes-place c.loop-i.bytes c.args.long c.args.short.now c.as_slice-byte-items.result.now c.loop-i.i
    c.as_slice-byte-items.ensures c.loop-i.invariant c.loop-i-test.true c.requires

pub loop-i-preserved : goal.loop-i-preserved
loop-i-preserved c =
    c.flip_byte.ensures
    ∙ xor_bytes-take_more c.loop-i.bytes c.args.long c.args.short.now c.as_slice-byte-items.result.now c.loop-i.i 0 0
    c.as_slice-byte-items.ensures c.loop-i.invariant c.loop-i-test.true c.requires
