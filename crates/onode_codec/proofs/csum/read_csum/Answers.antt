use Rattle.onode_codec.proofs.ExtentReading.{csum_read}
use Rattle.onode_codec.proofs.csum.read_csum.Goals as goal

pub returns : goal.returns
returns c = csum_read c.args.width c.args.fields.now c.u32.new.self c.u32.result c.u32.ensures
