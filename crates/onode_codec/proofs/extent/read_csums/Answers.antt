use Rattle.std.proofs.Common.{◌<◌, length, rules}
use Rattle.unit_fields.specs.Prelude.{bytes_of}
use Rattle.onode_codec.proofs.ExtentReading.{csums_short}
use Rattle.onode_codec.proofs.extent.read_csums.Goals as goal

pub returns-in_default : goal.returns-in_default
returns-in_default c =
    let few : length c.csums.fields < bytes_of c.args.width 1 = search rules in
    csums_short c.args.width c.args.count c.csums._i c.args.fields.now c.csums.fields c.csums.csums.items c.csums.invariant (search rules) few
