use Rattle.std.proofs.Common.{◌≢◌, [], rules}
use Rattle.onode_codec.specs.Reading.{BeginsWithNoExtent}
use Rattle.onode_codec.proofs.ExtentReading.{no_spelling}
use Rattle.onode_codec.proofs.extent.decode_extents.Goals as goal

pub returns-in_default : goal.returns-in_default
returns-in_default c = λ es spelled.
    let some : c.extents.fields ≢ [] = search rules in
    let begins : BeginsWithNoExtent c.args.width c.extents.fields = search rules in
    no_spelling c.args.width c.args.bytes.now c.extents.fields c.extents.extents.items es c.extents.invariant.0 c.extents.invariant.1 some
    begins spelled
