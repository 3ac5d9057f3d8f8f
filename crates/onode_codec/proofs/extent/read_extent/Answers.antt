use Rattle.std.proofs.Common.{◌≡◌, ◌<◌, length, subst}
use Rattle.std.specs.Prelude.{MatchOption}
use Rattle.unit_fields.specs.Prelude.{bytes_of}
use Rattle.onode_codec.specs.declared.extent.Start.TheVariants.{Unit as OnUnit}
use Rattle.onode_codec.specs.Reading.{ReadsHead, ReadsCsums}
use Rattle.onode_codec.proofs.ExtentReading.{csums_missing}
use Rattle.onode_codec.proofs.extent.read_extent.Goals as goal

pub returns-in-None : goal.returns-in-None
returns-in-None c =
    let few : length c.read.new.fields < bytes_of c.args.width c.in-Some.head.count =
    subst (λ found. MatchOption found (length c.read.new.fields < bytes_of c.args.width c.in-Some.head.count)
    (ReadsCsums c.args.width c.in-Some.head.count c.read.new.fields c.read_csums.new.fields)) c.in-None.is c.in_ok-csums-in-Unit.ensures in
    let same : c.in-Some.head ≡ record { first = c.in-Some.head.first; count = c.in-Some.head.count; start = OnUnit c.in-Unit.unit } =
    λ i. record { first = c.in-Some.head.first; count = c.in-Some.head.count; start = c.in-Unit.is i } in
    csums_missing c.args.width c.args.fields.now c.read.new.fields c.in-Some.head.first c.in-Some.head.count c.in-Unit.unit
    (subst (λ h. ReadsHead c.args.fields.now c.read.new.fields h) same c.in-Some.ensures) few
