use Rattle.onode_codec.specs.Reading.{ReadsCsums}
use Rattle.onode_codec.proofs.extent.read_csums.Given as goal

abbrev pub invariant-csums : goal.invariant-csums
invariant-csums l = ReadsCsums l.width l._i l.initial.fields l.fields l.csums.items
