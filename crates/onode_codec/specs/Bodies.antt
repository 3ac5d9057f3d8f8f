-- Where an extent's pages stand, as the formats name it.
use Rattle.row_format.specs.Extents as format
use Rattle.onode_codec.specs.declared.extent.Body.{Body}
use Rattle.onode_codec.specs.declared.extent.Body.TheVariants.{Private, Shared}

-- the same units and checksums, or slots
abbrev pub body_of : Body → format.Body
body_of (Private unit csums) = format.private unit csums
body_of (Shared sbid first count) = format.shared sbid first count
