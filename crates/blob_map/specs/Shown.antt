-- Places as Rust has them.
use Rattle.row_format.specs.Prelude.{Place, own, slot}
use Rattle.blob_map.specs.declared.place.At.{At}
use Rattle.blob_map.specs.declared.place.At.TheVariants.{Unit as OnUnit, Slot as OnSlot}

abbrev pub shown : At → Place
shown (OnUnit unit csum) = own unit csum
shown (OnSlot sbid index) = slot sbid index

abbrev pub of_shown : Place → At
of_shown (own unit csum) = OnUnit unit csum
of_shown (slot sbid index) = OnSlot sbid index
