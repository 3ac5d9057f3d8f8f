-- Where the bytes of a byte string lie.
use Rattle.std.specs.Prelude.{ℕ, List, take, ◌≤◌}
use Rattle.byte_maps.specs.declared.bytes.Bytes.TheInside.{Inside}
use Rattle.byte_maps.specs.declared.bytes.Held.{Held}
use Rattle.byte_maps.specs.declared.bytes.Held.TheVariants.{Few, Many}

-- the bytes: the first ones of the array, or all of the buffer
abbrev pub bytes_of_held : Held → List ℕ
bytes_of_held (Few alloc count few) = take count few
bytes_of_held (Many bytes) = bytes.items

-- those in the array fit there
abbrev pub Fits : Held → Type 0
Fits (Few alloc count few) = count ≤ 30
Fits (Many bytes) = Unit {0}

abbrev pub bytes_held : Inside → List ℕ
bytes_held a = bytes_of_held a.held

abbrev pub FitsHeld : Inside → Type 0
FitsHeld a = Fits a.held
