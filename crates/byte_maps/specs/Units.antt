-- Units: a byte list cut into pieces of 4096 bytes.
use Rattle.std.specs.Prelude.{◌≡◌, ℕ, ◌+◌, ◌-◌, ◌*◌, ◌/◌, ◌<◌, ◌≤◌, List, ◌++◌, length, take, drop, replicate}

-- the bytes of unit k
unfoldable pub unit_at : ℕ → List ℕ → List ℕ
unit_at k bytes = take 4096 (drop (4096 * k) bytes)

-- the bytes of `count` units from unit `first` on
unfoldable pub units_from : ℕ → ℕ → List ℕ → List ℕ
units_from first count bytes = take (4096 * count) (drop (4096 * first) bytes)

-- the old bytes with these laid over them, from unit `at` on
unfoldable pub overlaid : ℕ → List ℕ → List ℕ → List ℕ
overlaid at bytes old = take (4096 * at) old ++ bytes ++ drop (4096 * at + length bytes) old

-- bytes laid at unit `at` cover unit k
abbrev pub Covers : ℕ → List ℕ → ℕ → Type 0
Covers at bytes k = (at ≤ k) × (4096 * k < 4096 * at + length bytes)

-- the bytes are this many whole units
abbrev pub IsUnits : ℕ → List ℕ → Type 0
IsUnits count bytes = length bytes ≡ 4096 * count

-- so many zeros; it does not unfold, so that no goal spells them out
unfoldable pub zeros : ℕ → List ℕ
zeros n = replicate n 0

-- how many units hold so many bytes
abbrev pub units_for : ℕ → ℕ
units_for n = (n + 4095) / 4096

-- bytes filled up with zeros to whole units
abbrev pub in_units : List ℕ → List ℕ
in_units bytes = bytes ++ zeros (4096 * units_for (length bytes) - length bytes)
