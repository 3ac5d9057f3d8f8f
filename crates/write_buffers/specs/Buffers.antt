-- Which units' bytes are in memory.
use Rattle.std.specs.Prelude.{◌≡◌, ℕ, ◌+◌, ◌<◌, List, Option, None, nat_eq}
use Rattle.std.specs.HashMap.{get}
use Rattle.write_buffers.specs.declared.buffers.WriteBuffers.{WriteBuffers}

-- the bytes of a unit that are in memory
abbrev pub memory_in : WriteBuffers → ℕ → Option (List ℕ)
memory_in b unit = get nat_eq b.by_unit unit

-- none of so many units from one on is in memory
abbrev pub AreNotIn : (ℕ → Option (List ℕ)) → ℕ → ℕ → Type 0
AreNotIn memory at count = (i : ℕ) → i < count → memory (at + i) ≡ None
