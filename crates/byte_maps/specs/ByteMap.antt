-- Finite maps under byte strings, in byte order.
use Rattle.std.specs.Prelude.{ℕ, Bool, not, ◌&&◌, List}
use Rattle.std.specs.Ordering.{nat_cmp, is_lt}
use Rattle.std.specs.declared.cmp.Ordering.{Ordering}
use Rattle.std.specs.Cmp.Lexicographic.{slice_cmp}
use Rattle.std.specs.FinMap.{FinMap}

-- the order of byte strings: the first byte that differs decides, and a front of a string is below it
abbrev pub byte_order : List ℕ → List ℕ → Ordering
byte_order = slice_cmp nat_cmp

-- a finite map from byte strings
abbrev pub ByteMap : Type 0 → Type 0
ByteMap X = FinMap byte_order X

-- first ≤ k < last in byte order
abbrev pub in_range : List ℕ → List ℕ → List ℕ → Bool
in_range first last k = not (is_lt (byte_order k first)) && is_lt (byte_order k last)
