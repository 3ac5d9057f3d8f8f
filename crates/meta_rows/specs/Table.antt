-- The rows in memory.
use Rattle.std.specs.Prelude.{◌≡◌, ℕ, ◌+◌, ◌<◌, ◌≤◌, Bool, true, false, not, Option, Some, None, List, [], unwrap_or, if◌then◌else◌, length, take, drop, set, get_or, ◌%◌, ◌^◌, refl}
use Rattle.std.specs.List.{AllByRecursion, filter, insert, remove}
use Rattle.std.specs.Ordering.{is_lt, eq_by_cmp}
use Rattle.std.specs.FinMap as map
use Rattle.std.specs.FinMap.{find, put}
use Rattle.std.specs.FinMap.Entries.{where_key}
use Rattle.std.specs.Coded.{Coded, code_by, coded×, coded_ℕ, coded_list}
use Rattle.byte_maps.specs.ByteMap.{byte_order, in_range}
use Rattle.byte_maps.specs.Totals.{added, total}
use Rattle.meta_rows.specs.Rows.{Rows, xor_bytes, all_zero, key_of}
use Rattle.meta_rows.specs.declared.row_op.RowOp.{RowOp}
use Rattle.meta_rows.specs.declared.row_op.RowOp.TheVariants.{Set, Drop, Flip}

-- the rows, and how many more operations they take without memory
pub record RowsWithRoom : Type 0 where
  pub rows : Rows
  pub room : ℕ

abbrev pub rows_with_room_code : Coded RowsWithRoom
rows_with_room_code =
    code_by (Rows × ℕ) (coded× (map.code (coded_list coded_ℕ) (coded_list coded_ℕ)) coded_ℕ) (λ t. (t.rows, t.room)) (λ p. record {
      rows = p.0;
      room = p.1;
    }) (λ _. refl)

-- the bytes of the rows, each spelled as an operation that sets it: a code, two lengths, the key and the value
abbrev pub rows_size : Rows → ℕ
rows_size rows = total (λ key value. 7 + length key + length value) rows

-- first ≤ key < end in byte order; without an end, first ≤ key
abbrev pub is_from_to : List ℕ → Option (List ℕ) → List ℕ → Bool
is_from_to first None key = not (is_lt (byte_order key first))
is_from_to first (Some end) key = in_range first end key

-- the rows of a range of keys, in the order of their keys
abbrev pub rows_from_to : Rows → List ℕ → Option (List ℕ) → List (List ℕ × List ℕ)
rows_from_to rows first end = filter (λ row. is_from_to first end row.0) (map.entries rows)

-- each of these keys is below `key`; none is
abbrev pub AllBelow : List ℕ → List (List ℕ × List ℕ) → Type 0
AllBelow key rows = AllByRecursion (λ row. is_lt (byte_order row.0 key) ≡ true) rows

abbrev pub NoneBelow : List ℕ → List (List ℕ × List ℕ) → Type 0
NoneBelow key rows = AllByRecursion (λ row. is_lt (byte_order row.0 key) ≡ false) rows

-- in rows in order, those from this place on are those whose keys are at least `key`
abbrev pub StartsAt : List ℕ → List (List ℕ × List ℕ) → ℕ → Type 0
StartsAt key es at = (at ≤ length es) × AllBelow key (take at es) × NoneBelow key (drop at es)

-- the row at a place is below `key`, and the one behind it is there and isn't
abbrev pub IsLastBelow : List ℕ → List (List ℕ × List ℕ) → ℕ → Type 0
IsLastBelow key es at =
    (at + 1 < length es) × ((d : List ℕ × List ℕ) → is_lt (byte_order (get_or es at d).0 key) ≡ true)
    × ((d : List ℕ × List ℕ) → is_lt (byte_order (get_or es (at + 1) d).0 key) ≡ false)

-- those whose keys are below `end` are those before this place; without an end all are
abbrev pub EndsAt : Option (List ℕ) → List (List ℕ × List ℕ) → ℕ → Type 0
EndsAt None es at = at ≡ length es
EndsAt (Some end) es at = StartsAt end es at

-- the value that an operation leaves of what its key had
abbrev pub value_left : Option (List ℕ) → RowOp → Option (List ℕ)
value_left held (Set key value) = Some value
value_left held (Drop key) = None
value_left held (Flip key mask) = let value = xor_bytes (unwrap_or held []) mask in if all_zero value then None else Some value

-- the rows with a value, if there is one, under a key that they lack
abbrev pub with_left : Rows → List ℕ → Option (List ℕ) → Rows
with_left rows key None = rows
with_left rows key (Some value) = map.insert rows key value

-- the bytes of rows in a list, each spelled as an operation that sets it
abbrev pub list_size : List (List ℕ × List ℕ) → ℕ
list_size es = added (λ key value. 7 + length key + length value) es

-- rows in the order of their keys, with a value under a key, or without the key
abbrev pub with_value : List (List ℕ × List ℕ) → List ℕ → Option (List ℕ) → List (List ℕ × List ℕ)
with_value es key None = where_key byte_order (λ k. not (eq_by_cmp byte_order key k)) es
with_value es key (Some value) = put byte_order key value es

-- what an operation makes of them
abbrev pub entries_after : List (List ℕ × List ℕ) → RowOp → List (List ℕ × List ℕ)
entries_after es op = with_value es (key_of op) (value_left (find byte_order (key_of op) es) op)

-- the row at a place gets a value, or goes
abbrev pub left_at : List (List ℕ × List ℕ) → ℕ → Option (List ℕ) → List (List ℕ × List ℕ)
left_at es at None = remove es at
left_at es at (Some value) = set es at ((get_or es at ([], [])).0, value)

-- a row comes at a place, or not
abbrev pub come_at : List (List ℕ × List ℕ) → ℕ → List ℕ → Option (List ℕ) → List (List ℕ × List ℕ)
come_at es at key None = es
come_at es at key (Some value) = insert es at (key, value)

-- the bytes of the one list and `more` are those of the other, in 64 bits
abbrev pub GrowsBy : ℕ → List (List ℕ × List ℕ) → List (List ℕ × List ℕ) → Type 0
GrowsBy more old new = (list_size old + more) % 2 ^ 64 ≡ list_size new % 2 ^ 64
