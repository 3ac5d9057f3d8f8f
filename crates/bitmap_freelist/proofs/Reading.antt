-- The units whose bits are 1, read row by row.
use Rattle.std.proofs.Common.{◌≡◌, ◌≢◌, ◌↔◌, ◌⊎◌, inl, inr, ⊎_elim, ℕ, zero, suc, ◌+◌, ◌*◌, ◌/◌, ◌%◌, ◌^◌, ◌<◌, ◌≤◌, Bool, true, false, cond, not}
use Rattle.std.proofs.Common.{◌&&◌, ◌||◌, T, Option, Some, None, Result, Ok, Err, OnOk, List, [], ◌∷◌, length, get_or, drop, filter}
use Rattle.std.proofs.Common.{drop_of_length-le, refl, sym, ap, subst, ◌∙◌, arith}
use Rattle.std.specs.Prelude.{unwrap_or}
use Rattle.std.specs.List.{AllByRecursion}
use Rattle.std.specs.Int.{w32, to_be_bytes}
use Rattle.std.specs.Ordering.{nat_cmp, is_lt, is_eq, eq_by_cmp, ordering_then, ordering_reverse}
use Rattle.std.specs.declared.cmp.Ordering.{Ordering}
use Rattle.std.specs.declared.cmp.Ordering.TheVariants.{Less, Equal, Greater}
use Rattle.std.specs.Cmp.{nat_cmp_total}
use Rattle.std.specs.Cmp.Lexicographic.{slice_cmp}
use Rattle.std.specs.FinMap as map
use Rattle.std.specs.FinMap.{find, is_sorted}
use Rattle.std.specs.FinMap.Entries.{below_all}
use Rattle.std.specs.FinSet as set
use Rattle.std.proofs.lemmas.Bool.{cases_Bool, cases_lt, cases_eq}
use Rattle.std.proofs.lemmas.Bool.Decides.{nat_tests}
use Rattle.std.proofs.lemmas.Cmp.{tied_itself, nat_list_cmp_total}
use Rattle.std.proofs.lemmas.List.{drop_more}
use Rattle.byte_maps.specs.ByteMap.{byte_order, in_range}
use Rattle.byte_maps.proofs.Prelude.{same_bytes, both_first, both_second}
use Rattle.meta_rows.specs.Prelude.{Rows, row, rows_from_to}
use Rattle.row_format.specs.Prelude.{bitmap_key, bit_in}
use Rattle.store_image.specs.Prelude.{IsMarked}
use Rattle.bitmap_freelist.specs.Bitmap.{Units, Has, IsBitmapRow, AreBitmapRows, AreMarked}
use Rattle.bitmap_freelist.specs.Masks.{AddsUpTo, IsMarkedBy, AddsRow}
use Rattle.bitmap_freelist.proofs.Bits.{bit_in-zeros}
use Rattle.bitmap_freelist.proofs.Turning.{same_row}

-- a key and its value
abbrev Entry : Type 0
Entry = List ℕ × List ℕ

-- ---- bits of one row

-- a unit that was put in
pub has_insert : (s : Units) (k unit : ℕ) → Has (set.insert s k) unit ↔ ((unit ≡ k) ⊎ Has s unit)
has_insert s k unit =
    let test = set.contains-insert nat_cmp_total s k unit in
    elim (cases_eq unit k) [
      | inl one ↦
          let own : eq_by_cmp nat_cmp unit k ≡ true = grind (arith, nat_tests) in
          (λ has. inl one, λ is. test ∙ ap (λ b. b || set.contains s unit) own)
      | inr other ↦
          let no : eq_by_cmp nat_cmp unit k ≡ false = grind (arith, nat_tests) in
          let held = test ∙ ap (λ b. b || set.contains s unit) no in
          (λ has. inr (sym held ∙ has), ⊎_elim (λ one. absurd (other one)) (λ has. held ∙ has))
    ]

-- the bit of the unit at a place of its row
bit_at_place : (value : List ℕ) (unit place : ℕ) → unit % 128 ≡ place → bit_in value unit ≡ get_or value (place / 8) 0 / 2 ^ (place % 8) % 2
bit_at_place value unit place own =
    let low : unit % 8 ≡ place % 8 = omega (arith, own) in
    ap (λ p. get_or value (p / 8) 0 / 2 ^ (unit % 8) % 2) own ∙ ap (λ k. get_or value (place / 8) 0 / 2 ^ k % 2) low

module _ (row : ℕ) (value : List ℕ) (old s : Units) (place : ℕ) (below : place < 128) (adds : AddsUpTo place row value old s) where
  -- a place whose bit is 1
  pub add_one : get_or value (place / 8) 0 / 2 ^ (place % 8) % 2 ≡ 1 → AddsUpTo (place + 1) row value old (set.insert s (128 * row + place))
  add_one one unit = (
    λ has. ⊎_elim
        (λ own.
        let of_row : unit / 128 ≡ row = omega (arith, own, below) in
        let at : unit % 128 ≡ place = omega (arith, own, below) in
        inr (of_row, omega (arith, at), bit_at_place value unit place at ∙ one))
        (λ held. ⊎_elim (λ was. inl was) (λ is. inr (is.0, omega (arith, is.1), is.2)) ((adds unit).0 held))
        ((has_insert s (128 * row + place) unit).0 has),
    λ is. (has_insert s (128 * row + place) unit).1 (⊎_elim (λ was. inr ((adds unit).1 (inl was)))
        (λ is. elim (cases_eq (unit % 128) place) [
          | inl at ↦ inl (omega (arith, is.0, at))
          | inr apart ↦ inr ((adds unit).1 (inr (is.0, omega (arith, is.1, apart), is.2)))
        ]) is),
  )

  -- one whose bit is 0
  pub skip_one : (get_or value (place / 8) 0 / 2 ^ (place % 8) % 2 ≢ 1) → AddsUpTo (place + 1) row value old s
  skip_one zero_there unit = (
    λ has. ⊎_elim (λ was. inl was) (λ is. inr (is.0, omega (arith, is.1), is.2)) ((adds unit).0 has),
    ⊎_elim (λ was. (adds unit).1 (inl was))
        (λ is. elim (cases_eq (unit % 128) place) [
          | inl at ↦ absurd (zero_there (sym (bit_at_place value unit place at) ∙ is.2))
          | inr apart ↦ (adds unit).1 (inr (is.0, omega (arith, is.1, apart), is.2))
        ]),
  )

-- before the first place
pub none_yet : (row : ℕ) (value : List ℕ) (s : Units) → AddsUpTo 0 row value s s
none_yet row value s unit = (λ has. inl has, ⊎_elim (λ has. has) (λ is. absurd (omega (arith, is.1))))

-- all places of the row
pub all_places : (row : ℕ) (key value : List ℕ) (old new : Units) → row < 33554432 → key ≡ bitmap_key row → AddsUpTo 128 row value old new
    → AddsRow key value old new
all_places row key value old new below key_is adds unit = (
  λ has. ⊎_elim (λ was. inl was) (λ is. inr (omega (arith, is.0, below), key_is ∙ ap bitmap_key (sym is.0), is.2)) ((adds unit).0 has),
  ⊎_elim (λ was. (adds unit).1 (inl was))
      (λ is. (adds unit).1 (inr (same_row (unit / 128) row (omega (arith, is.0)) below (sym is.1 ∙ key_is), omega arith, is.2))),
)

-- ---- rows one after another

-- one of these rows says that the unit is taken
abbrev pub Marks : List Entry → ℕ → Type 0
Marks [] unit = ⊥
Marks (e ∷ es) unit = IsMarkedBy unit e.0 e.1 ⊎ Marks es unit

-- The set has the units of the rows gone through: with those of the rows that are left they are those of all.
abbrev pub HasSoFar : List Entry → List Entry → Units → Type 0
HasSoFar all left units = (unit : ℕ) → (Has units unit ⊎ Marks left unit) ↔ Marks all unit

-- before the first row
pub at_start : (all : List Entry) → HasSoFar all all set.empty
at_start all unit = (
  ⊎_elim (λ has. absurd (let no = sym (set.contains-empty nat_cmp unit) ∙ has in cc)) (λ is. is),
  λ is. inr is,
)

-- one more row
one_row : (all left : List Entry) (e : Entry) (old new : Units) → HasSoFar all (e ∷ left) old → AddsRow e.0 e.1 old new → HasSoFar all left new
one_row all left e old new so adds unit = (
  λ is. (so unit).0 (⊎_elim (λ has. ⊎_elim (λ was. inl was) (λ own. inr (inl own)) ((adds unit).0 has)) (λ later. inr (inr later)) is),
  λ is. ⊎_elim (λ was. inl ((adds unit).1 (inl was))) (⊎_elim (λ own. inl ((adds unit).1 (inr own))) (λ later. inr later)) ((so unit).1 is),
)

-- the same as a loop sees it
pub on_row : (all es : List Entry) (i : ℕ) (x : Entry) (key value : List ℕ) (old new : Units) → i < length es → x ≡ get_or es i x → key ≡ x.0
    → value ≡ x.1
    → HasSoFar all (drop i es) old → AddsRow key value old new → HasSoFar all (drop (i + 1) es) new
on_row all es i x key value old new lt is k v so adds =
    let item = get_or es i x in
    let own = subst (λ k. AddsRow k item.1 old new) (k ∙ ap (λ (e : Entry). e.0) is) (subst (λ w. AddsRow key w old new) (v ∙ ap (λ (e : Entry).
    e.1) is) adds) in
    one_row all (drop (i + 1) es) item old new (subst (λ l. HasSoFar all l old) (drop_more es i x lt) so) own

-- ---- the rows of the table

module _ (p : Entry → Bool) where
  abbrev front : Entry → List Entry → Bool → List Entry
  front e es b = cond b (e ∷ filter p es) (filter p es)

  -- what holds of all that pass
  filtered_all : (P Q : Entry → Type 0) → ((e : Entry) → P e → p e ≡ true → Q e) → (es : List Entry) → AllByRecursion P es
      → AllByRecursion Q (filter p es)
  filtered_all P Q f [] all = tt
  filtered_all P Q f (e ∷ es) all = elim (cases_Bool (p e)) [
    | inl is ↦ subst (λ b. AllByRecursion Q (front e es b)) (sym is) (f e all.0 is, filtered_all P Q f es all.1)
    | inr is ↦ subst (λ b. AllByRecursion Q (front e es b)) (sym is) (filtered_all P Q f es all.1)
  ]

  -- rows that say that a unit is taken pass
  filtered_marks : (es : List Entry) (unit : ℕ) → ((e : Entry) → IsMarkedBy unit e.0 e.1 → p e ≡ true) → Marks es unit → Marks (filter p es) unit
  filtered_marks [] unit passes is = is
  filtered_marks (e ∷ es) unit passes (inl own) = subst (λ b. Marks (front e es b) unit) (sym (passes e own)) (inl own)
  filtered_marks (e ∷ es) unit passes (inr later) = elim (cases_Bool (p e)) [
    | inl is ↦ subst (λ b. Marks (front e es b) unit) (sym is) (inr (filtered_marks es unit passes later))
    | inr is ↦ subst (λ b. Marks (front e es b) unit) (sym is) (filtered_marks es unit passes later)
  ]

-- a test that says equal
is_equal : (o : Ordering) → T (is_eq o) → o ≡ Equal
is_equal Less h = absurd h
is_equal Equal h = refl
is_equal Greater h = absurd h

-- a test that says less
is_less : (o : Ordering) → T (is_lt o) → o ≡ Less
is_less Less h = refl
is_less Equal h = absurd h
is_less Greater h = absurd h

-- a row that is found, and that says that the unit is taken, is one of the entries
found_marks : (es : List Entry) (key value : List ℕ) (unit : ℕ) → IsMarkedBy unit key value → find byte_order key es ≡ Some value → Marks es unit
found_marks [] key value unit own is = absurd cc
found_marks (e ∷ es) key value unit own is =
    elim (is_eq (byte_order key e.0)) as (λ b. is_eq (byte_order key e.0) ≡ b → cond b (Some e.1) (find byte_order key es) ≡ Some value → Marks (e
    ∷ es) unit) [
      | true ↦ λ t h.
          let k = same_bytes key e.0 (is_equal _ (subst T (sym t) tt)) in
          let v : e.1 ≡ value = cc in
          inl (own.0, sym k ∙ own.1, ap (λ w. bit_in w unit) v ∙ own.2)
      | false ↦ λ t h. inr (found_marks es key value unit own h)
    ] refl is

-- an entry is found under its key
abbrev IsFound : List Entry → Entry → Type 0
IsFound es e = find byte_order e.0 es ≡ Some e.1

-- entries behind another one are found as before
found_later : (e : Entry) (es later : List Entry) → T (below_all byte_order e.0 later) → AllByRecursion (IsFound es) later
    → AllByRecursion (IsFound (e ∷ es)) later
found_later e es [] below all = tt
found_later e es (x ∷ later) below all =
    let less = is_less (byte_order e.0 x.0) (both_first _ _ below) in (
      ap (λ b. cond b (Some e.1) (find byte_order x.0 es)) (ap is_eq (nat_list_cmp_total.antisymm x.0 e.0 ∙ ap ordering_reverse less)) ∙ all.0,
      found_later e es later (both_second _ _ below) all.1,
    )

-- each entry of a sorted list is found under its key
all_found : (es : List Entry) → T (is_sorted byte_order es) → AllByRecursion (IsFound es) es
all_found [] h = tt
all_found (e ∷ es) h = (
  ap (λ r. cond (is_eq r) (Some e.1) (find byte_order e.0 es)) (tied_itself nat_list_cmp_total e.0),
  found_later e es es (both_first _ _ h) (all_found es (both_second _ _ h)),
)

-- ---- keys that begin with "b"

-- the key is at least "b" and below "c"
abbrev is_between : List ℕ → Bool
is_between key = in_range (0x62 ∷ []) (0x63 ∷ []) key

-- each key that begins with "b" is
table_between : (rest : List ℕ) → is_between (0x62 ∷ rest) ≡ true
table_between [] = refl
table_between (x ∷ rest) = refl

-- the first of two that are true
left_of : (a b : Bool) → (a && b) ≡ true → a ≡ true
left_of true b is = refl
left_of false b is = is

-- the second
right_of : (a b : Bool) → (a && b) ≡ true → b ≡ true
right_of true b is = is
right_of false b is = absurd cc

-- what a first byte that is not below says
not_less : (r s : Ordering) → not (is_lt (ordering_then r s)) ≡ true → r ≢ Less
not_less Less s is e = absurd cc
not_less Equal s is e = absurd cc
not_less Greater s is e = absurd cc

-- what a string that is below one of a single byte says
less_then : (q : Ordering) (ks : List ℕ) → is_lt (ordering_then q (slice_cmp nat_cmp ks [])) ≡ true → q ≡ Less
less_then Less ks is = refl
less_then Equal [] is = absurd cc
less_then Equal (k ∷ ks) is = absurd cc
less_then Greater ks is = absurd cc

-- a number that does not compare as less
at_least : (a b : ℕ) → nat_cmp a b ≢ Less → b ≤ a
at_least a b apart = elim (cases_lt a b) [
  | inl lt ↦ absurd (apart (let is : nat_cmp a b ≡ Less = grind (arith, nat_tests) in is))
  | inr ge ↦ ge
]

-- a number that compares as less
below_it : (a b : ℕ) → nat_cmp a b ≡ Less → a < b
below_it a b is = grind (arith, nat_tests)

-- a key between "b" and "c" begins with "b"
begins : (key : List ℕ) → is_between key ≡ true → (rest : List ℕ) × (key ≡ 0x62 ∷ rest)
begins [] is = absurd cc
begins (k ∷ ks) is =
    let low : nat_cmp k 0x62 ≢ Less = not_less (nat_cmp k 0x62) (slice_cmp nat_cmp ks []) (left_of (not (is_lt (byte_order (k ∷ ks) (0x62 ∷ []))))
    (is_lt (byte_order (k ∷ ks) (0x63 ∷ []))) is) in
    let high : nat_cmp k 0x63 ≡ Less = less_then (nat_cmp k 0x63) ks (right_of (not (is_lt (byte_order (k ∷ ks) (0x62 ∷ [])))) (is_lt (byte_order
    (k ∷ ks) (0x63 ∷ []))) is) in
    let least : 0x62 ≤ k = at_least k 0x62 low in
    let most : k < 0x63 = below_it k 0x63 high in
    let own : k ≡ 0x62 = omega (arith, least, most) in
    (ks, ap (λ n. n ∷ ks) own)

-- an entry of the map that is of the table
abbrev pub IsTableEntry : Rows → Entry → Type 0
IsTableEntry rows e = (map.get rows e.0 ≡ Some e.1) × IsBitmapRow e.0 e.1

-- the rows of the table, in order
abbrev pub table : Rows → List Entry
table rows = rows_from_to rows (0x62 ∷ []) (Some (0x63 ∷ []))

-- each of them is of the table
pub table_entries : (rows : Rows) → AreBitmapRows rows → AllByRecursion (IsTableEntry rows) (table rows)
table_entries rows are =
    filtered_all (λ e. is_between e.0) (IsFound (map.entries rows)) (IsTableEntry rows) one (map.entries rows) (all_found (map.entries rows)
    (map.entries_sorted rows))
  where
    one : (e : Entry) → IsFound (map.entries rows) e → is_between e.0 ≡ true → IsTableEntry rows e
    one e found is =
        let there = map.get-entries rows e.0 ∙ found in
        let b = begins e.0 is in
        (there, subst (λ k. IsBitmapRow k e.1) (sym b.1) (are b.0 e.1 (ap (map.get rows) (sym b.1) ∙ there)))

-- what holds of all holds at each place
pub entry_at : (P : Entry → Type 0) (es : List Entry) (i : ℕ) (d : Entry) → AllByRecursion P es → i < length es → P (get_or es i d)
entry_at P [] i d all lt = absurd (omega arith)
entry_at P (e ∷ es) zero d all lt = all.0
entry_at P (e ∷ es) (suc i) d all lt = entry_at P es i d all.1 (omega arith)

-- the row that a loop sees is of the table
pub table_row : (rows : Rows) (es : List Entry) (i : ℕ) (x : Entry) (key value : List ℕ) → AreBitmapRows rows → es ≡ table rows → i < length es
    → x ≡ get_or es i x → key ≡ x.0 → value ≡ x.1 → IsBitmapRow key value
table_row rows es i x key value are es_are lt is k v =
    let there = entry_at (IsTableEntry rows) es i x (subst (AllByRecursion (IsTableEntry rows)) (sym es_are) (table_entries rows are)) lt in
    let e = subst (λ (e : Entry). IsBitmapRow e.0 e.1) (sym is) there.1 in
    subst (λ k. IsBitmapRow k value) (sym k) (subst (IsBitmapRow x.0) (sym v) e)

-- a unit that one of the rows says is taken is marked
some_marks : (rows : Rows) (es : List Entry) (unit : ℕ) → AllByRecursion (IsTableEntry rows) es → Marks es unit → (unit < 2 ^ 32) × IsMarked rows unit
some_marks rows [] unit all is = absurd is
some_marks rows (e ∷ es) unit all (inl own) =
    (own.0, ap (λ k. bit_in (row rows k) unit) (sym own.1) ∙ ap (λ o. bit_in (unwrap_or o []) unit) all.0.0 ∙ own.2)
some_marks rows (e ∷ es) unit all (inr later) = some_marks rows es unit all.1 later

-- a marked unit is in one of the rows
marked_there : (rows : Rows) (unit : ℕ) → unit < 2 ^ 32 → IsMarked rows unit → Marks (table rows) unit
marked_there rows unit below is = by (map.get rows (bitmap_key (unit / 128))) refl
  where
    by : (o : Option (List ℕ)) → map.get rows (bitmap_key (unit / 128)) ≡ o → Marks (table rows) unit
    by None e = absurd (omega (arith, is, ap (λ o. bit_in (unwrap_or o []) unit) e, none unit))
      where
        none : (unit : ℕ) → bit_in [] unit ≡ 0
        none unit = bit_in-zeros [] unit refl
    by (Some value) e =
        let own : IsMarkedBy unit (bitmap_key (unit / 128)) value = (below, refl, ap (λ o. bit_in (unwrap_or o []) unit) (sym e) ∙ is) in
        filtered_marks (λ e. is_between e.0) (map.entries rows) unit
        (λ e own. ap is_between own.1 ∙ table_between (to_be_bytes w32 (unit / 128)))
        (found_marks (map.entries rows) (bitmap_key (unit / 128)) value unit own (sym (map.get-entries rows (bitmap_key (unit / 128))) ∙ e))

-- before the first row
pub no_rows : (rows : Rows) (es : List Entry) (units : Units) → es ≡ table rows → units ≡ set.empty → HasSoFar (table rows) es units
no_rows rows es units es_are none =
    subst (λ l. HasSoFar (table rows) l units) (sym es_are) (subst (HasSoFar (table rows) (table rows)) (sym none) (at_start (table rows)))

-- the units of all rows of the table
pub all_rows : (rows : Rows) (es : List Entry) (i : ℕ) (units : Units) → AreBitmapRows rows → es ≡ table rows → length es ≤ i
    → HasSoFar (table rows) (drop i es) units → AreMarked rows units
all_rows rows es i units are es_are le so unit =
    let none = drop_of_length-le es le in
    let done = subst (λ l. HasSoFar (table rows) l units) none so unit in (
      λ has. some_marks rows (table rows) unit (table_entries rows are) (done.0 (inl has)),
      λ is. ⊎_elim (λ has. has) (λ no. absurd no) (done.1 (marked_there rows unit is.0 is.1)),
    )

-- the number that was read is the row's
pub same_number : (row number : ℕ) (read : Option ℕ) → read ≡ Some row → read ≡ Some number → number ≡ row
same_number row number read is was = ap (λ o. unwrap_or o 0) (sym was ∙ is)

-- all places of the row of a key, unless memory ran out
pub all_places_on : {E : Type 0} → (row number : ℕ) (key value : List ℕ) (old new : Units) (done : Result (Unit {0}) E) → row < 33554432
    → key ≡ bitmap_key row
    → number ≡ row → OnOk done (AddsUpTo 128 number value old new) → OnOk done (AddsRow key value old new)
all_places_on row number key value old new (Ok u) below key_is is adds =
    all_places row key value old new below key_is (subst (λ n. AddsUpTo 128 n value old new) is adds)
all_places_on row number key value old new (Err e) below key_is is adds = adds
