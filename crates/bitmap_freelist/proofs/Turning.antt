-- What the operations that turn bits make of rows.
use Rattle.std.proofs.Common.{◌≡◌, ◌≢◌, ◌↔◌, ◌⊎◌, inl, inr, ⊎_elim, ℕ, zero, suc, ◌+◌, ◌/◌, ◌%◌, ◌^◌, ◌<◌, ◌≤◌, Bool, true, false, cond, Option}
use Rattle.std.proofs.Common.{Some, None, List, [], ◌∷◌, length, drop, refl, sym, ap, subst, ◌∙◌, arith}
use Rattle.std.specs.Prelude.{unwrap_or}
use Rattle.std.specs.Int.{w32, to_be_bytes, from_be_bytes}
use Rattle.std.specs.FinMap as map
use Rattle.std.proofs.lemmas.Nat.{from_be_bytes-to_be_bytes_4}
use Rattle.std.specs.declared.cmp.Ordering.{Ordering}
use Rattle.std.specs.declared.cmp.Ordering.TheVariants.{Less, Equal, Greater}
use Rattle.std.proofs.lemmas.Cmp.{tied_itself, nat_list_cmp_total}
use Rattle.byte_maps.specs.ByteMap.{byte_order}
use Rattle.byte_maps.proofs.Prelude.{same_bytes, same}
use Rattle.meta_rows.specs.Prelude.{Rows, xor_bytes, all_zero, row, row_after, rows_after, key_of, LeaveAlone}
use Rattle.meta_rows.specs.declared.row_op.RowOp.{RowOp}
use Rattle.meta_rows.specs.declared.row_op.RowOp.TheVariants.{Flip}
use Rattle.meta_rows.proofs.RowLemmas.{get-insert_same, get-remove_same, get-row_after_other, get-rows_after_other}
use Rattle.meta_rows.proofs.XorLemmas.{xor_bytes-comm}
use Rattle.row_format.specs.Prelude.{bitmap_key, bit_in}
use Rattle.store_image.specs.Prelude.{IsMarked}
use Rattle.bitmap_freelist.specs.Bitmap.{Units, Has, IsMaskOf, AreFlipsFrom, AreFlips, AreBitmapRows, NoneIsZero, IsOtherKey, ExactlyOne}
use Rattle.bitmap_freelist.proofs.Bits.{bit_in-xor_bytes, bit_in-zeros, xor_bytes-assoc, xor_bytes-zeros, xor_bytes-self, length-xor_same}

-- ---- keys

-- a key has one row
pub same_row : (r q : ℕ) → r < 33554432 → q < 33554432 → bitmap_key r ≡ bitmap_key q → r ≡ q
same_row r q lr lq e =
    sym (from_be_bytes-to_be_bytes_4 r (omega arith)) ∙ ap (from_be_bytes w32) (ap (drop 1) e) ∙ from_be_bytes-to_be_bytes_4 q (omega arith)

-- two keys are the same or not
pub cases_key : (a b : List ℕ) → (a ≡ b) ⊎ (a ≢ b)
cases_key a b = by (byte_order a b) refl
  where
    by : (o : Ordering) → byte_order a b ≡ o → (a ≡ b) ⊎ (a ≢ b)
    by Less o = inr (λ e. let tied = ap (byte_order a) e ∙ o in let itself = tied_itself nat_list_cmp_total a in absurd cc)
    by Equal o = inl (same_bytes a b o)
    by Greater o = inr (λ e. let tied = ap (byte_order a) e ∙ o in let itself = tied_itself nat_list_cmp_total a in absurd cc)

-- ---- one row

-- a value, or none where it has zeros alone
abbrev some_left : List ℕ → Option (List ℕ)
some_left value = cond (all_zero value) None (Some value)

-- what a mask leaves of what a row had
abbrev pub turned : Option (List ℕ) → List ℕ → Option (List ℕ)
turned held mask = some_left (xor_bytes (unwrap_or held []) mask)

-- the row of an operation, after it
get-flip_same : (rows : Rows) (key mask : List ℕ) → map.get (row_after rows (Flip key mask)) key ≡ turned (map.get rows key) mask
get-flip_same rows key mask =
    let value = xor_bytes (row rows key) mask in
    elim (all_zero value) as (λ b. map.get (cond b (map.remove rows key) (map.insert rows key value)) key ≡ cond b None (Some value)) [
      | true ↦ get-remove_same rows key
      | false ↦ get-insert_same rows key value
    ]

-- a bit of it
bit_in-some_left : (value : List ℕ) (unit : ℕ) → bit_in (unwrap_or (some_left value) []) unit ≡ bit_in value unit
bit_in-some_left value unit = by (all_zero value) refl
  where
    by : (b : Bool) → all_zero value ≡ b → bit_in (unwrap_or (cond b None (Some value)) []) unit ≡ bit_in value unit
    by true is = bit_in-zeros [] unit refl ∙ sym (bit_in-zeros value unit is)
    by false is = refl

-- a bit after a mask
bit_in-turned : (held : Option (List ℕ)) (mask : List ℕ) (unit : ℕ)
    → bit_in (unwrap_or (turned held mask) []) unit ≡ (bit_in (unwrap_or held []) unit + bit_in mask unit) % 2
bit_in-turned held mask unit = bit_in-some_left (xor_bytes (unwrap_or held []) mask) unit ∙ bit_in-xor_bytes (unwrap_or held []) mask unit

-- what is left has 16 bytes
turned-size : (held : Option (List ℕ)) (mask value : List ℕ) → length (unwrap_or held []) ≤ 16 → length mask ≡ 16 → turned held mask ≡ Some value
    → (length value ≡ 16) × (all_zero value ≡ false)
turned-size held mask value most size is =
    by (xor_bytes (unwrap_or held []) mask) (length-xor_same (unwrap_or held []) mask (omega arith) ∙ size) (all_zero (xor_bytes (unwrap_or held
    []) mask)) refl is
  where
    by : (left : List ℕ) → length left ≡ 16 → (b : Bool) → all_zero left ≡ b → cond b None (Some left) ≡ Some value
        → (length value ≡ 16) × (all_zero value ≡ false)
    by left long true none e = absurd cc
    by left long false some e = let own : left ≡ value = ap (λ o. unwrap_or o []) e in (ap length (sym own) ∙ long, ap all_zero (sym own) ∙ some)

-- what is left is not zeros alone
turned-some : (held : Option (List ℕ)) (mask value : List ℕ) → turned held mask ≡ Some value → all_zero value ≡ false
turned-some held mask value is = by (xor_bytes (unwrap_or held []) mask) (all_zero (xor_bytes (unwrap_or held []) mask)) refl is
  where
    by : (left : List ℕ) (b : Bool) → all_zero left ≡ b → cond b None (Some left) ≡ Some value → all_zero value ≡ false
    by left true none e = absurd cc
    by left false some e = let own : left ≡ value = ap (λ o. unwrap_or o []) e in ap all_zero (sym own) ∙ some

-- zeros that went don't matter to the next mask
next_mask : (value mask : List ℕ) → length value ≤ length mask → xor_bytes (unwrap_or (some_left value) []) mask ≡ xor_bytes value mask
next_mask value mask le = by (all_zero value) refl
  where
    by : (b : Bool) → all_zero value ≡ b → xor_bytes (unwrap_or (cond b None (Some value)) []) mask ≡ xor_bytes value mask
    by true is = sym (xor_bytes-zeros value mask is le)
    by false is = refl

-- two masks, one after the other
turned-twice : (held : Option (List ℕ)) (mask more : List ℕ) → length (unwrap_or held []) ≤ 16 → length mask ≡ 16 → length more ≡ 16
    → turned (turned held mask) more ≡ some_left (xor_bytes (unwrap_or held []) (xor_bytes mask more))
turned-twice held mask more most size long =
    let value = unwrap_or held [] in
    ap some_left (next_mask (xor_bytes value mask) more (omega (arith, length-xor_same value mask (omega arith))) ∙ xor_bytes-assoc value mask more)

-- two masks in either order
turned-order : (held : Option (List ℕ)) (mask more : List ℕ) → length (unwrap_or held []) ≤ 16 → length mask ≡ 16 → length more ≡ 16
    → turned (turned held mask) more ≡ turned (turned held more) mask
turned-order held mask more most size long =
    turned-twice held mask more most size long
    ∙ ap (λ m. some_left (xor_bytes (unwrap_or held []) m)) (xor_bytes-comm mask more)
    ∙ sym (turned-twice held more mask most long size)

-- the row was missing, or has some byte that isn't zero
abbrev IsHeld : Option (List ℕ) → Type 0
IsHeld None = Unit {0}
IsHeld (Some value) = (length value ≡ 16) × (all_zero value ≡ false)

-- the same mask twice
turned-back : (held : Option (List ℕ)) (mask : List ℕ) → IsHeld held → length mask ≡ 16 → turned (turned held mask) mask ≡ held
turned-back None mask is size =
    turned-twice None mask mask (omega arith) size size ∙ ap (λ b. cond b None (Some (xor_bytes mask mask))) (xor_bytes-self mask)
turned-back (Some value) mask is size =
    let none = xor_bytes mask mask in
    let long : length none ≤ length value = omega (arith, length-xor_same mask mask (omega arith), is.0) in
    turned-twice (Some value) mask mask (omega (arith, is.0)) size size
    ∙ ap some_left (xor_bytes-comm value none ∙ xor_bytes-zeros none value (xor_bytes-self mask) long)
    ∙ ap (λ b. cond b None (Some value)) is.1

-- ---- all rows

-- later operations leave the rows before them alone
pub later_alone : (units : Units) (from : ℕ) (ops : List RowOp) (r : ℕ) → AreFlipsFrom units from ops → r < from → LeaveAlone ops (bitmap_key r)
later_alone units from [] r are below = tt
later_alone units from (op ∷ ops) r are below =
    let next = are.1 in (
      λ e. (
          let k : bitmap_key are.0 ≡ bitmap_key r = sym (ap key_of next.is) ∙ e in
          let one = same_row are.0 r next.below (omega (arith, below, next.from_there, next.below)) k in
          omega (arith, one, below, next.from_there)
          ),
      later_alone units (suc are.0) ops r are.2 (omega (arith, below, next.from_there)),
    )

-- the operations turn the row of this key by this mask
pub record Turns (units : Units) (ops : List RowOp) (key : List ℕ) : Type 0 where
  pub r : ℕ
  pub mask : List ℕ
  pub below : r < 33554432
  pub key_is : key ≡ bitmap_key r
  pub exact : IsMaskOf units r mask
  pub after : (rows : Rows) → map.get (rows_after rows ops) key ≡ turned (map.get rows key) mask

-- they leave it alone
pub record LeavesAlone (units : Units) (from : ℕ) (ops : List RowOp) (key : List ℕ) : Type 0 where
  pub after : (rows : Rows) → map.get (rows_after rows ops) key ≡ map.get rows key
  pub none : (unit : ℕ) → from ≤ unit / 128 → key ≡ bitmap_key (unit / 128) → ¬ Has units unit

-- the operations turn a row, or they leave it alone
pub at_key : (units : Units) (from : ℕ) (ops : List RowOp) (key : List ℕ) → AreFlipsFrom units from ops
    → Turns units ops key ⊎ LeavesAlone units from ops key
at_key units from [] key are = inr (record { after = λ rows. refl; none = λ unit ge own has. omega (arith, are unit has, ge) })
at_key units from (op ∷ ops) key are =
    let r = are.0 in
    let next = are.1 in
    elim (cases_key key (bitmap_key r)) [
      | inl own ↦ inl (record {
        r = r;
        mask = next.mask;
        below = next.below;
        key_is = own;
        exact = next.exact;
        after = λ rows.
            let alone = subst (LeaveAlone ops) (sym own) (later_alone units (suc r) ops r are.2 (omega arith)) in
            get-rows_after_other (row_after rows op) ops key alone
            ∙ ap (λ o. map.get (row_after rows o) key) (next.is ∙ ap (λ k. Flip k next.mask) (sym own))
            ∙ get-flip_same rows key next.mask;
      })
      | inr other ↦
          let first : (rows : Rows) → map.get (row_after rows op) key ≡ map.get rows key = λ rows. get-row_after_other rows op key (λ e. other (sym
          (sym (ap key_of next.is) ∙ e))) in
          elim (at_key units (suc r) ops key are.2) [
            | inl t ↦ inl (record {
              r = t.r;
              mask = t.mask;
              below = t.below;
              key_is = t.key_is;
              exact = t.exact;
              after = λ rows. t.after (row_after rows op) ∙ ap (λ o. turned o t.mask) (first rows);
            })
            | inr l ↦ inr (record {
              after = λ rows. l.after (row_after rows op) ∙ first rows;
              none = λ unit ge own has.
                  let le = next.first unit has ge in
                  let apart : unit / 128 ≢ r = λ e. other (own ∙ ap bitmap_key e) in
                  l.none unit (omega (arith, le, apart)) own has;
            })
          ]
    ]

-- the same of all operations
pub at_any : (units : Units) (ops : List RowOp) (key : List ℕ) → AreFlips units ops → Turns units ops key ⊎ LeavesAlone units 0 ops key
at_any units ops key are = at_key units 0 ops key are

-- ---- the laws

-- the sum of two bits
two_bits : (a b : ℕ) → a < 2 → b < 2 → (((a + b) % 2 ≡ 1) ↔ ExactlyOne (a ≡ 1) (b ≡ 1))
two_bits zero zero la lb = (λ e. absurd (omega arith), ⊎_elim (λ h. absurd (omega (arith, h.0))) (λ h. absurd (omega (arith, h.1))))
two_bits zero (suc b) la lb = (λ e. inr (λ f. omega arith, omega arith), λ h. let one : zero + suc b ≡ 1 = omega arith in ap (λ n. n % 2) one)
two_bits (suc a) zero la lb = (λ e. inl (omega arith, λ f. omega arith), λ h. let one : suc a + 0 ≡ 1 = omega arith in ap (λ n. n % 2) one)
two_bits (suc a) (suc b) la lb = (
  λ e. absurd (let two : suc a + suc b ≡ 2 = omega arith in omega (arith, sym (ap (λ n. n % 2) two) ∙ e)),
  ⊎_elim (λ h. absurd (h.1 (omega arith))) (λ h. absurd (h.0 (omega arith))),
)

-- two facts that are one
like : {A B C : Type 0} → (B ↔ C) → ExactlyOne A B ↔ ExactlyOne A C
like bc = (
  ⊎_elim (λ h. inl (h.0, λ c. h.1 (bc.1 c))) (λ h. inr (h.0, bc.0 h.1)),
  ⊎_elim (λ h. inl (h.0, λ b. h.1 (bc.0 b))) (λ h. inr (h.0, bc.1 h.1)),
)

-- a bit is 0 or 1
bit_in-below : (bytes : List ℕ) (unit : ℕ) → bit_in bytes unit < 2
bit_in-below bytes unit = omega arith

-- exactly the bits of the units are turned
pub turn_their_units : (rows : Rows) (units : Units) (ops : List RowOp) → AreFlips units ops → (unit : ℕ) → unit < 2 ^ 32
    → IsMarked (rows_after rows ops) unit ↔ ExactlyOne (IsMarked rows unit) (Has units unit)
turn_their_units rows units ops are unit below =
    let key = bitmap_key (unit / 128) in
    elim (at_any units ops key are) [
      | inl t ↦
          let own = same_row (unit / 128) t.r (omega (arith, below)) t.below t.key_is in
          let is = ap (λ o. bit_in (unwrap_or o []) unit) (t.after rows) ∙ bit_in-turned (map.get rows key) t.mask unit in
          let bits = two_bits (bit_in (row rows key) unit) (bit_in t.mask unit) (bit_in-below (row rows key) unit) (bit_in-below t.mask unit) in
          let units_are = like {A = IsMarked rows unit} (t.exact.bits unit own) in
          (λ m. units_are.0 (bits.0 (sym is ∙ m)), λ h. is ∙ bits.1 (units_are.1 h))
      | inr l ↦
          let is = ap (λ o. bit_in (unwrap_or o []) unit) (l.after rows) in
          let no = l.none unit (omega arith) refl in
          (λ m. inl (sym is ∙ m, no), ⊎_elim (λ h. is ∙ h.0) (λ h. absurd (no h.1)))
    ]

-- other keys are left alone
pub leave_others : (rows : Rows) (units : Units) (ops : List RowOp) → AreFlips units ops → (key : List ℕ) → IsOtherKey key
    → map.get (rows_after rows ops) key ≡ map.get rows key
leave_others rows units ops are key other = elim (at_any units ops key are) [
  | inl t ↦ absurd (other t.r t.below t.key_is)
  | inr l ↦ l.after rows
]

-- a row of the table has 16 bytes, where there is one
most_of : (rows : Rows) → AreBitmapRows rows → (r : ℕ) → length (unwrap_or (map.get rows (bitmap_key r)) []) ≤ 16
most_of rows table r = by (map.get rows (bitmap_key r)) refl
  where
    by : (o : Option (List ℕ)) → map.get rows (bitmap_key r) ≡ o → length (unwrap_or o []) ≤ 16
    by None is = omega arith
    by (Some value) is = omega (arith, (table (to_be_bytes w32 r) value is).size)

-- the same of any key of the table
most_at : (rows : Rows) → AreBitmapRows rows → (key : List ℕ) (r : ℕ) → key ≡ bitmap_key r → length (unwrap_or (map.get rows key) []) ≤ 16
most_at rows table key r is = subst (λ k. length (unwrap_or (map.get rows k) []) ≤ 16) (sym is) (most_of rows table r)

-- rows of the table stay so
pub stay_in_table : (rows : Rows) (units : Units) (ops : List RowOp) → AreFlips units ops → AreBitmapRows rows → AreBitmapRows (rows_after rows ops)
stay_in_table rows units ops are table rest value there = elim (at_any units ops (0x62 ∷ rest) are) [
  | inl t ↦ record {
    row = t.r;
    below = t.below;
    key_is = t.key_is;
    size = (turned-size (map.get rows (0x62 ∷ rest)) t.mask value (most_at rows table (0x62 ∷ rest) t.r t.key_is) t.exact.size (sym (t.after rows)
        ∙ there)).0;
  }
  | inr l ↦ table rest value (sym (l.after rows) ∙ there)
]

-- and none becomes zeros alone
pub stay_some : (rows : Rows) (units : Units) (ops : List RowOp) → AreFlips units ops → NoneIsZero rows → NoneIsZero (rows_after rows ops)
stay_some rows units ops are some r value there = elim (at_any units ops (bitmap_key r) are) [
  | inl t ↦ turned-some (map.get rows (bitmap_key r)) t.mask value (sym (t.after rows) ∙ there)
  | inr l ↦ some r value (sym (l.after rows) ∙ there)
]

-- two sets in either order
pub change_order : (rows : Rows) (units others : Units) (ops more : List RowOp) → AreBitmapRows rows → AreFlips units ops → AreFlips others more
    → rows_after (rows_after rows ops) more ≡ rows_after (rows_after rows more) ops
change_order rows units others ops more table are them = same _ _ at
  where
    at : (key : List ℕ) → map.get (rows_after (rows_after rows ops) more) key ≡ map.get (rows_after (rows_after rows more) ops) key
    at key = elim (at_any units ops key are) [
      | inl t ↦ elim (at_any others more key them) [
        | inl u ↦
            u.after (rows_after rows ops) ∙ ap (λ o. turned o u.mask) (t.after rows)
            ∙ turned-order (map.get rows key) t.mask u.mask (most_at rows table key t.r t.key_is) t.exact.size u.exact.size
            ∙ ap (λ o. turned o t.mask) (sym (u.after rows)) ∙ sym (t.after (rows_after rows more))
        | inr l ↦ l.after (rows_after rows ops) ∙ t.after rows ∙ ap (λ o. turned o t.mask) (sym (l.after rows)) ∙ sym (t.after (rows_after rows more))
      ]
      | inr k ↦ elim (at_any others more key them) [
        | inl u ↦ u.after (rows_after rows ops) ∙ ap (λ o. turned o u.mask) (k.after rows) ∙ sym (u.after rows) ∙ sym (k.after (rows_after rows more))
        | inr l ↦ l.after (rows_after rows ops) ∙ k.after rows ∙ sym (l.after rows) ∙ sym (k.after (rows_after rows more))
      ]
    ]

-- a row of the table is held
held_at : (rows : Rows) → AreBitmapRows rows → NoneIsZero rows → (key : List ℕ) (r : ℕ) → key ≡ bitmap_key r → IsHeld (map.get rows key)
held_at rows table some key r is = subst (λ k. IsHeld (map.get rows k)) (sym is) (by (map.get rows (bitmap_key r)) refl)
  where
    by : (o : Option (List ℕ)) → map.get rows (bitmap_key r) ≡ o → IsHeld o
    by None e = tt
    by (Some value) e = ((table (to_be_bytes w32 r) value e).size, some r value e)

-- the same set twice
pub twice_restore : (rows : Rows) (units : Units) (ops : List RowOp) → AreBitmapRows rows → NoneIsZero rows → AreFlips units ops
    → rows_after (rows_after rows ops) ops ≡ rows
twice_restore rows units ops table some are = same _ _ at
  where
    at : (key : List ℕ) → map.get (rows_after (rows_after rows ops) ops) key ≡ map.get rows key
    at key = elim (at_any units ops key are) [
      | inl t ↦
          t.after (rows_after rows ops) ∙ ap (λ o. turned o t.mask) (t.after rows)
          ∙ turned-back (map.get rows key) t.mask (held_at rows table some key t.r t.key_is) t.exact.size
      | inr l ↦ l.after (rows_after rows ops) ∙ l.after rows
    ]

-- where there is no row, each is of the table
pub none_in_table : (rows : Rows) → rows ≡ map.empty → AreBitmapRows rows
none_in_table rows is rest value there =
    let none = ap (λ (m : Rows). map.get m (0x62 ∷ rest)) is ∙ map.get-empty byte_order (0x62 ∷ rest) in absurd cc

-- the rows of a table once operations were applied to it
pub stay_after : (rows old new : Rows) (units : Units) (ops : List RowOp) → AreBitmapRows rows → old ≡ rows → AreFlips units ops
    → new ≡ rows_after old ops
    → AreBitmapRows new
stay_after rows old new units ops table same_rows are is =
    subst AreBitmapRows (sym (is ∙ ap (λ (m : Rows). rows_after m ops) same_rows)) (stay_in_table rows units ops are table)
