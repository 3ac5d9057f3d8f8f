-- Rows that are gone through in the order of keys, each of which is looked for in front of those that are left.
use Rattle.std.proofs.Common.{◌≡◌, ◌≢◌, inl, inr, ℕ, Bool, true, false, not, cond, List, [], ◌∷◌, drop, Option, Some, None, refl, sym, ap, subst, ◌∙◌}
use Rattle.std.specs.Prelude.{unwrap_or}
use Rattle.std.specs.List.{AllByRecursion}
use Rattle.std.specs.Ordering.{is_lt}
use Rattle.std.specs.declared.cmp.Ordering.{Ordering}
use Rattle.std.specs.declared.cmp.Ordering.TheVariants.{Less, Equal, Greater}
use Rattle.std.specs.FinMap as finite
use Rattle.std.specs.FinSet as set
use Rattle.std.specs.FinMap.{find, entries, entries_sorted, get-entries}
use Rattle.std.proofs.lemmas.Bool.{cases_Bool}
use Rattle.std.proofs.lemmas.Cmp.{tied_itself, nat_list_cmp_total}
use Rattle.byte_maps.specs.ByteMap.{byte_order}
use Rattle.meta_rows.specs.Prelude.{Rows, rows_from_to}
use Rattle.meta_rows.specs.Table.{is_from_to}
use Rattle.object_model.specs.Prelude.{is_same}
use Rattle.onode_state.proofs.ShardRows.{In, KeysRise, sorted_rise, filtered_all, in_filtered, filtered_rise}
use Rattle.onode_state.proofs.OnodeRows.{in_all}
use Rattle.bitmap_freelist.specs.Bitmap.{Units}
use Rattle.bitmap_freelist.proofs.Reading.{has_insert}
use Rattle.plan_proofs.proofs.Names.{same_is, itself}
use Rattle.page_edits.proofs.Lists.{all_of}
use Rattle.txn_planner.proofs.ObjectNames.{entry_found}
use Rattle.txn_planner.specs.Laying.{with_first_page, AreOfRows, first_value}

abbrev Entry : Type 0
Entry = List ℕ × List ℕ

is_not_less : (r : Ordering) → not (is_lt r) ≡ true → r ≢ Less
is_not_less Less h e = absurd cc
is_not_less Equal h e = absurd cc
is_not_less Greater h e = absurd cc

no_less : (r : Ordering) → r ≢ Less → not (is_lt r) ≡ true
no_less Less h = absurd (h refl)
no_less Equal h = refl
no_less Greater h = refl

-- the value of the first one, if that has this key
abbrev value_if : Entry → Bool → Option (List ℕ)
value_if e b = cond b (Some e.1) None

-- what is found in entries is one of them
found_in : (es : List Entry) (key value : List ℕ) → find byte_order key es ≡ Some value → In es (key, value)
found_in [] key value is = absurd cc
found_in (e ∷ es) key value is = elim (cases_Bool (is_same key e.0)) [
  | inl same ↦
      let found : Some e.1 ≡ Some value = sym (ap (λ b. cond b (Some e.1) (find byte_order key es)) same) ∙ is in
      let under : e.0 ≡ key = sym (same_is key e.0 same) in
      inl (λ i. (under i, ap (λ (z : Option (List ℕ)). unwrap_or z value) found i))
  | inr apart ↦ inr (found_in es key value (sym (ap (λ b. cond b (Some e.1) (find byte_order key es)) apart) ∙ is))
]

module _ (rows : Rows) where
  abbrev StandsIn : Entry → Type 0
  StandsIn e = finite.get rows e.0 ≡ Some e.1

  all_stand : AllByRecursion StandsIn (entries rows)
  all_stand = all_of StandsIn (entries rows) (λ e among. get-entries rows e.0 ∙ entry_found (entries rows) e.0 e.1 (entries_sorted rows) among)

  -- a range has some of the rows
  pub range_of_rows : (first : List ℕ) (end : Option (List ℕ)) → AreOfRows rows (rows_from_to rows first end)
  range_of_rows first end = filtered_all (λ e. is_from_to first end e.0) StandsIn StandsIn (λ e there is. there) (entries rows) all_stand

  -- so have those behind the first of some
  pub behind_of_rows : (es : List Entry) → AreOfRows rows es → AreOfRows rows (drop 1 es)
  behind_of_rows [] all = tt
  behind_of_rows (e ∷ es) all = all.1

  -- the value that the first one has under a key is that of the key's row
  pub value_of_row : (key : List ℕ) (es : List Entry) (value : List ℕ) → AreOfRows rows es → first_value key es ≡ Some value
      → finite.get rows key ≡ Some value
  value_of_row key [] value all is = absurd cc
  value_of_row key (e ∷ es) value all is = elim (cases_Bool (is_same e.0 key)) [
    | inl same ↦ ap (finite.get rows) (sym (same_is e.0 key same)) ∙ all.0 ∙ sym (ap (value_if e) same) ∙ is
    | inr apart ↦ absurd (let none = sym (ap (value_if e) apart) ∙ is in cc)
  ]

  module _ (key : List ℕ) where
    abbrev is_on : Entry → Bool
    is_on e = is_from_to key None e.0

    abbrev onwards : List Entry
    onwards = rows_from_to rows key None

    all_on : AllByRecursion (λ e. byte_order e.0 key ≢ Less) onwards
    all_on = filtered_all is_on StandsIn (λ e. byte_order e.0 key ≢ Less) (λ e there is. is_not_less (byte_order e.0 key) is) (entries rows)
        all_stand

    rise : KeysRise onwards
    rise = filtered_rise is_on (entries rows) (sorted_rise (entries rows) (entries_sorted rows))

    row_in : (value : List ℕ) → finite.get rows key ≡ Some value → In onwards (key, value)
    row_in value is =
        in_filtered is_on (entries rows) (key, value)
        (no_less (byte_order key key) (λ less. let tied = tied_itself nat_list_cmp_total key in absurd cc))
        (found_in (entries rows) key value (sym (get-entries rows key) ∙ is))

    -- the first of these has the key, if one has
    in_front : (es : List Entry) (value : List ℕ) → KeysRise es → AllByRecursion (λ e. byte_order e.0 key ≢ Less) es → In es (key, value)
        → first_value key es ≡ Some value
    in_front [] value up from there = absurd there
    in_front (e ∷ es) value up from (inl same) =
        ap (λ (x : Entry). value_if x (is_same x.0 key)) same ∙ ap (value_if (key, value)) (itself key)
    in_front (e ∷ es) value up from (inr later) = absurd (from.0 (in_all (λ x. byte_order e.0 x.0 ≡ Less) es (key, value) up.0 later))

    -- the first row from a key on has that key, or no row has it
    pub first_of_range : first_value key onwards ≡ finite.get rows key
    first_of_range = elim (finite.get rows key) as (λ (r : Option (List ℕ)). finite.get rows key ≡ r → first_value key onwards ≡ r) [
      | Some value ↦ λ is. in_front onwards value rise all_on (row_in value is)
      | None ↦ λ is. none_there (first_value key onwards) refl is
    ] refl
      where
        none_there : (z : Option (List ℕ)) → first_value key onwards ≡ z → finite.get rows key ≡ None → z ≡ None
        none_there None is none = refl
        none_there (Some value) is none = absurd (let there = sym none ∙ value_of_row key onwards value (range_of_rows key None) is in cc)

-- ---- as look-ups say it

-- a shard comes anew at a page: at the first one, or at one of the others
pub anew_first : (first : Option ℕ) (behind : Units) (at page : ℕ) → first ≡ Some at → at ≡ page → true ≡ set.contains (with_first_page first behind) page
anew_first first behind at page is same =
    sym (ap (λ f. set.contains (with_first_page f behind) page) is ∙ (has_insert behind at page).1 (inl (sym same)))

pub anew_behind : (first : Option ℕ) (behind : Units) (at page : ℕ) (held : Bool) → first ≡ Some at → at ≢ page → held ≡ set.contains behind page
    → held ≡ set.contains (with_first_page first behind) page
anew_behind first behind at page held is other has =
    has ∙ elim (cases_Bool (set.contains behind page)) [
      | inl there ↦ there ∙ sym ((has_insert behind at page).1 (inr there))
      | inr not ↦ elim (cases_Bool (set.contains (set.insert behind at) page)) [
        | inr none ↦ not ∙ sym none
        | inl some ↦ elim ((has_insert behind at page).0 some) [
          | inl same ↦ absurd (other (sym same))
          | inr there ↦ absurd (let no = sym there ∙ not in cc)
        ]
      ]
    ] ∙ sym (ap (λ f. set.contains (with_first_page f behind) page) is)

pub anew_none : (first : Option ℕ) (behind : Units) (page : ℕ) (held : Bool) → first ≡ None → held ≡ set.contains behind page
    → held ≡ set.contains (with_first_page first behind) page
anew_none first behind page held none has = has ∙ sym (ap (λ f. set.contains (with_first_page f behind) page) none)

-- the first of rows is under this key
pub first_same : (key : List ℕ) (es rest : List Entry) (x : Entry) → es ≡ x ∷ rest → is_same x.0 key ≡ true → Some x.1 ≡ first_value key es
first_same key es rest x are same = sym (ap (first_value key) are ∙ ap (value_if x) same)

-- it is under another one
pub first_other : (key : List ℕ) (es rest : List Entry) (x : Entry) → es ≡ x ∷ rest → is_same x.0 key ≡ false → None ≡ first_value key es
first_other key es rest x are other = sym (ap (first_value key) are ∙ ap (value_if x) other)

-- there is none
pub first_none : (key : List ℕ) (es : List Entry) → es ≡ [] → None ≡ first_value key es
first_none key es none = sym (ap (first_value key) none)

pub found_by : (rows : Rows) (key : List ℕ) (es : List Entry) (value : List ℕ) → AreOfRows rows es → Some value ≡ first_value key es
    → Some value ≡ finite.get rows key
found_by rows key es value all is = sym (value_of_row rows key es value all (sym is))

pub found_on : (rows : Rows) (key : List ℕ) (es : List Entry) (found : Option (List ℕ)) → es ≡ rows_from_to rows key None
    → found ≡ first_value key es → found ≡ finite.get rows key
found_on rows key es found are is = is ∙ ap (first_value key) are ∙ first_of_range rows key

pub left_on : (rows : Rows) (key : List ℕ) (es left : List Entry) → es ≡ rows_from_to rows key None → left ≡ drop 1 es → AreOfRows rows left
left_on rows key es left are is =
    subst (AreOfRows rows) (sym is) (behind_of_rows rows es (subst (AreOfRows rows) (sym are) (range_of_rows rows key None)))

pub left_by : (rows : Rows) (es left : List Entry) → AreOfRows rows es → left ≡ drop 1 es → AreOfRows rows left
left_by rows es left all is = subst (AreOfRows rows) (sym is) (behind_of_rows rows es all)
