-- The extent at the front of bytes.
use Rattle.std.proofs.Common.{◌≡◌, ◌≢◌, ◌↔◌, inl, inr, ℕ, suc, ◌+◌, ◌-◌, ◌==◌, ◌<◌, ◌≤◌, ◌^◌, Bool, true, false, cond, List, [], ◌∷◌, ◌++◌, length, drop, Option, Some, None, refl, sym, ap, subst, ◌∙◌, arith}
use Rattle.std.specs.Prelude.{IfSome, IfNone, slice_index}
use Rattle.std.specs.Int.{w16, w32, w64, from_le_bytes, to_le_bytes}
use Rattle.unit_fields.specs.Prelude.{ReadsNumber, bytes_of}
use Rattle.unit_fields.specs.declared.width.Width.{Width}
use Rattle.row_format.specs.Prelude.{Body, Extent, own, slot, page_count, page_end, private, shared, place_in}
use Rattle.std.proofs.lemmas.Bool.{cases_Bool}
use Rattle.std.proofs.lemmas.Bool.Decides.{nat_tests}
use Rattle.std.proofs.lemmas.List.{drop-drop}
use Rattle.onode_codec.specs.declared.extent.Start.{Start}
use Rattle.onode_codec.specs.declared.extent.Start.TheVariants.{Unit as OnUnit, Slot as OnSlot}
use Rattle.page_lookup.specs.declared.shard.Head.{Head}
use Rattle.page_lookup.specs.Prelude.{first_in, count_in, is_shared_in, unit_in, sbid_in, slot_number_in, csum_in, csums_in, size_in, body_in, extent_in, extents_read, place_found, EndBehind, LeavesOut, BeginsBy, HasNumber, start_in, IsHeadOf, size_from, head_size, HasPlace, place_from, IsSlotOf, IsUnitOf}
use Rattle.row_format.proofs.Prelude.{some_size, bytes_less}
use Rattle.page_lookup.proofs.Reading.{read_none, read_more, csum_of, length-csums_in}
use Rattle.page_lookup.proofs.Finding.{found_before, found_in, leaves_one, leaves_more}

-- ---- fields, one after the other

same_number : (a b : ℕ) → (a == b) ≡ true → a ≡ b
same_number a b is = grind (arith, nat_tests, is)

not_one : (kind : ℕ) → kind ≢ 1 → (kind == 1) ≡ false
not_one kind apart = elim (cases_Bool (kind == 1)) [ inl is ↦ absurd (apart (same_number kind 1 is)) | inr is ↦ is ]

module _ (w : Width) (bytes f1 f2 f3 : List ℕ) (first count kind : ℕ)
    (r1 : ReadsNumber (from_le_bytes w32) (to_le_bytes w32) bytes f1 first)
    (r2 : ReadsNumber (from_le_bytes w16) (to_le_bytes w16) f1 f2 count)
    (r3 : f2 ≡ kind ∷ f3) where
  behind_first : drop 4 bytes ≡ f1
  behind_first = ap (drop 4) r1.spelled

  all_read : bytes ≡ to_le_bytes w32 first ++ (to_le_bytes w16 count ++ (kind ∷ f3))
  all_read = r1.spelled ∙ ap (λ (l : List ℕ). to_le_bytes w32 first ++ l) (r2.spelled ∙ ap (λ (l : List ℕ). to_le_bytes w16 count ++ l) r3)

  behind_kind : drop 7 bytes ≡ f3
  behind_kind = ap (drop 7) all_read

  behind_sbid : drop 15 bytes ≡ drop 8 f3
  behind_sbid = sym (drop-drop 8 7 bytes) ∙ ap (drop 8) behind_kind

  long : length bytes ≡ 7 + length f3
  long = omega (arith, ap length r1.spelled, ap length r2.spelled, ap length r3)

  count_read : count ≡ count_in bytes
  unfolding count_in
  count_read = r2.value_is ∙ ap (from_le_bytes w16) (sym behind_first)

  first_read : first ≡ first_in bytes
  unfolding first_in
  first_read = r1.value_is

  kind_read : is_shared_in bytes ≡ (kind == 1)
  unfolding is_shared_in
  kind_read = ap (λ (l : List ℕ). slice_index (drop 6 l) 0 == 1) all_read

  unit_read : from_le_bytes w32 f3 ≡ unit_in bytes
  unfolding unit_in
  unit_read = ap (from_le_bytes w32) (sym behind_kind)

  sbid_read : from_le_bytes w64 f3 ≡ sbid_in bytes
  unfolding sbid_in
  sbid_read = ap (from_le_bytes w64) (sym behind_kind)

  slot_read : from_le_bytes w16 (drop 8 f3) ≡ slot_number_in bytes
  unfolding slot_number_in
  slot_read = ap (from_le_bytes w16) (sym behind_sbid)

  module _ (b : Bool) (is : is_shared_in bytes ≡ b) where
    size_by : size_in w bytes ≡ cond b 17 (11 + bytes_of w (count_in bytes))
    size_by = ap (λ (t : Bool). cond t 17 (11 + bytes_of w (count_in bytes))) is

    start_by : start_in bytes ≡ cond b (OnSlot (sbid_in bytes) (slot_number_in bytes)) (OnUnit (unit_in bytes))
    start_by = ap (λ (t : Bool). cond t (OnSlot (sbid_in bytes) (slot_number_in bytes)) (OnUnit (unit_in bytes))) is

  module _ (one : kind ≡ 1) where
    on_slots : is_shared_in bytes ≡ true
    on_slots = kind_read ∙ ap (λ k. k == 1) one

    -- the slot isn't whole
    pub too_few_for_slot : length f3 < 10 → length bytes < size_in w bytes
    too_few_for_slot few = omega (arith, few, long, size_by true on_slots)

    -- it is
    pub head_on_slot : (start : Start) → IsSlotOf f3 start → IsHeadOf w bytes (record { first = first; count = count; start = start })
    head_on_slot start of = record {
      whole = omega (arith, of.whole, long, size_by true on_slots);
      first = first_read;
      count = count_read;
      start = of.is ∙ (λ i. OnSlot (sbid_read i) (slot_read i)) ∙ sym (start_by true on_slots);
    }

  module _ (other : kind ≢ 1) where
    on_units : is_shared_in bytes ≡ false
    on_units = kind_read ∙ not_one kind other

    -- the checksums aren't whole
    pub too_few_for_units : length f3 < 4 + bytes_of w count → length bytes < size_in w bytes
    too_few_for_units few = omega (arith, few, long, size_by false on_units, ap (bytes_of w) count_read)

    -- they are
    pub head_on_unit : (start : Start) → IsUnitOf w count f3 start → IsHeadOf w bytes (record { first = first; count = count; start = start })
    head_on_unit start of = record {
      whole = omega (arith, of.whole, long, size_by false on_units, ap (bytes_of w) count_read);
      first = first_read;
      count = count_read;
      start = of.is ∙ ap OnUnit unit_read ∙ sym (start_by false on_units);
    }

-- behind the kind, a slot
pub slot_is : (old mid new : List ℕ) (sbid index : ℕ) → ReadsNumber (from_le_bytes w64) (to_le_bytes w64) old mid sbid
    → ReadsNumber (from_le_bytes w16) (to_le_bytes w16) mid new index → IsSlotOf old (OnSlot sbid index)
slot_is old mid new sbid index r s = record {
  whole = omega (arith, ap length r.spelled, ap length s.spelled);
  is = λ i. OnSlot (r.value_is i) ((s.value_is ∙ ap (from_le_bytes w16) (sym (ap (drop 8) r.spelled))) i);
}

pub slot_short : (old mid : List ℕ) (sbid : ℕ) → ReadsNumber (from_le_bytes w64) (to_le_bytes w64) old mid sbid → length mid < 2 → length old < 10
slot_short old mid sbid r few = omega (arith, few, ap length r.spelled)

-- or a unit, and checksums
pub unit_is : (w : Width) (count : ℕ) (old mid : List ℕ) (unit : ℕ) → ReadsNumber (from_le_bytes w32) (to_le_bytes w32) old mid unit
    → bytes_of w count ≤ length mid → IsUnitOf w count old (OnUnit unit)
unit_is w count old mid unit r enough = record { whole = omega (arith, enough, ap length r.spelled); is = ap OnUnit r.value_is }

pub units_short : (w : Width) (count : ℕ) (old mid : List ℕ) (unit : ℕ) → ReadsNumber (from_le_bytes w32) (to_le_bytes w32) old mid unit
    → length mid < bytes_of w count → length old < 4 + bytes_of w count
units_short w count old mid unit r few = omega (arith, few, ap length r.spelled)

-- too few for a number at a place
pub short_at_first : (w : Width) (bytes : List ℕ) → length bytes < 11 → length bytes < size_in w bytes
short_at_first w bytes few = omega (arith, few, some_size w bytes)

pub short_at_count : (w : Width) (bytes f1 : List ℕ) (first : ℕ) → ReadsNumber (from_le_bytes w32) (to_le_bytes w32) bytes f1 first → length f1 < 7
    → length bytes < size_in w bytes
short_at_count w bytes f1 first r few = omega (arith, few, ap length r.spelled, some_size w bytes)

pub short_at_kind : (w : Width) (bytes f1 f2 : List ℕ) (first count : ℕ) → ReadsNumber (from_le_bytes w32) (to_le_bytes w32) bytes f1 first
    → ReadsNumber (from_le_bytes w16) (to_le_bytes w16) f1 f2 count → length f2 < 5 → length bytes < size_in w bytes
short_at_kind w bytes f1 f2 first count r s few = omega (arith, few, ap length r.spelled, ap length s.spelled, some_size w bytes)

pub none_so : {X : Type 0} (r : Option X) (P : Type 0) → P → IfNone r P
none_so None P p = p
none_so (Some x) P p = tt

-- ---- with its head

-- no head, no extent
pub none_read : (w : Width) (bytes : List ℕ) → length bytes < size_in w bytes → extents_read w bytes ≡ []
none_read w bytes few = read_none w bytes few

some_not_none : (w : Width) (bytes : List ℕ) (h : Head) → IsHeadOf w bytes h → extents_read w bytes ≡ [] → ⊥
some_not_none w bytes h is none = let both = sym (read_more w bytes is.whole) ∙ none in cc

-- whether there is one
pub done_as : (w : Width) (bytes : List ℕ) (found : Option Head) → IfNone found (length bytes < size_in w bytes) → IfSome found (IsHeadOf w bytes)
    → ((found ≡ None) ↔ (extents_read w bytes ≡ []))
done_as w bytes None none some = (λ e. read_none w bytes none, λ e. refl)
done_as w bytes (Some h) none some = (λ e. absurd cc, λ e. absurd (some_not_none w bytes h some e))

-- its pages
count_in_body : (w : Width) (bytes : List ℕ) → page_count (body_in w bytes) ≡ count_in bytes
count_in_body w bytes = by (is_shared_in bytes)
  where
    by : (b : Bool) → page_count (cond b (shared (sbid_in bytes) (slot_number_in bytes) (count_in bytes))
        (private (unit_in bytes) (csums_in w (count_in bytes) (drop 11 bytes)))) ≡ count_in bytes
    by true = refl
    by false = length-csums_in w (count_in bytes) (drop 11 bytes)

-- its end
end_in : (w : Width) (bytes : List ℕ) (h : Head) → IsHeadOf w bytes h → page_end (extent_in w bytes) ≡ h.first + h.count
end_in w bytes h is = omega (arith, is.first, is.count, count_in_body w bytes)

-- it ends behind the page
pub ends_behind : (w : Width) (bytes : List ℕ) (h : Head) (page : ℕ) → IsHeadOf w bytes h → page < h.first + h.count
    → EndBehind page (extents_read w bytes)
ends_behind w bytes h page is lt = subst (EndBehind page) (sym (read_more w bytes is.whole)) (omega (arith, lt, end_in w bytes h is))

pub none_behind : (w : Width) (bytes : List ℕ) (page : ℕ) → extents_read w bytes ≡ [] → EndBehind page (extents_read w bytes)
none_behind w bytes page none = subst (EndBehind page) (sym none) tt

-- its bytes
size_is : (w : Width) (bytes : List ℕ) (h : Head) → IsHeadOf w bytes h → head_size w h ≡ size_in w bytes
size_is w bytes h is = ap (λ (s : Start). size_from w s h.count) is.start ∙ by (is_shared_in bytes)
  where
    by : (b : Bool) → size_from w (cond b (OnSlot (sbid_in bytes) (slot_number_in bytes)) (OnUnit (unit_in bytes))) h.count
        ≡ cond b 17 (11 + bytes_of w (count_in bytes))
    by true = refl
    by false = ap (λ n. 11 + bytes_of w n) is.count

pub size_within : (w : Width) (bytes : List ℕ) (h : Head) → IsHeadOf w bytes h → head_size w h ≤ length bytes
size_within w bytes h is = omega (arith, is.whole, size_is w bytes h is)

-- it ends in front of it
pub left_out : (w : Width) (bytes left : List ℕ) (start : List Extent) (h : Head) (page : ℕ) → IsHeadOf w bytes h → h.first + h.count ≤ page
    → left ≡ drop (head_size w h) bytes → LeavesOut page start (extents_read w bytes) → LeavesOut page start (extents_read w left)
left_out w bytes left start h page is ends same front =
    let rest : left ≡ drop (size_in w bytes) bytes = same ∙ ap (λ (n : ℕ). drop n bytes) (size_is w bytes h is) in
    subst (λ (l : List ℕ). LeavesOut page start (extents_read w l)) (sym rest)
    (leaves_more page start (extents_read w bytes) (extents_read w (drop (size_in w bytes) bytes)) front
    (subst (λ (es : List Extent). LeavesOut page es (extents_read w (drop (size_in w bytes) bytes))) (sym (read_more w bytes is.whole))
    (leaves_one page (extent_in w bytes) (extents_read w (drop (size_in w bytes) bytes)) (omega (arith, ends, end_in w bytes h is)))))

-- it begins with the page or before it
pub begins_in : (w : Width) (bytes : List ℕ) (h : Head) (page : ℕ) → IsHeadOf w bytes h → h.first ≤ page → BeginsBy page (extents_read w bytes)
begins_in w bytes h page is le = subst (BeginsBy page) (sym (read_more w bytes is.whole)) (omega (arith, le, is.first))

-- a page in front of it
pub hole_before : (w : Width) (bytes : List ℕ) (h : Head) (page : ℕ) → IsHeadOf w bytes h → page < h.first
    → place_found (extents_read w bytes) page ≡ None
hole_before w bytes h page is lt =
    ap (λ (es : List Extent). place_found es page) (read_more w bytes is.whole)
    ∙ found_before (extent_in w bytes) (extents_read w (drop (size_in w bytes) bytes)) page (omega (arith, lt, is.first))

-- where it begins, by the kind
begins_on_unit : (bytes : List ℕ) (unit : ℕ) → start_in bytes ≡ OnUnit unit → (is_shared_in bytes ≡ false) × (unit ≡ unit_in bytes)
begins_on_unit bytes unit = by (is_shared_in bytes)
  where
    unit_of : Start → ℕ
    unit_of (OnUnit u) = suc u
    unit_of (OnSlot s k) = 0

    by : (b : Bool) → cond b (OnSlot (sbid_in bytes) (slot_number_in bytes)) (OnUnit (unit_in bytes)) ≡ OnUnit unit
        → (b ≡ false) × (unit ≡ unit_in bytes)
    by true e = absurd (omega (arith, ap unit_of e))
    by false e = (refl, omega (arith, ap unit_of e))

begins_on_slot : (bytes : List ℕ) (sbid index : ℕ) → start_in bytes ≡ OnSlot sbid index
    → (is_shared_in bytes ≡ true) × ((sbid ≡ sbid_in bytes) × (index ≡ slot_number_in bytes))
begins_on_slot bytes sbid index = by (is_shared_in bytes)
  where
    sbid_of : Start → ℕ
    sbid_of (OnUnit u) = 0
    sbid_of (OnSlot s k) = suc s

    index_of : Start → ℕ
    index_of (OnUnit u) = 0
    index_of (OnSlot s k) = k

    by : (b : Bool) → cond b (OnSlot (sbid_in bytes) (slot_number_in bytes)) (OnUnit (unit_in bytes)) ≡ OnSlot sbid index
        → (b ≡ true) × ((sbid ≡ sbid_in bytes) × (index ≡ slot_number_in bytes))
    by true e = (refl, (omega (arith, ap sbid_of e), sym (ap index_of e)))
    by false e = absurd (omega (arith, ap sbid_of e))

module _ (w : Width) (bytes : List ℕ) (h : Head) (page : ℕ) (is : IsHeadOf w bytes h) (from : h.first ≤ page)
    (ends : EndBehind page (extents_read w bytes)) where
  pub below : page - h.first < count_in bytes
  below =
      let lt : page < page_end (extent_in w bytes) = subst (EndBehind page) (read_more w bytes is.whole) ends in
      omega (arith, lt, from, is.first, is.count, end_in w bytes h is)

  -- the place of one of its pages is that in its body
  place_there : (b : Body) → body_in w bytes ≡ b → place_found (extents_read w bytes) page ≡ Some (place_in b (page - h.first))
  place_there b body =
      let same : page - first_in bytes ≡ page - h.first = ap (λ (n : ℕ). page - n) (sym is.first) in
      ap (λ (es : List Extent). place_found es page) (read_more w bytes is.whole)
      ∙ found_in (extent_in w bytes) (extents_read w (drop (size_in w bytes) bytes)) page (omega (arith, from, is.first))
      (omega (arith, below, from, is.first, is.count, end_in w bytes h is))
      ∙ (λ i. Some (place_in (body i) (same i)))

  module _ (unit : ℕ) (at : h.start ≡ OnUnit unit) where
    units : (is_shared_in bytes ≡ false) × (unit ≡ unit_in bytes)
    units = begins_on_unit bytes unit (sym is.start ∙ at)

    -- the checksum is there
    pub csum_there : 11 + bytes_of w (page - h.first) + bytes_of w 1 ≤ length bytes
    csum_there = omega (
      arith,
      bytes_less w (page - h.first) (count_in bytes) below,
      is.whole,
      ap (λ (b : Bool). cond b 17 (11 + bytes_of w (count_in bytes))) units.0,
    )

    pub place_read : place_found (extents_read w bytes) page
        ≡ Some (own (unit + (page - h.first)) (csum_in w (drop (11 + bytes_of w (page - h.first)) bytes)))
    place_read =
        place_there (private (unit_in bytes) (csums_in w (count_in bytes) (drop 11 bytes)))
        (ap (λ (b : Bool). cond b (shared (sbid_in bytes) (slot_number_in bytes) (count_in bytes))
        (private (unit_in bytes) (csums_in w (count_in bytes) (drop 11 bytes)))) units.0)
        ∙ (λ j. Some (own (sym units.1 j + (page - h.first)) (numbered j)))
      where
        numbered : slice_index (csums_in w (count_in bytes) (drop 11 bytes)) (page - h.first) ≡ csum_in w
            (drop (11 + bytes_of w (page - h.first)) bytes)
        numbered = csum_of w (count_in bytes) (page - h.first) (drop 11 bytes) below ∙ ap (csum_in w) (drop-drop (bytes_of w (page - h.first)) 11 bytes)

    -- its unit has a number of 32 bits
    pub unit_fits : HasNumber (extents_read w bytes) page → unit + (page - h.first) < 2 ^ 32
    unit_fits has = has (own (unit + (page - h.first)) (csum_in w (drop (11 + bytes_of w (page - h.first)) bytes))) place_read

  module _ (sbid index : ℕ) (at : h.start ≡ OnSlot sbid index) where
    slots : (is_shared_in bytes ≡ true) × ((sbid ≡ sbid_in bytes) × (index ≡ slot_number_in bytes))
    slots = begins_on_slot bytes sbid index (sym is.start ∙ at)

    pub slot_found : place_found (extents_read w bytes) page ≡ Some (slot sbid (index + (page - h.first)))
    slot_found =
        place_there (shared (sbid_in bytes) (slot_number_in bytes) (count_in bytes))
        (ap (λ (b : Bool). cond b (shared (sbid_in bytes) (slot_number_in bytes) (count_in bytes))
        (private (unit_in bytes) (csums_in w (count_in bytes) (drop 11 bytes)))) slots.0)
        ∙ (λ j. Some (slot (sym slots.1.0 j) (sym slots.1.1 j + (page - h.first))))

    -- its slot has a number of 16 bits
    pub slot_fits : HasNumber (extents_read w bytes) page → index + (page - h.first) < 2 ^ 16
    slot_fits has = has (slot sbid (index + (page - h.first))) slot_found

  -- either way
  pub has_place : HasNumber (extents_read w bytes) page → (s : Start) → h.start ≡ s → HasPlace w bytes s (page - h.first)
  has_place has (OnUnit unit) at = (unit_fits unit at has, csum_there unit at)
  has_place has (OnSlot sbid index) at = slot_fits sbid index at has

  pub place_is : (s : Start) → h.start ≡ s → place_found (extents_read w bytes) page ≡ Some (place_from w bytes s (page - h.first))
  place_is (OnUnit unit) at = place_read unit at
  place_is (OnSlot sbid index) at = slot_found sbid index at
