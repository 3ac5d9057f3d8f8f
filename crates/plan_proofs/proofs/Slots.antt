-- Pages on slots of shared blobs: which blobs shards name by them, and what shards want of these.
use Rattle.std.proofs.Common.{◌≡◌, ◌⊎◌, inl, inr, ℕ, zero, suc, ◌+◌, ◌-◌, ◌<◌, ◌^◌, true, cond, List, [], ◌∷◌, length, get_or, Contains, Option, Some, None, refl, sym, ap, subst, ◌∙◌, arith}
use Rattle.std.specs.Prelude.{◌==◌, slice_get, Any}
use Rattle.std.specs.List.{AllByRecursion}
use Rattle.std.specs.FinMap as finite
use Rattle.std.specs.Ordering.{nat_cmp, ordering_reverse}
use Rattle.std.specs.declared.cmp.Ordering.{Ordering}
use Rattle.std.specs.declared.cmp.Ordering.TheVariants.{Less, Equal, Greater}
use Rattle.std.specs.Cmp.Lexicographic.{nat_list_cmp_total}
use Rattle.std.proofs.lemmas.Bool.{cases_Bool}
use Rattle.std.proofs.lemmas.Bool.Decides.{nat_tests}
use Rattle.byte_maps.specs.ByteMap.{byte_order}
use Rattle.byte_maps.proofs.Prelude.{same_bytes}
use Rattle.meta_rows.specs.Prelude.{Rows}
use Rattle.meta_log.specs.declared.slot.Super.{Super}
use Rattle.meta_log.specs.Prelude.{width_of}
use Rattle.unit_fields.specs.declared.width.Width.{Width}
use Rattle.unit_fields.specs.Prelude.{IsName}
use Rattle.row_format.specs.Prelude.{shared_key, Extent, FitsBody, FitsExtent, Body, private, shared, NamesBlob, ExtentsAscend, Place, own, slot, place_in, place_of, page_count, page_end, Slot, Row, shard, blob, row_value}
use Rattle.row_format.proofs.Prelude.{same_row}
use Rattle.store_image.specs.Prelude.{HasKey, HasRow, IsPageAt, HasSlot, StandsOn, IsNamedBy, IsNamedEarlier, HasSlots, NoBadRow}
use Rattle.store_image.proofs.Prelude.{in_place, one_place, some_unit}
use Rattle.object_rows.proofs.GoodPages.{all_map}
use Rattle.plan_rows.specs.declared.plan.SlotNo.{SlotNo}
use Rattle.plan_drafts.specs.Prelude.{Layout, HasLayout, or_empty, CollDraft, indexes_of}
use Rattle.plan_proofs.proofs.AfterObject.{has_it, either_place, has_first, has_last, before_it, page_from}
use Rattle.plan_proofs.proofs.Lengths.{has_page}
use Rattle.plan_proofs.proofs.Reached.{IsReached}

-- ---- the extent of a page

module _ (w : Width) (es : List Extent) where
  -- what holds of the place of each page holds of each extent's last
  pub last_places : (P : Place → Type 0) → ExtentsAscend es → AllByRecursion (FitsExtent w) es
      → ((page : ℕ) (place : Place) → place_of es page ≡ Some place → P place)
      → AllByRecursion (λ e. FitsBody w e.body × P (place_in e.body (page_count e.body - 1))) es
  last_places P = by es
    where
      by : (es : List Extent) → ExtentsAscend es → AllByRecursion (FitsExtent w) es
          → ((page : ℕ) (place : Place) → place_of es page ≡ Some place → P place)
          → AllByRecursion (λ e. FitsBody w e.body × P (place_in e.body (page_count e.body - 1))) es
      by [] ascend fit its = tt
      by (e ∷ es) ascend fit its =
          let some = has_page w e.body fit.0.body in
          let last : page_end e - 1 - e.first ≡ page_count e.body - 1 = omega (arith, some) in (
            (
              fit.0.body,
              subst (λ i. P (place_in e.body i)) last
                  (its (page_end e - 1) (place_in e.body (page_end e - 1 - e.first)) (ap (either_place e es (page_end e - 1)) (has_last e some))),
            ),
            by es ascend.1 fit.1 (λ page place is.
                its page place (ap (either_place e es page) (before_it e page (page_from (page_end e) es page place ascend.0 is)) ∙ is)),
          )

-- the blob of a slot
abbrev blob_of : Place → ℕ
blob_of (own unit csum) = 0
blob_of (slot sbid index) = sbid

names_it : (body : Body) (i sbid index : ℕ) → place_in body i ≡ slot sbid index → NamesBlob sbid body
names_it (private unit csums) i sbid index is = absurd cc
names_it (shared other first count) i sbid index is = ap blob_of is

any_behind : {X : Type 0} (P : X → Type 0) (x : X) (xs : List X) → Any P xs → Any P (x ∷ xs)
any_behind P x xs any = (suc any.0, any.1, omega (arith, any.2), any.3, any.4)

found_named : (es : List Extent) (page sbid index : ℕ) → place_of es page ≡ Some (slot sbid index) → Any (λ e. NamesBlob sbid e.body) es
found_named [] page sbid index is = absurd cc
found_named (e ∷ es) page sbid index is = elim (cases_Bool (has_it e page)) [
  | inl here ↦
      let at : Some (place_in e.body (page - e.first)) ≡ Some (slot sbid index) = sym (ap (either_place e es page) here) ∙ is in
      (0, e, omega arith, refl, names_it e.body (page - e.first) sbid index cc)
  | inr not ↦ any_behind (λ e. NamesBlob sbid e.body) e es (found_named es page sbid index (sym (ap (either_place e es page) not) ∙ is))
]

module _ (w : Width) (rows : Rows) (c : List ℕ) where
  -- a page on a slot names its blob
  pub page_names : (o : List ℕ) (page sbid index : ℕ) → IsPageAt w rows c o page (slot sbid index) → IsNamedBy w rows c sbid
  page_names o page sbid index is = record {
    object = o;
    page = is.first;
    extents = is.extents;
    has_shard = is.has_shard;
    names = found_named is.extents page sbid index is.has_page;
  }

  -- and a blob that is named has a page on a slot
  pub record HasPageOn (sbid : ℕ) : Type 0 where
    pub object : List ℕ
    pub page : ℕ
    pub index : ℕ
    pub at : IsPageAt w rows c object page (slot sbid index)

  pub named_page : (sbid : ℕ) (named : IsNamedBy w rows c sbid) → ExtentsAscend named.extents → HasPageOn sbid
  named_page sbid named ascend =
      let found = by named.extents ascend named.has_shard.fits.fit named.names.0 named.names.1 named.names.2 named.names.3 named.names.4 in
      record {
        object = named.object;
        page = found.0;
        index = found.1;
        at = record { first = named.page; extents = named.extents; has_shard = named.has_shard; has_page = found.2 };
      }
    where
      first_of : (body : Body) (i : ℕ) → NamesBlob sbid body → (index : ℕ) × (place_in body i ≡ slot sbid index)
      first_of (private unit csums) i names = absurd names
      first_of (shared other first count) i names = (first + i, ap (λ n. slot n (first + i)) names)

      by : (es : List Extent) → ExtentsAscend es → AllByRecursion (FitsExtent w) es → (k : ℕ) (x : Extent) → k < length es → get_or es k x ≡ x
          → NamesBlob sbid x.body → (page : ℕ) × (index : ℕ) × (place_of es page ≡ Some (slot sbid index))
      by [] ascend fit k x lt at names = absurd (omega (arith, lt))
      by (e ∷ es) ascend fit zero x lt at names =
          let it = first_of e.body (e.first - e.first) (subst (λ (z : Extent). NamesBlob sbid z.body) (sym at) names) in
          (e.first, it.0, ap (either_place e es e.first) (has_first e (has_page w e.body fit.0.body)) ∙ ap Some it.1)
      by (e ∷ es) ascend fit (suc k) x lt at names =
          let it = by es ascend.1 fit.1 k x (omega (arith, lt)) at names in
          (it.0, it.1, ap (either_place e es it.0) (before_it e it.0 (page_from (page_end e) es it.0 (slot sbid it.1) ascend.0 it.2)) ∙ it.2)

-- ---- layouts

nothing_at : (page : ℕ) {P : Type 0} (place : Place) → finite.get {R = nat_cmp} finite.empty page ≡ Some place → P
nothing_at page place is = absurd (let t = sym (finite.get-empty nat_cmp page) ∙ is in cc)

module _ (w : Width) (rows : Rows) (c : List ℕ) where
  -- a page of a layout is one of the object
  pub layout_page : (o : List ℕ) (x : Option Layout) → HasLayout w rows c o x → (page : ℕ) (place : Place)
      → finite.get (or_empty x).pages page ≡ Some place → IsPageAt w rows c o page place
  layout_page o None none page place is = nothing_at page place is
  layout_page o (Some l) has page place is = (has.1 page place).0 is

  -- the blobs whose slots pages left were named
  pub left_named : (layouts : List ℕ → Option Layout) → ((o : List ℕ) → IsName o → HasLayout w rows c o (layouts o)) → (y : CollDraft)
      → IsReached layouts y → (x : SlotNo) → Contains y.unshared x → IsNamedBy w rows c x.sbid
  left_named layouts has y reached x k =
      let was = reached.left x k in
      page_names w rows c was.object was.page x.sbid x.index
      (layout_page was.object (layouts was.object) (has was.object was.named) was.page (slot x.sbid x.index) was.stood)

-- ---- what shards want of blobs

-- what a page's place wants of its blob, as extents want it
abbrev pub HasPlace : Width → Rows → List ℕ → Place → Type 0
HasPlace w rows c (own unit csum) = Unit {0}
HasPlace w rows c (slot sbid index) = HasKey rows (shared_key sbid)
    × ((unit : ℕ) (slots : List Slot) → HasRow w rows (blob sbid unit slots) → index < length slots)
    × ¬ IsNamedEarlier w rows c sbid

body_has : (w : Width) (rows : Rows) (c : List ℕ) (body : Body) → FitsBody w body → HasPlace w rows c (place_in body (page_count body - 1))
    → HasSlots w rows c body
body_has w rows c (private unit csums) fits has = tt
body_has w rows c (shared sbid first count) fits has = (has.0, λ unit slots row. omega (arith, has.1 unit slots row, fits.2), has.2)

-- extents of which each page's place has what it wants have it too
pub places_have : (w : Width) (rows : Rows) (c : List ℕ) (es : List Extent) → ExtentsAscend es → AllByRecursion (FitsExtent w) es
    → ((page : ℕ) (place : Place) → place_of es page ≡ Some place → HasPlace w rows c place) → AllByRecursion (λ e. HasSlots w rows c e.body) es
places_have w rows c es ascend fit its =
    all_map (λ e. FitsBody w e.body × HasPlace w rows c (place_in e.body (page_count e.body - 1))) (λ e. HasSlots w rows c e.body)
    (λ e has. body_has w rows c e.body has.0 has.1) es (last_places w es (HasPlace w rows c) ascend fit its)

-- ---- slots

abbrev slots_in : Row → List Slot
slots_in (blob sbid first slots) = slots
slots_in row = []

inside : (xs : List Slot) (index : ℕ) (x : Slot) → slice_get xs index ≡ Some x → index < length xs
inside [] index x is = absurd cc
inside (y ∷ ys) zero x is = omega arith
inside (y ∷ ys) (suc index) x is = omega (arith, inside ys index x is)

-- a slot is among those that its blob's row says
pub slot_inside : (w : Width) (rows : Rows) (sbid index at unit : ℕ) (x : Slot) (slots : List Slot) → HasSlot w rows sbid index at x
    → HasRow w rows (blob sbid unit slots) → index < length slots
slot_inside w rows sbid index at unit x slots has row =
    let both : Some (row_value w (blob sbid has.first has.slots)) ≡ Some (row_value w (blob sbid unit slots)) = sym has.has_blob.stands ∙ row.stands in
    let same = ap slots_in (same_row w (blob sbid has.first has.slots) (blob sbid unit slots) has.has_blob.fits row.fits refl cc) in
    inside slots index x (ap (λ zs. slice_get zs index) (sym same) ∙ has.there)

-- its numbers fit
pub slot_fits : (w : Width) (rows : Rows) (sbid index at : ℕ) (x : Slot) → HasSlot w rows sbid index at x → (sbid < 2 ^ 64) × (index < 2 ^ 16)
slot_fits w rows sbid index at x has =
    (has.has_blob.fits.number, omega (arith, inside has.slots index x has.there, has.has_blob.fits.few))

-- a slot of a blob, wherever it is
pub record HasSome (w : Width) (rows : Rows) (sbid index : ℕ) : Type 0 where
  pub unit : ℕ
  pub is : Slot
  pub has_slot : HasSlot w rows sbid index unit is

-- ---- slots that were left

equal_numbers : (n m : ℕ) → (n == m) ≡ true → n ≡ m
equal_numbers n m is = grind (arith, nat_tests, is)

-- none of the slots is the blob's, or one is
pub left_or_none : (sbid : ℕ) (ss : List SlotNo) → (indexes_of sbid ss ≡ []) ⊎ ((x : SlotNo) × Contains ss x × (x.sbid ≡ sbid))
left_or_none sbid [] = inl refl
left_or_none sbid (s ∷ ss) = elim (cases_Bool (s.sbid == sbid)) [
  | inl here ↦ inr (s, (0, omega arith, refl), equal_numbers s.sbid sbid here)
  | inr not ↦ elim (left_or_none sbid ss) [
    | inl none ↦ inl (ap (λ b. cond b (s.index ∷ indexes_of sbid ss) (indexes_of sbid ss)) not ∙ none)
    | inr one ↦ inr (one.0, (suc one.1.0, omega (arith, one.1.1), one.1.2), one.2)
  ]
]

-- ---- on good rows

module _ (s : Super) (rows : Rows) (good : NoBadRow s rows) where
  -- a page that stands on a slot has it
  pub page_slot : (c o : List ℕ) (page sbid index : ℕ) → IsPageAt (width_of s) rows c o page (slot sbid index) → HasSome (width_of s) rows sbid index
  page_slot c o page sbid index at =
      let on = some_unit s rows good c o page (slot sbid index) at in
      let place = one_place s rows good c o page on.1.place (slot sbid index) on.1.at at in
      let stands = subst (λ p. StandsOn (width_of s) rows p on.0) place on.1.stands in
      record { unit = on.0.unit; is = stands.0; has_slot = stands.1.0 }

  one_of : (c : List ℕ) (sbid : ℕ) (es : List Extent) → AllByRecursion (λ e. HasSlots (width_of s) rows c e.body) es
      → Any (λ e. NamesBlob sbid e.body) es → ¬ IsNamedEarlier (width_of s) rows c sbid
  one_of c sbid es all any = by es all any.0 any.1 any.2 any.3 any.4
    where
      here : (body : Body) → HasSlots (width_of s) rows c body → NamesBlob sbid body → ¬ IsNamedEarlier (width_of s) rows c sbid
      here (private unit csums) has names = absurd names
      here (shared other first count) has names = subst (λ n. ¬ IsNamedEarlier (width_of s) rows c n) names has.2

      by : (es : List Extent) → AllByRecursion (λ e. HasSlots (width_of s) rows c e.body) es → (k : ℕ) (x : Extent) → k < length es → get_or es k x ≡ x
          → NamesBlob sbid x.body → ¬ IsNamedEarlier (width_of s) rows c sbid
      by [] all k x lt at names = absurd (omega (arith, lt))
      by (e ∷ es) all zero x lt at names = here e.body all.0 (subst (λ (z : Extent). NamesBlob sbid z.body) (sym at) names)
      by (e ∷ es) all (suc k) x lt at names = by es all.1 k x (omega (arith, lt)) at names

  -- no earlier collection's shards name what those of this one do
  not_earlier : (c : List ℕ) (sbid : ℕ) → IsNamedBy (width_of s) rows c sbid → ¬ IsNamedEarlier (width_of s) rows c sbid
  not_earlier c sbid named =
      one_of c sbid named.extents (in_place s rows (shard c named.object named.page named.extents) good named.has_shard).slots named.names

  -- so it is one collection's shards that name a blob
  pub one_home : (c d : List ℕ) (sbid : ℕ) → IsNamedBy (width_of s) rows c sbid → IsNamedBy (width_of s) rows d sbid → c ≡ d
  one_home c d sbid a b = by (byte_order c d) refl
    where
      by : (o : Ordering) → byte_order c d ≡ o → c ≡ d
      by Less p = absurd (not_earlier d sbid b (record { coll = c; before = p; named = a }))
      by Equal p = same_bytes c d p
      by Greater p = absurd (not_earlier c sbid a (record { coll = d; before = nat_list_cmp_total.antisymm d c ∙ ap ordering_reverse p; named = b }))
