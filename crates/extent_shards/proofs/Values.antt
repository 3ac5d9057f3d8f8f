-- Pages put into a map as they are read from bytes.
use Rattle.std.proofs.Common.{◌≡◌, ◌≢◌, ℕ, ◌+◌, ◌<◌, ◌≤◌, ◌^◌, List, [], ◌∷◌, ◌++◌, length, refl, sym, ap, subst, ◌∙◌, arith}
use Rattle.std.specs.List.{flat_map, AllByRecursion}
use Rattle.std.specs.FinMap as finite
use Rattle.std.proofs.lemmas.List.{length-append}
use Rattle.std.proofs.lemmas.List.Concat.{flat_map-cons}
use Rattle.unit_fields.specs.declared.width.Width.{Width}
use Rattle.unit_fields.specs.Prelude.{bytes_of}
use Rattle.row_format.specs.Prelude.{Extent, Body, private, shared, Place, own, slot, page_end, extent_bytes, FitsExtent, csum_bytes}
use Rattle.onode_codec.specs.declared.extent.Head.{Head}
use Rattle.onode_codec.specs.declared.extent.Start.{Start}
use Rattle.onode_codec.specs.declared.extent.Start.TheVariants.{Unit as OnUnit, Slot as OnSlot}
use Rattle.onode_codec.specs.Reading.{BeginsWithNoExtent, ReadsHead, ReadsCsum, SpellExtents}
use Rattle.onode_codec.proofs.Again.{same_extents}
use Rattle.onode_codec.proofs.ExtentReading.{length-csums, head_front, csums_none, csums_more, csums_short, extent_read, slots_read, some_bytes, spelled_behind}
use Rattle.blob_map.specs.Prelude.{PageMap, HasNumbers, extent_pages, with_pages}
use Rattle.extent_shards.specs.Prelude.{SpellPages, BeginsWithPages, PutsFirst, PutsExtent}
use Rattle.blob_map.proofs.Lay.{laid_append}
use Rattle.blob_map.proofs.Back.{pages_more}

-- ---- one extent

-- there is room for the numbers of so many units or slots, and for the units there are checksums
abbrev pub HasRoom : Width → Start → ℕ → List ℕ → Type 0
HasRoom w (OnUnit unit) count mid = (unit + count ≤ 2 ^ 32) × (bytes_of w count ≤ length mid)
HasRoom w (OnSlot sbid index) count mid = index + count ≤ 2 ^ 16

-- behind the head that was read there is what it wants, and the numbers of its pages fit
record FitsRun (w : Width) (h : Head) (mid : List ℕ) : Type 0 where
  pub pages : h.first + h.count ≤ 2 ^ 32
  pub room : HasRoom w h.start h.count mid

fits_by : (w : Width) (old mid rest : List ℕ) (h : Head) (first : ℕ) (b : Body) → FitsExtent w (record { first = first; body = b })
    → HasNumbers (record { first = first; body = b }) → old ≡ extent_bytes w (record { first = first; body = b }) ++ rest
    → ReadsHead old mid h → FitsRun w h mid
fits_by w old mid rest h first (private unit csums) fits numbers is read =
    let at = head_front w old mid rest h first (private unit csums) read fits is in
    let enough : bytes_of w h.count ≤ length mid =
    omega (arith, ap (bytes_of w) at.count_is, ap length at.behind, length-append (flat_map (csum_bytes w) csums) rest, length-csums w csums) in
    record {
      pages = omega (arith, at.first_is, at.count_is, numbers.pages);
      room = subst (λ s. HasRoom w s h.count mid) (sym at.start_is) (omega (arith, at.count_is, numbers.places), enough);
    }
fits_by w old mid rest h first (shared sbid index count) fits numbers is read =
    let at = head_front w old mid rest h first (shared sbid index count) read fits is in
    record {
      pages = omega (arith, at.first_is, at.count_is, numbers.pages);
      room = subst (λ s. HasRoom w s h.count mid) (sym at.start_is) (omega (arith, at.count_is, numbers.places.1));
    }

fits_run : (w : Width) (old mid : List ℕ) (h : Head) → BeginsWithPages w old → ReadsHead old mid h → FitsRun w h mid
fits_run w old mid h begins read =
    fits_by w old mid begins.rest h begins.extent.first begins.extent.body begins.fits begins.numbers begins.spelled read

pub fits_pages : (w : Width) (old mid : List ℕ) (h : Head) → BeginsWithPages w old → ReadsHead old mid h → h.first + h.count ≤ 2 ^ 32
fits_pages w old mid h begins read = (fits_run w old mid h begins read).pages

pub fits_room : (w : Width) (old mid : List ℕ) (h : Head) (s : Start) → BeginsWithPages w old → ReadsHead old mid h → h.start ≡ s
    → HasRoom w s h.count mid
fits_room w old mid h s begins read is = subst (λ t. HasRoom w t h.count mid) is (fits_run w old mid h begins read).room

pub begins_so : (w : Width) (old : List ℕ) → BeginsWithPages w old → BeginsWithNoExtent w old → ⊥
begins_so w old begins none = none begins.extent begins.rest begins.fits begins.spelled

pub puts_none : (w : Width) (first unit : ℕ) (old : List ℕ) (pages : PageMap) → PutsFirst w first unit 0 old old pages pages
puts_none w first unit old pages = record { csums = []; read = csums_none w old; put = refl }

-- a checksum more is read, and its page put
pub puts_next : (w : Width) (first unit count csum : ℕ) (old mid new : List ℕ) (pages now after : PageMap) → ReadsCsum w mid new csum
    → after ≡ finite.insert now (first + count) (own (unit + count) csum) → PutsFirst w first unit count old mid pages now
    → PutsFirst w first unit (count + 1) old new pages after
puts_next w first unit count csum old mid new pages now after one after_is puts =
    let e : Extent = record { first = first; body = private unit puts.csums } in
    let p : ℕ × Place = (first + count, own (unit + count) csum) in
    let page : first + count ≡ page_end e = omega (arith, puts.read.size) in
    let next : unit + count ≡ unit + length puts.csums = omega (arith, puts.read.size) in
    record {
      csums = puts.csums ++ csum ∷ [];
      read = csums_more w count csum old mid new puts.csums one puts.read;
      put = after_is ∙ ap (λ m. finite.insert m (first + count) (own (unit + count) csum)) puts.put
          ∙ sym (laid_append pages (extent_pages e) (p ∷ [])) ∙ ap (with_pages pages) (sym (pages_more e p page next));
    }

-- a page more is put on a slot
pub slots_next : (first sbid index count : ℕ) (pages now after : PageMap) → after ≡ finite.insert now (first + count) (slot sbid (index + count))
    → now ≡ with_pages pages (extent_pages (record { first = first; body = shared sbid index count }))
    → after ≡ with_pages pages (extent_pages (record { first = first; body = shared sbid index (count + 1) }))
slots_next first sbid index count pages now after after_is so =
    let e : Extent = record { first = first; body = shared sbid index count } in
    let p : ℕ × Place = (first + count, slot sbid (index + count)) in
    after_is ∙ ap (λ m. finite.insert m (first + count) (slot sbid (index + count))) so
    ∙ sym (laid_append pages (extent_pages e) (p ∷ [])) ∙ ap (with_pages pages) (sym (pages_more e p refl (refl, refl)))

-- fewer bytes than a checksum's are left only behind the last
pub csum_there : (w : Width) (first unit count most : ℕ) (old mid : List ℕ) (pages now : PageMap) → PutsFirst w first unit count old mid pages now
    → count < most
    → bytes_of w most ≤ length old → length mid < bytes_of w 1 → ⊥
csum_there w first unit count most old mid pages now puts lt whole few =
    absurd (omega (arith, whole, csums_short w most count old mid puts.csums puts.read lt few))

-- those of a whole extent are put
pub puts_units : (w : Width) (old mid new : List ℕ) (h : Head) (unit : ℕ) (pages after : PageMap) → ReadsHead old mid h → h.start ≡ OnUnit unit
    → PutsFirst w h.first unit h.count mid new pages after → PutsExtent w old new pages after
puts_units w old mid new h unit pages after head is puts = record {
  extent = record { first = h.first; body = private unit puts.csums };
  read = extent_read w old mid new puts.csums h.first h.count unit
      (subst (λ s. ReadsHead old mid (record { first = h.first; count = h.count; start = s })) is head) puts.read;
  put = puts.put;
}

pub puts_slots : (w : Width) (old new : List ℕ) (h : Head) (sbid index : ℕ) (pages after : PageMap) → ReadsHead old new h
    → h.start ≡ OnSlot sbid index → after ≡ with_pages pages (extent_pages (record { first = h.first; body = shared sbid index h.count }))
    → PutsExtent w old new pages after
puts_slots w old new h sbid index pages after head is put = record {
  extent = record { first = h.first; body = shared sbid index h.count };
  read = slots_read w old new h.first h.count sbid index
      (subst (λ s. ReadsHead old new (record { first = h.first; count = h.count; start = s })) is head);
  put = put;
}

-- ---- one extent behind the other

-- these extents are left, whose pages aren't put yet
pub record AreLeft (w : Width) (bytes fields : List ℕ) (pages now : PageMap) : Type 0 where
  pub left : List Extent
  pub spelled : SpellExtents w fields left
  pub numbers : AllByRecursion HasNumbers left
  pub put : (es : List Extent) → SpellExtents w bytes es → with_pages now (flat_map extent_pages left) ≡ with_pages pages (flat_map extent_pages es)

pub all_left : (w : Width) (bytes fields : List ℕ) (pages : PageMap) → SpellPages w bytes → fields ≡ bytes → AreLeft w bytes fields pages pages
all_left w bytes fields pages spell is = record {
  left = spell.extents;
  spelled = subst (λ l. SpellExtents w l spell.extents) (sym is) spell.spelled;
  numbers = spell.numbers;
  put = λ es spelled. ap (λ l. with_pages pages (flat_map extent_pages l)) (same_extents w bytes spell.extents es spell.spelled spelled);
}

begins_with : (w : Width) (bytes : List ℕ) (left : List Extent) → SpellExtents w bytes left → AllByRecursion HasNumbers left → bytes ≢ []
    → BeginsWithPages w bytes
begins_with w bytes [] spelled numbers some = absurd (some spelled.spelled)
begins_with w bytes (e ∷ es) spelled numbers some = record {
  extent = e;
  rest = flat_map (extent_bytes w) es;
  fits = spelled.fit.0;
  numbers = numbers.0;
  spelled = spelled.spelled ∙ flat_map-cons (extent_bytes w) e es;
}

module _ (w : Width) (bytes fields : List ℕ) (pages now : PageMap) (are : AreLeft w bytes fields pages now) where
  pub one_left : fields ≢ [] → BeginsWithPages w fields
  one_left some = begins_with w fields are.left are.spelled are.numbers some

  pub next_put : (new : List ℕ) (after : PageMap) → PutsExtent w fields new now after → AreLeft w bytes new pages after
  next_put new after puts =
      let behind = spelled_behind w fields new puts.extent are.left are.spelled puts.read in
      let numbers : AllByRecursion HasNumbers (puts.extent ∷ behind.rest) = subst (AllByRecursion HasNumbers) behind.are are.numbers in
      record {
        left = behind.rest;
        spelled = behind.spelled;
        numbers = numbers.1;
        put = λ es spelled.
            ap (λ m. with_pages m (flat_map extent_pages behind.rest)) puts.put
            ∙ sym (laid_append now (extent_pages puts.extent) (flat_map extent_pages behind.rest))
            ∙ ap (with_pages now) (sym (flat_map-cons extent_pages puts.extent behind.rest))
            ∙ ap (λ l. with_pages now (flat_map extent_pages l)) (sym behind.are) ∙ are.put es spelled;
      }

  pub all_put : fields ≡ [] → (es : List Extent) → SpellExtents w bytes es → now ≡ with_pages pages (flat_map extent_pages es)
  all_put empty es spelled = ap (λ l. with_pages now (flat_map extent_pages l)) (sym (none are.left are.spelled)) ∙ are.put es spelled
    where
      none : (left : List Extent) → SpellExtents w fields left → left ≡ []
      none [] said = refl
      none (e ∷ left) said =
          absurd (omega (
            arith,
            some_bytes w e (flat_map (extent_bytes w) left),
            ap length
                (sym (said.spelled ∙ flat_map-cons (extent_bytes w) e left) ∙ empty),
          ))

pub fewer_left : (w : Width) (old new : List ℕ) (pages after : PageMap) → PutsExtent w old new pages after → length new < length old
fewer_left w old new pages after puts =
    omega (
      arith,
      ap length puts.read.spelled,
      length-append (extent_bytes w puts.extent) new,
      some_bytes w puts.extent [],
      length-append
          (extent_bytes w puts.extent) [],
    )
