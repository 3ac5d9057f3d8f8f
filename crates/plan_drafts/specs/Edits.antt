-- What an operation makes of an object's pages while a transaction is planned: which get new bytes, each on a unit, and which become holes.
use Rattle.std.specs.Prelude.{◌≡◌, ℕ, ◌+◌, ◌/◌, ◌<◌, ◌==◌, ◌&&◌, ◌||◌, nat_lt, not, Bool, true, false, List, [], ◌∷◌, map, filter, Option, Some, None, unwrap_or, if◌then◌else◌}
use Rattle.std.specs.List.{flat_map}
use Rattle.std.specs.Option.{option_map, option_map_or, option_to_list}
use Rattle.std.specs.FinMap as finite
use Rattle.byte_maps.specs.Units.{zeros}
use Rattle.crc32c_csum.specs.Prelude.{crc32c}
use Rattle.row_format.specs.Prelude.{Place, own, slot}
use Rattle.store_image.specs.Prelude.{PageUnit, page_bytes}
use Rattle.number_map.specs.NumberMap.{NumberMap, is_key_in}
use Rattle.plan_drafts.specs.declared.draft.Draft.{Draft}
use Rattle.plan_drafts.specs.declared.fate.Fate.{Fate}
use Rattle.plan_drafts.specs.declared.fate.Fate.TheVariants.{Stays, Hole, Changed, Takes}
use Rattle.plan_rows.specs.declared.plan.ReadUnit.{ReadUnit}
use Rattle.plan_rows.specs.declared.plan.SlotNo.{SlotNo}
pub use Rattle.plan_rows.specs.Edits.{covers_whole, pages_touched, page_after, Edit, end_of, grown, edit_of, is_cleared, page_unit, bytes_read, old_bytes_in, bytes_after, IsInLimits}

-- ---- pages

-- the page stands on a unit
abbrev pub is_there : Draft → ℕ → Bool
is_there d page = finite.contains_key d.kept page || finite.contains_key d.puts page

-- the page has bytes of the range from `off` to `end`
abbrev pub has_bytes_of : ℕ → ℕ → ℕ → Bool
has_bytes_of off end page = nat_lt off end && is_key_in (off / 4096) ((end + 4095) / 4096) page

-- whether the edit touches the page
abbrev pub is_touched : Edit → ℕ → Bool
is_touched e page = has_bytes_of e.off (end_of e) page

-- ---- what becomes of a page

-- Of a page that has bytes of a range, all or some, and of which not all bytes are cleared: one that was put by a taking is changed there; one
-- that stands where it stood takes a unit; a hole takes one too, or stays a hole where the range is cleared.
abbrev pub fate_there : Bool → Bool → Option ℕ → Option Place → Fate
fate_there clears whole (Some taking) kept = Changed taking (not whole)
fate_there clears whole None (Some place) = Takes (not whole)
fate_there clears whole None None = if clears then Hole else Takes false

-- Of a page of a draft, where the range from `off` to `end` gets new bytes, or is cleared: one without bytes of the range stays, and one of which
-- all bytes are cleared is a hole.
abbrev pub fate_in : ℕ → ℕ → Bool → Draft → ℕ → Fate
fate_in off end clears d page = if not (has_bytes_of off end page) then Stays
    else if clears && covers_whole off end page then Hole
    else fate_there clears (covers_whole off end page) (finite.get d.puts page) (finite.get d.kept page)

abbrev pub fate_of : Edit → Draft → ℕ → Fate
fate_of e d page = fate_in e.off (end_of e) e.clears d page

-- whether it is left as it is
abbrev pub is_left : Fate → Bool
is_left Stays = true
is_left fate = false

-- it is a hole
abbrev pub is_hole : Fate → Bool
is_hole Hole = true
is_hole fate = false

-- it gets new bytes
abbrev pub gets_bytes : Fate → Bool
gets_bytes (Changed taking old) = true
gets_bytes (Takes old) = true
gets_bytes fate = false

-- it takes a unit
abbrev pub takes_unit : Fate → Bool
takes_unit (Takes old) = true
takes_unit fate = false

-- some of its old bytes stay beside new ones
abbrev pub needs_old : Fate → Bool
needs_old (Changed taking old) = old
needs_old (Takes old) = old
needs_old fate = false

-- ---- the pages of an edit by what becomes of them

-- the pages that get new bytes, in order
abbrev pub pages_put : Edit → Draft → List ℕ
pages_put e d = filter (λ page. gets_bytes (fate_of e d page)) (pages_touched e.off (end_of e))

-- those of them that take a unit
abbrev pub pages_taking : Edit → Draft → List ℕ
pages_taking e d = filter (λ page. takes_unit (fate_of e d page)) (pages_put e d)

-- where a page is read, if some of its old bytes stay
abbrev pub place_read : (Place → PageUnit) → Fate → Option Place → Option PageUnit
place_read on fate kept = if needs_old fate then option_map on kept else None

-- the places where old bytes are read, in order: each a unit, and the checksum that is kept for its page
abbrev pub places_read : (Place → PageUnit) → Edit → Draft → List PageUnit
places_read on e d = flat_map (λ page. option_to_list (place_read on (fate_of e d page) (finite.get d.kept page))) (pages_put e d)

-- the units of an object's own that are released where a page leaves its place
abbrev pub units_released : Place → List ℕ
units_released (own unit csum) = unit ∷ []
units_released (slot sbid index) = []

-- and the slots that one page less names then
abbrev pub slots_released : Place → List SlotNo
slots_released (own unit csum) = []
slots_released (slot sbid index) = record { sbid = sbid; index = index } ∷ []

-- pages put by takings from this number on, one each
abbrev pub with_takings : ℕ → List ℕ → NumberMap ℕ → NumberMap ℕ
with_takings n [] puts = puts
with_takings n (page ∷ pages) puts = with_takings (n + 1) pages (finite.insert puts page n)

-- The object after an edit, where so many units had been taken before it: no page that it touches stands where it stood.
abbrev pub drafted : Edit → ℕ → Draft → Draft
drafted e n d = record {
  size = e.size;
  kept = finite.retain_keys d.kept (λ page. is_left (fate_of e d page));
  puts = with_takings n (pages_taking e d) (finite.retain_keys d.puts (λ page. not (is_hole (fate_of e d page))));
}

-- ---- bytes

-- What the units that a transaction takes are to hold, by the numbers of their takings.
abbrev pub Held : Type 0
Held = ℕ → List ℕ

-- the old bytes of a page: what the unit is to hold on which it was put, those of the place where it stands, or zeros of a hole
abbrev pub old_page : (Place → PageUnit) → List ReadUnit → Held → Draft → ℕ → List ℕ
old_page on read held d page = option_map_or held (finite.get d.puts page) (option_map_or (old_bytes_in on read) (finite.get d.kept page) (zeros 4096))

-- the taking by which a page was put
abbrev pub taking_of : Draft → ℕ → ℕ
taking_of d page = unwrap_or (finite.get d.puts page) 0

-- a page with the bytes that it gets, by the taking of its unit
abbrev pub page_written : (Place → PageUnit) → Edit → List ReadUnit → Held → Draft → Draft → ℕ → ℕ × List ℕ
page_written on e read held d after page = (taking_of after page, page_after e.off e.piece page (old_page on read held d page))

abbrev pub writes_of : (Place → PageUnit) → Edit → List ReadUnit → Held → ℕ → Draft → List (ℕ × List ℕ)
writes_of on e read held n d = map (page_written on e read held d (drafted e n d)) (pages_put e d)

-- what units are to hold after these have got new bytes, one after the other
abbrev pub with_writes : List (ℕ × List ℕ) → Held → Held
with_writes [] held = held
with_writes (w ∷ ws) held = with_writes ws (λ taking. if taking == w.0 then w.1 else held taking)

-- ---- what is known of it

-- each page that stands anywhere is below this one
abbrev pub EndsBelow : Draft → ℕ → Type 0
EndsBelow d end = (page : ℕ) → is_there d page ≡ true → page < end

-- The pages hold these bytes: the unit of each that stands where it stood holds it, with the checksum that is kept, what was put is to hold
-- it, and holes are zeros.
pub record HoldBytes (on : Place → PageUnit) (at : ℕ → List ℕ) (held : Held) (d : Draft) (bytes : List ℕ) : Type 0 where
  pub kept : (page : ℕ) (place : Place) → finite.get d.kept page ≡ Some place → finite.get d.puts page ≡ None
      → (at (on place).unit ≡ page_bytes bytes page) × (crc32c (page_bytes bytes page) ≡ (on place).csum)
  pub put : (page taking : ℕ) → finite.get d.puts page ≡ Some taking → held taking ≡ page_bytes bytes page
  pub holes : (page : ℕ) → is_there d page ≡ false → page_bytes bytes page ≡ zeros 4096
