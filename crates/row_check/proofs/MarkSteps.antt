-- The steps of marking, as the loops see them.
use Rattle.std.proofs.Common.{◌≡◌, ◌≢◌, ℕ, zero, suc, true, false, cond, ◌+◌, ◌<◌, ◌≤◌, List, [], ◌∷◌, ◌++◌, length, drop, refl, sym, ap, subst, ◌∙◌, arith}
use Rattle.std.specs.List.{flat_map, AllByRecursion}
use Rattle.std.proofs.lemmas.List.{length-append, length-set, drop_at}
use Rattle.std.proofs.lemmas.List.Concat.{flat_map-cons}
use Rattle.unit_fields.specs.Prelude.{ReadsBytes, bytes_of}
use Rattle.unit_fields.specs.declared.width.Width.{Width}
use Rattle.row_format.specs.Prelude.{Body, private, shared, Extent, extent_bytes, FitsExtent, csum_bytes, Slot}
use Rattle.std.specs.Prelude.{nat_lt}
use Rattle.onode_codec.specs.declared.extent.Head.{Head}
use Rattle.onode_codec.specs.declared.extent.Start.{Start}
use Rattle.onode_codec.specs.declared.extent.Start.TheVariants.{Unit as OnUnit, Slot as OnSlot}
use Rattle.onode_codec.specs.Reading.{ReadsHead, SpellExtents}
use Rattle.onode_codec.proofs.Again.{same_extents}
use Rattle.onode_codec.proofs.ExtentReading.{head_front, length-csums, some_bytes, spelled_behind}
use Rattle.row_check.specs.Marks.{Marks, one_page_more, run_marked, body_marked, extents_marked, slot_marked, slots_marked, EndsBy, AllEndBy, SpellExtentsBelow, BeginsBelow, MarksExtent}

pub length-run : (m : Marks) (first n : ℕ) → length (run_marked m first n).owned ≡ length m.owned
length-run m first zero = refl
length-run m first (suc n) = length-set _ (first + n) _ ∙ length-run m first n

length-body : (m : Marks) (b : Body) → length (body_marked m b).owned ≡ length m.owned
length-body m (private unit csums) = length-run m unit (length csums)
length-body m (shared sbid first count) = refl

-- ---- slots one behind the other

length-slot : (m : Marks) (unit : ℕ) (x : Slot) → length (slot_marked m unit x).owned ≡ length m.owned
length-slot m unit x = elim (nat_lt 0 x.count) as (λ b. length (cond b (one_page_more m unit) m).owned ≡ length m.owned) [
  | true ↦ length-set m.owned unit true
  | false ↦ refl
]

pub length-slots : (xs : List Slot) (m : Marks) (unit : ℕ) → length (slots_marked m unit xs).owned ≡ length m.owned
length-slots [] m unit = refl
length-slots (x ∷ xs) m unit = length-slots xs (slot_marked m unit x) (suc unit) ∙ length-slot m unit x

pub slots_push : (xs : List Slot) (m : Marks) (unit at : ℕ) (x : Slot) → at ≡ unit + length xs
    → slot_marked (slots_marked m unit xs) at x ≡ slots_marked m unit (xs ++ x ∷ [])
slots_push [] m unit at x is = ap (λ n. slot_marked m n x) (omega (arith, is))
slots_push (y ∷ xs) m unit at x is = slots_push xs (slot_marked m unit y) (suc unit) at x (omega (arith, is))

-- ---- one extent

-- a start on a unit is none on a slot
apart : (unit sbid index : ℕ) → OnUnit unit ≢ OnSlot sbid index
apart unit sbid index e = cc

-- of an extent on units there are marks for its pages, and its checksums stand behind its head
abbrev HasRoom : Width → ℕ → Start → ℕ → List ℕ → Type 0
HasRoom w units (OnUnit unit) count mid = (unit + count ≤ units) × (bytes_of w count ≤ length mid)
HasRoom w units (OnSlot sbid index) count mid = Unit {0}

room_by : (w : Width) (units : ℕ) (old mid rest : List ℕ) (h : Head) (first : ℕ) (b : Body) → FitsExtent w (record { first = first; body = b })
    → EndsBy units b → old ≡ extent_bytes w (record { first = first; body = b }) ++ rest → ReadsHead old mid h → HasRoom w units h.start h.count mid
room_by w units old mid rest h first (private unit csums) fits below is read =
    let at = head_front w old mid rest h first (private unit csums) read fits is in
    let enough : bytes_of w h.count ≤ length mid =
    omega (arith, ap (bytes_of w) at.count_is, ap length at.behind, length-append (flat_map (csum_bytes w) csums) rest, length-csums w csums) in
    subst (λ s. HasRoom w units s h.count mid) (sym at.start_is) (omega (arith, at.count_is, below), enough)
room_by w units old mid rest h first (shared sbid index count) fits below is read =
    let at = head_front w old mid rest h first (shared sbid index count) read fits is in
    subst (λ s. HasRoom w units s h.count mid) (sym at.start_is) tt

pub room : (w : Width) (units : ℕ) (old mid : List ℕ) (h : Head) (unit : ℕ) → BeginsBelow w old units → ReadsHead old mid h → h.start ≡ OnUnit unit
    → HasRoom w units (OnUnit unit) h.count mid
room w units old mid h unit begins read is =
    subst (λ s. HasRoom w units s h.count mid) is
    (room_by w units old mid begins.rest h begins.extent.first begins.extent.body begins.fits begins.below begins.spelled read)

same_unit : (a b : ℕ) → OnUnit a ≡ OnUnit b → a ≡ b
same_unit a b e = cc

-- behind the checksums of the extent at the front stands what stands behind it
rest_left : (w : Width) (mid rest new piece : List ℕ) (count : ℕ) (csums : List ℕ) → count ≡ length csums → mid ≡ flat_map (csum_bytes w) csums ++ rest
    → ReadsBytes (bytes_of w count) mid new piece → new ≡ rest
rest_left w mid rest new piece count csums count_is behind passed =
    let size : length (flat_map (csum_bytes w) csums) ≡ bytes_of w count = length-csums w csums ∙ sym (ap (bytes_of w) count_is) in
    sym (drop_at piece new (bytes_of w count) passed.size) ∙ ap (drop (bytes_of w count)) (sym passed.parts ∙ behind)
    ∙ drop_at (flat_map (csum_bytes w) csums) rest (bytes_of w count) size

units_by : (w : Width) (old mid rest new piece : List ℕ) (h : Head) (first : ℕ) (b : Body) (unit : ℕ) (m then : Marks)
    → FitsExtent w (record { first = first; body = b }) → old ≡ extent_bytes w (record { first = first; body = b }) ++ rest
    → ReadsHead old mid h → h.start ≡ OnUnit unit → ReadsBytes (bytes_of w h.count) mid new piece → then ≡ run_marked m unit h.count
    → MarksExtent w old new m then
units_by w old mid rest new piece h first (private at csums) unit m then fits is read start passed then_is =
    let of = head_front w old mid rest h first (private at csums) read fits is in
    let left = rest_left w mid rest new piece h.count csums of.count_is of.behind passed in
    let here : unit ≡ at = same_unit unit at (sym start ∙ of.start_is) in
    record {
      extent = record { first = first; body = private at csums };
      read = record { fits = fits; spelled = is ∙ ap (λ l. extent_bytes w (record { first = first; body = private at csums }) ++ l) (sym left) };
      marked = then_is ∙ (λ i. run_marked m (here i) (of.count_is i));
    }
units_by w old mid rest new piece h first (shared sbid index count) unit m then fits is read start passed then_is =
    let of = head_front w old mid rest h first (shared sbid index count) read fits is in absurd (apart unit sbid index (sym start ∙ of.start_is))

module _ (w : Width) (units : ℕ) (old mid : List ℕ) (h : Head) (begins : BeginsBelow w old units) (read : ReadsHead old mid h) where
  pub marks_units : (new piece : List ℕ) (unit : ℕ) (m then : Marks) → h.start ≡ OnUnit unit → ReadsBytes (bytes_of w h.count) mid new piece
      → then ≡ run_marked m unit h.count → MarksExtent w old new m then
  marks_units new piece unit m then =
      λ start passed then_is. units_by w old mid begins.rest new piece h begins.extent.first begins.extent.body unit m then begins.fits begins.spelled
      read start passed then_is

-- ---- one extent behind the other

-- the extents that bytes spell are marked but for those that are left
pub record AreMarkedTo (w : Width) (old : Marks) (bytes fields : List ℕ) (m : Marks) : Type 0 where
  pub left : List Extent
  pub spelled : SpellExtents w fields left
  pub below : AllEndBy (length m.owned) left
  pub marked : (es : List Extent) → SpellExtents w bytes es → extents_marked m left ≡ extents_marked old es

pub none_marked : (w : Width) (old : Marks) (bytes fields : List ℕ) → SpellExtentsBelow w bytes (length old.owned) → fields ≡ bytes
    → AreMarkedTo w old bytes fields old
none_marked w old bytes fields spell is = record {
  left = spell.extents;
  spelled = subst (λ l. SpellExtents w l spell.extents) (sym is) spell.spelled;
  below = spell.below;
  marked = λ es spelled. ap (extents_marked old) (same_extents w bytes spell.extents es spell.spelled spelled);
}

begins_with : (w : Width) (bytes : List ℕ) (units : ℕ) (left : List Extent) → SpellExtents w bytes left → AllEndBy units left → bytes ≢ []
    → BeginsBelow w bytes units
begins_with w bytes units [] spelled below some = absurd (some spelled.spelled)
begins_with w bytes units (e ∷ es) spelled below some = record {
  extent = e;
  rest = flat_map (extent_bytes w) es;
  fits = spelled.fit.0;
  below = below.0;
  spelled = spelled.spelled ∙ flat_map-cons (extent_bytes w) e es;
}

pub fewer_left : (w : Width) (fields new : List ℕ) (m then : Marks) → MarksExtent w fields new m then → length new < length fields
fewer_left w fields new m then marks =
    omega (arith, ap length marks.read.spelled, length-append (extent_bytes w marks.extent) new, some_bytes w marks.extent [], length-append (extent_bytes w marks.extent) [])

module _ (w : Width) (old : Marks) (bytes fields : List ℕ) (m : Marks) (so_far : AreMarkedTo w old bytes fields m) where
  pub one_left : fields ≢ [] → BeginsBelow w fields (length m.owned)
  one_left some = begins_with w fields (length m.owned) so_far.left so_far.spelled so_far.below some

  pub next_marked : (new : List ℕ) (then : Marks) → MarksExtent w fields new m then → AreMarkedTo w old bytes new then
  next_marked new then marks =
      let behind = spelled_behind w fields new marks.extent so_far.left so_far.spelled marks.read in
      let below : AllEndBy (length m.owned) (marks.extent ∷ behind.rest) = subst (AllEndBy (length m.owned)) behind.are so_far.below in
      record {
        left = behind.rest;
        spelled = behind.spelled;
        below = subst (λ n. AllEndBy n behind.rest) (sym (ap (λ (x : Marks). length x.owned) marks.marked ∙ length-body m marks.extent.body)) below.1;
        marked = λ es spelled.
            ap (λ x. extents_marked x behind.rest) marks.marked ∙ sym (ap (extents_marked m) behind.are) ∙ so_far.marked es spelled;
      }

  pub all_marked : fields ≡ [] → (es : List Extent) → SpellExtents w bytes es → m ≡ extents_marked old es
  all_marked empty es spelled = ap (extents_marked m) (sym (none so_far.left so_far.spelled)) ∙ so_far.marked es spelled
    where
      none : (left : List Extent) → SpellExtents w fields left → left ≡ []
      none [] said = refl
      none (e ∷ left) said =
          absurd (omega (
            arith,
            some_bytes w e (flat_map (extent_bytes w) left),
            ap length (sym (said.spelled ∙ flat_map-cons (extent_bytes w) e left) ∙ empty),
          ))
