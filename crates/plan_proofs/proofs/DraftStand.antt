-- The rows after the operations of a transaction stand for the objects after it: their shape, and their bytes over units that hold what they are to hold.
use Rattle.std.proofs.Common.{◌≡◌, ◌≢◌, ◌↔◌, inl, inr, ℕ, ◌≤◌, Bool, true, false, cond, List, [], ◌∷◌, length, Option, Some, None, is_some, unwrap_or, refl, sym, ap, subst, ◌∙◌}
use Rattle.std.specs.Prelude.{slice_index, ◌||◌}
use Rattle.std.specs.Option.{option_map}
use Rattle.std.specs.FinMap as map
use Rattle.byte_maps.specs.Units.{zeros}
use Rattle.crc32c_csum.specs.Prelude.{crc32c}
use Rattle.meta_rows.specs.Prelude.{Rows}
use Rattle.meta_log.specs.declared.slot.Super.{Super}
use Rattle.meta_log.specs.Prelude.{width_of}
use Rattle.object_model.specs.Prelude.{Object, Collection, Objects, with_collection, object_under}
use Rattle.unit_fields.specs.Prelude.{IsName, IsCollName}
use Rattle.row_format.specs.Prelude.{coll_key, onode_key, Place}
use Rattle.store_image.specs.Prelude.{HasOnode, PageUnit, StandsOn, HasPage, IsPageAt, IsPageOn, IsHole, page_bytes, IsPageSeen, IsObjectShape, IsShape, AreObjectBytes, AreBytes, ObjectsStand}
use Rattle.store_image.proofs.Prelude.{equal_or_not, some_unit}
use Rattle.store_image.proofs.PageUnits.{one_unit}
use Rattle.row_facts.proofs.Maps.{get_same, get_other}
use Rattle.plan_drafts.specs.declared.draft.Draft.{Draft}
use Rattle.plan_drafts.specs.Prelude.{Held, is_there, HoldBytes, Layout, HasLayout, or_empty, or_new, attribute, header, pair, not_empty, CollDraft, place_put, laid, Stands}
use Rattle.plan_proofs.proofs.DraftBytes.{HoldsAll}
use Rattle.plan_proofs.proofs.DraftOwners.{layout_pages}
use Rattle.plan_proofs.proofs.Drafted.{AreDrafted}
use Rattle.plan_proofs.proofs.DraftRows.{now, has_now, object_reached, value_same, onode_same, other_onode, other_page, colls_same, stood_same, others_stand, drafted_good}
use Rattle.plan_proofs.proofs.Effects.{get_apart, get_taken}
use Rattle.plan_proofs.proofs.Laid.{laid_put, laid_kept, laid_cases, StandsAt, by_taking, as_before}
use Rattle.plan_proofs.proofs.Matches.{object_in, Matches}

-- ---- objects with another collection

module _ (objects : Objects) (c : List ℕ) where
  with_here : (l : Option Collection) → map.get (with_collection objects c l) c ≡ l
  with_here None = get_taken objects c
  with_here (Some k) = get_same objects c k

  with_others : (l : Option Collection) (d : List ℕ) → d ≢ c → map.get (with_collection objects c l) d ≡ map.get objects d
  with_others None d apart = get_apart objects c d apart
  with_others (Some k) d apart = get_other objects c k d apart

-- ---- the shape

module _ (s : Super) (rows after : Rows) (c : List ℕ) (layouts : List ℕ → Option Layout) (units : List ℕ) (held : Held) (y : CollDraft)
    (a : AreDrafted s rows after c layouts units held y) (objects : Objects) (shape : IsShape rows objects) (l : Option Collection) (m : Matches y l) where
  abbrev pub later : Objects
  later = with_collection objects c l

  under_here : (o : List ℕ) → object_under later c o ≡ object_in l o
  under_here o = ap (λ z. object_in z o) (with_here objects c l)

  under_others : (d o : List ℕ) → d ≢ c → object_under later d o ≡ object_under objects d o
  under_others d o apart = ap (λ z. object_in z o) (with_others objects c l d apart)

  -- the draft of an object that is there
  record IsDrafted (o : List ℕ) (b : Object) : Type 0 where
    draft : Draft
    there : y.layout o ≡ Some draft
    size : draft.size ≡ length b.bytes

  drafted_of : (o : List ℕ) (b : Object) → object_in l o ≡ Some b → IsDrafted o b
  drafted_of o b is = by (y.layout o) refl (m.sizes o (m.named o (ap is_some is)) ∙ ap (option_map (λ (z : Object). length z.bytes)) is)
    where
      by : (x : Option Draft) → y.layout o ≡ x → option_map (λ (z : Draft). z.size) (y.layout o) ≡ Some (length b.bytes) → IsDrafted o b
      by None p e = absurd (let t = sym (ap (option_map (λ (z : Draft). z.size)) p) ∙ e in cc)
      by (Some d) p e =
          let same : Some d.size ≡ Some (length b.bytes) = sym (ap (option_map (λ (z : Draft). z.size)) p) ∙ e in
          record { draft = d; there = p; size = cc }

  has_size : (o : List ℕ) (b : Object) → IsName o → IsDrafted o b → HasOnode after c o (length b.bytes)
  has_size o b name of = subst (HasOnode after c o) of.size (by (y.layout o) of.there (has_now s rows after c layouts units held y a o name))
    where
      by : (x : Option Draft) → x ≡ Some of.draft → HasLayout (width_of s) after c o (option_map (laid units held) x) → HasOnode after c o of.draft.size
      by None p none = absurd cc
      by (Some d) p has = let same : d ≡ of.draft = cc in subst (λ z. HasOnode after c o z.size) same has.0

  full_header : (h : List ℕ) → unwrap_or (not_empty h) [] ≡ h
  full_header [] = refl
  full_header (b ∷ bs) = refl

  own_shape : (o : List ℕ) (b : Object) → object_in l o ≡ Some b → IsObjectShape after c o b
  own_shape o b is =
      let name = m.named o (ap is_some is) in
      let of = drafted_of o b is in
      record {
        size = has_size o b name of;
        size_most = subst (λ n. n ≤ 134217728) of.size (object_reached s rows after c layouts units held y a o of.draft name of.there).most;
        attr_names = λ n some. m.keys o b (attribute n) is some;
        attrs = λ n good. sym (m.values o b (attribute n) is good) ∙ sym (a.gets.values o (attribute n) name good);
        header = sym (full_header b.header)
            ∙ ap (λ z. unwrap_or z []) (sym (m.values o b header is tt) ∙ sym (a.gets.values o header name tt));
        omap_keys = λ q some. m.keys o b (pair q) is some;
        omap = λ q good. sym (m.values o b (pair q) is good) ∙ sym (a.gets.values o (pair q) name good);
      }

  other_shape : (d o : List ℕ) (b : Object) → d ≢ c → IsObjectShape rows d o b → IsObjectShape after d o b
  other_shape d o b apart was =
      let coll_is = was.size.fits.0 in
      let name = was.size.fits.1 in
      record {
        size = (other_onode s rows after c layouts units held y a d coll_is apart o (length b.bytes)).1 was.size;
        size_most = was.size_most;
        attr_names = was.attr_names;
        attrs = λ n good. was.attrs n good ∙ sym (value_same s rows after c layouts units held y a d coll_is apart o name (attribute n));
        header = was.header ∙ ap (λ z. unwrap_or z []) (sym (value_same s rows after c layouts units held y a d coll_is apart o name header));
        omap_keys = was.omap_keys;
        omap = λ q good. was.omap q good ∙ sym (value_same s rows after c layouts units held y a d coll_is apart o name (pair q));
      }

  collections_after : (d : List ℕ) → map.contains_key later d ≡ map.contains_key after (coll_key d)
  collections_after d = elim (equal_or_not d c) [
    | inl e ↦ ap (λ z. is_some (map.get later z)) e ∙ ap is_some (with_here objects c l) ∙ sym m.there ∙ sym (by y.there)
        ∙ sym (ap is_some a.gets.coll) ∙ ap (λ z. is_some (map.get after (coll_key z))) (sym e)
    | inr apart ↦ ap is_some (with_others objects c l d apart) ∙ shape.collections d
        ∙ sym (ap is_some (colls_same s rows after c layouts units held y a d apart))
  ]
    where
      by : (b : Bool) → is_some (cond {A = Option (List ℕ)} b (Some []) None) ≡ b
      by true = refl
      by false = refl

  missing_after : (d o : List ℕ) → IsCollName d → IsName o → object_under later d o ≡ None → map.get after (onode_key d o) ≡ None
  missing_after d o coll_is name none = elim (equal_or_not d c) [
    | inl e ↦ ap (λ z. map.get after (onode_key z o)) e ∙ by (y.layout o) (gone o name (sym (under_here o) ∙ ap (λ z. object_under later z o) (sym e) ∙ none))
        (has_now s rows after c layouts units held y a o name)
    | inr apart ↦ onode_gone d o coll_is name apart (shape.missing d o coll_is name (sym (under_others d o apart) ∙ none))
  ]
    where
      gone : (o : List ℕ) → IsName o → object_in l o ≡ None → y.layout o ≡ None
      gone o name none = no_draft (y.layout o) (m.sizes o name ∙ ap (option_map (λ (z : Object). length z.bytes)) none)
        where
          no_draft : (x : Option Draft) → option_map (λ (z : Draft). z.size) x ≡ None → x ≡ None
          no_draft None e = refl
          no_draft (Some d) e = absurd cc

      by : (x : Option Draft) → x ≡ None → HasLayout (width_of s) after c o (option_map (laid units held) x) → map.get after (onode_key c o) ≡ None
      by None p has = has
      by (Some d) p has = absurd cc

      onode_gone : (d o : List ℕ) → IsCollName d → IsName o → d ≢ c → map.get rows (onode_key d o) ≡ None → map.get after (onode_key d o) ≡ None
      onode_gone d o coll_is name apart none = onode_same s rows after c layouts units held y a d coll_is apart o name ∙ none

  pub shape_after : IsShape after later
  shape_after = record {
    collections = collections_after;
    present = λ d o b is. elim (equal_or_not d c) [
      | inl e ↦ subst (λ z. IsObjectShape after z o b) (sym e)
          (own_shape o b (sym (under_here o) ∙ ap (λ z. object_under later z o) (sym e) ∙ is))
      | inr apart ↦ other_shape d o b apart (shape.present d o b (sym (under_others d o apart) ∙ is))
    ];
    missing = missing_after;
  }

  -- ---- bytes

  module _ (at later_at : ℕ → List ℕ) (fresh : (taking : ℕ) → Stands y taking → later_at (slice_index units taking) ≡ held taking)
      (same : (v : ℕ) → HasPage (width_of s) rows v → later_at v ≡ at v) (all : HoldsAll at held y l) where
    -- where the units hold what they are to hold, the layout's pages hold the bytes
    own_bytes : (o : List ℕ) (b : Object) → object_in l o ≡ Some b → AreObjectBytes (width_of s) later_at after c o b.bytes
    own_bytes o b is = record { mapped = mapped; holes = holes }
      where
        name : IsName o
        name = m.named o (ap is_some is)

        of : IsDrafted o b
        of = drafted_of o b is

        hold : HoldBytes y.on at held of.draft b.bytes
        hold = all o of.draft b name of.there is

        now_pages : (page : ℕ) → map.get (or_empty (now s rows after c layouts units held y a o)).pages page ≡ map.get (laid units held of.draft).pages page
        now_pages page = ap (λ z. map.get (or_empty (option_map (laid units held) z)).pages page) of.there

        pages : (page : ℕ) (place : Place) → (map.get (or_empty (now s rows after c layouts units held y a o)).pages page ≡ Some place)
            ↔ IsPageAt (width_of s) after c o page place
        pages = layout_pages s after c o (now s rows after c layouts units held y a o) (drafted_good s rows after c layouts units held y a)
            (has_now s rows after c layouts units held y a o name)

        mapped : (page : ℕ) (on : PageUnit) → IsPageOn (width_of s) after c o page on → IsPageSeen later_at after on (page_bytes b.bytes page)
        mapped page on is_on = by is_on.place is_on.stands (laid_cases units held of.draft page is_on.place
            (sym (now_pages page) ∙ (pages page is_on.place).1 is_on.at))
          where
            by : (place : Place) → StandsOn (width_of s) after place on → StandsAt units held of.draft page place
                → IsPageSeen later_at after on (page_bytes b.bytes page)
            by _ stands (by_taking taking put) =
                let st : Stands y taking = record { object = o; named = name; draft = of.draft; there = of.there; page = page; put = put } in
                let bytes : held taking ≡ page_bytes b.bytes page = hold.put page taking put in
                let unit : slice_index units taking ≡ on.unit = sym (ap (λ (x : PageUnit). x.unit) stands) in
                let csum : crc32c (held taking) ≡ on.csum = sym (ap (λ (x : PageUnit). x.csum) stands) in
                record { seen = sym bytes ∙ sym (fresh taking st) ∙ ap later_at unit; kept = ap crc32c (sym bytes) ∙ csum }
            by place stands (as_before _ none kept) =
                let held_there = hold.kept page place kept none in
                let stood = (object_reached s rows after c layouts units held y a o of.draft name of.there).kept page place kept in
                let before : StandsOn (width_of s) rows place on =
                stood_same s rows after c layouts units held y a o name page place on (ap (λ z. map.get (or_new z).kept page) of.there ∙ kept) stands in
                let on_is : y.on place ≡ on = one_unit (width_of s) rows place (y.on place) on (a.stand o page place name stood) before in
                let has : HasPage (width_of s) rows on.unit = record {
                  coll = c;
                  object = o;
                  page = page;
                  on = on;
                  is_on = record { place = place; at = (layout_pages s rows c o (layouts o) a.good (a.has o name) page place).0 stood; stands = before };
                  is_unit = refl;
                } in
                record {
                  seen = sym (same on.unit has ∙ ap (λ (x : PageUnit). at x.unit) (sym on_is) ∙ held_there.0);
                  kept = held_there.1 ∙ ap (λ (x : PageUnit). x.csum) on_is;
                }

        holes : (page : ℕ) → IsHole (width_of s) after c o page → page_bytes b.bytes page ≡ zeros 4096
        holes page hole = hold.holes page (not_there (is_there of.draft page) refl)
          where
            found : (place : Place) → map.get (laid units held of.draft).pages page ≡ Some place → ⊥
            found place is_at =
                let on = some_unit s after (drafted_good s rows after c layouts units held y a) c o page place ((pages page place).0 (now_pages page ∙ is_at)) in
                hole on.0 on.1

            some_kept : (x : Option Place) (z : Option ℕ) → map.get of.draft.kept page ≡ x → map.get of.draft.puts page ≡ z
                → (is_some x || is_some z) ≡ true → ⊥
            some_kept None None p q e = absurd cc
            some_kept (Some place) None p q e = found place (laid_kept units held of.draft page place q p)
            some_kept x (Some taking) p q e = found (place_put units held taking) (laid_put units held of.draft page taking q)

            not_there : (b : Bool) → is_there of.draft page ≡ b → is_there of.draft page ≡ false
            not_there false e = e
            not_there true e = absurd (some_kept (map.get of.draft.kept page) (map.get of.draft.puts page) refl refl e)

    other_bytes : (d o : List ℕ) (b : List ℕ) → d ≢ c → IsCollName d → AreObjectBytes (width_of s) at rows d o b → AreObjectBytes (width_of s) later_at after d o b
    other_bytes d o b apart coll_is before = record {
      mapped = λ page on is.
          let at = (other_page s rows after c layouts units held y a d coll_is apart o page is.place).0 is.at in
          let was : IsPageOn (width_of s) rows d o page on = record {
            place = is.place;
            at = at;
            stands = (others_stand s rows after c layouts units held y a d o page is.place on apart at).0 is.stands;
          } in
          let seen = before.mapped page on was in
          let has : HasPage (width_of s) rows on.unit = record { coll = d; object = o; page = page; on = on; is_on = was; is_unit = refl } in
          record { seen = seen.seen ∙ sym (same on.unit has); kept = seen.kept };
      holes = λ page hole. before.holes page (λ on is. hole on (record {
        place = is.place;
        at = (other_page s rows after c layouts units held y a d coll_is apart o page is.place).1 is.at;
        stands = (others_stand s rows after c layouts units held y a d o page is.place on apart is.at).1 is.stands;
      }));
    }

    pub stand_after : AreBytes (width_of s) at rows objects → ObjectsStand (width_of s) later_at after later
    stand_after before = record {
      shape = shape_after;
      bytes = λ d o b is. elim (equal_or_not d c) [
        | inl e ↦ subst (λ z. AreObjectBytes (width_of s) later_at after z o b.bytes) (sym e)
            (own_bytes o b (sym (under_here o) ∙ ap (λ z. object_under later z o) (sym e) ∙ is))
        | inr apart ↦
            let there = sym (under_others d o apart) ∙ is in
            other_bytes d o b.bytes apart (shape.present d o b there).size.fits.0 (before d o b there)
      ];
    }
