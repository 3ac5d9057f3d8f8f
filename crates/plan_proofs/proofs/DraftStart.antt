-- The draft that a transaction begins with: what holds of it, and that plain objects of the rows' shape are as it has them.
use Rattle.std.proofs.Common.{◌≡◌, ℕ, ◌<◌, ◌≤◌, true, false, List, [], ◌∷◌, length, Contains, Option, Some, None, is_some, unwrap_or, refl, sym, ap, subst, ◌∙◌, arith}
use Rattle.std.specs.Prelude.{◌||◌}
use Rattle.std.specs.Option.{option_map}
use Rattle.std.specs.Ordering.{nat_cmp}
use Rattle.std.specs.FinMap as map
use Rattle.meta_rows.specs.Prelude.{Rows, row}
use Rattle.meta_log.specs.declared.slot.Super.{Super}
use Rattle.meta_log.specs.Prelude.{width_of}
use Rattle.object_model.specs.Prelude.{Object, Objects, object_under}
use Rattle.unit_fields.specs.Prelude.{IsName, IsCollName}
use Rattle.row_format.specs.Prelude.{coll_key, onode_key, header_key, Place, Row, onode, omap_header, omap_pair, row_key, row_value, FitsRow}
use Rattle.row_format.specs.Row as format
use Rattle.row_format.proofs.Prelude.{same_row, under_attribute, under_header, under_pair}
use Rattle.store_image.specs.Prelude.{HasKey, HasOnode, HasObject, IsInPlace, NoBadRow, IsHole, pages_of, IsShape, AreObjectBytes, ObjectsStand}
use Rattle.store_image.proofs.Prelude.{in_place}
use Rattle.plan_drafts.specs.declared.draft.Draft.{Draft}
use Rattle.plan_drafts.specs.Prelude.{Held, is_there, HoldBytes, Layout, HasLayout, or_empty, ValueKey, attribute, header, pair, value_key, IsValueKey, not_empty, CollDraft, draft_of, Begins}
use Rattle.object_rows.proofs.GoodPages.{good_page}
use Rattle.plan_proofs.proofs.Matches.{value_of, Matches}
use Rattle.plan_proofs.proofs.Reached.{SameSize, IsObjectReached, IsReached}
use Rattle.plan_proofs.proofs.ValuesWritten.{FitsValue}

nothing : {X P : Type 0} (page : ℕ) (x : X) → map.get {R = nat_cmp} map.empty page ≡ Some x → P
nothing page x is = absurd (let t = sym (map.get-empty nat_cmp page) ∙ is in cc)

none_put : (l : Layout) (page : ℕ) → map.contains_key (draft_of l).puts page ≡ false
none_put l page = ap (λ (z : Option ℕ). is_some z) (map.get-empty nat_cmp page)

-- ---- values in rows

module _ (s : Super) (rows : Rows) (good : NoBadRow s rows) (c o : List ℕ) (coll : IsCollName c) (name : IsName o) where
  -- a value that the rows have fits, and its object is there
  abbrev IsFound : ValueKey → List ℕ → Type 0
  IsFound k value = FitsValue k value × HasObject rows c o

  attribute_by : (n value : List ℕ) (x : Row) → FitsRow (width_of s) x → IsInPlace s rows x → value_key c o (attribute n) ≡ row_key x
      → value ≡ row_value (width_of s) x → IsFound (attribute n) value
  attribute_by n value x fits placed e is =
      let at = under_attribute (width_of s) c o n x coll name fits e in
      let own : FitsRow (width_of s) (format.attribute c o n at.0) = subst (FitsRow (width_of s)) at.1 fits in
      (subst (λ (w : List ℕ). length w ≤ 65535) (sym (is ∙ ap (row_value (width_of s)) at.1)) own.short, subst (IsInPlace s rows) at.1 placed)

  header_by : (value : List ℕ) (x : Row) → FitsRow (width_of s) x → IsInPlace s rows x → value_key c o header ≡ row_key x
      → value ≡ row_value (width_of s) x → IsFound header value
  header_by value x fits placed e is =
      let at = under_header (width_of s) c o x coll name fits e in
      let own : FitsRow (width_of s) (omap_header c o at.0) = subst (FitsRow (width_of s)) at.1 fits in (
        subst (λ (w : List ℕ). (0 < length w) × (length w ≤ 65535)) (sym (is ∙ ap (row_value (width_of s)) at.1)) (own.some, own.short),
        subst (IsInPlace s rows) at.1 placed,
      )

  pair_by : (q value : List ℕ) (x : Row) → FitsRow (width_of s) x → IsInPlace s rows x → value_key c o (pair q) ≡ row_key x
      → value ≡ row_value (width_of s) x → IsFound (pair q) value
  pair_by q value x fits placed e is =
      let at = under_pair (width_of s) c o q x coll name fits e in
      let own : FitsRow (width_of s) (omap_pair c o q at.0) = subst (FitsRow (width_of s)) at.1 fits in
      (subst (λ (w : List ℕ). length w ≤ 65535) (sym (is ∙ ap (row_value (width_of s)) at.1)) own.short, subst (IsInPlace s rows) at.1 placed)

  pub value_found : (k : ValueKey) (value : List ℕ) → map.get rows (value_key c o k) ≡ Some value → IsFound k value
  value_found (attribute n) value is = let g = good (value_key c o (attribute n)) value is in attribute_by n value g.row g.fits g.in_place g.key_is g.value_is
  value_found header value is = let g = good (value_key c o header) value is in header_by value g.row g.fits g.in_place g.key_is g.value_is
  value_found (pair q) value is = let g = good (value_key c o (pair q)) value is in pair_by q value g.row g.fits g.in_place g.key_is g.value_is

  one_size : (n m : ℕ) → HasOnode rows c o n → HasOnode rows c o m → n ≡ m
  one_size n m a b =
      let value : Some (row_value (width_of s) (onode c o n)) ≡ Some (row_value (width_of s) (onode c o m)) = sym a.stands ∙ b.stands in
      let same : onode c o n ≡ onode c o m = same_row (width_of s) (onode c o n) (onode c o m) a.fits b.fits refl cc in cc

-- ---- the draft

module _ (s : Super) (rows : Rows) (good : NoBadRow s rows) (c : List ℕ) (coll : IsCollName c) (layouts : List ℕ → Option Layout) (d : CollDraft)
    (begins : Begins (width_of s) rows c layouts d) where
  -- a draft of an object is that of its layout
  pub of_layout : (o : List ℕ) (x : Draft) → IsName o → d.layout o ≡ Some x → (l : Layout) × (layouts o ≡ Some l) × (x ≡ draft_of l)
  of_layout o x name is = by (layouts o) refl (sym (begins.drafts o name) ∙ is)
    where
      by : (z : Option Layout) → layouts o ≡ z → option_map draft_of z ≡ Some x → (l : Layout) × (layouts o ≡ Some l) × (x ≡ draft_of l)
      by None p e = absurd cc
      by (Some l) p e = let same : draft_of l ≡ x = cc in (l, p, sym same)

  has_layout : (o : List ℕ) (l : Layout) → IsName o → layouts o ≡ Some l → HasLayout (width_of s) rows c o (Some l)
  has_layout o l name is = subst (HasLayout (width_of s) rows c o) is (begins.has o name)

  first_object : (o : List ℕ) (x : Draft) → IsName o → d.layout o ≡ Some x → IsObjectReached (layouts o) d.taken x
  first_object o x name is =
      let of = of_layout o x name is in
      let has = has_layout o of.0 name of.1 in
      subst (λ l. IsObjectReached l d.taken x) (sym of.1) (subst (IsObjectReached (Some of.0) d.taken) (sym of.2) (record {
        kept = λ page place at. at;
        below = λ page taking at. nothing page taking at;
        apart = λ page taking place at too. nothing page taking too;
        ends = λ page at. inside o of.0 has page (map.get of.0.pages page) refl at;
        most = (in_place s rows (onode c o of.0.size) good has.0).1;
      }))
    where
      inside : (o : List ℕ) (l : Layout) → HasLayout (width_of s) rows c o (Some l) → (page : ℕ) (x : Option Place) → map.get l.pages page ≡ x
          → is_there (draft_of l) page ≡ true → page < pages_of l.size
      inside o l has page (Some place) p at = (good_page s rows c o good l.size page place has.0 ((has.1 page place).0 p)).within
      inside o l has page None p at = absurd (let t = sym (ap (λ (z : Option Place). is_some z || false) p)
          ∙ ap (λ b. is_some (map.get l.pages page) || b) (sym (none_put l page)) ∙ at in cc)

  there_by : HasKey rows (coll_key c) → d.there ≡ true
  there_by has = begins.there ∙ has

  some_by : (o : List ℕ) → IsName o → HasKey rows (onode_key c o) → is_some (d.layout o) ≡ true
  some_by o name has = ap is_some (begins.drafts o name) ∙ by (layouts o) (begins.has o name)
    where
      by : (z : Option Layout) → HasLayout (width_of s) rows c o z → is_some (option_map draft_of z) ≡ true
      by None none = absurd (let t = sym has ∙ ap is_some none in cc)
      by (Some l) there = refl

  pub reached_first : IsReached layouts d
  reached_first = record {
    objects = first_object;
    once = λ o u x y p q taking name named is at one two.
        let of = of_layout o x name is in nothing p taking (ap (λ (z : Draft). map.get z.puts p) (sym of.2) ∙ one);
    left = λ x k. absurd (let t = subst (λ ss. Contains ss x) begins.none_left k in omega (arith, t.1));
    in_coll = λ o name some. in_coll o name (d.layout o) refl some;
    values = λ o k value name named is.
        let f = value_found s rows good c o coll name k value (sym (begins.values o k name named) ∙ is) in (f.0, some_by o name f.1.1);
  }
    where
      in_coll : (o : List ℕ) → IsName o → (x : Option Draft) → d.layout o ≡ x → is_some (d.layout o) ≡ true → d.there ≡ true
      in_coll o name None p some = absurd (let t = sym some ∙ ap is_some p in cc)
      in_coll o name (Some x) p some =
          let of = of_layout o x name p in
          let has = has_layout o of.0 name of.1 in
          there_by (in_place s rows (onode c o of.0.size) good has.0).0

  -- ---- plain objects

  module _ (objects : Objects) (shape : IsShape rows objects) where
    same_size : (o : List ℕ) → IsName o → SameSize (d.layout o) (object_under objects c o)
    same_size o name = ap (option_map (λ (l : Draft). l.size)) (begins.drafts o name) ∙ by (layouts o) (object_under objects c o) (begins.has o name) refl
      where
        by : (z : Option Layout) (b : Option Object) → HasLayout (width_of s) rows c o z → object_under objects c o ≡ b → SameSize (option_map draft_of z) b
        by None None none p = refl
        by None (Some b) none p = absurd (let t = sym none ∙ (shape.present c o b p).size.stands in cc)
        by (Some l) None has p = absurd (let t = sym (shape.missing c o coll name p) ∙ has.0.stands in cc)
        by (Some l) (Some b) has p = ap Some (one_size s rows good c o coll name l.size (length b.bytes) has.0 (shape.present c o b p).size)

    -- a header is empty or has a row
    header_is : (o : List ℕ) → IsName o → (b : Object) → object_under objects c o ≡ Some b → map.get rows (header_key c o) ≡ not_empty b.header
    header_is o name b is = by (map.get rows (header_key c o)) refl ∙ ap not_empty (sym (shape.present c o b is).header)
      where
        full : (value : List ℕ) → 0 < length value → Some value ≡ not_empty value
        full [] lt = absurd (omega (arith, lt))
        full (x ∷ xs) lt = refl

        by : (x : Option (List ℕ)) → map.get rows (header_key c o) ≡ x → map.get rows (header_key c o) ≡ not_empty (row rows (header_key c o))
        by None p = p ∙ ap (λ z. not_empty (unwrap_or z [])) (sym p)
        by (Some value) p = p ∙ full value (value_found s rows good c o coll name header value p).0.0 ∙ ap (λ z. not_empty (unwrap_or z [])) (sym p)

    pub matches_first : Matches d (map.get objects c)
    matches_first = record {
      there = begins.there ∙ sym (shape.collections c);
      sizes = same_size;
      named = λ o some. named o (object_under objects c o) refl some;
      values = λ o b v is good_key. values o b v is good_key;
      keys = keys;
    }
      where
        named : (o : List ℕ) (x : Option Object) → object_under objects c o ≡ x → is_some (object_under objects c o) ≡ true → IsName o
        named o None p some = absurd (let t = sym some ∙ ap is_some p in cc)
        named o (Some b) p some = (shape.present c o b p).size.fits.1

        values : (o : List ℕ) (b : Object) (v : ValueKey) → object_under objects c o ≡ Some b → IsValueKey v → d.value o v ≡ value_of b v
        values o b (attribute n) is good_key = begins.values o (attribute n) (named o (Some b) is (ap is_some is)) good_key
            ∙ sym ((shape.present c o b is).attrs n good_key)
        values o b header is good_key = begins.values o header (named o (Some b) is (ap is_some is)) tt
            ∙ header_is o (named o (Some b) is (ap is_some is)) b is
        values o b (pair q) is good_key = begins.values o (pair q) (named o (Some b) is (ap is_some is)) good_key
            ∙ sym ((shape.present c o b is).omap q good_key)

        keys : (o : List ℕ) (b : Object) (v : ValueKey) → object_under objects c o ≡ Some b → is_some (value_of b v) ≡ true → IsValueKey v
        keys o b (attribute n) is some = (shape.present c o b is).attr_names n some
        keys o b header is some = tt
        keys o b (pair q) is some = (shape.present c o b is).omap_keys q some

  -- ---- bytes

  pub holds_first : (at : ℕ → List ℕ) (held : Held) (objects : Objects) → ObjectsStand (width_of s) at rows objects → (o : List ℕ) (x : Draft) (b : Object)
      → IsName o → d.layout o ≡ Some x → object_under objects c o ≡ Some b → HoldBytes d.on at held x b.bytes
  holds_first at held objects stand o x b name is there =
      let of = of_layout o x name is in
      let has = has_layout o of.0 name of.1 in
      subst (λ z. HoldBytes d.on at held z b.bytes) (sym of.2) (held_in of.0 of.1 has (stand.bytes c o b there))
    where
      held_in : (l : Layout) → layouts o ≡ Some l → HasLayout (width_of s) rows c o (Some l) → AreObjectBytes (width_of s) at rows c o b.bytes
          → HoldBytes d.on at held (draft_of l) b.bytes
      held_in l of has all = record {
        kept = λ page place is none.
            let stands = begins.stand o page place name (ap (λ (z : Option Layout). map.get (or_empty z).pages page) of ∙ is) in
            let seen = all.mapped page (d.on place) (record { place = place; at = (has.1 page place).0 is; stands = stands }) in
            (sym seen.seen, seen.kept);
        put = λ page taking is. nothing page taking is;
        holes = λ page none. all.holes page (hole page none);
      }
        where
          hole : (page : ℕ) → is_there (draft_of l) page ≡ false → IsHole (width_of s) rows c o page
          hole page none on is =
              let found = (has.1 page is.place).1 is.at in
              let t = sym (ap (λ (z : Option Place). is_some z || map.contains_key (draft_of l).puts page) found) ∙ none in cc
