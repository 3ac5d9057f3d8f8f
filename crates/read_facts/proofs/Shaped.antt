-- Rows of which none is bad have objects of their shape: each with as many zeros as its onode says, with the attributes and the omap of its rows, in
-- the collection of its row.
use Rattle.std.proofs.Common.{◌≡◌, ◌≢◌, ◌⊎◌, inl, inr, ℕ, ◌||◌, Bool, true, false, List, [], ◌∷◌, ◌++◌, length, map, replicate, Option, Some, None, is_some, option_and_then, refl, sym, ap, subst, ◌∙◌, append_assoc, arith}
use Rattle.std.specs.List.{list_any, AllByRecursion}
use Rattle.std.specs.Ordering.{is_eq, eq_by_cmp}
use Rattle.std.specs.declared.cmp.Ordering.{Ordering}
use Rattle.std.specs.declared.cmp.Ordering.TheVariants.{Less, Equal, Greater}
use Rattle.std.specs.FinMap as finite
use Rattle.std.proofs.lemmas.List.{length-replicate}
use Rattle.std.proofs.lemmas.Option.{same_Some}
use Rattle.byte_maps.specs.ByteMap.{byte_order}
use Rattle.byte_maps.proofs.Prelude.{same_bytes}
use Rattle.object_model.specs.Prelude.{Object, Collection, Objects, object_under}
use Rattle.meta_rows.specs.Prelude.{Rows, row}
use Rattle.meta_log.specs.declared.slot.Super.{Super}
use Rattle.meta_log.specs.Prelude.{width_of}
use Rattle.unit_fields.specs.Prelude.{IsName, IsCollName}
use Rattle.row_format.specs.Prelude.{object_key, coll_key, onode_key, attr_key, header_key, omap_key, Row, collection, onode, row_key, FitsRow}
use Rattle.row_format.proofs.Prelude.{under_coll, under_onode, RowCase, of_coll, of_onode, of_shard, of_other, row_case}
use Rattle.store_image.specs.Prelude.{HasKey, HasRow, HasOnode, IsInPlace, NoBadRow, IsObjectShape, IsShape}
use Rattle.store_image.proofs.Prelude.{equal_or_not}
use Rattle.row_facts.proofs.Maps.{get_same, get_other, some_after}
use Rattle.row_facts.proofs.ValueRows.{attribute_is, pair_is}
use Rattle.read_facts.proofs.Fronts.{values_behind, value_behind}
use Rattle.read_facts.proofs.Keys.{under_found, some_of, none_of}
use Rattle.read_facts.proofs.Walks.{got_each}

-- what stands behind the names of a key of an object's row
pub key_front : (kind : ℕ) (c o front rest : List ℕ) → object_key kind c o front ++ rest ≡ object_key kind c o (front ++ rest)
key_front kind c o front rest =
    ap (λ (l : List ℕ). kind ∷ l)
    (append_assoc c (0 ∷ (o ++ 0 ∷ front)) rest ∙ ap (λ (l : List ℕ). c ++ 0 ∷ l) (append_assoc o (0 ∷ front) rest))

-- the row is one of these
abbrev IsIn : Row → List Row → Type 0
IsIn r [] = ⊥
IsIn r (x ∷ xs) = (x ≡ r) ⊎ IsIn r xs

abbrev zeros_object : Rows → List ℕ → List ℕ → ℕ → Object
zeros_object rows c o size = record {
  bytes = replicate size 0;
  attrs = values_behind (attr_key c o []) rows;
  header = row rows (header_key c o);
  omap = values_behind (omap_key c o []) rows;
}

-- ---- what the rows say

module _ (rows : Rows) where
  -- ---- the objects of a collection

  -- one is put in if it is of the collection
  abbrev put_in : (c d : List ℕ) → (d ≡ c) ⊎ (d ≢ c) → List ℕ → ℕ → Collection → Collection
  put_in c d (inl same) o size m = finite.insert m o (zeros_object rows c o size)
  put_in c d (inr apart) o size m = m

  -- what a row says of the collection's objects
  abbrev put_of : (c : List ℕ) {r : Row} → RowCase r → Collection → Collection
  put_of c (of_onode d o size is) m = put_in c d (equal_or_not d c) o size m
  put_of c (of_coll d is) m = m
  put_of c (of_shard is) m = m
  put_of c (of_other _ _ _) m = m

  abbrev objects_in : List ℕ → List Row → Collection
  objects_in c [] = finite.empty
  objects_in c (r ∷ rs) = put_of c (row_case r) (objects_in c rs)

  -- an object is as its onode says
  abbrev IsOfOnode : List ℕ → List ℕ → Object → List Row → Type 0
  IsOfOnode c o object rs = (size : ℕ) × ((object ≡ zeros_object rows c o size) × IsIn (onode c o size) rs)

  module _ (c : List ℕ) where
    later : (r : Row) (rs : List Row) (o : List ℕ) (object : Object) → IsOfOnode c o object rs → IsOfOnode c o object (r ∷ rs)
    later r rs o object is = (is.0, (is.1.0, inr is.1.1))

    put_row : (d u : List ℕ) (size : ℕ) (rs : List Row) (t : (d ≡ c) ⊎ (d ≢ c)) (o : List ℕ) (object : Object)
        → (finite.get (objects_in c rs) o ≡ Some object → IsOfOnode c o object rs)
        → finite.get (put_in c d t u size (objects_in c rs)) o ≡ Some object → IsOfOnode c o object (onode d u size ∷ rs)
    put_row d u size rs (inl same) o object before is = elim (equal_or_not o u) [
      | inl e ↦
          let m : Collection = finite.insert (objects_in c rs) u (zeros_object rows c u size) in
          let here = same_Some object (zeros_object rows c u size) (sym is ∙ ap (finite.get m) e ∙ get_same (objects_in c rs) u (zeros_object rows c u size)) in
          (size, (here ∙ ap (λ (n : List ℕ). zeros_object rows c n size) (sym e), inl (λ i. onode (same i) (sym e i) size)))
      | inr apart ↦ later (onode d u size) rs o object (before (sym (get_other (objects_in c rs) u (zeros_object rows c u size) o apart) ∙ is))
    ]
    put_row d u size rs (inr apart) o object before is = later (onode d u size) rs o object (before is)

    found_row : (rs : List Row) (o : List ℕ) (object : Object) → finite.get (objects_in c rs) o ≡ Some object → IsOfOnode c o object rs
    found_row [] o object is = absurd (let e = sym (finite.get-empty byte_order o) ∙ is in cc)
    found_row (r ∷ rs) o object is = by (found_row rs o object) (row_case r) is
      where
        by : (finite.get (objects_in c rs) o ≡ Some object → IsOfOnode c o object rs) → (k : RowCase r) → finite.get (put_of c k (objects_in c rs)) o ≡ Some object → IsOfOnode c o object (r ∷ rs)
        by before (of_onode d u size e) got =
            subst (λ (x : Row). IsOfOnode c o object (x ∷ rs)) (sym e) (put_row d u size rs (equal_or_not d c) o object before got)
        by before (of_coll d e) got = later r rs o object (before got)
        by before (of_shard e) got = later r rs o object (before got)
        by before (of_other _ _ _) got = later r rs o object (before got)

    row_put : (d u : List ℕ) (n : ℕ) (rs : List Row) (t : (d ≡ c) ⊎ (d ≢ c)) (o : List ℕ) (size : ℕ)
        → (IsIn (onode c o size) rs → is_some (finite.get (objects_in c rs) o) ≡ true)
        → IsIn (onode c o size) (onode d u n ∷ rs) → is_some (finite.get (put_in c d t u n (objects_in c rs)) o) ≡ true
    row_put d u n rs (inl same) o size before (inl e) =
        let m : Collection = finite.insert (objects_in c rs) u (zeros_object rows c u n) in
        let name : o ≡ u = cc in
        ap (λ (x : List ℕ). is_some (finite.get m x)) name ∙ ap is_some (get_same (objects_in c rs) u (zeros_object rows c u n))
    row_put d u n rs (inl same) o size before (inr old) = some_after (objects_in c rs) u (zeros_object rows c u n) o (before old)
    row_put d u n rs (inr apart) o size before (inl e) = absurd (let same : d ≡ c = cc in apart same)
    row_put d u n rs (inr apart) o size before (inr old) = before old

    row_found : (rs : List Row) (o : List ℕ) (size : ℕ) → IsIn (onode c o size) rs → is_some (finite.get (objects_in c rs) o) ≡ true
    row_found [] o size is = absurd is
    row_found (r ∷ rs) o size is = by (row_found rs o size) (row_case r) is
      where
        by : (IsIn (onode c o size) rs → is_some (finite.get (objects_in c rs) o) ≡ true) → (k : RowCase r) → IsIn (onode c o size) (r ∷ rs) → is_some (finite.get (put_of c k (objects_in c rs)) o) ≡ true
        by before (of_onode d u n e) there =
            row_put d u n rs (equal_or_not d c) o size before (subst (λ (x : Row). IsIn (onode c o size) (x ∷ rs)) e there)
        by before (of_coll d e) (inl same) = absurd (let never = sym e ∙ same in cc)
        by before (of_coll d e) (inr old) = before old
        by before (of_shard e) (inl same) = absurd (let never = sym e ∙ same in cc)
        by before (of_shard e) (inr old) = before old
        by before (of_other _ no_onode _) (inl same) = absurd (no_onode c o size same)
        by before (of_other _ _ _) (inr old) = before old

  -- ---- the collections

  module _ (all : List Row) where
    -- each has the objects of all rows
    abbrev made_of : {r : Row} → RowCase r → Objects → Objects
    made_of (of_coll c is) m = finite.insert m c (objects_in c all)
    made_of (of_onode d o size is) m = m
    made_of (of_shard is) m = m
    made_of (of_other _ _ _) m = m

    abbrev colls_of : List Row → Objects
    colls_of [] = finite.empty
    colls_of (r ∷ rs) = made_of (row_case r) (colls_of rs)

    -- a collection is as its row says
    abbrev IsOfColl : List ℕ → Collection → List Row → Type 0
    IsOfColl c found rs = (found ≡ objects_in c all) × IsIn (collection c) rs

    coll_row : (rs : List Row) (c : List ℕ) (found : Collection) → finite.get (colls_of rs) c ≡ Some found → IsOfColl c found rs
    coll_row [] c found is = absurd (let e = sym (finite.get-empty byte_order c) ∙ is in cc)
    coll_row (r ∷ rs) c found is = by (coll_row rs c found) (row_case r) is
      where
        old : IsOfColl c found rs → IsOfColl c found (r ∷ rs)
        old is = (is.0, inr is.1)

        by : (finite.get (colls_of rs) c ≡ Some found → IsOfColl c found rs) → (k : RowCase r) → finite.get (made_of k (colls_of rs)) c ≡ Some found → IsOfColl c found (r ∷ rs)
        by before (of_coll d e) got = elim (equal_or_not c d) [
          | inl same ↦
              let m : Objects = finite.insert (colls_of rs) d (objects_in d all) in
              let here = same_Some found (objects_in d all) (sym got ∙ ap (finite.get m) same ∙ get_same (colls_of rs) d (objects_in d all)) in
              (here ∙ ap (λ (x : List ℕ). objects_in x all) (sym same), inl (e ∙ ap collection (sym same)))
          | inr apart ↦ old (before (sym (get_other (colls_of rs) d (objects_in d all) c apart) ∙ got))
        ]
        by before (of_onode d o size e) got = old (before got)
        by before (of_shard e) got = old (before got)
        by before (of_other _ _ _) got = old (before got)

    row_coll : (rs : List Row) (c : List ℕ) → IsIn (collection c) rs → is_some (finite.get (colls_of rs) c) ≡ true
    row_coll [] c is = absurd is
    row_coll (r ∷ rs) c is = by (row_coll rs c) (row_case r) is
      where
        by : (IsIn (collection c) rs → is_some (finite.get (colls_of rs) c) ≡ true) → (k : RowCase r) → IsIn (collection c) (r ∷ rs) → is_some (finite.get (made_of k (colls_of rs)) c) ≡ true
        by before (of_coll d e) (inl same) =
            let m : Objects = finite.insert (colls_of rs) d (objects_in d all) in
            let both : collection d ≡ collection c = sym e ∙ same in
            let name : c ≡ d = cc in
            ap (λ (x : List ℕ). is_some (finite.get m x)) name ∙ ap is_some (get_same (colls_of rs) d (objects_in d all))
        by before (of_coll d e) (inr old) = some_after (colls_of rs) d (objects_in d all) c (before old)
        by before (of_onode d o size e) (inl same) = absurd (let never = sym e ∙ same in cc)
        by before (of_onode d o size e) (inr old) = before old
        by before (of_shard e) (inl same) = absurd (let never = sym e ∙ same in cc)
        by before (of_shard e) (inr old) = before old
        by before (of_other no_coll _ _) (inl same) = absurd (no_coll c same)
        by before (of_other _ _ _) (inr old) = before old

-- ---- rows of which none is bad

module _ (s : Super) (rows : Rows) (good : NoBadRow s rows) where
  -- what the entries say
  abbrev rows_in : (es : List (List ℕ × List ℕ)) → AllByRecursion (λ e. finite.get rows e.0 ≡ Some e.1) es → List Row
  rows_in [] got = []
  rows_in (e ∷ es) got = (good e.0 e.1 got.0).row ∷ rows_in es got.1

  is_row : (key value : List ℕ) (at : finite.get rows key ≡ Some value)
      → HasRow (width_of s) rows (good key value at).row × IsInPlace s rows (good key value at).row
  is_row key value at =
      let g = good key value at in
      (record { fits = g.fits; stands = ap (finite.get rows) (sym g.key_is) ∙ at ∙ ap Some g.value_is }, g.in_place)

  each_in : (es : List (List ℕ × List ℕ)) (got : AllByRecursion (λ e. finite.get rows e.0 ≡ Some e.1) es) (r : Row) → IsIn r (rows_in es got)
      → HasRow (width_of s) rows r × IsInPlace s rows r
  each_in [] got r is = absurd is
  each_in (e ∷ es) got r (inl same) = subst (λ (x : Row). HasRow (width_of s) rows x × IsInPlace s rows x) same (is_row e.0 e.1 got.0)
  each_in (e ∷ es) got r (inr is) = each_in es got.1 r is

  -- a key has its row among them
  abbrev IsKeyIn : List ℕ → List Row → Type 0
  IsKeyIn key rs = (r : Row) × ((key ≡ row_key r) × IsIn r rs)

  key_here : (e : List ℕ × List ℕ) (es : List (List ℕ × List ℕ)) (got : AllByRecursion (λ x. finite.get rows x.0 ≡ Some x.1) (e ∷ es)) (key : List ℕ)
      → IsKeyIn key (rows_in es got.1) ⊎ (key ≡ e.0) → IsKeyIn key (rows_in (e ∷ es) got)
  key_here e es got key (inl is) = (is.0, (is.1.0, inr is.1.1))
  key_here e es got key (inr same) = let g = good e.0 e.1 got.0 in (g.row, (same ∙ g.key_is, inl refl))

  key_in : (es : List (List ℕ × List ℕ)) (got : AllByRecursion (λ e. finite.get rows e.0 ≡ Some e.1) es) (key : List ℕ)
      → list_any (eq_by_cmp byte_order key) (map (λ e. e.0) es) ≡ true → IsKeyIn key (rows_in es got)
  key_in [] got key is = absurd cc
  key_in (e ∷ es) got key is = key_here e es got key (by (key_in es got.1 key) (byte_order key e.0) refl is)
    where
      by : (list_any (eq_by_cmp byte_order key) (map (λ x. x.0) es) ≡ true → IsKeyIn key (rows_in es got.1)) → (o : Ordering)
          → byte_order key e.0 ≡ o → (is_eq o || list_any (eq_by_cmp byte_order key) (map (λ x. x.0) es)) ≡ true
          → IsKeyIn key (rows_in es got.1) ⊎ (key ≡ e.0)
      by behind Less p is = inl (behind is)
      by behind Equal p is = inr (same_bytes key e.0 p)
      by behind Greater p is = inl (behind is)

  abbrev all_rows : List Row
  all_rows = rows_in (finite.entries rows) (got_each rows)

  stands_in : (r : Row) → IsIn r all_rows → HasRow (width_of s) rows r × IsInPlace s rows r
  stands_in = each_in (finite.entries rows) (got_each rows)

  has_in : (key : List ℕ) → HasKey rows key → IsKeyIn key all_rows
  has_in key has = key_in (finite.entries rows) (got_each rows) key (sym (finite.contains_key-keys rows key) ∙ has)

  -- the row of a collection
  coll_in : (c : List ℕ) → HasKey rows (coll_key c) → IsIn (collection c) all_rows
  coll_in c has =
      let found = has_in (coll_key c) has in
      let fits : FitsRow (width_of s) found.0 = (stands_in found.0 found.1.1).0.fits in
      subst (λ (x : Row). IsIn x all_rows) (under_coll (width_of s) c found.0 fits found.1.0) found.1.1

  -- the onode of an object
  onode_in : (c o : List ℕ) → IsCollName c → IsName o → HasKey rows (onode_key c o) → (size : ℕ) × IsIn (onode c o size) all_rows
  onode_in c o coll name has =
      let found = has_in (onode_key c o) has in
      let fits : FitsRow (width_of s) found.0 = (stands_in found.0 found.1.1).0.fits in
      let is = under_onode (width_of s) c o found.0 coll name fits found.1.0 in
      (is.0, subst (λ (x : Row). IsIn x all_rows) is.1 found.1.1)

  -- ---- the objects

  abbrev rows_objects : Objects
  rows_objects = colls_of rows all_rows all_rows

  under : (c o : List ℕ) (object : Object) → object_under rows_objects c o ≡ Some object → IsOfOnode rows c o object all_rows
  under c o object is = by (finite.get rows_objects c) refl
    where
      by : (x : Option Collection) → finite.get rows_objects c ≡ x → IsOfOnode rows c o object all_rows
      by None e = absurd (let none = sym (ap (λ (x : Option Collection). option_and_then (λ (coll : Collection). finite.get coll o) x) e) ∙ is in cc)
      by (Some found) e =
          let coll = coll_row rows all_rows all_rows c found e in
          found_row rows c all_rows o object (ap (λ (m : Collection). finite.get m o) (sym coll.0) ∙ sym (under_found rows_objects c o found e) ∙ is)

  onode_under : (c o : List ℕ) (size : ℕ) → IsIn (onode c o size) all_rows → is_some (object_under rows_objects c o) ≡ true
  onode_under c o size is =
      let place : IsInPlace s rows (onode c o size) = (stands_in (onode c o size) is).1 in
      let found = some_of (finite.get rows_objects c) (row_coll rows all_rows all_rows c (coll_in c place.0)) in
      let coll = coll_row rows all_rows all_rows c found.0 found.1 in
      ap is_some (under_found rows_objects c o found.0 found.1) ∙ ap (λ (m : Collection). is_some (finite.get m o)) coll.0
      ∙ row_found rows c all_rows o size is

  zeros_shape : (c o : List ℕ) (size : ℕ) → IsIn (onode c o size) all_rows → IsObjectShape rows c o (zeros_object rows c o size)
  zeros_shape c o size is =
      let at = stands_in (onode c o size) is in
      let place : IsInPlace s rows (onode c o size) = at.1 in
      let long : length (replicate size 0) ≡ size = length-replicate size 0 in
      let coll : IsCollName c = at.0.fits.0 in
      let object : IsName o = at.0.fits.1 in
      record {
        size = subst (λ (n : ℕ). HasOnode rows c o n) (sym long) at.0;
        size_most = omega (arith, long, place.1);
        attr_names = λ name its.
            let value = some_of (finite.get rows (attr_key c o name)) (sym (ap is_some (get_attr c o name)) ∙ its) in
            ((attribute_is s rows c o coll object name value.0).0 (good (attr_key c o name) value.0 value.1)).0.named;
        attrs = λ name its. get_attr c o name;
        header = refl;
        omap_keys = λ key its.
            let value = some_of (finite.get rows (omap_key c o key)) (sym (ap is_some (get_pair c o key)) ∙ its) in
            ((pair_is s rows c o coll object key value.0).0 (good (omap_key c o key) value.0 value.1)).0.named;
        omap = λ key its. get_pair c o key;
      }
    where
      get_attr : (c o name : List ℕ) → finite.get (values_behind (attr_key c o []) rows) name ≡ finite.get rows (attr_key c o name)
      get_attr c o name = value_behind (attr_key c o []) rows name ∙ ap (finite.get rows) (key_front 0x41 c o [] name)

      get_pair : (c o key : List ℕ) → finite.get (values_behind (omap_key c o []) rows) key ≡ finite.get rows (omap_key c o key)
      get_pair c o key = value_behind (omap_key c o []) rows key ∙ ap (finite.get rows) (key_front 0x4d c o (0x2e ∷ []) key)

  same_colls : (c : List ℕ) → finite.contains_key rows_objects c ≡ finite.contains_key rows (coll_key c)
  same_colls c = by (finite.contains_key rows_objects c) (finite.contains_key rows (coll_key c)) refl refl
    where
      by : (a b : Bool) → finite.contains_key rows_objects c ≡ a → finite.contains_key rows (coll_key c) ≡ b → a ≡ b
      by true b has is =
          let found = some_of (finite.get rows_objects c) has in
          let coll = coll_row rows all_rows all_rows c found.0 found.1 in
          sym (ap is_some (stands_in (collection c) coll.1).0.stands) ∙ is
      by false true none has = sym none ∙ row_coll rows all_rows all_rows c (coll_in c has)
      by false false none is = refl

  pub rows_shape : IsShape rows rows_objects
  rows_shape = record {
    collections = same_colls;
    present = λ c o object is.
        let at = under c o object is in
        subst (IsObjectShape rows c o) (sym at.1.0) (zeros_shape c o at.0 at.1.1);
    missing = λ c o coll name none. none_of (finite.get rows (onode_key c o)) (by c o coll name none (finite.contains_key rows (onode_key c o)) refl);
  }
    where
      by : (c o : List ℕ) → IsCollName c → IsName o → object_under rows_objects c o ≡ None → (b : Bool) → finite.contains_key rows (onode_key c o) ≡ b
          → finite.contains_key rows (onode_key c o) ≡ false
      by c o coll name none true has =
          let at = onode_in c o coll name has in
          absurd (let bad : true ≡ false = sym (onode_under c o at.0 at.1) ∙ ap is_some none in cc)
      by c o coll name none false is = is

pub have_objects : (s : Super) (rows : Rows) → NoBadRow s rows → (objects : Objects) × IsShape rows objects
have_objects s rows good = (rows_objects s rows good, rows_shape s rows good)
