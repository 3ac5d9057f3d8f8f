-- What the row under a key is: a lemma for each kind, and one for each first byte. They are read off the thing that the key names.
use Rattle.std.proofs.Common.{◌≡◌, ◌≢◌, ◌⊎◌, inl, inr, ℕ, ◌^◌, ◌<◌, Bool, true, false, cond, List, [], ◌∷◌, length, Some, None, refl, sym, ap, ◌∙◌}
use Rattle.std.specs.Prelude.{nat_lt, ◌==◌, take, drop}
use Rattle.std.specs.Int.{w32, w64, from_be_bytes, from_le_bytes}
use Rattle.unit_fields.specs.Prelude.{IsName, IsCollName}
use Rattle.unit_fields.specs.declared.width.Width.{Width}
use Rattle.row_format.specs.Prelude.{coll_key, onode_key, shard_key, attr_key, header_key, omap_key, bitmap_key, Extent, Row, collection, onode, shard, attribute, omap_header, omap_pair, blob, bitmap, row_key, row_value, row_thing, row_of, FitsRow, as_row, no_shard, shard_in, name_in, behind_name, thing_of, extents_read}
use Rattle.row_format.specs.Things.{Thing, a_collection, an_onode, a_shard, an_attribute, an_omap_header, an_omap_pair, a_bitmap_row, header_or_pair}
use Rattle.row_format.proofs.ThingLemmas.{collection_again, onode_again, shard_again, attribute_again, header_again, pair_again, bitmap_again}
use Rattle.row_format.proofs.RowLemmas.{thing_again, row_again, names_thing, of_some}

-- ---- by the key

-- the row is what the thing makes of the row's value
says : (w : Width) (a b : Row) (key : List ℕ) (t : Thing) → FitsRow w a → key ≡ row_key a → thing_of key ≡ Some t → row_of w t (row_value w a) ≡ Some b
    → a ≡ b
says w a b key t fits is named made =
    of_some a b (sym (row_again w a fits) ∙ ap (λ x. row_of w x (row_value w a)) (names_thing w a key t fits is named) ∙ made)

pub under_coll : (w : Width) (c : List ℕ) (a : Row) → FitsRow w a → coll_key c ≡ row_key a → a ≡ collection c
under_coll w c a fits is = says w a (collection c) (coll_key c) (a_collection c) fits is (collection_again c) refl

pub under_onode : (w : Width) (c o : List ℕ) (a : Row) → IsCollName c → IsName o → FitsRow w a → onode_key c o ≡ row_key a
    → (size : ℕ) × (a ≡ onode c o size)
under_onode w c o a coll name fits is = (_, says w a _ (onode_key c o) (an_onode c o) fits is (onode_again c o coll name) refl)

pub under_shard : (w : Width) (c o : List ℕ) (page : ℕ) (a : Row) → IsCollName c → IsName o → page < 2 ^ 32 → FitsRow w a
    → shard_key c o page ≡ row_key a → (extents : List Extent) × (a ≡ shard c o page extents)
under_shard w c o page a coll name lt fits is =
    (_, says w a _ (shard_key c o page) (a_shard c o page) fits is (shard_again c o page coll name lt) refl)

pub under_attribute : (w : Width) (c o n : List ℕ) (a : Row) → IsCollName c → IsName o → FitsRow w a → attr_key c o n ≡ row_key a
    → (value : List ℕ) × (a ≡ attribute c o n value)
under_attribute w c o n a coll name fits is =
    (_, says w a _ (attr_key c o n) (an_attribute c o n) fits is (attribute_again c o n coll name) refl)

pub under_header : (w : Width) (c o : List ℕ) (a : Row) → IsCollName c → IsName o → FitsRow w a → header_key c o ≡ row_key a
    → (value : List ℕ) × (a ≡ omap_header c o value)
under_header w c o a coll name fits is = (_, says w a _ (header_key c o) (an_omap_header c o) fits is (header_again c o coll name) refl)

pub under_pair : (w : Width) (c o k : List ℕ) (a : Row) → IsCollName c → IsName o → FitsRow w a → omap_key c o k ≡ row_key a
    → (value : List ℕ) × (a ≡ omap_pair c o k value)
under_pair w c o k a coll name fits is = (_, says w a _ (omap_key c o k) (an_omap_pair c o k) fits is (pair_again c o k coll name) refl)

pub under_bitmap : (w : Width) (r : ℕ) (a : Row) → r < 2 ^ 32 → FitsRow w a → bitmap_key r ≡ row_key a → (bits : List ℕ) × (a ≡ bitmap r bits)
under_bitmap w r a lt fits is = (_, says w a _ (bitmap_key r) (a_bitmap_row r) fits is (bitmap_again r lt) refl)

-- ---- by the first byte of the key

abbrev pub IsOnode : Row → Type 0
IsOnode a = (c : List ℕ) × (o : List ℕ) × (size : ℕ) × (a ≡ onode c o size)

abbrev pub IsShard : Row → Type 0
IsShard a = (c : List ℕ) × (o : List ℕ) × (page : ℕ) × (extents : List Extent) × (a ≡ shard c o page extents)

abbrev pub IsAttribute : Row → Type 0
IsAttribute a = (c : List ℕ) × (o : List ℕ) × (name : List ℕ) × (value : List ℕ) × (a ≡ attribute c o name value)

abbrev pub IsHeader : Row → Type 0
IsHeader a = (c : List ℕ) × (o : List ℕ) × (value : List ℕ) × (a ≡ omap_header c o value)

abbrev pub IsPair : Row → Type 0
IsPair a = (c : List ℕ) × (o : List ℕ) × (key : List ℕ) × (value : List ℕ) × (a ≡ omap_pair c o key value)

-- "O"
pub begins_o : (w : Width) (rest : List ℕ) (a : Row) → FitsRow w a → 0x4f ∷ rest ≡ row_key a → IsOnode a ⊎ IsShard a
begins_o w rest a fits is = by (nat_lt 1 (length part)) refl
  where
    c : List ℕ
    c = name_in rest

    o : List ℕ
    o = name_in (behind_name rest)

    part : List ℕ
    part = behind_name (behind_name rest)

    page : ℕ
    page = from_be_bytes w32 (take 4 (drop 1 part))

    named : (long : Bool) → nat_lt 1 (length part) ≡ long → thing_of (0x4f ∷ rest) ≡ Some (cond long (a_shard c o page) (an_onode c o))
    named long e = ap (λ b. Some (cond b (a_shard c o page) (an_onode c o))) e

    by : (long : Bool) → nat_lt 1 (length part) ≡ long → IsOnode a ⊎ IsShard a
    by true e = inr (c, o, page, extents_read w (row_value w a), says w a (shard c o page (extents_read w (row_value w a))) (0x4f ∷ rest) (a_shard c o page) fits is (named true e) refl)
    by false e = inl (c, o, from_le_bytes w64 (row_value w a), says w a (onode c o (from_le_bytes w64 (row_value w a))) (0x4f ∷ rest) (an_onode c o) fits is (named false e) refl)

-- "A"
pub begins_a : (w : Width) (rest : List ℕ) (a : Row) → FitsRow w a → 0x41 ∷ rest ≡ row_key a → IsAttribute a
begins_a w rest a fits is = (_, _, _, _, says w a _ (0x41 ∷ rest) (an_attribute _ _ _) fits is refl refl)

-- "M"
pub begins_m : (w : Width) (rest : List ℕ) (a : Row) → FitsRow w a → 0x4d ∷ rest ≡ row_key a → IsHeader a ⊎ IsPair a
begins_m w rest a fits is = by (behind_name (behind_name rest)) (ap thing_of is ∙ thing_again w a fits)
  where
    c : List ℕ
    c = name_in rest

    o : List ℕ
    o = name_in (behind_name rest)

    header : thing_of (0x4d ∷ rest) ≡ Some (an_omap_header c o) → IsHeader a
    header named = (c, o, row_value w a, says w a (omap_header c o (row_value w a)) (0x4d ∷ rest) (an_omap_header c o) fits is named refl)

    pair : (key : List ℕ) → thing_of (0x4d ∷ rest) ≡ Some (an_omap_pair c o key) → IsPair a
    pair key named = (c, o, key, row_value w a, says w a (omap_pair c o key (row_value w a)) (0x4d ∷ rest) (an_omap_pair c o key) fits is named refl)

    thing : thing_of (0x4d ∷ rest) ≡ Some (row_thing a)
    thing = ap thing_of is ∙ thing_again w a fits

    tell : (h p : Bool) (key : List ℕ) → thing_of (0x4d ∷ rest) ≡ cond h (Some (an_omap_header c o)) (cond p (Some (an_omap_pair c o key)) None)
        → IsHeader a ⊎ IsPair a
    tell true p key named = inl (header named)
    tell false true key named = inr (pair key named)
    tell false false key named = absurd (let none : None ≡ Some (row_thing a) = sym named ∙ thing in cc)

    by : (part : List ℕ) → header_or_pair c o part ≡ Some (row_thing a) → IsHeader a ⊎ IsPair a
    by [] found = absurd (let none : None ≡ Some (row_thing a) = found in cc)
    by (b ∷ key) found = tell (b == 0x2d) (b == 0x2e) key (thing ∙ sym found)

-- "b"
pub begins_b : (w : Width) (rest : List ℕ) (a : Row) → FitsRow w a → 0x62 ∷ rest ≡ row_key a → (r : ℕ) × (bits : List ℕ) × (a ≡ bitmap r bits)
begins_b w rest a fits is = (_, _, says w a _ (0x62 ∷ rest) (a_bitmap_row _) fits is refl refl)

-- ---- by what it says

-- A row of a collection, of an object's size or of its extents; or another, which is none of these.
pub data RowCase (a : Row) : Type 0 where
  of_coll : (c : List ℕ) → a ≡ collection c → RowCase a
  of_onode : (c o : List ℕ) (size : ℕ) → a ≡ onode c o size → RowCase a
  of_shard : a ≡ as_row (shard_in a) → RowCase a
  of_other : ((c : List ℕ) → a ≢ collection c) → ((c o : List ℕ) (size : ℕ) → a ≢ onode c o size) → shard_in a ≡ no_shard → RowCase a

pub row_case : (a : Row) → RowCase a
row_case (collection c) = of_coll c refl
row_case (onode c o size) = of_onode c o size refl
row_case (shard c o page extents) = of_shard refl
row_case (attribute c o name value) = of_other (λ d e. absurd cc) (λ d u n e. absurd cc) refl
row_case (omap_header c o value) = of_other (λ d e. absurd cc) (λ d u n e. absurd cc) refl
row_case (omap_pair c o key value) = of_other (λ d e. absurd cc) (λ d u n e. absurd cc) refl
row_case (blob sbid first slots) = of_other (λ d e. absurd cc) (λ d u n e. absurd cc) refl
row_case (bitmap r bits) = of_other (λ d e. absurd cc) (λ d u n e. absurd cc) refl

-- a row is a shard, or says nothing of extents
pub is_shard_or_none : (a : Row) → (a ≡ as_row (shard_in a)) ⊎ (shard_in a ≡ no_shard)
is_shard_or_none a = by (row_case a)
  where
    by : RowCase a → (a ≡ as_row (shard_in a)) ⊎ (shard_in a ≡ no_shard)
    by (of_coll c e) = inr (ap shard_in e)
    by (of_onode c o size e) = inr (ap shard_in e)
    by (of_shard e) = inl e
    by (of_other _ _ e) = inr e
