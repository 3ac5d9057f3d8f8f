-- An object's extents and pages, by its shards.
use Rattle.std.proofs.Common.{◌≡◌, ◌⊎◌, ◌↔◌, inl, inr, ℕ, zero, suc, ◌+◌, ◌-◌, ◌<◌, ◌≤◌, ◌^◌, true, cond, List, [], ◌∷◌, ◌++◌, length, get_or, map, Some, None, is_some, refl, sym, ap, subst, ◌∙◌, arith}
use Rattle.std.specs.Prelude.{nat_le, nat_lt, ◌&&◌, Contains}
use Rattle.std.specs.List.{AllByRecursion}
use Rattle.std.specs.FinMap as finite
use Rattle.std.proofs.lemmas.Bool.{cases_Bool}
use Rattle.meta_rows.specs.Prelude.{Rows}
use Rattle.meta_log.specs.declared.slot.Super.{Super}
use Rattle.meta_log.specs.Prelude.{width_of, data_unit}
use Rattle.unit_fields.specs.Prelude.{IsName, IsCollName}
use Rattle.unit_fields.specs.declared.width.Width.{Width}
use Rattle.row_format.specs.Prelude.{shard_key, shared_key, Extent, Body, private, shared, page_count, page_end, place_in, place_of, Place, ExtentsAscend, BeginsAt, FitsBody, FitsExtent, Row, onode, shard, row_key}
use Rattle.row_format.proofs.Prelude.{under_shard}
use Rattle.store_image.specs.Prelude.{HasKey, HasRow, HasOnode, HasShard, IsPageAt, pages_of, IsOnData, HasSlots, IsShardInPlace, NoBadRow}
use Rattle.store_image.proofs.Prelude.{in_place, one_place, blob_there}
use Rattle.blob_map.specs.Prelude.{HasNumbers, AreNumbered}
use Rattle.unit_fields.specs.UnitSet.{Ascends}
use Rattle.object_rows.specs.Shards.{AreShards, ShardsAscend, AreShardsOf, extents_in}
use Rattle.object_rows.proofs.Lists.{all_append}
use Rattle.object_rows.proofs.GoodPages.{all_map}

ascend_append : (xs ys : List Extent) → ExtentsAscend xs → ExtentsAscend ys → AllByRecursion (λ x. AllByRecursion (λ y. page_end x ≤ y.first) ys) xs → ExtentsAscend (xs ++ ys)
ascend_append [] ys p q below = q
ascend_append (x ∷ xs) ys p q below =
    (all_append (λ later. page_end x ≤ later.first) xs ys p.0 below.0, ascend_append xs ys p.1 q below.1)

-- the extents of a shard begin at its page
from_first : (page : ℕ) (es : List Extent) → BeginsAt page es → ExtentsAscend es → AllByRecursion (λ e. page ≤ e.first) es
from_first page [] begins ascend = tt
from_first page (e ∷ es) begins ascend =
    (omega (arith, begins), all_map (λ later. page_end e ≤ later.first) (λ later. page ≤ later.first) (λ x le. omega (arith, le, begins)) es ascend.0)

-- a test of each shard for each extent, and of each extent for each shard
turned : (es : List Extent) (xs : List (ℕ × List Extent)) → AllByRecursion (λ x. AllByRecursion (λ e. page_end e ≤ x.0) es) xs
    → AllByRecursion (λ e. AllByRecursion (λ x. page_end e ≤ x.0) xs) es
turned [] xs all = tt
turned (e ∷ es) xs all = (
  all_map (λ x. AllByRecursion (λ e. page_end e ≤ x.0) (e ∷ es)) (λ x. page_end e ≤ x.0) (λ x h. h.0) xs all,
  turned es xs (all_map (λ x. AllByRecursion (λ e. page_end e ≤ x.0) (e ∷ es)) (λ x. AllByRecursion (λ e. page_end e ≤ x.0) es) (λ x h. h.1) xs all),
)

pub both_all : {X : Type 0} (P Q R : X → Type 0) → ((x : X) → P x → Q x → R x) → (xs : List X) → AllByRecursion P xs → AllByRecursion Q xs → AllByRecursion R xs
both_all P Q R f [] p q = tt
both_all P Q R f (x ∷ xs) p q = (f x p.0 q.0, both_all P Q R f xs p.1 q.1)

-- the numbers of a body on data units or on slots that its blob has fit their fields
body_numbered : (s : Super) (rows : Rows) (c : List ℕ) → NoBadRow s rows → s.units ≤ 2 ^ 32 → (body : Body) → IsOnData s body
    → HasSlots (width_of s) rows c body → FitsBody (width_of s) body → AreNumbered body
body_numbered s rows c good most (private unit csums) on slots fits = omega (arith, on.1, most)
body_numbered s rows c good most (shared sbid first count) on slots fits =
    let row = blob_there s rows sbid fits.0 good (finite.get rows (shared_key sbid)) refl slots.0 in
    (fits.0, omega (arith, slots.1 row.0 row.1.0 row.1.1, row.1.1.fits.few))

module _ (xs ys : List Extent) (page : ℕ) where
  pub found_left : (place : Place) → place_of xs page ≡ Some place → place_of (xs ++ ys) page ≡ Some place
  found_left place is = by xs is
    where
      by : (xs : List Extent) → place_of xs page ≡ Some place → place_of (xs ++ ys) page ≡ Some place
      by [] is = absurd cc
      by (x ∷ xs) is = elim (cases_Bool (nat_le x.first page && nat_lt page (page_end x))) [
        | inl t ↦ ap (λ b. cond b (Some (place_in x.body (page - x.first))) (place_of (xs ++ ys) page)) t
            ∙ sym (ap (λ b. cond b (Some (place_in x.body (page - x.first))) (place_of xs page)) t) ∙ is
        | inr f ↦ ap (λ b. cond b (Some (place_in x.body (page - x.first))) (place_of (xs ++ ys) page)) f
            ∙ by xs (sym (ap (λ b. cond b (Some (place_in x.body (page - x.first))) (place_of xs page)) f) ∙ is)
      ]

  pub found_right : place_of xs page ≡ None → place_of (xs ++ ys) page ≡ place_of ys page
  found_right none = by xs none
    where
      by : (xs : List Extent) → place_of xs page ≡ None → place_of (xs ++ ys) page ≡ place_of ys page
      by [] none = refl
      by (x ∷ xs) none = elim (cases_Bool (nat_le x.first page && nat_lt page (page_end x))) [
        | inl t ↦ absurd (let e = sym (ap (λ b. cond b (Some (place_in x.body (page - x.first))) (place_of xs page)) t) ∙ none in cc)
        | inr f ↦ ap (λ b. cond b (Some (place_in x.body (page - x.first))) (place_of (xs ++ ys) page)) f
            ∙ by xs (sym (ap (λ b. cond b (Some (place_in x.body (page - x.first))) (place_of xs page)) f) ∙ none)
      ]

-- ---- shards

module _ (w : Width) (rows : Rows) (c o : List ℕ) where
  abbrev StandsThere : ℕ × List Extent → Type 0
  StandsThere x = HasShard w rows c o x.0 x.1

  all_extents : (P : Extent → Type 0) → ((x : ℕ × List Extent) → StandsThere x → AllByRecursion P x.1) → (xs : List (ℕ × List Extent))
      → AllByRecursion StandsThere xs → AllByRecursion P (extents_in xs)
  all_extents P each [] has = tt
  all_extents P each (x ∷ xs) has = all_append P x.1 (extents_in xs) (each x has.0) (all_extents P each xs has.1)

  pub by_shards_fit : (shards : List (ℕ × List Extent)) → AreShardsOf w rows c o shards → AllByRecursion (FitsExtent w) (extents_in shards)
  by_shards_fit shards are = all_extents (FitsExtent w) (λ x has. has.fits.fit) shards are.there

module _ (s : Super) (rows : Rows) (c o : List ℕ) (good : NoBadRow s rows) where
  abbrev IsThere : ℕ × List Extent → Type 0
  IsThere x = HasShard (width_of s) rows c o x.0 x.1

  shard_in : (x : ℕ × List Extent) → IsThere x → IsShardInPlace s rows c o x.0 x.1
  shard_in x has = in_place s rows (shard c o x.0 x.1) good has

  -- the extents of later shards begin at their pages
  later_from : (n : ℕ) (xs : List (ℕ × List Extent)) → AllByRecursion IsThere xs → AllByRecursion (λ x. n ≤ x.0) xs
      → AllByRecursion (λ e. n ≤ e.first) (extents_in xs)
  later_from n [] has from = tt
  later_from n (x ∷ xs) has from = all_append (λ e. n ≤ e.first) x.1 (extents_in xs)
      (all_map (λ e. x.0 ≤ e.first) (λ e. n ≤ e.first) (λ e le. omega (arith, le, from.0)) x.1
      (from_first x.0 x.1 has.0.fits.begins (shard_in x has.0).ascend))
      (later_from n xs has.1 from.1)

  ends_below : (x : ℕ × List Extent) (xs : List (ℕ × List Extent)) → IsThere x → AllByRecursion IsThere xs
      → AllByRecursion (λ later. x.0 < later.0) xs → AllByRecursion (λ later. AllByRecursion (λ e. page_end e ≤ later.0) x.1) xs
  ends_below x [] has all rise = tt
  ends_below x (y ∷ ys) has all rise = ((shard_in y all.0).behind x.0 x.1 rise.0 has, ends_below x ys has all.1 rise.1)

  shards_ascend : (xs : List (ℕ × List Extent)) → AllByRecursion IsThere xs → ShardsAscend xs → ExtentsAscend (extents_in xs)
  shards_ascend [] has rise = tt
  shards_ascend (x ∷ xs) has rise = ascend_append x.1 (extents_in xs) (shard_in x has.0).ascend (shards_ascend xs has.1 rise.1)
      (all_map (λ e. AllByRecursion (λ later. page_end e ≤ later.0) xs) (λ e. AllByRecursion (λ y. page_end e ≤ y.first) (extents_in xs))
      (λ e from. later_from (page_end e) xs has.1 from) x.1 (turned x.1 xs (ends_below x xs has.0 has.1 rise.0)))

  shard_numbered : s.units ≤ 2 ^ 32 → (x : ℕ × List Extent) → IsThere x → AllByRecursion (λ e. AreNumbered e.body) x.1
  shard_numbered most x has =
      let placed = both_all (λ e. HasSlots (width_of s) rows c e.body) (FitsExtent (width_of s))
      (λ e. HasSlots (width_of s) rows c e.body × FitsBody (width_of s) e.body) (λ e slots fits. (slots, fits.body)) x.1 (shard_in x has).slots
      has.fits.fit in
      both_all (λ e. IsOnData s e.body) (λ e. HasSlots (width_of s) rows c e.body × FitsBody (width_of s) e.body) (λ e. AreNumbered e.body)
      (λ e on its. body_numbered s rows c good most e.body on its.0 its.1) x.1 (shard_in x has).on_data placed

  -- a row under the key of a shard is that shard
  shard_row : IsCollName c → IsName o → (page : ℕ) → page < 2 ^ 32 → (x : Row) → HasRow (width_of s) rows x → shard_key c o page ≡ row_key x
      → (es : List Extent) × HasShard (width_of s) rows c o page es
  shard_row coll name page lt x has e =
      let is = under_shard (width_of s) c o page x coll name lt has.fits e in
      (is.0, subst (HasRow (width_of s) rows) is.1 has)

  pub shard_under : IsCollName c → IsName o → (page : ℕ) → page < 2 ^ 32 → HasKey rows (shard_key c o page)
      → (es : List Extent) × HasShard (width_of s) rows c o page es
  shard_under coll name page lt has = elim (finite.get rows (shard_key c o page)) as
      (λ r. finite.get rows (shard_key c o page) ≡ r → is_some r ≡ true → (es : List Extent) × HasShard (width_of s) rows c o page es) [
        | None ↦ λ p t. absurd cc
        | Some value ↦ λ p t.
            let g = good (shard_key c o page) value p in
            shard_row coll name page lt g.row
            (record { fits = g.fits; stands = ap (λ k. finite.get rows k) (sym g.key_is) ∙ p ∙ ap Some g.value_is }) g.key_is
      ] refl has

  -- one of the shards
  abbrev Among : ℕ × List Extent → List (ℕ × List Extent) → Type 0
  Among x [] = ⊥
  Among x (y ∷ ys) = (y ≡ x) ⊎ Among x ys

  among : (x : ℕ × List Extent) (xs : List (ℕ × List Extent)) → Contains xs x → Among x xs
  among x xs has = by xs has.0 has.1 has.2
    where
      by : (xs : List (ℕ × List Extent)) (k : ℕ) → k < length xs → get_or xs k x ≡ x → Among x xs
      by [] k lt is = absurd (omega (arith, lt))
      by (y ∷ ys) zero lt is = inl is
      by (y ∷ ys) (suc k) lt is = inr (by ys k (omega (arith, lt)) is)

  module _ (page : ℕ) where
    page_found : (place : Place) (xs : List (ℕ × List Extent)) → AllByRecursion IsThere xs → place_of (extents_in xs) page ≡ Some place
        → IsPageAt (width_of s) rows c o page place
    page_found place [] has is = absurd cc
    page_found place (x ∷ xs) has is =
        elim (place_of x.1 page) as (λ r. place_of x.1 page ≡ r → IsPageAt (width_of s) rows c o page place) [
          | None ↦ λ p. page_found place xs has.1 (sym (found_right x.1 (extents_in xs) page p) ∙ is)
          | Some q ↦ λ p. record {
            first = x.0;
            extents = x.1;
            has_shard = has.0;
            has_page = p ∙ sym (found_left x.1 (extents_in xs) page q p) ∙ is;
          }
        ] refl

    not_none : (x : ℕ × List Extent) (place : Place) → place_of x.1 page ≡ Some place → (xs : List (ℕ × List Extent)) → Among x xs
        → place_of (extents_in xs) page ≡ None → ⊥
    not_none x place is [] in_it none = in_it
    not_none x place is (y ∷ ys) in_it none = elim in_it [
      | inl e ↦ let t = sym (found_left y.1 (extents_in ys) page place (ap (λ z. place_of z.1 page) e ∙ is)) ∙ none in cc
      | inr later ↦ elim (place_of y.1 page) as (λ r. place_of y.1 page ≡ r → ⊥) [
        | None ↦ λ p. not_none x place is ys later (sym (found_right y.1 (extents_in ys) page p) ∙ none)
        | Some q ↦ λ p. let t = sym (found_left y.1 (extents_in ys) page q p) ∙ none in cc
      ] refl
    ]

  module _ (shards : List (ℕ × List Extent)) (are : AreShardsOf (width_of s) rows c o shards) where
    pub by_shards_ascend : ExtentsAscend (extents_in shards)
    by_shards_ascend = shards_ascend shards are.there are.rise

    pub by_shards_within : (size : ℕ) → HasOnode rows c o size → AllByRecursion (λ e. page_end e ≤ pages_of size) (extents_in shards)
    by_shards_within size has =
        all_extents (width_of s) rows c o (λ e. page_end e ≤ pages_of size) (λ x h. (shard_in x h).within size has) shards are.there

    pub by_shards_on_data : AllByRecursion (λ e. IsOnData s e.body) (extents_in shards)
    by_shards_on_data = all_extents (width_of s) rows c o (λ e. IsOnData s e.body) (λ x h. (shard_in x h).on_data) shards are.there

    -- their numbers fit
    pub by_shards_numbers : (size : ℕ) → HasOnode rows c o size → s.units ≤ 2 ^ 32 → AllByRecursion HasNumbers (extents_in shards)
    by_shards_numbers size has most =
        let few : pages_of size ≤ 2 ^ 32 = omega (arith, (in_place s rows (onode c o size) good has).1) in
        both_all (λ e. page_end e ≤ pages_of size) (λ e. AreNumbered e.body) HasNumbers
        (λ e le places. record { pages = omega (arith, le, few); places = places })
        (extents_in shards) (by_shards_within size has)
        (all_extents (width_of s) rows c o (λ e. AreNumbered e.body) (λ x h. shard_numbered most x h) shards are.there)

    pub by_shards_pages : (page : ℕ) (place : Place) → (place_of (extents_in shards) page ≡ Some place) ↔ IsPageAt (width_of s) rows c o page place
    by_shards_pages page place = (
      page_found page place shards are.there,
      λ is.
          elim (place_of (extents_in shards) page) as (λ r. place_of (extents_in shards) page ≡ r → r ≡ Some place) [
            | None ↦ λ p. absurd
                (not_none page (is.first, is.extents) place is.has_page shards (among (is.first, is.extents) shards (are.all is.first is.extents is.has_shard)) p)
            | Some q ↦ λ p. ap Some (one_place s rows good c o page q place (page_found page q shards are.there p) is)
          ] refl,
    )

    first_among : (x : ℕ × List Extent) (xs : List (ℕ × List Extent)) → Among x xs → Contains (map (λ y. y.0) xs) x.0
    first_among x [] is = absurd is
    first_among x (y ∷ ys) is = elim is [
      | inl e ↦ (0, omega arith, ap (λ z. z.0) e)
      | inr later ↦ let k = first_among x ys later in (suc k.0, omega (arith, k.1), k.2)
    ]

    firsts_below : (xs : List (ℕ × List Extent)) → AllByRecursion IsThere xs → AllByRecursion (λ page. page < 2 ^ 32) (map (λ y. y.0) xs)
    firsts_below [] has = tt
    firsts_below (x ∷ xs) has = (has.0.fits.page_below, firsts_below xs has.1)

    pub by_shards_present : IsCollName c → IsName o → AreShards rows c o (map (λ x. x.0) shards)
    by_shards_present coll name = record {
      below = firsts_below shards are.there;
      all = λ page lt has.
          let found = shard_under coll name page lt has in
          first_among (page, found.0) shards (among (page, found.0) shards (are.all page found.0 found.1));
    }

-- where the shards rise, their first pages do
pub first_pages_climb : (shards : List (ℕ × List Extent)) → ShardsAscend shards → Ascends (map (λ x. x.0) shards)
first_pages_climb [] rise = tt
first_pages_climb (x ∷ xs) rise = (later xs rise.0, first_pages_climb xs rise.1)
  where
    later : (xs : List (ℕ × List Extent)) → AllByRecursion (λ y. x.0 < y.0) xs → AllByRecursion (λ page. x.0 < page) (map (λ y. y.0) xs)
    later [] all = tt
    later (y ∷ ys) all = (all.0, later ys all.1)
