-- An object's shards after its map is cut anew: which there are, where its pages stand, and that each is in its place.
use Rattle.std.proofs.Common.{◌≡◌, ◌↔◌, inl, inr, ℕ, ◌-◌, ◌<◌, ◌≤◌, ◌^◌, Bool, true, false, cond, List, [], ◌∷◌, ◌++◌, Option, Some, None, refl, sym, ap, subst, ◌∙◌, arith}
use Rattle.std.specs.Prelude.{nat_le, nat_lt, ◌&&◌}
use Rattle.std.specs.Option.{option_map}
use Rattle.std.specs.List.{AllByRecursion}
use Rattle.std.specs.FinMap as finite
use Rattle.std.proofs.lemmas.Bool.{cases_Bool, ltb-true, leb-true}
use Rattle.std.proofs.lemmas.Bool.Decides.{nat_tests}
use Rattle.meta_rows.specs.Prelude.{Rows}
use Rattle.meta_log.specs.declared.slot.Super.{Super}
use Rattle.meta_log.specs.Prelude.{width_of}
use Rattle.unit_fields.specs.Prelude.{IsName, IsCollName}
use Rattle.unit_fields.specs.declared.width.Width.{Width}
use Rattle.row_format.specs.Prelude.{coll_key, onode_key, Extent, FitsExtent, BeginsAt, ExtentsAscend, Place, place_in, place_of, page_count, page_end, shard, row_value}
use Rattle.row_format.proofs.Prelude.{same_row}
use Rattle.store_image.specs.Prelude.{HasKey, HasOnode, HasShard, IsPageAt, pages_of, IsOnData, HasSlots, IsShardInPlace}
use Rattle.blob_map.specs.Prelude.{PageMap, extents_of}
use Rattle.blob_map.proofs.Forms.{extents_places, extents_ascend, ascend_behind}
use Rattle.extent_shards.specs.Prelude.{shard_bytes, shards_of, shard_limit, first_of, shard_at, joined_extents}
use Rattle.extent_shards.proofs.Joins.{shards_back}
use Rattle.extent_shards.proofs.Openings.{all_behind, HasExtent, all_full, IsOneOf, each_is, part_all, part_ascends, at_is_one, one_is_at, earlier_ends, of_map_rise}
use Rattle.plan_drafts.specs.Prelude.{AreCut}
use Rattle.plan_proofs.proofs.Lengths.{has_page}
use Rattle.object_rows.proofs.Shards.{found_left, found_right}

-- ---- pages of extents

-- whether an extent has the page
abbrev pub has_it : Extent → ℕ → Bool
has_it e page = nat_le e.first page && nat_lt page (page_end e)

abbrev pub either_place : Extent → List Extent → ℕ → Bool → Option Place
either_place e es page b = cond b (Some (place_in e.body (page - e.first))) (place_of es page)

both_first : (a b : Bool) → (a && b) ≡ true → a ≡ true
both_first true b is = refl
both_first false b is = is

both_second : (a b : Bool) → (a && b) ≡ true → b ≡ true
both_second true b is = is
both_second false b is = cc

both_true : (a b : Bool) → a ≡ true → b ≡ true → (a && b) ≡ true
both_true true b p q = q
both_true false b p q = p

le_true : (a b : ℕ) → a ≤ b → nat_le a b ≡ true
le_true a b le = grind (arith, nat_tests)

lt_true : (a b : ℕ) → a < b → nat_lt a b ≡ true
lt_true a b lt = grind (arith, nat_tests)

-- the first page and the last
pub has_first : (e : Extent) → 0 < page_count e.body → has_it e e.first ≡ true
has_first e some = both_true (nat_le e.first e.first) (nat_lt e.first (page_end e)) (le_true e.first e.first (omega arith))
    (lt_true e.first (page_end e) (omega (arith, some)))

pub has_last : (e : Extent) → 0 < page_count e.body → has_it e (page_end e - 1) ≡ true
has_last e some = both_true (nat_le e.first (page_end e - 1)) (nat_lt (page_end e - 1) (page_end e)) (le_true e.first (page_end e - 1) (omega (arith, some)))
    (lt_true (page_end e - 1) (page_end e) (omega (arith, some)))

-- a page of extents is one with another extent before them
behind_one : (e : Extent) (es : List Extent) (page : ℕ) (place : Place) → place_of es page ≡ Some place
    → (other : Place) × (place_of (e ∷ es) page ≡ Some other)
behind_one e es page place is = elim (cases_Bool (has_it e page)) [
  | inl here ↦ (place_in e.body (page - e.first), ap (either_place e es page) here)
  | inr not ↦ (place, ap (either_place e es page) not ∙ is)
]

-- where each of their pages is below a limit, all end by it
pub ends_within : (w : Width) (es : List Extent) (limit : ℕ) → AllByRecursion (FitsExtent w) es
    → ((page : ℕ) (place : Place) → place_of es page ≡ Some place → page < limit) → AllByRecursion (λ e. page_end e ≤ limit) es
ends_within w [] limit fit each = tt
ends_within w (e ∷ es) limit fit each =
    let some = has_page w e.body fit.0.body in
    let last = each (page_end e - 1) (place_in e.body (page_end e - 1 - e.first)) (ap (either_place e es (page_end e - 1)) (has_last e some)) in (
      omega (arith, last, some),
      ends_within w es limit fit.1 (λ page place is. let other = behind_one e es page place is in each page other.0 other.1),
    )

-- those that begin have a page
pub some_page : (w : Width) (es : List Extent) (page : ℕ) → BeginsAt page es → AllByRecursion (FitsExtent w) es → (place : Place) × (place_of es page ≡ Some place)
some_page w [] page begins fit = absurd begins
some_page w (e ∷ es) page begins fit =
    (place_in e.body (page - e.first), ap (either_place e es page) (subst (λ n. has_it e n ≡ true) begins (has_first e (has_page w e.body fit.0.body))))

-- behind some page
pub page_from : (n : ℕ) (es : List Extent) (page : ℕ) (place : Place) → AllByRecursion (λ e. n ≤ e.first) es → place_of es page ≡ Some place → n ≤ page
page_from n [] page place from is = absurd cc
page_from n (e ∷ es) page place from is = elim (cases_Bool (has_it e page)) [
  | inl here ↦ omega (arith, from.0, leb-true e.first page (both_first (nat_le e.first page) (nat_lt page (page_end e)) here))
  | inr not ↦ page_from n es page place from.1 (sym (ap (either_place e es page) not) ∙ is)
]

-- an extent has no page behind its end
pub before_it : (e : Extent) (page : ℕ) → page_end e ≤ page → has_it e page ≡ false
before_it e page le = elim (cases_Bool (has_it e page)) [
  | inr not ↦ not
  | inl here ↦ absurd (omega (arith, le, ltb-true page (page_end e) (both_second (nat_le e.first page) (nat_lt page (page_end e)) here)))
]

none_before : (xs ys : List Extent) (page : ℕ) (place : Place) → ExtentsAscend (xs ++ ys) → place_of ys page ≡ Some place → place_of xs page ≡ None
none_before [] ys page place ascend is = refl
none_before (x ∷ xs) ys page place ascend is = elim (cases_Bool (has_it x page)) [
  | inl here ↦
      let from = page_from (page_end x) ys page place (all_behind (λ e. page_end x ≤ e.first) xs ys ascend.0) is in
      absurd (omega (arith, from, ltb-true page (page_end x) (both_second (nat_le x.first page) (nat_lt page (page_end x)) here)))
  | inr not ↦ ap (either_place x xs page) not ∙ none_before xs ys page place ascend.1 is
]

-- ---- pages of shards

-- a page of one of the shards is a page of all their extents, in the same place
part_found : (shards : List (List Extent)) (page : ℕ) (place : Place) → ExtentsAscend (joined_extents shards) → (es : List Extent) → IsOneOf shards es
    → place_of es page ≡ Some place → place_of (joined_extents shards) page ≡ Some place
part_found [] page place ascend es one is = absurd one
part_found (s ∷ shards) page place ascend es (inl e) is =
    found_left s (joined_extents shards) page place (ap (λ z. place_of z page) e ∙ is)
part_found (s ∷ shards) page place ascend es (inr later) is =
    let behind = part_found shards page place (ascend_behind s (joined_extents shards) ascend) es later is in
    found_right s (joined_extents shards) page (none_before s (joined_extents shards) page place ascend behind) ∙ behind

-- and each of these is one of a shard
record IsOfOne (shards : List (List Extent)) (page : ℕ) (place : Place) : Type 0 where
  part : List Extent
  one : IsOneOf shards part
  is : place_of part page ≡ Some place

found_part : (shards : List (List Extent)) (page : ℕ) (place : Place) → place_of (joined_extents shards) page ≡ Some place → IsOfOne shards page place
found_part [] page place is = absurd cc
found_part (s ∷ shards) page place is = elim (place_of s page) as (λ r. place_of s page ≡ r → IsOfOne (s ∷ shards) page place) [
  | None ↦ λ p. let later = found_part shards page place (sym (found_right s (joined_extents shards) page p) ∙ is) in
      record { part = later.part; one = inr later.one; is = later.is }
  | Some q ↦ λ p. record { part = s; one = inl refl; is = p ∙ sym (found_left s (joined_extents shards) page q p) ∙ is }
] refl

begins_first : (page : ℕ) (es : List Extent) → BeginsAt (first_of es) es → first_of es ≡ page → BeginsAt page es
begins_first page es begins is = subst (λ n. BeginsAt n es) is begins

first_fits : (w : Width) (es : List Extent) → BeginsAt (first_of es) es → AllByRecursion (FitsExtent w) es → first_of es < 2 ^ 32
first_fits w [] begins fit = absurd begins
first_fits w (e ∷ es) begins fit = fit.0.first

-- ---- the rows of an object

module _ (s : Super) (after : Rows) (c o : List ℕ) (pages : PageMap) (coll : IsCollName c) (name : IsName o)
    (fit : AllByRecursion (FitsExtent (width_of s)) (extents_of (finite.entries pages))) (cut : AreCut (width_of s) after c o pages) where
  abbrev extents : List Extent
  extents = extents_of (finite.entries pages)

  abbrev shards : List (List Extent)
  shards = shards_of (width_of s) (Some shard_limit) extents

  all_back : joined_extents shards ≡ extents
  all_back = shards_back (width_of s) (Some shard_limit) extents

  ascend_all : ExtentsAscend (joined_extents shards)
  ascend_all = subst ExtentsAscend (sym all_back) (extents_ascend pages)

  of_part : (P : Extent → Type 0) → AllByRecursion P extents → (es : List Extent) → IsOneOf shards es → AllByRecursion P es
  of_part P all es one = part_all P shards (subst (AllByRecursion P) (sym all_back) all) es one

  begins : (es : List Extent) → IsOneOf shards es → BeginsAt (first_of es) es
  begins es one = each_is HasExtent shards (all_full (width_of s) (Some shard_limit) extents) es one

  pub has_shard : (page : ℕ) → page < 2 ^ 32 → (es : List Extent) → shard_at shards page ≡ Some es → HasShard (width_of s) after c o page es
  has_shard page lt es at =
      let one = at_is_one shards page es at in
      record {
        fits = record {
          coll_name = coll;
          object_name = name;
          page_below = lt;
          begins = begins_first page es (begins es one.0) one.1;
          fit = of_part (FitsExtent (width_of s)) fit es one.0;
        };
        stands = cut page lt ∙ ap (option_map (shard_bytes (width_of s))) at;
      }

  pub own_shard : (page : ℕ) (es : List Extent) → HasShard (width_of s) after c o page es → shard_at shards page ≡ Some es
  own_shard page es has = by (shard_at shards page) refl
    where
      by : (z : Option (List Extent)) → shard_at shards page ≡ z → z ≡ Some es
      by None p = absurd (let t = sym has.stands ∙ cut page has.fits.page_below ∙ ap (option_map (shard_bytes (width_of s))) p in cc)
      by (Some x) p =
          let own = has_shard page has.fits.page_below x p in
          let value : Some (row_value (width_of s) (shard c o page es)) ≡ Some (row_value (width_of s) (shard c o page x)) = sym has.stands ∙ own.stands in
          let same : shard c o page es ≡ shard c o page x =
          same_row (width_of s) (shard c o page es) (shard c o page x) has.fits own.fits refl cc in cc

  -- ---- where pages stand

  module _ (page : ℕ) (place : Place) where
    own_was : IsPageAt (width_of s) after c o page place → finite.get pages page ≡ Some place
    own_was is =
        let one = at_is_one shards is.first is.extents (own_shard is.first is.extents is.has_shard) in
        sym (extents_places pages page) ∙ ap (λ es. place_of es page) (sym all_back)
        ∙ part_found shards page place ascend_all is.extents one.0 is.has_page

    own_is : finite.get pages page ≡ Some place → IsPageAt (width_of s) after c o page place
    own_is is =
        let found = found_part shards page place (ap (λ es. place_of es page) all_back ∙ extents_places pages page ∙ is) in
        record {
          first = first_of found.part;
          extents = found.part;
          has_shard = has_shard (first_of found.part)
              (first_fits (width_of s) found.part (begins found.part found.one) (of_part (FitsExtent (width_of s)) fit found.part found.one))
              found.part (one_is_at shards (of_map_rise (width_of s) (Some shard_limit) pages) found.part found.one);
          has_page = found.is;
        }

    pub own_pages : (finite.get pages page ≡ Some place) ↔ IsPageAt (width_of s) after c o page place
    own_pages = (own_is, own_was)

  -- ---- in their places

  pub cut_ascend : (page : ℕ) (es : List Extent) → HasShard (width_of s) after c o page es → ExtentsAscend es
  cut_ascend page es has = part_ascends shards ascend_all es (at_is_one shards page es (own_shard page es has)).0

  pub new_in_place : HasKey after (coll_key c) → HasKey after (onode_key c o)
      → ((size : ℕ) → HasOnode after c o size → AllByRecursion (λ e. page_end e ≤ pages_of size) extents)
      → AllByRecursion (λ e. IsOnData s e.body) extents → (page : ℕ) (es : List Extent) → HasShard (width_of s) after c o page es
      → AllByRecursion (λ e. HasSlots (width_of s) after c e.body) es → IsShardInPlace s after c o page es
  new_in_place coll_there onode_there within on_data page es has slots =
      let one = at_is_one shards page es (own_shard page es has) in
      record {
        has_collection = coll_there;
        has_onode = onode_there;
        ascend = cut_ascend page es has;
        behind = λ earlier fs below h.
            let other = at_is_one shards earlier fs (own_shard earlier fs h) in
            subst (λ n. AllByRecursion (λ e. page_end e ≤ n) fs) one.1
            (earlier_ends shards (of_map_rise (width_of s) (Some shard_limit) pages) fs es other.0 one.0 (omega (arith, other.1, one.1, below)));
        within = λ size h. of_part (λ e. page_end e ≤ pages_of size) (within size h) es one.0;
        on_data = of_part (λ e. IsOnData s e.body) on_data es one.0;
        slots = slots;
      }
