-- Shards by the pages where they begin, and what each has of the extents of all.
use Rattle.std.proofs.Common.{◌≡◌, ◌⊎◌, inl, inr, ℕ, ◌<◌, ◌≤◌, Bool, true, false, cond, List, [], ◌∷◌, ◌++◌, length, Option, Some, refl, sym, ap, subst, ◌∙◌, arith}
use Rattle.std.specs.Prelude.{◌==◌}
use Rattle.std.specs.List.{AllByRecursion}
use Rattle.std.specs.FinMap as finite
use Rattle.std.proofs.lemmas.Bool.{cases_Bool}
use Rattle.std.proofs.lemmas.Bool.Decides.{nat_tests}
use Rattle.unit_fields.specs.declared.width.Width.{Width}
use Rattle.row_format.specs.Prelude.{Extent, BeginsAt, ExtentsAscend, page_count, page_end, Place, own, slot}
use Rattle.blob_map.specs.Prelude.{PageMap, alone, single, follows, more, extents_from, extents_of}
use Rattle.blob_map.proofs.Forms.{extents_ascend, ascend_behind}
use Rattle.blob_map.proofs.Back.{longer_by_one}
use Rattle.extent_shards.specs.Prelude.{shard_bytes, is_within, shards_from, shards_of, first_of, shard_at, joined_extents}
use Rattle.extent_shards.proofs.Joins.{shards_back}

-- ---- lists

pub all_append : {X : Type 0} (P : X → Type 0) (xs ys : List X) → AllByRecursion P xs → AllByRecursion P ys → AllByRecursion P (xs ++ ys)
all_append P [] ys p q = q
all_append P (x ∷ xs) ys p q = (p.0, all_append P xs ys p.1 q)

pub all_front : {X : Type 0} (P : X → Type 0) (xs ys : List X) → AllByRecursion P (xs ++ ys) → AllByRecursion P xs
all_front P [] ys all = tt
all_front P (x ∷ xs) ys all = (all.0, all_front P xs ys all.1)

pub all_behind : {X : Type 0} (P : X → Type 0) (xs ys : List X) → AllByRecursion P (xs ++ ys) → AllByRecursion P ys
all_behind P [] ys all = all
all_behind P (x ∷ xs) ys all = all_behind P xs ys all.1

pub ascend_front : (xs ys : List Extent) → ExtentsAscend (xs ++ ys) → ExtentsAscend xs
ascend_front [] ys is = tt
ascend_front (x ∷ xs) ys is = (all_front (λ later. page_end x ≤ later.first) xs ys is.0, ascend_front xs ys is.1)

-- ---- each has an extent

abbrev pub HasExtent : List Extent → Type 0
HasExtent shard = BeginsAt (first_of shard) shard

pub has_extent : (e : Extent) (es : List Extent) → HasExtent (e ∷ es)
has_extent e es = refl

with_one_more : (shard : List Extent) (e : Extent) → HasExtent (shard ++ e ∷ [])
with_one_more [] e = refl
with_one_more (x ∷ xs) e = refl

either_way : {X : Type 0} (P : X → Type 0) (b : Bool) (x y : X) → P x → P y → P (cond b x y)
either_way P true x y p q = p
either_way P false x y p q = q

module _ (w : Width) (bound : Option ℕ) where
  from_full : (es shard : List Extent) → HasExtent shard → AllByRecursion HasExtent (shards_from w bound shard es)
  from_full [] shard has = (has, tt)
  from_full (e ∷ es) shard has = either_way (AllByRecursion HasExtent) (is_within bound (length (shard_bytes w (shard ++ e ∷ []))))
      (shards_from w bound (shard ++ e ∷ []) es) (shard ∷ shards_from w bound (e ∷ []) es)
      (from_full es (shard ++ e ∷ []) (with_one_more shard e)) (has, from_full es (e ∷ []) refl)

  pub all_full : (es : List Extent) → AllByRecursion HasExtent (shards_of w bound es)
  all_full [] = tt
  all_full (e ∷ es) = from_full es (e ∷ []) refl

-- ---- each extent has a page

abbrev pub HasPages : Extent → Type 0
HasPages e = 0 < page_count e.body

one_page : (place : Place) → 0 < page_count (alone place)
one_page (own unit csum) = omega arith
one_page (slot sbid index) = omega arith

pages_from : (ps : List (ℕ × Place)) (e : Extent) → HasPages e → AllByRecursion HasPages (extents_from e ps)
pages_from [] e has = (has, tt)
pages_from (p ∷ ps) e has = either_way (AllByRecursion HasPages) (follows e p) (extents_from (more e p) ps) (e ∷ extents_from (single p) ps)
    (pages_from ps (more e p) (omega (arith, has, longer_by_one e.body p.1))) (has, pages_from ps (single p) (one_page p.1))

pub all_have_pages : (ps : List (ℕ × Place)) → AllByRecursion HasPages (extents_of ps)
all_have_pages [] = tt
all_have_pages (p ∷ ps) = pages_from ps (single p) (one_page p.1)

-- ---- one of the shards

abbrev pub IsOneOf : List (List Extent) → List Extent → Type 0
IsOneOf [] shard = ⊥
IsOneOf (s ∷ shards) shard = (s ≡ shard) ⊎ IsOneOf shards shard

pub each_is : (P : List Extent → Type 0) (shards : List (List Extent)) → AllByRecursion P shards → (shard : List Extent) → IsOneOf shards shard → P shard
each_is P [] all shard is = absurd is
each_is P (s ∷ shards) all shard (inl e) = subst P e all.0
each_is P (s ∷ shards) all shard (inr later) = each_is P shards all.1 shard later

-- what all extents are those of a shard are
pub part_all : (P : Extent → Type 0) (shards : List (List Extent)) → AllByRecursion P (joined_extents shards) → (shard : List Extent) → IsOneOf shards shard
    → AllByRecursion P shard
part_all P [] all shard is = absurd is
part_all P (s ∷ shards) all shard (inl e) = subst (AllByRecursion P) e (all_front P s (joined_extents shards) all)
part_all P (s ∷ shards) all shard (inr later) = part_all P shards (all_behind P s (joined_extents shards) all) shard later

pub part_ascends : (shards : List (List Extent)) → ExtentsAscend (joined_extents shards) → (shard : List Extent) → IsOneOf shards shard → ExtentsAscend shard
part_ascends [] ascend shard is = absurd is
part_ascends (s ∷ shards) ascend shard (inl e) = subst ExtentsAscend e (ascend_front s (joined_extents shards) ascend)
part_ascends (s ∷ shards) ascend shard (inr later) = part_ascends shards (ascend_behind s (joined_extents shards) ascend) shard later

-- ---- they rise

tested : (a b : ℕ) → (a == b) ≡ true → a ≡ b
tested a b is = grind (arith, nat_tests)

pub test_same : (a : ℕ) → (a == a) ≡ true
test_same a = grind (arith, nat_tests)

test_apart : (a b : ℕ) → a < b → (a == b) ≡ false
test_apart a b lt = grind (arith, nat_tests)

-- all extents of a shard end before each later shard begins
abbrev pub EndsBefore : List Extent → List Extent → Type 0
EndsBefore shard later = AllByRecursion (λ e. page_end e ≤ first_of later) shard

abbrev pub Rise : List (List Extent) → Type 0
Rise [] = Unit {0}
Rise (s ∷ shards) = AllByRecursion (λ later. EndsBefore s later × (first_of s < first_of later)) shards × Rise shards

-- where extents lie behind a page, each shard of them begins there
from_page : (n : ℕ) (shards : List (List Extent)) → AllByRecursion HasExtent shards → AllByRecursion (λ e. n ≤ e.first) (joined_extents shards)
    → AllByRecursion (λ shard. n ≤ first_of shard) shards
from_page n [] full all = tt
from_page n ([] ∷ shards) full all = absurd full.0
from_page n ((e ∷ es) ∷ shards) full all =
    (all.0, from_page n shards full.1 (all_behind (λ e. n ≤ e.first) es (joined_extents shards) all.1))

-- each extent of a shard ends before later shards begin
ends_before : (es : List Extent) (shards : List (List Extent)) → AllByRecursion HasExtent shards → ExtentsAscend (es ++ joined_extents shards)
    → AllByRecursion (λ later. EndsBefore es later) shards
ends_before [] shards full ascend = nothing shards
  where
    nothing : (shards : List (List Extent)) → AllByRecursion (λ later. EndsBefore [] later) shards
    nothing [] = tt
    nothing (s ∷ shards) = (tt, nothing shards)
ends_before (e ∷ es) shards full ascend =
    both shards (from_page (page_end e) shards full (all_behind (λ later. page_end e ≤ later.first) es (joined_extents shards) ascend.0))
    (ends_before es shards full ascend.1)
  where
    both : (shards : List (List Extent)) → AllByRecursion (λ later. page_end e ≤ first_of later) shards
        → AllByRecursion (λ later. EndsBefore es later) shards → AllByRecursion (λ later. EndsBefore (e ∷ es) later) shards
    both [] p q = tt
    both (s ∷ shards) p q = ((p.0, q.0), both shards p.1 q.1)

pub they_rise : (shards : List (List Extent)) → AllByRecursion HasExtent shards → AllByRecursion HasPages (joined_extents shards)
    → ExtentsAscend (joined_extents shards) → Rise shards
they_rise [] full pages ascend = tt
they_rise ([] ∷ shards) full pages ascend = absurd full.0
they_rise ((e ∷ es) ∷ shards) full pages ascend = (
  behind shards (ends_before (e ∷ es) shards full.1 ascend),
  they_rise shards full.1 (all_behind HasPages (e ∷ es) (joined_extents shards) pages) (ascend_behind (e ∷ es) (joined_extents shards) ascend),
)
  where
    behind : (shards : List (List Extent)) → AllByRecursion (λ later. EndsBefore (e ∷ es) later) shards
        → AllByRecursion (λ later. EndsBefore (e ∷ es) later × (e.first < first_of later)) shards
    behind [] all = tt
    behind (s ∷ shards) all = ((all.0, omega (arith, pages.0, all.0.0)), behind shards all.1)

-- ---- the shard at a page

abbrev either_at : List Extent → List (List Extent) → ℕ → Bool → Option (List Extent)
either_at s shards page b = cond b (Some s) (shard_at shards page)

pub at_is_one : (shards : List (List Extent)) (page : ℕ) (shard : List Extent) → shard_at shards page ≡ Some shard
    → IsOneOf shards shard × (first_of shard ≡ page)
at_is_one [] page shard is = absurd cc
at_is_one (s ∷ shards) page shard is = elim (cases_Bool (first_of s == page)) [
  | inl here ↦
      let t : Some s ≡ Some shard = sym (ap (either_at s shards page) here) ∙ is in
      let e : s ≡ shard = cc in
      (inl e, ap first_of (sym e) ∙ tested (first_of s) page here)
  | inr other ↦
      let found = at_is_one shards page shard (sym (ap (either_at s shards page) other) ∙ is) in
      (inr found.0, found.1)
]

pub one_is_at : (shards : List (List Extent)) → Rise shards → (shard : List Extent) → IsOneOf shards shard
    → shard_at shards (first_of shard) ≡ Some shard
one_is_at [] rise shard is = absurd is
one_is_at (s ∷ shards) rise shard (inl e) =
    ap (either_at s shards (first_of shard)) (ap (λ z. first_of z == first_of shard) e ∙ test_same (first_of shard)) ∙ ap Some e
one_is_at (s ∷ shards) rise shard (inr later) =
    let above = each_is (λ z. EndsBefore s z × (first_of s < first_of z)) shards rise.0 shard later in
    ap (either_at s shards (first_of shard)) (test_apart (first_of s) (first_of shard) above.1) ∙ one_is_at shards rise.1 shard later

-- an earlier one ends before a later one begins
pub earlier_ends : (shards : List (List Extent)) → Rise shards → (one other : List Extent) → IsOneOf shards one → IsOneOf shards other
    → first_of one < first_of other → EndsBefore one other
earlier_ends [] rise one other p q lt = absurd p
earlier_ends (s ∷ shards) rise one other (inl e) (inl f) lt = absurd (omega (arith, lt, ap first_of (sym e ∙ f)))
earlier_ends (s ∷ shards) rise one other (inl e) (inr q) lt =
    subst (λ z. EndsBefore z other) e (each_is (λ z. EndsBefore s z × (first_of s < first_of z)) shards rise.0 other q).0
earlier_ends (s ∷ shards) rise one other (inr p) (inl f) lt =
    let above = each_is (λ z. EndsBefore s z × (first_of s < first_of z)) shards rise.0 one p in
    absurd (omega (arith, above.1, lt, ap first_of f))
earlier_ends (s ∷ shards) rise one other (inr p) (inr q) lt = earlier_ends shards rise.1 one other p q lt

-- ---- those of a map

pub split_is_rising : (w : Width) (bound : Option ℕ) (es : List Extent) → AllByRecursion HasPages es → ExtentsAscend es → Rise (shards_of w bound es)
split_is_rising w bound es pages ascend = they_rise (shards_of w bound es) (all_full w bound es)
    (subst (AllByRecursion HasPages) (sym (shards_back w bound es)) pages) (subst ExtentsAscend (sym (shards_back w bound es)) ascend)

pub of_map_rise : (w : Width) (bound : Option ℕ) (pages : PageMap) → Rise (shards_of w bound (extents_of (finite.entries pages)))
of_map_rise w bound pages =
    split_is_rising w bound (extents_of (finite.entries pages)) (all_have_pages (finite.entries pages)) (extents_ascend pages)

all_ones : (P : List Extent → Type 0) (shards : List (List Extent)) → ((shard : List Extent) → IsOneOf shards shard → P shard) → AllByRecursion P shards
all_ones P [] each = tt
all_ones P (s ∷ shards) each = (each s (inl refl), all_ones P shards (λ shard is. each shard (inr is)))

pub split_rises : (w : Width) (bound : Option ℕ) (pages : PageMap)
    → AllByRecursion (λ shard. BeginsAt (first_of shard) shard
    × (shard_at (shards_of w bound (extents_of (finite.entries pages))) (first_of shard) ≡ Some shard))
    (shards_of w bound (extents_of (finite.entries pages)))
split_rises w bound pages =
    let shards = shards_of w bound (extents_of (finite.entries pages)) in
    all_ones (λ shard. BeginsAt (first_of shard) shard × (shard_at shards (first_of shard) ≡ Some shard)) shards
    (λ shard is. (
      each_is HasExtent shards (all_full w bound (extents_of (finite.entries pages))) shard is,
      one_is_at shards (of_map_rise w bound pages) shard is,
    ))
