-- Whether an object's pages stand where they stood.
use Rattle.std.proofs.Common.{◌≡◌, inl, inr, ℕ, Bool, true, false, cond, not, List, [], ◌∷◌, length, map, Contains, Option, Some, None, refl, sym, ap, ◌∙◌, arith}
use Rattle.std.specs.Prelude.{◌==◌, ◌||◌, ◌&&◌, ◌+◌, ◌-◌, ◌<◌, nat_le, nat_lt, slice_index}
use Rattle.std.specs.List.{AllByRecursion}
use Rattle.std.specs.Option.{option_map, option_map_or}
use Rattle.std.specs.Ordering.{nat_cmp, is_eq}
use Rattle.std.specs.FinMap as finite
use Rattle.std.specs.FinMap.{find, entries, get-entries, len-entries}
use Rattle.std.proofs.lemmas.Bool.{cases_Bool, or_parts}
use Rattle.std.proofs.lemmas.Bool.Decides.{nat_tests}
use Rattle.crc32c_csum.specs.Prelude.{crc32c}
use Rattle.number_map.specs.NumberMap.{NumberMap}
use Rattle.number_map.proofs.Search.{cmp_equal}
use Rattle.row_format.specs.Prelude.{Extent, Place, own, place_in, place_of, page_count, page_end}
use Rattle.blob_map.specs.Prelude.{PageMap, with_pages, extents_of}
use Rattle.blob_map.proofs.Forms.{extents_places}
use Rattle.extent_shards.specs.Prelude.{first_of}
use Rattle.extent_shards.proofs.Openings.{HasExtent, HasPages, all_have_pages}
use Rattle.plan_drafts.specs.declared.draft.Draft.{Draft}
use Rattle.plan_drafts.specs.Prelude.{Held, Layout, or_empty, or_new, draft_of, place_put, laid}
use Rattle.object_rows.proofs.GoodPages.{all_map}
use Rattle.plan_proofs.proofs.Laid.{laid_get, laid_put}
use Rattle.txn_planner.specs.Laying.{is_moved, PutsBelow}
use Rattle.txn_planner.specs.Touching.{HasLeft}
use Rattle.txn_planner.proofs.Between.{at_index}

-- ---- tests

pub turned_true : (b : Bool) → not b ≡ true → b ≡ false
turned_true true e = absurd cc
turned_true false e = refl

pub turned_false : (b : Bool) → not b ≡ false → b ≡ true
turned_false true e = refl
turned_false false e = absurd cc

pub tested : (a b : ℕ) → (a == b) ≡ true → a ≡ b
tested a b is = grind (arith, nat_tests)

not_tested : (a b : ℕ) → (a == b) ≡ false → a ≡ b → ⊥
not_tested a b is e = grind (arith, nat_tests)

-- ---- entries

no_entries : (m : NumberMap ℕ) → finite.len m ≡ 0 → entries m ≡ []
no_entries m none = by (entries m) (sym (len-entries m) ∙ none)
  where
    by : (es : List (ℕ × ℕ)) → length es ≡ 0 → es ≡ []
    by [] e = refl
    by (x ∷ es) e = absurd (omega (arith, e))

found_first : {X : Type 0} (x : ℕ × X) (es : List (ℕ × X)) → find nat_cmp x.0 (x ∷ es) ≡ Some x.1
found_first x es = ap (λ r. cond (is_eq r) (Some x.1) (find nat_cmp x.0 es)) (cmp_equal x.0 x.0 refl)

-- a page that was put
record Put (m : NumberMap ℕ) : Type 0 where
  page : ℕ
  taking : ℕ
  put : finite.get m page ≡ Some taking

some_put : (m : NumberMap ℕ) → (finite.len m == 0) ≡ false → Put m
some_put m some = by (entries m) refl
  where
    by : (es : List (ℕ × ℕ)) → entries m ≡ es → Put m
    by [] e = absurd (not_tested (finite.len m) 0 some (len-entries m ∙ ap length e))
    by (x ∷ es) e = record { page = x.0; taking = x.1; put = get-entries m x.0 ∙ ap (find nat_cmp x.0) e ∙ found_first x es }

-- ---- the pages where extents begin

abbrev either_place : Extent → List Extent → ℕ → Bool → Option Place
either_place e es page b = cond b (Some (place_in e.body (page - e.first))) (place_of es page)

-- the extents have a page, in some place
abbrev HasIt : List Extent → Extent → Type 0
HasIt all e = (place : Place) × (place_of all e.first ≡ Some place)

le_itself : (n : ℕ) → nat_le n n ≡ true
le_itself n = grind (arith, nat_tests)

lt_more : (n k : ℕ) → 0 < k → nat_lt n (n + k) ≡ true
lt_more n k some = grind (arith, nat_tests)

both_true : (a b : Bool) → a ≡ true → b ≡ true → (a && b) ≡ true
both_true true b p q = q
both_true false b p q = p

begins_here : (e : Extent) (es : List Extent) → HasPages e → HasIt (e ∷ es) e
begins_here e es some = (
  place_in e.body (e.first - e.first),
  ap (either_place e es e.first)
      (both_true (nat_le e.first e.first) (nat_lt e.first (page_end e)) (le_itself e.first) (lt_more e.first (page_count e.body) some)),
)

begins_behind : (e f : Extent) (es : List Extent) → HasIt es f → HasIt (e ∷ es) f
begins_behind e f es has = elim (cases_Bool (nat_le e.first f.first && nat_lt f.first (page_end e))) [
  | inl here ↦ (place_in e.body (f.first - e.first), ap (either_place e es f.first) here)
  | inr not ↦ (has.0, ap (either_place e es f.first) not ∙ has.1)
]

all_begin : (es : List Extent) → AllByRecursion HasPages es → AllByRecursion (HasIt es) es
all_begin [] pages = tt
all_begin (e ∷ es) pages = (
  begins_here e es pages.0,
  all_map (HasIt es) (HasIt (e ∷ es)) (λ f has. begins_behind e f es has) es (all_begin es pages.1),
)

-- a page of a map
abbrev pub Stands : PageMap → Extent → Type 0
Stands pages e = (place : Place) × (finite.get pages e.first ≡ Some place)

pub firsts_stand : (pages : PageMap) → AllByRecursion (Stands pages) (extents_of (entries pages))
firsts_stand pages = all_map (HasIt (extents_of (entries pages))) (Stands pages)
    (λ e has. (has.0, sym (extents_places pages e.first) ∙ has.1)) (extents_of (entries pages))
    (all_begin (extents_of (entries pages)) (all_have_pages (entries pages)))

pub begins_found : (pages : PageMap) (es : List Extent) → HasExtent es → AllByRecursion (Stands pages) es
    → (place : Place) × (finite.get pages (first_of es) ≡ Some place)
begins_found pages [] has all = absurd has
begins_found pages (e ∷ es) has all = all.0

-- ---- layouts

module _ (units : List ℕ) (held : Held) where
  abbrev with_puts : Draft → List (ℕ × ℕ) → Layout
  with_puts x es = record { size = x.size; pages = with_pages x.kept (map (λ p. (p.0, place_put units held p.1)) es) }

  -- where nothing was put all pages stand where they stood
  laid_as : (x : Draft) → finite.len x.puts ≡ 0 → laid units held x ≡ with_puts x []
  laid_as x none = ap (with_puts x) (no_entries x.puts none)

  -- one that no operation has looked at
  pub laid_again : (layout : Option Layout) → layout ≡ option_map (laid units held) (option_map draft_of layout)
  laid_again None = refl
  laid_again (Some l) = ap Some (sym (laid_as (draft_of l) (finite.len-empty nat_cmp ℕ)))

  abbrev pub pages_laid : Option Draft → PageMap
  pages_laid now = (or_empty (option_map (laid units held) now)).pages

  -- one whose pages all stand where they stood
  pub same_pages : (layout : Option Layout) (left : Bool) (now : Option Draft) → (left ≡ false → (or_new now).kept ≡ (or_empty layout).pages)
      → is_moved left now ≡ false → (or_empty layout).pages ≡ pages_laid now
  same_pages layout left None kept is = sym (kept is)
  same_pages layout left (Some x) kept is =
      let both = or_parts left (not (finite.len x.puts == 0)) is in
      let none : finite.len x.puts ≡ 0 = tested (finite.len x.puts) 0 (turned_false (finite.len x.puts == 0) both.1) in
      sym (kept both.0) ∙ sym (ap (λ (z : Layout). z.pages) (laid_as x none))

  -- One of which a page has moved. No page of the object stood on one of the units.
  module _ (layout : Option Layout)
      (new : (page unit csum : ℕ) → finite.get (or_empty layout).pages page ≡ Some (own unit csum) → Contains units unit → ⊥) where
    put_elsewhere : (x : Draft) → (or_empty layout).pages ≡ pages_laid (Some x) → PutsBelow (length units) (Some x)
        → (page taking : ℕ) → finite.get x.puts page ≡ Some taking → ⊥
    put_elsewhere x e below page taking put =
        new page (slice_index units taking) (crc32c (held taking))
        (ap (λ (m : PageMap). finite.get m page) e ∙ laid_put units held x page taking put)
        ((at_index units (slice_index units taking)).1 (taking, below x page taking refl put, refl))

    left_elsewhere : (x : Draft) → (or_empty layout).pages ≡ pages_laid (Some x) → PutsBelow (length units) (Some x)
        → HasLeft layout (Some x) → ⊥
    left_elsewhere x e below gone = by (finite.get x.puts gone.page) refl
      where
        by : (z : Option ℕ) → finite.get x.puts gone.page ≡ z → ⊥
        by None p =
            let t : Some gone.place ≡ None = sym gone.stood ∙ ap (λ (m : PageMap). finite.get m gone.page) e ∙ laid_get units held x gone.page
            ∙ ap (λ z. option_map_or (λ t. Some (place_put units held t)) z (finite.get x.kept gone.page)) p ∙ gone.left in
            absurd cc
        by (Some taking) p = put_elsewhere x e below gone.page taking p

    pub other_pages : (left : Bool) (now : Option Draft) → (left ≡ true → HasLeft layout now) → PutsBelow (length units) now
        → is_moved left now ≡ true → (or_empty layout).pages ≡ pages_laid now → ⊥
    other_pages left None gone below is e =
        let was = gone is in
        let t : Some was.place ≡ None = sym was.stood ∙ ap (λ (m : PageMap). finite.get m was.page) e ∙ finite.get-empty nat_cmp was.page in
        absurd cc
    other_pages left (Some x) gone below is e = elim (cases_Bool left) [
      | inl some ↦ left_elsewhere x e below (gone some)
      | inr none ↦
          let some : not (finite.len x.puts == 0) ≡ true = sym (ap (λ b. b || not (finite.len x.puts == 0)) none) ∙ is in
          let put = some_put x.puts (turned_true (finite.len x.puts == 0) some) in
          put_elsewhere x e below put.page put.taking put.put
    ]
