-- The pages of a shard, in their order.
use Rattle.std.proofs.Common.{◌≡◌, ◌⊎◌, inl, inr, ℕ, zero, suc, ◌+◌, ◌<◌, List, [], ◌∷◌, ◌++◌, length, map, Some, refl, sym, ap, ap₂, subst, ◌∙◌, arith}
use Rattle.std.specs.Prelude.{slice_index}
use Rattle.unit_fields.specs.declared.width.Width.{Width}
use Rattle.meta_rows.specs.Prelude.{Rows}
use Rattle.row_format.specs.Prelude.{Body, private, shared, Extent, page_count, page_end, ExtentsAscend, Place, slot, place_in, place_of}
use Rattle.store_image.specs.Prelude.{PageUnit}
use Rattle.plan_rows.specs.Prelude.{page_unit}
use Rattle.ordered_lists.specs.Lists.{ListsAll}
use Rattle.ordered_lists.proofs.Joining.{lists_none, lists_one, lists_joined}
use Rattle.row_check.proofs.RunMarks.{place_cases, first_has, later_has, page_from}
use Rattle.findings.specs.Findings.{PageSum, ComesBefore}
use Rattle.fsck_check.specs.Sums.{UnitSum, sum_at, unit_sums_from, slot_sums, body_places, shard_places}

-- a page on a unit, of which nothing was found yet
abbrev pub at_page : List ℕ → List ℕ → ℕ → ℕ → ℕ → PageSum
at_page c o page unit kept = record { coll = c; object = o; page = page; unit = unit; kept = kept; found = 0 }

abbrev pub on_page : List ℕ → List ℕ → ℕ → PageUnit → PageSum
on_page c o page on = at_page c o page on.unit on.csum

abbrev pub unit_sum : PageSum → UnitSum
unit_sum p = (p.unit, p.kept)

pub map_joined : (xs ys : List PageSum) → map unit_sum (xs ++ ys) ≡ map unit_sum xs ++ map unit_sum ys
map_joined [] ys = refl
map_joined (x ∷ xs) ys = ap (λ (l : List UnitSum). unit_sum x ∷ l) (map_joined xs ys)

module _ (w : Width) (rows : Rows) (c o : List ℕ) where
  -- so many consecutive pages, the k-th one on the k-th of these units
  abbrev pub run_pages : ℕ → (ℕ → PageUnit) → ℕ → List PageSum
  run_pages page u zero = []
  run_pages page u (suc n) = on_page c o page (u 0) ∷ run_pages (page + 1) (λ k. u (suc k)) n

  -- where the pages of a body stand
  abbrev pub units_in : Body → ℕ → PageUnit
  units_in body k = page_unit w rows (place_in body k)

  abbrev pub body_pages : ℕ → Body → List PageSum
  body_pages first body = run_pages first (units_in body) (page_count body)

  abbrev pub shard_pages : List Extent → List PageSum
  shard_pages [] = []
  shard_pages (e ∷ es) = body_pages e.first e.body ++ shard_pages es

  own_run : (page unit : ℕ) (ks : List ℕ) (u : ℕ → PageUnit) → ((k : ℕ) → k < length ks → sum_at (u k) ≡ (unit + k, slice_index ks k))
      → map unit_sum (run_pages page u (length ks)) ≡ unit_sums_from unit ks
  own_run page unit [] u are = refl
  own_run page unit (k ∷ ks) u are =
      let same : unit + 0 ≡ unit = omega arith in
      let first : sum_at (u 0) ≡ (unit, k) = are 0 (omega arith) ∙ (λ i. (same i, k)) in
      ap₂ (λ (h : UnitSum) (t : List UnitSum). h ∷ t) first (own_run (page + 1) (unit + 1) ks (λ j. u (suc j)) (λ j lt.
      let next : unit + suc j ≡ (unit + 1) + j = omega arith in
      are (suc j) (omega (arith, lt)) ∙ (λ i. (next i, slice_index ks j))))

  slot_run : (page sbid index n : ℕ) (u : ℕ → PageUnit) → ((k : ℕ) → k < n → u k ≡ page_unit w rows (slot sbid (index + k)))
      → map unit_sum (run_pages page u n) ≡ slot_sums w rows sbid index n
  slot_run page sbid index zero u are = refl
  slot_run page sbid index (suc n) u are =
      let same : index + 0 ≡ index = omega arith in
      let first : sum_at (u 0) ≡ sum_at (page_unit w rows (slot sbid index)) =
      ap sum_at (are 0 (omega arith) ∙ ap (λ k. page_unit w rows (slot sbid k)) same) in
      ap₂ (λ (h : UnitSum) (t : List UnitSum). h ∷ t) first (slot_run (page + 1) sbid (index + 1) n (λ j. u (suc j)) (λ j lt.
      let next : index + suc j ≡ (index + 1) + j = omega arith in
      are (suc j) (omega (arith, lt)) ∙ ap (λ k. page_unit w rows (slot sbid k)) next))

  body_places_are : (first : ℕ) (body : Body) → map unit_sum (body_pages first body) ≡ body_places w rows body
  body_places_are first (private unit csums) = own_run first unit csums (units_in (private unit csums)) (λ k lt. refl)
  body_places_are first (shared sbid index count) = slot_run first sbid index count (units_in (shared sbid index count)) (λ k lt. refl)

  -- their units are those of the shard
  pub places_are : (es : List Extent) → map unit_sum (shard_pages es) ≡ shard_places w rows es
  places_are [] = refl
  places_are (e ∷ es) = map_joined (body_pages e.first e.body) (shard_pages es)
      ∙ ap₂ (λ (a b : List UnitSum). a ++ b) (body_places_are e.first e.body) (places_are es)

  -- ---- in their order

  -- the k-th page of a run
  abbrev InRun : ℕ → (ℕ → PageUnit) → ℕ → PageSum → Type 0
  InRun page u n p = (k : ℕ) × (k < n) × (p ≡ on_page c o (page + k) (u k))

  later_place : (page : ℕ) (u : ℕ → PageUnit) (n : ℕ) → on_page c o ((page + 1) + n) (u (suc n)) ≡ on_page c o (page + suc n) (u (suc n))
  later_place page u n = let pages : (page + 1) + n ≡ page + suc n = omega arith in ap (λ m. on_page c o m (u (suc n))) pages

  first_place : (page : ℕ) (u : ℕ → PageUnit) → on_page c o page (u 0) ≡ on_page c o (page + 0) (u 0)
  first_place page u = let pages : page ≡ page + 0 = omega arith in ap (λ m. on_page c o m (u 0)) pages

  run_lists : (page : ℕ) (u : ℕ → PageUnit) (n : ℕ) → ListsAll ComesBefore (InRun page u n) (run_pages page u n)
  run_lists page u zero = lists_none ComesBefore (InRun page u 0) (λ p is. omega (arith, is.1))
  run_lists page u (suc n) =
      let head : PageSum = on_page c o page (u 0) in
      let rest : ℕ → PageUnit = λ k. u (suc k) in
      lists_joined ComesBefore (λ p. head ≡ p) (InRun (page + 1) rest n) (InRun page u (suc n)) (head ∷ []) (run_pages (page + 1) rest n)
      (lists_one ComesBefore (λ p. head ≡ p) head refl (λ p same. same))
      (run_lists (page + 1) rest n)
      (λ x y same later. subst (λ (z : PageSum). ComesBefore z y) same (subst (λ (z : PageSum). ComesBefore head z) (sym later.2) (inr (refl, inr (refl, omega arith)))))
      (λ x same. (0, omega arith, sym same ∙ first_place page u))
      (λ x later. (suc later.0, omega (arith, later.1), later.2 ∙ later_place page u later.0))
      (λ x is. by x is.0 is.1 is.2)
    where
      by : (x : PageSum) (k : ℕ) → k < suc n → x ≡ on_page c o (page + k) (u k) → (on_page c o page (u 0) ≡ x) ⊎ InRun (page + 1) (λ j. u (suc j)) n x
      by x zero lt same = inl (first_place page u ∙ sym same)
      by x (suc k) lt same = inr (k, omega (arith, lt), same ∙ sym (later_place page u k))

  abbrev InBody : ℕ → Body → PageSum → Type 0
  InBody first body p = InRun first (units_in body) (page_count body) p

  -- the page stands where the shard has it
  pub record InShard (es : List Extent) (p : PageSum) : Type 0 where
    pub coll : p.coll ≡ c
    pub object : p.object ≡ o
    pub place : Place
    pub at : place_of es p.page ≡ Some place
    pub on : page_unit w rows place ≡ record { unit = p.unit; csum = p.kept }
    pub fresh : p.found ≡ 0

  page_of : (p : PageSum) (n : ℕ) (u : PageUnit) → p ≡ on_page c o n u → p.page ≡ n
  page_of p n u is = ap (λ (x : PageSum). x.page) is

  pub shard_lists : (es : List Extent) → ExtentsAscend es → ListsAll ComesBefore (InShard es) (shard_pages es)
  shard_lists [] up = lists_none ComesBefore (InShard []) (λ p is. absurd (let never = is.at in cc))
  shard_lists (e ∷ es) up =
      lists_joined ComesBefore (InBody e.first e.body) (InShard es) (InShard (e ∷ es)) (body_pages e.first e.body) (shard_pages es)
      (run_lists e.first (units_in e.body) (page_count e.body))
      (shard_lists es up.1)
      (λ x y first later. inr (
        ap (λ (z : PageSum). z.coll) first.2 ∙ sym later.coll,
        inr (
          ap (λ (z : PageSum). z.object) first.2 ∙ sym later.object,
          omega (arith, page_of x (e.first + first.0) (units_in e.body first.0) first.2, first.1, page_from es y.page (page_end e) later.place later.at up.0),
        ),
      ))
      (λ x first. record {
        coll = ap (λ (z : PageSum). z.coll) first.2;
        object = ap (λ (z : PageSum). z.object) first.2;
        fresh = ap (λ (z : PageSum). z.found) first.2;
        place = place_in e.body first.0;
        at = ap (place_of (e ∷ es)) (page_of x (e.first + first.0) (units_in e.body first.0) first.2) ∙ first_has e es first.0 first.1;
        on = sym (ap unit_of first.2);
      })
      (λ x later. record {
        coll = later.coll;
        object = later.object;
        fresh = later.fresh;
        place = later.place;
        at = later_has e es x.page later.place up.0 later.at;
        on = later.on;
      })
      (λ x is. elim (place_cases e es x.page is.place is.at) [
        | inl here ↦
            let unit = sym is.on ∙ ap (page_unit w rows) here.3 in
            inl (
              here.0,
              here.1,
              (λ i. record {
                coll = is.coll i;
                object = is.object i;
                page = here.2 i;
                unit = (unit i).unit;
                kept = (unit i).csum;
                found = is.fresh i;
              }),
            )
        | inr later ↦ inr (record { coll = is.coll; object = is.object; place = is.place; at = later; on = is.on; fresh = is.fresh })
      ])
    where
      unit_of : PageSum → PageUnit
      unit_of z = record { unit = z.unit; csum = z.kept }
