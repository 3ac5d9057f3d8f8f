-- The units of some pages of a map.
use Rattle.std.proofs.Common.{◌≡◌, ◌⊎◌, ◌↔◌, inl, inr, ℕ, zero, suc, ◌<◌, Bool, true, cond, T, List, [], ◌∷◌, length, get_or, flat_map, Contains, Some, refl, sym, ap, subst, ◌∙◌, arith}
use Rattle.std.specs.Prelude.{slice_index}
use Rattle.std.specs.Ordering.{nat_cmp, is_eq}
use Rattle.std.specs.FinMap.{find, is_sorted, entries, entries_sorted, get-entries}
use Rattle.std.specs.FinMap.Entries.{where_key, below_all}
use Rattle.std.proofs.lemmas.Bool.{cases_Bool, cases_lt}
use Rattle.unit_fields.specs.declared.width.Width.{Width}
use Rattle.number_map.proofs.Places.{both_first, both_second}
use Rattle.number_map.proofs.Search.{cmp_equal, cmp_less, cmp_greater, less_is}
use Rattle.meta_rows.specs.Prelude.{Rows}
use Rattle.row_format.specs.Prelude.{Place, own, slot}
use Rattle.store_image.specs.Prelude.{IsPageAt, page_of, Owns, HasSoleOwner}
use Rattle.blob_map.specs.Prelude.{PageMap}
use Rattle.plan_drafts.specs.Prelude.{IsMapOf, units_released, StandsOnce}

-- ---- elements

-- the list has the element
abbrev pub In : {X : Type 0} → List X → X → Type 0
In [] x = ⊥
In (e ∷ es) x = (e ≡ x) ⊎ In es x

pub at_in : (us : List ℕ) (v k : ℕ) → k < length us → get_or us k v ≡ v → In us v
at_in [] v k lt is = absurd (omega (arith, lt))
at_in (u ∷ us) v zero lt is = inl is
at_in (u ∷ us) v (suc k) lt is = inr (at_in us v k (omega (arith, lt)) is)

pub in_at : (us : List ℕ) (v : ℕ) → In us v → Contains us v
in_at [] v h = absurd h
in_at (u ∷ us) v (inl is) = (0, omega arith, is)
in_at (u ∷ us) v (inr later) = let c = in_at us v later in (suc c.0, omega (arith, c.1), c.2)

index_in : (us : List ℕ) (j : ℕ) → j < length us → In us (slice_index us j)
index_in [] j lt = absurd (omega (arith, lt))
index_in (u ∷ us) zero lt = inl refl
index_in (u ∷ us) (suc j) lt = inr (index_in us j (omega (arith, lt)))

-- a list contains what stands at one of its places
pub at_index : (us : List ℕ) (v : ℕ) → Contains us v ↔ ((i : ℕ) × (i < length us) × (slice_index us i ≡ v))
at_index us v = (λ k. found us (at_in us v k.0 k.1 k.2), λ p. in_at us v (subst (In us) p.2 (index_in us p.0 p.1)))
  where
    found : (us : List ℕ) → In us v → (i : ℕ) × (i < length us) × (slice_index us i ≡ v)
    found [] h = absurd h
    found (u ∷ us) (inl is) = (0, omega arith, is)
    found (u ∷ us) (inr later) = let c = found us later in (suc c.0, omega (arith, c.1), c.2)

-- it doesn't come twice
abbrev NotTwice : List ℕ → ℕ → Type 0
NotTwice [] v = Unit {0}
NotTwice (u ∷ us) v = (u ≡ v → In us v → ⊥) × NotTwice us v

once_of : (us : List ℕ) (v : ℕ) → NotTwice us v → StandsOnce us v
once_of [] v once i j in_i in_j is same = absurd (omega (arith, in_i))
once_of (u ∷ us) v once zero zero in_i in_j is same = refl
once_of (u ∷ us) v once zero (suc j) in_i in_j is same = absurd (once.0 is (subst (In us) same (index_in us j (omega (arith, in_j)))))
once_of (u ∷ us) v once (suc i) zero in_i in_j is same = absurd (once.0 same (subst (In us) is (index_in us i (omega (arith, in_i)))))
once_of (u ∷ us) v once (suc i) (suc j) in_i in_j is same = ap suc (once_of us v once.1 i j (omega (arith, in_i)) (omega (arith, in_j)) is same)

-- ---- entries in order

find_step : (page : ℕ) (p : ℕ × Place) (ps : List (ℕ × Place)) → (page < p.0) ⊎ (p.0 < page) → find nat_cmp page (p ∷ ps) ≡ find nat_cmp page ps
find_step page p ps apart = elim apart [
  | inl lt ↦ ap (λ r. cond (is_eq r) (Some p.1) (find nat_cmp page ps)) (cmp_less page p.0 lt)
  | inr lt ↦ ap (λ r. cond (is_eq r) (Some p.1) (find nat_cmp page ps)) (cmp_greater page p.0 lt)
]

find_here : (page : ℕ) (p : ℕ × Place) (ps : List (ℕ × Place)) → page ≡ p.0 → find nat_cmp page (p ∷ ps) ≡ Some p.1
find_here page p ps is = ap (λ r. cond (is_eq r) (Some p.1) (find nat_cmp page ps)) (cmp_equal page p.0 is)

pub same_pair : (p : ℕ × Place) (page : ℕ) (place : Place) → p.0 ≡ page → p.1 ≡ place → p ≡ (page, place)
same_pair p page place a b = λ i. (a i, b i)

pub found_in : (es : List (ℕ × Place)) (page : ℕ) (place : Place) → find nat_cmp page es ≡ Some place → In es (page, place)
found_in [] page place is = absurd cc
found_in (e ∷ es) page place is = elim (cases_lt page e.0) [
  | inl lt ↦ inr (found_in es page place (sym (find_step page e es (inl lt)) ∙ is))
  | inr ge ↦ elim (cases_lt e.0 page) [
    | inl lt ↦ inr (found_in es page place (sym (find_step page e es (inr lt)) ∙ is))
    | inr le ↦
        let here : e.0 ≡ page = omega (arith, ge, le) in
        let two : Some e.1 ≡ Some place = sym (find_here page e es (sym here)) ∙ is in
        inl (same_pair e page place here cc)
  ]
]

below_in : (x : ℕ) (es : List (ℕ × Place)) (page : ℕ) (place : Place) → T (below_all nat_cmp x es) → In es (page, place) → x < page
below_in x [] page place h is = absurd is
below_in x (e ∷ es) page place h (inl is) = omega (arith, less_is x e.0 (both_first _ _ h), ap (λ (p : ℕ × Place). p.0) is)
below_in x (e ∷ es) page place h (inr later) = below_in x es page place (both_second _ _ h) later

pub in_found : (es : List (ℕ × Place)) (page : ℕ) (place : Place) → T (is_sorted nat_cmp es) → In es (page, place) → find nat_cmp page es ≡ Some place
in_found [] page place sorted is = absurd is
in_found (e ∷ es) page place sorted (inl is) =
    find_here page e es (sym (ap (λ (p : ℕ × Place). p.0) is)) ∙ ap (λ (p : ℕ × Place). Some p.1) is
in_found (e ∷ es) page place sorted (inr later) =
    let above : e.0 < page = below_in e.0 es page place (both_first _ (is_sorted nat_cmp es) sorted) later in
    find_step page e es (inr above) ∙ in_found es page place (both_second (below_all nat_cmp e.0 es) _ sorted) later

-- ---- units of pages

-- the pages that pass a test
module _ (w : Width) (test : ℕ → Bool) where
  abbrev units_in : List (ℕ × Place) → List ℕ
  units_in es = flat_map (λ p. units_released p.1) (where_key nat_cmp test es)

  -- an entry that passes has the unit
  pub record Stands (es : List (ℕ × Place)) (v : ℕ) : Type 0 where
    pub page : ℕ
    pub csum : ℕ
    pub there : In es (page, own v csum)
    pub inside : test page ≡ true

  -- the units with an entry in front
  abbrev front : ℕ × Place → List (ℕ × Place) → Bool → List ℕ
  front e es b = flat_map (λ p. units_released p.1) (cond b (e ∷ where_key nat_cmp test es) (where_key nat_cmp test es))

  behind : (e : ℕ × Place) (es : List (ℕ × Place)) (v : ℕ) → Stands es v → Stands (e ∷ es) v
  behind e es v x = record { page = x.page; csum = x.csum; there = inr x.there; inside = x.inside }

  pub unit_stands : (es : List (ℕ × Place)) (v : ℕ) → In (units_in es) v → Stands es v
  unit_stands [] v h = absurd h
  unit_stands ((n, slot sbid index) ∷ es) v h = elim (cases_Bool (test n)) [
    | inl is ↦ behind (n, slot sbid index) es v (unit_stands es v (subst (λ b. In (front (n, slot sbid index) es b) v) is h))
    | inr is ↦ behind (n, slot sbid index) es v (unit_stands es v (subst (λ b. In (front (n, slot sbid index) es b) v) is h))
  ]
  unit_stands ((n, own w k) ∷ es) v h = elim (cases_Bool (test n)) [
    | inl is ↦
        let either : (w ≡ v) ⊎ In (units_in es) v = subst (λ b. In (front (n, own w k) es b) v) is h in
        elim either [
          | inl same ↦ record { page = n; csum = k; there = inl (ap (λ x. (n, own x k)) same); inside = is }
          | inr later ↦ behind (n, own w k) es v (unit_stands es v later)
        ]
    | inr is ↦ behind (n, own w k) es v (unit_stands es v (subst (λ b. In (front (n, own w k) es b) v) is h))
  ]

  pub stands_unit : (es : List (ℕ × Place)) (v page csum : ℕ) → In es (page, own v csum) → test page ≡ true → In (units_in es) v
  stands_unit [] v page csum h is = absurd h
  stands_unit ((n, own w k) ∷ es) v page csum (inl here) is =
      let passes : test n ≡ true = ap (λ (p : ℕ × Place). test p.0) here ∙ is in
      let same : own w k ≡ own v csum = ap (λ (p : ℕ × Place). p.1) here in
      let unit : w ≡ v = cc in
      subst (λ b. In (front (n, own w k) es b) v) (sym passes) (inl unit)
  stands_unit ((n, own w k) ∷ es) v page csum (inr later) is =
      let rest = stands_unit es v page csum later is in
      elim (cases_Bool (test n)) [
        | inl t ↦ subst (λ b. In (front (n, own w k) es b) v) (sym t) (inr rest)
        | inr t ↦ subst (λ b. In (front (n, own w k) es b) v) (sym t) rest
      ]
  stands_unit ((n, slot sbid index) ∷ es) v page csum (inl here) is =
      let same : slot sbid index ≡ own v csum = ap (λ (p : ℕ × Place). p.1) here in absurd cc
  stands_unit ((n, slot sbid index) ∷ es) v page csum (inr later) is =
      let rest = stands_unit es v page csum later is in
      elim (cases_Bool (test n)) [
        | inl t ↦ subst (λ b. In (front (n, slot sbid index) es b) v) (sym t) rest
        | inr t ↦ subst (λ b. In (front (n, slot sbid index) es b) v) (sym t) rest
      ]

  -- where no two entries have the unit, it doesn't come twice
  units_differ : (es : List (ℕ × Place)) (v : ℕ) → T (is_sorted nat_cmp es)
      → ((p q a b : ℕ) → In es (p, own v a) → In es (q, own v b) → p ≡ q) → NotTwice (units_in es) v
  units_differ [] v sorted one = tt
  units_differ ((n, slot sbid index) ∷ es) v sorted one =
      let rest = units_differ es v (both_second (below_all nat_cmp n es) _ sorted) (λ p q a b x y. one p q a b (inr x) (inr y)) in
      elim (cases_Bool (test n)) [
        | inl is ↦ subst (λ b. NotTwice (front (n, slot sbid index) es b) v) (sym is) rest
        | inr is ↦ subst (λ b. NotTwice (front (n, slot sbid index) es b) v) (sym is) rest
      ]
  units_differ ((n, own w k) ∷ es) v sorted one =
      let rest = units_differ es v (both_second (below_all nat_cmp n es) _ sorted) (λ p q a b x y. one p q a b (inr x) (inr y)) in
      elim (cases_Bool (test n)) [
        | inl is ↦ subst (λ b. NotTwice (front (n, own w k) es b) v) (sym is) (not_again, rest)
        | inr is ↦ subst (λ b. NotTwice (front (n, own w k) es b) v) (sym is) rest
      ]
    where
      not_again : w ≡ v → In (units_in es) v → ⊥
      not_again is h =
          let x = unit_stands es v h in
          let above : n < x.page = below_in n es x.page (own v x.csum) (both_first _ (is_sorted nat_cmp es) sorted) x.there in
          let same : n ≡ x.page = one n x.page k x.csum (inl (ap (λ y. (n, own y k)) is)) (inr x.there) in
          omega (arith, above, same)

  module _ (rows : Rows) (c o : List ℕ) (pages : PageMap) (are : IsMapOf w rows c o pages) where
    page_in : (page : ℕ) (place : Place) → In (entries pages) (page, place) → IsPageAt w rows c o page place
    page_in page place h = (are page place).0 (get-entries pages page ∙ in_found (entries pages) page place (entries_sorted pages) h)

    -- a page of the object owns a unit of theirs, which stands once where it hasn't two owners
    pub some_owns : (v : ℕ) → Contains (units_in (entries pages)) v → (page : ℕ) × Owns w rows (page_of c o page) v
    some_owns v k =
        let x = unit_stands (entries pages) v (at_in (units_in (entries pages)) v k.0 k.1 k.2) in
        (x.page, (x.csum, page_in x.page (own v x.csum) x.there))

    pub some_once : (v : ℕ) → HasSoleOwner w rows v → StandsOnce (units_in (entries pages)) v
    some_once v sole = once_of (units_in (entries pages)) v (units_differ (entries pages) v (entries_sorted pages) one)
      where
        one : (p q a b : ℕ) → In (entries pages) (p, own v a) → In (entries pages) (q, own v b) → p ≡ q
        one p q a b x y =
            let owner : page_of c o p ≡ page_of c o q =
            sole (page_of c o p) (page_of c o q) (a, page_in p (own v a) x) (b, page_in q (own v b) y) in cc
