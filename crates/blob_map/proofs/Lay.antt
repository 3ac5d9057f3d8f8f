-- Pages put in their places one after the other, and where each page stands then.
use Rattle.std.proofs.Common.{◌≡◌, ◌≢◌, ◌⊎◌, inl, inr, ℕ, zero, suc, ◌+◌, ◌-◌, ◌<◌, ◌≤◌, List, [], ◌∷◌, ◌++◌, length, get_or, map, Some, refl, sym, ap, ◌∙◌, arith}
use Rattle.std.specs.List.{range_with_len}
use Rattle.std.specs.FinMap as finite
use Rattle.std.proofs.lemmas.Bool.{cases_lt}
use Rattle.std.proofs.lemmas.List.{get_or_default}
use Rattle.number_map.proofs.Laws.{get_same, get_other}
use Rattle.row_format.specs.Prelude.{Extent, Place, place_in}
use Rattle.blob_map.specs.Prelude.{PageMap, with_pages}

-- one list behind the other
pub laid_append : (pages : PageMap) (ps qs : List (ℕ × Place)) → with_pages pages (ps ++ qs) ≡ with_pages (with_pages pages ps) qs
laid_append pages [] qs = refl
laid_append pages (p ∷ ps) qs = laid_append (finite.insert pages p.0 p.1) ps qs

module _ (e : Extent) where
  abbrev pub page_at : ℕ → ℕ × Place
  page_at i = (e.first + i, place_in e.body i)

  pub laid_outside : (n k : ℕ) (pages : PageMap) (q : ℕ) → (q < e.first + k) ⊎ (e.first + k + n ≤ q)
      → finite.get (with_pages pages (map page_at (range_with_len k n))) q ≡ finite.get pages q
  laid_outside zero k pages q out = refl
  laid_outside (suc n) k pages q out =
      let later : (q < e.first + (k + 1)) ⊎ (e.first + (k + 1) + n ≤ q) = elim out [ inl lt ↦ inl (omega (arith, lt)) | inr le ↦ inr (omega (arith, le)) ] in
      let apart : q ≢ e.first + k = λ same. elim out [ inl lt ↦ omega (arith, lt, same) | inr le ↦ omega (arith, le, same) ] in
      laid_outside n (k + 1) (finite.insert pages (e.first + k) (place_in e.body k)) q later
      ∙ get_other pages (e.first + k) (place_in e.body k) q apart

  pub laid_inside : (n k : ℕ) (pages : PageMap) (q : ℕ) → e.first + k ≤ q → q < e.first + k + n
      → finite.get (with_pages pages (map page_at (range_with_len k n))) q ≡ Some (place_in e.body (q - e.first))
  laid_inside zero k pages q le lt = absurd (omega (arith, le, lt))
  laid_inside (suc n) k pages q le lt = elim (cases_lt (e.first + k) q) [
    | inl less ↦ laid_inside n (k + 1) (finite.insert pages (e.first + k) (place_in e.body k)) q (omega (arith, less)) (omega (arith, lt))
    | inr more ↦
        let here : q ≡ e.first + k = omega (arith, le, more) in
        let i : k ≡ q - e.first = omega (arith, here) in
        laid_outside n (k + 1) (finite.insert pages (e.first + k) (place_in e.body k)) q (inl (omega (arith, here)))
        ∙ ap (λ x. finite.get (finite.insert pages (e.first + k) (place_in e.body k)) x) here
        ∙ get_same pages (e.first + k) (place_in e.body k)
        ∙ ap (λ j. Some (place_in e.body j)) i
  ]

-- the first pages of a run are in their places, and the pages before and behind where they were
pub record ArePut (old new : PageMap) (first : ℕ) (places : List Place) (n : ℕ) : Type 0 where
  pub inside : (i : ℕ) (d : Place) → i < n → finite.get new (first + i) ≡ Some (get_or places i d)
  pub outside : (page : ℕ) → (page < first) ⊎ (first + n ≤ page) → finite.get new page ≡ finite.get old page

pub put_more : (old new after : PageMap) (first : ℕ) (places : List Place) (i : ℕ) (place : Place) → i < length places → place ≡ get_or places i place
    → after ≡ finite.insert new (first + i) place → ArePut old new first places i → ArePut old after first places (i + 1)
put_more old new after first places i place within is made put = record {
  inside = λ j d lt. ap (λ m. finite.get m (first + j)) made ∙ elim (cases_lt j i) [
    | inl less ↦ get_other new (first + i) place (first + j) (λ e. omega (arith, e, less)) ∙ put.inside j d less
    | inr ge ↦
        let same : j ≡ i = omega (arith, ge, lt) in
        ap (λ k. finite.get (finite.insert new (first + i) place) (first + k)) same ∙ get_same new (first + i) place
        ∙ ap Some (is ∙ get_or_default places i place d within) ∙ ap (λ k. Some (get_or places k d)) (sym same)
  ];
  outside = λ page out.
      let apart : page ≢ first + i = λ e. elim out [ inl lt ↦ omega (arith, lt, e) | inr le ↦ omega (arith, le, e) ] in
      let before : (page < first) ⊎ (first + i ≤ page) = elim out [ inl lt ↦ inl lt | inr le ↦ inr (omega (arith, le)) ] in
      ap (λ m. finite.get m page) made ∙ get_other new (first + i) place page apart ∙ put.outside page before;
}
