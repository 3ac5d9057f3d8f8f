-- Bad pages, where no row is bad and each unit holds one thing.
use Rattle.std.proofs.Common.{◌≡◌, ◌≢◌, ◌↔◌, ◌⊎◌, inl, inr, ℕ, ◌<◌, List, refl, sym, ap, subst, ◌∙◌, arith}
use Rattle.std.specs.List.{AllByRecursion}
use Rattle.std.specs.Ordering.{ordering_reverse}
use Rattle.std.specs.declared.cmp.Ordering.TheVariants.{Less}
use Rattle.std.proofs.lemmas.Cmp.{tied_itself, nat_list_cmp_total}
use Rattle.byte_maps.specs.ByteMap.{byte_order}
use Rattle.meta_rows.specs.Prelude.{Rows}
use Rattle.meta_log.specs.declared.slot.Super.{Super}
use Rattle.meta_log.specs.Prelude.{width_of}
use Rattle.crc32c_csum.specs.Prelude.{crc32c}
use Rattle.ordered_lists.specs.Lists.{IsIn, ListsAll}
use Rattle.ordered_lists.proofs.Joining.{each_in, one_list}
use Rattle.row_format.specs.Prelude.{Place}
use Rattle.store_image.specs.Prelude.{PageUnit, StandsOn, IsPageOn, NoBadRow}
use Rattle.store_image.proofs.PageMap.{one_place}
use Rattle.store_image.proofs.PageUnits.{one_unit}
use Rattle.findings.specs.Findings.{PageSum, ComesBefore, IsBadSum, IsAmong, GivesKept, AreBadSums}

-- ---- the order of pages

bytes_apart : (x y : List ℕ) → byte_order x y ≡ Less → byte_order y x ≡ Less → ⊥
bytes_apart x y less more = let back = nat_list_cmp_total.antisymm y x ∙ ap ordering_reverse less in cc

bytes_itself : (x : List ℕ) → byte_order x x ≡ Less → ⊥
bytes_itself x less = let tied = tied_itself nat_list_cmp_total x in cc

pub pages_apart : (a b : PageSum) → ComesBefore a b → ComesBefore b a → ⊥
pages_apart a b (inl less) (inl more) = bytes_apart a.coll b.coll less more
pages_apart a b (inl less) (inr same) = bytes_itself a.coll (subst (λ x. byte_order a.coll x ≡ Less) same.0 less)
pages_apart a b (inr same) (inl less) = bytes_itself b.coll (subst (λ x. byte_order b.coll x ≡ Less) same.0 less)
pages_apart a b (inr same) (inr back) = objects same.1 back.1
  where
    objects : ((byte_order a.object b.object ≡ Less) ⊎ ((a.object ≡ b.object) × (a.page < b.page)))
        → ((byte_order b.object a.object ≡ Less) ⊎ ((b.object ≡ a.object) × (b.page < a.page))) → ⊥
    objects (inl less) (inl more) = bytes_apart a.object b.object less more
    objects (inl less) (inr is) = bytes_itself a.object (subst (λ x. byte_order a.object x ≡ Less) is.0 less)
    objects (inr is) (inl less) = bytes_itself b.object (subst (λ x. byte_order b.object x ≡ Less) is.0 less)
    objects (inr is) (inr more) = omega (arith, is.1, more.1)

-- ---- one bad page at a place

module _ (s : Super) (rows : Rows) (good : NoBadRow s rows) where
  pub one_page : (c o : List ℕ) (page : ℕ) (a b : PageUnit) → IsPageOn (width_of s) rows c o page a → IsPageOn (width_of s) rows c o page b → a ≡ b
  one_page c o page a b p q =
      let same : p.place ≡ q.place = one_place s rows good c o page p.place q.place p.at q.at in
      one_unit (width_of s) rows q.place a b (subst (λ (x : Place). StandsOn (width_of s) rows x a) same p.stands) q.stands

  module _ (at : ℕ → List ℕ) where
    abbrev Held : ℕ → List ℕ → Type 0
    Held unit bytes = bytes ≡ at unit

    found_is : (p : PageSum) → IsBadSum (width_of s) Held rows p → p.found ≡ crc32c (at p.unit)
    found_is p bad = bad.is_found ∙ ap crc32c bad.holds

    same_page : (p q : PageSum) → IsBadSum (width_of s) Held rows p → IsBadSum (width_of s) Held rows q → q.coll ≡ p.coll → q.object ≡ p.object → q.page ≡ p.page → q ≡ p
    same_page p q bad its coll object page =
        let here : IsPageOn (width_of s) rows p.coll p.object p.page (record { unit = q.unit; csum = q.kept }) =
        subst (λ n. IsPageOn (width_of s) rows p.coll p.object n (record { unit = q.unit; csum = q.kept })) page
        (subst (λ o. IsPageOn (width_of s) rows p.coll o q.page (record { unit = q.unit; csum = q.kept })) object
        (subst (λ c. IsPageOn (width_of s) rows c q.object q.page (record { unit = q.unit; csum = q.kept })) coll its.is_on)) in
        let on = one_page p.coll p.object p.page (record { unit = q.unit; csum = q.kept }) (record { unit = p.unit; csum = p.kept }) here bad.is_on in
        let unit : q.unit ≡ p.unit = ap (λ (x : PageUnit). x.unit) on in
        let kept : q.kept ≡ p.kept = ap (λ (x : PageUnit). x.csum) on in
        let found : q.found ≡ p.found = found_is q its ∙ ap (λ u. crc32c (at u)) unit ∙ sym (found_is p bad) in
        λ i. record { coll = coll i; object = object i; page = page i; unit = unit i; kept = kept i; found = found i }

    -- the bad pages are exactly these
    pub all_bad : (pages : List PageSum) → AreBadSums (width_of s) Held rows pages → ListsAll ComesBefore (IsBadSum (width_of s) Held rows) pages
    all_bad pages are = record {
      ascend = are.ascend;
      each = are.bad;
      all = λ p bad. elim (are.others p.coll p.object p.page (record { unit = p.unit; csum = p.kept }) bad.is_on) [
        | inl among ↦
            let q = among.0 in
            subst (λ (x : PageSum). IsIn x pages) (same_page p q bad (each_in (IsBadSum (width_of s) Held rows) pages q are.bad among.1.0) among.1.1 among.1.2 among.1.3) among.1.0
        | inr gives ↦ absurd (bad.differs (found_is p bad ∙ sym (ap crc32c gives.1.0) ∙ gives.1.1))
      ];
    }

    pub one_list_of_pages : (a b : List PageSum) → AreBadSums (width_of s) Held rows a → AreBadSums (width_of s) Held rows b → a ≡ b
    one_list_of_pages a b p q = one_list ComesBefore pages_apart (IsBadSum (width_of s) Held rows) a b (all_bad a p) (all_bad b q)
