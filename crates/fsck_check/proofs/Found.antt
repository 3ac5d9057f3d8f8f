-- The findings of units are those of bad pages.
use Rattle.std.proofs.Common.{◌≡◌, ◌⊎◌, inl, inr, ℕ, List, [], ◌∷◌, map, refl, sym, ap, subst, ◌∙◌}
use Rattle.std.specs.List.{AllByRecursion}
use Rattle.meta_rows.specs.Prelude.{Rows}
use Rattle.meta_log.specs.declared.slot.Super.{Super}
use Rattle.meta_log.specs.Prelude.{width_of}
use Rattle.store_image.specs.Prelude.{PageUnit, IsPageOn}
use Rattle.ordered_lists.specs.Lists.{IsIn, Ascend, ListsAll}
use Rattle.ordered_lists.proofs.Joining.{each_in, all_as}
use Rattle.findings.specs.declared.finding.Finding.{Finding}
use Rattle.findings.specs.Findings.{PageSum, ComesBefore, IsBadSum, bad_sum}
use Rattle.fsck_check.specs.Sums.{HasSum, HasOther, FindsBadSums, FindsSums}
use Rattle.fsck_check.proofs.Pages.{unit_sum, at_page}

module _ (held : ℕ → List ℕ → Type 0) where
  -- the page with what was found of its unit
  abbrev with_found : PageSum → ℕ → PageSum
  with_found q f = record { coll = q.coll; object = q.object; page = q.page; unit = q.unit; kept = q.kept; found = f }

  -- it was found of one of these
  record IsFrom (mapped : List PageSum) (p : PageSum) : Type 0 where
    q : PageSum
    among : IsIn q mapped
    is : p ≡ with_found q p.found
    other : HasOther held (unit_sum q) p.found

  -- the page is one of these, or its unit has its checksum
  abbrev IsJudgedIn : List PageSum → PageSum → Type 0
  IsJudgedIn pages q = HasSum held (unit_sum q) ⊎ ((f : ℕ) × IsIn (with_found q f) pages)

  record Split (mapped : List PageSum) (out : List Finding) : Type 0 where
    pages : List PageSum
    is : out ≡ map bad_sum pages
    ascend : Ascend ComesBefore pages
    from : AllByRecursion (IsFrom mapped) pages
    judged : AllByRecursion (IsJudgedIn pages) mapped

  from_more : (m : PageSum) (mapped : List PageSum) (p : PageSum) → IsFrom mapped p → IsFrom (m ∷ mapped) p
  from_more m mapped p f = record { q = f.q; among = inr f.among; is = f.is; other = f.other }

  judged_more : (p : PageSum) (pages : List PageSum) (q : PageSum) → IsJudgedIn pages q → IsJudgedIn (p ∷ pages) q
  judged_more p pages q (inl has) = inl has
  judged_more p pages q (inr listed) = inr (listed.0, inr listed.1)

  split : (mapped : List PageSum) (out : List Finding) → Ascend ComesBefore mapped → FindsBadSums held (map unit_sum mapped) out → Split mapped out
  split [] out up none = record { pages = []; is = none; ascend = tt; from = tt; judged = tt }
  split (q ∷ mapped) out up (inl has) =
      let rest = split mapped out up.1 has.1 in
      record {
        pages = rest.pages;
        is = rest.is;
        ascend = rest.ascend;
        from = all_as (IsFrom mapped) (IsFrom (q ∷ mapped)) (from_more q mapped) rest.pages rest.from;
        judged = (inl has.0, rest.judged);
      }
  split (q ∷ mapped) out up (inr has) =
      let rest = split mapped has.1 up.1 has.4 in
      let p : PageSum = with_found q has.0 in
      record {
        pages = p ∷ rest.pages;
        is = has.2 ∙ ap (λ (l : List Finding). bad_sum p ∷ l) rest.is;
        ascend = (
          all_as (IsFrom mapped) (ComesBefore p) (λ x f. subst (ComesBefore p) (sym f.is) (each_in (ComesBefore q) mapped f.q up.0 f.among)) rest.pages rest.from,
          rest.ascend,
        );
        from = (
          record { q = q; among = inl refl; is = refl; other = has.3 },
          all_as (IsFrom mapped) (IsFrom (q ∷ mapped)) (from_more q mapped) rest.pages rest.from,
        );
        judged = (inr (has.0, inl refl), all_as (IsJudgedIn rest.pages) (IsJudgedIn (p ∷ rest.pages)) (judged_more p rest.pages) mapped rest.judged);
      }

-- the findings of all pages that stand on units
module _ (s : Super) (held : ℕ → List ℕ → Type 0) (rows : Rows) (IsMapped : PageSum → Type 0)
    (on : (p : PageSum) → IsMapped p → IsPageOn (width_of s) rows p.coll p.object p.page (record { unit = p.unit; csum = p.kept }))
    (every : (c o : List ℕ) (page : ℕ) (u : PageUnit) → IsPageOn (width_of s) rows c o page u → IsMapped (at_page c o page u.unit u.csum)) where
  bad_from : (mapped : List PageSum) → ListsAll ComesBefore IsMapped mapped → (p : PageSum) → IsFrom held mapped p → IsBadSum (width_of s) held rows p
  bad_from mapped lists p f = subst (IsBadSum (width_of s) held rows) (sym f.is) (record {
    is_on = on f.q (each_in IsMapped mapped f.q lists.each f.among);
    not_in_memory = refl;
    bytes = f.other.bytes;
    size = f.other.size;
    holds = f.other.holds;
    is_found = f.other.is_found;
    differs = f.other.differs;
  })

  pub finds_sums : (mapped : List PageSum) (out : List Finding) → ListsAll ComesBefore IsMapped mapped → FindsBadSums held (map unit_sum mapped) out
      → FindsSums (width_of s) held rows out
  finds_sums mapped out lists sums =
      let parts = split held mapped out lists.ascend sums in (
        parts.pages,
        record {
          ascend = parts.ascend;
          bad = all_as (IsFrom held mapped) (IsBadSum (width_of s) held rows) (bad_from mapped lists) parts.pages parts.from;
          others = λ c o page u is.
              let q : PageSum = at_page c o page u.unit u.csum in
              elim (each_in (IsJudgedIn held parts.pages) mapped q parts.judged (lists.all q (every c o page u is))) [
                | inl has ↦ inr has
                | inr listed ↦ inl (with_found held q listed.0, (listed.1, refl, refl, refl))
              ];
        },
        parts.is,
      )
