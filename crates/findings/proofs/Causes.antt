-- What a good store has, and what a mount refuses a store for.
use Rattle.std.proofs.Common.{◌≡◌, ◌⊎◌, inl, inr, ℕ, ◌<◌, ◌≤◌, List, [], ◌∷◌, ◌++◌, length, map, Option, Some, None, refl, sym, ap, ap₂, subst, ◌∙◌, arith}
use Rattle.std.specs.Prelude.{IsSome}
use Rattle.std.specs.List.{AllByRecursion}
use Rattle.std.specs.declared.cmp.Ordering.TheVariants.{Less}
use Rattle.std.specs.FinMap as finite
use Rattle.std.proofs.lemmas.Bool.{cases_lt}
use Rattle.byte_maps.specs.ByteMap.{byte_order}
use Rattle.crc32c_csum.specs.Prelude.{crc32c}
use Rattle.unit_fields.specs.declared.width.Width.{Width}
use Rattle.meta_rows.specs.Prelude.{Rows}
use Rattle.meta_log.specs.declared.slot.Super.{Super}
use Rattle.meta_log.specs.Prelude.{width_of}
use Rattle.object_model.specs.Prelude.{Object, Objects, object_under}
use Rattle.row_format.specs.Prelude.{onode_key, shard}
use Rattle.ordered_lists.specs.Lists.{IsIn, ListsAll}
use Rattle.ordered_lists.proofs.Joining.{each_in}
use Rattle.store_image.specs.Prelude.{IsShardInPlace, IsGoodRow, IsBadRow, NoBadRow, IsOwned, IsMarked, IsLeaked, HasSoleOwner, IsExact, IsInexact, IsLeastInexact, HasSlot, HasWrongCount, PageUnit, IsPageOn, IsPageSeen, ObjectsStand}
use Rattle.store_image.proofs.Prelude.{in_place, one_count}
use Rattle.findings.specs.declared.finding.Finding.{Finding}
use Rattle.findings.specs.declared.finding.Finding.TheVariants.{BadRow, Leaked, Unmarked, Doubled}
use Rattle.findings.specs.Findings.{PageSum, SlotCount, IsWrongCount, IsTold, ComesBefore, IsBadSum, AreBadSums, IsUnmarked, IsDoubled, AreUnits, UnitLists, AreWrongUnits, bad_sum, found_in, FindsBadRows, FindsNoBadRow, AreFindings}
use Rattle.findings.proofs.Lists.{not_both}

none_in : {A : Type 0} (P : A → Type 0) (xs : List A) → AllByRecursion P xs → ((x : A) → P x → ⊥) → xs ≡ []
none_in P [] all none = refl
none_in P (x ∷ xs) all none = absurd (none x all.0)

-- ---- a good store

module _ (s : Super) (at : ℕ → List ℕ) (rows : Rows) (objects : Objects) (good : NoBadRow s rows) (stand : ObjectsStand (width_of s) at rows objects)
    (exact : IsExact (width_of s) rows) where
  -- a page is of an object that is there
  page_seen : (c o : List ℕ) (page : ℕ) (on : PageUnit) → IsPageOn (width_of s) rows c o page on → crc32c (at on.unit) ≡ on.csum
  page_seen c o page on is = by (object_under objects c o) refl
    where
      by : (found : Option Object) → object_under objects c o ≡ found → crc32c (at on.unit) ≡ on.csum
      by (Some object) there =
          let seen : IsPageSeen at rows on _ = (stand.bytes c o object there).mapped page on is in
          sym (ap crc32c seen.seen) ∙ seen.kept
      by None missing = absurd (
          let has = is.at.has_shard in
          let place : IsShardInPlace s rows c o is.at.first is.at.extents = in_place s rows (shard c o is.at.first is.at.extents) good has in
          let no_onode : finite.get rows (onode_key c o) ≡ None = stand.shape.missing c o has.fits.coll_name has.fits.object_name missing in
          let onode = place.has_onode in
          let never = subst IsSome no_onode onode in cc)

  no_bad_sum : (p : PageSum) → IsBadSum (width_of s) (λ unit bytes. bytes ≡ at unit) rows p → ⊥
  no_bad_sum p bad = bad.differs (bad.is_found ∙ ap crc32c bad.holds ∙ page_seen p.coll p.object p.page (record { unit = p.unit; csum = p.kept }) bad.is_on)

  no_leak : (unit : ℕ) → IsLeaked (width_of s) rows unit → ⊥
  no_leak unit leak = elim (exact.marked unit leak.is_unit leak.marked) [ inl owned ↦ leak.unowned owned | inr never ↦ never.0 ]

  no_wrong_count : (x : SlotCount) → IsWrongCount (width_of s) rows x → ⊥
  no_wrong_count x wrong = wrong.differs (one_count (width_of s) rows x.sbid x.index x.counted wrong.is.count wrong.is_counted
      (exact.counts x.sbid x.index x.unit wrong.is wrong.has_slot))

  pub nothing_found : (found : List Finding) → AreFindings s (λ unit bytes. bytes ≡ at unit) rows found → found ≡ []
  nothing_found found (inl bad) = absurd (not_both s rows found bad good)
  nothing_found found (inr are) =
      let pages = none_in (IsBadSum (width_of s) (λ unit bytes. bytes ≡ at unit) rows) are.pages are.are_pages.bad no_bad_sum in
      let leaked = none_in (IsLeaked (width_of s) rows) are.units.leaked are.are_units.are_leaked.each no_leak in
      let unmarked = none_in (IsUnmarked (width_of s) rows) are.units.unmarked are.are_units.are_unmarked.each (λ unit is. is.1 (exact.owned_marked unit is.0)) in
      let doubled = none_in (IsDoubled (width_of s) rows) are.units.doubled are.are_units.are_doubled.each (λ unit is. is (exact.one_owner unit)) in
      let counts = none_in (IsWrongCount (width_of s) rows) are.units.counts are.are_units.are_counts.each no_wrong_count in
      are.is ∙ (λ i. found_in (pages i) (record { leaked = leaked i; unmarked = unmarked i; doubled = doubled i; counts = counts i }))

-- ---- what a mount tells

-- the least bad row
pub first_is_least : (s : Super) (held : ℕ → List ℕ → Type 0) (rows : Rows) (key : List ℕ) (found : List Finding) → IsBadRow s rows key
    → ((k value : List ℕ) → byte_order k key ≡ Less → finite.get rows k ≡ Some value → IsGoodRow s rows k value)
    → AreFindings s held rows found → (rest : List Finding) × (found ≡ BadRow key ∷ rest)
first_is_least s held rows key found bad good (inr none) = absurd (bad.is_not_good (none.good key bad.value bad.stands))
first_is_least s held rows key found bad good (inl are) = by are.keys are.are are.is
  where
    by : (keys : List (List ℕ)) → ListsAll (λ a b. byte_order a b ≡ Less) (IsBadRow s rows) keys → found ≡ map BadRow keys → (rest : List Finding) × (found ≡ BadRow key ∷ rest)
    by [] lists is = absurd (lists.all key bad)
    by (k ∷ keys) lists is = elim (lists.all key bad) [
      | inl same ↦ (map BadRow keys, is ∙ ap (λ (x : List ℕ). BadRow x ∷ map BadRow keys) same)
      | inr later ↦ absurd (
          let less = each_in (λ x. byte_order k x ≡ Less) keys key lists.ascend.0 later in
          lists.each.0.is_not_good (good k lists.each.0.value less lists.each.0.stands))
    ]

-- a wrong count is told by the unit of its slot
unit_among : (xs : List SlotCount) (x : SlotCount) → IsIn x xs → IsIn x.unit (map (λ (y : SlotCount). y.unit) xs)
unit_among [] x is = is
unit_among (y ∷ ys) x (inl same) = inl (ap (λ (z : SlotCount). z.unit) same)
unit_among (y ∷ ys) x (inr later) = inr (unit_among ys x later)

of_unit : (P : SlotCount → Type 0) (xs : List SlotCount) (unit : ℕ) → AllByRecursion P xs → IsIn unit (map (λ (y : SlotCount). y.unit) xs)
    → (x : SlotCount) × (P x × (x.unit ≡ unit))
of_unit P [] unit all is = absurd is
of_unit P (y ∷ ys) unit all (inl same) = (y, (all.0, same))
of_unit P (y ∷ ys) unit all (inr later) = of_unit P ys unit all.1 later

counted_of : (w : Width) (rows : Rows) (unit : ℕ) → HasWrongCount w rows unit → (x : SlotCount) × (IsWrongCount w rows x × (x.unit ≡ unit))
counted_of w rows unit has = (
  record { unit = unit; sbid = has.sbid; index = has.index; kept = has.is.count; counted = has.counted },
  (record { is = has.is; has_slot = has.has_slot; is_kept = refl; is_counted = has.is_counted; differs = has.differs }, refl),
)

-- the least unit without one owner and a mark, or with a wrong count
pub least_is_listed : (s : Super) (rows : Rows) (unit : ℕ) (units : UnitLists) → AreWrongUnits (width_of s) rows units → IsLeastInexact (width_of s) rows unit
    → IsTold units unit
least_is_listed s rows unit units are least = elim least.inexact [
  | inl unmarked ↦ inl (are.are_unmarked.all unit unmarked)
  | inr (inl doubled) ↦ inr (inl (are.are_doubled.all unit doubled))
  | inr (inr wrong) ↦
      let x = counted_of (width_of s) rows unit wrong in
      inr (inr (subst (λ u. IsIn u (map (λ (y : SlotCount). y.unit) units.counts)) x.1.1 (unit_among units.counts x.0 (are.are_counts.all x.0 x.1.0))))
]

pub none_is_less : (s : Super) (rows : Rows) (unit : ℕ) (units : UnitLists) → AreWrongUnits (width_of s) rows units → IsLeastInexact (width_of s) rows unit
    → (other : ℕ) → IsTold units other → unit ≤ other
none_is_less s rows unit units are least other listed = elim (cases_lt other unit) [
  | inr ge ↦ ge
  | inl less ↦ absurd (least.least other less (elim listed [
    | inl unmarked ↦ inl (each_in (IsUnmarked (width_of s) rows) units.unmarked other are.are_unmarked.each unmarked)
    | inr (inl doubled) ↦ inr (inl (each_in (IsDoubled (width_of s) rows) units.doubled other are.are_doubled.each doubled))
    | inr (inr counted) ↦
        let x = of_unit (IsWrongCount (width_of s) rows) units.counts other are.are_counts.each counted in
        let wrong = x.1.0 in
        inr (inr (record {
          sbid = x.0.sbid;
          index = x.0.index;
          is = wrong.is;
          has_slot = subst (λ u. HasSlot (width_of s) rows x.0.sbid x.0.index u wrong.is) x.1.1 wrong.has_slot;
          counted = x.0.counted;
          is_counted = wrong.is_counted;
          differs = wrong.differs;
        }))
  ]))
]
