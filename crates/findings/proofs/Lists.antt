-- One list of findings, and what an empty one tells.
use Rattle.std.proofs.Common.{◌≡◌, ◌⊎◌, inl, inr, ℕ, ◌<◌, List, [], ◌∷◌, ◌++◌, length, map, refl, sym, ap, ap₂, subst, ◌∙◌, arith}
use Rattle.std.specs.Ordering.{ordering_reverse}
use Rattle.std.specs.declared.cmp.Ordering.TheVariants.{Less}
use Rattle.std.proofs.lemmas.Cmp.{nat_list_cmp_total}
use Rattle.byte_maps.specs.ByteMap.{byte_order}
use Rattle.meta_rows.specs.Prelude.{Rows}
use Rattle.meta_log.specs.declared.slot.Super.{Super}
use Rattle.meta_log.specs.Prelude.{width_of}
use Rattle.ordered_lists.specs.Lists.{IsIn, ListsAll}
use Rattle.ordered_lists.proofs.Joining.{one_list}
use Rattle.std.proofs.Common.{◌≢◌}
use Rattle.std.proofs.lemmas.Bool.{cases_eq}
use Rattle.store_image.specs.Prelude.{PageUnit, IsPageOn, NoBadRow, IsBadRow, IsOwned, bit_of, IsMarked, IsLeaked, HasSoleOwner, Owner, page_of, slot_of, IsExact}
use Rattle.store_image.proofs.ByteLemmas.{equal_or_not}
use Rattle.findings.specs.declared.finding.Finding.{Finding}
use Rattle.findings.specs.declared.finding.Finding.TheVariants.{BadRow, Leaked, Unmarked, Doubled}
use Rattle.findings.specs.Findings.{PageSum, SlotCount, SlotBefore, IsWrongCount, wrong_count, GivesKept, AreBadSums, IsUnmarked, IsDoubled, AreUnits, UnitLists, AreWrongUnits, bad_sum, found_in, FindsBadRows, FindsNoBadRow, AreFindings}
use Rattle.findings.proofs.Sums.{one_list_of_pages}

keys_apart : (x y : List ℕ) → byte_order x y ≡ Less → byte_order y x ≡ Less → ⊥
keys_apart x y less more = let back = nat_list_cmp_total.antisymm y x ∙ ap ordering_reverse less in cc

one_list_of_units : (P : ℕ → Type 0) (a b : List ℕ) → AreUnits P a → AreUnits P b → a ≡ b
one_list_of_units P a b p q = one_list (λ (x : ℕ) (y : ℕ). x < y) (λ x y lt gt. omega (arith, lt, gt)) P a b p q

slots_apart : (a b : SlotCount) → SlotBefore a b → SlotBefore b a → ⊥
slots_apart a b (inl less) (inl more) = omega (arith, less, more)
slots_apart a b (inl less) (inr more) = omega (arith, less, more.0)
slots_apart a b (inr less) (inl more) = omega (arith, less.0, more)
slots_apart a b (inr less) (inr more) = omega (arith, less.1, more.1)

module _ (s : Super) (rows : Rows) where
  -- some row is bad, or none is
  pub not_both : (found : List Finding) → FindsBadRows s rows found → NoBadRow s rows → ⊥
  not_both found bad good = by bad.keys bad.are bad.some
    where
      by : (keys : List (List ℕ)) → ListsAll (λ a b. byte_order a b ≡ Less) (IsBadRow s rows) keys → 0 < length keys → ⊥
      by [] are some = omega (arith, some)
      by (k ∷ keys) are some = are.each.0.is_not_good (good k are.each.0.value are.each.0.stands)

  one_list_of_rows : (a b : List Finding) → FindsBadRows s rows a → FindsBadRows s rows b → a ≡ b
  one_list_of_rows a b p q =
      let keys : p.keys ≡ q.keys = one_list (λ (x : List ℕ) (y : List ℕ). byte_order x y ≡ Less) keys_apart (IsBadRow s rows) p.keys q.keys p.are q.are in
      p.is ∙ ap (map BadRow) keys ∙ sym q.is

  module _ (at : ℕ → List ℕ) where
    one_list_of_others : (a b : List Finding) → FindsNoBadRow s (λ unit bytes. bytes ≡ at unit) rows a → FindsNoBadRow s (λ unit bytes. bytes ≡ at unit) rows b → a ≡ b
    one_list_of_others a b p q =
        let pages = one_list_of_pages s rows p.good at p.pages q.pages p.are_pages q.are_pages in
        let leaked = one_list_of_units _ p.units.leaked q.units.leaked p.are_units.are_leaked q.are_units.are_leaked in
        let unmarked = one_list_of_units _ p.units.unmarked q.units.unmarked p.are_units.are_unmarked q.are_units.are_unmarked in
        let doubled = one_list_of_units _ p.units.doubled q.units.doubled p.are_units.are_doubled q.are_units.are_doubled in
        let counts = one_list SlotBefore slots_apart (IsWrongCount (width_of s) rows) p.units.counts q.units.counts p.are_units.are_counts
        q.are_units.are_counts in
        p.is ∙ (λ i. found_in (pages i) (record { leaked = leaked i; unmarked = unmarked i; doubled = doubled i; counts = counts i })) ∙ sym q.is

    pub one_list_of_findings : (a b : List Finding) → AreFindings s (λ unit bytes. bytes ≡ at unit) rows a → AreFindings s (λ unit bytes. bytes ≡ at unit) rows b → a ≡ b
    one_list_of_findings a b (inl p) (inl q) = one_list_of_rows a b p q
    one_list_of_findings a b (inl p) (inr q) = absurd (not_both a p q.good)
    one_list_of_findings a b (inr p) (inl q) = absurd (not_both b q p.good)
    one_list_of_findings a b (inr p) (inr q) = one_list_of_others a b p q

-- ---- an empty list

mapped_none : {A B : Type 0} (f : A → B) (xs : List A) → [] ≡ map f xs → xs ≡ []
mapped_none f [] is = refl
mapped_none f (x ∷ xs) is = absurd cc

joined_none : {A : Type 0} (xs ys : List A) → [] ≡ xs ++ ys → ([] ≡ xs) × ([] ≡ ys)
joined_none [] ys is = (refl, is)
joined_none (x ∷ xs) ys is = absurd cc

owners_same : (a b : Owner) → (a ≡ b) ⊎ ((a ≡ b) → ⊥)
owners_same (page_of c o n) (slot_of sbid index) = inr (λ e. absurd cc)
owners_same (slot_of sbid index) (page_of c o n) = inr (λ e. absurd cc)
owners_same (slot_of a i) (slot_of b k) = slots_by (cases_eq a b) (cases_eq i k)
  where
    slots_by : ((a ≡ b) ⊎ (a ≢ b)) → ((i ≡ k) ⊎ (i ≢ k)) → (slot_of a i ≡ slot_of b k) ⊎ ((slot_of a i ≡ slot_of b k) → ⊥)
    slots_by (inl e) (inl f) = inl (λ j. slot_of (e j) (f j))
    slots_by (inr apart) _ = inr (λ e. apart cc)
    slots_by (inl e) (inr apart) = inr (λ e. apart cc)
owners_same (page_of c o n) (page_of d u m) = by (equal_or_not c d) (equal_or_not o u) (cases_eq n m)
  where
    by : ((c ≡ d) ⊎ (c ≢ d)) → ((o ≡ u) ⊎ (o ≢ u)) → ((n ≡ m) ⊎ (n ≢ m)) → (page_of c o n ≡ page_of d u m) ⊎ ((page_of c o n ≡ page_of d u m) → ⊥)
    by (inl e) (inl f) (inl g) = inl (λ i. page_of (e i) (f i) (g i))
    by (inr apart) _ _ = inr (λ e. apart cc)
    by (inl e) (inr apart) _ = inr (λ e. apart cc)
    by (inl e) (inl f) (inr apart) = inr (λ e. apart cc)

module _ (s : Super) (held : ℕ → List ℕ → Type 0) (rows : Rows) (are : AreFindings s held rows []) where
  none_bad : FindsNoBadRow s held rows []
  none_bad = elim are [
    | inr none ↦ none
    | inl some ↦ absurd (let no_key = ap (λ (l : List (List ℕ)). length l) (mapped_none BadRow some.keys some.is) in omega (arith, no_key, some.some))
  ]

  pub none_good : NoBadRow s rows
  none_good = none_bad.good

  behind_pages : ([] ≡ map bad_sum none_bad.pages) × ([] ≡ map Leaked none_bad.units.leaked ++ (map Unmarked none_bad.units.unmarked ++ (map Doubled none_bad.units.doubled ++ map wrong_count none_bad.units.counts)))
  behind_pages = joined_none (map bad_sum none_bad.pages) _ none_bad.is

  behind_leaked : ([] ≡ map Leaked none_bad.units.leaked) × ([] ≡ map Unmarked none_bad.units.unmarked ++ (map Doubled none_bad.units.doubled ++ map wrong_count none_bad.units.counts))
  behind_leaked = joined_none (map Leaked none_bad.units.leaked) _ behind_pages.1

  behind_unmarked : ([] ≡ map Unmarked none_bad.units.unmarked) × ([] ≡ map Doubled none_bad.units.doubled ++ map wrong_count none_bad.units.counts)
  behind_unmarked = joined_none (map Unmarked none_bad.units.unmarked) _ behind_leaked.1

  behind_doubled : ([] ≡ map Doubled none_bad.units.doubled) × ([] ≡ map wrong_count none_bad.units.counts)
  behind_doubled = joined_none (map Doubled none_bad.units.doubled) (map wrong_count none_bad.units.counts) behind_unmarked.1

  nothing_in : {A : Type 0} (x : A) (xs : List A) → xs ≡ [] → IsIn x xs → ⊥
  nothing_in x xs none is = subst (λ (l : List _). IsIn x l) none is

  none_listed : (P : ℕ → Type 0) (units : List ℕ) → AreUnits P units → units ≡ [] → (unit : ℕ) → P unit → ⊥
  none_listed P units lists none unit is = nothing_in unit units none (lists.all unit is)

  sole_owner : (unit : ℕ) → HasSoleOwner (width_of s) rows unit
  sole_owner unit a b p q = elim (owners_same a b) [
    | inl same ↦ same
    | inr apart ↦ absurd (none_listed (IsDoubled (width_of s) rows) none_bad.units.doubled none_bad.are_units.are_doubled
        (mapped_none Doubled none_bad.units.doubled behind_doubled.0) unit (λ sole. apart (sole a b p q)))
  ]

  owned_or_not : (unit : ℕ) → IsOwned (width_of s) rows unit → IsMarked rows unit
  owned_or_not unit owned = elim (cases_eq (bit_of rows unit) 1) [
    | inl marked ↦ marked
    | inr unmarked ↦ absurd (none_listed (IsUnmarked (width_of s) rows) none_bad.units.unmarked none_bad.are_units.are_unmarked
        (mapped_none Unmarked none_bad.units.unmarked behind_unmarked.0) unit (owned, unmarked))
  ]

  pub none_exact : IsExact (width_of s) rows
  none_exact = record {
    marked = λ unit below is. elim (none_bad.are_units.others unit below is) [
      | inl listed ↦ absurd (nothing_in unit none_bad.units.leaked (mapped_none Leaked none_bad.units.leaked behind_leaked.0) listed)
      | inr owned ↦ inl owned
    ];
    owned_marked = owned_or_not;
    one_owner = sole_owner;
    counts = λ sbid index unit is has. elim (none_bad.are_units.right sbid index unit is has) [
      | inl among ↦ absurd (nothing_in among.0 none_bad.units.counts (mapped_none wrong_count none_bad.units.counts behind_doubled.1) among.1.0)
      | inr counted ↦ counted
    ];
  }

  pub none_pages : (c o : List ℕ) (page : ℕ) (on : PageUnit) → IsPageOn (width_of s) rows c o page on → GivesKept held rows on
  none_pages c o page on is = elim (none_bad.are_pages.others c o page on is) [
    | inl among ↦ absurd (nothing_in among.0 none_bad.pages (mapped_none bad_sum none_bad.pages behind_pages.0) among.1.0)
    | inr gives ↦ gives
  ]
