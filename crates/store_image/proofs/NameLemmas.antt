-- Counts stay exact where one page more or one less names a slot.
use Rattle.std.proofs.Common.{◌≡◌, ◌≢◌, ◌⊎◌, ◌↔◌, inl, inr, ⊎_elim, ℕ, zero, suc, ◌+◌, List, [], ◌∷◌, length, refl, sym, ap, subst, ◌∙◌, arith}
use Rattle.std.specs.Prelude.{Contains}
use Rattle.unit_fields.specs.declared.width.Width.{Width}
use Rattle.meta_rows.specs.Prelude.{Rows}
use Rattle.row_format.specs.Prelude.{Slot}
use Rattle.store_image.specs.Prelude.{HasSlot, PageName, Names, EachOnce, IsCounted, CountsAreExact, NamesOneMore, NamesOneLess}
use Rattle.store_image.proofs.ByteLemmas.{equal_or_not}
use Rattle.store_image.proofs.ShareLemmas.{number_cases}

-- ---- lists of pages

abbrev page_number : PageName → ℕ
page_number p = p.page

name_cases : (p q : PageName) → (p ≡ q) ⊎ (p ≢ q)
name_cases p q = elim (equal_or_not p.coll q.coll) [
  | inr differ ↦ inr (λ e. differ (ap (λ x. x.coll) e))
  | inl coll ↦ elim (equal_or_not p.object q.object) [
    | inr differ ↦ inr (λ e. differ (ap (λ x. x.object) e))
    | inl object ↦ elim (number_cases p.page q.page) [
      | inr differ ↦ inr (λ e. differ (ap page_number e))
      | inl page ↦ inl (λ i. record { coll = coll i; object = object i; page = page i })
    ]
  ]
]

front_cases : (p q : PageName) (ps : List PageName) → Contains (p ∷ ps) q → (p ≡ q) ⊎ Contains ps q
front_cases p q ps (zero, lt, is) = inl is
front_cases p q ps (suc k, lt, is) = inr (k, omega (arith, lt), is)

in_front : (p q : PageName) (ps : List PageName) → p ≡ q → Contains (p ∷ ps) q
in_front p q ps is = (zero, omega arith, is)

further : (p q : PageName) (ps : List PageName) → Contains ps q → Contains (p ∷ ps) q
further p q ps (k, lt, is) = (suc k, omega (arith, lt), is)

-- a list of pages without one of them
record Without (ps : List PageName) (p : PageName) : Type 0 where
  rest : List PageName
  in_rest : (q : PageName) → Contains rest q ↔ (Contains ps q × (q ≢ p))
  apart : EachOnce rest
  length_is : length ps ≡ 1 + length rest

without : (ps : List PageName) (p : PageName) → EachOnce ps → Contains ps p → Without ps p
without [] p apart (k, lt, is) = absurd (omega (arith, lt))
without (o ∷ ps) p apart (zero, lt, is) = record {
  rest = ps;
  in_rest = λ q. (
    λ has. (further o q ps has, λ e. apart.0 (subst (Contains ps) (e ∙ sym is) has)),
    λ both. ⊎_elim (λ e. absurd (both.1 (sym e ∙ is))) (λ has. has) (front_cases o q ps both.0),
  );
  apart = apart.1;
  length_is = omega arith;
}
without (o ∷ ps) p apart (suc k, lt, is) =
    let inside : Contains ps p = (k, omega (arith, lt), is) in
    let r = without ps p apart.1 inside in
    record {
      rest = o ∷ r.rest;
      in_rest = λ q. (
        λ has. ⊎_elim (λ e. (in_front o q ps e, λ f. apart.0 (subst (Contains ps) (sym (e ∙ f)) inside)))
            (λ more. (further o q ps ((r.in_rest q).0 more).0, ((r.in_rest q).0 more).1)) (front_cases o q r.rest has),
        λ both. ⊎_elim (λ e. in_front o q r.rest e) (λ more. further o q r.rest ((r.in_rest q).1 (more, both.1))) (front_cases o q ps both.0),
      );
      apart = ((λ has. apart.0 ((r.in_rest o).0 has).0), r.apart);
      length_is = omega (arith, r.length_is);
    }

-- ---- counts

-- a slot is this one, or another
slot_cases : (s k sbid index : ℕ) → ((s ≡ sbid) × (k ≡ index)) ⊎ ((s ≢ sbid) ⊎ (k ≢ index))
slot_cases s k sbid index = elim (number_cases s sbid) [
  | inr differ ↦ inr (inl differ)
  | inl e ↦ elim (number_cases k index) [
    | inr differ ↦ inr (inr differ)
    | inl f ↦ inl (e, f)
  ]
]

other_slot : (s k sbid index : ℕ) → (s ≢ sbid) ⊎ (k ≢ index) → (s ≡ sbid) × (k ≡ index) → ⊥
other_slot s k sbid index (inl differ) both = differ both.0
other_slot s k sbid index (inr differ) both = differ both.1

module _ (w : Width) (rows later : Rows) (page : PageName) (sbid index count : ℕ) where
  module _ (more : NamesOneMore w rows later page sbid index count) where
    counted_more : IsCounted w rows sbid index count → IsCounted w later sbid index (count + 1)
    counted_more was = record {
      pages = page ∷ was.pages;
      namers = record {
        each = λ q. (
          λ has. ⊎_elim (λ e. subst (Names w later sbid index) e ((more.now sbid index).1 (refl, refl))) (there q) (front_cases page q was.pages has),
          λ names. ⊎_elim (λ e. in_front page q was.pages (sym e)) (λ differ. further page q was.pages ((was.namers.each q).1 ((more.others q sbid index differ).0 names))) (name_cases q page),
        );
        once = ((λ has. more.not_before sbid index ((was.namers.each page).0 has)), was.namers.once);
      };
      count_is = omega (arith, was.count_is);
    }
      where
        there : (q : PageName) → Contains was.pages q → Names w later sbid index q
        there q has = ⊎_elim (λ e. absurd (more.not_before sbid index (subst (Names w rows sbid index) e ((was.namers.each q).0 has))))
            (λ differ. (more.others q sbid index differ).1 ((was.namers.each q).0 has)) (name_cases q page)

    counted_other : (s k n : ℕ) → (s ≢ sbid) ⊎ (k ≢ index) → IsCounted w rows s k n → IsCounted w later s k n
    counted_other s k n other was = record {
      pages = was.pages;
      namers = record {
        each = λ q. (
          λ has. ⊎_elim (λ e. absurd (more.not_before s k (subst (Names w rows s k) e ((was.namers.each q).0 has))))
              (λ differ. (more.others q s k differ).1 ((was.namers.each q).0 has)) (name_cases q page),
          λ names. ⊎_elim (λ e. absurd (other_slot s k sbid index other ((more.now s k).0 (subst (Names w later s k) e names))))
              (λ differ. (was.namers.each q).1 ((more.others q s k differ).0 names)) (name_cases q page),
        );
        once = was.namers.once;
      };
      count_is = was.count_is;
    }

    pub more_exact : CountsAreExact w rows → CountsAreExact w later
    more_exact exact s k at x has = ⊎_elim (this s k at x has) (λ other. counted_other s k x.count other (exact s k at x ((more.counts.others s k at x other).0 has))) (slot_cases s k sbid index)
      where
        this : (s k at : ℕ) (x : Slot) → HasSlot w later s k at x → (s ≡ sbid) × (k ≡ index) → IsCounted w later s k x.count
        this s k at x has both =
            let here = subst (λ n. HasSlot w later n index at x) both.0 (subst (λ n. HasSlot w later s n at x) both.1 has) in
            let was = more.counts.was at x here in
            let counted = subst (IsCounted w rows sbid index) was.1.1 (exact sbid index at was.0 was.1.0) in
            subst (λ n. IsCounted w later n k x.count) (sym both.0) (subst (λ n. IsCounted w later sbid n x.count) (sym both.1)
            (subst (IsCounted w later sbid index) (sym (more.counts.there at x here)) (counted_more counted)))

  module _ (less : NamesOneLess w rows later page sbid index count) where
    counted_less : IsCounted w rows sbid index (count + 1) → IsCounted w later sbid index count
    counted_less was =
        let r = without was.pages page was.namers.once ((was.namers.each page).1 ((less.before sbid index).1 (refl, refl))) in
        record {
          pages = r.rest;
          namers = record {
            each = λ q. (
              λ has. (let both = (r.in_rest q).0 has in (less.others q sbid index both.1).1 ((was.namers.each q).0 both.0)),
              λ names. (let differ : q ≢ page = λ e. less.not_now sbid index (subst (Names w later sbid index) e names) in
                  (r.in_rest q).1 ((was.namers.each q).1 ((less.others q sbid index differ).0 names), differ)),
            );
            once = r.apart;
          };
          count_is = omega (arith, r.length_is, was.count_is);
        }

    counted_still : (s k n : ℕ) → (s ≢ sbid) ⊎ (k ≢ index) → IsCounted w rows s k n → IsCounted w later s k n
    counted_still s k n other was = record {
      pages = was.pages;
      namers = record {
        each = λ q. (
          λ has. ⊎_elim (λ e. absurd (other_slot s k sbid index other ((less.before s k).0 (subst (Names w rows s k) e ((was.namers.each q).0 has)))))
              (λ differ. (less.others q s k differ).1 ((was.namers.each q).0 has)) (name_cases q page),
          λ names. ⊎_elim (λ e. absurd (less.not_now s k (subst (Names w later s k) e names)))
              (λ differ. (was.namers.each q).1 ((less.others q s k differ).0 names)) (name_cases q page),
        );
        once = was.namers.once;
      };
      count_is = was.count_is;
    }

    pub less_exact : CountsAreExact w rows → CountsAreExact w later
    less_exact exact s k at x has = ⊎_elim (this s k at x has) (λ other. counted_still s k x.count other (exact s k at x ((less.counts.others s k at x other).0 has))) (slot_cases s k sbid index)
      where
        this : (s k at : ℕ) (x : Slot) → HasSlot w later s k at x → (s ≡ sbid) × (k ≡ index) → IsCounted w later s k x.count
        this s k at x has both =
            let here = subst (λ n. HasSlot w later n index at x) both.0 (subst (λ n. HasSlot w later s n at x) both.1 has) in
            let was = less.counts.was at x here in
            let counted = subst (IsCounted w rows sbid index) was.1.1 (exact sbid index at was.0 was.1.0) in
            subst (λ n. IsCounted w later n k x.count) (sym both.0) (subst (λ n. IsCounted w later sbid n x.count) (sym both.1)
            (subst (IsCounted w later sbid index) (sym (less.counts.there at x here)) (counted_less counted)))
