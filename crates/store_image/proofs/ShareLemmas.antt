-- Where pages become slots of a new blob, rows are as exact as before.
use Rattle.std.proofs.Common.{◌≡◌, ◌≢◌, ◌⊎◌, ◌↔◌, inl, inr, ⊎_elim, ℕ, zero, suc, ◌+◌, ◌-◌, ◌<◌, ◌≤◌, List, [], ◌∷◌, refl, sym, ap, subst, ◌∙◌, arith}
use Rattle.std.specs.Prelude.{Contains}
use Rattle.std.proofs.lemmas.Bool.{cases_lt}
use Rattle.unit_fields.specs.declared.width.Width.{Width}
use Rattle.meta_rows.specs.Prelude.{Rows}
use Rattle.row_format.specs.Prelude.{Place, own, slot, Slot}
use Rattle.store_image.specs.Prelude.{IsPageAt, HasSlot, Owner, page_of, slot_of, Owns, IsOwned, PageName, Names, IsCounted, IsExactBut, IsOneOf, BecomeSlots}
use Rattle.store_image.proofs.ByteLemmas.{equal_or_not}

pub number_cases : (n m : ℕ) → (n ≡ m) ⊎ (n ≢ m)
number_cases n m = elim (cases_lt n m) [
  | inl lt ↦ inr (λ e. omega (arith, lt, e))
  | inr ge ↦ elim (cases_lt m n) [
    | inl lt ↦ inr (λ e. omega (arith, lt, e))
    | inr le ↦ inl (omega (arith, ge, le))
  ]
]

not_low : (c o d u : List ℕ) (from count page : ℕ) → page < from → ¬ IsOneOf c o from count d u page
not_low c o d u from count page lt is = omega (arith, lt, is.low)

not_high : (c o d u : List ℕ) (from count page : ℕ) → from + count ≤ page → ¬ IsOneOf c o from count d u page
not_high c o d u from count page le is = omega (arith, le, is.high)

one_of : (c o d u : List ℕ) (from count page : ℕ) → IsOneOf c o from count d u page ⊎ ¬ IsOneOf c o from count d u page
one_of c o d u from count page = elim (equal_or_not d c) [
  | inr differs ↦ inr (λ is. differs is.coll)
  | inl coll ↦ elim (equal_or_not u o) [
    | inr differs ↦ inr (λ is. differs is.object)
    | inl object ↦ elim (cases_lt page from) [
      | inl lt ↦ inr (not_low c o d u from count page lt)
      | inr low ↦ elim (cases_lt page (from + count)) [
        | inl high ↦ inl (record { coll = coll; object = object; low = low; high = high })
        | inr ge ↦ inr (not_high c o d u from count page ge)
      ]
    ]
  ]
]

abbrev own_unit : Place → ℕ
own_unit (own unit csum) = unit
own_unit (slot sbid index) = 0

abbrev slot_number : Place → ℕ
slot_number (own unit csum) = 0
slot_number (slot sbid index) = sbid

abbrev slot_index : Place → ℕ
slot_index (own unit csum) = 0
slot_index (slot sbid index) = index

module _ (width : Width) (rows later : Rows) (c o : List ℕ) (from unit count sbid : ℕ) (shared : BecomeSlots width rows later c o from unit count sbid) where
  -- a page at its number in the run
  at_number : (r : Rows) (d u : List ℕ) (page : ℕ) (place : Place) (is : IsOneOf c o from count d u page) → IsPageAt width r d u page place
      → (i : ℕ) × (i < count) × (from + i ≡ page) × IsPageAt width r c o (from + i) place
  at_number r d u page place is at =
      let number : from + (page - from) ≡ page = omega (arith, is.low) in (
        page - from,
        omega (arith, is.low, is.high),
        number,
        subst (λ k. IsPageAt width r c o k place) (sym number) (subst (λ n. IsPageAt width r c n page place) is.object (subst (λ n. IsPageAt width r n u page place) is.coll at)),
      )

  -- none of the pages has a unit of its own then
  none_own : (d u : List ℕ) (page v csum : ℕ) → IsOneOf c o from count d u page → ¬ IsPageAt width later d u page (own v csum)
  none_own d u page v csum is at =
      let there = at_number later d u page (own v csum) is at in
      let same : own v csum ≡ slot sbid there.0 = (shared.now there.0 (own v csum) there.1).0 there.3 in
      absurd cc

  kept : (d u : List ℕ) (page v csum : ℕ) → IsPageAt width later d u page (own v csum) → IsPageAt width rows d u page (own v csum)
  kept d u page v csum at = elim (one_of c o d u from count page) [
    | inl is ↦ absurd (none_own d u page v csum is at)
    | inr differs ↦ (shared.others d u page (own v csum) differs).0 at
  ]

  -- ---- owners forward

  forward : (a : Owner) (v : ℕ) → Owns width rows a v → IsOwned width later v
  forward (page_of d u page) v (csum, at) = elim (one_of c o d u from count page) [
    | inl is ↦ moved is
    | inr differs ↦ (page_of d u page, (csum, (shared.others d u page (own v csum) differs).1 at))
  ]
    where
      moved : IsOneOf c o from count d u page → IsOwned width later v
      moved is =
          let there = at_number rows d u page (own v csum) is at in
          let was = shared.was there.0 there.1 in
          let unit_is : v ≡ unit + there.0 = ap own_unit (shared.one_place c o (from + there.0) _ _ there.3 was.1) in
          let slots = shared.each there.0 there.1 in (
            slot_of sbid there.0,
            (
              slots.0,
              (
                subst (λ w. HasSlot width later sbid there.0 w slots.0) (sym unit_is) slots.1,
                omega (arith, (shared.slots there.0 (unit + there.0) slots.0 slots.1).2),
              ),
            ),
          )
  forward (slot_of s k) v (x, (has, some)) = elim (number_cases s sbid) [
    | inl e ↦ absurd (shared.no_blob k v x (subst (λ n. HasSlot width rows n k v x) e has))
    | inr differs ↦ (slot_of s k, (x, ((shared.blobs s k v x differs).1 has, some)))
  ]

  -- ---- owners back: who a unit's owner was

  was_page : (k v : ℕ) (x : Slot) → HasSlot width later sbid k v x → (k < count) × ((csum : ℕ) × IsPageAt width rows c o (from + k) (own v csum))
  was_page k v x has =
      let is = shared.slots k v x has in
      let was = shared.was k is.0 in
      (is.0, (was.0, subst (λ w. IsPageAt width rows c o (from + k) (own w was.0)) (sym is.1) was.1))

  back : (a : Owner) (v : ℕ) → Owns width later a v → IsOwned width rows v
  back (page_of d u page) v (csum, at) = (page_of d u page, (csum, kept d u page v csum at))
  back (slot_of s k) v (x, (has, some)) = elim (number_cases s sbid) [
    | inl e ↦ (let page = was_page k v x (subst (λ n. HasSlot width later n k v x) e has) in (page_of c o (from + k), page.1))
    | inr differs ↦ (slot_of s k, (x, ((shared.blobs s k v x differs).0 has, some)))
  ]

  -- ---- one owner

  abbrev page_number : Owner → ℕ
  page_number (page_of d u page) = page
  page_number (slot_of s k) = 0

  abbrev coll_of : Owner → List ℕ
  coll_of (page_of d u page) = d
  coll_of (slot_of s k) = []

  abbrev object_of : Owner → List ℕ
  object_of (page_of d u page) = u
  object_of (slot_of s k) = []

  -- a page that stayed isn't one that moved
  apart : (d u : List ℕ) (page k v csum : ℕ) → k < count → IsPageAt width later d u page (own v csum) → page_of d u page ≡ page_of c o (from + k) → ⊥
  apart d u page k v csum small at same =
      none_own d u page v csum (record { coll = ap coll_of same; object = ap object_of same; low = omega (arith, ap page_number same); high = omega (arith, ap page_number same, small) }) at

  sole : (v : ℕ) → ((a b : Owner) → Owns width rows a v → Owns width rows b v → a ≡ b) → (a b : Owner) → Owns width later a v → Owns width later b v → a ≡ b
  sole v one (page_of d u page) (page_of e w other) (cs, at) (ct, bt) =
      one (page_of d u page) (page_of e w other) (cs, kept d u page v cs at) (ct, kept e w other v ct bt)
  sole v one (page_of d u page) (slot_of s k) (cs, at) (x, (has, some)) = elim (number_cases s sbid) [
    | inl e ↦ (let was = was_page k v x (subst (λ n. HasSlot width later n k v x) e has) in
        absurd (apart d u page k v cs was.0 at (one (page_of d u page) (page_of c o (from + k)) (cs, kept d u page v cs at) was.1)))
    | inr differs ↦ one (page_of d u page) (slot_of s k) (cs, kept d u page v cs at) (x, ((shared.blobs s k v x differs).0 has, some))
  ]
  sole v one (slot_of s k) (page_of d u page) (x, (has, some)) (cs, at) = elim (number_cases s sbid) [
    | inl e ↦ (let was = was_page k v x (subst (λ n. HasSlot width later n k v x) e has) in
        absurd (apart d u page k v cs was.0 at (one (page_of d u page) (page_of c o (from + k)) (cs, kept d u page v cs at) was.1)))
    | inr differs ↦ one (slot_of s k) (page_of d u page) (x, ((shared.blobs s k v x differs).0 has, some)) (cs, kept d u page v cs at)
  ]
  sole v one (slot_of s k) (slot_of t j) (x, (has, some)) (y, (hat, more)) = elim (number_cases s sbid) [
    | inl e ↦ elim (number_cases t sbid) [
      | inl f ↦ two_new e f
      | inr differs ↦ new_old k t j s x y e differs has hat more
    ]
    | inr differs ↦ elim (number_cases t sbid) [
      | inl f ↦ sym (new_old j s k t y x f differs hat has some)
      | inr not ↦ one (slot_of s k) (slot_of t j) (x, ((shared.blobs s k v x differs).0 has, some)) (y, ((shared.blobs t j v y not).0 hat, more))
    ]
  ]
    where
      two_new : s ≡ sbid → t ≡ sbid → slot_of s k ≡ slot_of t j
      two_new e f =
          let p = shared.slots k v x (subst (λ n. HasSlot width later n k v x) e has) in
          let q = shared.slots j v y (subst (λ n. HasSlot width later n j v y) f hat) in
          let indices : k ≡ j = omega (arith, p.1, q.1) in
          let blobs : s ≡ t = e ∙ sym f in
          λ i. slot_of (blobs i) (indices i)

      new_old : (m r n w : ℕ) (z z' : Slot) → w ≡ sbid → r ≢ sbid → HasSlot width later w m v z → HasSlot width later r n v z' → 0 < z'.count → slot_of w m ≡ slot_of r n
      new_old m r n w z z' e differs new old positive =
          let was = was_page m v z (subst (λ l. HasSlot width later l m v z) e new) in
          let same : page_of c o (from + m) ≡ slot_of r n = one (page_of c o (from + m)) (slot_of r n) was.1 (z', ((shared.blobs r n v z' differs).0 old, positive)) in
          absurd cc

  -- ---- counts

  names_new : (i : ℕ) (p : PageName) → i < count → Names width later sbid i p → p ≡ record { coll = c; object = o; page = from + i }
  names_new i p small names = elim (one_of c o p.coll p.object from count p.page) [
    | inr differs ↦ absurd (shared.no_page p i ((shared.others p.coll p.object p.page (slot sbid i) differs).0 names))
    | inl is ↦ (
        let there = at_number later p.coll p.object p.page (slot sbid i) is names in
        let index : i ≡ there.0 = ap slot_index ((shared.now there.0 (slot sbid i) there.1).0 there.3) in
        let page : p.page ≡ from + i = sym there.2 ∙ ap (λ n. from + n) (sym index) in
        λ j. record { coll = is.coll j; object = is.object j; page = page j })
  ]

  names_old : (other k : ℕ) (p : PageName) → other ≢ sbid → Names width later other k p ↔ Names width rows other k p
  names_old other k p differs = elim (one_of c o p.coll p.object from count p.page) [
    | inr not ↦ shared.others p.coll p.object p.page (slot other k) not
    | inl is ↦ (never is, ever is)
  ]
    where
      never : IsOneOf c o from count p.coll p.object p.page → Names width later other k p → Names width rows other k p
      never is names =
          let there = at_number later p.coll p.object p.page (slot other k) is names in
          absurd (differs (ap slot_number ((shared.now there.0 (slot other k) there.1).0 there.3)))

      ever : IsOneOf c o from count p.coll p.object p.page → Names width rows other k p → Names width later other k p
      ever is names =
          let there = at_number rows p.coll p.object p.page (slot other k) is names in
          let was = shared.was there.0 there.1 in
          let same : slot other k ≡ own (unit + there.0) was.0 = shared.one_place c o (from + there.0) _ _ there.3 was.1 in
          absurd cc

  alone : (p : PageName) (q : PageName) → Contains (p ∷ []) q → p ≡ q
  alone p q (zero, lt, is) = is
  alone p q (suc k, lt, is) = absurd (omega (arith, lt))

  new_count : (i : ℕ) → i < count → IsCounted width later sbid i 1
  new_count i small =
      let p : PageName = record { coll = c; object = o; page = from + i } in
      record {
        pages = p ∷ [];
        namers = record {
          each = λ q. (
            λ has. subst (Names width later sbid i) (alone p q has) ((shared.now i (slot sbid i) small).1 refl),
            λ names. (zero, omega arith, sym (names_new i q small names)),
          );
          once = ((λ has. omega (arith, has.1)), tt);
        };
        count_is = refl;
      }

  counts : ((s k v : ℕ) (x : Slot) → HasSlot width rows s k v x → IsCounted width rows s k x.count) → (s k v : ℕ) (x : Slot) → HasSlot width later s k v x → IsCounted width later s k x.count
  counts before s k v x has = elim (number_cases s sbid) [
    | inl e ↦ (
        let is = shared.slots k v x (subst (λ n. HasSlot width later n k v x) e has) in
        subst (λ n. IsCounted width later n k x.count) (sym e) (subst (IsCounted width later sbid k) (sym is.2) (new_count k is.0)))
    | inr differs ↦ (
        let was = before s k v x ((shared.blobs s k v x differs).0 has) in
        record {
          pages = was.pages;
          namers = record {
            each = λ p. (λ inside. (names_old s k p differs).1 ((was.namers.each p).0 inside), λ names. (was.namers.each p).1 ((names_old s k p differs).0 names));
            once = was.namers.once;
          };
          count_is = was.count_is;
        })
  ]

  -- ---- all of it

  pub stays_exact : (leaked : ℕ → Type 0) → IsExactBut width leaked rows → IsExactBut width leaked later
  stays_exact leaked exact = record {
    marked = λ v small is. ⊎_elim (λ owned. inl (forward owned.0 v owned.1))
        (λ was. inr (was.0, λ owned. was.1 (back owned.0 v owned.1))) (exact.marked v small (sym (shared.bits v) ∙ is));
    owned_marked = λ v owned. shared.bits v ∙ exact.owned_marked v (back owned.0 v owned.1);
    one_owner = λ v. sole v (exact.one_owner v);
    counts = counts exact.counts;
  }
