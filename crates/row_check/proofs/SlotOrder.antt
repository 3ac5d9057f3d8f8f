-- Slots with wrong counts, put among others in their order.
use Rattle.std.proofs.Common.{◌≡◌, ◌≢◌, ◌⊎◌, ◌↔◌, inl, inr, ℕ, zero, suc, ◌+◌, ◌<◌, ◌≤◌, List, [], ◌∷◌, ◌++◌, length, get_or, take, drop, Some, refl, sym, ap, subst, ◌∙◌, arith}
use Rattle.std.specs.Prelude.{slice_get}
use Rattle.std.specs.FinMap as map
use Rattle.std.specs.List.{insert, AllByRecursion}
use Rattle.std.proofs.lemmas.Bool.{cases_lt, cases_eq}
use Rattle.std.proofs.lemmas.Option.{get_or_from_slice_get, slice_get-get_or, slice_get_within}
use Rattle.std.proofs.lemmas.List.{get_or_default}
use Rattle.unit_fields.specs.declared.width.Width.{Width}
use Rattle.meta_rows.specs.Prelude.{Rows}
use Rattle.meta_log.specs.declared.slot.Super.{Super}
use Rattle.row_format.specs.Prelude.{Slot, blob, row_value, shared_key}
use Rattle.row_format.proofs.Prelude.{same_row}
use Rattle.store_image.specs.Prelude.{HasRow, HasSlot, IsCounted}
use Rattle.store_image.proofs.Prelude.{one_count}
use Rattle.ordered_lists.specs.Lists.{IsIn, Ascend, ListsAll}
use Rattle.ordered_lists.proofs.Joining.{in_front, in_back, each_in, all_joined, all_as}
use Rattle.findings.specs.Findings.{SlotCount, SlotBefore, IsWrongCount, IsSlotAmong}
use Rattle.row_check.specs.Tallies.{Tally, no_tally, Tallies, slot_count_of, GoesAt, IsWrongOf, AddsIfWrong, AddsWrongTo, AddsWrong, HasTally, AreTallied, AreWrongCounts}

-- ---- the order

-- the two are on one unit and of one blob
abbrev Tied : SlotCount → SlotCount → Type 0
Tied x y = (x.unit ≡ y.unit) × (x.sbid ≡ y.sbid)

before_trans : (x y z : SlotCount) → SlotBefore x y → SlotBefore y z → SlotBefore x z
before_trans x y z (inl a) (inl b) = inl (omega (arith, a, b))
before_trans x y z (inl a) (inr b) = inl (omega (arith, a, b.0))
before_trans x y z (inr a) (inl b) = inl (omega (arith, a.0, b))
before_trans x y z (inr a) (inr b) = inr (a.0 ∙ b.0, omega (arith, a.1, b.1))

before_or : (x y : SlotCount) → (SlotBefore x y → ⊥) → (Tied x y → ⊥) → SlotBefore y x
before_or x y other apart = elim (cases_lt y.unit x.unit) [
  | inl lt ↦ inl lt
  | inr ge ↦ elim (cases_lt x.unit y.unit) [
    | inl lt ↦ absurd (other (inl lt))
    | inr le ↦
        let unit : x.unit ≡ y.unit = omega (arith, ge, le) in
        elim (cases_lt y.sbid x.sbid) [
          | inl lt ↦ inr (sym unit, lt)
          | inr sge ↦ elim (cases_lt x.sbid y.sbid) [
            | inl lt ↦ absurd (other (inr (unit, lt)))
            | inr sle ↦ absurd (apart (unit, omega (arith, sge, sle)))
          ]
        ]
  ]
]

-- ---- a place among others

-- those in front come before it
front_before : (x : SlotCount) (ys : List SlotCount) (at : ℕ) → Ascend SlotBefore ys → at ≤ length ys
    → ((k : ℕ) → suc k ≡ at → (d : SlotCount) → SlotBefore x (get_or ys k d) → ⊥) → AllByRecursion (λ y. Tied x y → ⊥) ys
    → AllByRecursion (λ y. SlotBefore y x) (take at ys)
front_before x ys zero up within front apart = tt
front_before x [] (suc at) up within front apart = absurd (omega (arith, within))
front_before x (y ∷ ys) (suc zero) up within front apart = (before_or x y (front zero refl y) apart.0, tt)
front_before x (y ∷ []) (suc (suc at)) up within front apart = absurd (omega (arith, within))
front_before x (y ∷ z ∷ ys) (suc (suc at)) up within front apart =
    let rest = front_before x (z ∷ ys) (suc at) up.1 (omega (arith, within)) (λ k e d. front (suc k) (ap suc e) d) apart.1 in
    (before_trans y z x up.0.0 rest.0, rest)

all_front : (P : SlotCount → Type 0) (at : ℕ) (ys : List SlotCount) → AllByRecursion P ys → AllByRecursion P (take at ys) × AllByRecursion P (drop at ys)
all_front P zero ys all = (tt, all)
all_front P (suc at) [] all = (tt, tt)
all_front P (suc at) (y ∷ ys) all = let rest = all_front P at ys all.1 in ((all.0, rest.0), rest.1)

put_ascends : (x : SlotCount) (at : ℕ) (ys : List SlotCount) → Ascend SlotBefore ys → AllByRecursion (λ y. SlotBefore y x) (take at ys)
    → AllByRecursion (SlotBefore x) (drop at ys) → Ascend SlotBefore (take at ys ++ x ∷ drop at ys)
put_ascends x zero ys up front behind = (behind, up)
put_ascends x (suc at) [] up front behind = (tt, tt)
put_ascends x (suc at) (y ∷ ys) up front behind =
    let parts = all_front (SlotBefore y) at ys up.0 in
    (all_joined (SlotBefore y) (take at ys) (x ∷ drop at ys) parts.0 (front.0, parts.1), put_ascends x at ys up.1 front.1 behind)

pub ascends_with : (counts : List SlotCount) (x : SlotCount) (at : ℕ) → GoesAt counts x at → Ascend SlotBefore counts
    → AllByRecursion (λ y. Tied x y → ⊥) counts → Ascend SlotBefore (insert counts at x)
ascends_with counts x at goes up apart =
    put_ascends x at counts up (front_before x counts at up goes.within (λ k e d less. goes.front k e d less) apart) goes.behind

-- what is in the list then
in_parts : (at : ℕ) (ys : List SlotCount) (y : SlotCount) → IsIn y ys → IsIn y (take at ys) ⊎ IsIn y (drop at ys)
in_parts zero ys y is = inr is
in_parts (suc at) [] y is = absurd is
in_parts (suc at) (z ∷ ys) y (inl same) = inl (inl same)
in_parts (suc at) (z ∷ ys) y (inr is) = elim (in_parts at ys y is) [ inl front ↦ inl (inr front) | inr back ↦ inr back ]

parts_in : (at : ℕ) (ys : List SlotCount) (y : SlotCount) → IsIn y (take at ys) ⊎ IsIn y (drop at ys) → IsIn y ys
parts_in zero ys y (inr is) = is
parts_in zero ys y (inl is) = absurd is
parts_in (suc at) [] y (inl is) = absurd is
parts_in (suc at) [] y (inr is) = absurd is
parts_in (suc at) (z ∷ ys) y (inl (inl same)) = inl same
parts_in (suc at) (z ∷ ys) y (inl (inr is)) = inr (parts_in at ys y (inl is))
parts_in (suc at) (z ∷ ys) y (inr is) = inr (parts_in at ys y (inr is))

joined_in : (xs ys : List SlotCount) (y : SlotCount) → IsIn y (xs ++ ys) → IsIn y xs ⊎ IsIn y ys
joined_in [] ys y is = inr is
joined_in (x ∷ xs) ys y (inl same) = inl (inl same)
joined_in (x ∷ xs) ys y (inr is) = elim (joined_in xs ys y is) [ inl front ↦ inl (inr front) | inr back ↦ inr back ]

pub in_put : (counts : List SlotCount) (x : SlotCount) (at : ℕ) (y : SlotCount) → IsIn y (insert counts at x) ↔ (IsIn y counts ⊎ (x ≡ y))
in_put counts x at y = (
  λ is. elim (joined_in (take at counts) (x ∷ drop at counts) y is) [
    | inl front ↦ inl (parts_in at counts y (inl front))
    | inr (inl same) ↦ inr same
    | inr (inr back) ↦ inl (parts_in at counts y (inr back))
  ],
  λ q. elim q [
    | inl is ↦ elim (in_parts at counts y is) [
      | inl front ↦ in_front y (take at counts) (x ∷ drop at counts) front
      | inr back ↦ in_back y (take at counts) (x ∷ drop at counts) (inr back)
    ]
    | inr same ↦ in_back y (take at counts) (x ∷ drop at counts) (inl same)
  ],
)

-- ---- the slots of one blob

pub none_added : (t : Tally) (old : List SlotCount) → AddsWrongTo t 0 old old
none_added t old = record {
  has = λ x. (inl, λ q. elim q [ inl is ↦ is | inr none ↦ absurd (omega (arith, none.inside)) ]);
  ascend = λ up others. up;
}

module _ (t : Tally) (k : ℕ) (old new : List SlotCount) (so_far : AddsWrongTo t k old new) where
  wider : (y : SlotCount) → IsWrongOf t k y → IsWrongOf t (k + 1) y
  wider y w = record { inside = omega (arith, w.inside); is = w.is; wrong = w.wrong }

  before_or_this : (y : SlotCount) → IsWrongOf t (k + 1) y → IsWrongOf t k y ⊎ ((slot_count_of t k ≡ y) × (y.counted ≢ y.kept))
  before_or_this y w = elim (cases_lt y.index k) [
    | inl lt ↦ inl (record { inside = lt; is = w.is; wrong = w.wrong })
    | inr ge ↦ let here : k ≡ y.index = omega (arith, ge, w.inside) in inr (ap (slot_count_of t) here ∙ sym w.is, w.wrong)
  ]

  pub right_passed : (x : SlotCount) → x ≡ slot_count_of t k → x.kept ≡ x.counted → AddsWrongTo t (k + 1) old new
  right_passed x is right = record {
    has = λ y. (
      λ in_new. elim ((so_far.has y).0 in_new) [ inl in_old ↦ inl in_old | inr w ↦ inr (wider y w) ],
      λ q. (so_far.has y).1 (elim q [
        | inl in_old ↦ inl in_old
        | inr w ↦ elim (before_or_this y w) [
          | inl before ↦ inr before
          | inr this ↦ absurd (this.1 (subst (λ (z : SlotCount). z.counted ≡ z.kept) (is ∙ this.0) (sym right)))
        ]
      ]),
    );
    ascend = so_far.ascend;
  }

  pub wrong_put : (x : SlotCount) (at : ℕ) → x ≡ slot_count_of t k → x.kept ≢ x.counted → GoesAt new x at → AddsWrongTo t (k + 1) old (insert new at x)
  wrong_put x at is wrong goes = record {
    has = λ y. (
      λ in_put_list. elim ((in_put new x at y).0 in_put_list) [
        | inl in_new ↦ elim ((so_far.has y).0 in_new) [ inl in_old ↦ inl in_old | inr w ↦ inr (wider y w) ]
        | inr same ↦ inr (subst (IsWrongOf t (k + 1)) same this)
      ],
      λ q. (in_put new x at y).1 (elim q [
        | inl in_old ↦ inl ((so_far.has y).1 (inl in_old))
        | inr w ↦ elim (before_or_this y w) [
          | inl before ↦ inl ((so_far.has y).1 (inr before))
          | inr this ↦ inr (is ∙ this.0)
        ]
      ]),
    );
    ascend = λ up others. ascends_with new x at goes (so_far.ascend up others) (apart_all new (λ y in_new. apart y ((so_far.has y).0 in_new) others));
  }
    where
      number_is : x.index ≡ k
      number_is = ap (λ (z : SlotCount). z.index) is

      this : IsWrongOf t (k + 1) x
      this = record { inside = omega (arith, number_is); is = is ∙ ap (slot_count_of t) (sym number_is); wrong = λ e. wrong (sym e) }

      apart : (y : SlotCount) → IsIn y old ⊎ IsWrongOf t k y → AllByRecursion (λ z. z.sbid ≢ t.sbid) old → Tied x y → ⊥
      apart y (inl in_old) others tied = each_in (λ z. z.sbid ≢ t.sbid) old y others in_old (sym tied.1 ∙ ap (λ (z : SlotCount). z.sbid) is)
      apart y (inr w) others tied = omega (
        arith,
        tied.0,
        ap (λ (z : SlotCount). z.unit) is,
        ap (λ (z : SlotCount). z.unit) w.is,
        w.inside,
      )

      apart_all : (ys : List SlotCount) → ((y : SlotCount) → IsIn y ys → Tied x y → ⊥) → AllByRecursion (λ y. Tied x y → ⊥) ys
      apart_all [] each = tt
      apart_all (y ∷ ys) each = (each y (inl refl), apart_all ys (λ z is. each z (inr is)))

-- the slot is added if it is wrong
pub one_added : (t : Tally) (k : ℕ) (old new next : List SlotCount) (x : SlotCount) → AddsWrongTo t k old new → x ≡ slot_count_of t k → AddsIfWrong x new next
    → AddsWrongTo t (k + 1) old next
one_added t k old new next x so_far is (inl right) = subst (AddsWrongTo t (k + 1) old) (sym right.1) (right_passed t k old new so_far x is right.0)
one_added t k old new next x so_far is (inr put) = subst (AddsWrongTo t (k + 1) old) (sym put.1.1.1) (wrong_put t k old new so_far x put.1.0 is put.0 put.1.1.0)

-- ---- all blobs

-- a slot with a wrong count of one of the first blobs
record IsWrongAt (list : List Tally) (at : ℕ) (x : SlotCount) : Type 0 where
  place : ℕ
  before : place < at
  within : place < length list
  is : IsWrongOf (get_or list place no_tally) (length (get_or list place no_tally).slots) x

pub record AreWrongTo (list : List Tally) (at : ℕ) (counts : List SlotCount) : Type 0 where
  has : (x : SlotCount) → IsIn x counts ↔ IsWrongAt list at x
  ascend : Ascend SlotBefore counts

pub none_wrong : (list : List Tally) → AreWrongTo list 0 []
none_wrong list = record { has = λ x. (λ is. absurd is, λ w. absurd (omega (arith, w.before))); ascend = tt }

module _ (w : Width) (rows : Rows) (t : Tallies) (are : AreTallied w rows t) where
  -- another place, another blob
  other_blob : (i j : ℕ) → i < length t.list → j < length t.list → (get_or t.list i no_tally).sbid ≡ (get_or t.list j no_tally).sbid → i ≡ j
  other_blob i j li lj same = number (sym (are.places i li) ∙ ap (λ n. map.get t.places (shared_key n)) same ∙ are.places j lj)
    where
      number : {a b : ℕ} → Some a ≡ Some b → a ≡ b
      number e = cc

  -- as a loop sees one
  pub tally_of : (xs : List Tally) (at : ℕ) (x : Tally) → xs ≡ t.list → at < length xs → x ≡ get_or xs at x → HasTally w rows (IsCounted w rows) x
  tally_of xs at x list within is =
      let inside : at < length t.list = omega (arith, within, ap length list) in
      subst (HasTally w rows (IsCounted w rows)) (sym (is ∙ ap (λ (l : List Tally). get_or l at x) list ∙ get_or_default t.list at x no_tally inside))
      (are.has at inside)

  module _ (at : ℕ) (x : Tally) (within : at < length t.list) (is : x ≡ get_or t.list at x) (counts new : List SlotCount) (adds : AddsWrong x counts new) where
    here : x ≡ get_or t.list at no_tally
    here = is ∙ get_or_default t.list at x no_tally within

    pub blob_added : AreWrongTo t.list at counts → AreWrongTo t.list (at + 1) new
    blob_added so_far = record {
      has = λ y. (
        λ in_new. elim ((adds.has y).0 in_new) [
          | inl in_old ↦ (let w = (so_far.has y).0 in_old in record { place = w.place; before = omega (arith, w.before); within = w.within; is = w.is })
          | inr w ↦ record {
            place = at;
            before = omega arith;
            within = within;
            is = subst (λ (z : Tally). IsWrongOf z (length z.slots) y) here w;
          }
        ],
        λ w. (adds.has y).1 (elim (cases_lt w.place at) [
          | inl lt ↦ inl ((so_far.has y).1 (record { place = w.place; before = lt; within = w.within; is = w.is }))
          | inr ge ↦
              let same : w.place ≡ at = omega (arith, ge, w.before) in
              inr (subst (λ (z : Tally). IsWrongOf z (length z.slots) y) (ap (λ n. get_or t.list n no_tally) same ∙ sym here) w.is)
        ]),
      );
      ascend = adds.ascend so_far.ascend (others counts (λ y in_old. other y ((so_far.has y).0 in_old)));
    }
      where
        other : (y : SlotCount) → IsWrongAt t.list at y → y.sbid ≢ x.sbid
        other y w same =
            let place = other_blob w.place at w.within within
            (sym (ap (λ (z : SlotCount). z.sbid) w.is.is) ∙ same ∙ ap (λ (z : Tally). z.sbid) here) in
            omega (arith, place, w.before)

        others : (ys : List SlotCount) → ((y : SlotCount) → IsIn y ys → y.sbid ≢ x.sbid) → AllByRecursion (λ y. y.sbid ≢ x.sbid) ys
        others [] each = tt
        others (y ∷ ys) each = (each y (inl refl), others ys (λ z is. each z (inr is)))

  -- ---- at the end

  -- a slot of the store, by the tally of its blob
  record SlotTally (sbid index unit : ℕ) (is : Slot) : Type 0 where
    at : ℕ
    within : at < length t.list
    sbid_is : (get_or t.list at no_tally).sbid ≡ sbid
    inside : index < length (get_or t.list at no_tally).slots
    unit_is : (get_or t.list at no_tally).first + index ≡ unit
    slot_is : get_or (get_or t.list at no_tally).slots index (record { csum = 0; count = 0 }) ≡ is
    counted : IsCounted w rows sbid index (get_or (get_or t.list at no_tally).named index 0)

  slot_tally : (sbid index unit : ℕ) (is : Slot) → HasSlot w rows sbid index unit is → SlotTally sbid index unit is
  slot_tally sbid index unit is has =
      let a = are.all sbid (has.first, has.slots, has.has_blob) in
      let x : Tally = get_or t.list a.0 no_tally in
      let tally : HasTally w rows (IsCounted w rows) x = are.has a.0 a.1.0 in
      let mine : HasRow w rows (blob sbid x.first x.slots) = subst (λ n. HasRow w rows (blob n x.first x.slots)) a.1.1 tally.has_blob in
      let same : blob sbid x.first x.slots ≡ blob sbid has.first has.slots = same_row w (blob sbid x.first x.slots) (blob sbid has.first has.slots)
      mine.fits has.has_blob.fits refl (bytes (sym mine.stands ∙ has.has_blob.stands)) in
      let slots : x.slots ≡ has.slots = slots_of same in
      let inside : index < length x.slots = subst (λ (l : List Slot). index < length l) (sym slots) (slice_get_within has.slots index is has.there) in
      record {
        at = a.0;
        within = a.1.0;
        sbid_is = a.1.1;
        inside = inside;
        unit_is = omega (arith, has.at_is, first_of same);
        slot_is = ap (λ (l : List Slot). get_or l index (record { csum = 0; count = 0 })) slots ∙ get_or_from_slice_get has.slots index is (record { csum = 0; count = 0 }) has.there;
        counted = subst (λ n. IsCounted w rows n index (get_or x.named index 0)) a.1.1 (tally.counted index inside);
      }
    where
      bytes : {x y : List ℕ} → Some x ≡ Some y → x ≡ y
      bytes e = cc

      slots_of : {a b c d : ℕ} {xs ys : List Slot} → blob a c xs ≡ blob b d ys → xs ≡ ys
      slots_of e = cc

      first_of : {a b c d : ℕ} {xs ys : List Slot} → blob a c xs ≡ blob b d ys → c ≡ d
      first_of e = cc

  -- each of them has a wrong count
  wrong_here : (place k : ℕ) → place < length t.list → k < length (get_or t.list place no_tally).slots
      → (slot_count_of (get_or t.list place no_tally) k).counted ≢ (slot_count_of (get_or t.list place no_tally) k).kept
      → IsWrongCount w rows (slot_count_of (get_or t.list place no_tally) k)
  wrong_here place k within inside differs =
      let x : Tally = get_or t.list place no_tally in
      let tally : HasTally w rows (IsCounted w rows) x = are.has place within in
      record {
        is = get_or x.slots k (record { csum = 0; count = 0 });
        has_slot = record { first = x.first; slots = x.slots; has_blob = tally.has_blob; there = slice_get-get_or x.slots k (record { csum = 0; count = 0 }) inside; at_is = refl };
        is_kept = refl;
        is_counted = tally.counted k inside;
        differs = differs;
      }

  pub all_wrong : (at : ℕ) → length t.list ≤ at → (counts : List SlotCount) → AreWrongTo t.list at counts → AreWrongCounts w rows counts
  all_wrong at end counts are_wrong = record {
    lists = record { ascend = are_wrong.ascend; each = each_of counts (λ y in_counts. of_wrong y ((are_wrong.has y).0 in_counts)); all = all };
    right = right;
  }
    where
      of_wrong : (y : SlotCount) → IsWrongAt t.list at y → IsWrongCount w rows y
      of_wrong y wrong =
          let x : Tally = get_or t.list wrong.place no_tally in
          subst (IsWrongCount w rows) (sym wrong.is.is) (wrong_here wrong.place y.index wrong.within wrong.is.inside
          (λ e. wrong.is.wrong (ap (λ (z : SlotCount). z.counted) wrong.is.is ∙ e ∙ sym (ap (λ (z : SlotCount). z.kept) wrong.is.is))))

      each_of : (ys : List SlotCount) → ((y : SlotCount) → IsIn y ys → IsWrongCount w rows y) → AllByRecursion (IsWrongCount w rows) ys
      each_of [] each = tt
      each_of (y ∷ ys) each = (each y (inl refl), each_of ys (λ z is. each z (inr is)))

      all : (y : SlotCount) → IsWrongCount w rows y → IsIn y counts
      all y wrong =
          let s = slot_tally y.sbid y.index y.unit wrong.is wrong.has_slot in
          let x : Tally = get_or t.list s.at no_tally in
          let counted : y.counted ≡ get_or x.named y.index 0 = one_count w rows y.sbid y.index y.counted (get_or x.named y.index 0) wrong.is_counted s.counted in
          let kept : y.kept ≡ (get_or x.slots y.index (record { csum = 0; count = 0 })).count = wrong.is_kept ∙ sym (ap (λ (z : Slot). z.count) s.slot_is) in
          (are_wrong.has y).1 (record {
            place = s.at;
            before = omega (arith, s.within, end);
            within = s.within;
            is = record {
              inside = s.inside;
              is = λ i. record { unit = sym s.unit_is i; sbid = sym s.sbid_is i; index = y.index; kept = kept i; counted = counted i };
              wrong = λ e. wrong.differs (e ∙ wrong.is_kept);
            };
          })

      right : (sbid index unit : ℕ) (is : Slot) → HasSlot w rows sbid index unit is → IsSlotAmong counts sbid index ⊎ IsCounted w rows sbid index is.count
      right sbid index unit is has =
          let s = slot_tally sbid index unit is has in
          let x : Tally = get_or t.list s.at no_tally in
          let slot : (get_or x.slots index (record { csum = 0; count = 0 })).count ≡ is.count = ap (λ (z : Slot). z.count) s.slot_is in
          elim (cases_eq (get_or x.named index 0) is.count) [
            | inl same ↦ inr (subst (IsCounted w rows sbid index) same s.counted)
            | inr differs ↦ inl (
              slot_count_of x index,
              (
                (are_wrong.has (slot_count_of x index)).1 (record {
                  place = s.at;
                  before = omega (arith, s.within, end);
                  within = s.within;
                  is = record { inside = s.inside; is = refl; wrong = λ e. differs (e ∙ slot) };
                }),
                (s.sbid_is, refl),
              ),
            )
          ]
