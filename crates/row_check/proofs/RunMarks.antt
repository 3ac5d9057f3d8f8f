-- The marks of consecutive pages, of extents and of rows.
use Rattle.std.proofs.Common.{◌≡◌, ◌⊎◌, ◌↔◌, inl, inr, ℕ, zero, suc, ◌+◌, ◌-◌, ◌<◌, ◌≤◌, Bool, true, false, cond, List, [], ◌∷◌, length, Option, Some, refl, sym, ap, subst, ◌∙◌, arith}
use Rattle.std.specs.Prelude.{nat_le, nat_lt, ◌&&◌, slice_index, slice_get}
use Rattle.std.specs.List.{AllByRecursion}
use Rattle.std.proofs.lemmas.Bool.{cases_Bool, cases_lt, ltb-true, leb-true, lt-ltb, le-leb}
use Rattle.std.proofs.lemmas.List.{length-set}
use Rattle.row_format.specs.Prelude.{Body, private, shared, page_count, Extent, page_end, ExtentsAscend, Place, own, slot, place_in, place_of, BeginsAt, Slot}
use Rattle.row_format.specs.Row as format
use Rattle.row_format.proofs.Prelude.{is_shard_or_none}
use Rattle.store_image.specs.Prelude.{Owner, page_of, slot_of}
use Rattle.row_check.specs.Marks.{Marks, one_page_more, run_marked, body_marked, extents_marked, slot_marked, slots_marked, BlobRow, no_blob, blob_in, row_marked, EndsBy, AllEndBy, RowEndsBy}
use Rattle.row_check.proofs.OneMark.{Tells, HasUnits, tells_same, one_more_tells}

-- ---- how many units have marks

pub run_units : (units : ℕ) (m : Marks) (first n : ℕ) → HasUnits units m → HasUnits units (run_marked m first n)
run_units units m first zero has = has
run_units units m first (suc n) has =
    let before = run_units units m first n has in
    record { owned = length-set _ (first + n) _ ∙ before.owned; shared = length-set _ (first + n) _ ∙ before.shared }

pub body_units : (units : ℕ) (m : Marks) (body : Body) → HasUnits units m → HasUnits units (body_marked m body)
body_units units m (private unit csums) has = run_units units m unit (length csums) has
body_units units m (shared sbid first count) has = has

extents_units : (units : ℕ) (es : List Extent) (m : Marks) → HasUnits units m → HasUnits units (extents_marked m es)
extents_units units [] m has = has
extents_units units (e ∷ es) m has = extents_units units es (body_marked m e.body) (body_units units m e.body has)

one_units : (units : ℕ) (m : Marks) (unit : ℕ) → HasUnits units m → HasUnits units (one_page_more m unit)
one_units units m unit has = record { owned = length-set _ unit _ ∙ has.owned; shared = length-set _ unit _ ∙ has.shared }

pub slot_units : (units : ℕ) (m : Marks) (unit : ℕ) (x : Slot) → HasUnits units m → HasUnits units (slot_marked m unit x)
slot_units units m unit x has = elim (nat_lt 0 x.count) as (λ b. HasUnits units (cond b (one_page_more m unit) m)) [
  | true ↦ one_units units m unit has
  | false ↦ has
]

pub slots_units : (units : ℕ) (xs : List Slot) (m : Marks) (unit : ℕ) → HasUnits units m → HasUnits units (slots_marked m unit xs)
slots_units units [] m unit has = has
slots_units units (x ∷ xs) m unit has = slots_units units xs (slot_marked m unit x) (suc unit) (slot_units units m unit x has)

pub row_units : (units : ℕ) (row : format.Row) (m : Marks) → HasUnits units m → HasUnits units (row_marked m row)
row_units units row m has =
    slots_units units (blob_in row).slots (extents_marked m (format.shard_in row).extents) (blob_in row).first
    (extents_units units (format.shard_in row).extents m has)

-- ---- consecutive pages

module _ (owner : ℕ → Owner) (differ : (i j : ℕ) → owner i ≡ owner j → i ≡ j) where
  -- the k-th owner has the unit
  record RunOwns (first n : ℕ) (a : Owner) (v : ℕ) : Type 0 where
    pub k : ℕ
    pub small : k < n
    pub owner_is : a ≡ owner k
    pub unit_is : v ≡ first + k

  wider : (first n : ℕ) (a : Owner) (v : ℕ) → RunOwns first n a v → RunOwns first (suc n) a v
  wider first n a v r = record { k = r.k; small = omega (arith, r.small); owner_is = r.owner_is; unit_is = r.unit_is }

  last_or_before : (first n : ℕ) (a : Owner) (v : ℕ) → RunOwns first (suc n) a v → RunOwns first n a v ⊎ ((a ≡ owner n) × (v ≡ first + n))
  last_or_before first n a v r = elim (cases_lt r.k n) [
    | inl lt ↦ inl (record { k = r.k; small = lt; owner_is = r.owner_is; unit_is = r.unit_is })
    | inr ge ↦ let e : r.k ≡ n = omega (arith, ge, r.small) in inr (r.owner_is ∙ ap owner e, r.unit_is ∙ ap (λ k. first + k) e)
  ]

  module _ (P : Owner → ℕ → Type 0) (m : Marks) (first units : ℕ) (old : Tells P m) (has : HasUnits units m) where
    run_tells : (n : ℕ) → first + n ≤ units → ((k v : ℕ) → k < n → P (owner k) v → ⊥)
        → Tells (λ a v. P a v ⊎ RunOwns first n a v) (run_marked m first n)
    run_tells zero within apart = tells_same P _ m (λ a v. (inl, λ q. elim q [ inl p ↦ p | inr r ↦ absurd (omega (arith, r.small)) ])) old
    run_tells (suc n) within apart =
        let before = run_tells n (omega (arith, within)) (λ k v lt. apart k v (omega (arith, lt))) in
        let wide = run_units units m first n has in
        tells_same _ _ _ same (one_more_tells _ (run_marked m first n) (owner n) (first + n) before
        (omega (arith, within, wide.owned)) (omega (arith, within, wide.shared)) fresh)
      where
        fresh : (v : ℕ) → P (owner n) v ⊎ RunOwns first n (owner n) v → ⊥
        fresh v either = elim either [
          | inl p ↦ apart n v (omega arith) p
          | inr r ↦ omega (arith, differ n r.k r.owner_is, r.small)
        ]

        same : (a : Owner) (v : ℕ) → ((P a v ⊎ RunOwns first n a v) ⊎ ((a ≡ owner n) × (v ≡ first + n))) ↔ (P a v ⊎ RunOwns first (suc n) a v)
        same a v = (
          λ q. elim q [
            | inl x ↦ elim x [ inl p ↦ inl p | inr r ↦ inr (wider first n a v r) ]
            | inr e ↦ inr (record { k = n; small = omega arith; owner_is = e.0; unit_is = e.1 })
          ],
          λ q. elim q [
            | inl p ↦ inl (inl p)
            | inr r ↦ elim (last_or_before first n a v r) [ inl x ↦ inl (inr x) | inr e ↦ inr e ]
          ],
        )

-- ---- extents

test_of : (e : Extent) (page : ℕ) → e.first ≤ page → page < page_end e → (nat_le e.first page && nat_lt page (page_end e)) ≡ true
test_of e page le lt = ap (λ b. b && nat_lt page (page_end e)) (le-leb _ _ le) ∙ lt-ltb _ _ lt

of_test : (e : Extent) (page : ℕ) → (nat_le e.first page && nat_lt page (page_end e)) ≡ true → (e.first ≤ page) × (page < page_end e)
of_test e page is = elim (nat_le e.first page) as
    (λ b. nat_le e.first page ≡ b → (b && nat_lt page (page_end e)) ≡ true → (e.first ≤ page) × (page < page_end e)) [
      | true ↦ λ p t. (leb-true _ _ p, ltb-true _ _ t)
      | false ↦ λ p t. absurd cc
    ] refl is

abbrev by_test : Extent → List Extent → ℕ → Bool → Option Place
by_test e es page b = cond b (Some (place_in e.body (page - e.first))) (place_of es page)

-- the first extent has the page, or one behind it has
pub place_cases : (e : Extent) (es : List Extent) (page : ℕ) (place : Place) → place_of (e ∷ es) page ≡ Some place
    → ((k : ℕ) × (k < page_count e.body) × (page ≡ e.first + k) × (place ≡ place_in e.body k)) ⊎ (place_of es page ≡ Some place)
place_cases e es page place is = elim (cases_Bool (nat_le e.first page && nat_lt page (page_end e))) [
  | inl t ↦
      let here = of_test e page t in
      let two : Some place ≡ Some (place_in e.body (page - e.first)) = sym is ∙ ap (by_test e es page) t in
      inl (page - e.first, omega (arith, here.0, here.1), omega (arith, here.0), cc)
  | inr f ↦ inr (sym (ap (by_test e es page) f) ∙ is)
]

pub first_has : (e : Extent) (es : List Extent) (k : ℕ) → k < page_count e.body → place_of (e ∷ es) (e.first + k) ≡ Some (place_in e.body k)
first_has e es k lt =
    let back : (e.first + k) - e.first ≡ k = omega arith in
    ap (by_test e es (e.first + k)) (test_of e (e.first + k) (omega arith) (omega (arith, lt))) ∙ ap (λ n. Some (place_in e.body n)) back

pub page_from : (es : List Extent) (page least : ℕ) (place : Place) → place_of es page ≡ Some place
    → AllByRecursion (λ e. least ≤ e.first) es → least ≤ page
page_from [] page least place is all = absurd cc
page_from (e ∷ es) page least place is all = elim (place_cases e es page place is) [
  | inl h ↦ omega (arith, h.2, all.0)
  | inr h ↦ page_from es page least place h all.1
]

pub page_below : (es : List Extent) (page limit : ℕ) (place : Place) → place_of es page ≡ Some place
    → AllByRecursion (λ e. page_end e ≤ limit) es → page < limit
page_below [] page limit place is all = absurd cc
page_below (e ∷ es) page limit place is all = elim (place_cases e es page place is) [
  | inl h ↦ omega (arith, h.1, h.2, all.0)
  | inr h ↦ page_below es page limit place h all.1
]

-- the pages of a shard begin at the page of its key
pub page_of_shard : (es : List Extent) (page first : ℕ) (place : Place) → place_of es page ≡ Some place → BeginsAt first es → ExtentsAscend es → first ≤ page
page_of_shard [] page first place is begins ascend = absurd begins
page_of_shard (e ∷ es) page first place is begins ascend = elim (place_cases e es page place is) [
  | inl h ↦ omega (arith, h.2, begins)
  | inr h ↦ omega (arith, begins, page_from es page (page_end e) place h ascend.0)
]

pub later_has : (e : Extent) (es : List Extent) (page : ℕ) (place : Place) → AllByRecursion (λ later. page_end e ≤ later.first) es
    → place_of es page ≡ Some place → place_of (e ∷ es) page ≡ Some place
later_has e es page place behind is = elim (cases_Bool (nat_le e.first page && nat_lt page (page_end e))) [
  | inl t ↦ absurd (omega (arith, (of_test e page t).1, page_from es page (page_end e) place is behind))
  | inr f ↦ ap (by_test e es page) f ∙ is
]

same_number : (c o d u : List ℕ) (i j : ℕ) → page_of c o i ≡ page_of d u j → i ≡ j
same_number c o d u i j e = cc

same_unit : (a b u k : ℕ) → own a b ≡ own u k → a ≡ u
same_unit a b u k e = cc

-- a slot is no unit of an object's own
no_unit : (sbid index unit csum : ℕ) → slot sbid index ≡ own unit csum → ⊥
no_unit sbid index unit csum e = cc

module _ (c o : List ℕ) where
  -- the object's page in one of the extents owns the unit
  pub record ExtentsOwn (es : List Extent) (a : Owner) (v : ℕ) : Type 0 where
    pub page : ℕ
    pub csum : ℕ
    pub owner_is : a ≡ page_of c o page
    pub found : place_of es page ≡ Some (own v csum)

  -- the page number k of those that stand there
  record BodyOwns (first : ℕ) (body : Body) (a : Owner) (v : ℕ) : Type 0 where
    pub k : ℕ
    pub small : k < page_count body
    pub owner_is : a ≡ page_of c o (first + k)
    pub csum : ℕ
    pub place_is : place_in body k ≡ own v csum

  pages_differ : (first i j : ℕ) → page_of c o (first + i) ≡ page_of c o (first + j) → i ≡ j
  pages_differ first i j e = omega (arith, same_number c o c o (first + i) (first + j) e)

  body_tells : (P : Owner → ℕ → Type 0) (m : Marks) (units first : ℕ) (body : Body) → Tells P m → HasUnits units m → EndsBy units body
      → ((a : Owner) (v w : ℕ) → BodyOwns first body a v → P a w → ⊥) → Tells (λ a v. P a v ⊎ BodyOwns first body a v) (body_marked m body)
  body_tells P m units first (shared sbid index count) old has ends apart =
      tells_same P _ m (λ a v. (inl, λ q. elim q [ inl p ↦ p | inr b ↦ absurd (no_unit sbid (index + b.k) v b.csum b.place_is) ])) old
  body_tells P m units first (private unit csums) old has ends apart =
      tells_same _ _ _ same (run_tells (λ k. page_of c o (first + k)) (pages_differ first) P m unit units old has (length csums) ends run_apart)
    where
      run_apart : (k v : ℕ) → k < length csums → P (page_of c o (first + k)) v → ⊥
      run_apart k v lt p = apart (page_of c o (first + k)) (unit + k) v
          (record { k = k; small = lt; owner_is = refl; csum = slice_index csums k; place_is = refl }) p

      same : (a : Owner) (v : ℕ) → (P a v ⊎ RunOwns (λ k. page_of c o (first + k)) (pages_differ first) unit (length csums) a v)
          ↔ (P a v ⊎ BodyOwns first (private unit csums) a v)
      same a v = (
        λ q. elim q [
          | inl p ↦ inl p
          | inr r ↦ inr (record {
            k = r.k;
            small = r.small;
            owner_is = r.owner_is;
            csum = slice_index csums r.k;
            place_is = ap (λ u. own u (slice_index csums r.k)) (sym r.unit_is);
          })
        ],
        λ q. elim q [
          | inl p ↦ inl p
          | inr b ↦ inr (record {
            k = b.k;
            small = b.small;
            owner_is = b.owner_is;
            unit_is = sym (same_unit (unit + b.k) (slice_index csums b.k) v b.csum b.place_is);
          })
        ],
      )

  extents_tells : (es : List Extent) (P : Owner → ℕ → Type 0) (m : Marks) (units : ℕ) → Tells P m → HasUnits units m → AllEndBy units es → ExtentsAscend es
      → ((a : Owner) (v w : ℕ) → ExtentsOwn es a v → P a w → ⊥) → Tells (λ a v. P a v ⊎ ExtentsOwn es a v) (extents_marked m es)
  extents_tells [] P m units old has ends ascend apart =
      tells_same P _ m (λ a v. (inl, λ q. elim q [ inl p ↦ p | inr x ↦ absurd (let t = x.found in cc) ])) old
  extents_tells (e ∷ es) P m units old has ends ascend apart =
      tells_same _ _ _ same (extents_tells es (λ a v. P a v ⊎ BodyOwns e.first e.body a v) (body_marked m e.body) units
      (body_tells P m units e.first e.body old has ends.0 first_apart) (body_units units m e.body has) ends.1 ascend.1 later_apart)
    where
      of_first : (a : Owner) (v : ℕ) → BodyOwns e.first e.body a v → ExtentsOwn (e ∷ es) a v
      of_first a v b = record {
        page = e.first + b.k;
        csum = b.csum;
        owner_is = b.owner_is;
        found = first_has e es b.k b.small ∙ ap Some b.place_is;
      }

      of_later : (a : Owner) (v : ℕ) → ExtentsOwn es a v → ExtentsOwn (e ∷ es) a v
      of_later a v x = record {
        page = x.page;
        csum = x.csum;
        owner_is = x.owner_is;
        found = later_has e es x.page (own v x.csum) ascend.0 x.found;
      }

      first_apart : (a : Owner) (v w : ℕ) → BodyOwns e.first e.body a v → P a w → ⊥
      first_apart a v w b p = apart a v w (of_first a v b) p

      later_apart : (a : Owner) (v w : ℕ) → ExtentsOwn es a v → P a w ⊎ BodyOwns e.first e.body a w → ⊥
      later_apart a v w x q = elim q [
        | inl p ↦ apart a v w (of_later a v x) p
        | inr b ↦
            let number : x.page ≡ e.first + b.k = same_number c o c o x.page (e.first + b.k) (sym x.owner_is ∙ b.owner_is) in
            omega (arith, number, b.small, page_from es x.page (page_end e) (own v x.csum) x.found ascend.0)
      ]

      parts : (a : Owner) (v : ℕ) → ExtentsOwn (e ∷ es) a v → BodyOwns e.first e.body a v ⊎ ExtentsOwn es a v
      parts a v x = elim (place_cases e es x.page (own v x.csum) x.found) [
        | inl h ↦ inl (record { k = h.0; small = h.1; owner_is = x.owner_is ∙ ap (page_of c o) h.2; csum = x.csum; place_is = sym h.3 })
        | inr h ↦ inr (record { page = x.page; csum = x.csum; owner_is = x.owner_is; found = h })
      ]

      same : (a : Owner) (v : ℕ) → ((P a v ⊎ BodyOwns e.first e.body a v) ⊎ ExtentsOwn es a v) ↔ (P a v ⊎ ExtentsOwn (e ∷ es) a v)
      same a v = (
        λ q. elim q [
          | inl x ↦ elim x [ inl p ↦ inl p | inr b ↦ inr (of_first a v b) ]
          | inr x ↦ inr (of_later a v x)
        ],
        λ q. elim q [
          | inl p ↦ inl (inl p)
          | inr x ↦ elim (parts a v x) [ inl b ↦ inl (inr b) | inr y ↦ inr y ]
        ],
      )

-- ---- slots

module _ (sbid : ℕ) where
  -- a slot of these that pages name, the first of which has this number and is on this unit, owns the unit
  pub record SlotsOwn (from first : ℕ) (xs : List Slot) (a : Owner) (v : ℕ) : Type 0 where
    pub k : ℕ
    pub is : Slot
    pub there : slice_get xs k ≡ Some is
    pub named : 0 < is.count
    pub owner_is : a ≡ slot_of sbid (from + k)
    pub unit_is : v ≡ first + k

  abbrev IsFirst : ℕ → ℕ → Slot → Owner → ℕ → Type 0
  IsFirst from first x a v = (0 < x.count) × ((a ≡ slot_of sbid from) × (v ≡ first))

  same_slot : (i j : ℕ) → slot_of sbid i ≡ slot_of sbid j → i ≡ j
  same_slot i j e = cc

  first_owns : (from first : ℕ) (x : Slot) (xs : List Slot) (a : Owner) (v : ℕ) → IsFirst from first x a v → SlotsOwn from first (x ∷ xs) a v
  first_owns from first x xs a v is = record {
    k = 0;
    is = x;
    there = refl;
    named = is.0;
    owner_is = is.1.0 ∙ ap (slot_of sbid) (omega arith);
    unit_is = omega (arith, is.1.1);
  }

  later_owns : (from first : ℕ) (x : Slot) (xs : List Slot) (a : Owner) (v : ℕ) → SlotsOwn (suc from) (suc first) xs a v → SlotsOwn from first (x ∷ xs) a v
  later_owns from first x xs a v o = record {
    k = suc o.k;
    is = o.is;
    there = o.there;
    named = o.named;
    owner_is = o.owner_is ∙ ap (slot_of sbid) (omega arith);
    unit_is = omega (arith, o.unit_is);
  }

  first_or_later : (from first : ℕ) (x : Slot) (xs : List Slot) (a : Owner) (v : ℕ) → SlotsOwn from first (x ∷ xs) a v
      → IsFirst from first x a v ⊎ SlotsOwn (suc from) (suc first) xs a v
  first_or_later from first x xs a v o = by o.k o.there o.owner_is o.unit_is
    where
      by : (k : ℕ) → slice_get (x ∷ xs) k ≡ Some o.is → a ≡ slot_of sbid (from + k) → v ≡ first + k
          → IsFirst from first x a v ⊎ SlotsOwn (suc from) (suc first) xs a v
      by zero there owner unit =
          let same : x ≡ o.is = cc in
          inl (subst (λ (y : Slot). 0 < y.count) (sym same) o.named, (owner ∙ ap (slot_of sbid) (omega arith), omega (arith, unit)))
      by (suc k) there owner unit = inr (record {
        k = k;
        is = o.is;
        there = there;
        named = o.named;
        owner_is = owner ∙ ap (slot_of sbid) (omega arith);
        unit_is = omega (arith, unit);
      })

  slot_tells : (P : Owner → ℕ → Type 0) (m : Marks) (units from first : ℕ) (x : Slot) → Tells P m → HasUnits units m → first < units
      → ((v w : ℕ) → 0 < x.count → P (slot_of sbid from) w → ⊥) → Tells (λ a v. P a v ⊎ IsFirst from first x a v) (slot_marked m first x)
  slot_tells P m units from first x old has within apart = by (nat_lt 0 x.count) refl
    where
      by : (b : Bool) → nat_lt 0 x.count ≡ b → Tells (λ a v. P a v ⊎ IsFirst from first x a v) (cond b (one_page_more m first) m)
      by true is =
          let some : 0 < x.count = ltb-true _ _ is in
          tells_same _ _ _ (λ a v. (
            λ q. elim q [ inl p ↦ inl p | inr e ↦ inr (some, e) ],
            λ q. elim q [ inl p ↦ inl p | inr e ↦ inr e.1 ],
          )) (one_more_tells P m (slot_of sbid from) first old (omega (arith, within, has.owned)) (omega (arith, within, has.shared)) (λ w p. apart w w some p))
      by false is = tells_same P _ m (λ a v. (inl, λ q. elim q [ inl p ↦ p | inr e ↦ absurd (let yes = lt-ltb _ _ e.0 in cc) ])) old

  slots_tells : (xs : List Slot) (P : Owner → ℕ → Type 0) (m : Marks) (units from first : ℕ) → Tells P m → HasUnits units m → first + length xs ≤ units
      → ((a : Owner) (v w : ℕ) → SlotsOwn from first xs a v → P a w → ⊥) → Tells (λ a v. P a v ⊎ SlotsOwn from first xs a v) (slots_marked m first xs)
  slots_tells [] P m units from first old has ends apart = tells_same P _ m (λ a v. (inl, λ q. elim q [ inl p ↦ p | inr o ↦ absurd (let t = o.there in cc) ])) old
  slots_tells (x ∷ xs) P m units from first old has ends apart =
      tells_same _ _ _ same (slots_tells xs (λ a v. P a v ⊎ IsFirst from first x a v) (slot_marked m first x) units (suc from) (suc first)
      (slot_tells P m units from first x old has (omega (arith, ends)) (λ v w some p. apart (slot_of sbid from) first w (first_owns from first x xs (slot_of sbid from) first (some, (refl, refl))) p))
      (slot_units units m first x has) (omega (arith, ends)) later_apart)
    where
      later_apart : (a : Owner) (v w : ℕ) → SlotsOwn (suc from) (suc first) xs a v → P a w ⊎ IsFirst from first x a w → ⊥
      later_apart a v w o q = elim q [
        | inl p ↦ apart a v w (later_owns from first x xs a v o) p
        | inr e ↦ omega (arith, same_slot (suc from + o.k) from (sym o.owner_is ∙ e.1.0))
      ]

      same : (a : Owner) (v : ℕ) → ((P a v ⊎ IsFirst from first x a v) ⊎ SlotsOwn (suc from) (suc first) xs a v) ↔ (P a v ⊎ SlotsOwn from first (x ∷ xs) a v)
      same a v = (
        λ q. elim q [
          | inl y ↦ elim y [ inl p ↦ inl p | inr e ↦ inr (first_owns from first x xs a v e) ]
          | inr o ↦ inr (later_owns from first x xs a v o)
        ],
        λ q. elim q [
          | inl p ↦ inl (inl p)
          | inr o ↦ elim (first_or_later from first x xs a v o) [ inl e ↦ inl (inr e) | inr l ↦ inr l ]
        ],
      )

-- ---- rows

-- a page of the row owns the unit, or a slot does
abbrev pub RowOwns : format.Row → Owner → ℕ → Type 0
RowOwns row a v = ExtentsOwn (format.shard_in row).coll (format.shard_in row).object (format.shard_in row).extents a v
    ⊎ SlotsOwn (blob_in row).sbid 0 (blob_in row).first (blob_in row).slots a v

-- a row is a blob's, or says nothing of one
pub is_blob_or_none : (row : format.Row) → (row ≡ format.blob (blob_in row).sbid (blob_in row).first (blob_in row).slots) ⊎ (blob_in row ≡ no_blob)
is_blob_or_none (format.blob sbid first slots) = inl refl
is_blob_or_none row = inr refl

-- where a page owns it the row is a shard
pub owns_shard : (row : format.Row) (a : Owner) (v : ℕ)
    → ExtentsOwn (format.shard_in row).coll (format.shard_in row).object (format.shard_in row).extents a v → row ≡ format.as_row (format.shard_in row)
owns_shard row a v owns = elim (is_shard_or_none row) [
  | inl is ↦ is
  | inr none ↦ absurd (let found = sym (ap (λ (x : format.ShardRow). place_of x.extents owns.page) none) ∙ owns.found in cc)
]

-- and where a slot does it is a blob's
pub owns_blob : (row : format.Row) (a : Owner) (v : ℕ) → SlotsOwn (blob_in row).sbid 0 (blob_in row).first (blob_in row).slots a v
    → row ≡ format.blob (blob_in row).sbid (blob_in row).first (blob_in row).slots
owns_blob row a v owns = elim (is_blob_or_none row) [
  | inl is ↦ is
  | inr none ↦ absurd (let found = sym (ap (λ (x : BlobRow). slice_get x.slots owns.k) none) ∙ owns.there in cc)
]

abbrev pub RowAscends : format.Row → Type 0
RowAscends row = ExtentsAscend (format.shard_in row).extents

no_page_is_slot : (c o : List ℕ) (page sbid index : ℕ) → page_of c o page ≡ slot_of sbid index → ⊥
no_page_is_slot c o page sbid index e = cc

pub row_tells : (row : format.Row) (P : Owner → ℕ → Type 0) (m : Marks) (units : ℕ) → Tells P m → HasUnits units m → RowEndsBy units row
    → RowAscends row → ((a : Owner) (v w : ℕ) → RowOwns row a v → P a w → ⊥) → Tells (λ a v. P a v ⊎ RowOwns row a v) (row_marked m row)
row_tells row P m units old has ends ascend apart =
    let x = format.shard_in row in
    let b = blob_in row in
    let pages = extents_tells x.coll x.object x.extents P m units old has ends.0 ascend (λ a v w owns p. apart a v w (inl owns) p) in
    tells_same _ _ _ (λ a v. (
      λ q. elim q [ inl y ↦ elim y [ inl p ↦ inl p | inr e ↦ inr (inl e) ] | inr o ↦ inr (inr o) ],
      λ q. elim q [ inl p ↦ inl (inl p) | inr y ↦ elim y [ inl e ↦ inl (inr e) | inr o ↦ inr o ] ],
    )) (slots_tells b.sbid b.slots (λ a v. P a v ⊎ ExtentsOwn x.coll x.object x.extents a v) (extents_marked m x.extents) units 0 b.first
    pages (extents_units units x.extents m has) ends.1 (λ a v w owns q. elim q [
      | inl p ↦ apart a v w (inr owns) p
      | inr e ↦ no_page_is_slot x.coll x.object e.page b.sbid (0 + owns.k) (sym e.owner_is ∙ owns.owner_is)
    ]))
