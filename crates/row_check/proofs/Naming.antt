-- The pages of extents that name a slot, and how they raise its number.
use Rattle.std.proofs.Common.{◌≡◌, ◌≢◌, ◌⊎◌, ◌↔◌, inl, inr, ℕ, zero, suc, ◌+◌, ◌-◌, ◌<◌, ◌≤◌, Bool, true, false, cond, List, [], ◌∷◌, ◌++◌, length, get_or, set, drop, Option, Some, None, refl, sym, ap, subst, ◌∙◌, get_or-set_same, get_or-set_other, arith}
use Rattle.std.specs.Prelude.{Contains, nat_eq, nat_le, nat_lt, ◌&&◌}
use Rattle.std.specs.List.{AllByRecursion}
use Rattle.std.specs.FinMap as map
use Rattle.std.proofs.lemmas.Bool.{cases_lt, cases_eq, ltb-true, leb-true, eqb-true, lt-ltb, le-leb, eq-eqb}
use Rattle.std.proofs.lemmas.List.{length-set, length-append, drop_more}
use Rattle.std.proofs.lemmas.List.Elements.{Contains-append_left, Contains-append_right, Contains-append_cases}
use Rattle.row_format.specs.Prelude.{shared_key, Body, private, shared, page_count, Extent, page_end, ExtentsAscend, Place, own, slot, place_in, place_of}
use Rattle.store_image.specs.Prelude.{PageName, EachOnce}
use Rattle.row_check.specs.Tallies.{Tally, no_tally, tally_raised, one_named_more, named_more, Tallies, raised_at, raised_place, body_tallied, extents_tallied, HasTallyOf, HasPlaces}
use Rattle.row_check.proofs.RunMarks.{place_cases, first_has, later_has, page_from}

-- what stands behind a place
pub drop_one : (es : List Extent) (i : ℕ) (e : Extent) → i < length es → e ≡ get_or es i e → drop i es ≡ e ∷ drop (i + 1) es
drop_one es i e lt is = drop_more es i e lt ∙ ap (λ (x : Extent). x ∷ drop (i + 1) es) (sym is)

-- ---- numbers of slots

pub length-raised : (named : List ℕ) (first n : ℕ) → length (named_more named first n) ≡ length named
length-raised named first zero = refl
length-raised named first (suc n) = length-set (named_more named first n) (first + n) _ ∙ length-raised named first n

raised_out : (named : List ℕ) (first n k : ℕ) → (k < first) ⊎ (first + n ≤ k) → get_or (named_more named first n) k 0 ≡ get_or named k 0
raised_out named first zero k out = refl
raised_out named first (suc n) k out =
    let other : k ≢ first + n = λ e. by out e in
    get_or-set_other (named_more named first n) (first + n) k _ 0 other ∙ raised_out named first n k (less out)
  where
    by : (k < first) ⊎ (first + suc n ≤ k) → k ≡ first + n → ⊥
    by (inl lt) e = omega (arith, lt, e)
    by (inr ge) e = omega (arith, ge, e)

    less : (k < first) ⊎ (first + suc n ≤ k) → (k < first) ⊎ (first + n ≤ k)
    less (inl lt) = inl lt
    less (inr ge) = inr (omega (arith, ge))

raised_in : (named : List ℕ) (first n k : ℕ) → first ≤ k → k < first + n → first + n ≤ length named → get_or (named_more named first n) k 0 ≡ get_or named k 0 + 1
raised_in named first zero k low high within = absurd (omega (arith, low, high))
raised_in named first (suc n) k low high within = elim (cases_eq k (first + n)) [
  | inl e ↦
      subst (λ m. get_or (named_more named first (suc n)) m 0 ≡ get_or named m 0 + 1) (sym e)
      (get_or-set_same (named_more named first n) (first + n) _ 0 (omega (arith, within, length-raised named first n))
      ∙ ap (λ m. m + 1) (raised_out named first n (first + n) (inr (omega arith))))
  | inr ne ↦ get_or-set_other (named_more named first n) (first + n) k _ 0 ne
      ∙ raised_in named first n k low (omega (arith, high, ne)) (omega (arith, within))
]

-- ---- pages that name a slot

-- the slot is one of so many of this blob
abbrev is_hit : ℕ → ℕ → ℕ → ℕ → ℕ → Bool
is_hit other from count sbid k = nat_eq other sbid && (nat_le from k && nat_lt k (from + count))

record IsHit (other from count sbid k : ℕ) : Type 0 where
  same : other ≡ sbid
  low : from ≤ k
  high : k < from + count

hit_true : (other from count sbid k : ℕ) → is_hit other from count sbid k ≡ true → IsHit other from count sbid k
hit_true other from count sbid k is =
    let one = split (nat_eq other sbid) (nat_le from k && nat_lt k (from + count)) is in
    let two = split (nat_le from k) (nat_lt k (from + count)) one.1 in
    record { same = eqb-true _ _ one.0; low = leb-true _ _ two.0; high = ltb-true _ _ two.1 }
  where
    split : (a b : Bool) → (a && b) ≡ true → (a ≡ true) × (b ≡ true)
    split true b e = (refl, e)
    split false b e = absurd cc

true_hit : (other from count sbid k : ℕ) → IsHit other from count sbid k → is_hit other from count sbid k ≡ true
true_hit other from count sbid k is =
    let same : nat_eq other sbid ≡ true = eq-eqb _ _ is.same in
    ap (λ b. b && (nat_le from k && nat_lt k (from + count))) same ∙ ap (λ b. b && nat_lt k (from + count)) (le-leb _ _ is.low) ∙ lt-ltb _ _ is.high

-- the page of an object by its place among those that stand there
abbrev pub page_name : List ℕ → List ℕ → ℕ → ℕ → ℕ → PageName
page_name c o first from k = record { coll = c; object = o; page = first + (k - from) }

-- the page of these that names the slot, if one does
abbrev pub body_names : List ℕ → List ℕ → ℕ → Body → ℕ → ℕ → List PageName
body_names c o first (private unit csums) sbid k = []
body_names c o first (shared other from count) sbid k = cond (is_hit other from count sbid k) (page_name c o first from k ∷ []) []

-- and those of extents
abbrev pub extent_names : List ℕ → List ℕ → List Extent → ℕ → ℕ → List PageName
extent_names c o [] sbid k = []
extent_names c o (e ∷ es) sbid k = body_names c o e.first e.body sbid k ++ extent_names c o es sbid k

-- the page of the object stands on the slot
pub record PageNames (c o : List ℕ) (es : List Extent) (sbid k : ℕ) (p : PageName) : Type 0 where
  pub coll : p.coll ≡ c
  pub object : p.object ≡ o
  pub found : place_of es p.page ≡ Some (slot sbid k)

no_own_slot : (unit csum sbid k : ℕ) → own unit csum ≡ slot sbid k → ⊥
no_own_slot unit csum sbid k e = cc

same_slot : (s i t j : ℕ) → slot s i ≡ slot t j → (s ≡ t) × (i ≡ j)
same_slot s i t j e = (by_sbid e, by_index e)
  where
    by_sbid : slot s i ≡ slot t j → s ≡ t
    by_sbid e = cc

    by_index : slot s i ≡ slot t j → i ≡ j
    by_index e = cc

none_there : (p : PageName) → Contains [] p → ⊥
none_there p (k, lt, is) = omega (arith, lt)

one_there : (q p : PageName) → Contains (q ∷ []) p → q ≡ p
one_there q p (zero, lt, is) = is
one_there q p (suc k, lt, is) = absurd (omega (arith, lt))

module _ (c o : List ℕ) (sbid k : ℕ) where
  -- the page number j of those that stand there is this one
  record BodyNames (first : ℕ) (b : Body) (p : PageName) : Type 0 where
    j : ℕ
    small : j < page_count b
    coll : p.coll ≡ c
    object : p.object ≡ o
    page : p.page ≡ first + j
    place : place_in b j ≡ slot sbid k

  body_there : (first : ℕ) (b : Body) (p : PageName) → Contains (body_names c o first b sbid k) p → BodyNames first b p
  body_there first (private unit csums) p is = absurd (none_there p is)
  body_there first (shared other from count) p is = by (is_hit other from count sbid k) refl is
    where
      by : (h : Bool) → is_hit other from count sbid k ≡ h → Contains (cond h (page_name c o first from k ∷ []) []) p
          → BodyNames first (shared other from count) p
      by false out is = absurd (none_there p is)
      by true there is =
          let hit = hit_true other from count sbid k there in
          let same = one_there (page_name c o first from k) p is in
          let index : from + (k - from) ≡ k = omega (arith, hit.low) in
          record {
            j = k - from;
            small = omega (arith, hit.low, hit.high);
            coll = sym (ap (λ (x : PageName). x.coll) same);
            object = sym (ap (λ (x : PageName). x.object) same);
            page = sym (ap (λ (x : PageName). x.page) same);
            place = λ i. slot (hit.same i) (index i);
          }

  there_body : (first : ℕ) (b : Body) (p : PageName) → BodyNames first b p → Contains (body_names c o first b sbid k) p
  there_body first (private unit csums) p is = absurd (no_own_slot _ _ sbid k is.place)
  there_body first (shared other from count) p is =
      let same = same_slot other (from + is.j) sbid k is.place in
      let hit : IsHit other from count sbid k = record { same = same.0; low = omega (arith, same.1); high = omega (arith, same.1, is.small) } in
      let page : first + (k - from) ≡ p.page = omega (arith, is.page, same.1) in
      let name : PageName = page_name c o first from k in
      let is_p : name ≡ p = λ i. record { coll = sym is.coll i; object = sym is.object i; page = page i } in
      subst (λ (l : List PageName). Contains l p) (sym (ap (λ h. cond h (name ∷ []) []) (true_hit other from count sbid k hit))) (zero, omega arith, is_p)

  body_once : (first : ℕ) (b : Body) → EachOnce (body_names c o first b sbid k)
  body_once first (private unit csums) = tt
  body_once first (shared other from count) =
      elim (is_hit other from count sbid k) as (λ h. EachOnce (cond h (page_name c o first from k ∷ []) [])) [
        | true ↦ (none_there _, tt)
        | false ↦ tt
      ]

  pub names_there : (es : List Extent) → ExtentsAscend es → (p : PageName) → Contains (extent_names c o es sbid k) p → PageNames c o es sbid k p
  names_there [] up p is = absurd (none_there p is)
  names_there (e ∷ es) up p is =
      elim (Contains-append_cases (body_names c o e.first e.body sbid k) (extent_names c o es sbid k) p is) [
        | inl here ↦
            let b = body_there e.first e.body p here in
            record { coll = b.coll; object = b.object; found = ap (place_of (e ∷ es)) b.page ∙ first_has e es b.j b.small ∙ ap Some b.place }
        | inr later ↦
            let n = names_there es up.1 p later in
            record { coll = n.coll; object = n.object; found = later_has e es p.page (slot sbid k) up.0 n.found }
      ]

  pub there_names : (es : List Extent) (p : PageName) → PageNames c o es sbid k p → Contains (extent_names c o es sbid k) p
  there_names [] p is = absurd (let none = is.found in cc)
  there_names (e ∷ es) p is = elim (place_cases e es p.page (slot sbid k) is.found) [
    | inl h ↦ Contains-append_left (body_names c o e.first e.body sbid k) (extent_names c o es sbid k) p
        (there_body e.first e.body p (record { j = h.0; small = h.1; coll = is.coll; object = is.object; page = h.2; place = sym h.3 }))
    | inr h ↦ Contains-append_right (body_names c o e.first e.body sbid k) (extent_names c o es sbid k) p
        (there_names es p (record { coll = is.coll; object = is.object; found = h }))
  ]

pub once_joined : (xs ys : List PageName) → EachOnce xs → EachOnce ys → ((p : PageName) → Contains xs p → Contains ys p → ⊥) → EachOnce (xs ++ ys)
once_joined [] ys a b apart = b
once_joined (x ∷ xs) ys a b apart = (
  λ is. elim (Contains-append_cases xs ys x is) [
    | inl in_xs ↦ a.0 in_xs
    | inr in_ys ↦ apart x (zero, omega arith, refl) in_ys
  ],
  once_joined xs ys a.1 b (λ p in_xs in_ys. apart p (Contains-append_right (x ∷ []) xs p in_xs) in_ys),
)

pub names_once : (c o : List ℕ) (sbid k : ℕ) (es : List Extent) → ExtentsAscend es → EachOnce (extent_names c o es sbid k)
names_once c o sbid k [] up = tt
names_once c o sbid k (e ∷ es) up =
    once_joined (body_names c o e.first e.body sbid k) (extent_names c o es sbid k) (body_once c o sbid k e.first e.body) (names_once c o sbid k es up.1)
    (λ p here later.
    let b = body_there c o sbid k e.first e.body p here in
    let n = names_there c o sbid k es up.1 p later in
    omega (arith, b.page, b.small, page_from es p.page (page_end e) (slot sbid k) n.found up.0))

-- ---- one blob's numbers named_more

pub length-raised_at : (ts : List Tally) (at first count : ℕ) → length (raised_at ts at first count) ≡ length ts
length-raised_at [] at first count = refl
length-raised_at (t ∷ ts) zero first count = refl
length-raised_at (t ∷ ts) (suc at) first count = ap suc (length-raised_at ts at first count)

raised_here : (ts : List Tally) (at first count : ℕ) → at < length ts
    → get_or (raised_at ts at first count) at no_tally ≡ tally_raised (get_or ts at no_tally) first count
raised_here [] at first count lt = absurd (omega (arith, lt))
raised_here (t ∷ ts) zero first count lt = refl
raised_here (t ∷ ts) (suc at) first count lt = raised_here ts at first count (omega (arith, lt))

raised_other : (ts : List Tally) (at j first count : ℕ) → j ≢ at → get_or (raised_at ts at first count) j no_tally ≡ get_or ts j no_tally
raised_other [] at j first count ne = refl
raised_other (t ∷ ts) zero zero first count ne = absurd (ne refl)
raised_other (t ∷ ts) zero (suc j) first count ne = refl
raised_other (t ∷ ts) (suc at) zero first count ne = refl
raised_other (t ∷ ts) (suc at) (suc j) first count ne = raised_other ts at j first count (λ e. ne (ap suc e))

-- the blob is as it was, but that so many pages more name each slot
pub record RaisedBy (t new : Tally) (hits : ℕ → ℕ) : Type 0 where
  pub sbid : new.sbid ≡ t.sbid
  pub first : new.first ≡ t.first
  pub slots : new.slots ≡ t.slots
  pub size : length new.named ≡ length t.named
  pub named : (k : ℕ) → k < length t.named → get_or new.named k 0 ≡ get_or t.named k 0 + hits k

-- so are all of them
pub record AllRaised (t new : Tallies) (hits : ℕ → ℕ → ℕ) : Type 0 where
  pub places : new.places ≡ t.places
  pub size : length new.list ≡ length t.list
  pub each : (at : ℕ) → at < length t.list → RaisedBy (get_or t.list at no_tally) (get_or new.list at no_tally) (hits (get_or t.list at no_tally).sbid)

-- what a place becomes
pub set_raised : (ts : List Tally) (at first count : ℕ) (d : Tally) → at < length ts → set ts at (tally_raised (get_or ts at d) first count) ≡ raised_at ts at first count
set_raised [] at first count d lt = absurd (omega (arith, lt))
set_raised (t ∷ ts) zero first count d lt = refl
set_raised (t ∷ ts) (suc at) first count d lt = ap (λ (l : List Tally). t ∷ l) (set_raised ts at first count d (omega (arith, lt)))

-- its number and how many slots it has stay
kept_at : (ts : List Tally) (at j first count : ℕ) → ((get_or (raised_at ts at first count) j no_tally).sbid ≡ (get_or ts j no_tally).sbid)
    × (length (get_or (raised_at ts at first count) j no_tally).named ≡ length (get_or ts j no_tally).named)
kept_at [] at j first count = (refl, refl)
kept_at (t ∷ ts) zero zero first count = (refl, length-raised t.named first count)
kept_at (t ∷ ts) zero (suc j) first count = (refl, refl)
kept_at (t ∷ ts) (suc at) zero first count = (refl, refl)
kept_at (t ∷ ts) (suc at) (suc j) first count = kept_at ts at j first count

pub body_still : (t : Tallies) (x b : Body) → HasPlaces t x → HasPlaces t b → HasPlaces (body_tallied t x) b
body_still t (private unit csums) b with_x has = has
body_still t (shared other from count) (private unit csums) with_x has = tt
body_still t (shared other from count) (shared sbid first n) with_x has =
    let kept = kept_at t.list with_x.at has.at from count in
    subst (λ (r : Option ℕ). HasTallyOf (raised_place t r from count) sbid (first + n)) (sym with_x.is) (record {
      at = has.at;
      is = has.is;
      within = omega (arith, has.within, length-raised_at t.list with_x.at from count);
      sbid_is = kept.0 ∙ has.sbid_is;
      wide = omega (arith, has.wide, kept.1);
    })

pub all_bodies_still : (t : Tallies) (x : Body) (es : List Extent) → HasPlaces t x → AllByRecursion (λ e. HasPlaces t e.body) es
    → AllByRecursion (λ e. HasPlaces (body_tallied t x) e.body) es
all_bodies_still t x [] with_x all = tt
all_bodies_still t x (e ∷ es) with_x all = (body_still t x e.body with_x all.0, all_bodies_still t x es with_x all.1)

-- each blob's number leads to its place
abbrev pub LeadTo : Tallies → Type 0
LeadTo t = (at : ℕ) → at < length t.list → map.get t.places (shared_key (get_or t.list at no_tally).sbid) ≡ Some at

same_at : {i j : ℕ} → Some i ≡ Some j → i ≡ j
same_at e = cc

module _ (c o : List ℕ) where
  abbrev hits_of : ℕ → Body → ℕ → ℕ → ℕ
  hits_of first b sbid k = length (body_names c o first b sbid k)

  unhit : (t : Tally) (first other from count : ℕ) → other ≢ t.sbid → RaisedBy t t (hits_of first (shared other from count) t.sbid)
  unhit t first other from count apart = record {
    sbid = refl;
    first = refl;
    slots = refl;
    size = refl;
    named = λ k within. elim (is_hit other from count t.sbid k) as (λ h. is_hit other from count t.sbid k ≡ h
        → get_or t.named k 0 ≡ get_or t.named k 0 + length (cond h (page_name c o first from k ∷ []) [])) [
          | true ↦ λ yes. absurd (apart (hit_true other from count t.sbid k yes).same)
          | false ↦ λ out. omega arith
        ] refl;
  }

  hit : (t : Tally) (first other from count : ℕ) → other ≡ t.sbid → from + count ≤ length t.named
      → RaisedBy t (tally_raised t from count) (hits_of first (shared other from count) t.sbid)
  hit t first other from count same wide = record {
    sbid = refl;
    first = refl;
    slots = refl;
    size = length-raised t.named from count;
    named = λ k within. elim (is_hit other from count t.sbid k) as (λ h. is_hit other from count t.sbid k ≡ h
        → get_or (named_more t.named from count) k 0 ≡ get_or t.named k 0 + length (cond h (page_name c o first from k ∷ []) [])) [
          | true ↦ λ yes. let is = hit_true other from count t.sbid k yes in raised_in t.named from count k is.low is.high wide
          | false ↦ λ out. raised_out t.named from count k (outside k out) ∙ omega arith
        ] refl;
  }
    where
      outside : (k : ℕ) → is_hit other from count t.sbid k ≡ false → (k < from) ⊎ (from + count ≤ k)
      outside k out = elim (cases_lt k from) [
        | inl lt ↦ inl lt
        | inr ge ↦ elim (cases_lt k (from + count)) [
          | inl lt ↦ absurd (let yes = true_hit other from count t.sbid k (record { same = same; low = omega (arith, ge); high = lt }) in cc)
          | inr le ↦ inr (omega (arith, le))
        ]
      ]

  pub body_raised : (t : Tallies) (first : ℕ) (b : Body) → LeadTo t → HasPlaces t b → AllRaised t (body_tallied t b) (hits_of first b)
  body_raised t first (private unit csums) leads has = record {
    places = refl;
    size = refl;
    each = λ at within. record { sbid = refl; first = refl; slots = refl; size = refl; named = λ k lt. omega arith };
  }
  body_raised t first (shared other from count) leads has =
      subst (λ (r : Option ℕ). AllRaised t (raised_place t r from count) (hits_of first (shared other from count))) (sym has.is) (record {
        places = refl;
        size = length-raised_at t.list has.at from count;
        each = λ at within. elim (cases_eq at has.at) [
          | inl e ↦ subst (λ n. RaisedBy (get_or t.list n no_tally) (get_or (raised_at t.list has.at from count) n no_tally)
              (hits_of first (shared other from count) (get_or t.list n no_tally).sbid)) (sym e)
              (subst (λ (x : Tally). RaisedBy (get_or t.list has.at no_tally) x (hits_of first (shared other from count) (get_or t.list has.at no_tally).sbid))
              (sym (raised_here t.list has.at from count has.within))
              (hit (get_or t.list has.at no_tally) first other from count (sym has.sbid_is) has.wide))
          | inr ne ↦ subst (λ (x : Tally). RaisedBy (get_or t.list at no_tally) x (hits_of first (shared other from count) (get_or t.list at no_tally).sbid))
              (sym (raised_other t.list has.at at from count ne))
              (unhit (get_or t.list at no_tally) first other from count (λ same. ne (same_at (
              sym (leads at within) ∙ ap (λ n. map.get t.places (shared_key n)) (sym same) ∙ has.is))))
        ];
      })

  -- ---- extents

  abbrev all_hits : List Extent → ℕ → ℕ → ℕ
  all_hits es sbid k = length (extent_names c o es sbid k)

  pub still_leads : (t new : Tallies) (hits : ℕ → ℕ → ℕ) → AllRaised t new hits → LeadTo t → LeadTo new
  still_leads t new hits all leads at within =
      let was : at < length t.list = omega (arith, within, all.size) in
      let one = all.each at was in
      ap (λ n. map.get new.places (shared_key n)) one.sbid ∙ ap (λ (m : map.FinMap _ ℕ). map.get m (shared_key (get_or t.list at no_tally).sbid)) all.places ∙ leads at was

  pub raised_still : (t new : Tallies) (hits : ℕ → ℕ → ℕ) (b : Body) → AllRaised t new hits → HasPlaces t b → HasPlaces new b
  raised_still t new hits (private unit csums) all has = tt
  raised_still t new hits (shared sbid first count) all has =
      let one = all.each has.at has.within in
      record {
        at = has.at;
        is = ap (λ (m : map.FinMap _ ℕ). map.get m (shared_key sbid)) all.places ∙ has.is;
        within = omega (arith, has.within, all.size);
        sbid_is = one.sbid ∙ has.sbid_is;
        wide = omega (arith, has.wide, one.size);
      }

  all_still : (t new : Tallies) (hits : ℕ → ℕ → ℕ) (es : List Extent) → AllRaised t new hits → AllByRecursion (λ e. HasPlaces t e.body) es
      → AllByRecursion (λ e. HasPlaces new e.body) es
  all_still t new hits [] all has = tt
  all_still t new hits (e ∷ es) all has = (raised_still t new hits e.body all has.0, all_still t new hits es all has.1)

  pub extents_raised : (es : List Extent) (t : Tallies) → LeadTo t → AllByRecursion (λ e. HasPlaces t e.body) es
      → AllRaised t (extents_tallied t es) (all_hits es)
  extents_raised [] t leads has = record {
    places = refl;
    size = refl;
    each = λ at within. record { sbid = refl; first = refl; slots = refl; size = refl; named = λ k lt. omega arith };
  }
  extents_raised (e ∷ es) t leads has =
      let mid = body_tallied t e.body in
      let one = body_raised t e.first e.body leads has.0 in
      let rest = extents_raised es mid (still_leads t mid (hits_of e.first e.body) one leads) (all_still t mid (hits_of e.first e.body) es one has.1) in
      record {
        places = rest.places ∙ one.places;
        size = rest.size ∙ one.size;
        each = λ at within.
            let a = one.each at within in
            let b = rest.each at (omega (arith, within, one.size)) in
            record {
              sbid = b.sbid ∙ a.sbid;
              first = b.first ∙ a.first;
              slots = b.slots ∙ a.slots;
              size = b.size ∙ a.size;
              named = λ k lt.
                  let same = ap (λ n. all_hits es n k) a.sbid in
                  omega (
                    arith,
                    a.named k lt,
                    b.named k (omega (arith, lt, a.size)),
                    same,
                    length-append (body_names c o e.first e.body (get_or t.list at no_tally).sbid k) (extent_names c o es (get_or t.list at no_tally).sbid k),
                  );
            };
      }
