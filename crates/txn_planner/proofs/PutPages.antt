-- Sets that get numbers one after the other, and the takings by which pages of objects were put.
use Rattle.std.proofs.Common.{◌≡◌, ◌⊎◌, ◌↔◌, inl, inr, ℕ, ◌+◌, ◌<◌, ◌≤◌, true, cond, true≢false, T, List, [], ◌∷◌, ◌++◌, length, get_or, take, Contains, Some, refl, sym, ap, subst, ◌∙◌, arith}
use Rattle.std.specs.Ordering.{nat_cmp, eq_by_cmp, is_eq, is_lt, ordering_reverse}
use Rattle.std.specs.declared.cmp.Ordering.{Ordering}
use Rattle.std.specs.declared.cmp.Ordering.TheVariants.{Less, Equal, Greater}
use Rattle.std.specs.FinMap as finite
use Rattle.std.specs.FinMap.{find, is_sorted, entries, entries_sorted, get-entries}
use Rattle.std.specs.FinMap.Entries.{below_all}
use Rattle.std.specs.FinSet as set
use Rattle.std.proofs.lemmas.Bool.Decides.{nat_tests}
use Rattle.std.proofs.lemmas.Cmp.{tied_itself, nat_list_cmp_total, eq_by_cmp_equiv, nat_cmp_total}
use Rattle.std.proofs.lemmas.List.{take_all, take_more}
use Rattle.std.proofs.lemmas.Map.Views.{list_any-from_Contains, Contains-from_any}
use Rattle.byte_maps.specs.ByteMap.{ByteMap, byte_order}
use Rattle.byte_maps.proofs.Prelude.{same_bytes, both_first, both_second}
use Rattle.number_map.specs.NumberMap.{NumberMap}
use Rattle.bitmap_freelist.specs.Bitmap.{Units, Has}
use Rattle.bitmap_freelist.proofs.Reading.{has_insert}
use Rattle.plan_drafts.specs.declared.draft.Draft.{Draft}
use Rattle.page_edits.proofs.Entries.{entry_found, entry_in}
use Rattle.page_edits.proofs.Lists.{In}
use Rattle.txn_planner.specs.declared.touched.Touched.{Touched}
use Rattle.txn_planner.specs.Standing.{GetsNumbers, IsPutBy, IsPutOf, IsPutIn}

-- ---- sets

-- it holds of one of the list
abbrev pub AnyOf : {X : Type 0} → (X → ℕ → Type 0) → List X → ℕ → Type 0
AnyOf P [] n = ⊥
AnyOf P (x ∷ xs) n = P x n ⊎ AnyOf P xs n

-- a set with one number more
pub adds_one : (s : Units) (k : ℕ) → GetsNumbers (λ n. k ≡ n) s (set.insert s k)
adds_one s k n = (
  λ has. elim ((has_insert s k n).0 has) [ inl one ↦ inr (sym one) | inr was ↦ inl was ],
  λ either. (has_insert s k n).1 (elim either [ inl was ↦ inr was | inr one ↦ inl (sym one) ]),
)

pub adds_as : (P Q : ℕ → Type 0) (s new : Units) → ((n : ℕ) → P n ↔ Q n) → GetsNumbers P s new → GetsNumbers Q s new
adds_as P Q s new same adds n = (
  λ has. elim ((adds n).0 has) [ inl was ↦ inl was | inr p ↦ inr ((same n).0 p) ],
  λ either. (adds n).1 (elim either [ inl was ↦ inl was | inr q ↦ inr ((same n).1 q) ]),
)

pub adds_nothing : (P : ℕ → Type 0) (s : Units) → ((n : ℕ) → P n → ⊥) → GetsNumbers P s s
adds_nothing P s none n = (λ has. inl has, λ either. elim either [ inl was ↦ was | inr p ↦ absurd (none n p) ])

module _ {X : Type 0} (P : X → ℕ → Type 0) where
  pub adds_first : (s : Units) → GetsNumbers (AnyOf P []) s s
  adds_first s = adds_nothing (AnyOf P []) s (λ n none. none)

  one_behind : (xs : List X) (y : X) (n : ℕ) → AnyOf P (xs ++ y ∷ []) n ↔ (AnyOf P xs n ⊎ P y n)
  one_behind [] y n = (
    λ any. elim any [ inl p ↦ inr p | inr none ↦ absurd none ],
    λ either. elim either [ inl none ↦ absurd none | inr p ↦ inl p ],
  )
  one_behind (x ∷ xs) y n =
      let rest = one_behind xs y n in (
        λ any. elim any [ inl p ↦ inl (inl p) | inr later ↦ elim (rest.0 later) [ inl q ↦ inl (inr q) | inr p ↦ inr p ] ],
        λ either. elim either [
          | inl before ↦ elim before [ inl p ↦ inl p | inr later ↦ inr (rest.1 (inl later)) ]
          | inr p ↦ inr (rest.1 (inr p))
        ],
      )

  adds_behind : (xs : List X) (y : X) (old s new : Units) → GetsNumbers (AnyOf P xs) old s → GetsNumbers (P y) s new → GetsNumbers (AnyOf P (xs ++ y ∷ [])) old new
  adds_behind xs y old s new before one n =
      let more = one_behind xs y n in (
        λ has. elim ((one n).0 has) [
          | inl was ↦ elim ((before n).0 was) [ inl a ↦ inl a | inr b ↦ inr (more.1 (inl b)) ]
          | inr p ↦ inr (more.1 (inr p))
        ],
        λ either. (one n).1 (elim either [
          | inl was ↦ inl ((before n).1 (inl was))
          | inr any ↦ elim (more.0 any) [ inl b ↦ inl ((before n).1 (inr b)) | inr p ↦ inr p ]
        ]),
      )

  pub adds_more : (xs : List X) (i : ℕ) (d : X) (old s new : Units) → i < length xs → GetsNumbers (AnyOf P (take i xs)) old s → GetsNumbers (P (get_or xs i d)) s new
      → GetsNumbers (AnyOf P (take (i + 1) xs)) old new
  adds_more xs i d old s new lt before one =
      subst (λ l. GetsNumbers (AnyOf P l) old new) (sym (take_more xs i d lt)) (adds_behind (take i xs) (get_or xs i d) old s new before one)

  pub adds_whole : (xs : List X) (i : ℕ) (old new : Units) → length xs ≤ i → GetsNumbers (AnyOf P (take i xs)) old new → GetsNumbers (AnyOf P xs) old new
  adds_whole xs i old new end adds = subst (λ l. GetsNumbers (AnyOf P l) old new) (take_all i xs end) adds

  pub any_in : (xs : List X) (n : ℕ) → AnyOf P xs n → (x : X) × In xs x × P x n
  any_in [] n any = absurd any
  any_in (x ∷ xs) n (inl p) = (x, inl refl, p)
  any_in (x ∷ xs) n (inr later) = let a = any_in xs n later in (a.0, inr a.1, a.2)

  pub in_any : (xs : List X) (x : X) (n : ℕ) → In xs x → P x n → AnyOf P xs n
  in_any [] x n is p = absurd is
  in_any (y ∷ ys) x n (inl e) p = inl (subst (λ z. P z n) (sym e) p)
  in_any (y ∷ ys) x n (inr later) p = inr (in_any ys x n later p)

-- a list that makes up a set contains what the set has
pub listed : (us : List ℕ) (s : Units) (n : ℕ) → set.from_list us ≡ s → Contains us n ↔ Has s n
listed us s n are =
    let test = ap (λ (x : Units). set.contains x n) (sym are) ∙ set.contains-from_list nat_cmp_total us n in (
      λ k. test ∙ list_any-from_Contains (eq_by_cmp_equiv nat_cmp_total) n us k,
      λ has. Contains-from_any same n us (sym test ∙ has),
    )
  where
    same : (x y : ℕ) → eq_by_cmp nat_cmp x y ≡ true → x ≡ y
    same x y is = grind (arith, nat_tests, is)

-- ---- pages that were put

-- the entry of a page has this taking
abbrev pub IsTaking : ℕ × ℕ → ℕ → Type 0
IsTaking e n = e.1 ≡ n

pub puts_are : (puts : NumberMap ℕ) (n : ℕ) → AnyOf IsTaking (entries puts) n ↔ IsPutBy puts n
puts_are puts n = (
  λ any. let e = any_in IsTaking (entries puts) n any in (e.0.0, entry_found puts e.0.0 e.0.1 e.1 ∙ ap Some e.2),
  λ put. in_any IsTaking (entries puts) (put.0, n) n (entry_in puts put.0 n put.1) refl,
)

-- those of an object are those of its draft
pub puts_of : (t : Touched) (d : Draft) → t.now ≡ Some d → (n : ℕ) → IsPutBy d.puts n ↔ IsPutOf t n
puts_of t d is n = (
  λ put. record { draft = d; there = is; put = put },
  λ of.
      let both : Some of.draft ≡ Some d = sym of.there ∙ is in
      let same : of.draft ≡ d = cc in
      subst (λ (x : Draft). IsPutBy x.puts n) same of.put,
)

-- ---- entries of maps of byte strings

is_less : (o : Ordering) → T (is_lt o) → o ≡ Less
is_less Less p = refl
is_less Equal p = absurd p
is_less Greater p = absurd p

module _ {X : Type 0} where
  found_in : (es : List (List ℕ × X)) (key : List ℕ) (v : X) → find byte_order key es ≡ Some v → In es (key, v)
  found_in [] key v is = absurd cc
  found_in (e ∷ es) key v is =
      elim (byte_order key e.0) as (λ r. byte_order key e.0 ≡ r → cond (is_eq r) (Some e.1) (find byte_order key es) ≡ Some v → In (e ∷ es) (key, v)) [
        | Less ↦ λ p is. inr (found_in es key v is)
        | Equal ↦ λ p is.
            let same : e.1 ≡ v = cc in
            inl (ap (λ k. (k, e.1)) (sym (same_bytes key e.0 p)) ∙ ap (λ w. (key, w)) same)
        | Greater ↦ λ p is. inr (found_in es key v is)
      ] refl is

  below_in : (low : List ℕ) (es : List (List ℕ × X)) (key : List ℕ) (v : X) → T (below_all byte_order low es) → In es (key, v) → byte_order low key ≡ Less
  below_in low [] key v h is = absurd is
  below_in low (e ∷ es) key v h (inl is) =
      subst (λ k. byte_order low k ≡ Less) (ap (λ (p : List ℕ × X). p.0) is) (is_less (byte_order low e.0) (both_first _ _ h))
  below_in low (e ∷ es) key v h (inr later) = below_in low es key v (both_second _ _ h) later

  in_found : (es : List (List ℕ × X)) (key : List ℕ) (v : X) → T (is_sorted byte_order es) → In es (key, v) → find byte_order key es ≡ Some v
  in_found [] key v sorted is = absurd is
  in_found (e ∷ es) key v sorted (inl is) =
      ap (λ r. cond (is_eq r) (Some e.1) (find byte_order key es))
      (subst (λ k. byte_order key k ≡ Equal) (sym (ap (λ (p : List ℕ × X). p.0) is)) (tied_itself nat_list_cmp_total key))
      ∙ ap (λ (p : List ℕ × X). Some p.1) is
  in_found (e ∷ es) key v sorted (inr later) =
      ap (λ r. cond (is_eq r) (Some e.1) (find byte_order key es)) (behind (below_in e.0 es key v (both_first _ (is_sorted byte_order es) sorted) later))
      ∙ in_found es key v (both_second (below_all byte_order e.0 es) _ sorted) later
    where
      behind : byte_order e.0 key ≡ Less → byte_order key e.0 ≡ Greater
      behind less = nat_list_cmp_total.antisymm key e.0 ∙ ap ordering_reverse less

  pub of_entry : (m : ByteMap X) (key : List ℕ) (v : X) → In (entries m) (key, v) → finite.get m key ≡ Some v
  of_entry m key v is = get-entries m key ∙ in_found (entries m) key v (entries_sorted m) is

  pub entry_of : (m : ByteMap X) (key : List ℕ) (v : X) → finite.get m key ≡ Some v → In (entries m) (key, v)
  entry_of m key v is = found_in (entries m) key v (sym (get-entries m key) ∙ is)

-- ---- objects

-- the entry is of an object a page of which was put by this taking
abbrev pub IsPutAt : List ℕ × Touched → ℕ → Type 0
IsPutAt e n = IsPutOf e.1 n

pub objects_are : (objects : ByteMap Touched) (n : ℕ) → AnyOf IsPutAt (entries objects) n ↔ IsPutIn objects n
objects_are objects n = (
  λ any.
      let e = any_in IsPutAt (entries objects) n any in
      record { object = e.0.0; touched = e.0.1; among = of_entry objects e.0.0 e.0.1 e.1; put = e.2 },
  λ put. in_any IsPutAt (entries objects) (put.object, put.touched) n (entry_of objects put.object put.touched put.among) put.put,
)

-- ---- whole sets

none_has : (none : Units) (n : ℕ) → none ≡ set.empty → Has none n → ⊥
none_has none n is has = true≢false (sym has ∙ ap (λ (s : Units). set.contains s n) is ∙ set.contains-empty nat_cmp n)

-- a set that began without any has what it got
pub all_that_it_got : (P : ℕ → Type 0) (none s : Units) → none ≡ set.empty → GetsNumbers P none s → (n : ℕ) → Has s n ↔ P n
all_that_it_got P none s is adds n = (
  λ has. elim ((adds n).0 has) [ inl was ↦ absurd (none_has none n is was) | inr p ↦ p ],
  λ p. (adds n).1 (inr p),
)

-- and so does the list that makes it up
pub listed_as : (P : ℕ → Type 0) (us : List ℕ) (none s : Units) → none ≡ set.empty → GetsNumbers P none s → set.from_list us ≡ s → (n : ℕ) → Contains us n ↔ P n
listed_as P us none s is adds are n = (
  λ k. (all_that_it_got P none s is adds n).0 ((listed us s n are).0 k),
  λ p. (listed us s n are).1 ((all_that_it_got P none s is adds n).1 p),
)

-- a set that got some numbers and then others got both
pub got_both : (P Q : ℕ → Type 0) (old mid new : Units) → GetsNumbers P old mid → GetsNumbers Q mid new → GetsNumbers (λ n. P n ⊎ Q n) old new
got_both P Q old mid new first second n = (
  λ h. elim ((second n).0 h) [
    | inr q ↦ inr (inr q)
    | inl was ↦ elim ((first n).0 was) [ inl o ↦ inl o | inr p ↦ inr (inl p) ]
  ],
  λ either. (second n).1 (elim either [
    | inl o ↦ inl ((first n).1 (inl o))
    | inr both ↦ elim both [ inl p ↦ inl ((first n).1 (inr p)) | inr q ↦ inr q ]
  ]),
)
