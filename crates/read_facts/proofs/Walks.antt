-- Walks over names in byte order.
use Rattle.std.proofs.Common.{◌≡◌, ℕ, true, cond, T, List, [], ◌∷◌, ◌++◌, map, Option, Some, None, is_some, refl, sym, ap, subst, ◌∙◌}
use Rattle.std.specs.List.{AllByRecursion}
use Rattle.std.specs.Ordering.{is_eq, is_lt, ordering_reverse}
use Rattle.std.specs.declared.cmp.Ordering.{Ordering}
use Rattle.std.specs.declared.cmp.Ordering.TheVariants.{Less, Equal, Greater}
use Rattle.std.specs.Cmp.{tied_itself}
use Rattle.std.specs.Cmp.Lexicographic.{nat_list_cmp_total}
use Rattle.std.specs.FinMap as finite
use Rattle.std.specs.FinMap.Entries.{find, below_all, is_sorted}
use Rattle.byte_maps.specs.ByteMap.{byte_order, ByteMap}
use Rattle.byte_maps.proofs.Prelude.{same_bytes, both_first, both_second}
use Rattle.read_facts.specs.Prelude.{IsBehind, IsNextOf, IsPast, AreNext, last_of, AreAll}

-- one more name behind a walk
pub next_appended : (Is : List ℕ → Type 0) (after : Option (List ℕ)) (names : List (List ℕ)) (name : List ℕ) → AreNext Is after names
    → IsNextOf Is (last_of after names) name → AreNext Is after (names ++ name ∷ [])
next_appended Is after [] name are next = (next, tt)
next_appended Is after (n ∷ ns) name are next = (are.0, next_appended Is (Some n) ns name are.1 next)

-- it is the last of the longer walk
pub last_appended : (after : Option (List ℕ)) (names : List (List ℕ)) (name : List ℕ) → last_of after (names ++ name ∷ []) ≡ Some name
last_appended after [] name = refl
last_appended after (n ∷ ns) name = last_appended (Some n) ns name

-- ---- two walks of one kind

-- of two names in byte order, the one that is above
turned : (x y : List ℕ) → byte_order x y ≡ Greater → byte_order y x ≡ Less
turned x y p = nat_list_cmp_total.antisymm y x ∙ ap ordering_reverse p

-- and one that is below
turned_less : (x y : List ℕ) → byte_order x y ≡ Less → byte_order y x ≡ Greater
turned_less x y p = nat_list_cmp_total.antisymm y x ∙ ap ordering_reverse p

module _ (Is : List ℕ → Type 0) where
  -- there is one next name
  same_next : (after : Option (List ℕ)) (a b : List ℕ) → IsNextOf Is after a → IsNextOf Is after b → a ≡ b
  same_next after a b p q = elim (byte_order a b) as (λ r. byte_order a b ≡ r → a ≡ b) [
    | Less ↦ λ e. absurd (q.least a p.is p.behind e)
    | Equal ↦ λ e. same_bytes a b e
    | Greater ↦ λ e. absurd (p.least b q.is q.behind (turned a b e))
  ] refl

  -- two walks behind one name to where none is left are the same
  same_walk : (after : Option (List ℕ)) (names others : List (List ℕ)) → AreNext Is after names → AreNext Is after others
      → IsPast Is (last_of after names) → IsPast Is (last_of after others) → names ≡ others
  same_walk after [] [] a b p q = refl
  same_walk after [] (m ∷ ms) a b p q = absurd (p m b.0.is b.0.behind)
  same_walk after (n ∷ ns) [] a b p q = absurd (q n a.0.is a.0.behind)
  same_walk after (n ∷ ns) (m ∷ ms) a b p q =
      let e : m ≡ n = same_next after m n b.0 a.0 in
      let next : AreNext Is (Some n) ms = subst (λ (x : List ℕ). AreNext Is (Some x) ms) e b.1 in
      let past : IsPast Is (last_of (Some n) ms) = subst (λ (x : List ℕ). IsPast Is (last_of (Some x) ms)) e q in
      let rest : ns ≡ ms = same_walk (Some n) ns ms a.1 next p past in
      ap (λ (x : List ℕ). x ∷ ns) (sym e) ∙ ap (λ (xs : List (List ℕ)). m ∷ xs) rest

  -- all names of a kind stand in one order
  pub one_order : (names others : List (List ℕ)) → AreAll Is names → AreAll Is others → names ≡ others
  one_order names others a b = same_walk None names others a.next b.next a.past b.past

  -- each name of a walk is of the kind
  pub each_is : (after : Option (List ℕ)) (names : List (List ℕ)) → AreNext Is after names → AllByRecursion Is names
  each_is after [] are = tt
  each_is after (n ∷ ns) are = (are.0.is, each_is (Some n) ns are.1)

-- ---- the keys of a map are a walk

-- what holds of each by a fact that does
pub all_to : {A : Type 0} (P R : A → Type 0) → ((x : A) → P x → R x) → (xs : List A) → AllByRecursion P xs → AllByRecursion R xs
all_to P R f [] p = tt
all_to P R f (x ∷ xs) p = (f x p.0, all_to P R f xs p.1)

-- and by two facts that do
pub all_by : {A : Type 0} (P Q R : A → Type 0) → ((x : A) → P x → Q x → R x) → (xs : List A) → AllByRecursion P xs → AllByRecursion Q xs
    → AllByRecursion R xs
all_by P Q R f [] p q = tt
all_by P Q R f (x ∷ xs) p q = (f x p.0 q.0, all_by P Q R f xs p.1 q.1)

-- the test for the order Less
is_less : (o : Ordering) → T (is_lt o) → o ≡ Less
is_less Less p = refl
is_less Equal p = absurd p
is_less Greater p = absurd p

-- a name above one that is behind another is behind that other
behind_next : (after : Option (List ℕ)) (a b : List ℕ) → IsBehind after a → byte_order a b ≡ Less → IsBehind after b
behind_next None a b p lt = tt
behind_next (Some before) a b p lt = nat_list_cmp_total.trans before a b p lt

module _ {V : Type 0} where
  -- each entry's key is above this one
  abbrev AreAbove : List ℕ → List (List ℕ × V) → Type 0
  AreAbove q es = AllByRecursion (λ (e : List ℕ × V). byte_order q e.0 ≡ Less) es

  -- the keys behind the first of entries in order
  above : (q : List ℕ) (es : List (List ℕ × V)) → T (below_all byte_order q es) → AreAbove q es
  above q [] h = tt
  above q (e ∷ es) h = (is_less (byte_order q e.0) (both_first _ _ h), above q es (both_second _ _ h))

  -- a key below one that is below all of them
  lower : (q k : List ℕ) (es : List (List ℕ × V)) → byte_order q k ≡ Less → AreAbove k es → AreAbove q es
  lower q k [] lt h = tt
  lower q k (e ∷ es) lt h = (nat_list_cmp_total.trans q k e.0 lt h.0, lower q k es lt h.1)

  -- a key below all of them is not found
  not_found : (q : List ℕ) (es : List (List ℕ × V)) → AreAbove q es → find byte_order q es ≡ None
  not_found q [] h = refl
  not_found q (e ∷ es) h = ap (λ (r : Ordering). cond (is_eq r) (Some e.1) (find byte_order q es)) h.0 ∙ not_found q es h.1

  -- a key above the first is looked for behind it
  passed : (q : List ℕ) (e : List ℕ × V) (es : List (List ℕ × V)) → byte_order e.0 q ≡ Less
      → find byte_order q (e ∷ es) ≡ find byte_order q es
  passed q e es lt = ap (λ (r : Ordering). cond (is_eq r) (Some e.1) (find byte_order q es)) (turned_less e.0 q lt)

  -- the entry is found under its key
  abbrev pub IsFoundIn : List (List ℕ × V) → List ℕ × V → Type 0
  IsFoundIn es e = find byte_order e.0 es ≡ Some e.1

  -- each entry of entries in order is found
  pub found_each : (es : List (List ℕ × V)) → T (is_sorted byte_order es) → AllByRecursion (IsFoundIn es) es
  found_each [] h = tt
  found_each (e ∷ es) h = (
    ap (λ (r : Ordering). cond (is_eq r) (Some e.1) (find byte_order e.0 es)) (tied_itself nat_list_cmp_total e.0),
    all_by (λ (f : List ℕ × V). byte_order e.0 f.0 ≡ Less) (IsFoundIn es) (IsFoundIn (e ∷ es)) (λ f lt is. passed f.0 e es lt ∙ is) es
        (above e.0 es (both_first _ _ h)) (found_each es (both_second _ _ h)),
  )

  -- a map has each of its entries under the entry's key
  pub got_each : (m : ByteMap V) → AllByRecursion (λ (e : List ℕ × V). finite.get m e.0 ≡ Some e.1) (finite.entries m)
  got_each m =
      let es : List (List ℕ × V) = finite.entries m in
      all_to (IsFoundIn es) (λ (e : List ℕ × V). finite.get m e.0 ≡ Some e.1) (λ e is. finite.get-entries m e.0 ∙ is) es
      (found_each es (finite.entries_sorted m))

  module _ (Is : List ℕ → Type 0) where
    -- the entry's key is of the kind and behind a name
    abbrev IsEntryBehind : Option (List ℕ) → List ℕ × V → Type 0
    IsEntryBehind after e = Is e.0 × IsBehind after e.0

    -- each name of the kind behind that name is found
    abbrev AreFound : Option (List ℕ) → List (List ℕ × V) → Type 0
    AreFound after es = (name : List ℕ) → Is name → IsBehind after name → is_some (find byte_order name es) ≡ true

    -- nothing is not something
    none_some : (o : Option V) → o ≡ None → is_some o ≡ true → ⊥
    none_some None n s = cc
    none_some (Some v) n s = cc

    -- the first key is the next name of the kind
    first_next : (after : Option (List ℕ)) (e : List ℕ × V) (es : List (List ℕ × V)) → AreAbove e.0 es → IsEntryBehind after e
        → AreFound after (e ∷ es) → IsNextOf Is after e.0
    first_next after e es up is found = record {
      is = is.0;
      behind = is.1;
      least = λ other its behind lt.
          none_some (find byte_order other (e ∷ es)) (not_found other (e ∷ es) (lt, lower other e.0 es lt up)) (found other its behind);
    }

    -- names behind the first key are found behind it
    rest_found : (after : Option (List ℕ)) (e : List ℕ × V) (es : List (List ℕ × V)) → IsEntryBehind after e → AreFound after (e ∷ es)
        → AreFound (Some e.0) es
    rest_found after e es is found name its lt = sym (ap is_some (passed name e es lt)) ∙ found name its (behind_next after e.0 name is.1 lt)

    -- the other keys are behind the first
    rest_behind : (after : Option (List ℕ)) (e : List ℕ × V) (es : List (List ℕ × V)) → AreAbove e.0 es → AllByRecursion (IsEntryBehind after) es
        → AllByRecursion (IsEntryBehind (Some e.0)) es
    rest_behind after e es up are =
        all_by (IsEntryBehind after) (λ (f : List ℕ × V). byte_order e.0 f.0 ≡ Less) (IsEntryBehind (Some e.0)) (λ f is lt. (is.0, lt)) es are up

    -- the keys of entries in order are a walk over names of the kind
    keys_next : (after : Option (List ℕ)) (es : List (List ℕ × V)) → T (is_sorted byte_order es) → AllByRecursion (IsEntryBehind after) es
        → AreFound after es → AreNext Is after (map (λ (e : List ℕ × V). e.0) es)
    keys_next after [] h are found = tt
    keys_next after (e ∷ es) h are found =
        let up : AreAbove e.0 es = above e.0 es (both_first _ _ h) in (
          first_next after e es up are.0 found,
          keys_next (Some e.0) es (both_second _ _ h) (rest_behind after e es up are.1) (rest_found after e es are.0 found),
        )

    -- and none of the kind is behind the last of them
    keys_past : (after : Option (List ℕ)) (es : List (List ℕ × V)) → T (is_sorted byte_order es) → AllByRecursion (IsEntryBehind after) es
        → AreFound after es → IsPast Is (last_of after (map (λ (e : List ℕ × V). e.0) es))
    keys_past after [] h are found = λ name is behind. none_some None refl (found name is behind)
    keys_past after (e ∷ es) h are found =
        let up : AreAbove e.0 es = above e.0 es (both_first _ _ h) in
        keys_past (Some e.0) es (both_second _ _ h) (rest_behind after e es up are.1) (rest_found after e es are.0 found)

    -- The keys of entries in order are all names of a kind, where each is one and something is found under each.
    pub entries_are_all : (es : List (List ℕ × V)) → T (is_sorted byte_order es) → AllByRecursion (λ (e : List ℕ × V). Is e.0) es
        → ((name : List ℕ) → Is name → is_some (find byte_order name es) ≡ true) → AreAll Is (map (λ (e : List ℕ × V). e.0) es)
    entries_are_all es sorted are found =
        let is : AllByRecursion (IsEntryBehind None) es = all_to (λ (e : List ℕ × V). Is e.0) (IsEntryBehind None) (λ e its. (its, tt)) es are in
        let each : AreFound None es = λ name its behind. found name its in
        record { next = keys_next None es sorted is each; past = keys_past None es sorted is each }

    -- the keys of a map are all names of a kind, where these are the names that it has something under
    pub keys_are_all : (m : ByteMap V) → ((name : List ℕ) → Is name → is_some (finite.get m name) ≡ true)
        → ((name : List ℕ) → is_some (finite.get m name) ≡ true → Is name) → AreAll Is (finite.keys m)
    keys_are_all m to from =
        let es : List (List ℕ × V) = finite.entries m in
        entries_are_all es (finite.entries_sorted m)
        (all_to (λ (e : List ℕ × V). finite.get m e.0 ≡ Some e.1) (λ (e : List ℕ × V). Is e.0) (λ e got. from e.0 (ap is_some got)) es (got_each m))
        (λ name its. sym (ap is_some (finite.get-entries m name)) ∙ to name its)
