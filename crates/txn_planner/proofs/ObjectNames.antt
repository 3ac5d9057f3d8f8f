-- Objects by their names, in a map from these.
use Rattle.std.proofs.Common.{◌≡◌, ◌≢◌, inl, inr, ℕ, ◌<◌, Bool, true, false, cond, T, List, [], ◌∷◌, not, length, get_or, drop, map, Option, Some, None, refl, sym, ap, subst, ◌∙◌, arith}
use Rattle.std.specs.Prelude.{unwrap_or, slice_get}
use Rattle.std.specs.FinMap as finite
use Rattle.std.specs.Ordering.{is_lt, is_eq}
use Rattle.std.specs.declared.cmp.Ordering.{Ordering}
use Rattle.std.specs.declared.cmp.Ordering.TheVariants.{Less, Equal, Greater}
use Rattle.std.specs.FinMap.{find, is_sorted, entries, entries_sorted, get-entries, same_entries_map, entries-from_sorted}
use Rattle.std.specs.FinMap.Entries.{below_all}
use Rattle.std.proofs.lemmas.List.{length-map}
use Rattle.std.proofs.lemmas.Cmp.{tied_itself, nat_list_cmp_total}
use Rattle.std.proofs.lemmas.Bool.{cases_Bool}
use Rattle.byte_maps.specs.ByteMap.{ByteMap, byte_order}
use Rattle.byte_maps.proofs.Prelude.{after_remove, both_first, both_second, find_below, without, without_is_remove, sorted_without}
use Rattle.object_model.specs.Prelude.{is_same}
use Rattle.unit_fields.specs.Prelude.{IsName}
use Rattle.plan_proofs.proofs.Names.{same_is, itself}
use Rattle.page_edits.proofs.Lists.{In}
use Rattle.txn_planner.specs.declared.touched.Touched.{Touched}
use Rattle.txn_planner.specs.Laying.{AllNamed}

-- ---- one that is taken out

module _ (objects : ByteMap Touched) (u : List ℕ) where
  -- the others are as they were
  pub left_some : (o : List ℕ) (t : Touched) → finite.get (finite.remove objects u) o ≡ Some t → finite.get objects o ≡ Some t
  left_some o t is = by (is_same o u) (sym (after_remove objects u o) ∙ is)
    where
      by : (b : Bool) → cond b None (finite.get objects o) ≡ Some t → finite.get objects o ≡ Some t
      by true e = absurd cc
      by false e = e

  pub taken_out : (o : List ℕ) → u ≡ o → finite.get (finite.remove objects u) o ≡ None
  taken_out o e = after_remove objects u o ∙ ap (λ b. cond b None (finite.get objects o)) (ap (is_same o) e ∙ itself o)

  pub left_in : (o : List ℕ) → u ≢ o → finite.get (finite.remove objects u) o ≡ finite.get objects o
  left_in o apart = after_remove objects u o ∙ by (is_same o u) refl
    where
      by : (b : Bool) → is_same o u ≡ b → cond b None (finite.get objects o) ≡ finite.get objects o
      by true e = absurd (apart (sym (same_is o u e)))
      by false e = refl

-- a name that is found is among the names
name_in : (es : List (List ℕ × Touched)) (o : List ℕ) (t : Touched) → find byte_order o es ≡ Some t → In (map (λ e. e.0) es) o
name_in [] o t is = absurd cc
name_in (e ∷ es) o t is = elim (cases_Bool (is_same o e.0)) [
  | inl same ↦ inl (sym (same_is o e.0 same))
  | inr apart ↦ inr (name_in es o t (sym (ap (λ b. cond b (Some e.1) (find byte_order o es)) apart) ∙ is))
]

pub among_keys : (objects : ByteMap Touched) (o : List ℕ) (t : Touched) → finite.get objects o ≡ Some t → In (finite.keys objects) o
among_keys objects o t is = name_in (entries objects) o t (sym (get-entries objects o) ∙ is)

-- and what is among entries is found
pub entry_found : {X : Type 0} (es : List (List ℕ × X)) (o : List ℕ) (t : X) → T (is_sorted byte_order es) → In es (o, t) → find byte_order o es ≡ Some t
entry_found [] o t sorted is = absurd is
entry_found (e ∷ es) o t sorted (inl is) =
    ap (λ b. cond b (Some e.1) (find byte_order o es)) (ap (λ f. is_same o f.0) is ∙ itself o) ∙ ap (λ f. Some f.1) is
entry_found (e ∷ es) o t sorted (inr later) = elim (cases_Bool (is_same o e.0)) [
  | inl same ↦ absurd
      (let none : find byte_order o es ≡ None = ap (λ u. find byte_order u es) (same_is o e.0 same)
      ∙ find_below e.0 es (both_first (below_all byte_order e.0 es) _ sorted) in
      let there = sym none ∙ entry_found es o t (both_second (below_all byte_order e.0 es) _ sorted) later in cc)
  | inr apart ↦ ap (λ b. cond b (Some e.1) (find byte_order o es)) apart
      ∙ entry_found es o t (both_second (below_all byte_order e.0 es) _ sorted) later
]

-- the key of the first entry is a name
pub first_named : (objects : ByteMap Touched) → AllNamed objects → (es : List (List ℕ × Touched)) → es ≡ entries objects
    → (e : List ℕ × Touched) → Some e ≡ slice_get es 0 → IsName e.0
first_named objects named [] are e is = absurd (let no = is in cc)
first_named objects named (f ∷ es) are e is =
    let same : f ≡ e = sym (ap (λ z. unwrap_or z f) is) in
    let among : In (entries objects) e = subst (λ l. In l e) are (inl same) in
    named e.0 e.1 (get-entries objects e.0 ∙ entry_found (entries objects) e.0 e.1 (entries_sorted objects) among)

-- ---- the first one is taken out

all_apart : (u : List ℕ) (es : List (List ℕ × Touched)) → T (below_all byte_order u es) → without u es ≡ es
all_apart u [] low = refl
all_apart u (e ∷ es) low =
    let less : byte_order u e.0 ≡ Less = is_less (byte_order u e.0) (both_first _ _ low) in
    ap (λ r. cond (not (is_eq r)) (e ∷ without u es) (without u es)) less
    ∙ ap (λ (l : List (List ℕ × Touched)). e ∷ l) (all_apart u es (both_second _ _ low))
  where
    is_less : (r : Ordering) → T (is_lt r) → r ≡ Less
    is_less Less h = refl
    is_less Equal h = absurd h
    is_less Greater h = absurd h

without_first : (e : List ℕ × Touched) (es : List (List ℕ × Touched)) → T (is_sorted byte_order (e ∷ es)) → without e.0 (e ∷ es) ≡ es
without_first e es sorted =
    ap (λ r. cond (not (is_eq r)) (e ∷ without e.0 es) (without e.0 es)) (tied_itself nat_list_cmp_total e.0)
    ∙ all_apart e.0 es (both_first _ _ sorted)

entries_left : (objects : ByteMap Touched) (u : List ℕ) → entries (finite.remove objects u) ≡ without u (entries objects)
entries_left objects u =
    let es = entries objects in
    let sorted = entries_sorted objects in
    let back : finite.from_sorted {R = byte_order} es ≡ objects =
    same_entries_map (finite.from_sorted es) objects (entries-from_sorted byte_order es sorted) in
    ap (λ m. entries (finite.remove m u)) (sym back) ∙ ap entries (sym (without_is_remove u es sorted))
    ∙ entries-from_sorted byte_order (without u es) (sorted_without u es sorted)

-- the others are left
pub names_left : (objects : ByteMap Touched) (u : List ℕ) (names : List (List ℕ)) → finite.keys objects ≡ u ∷ names
    → finite.keys (finite.remove objects u) ≡ names
names_left objects u names are = ap (map (λ e. e.0)) (entries_left objects u) ∙ by (entries objects) (entries_sorted objects) are
  where
    by : (es : List (List ℕ × Touched)) → T (is_sorted byte_order es) → map (λ e. e.0) es ≡ u ∷ names
        → map (λ e. e.0) (without u es) ≡ names
    by [] sorted is = absurd cc
    by (e ∷ es) sorted is =
        let first : e.0 ≡ u = ap (λ (l : List (List ℕ)). get_or l 0 []) is in
        let rest : map (λ (f : List ℕ × Touched). f.0) es ≡ names = ap (drop 1) is in
        ap (λ v. map (λ (f : List ℕ × Touched). f.0) (without v (e ∷ es))) (sym first)
        ∙ ap (map (λ (f : List ℕ × Touched). f.0)) (without_first e es sorted) ∙ rest

-- those behind the first one
pub names_behind : (objects : ByteMap Touched) (name : List ℕ) → slice_get (finite.keys objects) 0 ≡ Some name
    → (names : List (List ℕ)) × (finite.keys objects ≡ name ∷ names)
names_behind objects name is = by (finite.keys objects) refl is
  where
    by : (l : List (List ℕ)) → finite.keys objects ≡ l → slice_get l 0 ≡ Some name
        → (names : List (List ℕ)) × (finite.keys objects ≡ name ∷ names)
    by [] are first = absurd cc
    by (o ∷ names) are first = (names, are ∙ ap (λ (u : List ℕ). u ∷ names) (same_name first))
      where
        same_name : Some o ≡ Some name → o ≡ name
        same_name e = ap (λ (z : Option (List ℕ)). unwrap_or z o) e

-- there is none
pub no_names : (objects : ByteMap Touched) → slice_get (finite.keys objects) 0 ≡ None → finite.keys objects ≡ []
no_names objects none = by (finite.keys objects) none
  where
    by : (l : List (List ℕ)) → slice_get l 0 ≡ None → l ≡ []
    by [] none = refl
    by (o ∷ names) none = absurd cc

count_names : (objects : ByteMap Touched) → finite.len objects ≡ length (finite.keys objects)
count_names objects = finite.len-entries objects ∙ sym (length-map (entries objects) (λ (e : List ℕ × Touched). e.0))

-- fewer are left
pub one_fewer : (objects : ByteMap Touched) (u : List ℕ) (names : List (List ℕ)) → finite.keys objects ≡ u ∷ names
    → finite.len (finite.remove objects u) < finite.len objects
one_fewer objects u names are =
    omega (arith, count_names objects, count_names (finite.remove objects u), ap length are, ap length (names_left objects u names are))
