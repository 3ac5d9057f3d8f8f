-- The rows of an object's values of one kind are those of a range of keys, where the names stand behind a common front.
use Rattle.std.proofs.Common.{◌≡◌, ◌≢◌, ℕ, ◌+◌, ◌≤◌, Bool, true, cond, T, List, [], ◌∷◌, ◌++◌, length, map, drop, Some, None, is_some, refl, sym, ap, subst, ◌∙◌, append_assoc, arith}
use Rattle.std.specs.Prelude.{◌&&◌}
use Rattle.std.specs.List.{AllByRecursion}
use Rattle.std.specs.Ordering.{is_eq, is_lt}
use Rattle.std.specs.declared.cmp.Ordering.TheVariants.{Less}
use Rattle.std.specs.FinMap as finite
use Rattle.std.specs.FinMap.{find, is_sorted}
use Rattle.std.specs.FinMap.Entries.{below_all}
use Rattle.std.proofs.Math.Seq.{drop-append_seam}
use Rattle.std.proofs.lemmas.List.{length-drop}
use Rattle.byte_maps.specs.ByteMap.{byte_order, in_range}
use Rattle.unit_fields.specs.Prelude.{IsName, IsCollName}
use Rattle.meta_rows.specs.Prelude.{Rows, rows_from_to}
use Rattle.row_format.specs.Prelude.{attr_key, omap_key}
use Rattle.row_reading.proofs.KeyOrder.{after_front, has_front}
use Rattle.row_facts.proofs.ValueRows.{attribute_is, pair_is}
use Rattle.object_rows.specs.Stores.{AreRowsOfAStore}
use Rattle.read_facts.specs.declared.view.ValueView.{ValueView}
use Rattle.read_facts.specs.Prelude.{AreAll, IsValueOf, value_names, AreValues}
use Rattle.read_facts.proofs.Shaped.{key_front}
use Rattle.read_facts.proofs.Walks.{IsFoundIn, found_each, all_to, entries_are_all}
use Rattle.object_reader.specs.ValueRows.{value_behind, IsNamedBehind}
use Rattle.object_rows.proofs.NamesRange.{cut, from_range, to_range, AreInRange, lent}
use Rattle.object_rows.proofs.NamesOrder.{begins, none_below, same_first, lesser_first}

-- ---- the keys from a front and a byte on, and below that front and the next byte

module _ (p : List ℕ) (b m : ℕ) (next : m ≡ b + 1) where
  -- begin with both
  pub in_front : (key : List ℕ) → in_range (p ++ b ∷ []) (p ++ m ∷ []) key ≡ true → (rest : List ℕ) × (key ≡ (p ++ b ∷ []) ++ rest)
  in_front key is =
      let sides = from_range (p ++ b ∷ []) (p ++ m ∷ []) key is in
      let has = has_front p key (b ∷ []) (m ∷ []) sides.0 sides.1 in
      let up : byte_order has.0 (b ∷ []) ≢ Less =
      λ less. sides.0 (ap (λ (k : List ℕ). byte_order k (p ++ b ∷ [])) has.1 ∙ after_front p has.0 (b ∷ []) ∙ less) in
      let down : byte_order has.0 (m ∷ []) ≡ Less =
      sym (ap (λ (k : List ℕ). byte_order k (p ++ m ∷ [])) has.1 ∙ after_front p has.0 (m ∷ [])) ∙ sides.1 in
      let found = begins b m [] has.0 next up down in
      (found.rest, has.1 ∙ ap (λ (l : List ℕ). p ++ l) found.is ∙ sym (append_assoc p (b ∷ []) found.rest))

  -- and each that begins so is one
  pub front_in : (rest : List ℕ) → in_range (p ++ b ∷ []) (p ++ m ∷ []) ((p ++ b ∷ []) ++ rest) ≡ true
  front_in rest =
      subst (λ (k : List ℕ). in_range (p ++ b ∷ []) (p ++ m ∷ []) k ≡ true) (sym (append_assoc p (b ∷ []) rest))
      (to_range (p ++ b ∷ []) (p ++ m ∷ []) (p ++ (b ∷ rest))
      (λ less. none_below rest (sym (after_front p (b ∷ rest) (b ∷ []) ∙ same_first b rest []) ∙ less))
      (after_front p (b ∷ rest) (m ∷ []) ∙ lesser_first b m rest [] (omega (arith, next))))

-- ---- entries whose keys have a front, and the same without it

-- a row: its key and its value
abbrev pub Entry : Type 0
Entry = List ℕ × List ℕ

abbrev behind : ℕ → Entry → Entry
behind skip e = (drop skip e.0, e.1)

-- the names in both
same_names : (skip : ℕ) (es : List Entry) → map (λ (e : Entry). e.0) (map (behind skip) es) ≡ value_names (map (value_behind skip) es)
same_names skip [] = refl
same_names skip (e ∷ es) = ap (λ (names : List (List ℕ)). drop skip e.0 ∷ names) (same_names skip es)

-- what holds of each by its image holds of each image
all_mapped : {A B : Type 0} (f : A → B) (P : B → Type 0) (xs : List A) → AllByRecursion (λ (x : A). P (f x)) xs → AllByRecursion P (map f xs)
all_mapped f P [] all = tt
all_mapped f P (x ∷ xs) all = (all.0, all_mapped f P xs all.1)

module _ (front : List ℕ) where
  abbrev HasFront : Entry → Type 0
  HasFront e = e.0 ≡ front ++ drop (length front) e.0

  -- the order is that of what stands behind the front
  order_behind : (k e : Entry) → HasFront k → HasFront e → byte_order (drop (length front) k.0) (drop (length front) e.0) ≡ byte_order k.0 e.0
  order_behind k e k_has e_has =
      sym (after_front front (drop (length front) k.0) (drop (length front) e.0)) ∙ (λ i. byte_order (sym k_has i) (sym e_has i))

  find_behind : (name : List ℕ) (es : List Entry) → AllByRecursion HasFront es
      → find byte_order name (map (behind (length front)) es) ≡ find byte_order (front ++ name) es
  find_behind name [] have = refl
  find_behind name (e ∷ es) have =
      let order : byte_order name (drop (length front) e.0) ≡ byte_order (front ++ name) e.0 =
      sym (after_front front name (drop (length front) e.0)) ∙ ap (byte_order (front ++ name)) (sym have.0) in
      let rest = find_behind name es have.1 in
      λ i. cond (is_eq (order i)) (Some e.1) (rest i)

  below_behind : (k : Entry) (es : List Entry) → HasFront k → AllByRecursion HasFront es
      → below_all byte_order (drop (length front) k.0) (map (behind (length front)) es) ≡ below_all byte_order k.0 es
  below_behind k [] has have = refl
  below_behind k (e ∷ es) has have =
      let order = order_behind k e has have.0 in
      let rest = below_behind k es has have.1 in
      λ i. is_lt (order i) && rest i

  sorted_behind : (es : List Entry) → AllByRecursion HasFront es → is_sorted byte_order (map (behind (length front)) es) ≡ is_sorted byte_order es
  sorted_behind [] have = refl
  sorted_behind (e ∷ es) have =
      let first = below_behind e es have.0 have.1 in
      let rest = sorted_behind es have.1 in
      λ i. first i && rest i

-- ---- the values of one kind

-- each key in the range is the front and a name, and the front and a name is in the range
module _ (rows : Rows) (key_of : List ℕ → List ℕ) (front end : List ℕ) (keys : (name : List ℕ) → front ++ name ≡ key_of name)
    (inside : (key : List ℕ) → in_range front end key ≡ true → (rest : List ℕ) × (key ≡ front ++ rest))
    (holds : (rest : List ℕ) → in_range front end (front ++ rest) ≡ true)
    (named : (name value : List ℕ) → finite.get rows (key_of name) ≡ Some value → IsName name) where
  abbrev range : List Entry
  range = rows_from_to rows front (Some end)

  are : AreInRange rows front end range
  are = lent rows front end range refl

  -- a row of the range is that of a value
  record IsOfValue (e : Entry) : Type 0 where
    has : HasFront front e
    name : IsName (drop (length front) e.0)
    held : finite.get rows (key_of (drop (length front) e.0)) ≡ Some e.1

  of_value : (e : Entry) → IsFoundIn range e → IsOfValue e
  of_value e found =
      let name : List ℕ = drop (length front) e.0 in
      let there = cut (in_range front end e.0) (finite.get rows e.0) e.1 (sym (are.finds e.0) ∙ found) in
      let split = inside e.0 there.0 in
      let rest : name ≡ split.0 = ap (λ (l : List ℕ). drop (length front) l) split.1 ∙ drop-append_seam front split.0 in
      let has : e.0 ≡ front ++ name = split.1 ∙ ap (λ (l : List ℕ). front ++ l) (sym rest) in
      let held : finite.get rows (key_of name) ≡ Some e.1 = ap (finite.get rows) (sym (has ∙ keys name)) ∙ there.1 in
      record { has = has; name = named name e.1 held; held = held }

  of_values : AllByRecursion IsOfValue range
  of_values = all_to (IsFoundIn range) IsOfValue of_value range (found_each range are.sorted)

  pub range_named : AllByRecursion (IsNamedBehind (length front)) range
  range_named = all_to IsOfValue (IsNamedBehind (length front)) (λ e is. is.name) range of_values

  have_front : AllByRecursion (HasFront front) range
  have_front = all_to IsOfValue (HasFront front) (λ e is. is.has) range of_values

  -- they are all values
  pub range_values : AreValues key_of rows (map (value_behind (length front)) range)
  range_values =
      let skip : ℕ = length front in
      let es : List Entry = map (behind skip) range in
      let sorted : T (is_sorted byte_order es) = subst (λ (b : Bool). T b) (sym (sorted_behind front range have_front)) are.sorted in
      let values : AllByRecursion (λ (e : Entry). IsValueOf key_of rows e.0) es =
      all_mapped (behind skip) (λ (e : Entry). IsValueOf key_of rows e.0) range
      (all_to IsOfValue (λ (e : Entry). IsValueOf key_of rows (drop skip e.0)) (λ e is. record { named = is.name; there = ap is_some is.held }) range of_values) in
      record {
        all = subst (AreAll (IsValueOf key_of rows)) (same_names skip range)
            (entries_are_all (IsValueOf key_of rows) es sorted values (λ name its.
            ap is_some (find_behind front name range have_front ∙ are.finds (front ++ name)
            ∙ ap (λ (b : Bool). cond b (finite.get rows (front ++ name)) None) (holds name) ∙ ap (finite.get rows) (keys name)) ∙ its.there));
        each = all_mapped (value_behind skip) (λ (v : ValueView). finite.get rows (key_of v.name) ≡ Some v.value) range
            (all_to IsOfValue (λ (e : Entry). finite.get rows (key_of (drop skip e.0)) ≡ Some e.1) (λ e is. is.held) range of_values);
      }

-- ---- the attributes and the pairs of an object

module _ (rows : Rows) (c o : List ℕ) (store : AreRowsOfAStore rows) (coll : IsCollName c) (object : IsName o) where
  -- what stands before the last byte of where they begin
  abbrev attr_front : List ℕ
  attr_front = 0x41 ∷ (c ++ 0 ∷ o)

  abbrev pair_front : List ℕ
  pair_front = 0x4d ∷ (c ++ 0 ∷ (o ++ 0 ∷ []))

  at_attr : (b : ℕ) → 0x41 ∷ (c ++ 0 ∷ (o ++ b ∷ [])) ≡ attr_front ++ b ∷ []
  at_attr b = ap (λ (l : List ℕ). 0x41 ∷ l) (sym (append_assoc c (0 ∷ o) (b ∷ [])))

  at_pair : (b : ℕ) → 0x4d ∷ (c ++ 0 ∷ (o ++ 0 ∷ b ∷ [])) ≡ pair_front ++ b ∷ []
  at_pair b = ap (λ (l : List ℕ). 0x4d ∷ l)
      (ap (λ (l : List ℕ). c ++ 0 ∷ l) (sym (append_assoc o (0 ∷ []) (b ∷ []))) ∙ sym (append_assoc c (0 ∷ (o ++ 0 ∷ [])) (b ∷ [])))

  attr_named : (name value : List ℕ) → finite.get rows (attr_key c o name) ≡ Some value → IsName name
  attr_named name value is = ((attribute_is store.sup rows c o coll object name value).0 (store.good (attr_key c o name) value is)).0.named

  pair_named : (name value : List ℕ) → finite.get rows (omap_key c o name) ≡ Some value → IsName name
  pair_named name value is = ((pair_is store.sup rows c o coll object name value).0 (store.good (omap_key c o name) value is)).0.named

  -- what a range of rows says, by where it begins and ends
  pub record SaysValues (key_of : List ℕ → List ℕ) (front end : List ℕ) : Type 0 where
    pub are_named : AllByRecursion (IsNamedBehind (length front)) (rows_from_to rows front (Some end))
    pub values : AreValues key_of rows (map (value_behind (length front)) (rows_from_to rows front (Some end)))

  says_values : (key_of : List ℕ → List ℕ) (p : List ℕ) (b m : ℕ) → m ≡ b + 1 → ((name : List ℕ) → (p ++ b ∷ []) ++ name ≡ key_of name)
      → ((name value : List ℕ) → finite.get rows (key_of name) ≡ Some value → IsName name) → SaysValues key_of (p ++ b ∷ []) (p ++ m ∷ [])
  says_values key_of p b m next keys named = record {
    are_named = range_named rows key_of (p ++ b ∷ []) (p ++ m ∷ []) keys (in_front p b m next) (front_in p b m next) named;
    values = range_values rows key_of (p ++ b ∷ []) (p ++ m ∷ []) keys (in_front p b m next) (front_in p b m next) named;
  }

  pub attrs_in : (front end : List ℕ) → front ≡ 0x41 ∷ (c ++ 0 ∷ (o ++ 0 ∷ [])) → end ≡ 0x41 ∷ (c ++ 0 ∷ (o ++ 1 ∷ [])) → SaysValues (attr_key c o) front end
  attrs_in front end begin ends =
      subst (λ (l : List ℕ). SaysValues (attr_key c o) l end) (sym (begin ∙ at_attr 0))
      (subst (λ (l : List ℕ). SaysValues (attr_key c o) (attr_front ++ 0 ∷ []) l) (sym (ends ∙ at_attr 1))
      (says_values (attr_key c o) attr_front 0 1 refl
      (λ name. ap (λ (l : List ℕ). l ++ name) (sym (at_attr 0)) ∙ key_front 0x41 c o [] name) attr_named))

  pub pairs_in : (front end : List ℕ) → front ≡ 0x4d ∷ (c ++ 0 ∷ (o ++ 0 ∷ 0x2e ∷ [])) → end ≡ 0x4d ∷ (c ++ 0 ∷ (o ++ 0 ∷ 0x2f ∷ []))
      → SaysValues (omap_key c o) front end
  pairs_in front end begin ends =
      subst (λ (l : List ℕ). SaysValues (omap_key c o) l end) (sym (begin ∙ at_pair 0x2e))
      (subst (λ (l : List ℕ). SaysValues (omap_key c o) (pair_front ++ 0x2e ∷ []) l) (sym (ends ∙ at_pair 0x2f))
      (says_values (omap_key c o) pair_front 0x2e 0x2f refl
      (λ name. ap (λ (l : List ℕ). l ++ name) (sym (at_pair 0x2e)) ∙ key_front 0x4d c o (0x2e ∷ []) name) pair_named))

-- ---- one value more

pub one_more : (values new : List ValueView) (skip : ℕ) (v : ValueView) (e : Entry) (rest es : List Entry) → new ≡ values ++ v ∷ [] → v ≡ value_behind skip e
    → es ≡ e ∷ rest → new ++ map (value_behind skip) rest ≡ values ++ map (value_behind skip) es
one_more values new skip v e rest es is v_is steps =
    ap (λ (l : List ValueView). l ++ map (value_behind skip) rest) is ∙ append_assoc values (v ∷ []) (map (value_behind skip) rest)
    ∙ ap (λ (x : ValueView). values ++ x ∷ map (value_behind skip) rest) v_is ∙ sym (ap (λ (l : List Entry). values ++ map (value_behind skip) l) steps)

-- a name is not empty, so it doesn't stand behind the end
pub name_within : (skip : ℕ) (key : List ℕ) → IsName (drop skip key) → skip ≤ length key
name_within skip key named = omega (arith, named.not_empty, length-drop skip key)
