-- The names of transactions: so far each has one, that of its collection.
use Rattle.std.proofs.Common.{◌≡◌, ℕ, Bool, true, false, ◌||◌, List, [], ◌∷◌, refl, sym, ap, ◌∙◌, arith}
use Rattle.std.specs.Ordering.{is_eq}
use Rattle.std.specs.Cmp.{tied_itself}
use Rattle.std.specs.declared.cmp.Ordering.{Ordering}
use Rattle.std.specs.declared.cmp.Ordering.TheVariants.{Less, Equal, Greater}
use Rattle.std.specs.Cmp.Lexicographic.{nat_list_cmp_total}
use Rattle.std.proofs.lemmas.Bool.{or_parts}
use Rattle.byte_maps.proofs.Prelude.{same_bytes}
use Rattle.object_model.specs.Prelude.{Change, is_same, names_of, is_named, any_named, OneName, HaveOneName}

-- ---- names that are the same

is_equal : (o : Ordering) → is_eq o ≡ true → o ≡ Equal
is_equal Less e = cc
is_equal Equal e = refl
is_equal Greater e = cc

pub same_name : (x y : List ℕ) → is_same x y ≡ true → x ≡ y
same_name x y e = same_bytes x y (is_equal _ e)

pub is_same_itself : (x : List ℕ) → is_same x x ≡ true
is_same_itself x = ap is_eq (tied_itself nat_list_cmp_total x)

-- ---- lists of names

-- where there is one name, no other is named
pub only_name : (names : List (List ℕ)) (c d : List ℕ) → OneName names → is_named c names ≡ true → is_named d names ≡ true → c ≡ d
only_name [] c d one is_c is_d = absurd cc
only_name (name ∷ []) c d one is_c is_d = same_name c name is_c ∙ sym (same_name d name is_d)
only_name (name ∷ other ∷ names) c d one is_c is_d = absurd (omega (arith, one))

-- where none of the others is among the names, none of the names is one of the others
pub none_common : (names others : List (List ℕ)) (c : List ℕ) → any_named names others ≡ false → is_named c names ≡ true → is_named c others ≡ false
none_common names [] c apart is = refl
none_common names (other ∷ others) c apart is =
    ap (λ (b : Bool). b || is_same c other) (none_common names others c parts.0 is) ∙ by_test (is_same c other) refl
  where
    parts : (any_named names others ≡ false) × (is_named other names ≡ false)
    parts = or_parts (any_named names others) (is_named other names) apart

    by_test : (b : Bool) → is_same c other ≡ b → b ≡ false
    by_test true e = sym is ∙ ap (λ (n : List ℕ). is_named n names) (same_name c other e) ∙ parts.1
    by_test false e = refl

-- ---- transactions

pub has_one_name : (change : Change) → OneName (names_of change)
has_one_name change = refl

pub have_one_name : (changes : List Change) → HaveOneName changes
have_one_name [] = tt
have_one_name (change ∷ changes) = (has_one_name change, have_one_name changes)

pub is_own : (change : Change) → is_named change.coll (names_of change) ≡ true
is_own change = is_same_itself change.coll

-- a name of a transaction that has one is that of its collection
pub own_name : (change : Change) (coll : List ℕ) → OneName (names_of change) → is_named coll (names_of change) ≡ true → coll ≡ change.coll
own_name change coll one is = only_name (names_of change) coll change.coll one is (is_own change)

-- and it is tested by that name
pub own_test : (change : Change) (coll : List ℕ) → OneName (names_of change) → is_named coll (names_of change) ≡ is_same coll change.coll
own_test change coll one = by_test (is_named coll (names_of change)) (is_same coll change.coll) refl refl
  where
    by_test : (b same : Bool) → is_named coll (names_of change) ≡ b → is_same coll change.coll ≡ same → b ≡ same
    by_test true same e s = sym (is_same_itself change.coll) ∙ ap (λ (c : List ℕ). is_same c change.coll) (sym (own_name change coll one e)) ∙ s
    by_test false true e s =
        sym e ∙ ap (λ (c : List ℕ). is_named c (names_of change)) (same_name coll change.coll s) ∙ is_own change
    by_test false false e s = refl
