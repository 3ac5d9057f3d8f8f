-- Objects under their names, and with one of them put.
use Rattle.std.proofs.Common.{◌≡◌, ◌⊎◌, inl, inr, ℕ, List, Option, Some, Result, Ok, option_and_then, sym, ap, ◌∙◌}
use Rattle.std.specs.FinMap as map
use Rattle.object_model.specs.declared.op.Refusal.{Refusal}
use Rattle.object_model.specs.Prelude.{Object, Collection, Objects, Outcome, with_collection, object_under, ◌>>=◌}
use Rattle.store_image.proofs.Prelude.{equal_or_not}
use Rattle.row_facts.proofs.Maps.{get_same, get_other}

-- the object of a name, or another
pub object_cases : (c o d u : List ℕ) → ((d ≡ c) × (u ≡ o)) ⊎ (d ≡ c → u ≡ o → ⊥)
object_cases c o d u = elim (equal_or_not d c) [
  | inl e ↦ elim (equal_or_not u o) [ inl f ↦ inl (e, f) | inr apart ↦ inr (λ _ f. apart f) ]
  | inr apart ↦ inr (λ e _. apart e)
]

-- ---- objects with one of them put

abbrev found_in : List ℕ → Option Collection → Option Object
found_in u x = option_and_then (λ (found : Collection). map.get found u) x

module _ (objects : Objects) (c o : List ℕ) (coll : Collection) (object : Object) where
  abbrev pub with_object : Objects
  with_object = map.insert objects c (map.insert coll o object)

  pub under_same : object_under with_object c o ≡ Some object
  under_same = ap (found_in o) (get_same objects c (map.insert coll o object)) ∙ get_same coll o object

  pub under_other : map.get objects c ≡ Some coll → (d u : List ℕ) → (d ≡ c → u ≡ o → ⊥) → object_under with_object d u ≡ object_under objects d u
  under_other found d u other = elim (equal_or_not d c) [
    | inl e ↦ ap (λ x. object_under with_object x u) e ∙ ap (found_in u) (get_same objects c (map.insert coll o object))
        ∙ get_other coll o object u (other e) ∙ ap (found_in u) (sym found) ∙ ap (λ x. object_under objects x u) (sym e)
    | inr apart ↦ ap (found_in u) (get_other objects c (map.insert coll o object) d apart)
  ]

-- what an outcome for a collection is for all objects
abbrev pub after_outcome : Objects → List ℕ → Outcome → Result Objects Refusal
after_outcome objects c r = r >>= λ x. Ok (with_collection objects c x)
