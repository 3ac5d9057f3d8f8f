-- Fields written behind a code, one after another.
use Rattle.std.proofs.Common.{ℕ, List, [], ◌∷◌, ◌++◌, sym, ap, ◌∙◌, append_assoc, append-nil, Result, Ok, Err, OnOk}
use Rattle.std.specs.List.{flat_map, AllByRecursion}
use Rattle.std.proofs.lemmas.List.Concat.{flat_map-cons, flat_map-append}
use Rattle.txn_codec.specs.Prelude.{Field, field_bytes, FitsField, AddsSpelling, AddsForm}

all_push : (fs : List Field) (f : Field) → AllByRecursion FitsField fs → FitsField f → AllByRecursion FitsField (fs ++ f ∷ [])
all_push [] f all fits = (fits, tt)
all_push (g ∷ fs) f all fits = (all.0, all_push fs f all.1 fits)

-- one field more
pub form_more : (code : ℕ) (fs : List Field) (f : Field) (old mid new : List ℕ) → AddsForm code fs old mid → AddsSpelling FitsField field_bytes f mid new
    → AddsForm code (fs ++ f ∷ []) old new
form_more code fs f old mid new adds one = (
  all_push fs f adds.0 one.0,
  one.1 ∙ ap (λ (l : List ℕ). l ++ field_bytes f) adds.1 ∙ append_assoc old (code ∷ flat_map field_bytes fs) (field_bytes f)
      ∙ ap (λ (l : List ℕ). old ++ (code ∷ (flat_map field_bytes fs ++ l))) (sym (flat_map-cons field_bytes f [] ∙ append-nil (field_bytes f)))
      ∙ ap (λ (l : List ℕ). old ++ (code ∷ l)) (sym (flat_map-append field_bytes fs (f ∷ []))),
)

pub form_ends : {E : Type 0} (code : ℕ) (fs : List Field) (f : Field) (old mid new : List ℕ) (r : Result (Unit {0}) E) → AddsForm code fs old mid
    → OnOk r (AddsSpelling FitsField field_bytes f mid new) → OnOk r (AddsForm code (fs ++ f ∷ []) old new)
form_ends code fs f old mid new (Ok x) adds one = form_more code fs f old mid new adds one
form_ends code fs f old mid new (Err e) adds one = one
