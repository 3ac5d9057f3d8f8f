-- The lines of replies, one behind the other.
use Rattle.std.proofs.Common.{◌≡◌, ℕ, List, [], ◌∷◌, ◌++◌, codes, ap, ◌∙◌}
use Rattle.std.proofs.Common.{append_assoc, append-nil, sym, subst, refl, Result, Ok}
use Rattle.std.specs.Prelude.{IfOk}
use Rattle.script_text.specs.Prelude.{escape, escaped}
use Rattle.script_text.proofs.Spelled.{spelled_nil, spelled_more}
use Rattle.run_texts.specs.Prelude.{names_text}

-- names in two parts
pub escaped-append : (xs ys : List ℕ) → escaped (xs ++ ys) ≡ escaped xs ++ escaped ys
escaped-append [] ys = ap (λ (l : List ℕ). l ++ escaped ys) (sym (spelled_nil escape))
escaped-append (x ∷ xs) ys =
    spelled_more escape x (xs ++ ys) ∙ ap (λ (l : List ℕ). escape x ++ l) (escaped-append xs ys) ∙ sym (append_assoc (escape x) (escaped xs) (escaped ys))
    ∙ ap (λ (l : List ℕ). l ++ escaped ys) (sym (spelled_more escape x xs))

pub escaped_one : (b : ℕ) → escaped (b ∷ []) ≡ escape b
escaped_one b = spelled_more escape b [] ∙ ap (λ (l : List ℕ). escape b ++ l) (spelled_nil escape) ∙ append-nil (escape b)

pub names-append : (xs ys : List (List ℕ)) → names_text (xs ++ ys) ≡ names_text xs ++ names_text ys
names-append [] ys = refl
names-append (n ∷ xs) ys = ap (λ (t : List ℕ). 0x20 ∷ (escaped n ++ t)) (names-append xs ys)
    ∙ ap (λ (t : List ℕ). 0x20 ∷ t) (sym (append_assoc (escaped n) (names_text xs) (names_text ys)))

-- one name
pub one_name : (name : List ℕ) → codes " " ++ escaped name ≡ names_text (name ∷ [])
one_name name = ap (λ (t : List ℕ). 0x20 ∷ t) (sym (append-nil (escaped name)))

-- what holds of a value in an Ok holds of this one
pub at_ok : {A E : Type 0} (P : A → Type 0) (r : Result A E) (x : A) → r ≡ Ok x → IfOk r P → P x
at_ok {A} {E} P r x is told = subst (λ (q : Result A E). IfOk q P) is told
