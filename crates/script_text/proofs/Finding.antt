-- What a reader found, where it is what another one found, or where that found nothing.
use Rattle.std.proofs.Common.{◌≡◌, ◌∙◌, sym, subst, Result, Ok, Err, IsErr, IsErrAnd, MatchResult}
use Rattle.script_text.specs.Prelude.{Finds}
use Rattle.script_text.specs.declared.fail.WordFail.{WordFail}
use Rattle.script_text.specs.declared.fail.WordFail.TheVariants.{NotSpelled}

-- why a part wasn't read is why the whole wasn't, since the whole has such a part
pub handed_on : {X Y : Type 0} (Whole : X → Type 0) (Part : Y → Type 0) (r : Result X WordFail) (why : WordFail)
    → IsErr r × IsErrAnd r (λ e. e ≡ why) → (why ≡ NotSpelled → (y : Y) → ¬ (Part y)) → ((x : X) → Whole x → (y : Y) × Part y) → Finds Whole r
handed_on Whole Part (Ok x) why is none parts = absurd is.1
handed_on Whole Part (Err e) why is none parts = λ same x whole. let part = parts x whole in none (sym is.1 ∙ same) part.0 part.1

-- what was found is so in other words too
pub found_as : {X : Type 0} (Was Is : X → Type 0) (r : Result X WordFail) → ((x : X) → Was x → Is x) → ((x : X) → Is x → (y : X) × Was y)
    → Finds Was r → Finds Is r
found_as Was Is (Ok x) there back found = there x found
found_as Was Is (Err e) there back none = λ same x is. let was = back x is in none same was.0 was.1

-- both were found, where the whole is the first and a second that was looked for
pub found_both : {A B : Type 0} (Part : B → Type 0) (Whole : A × B → Type 0) (a : A) (second : Result B WordFail) (r : Result (A × B) WordFail)
    → MatchResult r (λ x. (x.0 ≡ a) × (second ≡ Ok x.1)) (λ why. second ≡ Err why) → ((b : B) → Part b → Whole (a, b))
    → ((x : A × B) → Whole x → (b : B) × Part b) → Finds Part second → Finds Whole r
found_both {A} {B} Part Whole a second (Ok x) is there back found =
    subst (λ (b : A). Whole (b, x.1)) (sym is.0) (there x.1 (subst (λ (s : Result B WordFail). Finds Part s) is.1 found))
found_both {A} {B} Part Whole a second (Err why) is there back found =
    λ same x whole. let part = back x whole in subst (λ (s : Result B WordFail). Finds Part s) is found same part.0 part.1
