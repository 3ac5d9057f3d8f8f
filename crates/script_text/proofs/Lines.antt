-- Lines, split at their line feeds.
use Rattle.std.proofs.Common.{◌≡◌, ◌≢◌, inl, inr, ℕ, ◌≤◌, ◌==◌, Bool, false, cond, List, []}
use Rattle.std.proofs.Common.{◌∷◌, ◌++◌, length, refl, sym, ap, subst, ◌∙◌, arith, append_assoc, length-append}
use Rattle.std.specs.List.{AllByRecursion}
use Rattle.std.proofs.lemmas.Bool.{cases_Bool}
use Rattle.std.proofs.lemmas.Bool.Decides.{nat_tests}
use Rattle.script_text.specs.Prelude.{HasNo, onto, lines_of, ended}

not_feed : (b : ℕ) → b ≢ 10 → (b == 10) ≡ false
not_feed b apart = elim (cases_Bool (b == 10)) [ inl same ↦ (let is : b ≡ 10 = grind (arith, nat_tests) in absurd (apart is)) | inr other ↦ other ]

lines_of_byte : (b : ℕ) (bytes : List ℕ) → b ≢ 10 → lines_of (b ∷ bytes) ≡ onto b (lines_of bytes)
lines_of_byte b bytes apart = ap (λ (t : Bool). cond t ([] ∷ lines_of bytes) (onto b (lines_of bytes))) (not_feed b apart)

-- an ended line is the first
pub lines_of_ended : (line more : List ℕ) → HasNo 10 line → lines_of (line ++ (10 ∷ more)) ≡ line ∷ lines_of more
lines_of_ended [] more none = refl
lines_of_ended (b ∷ bs) more none = lines_of_byte b (bs ++ (10 ∷ more)) none.0 ∙ ap (λ (l : List (List ℕ)). onto b l) (lines_of_ended bs more none.1)

-- ended lines are the first ones
pub lines_behind : (texts : List (List ℕ)) (rest : List ℕ) → AllByRecursion (λ text. HasNo 10 text) texts
    → lines_of (ended texts ++ rest) ≡ texts ++ lines_of rest
lines_behind [] rest none = refl
lines_behind (t ∷ ts) rest none =
    ap (λ (l : List ℕ). lines_of l) (append_assoc t (10 ∷ ended ts) rest) ∙ lines_of_ended t (ended ts ++ rest) none.0
    ∙ ap (λ (l : List (List ℕ)). t ∷ l) (lines_behind ts rest none.1)

-- a last line that isn't ended
pub lines_of_last : (line : List ℕ) → HasNo 10 line → line ≢ [] → lines_of line ≡ line ∷ []
lines_of_last [] none some = absurd (some refl)
lines_of_last (b ∷ []) none some = lines_of_byte b [] none.0
lines_of_last (b ∷ c ∷ bs) none some = lines_of_byte b (c ∷ bs) none.0 ∙ ap (λ (l : List (List ℕ)). onto b l) (lines_of_last (c ∷ bs) none.1 (λ is. cc))

-- the first line of bytes that begin so
pub record FirstLine (line : List ℕ) (lines : List (List ℕ)) : Type 0 where
  pub text : List ℕ
  pub behind : List (List ℕ)
  pub whole : lines ≡ text ∷ behind
  pub longer : length line ≤ length text

first_onto : (b : ℕ) (line : List ℕ) (lines : List (List ℕ)) → FirstLine line lines → FirstLine (b ∷ line) (onto b lines)
first_onto b line lines first = record {
  text = b ∷ first.text;
  behind = first.behind;
  whole = ap (λ (l : List (List ℕ)). onto b l) first.whole;
  longer =
      omega (arith, first.longer);
}

first_alone : (b : ℕ) → FirstLine (b ∷ []) (onto b [])
first_alone b = record { text = b ∷ []; behind = []; whole = refl; longer = omega arith }

first_some : (b : ℕ) (bytes : List ℕ) (lines : List (List ℕ)) → FirstLine [] (cond (b == 10) ([] ∷ lines) (onto b lines))
first_some b bytes lines = elim (cases_Bool (b == 10)) [
  | inl same ↦ subst (λ (t : Bool). FirstLine [] (cond t ([] ∷ lines) (onto b lines))) (sym same)
      (record { text = []; behind = lines; whole = refl; longer = omega arith })
  | inr other ↦ subst (λ (t : Bool). FirstLine [] (cond t ([] ∷ lines) (onto b lines))) (sym other) (by lines)
]
  where
    by : (lines : List (List ℕ)) → FirstLine [] (onto b lines)
    by [] = record { text = b ∷ []; behind = []; whole = refl; longer = omega arith }
    by (l ∷ ls) = record { text = b ∷ l; behind = ls; whole = refl; longer = omega arith }

pub first_line : (line more : List ℕ) → HasNo 10 line → line ++ more ≢ [] → FirstLine line (lines_of (line ++ more))
first_line [] [] none some = absurd (some refl)
first_line [] (b ∷ bs) none some = first_some b bs (lines_of bs)
first_line (b ∷ []) [] none some = subst (λ (l : List (List ℕ)). FirstLine (b ∷ []) l) (sym (lines_of_byte b [] none.0)) (first_alone b)
first_line (b ∷ []) (c ∷ cs) none some =
    subst (λ (l : List (List ℕ)). FirstLine (b ∷ []) l) (sym (lines_of_byte b (c ∷ cs) none.0))
    (first_onto b [] (lines_of (c ∷ cs)) (first_line [] (c ∷ cs) tt (λ is. cc)))
first_line (b ∷ d ∷ ds) more none some =
    subst (λ (l : List (List ℕ)). FirstLine (b ∷ d ∷ ds) l) (sym (lines_of_byte b (d ∷ (ds ++ more)) none.0))
    (first_onto b (d ∷ ds) (lines_of (d ∷ (ds ++ more))) (first_line (d ∷ ds) more none.1 (λ is. cc)))

pub ended-push : (texts : List (List ℕ)) (text : List ℕ) → ended (texts ++ (text ∷ [])) ≡ ended texts ++ (text ++ (10 ∷ []))
ended-push [] text = refl
ended-push (t ∷ ts) text = ap (λ (l : List ℕ). t ++ (10 ∷ l)) (ended-push ts text) ∙ sym (append_assoc t (10 ∷ ended ts) (text ++ (10 ∷ [])))

pub feeds-push : (texts : List (List ℕ)) (text : List ℕ) → AllByRecursion (λ text. HasNo 10 text) texts → HasNo 10 text
    → AllByRecursion (λ text. HasNo 10 text) (texts ++ (text ∷ []))
feeds-push [] text all none = (none, tt)
feeds-push (t ∷ ts) text all none = (all.0, feeds-push ts text all.1 none)

pub count_ended : (texts : List (List ℕ)) → length texts ≤ length (ended texts)
count_ended [] = omega arith
count_ended (t ∷ ts) = omega (arith, count_ended ts, length-append t (10 ∷ ended ts))
