-- Words of lines: a text is one list of words.
use Rattle.std.proofs.Common.{◌≡◌, ◌≢◌, ℕ, List, [], ◌∷◌, ◌++◌, refl, sym, ap, ◌∙◌}
use Rattle.std.specs.Prelude.{Bool, true, false, not, Option, Some, None, is_some, MatchOption, IsTrue, ◌↔◌}
use denote.Ref.{Bor}
use Rattle.script_text.specs.Prelude.{HasNo, AreWords, in_words, StandBefore}
use Rattle.script_text.proofs.Splits.{parts, no_part}

-- a text is one word where it isn't cut at a space
pub word_test : (text : List ℕ) (o : Option (Bor (List ℕ) × Bor (List ℕ))) (r : Bool) → is_some o ≡ not r
    → MatchOption o (HasNo 0x20 text) (λ x. HasNo 0x20 x.0.now × (text ≡ x.0.now ++ (0x20 ∷ x.1.now))) → IsTrue r ↔ HasNo 0x20 text
word_test text None false test cut = let never : false ≡ true = test in absurd cc
word_test text None true test cut = ((λ yes. cut), (λ none. refl))
word_test text (Some x) false test cut = ((λ yes. absurd cc), (λ none. absurd (no_part 0x20 text x.0.now x.1.now none cut.1)))
word_test text (Some x) true test cut = let never : true ≡ false = test in absurd cc

-- the first word and those behind it, where a text is cut at its first space
pub cut_word : (text first rest w n : List ℕ) (ws : List (List ℕ)) → HasNo 0x20 first → text ≡ first ++ (0x20 ∷ rest) → AreWords (w ∷ n ∷ ws)
    → text ≡ in_words (w ∷ n ∷ ws) → (first ≡ w) × (rest ≡ in_words (n ∷ ws))
cut_word text first rest w n ws none cut are is = parts 0x20 first w rest (in_words (n ∷ ws)) none are.0 (sym cut ∙ is)

pub no_words : (text w n : List ℕ) (ws : List (List ℕ)) → HasNo 0x20 text → text ≢ in_words (w ∷ n ∷ ws)
no_words text w n ws none is = no_part 0x20 text w (in_words (n ∷ ws)) none is

pub join_word : (text first rest n : List ℕ) (ws : List (List ℕ)) → text ≡ first ++ (0x20 ∷ rest) → rest ≡ in_words (n ∷ ws) → text ≡ in_words (first ∷ n ∷ ws)
join_word text first rest n ws cut is = cut ∙ ap (λ (l : List ℕ). first ++ (0x20 ∷ l)) is

pub same_words : (w v : List ℕ) (ws vs : List (List ℕ)) → AreWords (w ∷ ws) → AreWords (v ∷ vs) → in_words (w ∷ ws) ≡ in_words (v ∷ vs) → w ∷ ws ≡ v ∷ vs
same_words w v [] [] first second is = ap (λ (l : List ℕ). l ∷ []) is
same_words w v [] (n ∷ vs) first second is = absurd (no_words w v n vs first.0 is)
same_words w v (n ∷ ws) [] first second is = absurd (no_words v w n ws second.0 (sym is))
same_words w v (n ∷ ws) (m ∷ vs) first second is =
    let both = parts 0x20 w v (in_words (n ∷ ws)) (in_words (m ∷ vs)) first.0 second.0 is in
    let head : w ≡ v = both.0 in
    let tail : n ∷ ws ≡ m ∷ vs = same_words n m ws vs first.1 second.1 both.1 in cc

-- in a text without a space no two words stand before others
pub no_stand : (text a b rest : List ℕ) → HasNo 0x20 text → ¬ (StandBefore text a b rest)
no_stand text a b rest none is = no_part 0x20 text a (b ++ (0x20 ∷ rest)) none is.whole

-- nor where there is one space
pub one_stands : (text first tail a b rest : List ℕ) → HasNo 0x20 first → text ≡ first ++ (0x20 ∷ tail) → HasNo 0x20 tail → ¬ (StandBefore text a b rest)
one_stands text first tail a b rest none cut alone is =
    let both = parts 0x20 first a tail (b ++ (0x20 ∷ rest)) none is.first_word (sym cut ∙ is.whole) in no_part 0x20 tail b rest alone both.1
