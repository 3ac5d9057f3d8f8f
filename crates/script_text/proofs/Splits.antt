-- Texts cut in parts.
use Rattle.std.proofs.Common.{◌≡◌, ◌≢◌, ℕ, zero, suc, ◌+◌, ◌-◌, ◌<◌, ◌≤◌, ◌==◌, Bool, true, false, cond, List, [], ◌∷◌, ◌++◌, length, get_or, take, drop, refl, sym, ap, ◌∙◌, arith}
use Rattle.std.proofs.lemmas.List.{take-append-drop, drop_more, take_rest}
use Rattle.std.proofs.lemmas.Bool.Decides.{nat_tests}
use Rattle.script_text.specs.Prelude.{HasNo}

has_no_take : (c n : ℕ) (xs : List ℕ) → n ≤ length xs → ((k : ℕ) → k < n → get_or xs k 0 ≢ c) → HasNo c (take n xs)
has_no_take c zero xs le none = tt
has_no_take c (suc n) [] le none = tt
has_no_take c (suc n) (x ∷ xs) le none = (none zero (omega arith), has_no_take c n xs (omega arith) (λ k lt. none (suc k) (omega arith)))

-- cut at the first such byte
pub cut_at : (c i : ℕ) (xs : List ℕ) → i < length xs → get_or xs i 0 ≡ c → ((k : ℕ) → k < i → get_or xs k 0 ≢ c)
    → HasNo c (take i xs) × (xs ≡ take i xs ++ (c ∷ take (length xs - (i + 1)) (drop (i + 1) xs)))
cut_at c i xs lt here none =
    let rest : drop i xs ≡ c ∷ drop (i + 1) xs = drop_more xs i 0 lt ∙ ap (λ b. b ∷ drop (i + 1) xs) here in
    let whole : drop i xs ≡ c ∷ take (length xs - (i + 1)) (drop (i + 1) xs) = rest ∙ ap (λ (l : List ℕ). c ∷ l) (sym (take_rest xs (i + 1))) in
    (has_no_take c i xs (omega arith) none, sym (take-append-drop i xs) ∙ ap (λ (l : List ℕ). take i xs ++ l) whole)

pub has_no-append : (c : ℕ) (xs ys : List ℕ) → HasNo c xs → HasNo c ys → HasNo c (xs ++ ys)
has_no-append c [] ys none more = more
has_no-append c (x ∷ xs) ys none more = (none.0, has_no-append c xs ys none.1 more)

-- a cut at the first such byte is the only one
pub parts : (c : ℕ) (a b x y : List ℕ) → HasNo c a → HasNo c b → a ++ (c ∷ x) ≡ b ++ (c ∷ y) → (a ≡ b) × (x ≡ y)
parts c [] [] x y na nb is = (refl, (cc))
parts c [] (b ∷ bs) x y na nb is = let head : b ≡ c = cc in absurd (nb.0 head)
parts c (a ∷ rest) [] x y na nb is = let head : a ≡ c = cc in absurd (na.0 head)
parts c (a ∷ rest) (b ∷ bs) x y na nb is =
    let head : a ≡ b = cc in
    let tails : rest ++ (c ∷ x) ≡ bs ++ (c ∷ y) = cc in
    let same = parts c rest bs x y na.1 nb.1 tails in
    let front : rest ≡ bs = same.0 in ((cc), same.1)

pub no_part : (c : ℕ) (s a x : List ℕ) → HasNo c s → s ≡ a ++ (c ∷ x) → ⊥
no_part c [] [] x none is = cc
no_part c [] (a ∷ rest) x none is = cc
no_part c (b ∷ bs) [] x none is = let head : b ≡ c = cc in none.0 head
no_part c (b ∷ bs) (a ∷ rest) x none is = let tails : bs ≡ rest ++ (c ∷ x) = cc in no_part c bs rest x none.1 tails

-- ---- bytes that are known

abbrev pub lacks : ℕ → List ℕ → Bool
lacks c [] = true
lacks c (b ∷ bs) = cond (b == c) false (lacks c bs)

lacks_first : (c b : ℕ) (rest : Bool) → cond (b == c) false rest ≡ true → (b ≢ c) × (rest ≡ true)
lacks_first c b rest is = grind (arith, nat_tests)

-- known bytes have no such byte: the test computes
pub has_none : (c : ℕ) (bytes : List ℕ) → lacks c bytes ≡ true → HasNo c bytes
has_none c [] is = tt
has_none c (b ∷ bs) is = let here = lacks_first c b (lacks c bs) is in (here.0, has_none c bs here.1)

abbrev pub same_bytes : List ℕ → List ℕ → Bool
same_bytes [] [] = true
same_bytes [] (b ∷ bs) = false
same_bytes (a ∷ xs) [] = false
same_bytes (a ∷ xs) (b ∷ bs) = cond (a == b) (same_bytes xs bs) false

same_first : (a : ℕ) (rest : Bool) → rest ≡ true → cond (a == a) rest false ≡ true
same_first a rest is = grind (arith, nat_tests)

same_itself : (a : List ℕ) → same_bytes a a ≡ true
same_itself [] = refl
same_itself (a ∷ xs) = same_first a (same_bytes xs xs) (same_itself xs)

-- known bytes differ
pub differ : (a b : List ℕ) → same_bytes a b ≡ false → a ≢ b
differ a b differs is = let never : true ≡ false = sym (same_itself a) ∙ ap (λ (l : List ℕ). same_bytes a l) is ∙ differs in cc
