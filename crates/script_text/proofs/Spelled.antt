-- Bytes spelled one by one, each by its code: no two lists of bytes have one spelling.
use Rattle.std.proofs.Common.{◌≡◌, ◌≢◌, ◌⊎◌, inl, inr, ℕ, ◌*◌, ◌<◌, ◌≤◌, List, [], ◌∷◌, ◌++◌, length, refl, sym, ap, subst, ◌∙◌, arith}
use Rattle.std.proofs.Common.{append_assoc, append-nil, length-append}
use Rattle.script_text.specs.Prelude.{HasNo, EachIsByte, spelled_by}
use Rattle.script_text.proofs.Splits.{has_no-append}

-- no code begins another, and none is empty
pub record IsCode (code : ℕ → List ℕ) : Type 0 where
  pub parts : (b c : ℕ) (x y : List ℕ) → code b ++ x ≡ code c ++ y → (b ≡ c) × (x ≡ y)
  pub some : (b : ℕ) (x : List ℕ) → code b ++ x ≢ []

pub spelled_nil : (code : ℕ → List ℕ) → spelled_by code [] ≡ []
unfolding spelled_by
spelled_nil code = refl

-- the first byte first
pub spelled_more : (code : ℕ → List ℕ) (b : ℕ) (bytes : List ℕ) → spelled_by code (b ∷ bytes) ≡ code b ++ spelled_by code bytes
unfolding spelled_by
spelled_more code b bytes = refl

pub spelled-has_no : (code : ℕ → List ℕ) (c : ℕ) → ((b : ℕ) → HasNo c (code b)) → (bytes : List ℕ) → HasNo c (spelled_by code bytes)
unfolding spelled_by
spelled-has_no code c none [] = tt
spelled-has_no code c none (b ∷ bs) = has_no-append c (code b) (spelled_by code bs) (none b) (spelled-has_no code c none bs)

pub spelled_same : (code : ℕ → List ℕ) → IsCode code → (a b : List ℕ) → spelled_by code a ≡ spelled_by code b → a ≡ b
unfolding spelled_by
spelled_same code is [] [] same = refl
spelled_same code is [] (b ∷ bs) same = absurd (is.some b (spelled_by code bs) (sym same))
spelled_same code is (a ∷ xs) [] same = absurd (is.some a (spelled_by code xs) same)
spelled_same code is (a ∷ xs) (b ∷ bs) same =
    let both = is.parts a b (spelled_by code xs) (spelled_by code bs) same in
    let head : a ≡ b = both.0 in
    let tail : xs ≡ bs = spelled_same code is xs bs both.1 in cc

-- how long the spelling is
pub length-spelled-le : (code : ℕ → List ℕ) (most : ℕ) → ((b : ℕ) → length (code b) ≤ most) → (bytes : List ℕ)
    → length (spelled_by code bytes) ≤ most * length bytes
unfolding spelled_by
length-spelled-le code most few [] = omega arith
length-spelled-le code most few (b ∷ bs) = omega (arith, few b, length-spelled-le code most few bs, length-append (code b) (spelled_by code bs))

-- ---- reading from the front

spelled-push : (code : ℕ → List ℕ) (bytes : List ℕ) (b : ℕ) → spelled_by code (bytes ++ (b ∷ [])) ≡ spelled_by code bytes ++ code b
unfolding spelled_by
spelled-push code [] b = append-nil (code b)
spelled-push code (x ∷ xs) b = ap (λ (l : List ℕ). code x ++ l) (spelled-push code xs b) ∙ sym (append_assoc (code x) (spelled_by code xs) (code b))

-- what is left of a spelling, where its first bytes are read
spelled_rest : (code : ℕ → List ℕ) → IsCode code → (read bytes rest : List ℕ) → EachIsByte bytes → spelled_by code read ++ rest ≡ spelled_by code bytes
    → (more : List ℕ) × EachIsByte more × (rest ≡ spelled_by code more)
unfolding spelled_by
spelled_rest code is [] bytes rest are same = (bytes, are, same)
spelled_rest code is (b ∷ bs) [] rest are same =
    absurd (is.some b (spelled_by code bs ++ rest) (sym (append_assoc (code b) (spelled_by code bs) rest) ∙ same))
spelled_rest code is (b ∷ bs) (c ∷ cs) rest are same =
    let both = is.parts b c (spelled_by code bs ++ rest) (spelled_by code cs) (sym (append_assoc (code b) (spelled_by code bs) rest) ∙ same) in
    spelled_rest code is bs cs rest are.1 both.1

-- and nothing is left, or a byte
spelled_next : (code : ℕ → List ℕ) (more : List ℕ) → EachIsByte more
    → (more ≡ []) ⊎ ((b : ℕ) × (rest : List ℕ) × (b < 256) × (spelled_by code more ≡ code b ++ rest))
unfolding spelled_by
spelled_next code [] are = inl refl
spelled_next code (b ∷ bs) are = inr (b, spelled_by code bs, are.0, refl)

some_shorter : (xs rest : List ℕ) → xs ++ [] ≢ [] → length rest < length (xs ++ rest)
some_shorter [] rest some = absurd (some refl)
some_shorter (x ∷ xs) rest some = omega (arith, length-append xs rest)

pub code_behind : (code : ℕ → List ℕ) → IsCode code → (b : ℕ) (text rest : List ℕ) → text ≡ code b ++ rest → length rest < length text
code_behind code is b text rest same = subst (λ (l : List ℕ). length rest < length l) (sym same) (some_shorter (code b) rest (is.some b []))

bytes_and : (xs : List ℕ) (b : ℕ) → EachIsByte xs → b < 256 → EachIsByte (xs ++ (b ∷ []))
bytes_and [] b are fits = (fits, tt)
bytes_and (x ∷ xs) b are fits = (are.0, bytes_and xs b are.1 fits)

-- some bytes of a word are read, and this is left of it
pub record IsReadOf (code : ℕ → List ℕ) (word bytes rest : List ℕ) : Type 0 where
  pub are_bytes : EachIsByte bytes
  pub whole : word ≡ spelled_by code bytes ++ rest

pub read_none : (code : ℕ → List ℕ) (word bytes : List ℕ) → bytes ≡ [] → IsReadOf code word bytes word
read_none code word bytes is = record {
  are_bytes = subst EachIsByte (sym is) tt;
  whole = sym (ap (λ (l : List ℕ). l ++ word) (ap (λ (l : List ℕ). spelled_by code l) is ∙ spelled_nil code));
}

pub read_more : (code : ℕ → List ℕ) (word bytes rest behind more : List ℕ) (b : ℕ) → IsReadOf code word bytes rest → b < 256 → rest ≡ code b ++ behind
    → more ≡ bytes ++ (b ∷ []) → IsReadOf code word more behind
read_more code word bytes rest behind more b so_far fits next pushed = record {
  are_bytes = subst EachIsByte (sym pushed) (bytes_and bytes b so_far.are_bytes fits);
  whole = so_far.whole ∙ ap (λ (l : List ℕ). spelled_by code bytes ++ l) next ∙ sym (append_assoc (spelled_by code bytes) (code b) behind)
      ∙ ap (λ (l : List ℕ). l ++ behind) (sym (spelled-push code bytes b)) ∙ ap (λ (l : List ℕ). spelled_by code l ++ behind) (sym pushed);
}

-- something is left, and no byte stands at its front
pub read_no_more : (code : ℕ → List ℕ) → IsCode code → (word bytes rest other : List ℕ) → IsReadOf code word bytes rest → rest ≢ []
    → ((b : ℕ) (more : List ℕ) → b < 256 → rest ≢ code b ++ more) → EachIsByte other → word ≢ spelled_by code other
read_no_more code is word bytes rest other so_far some none are same =
    let left = spelled_rest code is bytes other rest are (sym so_far.whole ∙ same) in
    elim (spelled_next code left.0 left.1) [
      | inl nil ↦ some (left.2 ∙ ap (λ (l : List ℕ). spelled_by code l) nil ∙ spelled_nil code)
      | inr next ↦ none next.0 next.1 next.2 (left.2 ∙ next.3)
    ]

-- nothing is left
pub read_all : (code : ℕ → List ℕ) (word bytes rest : List ℕ) → IsReadOf code word bytes rest → rest ≡ [] → EachIsByte bytes × (word ≡ spelled_by code bytes)
read_all code word bytes rest so_far nil =
    (so_far.are_bytes, so_far.whole ∙ ap (λ (l : List ℕ). spelled_by code bytes ++ l) nil ∙ append-nil (spelled_by code bytes))
