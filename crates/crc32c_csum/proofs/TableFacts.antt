-- The tables have what their comment says.
use Rattle.std.proofs.Common.{◌≡◌, ℕ, zero, suc, ◌+◌, ◌<◌, Bool, true, false, ◌&&◌, eqb, List, [], ◌∷◌, length, get_or, refl, ap, ◌∙◌, arith}
use Rattle.std.proofs.lemmas.Bool.{eqb-true}
use Rattle.crc32c_csum.specs.Prelude.{after_bits, after_zeros}
use Rattle.crc32c_csum.specs.declared.tables.TheConstants.{AFTER}

abbrev pub all_are : (ℕ → ℕ) → ℕ → List ℕ → Bool
all_are f i [] = true
all_are f i (x ∷ xs) = eqb x (f i) && all_are f (i + 1) xs

abbrev all_tables_are : ℕ → List (List ℕ) → Bool
all_tables_are n [] = true
all_tables_are n (t ∷ ts) = all_are (after_zeros n) 0 t && all_tables_are (n + 1) ts

first_true : (a b : Bool) → (a && b) ≡ true → a ≡ true
first_true true b e = refl
first_true false b e = absurd cc

second_true : (a b : Bool) → (a && b) ≡ true → b ≡ true
second_true true b e = e
second_true false b e = absurd cc

pub entry : (f : ℕ → ℕ) (xs : List ℕ) (i j : ℕ) → all_are f i xs ≡ true → j < length xs → get_or xs j 0 ≡ f (i + j)
entry f [] i j h lt = absurd (omega (arith, lt))
entry f (x ∷ xs) i zero h lt = eqb-true x (f i) (first_true _ _ h) ∙ ap f (omega arith)
entry f (x ∷ xs) i (suc j) h lt =
    entry f xs (i + 1) j (second_true (eqb x (f i)) (all_are f (i + 1) xs) h) (omega (arith, lt)) ∙ ap f (omega arith)

all_ok : all_tables_are 1 AFTER ≡ true
unfolding after_zeros after_bits
all_ok = refl

table : (ts : List (List ℕ)) (n j byte : ℕ) → all_tables_are n ts ≡ true → j < length ts → byte < length (get_or ts j [])
    → get_or (get_or ts j []) byte 0 ≡ after_zeros (n + j) byte
table [] n j byte h lt below = absurd (omega (arith, lt))
table (t ∷ ts) n zero byte h lt below =
    entry (after_zeros n) t 0 byte (first_true _ (all_tables_are (n + 1) ts) h) below
    ∙ ap (after_zeros n) (omega arith) ∙ ap (λ k. after_zeros k byte) (omega arith)
table (t ∷ ts) n (suc j) byte h lt below =
    table ts (n + 1) j byte (second_true (all_are (after_zeros n) 0 t) (all_tables_are (n + 1) ts) h) (omega (arith, lt)) below
    ∙ ap (λ k. after_zeros k byte) (omega arith)

abbrev lengths_are : ℕ → List (List ℕ) → Bool
lengths_are n [] = true
lengths_are n (t ∷ ts) = eqb (length t) n && lengths_are n ts

length_of : (ts : List (List ℕ)) (n j : ℕ) → lengths_are n ts ≡ true → j < length ts → length (get_or ts j []) ≡ n
length_of [] n j h lt = absurd (omega (arith, lt))
length_of (t ∷ ts) n zero h lt = eqb-true (length t) n (first_true _ (lengths_are n ts) h)
length_of (t ∷ ts) n (suc j) h lt = length_of ts n j (second_true (eqb (length t) n) (lengths_are n ts) h) (omega (arith, lt))

all_long : lengths_are 256 AFTER ≡ true
all_long = refl

pub after_is : (zeros byte : ℕ) → zeros < 16 → byte < 256 → get_or (get_or AFTER zeros []) byte 0 ≡ after_zeros (zeros + 1) byte
after_is zeros byte lt below =
    let long : length (get_or AFTER zeros []) ≡ 256 = length_of AFTER 256 zeros all_long lt in
    table AFTER 1 zeros byte all_ok lt (omega (arith, below, long)) ∙ ap (λ k. after_zeros k byte) (omega arith)
