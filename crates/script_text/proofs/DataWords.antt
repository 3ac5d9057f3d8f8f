-- Data as they are spelled.
use Rattle.std.proofs.Common.{◌≡◌, ◌≢◌, inl, inr, ℕ, ◌<◌, ◌≤◌, List, ◌∷◌, ◌++◌, replicate, Result}
use Rattle.std.proofs.Common.{refl, sym, ap, subst, ◌∙◌, arith}
use Rattle.std.specs.Prelude.{codes, decimal}
use Rattle.script_text.specs.Prelude.{HasNo, EachIsByte, IsDataWord, IsFill, IsNumber, Finds, hex_pair, spelled_by}
use Rattle.script_text.specs.declared.fail.WordFail.{WordFail}
use Rattle.script_text.proofs.Finding.{found_as}
use Rattle.script_text.proofs.Splits.{has_no-append, has_none}
use Rattle.script_text.proofs.Spelled.{spelled-has_no, spelled_same}
use Rattle.script_text.proofs.Digits.{pair_code, pair_no, pair_parts}
use Rattle.script_text.proofs.Numbers.{number_no_space, same_number}

pub small_pair : (b c : ℕ) (x y : List ℕ) → hex_pair 0x61 b ++ x ≡ hex_pair 0x61 c ++ y → (b ≡ c) × (x ≡ y)
small_pair b c x y is = pair_parts 0x61 b c x y (omega arith) is

-- ---- a fill

count_number : (text : List ℕ) (b n : ℕ) → IsFill text b n → IsNumber (decimal n) n
count_number text b n is = (let few = is.few in omega arith, refl)

fill_no_space : (text : List ℕ) (b n : ℕ) → IsFill text b n → HasNo 0x20 text
fill_no_space text b n is =
    subst (λ (l : List ℕ). HasNo 0x20 l) (sym is.spelled)
    (has_no-append 0x20 (hex_pair 0x61 b) (0x3a ∷ decimal n) (pair_no 0x61 b 0x20 (omega arith) (omega arith))
    ((λ same. absurd (omega (arith, same))), number_no_space (decimal n) n (count_number text b n is)))

-- where a text is a fill, its parts are these
pub fill_parts : (text : List ℕ) (b n c : ℕ) (rest : List ℕ) → IsFill text b n → text ≡ hex_pair 0x61 c ++ rest → (c ≡ b) × (rest ≡ 0x3a ∷ decimal n)
fill_parts text b n c rest is cut = small_pair c b rest (0x3a ∷ decimal n) (sym cut ∙ is.spelled)

pub fill_number : (text : List ℕ) (b n c d : ℕ) (rest number : List ℕ) → IsFill text b n → text ≡ hex_pair 0x61 c ++ rest → rest ≡ d ∷ number
    → (d ≡ 0x3a) × IsNumber number n
fill_number text b n c d rest number is cut next =
    let both = fill_parts text b n c rest is cut in
    let whole : d ∷ number ≡ 0x3a ∷ decimal n = sym next ∙ both.1 in
    let head : d ≡ 0x3a = cc in
    let tail : number ≡ decimal n = cc in (head, (let few = is.few in omega arith, tail))

pub fill_found : (text rest number : List ℕ) (b d n : ℕ) → b < 256 → text ≡ hex_pair 0x61 b ++ rest → rest ≡ d ∷ number → d ≡ 0x3a → IsNumber number n
    → n ≤ 2097152 → IsFill text b n
fill_found text rest number b d n fits cut next colon is few = record {
  fits = fits;
  few = few;
  spelled = cut ∙ ap (λ (l : List ℕ). hex_pair 0x61 b ++ l) (next ∙ ap (λ (k : ℕ). k ∷ number) colon ∙ ap (λ (l : List ℕ). 0x3a ∷ l) is.1);
}

same_fill : (text : List ℕ) (b n c m : ℕ) → IsFill text b n → IsFill text c m → (b ≡ c) × (n ≡ m)
same_fill text b n c m is also =
    let both = fill_parts text b n c (0x3a ∷ decimal m) is also.spelled in
    let numbers : decimal m ≡ decimal n = let e = both.1 in cc in
    (sym both.0, same_number (decimal n) n m (count_number text b n is) (let few = also.few in omega arith, sym numbers))

-- ---- data

-- the two forms begin otherwise
pub hex_or_fill : (x y : List ℕ) → codes "hex:" ++ x ≢ codes "fill:" ++ y
hex_or_fill x y is = let head : ◌≡◌ {A = ℕ} 0x68 0x66 = cc in absurd (omega (arith, head))

pub data_no_space : (word bytes : List ℕ) → IsDataWord word bytes → HasNo 0x20 word
data_no_space word bytes (inl hex) =
    subst (λ (l : List ℕ). HasNo 0x20 l) (sym hex.spelled) (has_no-append 0x20 (codes "hex:") (spelled_by (hex_pair 0x61) bytes)
    (has_none 0x20 (codes "hex:") refl) (spelled-has_no (hex_pair 0x61) 0x20 (λ b. pair_no 0x61 b 0x20 (omega arith) (omega arith)) bytes))
data_no_space word bytes (inr fill) =
    subst (λ (l : List ℕ). HasNo 0x20 l) (sym fill.spelled) (has_no-append 0x20 (codes "fill:") fill.text
    (has_none 0x20 (codes "fill:") refl) (fill_no_space fill.text fill.byte fill.count fill.fill))

-- behind `hex:`, and behind `fill:`
pub hex_behind : (word digits bytes : List ℕ) → word ≡ codes "hex:" ++ digits → IsDataWord word bytes → EachIsByte bytes × (digits ≡ spelled_by (hex_pair 0x61) bytes)
hex_behind word digits bytes cut (inl hex) = (hex.are_bytes, (let e : codes "hex:" ++ digits ≡ codes "hex:" ++ spelled_by (hex_pair 0x61) bytes = sym cut ∙ hex.spelled in cc))
hex_behind word digits bytes cut (inr fill) = absurd (hex_or_fill digits fill.text (sym cut ∙ fill.spelled))

-- what was read behind `hex:` is the data
pub hex_read : (word digits : List ℕ) (r : Result (List ℕ) WordFail) → word ≡ codes "hex:" ++ digits
    → Finds (λ bytes. EachIsByte bytes × (digits ≡ spelled_by (hex_pair 0x61) bytes)) r → Finds (IsDataWord word) r
hex_read word digits r cut =
    found_as (λ bytes. EachIsByte bytes × (digits ≡ spelled_by (hex_pair 0x61) bytes)) (IsDataWord word) r
    (λ bytes is. inl (record { are_bytes = is.0; spelled = cut ∙ ap (λ (l : List ℕ). codes "hex:" ++ l) is.1 }))
    (λ bytes is. (bytes, hex_behind word digits bytes cut is))

-- a fill of these bytes
pub record IsFillOf (text bytes : List ℕ) : Type 0 where
  pub byte : ℕ
  pub count : ℕ
  pub fill : IsFill text byte count
  pub filled : bytes ≡ replicate count byte

pub fill_behind : (word text bytes : List ℕ) → word ≡ codes "fill:" ++ text → IsDataWord word bytes → IsFillOf text bytes
fill_behind word text bytes cut (inl hex) = absurd (hex_or_fill _ text (sym hex.spelled ∙ cut))
fill_behind word text bytes cut (inr fill) =
    let texts : fill.text ≡ text = (let e : codes "fill:" ++ fill.text ≡ codes "fill:" ++ text = sym fill.spelled ∙ cut in cc) in
    record { byte = fill.byte; count = fill.count; fill = subst (λ (l : List ℕ). IsFill l fill.byte fill.count) texts fill.fill; filled = fill.filled }

-- a fill behind `fill:` is the data
pub data_filled : (word text : List ℕ) (b n : ℕ) (bytes : List ℕ) → word ≡ codes "fill:" ++ text → IsFill text b n → bytes ≡ replicate n b → IsDataWord word bytes
data_filled word text b n bytes cut fill filled = inr (record { text = text; byte = b; count = n; fill = fill; spelled = cut; filled = filled })

pub no_form : (word bytes : List ℕ) → ((rest : List ℕ) → word ≢ codes "hex:" ++ rest) → ((rest : List ℕ) → word ≢ codes "fill:" ++ rest) → ¬ (IsDataWord word bytes)
no_form word bytes no_hex no_fill (inl hex) = no_hex _ hex.spelled
no_form word bytes no_hex no_fill (inr fill) = no_fill fill.text fill.spelled

pub fill_of_same : (text bytes : List ℕ) (b n : ℕ) → IsFillOf text bytes → IsFill text b n → bytes ≡ replicate n b
fill_of_same text bytes b n of is =
    let same = same_fill text of.byte of.count b n of.fill is in
    of.filled ∙ ap (λ (k : ℕ). replicate k of.byte) same.1 ∙ ap (λ (c : ℕ). replicate n c) same.0

pub same_data : (word bytes other : List ℕ) → IsDataWord word bytes → IsDataWord word other → bytes ≡ other
same_data word bytes other (inl hex) is =
    spelled_same (hex_pair 0x61) (pair_code 0x61 (omega arith)) bytes other (sym (hex_behind word _ bytes hex.spelled (inl hex)).1 ∙ (hex_behind word _ other hex.spelled is).1)
same_data word bytes other (inr fill) is =
    fill.filled ∙ sym (fill_of_same fill.text other fill.byte fill.count (fill_behind word fill.text other fill.spelled is) fill.fill)
