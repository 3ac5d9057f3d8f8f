-- Names as they are spelled.
use Rattle.std.proofs.Common.{◌≡◌, ◌≢◌, inl, inr, ℕ, ◌≤◌, Bool, true, false, cond, List}
use Rattle.std.proofs.Common.{[], ◌∷◌, ◌++◌, length, sym, ap, subst, ◌∙◌, arith, rules, Result}
use Rattle.std.specs.Prelude.{◌<◌, nat_lt}
use Rattle.std.specs.List.{AllByRecursion}
use Rattle.std.proofs.lemmas.Bool.{cases_Bool}
use Rattle.unit_fields.specs.Prelude.{IsName}
use Rattle.script_text.specs.Prelude.{HasNo, EachIsByte, IsNameWord, is_plain, hex_pair, escape, escaped, Finds}
use Rattle.script_text.specs.declared.fail.WordFail.{WordFail}
use Rattle.script_text.proofs.Finding.{found_as}
use Rattle.script_text.proofs.Spelled.{IsCode, spelled-has_no, spelled_same, spelled_nil, spelled_more, length-spelled-le}
use Rattle.script_text.proofs.Digits.{pair_parts, pair_no, length-pair}

-- a byte that stands for itself
pub escape_plain : (b : ℕ) → is_plain b ≡ true → escape b ≡ b ∷ []
unfolding escape
escape_plain b plain = ap (λ (p : Bool). cond p (b ∷ []) (0x25 ∷ hex_pair 0x41 b)) plain

-- any other byte
pub escape_other : (b : ℕ) → is_plain b ≡ false → escape b ≡ 0x25 ∷ hex_pair 0x41 b
unfolding escape
escape_other b other = ap (λ (p : Bool). cond p (b ∷ []) (0x25 ∷ hex_pair 0x41 b)) other

-- only a byte that stands for itself is plain at the front
plain_front : (b c : ℕ) (x y : List ℕ) → is_plain b ≡ true → is_plain c ≡ false → b ∷ x ≡ (0x25 ∷ hex_pair 0x41 c) ++ y → ⊥
plain_front b c x y plain other is =
    let head : b ≡ 0x25 = cc in
    let never : true ≡ false = sym plain ∙ ap is_plain head in cc

-- the byte of a name at the front, and what stands behind it
escape_parts : (b c : ℕ) (x y : List ℕ) → escape b ++ x ≡ escape c ++ y → (b ≡ c) × (x ≡ y)
escape_parts b c x y is = elim (cases_Bool (is_plain b)) [
  | inl plain ↦ elim (cases_Bool (is_plain c)) [
    | inl also ↦
        let both : b ∷ x ≡ c ∷ y = ap (λ (l : List ℕ). l ++ x) (sym (escape_plain b plain)) ∙ is ∙ ap (λ (l : List ℕ). l ++ y) (escape_plain c also) in
        ((cc), (cc))
    | inr other ↦ absurd (plain_front b c x y plain other (ap (λ (l : List ℕ). l ++ x) (sym (escape_plain b plain)) ∙ is
        ∙ ap (λ (l : List ℕ). l ++ y) (escape_other c other)))
  ]
  | inr other ↦ elim (cases_Bool (is_plain c)) [
    | inl plain ↦ absurd (plain_front c b y x plain other (ap (λ (l : List ℕ). l ++ y) (sym (escape_plain c plain)) ∙ sym is
        ∙ ap (λ (l : List ℕ). l ++ x) (escape_other b other)))
    | inr also ↦
        let both : 0x25 ∷ (hex_pair 0x41 b ++ x) ≡ 0x25 ∷ (hex_pair 0x41 c ++ y) = ap (λ (l : List ℕ). l ++ x) (sym (escape_other b other)) ∙ is
        ∙ ap (λ (l : List ℕ). l ++ y) (escape_other c also) in
        pair_parts 0x41 b c x y (omega arith) (cc)
  ]
]

escape_some : (b : ℕ) (x : List ℕ) → escape b ++ x ≢ []
escape_some b x is = elim (cases_Bool (is_plain b)) [
  | inl plain ↦ let both : b ∷ x ≡ [] = ap (λ (l : List ℕ). l ++ x) (sym (escape_plain b plain)) ∙ is in cc
  | inr other ↦ let both : 0x25 ∷ (hex_pair 0x41 b ++ x) ≡ [] = ap (λ (l : List ℕ). l ++ x) (sym (escape_other b other)) ∙ is in cc
]

pub escape_code : IsCode escape
escape_code = record { parts = escape_parts; some = escape_some }

escape_no_space : (b : ℕ) → HasNo 0x20 (escape b)
escape_no_space b = elim (cases_Bool (is_plain b)) [
  | inl plain ↦ subst (λ (l : List ℕ). HasNo 0x20 l) (sym (escape_plain b plain)) ((λ is. let never : true ≡ false = sym plain ∙ ap is_plain is in cc), tt)
  | inr other ↦ subst (λ (l : List ℕ). HasNo 0x20 l) (sym (escape_other b other))
      ((λ is. absurd (omega arith)), pair_no 0x41 b 0x20 (omega arith) (omega arith))
]

length-escape : (b : ℕ) → length (escape b) ≤ 3
length-escape b = elim (cases_Bool (is_plain b)) [
  | inl plain ↦ omega (arith, ap length (escape_plain b plain))
  | inr other ↦ omega (arith, ap length (escape_other b other), length-pair 0x41 b)
]

pub name_no_space : (word name : List ℕ) → IsNameWord word name → HasNo 0x20 word
name_no_space word name is = subst (λ (l : List ℕ). HasNo 0x20 l) (sym is.spelled) (spelled-has_no escape 0x20 escape_no_space name)

-- no name has so long a word
pub name_word_short : (word name : List ℕ) → IsNameWord word name → length word ≤ 765
name_word_short word name is = omega (arith, ap length is.spelled, length-spelled-le escape 3 length-escape name, is.named.short)

pub same_name : (word name other : List ℕ) → IsNameWord word name → IsNameWord word other → name ≡ other
same_name word name other is also = spelled_same escape escape_code name other (sym is.spelled ∙ also.spelled)

-- a text that begins with a byte that stands for itself
pub plain_text : (b : ℕ) (text rest : List ℕ) (plain : Bool) → plain ≡ is_plain b → plain ≡ true → text ≡ b ∷ rest → text ≡ escape b ++ rest
plain_text b text rest plain test holds is = is ∙ ap (λ (l : List ℕ). l ++ rest) (sym (escape_plain b (sym test ∙ holds)))

pub no_escape : (b : ℕ) (rest text : List ℕ) → text ≡ [] → text ≢ escape b ++ rest
no_escape b rest text nil is = escape_some b rest (sym is ∙ nil)

-- a text that begins with another byte: only `%` begins the spelling of one
pub other_text : (first : ℕ) (tail : List ℕ) (b : ℕ) (rest text : List ℕ) (plain : Bool) → plain ≡ is_plain first → plain ≡ false → text ≡ first ∷ tail
    → text ≡ escape b ++ rest
    → (first ≡ 0x25) × (is_plain b ≡ false) × (tail ≡ hex_pair 0x41 b ++ rest)
other_text first tail b rest text plain test fails front is = elim (cases_Bool (is_plain b)) [
  | inl holds ↦
      let both : first ∷ tail ≡ b ∷ rest = sym front ∙ is ∙ ap (λ (l : List ℕ). l ++ rest) (escape_plain b holds) in
      let head : first ≡ b = cc in
      let never : true ≡ false = sym holds ∙ sym (ap is_plain head) ∙ sym test ∙ fails in absurd (cc)
  | inr other ↦
      let both : first ∷ tail ≡ 0x25 ∷ (hex_pair 0x41 b ++ rest) = sym front ∙ is ∙ ap (λ (l : List ℕ). l ++ rest) (escape_other b other) in
      ((cc), other, (cc))
]

-- a text that begins with `%` and a pair
pub pair_text : (b : ℕ) (tail rest text : List ℕ) (plain : Bool) → plain ≡ is_plain b → plain ≡ false → text ≡ 0x25 ∷ tail → tail ≡ hex_pair 0x41 b ++ rest
    → text ≡ escape b ++ rest
pair_text b tail rest text plain test fails front is =
    front ∙ ap (λ (l : List ℕ). 0x25 ∷ l) is ∙ ap (λ (l : List ℕ). l ++ rest) (sym (escape_other b (sym test ∙ fails)))

-- the pair behind `%` is of a byte that stands for itself
pub plain_pair : (first : ℕ) (tail : List ℕ) (b c : ℕ) (rest more text : List ℕ) (plain also : Bool) → plain ≡ is_plain first → plain ≡ false
    → text ≡ first ∷ tail
    → tail ≡ hex_pair 0x41 c ++ more → also ≡ is_plain c → also ≡ true → text ≡ escape b ++ rest → ⊥
plain_pair first tail b c rest more text plain also test fails front pair too holds is =
    let other = other_text first tail b rest text plain test fails front is in
    let same = pair_parts 0x41 c b more rest (omega arith) (sym pair ∙ other.2) in
    let never : true ≡ false = sym holds ∙ too ∙ ap is_plain same.0 ∙ other.1 in cc

plain_byte : (b : ℕ) → is_plain b ≡ true → b < 256
plain_byte b plain = elim (cases_Bool (nat_lt b 256)) [
  | inl lt ↦ search rules
  | inr ge ↦ search rules
]

-- a word of bytes that stand for themselves spells itself
pub plain_spelled : (word : List ℕ) → AllByRecursion (λ b. is_plain b ≡ true) word → EachIsByte word × (word ≡ escaped word)
plain_spelled [] plain = (tt, sym (spelled_nil escape))
plain_spelled (b ∷ bs) plain =
    let rest = plain_spelled bs plain.1 in (
      (plain_byte b plain.0, rest.0),
      ap (λ (l : List ℕ). b ∷ l) rest.1 ∙ sym (spelled_more escape b bs ∙ ap (λ (l : List ℕ). l ++ escaped bs) (escape_plain b plain.0)),
    )

-- a word spells a name where the bytes that it spells are one
pub name_read : (word bytes : List ℕ) (r : Result (List ℕ) WordFail) → EachIsByte bytes → word ≡ escaped bytes
    → Finds (λ name. (name ≡ bytes) × IsName bytes) r → Finds (IsNameWord word) r
name_read word bytes r are spelled = found_as (λ (name : List ℕ). (name ≡ bytes) × IsName bytes) (IsNameWord word) r
    (λ name is. record {
      named = subst IsName (sym is.0) is.1;
      are_bytes = subst EachIsByte (sym is.0) are;
      spelled = spelled ∙ ap escaped (sym is.0);
    })
    (λ name is.
    let same : name ≡ bytes = spelled_same escape escape_code name bytes (sym is.spelled ∙ spelled) in (name, (same, subst IsName same is.named)))
