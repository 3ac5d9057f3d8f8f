-- No spelling begins another of its kind: names, numbers, values, and lists of what has such spellings.
use Rattle.std.proofs.Common.{◌≡◌, ◌≢◌, ℕ, ◌<◌, ◌^◌, List, [], ◌∷◌, ◌++◌, length, drop, get_or, refl, sym, ap, ◌∙◌, append_assoc, arith}
use Rattle.std.specs.List.{flat_map, AllByRecursion}
use Rattle.std.specs.Int.{w16, w32, w64}
use Rattle.std.proofs.lemmas.List.Concat.{flat_map-cons}
use Rattle.meta_rows.specs.Prelude.{value_bytes, IsValue, BeginsWithNo}
use Rattle.meta_rows.proofs.FieldLemmas.{same_front, number_front, text_front, wide16, wide32, wide64}
use Rattle.txn_codec.specs.Prelude.{name_bytes, number_bytes, count_bytes, pair_bytes, list_bytes, FitsNumber, IsCount, FitsPair, FitList}

-- of two that fit, neither spelling begins the other
abbrev pub IsFree : {X : Type 0} → (X → Type 0) → (X → List ℕ) → Type 0
IsFree {X} Fits spelling = (a b : X) (x y : List ℕ) → Fits a → Fits b → spelling a ++ x ≡ spelling b ++ y → (a ≡ b) × (x ≡ y)

pub rest_of : (a b : ℕ) (x y : List ℕ) → a ∷ x ≡ b ∷ y → x ≡ y
rest_of a b x y e = ap (λ (l : List ℕ). drop 1 l) e

pub first_of_two : (a b : ℕ) (x y : List ℕ) → a ∷ x ≡ b ∷ y → a ≡ b
first_of_two a b x y e = ap (λ (l : List ℕ). get_or l 0 0) e

pub name_front : (a b x y : List ℕ) → name_bytes a ++ x ≡ name_bytes b ++ y → (a ≡ b) × (x ≡ y)
name_front a b x y e = same_front a b x y (first_of_two (length a) (length b) (a ++ x) (b ++ y) e) (rest_of (length a) (length b) (a ++ x) (b ++ y) e)

pub name_free : (Fits : List ℕ → Type 0) → IsFree Fits name_bytes
name_free Fits a b x y fa fb e = name_front a b x y e

pub number_free : IsFree FitsNumber number_bytes
number_free = number_front w64 (2 ^ 64) wide64

pub count_free : IsFree IsCount count_bytes
count_free a b x y fa fb e = number_front w16 (2 ^ 16) wide16 a b x y (omega (arith, fa.most)) (omega (arith, fb.most)) e

pub value_free : IsFree IsValue value_bytes
value_free = text_front w32 (2 ^ 32) wide32

pub pair_free : IsFree FitsPair pair_bytes
pair_free p q x y fp fq e =
    let k = name_front p.key q.key (value_bytes p.value ++ x) (value_bytes q.value ++ y)
    (sym (append_assoc (name_bytes p.key) (value_bytes p.value) x) ∙ e ∙ append_assoc (name_bytes q.key) (value_bytes q.value) y) in
    let v = value_free p.value q.value x y fp.value fq.value k.1 in
    (λ i. record { key = k.0 i; value = v.0 i }, v.1)

module _ {X : Type 0} (Fits : X → Type 0) (spelling : X → List ℕ) (free : IsFree Fits spelling) where
  regroup : (a : X) (ps : List X) (x : List ℕ) → flat_map spelling (a ∷ ps) ++ x ≡ spelling a ++ (flat_map spelling ps ++ x)
  regroup a ps x = ap (λ (l : List ℕ). l ++ x) (flat_map-cons spelling a ps) ∙ append_assoc (spelling a) (flat_map spelling ps) x

  pub many_front : (ps qs : List X) (x y : List ℕ) → length ps ≡ length qs → AllByRecursion Fits ps → AllByRecursion Fits qs
      → flat_map spelling ps ++ x ≡ flat_map spelling qs ++ y → (ps ≡ qs) × (x ≡ y)
  many_front [] [] x y long fa fb e = (refl, e)
  many_front [] (b ∷ qs) x y long fa fb e = absurd (omega (arith, long))
  many_front (a ∷ ps) [] x y long fa fb e = absurd (omega (arith, long))
  many_front (a ∷ ps) (b ∷ qs) x y long fa fb e =
      let first = free a b (flat_map spelling ps ++ x) (flat_map spelling qs ++ y) fa.0 fb.0 (sym (regroup a ps x) ∙ e ∙ regroup b qs y) in
      let others = many_front ps qs x y (omega (arith, long)) fa.1 fb.1 first.1 in
      (λ i. first.0 i ∷ others.0 i, others.1)

  pub list_free : IsFree (FitList Fits) (list_bytes spelling)
  list_free ps qs x y fa fb e =
      let n = count_free (length ps) (length qs) (flat_map spelling ps ++ x) (flat_map spelling qs ++ y) fa.count fb.count
      (sym (append_assoc (count_bytes (length ps)) (flat_map spelling ps) x) ∙ e ∙ append_assoc (count_bytes (length qs)) (flat_map spelling qs) y) in
      many_front ps qs x y n.0 fa.each fb.each n.1

  -- where none stands behind those that were read, no more of them stand there
  no_more : (ps qs : List X) (left rest : List ℕ) → length ps < length qs → AllByRecursion Fits ps → AllByRecursion Fits qs
      → BeginsWithNo Fits spelling left → flat_map spelling ps ++ left ≢ flat_map spelling qs ++ rest
  no_more ps [] left rest few fa fb none e = absurd (omega (arith, few))
  no_more [] (b ∷ qs) left rest few fa fb none e = none b (flat_map spelling qs ++ rest) fb.0 (e ∙ regroup b qs rest)
  no_more (a ∷ ps) (b ∷ qs) left rest few fa fb none e =
      let first = free a b (flat_map spelling ps ++ left) (flat_map spelling qs ++ rest) fa.0 fb.0 (sym (regroup a ps left) ∙ e ∙ regroup b qs rest) in
      no_more ps qs left rest (omega (arith, few)) fa.1 fb.1 none first.1

  -- nor do ps many ps their number says
  pub list_missing : (count : ℕ) (ps : List X) (old behind left : List ℕ) → IsCount count → old ≡ count_bytes count ++ behind
      → length ps < count → AllByRecursion Fits ps → behind ≡ flat_map spelling ps ++ left → BeginsWithNo Fits spelling left
      → BeginsWithNo (FitList Fits) (list_bytes spelling) old
  list_missing count ps old behind left is_count is few fit parts none qs rest fits e =
      let n = count_free count (length qs) behind (flat_map spelling qs ++ rest) is_count fits.count
      (sym is ∙ e ∙ append_assoc (count_bytes (length qs)) (flat_map spelling qs) rest) in
      no_more ps qs left rest (omega (arith, few, n.0)) fit fits.each none (sym parts ∙ n.1)

  -- where no number stands, no list does
  pub count_missing : (old : List ℕ) → BeginsWithNo IsCount count_bytes old → BeginsWithNo (FitList Fits) (list_bytes spelling) old
  count_missing old none qs rest fits e =
      none (length qs) (flat_map spelling qs ++ rest) fits.count (e ∙ append_assoc (count_bytes (length qs)) (flat_map spelling qs) rest)
