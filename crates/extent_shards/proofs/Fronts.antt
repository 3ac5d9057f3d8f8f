-- The extents of a map's first pages, where the pages are cut between two extents.
use Rattle.std.proofs.Common.{◌≡◌, inl, inr, ℕ, zero, suc, ◌+◌, ◌<◌, ◌≤◌, true, false, cond, List, [], ◌∷◌, ◌++◌, length, get_or, take, refl, sym, ap, subst, ◌∙◌, arith}
use Rattle.std.proofs.lemmas.Bool.{cases_Bool}
use Rattle.row_format.specs.Prelude.{Extent, BeginsAt, Place, own, slot, page_count}
use Rattle.blob_map.specs.Prelude.{alone, single, follows, more, extents_from, extents_of}
use Rattle.blob_map.proofs.Back.{longer_by_one}

-- how many pages extents have
abbrev pub count_of : List Extent → ℕ
count_of [] = 0
count_of (e ∷ es) = page_count e.body + count_of es

pub count_append : (xs ys : List Extent) → count_of (xs ++ ys) ≡ count_of xs + count_of ys
count_append [] ys = omega arith
count_append (x ∷ xs) ys = omega (arith, count_append xs ys)

one_page : (place : Place) → page_count (alone place) ≡ 1
one_page (own unit csum) = refl
one_page (slot sbid index) = refl

-- the extents from one on, with a page more
module _ (e : Extent) (p : ℕ × Place) (ps : List (ℕ × Place)) where
  grown : follows e p ≡ true → extents_from e (p ∷ ps) ≡ extents_from (more e p) ps
  grown is = ap (λ t. cond t (extents_from (more e p) ps) (e ∷ extents_from (single p) ps)) is

  begun : follows e p ≡ false → extents_from e (p ∷ ps) ≡ e ∷ extents_from (single p) ps
  begun is = ap (λ t. cond t (extents_from (more e p) ps) (e ∷ extents_from (single p) ps)) is

count_from : (ps : List (ℕ × Place)) (e : Extent) → count_of (extents_from e ps) ≡ page_count e.body + length ps
count_from [] e = refl
count_from (p ∷ ps) e = elim (cases_Bool (follows e p)) [
  | inl is ↦ omega (arith, ap count_of (grown e p ps is), count_from ps (more e p), longer_by_one e.body p.1)
  | inr is ↦ omega (arith, ap count_of (begun e p ps is), count_from ps (single p), one_page p.1)
]

-- they have all of the pages
pub count_all : (ps : List (ℕ × Place)) → count_of (extents_of ps) ≡ length ps
count_all [] = refl
count_all (p ∷ ps) = omega (arith, count_from ps (single p), one_page p.1)

-- the first of the extents from one on begins as it does
begins_from : (ps : List (ℕ × Place)) (e : Extent) → BeginsAt e.first (extents_from e ps)
begins_from [] e = refl
begins_from (p ∷ ps) e = elim (cases_Bool (follows e p)) [
  | inl is ↦ subst (BeginsAt e.first) (sym (grown e p ps is)) (begins_from ps (more e p))
  | inr is ↦ subst (BeginsAt e.first) (sym (begun e p ps is)) refl
]

-- and has at least its pages
at_least : (ps : List (ℕ × Place)) (e x : Extent) (zs : List Extent) → extents_from e ps ≡ x ∷ zs → page_count e.body ≤ page_count x.body
at_least [] e x zs is = let same : e ≡ x = cc in omega (arith, ap (λ (y : Extent). page_count y.body) same)
at_least (p ∷ ps) e x zs is = elim (cases_Bool (follows e p)) [
  | inl does ↦ omega (arith, at_least ps (more e p) x zs (sym (grown e p ps does) ∙ is), longer_by_one e.body p.1)
  | inr not ↦
      let split : e ∷ extents_from (single p) ps ≡ x ∷ zs = sym (begun e p ps not) ∙ is in
      let same : e ≡ x = cc in
      omega (arith, ap (λ (y : Extent). page_count y.body) same)
]

-- where the extents from one on are these and others, those of fewer pages are these
front_from : (ps : List (ℕ × Place)) (e x : Extent) (k : ℕ) (xs ys : List Extent) → extents_from e ps ≡ x ∷ (xs ++ ys)
    → page_count e.body + k ≡ page_count x.body + count_of xs → extents_from e (take k ps) ≡ x ∷ xs
front_from [] e x zero [] ys is count = let same : e ≡ x = cc in ap (λ y. y ∷ []) same
front_from [] e x zero (z ∷ zs) ys is count = absurd cc
front_from [] e x (suc k) [] ys is count = let same : e ≡ x = cc in ap (λ y. y ∷ []) same
front_from [] e x (suc k) (z ∷ zs) ys is count = absurd cc
front_from (p ∷ ps) e x zero [] ys is count = elim (cases_Bool (follows e p)) [
  | inl does ↦ absurd (omega (arith, at_least ps (more e p) x ys (sym (grown e p ps does) ∙ is), longer_by_one e.body p.1, count))
  | inr not ↦
      let split : e ∷ extents_from (single p) ps ≡ x ∷ ys = sym (begun e p ps not) ∙ is in
      let same : e ≡ x = cc in
      ap (λ y. y ∷ []) same
]
front_from (p ∷ ps) e x zero (z ∷ zs) ys is count = elim (cases_Bool (follows e p)) [
  | inl does ↦ absurd (omega (arith, at_least ps (more e p) x (z ∷ (zs ++ ys)) (sym (grown e p ps does) ∙ is), longer_by_one e.body p.1, count))
  | inr not ↦
      let split : e ∷ extents_from (single p) ps ≡ x ∷ (z ∷ (zs ++ ys)) = sym (begun e p ps not) ∙ is in
      let same : e ≡ x = cc in
      let rest : extents_from (single p) ps ≡ z ∷ (zs ++ ys) = cc in
      absurd (omega (arith, at_least ps (single p) z (zs ++ ys) rest, one_page p.1, ap (λ (y : Extent). page_count y.body) same, count))
]
front_from (p ∷ ps) e x (suc k) [] ys is count = elim (cases_Bool (follows e p)) [
  | inl does ↦
      grown e p (take k ps) does
      ∙ front_from ps (more e p) x k [] ys (sym (grown e p ps does) ∙ is) (omega (arith, longer_by_one e.body p.1, count))
  | inr not ↦
      let split : e ∷ extents_from (single p) ps ≡ x ∷ ys = sym (begun e p ps not) ∙ is in
      let same : e ≡ x = cc in
      absurd (omega (arith, ap (λ (y : Extent). page_count y.body) same, count))
]
front_from (p ∷ ps) e x (suc k) (z ∷ zs) ys is count = elim (cases_Bool (follows e p)) [
  | inl does ↦
      grown e p (take k ps) does
      ∙ front_from ps (more e p) x k (z ∷ zs) ys (sym (grown e p ps does) ∙ is) (omega (arith, longer_by_one e.body p.1, count))
  | inr not ↦
      let split : e ∷ extents_from (single p) ps ≡ x ∷ (z ∷ (zs ++ ys)) = sym (begun e p ps not) ∙ is in
      let same : e ≡ x = cc in
      let rest : extents_from (single p) ps ≡ z ∷ (zs ++ ys) = cc in
      begun e p (take k ps) not
      ∙ ap (λ l. e ∷ l) (front_from ps (single p) z k zs ys rest
      (omega (arith, one_page p.1, ap (λ (y : Extent). page_count y.body) same, count)))
      ∙ ap (λ y. y ∷ (z ∷ zs)) same
]

-- where the extents of pages are these and others, these are the extents of their pages
pub front_of : (ps : List (ℕ × Place)) (k : ℕ) (xs ys : List Extent) → extents_of ps ≡ xs ++ ys → count_of xs ≡ k → extents_of (take k ps) ≡ xs
front_of ps zero [] ys is count = refl
front_of ps (suc k) [] ys is count = absurd (omega (arith, count))
front_of [] k (z ∷ zs) ys is count = absurd cc
front_of (p ∷ ps) zero (z ∷ zs) ys is count = absurd (omega (arith, at_least ps (single p) z (zs ++ ys) is, one_page p.1, count))
front_of (p ∷ ps) (suc k) (z ∷ zs) ys is count = front_from ps (single p) z k zs ys is (omega (arith, one_page p.1, count))

-- it begins with the first page
pub begins_at_first : (ps : List (ℕ × Place)) (d : ℕ × Place) → 0 < length ps → BeginsAt (get_or ps 0 d).0 (extents_of ps)
begins_at_first [] d some = absurd (omega (arith, some))
begins_at_first (p ∷ ps) d some = begins_from ps (single p)
