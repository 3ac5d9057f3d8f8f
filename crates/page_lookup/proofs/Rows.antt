-- Pages found in the values of rows, one row's behind the other's.
use Rattle.std.proofs.Common.{◌≡◌, inl, inr, ℕ, List, [], ◌∷◌, ◌++◌, None, refl, sym, ap, subst, ◌∙◌, append_assoc}
use Rattle.std.proofs.lemmas.List.Concat.{flat_map-cons}
use Rattle.unit_fields.specs.declared.width.Width.{Width}
use Rattle.meta_rows.specs.Prelude.{BeginsReached, SkipsTo}
use Rattle.row_format.specs.Prelude.{Extent, ExtentsAscend}
use Rattle.page_lookup.specs.Prelude.{extents_read, rows_read, place_found, EndBehind, LeavesOut, BeginsBy, HasNumber}
use Rattle.page_lookup.proofs.Finding.{found_at_front, found_among, leaves_none, leaves_more, leaves_before, leaves_before_begun}

abbrev Entry : Type 0
Entry = List ℕ × List ℕ

pub one_row : (w : Width) (row : Entry) (rows : List Entry) → rows_read w (row ∷ rows) ≡ extents_read w row.1 ++ rows_read w rows
unfolding rows_read
one_row w row rows = flat_map-cons (λ (r : Entry). extents_read w r.1) row rows

pub no_row : (w : Width) → rows_read w [] ≡ []
unfolding rows_read
no_row w = refl

joined_rows : (w : Width) (front rows : List Entry) → rows_read w (front ++ rows) ≡ rows_read w front ++ rows_read w rows
joined_rows w [] rows = sym (ap (λ (es : List Extent). es ++ rows_read w rows) (no_row w))
joined_rows w (row ∷ front) rows =
    one_row w row (front ++ rows)
    ∙ ap (λ (es : List Extent). extents_read w row.1 ++ es) (joined_rows w front rows)
    ∙ sym (append_assoc (extents_read w row.1) (rows_read w front) (rows_read w rows))
    ∙ ap (λ (es : List Extent). es ++ rows_read w rows) (sym (one_row w row front))

begins_before : (page : ℕ) (es behind : List Extent) → BeginsBy page es → BeginsBy page (es ++ behind)
begins_before page [] behind begins = absurd begins
begins_before page (e ∷ es) behind begins = begins

rows_begin : (w : Width) (page : ℕ) (R : List ℕ → Type 0) → ((value : List ℕ) → R value → BeginsBy page (extents_read w value)) → (rows : List Entry)
    → BeginsReached R rows → BeginsBy page (rows_read w rows)
rows_begin w page R reached [] begins = absurd begins
rows_begin w page R reached (row ∷ rows) begins =
    subst (BeginsBy page) (sym (one_row w row rows)) (begins_before page (extents_read w row.1) (rows_read w rows) (reached row.1 begins))

-- the rows before one whose extents begin with the page or before it are left out
pub rows_left : (w : Width) (page : ℕ) (R : List ℕ → Type 0) → ((value : List ℕ) → R value → BeginsBy page (extents_read w value))
    → (old new : List Entry) → ExtentsAscend (rows_read w old) → SkipsTo R old new → LeavesOut page (rows_read w old) (rows_read w new)
rows_left w page R reached old new ascend skips =
    let all : rows_read w old ≡ rows_read w skips.front ++ rows_read w new = ap (rows_read w) skips.is ∙ joined_rows w skips.front new in
    elim skips.stops [
      | inl none ↦ subst (λ (es : List Extent). LeavesOut page es (rows_read w new))
          (ap (rows_read w) (sym (skips.is ∙ ap (λ (rows : List Entry). rows ++ new) none))) (leaves_none page (rows_read w new))
      | inr begins ↦ subst (λ (es : List Extent). LeavesOut page es (rows_read w new)) (sym all)
          (leaves_before_begun page (rows_read w skips.front) (rows_read w new) (subst ExtentsAscend all ascend) (rows_begin w page R reached new begins))
    ]

module _ (w : Width) (page : ℕ) (front : List ℕ) (rows : List Entry) (start : List Extent)
    (left : LeavesOut page start (extents_read w front ++ rows_read w rows)) where
  -- where nothing is left of a shard, the next one is gone on with
  pub next_row : (value new : List ℕ) (row : Entry) (later : List Entry) → extents_read w front ≡ [] → rows ≡ row ∷ later → value ≡ row.1
      → LeavesOut page (extents_read w value) (extents_read w new) → LeavesOut page start (extents_read w new ++ rows_read w later)
  next_row value new row later none is same skipped =
      let all : extents_read w front ++ rows_read w rows ≡ extents_read w value ++ rows_read w later =
      (λ i. none i ++ rows_read w (is i)) ∙ one_row w row later ∙ ap (λ (v : List ℕ). extents_read w v ++ rows_read w later) (sym same) in
      leaves_more page start (extents_read w value ++ rows_read w later) (extents_read w new ++ rows_read w later)
      (subst (LeavesOut page start) all left) (leaves_before page (extents_read w value) (extents_read w new) (rows_read w later) skipped)

  -- where nothing is left of a shard, others are skipped
  pub skipped_rows : (later : List Entry) → extents_read w front ≡ [] → LeavesOut page (rows_read w rows) (rows_read w later)
      → LeavesOut page start (extents_read w front ++ rows_read w later)
  skipped_rows later none skipped =
      leaves_more page start (extents_read w front ++ rows_read w rows) (extents_read w front ++ rows_read w later) left
      (subst (λ (es : List Extent). LeavesOut page (es ++ rows_read w rows) (es ++ rows_read w later)) (sym none) skipped)

  -- where no shard is left either, there is no place
  pub nothing_left : extents_read w front ≡ [] → rows ≡ [] → None ≡ place_found start page
  nothing_left none is =
      let all : extents_read w front ++ rows_read w rows ≡ [] = (λ i. none i ++ rows_read w (is i)) ∙ no_row w in
      sym (ap (λ (es : List Extent). place_found es page) all) ∙ found_among page start (extents_read w front ++ rows_read w rows) left

  -- where an extent is left, it says the place
  pub found_left : EndBehind page (extents_read w front) → (extents_read w front ≡ [] → ⊥)
      → place_found (extents_read w front) page ≡ place_found start page
  found_left ends some =
      sym (found_at_front page (extents_read w front) (rows_read w rows) ends some)
      ∙ found_among page start (extents_read w front ++ rows_read w rows) left

  pub number_left : EndBehind page (extents_read w front) → (extents_read w front ≡ [] → ⊥) → HasNumber start page → HasNumber (extents_read w front) page
  number_left ends some has place is = has place (sym (found_left ends some) ∙ is)
