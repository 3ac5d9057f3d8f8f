-- One write over an image, unit by unit.
use Rattle.std.proofs.Common.{◌≡◌, ◌≢◌, inl, inr, ℕ, ◌+◌, ◌-◌, ◌*◌, ◌<◌, ◌≤◌, List, length, take, drop, set, not, length-drop, Bool, true, false, ◌||◌, refl, sym, ◌∙◌, ap, subst, arith}
use Rattle.std.specs.Prelude.{if◌then◌else◌}
use Rattle.std.proofs.lemmas.Bool.{cases_lt, cases_eq}
use Rattle.std.proofs.lemmas.List.{get_or-set_same, get_or-set_other, length-set, length-take-le}
use Rattle.byte_maps.specs.Units.{unit_at, overlaid, IsUnits}
use Rattle.byte_maps.proofs.Prelude.{length-overlaid, unit_at-laid_before, unit_at-laid_behind, unit_at-laid_inside, unit_at-whole}
use Rattle.block_device.specs.Prelude.{is_laid, mark, laid_unit, IsPut}
use Rattle.block_device.specs.declared.image.Tear.{Tear}

-- unit k is among the j from `at` on
abbrev pub IsAmongFirst : ℕ → ℕ → ℕ → Type 0
IsAmongFirst at j k = (at ≤ k) × (k < at + j)

-- the first j units of a write were put over the image
pub record IsPutUpTo (tear : Tear) (j at : ℕ) (bytes : List ℕ) (stable : Bool) (old new : List ℕ) (torn_old torn_new : List Bool) : Type 0 where
  pub size : length new ≡ length old
  pub marks : length torn_new ≡ length torn_old
  pub others : (k : ℕ) → ¬ IsAmongFirst at j k → unit_at k new ≡ unit_at k old
  pub other_marks : (k : ℕ) → ¬ IsAmongFirst at j k → mark torn_new k ≡ mark torn_old k
  pub written : (k : ℕ) → IsAmongFirst at j k → unit_at k new ≡ laid_unit tear stable (mark torn_old k) (k - at) bytes (unit_at k old)
  pub torn : (k : ℕ) → IsAmongFirst at j k → mark torn_new k ≡ (mark torn_old k || not stable)

-- one unit laid leaves the others
pub unit_at-laid_one : (at k : ℕ) (piece old : List ℕ) → length piece ≡ 4096 → 4096 * at + 4096 ≤ length old → k ≢ at → unit_at k (overlaid at piece old) ≡ unit_at k old
unit_at-laid_one at k piece old size fits other = elim (cases_lt k at) [
  | inl before ↦ unit_at-laid_before at k piece old (omega arith) before
  | inr behind ↦ unit_at-laid_behind at k piece old (omega arith) (omega arith)
]

pub unit_at-laid_itself : (at : ℕ) (piece old : List ℕ) → length piece ≡ 4096 → 4096 * at + 4096 ≤ length old → unit_at at (overlaid at piece old) ≡ piece
unit_at-laid_itself at piece old size fits = unit_at-laid_inside at at 0 piece old (omega arith) (omega arith) (omega arith) ∙ unit_at-whole piece size

-- the piece that the code takes
pub unit_piece : (j : ℕ) (bytes : List ℕ) → take (4096 * j + 4096 - 4096 * j) (drop (4096 * j) bytes) ≡ unit_at j bytes
unfolding unit_at
unit_piece j bytes = let span : 4096 * j + 4096 - 4096 * j ≡ 4096 = omega arith in ap (λ (n : ℕ). take n (drop (4096 * j) bytes)) span

pub length-unit_at : (j : ℕ) (bytes : List ℕ) → 4096 * j + 4096 ≤ length bytes → length (unit_at j bytes) ≡ 4096
unfolding unit_at
length-unit_at j bytes inside = length-take-le 4096 (drop (4096 * j) bytes) (omega (arith, length-drop (4096 * j) bytes))

pub put_none : (tear : Tear) (at : ℕ) (bytes : List ℕ) (stable : Bool) (old : List ℕ) (torn : List Bool) → IsPutUpTo tear 0 at bytes stable old old torn torn
put_none tear at bytes stable old torn = record {
  size = refl;
  marks = refl;
  others = λ k _. refl;
  other_marks = λ k _. refl;
  written = λ k among. absurd (omega (arith, among.0, among.1));
  torn = λ k among. absurd (omega (arith, among.0, among.1));
}

-- the image after unit j: laid, or as it was
abbrev pub put_one : Bool → ℕ → List ℕ → List ℕ → List ℕ
put_one true k piece image = overlaid k piece image
put_one false k piece image = image

unit_at-put_other : (taken : Bool) (at k : ℕ) (piece image : List ℕ) → length piece ≡ 4096 → 4096 * at + 4096 ≤ length image → k ≢ at → unit_at k (put_one taken at piece image) ≡ unit_at k image
unit_at-put_other true at k piece image size fits other = unit_at-laid_one at k piece image size fits other
unit_at-put_other false at k piece image size fits other = refl

unit_at-put_here : (taken : Bool) (at : ℕ) (piece image : List ℕ) → length piece ≡ 4096 → 4096 * at + 4096 ≤ length image → unit_at at (put_one taken at piece image) ≡ (if taken then piece else unit_at at image)
unit_at-put_here true at piece image size fits = unit_at-laid_itself at piece image size fits
unit_at-put_here false at piece image size fits = refl

length-put_one : (taken : Bool) (at : ℕ) (piece image : List ℕ) → length piece ≡ 4096 → 4096 * at + 4096 ≤ length image → length (put_one taken at piece image) ≡ length image
length-put_one true at piece image size fits = length-overlaid at piece image (omega arith)
length-put_one false at piece image size fits = refl

-- unit j of a write is put or not, and marked
pub put_more : (tear : Tear) (j at : ℕ) (bytes : List ℕ) (stable : Bool) (old new new' : List ℕ) (torn_old torn torn' : List Bool) (piece : List ℕ)
    → IsPutUpTo tear j at bytes stable old new torn_old torn → 4096 * (at + j) + 4096 ≤ length new → at + j < length torn → piece ≡ unit_at j bytes → length piece ≡ 4096
    → new' ≡ put_one (is_laid tear stable (mark torn (at + j)) j) (at + j) piece new → torn' ≡ set torn (at + j) (mark torn (at + j) || not stable)
    → IsPutUpTo tear (j + 1) at bytes stable old new' torn_old torn'
put_more tear j at bytes stable old new new' torn_old torn torn' piece p fits marked is_piece size new_is torn_is =
    let taken = is_laid tear stable (mark torn (at + j)) j in
    let fresh : ¬ IsAmongFirst at j (at + j) = λ among. omega (arith, among.1) in
    let same_unit : (k : ℕ) → k ≢ at + j → unit_at k new' ≡ unit_at k new = λ k ne. ap (λ (l : List ℕ). unit_at k l) new_is ∙ unit_at-put_other taken (at + j) k piece new size fits ne in
    let same_mark : (k : ℕ) → k ≢ at + j → mark torn' k ≡ mark torn k = λ k ne. ap (λ (l : List Bool). mark l k) torn_is ∙ get_or-set_other torn (at + j) k (mark torn (at + j) || not stable) false ne in
    let was_unit = p.others (at + j) fresh in
    let was_mark = p.other_marks (at + j) fresh in
    let index : at + j - at ≡ j = omega arith in
    let here_unit : unit_at (at + j) new' ≡ laid_unit tear stable (mark torn_old (at + j)) (at + j - at) bytes (unit_at (at + j) old) =
    ap (λ (l : List ℕ). unit_at (at + j) l) new_is ∙ unit_at-put_here taken (at + j) piece new size fits
    ∙ ap (λ (l : List ℕ). if taken then l else unit_at (at + j) new) is_piece
    ∙ ap (λ (l : List ℕ). if taken then unit_at j bytes else l) was_unit
    ∙ ap (λ (b : Bool). if is_laid tear stable b j then unit_at j bytes else unit_at (at + j) old) was_mark
    ∙ ap (λ (n : ℕ). if is_laid tear stable (mark torn_old (at + j)) n then unit_at n bytes else unit_at (at + j) old) (sym index) in
    let here_mark : mark torn' (at + j) ≡ (mark torn_old (at + j) || not stable) =
    ap (λ (l : List Bool). mark l (at + j)) torn_is ∙ get_or-set_same torn (at + j) (mark torn (at + j) || not stable) false marked ∙ ap (λ (b : Bool). b || not stable) was_mark in
    record {
      size = ap length new_is ∙ length-put_one taken (at + j) piece new size fits ∙ p.size;
      marks = ap length torn_is ∙ length-set torn (at + j) (mark torn (at + j) || not stable) ∙ p.marks;
      others = λ k beyond. same_unit k (λ same. beyond (omega arith, omega arith)) ∙ p.others k (λ among. beyond (among.0, omega (arith, among.1)));
      other_marks = λ k beyond. same_mark k (λ same. beyond (omega arith, omega arith)) ∙ p.other_marks k (λ among. beyond (among.0, omega (arith, among.1)));
      written = λ k among. elim (cases_eq k (at + j)) [
        | inr ne ↦ same_unit k ne ∙ p.written k (among.0, omega (arith, among.1))
        | inl here ↦ subst (λ (n : ℕ). unit_at n new' ≡ laid_unit tear stable (mark torn_old n) (n - at) bytes (unit_at n old)) (sym here) here_unit
      ];
      torn = λ k among. elim (cases_eq k (at + j)) [
        | inr ne ↦ same_mark k ne ∙ p.torn k (among.0, omega (arith, among.1))
        | inl here ↦ subst (λ (n : ℕ). mark torn' n ≡ (mark torn_old n || not stable)) (sym here) here_mark
      ];
    }

-- all units of the write are put
pub put_all : (tear : Tear) (n at : ℕ) (bytes : List ℕ) (stable : Bool) (old new : List ℕ) (torn_old torn : List Bool) → IsUnits n bytes → IsPutUpTo tear n at bytes stable old new torn_old torn → IsPut tear at bytes stable old new torn_old torn
put_all tear n at bytes stable old new torn_old torn units p = record {
  size = p.size;
  marks = p.marks;
  others = λ k beyond. p.others k (λ among. beyond (among.0, omega (arith, among.1, among.0)));
  other_marks = λ k beyond. p.other_marks k (λ among. beyond (among.0, omega (arith, among.1, among.0)));
  written = λ k covers. p.written k (covers.0, omega (arith, covers.1));
  torn = λ k covers. p.torn k (covers.0, omega (arith, covers.1));
}
