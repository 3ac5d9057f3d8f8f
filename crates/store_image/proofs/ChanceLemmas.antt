-- The premise on chance, asked of all records or of those with a dirty unit alone.
use Rattle.std.proofs.Common.{◌≡◌, ◌⊎◌, inl, inr, ℕ, zero, suc, ◌+◌, ◌*◌, true, false, List, [], ◌∷◌, ◌++◌, take, drop, refl, sym, ap, ◌∙◌, arith}
use Rattle.std.proofs.lemmas.List.{drop-drop}
use Rattle.std.proofs.Math.Seq.{take-add}
use Rattle.byte_maps.specs.Units.{unit_at, units_from}
use Rattle.block_device.specs.Prelude.{last, IsCrashImage, is_dirty}
use Rattle.block_device.proofs.Places.{not_dirty-means}
use Rattle.block_device.specs.declared.event.Event.{Event}
use Rattle.meta_rows.specs.declared.row_op.RowOp.{RowOp}
use Rattle.meta_log.specs.Prelude.{unit_count}
use Rattle.store_image.specs.Prelude.{HoldsAsWritten, AreAsWritten, HasDirty, TornAreAsWritten, IsOutranked, NoChanceMatch, NoTornMatch}

-- one unit, and those behind it
units_from-suc : (first n : ℕ) (xs : List ℕ) → units_from first (suc n) xs ≡ unit_at first xs ++ units_from (first + 1) n xs
unfolding unit_at units_from
units_from-suc first n xs =
    ap (λ m. take m (drop (4096 * first) xs)) (omega arith)
    ∙ take-add 4096 (4096 * n) (drop (4096 * first) xs)
    ∙ ap (λ l. take 4096 (drop (4096 * first) xs) ++ take (4096 * n) l) (drop-drop 4096 (4096 * first) xs ∙ ap (λ m. drop m xs) (omega arith))

none_from : (first : ℕ) (xs ys : List ℕ) → units_from first zero xs ≡ units_from first zero ys
unfolding units_from
none_from first xs ys = refl

module _ (start : List ℕ) (log : List Event) (image : List ℕ) (is : IsCrashImage start log image) where
  clean_unit : (k : ℕ) → is_dirty log k ≡ false → unit_at k image ≡ unit_at k (last start log)
  clean_unit k clean = is.clean k ((not_dirty-means log k).0 clean)

  -- of so many units one is dirty, or all stand as they were last written
  dirty_or_same : (first n : ℕ) → HasDirty log first n ⊎ HoldsAsWritten image (last start log) first n
  dirty_or_same first zero = inr (none_from first image (last start log))
  dirty_or_same first (suc n) =
      elim (is_dirty log first) as (λ b. is_dirty log first ≡ b → HasDirty log first (suc n) ⊎ HoldsAsWritten image (last start log) first (suc n)) [
        | true ↦ λ p. inl (first, omega arith, omega arith, p)
        | false ↦ λ p. elim (dirty_or_same (first + 1) n) [
          | inl d ↦ inl (d.0, omega (arith, d.1), omega (arith, d.2), d.3)
          | inr same ↦ inr (units_from-suc first n image ∙ ap (λ u. u ++ units_from (first + 1) n image) (clean_unit first p) ∙ ap (λ r. unit_at first (last start log) ++ r) same ∙ sym (units_from-suc first n (last start log)))
        ]
      ] refl

  untorn : (recs : List (List RowOp)) (number unit : ℕ) → TornAreAsWritten recs number unit log image (last start log) → AreAsWritten recs number unit image (last start log)
  untorn [] number unit torn = tt
  untorn (ops ∷ more) number unit torn = (
    elim (dirty_or_same unit (unit_count number ops)) [ inl d ↦ torn.0 d | inr same ↦ same ],
    untorn more (number + 1) (unit + unit_count number ops) torn.1,
  )

  torn : (recs : List (List RowOp)) (number unit : ℕ) → AreAsWritten recs number unit image (last start log) → TornAreAsWritten recs number unit log image (last start log)
  torn [] number unit all = tt
  torn (ops ∷ more) number unit all = (λ dirty. all.0, torn more (number + 1) (unit + unit_count number ops) all.1)

  pub chance_from_torn : NoTornMatch start log image → NoChanceMatch start log image
  chance_from_torn torn_ones = record {
    records = λ s recs active begins. untorn recs s.first _ (torn_ones.records s recs active begins);
    slots = λ at s below valid. elim (is_dirty log at) as (λ b. is_dirty log at ≡ b → IsOutranked image at s ⊎ (unit_at at image ≡ unit_at at (last start log))) [
      | true ↦ λ p. torn_ones.slots at s below valid p
      | false ↦ λ p. inr (clean_unit at p)
    ] refl;
  }

  pub torn_from_chance : NoChanceMatch start log image → NoTornMatch start log image
  torn_from_chance all = record {
    records = λ s recs active begins. torn recs s.first _ (all.records s recs active begins);
    slots = λ at s below valid dirty. all.slots at s below valid;
  }
