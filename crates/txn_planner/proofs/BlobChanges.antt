-- The changes at the end of planning, with those of the rows of blobs.
use Rattle.std.proofs.Common.{◌≡◌, ◌⊎◌, inl, inr, ℕ, ◌<◌, ◌^◌, T, cond, List, [], ◌∷◌, length, Option, Some, None, refl, sym, ap, subst, ◌∙◌, arith}
use Rattle.std.specs.Prelude.{unwrap_or}
use Rattle.std.specs.Option.{option_map_or}
use Rattle.std.specs.FinMap as finite
use Rattle.std.specs.FinMap.{find, is_sorted, entries, entries_sorted, get-entries}
use Rattle.std.specs.FinMap.Entries.{below_all}
use Rattle.std.proofs.lemmas.Bool.{cases_Bool}
use Rattle.byte_maps.specs.ByteMap.{byte_order, ByteMap}
use Rattle.byte_maps.proofs.Prelude.{both_first, both_second, find_below}
use Rattle.unit_fields.specs.Prelude.{IsName, IsCollName}
use Rattle.unit_fields.specs.declared.width.Width.{Width}
use Rattle.object_model.specs.Prelude.{Change, is_same}
use Rattle.meta_rows.specs.Prelude.{Rows}
use Rattle.row_format.specs.Prelude.{shared_key}
use Rattle.row_format.proofs.Prelude.{same_head}
use Rattle.row_facts.proofs.Maps.{get_same, get_other}
use Rattle.row_changes.specs.Prelude.{ChangeMap, value_seen}
use Rattle.plan_rows.specs.Prelude.{indexes_of, blob_value, blob_after, IsKeyOfSlot}
use Rattle.plan_drafts.specs.Prelude.{Held, Layout, HasLayout, ValueKey, attribute, header, pair, value_key, CollDraft, IsKeyOfColl, IsKeyOfDraft, GetsDraft}
use Rattle.plan_proofs.proofs.Names.{same_is, itself}
use Rattle.shared_blobs.specs.Blob.{Blob}
use Rattle.shared_blobs.specs.Lowering.{blob_left, AreLowered}
use Rattle.shared_blobs.specs.declared.lowering.Lowered.{Lowered}
use Rattle.txn_planner.specs.declared.planning.Planning.{Planning}
use Rattle.txn_planner.specs.Planning.{IsStateOf}
use Rattle.txn_planner.specs.Laying.{AllTakeBelow, with_rows, with_blobs, HasCollRow, AreNew, HaveNumbers, IsChangesOf}
use Rattle.txn_planner.proofs.ChangedRows.{others, coll_after, gets_object, gets_value}

-- ---- keys

-- the key of a blob's row is none of a collection
blob_apart : (c : List ℕ) (sbid : ℕ) → IsKeyOfColl c (shared_key sbid) → ⊥
blob_apart c sbid (inl e) = omega (arith, same_head _ _ _ _ e)
blob_apart c sbid (inr (o, name, inl (inl e))) = omega (arith, same_head _ _ _ _ e)
blob_apart c sbid (inr (o, name, inl (inr p))) = omega (arith, same_head _ _ _ _ p.2)
blob_apart c sbid (inr (o, name, inr its)) = by its.of its.is
  where
    by : (k : ValueKey) → shared_key sbid ≡ value_key c o k → ⊥
    by (attribute n) e = omega (arith, same_head _ _ _ _ e)
    by header e = omega (arith, same_head _ _ _ _ e)
    by (pair q) e = omega (arith, same_head _ _ _ _ e)

-- ---- changes of blobs

module _ (w : Width) where
  -- the change of a blob, or what was changed before
  abbrev change_by : Option Blob → Option (Option (List ℕ)) → Option (Option (List ℕ))
  change_by b old = option_map_or (λ (b : Blob). Some (blob_value w b.first b.slots)) b old

  entry_by : (es : List (List ℕ × Blob)) → T (is_sorted byte_order es) → (changes : ChangeMap) (key : List ℕ)
      → finite.get (with_blobs w es changes) key ≡ change_by (find byte_order key es) (finite.get changes key)
  entry_by [] sorted changes key = refl
  entry_by (e ∷ es) sorted changes key =
      entry_by es (both_second (below_all byte_order e.0 es) _ sorted) (finite.insert changes e.0 (blob_value w e.1.first e.1.slots)) key
      ∙ elim (cases_Bool (is_same key e.0)) [
        | inl same ↦
            let is : key ≡ e.0 = same_is key e.0 same in
            let none : find byte_order key es ≡ None = ap (λ u. find byte_order u es) is
            ∙ find_below e.0 es (both_first (below_all byte_order e.0 es) _ sorted) in
            ap (λ b. change_by b (finite.get (finite.insert changes e.0 (blob_value w e.1.first e.1.slots)) key)) none
            ∙ ap (finite.get (finite.insert changes e.0 (blob_value w e.1.first e.1.slots))) is
            ∙ get_same changes e.0 (blob_value w e.1.first e.1.slots)
            ∙ sym (ap (λ b. change_by (cond b (Some e.1) (find byte_order key es)) (finite.get changes key)) same)
        | inr other ↦
            let apart : key ≡ e.0 → ⊥ = λ is. let t = sym other ∙ ap (is_same key) (sym is) ∙ itself key in cc in
            ap (change_by (find byte_order key es)) (get_other changes e.0 (blob_value w e.1.first e.1.slots) key apart)
            ∙ sym (ap (λ b. change_by (cond b (Some e.1) (find byte_order key es)) (finite.get changes key)) other)
      ]

  blob_by : (blobs : ByteMap Blob) (changes : ChangeMap) (key : List ℕ)
      → finite.get (with_blobs w (entries blobs) changes) key ≡ change_by (finite.get blobs key) (finite.get changes key)
  blob_by blobs changes key = entry_by (entries blobs) (entries_sorted blobs) changes key
      ∙ ap (λ b. change_by b (finite.get changes key)) (sym (get-entries blobs key))

  -- a blob that pages left gets this row
  some_after : (value : Option (List ℕ)) (ks : List ℕ) (b : Blob) → blob_left w value ks ≡ Some b → blob_value w b.first b.slots ≡ blob_after w value ks
  some_after value [] b is = absurd cc
  some_after None (k ∷ ks) b is = absurd cc
  some_after (Some value) (k ∷ ks) b is = ap (λ (z : Option Blob). option_map_or (λ (b : Blob). blob_value w b.first b.slots) z None) (sym is)

  -- and all others keep theirs
  none_after : (value : Option (List ℕ)) (ks : List ℕ) → blob_left w value ks ≡ None → value ≡ blob_after w value ks
  none_after value [] is = refl
  none_after None (k ∷ ks) is = refl
  none_after (Some value) (k ∷ ks) is = absurd cc

module _ (w : Width) (rows : Rows) (change : Change) (coll : IsCollName change.coll) (p : Planning) (units : List ℕ) (held : Held)
    (lowered : Lowered) (are_lowered : AreLowered w rows p.unshared.items lowered) (below : AllTakeBelow (length units) p.objects)
    (layouts : List ℕ → Option Layout) (d : CollDraft) (state : IsStateOf rows change.coll layouts d p)
    (has : (o : List ℕ) → IsName o → HasLayout w rows change.coll o (layouts o)) (had_coll : HasCollRow rows change d)
    (new : AreNew layouts units) (numbers : HaveNumbers d) where
  abbrev c : List ℕ
  c = change.coll

  abbrev before : ChangeMap
  before = with_rows w rows change units held p

  abbrev changes : ChangeMap
  changes = with_blobs w (entries lowered.blobs) before

  -- where no blob is there nothing more is changed
  not_more : (key : List ℕ) → finite.get lowered.blobs key ≡ None → finite.get changes key ≡ finite.get before key
  not_more key none = blob_by w lowered.blobs before key ∙ ap (λ b. change_by w b (finite.get before key)) none

  no_blob : (key : List ℕ) → IsKeyOfColl c key → finite.get lowered.blobs key ≡ None
  no_blob key of = by (finite.get lowered.blobs key) refl
    where
      by : (z : Option Blob) → finite.get lowered.blobs key ≡ z → z ≡ None
      by None q = refl
      by (Some b) q = let its = are_lowered.of_slots key b q in absurd (blob_apart c its.sbid (subst (IsKeyOfColl c) its.is of))

  module _ (after : Rows) (are : (key : List ℕ) → finite.get after key ≡ value_seen rows changes key) where
    of_coll : (key : List ℕ) → IsKeyOfColl c key → finite.get after key ≡ value_seen rows before key
    of_coll key of = are key ∙ ap (λ z. unwrap_or z (finite.get rows key)) (not_more key (no_blob key of))

    not_changed : (sbid : ℕ) → finite.get before (shared_key sbid) ≡ None
    not_changed sbid = elim (others w rows change coll p units held below layouts d state has had_coll new numbers (shared_key sbid)) [
      | inl its ↦ absurd (blob_apart c sbid its)
      | inr none ↦ none
    ]

    gets_blob : (sbid : ℕ) → sbid < 2 ^ 64
        → finite.get after (shared_key sbid) ≡ blob_after w (finite.get rows (shared_key sbid)) (indexes_of sbid d.unshared)
    gets_blob sbid small =
        are (shared_key sbid) ∙ by (finite.get lowered.blobs (shared_key sbid)) refl
        ∙ ap (λ ss. blob_after w (finite.get rows (shared_key sbid)) (indexes_of sbid ss)) state.unshared
      where
        value : Option (List ℕ)
        value = finite.get rows (shared_key sbid)

        by : (z : Option Blob) → finite.get lowered.blobs (shared_key sbid) ≡ z
            → value_seen rows changes (shared_key sbid) ≡ blob_after w (finite.get rows (shared_key sbid)) (indexes_of sbid p.unshared.items)
        by None q = ap (λ z. unwrap_or z (finite.get rows (shared_key sbid))) (not_more (shared_key sbid) q ∙ not_changed sbid)
            ∙ none_after w (finite.get rows (shared_key sbid)) (indexes_of sbid p.unshared.items) (sym (are_lowered.blobs sbid small) ∙ q)
        by (Some b) q = ap (λ z. unwrap_or z (finite.get rows (shared_key sbid)))
            (blob_by w lowered.blobs before (shared_key sbid) ∙ ap (λ b. change_by w b (finite.get before (shared_key sbid))) q)
            ∙ some_after w (finite.get rows (shared_key sbid)) (indexes_of sbid p.unshared.items) b (sym (are_lowered.blobs sbid small) ∙ q)

    no_others : (key : List ℕ) → IsKeyOfDraft c d key ⊎ (finite.get after key ≡ finite.get rows key)
    no_others key = by (finite.get lowered.blobs key) refl
      where
        by : (z : Option Blob) → finite.get lowered.blobs key ≡ z → IsKeyOfDraft c d key ⊎ (finite.get after key ≡ finite.get rows key)
        by (Some b) q = inl (inr (subst (λ ss. IsKeyOfSlot ss key) state.unshared (are_lowered.of_slots key b q)))
        by None q = elim (others w rows change coll p units held below layouts d state has had_coll new numbers key) [
          | inl its ↦ inl (inl its)
          | inr none ↦ inr (are key ∙ ap (λ z. unwrap_or z (finite.get rows key)) (not_more key q ∙ none))
        ]

    gets_draft : GetsDraft w rows after c layouts units held d
    gets_draft = record {
      coll = coll_after w rows change coll p units held below layouts d state has had_coll new numbers after of_coll;
      objects = λ o name. gets_object w rows change coll p units held below layouts d state has had_coll new numbers after of_coll o name;
      values = gets_value w rows change coll p units held below layouts d state has had_coll new numbers after of_coll;
      blobs = gets_blob;
      others = no_others;
    }

-- the changes at the end are those of the state
pub are_changes : (w : Width) (rows : Rows) (change : Change) → IsCollName change.coll → (p : Planning) (units : List ℕ) (held : Held) (lowered : Lowered)
    → AreLowered w rows p.unshared.items lowered → AllTakeBelow (length units) p.objects
    → IsChangesOf w rows change p units held (with_blobs w (entries lowered.blobs) (with_rows w rows change units held p))
are_changes w rows change coll p units held lowered are_lowered below layouts d state has had new numbers after are =
    gets_draft w rows change coll p units held lowered are_lowered below layouts d state has had new numbers after are
