-- The blobs of the rows that were gone through.
use Rattle.std.proofs.Common.{◌≡◌, ◌≢◌, ◌⊎◌, ◌↔◌, inl, inr, ℕ, ◌+◌, ◌<◌, ◌≤◌, ◌^◌, cond, true, false, List, [], ◌∷◌, ◌++◌, length, get_or, replicate, Option, Some, None, MatchOption, refl, sym, ap, subst, ◌∙◌, arith}
use Rattle.std.specs.Ordering.{is_eq, eq_by_cmp, ordering_reverse}
use Rattle.std.specs.declared.cmp.Ordering.{Ordering}
use Rattle.std.specs.declared.cmp.Ordering.TheVariants.{Less, Equal, Greater}
use Rattle.std.specs.FinMap as map
use Rattle.std.proofs.lemmas.Bool.{cases_lt}
use Rattle.std.proofs.lemmas.Cmp.{tied_itself, nat_list_cmp_total}
use Rattle.std.proofs.lemmas.List.{get_or_append_left, get_or-append-add, get_or-replicate, length-replicate, length_push}
use Rattle.byte_maps.specs.ByteMap.{ByteMap, byte_order}
use Rattle.byte_maps.proofs.Prelude.{same_bytes, after_insert}
use Rattle.unit_fields.specs.declared.width.Width.{Width}
use Rattle.meta_rows.specs.Prelude.{Rows}
use Rattle.meta_log.specs.declared.slot.Super.{Super}
use Rattle.meta_log.specs.Prelude.{width_of}
use Rattle.row_format.specs.Prelude.{shared_key, Slot, blob}
use Rattle.row_format.specs.Row as format
use Rattle.store_image.specs.Prelude.{HasRow, NoBadRow}
use Rattle.row_reading.specs.declared.row.Row as read
use Rattle.row_reading.specs.declared.row.Row.TheVariants as variants
use Rattle.row_reading.specs.Reading.{format_row, SpellsRow, IsNoRow}
use Rattle.row_reading.proofs.Entries.{AreRows, rising}
use Rattle.row_check.specs.Tallies.{Tally, no_tally, new_tally, Tallies, BeginsBlob, WithRow, with_blob, IsAddedOn, HasTally, AreTallies, HasBlobRow, IsUncounted, AreUnnamed}
use Rattle.row_check.proofs.Walk.{has_spelled}
use Rattle.row_check.proofs.Named.{same_blob}
use Rattle.row_check.proofs.MarkedRows.{RowAt, same_spelled, at_here, here_at, has_here, good_here, spelled_here}

-- ---- maps of places

own_order : (o : Ordering) → o ≡ ordering_reverse o → is_eq o ≡ true
own_order Less e = absurd cc
own_order Equal e = refl
own_order Greater e = absurd cc

other_order : (o : Ordering) → (o ≡ Equal → ⊥) → is_eq o ≡ false
other_order Less f = refl
other_order Equal f = absurd (f refl)
other_order Greater f = refl

placed_same : (m : ByteMap ℕ) (key : List ℕ) (at : ℕ) → map.get (map.insert m key at) key ≡ Some at
placed_same m key at = after_insert m key at key ∙ ap (λ b. cond b (Some at) (map.get m key)) (own_order (byte_order key key) (nat_list_cmp_total.antisymm key key))

placed_other : (m : ByteMap ℕ) (key other : List ℕ) (at : ℕ) → other ≢ key → map.get (map.insert m key at) other ≡ map.get m other
placed_other m key other at differ = after_insert m key at other
    ∙ ap (λ b. cond b (Some at) (map.get m other)) (other_order (byte_order other key) (λ e. differ (same_bytes other key e)))

-- ---- a row that is read

pub no_blob_added : (w : Width) (key value : List ℕ) (t : Tallies) → ¬ BeginsBlob key → IsAddedOn w key value t t
no_blob_added w key value t other row s = by row s.key_is
  where
    by : (row : format.Row) → key ≡ format.row_key row → t ≡ with_blob t key row
    by (format.blob sbid first slots) is = absurd (other (_, is))
    by x is = refl

pub row_added : (w : Width) (key value : List ℕ) (t new : Tallies) (found : Option read.Row)
    → MatchOption found (IsNoRow w key value) (λ row. SpellsRow w key value (format_row row value)) → WithRow key found t new → IsAddedOn w key value t new
row_added w key value t new None none is row s = absurd (none row s)
row_added w key value t new (Some r) found is row s = by r is ∙ ap (with_blob t key) (same_spelled w key value (format_row r value) row found s)
  where
    by : (r : read.Row) → WithRow key (Some r) t new → new ≡ with_blob t key (format_row r value)
    by (variants.Blob sbid first slots) is = is
    by x is = is

-- ---- one row more

-- the blob's row is before this place
pub record BlobBefore (w : Width) (es : List (List ℕ × List ℕ)) (i sbid : ℕ) : Type 0 where
  pub at : ℕ
  pub before : at < i
  pub within : at < length es
  pub first : ℕ
  pub slots : List Slot
  pub stands : RowAt w es at (blob sbid first slots)

pub no_blobs : (w : Width) (rows : Rows) (es : List (List ℕ × List ℕ)) → AreTallies w rows (BlobBefore w es 0) IsUncounted (record { places = map.empty; list = [] })
no_blobs w rows es = record {
  has = λ at within. absurd (omega (arith, within));
  places = λ at within. absurd (omega (arith, within));
  only = λ at within. absurd (omega (arith, within));
  all = λ sbid there. absurd (omega (arith, there.before));
}

module _ (s : Super) (rows : Rows) (good : NoBadRow s rows) (es : List (List ℕ × List ℕ)) (are : AreRows rows es) where
  abbrev w : Width
  w = width_of s

  module _ (i : ℕ) (x : List ℕ × List ℕ) (key value : List ℕ) (l : i < length es) (is : x ≡ get_or es i x) (k_is : key ≡ x.0) (v_is : value ≡ x.1)
      (t : Tallies) (old : AreTallies w rows (BlobBefore w es i) IsUncounted t) where
    abbrev here : format.Row
    here = (good_here s rows good es are i x key value l is k_is v_is).row

    spells : SpellsRow w key value here
    spells = spelled_here s rows good es are i x key value l is k_is v_is

    wider : (sbid : ℕ) → BlobBefore w es i sbid → BlobBefore w es (i + 1) sbid
    wider sbid b = record { at = b.at; before = omega (arith, b.before); within = b.within; first = b.first; slots = b.slots; stands = b.stands }

    before_or_here : (sbid : ℕ) → (b : BlobBefore w es (i + 1) sbid) → BlobBefore w es i sbid ⊎ (here ≡ blob sbid b.first b.slots)
    before_or_here sbid b = elim (cases_lt b.at i) [
      | inl lt ↦ inl (record { at = b.at; before = lt; within = b.within; first = b.first; slots = b.slots; stands = b.stands })
      | inr ge ↦
          let at : b.at ≡ i = omega (arith, ge, b.before) in
          let spelled = here_at s rows good es are i x key value l is k_is v_is (blob sbid b.first b.slots) (subst (λ n. RowAt w es n (blob sbid b.first b.slots)) at b.stands) in
          inr (same_spelled w key value here (blob sbid b.first b.slots) spells spelled)
    ]

    -- a row of no blob adds none
    same_blobs : ((sbid first : ℕ) (slots : List Slot) → here ≡ blob sbid first slots → ⊥) → AreTallies w rows (BlobBefore w es (i + 1)) IsUncounted t
    same_blobs none = record {
      has = old.has;
      places = old.places;
      only = λ at within. wider (get_or t.list at no_tally).sbid (old.only at within);
      all = λ sbid b. elim (before_or_here sbid b) [ inl before ↦ old.all sbid before | inr e ↦ absurd (none sbid b.first b.slots e) ];
    }

    module _ (sbid first : ℕ) (slots : List Slot) (here_is : here ≡ blob sbid first slots) where
      mine : SpellsRow w key value (blob sbid first slots)
      mine = subst (SpellsRow w key value) here_is spells

      stands : RowAt w es i (blob sbid first slots)
      stands = at_here s rows good es are i x key value l is k_is v_is (blob sbid first slots) mine

      mine_has : HasRow w rows (blob sbid first slots)
      mine_has = has_here s rows good es are i x key value l is k_is v_is (blob sbid first slots) mine

      -- it is none of those before
      fresh : (other : ℕ) → BlobBefore w es i other → other ≡ sbid → ⊥
      fresh other b same =
          let keys : (get_or es b.at x).0 ≡ (get_or es i x).0 = (b.stands x).key_is ∙ ap shared_key same ∙ sym ((stands x).key_is) in
          let tied = tied_itself nat_list_cmp_total (get_or es i x).0 in
          let itself = subst (λ z. byte_order z (get_or es i x).0 ≡ Less) keys (rising es b.at i x x are.sorted b.before l) in cc

      abbrev new : Tally
      new = new_tally sbid first slots

      abbrev next : Tallies
      next = record { places = map.insert t.places key (length t.list); list = t.list ++ new ∷ [] }

      at_end : get_or next.list (length t.list) no_tally ≡ new
      at_end = ap (λ n. get_or next.list n no_tally) (let zero : length t.list ≡ length t.list + 0 = omega arith in zero) ∙ get_or-append-add t.list (new ∷ []) 0 no_tally

      in_front : (at : ℕ) → at < length t.list → get_or next.list at no_tally ≡ get_or t.list at no_tally
      in_front at lt = get_or_append_left t.list (new ∷ []) no_tally at lt

      new_has : HasTally w rows IsUncounted new
      new_has = record { has_blob = mine_has; each = length-replicate (length slots) 0; counted = λ k lt. get_or-replicate (length slots) k 0 0 lt }

      -- what holds of those before and of the new one holds of all
      each_place : (P : ℕ → Tally → Type 0) → ((at : ℕ) → at < length t.list → P at (get_or t.list at no_tally)) → P (length t.list) new
          → (at : ℕ) → at < length next.list → P at (get_or next.list at no_tally)
      each_place P before last at within = elim (cases_lt at (length t.list)) [
        | inl lt ↦ subst (P at) (sym (in_front at lt)) (before at lt)
        | inr ge ↦
            let end : at ≡ length t.list = omega (arith, ge, within, length_push t.list new) in
            subst (λ n. P n (get_or next.list n no_tally)) (sym end) (subst (P (length t.list)) (sym at_end) last)
      ]

      with_mine : AreTallies w rows (BlobBefore w es (i + 1)) IsUncounted next
      with_mine = record {
        has = each_place (λ at x. HasTally w rows IsUncounted x) old.has new_has;
        places = each_place (λ at (x : Tally). map.get next.places (shared_key x.sbid) ≡ Some at)
            (λ at lt. placed_other t.places key (shared_key (get_or t.list at no_tally).sbid) (length t.list)
            (λ same. let b = old.only at lt in fresh (get_or t.list at no_tally).sbid b (same_blob (get_or t.list at no_tally).sbid sbid
            (b.stands x).fits.number mine.fits.number (same ∙ mine.key_is))) ∙ old.places at lt)
            (ap (λ (k : List ℕ). map.get next.places k) (sym mine.key_is) ∙ placed_same t.places key (length t.list));
        only = each_place (λ at (x : Tally). BlobBefore w es (i + 1) x.sbid) (λ at lt. wider (get_or t.list at no_tally).sbid (old.only at lt))
            (record { at = i; before = omega arith; within = l; first = first; slots = slots; stands = stands });
        all = λ other b. elim (before_or_here other b) [
          | inl before ↦ (let a = old.all other before in (a.0, (omega (arith, a.1.0, length_push t.list new), ap (λ (y : Tally). y.sbid) (in_front a.0 a.1.0) ∙ a.1.1)))
          | inr e ↦ (length t.list, (omega (arith, length_push t.list new), ap (λ (y : Tally). y.sbid) at_end ∙ sbid_of (sym here_is ∙ e)))
        ];
      }
        where
          sbid_of : {a b c d : ℕ} {xs ys : List Slot} → blob a c xs ≡ blob b d ys → a ≡ b
          sbid_of e = cc

    pub blob_step : (new : Tallies) → IsAddedOn w key value t new → AreTallies w rows (BlobBefore w es (i + 1)) IsUncounted new
    blob_step new on = subst (AreTallies w rows (BlobBefore w es (i + 1)) IsUncounted) (sym (on here spells)) (by here refl)
      where
        by : (row : format.Row) → here ≡ row → AreTallies w rows (BlobBefore w es (i + 1)) IsUncounted (with_blob t key row)
        by (format.blob sbid first slots) e = with_mine sbid first slots e
        by x e = same_blobs (λ sbid first slots f. let never = sym e ∙ f in cc)

  -- ---- all rows

  pub blob_stands : (i : ℕ) → length es ≤ i → (sbid : ℕ) → HasBlobRow w rows sbid → BlobBefore w es i sbid
  blob_stands i end sbid there =
      let found = are.stands _ _ there.2.stands in
      record {
        at = found.at;
        before = omega (arith, found.within, end);
        within = found.within;
        first = there.0;
        slots = there.1;
        stands = λ d. record {
          fits = there.2.fits;
          key_is = ap (λ (e : List ℕ × List ℕ). e.0) (found.is d);
          value_is = ap (λ (e : List ℕ × List ℕ). e.1) (found.is d);
        };
      }

  pub all_blobs : (i : ℕ) → length es ≤ i → (t : Tallies) → AreTallies w rows (BlobBefore w es i) IsUncounted t → AreUnnamed w rows t
  all_blobs i end t old = record {
    has = old.has;
    places = old.places;
    only = λ at within. (_, _, (old.has at within).has_blob);
    all = λ sbid there. old.all sbid (blob_stands i end sbid there);
  }
