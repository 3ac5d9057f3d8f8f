-- Rows after one row is put in.
use Rattle.std.proofs.Common.{◌≡◌, ◌≢◌, ◌⊎◌, inl, inr, ℕ, List, Some, sym, ap, ◌∙◌}
use Rattle.std.specs.FinMap as map
use Rattle.unit_fields.specs.declared.width.Width.{Width}
use Rattle.meta_rows.specs.Prelude.{Rows}
use Rattle.meta_log.specs.declared.slot.Super.{Super}
use Rattle.meta_log.specs.Prelude.{width_of}
use Rattle.row_format.specs.Prelude.{shared_key, Extent, Place, Row, shard, row_key, row_value, FitsRow}
use Rattle.row_format.proofs.Prelude.{same_row}
use Rattle.store_image.specs.Prelude.{HasKey, HasRow, PageUnit, IsPageAt, IsPageOn, IsInPlace, NoBadRow}
use Rattle.store_image.proofs.Prelude.{equal_or_not, stands_still}
use Rattle.row_facts.proofs.Maps.{get_same, get_other, some_after}

abbrev pub put_row : Width → Rows → Row → Rows
put_row w rows r = map.insert rows (row_key r) (row_value w r)

module _ (w : Width) (rows : Rows) (r : Row) where
  pub key_kept : (key : List ℕ) → HasKey rows key → HasKey (put_row w rows r) key
  key_kept key there = some_after rows (row_key r) (row_value w r) key there

  pub row_kept : (x : Row) → HasRow w rows x → row_key x ≢ row_key r → HasRow w (put_row w rows r) x
  row_kept x has apart = record { fits = has.fits; stands = get_other rows (row_key r) (row_value w r) (row_key x) apart ∙ has.stands }

  -- a row is the new one, or was there
  pub row_cases : FitsRow w r → (x : Row) → HasRow w (put_row w rows r) x → (x ≡ r) ⊎ (HasRow w rows x × (row_key x ≢ row_key r))
  row_cases fits x has = elim (equal_or_not (row_key x) (row_key r)) [
    | inl e ↦
        let value : Some (row_value w x) ≡ Some (row_value w r) = sym has.stands ∙ ap (λ k. map.get (put_row w rows r) k) e
        ∙ get_same rows (row_key r) (row_value w r) in
        inl (same_row w x r has.fits fits e cc)
    | inr apart ↦ inr (record { fits = has.fits; stands = sym (get_other rows (row_key r) (row_value w r) (row_key x) apart) ∙ has.stands }, apart)
  ]

  -- no row is bad after, if the new one is in its place, and those that stay are in theirs
  pub good_after : (s : Super) → FitsRow (width_of s) r → NoBadRow s rows → IsInPlace s (put_row (width_of s) rows r) r
      → ((x : Row) → HasRow (width_of s) rows x → row_key x ≢ row_key r → IsInPlace s rows x → IsInPlace s (put_row (width_of s) rows r) x)
      → NoBadRow s (put_row (width_of s) rows r)
  good_after s fits good new old key value stands = elim (equal_or_not key (row_key r)) [
    | inl e ↦
        let same : Some value ≡ Some (row_value (width_of s) r) = sym stands ∙ ap (λ k. map.get (put_row (width_of s) rows r) k) e
        ∙ get_same rows (row_key r) (row_value (width_of s) r) in
        record { row = r; fits = fits; key_is = e; value_is = cc; in_place = new }
    | inr apart ↦
        let found : map.get rows key ≡ Some value = sym (get_other rows (row_key r) (row_value (width_of s) r) key apart) ∙ stands in
        let g = good key value found in
        let has : HasRow (width_of s) rows g.row =
        record { fits = g.fits; stands = ap (λ k. map.get rows k) (sym g.key_is) ∙ found ∙ ap Some g.value_is } in
        record { row = g.row; fits = g.fits; key_is = g.key_is; value_is = g.value_is; in_place = old g.row has (λ e. apart (g.key_is ∙ e)) g.in_place }
  ]

  -- the row is no shard of the object
  abbrev pub IsApart : List ℕ → List ℕ → Type 0
  IsApart d u = (page : ℕ) (es : List Extent) → FitsRow w (shard d u page es) → row_key (shard d u page es) ≢ row_key r

  module _ (d u : List ℕ) (apart : IsApart d u) (page : ℕ) (place : Place) where
    pub page_kept : IsPageAt w rows d u page place → IsPageAt w (put_row w rows r) d u page place
    page_kept is = record {
      first = is.first;
      extents = is.extents;
      has_shard = row_kept (shard d u is.first is.extents) is.has_shard (apart is.first is.extents is.has_shard.fits);
      has_page = is.has_page;
    }

    pub page_was : IsPageAt w (put_row w rows r) d u page place → IsPageAt w rows d u page place
    page_was is = record {
      first = is.first;
      extents = is.extents;
      has_shard = record {
        fits = is.has_shard.fits;
        stands = sym (get_other rows (row_key r) (row_value w r) _ (apart is.first is.extents is.has_shard.fits)) ∙ is.has_shard.stands;
      };
      has_page = is.has_page;
    }

  -- nor a shared blob
  abbrev pub IsNoBlob : Type 0
  IsNoBlob = (sbid : ℕ) → shared_key sbid ≢ row_key r

  module _ (d u : List ℕ) (apart : IsApart d u) (no_blob : IsNoBlob) (page : ℕ) (on : PageUnit) where
    blobs_kept : (sbid : ℕ) → map.get (put_row w rows r) (shared_key sbid) ≡ map.get rows (shared_key sbid)
    blobs_kept sbid = get_other rows (row_key r) (row_value w r) (shared_key sbid) (no_blob sbid)

    pub on_kept : IsPageOn w rows d u page on → IsPageOn w (put_row w rows r) d u page on
    on_kept is = record {
      place = is.place;
      at = page_kept d u apart page is.place is.at;
      stands =
          stands_still w rows (put_row w rows r) is.place on blobs_kept is.stands;
    }

    pub on_was : IsPageOn w (put_row w rows r) d u page on → IsPageOn w rows d u page on
    on_was is = record {
      place = is.place;
      at = page_was d u apart page is.place is.at;
      stands =
          stands_still w (put_row w rows r) rows is.place on (λ sbid. sym (blobs_kept sbid)) is.stands;
    }
