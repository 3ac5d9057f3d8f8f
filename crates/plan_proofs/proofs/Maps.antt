-- The extents of a layout whose pages are good can replace an object's.
use Rattle.std.proofs.Common.{◌≡◌, ℕ, ◌≤◌, ◌^◌, Option, Some, None, refl, sym, subst, arith}
use Rattle.std.specs.Prelude.{unwrap_or}
use Rattle.std.specs.List.{AllByRecursion}
use Rattle.std.specs.FinMap as finite
use Rattle.meta_log.specs.declared.slot.Super.{Super}
use Rattle.meta_log.specs.Prelude.{width_of, data_unit}
use Rattle.object_model.specs.Prelude.{object_limit}
use Rattle.row_format.specs.Prelude.{Body, private, shared, page_end, Place, place_of, FitsExtent, ExtentsAscend}
use Rattle.store_image.specs.Prelude.{pages_of, IsOnData}
use Rattle.blob_map.specs.Prelude.{FitsPlace, IsBodyWithin}
use Rattle.blob_map.proofs.Forms.{extents_places, extents_ascend, extents_fits, extents_within, extents_on}
use Rattle.plan_drafts.specs.Prelude.{Layout, or_empty, size_at, extents_at}
use Rattle.object_rows.proofs.GoodPages.{all_map, IsGoodPage}

-- bodies of which all units of the object's own are data units are on data
on_data_body : (s : Super) (body : Body) → IsBodyWithin (data_unit s) s.units body → IsOnData s body
on_data_body s (private unit csums) within = within
on_data_body s (shared sbid first count) within = tt

-- an object that is missing has no bytes
pub size_is : (y : Option Layout) → unwrap_or (size_at y) 0 ≡ (or_empty y).size
size_is None = refl
size_is (Some x) = refl

pub places_at : (y : Option Layout) (page : ℕ) → place_of (extents_at y) page ≡ finite.get (or_empty y).pages page
places_at y page = extents_places (or_empty y).pages page

module _ (s : Super) (y : Option Layout) (most : (or_empty y).size ≤ object_limit)
    (good : (page : ℕ) (place : Place) → finite.get (or_empty y).pages page ≡ Some place → IsGoodPage s (or_empty y).size page place)
    (fits : (page : ℕ) (place : Place) → finite.get (or_empty y).pages page ≡ Some place → FitsPlace (width_of s) place) where
  pages_few : pages_of (or_empty y).size ≤ 2 ^ 32
  pages_few = omega (arith, most)

  pub layout_most : unwrap_or (size_at y) 0 ≤ object_limit
  layout_most = subst (λ n. n ≤ object_limit) (sym (size_is y)) most

  pub layout_fit : AllByRecursion (FitsExtent (width_of s)) (extents_at y)
  layout_fit = extents_fits (or_empty y).pages (width_of s) (λ page place is.
      record { page = omega (arith, (good page place is).within, pages_few); place = fits page place is })

  pub layout_ascend : ExtentsAscend (extents_at y)
  layout_ascend = extents_ascend (or_empty y).pages

  pub layout_within : AllByRecursion (λ e. page_end e ≤ pages_of (unwrap_or (size_at y) 0)) (extents_at y)
  layout_within = subst (λ n. AllByRecursion (λ e. page_end e ≤ pages_of n) (extents_at y)) (sym (size_is y))
      (extents_within (or_empty y).pages (pages_of (or_empty y).size) (λ page place is. (good page place is).within))

  pub layout_on_data : AllByRecursion (λ e. IsOnData s e.body) (extents_at y)
  layout_on_data = all_map (λ e. IsBodyWithin (data_unit s) s.units e.body) (λ e. IsOnData s e.body) (λ e within. on_data_body s e.body within)
      (extents_at y) (extents_on (or_empty y).pages (data_unit s) s.units (λ page place is. (good page place is).on_data))
