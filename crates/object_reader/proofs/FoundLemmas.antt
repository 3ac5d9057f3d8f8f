-- Pages of an object, found on units.
use Rattle.std.proofs.Common.{◌≡◌, ℕ, List, Option, Some, None, unwrap_or, refl, sym, ap, subst, ◌∙◌}
use Rattle.std.specs.Option.{option_map}
use Rattle.unit_fields.specs.declared.width.Width.{Width}
use Rattle.meta_rows.specs.Prelude.{Rows}
use Rattle.row_format.specs.Prelude.{Extent, Place}
use Rattle.store_image.specs.Prelude.{IsPageAt, StandsOn, IsPageOn}
use Rattle.store_image.proofs.Prelude.{some_unit}
use Rattle.plan_rows.specs.Prelude.{page_unit}
use Rattle.plan_rows.specs.Stores.{AreRowsOfWidth}
use Rattle.plan_rows.proofs.PlaceUnits.{unit_is}
use Rattle.page_lookup.specs.Prelude.{place_found, FindPagesOf}
use Rattle.page_sources.specs.Prelude.{unit_found, FindUnitsOf}

module _ (w : Width) (rows : Rows) (c o : List ℕ) (extents : List Extent) (store : AreRowsOfWidth w rows) (find : FindPagesOf w rows c o extents) where
  -- over good rows a page's place stands on the unit that is looked up for it
  stands_there : (page : ℕ) (place : Place) → place_found extents page ≡ Some place → StandsOn w rows place (page_unit w rows place)
  stands_there page place there =
      let at = subst (λ v. IsPageAt v rows c o page place) (sym store.wide) ((find page place).0 there) in
      let some = some_unit store.store.sup rows store.store.good c o page place at in
      let is : IsPageOn w rows c o page some.0 = subst (λ v. IsPageOn v rows c o page some.0) store.wide some.1 in
      let same : is.place ≡ place = ap (λ x. unwrap_or x place) (sym ((find page is.place).1 is.at) ∙ there) in
      let stands : StandsOn w rows place some.0 = subst (λ p. StandsOn w rows p some.0) same is.stands in
      subst (StandsOn w rows place) (sym (unit_is w rows place some.0 stands)) stands

  -- so pages that are found in their places are found on their units
  pub units_found : FindUnitsOf w rows c o (record { width = w; rows = rows; extents = extents })
  units_found page on = (by (place_found extents page) refl, back)
    where
      by : (x : Option Place) → place_found extents page ≡ x → option_map (page_unit w rows) x ≡ Some on → IsPageOn w rows c o page on
      by None there is = absurd cc
      by (Some place) there is = record {
        place = place;
        at = (find page place).0 there;
        stands = subst (StandsOn w rows place) (ap (λ x. unwrap_or x on) is) (stands_there page place there);
      }

      back : IsPageOn w rows c o page on → unit_found (record { width = w; rows = rows; extents = extents }) page ≡ Some on
      back is = ap (option_map (page_unit w rows)) ((find page is.place).1 is.at) ∙ ap (λ x. Some x) (unit_is w rows is.place on is.stands)
