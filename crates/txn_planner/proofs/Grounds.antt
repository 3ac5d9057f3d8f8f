-- What operations that are taken lead to, from the collection as good rows say it.
use Rattle.std.proofs.Common.{◌≡◌, ℕ, List, length, Option, Some, None, refl, sym, ap, subst, ◌∙◌}
use Rattle.std.specs.List.{AllByRecursion}
use Rattle.std.specs.Option.{option_map}
use Rattle.std.specs.Ordering.{nat_cmp}
use Rattle.std.specs.FinMap as finite
use Rattle.object_model.specs.declared.op.Op.{Op}
use Rattle.object_model.specs.Prelude.{Change}
use Rattle.meta_rows.specs.Prelude.{Rows}
use Rattle.meta_log.specs.declared.slot.Super.{Super}
use Rattle.meta_log.specs.Prelude.{width_of}
use Rattle.unit_fields.specs.Prelude.{IsName}
use Rattle.unit_fields.specs.declared.width.Width.{Width}
use Rattle.row_format.specs.Prelude.{Place}
use Rattle.store_image.specs.Prelude.{StandsOn}
use Rattle.store_image.proofs.Prelude.{one_place, some_unit}
use Rattle.plan_rows.specs.declared.plan.ReadUnit.{ReadUnit}
use Rattle.plan_rows.proofs.PlaceUnits.{unit_is}
use Rattle.plan_drafts.specs.declared.draft.Draft.{Draft}
use Rattle.plan_drafts.specs.Prelude.{Layout, HasLayout, CollDraft, with_ops, held_by, none_held, AreTaken, Begins, draft_of, or_empty, page_unit}
use Rattle.object_rows.specs.Stores.{AreRowsOfWidth}
use Rattle.plan_proofs.proofs.DraftBytes.{AllWhole, all_whole}
use Rattle.plan_proofs.proofs.DraftOwners.{layout_pages}
use Rattle.plan_proofs.proofs.DraftStart.{reached_first}
use Rattle.plan_proofs.proofs.EditFacts.{the_edit_laws, the_length_law, the_byte_laws}
use Rattle.plan_proofs.proofs.Reached.{IsReached, reached}
use Rattle.txn_planner.specs.Planning.{first_draft, IsGround}

module _ (w : Width) (rows : Rows) (good : AreRowsOfWidth w rows) (change : Change) (layouts : List ℕ → Option Layout)
    (ground : IsGround w change rows layouts) where
  abbrev first : CollDraft
  first = first_draft w rows change.coll layouts

  -- a page stands on the unit that the rows say
  place_stands : (o : List ℕ) (page : ℕ) (place : Place) → IsName o → finite.get (or_empty (layouts o)).pages page ≡ Some place
      → StandsOn w rows place (page_unit w rows place)
  place_stands o page place name is =
      let s : Super = good.store.sup in
      let layout : HasLayout (width_of good.store.sup) rows change.coll o (layouts o) =
      subst (λ u. HasLayout u rows change.coll o (layouts o)) (sym good.wide) (ground.has o name) in
      let at = (layout_pages s rows change.coll o (layouts o) good.store.good layout page place).0 is in
      let found = some_unit s rows good.store.good change.coll o page place at in
      let same = one_place s rows good.store.good change.coll o page found.1.place place found.1.at at in
      let stands : StandsOn w rows place found.0 =
      subst (λ u. StandsOn u rows place found.0) good.wide (subst (λ p. StandsOn (width_of good.store.sup) rows p found.0) same found.1.stands) in
      subst (StandsOn w rows place) (sym (unit_is w rows place found.0 stands)) stands

  pub begins : (v : Width) → v ≡ w → Begins v rows change.coll layouts first
  begins v same = record {
    there = refl;
    has = λ o name. subst (λ u. HasLayout u rows change.coll o (layouts o)) (sym same) (ground.has o name);
    drafts = λ o name. refl;
    values = λ o k name named. refl;
    none_taken = refl;
    none_left = refl;
    stand = λ o page place name is. subst (λ u. StandsOn u rows place (page_unit w rows place)) (sym same) (place_stands o page place name is);
  }

  first_reached : IsReached layouts first
  first_reached = reached_first good.store.sup rows good.store.good change.coll ground.coll layouts first (begins (width_of good.store.sup) good.wide)

  pub reached_by : (ops : List Op) → AreTaken ops first → IsReached layouts (with_ops ops first)
  reached_by ops taken = reached the_edit_laws layouts ops first taken first_reached

  none_put : AllWhole none_held first
  none_put o x name is page taking put = by (layouts o) is
    where
      by : (l : Option Layout) → option_map draft_of l ≡ Some x → length (none_held taking) ≡ 4096
      by None none = absurd cc
      by (Some l) some =
          let e : draft_of l ≡ x = cc in
          absurd (let t = sym (finite.get-empty nat_cmp page) ∙ ap (λ (z : Draft). finite.get z.puts page) e ∙ put in cc)

  pub whole_by : (ops : List Op) → AreTaken ops first → (read : List ReadUnit) → AllByRecursion (λ r. length r.bytes ≡ 4096) read
      → AllWhole (held_by read ops first none_held) (with_ops ops first)
  whole_by ops taken read whole =
      all_whole the_edit_laws the_length_law the_byte_laws layouts ops first taken first_reached read none_held whole none_put
