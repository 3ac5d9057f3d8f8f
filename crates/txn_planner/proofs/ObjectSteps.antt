-- An object that is taken out of those that were looked at, and put back as an operation makes it.
use Rattle.std.proofs.Common.{◌≡◌, ℕ, List, ◌++◌, Option, Some, None, sym, ap, subst, ◌∙◌}
use Rattle.std.specs.Prelude.{◌||◌}
use Rattle.std.specs.List.{flat_map}
use Rattle.std.specs.FinMap as finite
use Rattle.std.specs.FinMap.{entries}
use Rattle.object_model.specs.declared.op.Op.{Op}
use Rattle.meta_rows.specs.Prelude.{Rows}
use Rattle.unit_fields.specs.Prelude.{IsName}
use Rattle.unit_fields.specs.declared.width.Width.{Width}
use Rattle.blob_map.specs.Prelude.{PageMap}
use Rattle.plan_drafts.specs.declared.draft.Draft.{Draft}
use Rattle.plan_drafts.specs.Prelude.{edit_of, drafted, units_released, slots_released, page_unit, Layout, HasLayout, object_of, or_new, edit_on, CollDraft}
use Rattle.txn_planner.specs.declared.planning.Planning.{Planning}
use Rattle.txn_planner.specs.declared.touched.Touched.{Touched}
use Rattle.txn_planner.specs.Planning.{IsStateOf}
use Rattle.txn_planner.specs.Steps.{StandsSo, EditsDraft, EditsObject, LeavesObject, DropsObject, IsTruncate, has_any}
use Rattle.txn_planner.specs.Touching.{IsTouched}

module _ (w : Width) (rows : Rows) (c o : List ℕ) (name : IsName o) (old : Planning) (t : Touched)
    (stands : (layouts : List ℕ → Option Layout) (d : CollDraft) → IsStateOf rows c layouts d old → HasLayout w rows c o (layouts o)
    → IsTouched rows c o (layouts o) (d.layout o) t) where
  abbrev out : Planning
  out = record old { objects = finite.remove old.objects o }

  stands_so : StandsSo w rows c o old t
  stands_so layouts d state have = stands layouts d state (have o name)

  module _ (op : Op) (on : o ≡ object_of op) where
    so_of_op : StandsSo w rows c (object_of op) old t
    so_of_op = subst (λ u. StandsSo w rows c u old t) on stands_so

    -- it is put back edited
    pub edited_back : (at : ℕ) (between new : Planning) (then : Touched) (draft : Draft) → between ≡ out → then ≡ record t { now = None }
        → draft ≡ or_new t.now → edit_on op t.now ≡ Some (edit_of op draft.size) → EditsDraft (page_unit w rows) op at o then draft between new
        → EditsObject w rows c op at old new
    edited_back at between new then draft same then_is draft_is edits h =
        let k : EditsDraft (page_unit w rows) op at o (record t { now = None }) (or_new t.now) out new =
        subst (λ x. EditsDraft (page_unit w rows) op at o x (or_new t.now) out new) then_is
        (subst (λ x. EditsDraft (page_unit w rows) op at o then x out new) draft_is (subst (λ b. EditsDraft (page_unit w rows) op at o then draft b new) same h)) in
        record {
          before = t;
          stands = so_of_op;
          edits = subst (λ (x : Draft). edit_on op t.now ≡ Some (edit_of op x.size)) draft_is edits;
          edited = k.edited;
          tells = k.tells;
          puts = record {
            there = k.there;
            objects = subst (λ u. new.objects ≡ finite.insert (finite.remove old.objects u) u (record t {
              now = Some (drafted (edit_of op (or_new t.now).size) old.taken (or_new t.now));
              left = t.left || has_any k.edited.left;
            })) on k.objects;
            values = k.values;
          };
          adds = record {
            writes = k.adds.writes;
            places = k.adds.places;
            left = k.adds.left;
            unshared = k.adds.unshared;
            taken = k.adds.taken;
          };
        }

    -- it is missing, and stays so
    pub missing_back : (between new : Planning) (then : Touched) → between ≡ out → then ≡ record t { now = None } → t.now ≡ None → IsTruncate op
        → new ≡ record between { objects = finite.insert between.objects o then } → LeavesObject w rows c op old new × IsTruncate op
    missing_back between new then same then_is missing truncates is = (
      record {
        before = t;
        stands = so_of_op;
        missing = missing;
        puts = record {
          there = ap (λ (p : Planning). p.there) put;
          objects = ap (λ (p : Planning). p.objects) put ∙ ap (λ u. finite.insert (finite.remove old.objects u) u t) on;
          values = ap (λ (p : Planning). p.values) put;
        };
        nothing = record {
          writes = ap (λ (p : Planning). p.writes.items) put;
          places = ap (λ (p : Planning). p.places.items) put;
          left = ap (λ (p : Planning). p.left.items) put;
          unshared = ap (λ (p : Planning). p.unshared.items) put;
          taken = ap (λ (p : Planning). p.taken) put;
        };
      },
      truncates,
    )
      where
        back : then ≡ t
        back = then_is ∙ (λ i. record t { now = sym missing i })

        put : new ≡ record out { objects = finite.insert out.objects o t }
        put = is ∙ (λ i. record (same i) { objects = finite.insert (same i).objects o (back i) })

  -- it goes
  pub dropped_back : (between put new : Planning) (then : Touched) (kept : PageMap) → between ≡ out → kept ≡ (or_new t.now).kept
      → then ≡ record t { now = None; left = t.left || has_any (entries kept) } → put ≡ record between { objects = finite.insert between.objects o then }
      → new.there ≡ put.there → new.objects ≡ put.objects → new.values ≡ put.values → new.writes.items ≡ put.writes.items
      → new.places.items ≡ put.places.items → new.taken ≡ put.taken
      → new.left.items ≡ put.left.items ++ flat_map (λ p. units_released p.1) (entries kept)
      → new.unshared.items ≡ put.unshared.items ++ flat_map (λ p. slots_released p.1) (entries kept) → DropsObject w rows c o old new
  dropped_back between put new then kept same kept_is then_is is there objects values writes places taken left unshared = record {
    before = t;
    stands = stands_so;
    puts = record {
      there = there ∙ ap (λ (p : Planning). p.there) put_is;
      objects = objects ∙ ap (λ (p : Planning). p.objects) put_is;
      values = values ∙ ap (λ (p : Planning). p.values) put_is;
    };
    writes = writes ∙ ap (λ (p : Planning). p.writes.items) put_is;
    places = places ∙ ap (λ (p : Planning). p.places.items) put_is;
    left = left ∙ ap (λ us. us ++ flat_map (λ p. units_released p.1) (entries kept)) (ap (λ (p : Planning). p.left.items) put_is)
        ∙ ap (λ m. old.left.items ++ flat_map (λ p. units_released p.1) (entries m)) kept_is;
    unshared = unshared ∙ ap (λ ss. ss ++ flat_map (λ p. slots_released p.1) (entries kept)) (ap (λ (p : Planning). p.unshared.items) put_is)
        ∙ ap (λ m. old.unshared.items ++ flat_map (λ p. slots_released p.1) (entries m)) kept_is;
    taken = taken ∙ ap (λ (p : Planning). p.taken) put_is;
  }
    where
      gone : PageMap → Touched
      gone m = record t { now = None; left = t.left || has_any (entries m) }

      put_is : put ≡ record out { objects = finite.insert out.objects o (gone (or_new t.now).kept) }
      put_is = is ∙ (λ i. record (same i) { objects = finite.insert (same i).objects o ((then_is ∙ ap gone kept_is) i) })
