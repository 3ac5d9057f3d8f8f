-- What one operation adds to the takings, the places and the writes.
use Rattle.std.proofs.Common.{◌≡◌, ℕ, ◌+◌, ◌<◌, List, [], ◌∷◌, ◌++◌, length, Option, Some, None, refl, sym, ap, subst, ◌∙◌, arith}
use Rattle.std.specs.List.{AllByRecursion}
use Rattle.std.specs.Option.{option_map_or}
use Rattle.std.specs.Ordering.{nat_cmp}
use Rattle.std.specs.FinMap as finite
use Rattle.object_model.specs.declared.op.Op.{Op}
use Rattle.unit_fields.specs.Prelude.{IsName}
use Rattle.plan_drafts.specs.declared.draft.Draft.{Draft}
use Rattle.plan_rows.specs.declared.plan.ReadUnit.{ReadUnit}
use Rattle.plan_drafts.specs.Prelude.{Edit, edit_of, pages_taking, places_read, Held, writes_of, with_writes, object_of, or_new, edit_on, units_on, places_on, CollDraft, held_after}
use Rattle.page_edits.specs.declared.edits.Edited.{Edited}
use Rattle.page_edits.specs.declared.writes.PageWrite.{PageWrite}
use Rattle.page_edits.specs.Takings.{IsNumbered, PutsWholePages}
use Rattle.page_edits.specs.Writes.{op_at, after_writes, CanBeMade}
use Rattle.page_edits.proofs.UnitContents.{operation_made}
use Rattle.plan_proofs.proofs.DraftBytes.{AllWhole}
use Rattle.txn_planner.specs.declared.planning.Planning.{Planning}
use Rattle.txn_planner.specs.Steps.{TellsEdit, AddsEdit}

-- The operation takes the next units, and its places and writes come behind those before it.
pub record Adds (ops : List Op) (op : Op) (d : CollDraft) (old new : Planning) : Type 0 where
  pub taken : new.taken ≡ old.taken + units_on op d
  pub places : new.places.items ≡ old.places.items ++ places_on op d
  pub writes : List PageWrite
  pub are : new.writes.items ≡ old.writes.items ++ writes
  pub made : (read : List ReadUnit) (held : Held) → AllWhole held d → after_writes ops read writes held ≡ held_after read op d held
  pub can : AllByRecursion (CanBeMade ops new.taken) writes

pub append_none : {X : Type 0} (xs : List X) → xs ≡ xs ++ []
append_none [] = refl
append_none (x ∷ xs) = ap (λ l. x ∷ l) (append_none xs)

-- ---- nothing

pub record IsIdle (op : Op) (d : CollDraft) : Type 0 where
  pub units : units_on op d ≡ 0
  pub places : places_on op d ≡ []
  pub writes : (read : List ReadUnit) (held : Held) → held_after read op d held ≡ held

-- an operation that isn't about bytes, or not about those of this object
pub idle_by : (op : Op) (d : CollDraft) → edit_on op (d.layout (object_of op)) ≡ None → IsIdle op d
idle_by op d none = record {
  units = ap (λ (e : Option Edit). option_map_or (λ e. length (pages_taking e (or_new (d.layout (object_of op))))) e 0) none;
  places = ap (λ (e : Option Edit). option_map_or (λ e. places_read d.on e (or_new (d.layout (object_of op)))) e []) none;
  writes = λ read held.
      ap (λ (e : Option Edit). with_writes (option_map_or (λ e. writes_of d.on e read held d.taken (or_new (d.layout (object_of op)))) e []) held) none;
}

pub nothing_added : (ops : List Op) (op : Op) (d : CollDraft) (old new : Planning) → IsIdle op d → new.writes.items ≡ old.writes.items
    → new.places.items ≡ old.places.items → new.taken ≡ old.taken → Adds ops op d old new
nothing_added ops op d old new idle writes places taken = record {
  taken = omega (arith, taken, idle.units);
  places = places ∙ append_none old.places.items ∙ ap (λ l. old.places.items ++ l) (sym idle.places);
  writes = [];
  are = writes ∙ append_none old.writes.items;
  made = λ read held whole. sym (idle.writes read held);
  can = tt;
}

-- ---- an edit

-- the pages of an object that may be missing are to hold whole bytes
whole_of : (held : Held) (d : CollDraft) (o : List ℕ) → IsName o → AllWhole held d → (x : Option Draft) → d.layout o ≡ x → PutsWholePages held (or_new x)
whole_of held d o name all None is page taking put = absurd (let t = sym (finite.get-empty nat_cmp page) ∙ put in cc)
whole_of held d o name all (Some x) is page taking put = all o x name is page taking put

module _ (ops : List Op) (op : Op) (at : ℕ) (d : CollDraft) (lt : at < length ops) (op_is : op_at ops at ≡ op) (name : IsName (object_of op))
    (num : IsNumbered d.taken (or_new (d.layout (object_of op)))) where
  abbrev x : Option Draft
  x = d.layout (object_of op)

  abbrev e : Edit
  e = edit_of op (or_new x).size

  pub edit_added : (old new : Planning) (edited : Edited) → edit_on op x ≡ Some e → TellsEdit d.on op at d.taken (or_new x) edited → old.taken ≡ d.taken
      → AddsEdit edited old new → Adds ops op d old new
  edit_added old new edited edits tells same adds = record {
    taken = omega (
      arith,
      adds.taken,
      tells.taken,
      same,
      ap (λ (e : Option Edit). option_map_or (λ e. length (pages_taking e (or_new x))) e 0) edits,
    );
    places = adds.places ∙ ap (λ l. old.places.items ++ l)
        (tells.places ∙ sym (ap (λ (e : Option Edit). option_map_or (λ e. places_read d.on e (or_new x)) e []) edits));
    writes = edited.writes;
    are = adds.writes;
    made = λ read held whole.
        operation_made d.on ops at op read held d.taken (or_new x) edited.writes op_is tells.of num
        (tells.writes read held (whole_of held d (object_of op) name whole x refl))
        ∙ sym (ap (λ (e : Option Edit). with_writes (option_map_or (λ e. writes_of d.on e read held d.taken (or_new x)) e []) held) edits);
    can = subst (λ n. AllByRecursion (CanBeMade ops n) edited.writes) (sym adds.taken) (tells.can ops lt op_is num);
  }
