-- Whatever an operation makes of its object, the state keeps up with the draft.
use Rattle.std.proofs.Common.{◌≡◌, inl, inr, ℕ, ◌<◌, Bool, true, false, List, [], ◌∷◌, ◌++◌, length, Option, Some, None, is_some, refl, sym, ap, subst, ◌∙◌}
use Rattle.std.specs.Prelude.{◌||◌}
use Rattle.std.specs.List.{flat_map}
use Rattle.std.specs.Ordering.{nat_cmp}
use Rattle.std.specs.Option.{option_map_or}
use Rattle.std.specs.FinMap as finite
use Rattle.std.specs.FinMap.{entries}
use Rattle.std.specs.FinMap.Entries.{where_key}
use Rattle.object_model.specs.declared.op.Op.{Op}
use Rattle.object_model.specs.declared.op.Op.TheVariants.{MkColl, RmColl, Touch, Write, Zero, Truncate, Remove, Clone, CloneRange}
use Rattle.meta_rows.specs.Prelude.{Rows}
use Rattle.unit_fields.specs.Prelude.{IsName}
use Rattle.unit_fields.specs.declared.width.Width.{Width}
use Rattle.row_format.specs.Prelude.{Place}
use Rattle.store_image.specs.Prelude.{PageUnit}
use Rattle.number_map.proofs.Laws.{same}
use Rattle.plan_drafts.specs.declared.draft.Draft.{Draft}
use Rattle.plan_drafts.specs.Prelude.{Edit, edit_of, is_touched, drafted, units_released, slots_released, page_unit, Layout, or_new, object_of, edit_on, pages_left, draft_after, CollDraft, with_op, IsOnObject, IsTaken}
use Rattle.page_edits.specs.Takings.{IsNumbered}
use Rattle.page_edits.specs.Writes.{op_at}
use Rattle.page_edits.proofs.DraftedPages.{kept_touched, kept_same, uncleared_same}
use Rattle.plan_proofs.proofs.EditFacts.{the_edit_laws}
use Rattle.plan_proofs.proofs.Reached.{IsReached, IsObjectReached, x_reached, alone, what_becomes}
use Rattle.txn_planner.specs.declared.planning.Planning.{Planning}
use Rattle.txn_planner.specs.Planning.{IsStateOf}
use Rattle.txn_planner.specs.Steps.{HaveLayouts, TellsEdit, EditsObject, LeavesObject, DropsObject, ChangesObject, has_any}
use Rattle.txn_planner.specs.Touching.{IsTouched}
use Rattle.txn_planner.proofs.Added.{Adds, append_none, IsIdle, idle_by, nothing_added, edit_added}
use Rattle.txn_planner.proofs.Moves.{AreStanding, standing_of, Moves, moved, stayed}
use Rattle.txn_planner.proofs.NextState.{IsCut, were, where_all}

-- what stands then, and what is added; whether the collection is there doesn't change
pub record Carries (rows : Rows) (c : List ℕ) (layouts : List ℕ → Option Layout) (ops : List Op) (op : Op) (d : CollDraft) (old new : Planning)
    : Type 0 where
  pub stand : AreStanding rows c layouts (with_op op d) new
  pub adds : Adds ops op d old new
  pub there : new.there ≡ old.there

-- ---- small things

or_false : (b : Bool) → (b || false) ≡ b
or_false true = refl
or_false false = refl

where_none : (es : List (ℕ × Place)) → where_key nat_cmp (λ page. false) es ≡ []
where_none [] = refl
where_none (e ∷ es) = where_none es

-- the pages that an edit touches leave their places
left_by : (op : Op) (x : Option Draft) (e : Edit) → edit_on op x ≡ Some e
    → pages_left op x ≡ where_key nat_cmp (is_touched e) (entries (or_new x).kept)
left_by (Remove o) x e is = absurd cc
left_by op x e is = ap (λ z. option_map_or (λ e. where_key nat_cmp (is_touched e) (entries (or_new x).kept)) z []) is

-- a touch leaves an object as it is that is there
touch_same : (o : List ℕ) (n : ℕ) (x : Option Draft) → is_some x ≡ true → Some (drafted (edit_of (Touch o) (or_new x).size) n (or_new x)) ≡ x
touch_same o n None some = absurd cc
touch_same o n (Some y) some = λ i. Some (record { size = y.size; kept = kept i; puts = puts i })
  where
    e : Edit
    e = edit_of (Touch o) y.size

    kept : (drafted e n y).kept ≡ y.kept
    kept = same (drafted e n y).kept y.kept (λ page. kept_same e y n page refl)

    puts : (drafted e n y).puts ≡ y.puts
    puts = same (drafted e n y).puts y.puts (λ page. uncleared_same e y page refl)

module _ (w : Width) (rows : Rows) (c : List ℕ) (layouts : List ℕ → Option Layout) (have : HaveLayouts w rows c layouts) (ops : List Op) (op : Op) (at : ℕ)
    (d : CollDraft) (on : d.on ≡ page_unit w rows) (lt : at < length ops) (op_is : op_at ops at ≡ op) (name : IsName (object_of op)) (taken : IsTaken d op) (r : IsReached layouts d)
    (old new : Planning) (was : IsStateOf rows c layouts d old) where
  abbrev o : List ℕ
  o = object_of op

  abbrev x : Option Draft
  x = d.layout o

  reached_x : IsObjectReached (layouts o) d.taken (or_new x)
  reached_x = x_reached the_edit_laws layouts op d taken r name

  num : IsNumbered d.taken (or_new x)
  num = record { below = reached_x.below; alone = alone the_edit_laws layouts op d taken r name }

  by_move : Moves rows c layouts op d old new → AreStanding rows c layouts (with_op op d) new
  by_move m = moved w rows c layouts op d old new reached_x.kept m (standing_of rows c layouts d old was)

  -- nothing of the state changes
  pub unchanged : new ≡ old → draft_after op d ≡ x → pages_left op x ≡ [] → IsIdle op d → Carries rows c layouts ops op d old new
  unchanged is made leave idle = record {
    stand = stayed rows c layouts op d old new (record {
      made = made;
      leave = leave;
      objects = ap (λ (p : Planning). p.objects) is;
      left = ap (λ (p : Planning). p.left.items) is;
      unshared = ap (λ (p : Planning). p.unshared.items) is;
    }) (standing_of rows c layouts d old was);
    adds = nothing_added ops op d old new idle (ap (λ (p : Planning). p.writes.items) is) (ap (λ (p : Planning). p.places.items) is)
        (ap (λ (p : Planning). p.taken) is);
    there = ap (λ (p : Planning). p.there) is;
  }

  -- the object is edited
  module _ (h : EditsObject w rows c op at old new) where
    abbrev e : Edit
    e = edit_of op (or_new x).size

    is : IsTouched rows c o (layouts o) x h.before
    is = h.stands layouts d was have

    edits : edit_on op x ≡ Some e
    edits = subst (λ z. edit_on op z ≡ Some (edit_of op (or_new z).size)) is.now_is h.edits

    tells : TellsEdit d.on op at d.taken (or_new x) h.edited
    tells = subst (λ n. TellsEdit d.on op at n (or_new x) h.edited) was.taken
        (subst (λ z. TellsEdit d.on op at old.taken (or_new z) h.edited) is.now_is
        (subst (λ (u : Place → PageUnit). TellsEdit u op at old.taken (or_new h.before.now) h.edited) (sym on) h.tells))

    made : draft_after op d ≡ Some (drafted e d.taken (or_new x))
    made = elim (what_becomes op d) [
      | inl goes ↦ absurd (let t = sym goes.edit ∙ edits in cc)
      | inr other ↦ elim other [ inl keeps ↦ absurd (let t = sym keeps.edit ∙ edits in cc) | inr has ↦ has.made ]
    ]

    put_now : Some (drafted (edit_of op (or_new h.before.now).size) old.taken (or_new h.before.now)) ≡ draft_after op d
    put_now = ap (λ z. Some (drafted (edit_of op (or_new z).size) old.taken (or_new z))) is.now_is
        ∙ ap (λ n. Some (drafted e n (or_new x))) was.taken ∙ sym made

    cut : IsCut x (draft_after op d) (is_touched e)
    cut = record {
      none = λ page all. ap (λ z. finite.get (or_new z).kept page) made ∙ kept_touched e (or_new x) d.taken page all;
      same = λ page none. ap (λ z. finite.get (or_new z).kept page) made ∙ kept_same e (or_new x) d.taken page none;
    }

    pub edited : Carries rows c layouts ops op d old new
    edited = record {
      stand = by_move (record {
        before = h.before;
        is = is;
        test = is_touched e;
        cut = cut;
        leave = left_by op x e edits;
        objects = h.puts.objects ∙ ap (λ t. finite.insert (finite.remove old.objects o) o t)
            (λ i. record h.before { now = put_now i; left = h.before.left || has_any (tells.left i) });
        left = h.adds.left ∙ ap (λ es. old.left.items ++ flat_map (λ p. units_released p.1) es) tells.left;
        unshared = h.adds.unshared ∙ ap (λ es. old.unshared.items ++ flat_map (λ p. slots_released p.1) es) tells.left;
      });
      adds = edit_added ops op at d lt op_is name num old new h.edited edits tells was.taken h.adds;
      there = h.puts.there;
    }

  -- it is missing, and stays so
  module _ (made : draft_after op d ≡ x) (leave : pages_left op x ≡ []) (idle : IsIdle op d) (h : LeavesObject w rows c op old new) where
    abbrev none_pass : ℕ → Bool
    none_pass page = false

    missing_is : IsTouched rows c o (layouts o) x h.before
    missing_is = h.stands layouts d was have

    no_page : were x none_pass ≡ []
    no_page = where_none (entries (or_new x).kept)

    left_is : h.before.left ≡ (h.before.left || has_any (were x none_pass))
    left_is = sym (or_false h.before.left) ∙ ap (λ es. h.before.left || has_any es) (sym no_page)

    pub left_missing : Carries rows c layouts ops op d old new
    left_missing = record {
      stand = by_move (record {
        before = h.before;
        is = missing_is;
        test = none_pass;
        cut = record { none = λ page never. absurd cc; same = λ page none. ap (λ z. finite.get (or_new z).kept page) made };
        leave = leave ∙ sym no_page;
        objects = h.puts.objects ∙ ap (λ t. finite.insert (finite.remove old.objects o) o t)
            (λ i. record h.before { now = (missing_is.now_is ∙ sym made) i; left = left_is i });
        left = h.nothing.left ∙ append_none old.left.items ∙ ap (λ es. old.left.items ++ flat_map (λ p. units_released p.1) es) (sym no_page);
        unshared = h.nothing.unshared ∙ append_none old.unshared.items
            ∙ ap (λ es. old.unshared.items ++ flat_map (λ p. slots_released p.1) es) (sym no_page);
      });
      adds = nothing_added ops op d old new idle h.nothing.writes h.nothing.places h.nothing.taken;
      there = h.puts.there;
    }

  -- it goes
  pub dropped : draft_after op d ≡ None → pages_left op x ≡ entries (or_new x).kept → IsIdle op d → DropsObject w rows c o old new
      → Carries rows c layouts ops op d old new
  dropped made leave idle h = record {
    stand = by_move (record {
      before = h.before;
      is = is;
      test = λ page. true;
      cut = record { none = λ page all. ap (λ z. finite.get (or_new z).kept page) made ∙ finite.get-empty nat_cmp page; same = λ page never. absurd cc };
      leave = leave ∙ sym (where_all (entries (or_new x).kept));
      objects = h.puts.objects ∙ ap (λ t. finite.insert (finite.remove old.objects o) o t) (λ i. record h.before { now = sym made i; left = h.before.left || has_any (all i) });
      left = h.left ∙ ap (λ es. old.left.items ++ flat_map (λ p. units_released p.1) es) all;
      unshared = h.unshared ∙ ap (λ es. old.unshared.items ++ flat_map (λ p. slots_released p.1) es) all;
    });
    adds = nothing_added ops op d old new idle h.writes h.places h.taken;
    there = h.puts.there;
  }
    where
      is : IsTouched rows c o (layouts o) x h.before
      is = h.stands layouts d was have

      all : entries (or_new h.before.now).kept ≡ were x (λ page. true)
      all = ap (λ z. entries (or_new z).kept) is.now_is ∙ sym (where_all (entries (or_new x).kept))

-- ---- each operation on an object

module _ (w : Width) (rows : Rows) (c : List ℕ) (layouts : List ℕ → Option Layout) (have : HaveLayouts w rows c layouts) (ops : List Op) (at : ℕ)
    (d : CollDraft) (on_is : d.on ≡ page_unit w rows) (lt : at < length ops) (r : IsReached layouts d) (old new : Planning) (was : IsStateOf rows c layouts d old) where
  idle_touch : (u : List ℕ) → IsIdle (Touch u) d
  idle_touch u = record { units = refl; places = refl; writes = λ read held. refl }

  pub carried : (op : Op) → op_at ops at ≡ op → IsName (object_of op) → IsTaken d op → IsOnObject op → ChangesObject w rows c op at old new
      → Carries rows c layouts ops op d old new
  carried MkColl of name taken on ch = absurd on
  carried RmColl of name taken on ch = absurd on
  carried (Clone u to) of name taken on ch = absurd on
  carried (CloneRange u to src len dst) of name taken on ch = absurd on
  carried (Touch u) of name taken on (inl k) =
      unchanged w rows c layouts have ops (Touch u) at d on_is lt of name taken r old new was k.same
      (touch_same u d.taken (d.layout u) (k.there w layouts d was have)) (where_none (entries (or_new (d.layout u)).kept)) (idle_touch u)
  carried (Touch u) of name taken on (inr h) = edited w rows c layouts have ops (Touch u) at d on_is lt of name taken r old new was h
  carried (Write u off bytes) of name taken on h = edited w rows c layouts have ops (Write u off bytes) at d on_is lt of name taken r old new was h
  carried (Zero u off len) of name taken on h = edited w rows c layouts have ops (Zero u off len) at d on_is lt of name taken r old new was h
  carried (Truncate u to) of name taken on (inl h) = edited w rows c layouts have ops (Truncate u to) at d on_is lt of name taken r old new was h
  carried (Truncate u to) of name taken on (inr h) =
      let none : d.layout u ≡ None = sym (h.stands layouts d was have).now_is ∙ h.missing in
      left_missing w rows c layouts have ops (Truncate u to) at d on_is lt of name taken r old new was
      (ap (λ z. option_map_or (λ e. Some (drafted e d.taken (or_new z))) (edit_on (Truncate u to) z) z) none ∙ sym none) (ap (pages_left (Truncate u to)) none)
      (idle_by (Truncate u to) d (ap (λ z. edit_on (Truncate u to) z) none)) h
  carried (Remove u) of name taken on h =
      dropped w rows c layouts have ops (Remove u) at d on_is lt of name taken r old new was refl refl (idle_by (Remove u) d refl) h
  carried op of name taken on same =
      unchanged w rows c layouts have ops op at d on_is lt of name taken r old new was same refl refl (idle_by op d refl)
