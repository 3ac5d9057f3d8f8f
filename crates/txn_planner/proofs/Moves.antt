-- What one operation makes of the objects that were looked at is what it makes of the draft.
use Rattle.std.proofs.Common.{◌≡◌, ◌≢◌, ◌↔◌, inl, inr, ℕ, ◌+◌, Bool, true, false, List, [], ◌++◌, Contains, Option, Some, None, refl, sym, ap, subst, ◌∙◌, arith}
use Rattle.std.specs.Prelude.{◌||◌}
use Rattle.std.specs.List.{flat_map}
use Rattle.std.specs.Option.{option_map}
use Rattle.std.specs.FinMap as finite
use Rattle.std.proofs.Math.Path.{fun_ext}
use Rattle.object_model.specs.declared.op.Op.{Op}
use Rattle.object_model.specs.declared.op.Op.TheVariants.{MkColl, RmColl}
use Rattle.meta_rows.specs.Prelude.{Rows}
use Rattle.unit_fields.specs.Prelude.{IsName}
use Rattle.unit_fields.specs.declared.width.Width.{Width}
use Rattle.row_format.specs.Prelude.{Place}
use Rattle.store_image.proofs.Prelude.{equal_or_not}
use Rattle.row_facts.proofs.Maps.{get_same, get_other}
use Rattle.plan_drafts.specs.declared.draft.Draft.{Draft}
use Rattle.plan_drafts.specs.Prelude.{IsOnObject, units_released, slots_released, Layout, or_empty, or_new, object_of, CollDraft, pages_left, object_before, draft_after, units_on, slots_on, with_op, draft_of, Leaves, ValueKey, value_key, value_after, there_after, at_name, values_on}
use Rattle.plan_proofs.proofs.Effects.{get_apart}
use Rattle.plan_proofs.proofs.Names.{at_here, at_other}
use Rattle.row_changes.specs.Prelude.{value_seen}
use Rattle.value_changes.specs.Changed.{ChangesValues}
use Rattle.txn_planner.specs.declared.planning.Planning.{Planning}
use Rattle.txn_planner.specs.declared.touched.Touched.{Touched}
use Rattle.txn_planner.specs.Planning.{IsStateOf}
use Rattle.txn_planner.specs.Steps.{has_any}
use Rattle.txn_planner.specs.Touching.{IsTouched}
use Rattle.txn_planner.proofs.Added.{append_none}
use Rattle.txn_planner.proofs.NextState.{IsCut, were, cut_touched, left_then}

-- Each object that was looked at is known as the draft has it, all others are as they were, and the units and the slots are known that pages have left.
pub record AreStanding (rows : Rows) (c : List ℕ) (layouts : List ℕ → Option Layout) (d : CollDraft) (p : Planning) : Type 0 where
  pub touched : (o : List ℕ) (t : Touched) → finite.get p.objects o ≡ Some t → IsTouched rows c o (layouts o) (d.layout o) t
  pub untouched : (o : List ℕ) → IsName o → finite.get p.objects o ≡ None → d.layout o ≡ option_map draft_of (layouts o)
  pub left : (unit : ℕ) → Contains p.left.items unit ↔ Leaves layouts d unit
  pub unshared : p.unshared.items ≡ d.unshared

pub standing_of : (rows : Rows) (c : List ℕ) (layouts : List ℕ → Option Layout) (d : CollDraft) (p : Planning) → IsStateOf rows c layouts d p
    → AreStanding rows c layouts d p
standing_of rows c layouts d p is = record { touched = is.touched; untouched = is.untouched; left = is.left; unshared = is.unshared }

-- drafts that have the same layouts, and the same slots that pages left
pub same_layouts : (rows : Rows) (c : List ℕ) (layouts : List ℕ → Option Layout) (d d' : CollDraft) (p : Planning) → d'.layout ≡ d.layout
    → d'.unshared ≡ d.unshared → AreStanding rows c layouts d p → AreStanding rows c layouts d' p
same_layouts rows c layouts d d' p same slots is = record {
  touched = λ o t there. subst (λ x. IsTouched rows c o (layouts o) x t) (ap (λ f. f o) (sym same)) (is.touched o t there);
  untouched = λ o name none. ap (λ f. f o) same ∙ is.untouched o name none;
  left = λ unit. (λ k. forth ((is.left unit).0 k), λ l. (is.left unit).1 (back l));
  unshared = is.unshared ∙ sym slots;
}
  where
    forth : {unit : ℕ} → Leaves layouts d unit → Leaves layouts d' unit
    forth l = record {
      object = l.object;
      named = l.named;
      page = l.page;
      csum = l.csum;
      stood = l.stood;
      left = ap (λ f. finite.get (or_new (f l.object)).kept l.page) same ∙ l.left;
    }

    back : {unit : ℕ} → Leaves layouts d' unit → Leaves layouts d unit
    back l = record {
      object = l.object;
      named = l.named;
      page = l.page;
      csum = l.csum;
      stood = l.stood;
      left = ap (λ f. finite.get (or_new (f l.object)).kept l.page) (sym same) ∙ l.left;
    }

-- what stays under each name where it stays under one
at_same : {X : Type 0} (o : List ℕ) (x : X) (all : List ℕ → X) → x ≡ all o → at_name o x all ≡ all
at_same o x all is = fun_ext (λ u. elim (equal_or_not u o) [
  | inl e ↦ ap (at_name o x all) e ∙ at_here o x all ∙ is ∙ ap all (sym e)
  | inr apart ↦ at_other o x all u apart
])

-- ---- an object that changes

-- The object is put back as the operation makes it. Of its pages that stood where they stood those that pass a test do so no more.
pub record Moves (rows : Rows) (c : List ℕ) (layouts : List ℕ → Option Layout) (op : Op) (d : CollDraft) (old new : Planning) : Type 0 where
  pub before : Touched
  pub is : IsTouched rows c (object_of op) (layouts (object_of op)) (d.layout (object_of op)) before
  pub test : ℕ → Bool
  pub cut : IsCut (d.layout (object_of op)) (draft_after op d) test
  pub leave : pages_left op (d.layout (object_of op)) ≡ were (d.layout (object_of op)) test
  pub objects : new.objects ≡ finite.insert (finite.remove old.objects (object_of op)) (object_of op) (record before {
    now = draft_after op d;
    left = before.left || has_any (were (d.layout (object_of op)) test);
  })
  pub left : new.left.items ≡ old.left.items ++ flat_map (λ p. units_released p.1) (were (d.layout (object_of op)) test)
  pub unshared : new.unshared.items ≡ old.unshared.items ++ flat_map (λ p. slots_released p.1) (were (d.layout (object_of op)) test)

module _ (w : Width) (rows : Rows) (c : List ℕ) (layouts : List ℕ → Option Layout) (op : Op) (d : CollDraft) (old new : Planning)
    (stood : (page : ℕ) (place : Place) → finite.get (or_new (d.layout (object_of op))).kept page ≡ Some place
    → finite.get (or_empty (layouts (object_of op))).pages page ≡ Some place) (m : Moves rows c layouts op d old new)
    (was : AreStanding rows c layouts d old) where
  abbrev o : List ℕ
  o = object_of op

  abbrev y : Option Draft
  y = draft_after op d

  abbrev then : Touched
  then = record m.before { now = y; left = m.before.left || has_any (were (d.layout o) m.test) }

  own_then : IsTouched rows c o (layouts o) y then
  own_then = cut_touched rows c o (layouts o) (d.layout o) y m.test m.cut stood m.before m.is

  get_own : finite.get new.objects o ≡ Some then
  get_own = ap (λ os. finite.get os o) m.objects ∙ get_same (finite.remove old.objects o) o then

  get_apart_from : (u : List ℕ) → u ≢ o → finite.get new.objects u ≡ finite.get old.objects u
  get_apart_from u apart =
      ap (λ os. finite.get os u) m.objects ∙ get_other (finite.remove old.objects o) o then u apart ∙ get_apart old.objects o u apart

  pub moved : AreStanding rows c layouts (with_op op d) new
  moved = record {
    touched = λ u t there. elim (equal_or_not u o) [
      | inl e ↦
          let same : Some then ≡ Some t = sym get_own ∙ ap (finite.get new.objects) (sym e) ∙ there in
          let is : then ≡ t = cc in
          subst (λ v. IsTouched rows c v (layouts v) ((with_op op d).layout v) t) (sym e)
          (subst (λ x. IsTouched rows c o (layouts o) x t) (sym (at_here o y d.layout)) (subst (IsTouched rows c o (layouts o) y) is own_then))
      | inr apart ↦
          subst (λ x. IsTouched rows c u (layouts u) x t) (sym (at_other o y d.layout u apart)) (was.touched u t (sym (get_apart_from u apart) ∙ there))
    ];
    untouched = λ u name none. elim (equal_or_not u o) [
      | inl e ↦ absurd (let t = sym get_own ∙ ap (finite.get new.objects) (sym e) ∙ none in cc)
      | inr apart ↦ at_other o y d.layout u apart ∙ was.untouched u name (sym (get_apart_from u apart) ∙ none)
    ];
    left = λ unit.
        let all = left_then w layouts o m.is.named d (with_op op d) y m.test (record {
          here = at_here o y d.layout;
          others = λ u apart. at_other o y d.layout u apart;
        }) m.cut stood old.left.items was.left unit in (
          λ k. all.0 (subst (λ us. Contains us unit) m.left k),
          λ l. subst (λ us. Contains us unit) (sym m.left) (all.1 l),
        );
    unshared = m.unshared ∙ ap (λ es. old.unshared.items ++ flat_map (λ p. slots_released p.1) es) (sym m.leave)
        ∙ ap (λ ss. ss ++ slots_on op d) was.unshared;
  }

-- ---- an object that stays as it is

-- no object is put back, the operation leaves the draft of its own as it is, and no page leaves its place
pub record Stays (op : Op) (d : CollDraft) (old new : Planning) : Type 0 where
  pub made : draft_after op d ≡ d.layout (object_of op)
  pub leave : pages_left op (d.layout (object_of op)) ≡ []
  pub objects : new.objects ≡ old.objects
  pub left : new.left.items ≡ old.left.items
  pub unshared : new.unshared.items ≡ old.unshared.items

pub stayed : (rows : Rows) (c : List ℕ) (layouts : List ℕ → Option Layout) (op : Op) (d : CollDraft) (old new : Planning) → Stays op d old new
    → AreStanding rows c layouts d old → AreStanding rows c layouts (with_op op d) new
stayed rows c layouts op d old new s was =
    same_layouts rows c layouts d (with_op op d) new (at_same (object_of op) _ d.layout s.made) none (record {
      touched = λ o t there. was.touched o t (ap (λ os. finite.get os o) (sym s.objects) ∙ there);
      untouched = λ o name none. was.untouched o name (ap (λ os. finite.get os o) (sym s.objects) ∙ none);
      left = λ unit. (
        λ k. (was.left unit).0 (subst (λ us. Contains us unit) s.left k),
        λ l. subst (λ us. Contains us unit) (sym s.left) ((was.left unit).1 l),
      );
      unshared = s.unshared ∙ was.unshared;
    })
  where
    none : d.unshared ++ slots_on op d ≡ d.unshared
    none = ap (λ es. d.unshared ++ flat_map (λ p. slots_released p.1) es) s.leave ∙ sym (append_none d.unshared)

-- ---- values

there_stays : (op : Op) → IsOnObject op → (there : Bool) → there_after op there ≡ there
there_stays MkColl on there = absurd on
there_stays RmColl on there = absurd on
there_stays op on there = refl

-- The state is that of the draft after the operation, where its objects are, its values and its units are counted so.
pub object_state : (rows : Rows) (c : List ℕ) (layouts : List ℕ → Option Layout) (op : Op) (d : CollDraft) (old new : Planning) → IsOnObject op
    → IsName (object_of op) → IsStateOf rows c layouts d old → AreStanding rows c layouts (with_op op d) new → new.there ≡ old.there
    → ChangesValues op rows c (object_of op) old.values new.values → new.taken ≡ old.taken + units_on op d
    → IsStateOf rows c layouts (with_op op d) new
object_state rows c layouts op d old new on named was stand there values taken = record {
  there = there ∙ was.there ∙ sym (there_stays op on d.there);
  touched = stand.touched;
  untouched = stand.untouched;
  of_values = values.still was.of_values;
  values = λ u k name is. elim (equal_or_not u o) [
    | inl e ↦
        ap (λ v. value_seen rows new.values (value_key c v k)) e ∙ values.own k is ∙ ap (value_after op k) (was.values o k named is)
        ∙ sym (ap (λ v. (with_op op d).value v k) e ∙ ap (λ f. f k) (at_here o (values_on op d) d.value))
    | inr apart ↦
        values.apart u k name is apart ∙ was.values u k name is
        ∙ sym (ap (λ f. f k) (at_other o (values_on op d) d.value u apart))
  ];
  taken = taken ∙ ap (λ n. n + units_on op d) was.taken;
  left = stand.left;
  unshared = stand.unshared;
}
  where
    o : List ℕ
    o = object_of op

-- ---- the collection

-- an operation that changes nothing but whether the collection is there
coll_by : (rows : Rows) (c : List ℕ) (layouts : List ℕ → Option Layout) (op : Op) (d : CollDraft) (old : Planning) (there : Bool)
    → draft_after op d ≡ object_before op d → pages_left op (object_before op d) ≡ [] → units_on op d ≡ 0
    → ((k : ValueKey) (v : Option (List ℕ)) → value_after op k v ≡ v) → there ≡ there_after op d.there → IsStateOf rows c layouts d old
    → IsStateOf rows c layouts (with_op op d) (record old { there = there })
coll_by rows c layouts op d old there made leave none kept is was = record {
  there = is;
  touched = stand.touched;
  untouched = stand.untouched;
  of_values = was.of_values;
  values = λ u k name named. was.values u k name named
      ∙ sym (ap (λ f. f u k) (at_same o (values_on op d) d.value (fun_ext (λ k. kept k (d.value o k)))));
  taken = was.taken ∙ omega (arith, none);
  left = stand.left;
  unshared = stand.unshared;
}
  where
    o : List ℕ
    o = object_of op

    new : Planning
    new = record old { there = there }

    stand : AreStanding rows c layouts (with_op op d) new
    stand = stayed rows c layouts op d old new (record { made = made; leave = leave; objects = refl; left = refl; unshared = refl })
        (standing_of rows c layouts d old was)

pub coll_made : (rows : Rows) (c : List ℕ) (layouts : List ℕ → Option Layout) (d : CollDraft) (old : Planning) → IsStateOf rows c layouts d old
    → IsStateOf rows c layouts (with_op MkColl d) (record old { there = true })
coll_made rows c layouts d old was = coll_by rows c layouts MkColl d old true refl refl refl (λ k v. refl) refl was

pub coll_gone : (rows : Rows) (c : List ℕ) (layouts : List ℕ → Option Layout) (d : CollDraft) (old : Planning) → IsStateOf rows c layouts d old
    → IsStateOf rows c layouts (with_op RmColl d) (record old { there = false })
coll_gone rows c layouts d old was = coll_by rows c layouts RmColl d old false refl refl refl (λ k v. refl) refl was
