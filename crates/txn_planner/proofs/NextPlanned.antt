-- One more operation is planned, or refused.
use Rattle.std.proofs.Common.{◌≡◌, ◌⊎◌, inl, inr, ℕ, zero, suc, ◌+◌, ◌<◌, ◌≤◌, Bool, true, false, List, [], ◌∷◌, ◌++◌, length, take, drop, Option, refl, sym, ap, subst, ◌∙◌, arith}
use Rattle.std.specs.Prelude.{sum_by, nat_lt}
use Rattle.std.specs.List.{AllByRecursion}
use Rattle.std.proofs.lemmas.Bool.{or_parts}
use Rattle.std.proofs.lemmas.Bool.Decides.{nat_tests}
use Rattle.std.proofs.lemmas.List.Sums.{sum_by-cons}
use Rattle.object_model.specs.declared.op.Op.{Op}
use Rattle.object_model.specs.declared.op.Op.TheVariants.{MkColl, RmColl, Clone, CloneRange}
use Rattle.object_model.specs.declared.op.Refusal.{Refusal}
use Rattle.object_model.specs.declared.op.Refusal.TheVariants.{NoCollection, CollectionExists, NotEmpty, NoObject, TooBig}
use Rattle.object_model.specs.Prelude.{Change, payload_of, payload_limit, is_too_large}
use Rattle.object_model.specs.Limits.{operation_limit}
use Rattle.meta_rows.specs.Prelude.{Rows}
use Rattle.unit_fields.specs.Prelude.{IsName}
use Rattle.unit_fields.specs.declared.width.Width.{Width}
use Rattle.plan_drafts.specs.Prelude.{Layout, CollDraft, with_op, with_ops, places_of, places_on, held_by, none_held, object_of, units_on, IsOnObject, HasNames, IsTakenOn, IsBare, IsTaken, AreTaken, IsRefused, exists, absent, occupied, beyond, lost, AreRefused}
use Rattle.object_rows.specs.Stores.{AreRowsOfWidth}
use Rattle.page_edits.specs.Writes.{op_at, after_writes, CanBeMade}
use Rattle.page_edits.proofs.DraftedPages.{no_value}
use Rattle.page_edits.proofs.UnitContents.{more_made, can_more, can_both}
use Rattle.plan_proofs.proofs.DraftBytes.{on_same}
use Rattle.plan_proofs.proofs.EditFacts.{the_count_laws}
use Rattle.plan_proofs.proofs.Reached.{IsReached}
use Rattle.txn_planner.specs.declared.fails.PlanFail.{PlanFail}
use Rattle.txn_planner.specs.declared.fails.PlanFail.TheVariants as fail
use Rattle.txn_planner.specs.declared.planning.Planning.{Planning}
use Rattle.txn_planner.specs.Planning.{first_draft, IsStateOf, IsGround, IsPlannedTo, PlannedTo}
use Rattle.txn_planner.specs.Drafts.{IsPlanRefused}
use Rattle.txn_planner.specs.Steps.{OfState, IsNotMade, IsNotDropped, IsFit, IsUnfit, MakesObject}
use Rattle.txn_planner.proofs.Added.{Adds, IsIdle, idle_by, nothing_added}
use Rattle.txn_planner.proofs.Carried.{Carries, carried}
use Rattle.txn_planner.proofs.Fronts.{one_more, whole_list, draft_next, taken_next, places_next, held_next, refused_next}
use Rattle.txn_planner.proofs.Grounds.{reached_by, whole_by}
use Rattle.txn_planner.proofs.Moves.{AreStanding, object_state, coll_made, coll_gone}

-- ---- payloads

-- each operation's payload is within that of all
payload_in : (ops : List Op) (n : ℕ) → n < length ops → payload_of (op_at ops n) ≤ sum_by payload_of ops
payload_in [] n lt = absurd (omega (arith, lt))
payload_in (x ∷ ops) zero lt = omega (arith, sum_by-cons payload_of x ops)
payload_in (x ∷ ops) (suc n) lt = omega (arith, sum_by-cons payload_of x ops, payload_in ops n (omega (arith, lt)))

not_above : (n m : ℕ) → nat_lt n m ≡ false → m ≤ n
not_above n m is = grind (arith, nat_tests, is)

-- so it is within the limit
pub payload_within : (change : Change) → is_too_large change ≡ false → (n : ℕ) → n < length change.ops → payload_of (op_at change.ops n) ≤ payload_limit
payload_within change small n lt =
    let both = or_parts (nat_lt operation_limit (length change.ops)) (nat_lt payload_limit (sum_by payload_of change.ops)) small in
    omega (arith, payload_in change.ops n lt, not_above payload_limit (sum_by payload_of change.ops) both.1)

pub few_ops : (change : Change) → is_too_large change ≡ false → length change.ops ≤ 256
few_ops change small =
    let both = or_parts (nat_lt operation_limit (length change.ops)) (nat_lt payload_limit (sum_by payload_of change.ops)) small in
    not_above operation_limit (length change.ops) both.0

module _ (w : Width) (change : Change) (rows : Rows) (good : AreRowsOfWidth w rows) (n : ℕ) (lt : n < length change.ops) (old new : Planning)
    (layouts : List ℕ → Option Layout) (ground : IsGround w change rows layouts) (was : IsPlannedTo w change rows layouts n old) where
  abbrev first : CollDraft
  first = first_draft w rows change.coll layouts

  abbrev front : List Op
  front = take n change.ops

  abbrev op : Op
  op = op_at change.ops n

  abbrev d : CollDraft
  d = with_ops front first

  pub reached_now : IsReached layouts d
  reached_now = reached_by w rows good change layouts ground front was.taken

  few_units : units_on op d ≤ 258
  few_units = omega (arith, the_count_laws.few op d, the_count_laws.small op (payload_within change ground.small n lt))

  -- the operation is taken, and the state follows
  pub one_planned : IsTaken d op → IsStateOf rows change.coll layouts (with_op op d) new → Adds change.ops op d old new
      → IsPlannedTo w change rows layouts (n + 1) new
  one_planned taken state adds = record {
    taken = subst (λ ops. AreTaken ops first) (sym more) (taken_next op front first was.taken taken);
    state = subst (λ ops. IsStateOf rows change.coll layouts (with_ops ops first) new) (sym more)
        (subst (λ z. IsStateOf rows change.coll layouts z new) (sym (draft_next op front first)) state);
    few = omega (arith, was.few, adds.taken, few_units);
    places = adds.places ∙ ap (λ l. l ++ places_on op d) was.places ∙ sym (places_next op front first)
        ∙ ap (λ ops. places_of ops first) (sym more);
    held = λ read whole.
        ap (λ ws. after_writes change.ops read ws none_held) adds.are
        ∙ more_made change.ops read none_held old.writes.items adds.writes
        ∙ ap (after_writes change.ops read adds.writes) (was.held read whole)
        ∙ adds.made read (held_by read front first none_held) (whole_by w rows good change layouts ground front was.taken read whole)
        ∙ sym (held_next op read front first none_held) ∙ ap (λ ops. held_by read ops first none_held) (sym more);
    can = subst (λ ws. AllByRecursion (CanBeMade change.ops new.taken) ws) (sym adds.are)
        (can_both change.ops new.taken old.writes.items adds.writes
        (can_more change.ops old.taken new.taken old.writes.items (omega (arith, adds.taken)) was.can) adds.can);
  }
    where
      more : take (n + 1) change.ops ≡ front ++ op ∷ []
      more = one_more n change.ops lt

  -- or refused
  pub refused : (refusal : Refusal) → IsRefused d op refusal → AreRefused change.ops first refusal
  refused refusal is = subst (λ ops. AreRefused ops first refusal) (sym (whole_list n change.ops lt))
      (refused_next op front (drop (n + 1) change.ops) first refusal was.taken is)

  -- ---- the collection

  coll_adds : (there : Bool) → (op ≡ MkColl) ⊎ (op ≡ RmColl) → Adds change.ops op d old (record old { there = there })
  coll_adds there is = nothing_added change.ops op d old (record old { there = there }) (idle is) refl refl refl
    where
      idle : (op ≡ MkColl) ⊎ (op ≡ RmColl) → IsIdle op d
      idle (inl e) = subst (λ p. IsIdle p d) (sym e) (idle_by MkColl d refl)
      idle (inr e) = subst (λ p. IsIdle p d) (sym e) (idle_by RmColl d refl)

  -- ---- an object

  is_taken : IsOnObject op → IsName (object_of op) → HasNames op → IsFit rows change.coll op old → IsTaken d op
  is_taken on named names fit = taken_on op on (record {
    there = sym was.state.there ∙ fit.there;
    named = named;
    names = names;
    within = fit.within;
    found = λ needs. fit.found needs w layouts d was.state ground.has;
  })
    where
      taken_on : (p : Op) → IsOnObject p → IsTakenOn d p → IsTaken d p
      taken_on MkColl on is = absurd on
      taken_on RmColl on is = absurd on
      taken_on (Clone u to) on is = absurd on
      taken_on (CloneRange u to src len dst) on is = absurd on
      taken_on p on is = is

-- ---- the next operation

module _ (w : Width) (change : Change) (rows : Rows) (good : AreRowsOfWidth w rows) (n : ℕ) (lt : n < length change.ops) (old new : Planning) where
  abbrev the_op : Op
  the_op = op_at change.ops n

  abbrev Next : Type 0
  Next = PlannedTo w change rows n old → PlannedTo w change rows (n + 1) new

  abbrev Fails : PlanFail → Type 0
  Fails why = PlannedTo w change rows n old → IsPlanRefused w change rows why

  pub made_next : the_op ≡ MkColl → old.there ≡ false → new ≡ record old { there = true } → Next
  made_next is none same planned layouts ground =
      let was = planned layouts ground in
      let d : CollDraft = with_ops (take n change.ops) (first_draft w rows change.coll layouts) in
      subst (IsPlannedTo w change rows layouts (n + 1)) (sym same)
      (one_planned w change rows good n lt old (record old { there = true }) layouts ground was
      (subst (IsTaken d) (sym is) (sym was.state.there ∙ none))
      (subst (λ p. IsStateOf rows change.coll layouts (with_op p d) (record old { there = true })) (sym is)
      (coll_made rows change.coll layouts d old was.state))
      (coll_adds w change rows good n lt old new layouts ground was true (inl is)))

  pub dropped_next : the_op ≡ RmColl → old.there ≡ true → OfState rows change.coll old IsBare → new ≡ record old { there = false } → Next
  dropped_next is there bare same planned layouts ground =
      let was = planned layouts ground in
      let d : CollDraft = with_ops (take n change.ops) (first_draft w rows change.coll layouts) in
      subst (IsPlannedTo w change rows layouts (n + 1)) (sym same)
      (one_planned w change rows good n lt old (record old { there = false }) layouts ground was
      (subst (IsTaken d) (sym is) (sym was.state.there ∙ there, bare w layouts d was.state ground.has))
      (subst (λ p. IsStateOf rows change.coll layouts (with_op p d) (record old { there = false })) (sym is)
      (coll_gone rows change.coll layouts d old was.state))
      (coll_adds w change rows good n lt old new layouts ground was false (inr is)))

  pub object_next : IsOnObject the_op → IsName (object_of the_op) → HasNames the_op → IsFit rows change.coll the_op old
      → MakesObject w rows change.coll the_op n old new → Next
  object_next on named names fit makes planned layouts ground =
      let was = planned layouts ground in
      let d : CollDraft = with_ops (take n change.ops) (first_draft w rows change.coll layouts) in
      let r : IsReached layouts d = reached_now w change rows good n lt old new layouts ground was in
      let taken : IsTaken d the_op = is_taken w change rows good n lt old new layouts ground was on named names fit in
      let k : Carries rows change.coll layouts change.ops the_op d old makes.between =
      carried w rows change.coll layouts ground.has change.ops n d (on_same (take n change.ops) (first_draft w rows change.coll layouts)) lt r old makes.between was.state the_op refl named taken on makes.changes in
      let then : Planning = record makes.between { values = new.values } in
      let stand : AreStanding rows change.coll layouts (with_op the_op d) new =
      subst (AreStanding rows change.coll layouts (with_op the_op d)) (sym makes.same)
      (record { touched = k.stand.touched; untouched = k.stand.untouched; left = k.stand.left; unshared = k.stand.unshared }) in
      let adds : Adds change.ops the_op d old new = subst (Adds change.ops the_op d old) (sym makes.same)
      (record {
        taken = k.adds.taken;
        places = k.adds.places;
        writes = k.adds.writes;
        are = k.adds.are;
        made = k.adds.made;
        can = k.adds.can;
      }) in
      one_planned w change rows good n lt old new layouts ground was taken
      (object_state rows change.coll layouts the_op d old new on named was.state stand (ap (λ (p : Planning). p.there) makes.same ∙ k.there)
      makes.values adds.taken) adds

  -- ---- refusals

  refused_so : (refusal : Refusal) → ((layouts : List ℕ → Option Layout) → IsGround w change rows layouts → IsPlannedTo w change rows layouts n old
      → IsRefused (with_ops (take n change.ops) (first_draft w rows change.coll layouts)) the_op refusal) → Fails (fail.Refusal refusal)
  refused_so refusal is planned layouts ground =
      refused w change rows good n lt old new layouts ground (planned layouts ground) refusal (is layouts ground (planned layouts ground))

  pub make_fails : the_op ≡ MkColl → (why : PlanFail) → IsNotMade old why → Fails why
  make_fails is (fail.Refusal CollectionExists) there =
      refused_so CollectionExists (λ layouts ground was. exists is (sym was.state.there ∙ there))
  make_fails is fail.Memory there = λ planned. tt
  make_fails is why there = absurd there

  pub drop_fails : the_op ≡ RmColl → (why : PlanFail) → IsNotDropped rows change.coll old why → Fails why
  drop_fails is (fail.Refusal NoCollection) not =
      refused_so NoCollection (λ layouts ground was. absent (λ e. absurd (let t = sym is ∙ e in cc)) (sym was.state.there ∙ not))
  drop_fails is (fail.Refusal NotEmpty) not = refused_so NotEmpty (λ layouts ground was.
      occupied is (sym was.state.there ∙ not.0) (not.1 w layouts _ was.state ground.has))
  drop_fails is fail.Memory not = λ planned. tt
  drop_fails is why not = absurd not

  pub object_fails : IsOnObject the_op → (why : PlanFail) → IsUnfit rows change.coll the_op old why → Fails why
  object_fails on (fail.Refusal NoCollection) unfit = refused_so NoCollection (λ layouts ground was.
      absent (λ e. absurd (subst IsOnObject e on)) (sym was.state.there ∙ unfit))
  object_fails on (fail.Refusal TooBig) unfit = refused_so TooBig (λ layouts ground was. beyond on (sym was.state.there ∙ unfit.0) unfit.1)
  object_fails on (fail.Refusal NoObject) unfit = refused_so NoObject (λ layouts ground was.
      lost on (sym was.state.there ∙ unfit.0) unfit.1 unfit.2 (no_value _ (unfit.3 w layouts _ was.state ground.has)))
  object_fails on fail.Memory unfit = λ planned. tt
  object_fails on why unfit = absurd unfit
