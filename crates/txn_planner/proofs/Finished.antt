-- The plan of a transaction of which all operations are planned.
use Rattle.std.proofs.Common.{◌≡◌, ◌↔◌, ◌⊎◌, Bool, true, false, not, is_some, ℕ, zero, suc, ◌<◌, ◌≤◌, ◌^◌, List, [], ◌∷◌, length, take, Contains, Option, Some, None, refl, sym, ap, subst, ◌∙◌, arith, inl, inr}
use Rattle.std.specs.Option.{option_map}
use Rattle.std.specs.List.{AllByRecursion, list_any}
use Rattle.std.specs.Ordering.{nat_cmp}
use Rattle.std.specs.FinMap as finite
use Rattle.std.proofs.lemmas.Bool.{or_parts}
use Rattle.std.proofs.lemmas.List.{length-take-le}
use Rattle.crc32c_csum.specs.Prelude.{crc32c}
use Rattle.object_model.specs.declared.op.Op.{Op}
use Rattle.object_model.specs.Prelude.{Change}
use Rattle.meta_rows.specs.Prelude.{Rows, rows_after}
use Rattle.meta_log.specs.declared.slot.Super.{Super}
use Rattle.meta_log.specs.Prelude.{width_of}
use Rattle.unit_fields.specs.Prelude.{Ascends}
use Rattle.unit_fields.specs.declared.width.Width.{Width}
use Rattle.row_format.specs.Prelude.{own, coll_key, Row, row_key, row_value, FitsRow}
use Rattle.row_format.proofs.Prelude.{under_coll}
use Rattle.store_image.specs.Prelude.{page_of, NoBadRow}
use Rattle.unit_allocator.specs.Prelude.{Space, free_units}
use Rattle.unit_allocator.proofs.Lists.{Contains-head, Contains-tail, Contains-cases}
use Rattle.plan_rows.specs.declared.plan.Plan.{Plan}
use Rattle.plan_rows.specs.declared.plan.ReadUnit.{ReadUnit}
use Rattle.plan_rows.specs.declared.plan.SlotNo.{SlotNo}
use Rattle.plan_drafts.specs.declared.draft.Draft as object
use Rattle.plan_drafts.specs.Prelude.{Held, Layout, HasLayout, there_after, CollDraft, with_op, with_ops, places_of, held_by, none_held, AreTaken, draft_of, AreReadAt, IsFreed, Stands, filled, fresh_units, AreFreeOver, MakesDraft, Plans}
use Rattle.plan_proofs.proofs.DraftOwners.{layout_pages}
use Rattle.plan_proofs.proofs.Reached.{IsReached}
use Rattle.plan_proofs.proofs.Takings.{all_listed}
use Rattle.object_rows.specs.Stores.{AreRowsOfWidth}
use Rattle.row_changes.specs.Prelude.{ChangeMap}
use Rattle.shared_blobs.specs.Lowering.{AreLowered}
use Rattle.shared_blobs.specs.declared.lowering.Lowered.{Lowered}
use Rattle.page_edits.specs.Writes.{after_writes, held_in, CanBeMade}
use Rattle.txn_planner.specs.declared.drafts.TxnDraft.{TxnDraft}
use Rattle.txn_planner.specs.declared.planning.Planning.{Planning}
use Rattle.txn_planner.specs.declared.touched.Touched.{Touched}
use Rattle.txn_planner.specs.Drafts.{places_in, IsDraftFor}
use Rattle.txn_planner.specs.Finishing.{AreRowOps}
use Rattle.txn_planner.specs.Laying.{AllTakeBelow, AllNamed, coll_row, is_on_coll, HasCollRow, AreNew, HaveNumbers, IsChangesOf}
use Rattle.txn_planner.specs.PlanFails.{IsPlanFor}
use Rattle.txn_planner.specs.Planning.{IsStateOf, first_draft, IsGround, IsPlannedTo}
use Rattle.txn_planner.specs.Standing.{IsPutIn}
use Rattle.txn_planner.proofs.Fronts.{all_taken}
use Rattle.txn_planner.proofs.Grounds.{begins, reached_by}
use Rattle.txn_planner.proofs.SameLayouts.{turned_false}

-- what stands in a list's front stands in the list
in_front : (n : ℕ) (us : List ℕ) (v : ℕ) → Contains (take n us) v → Contains us v
in_front zero us v k = absurd (omega (arith, k.1))
in_front (suc n) [] v k = k
in_front (suc n) (u ∷ us) v k = elim (Contains-cases u v (take n us) k) [
  | inl e ↦ subst (Contains (u ∷ us)) e (Contains-head u us)
  | inr later ↦ Contains-tail u v us (in_front n us v later)
]

-- no page is put where an object stands as it stood
none_put : (layout : Option Layout) (x : object.Draft) (page taking : ℕ) → option_map draft_of layout ≡ Some x → finite.get x.puts page ≡ Some taking → ⊥
none_put None x page taking is put = cc
none_put (Some l) x page taking is put =
    let same : draft_of l ≡ x = cc in
    let t = sym (finite.get-empty nat_cmp page) ∙ ap (λ (z : object.Draft). finite.get z.puts page) same ∙ put in cc

-- the units that are released, by those of slots that came free
pub released_by : (w : Width) (rows : Rows) (unshared : List SlotNo) (left released : List ℕ) (lowered : Lowered) → AreLowered w rows unshared lowered
    → (unit : ℕ) → Contains released unit ↔ (Contains left unit ⊎ Contains lowered.freed.items unit)
    → Contains released unit ↔ (Contains left unit ⊎ IsFreed w rows unshared unit)
released_by w rows unshared left released lowered are unit both = (
  λ k. elim (both.0 k) [ inl l ↦ inl l | inr f ↦ inr ((are.freed unit).0 f) ],
  λ its. both.1 (elim its [ inl l ↦ inl l | inr f ↦ inr ((are.freed unit).1 f) ]),
)

-- ---- the row of the collection

-- that of a collection has no bytes
coll_empty : (w : Width) (c value : List ℕ) (row : Row) → FitsRow w row → coll_key c ≡ row_key row → value ≡ row_value w row → value ≡ []
coll_empty w c value row fits key is = is ∙ ap (row_value w) (under_coll w c row fits key)

coll_rows : (s : Super) (rows : Rows) → NoBadRow s rows → (c : List ℕ)
    → finite.get rows (coll_key c) ≡ coll_row (finite.contains_key rows (coll_key c))
coll_rows s rows good c = by (finite.get rows (coll_key c)) refl
  where
    by : (z : Option (List ℕ)) → finite.get rows (coll_key c) ≡ z → z ≡ coll_row (is_some z)
    by None q = refl
    by (Some value) q = let g = good (coll_key c) value q in ap Some (coll_empty (width_of s) c value g.row g.fits g.key_is g.value_is)

-- operations of which none is on the collection leave it there or not, as it was
same_after : (op : Op) (b : Bool) → is_on_coll op ≡ false → there_after op b ≡ b
same_after op true is = turned_false (there_after op true) (or_parts (there_after op false) (not (there_after op true)) is).1
same_after op false is = (or_parts (there_after op false) (not (there_after op true)) is).0

same_there : (ops : List Op) (d : CollDraft) → list_any is_on_coll ops ≡ false → (with_ops ops d).there ≡ d.there
same_there [] d none = refl
same_there (op ∷ ops) d none =
    let parts = or_parts (is_on_coll op) (list_any is_on_coll ops) none in
    same_there ops (with_op op d) parts.1 ∙ same_after op d.there parts.0

module _ (w : Width) (change : Change) (rows : Rows) (space : Space) (draft : TxnDraft) (good : AreRowsOfWidth w rows)
    (is : IsDraftFor w change rows space draft) where
  abbrev c : List ℕ
  c = change.coll

  abbrev p : Planning
  p = draft.planning

  abbrev layouts : List ℕ → Option Layout
  layouts = is.asks.layouts

  abbrev start : CollDraft
  start = first_draft w rows c layouts

  abbrev y : CollDraft
  y = with_ops change.ops start

  ground : IsGround w change rows layouts
  ground = record { coll = is.coll; known = is.known; small = is.small; has = is.asks.begins.has }

  planned : IsPlannedTo w change rows layouts (length change.ops) p
  planned = is.planned layouts ground

  state : IsStateOf rows c layouts y p
  state = subst (λ ops. IsStateOf rows c layouts (with_ops ops start) p) (all_taken change.ops) planned.state

  taken : AreTaken change.ops start
  taken = subst (λ ops. AreTaken ops start) (all_taken change.ops) planned.taken

  all_reached : IsReached layouts y
  all_reached = reached_by w rows good change layouts ground change.ops taken

  -- ---- what is known of the state

  pub can_be_made : AllByRecursion (CanBeMade change.ops p.taken) p.writes.items
  can_be_made = planned.can

  pub as_many : length draft.units.items ≡ p.taken
  as_many = ap length is.units ∙ length-take-le p.taken (free_units space) is.enough

  pub named : AllNamed p.objects
  named o t among = (state.touched o t among).named

  pub below : AllTakeBelow p.taken p.objects
  below o t among x page taking now put =
      let of = state.touched o t among in
      omega (arith, (all_reached.objects o x of.named (sym of.now_is ∙ now)).below page taking put, state.taken)

  pub all_below : (takings : List ℕ) → ((taking : ℕ) → Contains takings taking ↔ IsPutIn p.objects taking) → AllByRecursion (λ t. t < p.taken) takings
  all_below takings are = all_listed (λ t. t < p.taken) takings (λ t k. let put = (are t).0 k in
      below put.object put.touched put.among put.put.draft put.put.put.0 t put.put.there put.put.put.1)

  -- an object isn't so long that the numbers of its pages don't fit their field
  numbers : HaveNumbers y
  numbers o x name there page stands =
      let of = all_reached.objects o x name there in
      omega (arith, of.ends page stands, of.most)

  -- where no operation is on the collection it is there or not as it was, and its row has no bytes
  had_coll : HasCollRow rows change y
  had_coll none = coll_rows good.store.sup rows good.store.good c ∙ sym (ap coll_row (same_there change.ops start none))

  -- the pages that were put are those of the objects that were looked at
  stands_by : (taking : ℕ) → IsPutIn p.objects taking ↔ Stands y taking
  stands_by taking = (
    λ put.
        let of = state.touched put.object put.touched put.among in
        record {
          object = put.object;
          named = of.named;
          draft = put.put.draft;
          there = sym of.now_is ∙ put.put.there;
          page = put.put.put.0;
          put = put.put.put.1;
        },
    λ st. by st (finite.get p.objects st.object) refl,
  )
    where
      by : (st : Stands y taking) (x : Option Touched) → finite.get p.objects st.object ≡ x → IsPutIn p.objects taking
      by st (Some t) among = record {
        object = st.object;
        touched = t;
        among = among;
        put = record { draft = st.draft; there = (state.touched st.object t among).now_is ∙ st.there; put = (st.page, st.put) };
      }
      by st None none = absurd (none_put (layouts st.object) st.draft st.page taking (sym (state.untouched st.object st.named none) ∙ st.there) st.put)

  -- ---- the plan

  -- The parts of a plan: its fresh units are those of the takings on which pages stand, with what they are to hold, its released ones those that
  -- pages have left and those of slots that no page names any more, and its operations those of the changes of rows. It makes no blob.
  pub record IsMade (read : List ReadUnit) (plan : Plan) : Type 0 where
    pub read_is : plan.read ≡ read
    pub contents : List (List ℕ)
    pub held : held_in contents ≡ after_writes change.ops read p.writes.items none_held
    pub takings : List ℕ
    pub ascend : Ascends takings
    pub are_put : (taking : ℕ) → Contains takings taking ↔ IsPutIn p.objects taking
    pub fresh : plan.fresh ≡ filled draft.units.items (held_in contents) takings
    pub csums : AllByRecursion (λ f. crc32c f.bytes < 2 ^ 32) plan.fresh
    pub are_left : (unit : ℕ) → Contains plan.released unit ↔ (Contains p.left.items unit ⊎ IsFreed w rows p.unshared.items unit)
    pub left_ascend : Ascends plan.released
    pub changes : ChangeMap
    pub are_changes : IsChangesOf w rows change p draft.units.items (held_in contents) changes
    pub ops : AreRowOps rows changes (fresh_units plan) plan.released plan.ops
    pub none_made : plan.new_blobs ≡ 0

  module _ (read : List ReadUnit) (at : AreReadAt (places_in draft) read) (plan : Plan) (m : IsMade read plan) where
    units_are : draft.units.items ≡ take y.taken (free_units space)
    units_are = is.units ∙ ap (λ n. take n (free_units space)) state.taken

    held_are : held_in m.contents ≡ held_by plan.read change.ops start none_held
    held_are = m.held ∙ planned.held read at.whole ∙ ap (λ ops. held_by read ops start none_held) (all_taken change.ops)
        ∙ ap (λ r. held_by r change.ops start none_held) (sym m.read_is)

    places_are : places_in draft ≡ places_of change.ops start
    places_are = planned.places ∙ ap (λ ops. places_of ops start) (all_taken change.ops)

    read_there : AreReadAt (places_of change.ops start) plan.read
    read_there = subst (AreReadAt (places_of change.ops start)) (sym m.read_is) (subst (λ ps. AreReadAt ps read) places_are at)

    module _ (s : Super) (wide : width_of s ≡ w) (free : AreFreeOver s rows space) where
      -- a free unit is owned by nobody, so no page stands on one
      are_new : AreNew layouts draft.units.items
      are_new o page unit csum name stands has =
          let among : Contains (free_units space) unit = in_front p.taken (free_units space) unit (subst (λ us. Contains us unit) is.units has) in
          let layout : HasLayout (width_of s) rows c o (layouts o) = subst (λ v. HasLayout v rows c o (layouts o)) (sym wide) (is.asks.begins.has o name) in
          let at = (layout_pages s rows c o (layouts o) free.good layout page (own unit csum)).0 stands in
          (free.free unit among).1 (page_of c o page, (csum, at))

      makes : MakesDraft w rows c layouts draft.units.items (held_in m.contents) y plan
      makes = record {
        difference = m.ops.difference;
        flips = m.ops.flips;
        ops_are = m.ops.ops_are;
        in_order = m.ops.by_changes.in_order;
        changes = m.ops.by_changes.changes;
        gets = m.are_changes layouts y state is.asks.begins.has had_coll are_new numbers (rows_after rows m.ops.difference) m.ops.by_changes.makes;
        takings = m.takings;
        ascend = m.ascend;
        are_standing = λ t. (λ k. (stands_by t).0 ((m.are_put t).0 k), λ st. (m.are_put t).1 ((stands_by t).1 st));
        fresh = m.fresh;
        are_left = λ unit. (
          λ k. elim ((m.are_left unit).0 k) [
            | inl left ↦ inl ((state.left unit).0 left)
            | inr freed ↦ inr (subst (λ ss. IsFreed w rows ss unit) state.unshared freed)
          ],
          λ its. (m.are_left unit).1 (elim its [
            | inl left ↦ inl ((state.left unit).1 left)
            | inr freed ↦ inr (subst (λ ss. IsFreed w rows ss unit) (sym state.unshared) freed)
          ]),
        );
        left_ascend = m.left_ascend;
        turns = m.ops.turns;
      }

      abbrev plans_so : (next : ℕ) → next ≤ 2 ^ 62 → Plans w change rows space next plan
      plans_so next low = record {
        named = is.coll;
        small = is.small;
        layouts = layouts;
        start = start;
        begins = begins w rows good change layouts ground w refl;
        taken = taken;
        enough = omega (arith, is.enough, state.taken);
        read = read_there;
        makes = subst (λ (units : List ℕ). MakesDraft w rows c layouts units (held_by plan.read change.ops start none_held) y plan) units_are
            (subst (λ (held : Held). MakesDraft w rows c layouts draft.units.items held y plan) held_are makes);
        csums_fit = m.csums;
        none_made = m.none_made;
        low = omega (arith, low, m.none_made);
      }

    pub is_plan : IsPlanFor w change rows space (places_in draft) plan
    is_plan = record { not_refused = is.not_refused; plans = λ s next wide free low. (plans_so s wide free next low, places_are) }
