-- Each plan keeps and makes what is asked of a plan.
use Rattle.std.proofs.Common.{◌≡◌, ◌⊎◌, ◌↔◌, inl, inr, ℕ, zero, suc, ◌+◌, ◌*◌, ◌<◌, ◌≤◌, ◌^◌, false, List, [], ◌∷◌, length, map, take, Contains, Ok, is_some, refl, sym, ap, subst, ◌∙◌, arith, length-append}
use Rattle.std.specs.Prelude.{slice_index, sum_by, nat_lt}
use Rattle.std.specs.List.{AllByRecursion}
use Rattle.std.specs.FinMap as finite
use Rattle.std.specs.Ordering.{nat_cmp}
use Rattle.std.proofs.lemmas.Bool.{or_parts, cases_lt}
use Rattle.std.proofs.lemmas.Bool.Decides.{nat_tests}
use Rattle.std.proofs.lemmas.Grind.{flat_map-append}
use Rattle.std.proofs.lemmas.List.Sums.{sum_by-cons}
use Rattle.crc32c_csum.specs.Prelude.{crc32c}
use Rattle.meta_rows.specs.Prelude.{Rows, rows_after, rows_size, key_of, op_bytes, ops_bytes, FitsRowOp, AllFit}
use Rattle.meta_rows.specs.declared.row_op.RowOp.{RowOp}
use Rattle.meta_rows.proofs.Folds.{rows_after-append}
use Rattle.meta_log.specs.declared.slot.Super.{Super}
use Rattle.meta_log.specs.Prelude.{width_of}
use Rattle.object_model.specs.declared.op.Op.{Op}
use Rattle.object_model.specs.Prelude.{Objects, Change, names_of, is_named, transaction_effect, with_collection, is_too_large, payload_of, payload_limit}
use Rattle.object_model.proofs.Names.{is_own}
use Rattle.unit_fields.specs.Prelude.{Ascends}
use Rattle.row_format.specs.Prelude.{Place, shard, shared_key}
use Rattle.store_image.specs.Prelude.{HasKey, HasPage, PageUnit, StandsOn, HasShard, IsNamedBy, NoBadRow, IsDataUnit, IsOwned, IsMarked, IsExactAs, IsShape, ObjectsStand}
use Rattle.bitmap_freelist.proofs.Alike.{object_key_is_other, alike_back, alike_has_row, alike_shape, alike_stand}
use Rattle.bitmap_freelist.proofs.Records.{flips_fit, flips_size, flips_count}
use Rattle.unit_allocator.specs.Prelude.{Space, free_units}
use Rattle.unit_allocator.proofs.FreeUnits.{free_units_ascend}
use Rattle.unit_allocator.proofs.Lists.{Contains-map, Contains-from_map}
use Rattle.plan_drafts.specs.declared.draft.Draft.{Draft}
use Rattle.plan_rows.specs.declared.plan.FreshUnit.{FreshUnit}
use Rattle.plan_rows.specs.declared.plan.Plan.{Plan}
use Rattle.plan_rows.specs.declared.plan.SlotNo.{SlotNo}
use Rattle.plan_drafts.specs.Prelude.{Held, CollDraft, with_op, with_ops, places_of, held_by, none_held, Begins, most_units_of, most_units, Stands, HoldsFresh, StandsOnce, fresh_units, Plans, AreFreeOver, IsKeyOfDraft, IsKeyOfSlot, IsKeyOfSome, AreAtHomeIn, IsKeyOfBlob, MakesBlob, AreOf, IsGood, Suits, OwnsItsUnits, AreWhole, PlanKeeps, HoldsRead, PlanMakes, PlanTakes, PlansKeep, units_on, AsksAreFew}
use Rattle.plan_rows.proofs.Apart.{no_blob_key, changed_among}
use Rattle.plan_rows.proofs.Homes.{named_there}
use Rattle.plan_proofs.proofs.DraftBits.{AreTurned, alike, last_was, last_owned, last_left, last_taken, last_gone, last_good, last_exact}
use Rattle.page_edits.specs.Takings.{WereRead}
use Rattle.plan_proofs.proofs.DraftBytes.{ByteLaws, AllWhole, on_same, all_hold, all_whole}
use Rattle.plan_proofs.proofs.Balance.{balanced}
use Rattle.plan_proofs.proofs.Drafted.{AreDrafted}
use Rattle.plan_proofs.proofs.DraftRows.{named_was}
use Rattle.plan_proofs.proofs.Slots.{left_named}
use Rattle.plan_proofs.proofs.DraftStand.{shape_after, stand_after}
use Rattle.plan_proofs.proofs.DraftStart.{of_layout, reached_first, matches_first, holds_first}
use Rattle.plan_proofs.proofs.Elsewhere.{key_in, HasSame, same_where_agreed, begins_there, freed_there, gets_there, keys_named}
use Rattle.plan_proofs.proofs.Fits.{difference_fits}
use Rattle.object_rows.proofs.GoodPages.{all_map}
use Rattle.object_rows.proofs.Lists.{all_append}
use Rattle.plan_proofs.proofs.Lists.{all_in}
use Rattle.plan_proofs.proofs.Matches.{LengthLaw, Matches, AllLead, all_lead, transaction_lead}
use Rattle.plan_proofs.proofs.Reached.{EditLaws, IsReached, reached}
use Rattle.plan_proofs.proofs.RecordLengths.{difference_short}
use Rattle.plan_proofs.proofs.Takings.{is_among, of_front, rises, units_ascend, few, filled_units, filled_count, filled_all, filled_each, all_listed}

-- ---- lists

all_taken : (P : ℕ → Type 0) (n : ℕ) (us : List ℕ) → AllByRecursion P us → AllByRecursion P (take n us)
all_taken P zero us all = tt
all_taken P (suc n) [] all = tt
all_taken P (suc n) (u ∷ us) all = (all.0, all_taken P n us all.1)

take_ascends : (n : ℕ) (us : List ℕ) → Ascends us → Ascends (take n us)
take_ascends zero us order = tt
take_ascends (suc n) [] order = tt
take_ascends (suc n) (u ∷ us) order = (all_taken (λ v. u < v) n us order.0, take_ascends n us order.1)

length_taken : (n : ℕ) (us : List ℕ) → n ≤ length us → length (take n us) ≡ n
length_taken zero us le = refl
length_taken (suc n) [] le = absurd (omega (arith, le))
length_taken (suc n) (u ∷ us) le = ap suc (length_taken n us (omega (arith, le)))

-- in an ascending list each stands once
stands_once : (us : List ℕ) → Ascends us → (u : ℕ) → StandsOnce us u
stands_once us order u i j in_i in_j is too = elim (cases_lt i j) [
  | inl lt ↦ absurd (omega (arith, rises us i j order lt in_j, is, too))
  | inr ge ↦ elim (cases_lt j i) [
    | inl lt ↦ absurd (omega (arith, rises us j i order lt in_i, is, too))
    | inr le ↦ omega (arith, ge, le)
  ]
]

-- ---- how many units

-- what is known of how many units an operation takes
pub record CountLaws : Type 0 where
  pub few : (op : Op) (d : CollDraft) → units_on op d ≤ most_units_of op
  pub small : (op : Op) → payload_of op ≤ payload_limit → most_units_of op ≤ 258

sum_step : {X : Type 0} (f : X → ℕ) (x : X) (xs : List X) → sum_by f (x ∷ xs) ≡ f x + sum_by f xs
sum_step f x xs = sum_by-cons f x xs

bound : (total before taken most rest all : ℕ) → total ≤ (before + taken) + rest → all ≡ most + rest → taken ≤ most → total ≤ before + all
bound total before taken most rest all p q r = omega (arith, p, q, r)

takes_few : (counts : CountLaws) (ops : List Op) (d : CollDraft) → (with_ops ops d).taken ≤ d.taken + most_units ops
takes_few counts [] d = omega arith
takes_few counts (op ∷ ops) d =
    let rest : (with_ops ops (with_op op d)).taken ≤ (d.taken + units_on op d) + most_units ops = takes_few counts ops (with_op op d) in
    let all : most_units (op ∷ ops) ≡ most_units_of op + most_units ops = sum_step most_units_of op ops in
    let one : units_on op d ≤ most_units_of op = counts.few op d in
    bound (with_ops ops (with_op op d)).taken d.taken (units_on op d) (most_units_of op) (most_units ops) (most_units (op ∷ ops)) rest all one

each_small : (ops : List Op) → sum_by payload_of ops ≤ payload_limit → (counts : CountLaws) → most_units ops ≤ 258 * length ops
each_small [] le counts = omega arith
each_small (op ∷ ops) le counts =
    let payload : sum_by payload_of (op ∷ ops) ≡ payload_of op + sum_by payload_of ops = sum_step payload_of op ops in
    let all : most_units (op ∷ ops) ≡ most_units_of op + most_units ops = sum_step most_units_of op ops in
    omega (arith, all, counts.small op (omega (arith, le, payload)), each_small ops (omega (arith, le, payload)) counts)

both_false : (change : Change) → is_too_large change ≡ false → (nat_lt 256 (length change.ops) ≡ false) × (nat_lt payload_limit (sum_by payload_of change.ops) ≡ false)
both_false change is = or_parts (nat_lt 256 (length change.ops)) (nat_lt payload_limit (sum_by payload_of change.ops)) is

not_above : (n m : ℕ) → nat_lt n m ≡ false → m ≤ n
not_above n m is = grind (arith, nat_tests, is)

few_in_all : (counts : CountLaws) (change : Change) → is_too_large change ≡ false → most_units change.ops ≤ 1048576
few_in_all counts change small =
    let both = both_false change small in
    omega (
      arith,
      each_small change.ops (not_above payload_limit (sum_by payload_of change.ops) both.1) counts,
      not_above 256 (length change.ops) both.0,
    )

-- ---- one plan

module _ (laws : EditLaws) (lengths : LengthLaw) (bytes : ByteLaws) (counts : CountLaws) (s : Super) (view : Rows) (good : IsGood s view) (space : Space)
    (free : AreFreeOver s view space) (next : ℕ) (change : Change) (plan : Plan) (p : Plans (width_of s) change view space next plan) where
  abbrev c : List ℕ
  c = change.coll

  abbrev y : CollDraft
  y = with_ops change.ops p.start

  abbrev n : ℕ
  n = y.taken

  abbrev units : List ℕ
  units = take n (free_units space)

  abbrev held : Held
  held = held_by plan.read change.ops p.start none_held

  abbrev difference : List RowOp
  difference = p.makes.difference

  first : IsReached p.layouts p.start
  first = reached_first s view good.good c p.named p.layouts p.start p.begins

  reach : IsReached p.layouts y
  reach = reached laws p.layouts change.ops p.start p.taken first

  -- ---- the units

  below : (taking : ℕ) → Stands y taking → taking < n
  below taking st = (reach.objects st.object st.draft st.named st.there).below st.page taking st.put

  unit_is : (taking : ℕ) → Stands y taking → slice_index units taking ≡ slice_index (free_units space) taking
  unit_is taking st = of_front n (free_units space) taking (below taking st)

  is_free_unit : (taking : ℕ) → Stands y taking → Contains (free_units space) (slice_index units taking)
  is_free_unit taking st = subst (Contains (free_units space)) (sym (unit_is taking st))
      (is_among (free_units space) taking (omega (arith, below taking st, p.enough)))

  on_data : (taking : ℕ) → Stands y taking → IsDataUnit s (slice_index units taking)
  on_data taking st = (free.free (slice_index units taking) (is_free_unit taking st)).0

  apart : (t u : ℕ) → Stands y t → Stands y u → slice_index units t ≡ slice_index units u → t ≡ u
  apart t u st su same = elim (cases_lt t u) [
    | inl lt ↦ absurd (let r = rises (free_units space) t u (free_units_ascend space) lt (omega (arith, below u su, p.enough)) in
        omega (arith, r, same, unit_is t st, unit_is u su))
    | inr ge ↦ elim (cases_lt u t) [
      | inl lt ↦ absurd (let r = rises (free_units space) u t (free_units_ascend space) lt (omega (arith, below t st, p.enough)) in
          omega (arith, r, same, unit_is t st, unit_is u su))
      | inr le ↦ omega (arith, ge, le)
    ]
  ]

  abbrev takings : List ℕ
  takings = p.makes.takings

  fresh_are : fresh_units plan ≡ map (slice_index units) takings
  fresh_are = ap (map (λ (f : FreshUnit). f.unit)) p.makes.fresh ∙ filled_units units held takings

  fresh_stand : (v : ℕ) → Contains (fresh_units plan) v ↔ ((taking : ℕ) × Stands y taking × (v ≡ slice_index units taking))
  fresh_stand v = (
    λ k.
        let t = Contains-from_map (slice_index units) takings v (subst (λ us. Contains us v) fresh_are k) in
        (t.0, (p.makes.are_standing t.0).0 t.1, sym t.2),
    λ t. subst (λ us. Contains us v) (sym fresh_are) (subst (Contains (map (slice_index units) takings)) (sym t.2)
        (Contains-map (slice_index units) takings t.0 ((p.makes.are_standing t.0).1 t.1))),
  )

  each_standing : (P : ℕ → Type 0) → ((taking : ℕ) → Stands y taking → P taking) → AllByRecursion P takings
  each_standing P each = all_listed P takings (λ t k. each t ((p.makes.are_standing t).0 k))

  sums : (taking : ℕ) → Stands y taking → crc32c (held taking) < 2 ^ 32
  sums taking st = all_in (λ t. crc32c (held t) < 2 ^ 32) takings
      (filled_each units held (λ u b. crc32c b < 2 ^ 32) takings
      (subst (AllByRecursion (λ (f : FreshUnit). crc32c f.bytes < 2 ^ 32)) p.makes.fresh p.csums_fit)) taking ((p.makes.are_standing taking).1 st)

  whole : AllWhole held y
  whole = all_whole laws lengths bytes p.layouts change.ops p.start p.taken first plan.read none_held p.read.whole
      (λ o x name is page taking put. let of = of_layout s view good.good c p.named p.layouts p.start p.begins o x name is in
      absurd (let t = sym (finite.get-empty nat_cmp page) ∙ ap (λ (z : Draft). finite.get z.puts page) (sym of.2) ∙ put in cc))

  fresh_whole : AreWhole s plan.fresh
  fresh_whole = record {
    on_data = subst (AllByRecursion (λ (f : FreshUnit). IsDataUnit s f.unit)) (sym p.makes.fresh)
        (filled_all units held (λ u b. IsDataUnit s u) takings (each_standing (λ t. IsDataUnit s (slice_index units t)) on_data));
    whole = subst (AllByRecursion (λ (f : FreshUnit). length f.bytes ≡ 4096)) (sym p.makes.fresh)
        (filled_all units held (λ u b. length b ≡ 4096) takings (each_standing (λ t. length (held t) ≡ 4096)
        (λ t st. whole st.object st.draft st.named st.there st.page t st.put)));
  }

  all_below : AllByRecursion (λ t. t < n) takings
  all_below = each_standing (λ t. t < n) below

  ascends : Ascends (fresh_units plan)
  ascends = subst Ascends (sym fresh_are) (units_ascend units (take_ascends n (free_units space) (free_units_ascend space)) takings p.makes.ascend
      (each_standing (λ t. t < length units) (λ t st. omega (arith, below t st, p.enough, length_taken n (free_units space) p.enough))))

  -- ---- over all rows that suit it

  left : (x : SlotNo) → Contains y.unshared x → IsNamedBy (width_of s) view c x.sbid
  left = left_named (width_of s) view c p.layouts p.begins.has y reach

  module _ (rows : Rows) (suits : Suits (width_of s) (names_of change) view plan rows) (over : IsGood s rows) where
    abbrev after : Rows
    after = rows_after rows difference

    same : HasSame (width_of s) c view rows
    same = same_where_agreed (width_of s) (names_of change) c view rows (is_own change) suits.agree

    begins : Begins (width_of s) rows c p.layouts p.start
    begins = begins_there (width_of s) c view rows same p.layouts p.start p.begins

    turned : AreTurned (width_of s) rows p.layouts units y (fresh_units plan) plan.released
    turned = record {
      taken = fresh_stand;
      left = λ v.
          let freed = freed_there (width_of s) c view rows same y.unshared left v in (
            λ k. elim ((p.makes.are_left v).0 k) [ inl one ↦ inl one | inr all ↦ inr (freed.0 all) ],
            λ l. (p.makes.are_left v).1 (elim l [ inl one ↦ inl one | inr all ↦ inr (freed.1 all) ]),
          );
    }

    unmarked : (v : ℕ) → Contains (fresh_units plan) v → ¬ IsMarked rows v
    unmarked = all_in (λ u. ¬ IsMarked rows u) (fresh_units plan) suits.unmarked

    unowned : (taking : ℕ) → Stands y taking → ¬ IsOwned (width_of s) rows (slice_index units taking)
    unowned taking st owned = unmarked (slice_index units taking) ((fresh_stand (slice_index units taking)).1 (taking, st, refl))
        (over.exact.owned_marked (slice_index units taking) owned)

    drafted : AreDrafted s rows after c p.layouts units held y
    drafted = record {
      good = over.good;
      counts = over.exact.counts;
      units_most = omega (arith, free.limits.units_most);
      coll = p.named;
      has = begins.has;
      stand = λ o page place name is. subst (λ (on : Place → PageUnit). StandsOn (width_of s) rows place (on place)) (sym (on_same change.ops p.start))
          (begins.stand o page place name is);
      reached = reach;
      balance = balanced c p.layouts change.ops p.start p.taken p.begins.none_left p.begins.drafts;
      gets = gets_there view difference p.makes.in_order p.makes.changes (width_of s) c rows same p.layouts units held y left p.makes.gets;
      on_data = on_data;
      sums = sums;
    }

    rows_are : rows_after after p.makes.flips ≡ rows_after rows plan.ops
    rows_are = sym (ap (rows_after rows) p.makes.ops_are ∙ rows_after-append rows difference p.makes.flips)

    keeps_good : NoBadRow s (rows_after rows plan.ops)
    keeps_good = subst (NoBadRow s) rows_are
        (last_good s rows after c p.layouts units held y drafted unowned apart (fresh_units plan) plan.released turned p.makes.flips p.makes.turns)

    keeps_exact : IsExactAs (width_of s) rows (rows_after rows plan.ops)
    keeps_exact = subst (IsExactAs (width_of s) rows) rows_are (last_exact s rows after c p.layouts units held y drafted unowned apart (fresh_units plan)
        plan.released turned p.makes.flips p.makes.turns unmarked rows over.exact)

    owns_units : OwnsItsUnits (width_of s) rows (rows_after rows plan.ops) plan
    owns_units = record {
      new = λ u owned. elim (last_owned s rows after c p.layouts units held y drafted unowned apart (fresh_units plan) plan.released turned p.makes.flips
          p.makes.turns u (subst (λ r. IsOwned (width_of s) r u) (sym rows_are) owned)) [ inl k ↦ inr k | inr was ↦ inl was ];
      left = λ u owned. elim (last_left s rows after c p.layouts units held y drafted unowned apart (fresh_units plan) plan.released turned p.makes.flips
          p.makes.turns u owned) [ inl still ↦ inl (subst (λ r. IsOwned (width_of s) r u) rows_are still) | inr k ↦ inr k ];
      taken = λ u k. subst (λ r. IsOwned (width_of s) r u) rows_are
          (last_taken s rows after c p.layouts units held y drafted unowned apart (fresh_units plan) plan.released turned p.makes.flips p.makes.turns u k);
      was = λ u k. last_was s rows after c p.layouts units held y drafted unowned apart (fresh_units plan) plan.released turned p.makes.flips
          p.makes.turns u k;
      gone = λ u k owned. last_gone s rows after c p.layouts units held y drafted unowned apart (fresh_units plan) plan.released turned p.makes.flips
          p.makes.turns u (over.exact.one_owner u) k (subst (λ r. IsOwned (width_of s) r u) (sym rows_are) owned);
      once = λ u. stands_once plan.released p.makes.left_ascend u;
    }

    -- shards name the blobs that they named
    names_kept : (d : List ℕ) (sbid : ℕ) → IsNamedBy (width_of s) (rows_after rows plan.ops) d sbid → IsNamedBy (width_of s) rows d sbid
    names_kept d sbid named = named_was s rows after c p.layouts units held y drafted d sbid (record {
      object = named.object;
      page = named.page;
      extents = named.extents;
      has_shard = alike_has_row (width_of s) (rows_after after p.makes.flips) after (shard d named.object named.page named.extents)
          (alike_back after (rows_after after p.makes.flips) (alike s rows after c p.layouts units held y drafted unowned apart (fresh_units plan) plan.released
          turned p.makes.flips p.makes.turns)) (object_key_is_other 0x4f d named.object _ (λ e. absurd (omega (arith, e))))
          (subst (λ r. HasShard (width_of s) r d named.object named.page named.extents) (sym rows_are) named.has_shard);
      names = named.names;
    })

    -- ---- plain objects

    module _ (objects : Objects) (shape : IsShape rows objects) where
      begun : Matches p.start (finite.get objects c)
      begun = matches_first s rows over.good c p.named p.layouts p.start begins objects shape

      all : AllLead change.ops p.start (finite.get objects c)
      all = all_lead laws lengths p.layouts change.ops p.start (finite.get objects c) p.taken first begun

      effect : transaction_effect change objects ≡ Ok (with_collection objects c all.then)
      effect = transaction_lead change objects all.then all.effect_is

      later_is : (later : Objects) → transaction_effect change objects ≡ Ok later → with_collection objects c all.then ≡ later
      later_is later is = let both : Ok (with_collection objects c all.then) ≡ Ok later = sym effect ∙ is in cc

      makes_shape : (later : Objects) → transaction_effect change objects ≡ Ok later → IsShape (rows_after rows plan.ops) later
      makes_shape later is = subst (λ r. IsShape r later) rows_are (alike_shape (width_of s) after (rows_after after p.makes.flips)
          (alike s rows after c p.layouts units held y drafted unowned apart (fresh_units plan) plan.released turned p.makes.flips p.makes.turns) later
          (subst (IsShape after) (later_is later is) (shape_after s rows after c p.layouts units held y drafted objects shape all.then all.matches)))

    makes_bytes : (objects later : Objects) (at later_at : ℕ → List ℕ) → ObjectsStand (width_of s) at rows objects
        → transaction_effect change objects ≡ Ok later → HoldsRead at plan → HoldsFresh later_at plan
        → ((unit : ℕ) → HasPage (width_of s) rows unit → later_at unit ≡ at unit)
        → ObjectsStand (width_of s) later_at (rows_after rows plan.ops) later
    makes_bytes objects later at later_at stand is read holds same =
        let one = all objects stand.shape in
        subst (λ r. ObjectsStand (width_of s) later_at r later) rows_are (alike_stand (width_of s) later_at after (rows_after after p.makes.flips) later
        (alike s rows after c p.layouts units held y drafted unowned apart (fresh_units plan) plan.released turned p.makes.flips p.makes.turns)
        (subst (ObjectsStand (width_of s) later_at after) (later_is objects stand.shape later is)
        (stand_after s rows after c p.layouts units held y drafted objects stand.shape one.then one.matches at later_at fresh_holds same
        (all_hold laws lengths bytes p.layouts change.ops p.start (finite.get objects c) p.taken first (begun objects stand.shape) plan.read none_held at
        were (λ o x b name there object. holds_first s rows over.good c p.named p.layouts p.start begins at none_held objects stand o x b name there object)
        one.then one.effect_is) stand.bytes)))
      where
        fresh_holds : (taking : ℕ) → Stands y taking → later_at (slice_index units taking) ≡ held taking
        fresh_holds taking st = all_in (λ t. later_at (slice_index units t) ≡ held t) takings
            (filled_each units held (λ u b. later_at u ≡ b) takings
            (subst (AllByRecursion (λ (f : FreshUnit). later_at f.unit ≡ f.bytes)) p.makes.fresh holds)) taking ((p.makes.are_standing taking).1 st)

        were : WereRead at (places_of change.ops p.start) plan.read
        were = record { among = λ unit k. subst (λ us. Contains us unit) (sym p.read.units) k; seen = read }

  -- ---- all of it

  named : AllByRecursion (λ op. IsKeyOfDraft c y (key_of op)) difference
  named = keys_named view difference p.makes.in_order p.makes.changes (width_of s) c p.layouts units held y p.makes.gets

  -- a blob whose row the operations change is one whose slots pages left
  its_slot : (sbid : ℕ) → IsKeyOfDraft c y (shared_key sbid) → IsKeyOfSlot y.unshared (shared_key sbid)
  its_slot sbid (inl mine) = absurd (no_blob_key c _ (key_in c (shared_key sbid) mine))
  its_slot sbid (inr of) = of

  -- such a one has a row
  has_row : (key : List ℕ) → IsKeyOfSlot y.unshared key → HasKey view key
  has_row key of =
      let x = of.among.1 in
      subst (HasKey view) (ap shared_key of.among.4 ∙ sym of.is)
      (named_there s view good.good c x.sbid (left x (of.among.0, of.among.2, of.among.3)))

  -- so they make none
  none_made : (sbid : ℕ) → MakesBlob view plan.ops sbid → ⊥
  none_made sbid makes =
      let key = changed_among (IsKeyOfDraft c y) (fresh_units plan) plan.released plan.ops difference p.makes.flips p.makes.ops_are named p.makes.turns
      sbid makes.changes in
      let there = has_row (shared_key sbid) (its_slot sbid key) in
      absurd (let none = sym there ∙ ap is_some makes.new in cc)

  module _ (home : ℕ → List ℕ) (at_home : AreAtHomeIn (width_of s) home (names_of change) view) where
    -- a blob whose slots pages left is at home in the collection
    blob_at_home : (key : List ℕ) → IsKeyOfSlot y.unshared key → IsKeyOfBlob home (names_of change) key
    blob_at_home key of =
        let x = of.among.1 in
        let is_home : home x.sbid ≡ c = at_home c x.sbid (is_own change) (left x (of.among.0, of.among.2, of.among.3)) in
        record {
          sbid = of.sbid;
          small = of.small;
          among = ap (λ n. is_named (home n) (names_of change)) (sym of.among.4) ∙ ap (λ d. is_named d (names_of change)) is_home ∙ is_own change;
          is = of.is;
        }

    keys : AllByRecursion (λ op. IsKeyOfSome (names_of change) (key_of op) ⊎ IsKeyOfBlob home (names_of change) (key_of op)) difference
    keys = all_map (λ op. IsKeyOfDraft c y (key_of op)) (λ op. IsKeyOfSome (names_of change) (key_of op) ⊎ IsKeyOfBlob home (names_of change) (key_of op))
        (λ op its. elim its [
          | inl mine ↦ inl (record { coll = c; among = is_own change; of = key_in c (key_of op) mine })
          | inr of ↦ inr (blob_at_home (key_of op) of)
        ]) difference named

    are_of : AreOf home (names_of change) (fresh_units plan) plan.released plan.ops
    are_of = record { named = (p.named, tt); own = difference; flips = p.makes.flips; is = p.makes.ops_are; keys = keys; turns = p.makes.turns }

  suits_itself : Suits (width_of s) (names_of change) view plan view
  suits_itself = record {
    agree = record { own = λ key its. refl; blobs = λ d sbid among named. refl };
    blobs = λ sbid changes. refl;
    unmarked = all_listed (λ u. ¬ IsMarked view u) (fresh_units plan) (λ v k. let t = (fresh_stand v).0 k in
        subst (λ u. ¬ IsMarked view u) (sym t.2) (free.free (slice_index units t.0) (is_free_unit t.0 t.1)).2);
  }

  keeps : PlanKeeps s (names_of change) view plan
  keeps = record {
    of = λ home at_home made. are_of home at_home;
    fit = subst AllFit (sym p.makes.ops_are) (all_append FitsRowOp difference p.makes.flips
        (difference_fits s view difference c p.layouts units held y (drafted view suits_itself good) p.makes.in_order p.makes.changes named)
        (flips_fit p.makes.turns.units p.makes.flips p.makes.turns.are_flips));
    fresh = fresh_whole;
    ascend = ascends;
    good = keeps_good;
    exact = keeps_exact;
    home = λ home rows suits over at_home made d sbid named. at_home d sbid (names_kept rows suits over d sbid named);
    owns = owns_units;
  }

  -- the bytes of its operations in a record
  pub short : length (ops_bytes plan.ops) ≤ 2 ^ 40 + rows_size view
  short =
      let both = both_false change p.small in
      omega (
        arith,
        ap (λ ops. length (ops_bytes ops)) p.makes.ops_are,
        ap length (flat_map-append op_bytes difference p.makes.flips),
        length-append (ops_bytes difference) (ops_bytes p.makes.flips),
        difference_short s view difference c p.layouts units held change.ops p.start p.begins (drafted view suits_itself good) p.taken
            (not_above 256 (length change.ops) both.0) (not_above payload_limit (sum_by payload_of change.ops) both.1) p.makes.in_order p.makes.changes
            named,
        flips_size p.makes.turns.units p.makes.flips p.makes.turns.are_flips,
        flips_count p.makes.turns.units p.makes.flips p.makes.turns.are_flips,
      )

  makes : PlanMakes s change view plan
  makes = record {
    accepts = λ rows o suits over shape. (_, effect rows suits over o shape);
    shape = λ rows o later suits over shape is. makes_shape rows suits over o shape later is;
    bytes = λ rows o later at later_at suits over stand is read holds same. makes_bytes rows suits over o later at later_at stand is read holds same;
  }

  takes : PlanTakes space next change view plan
  takes = record {
    free = all_listed (Contains (free_units space)) (fresh_units plan) (λ v k. let t = (fresh_stand v).0 k in
        subst (Contains (free_units space)) (sym t.2) (is_free_unit t.0 t.1));
    within = omega (
      arith,
      ap length p.makes.fresh,
      filled_count units held takings,
      few n takings p.makes.ascend all_below,
      takes_few counts change.ops p.start,
      p.begins.none_taken,
    );
    few = few_in_all counts change p.small;
    numbers = λ sbid makes. absurd (none_made sbid makes);
    low = p.low;
  }

  pub all_three : PlanKeeps s (names_of change) view plan × (PlanMakes s change view plan × PlanTakes space next change view plan)
  all_three = (keeps, (makes, takes))

pub plans_keep_by : EditLaws → LengthLaw → ByteLaws → CountLaws → PlansKeep
plans_keep_by laws lengths bytes counts s view space next change plan good free above known plans =
    all_three laws lengths bytes counts s view good space free next change plan plans

pub short_by : EditLaws → LengthLaw → ByteLaws → CountLaws → (s : Super) (view : Rows) (space : Space) (next : ℕ) (change : Change) (plan : Plan)
    → IsGood s view → AreFreeOver s view space → Plans (width_of s) change view space next plan → length (ops_bytes plan.ops) ≤ 2 ^ 40 + rows_size view
short_by laws lengths bytes counts s view space next change plan good free plans =
    short laws lengths bytes counts s view good space free next change plan plans

pub asks_are_few_by : CountLaws → AsksAreFew
asks_are_few_by counts w change rows need places asks =
    omega (arith, asks.need_is, takes_few counts change.ops asks.start, asks.begins.none_taken)
