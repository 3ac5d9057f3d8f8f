-- The bytes that reads find in memory: those of the units that transactions took which aren't committed. What each call makes of them, and that
-- all other units of pages can be read.
use Rattle.std.proofs.Common.{◌≡◌, ◌≢◌, ◌⊎◌, inl, inr, ℕ, Bool, true, false, cond, ◌==◌, ◌≤◌, List, [], ◌∷◌, ◌++◌, length, map, take, Contains, Option, Some, None, is_some, refl, sym, ap, subst, ◌∙◌, arith}
use Rattle.run_facts.proofs.Common.{AllByRecursion, flat_map, option_map_or, option_or, eq-eqb, ne_eqb, same_Some, Ascends, Ticket, Disk, IsUntouched, Change, width_of, IsDataUnit, free_units, FreshUnit, Plan, PlansKeep, IsKnown, Context}
use Rattle.std.proofs.lemmas.Bool.{cases_eq}
use Rattle.std.proofs.lemmas.List.Concat.{flat_map-append}
use Rattle.std.proofs.lemmas.List.Elements.{Contains-append_left}
use Rattle.std.proofs.Math.Path.{fun_ext}
use Rattle.store_image.specs.Prelude.{HasPage}
use Rattle.unit_allocator.proofs.FreeUnits.{listed_is_within}
use Rattle.plan_rows.proofs.OnData.{page_on_data as data_unit_of}
use Rattle.store_steps.specs.Prelude.{Batch, State, with_context, given_more, choice, left_by, most_grouped, data_sent, reaped, taken_up, committed_batch, context_of, accepted_with, Accepts, Intent, intents, intent_of, uncommitted, all_fresh, bytes_in, memory_of}
use Rattle.space_facts.proofs.Prelude.{in_or_not, times, listed_is_idle, taken_busy}
use Rattle.flight_facts.specs.Prelude.{IsNone, FitsRecord}
use Rattle.flight_facts.proofs.Prelude.{intents_kept, good_end, all_left, all_right, all_join, all_take, unflown, ArePicked, picked}
use Rattle.run_facts.specs.Prelude.{IsKept}
use Rattle.run_facts.proofs.SpaceUnits.{within_data}
use Rattle.run_facts.proofs.PartsKept.{flat_intents}
use Rattle.run_facts.proofs.RowsFacts.{units_of, taken_by}
use Rattle.run_facts.proofs.Apart.{fresh_taken, taken_fresh, times_both, lists_apart, taken_once, batch_apart, data_no_target}
use Rattle.run_facts.proofs.RowsAccepted.{accepted_keeps, accepted_takes}
use Rattle.run_facts.proofs.RowsNow.{kept_submitted}

-- ---- the bytes of a unit among fresh ones

-- the first has its bytes, and all others are looked for behind it
bytes_first : (f : FreshUnit) (fs : List FreshUnit) (unit : ℕ) → f.unit ≡ unit → bytes_in (f ∷ fs) unit ≡ Some f.bytes
bytes_first f fs unit same = ap (λ (b : Bool). cond b (Some f.bytes) (bytes_in fs unit)) (eq-eqb f.unit unit same)

bytes_behind : (f : FreshUnit) (fs : List FreshUnit) (unit : ℕ) → f.unit ≢ unit → bytes_in (f ∷ fs) unit ≡ bytes_in fs unit
bytes_behind f fs unit other = ap (λ (b : Bool). cond b (Some f.bytes) (bytes_in fs unit)) (ne_eqb f.unit unit other)

-- those of two lists
pub bytes_both : (fs gs : List FreshUnit) (unit : ℕ) → bytes_in (fs ++ gs) unit ≡ option_or (bytes_in fs unit) (bytes_in gs unit)
bytes_both [] gs unit = refl
bytes_both (f ∷ fs) gs unit = by_test (f.unit == unit) (bytes_both fs gs unit)
  where
    by_test : (b : Bool) → bytes_in (fs ++ gs) unit ≡ option_or (bytes_in fs unit) (bytes_in gs unit)
        → cond b (Some f.bytes) (bytes_in (fs ++ gs) unit) ≡ option_or (cond b (Some f.bytes) (bytes_in fs unit)) (bytes_in gs unit)
    by_test true more = refl
    by_test false more = more

-- a unit that is none of them
pub bytes_none : (fs : List FreshUnit) (unit : ℕ) → IsNone fs unit → bytes_in fs unit ≡ None
bytes_none [] unit none = refl
bytes_none (f ∷ fs) unit none = bytes_behind f fs unit none.0 ∙ bytes_none fs unit none.1

pub none_of_bytes : (fs : List FreshUnit) (unit : ℕ) → bytes_in fs unit ≡ None → IsNone fs unit
none_of_bytes [] unit is = tt
none_of_bytes (f ∷ fs) unit is = elim (cases_eq f.unit unit) [
  | inl same ↦ absurd (let both : Some f.bytes ≡ None = sym (bytes_first f fs unit same) ∙ is in cc)
  | inr other ↦ (other, none_of_bytes fs unit (sym (bytes_behind f fs unit other) ∙ is))
]

-- what holds of all bytes holds of these
pub bytes_all : (P : List ℕ → Type 0) (fs : List FreshUnit) (unit : ℕ) (bytes : List ℕ) → AllByRecursion (λ f. P f.bytes) fs
    → bytes_in fs unit ≡ Some bytes → P bytes
bytes_all P [] unit bytes all is = absurd cc
bytes_all P (f ∷ fs) unit bytes all is = elim (cases_eq f.unit unit) [
  | inl same ↦ subst P (same_Some f.bytes bytes (sym (bytes_first f fs unit same) ∙ is)) all.0
  | inr other ↦ bytes_all P fs unit bytes all.1 (sym (bytes_behind f fs unit other) ∙ is)
]

-- ---- of contexts

fresh_both : (xs ys : List Context) → all_fresh (xs ++ ys) ≡ all_fresh xs ++ all_fresh ys
fresh_both xs ys = flat_map-append (λ (x : Context). x.fresh) xs ys

-- those of some, and of others behind them
pub contexts_both : (xs ys : List Context) (unit : ℕ)
    → bytes_in (all_fresh (xs ++ ys)) unit ≡ option_or (bytes_in (all_fresh xs) unit) (bytes_in (all_fresh ys) unit)
contexts_both xs ys unit =
    ap (λ (fs : List FreshUnit). bytes_in fs unit) (fresh_both xs ys) ∙ bytes_both (all_fresh xs) (all_fresh ys) unit

-- a unit that they didn't take
pub untaken_bytes : (xs : List Context) (unit : ℕ) → (Contains (taken_by xs) unit → ⊥) → bytes_in (all_fresh xs) unit ≡ None
untaken_bytes xs unit out = bytes_none (all_fresh xs) unit
    (taken_fresh (λ u. ¬ (u ≡ unit)) xs (λ u c same. out (subst (Contains (taken_by xs)) same c)))

-- one that has bytes was taken
bytes_taken : (xs : List Context) (unit : ℕ) (bytes : List ℕ) → bytes_in (all_fresh xs) unit ≡ Some bytes → Contains (taken_by xs) unit
bytes_taken xs unit bytes is = elim (in_or_not (taken_by xs) unit) [
  | inl c ↦ c
  | inr out ↦ absurd (let both : None ≡ Some bytes = sym (untaken_bytes xs unit out) ∙ is in cc)
]

-- they are whole units
each_whole : (xs : List Context) → AllByRecursion FitsRecord (intents xs) → AllByRecursion (λ f. length f.bytes ≡ 4096) (all_fresh xs)
each_whole [] fits = tt
each_whole (x ∷ xs) fits = all_join (λ f. length f.bytes ≡ 4096) x.fresh (all_fresh xs) (fits.0).whole (each_whole xs fits.1)

-- a unit that is none of theirs is none that they gave
none_given : (unit : ℕ) (xs : List Context) → IsNone (all_fresh xs) unit → AllByRecursion (λ x. IsNone (take x.given x.fresh) unit) xs
none_given unit [] none = tt
none_given unit (x ∷ xs) none = (
  all_take (λ f. ¬ (f.unit ≡ unit)) x.given x.fresh (all_left (λ f. ¬ (f.unit ≡ unit)) x.fresh (all_fresh xs) none),
  none_given unit xs (all_right (λ f. ¬ (f.unit ≡ unit)) x.fresh (all_fresh xs) none),
)

-- ---- what is in memory, and what isn't

abbrev batched : State → List Context
batched s = option_map_or (λ (b : Batch). b.contexts) s.batch []

module _ (s : State) (d : Disk) (kept : IsKept s d) (up : s.down ≡ None) where
  -- whole units are in memory
  pub memory_whole : (unit : ℕ) (bytes : List ℕ) → memory_of s unit ≡ Some bytes → length bytes ≡ 4096
  memory_whole unit bytes is = bytes_all (λ bs. length bs ≡ 4096) (all_fresh (uncommitted s)) unit bytes
      (each_whole (uncommitted s) (kept.up up).room.fits) is

  -- a unit of a page is a data unit
  pub page_on_data : (unit : ℕ) → HasPage (width_of s.log.sup) s.submitted unit → IsDataUnit s.log.sup unit
  page_on_data unit has = data_unit_of s.log.sup s.submitted unit (kept_submitted s d kept up).good has

  -- one that isn't in memory is in no flight, so that it can be read
  pub readable_now : (unit : ℕ) → HasPage (width_of s.log.sup) s.submitted unit → memory_of s unit ≡ None → IsUntouched d.flights unit
  readable_now unit has none = unflown s.log s.pending s.flying d.flights unit (kept.up up).flights.touches
      (data_no_target s d kept up unit (page_on_data unit has) (all_right (λ x. IsNone (take x.given x.fresh) unit) (batched s) s.pending
      (none_given unit (uncommitted s) (none_of_bytes (all_fresh (uncommitted s)) unit none))))

  -- a free unit isn't in memory
  pub free_not_in_memory : (unit : ℕ) → Contains (free_units s.space) unit → memory_of s unit ≡ None
  free_not_in_memory unit free = untaken_bytes (uncommitted s) unit (λ c.
      ((kept.up up).rows.counted unit (within_data s.log.sup s.space unit kept.always.space (listed_is_within s.space unit free))).0
      (listed_is_idle s.space unit free)
      (taken_busy s.log.rows (intents (uncommitted s)) unit
      (subst (λ us. Contains us unit) (sym (flat_intents (λ x. units_of x.fresh) (uncommitted s))) c)))

  -- so none of those that a plan takes is
  pub fresh_not_in_memory : (fresh : List FreshUnit) → AllByRecursion (λ u. Contains (free_units s.space) u) (map (λ f. f.unit) fresh)
      → AllByRecursion (λ f. memory_of s f.unit ≡ None) fresh
  fresh_not_in_memory [] free = tt
  fresh_not_in_memory (f ∷ fresh) free = (free_not_in_memory f.unit free.0, fresh_not_in_memory fresh free.1)

  module _ (plans : PlansKeep) (client line : ℕ) (change : Change) (s' : State) (known : IsKnown change.ops)
      (does : Accepts client line change s d s') where
    pub accepted_not_in_memory : AllByRecursion (λ f. memory_of s f.unit ≡ None) does.plan.fresh
    accepted_not_in_memory = fresh_not_in_memory does.plan.fresh
        (accepted_takes plans s d client line change s' kept.always.limits kept.always.space (kept.up up).rows known does).free

    pub accepted_ascend : Ascends (map (λ f. f.unit) does.plan.fresh)
    accepted_ascend = (accepted_keeps plans s d client line change s' kept.always.limits kept.always.space (kept.up up).rows known does).ascend

-- ---- how it changes

-- a transaction that is accepted adds its units
pub memory_accepted : (client line : ℕ) (change : Change) (plan : Plan) (s : State) (unit : ℕ)
    → memory_of (accepted_with client line change plan s) unit ≡ option_or (memory_of s unit) (bytes_in plan.fresh unit)
memory_accepted client line change plan s unit =
    let x : Context = context_of (length s.book.entries) change s.log plan in
    contexts_both (batched s) (s.pending ++ x ∷ []) unit
    ∙ ap (option_or (bytes_in (all_fresh (batched s)) unit)) (contexts_both s.pending (x ∷ []) unit
    ∙ ap (option_or (bytes_in (all_fresh s.pending) unit)) (bytes_both plan.fresh [] unit ∙ last (bytes_in plan.fresh unit)))
    ∙ grouped (bytes_in (all_fresh (batched s)) unit) (bytes_in (all_fresh s.pending) unit) (bytes_in plan.fresh unit)
    ∙ ap (λ (o : Option (List ℕ)). option_or o (bytes_in plan.fresh unit)) (sym (contexts_both (batched s) s.pending unit))
  where
    last : (o : Option (List ℕ)) → option_or o None ≡ o
    last None = refl
    last (Some bytes) = refl

    grouped : (a b c : Option (List ℕ)) → option_or a (option_or b c) ≡ option_or (option_or a b) c
    grouped None b c = refl
    grouped (Some bytes) b c = refl

-- where what is under way is to do the same it is the same
pub memory_same : (s s' : State) → intents (uncommitted s') ≡ intents (uncommitted s) → memory_of s' ≡ memory_of s
memory_same s s' same = ap bytes_in (sym (flat_intents (λ (x : Intent). x.fresh) (uncommitted s'))
    ∙ ap (flat_map (λ (x : Intent). x.fresh)) same ∙ flat_intents (λ (x : Intent). x.fresh) (uncommitted s))

-- so it is while the units of a context are written
pub memory_changed : (s : State) (place : ℕ) (change : Context → Context) → ((x : Context) → intent_of (change x) ≡ intent_of x)
    → (let t : State = record s { pending = with_context place change s.pending } in memory_of t ≡ memory_of s)
memory_changed s place change same =
    let t : State = record s { pending = with_context place change s.pending } in
    memory_same s t (intents_kept place change same (batched s) s.pending)

pub memory_given : (place count : ℕ) (ticket : Ticket) (s : State) → memory_of (data_sent place count ticket s) ≡ memory_of s
memory_given place count ticket s = memory_changed s place (given_more count) (λ x. refl)

-- and at the end of a submission, whatever it was for
pub memory_reaped : (ticket : Ticket) (good : Bool) (s : State) → memory_of (reaped ticket good s) ≡ memory_of s
memory_reaped ticket false s = refl
memory_reaped ticket true s = memory_same s (reaped ticket true s) (good_end ticket s).waiting

-- where a batch is open, its contexts come first
pub memory_batch : (s : State) (b : Batch) → s.batch ≡ Some b → memory_of s ≡ bytes_in (all_fresh (b.contexts ++ s.pending))
memory_batch s b is = ap (λ (o : Option Batch). bytes_in (all_fresh (option_map_or (λ c. c.contexts) o [] ++ s.pending))) is

-- where each unit was taken once, the order of those that took them is nothing to it
bytes_turned : (xs ys left : List Context) → ArePicked xs ys left → ((u : ℕ) → times u (taken_by xs) ≤ 1) → (unit : ℕ)
    → bytes_in (all_fresh (ys ++ left)) unit ≡ bytes_in (all_fresh xs) unit
bytes_turned xs [] left are once unit = ap (λ (zs : List Context). bytes_in (all_fresh zs) unit) are
bytes_turned xs (y ∷ ys) left (at, are) once unit =
    bytes_both y.fresh (all_fresh (ys ++ left)) unit
    ∙ ap (option_or (bytes_in y.fresh unit)) (bytes_turned (at.front ++ at.back) ys left are others unit ∙ contexts_both at.front at.back unit)
    ∙ sym (turned (bytes_in (all_fresh at.front) unit) (bytes_in y.fresh unit) (bytes_in (all_fresh at.back) unit) either)
    ∙ ap (option_or (bytes_in (all_fresh at.front) unit)) (sym (bytes_both y.fresh (all_fresh at.back) unit))
    ∙ sym (contexts_both at.front (y ∷ at.back) unit)
    ∙ ap (λ (zs : List Context). bytes_in (all_fresh zs) unit) (sym at.is)
  where
    here : (u : ℕ) → times u (taken_by (at.front ++ y ∷ at.back)) ≤ 1
    here u = subst (λ (zs : List Context). times u (taken_by zs) ≤ 1) at.is (once u)

    others : (u : ℕ) → times u (taken_by (at.front ++ at.back)) ≤ 1
    others u = omega (arith, here u, times_both u at.front (y ∷ at.back), times_both u (y ∷ []) at.back, times_both u at.front at.back)

    turned : (a b c : Option (List ℕ)) → (a ≡ None) ⊎ (b ≡ None) → option_or a (option_or b c) ≡ option_or b (option_or a c)
    turned a b c (inl e) = ap (λ (o : Option (List ℕ)). option_or o (option_or b c)) e
        ∙ sym (ap (λ (o : Option (List ℕ)). option_or b (option_or o c)) e)
    turned a b c (inr e) = ap (λ (o : Option (List ℕ)). option_or a (option_or o c)) e
        ∙ sym (ap (λ (o : Option (List ℕ)). option_or o (option_or a c)) e)

    either : (bytes_in (all_fresh at.front) unit ≡ None) ⊎ (bytes_in y.fresh unit ≡ None)
    either = elim (in_or_not (taken_by at.front) unit) [
      | inl c ↦ inr (bytes_none y.fresh unit (fresh_taken (λ u. ¬ (u ≡ unit)) y.fresh (λ u mine same.
          lists_apart at.front (y ∷ at.back) here unit c
          (Contains-append_left (units_of y.fresh) (taken_by at.back) unit (subst (Contains (units_of y.fresh)) same mine)))))
      | inr out ↦ inl (untaken_bytes at.front unit out)
    ]

module _ (s : State) (d : Disk) (kept : IsKept s d) (up : s.down ≡ None) where
  -- a batch is opened
  pub memory_taken : s.batch ≡ None → memory_of (taken_up s) ≡ memory_of s
  memory_taken none = fun_ext (λ unit.
      bytes_turned s.pending (choice most_grouped s.pending) (left_by most_grouped s.pending)
      (picked most_grouped s.pending (kept.up up).flights.places.ascend) once unit
      ∙ sym (ap (λ (o : Option Batch). bytes_in (all_fresh (option_map_or (λ (b : Batch). b.contexts) o [] ++ s.pending)) unit) none))
    where
      once : (u : ℕ) → times u (taken_by s.pending) ≤ 1
      once u = subst (λ (o : Option Batch). times u (taken_by (option_map_or (λ (b : Batch). b.contexts) o [] ++ s.pending)) ≤ 1) none
          (taken_once s d kept up u)

  -- it is committed: its units are in memory no more, and all others are as they were
  pub memory_committed : (b : Batch) → s.batch ≡ Some b → (unit : ℕ)
      → memory_of (committed_batch b s) unit ≡ cond (is_some (bytes_in (all_fresh b.contexts) unit)) None (memory_of s unit)
  memory_committed b is unit = of_bytes (bytes_in (all_fresh b.contexts) unit) refl
      ∙ ap (cond (is_some (bytes_in (all_fresh b.contexts) unit)) None)
      (sym (ap (λ (m : ℕ → Option (List ℕ)). m unit) (memory_batch s b is) ∙ contexts_both b.contexts s.pending unit))
    where
      of_bytes : (o : Option (List ℕ)) → bytes_in (all_fresh b.contexts) unit ≡ o
          → bytes_in (all_fresh s.pending) unit ≡ cond (is_some o) None (option_or o (bytes_in (all_fresh s.pending) unit))
      of_bytes None e = refl
      of_bytes (Some bytes) e = untaken_bytes s.pending unit (batch_apart s d kept up b is unit (bytes_taken b.contexts unit bytes e))
