-- The units of transactions under way are apart: those of one are none of another's, and none is one of the log's.
use Rattle.std.proofs.Common.{◌≡◌, ℕ, zero, suc, ◌+◌, ◌*◌, ◌%◌, ◌<◌, ◌≤◌, List, [], ◌∷◌, ◌++◌, take, Contains, Option, Some, None, IfSome, refl, sym, ap, subst, ◌∙◌, append_assoc, arith}
use Rattle.run_facts.proofs.Common.{AllByRecursion, option_map_or, Disk, RowOp, Super, unit_count, active_unit, IsDataUnit, FreshUnit, Context, Begun}
use Rattle.std.proofs.lemmas.List.Elements.{Contains-append_left, Contains-append_right}
use Rattle.unit_allocator.proofs.Lists.{Contains-head, Contains-tail}
use Rattle.meta_log.specs.Prelude.{data_unit, other_unit, other_slot}
use Rattle.meta_store.specs.Store.{Checking}
use Rattle.space_facts.proofs.Prelude.{times, times_append, times_some}
use Rattle.store_steps.specs.Prelude.{Batch, State, uncommitted, all_fresh, given_fresh}
use Rattle.flight_facts.specs.Prelude.{IsNone, IsGivenPiece, IsGivenRun, IsNoTarget}
use Rattle.flight_facts.proofs.Prelude.{all_left, all_right, all_join, all_take, all_then, no_switch, rests_switch}
use Rattle.run_facts.specs.Prelude.{IsKept, IsKeptUp}
use Rattle.run_facts.proofs.PartsKept.{flat_intents}
use Rattle.run_facts.proofs.Conditions.{IsMade, made_batch, has_record}
use Rattle.run_facts.proofs.RowsFacts.{units_of, taken_by, pending_on_data}

-- ---- units of contexts, by lists

taken_both : (xs ys : List Context) → taken_by (xs ++ ys) ≡ taken_by xs ++ taken_by ys
taken_both [] ys = refl
taken_both (x ∷ xs) ys = ap (λ us. units_of x.fresh ++ us) (taken_both xs ys) ∙ sym (append_assoc (units_of x.fresh) (taken_by xs) (taken_by ys))

pub times_both : (u : ℕ) (xs ys : List Context) → times u (taken_by (xs ++ ys)) ≡ times u (taken_by xs) + times u (taken_by ys)
times_both u xs ys = ap (times u) (taken_both xs ys) ∙ times_append u (taken_by xs) (taken_by ys)

-- where each unit was taken once, what the first ones took is none of what those behind them took
pub lists_apart : (front back : List Context) → ((u : ℕ) → times u (taken_by (front ++ back)) ≤ 1) → (u : ℕ) → Contains (taken_by front) u
    → Contains (taken_by back) u → ⊥
lists_apart front back once u one two =
    omega (arith, times_some u (taken_by front) one, times_some u (taken_by back) two, times_both u front back, once u)

-- a unit that isn't among these is none that they gave
none_of : (k u : ℕ) (fs : List FreshUnit) → (Contains (units_of fs) u → ⊥) → IsNone (take k fs) u
none_of zero u fs out = tt
none_of (suc k) u [] out = tt
none_of (suc k) u (f ∷ fs) out = (
  λ same. out (subst (Contains (units_of (f ∷ fs))) same (Contains-head f.unit (units_of fs))),
  none_of k u fs (λ c. out (Contains-tail f.unit u (units_of fs) c)),
)

pub none_given : (u : ℕ) (xs : List Context) → (Contains (taken_by xs) u → ⊥) → AllByRecursion (λ x. IsNone (take x.given x.fresh) u) xs
none_given u [] out = tt
none_given u (x ∷ xs) out = (
  none_of x.given u x.fresh (λ c. out (Contains-append_left (units_of x.fresh) (taken_by xs) u c)),
  none_given u xs (λ c. out (Contains-append_right (units_of x.fresh) (taken_by xs) u c)),
)

-- what holds of each unit that was taken holds of the fresh units
pub fresh_taken : (P : ℕ → Type 0) (fs : List FreshUnit) → ((u : ℕ) → Contains (units_of fs) u → P u) → AllByRecursion (λ f. P f.unit) fs
fresh_taken P [] all = tt
fresh_taken P (f ∷ fs) all = (all f.unit (Contains-head f.unit (units_of fs)), fresh_taken P fs (λ u c. all u (Contains-tail f.unit u (units_of fs) c)))

pub taken_fresh : (P : ℕ → Type 0) (xs : List Context) → ((u : ℕ) → Contains (taken_by xs) u → P u) → AllByRecursion (λ f. P f.unit) (all_fresh xs)
taken_fresh P [] all = tt
taken_fresh P (x ∷ xs) all = all_join (λ f. P f.unit) x.fresh (all_fresh xs)
    (fresh_taken P x.fresh (λ u c. all u (Contains-append_left (units_of x.fresh) (taken_by xs) u c)))
    (taken_fresh P xs (λ u c. all u (Contains-append_right (units_of x.fresh) (taken_by xs) u c)))

-- what they gave is among what they took
pub given_of_all : (P : FreshUnit → Type 0) (xs : List Context) → AllByRecursion P (all_fresh xs) → AllByRecursion P (given_fresh xs)
given_of_all P [] all = tt
given_of_all P (x ∷ xs) all = all_join P (take x.given x.fresh) (given_fresh xs) (all_take P x.given x.fresh (all_left P x.fresh (all_fresh xs) all))
    (given_of_all P xs (all_right P x.fresh (all_fresh xs) all))

pub given_taken : (P : ℕ → Type 0) (xs : List Context) → ((u : ℕ) → Contains (taken_by xs) u → P u) → AllByRecursion (λ f. P f.unit) (given_fresh xs)
given_taken P xs all = given_of_all (λ f. P f.unit) xs (taken_fresh P xs all)

-- ---- the log lies before the data units

half_before : (sup : Super) → active_unit sup + sup.half ≤ data_unit sup
half_before sup = of_half (sup.epoch % 2) (omega arith)
  where
    of_half : (which : ℕ) → which < 2 → 2 + sup.half * which + sup.half ≤ 2 + 2 * sup.half
    of_half zero lt = omega arith
    of_half (suc zero) lt = omega arith
    of_half (suc (suc n)) lt = absurd (omega (arith, lt))

other_before : (sup : Super) → other_unit sup + sup.half ≤ data_unit sup
other_before sup = of_half (other_slot sup) (omega arith)
  where
    of_half : (which : ℕ) → which < 2 → 2 + sup.half * which + sup.half ≤ 2 + 2 * sup.half
    of_half zero lt = omega arith
    of_half (suc zero) lt = omega arith
    of_half (suc (suc n)) lt = absurd (omega (arith, lt))

module _ (s : State) (d : Disk) (kept : IsKept s d) (up : s.down ≡ None) where
  abbrev kept_up : IsKeptUp s d
  kept_up = kept.up up

  pub taken_once : (u : ℕ) → times u (taken_by (uncommitted s)) ≤ 1
  taken_once u = subst (λ us. times u us ≤ 1) (flat_intents (λ x. units_of x.fresh) (uncommitted s)) (kept_up.rows.apart.apart u)

  -- what the first ones took is none of what those behind them took
  pub parts_apart : (front back : List Context) → uncommitted s ≡ front ++ back → (u : ℕ) → Contains (taken_by front) u → Contains (taken_by back) u → ⊥
  parts_apart front back are = lists_apart front back (λ u. subst (λ (xs : List Context). times u (taken_by xs) ≤ 1) are (taken_once u))

  -- so it is with the contexts of the batch and those that wait
  pub batch_apart : (b : Batch) → s.batch ≡ Some b → (u : ℕ) → Contains (taken_by b.contexts) u → Contains (taken_by s.pending) u → ⊥
  batch_apart b is = parts_apart b.contexts s.pending
      (ap (λ (o : Option Batch). option_map_or (λ (c : Batch). c.contexts) o [] ++ s.pending) is)

  -- what one that waits took is none of the others'
  pub record AreOthers (front back : List Context) (u : ℕ) : Type 0 where
    pub batch : Contains (taken_by (option_map_or (λ (b : Batch). b.contexts) s.batch [])) u → ⊥
    pub ahead : Contains (taken_by front) u → ⊥
    pub behind : Contains (taken_by back) u → ⊥

  pub others_apart : (front : List Context) (x : Context) (back : List Context) → s.pending ≡ front ++ x ∷ back → (u : ℕ) → Contains (units_of x.fresh) u
      → AreOthers front back u
  others_apart front x back is u c = record {
    batch = λ e. omega (arith, own, once, times_some u (taken_by batch) e);
    ahead = λ e. omega (arith, own, once, times_some u (taken_by front) e);
    behind = λ e. omega (arith, own, once, times_some u (taken_by back) e);
  }
    where
      batch : List Context
      batch = option_map_or (λ (b : Batch). b.contexts) s.batch []

      own : 1 ≤ times u (units_of x.fresh)
      own = times_some u (units_of x.fresh) c

      once : times u (taken_by batch) + (times u (taken_by front) + (times u (units_of x.fresh) + times u (taken_by back))) ≤ 1
      once = omega (
        arith,
        subst (λ (xs : List Context). times u (taken_by (batch ++ xs)) ≤ 1) is (taken_once u),
        times_both u batch (front ++ x ∷ back),
        times_both u front (x ∷ back),
        times_append u (units_of x.fresh) (taken_by back),
      )

  -- the record that is made lies in the active half
  pub record_behind : (r : Begun) → s.log.begun ≡ Some r → s.log.tail + unit_count s.log.number r.ops ≤ s.log.sup.half
  record_behind r begun =
      let made : IsMade s r = made_batch s d r kept_up begun in
      subst (λ (ops : List RowOp). s.log.tail + unit_count s.log.number ops ≤ s.log.sup.half) (sym made.ops)
      (has_record s d made.batch kept.always kept_up made.is_open).room

  -- no unit before the data units is one that a context gave
  pub log_not_given : (unit : ℕ) → unit < data_unit s.log.sup → AllByRecursion (λ x. IsNone (take x.given x.fresh) unit) s.pending
  log_not_given unit below = all_then (λ x. AllByRecursion (λ f. IsDataUnit s.log.sup f.unit) x.fresh)
      (λ x. IsNone (take x.given x.fresh) unit) (λ x on. front x.given x.fresh on) s.pending (pending_on_data s d kept up)
    where
      never : (u unit first : ℕ) → first ≤ u → u ≡ unit → unit < first → ⊥
      never u unit first low is lt = omega (arith, low, is, lt)

      front : (k : ℕ) (fs : List FreshUnit) → AllByRecursion (λ f. IsDataUnit s.log.sup f.unit) fs → IsNone (take k fs) unit
      front zero fs on = tt
      front (suc k) [] on = tt
      front (suc k) (f ∷ fs) on = ((λ same. never f.unit unit (data_unit s.log.sup) (on.0).0 same below), front k fs on.1)

  pub other_not_given : (k : ℕ) → k < s.log.sup.half → AllByRecursion (λ x. IsNone (take x.given x.fresh) (other_unit s.log.sup + k)) s.pending
  other_not_given k below = log_not_given (other_unit s.log.sup + k) (before (other_unit s.log.sup) k s.log.sup.half (data_unit s.log.sup) below (other_before s.log.sup))
    where
      before : (other k half first : ℕ) → k < half → other + half ≤ first → other + k < first
      before other k half first lt le = omega (arith, lt, le)

  pub slot_not_given : AllByRecursion (λ x. IsNone (take x.given x.fresh) (other_slot s.log.sup)) s.pending
  slot_not_given = log_not_given (other_slot s.log.sup) (omega arith)

  -- so no data unit is one of its units
  pub not_in_record : (u : ℕ) → IsDataUnit s.log.sup u → IfSome s.log.begun (λ r. ¬ IsGivenPiece s.log r u)
  not_in_record u on = of_begun s.log.begun refl
    where
      never : (u active tail j units half first : ℕ) → first ≤ u → u ≡ active + (tail + j) → j < units → tail + units ≤ half → active + half ≤ first → ⊥
      never u active tail j units half first low is below room before = omega (arith, low, is, below, room, before)

      of_begun : (o : Option Begun) → s.log.begun ≡ o → IfSome o (λ r. ¬ IsGivenPiece s.log r u)
      of_begun None is = tt
      of_begun (Some r) is = λ piece. never u (active_unit s.log.sup) s.log.tail piece.j (unit_count s.log.number r.ops) s.log.sup.half (data_unit s.log.sup)
          on.0 piece.is piece.within (record_behind r is) (half_before s.log.sup)

  -- and no unit of the half is one that a context gave
  pub not_given : (j : ℕ) → s.log.tail + j < s.log.sup.half
      → AllByRecursion (λ x. IsNone (take x.given x.fresh) (active_unit s.log.sup + (s.log.tail + j))) s.pending
  not_given j below = log_not_given (active_unit s.log.sup + (s.log.tail + j))
      (before (active_unit s.log.sup) (s.log.tail + j) s.log.sup.half (data_unit s.log.sup) below (half_before s.log.sup))
    where
      before : (active at half first : ℕ) → at < half → active + half ≤ first → active + at < first
      before active at half first lt le = omega (arith, lt, le)

  -- so no job may touch a data unit that no context gave
  pub data_no_target : (u : ℕ) → IsDataUnit s.log.sup u → AllByRecursion (λ x. IsNone (take x.given x.fresh) u) s.pending → IsNoTarget s.log s.pending u
  data_no_target u on none = record {
    waiting = none;
    piece = not_in_record u on;
    run = of_check s.log.check;
    slot = λ is. never u (other_slot s.log.sup) (data_unit s.log.sup) on.0 is (omega arith);
  }
    where
      never : (u unit first : ℕ) → first ≤ u → u ≡ unit → unit < first → ⊥
      never u unit first low is lt = omega (arith, low, is, lt)

      far : (u other k half first : ℕ) → first ≤ u → u ≡ other + k → k < half → other + half ≤ first → ⊥
      far u other k half first low is lt le = omega (arith, low, is, lt, le)

      of_check : (o : Option Checking) → IfSome o (λ c. ¬ IsGivenRun s.log c u)
      of_check None = tt
      of_check (Some c) = λ run. far u (other_unit s.log.sup) run.k s.log.sup.half (data_unit s.log.sup) on.0 run.is run.within (other_before s.log.sup)

  -- nor, while a batch is open, a unit of the half that isn't a given piece of its record
  pub record_no_target : (b : Batch) → s.batch ≡ Some b → (j : ℕ) → s.log.tail + j < s.log.sup.half
      → IfSome s.log.begun (λ r. ¬ IsGivenPiece s.log r (active_unit s.log.sup + (s.log.tail + j)))
      → IsNoTarget s.log s.pending (active_unit s.log.sup + (s.log.tail + j))
  record_no_target b is j below piece = record {
    waiting = not_given j below;
    piece = piece;
    run = subst (λ (o : Option Checking). IfSome o (λ c. ¬ IsGivenRun s.log c (active_unit s.log.sup + (s.log.tail + j))))
        (sym (rests_switch s d.flights kept_up.flights (no_switch s d.flights b kept_up.flights is)).0) tt;
    slot = λ same. never (active_unit s.log.sup) (s.log.tail + j) (other_slot s.log.sup) same (omega arith) (omega arith);
  }
    where
      never : (active at slot : ℕ) → active + at ≡ slot → 2 ≤ active → slot < 2 → ⊥
      never active at slot is low lt = omega (arith, is, low, lt)
