-- Data and Take, of any number of contexts; a transaction that joins, and an entry of the book.
use Rattle.std.proofs.Common.{◌≡◌, ◌≢◌, inl, inr, ℕ, ◌+◌, ◌<◌, ◌≤◌, ◌==◌, Bool, true, false, cond, List, [], ◌∷◌, ◌++◌, length, map, take, Option, Some, None, IfSome, refl, sym, ap, subst, ◌∙◌, append-nil, length-append, arith}
use Rattle.flight_facts.proofs.Common.{AllByRecursion, flat_map, option_or, eq-eqb, ne_eqb, cases_lt, Ascends, Flight, flight_of, IsApart, Ticket, unit_count, FreshUnit, Context, Flying, Job, Meta, Begun}
use Rattle.std.proofs.lemmas.List.{map-append}
use Rattle.block_device.specs.declared.event.Event.TheVariants as event
use Rattle.store_steps.specs.declared.flight.FlushState.TheVariants as flush
use Rattle.store_steps.specs.declared.flight.Job.TheVariants as job
use Rattle.object_model.specs.Prelude.{Change}
use Rattle.object_model.specs.declared.book.Book.{Book}
use Rattle.object_model.specs.declared.book.Entry.{Entry}
use Rattle.object_model.specs.declared.command.Command.{Command}
use Rattle.object_model.specs.declared.command.Answer.{Answer}
use Rattle.plan_rows.specs.declared.plan.Plan.{Plan}
use Rattle.store_steps.specs.declared.flight.Switching.{Switching}
use Rattle.store_steps.specs.Prelude.{Batch, State, Unsent, unsent_units, run_bytes, unsent, next_unsent, choice, left_by, most_grouped, given_more, data_sent, taken_up, check_pieces, need_of, context_of, entered, accepted_with, units_taken, intent_of}
use Rattle.flight_facts.specs.Prelude.{IsAllGiven, batch_pieces, batch_stages, IsBatchOpen, IsBatchFar, IsSwitchFar, units_of_job, units_flying, is_of_batch, is_of_switch, flying_for, IsPartGiven, AreInPlace, IsNone, TouchesGiven, AnyByRecursion, IsWriteOf, IsGivenPiece, TouchesOnlyOf, IsOfJob, AreOfJobs, FlightsMatch, FitsRecord}
use Rattle.flight_facts.proofs.Untouched.{all_then, apart_before, apart_behind}
use Rattle.flight_facts.proofs.RunUnits.{IsRunOf, run_of_left, row_bytes, row_at, given_units}
use Rattle.flight_facts.proofs.RunPlaces.{run_whole}
use Rattle.flight_facts.proofs.Lists.{all_left, all_right, all_join, StandsIn, stands_any, any_front, all_at, AreElsewhere, elsewhere, with_in}
use Rattle.flight_facts.proofs.Landing.{units_both, part_both, jobs_then, jobs_sent}
use Rattle.flight_facts.proofs.OfJobs.{touched, no_units, GoesOn}
use Rattle.flight_facts.proofs.Stages.{flight_for, none_sent}
use Rattle.flight_facts.proofs.Picking.{ArePicked, picked, choice_done, picked_up, all_picked}
use Rattle.flight_facts.proofs.Needs.{needs_most}
use Rattle.flight_facts.proofs.Matching.{waiting_same, jobs_change}
use Rattle.flight_facts.proofs.Switching.{rests_batch}

-- ---- the context of a data write

-- it stands among others, and the run is the next of it
pub next_stands : (xs : List Context) (n : Unsent) → next_unsent xs ≡ Some n → StandsIn (λ x. IsRunOf x n) xs
next_stands [] n is = absurd (cc)
next_stands (x ∷ xs) n is = of_first (λ e. next_stands xs n e) (unsent x) refl is
  where
    of_first : (next_unsent xs ≡ Some n → StandsIn (λ x. IsRunOf x n) xs) → (o : Option Unsent) → unsent x ≡ o → option_or o (next_unsent xs) ≡ Some n → StandsIn (λ x. IsRunOf x n) (x ∷ xs)
    of_first later None e found =
        let rest : StandsIn (λ x. IsRunOf x n) xs = later found in
        record { front = x ∷ rest.front; item = rest.item; back = rest.back; is = ap (λ (ys : List Context). x ∷ ys) rest.is; holds = rest.holds }
    of_first later (Some k) e found = record { front = []; item = x; back = xs; is = refl; holds = run_of_left x n (e ∙ found) }

-- none of the other contexts has it
pub others_none : (count : ℕ) (place : ℕ) (xs : List Context) → AllByRecursion (λ y. y.place == place ≡ false) xs
    → AllByRecursion (λ y. units_of_job y.place (job.Data place count) ≡ 0) xs
others_none count place xs away = all_then (λ y. y.place == place ≡ false) (λ y. units_of_job y.place (job.Data place count) ≡ 0)
    (λ y e. ap (λ (b : Bool). cond b count 0) (ne_eqb place y.place (λ same. apart y.place place e same))) xs away
  where
    apart : (a b : ℕ) → a == b ≡ false → b ≡ a → ⊥
    apart a b e same = let t : a == b ≡ true = eq-eqb a b (sym same) in cc

more_fly : (flying : List Flying) (f : Flying) (xs : List Context) → AllByRecursion (λ y. units_of_job y.place f.job ≡ 0) xs
    → AllByRecursion (λ y. units_flying y.place (flying ++ f ∷ []) ≡ units_flying y.place flying) xs
more_fly flying f xs none = all_then (λ y. units_of_job y.place f.job ≡ 0) (λ y. units_flying y.place (flying ++ f ∷ []) ≡ units_flying y.place flying)
    (λ y e. units_both y.place flying (f ∷ []) ∙ less (units_flying y.place flying) (units_of_job y.place f.job) e) xs none
  where
    less : (n m : ℕ) → m ≡ 0 → n + (m + 0) ≡ n
    less n m is = omega (arith, is)

places_as : (x y : Context) (front back : List Context) → y.place ≡ x.place
    → map (λ (z : Context). z.place) (front ++ y ∷ back) ≡ map (λ (z : Context). z.place) (front ++ x ∷ back)
places_as x y front back same = map-append (λ (z : Context). z.place) front (y ∷ back)
    ∙ ap (λ (p : ℕ). map (λ (z : Context). z.place) front ++ p ∷ map (λ (z : Context). z.place) back) same
    ∙ sym (map-append (λ (z : Context). z.place) front (x ∷ back))

in_place_as : (entries : ℕ) (x y : Context) (front back : List Context) → y.place ≡ x.place → AreInPlace entries (front ++ x ∷ back)
    → AreInPlace entries (front ++ y ∷ back)
in_place_as entries x y front back same p = record {
  ascend = subst Ascends (sym (places_as x y front back same)) p.ascend;
  below = all_join (λ (z : Context). z.place < entries) front (y ∷ back) (all_left (λ (z : Context). z.place < entries) front (x ∷ back) p.below)
      (subst (λ (n : ℕ). n < entries) (sym same) behind.0, behind.1);
}
  where
    behind : AllByRecursion (λ (z : Context). z.place < entries) (x ∷ back)
    behind = all_right (λ (z : Context). z.place < entries) front (x ∷ back) p.below

-- ---- Data

-- a unit that isn't among those of a run is apart from its write
run_touches : (u : ℕ) (run : List FreshUnit) (ticket unit : ℕ) → AllByRecursion (λ f. length f.bytes ≡ 4096) run
    → ((k : ℕ) → u ≤ k → k < u + length run → ¬ (k ≡ unit)) → IsApart unit 4096 (flight_of ticket (event.Write u (run_bytes run)))
run_touches u run ticket unit whole none = elim (cases_lt unit u) [
  | inl before ↦ apart_before ticket u unit (run_bytes run) before
  | inr from ↦ elim (cases_lt unit (u + length run)) [
    | inl inside ↦ absurd (none unit from inside refl)
    | inr past ↦ apart_behind ticket u (length run) unit (run_bytes run) (row_bytes run whole) past
  ]
]

-- what touches given units touches units that are given then
touches_more : (x : Context) (n : Unsent) (g : Flight) → IsRunOf x n → TouchesGiven x g → TouchesGiven (given_more (length (unsent_units n)) x) g
touches_more x n g run touches unit none =
    touches unit (all_left (λ f. ¬ (f.unit ≡ unit)) (take x.given x.fresh) (unsent_units n)
    (subst (λ (fs : List FreshUnit). IsNone fs unit) (given_units x n run) none))

run_of_given : (x : Context) (n : Unsent) (ticket : ℕ) → IsRunOf x n → FitsRecord (intent_of x)
    → TouchesGiven (given_more (length (unsent_units n)) x) (flight_of ticket (event.Write n.first.unit (run_bytes (unsent_units n))))
run_of_given x n ticket run fits unit none =
    run_touches n.first.unit (unsent_units n) ticket unit (run_whole x n run fits)
    (row_at (λ k. ¬ (k ≡ unit)) n.first.unit (unsent_units n) run.row
    (all_right (λ f. ¬ (f.unit ≡ unit)) (take x.given x.fresh) (unsent_units n)
    (subst (λ (fs : List FreshUnit). IsNone fs unit) (given_units x n run) none)))

-- a write of one of them is one still, where one context gave more
pub writes_more : (front : List Context) (x y : Context) (back : List Context) → y.place ≡ x.place → ((g : Flight) → TouchesGiven x g → TouchesGiven y g)
    → (place count : ℕ) (g : Flight) → IsWriteOf (front ++ x ∷ back) place count g → IsWriteOf (front ++ y ∷ back) place count g
writes_more front x y back same more place count g w = record { some = w.some; of = from front w.of }
  where
    Of : Context → Type 0
    Of z = (z.place ≡ place) × TouchesGiven z g

    from : (fs : List Context) → AnyByRecursion (λ z. (z.place ≡ place) × TouchesGiven z g) (fs ++ x ∷ back)
        → AnyByRecursion (λ z. (z.place ≡ place) × TouchesGiven z g) (fs ++ y ∷ back)
    from [] (inl here) = inl (same ∙ here.0, more g here.1)
    from [] (inr rest) = inr rest
    from (f ∷ fs) (inl here) = inl here
    from (f ∷ fs) (inr rest) = inr (from fs rest)

-- contexts that go on: units that one of them gave, and writes of these
pub writes_go_on : (m : Meta) (pending later : List Context)
    → ((place count : ℕ) (g : Flight) → IsWriteOf pending place count g → IsWriteOf later place count g) → GoesOn m m pending later
writes_go_on m pending later writes = record { writes = writes; pieces = λ g p. p; runs = λ g p. p; slot = refl }

-- one context has changed with what flies, and the units of no other that fly
pub one_changed : (s : State) (flights : List Flight) (front : List Context) (x y : Context) (back : List Context) (flying' : List Flying) (flights' : List Flight)
    (events : ℕ) → s.pending ≡ front ++ x ∷ back → FlightsMatch s flights → y.place ≡ x.place
    → ((xs : List Context) → AllByRecursion (λ z. z.place == x.place ≡ false) xs → AllByRecursion (λ z. units_flying z.place flying' ≡ units_flying z.place s.flying) xs)
    → (IsPartGiven s.flying x → IsPartGiven flying' y) → flying_for is_of_batch flying' ≡ flying_for is_of_batch s.flying
    → flying_for is_of_switch flying' ≡ flying_for is_of_switch s.flying
    → (AreOfJobs s.log (front ++ x ∷ back) s.flying flights → AreOfJobs s.log (front ++ y ∷ back) flying' flights')
    → (let t : State = record s { pending = front ++ y ∷ back; flying = flying'; events = events } in FlightsMatch t flights')
one_changed s flights front x y back flying' flights' events is m same others part batch switch touches =
    let places : AreInPlace (length s.book.entries) (front ++ x ∷ back) = subst (AreInPlace (length s.book.entries)) is m.places in
    let away : AreElsewhere x.place front back = elsewhere front x back places.ascend in
    let waiting : AllByRecursion (IsPartGiven s.flying) (front ++ x ∷ back) = subst (AllByRecursion (IsPartGiven s.flying)) is m.waiting in
    let behind : AllByRecursion (IsPartGiven s.flying) (x ∷ back) = all_right (IsPartGiven s.flying) front (x ∷ back) waiting in
    record {
      places = in_place_as (length s.book.entries) x y front back same places;
      waiting = all_join (IsPartGiven flying') front (y ∷ back)
          (waiting_same s.flying flying' front (others front away.ahead) (all_left (IsPartGiven s.flying) front (x ∷ back) waiting))
          (part behind.0, waiting_same s.flying flying' back (others back away.behind) behind.1);
      batch = subst (IsBatchFar s.log.sup.half s.log.tail s.log.number s.batch s.log.begun) (sym batch) m.batch;
      switch = subst (IsSwitchFar (length (check_pieces s.log)) s.log.check s.switching) (sym switch) m.switch;
      alone = m.alone;
      touches = touches (subst (λ (xs : List Context). AreOfJobs s.log xs s.flying flights) is m.touches);
    }

data_among : (s : State) (flights : List Flight) (n : Unsent) (ticket : Ticket) (front : List Context) (x : Context) (back : List Context)
    → s.pending ≡ front ++ x ∷ back → IsRunOf x n → FitsRecord (intent_of x) → FlightsMatch s flights
    → (let t : State = record s {
      pending = front ++ given_more (length (unsent_units n)) x ∷ back;
      flying = s.flying ++ flight_for ticket (job.Data x.place (length (unsent_units n))) ∷ [];
      events = s.events + 1;
    } in FlightsMatch t (flights ++ flight_of ticket.place (event.Write n.first.unit (run_bytes (unsent_units n))) ∷ []))
data_among s flights n ticket front x back is run fits m =
    let count : ℕ = length (unsent_units n) in
    let y : Context = given_more count x in
    let f : Flying = flight_for ticket (job.Data x.place count) in
    let g : Flight = flight_of ticket.place (event.Write n.first.unit (run_bytes (unsent_units n))) in
    one_changed s flights front x y back (s.flying ++ f ∷ []) (flights ++ g ∷ []) (s.events + 1) is m refl
    (λ xs away. more_fly s.flying f xs (others_none count x.place xs away))
    (λ part. record {
      within = run.within;
      counted = counted x.done (units_flying x.place s.flying) x.given count _ _ part.counted (units_both x.place s.flying (f ∷ []))
          (ap (λ (b : Bool). cond b count 0) (eq-eqb x.place x.place refl));
    })
    (part_both is_of_batch s.flying (f ∷ []) ∙ append-nil (flying_for is_of_batch s.flying))
    (part_both is_of_switch s.flying (f ∷ []) ∙ append-nil (flying_for is_of_switch s.flying))
    (λ of. jobs_sent s.log (front ++ y ∷ back) s.flying flights f g
    (jobs_change s.log s.log (front ++ x ∷ back) (front ++ y ∷ back)
    (writes_go_on s.log (front ++ x ∷ back) (front ++ y ∷ back) (writes_more front x y back refl (λ h t. touches_more x n h run t))) s.flying flights of)
    (record { some = omega arith; of = stands_any (λ z. (z.place ≡ x.place) × TouchesGiven z g) front y back (refl, run_of_given x n ticket.place run fits) }))
  where
    counted : (done units given count count' units' : ℕ) → done + units ≡ given → units' ≡ units + (count' + 0) → count' ≡ count → done + units' ≡ given + count
    counted done units given count count' units' is is' same = omega (arith, is, is', same)

pub data_matches : (s : State) (flights : List Flight) (n : Unsent) (ticket : Ticket) → FlightsMatch s flights → AllByRecursion (λ z. FitsRecord (intent_of z)) s.pending
    → next_unsent s.pending ≡ Some n
    → FlightsMatch (data_sent n.place (length (unsent_units n)) ticket s) (flights ++ flight_of ticket.place (event.Write n.first.unit (run_bytes (unsent_units n))) ∷ [])
data_matches s flights n ticket m fits is =
    let at : StandsIn (λ x. IsRunOf x n) s.pending = next_stands s.pending n is in
    let x : Context = at.item in
    let count : ℕ = length (unsent_units n) in
    let flights' : List Flight = flights ++ flight_of ticket.place (event.Write n.first.unit (run_bytes (unsent_units n))) ∷ [] in
    subst (λ (p : ℕ). FlightsMatch (data_sent p count ticket s) flights') at.holds.place
    (subst (λ (xs : List Context).
    let t : State = record s { pending = xs; flying = s.flying ++ flight_for ticket (job.Data x.place count) ∷ []; events = s.events + 1 } in
    FlightsMatch t flights')
    (sym (with_in (given_more count) at.front x at.back s.pending at.is m.places.ascend))
    (data_among s flights n ticket at.front x at.back at.is at.holds (all_at (λ z. FitsRecord (intent_of z)) at.front x at.back s.pending at.is fits) m))

-- ---- Take

none_flies : (place : ℕ) (fs : List Flying) → units_flying place fs ≡ 0 → AllByRecursion (λ f. units_of_job place f.job ≡ 0) fs
none_flies place [] none = tt
none_flies place (f ∷ fs) none = (first (units_of_job place f.job) (units_flying place fs) none, none_flies place fs (rest (units_of_job place f.job) (units_flying place fs) none))
  where
    first : (a b : ℕ) → a + b ≡ 0 → a ≡ 0
    first a b is = omega (arith, is)

    rest : (a b : ℕ) → a + b ≡ 0 → b ≡ 0
    rest a b is = omega (arith, is)

-- what flies of none of a context's units is a write of another
less_write : (front : List Context) (x : Context) (back : List Context) (place count : ℕ) (g : Flight) → units_of_job x.place (job.Data place count) ≡ 0
    → IsWriteOf (front ++ x ∷ back) place count g → IsWriteOf (front ++ back) place count g
less_write front x back place count g none w = record { some = w.some; of = from front w.of }
  where
    full : x.place ≡ place → units_of_job x.place (job.Data place count) ≡ count
    full is = ap (λ (b : Bool). cond b count 0) (eq-eqb place x.place (sym is))

    never : (n m : ℕ) → n ≡ 0 → n ≡ m → 0 < m → ⊥
    never n m is same some = omega (arith, is, same, some)

    from : (fs : List Context) → AnyByRecursion (λ z. (z.place ≡ place) × TouchesGiven z g) (fs ++ x ∷ back)
        → AnyByRecursion (λ z. (z.place ≡ place) × TouchesGiven z g) (fs ++ back)
    from [] (inl here) = absurd (never (units_of_job x.place (job.Data place count)) count none (full here.0) w.some)
    from [] (inr rest) = rest
    from (f ∷ fs) (inl here) = inl here
    from (f ∷ fs) (inr rest) = inr (from fs rest)

less_job : (m : Meta) (front : List Context) (x : Context) (back : List Context) (j : Job) (g : Flight) → units_of_job x.place j ≡ 0
    → IsOfJob m (front ++ x ∷ back) j g → IsOfJob m (front ++ back) j g
less_job m front x back (job.Data place count) g none w = less_write front x back place count g none w
less_job m front x back other g none is = is

-- all units of a context that is done have reached the device, so none of them flies
done_given : (flying : List Flying) (x : Context) → x.done ≡ length x.fresh → IsPartGiven flying x → IsAllGiven x × (units_flying x.place flying ≡ 0)
done_given flying x done part = (
  record { given = all_given x.done (units_flying x.place flying) x.given (length x.fresh) done part.within part.counted; done = done },
  none x.done (units_flying x.place flying) x.given (length x.fresh) done part.within part.counted,
)
  where
    all_given : (done units given all : ℕ) → done ≡ all → given ≤ all → done + units ≡ given → given ≡ all
    all_given done units given all is within counted = omega (arith, is, within, counted)

    none : (done units given all : ℕ) → done ≡ all → given ≤ all → done + units ≡ given → units ≡ 0
    none done units given all is within counted = omega (arith, is, within, counted)

pub each_given : (flying : List Flying) (xs : List Context) → AllByRecursion (λ x. x.done ≡ length x.fresh) xs → AllByRecursion (IsPartGiven flying) xs
    → AllByRecursion IsAllGiven xs
each_given flying [] done parts = tt
each_given flying (x ∷ xs) done parts = ((done_given flying x done.0 parts.0).0, each_given flying xs done.1 parts.1)

-- what flies is of those left
jobs_left : (m : Meta) (flying : List Flying) (flights : List Flight) (xs ys left : List Context) → ArePicked xs ys left
    → AllByRecursion (IsPartGiven flying) xs → AreOfJobs m xs flying flights → AreOfJobs m left flying flights
jobs_left m flying flights xs [] left are parts of = subst (λ (zs : List Context). AreOfJobs m zs flying flights) (sym are) of
jobs_left m flying flights xs (y ∷ ys) left (at, are) parts of =
    let them : AllByRecursion (IsPartGiven flying) (at.front ++ y ∷ at.back) = subst (AllByRecursion (IsPartGiven flying)) at.is parts in
    let behind : AllByRecursion (IsPartGiven flying) (y ∷ at.back) = all_right (IsPartGiven flying) at.front (y ∷ at.back) them in
    let idle : units_flying y.place flying ≡ 0 = (done_given flying y at.done behind.0).1 in
    jobs_left m flying flights (at.front ++ at.back) ys left are
    (all_join (IsPartGiven flying) at.front at.back (all_left (IsPartGiven flying) at.front (y ∷ at.back) them) behind.1)
    (jobs_then m m (at.front ++ y ∷ at.back) (at.front ++ at.back) flying flights
    (all_then (λ f. units_of_job y.place f.job ≡ 0) (λ f. (g : Flight) → IsOfJob m (at.front ++ y ∷ at.back) f.job g → IsOfJob m (at.front ++ at.back) f.job g)
    (λ f e g of. less_job m at.front y at.back f.job g e of) flying (none_flies y.place flying idle))
    (subst (λ (zs : List Context). AreOfJobs m zs flying flights) at.is of))

-- a batch that was just opened
abbrev pub new_batch : List Context → Batch
new_batch xs = record { contexts = xs; first = flush.NotSent; second = flush.NotSent }

take_among : (s : State) (flights : List Flight) (ys left : List Context) (book : Book) → ArePicked s.pending ys left → ys ≢ []
    → AllByRecursion (λ x. x.done ≡ length x.fresh) ys → book.entries ≡ s.book.entries → AllByRecursion (λ z. FitsRecord (intent_of z)) s.pending
    → s.log.tail + unit_count s.log.number (flat_map (λ x. x.ops) ys) ≤ s.log.sup.half → s.batch ≡ None → s.switching ≡ None → FlightsMatch s flights
    → (let t : State = record s { pending = left; batch = Some (new_batch ys); book = book } in FlightsMatch t flights)
take_among s flights ys left book are some done entries fits room none rests m =
    let rest = rests_batch s flights m none in
    let parts = all_picked (IsPartGiven s.flying) s.pending ys left are m.waiting in
    record {
      places = record {
        ascend = picked_up s.pending ys left are m.places.ascend;
        below = subst (λ (es : List Entry). AllByRecursion (λ z. z.place < length es) left) (sym entries)
            (all_picked (λ z. z.place < length s.book.entries) s.pending ys left are m.places.below).1;
      };
      waiting = parts.1;
      batch = subst (λ (o : Option Begun). IsBatchOpen s.log.sup.half s.log.tail s.log.number (new_batch ys) o (flying_for is_of_batch s.flying)) (sym rest.0)
          (subst (IsBatchOpen s.log.sup.half s.log.tail s.log.number (new_batch ys) None) (sym rest.1) (record {
            needed = needs_most s.log.number ys some (all_picked (λ z. FitsRecord (intent_of z)) s.pending ys left are fits).0;
            fits = room;
            written = each_given s.flying ys done parts.0;
            made = tt;
            far = none_sent (batch_stages (batch_pieces s.log.number (new_batch ys)) (new_batch ys) None) (tt, ((refl, refl), (tt, tt)));
          }));
      switch = m.switch;
      alone = subst (λ (o : Option Switching). IfSome o (λ w. Some (new_batch ys) ≡ None)) (sym rests) tt;
      touches = jobs_left s.log s.flying flights s.pending ys left are m.waiting m.touches;
    }

pub take_matches : (s : State) (flights : List Flight) → FlightsMatch s flights → AllByRecursion (λ z. FitsRecord (intent_of z)) s.pending
    → s.batch ≡ None → s.switching ≡ None → choice most_grouped s.pending ≢ [] → s.log.tail + units_taken s ≤ s.log.sup.half
    → FlightsMatch (taken_up s) flights
take_matches s flights m fits none rests some room =
    take_among s flights (choice most_grouped s.pending) (left_by most_grouped s.pending) (taken_up s).book
    (picked most_grouped s.pending m.places.ascend) some (choice_done most_grouped s.pending) refl fits room none rests m

-- ---- a transaction that joins, and an entry of the book

ascend_push : (xs : List Context) (x : Context) → Ascends (map (λ z. z.place) xs) → AllByRecursion (λ z. z.place < x.place) xs
    → Ascends (map (λ z. z.place) (xs ++ x ∷ []))
ascend_push [] x up all = (tt, tt)
ascend_push (y ∷ ys) x up all = (pushed ys up.0, ascend_push ys x up.1 all.1)
  where
    pushed : (zs : List Context) → AllByRecursion (λ v. y.place < v) (map (λ z. z.place) zs) → AllByRecursion (λ v. y.place < v) (map (λ z. z.place) (zs ++ x ∷ []))
    pushed [] up = (all.0, tt)
    pushed (z ∷ zs) up = (up.0, pushed zs up.1)

-- nothing flies of a place that none has
none_of_new : (m : Meta) (pending : List Context) (n : ℕ) (flying : List Flying) (flights : List Flight) → AllByRecursion (λ z. z.place < n) pending
    → AreOfJobs m pending flying flights → units_flying n flying ≡ 0
none_of_new m pending n [] flights below are = refl
none_of_new m pending n (f ∷ fs) [] below are = absurd are
none_of_new m pending n (f ∷ fs) (g ∷ gs) below are = sum (units_of_job n f.job) (units_flying n fs) by (none_of_new m pending n fs gs below are.1)
  where
    sum : (a b : ℕ) → a ≡ 0 → b ≡ 0 → a + b ≡ 0
    sum a b is is' = omega (arith, is, is')

    low : (place : ℕ) (xs : List Context) → AllByRecursion (λ z. z.place < n) xs → AnyByRecursion (λ z. (z.place ≡ place) × TouchesGiven z g) xs → place < n
    low place [] all any = absurd any
    low place (x ∷ xs) all (inl here) = subst (λ (p : ℕ). p < n) here.0 all.0
    low place (x ∷ xs) all (inr more) = low place xs all.1 more

    apart : (a b : ℕ) → a < b → a ≡ b → ⊥
    apart a b lt is = omega (arith, lt, is)

    by : units_of_job n f.job ≡ 0
    by = no_units m pending f.job g (touched m pending f.job g are.0) n
        (λ place count its w. ap (λ (j : Job). units_of_job n j) its
        ∙ ap (λ (b : Bool). cond b count 0) (ne_eqb place n (λ same. apart place n (low place pending below w.of) same)))

pub one_more_waits : (client line : ℕ) (change : Change) (plan : Plan) (s : State) (flights : List Flight) → FlightsMatch s flights
    → FlightsMatch (accepted_with client line change plan s) flights
one_more_waits client line change plan s flights m =
    let x : Context = context_of (length s.book.entries) change s.log plan in
    let m' : Meta = record s.log { reserved = s.log.reserved + need_of s.log plan } in
    let t : State = accepted_with client line change plan s in
    let more : length t.book.entries ≡ length s.book.entries + 1 = length-append s.book.entries _ in
    record {
      places = record {
        ascend = ascend_push s.pending x m.places.ascend m.places.below;
        below = subst (λ (n : ℕ). AllByRecursion (λ z. z.place < n) (s.pending ++ x ∷ [])) (sym more)
            (all_join (λ z. z.place < length s.book.entries + 1) s.pending (x ∷ [])
            (all_then (λ z. z.place < length s.book.entries) (λ z. z.place < length s.book.entries + 1) (λ z lt. omega (arith, lt)) s.pending m.places.below)
            (omega arith, tt));
      };
      waiting = all_join (IsPartGiven s.flying) s.pending (x ∷ []) m.waiting (
        record {
          within = omega arith;
          counted = counted (units_flying (length s.book.entries) s.flying)
              (none_of_new s.log s.pending (length s.book.entries) s.flying flights m.places.below m.touches);
        },
        tt,
      );
      batch = m.batch;
      switch = m.switch;
      alone = m.alone;
      touches = jobs_change s.log m' s.pending (s.pending ++ x ∷ []) (record {
        writes = λ p count g w. record { some = w.some; of = any_front (λ z. (z.place ≡ p) × TouchesGiven z g) s.pending (x ∷ []) w.of };
        pieces = λ g p. still s.log.begun g p;
        runs = λ g p. p;
        slot = refl;
      }) s.flying flights m.touches;
    }
  where
    counted : (n : ℕ) → n ≡ 0 → 0 + n ≡ 0
    counted n is = omega (arith, is)

    still : (o : Option Begun) (g : Flight) → TouchesOnlyOf (IsGivenPiece s.log) o g
        → (let m' : Meta = record s.log { reserved = s.log.reserved + need_of s.log plan } in TouchesOnlyOf (IsGivenPiece m') o g)
    still None g is = absurd is
    still (Some r) g is = λ unit out. is unit (λ p. out (record { j = p.j; behind = p.behind; within = p.within; is = p.is }))

pub one_more_entry : (client line : ℕ) (command : Command) (a : Answer) (s : State) (flights : List Flight) → FlightsMatch s flights
    → FlightsMatch (entered client line command a s) flights
one_more_entry client line command a s flights m =
    let t : State = entered client line command a s in
    let more : length t.book.entries ≡ length s.book.entries + 1 = length-append s.book.entries _ in
    record {
      places = record {
        ascend = m.places.ascend;
        below = all_then (λ z. z.place < length s.book.entries) (λ z. z.place < length t.book.entries) (λ z lt. omega (arith, lt, more)) s.pending m.places.below;
      };
      waiting = m.waiting;
      batch = m.batch;
      switch = m.switch;
      alone = m.alone;
      touches = m.touches;
    }
