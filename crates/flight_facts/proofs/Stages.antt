-- Stages in turn, as their submissions come and go.
use Rattle.std.proofs.Common.{◌≡◌, ◌⊎◌, inl, inr, ℕ, ◌+◌, ◌<◌, ◌≤◌, true, List, [], ◌∷◌, ◌++◌, length, refl, sym, ap, subst, arith}
use Rattle.flight_facts.proofs.Common.{AllByRecursion, Ticket, FlushState, Flying, Job, is_flushed}
use Rattle.store_steps.specs.declared.flight.FlushState.TheVariants as flush
use Rattle.store_steps.specs.Prelude.{is_not_sent}
use Rattle.flight_facts.specs.Prelude.{Stage, by_one, by_pieces, job_of, IsUnsent, IsEnded, IsOnWay, AreInTurn, stage_work, stages_work}
use Rattle.flight_facts.proofs.Lists.{all_left, all_right, all_join, all_at, length_push, length_middle}

-- the flight of a submission
abbrev pub flight_for : Ticket → Job → Flying
flight_for ticket job = record { ticket = ticket; job = job }

pub no_front : (front : List Flying) (f : Flying) (back : List Flying) → front ++ f ∷ back ≡ [] → ⊥
no_front [] f back is = cc
no_front (e ∷ front) f back is = cc

-- ---- stages of which nothing flies

none_on_way : (s : Stage) → IsUnsent s → IsOnWay s []
none_on_way (by_one j flush.NotSent) unsent = refl
none_on_way (by_one j state) unsent = absurd unsent
none_on_way (by_pieces j pieces given written) unsent = (few given pieces unsent.0, counted given written unsent.0 unsent.1, tt)
  where
    few : (given pieces : ℕ) → given ≡ 0 → given ≤ pieces
    few given pieces is = omega (arith, is)

    counted : (given written : ℕ) → given ≡ 0 → written ≡ 0 → written + 0 ≡ given
    counted given written is is' = omega (arith, is, is')

pub none_sent : (stages : List Stage) → AllByRecursion IsUnsent stages → AreInTurn stages []
none_sent [] unsent = refl
none_sent (s ∷ more) unsent = inl (none_on_way s unsent.0, unsent.1)

no_flying : (fs : List Flying) → length fs ≡ 0 → fs ≡ []
no_flying [] is = refl
no_flying (f ∷ fs) is = absurd (omega (arith, is))

ended_empty : (s : Stage) (flying : List Flying) → IsEnded s → IsOnWay s flying → flying ≡ []
ended_empty (by_one j flush.Flushed) flying ended way = way
ended_empty (by_one j state) flying ended way = absurd ended
ended_empty (by_pieces j pieces given written) flying ended way = no_flying flying (none pieces given written (length flying) ended.0 ended.1 way.1)
  where
    none : (pieces given written n : ℕ) → given ≡ pieces → written ≡ pieces → written + n ≡ given → n ≡ 0
    none pieces given written n is is' counted = omega (arith, is, is', counted)

-- one that has ended is passed over
pub behind_ended : (s : Stage) (more : List Stage) (flying : List Flying) → IsEnded s → AreInTurn (s ∷ more) flying → AreInTurn more flying
behind_ended s more flying ended (inl here) = subst (AreInTurn more) (sym (ended_empty s flying ended here.0)) (none_sent more here.1)
behind_ended s more flying ended (inr rest) = rest.1

-- so nothing flies where all have ended
pub all_ended : (stages : List Stage) (flying : List Flying) → AllByRecursion IsEnded stages → AreInTurn stages flying → flying ≡ []
all_ended [] flying ended turn = turn
all_ended (s ∷ more) flying ended turn = all_ended more flying ended.1 (behind_ended s more flying ended.0 turn)

-- nor before the next submission of those behind stages that have ended
pub nothing_before : (ahead : List Stage) (j : Job) (behind : List Stage) (flying : List Flying) → AllByRecursion IsEnded ahead
    → AreInTurn (ahead ++ by_one j flush.NotSent ∷ behind) flying → flying ≡ []
nothing_before [] j behind flying ended (inl here) = here.0
nothing_before [] j behind flying ended (inr rest) = absurd rest.0
nothing_before (a ∷ ahead) j behind flying ended turn =
    nothing_before ahead j behind flying ended.1 (behind_ended a (ahead ++ by_one j flush.NotSent ∷ behind) flying ended.0 turn)

-- ---- what has begun, and what has ended

-- those ahead of one that has begun have ended
pub ended_ahead : (ahead : List Stage) (s : Stage) (behind : List Stage) (flying : List Flying) → ¬ IsUnsent s
    → AreInTurn (ahead ++ s ∷ behind) flying → AllByRecursion IsEnded ahead
ended_ahead [] s behind flying begun turn = tt
ended_ahead (a ∷ ahead) s behind flying begun (inl here) = absurd (begun (all_at IsUnsent ahead s behind (ahead ++ s ∷ behind) refl here.1))
ended_ahead (a ∷ ahead) s behind flying begun (inr rest) = (rest.0, ended_ahead ahead s behind flying begun rest.1)

-- of those behind one that hasn't ended nothing was submitted
pub unsent_behind : (ahead : List Stage) (s : Stage) (behind : List Stage) (flying : List Flying) → ¬ IsEnded s
    → AreInTurn (ahead ++ s ∷ behind) flying → AllByRecursion IsUnsent behind
unsent_behind [] s behind flying going (inl here) = here.1
unsent_behind [] s behind flying going (inr rest) = absurd (going rest.0)
unsent_behind (a ∷ ahead) s behind flying going (inl here) = (all_right IsUnsent ahead (s ∷ behind) here.1).1
unsent_behind (a ∷ ahead) s behind flying going (inr rest) = unsent_behind ahead s behind flying going rest.1

-- one all of whose pieces are written has ended
pub written_ended : (ahead : List Stage) (j : Job) (pieces given written : ℕ) (behind : List Stage) (flying : List Flying) → written ≡ pieces
    → AreInTurn (ahead ++ by_pieces j pieces given written ∷ behind) flying → IsEnded (by_pieces j pieces given written)
written_ended [] j pieces given written behind flying all (inl here) = (full (here.0).0 (here.0).1, all)
  where
    full : given ≤ pieces → written + length flying ≡ given → given ≡ pieces
    full most counted = omega (arith, most, counted, all)
written_ended [] j pieces given written behind flying all (inr rest) = rest.0
written_ended (a ∷ ahead) j pieces given written behind flying all (inl here) =
    let unsent : IsUnsent (by_pieces j pieces given written) = all_at IsUnsent ahead (by_pieces j pieces given written) behind _ refl here.1 in
    (same given written pieces unsent.0 unsent.1 all, all)
  where
    same : (given written pieces : ℕ) → given ≡ 0 → written ≡ 0 → written ≡ pieces → given ≡ pieces
    same given written pieces is is' all = omega (arith, is, is', all)
written_ended (a ∷ ahead) j pieces given written behind flying all (inr rest) = written_ended ahead j pieces given written behind flying all rest.1

-- ---- a submission

-- one more can be made
abbrev pub HasNext : Stage → Type 0
HasNext (by_one j flush.NotSent) = Unit {0}
HasNext (by_one j state) = ⊥
HasNext (by_pieces j pieces given written) = given < pieces

-- it was made
abbrev pub next_sent : Ticket → Stage → Stage
next_sent ticket (by_one j state) = by_one j (flush.Sent ticket)
next_sent ticket (by_pieces j pieces given written) = by_pieces j pieces (given + 1) written

more_on_way : (s : Stage) (flying : List Flying) (ticket : Ticket) → HasNext s → IsOnWay s flying
    → IsOnWay (next_sent ticket s) (flying ++ flight_for ticket (job_of s) ∷ [])
more_on_way (by_one j flush.NotSent) flying ticket next way = ap (λ (fs : List Flying). fs ++ flight_for ticket j ∷ []) way
more_on_way (by_one j state) flying ticket next way = absurd next
more_on_way (by_pieces j pieces given written) flying ticket next way = (
  few given pieces next,
  counted written (length flying) _ given way.1 (length_push flying (flight_for ticket j)),
  all_join (λ f. f.job ≡ j) flying (flight_for ticket j ∷ []) way.2 (refl, tt),
)
  where
    few : (given pieces : ℕ) → given < pieces → given + 1 ≤ pieces
    few given pieces lt = omega (arith, lt)

    counted : (written flying flying' given : ℕ) → written + flying ≡ given → flying' ≡ flying + 1 → written + flying' ≡ given + 1
    counted written flying flying' given is is' = omega (arith, is, is')

never_next : (s : Stage) → IsEnded s → ¬ HasNext s
never_next (by_one j flush.Flushed) ended next = next
never_next (by_one j state) ended next = ended
never_next (by_pieces j pieces given written) ended next = no_more given pieces ended.0 next
  where
    no_more : (given pieces : ℕ) → given ≡ pieces → given < pieces → ⊥
    no_more given pieces is lt = omega (arith, is, lt)

-- one more is made behind stages that have ended
pub sends : (ahead : List Stage) (s : Stage) (behind : List Stage) (flying : List Flying) (ticket : Ticket) → AllByRecursion IsEnded ahead → HasNext s
    → AreInTurn (ahead ++ s ∷ behind) flying → AreInTurn (ahead ++ next_sent ticket s ∷ behind) (flying ++ flight_for ticket (job_of s) ∷ [])
sends [] s behind flying ticket ended next (inl here) = inl (more_on_way s flying ticket next here.0, here.1)
sends [] s behind flying ticket ended next (inr rest) = absurd (never_next s rest.0 next)
sends (a ∷ ahead) s behind flying ticket ended next turn =
    inr (ended.0, sends ahead s behind flying ticket ended.1 next (behind_ended a (ahead ++ s ∷ behind) flying ended.0 turn))

less_left : (s : Stage) (ticket : Ticket) → HasNext s → stage_work (next_sent ticket s) + 2 ≡ stage_work s
less_left (by_one j flush.NotSent) ticket next = refl
less_left (by_one j state) ticket next = absurd next
less_left (by_pieces j pieces given written) ticket next = omega (arith, next)

-- it pays for itself and for its end
pub sends_paid : (ahead : List Stage) (s : Stage) (behind : List Stage) (ticket : Ticket) → HasNext s
    → stages_work (ahead ++ next_sent ticket s ∷ behind) + 2 ≡ stages_work (ahead ++ s ∷ behind)
sends_paid [] s behind ticket next = sum (stage_work (next_sent ticket s)) (stages_work behind) (stage_work s) (less_left s ticket next)
  where
    sum : (a b c : ℕ) → a + 2 ≡ c → (a + b) + 2 ≡ c + b
    sum a b c is = omega (arith, is)
sends_paid (a ∷ ahead) s behind ticket next = sum (stage_work a) _ _ (sends_paid ahead s behind ticket next)
  where
    sum : (a b c : ℕ) → b + 2 ≡ c → (a + b) + 2 ≡ a + c
    sum a b c is = omega (arith, is)

-- ---- the end of a submission

-- one has ended
abbrev pub one_ended : Stage → Stage
one_ended (by_one j state) = by_one j flush.Flushed
one_ended (by_pieces j pieces given written) = by_pieces j pieces given (written + 1)

-- the submission is of this stage
abbrev pub IsFlightOf : Stage → Flying → Type 0
IsFlightOf (by_one j state) f = state ≡ flush.Sent f.ticket
IsFlightOf (by_pieces j pieces given written) f = written < given

-- it is of one of the stages, by whose end they are so
abbrev pub EndsIn : List Stage → Flying → (List Stage → Type 0) → Type 0
EndsIn [] f P = ⊥
EndsIn (s ∷ more) f P = ((f.job ≡ job_of s) × IsFlightOf s f × P (one_ended s ∷ more)) ⊎ EndsIn more f (λ stages. P (s ∷ stages))

-- one in the middle of one
pub record IsLone (front : List Flying) (f : Flying) (back : List Flying) (e : Flying) : Type 0 where
  pub same : f ≡ e
  pub left : front ++ back ≡ []

lone : (front : List Flying) (f : Flying) (back : List Flying) (e : Flying) → front ++ f ∷ back ≡ e ∷ [] → IsLone front f back e
lone [] f [] e is = record { same = cc; left = refl }
lone [] f (g ∷ back) e is = absurd (cc)
lone (h ∷ []) f back e is = absurd (cc)
lone (h ∷ i ∷ front) f back e is = absurd (cc)

way_ends : (s : Stage) (front : List Flying) (f : Flying) (back : List Flying) → IsOnWay s (front ++ f ∷ back)
    → (f.job ≡ job_of s) × IsFlightOf s f × IsOnWay (one_ended s) (front ++ back)
way_ends (by_one j (flush.Sent ticket)) front f back way =
    let one : IsLone front f back (flight_for ticket j) = lone front f back (flight_for ticket j) way in
    (ap (λ (g : Flying). g.job) one.same, ap (λ (g : Flying). flush.Sent g.ticket) (sym one.same), one.left)
way_ends (by_one j state) front f back way = absurd (no_front front f back way)
way_ends (by_pieces j pieces given written) front f back way =
    let behind = all_right (λ (g : Flying). g.job ≡ j) front (f ∷ back) way.2 in
    let more : length (front ++ f ∷ back) ≡ length (front ++ back) + 1 = length_middle front f back in (
      behind.0,
      fewer written (length (front ++ back)) _ given more way.1,
      (
        way.0,
        counted written (length (front ++ back)) _ given more way.1,
        all_join (λ (g : Flying). g.job ≡ j) front back (all_left (λ (g : Flying). g.job ≡ j) front (f ∷ back) way.2) behind.1,
      ),
    )
  where
    fewer : (written rest all given : ℕ) → all ≡ rest + 1 → written + all ≡ given → written < given
    fewer written rest all given is was = omega (arith, is, was)

    counted : (written rest all given : ℕ) → all ≡ rest + 1 → written + all ≡ given → (written + 1) + rest ≡ given
    counted written rest all given is was = omega (arith, is, was)

pub ends : (stages : List Stage) (front : List Flying) (f : Flying) (back : List Flying) (P : List Stage → Type 0)
    → ((later : List Stage) → AreInTurn later (front ++ back) → P later) → AreInTurn stages (front ++ f ∷ back) → EndsIn stages f P
ends [] front f back P then turn = absurd (no_front front f back turn)
ends (s ∷ more) front f back P then (inl here) =
    let end = way_ends s front f back here.0 in inl (end.0, end.1, then (one_ended s ∷ more) (inl (end.2, here.1)))
ends (s ∷ more) front f back P then (inr rest) =
    inr (ends more front f back (λ later. P (s ∷ later)) (λ later turn. then (s ∷ later) (inr (rest.0, turn))) rest.1)

-- ---- no submission can be made

-- none of the first stages, each of which has ended, has a submission left, nor has the one behind them
abbrev pub IsStuck : List Stage → Type 0
IsStuck [] = Unit {0}
IsStuck (s ∷ more) = (¬ HasNext s) × (IsEnded s → IsStuck more)

way_over : (s : Stage) → IsOnWay s [] → ¬ HasNext s → IsEnded s
way_over (by_one j flush.NotSent) way none = absurd (none tt)
way_over (by_one j (flush.Sent ticket)) way none = absurd (cc)
way_over (by_one j flush.Flushed) way none = tt
way_over (by_pieces j pieces given written) way none = (full, counted given written way.1 full)
  where
    full : given ≡ pieces
    full = omega (arith, way.0, none)

    counted : (given written : ℕ) → written + 0 ≡ given → given ≡ pieces → written ≡ pieces
    counted given written is full = omega (arith, is, full)

-- where nothing flies, all have ended
pub stuck_ended : (stages : List Stage) → IsStuck stages → AreInTurn stages [] → AllByRecursion IsEnded stages
stuck_ended [] stuck turn = tt
stuck_ended (s ∷ more) stuck (inl here) =
    let ended : IsEnded s = way_over s here.0 stuck.0 in (ended, stuck_ended more (stuck.1 ended) (none_sent more here.1))
stuck_ended (s ∷ more) stuck (inr rest) = (rest.0, stuck_ended more (stuck.1 rest.0) rest.1)

-- ---- tests

pub not_sent_next : (j : Job) (state : FlushState) → is_not_sent state ≡ true → HasNext (by_one j state)
not_sent_next j flush.NotSent is = tt
not_sent_next j (flush.Sent ticket) is = absurd (cc)
not_sent_next j flush.Flushed is = absurd (cc)

pub flushed_ended : (j : Job) (state : FlushState) → is_flushed state ≡ true → IsEnded (by_one j state)
flushed_ended j flush.Flushed is = tt
flushed_ended j (flush.Sent ticket) is = absurd (cc)
flushed_ended j flush.NotSent is = absurd (cc)

pub not_sent_is : (state : FlushState) → is_not_sent state ≡ true → state ≡ flush.NotSent
not_sent_is flush.NotSent is = refl
not_sent_is (flush.Sent ticket) is = absurd (cc)
not_sent_is flush.Flushed is = absurd (cc)

pub flushed_begun : (j : Job) (state : FlushState) → is_flushed state ≡ true → ¬ IsUnsent (by_one j state)
flushed_begun j flush.Flushed is unsent = unsent
flushed_begun j (flush.Sent ticket) is unsent = unsent
flushed_begun j flush.NotSent is unsent = absurd (cc)

pub next_not_sent : (j : Job) (state : FlushState) → HasNext (by_one j state) → is_not_sent state ≡ true
next_not_sent j flush.NotSent next = refl
next_not_sent j (flush.Sent ticket) next = absurd next
next_not_sent j flush.Flushed next = absurd next

pub ended_flushed : (j : Job) (state : FlushState) → IsEnded (by_one j state) → state ≡ flush.Flushed
ended_flushed j flush.Flushed ended = refl
ended_flushed j (flush.Sent ticket) ended = absurd ended
ended_flushed j flush.NotSent ended = absurd ended

-- one that hasn't begun isn't submitted
pub unless_begun : (j : Job) (state : FlushState) → (¬ IsUnsent (by_one j state) → ⊥) → state ≡ flush.NotSent
unless_begun j flush.NotSent never = refl
unless_begun j (flush.Sent ticket) never = absurd (never (λ unsent. unsent))
unless_begun j flush.Flushed never = absurd (never (λ unsent. unsent))

pub unsent_is : (j : Job) (state : FlushState) → IsUnsent (by_one j state) → state ≡ flush.NotSent
unsent_is j flush.NotSent unsent = refl
unsent_is j (flush.Sent ticket) unsent = absurd unsent
unsent_is j flush.Flushed unsent = absurd unsent
