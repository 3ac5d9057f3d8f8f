-- What flies but for one: which it was, and what is left, by part.
use Rattle.std.proofs.Common.{◌≡◌, ℕ, ◌+◌, Bool, true, false, cond, not, ◌==◌, List, [], ◌∷◌, ◌++◌, length, map, Some, refl, sym, ap, subst, ◌∙◌, arith}
use Rattle.flight_facts.proofs.Common.{AllByRecursion, eqb-true, Flight, without, Ticket, Context, Flying, Job, Meta}
use Rattle.std.proofs.lemmas.List.Elements.{filter-append}
use Rattle.store_steps.specs.Prelude.{flying_of}
use Rattle.flight_facts.specs.Prelude.{AreFlights, units_flying, flying_for, IsOfJob, AreOfJobs}
use Rattle.flight_facts.proofs.Flying.{others_of, none_out}

pub units_both : (place : ℕ) (xs ys : List Flying) → units_flying place (xs ++ ys) ≡ units_flying place xs + units_flying place ys
units_both place [] ys = omega arith
units_both place (x ∷ xs) ys = omega (arith, units_both place xs ys)

-- of a part
pub part_both : (part : Job → Bool) (xs ys : List Flying) → flying_for part (xs ++ ys) ≡ flying_for part xs ++ flying_for part ys
part_both part xs ys = filter-append (λ (f : Flying). part f.job) xs ys

pub part_keep : (part : Job → Bool) (f : Flying) (fs : List Flying) → part f.job ≡ true → flying_for part (f ∷ fs) ≡ f ∷ flying_for part fs
part_keep part f fs is = ap (λ (b : Bool). cond b (f ∷ flying_for part fs) (flying_for part fs)) is

pub part_skip : (part : Job → Bool) (f : Flying) (fs : List Flying) → part f.job ≡ false → flying_for part (f ∷ fs) ≡ flying_for part fs
part_skip part f fs is = ap (λ (b : Bool). cond b (f ∷ flying_for part fs) (flying_for part fs)) is

-- where nothing of a part flies, all that flies is of others
pub none_of_part : (part : Job → Bool) (fs : List Flying) → flying_for part fs ≡ [] → AllByRecursion (λ f. part f.job ≡ false) fs
none_of_part part [] none = tt
none_of_part part (f ∷ fs) none = of_test (λ e. none_of_part part fs e) (part f.job) refl none
  where
    of_test : (flying_for part fs ≡ [] → AllByRecursion (λ g. part g.job ≡ false) fs) → (b : Bool) → part f.job ≡ b
        → cond b (f ∷ flying_for part fs) (flying_for part fs) ≡ [] → (part f.job ≡ false) × AllByRecursion (λ g. part g.job ≡ false) fs
    of_test rest true e n = absurd (cc)
    of_test rest false e n = (e, rest n)

-- the one of this ticket, and the others
pub record IsLeftOut (ticket : Ticket) (fs : List Flying) : Type 0 where
  pub front : List Flying
  pub flight : Flying
  pub back : List Flying
  pub is : fs ≡ front ++ flight ∷ back
  pub its : flight.ticket.place ≡ ticket.place
  pub found : flying_of ticket fs ≡ Some flight
  pub left : others_of ticket fs ≡ front ++ back

pub left_out : (ticket : Ticket) (fs : List Flying) → length (others_of ticket fs) + 1 ≡ length fs → IsLeftOut ticket fs
left_out ticket [] fewer = absurd (omega (arith, fewer))
left_out ticket (f ∷ fs) fewer = of_test (f.ticket.place == ticket.place) refl (λ e. left_out ticket fs e) fewer
  where
    of_test : (b : Bool) → f.ticket.place == ticket.place ≡ b → (length (others_of ticket fs) + 1 ≡ length fs → IsLeftOut ticket fs)
        → length (cond (not b) (f ∷ others_of ticket fs) (others_of ticket fs)) + 1 ≡ length (f ∷ fs) → IsLeftOut ticket (f ∷ fs)
    of_test true its rest e = record {
      front = [];
      flight = f;
      back = fs;
      is = refl;
      its = eqb-true f.ticket.place ticket.place its;
      found = ap (λ (b : Bool). cond b (Some f) (flying_of ticket fs)) its;
      left = ap (λ (b : Bool). cond (not b) (f ∷ others_of ticket fs) (others_of ticket fs)) its ∙ none_out ticket fs (omega (arith, e));
    }
    of_test false its rest e =
        let out : IsLeftOut ticket fs = rest (omega (arith, e)) in
        record {
          front = f ∷ out.front;
          flight = out.flight;
          back = out.back;
          is = ap (λ (gs : List Flying). f ∷ gs) out.is;
          its = out.its;
          found = ap (λ (b : Bool). cond b (Some f) (flying_of ticket fs)) its ∙ out.found;
          left = ap (λ (b : Bool). cond (not b) (f ∷ others_of ticket fs) (others_of ticket fs)) its ∙ ap (λ (gs : List Flying). f ∷ gs) out.left;
        }

-- what is left of a part
pub part_with : (part : Job → Bool) (ticket : Ticket) (fs : List Flying) (out : IsLeftOut ticket fs) → part out.flight.job ≡ true
    → flying_for part fs ≡ flying_for part out.front ++ out.flight ∷ flying_for part out.back
part_with part ticket fs out is = ap (flying_for part) out.is ∙ part_both part out.front (out.flight ∷ out.back)
    ∙ ap (λ (gs : List Flying). flying_for part out.front ++ gs) (part_keep part out.flight out.back is)

pub part_rest : (part : Job → Bool) (ticket : Ticket) (fs : List Flying) (out : IsLeftOut ticket fs)
    → flying_for part (others_of ticket fs) ≡ flying_for part out.front ++ flying_for part out.back
part_rest part ticket fs out = ap (flying_for part) out.left ∙ part_both part out.front out.back

pub part_stays : (part : Job → Bool) (ticket : Ticket) (fs : List Flying) (out : IsLeftOut ticket fs) → part out.flight.job ≡ false
    → flying_for part (others_of ticket fs) ≡ flying_for part fs
part_stays part ticket fs out is = part_rest part ticket fs out
    ∙ ap (λ (gs : List Flying). flying_for part out.front ++ gs) (sym (part_skip part out.flight out.back is))
    ∙ sym (part_both part out.front (out.flight ∷ out.back)) ∙ ap (flying_for part) (sym out.is)

-- ---- what is touched, as submissions come and go

pub jobs_then : (m m' : Meta) (pending later : List Context) (flying : List Flying) (flights : List Flight)
    → AllByRecursion (λ f. (g : Flight) → IsOfJob m pending f.job g → IsOfJob m' later f.job g) flying
    → AreOfJobs m pending flying flights → AreOfJobs m' later flying flights
jobs_then m m' pending later [] [] each are = tt
jobs_then m m' pending later (f ∷ fs) (g ∷ gs) each are = (each.0 g are.0, jobs_then m m' pending later fs gs each.1 are.1)
jobs_then m m' pending later fs gs each are = absurd are

pub jobs_sent : (m : Meta) (pending : List Context) (flying : List Flying) (flights : List Flight) (f : Flying) (g : Flight)
    → AreOfJobs m pending flying flights → IsOfJob m pending f.job g → AreOfJobs m pending (flying ++ f ∷ []) (flights ++ g ∷ [])
jobs_sent m pending [] [] f g are is = (is, tt)
jobs_sent m pending (e ∷ es) (h ∷ hs) f g are is = (are.0, jobs_sent m pending es hs f g are.1 is)
jobs_sent m pending es hs f g are is = absurd are

pub jobs_left : (m : Meta) (pending : List Context) (ticket : Ticket) (flying : List Flying) (flights : List Flight) → AreFlights flying flights
    → AreOfJobs m pending flying flights → AreOfJobs m pending (others_of ticket flying) (without ticket.place flights)
jobs_left m pending ticket [] [] mirror are = tt
jobs_left m pending ticket [] (g ∷ gs) mirror are = absurd are
jobs_left m pending ticket (f ∷ fs) [] mirror are = absurd are
jobs_left m pending ticket (f ∷ fs) (g ∷ gs) mirror are =
    subst (λ (n : ℕ). AreOfJobs m pending (others_of ticket (f ∷ fs)) (cond (not (n == ticket.place)) (g ∷ without ticket.place gs) (without ticket.place gs)))
    (same_heads mirror) (of_test (f.ticket.place == ticket.place) (jobs_left m pending ticket fs gs (same_tails mirror) are.1))
  where
    same_heads : f.ticket.place ∷ map (λ f. f.ticket.place) fs ≡ g.ticket ∷ map (λ f. f.ticket) gs → f.ticket.place ≡ g.ticket
    same_heads e = cc

    same_tails : f.ticket.place ∷ map (λ f. f.ticket.place) fs ≡ g.ticket ∷ map (λ f. f.ticket) gs → AreFlights fs gs
    same_tails e = cc

    of_test : (b : Bool) → AreOfJobs m pending (others_of ticket fs) (without ticket.place gs)
        → AreOfJobs m pending (cond (not b) (f ∷ others_of ticket fs) (others_of ticket fs)) (cond (not b) (g ∷ without ticket.place gs) (without ticket.place gs))
    of_test true rest = rest
    of_test false rest = (are.0, rest)

-- what flies in the middle is of its job
pub record IsFlown (m : Meta) (pending : List Context) (f : Flying) : Type 0 where
  pub flight : Flight
  pub of : IsOfJob m pending f.job flight

pub jobs_found : (m : Meta) (pending : List Context) (front : List Flying) (f : Flying) (back : List Flying) (flights : List Flight)
    → AreOfJobs m pending (front ++ f ∷ back) flights → IsFlown m pending f
jobs_found m pending [] f back [] are = absurd are
jobs_found m pending [] f back (g ∷ gs) are = record { flight = g; of = are.0 }
jobs_found m pending (e ∷ es) f back [] are = absurd are
jobs_found m pending (e ∷ es) f back (g ∷ gs) are = jobs_found m pending es f back gs are.1
