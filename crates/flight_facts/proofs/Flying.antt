-- What is in flight is what the device has in flight, as submissions come and go.
use Rattle.std.proofs.Common.{◌≡◌, ℕ, ◌+◌, ◌≤◌, is_some, Bool, true, false, cond, not, ◌==◌, List, [], ◌∷◌, ◌++◌, length, map, filter, Option, Some, None, refl, sym, ap, subst, ◌∙◌, arith}
use Rattle.flight_facts.proofs.Common.{Disk, Flight, flight_of, without, Reaped, Ticket, Flying, Job}
use Rattle.std.proofs.lemmas.List.{map-append, length-map}
use Rattle.block_device.specs.Prelude.{Submitted}
use Rattle.block_device.specs.declared.event.Event.{Event}
use Rattle.block_device.specs.declared.event.Event.TheVariants as event
use Rattle.store_steps.specs.Prelude.{State, flying_of, landed, reaped, after_done, after_good}
use Rattle.flight_facts.specs.Prelude.{AreFlights}

-- ---- nothing flies

-- where nothing flies the device has nothing in flight
pub idle_flights : (flights : List Flight) → AreFlights [] flights → flights ≡ []
idle_flights [] are = refl
idle_flights (f ∷ fs) are = absurd (cc)

pub idle_device : (flying : List Flying) (flights : List Flight) → AreFlights flying flights → flying ≡ [] → flights ≡ []
idle_device flying flights are none = idle_flights flights (subst (λ (fs : List Flying). AreFlights fs flights) none are)

-- ---- a submission

flight_ticket : (ticket : ℕ) (e : Event) → (flight_of ticket e).ticket ≡ ticket
flight_ticket ticket (event.Write at bytes) = refl
flight_ticket ticket event.Flush = refl
flight_ticket ticket (event.Done t ok) = refl

pub sent_flights : (d d' : Disk) (ticket : ℕ) (e : Event) → Submitted d ticket e d' → d'.flights ≡ d.flights ++ flight_of ticket e ∷ []
sent_flights d d' ticket e sent = ap (λ (x : Disk). x.flights) sent.after

-- one more submission is in flight
pub sent_flight : (flying : List Flying) (d d' : Disk) (ticket : Ticket) (job : Job) (e : Event) → AreFlights flying d.flights
    → Submitted d ticket.place e d' → AreFlights (flying ++ record { ticket = ticket; job = job } ∷ []) d'.flights
sent_flight flying d d' ticket job e are sent =
    map-append (λ (f : Flying). f.ticket.place) flying (record { ticket = ticket; job = job } ∷ [])
    ∙ ap (λ (ns : List ℕ). ns ++ ticket.place ∷ []) are
    ∙ ap (λ (n : ℕ). map (λ (f : Flight). f.ticket) d.flights ++ n ∷ []) (sym (flight_ticket ticket.place e))
    ∙ sym (map-append (λ (f : Flight). f.ticket) d.flights (flight_of ticket.place e ∷ []))
    ∙ ap (map (λ (f : Flight). f.ticket)) (sym (sent_flights d d' ticket.place e sent))

pub sent_units : (d d' : Disk) (ticket : ℕ) (e : Event) → Submitted d ticket e d' → d'.units ≡ d.units
sent_units d d' ticket e sent = ap (λ (x : Disk). x.units) sent.after

-- ---- the end of a submission: it is one of those in flight, and the others are left

-- those but for a ticket
abbrev pub others_of : Ticket → List Flying → List Flying
others_of ticket flying = filter (λ f. not (f.ticket.place == ticket.place)) flying

module _ (ticket : Ticket) where
  abbrev is_its : Flying → Bool
  is_its f = f.ticket.place == ticket.place

  few_others : (fs : List Flying) → length (others_of ticket fs) ≤ length fs
  few_others [] = omega arith
  few_others (f ∷ fs) = of_test (is_its f) (few_others fs)
    where
      of_test : (b : Bool) → length (others_of ticket fs) ≤ length fs
          → length (cond (not b) (f ∷ others_of ticket fs) (others_of ticket fs)) ≤ length (f ∷ fs)
      of_test true rest = omega (arith, rest)
      of_test false rest = omega (arith, rest)

  -- so many are left that none was its own
  pub none_out : (fs : List Flying) → length (others_of ticket fs) ≡ length fs → others_of ticket fs ≡ fs
  none_out [] same = refl
  none_out (f ∷ fs) same = of_test (is_its f) (few_others fs) (λ e. none_out fs e) same
    where
      of_test : (b : Bool) → length (others_of ticket fs) ≤ length fs → (length (others_of ticket fs) ≡ length fs → others_of ticket fs ≡ fs)
          → length (cond (not b) (f ∷ others_of ticket fs) (others_of ticket fs)) ≡ length (f ∷ fs)
          → cond (not b) (f ∷ others_of ticket fs) (others_of ticket fs) ≡ f ∷ fs
      of_test true few rest e = absurd (omega (arith, few, e))
      of_test false few rest e = ap (λ (gs : List Flying). f ∷ gs) (rest (omega (arith, e)))

  abbrev other_numbers : List ℕ → List ℕ
  other_numbers ns = filter (λ n. not (n == ticket.place)) ns

  numbers_left : {A : Type 0} (number : A → ℕ) (xs : List A) → map number (filter (λ x. not (number x == ticket.place)) xs) ≡ other_numbers (map number xs)
  numbers_left number [] = refl
  numbers_left {A} number (x ∷ xs) = of_test (number x == ticket.place) (numbers_left number xs)
    where
      left : List A
      left = filter (λ y. not (number y == ticket.place)) xs

      of_test : (b : Bool) → map number left ≡ other_numbers (map number xs)
          → map number (cond (not b) (x ∷ left) left) ≡ cond (not b) (number x ∷ other_numbers (map number xs)) (other_numbers (map number xs))
      of_test true rest = rest
      of_test false rest = ap (λ (ns : List ℕ). number x ∷ ns) rest

  pub left_flights : (flying : List Flying) (flights : List Flight) → AreFlights flying flights
      → AreFlights (others_of ticket flying) (without ticket.place flights)
  left_flights flying flights are =
      numbers_left (λ (f : Flying). f.ticket.place) flying ∙ ap other_numbers are ∙ sym (numbers_left (λ (f : Flight). f.ticket) flights)

-- as many fly as the device has in flight
pub same_count : (flying : List Flying) (flights : List Flight) → AreFlights flying flights → length flying ≡ length flights
same_count flying flights are =
    sym (length-map flying (λ (f : Flying). f.ticket.place)) ∙ ap (λ (ns : List ℕ). length ns) are ∙ length-map flights (λ (f : Flight). f.ticket)

-- A submission has ended: what is left in flight.
pub record Landed (flying : List Flying) (ticket : Ticket) (d d' : Disk) : Type 0 where
  pub fewer : length (others_of ticket flying) + 1 ≡ length flying
  pub flights : AreFlights (others_of ticket flying) d'.flights
  pub are_left : d'.flights ≡ without ticket.place d.flights
  pub units : d'.units ≡ d.units

pub landed_flight : (d d' : Disk) (ticket : Ticket) (ok : Bool) (flying : List Flying) → AreFlights flying d.flights → Reaped d ticket.place ok d'
    → Landed flying ticket d d'
landed_flight d d' ticket ok flying are ended =
    let are_left : d'.flights ≡ without ticket.place d.flights = ap (λ (x : Disk). x.flights) ended.after in
    let left : AreFlights (others_of ticket flying) d'.flights =
    left_flights ticket flying d.flights are ∙ ap (map (λ (f : Flight). f.ticket)) (sym are_left) in
    let fewer : length (others_of ticket flying) + 1 ≡ length flying =
    ap (λ (n : ℕ). n + 1) (same_count (others_of ticket flying) d'.flights left) ∙ ended.fewer ∙ sym (same_count flying d.flights are) in
    record {
      fewer = fewer;
      flights = left;
      are_left = are_left;
      units = ap (λ (x : Disk). x.units) ended.after;
    }

-- what a good end makes of the state of a kernel that isn't down
pub reaped_good : (s : State) (ticket : Ticket) (f : Flying) → s.down ≡ None → flying_of ticket s.flying ≡ Some f
    → reaped ticket true s ≡ (let t : State = record s { flying = others_of ticket s.flying; events = s.events + 1 } in after_done f.job t)
reaped_good s ticket f up found =
    ap (λ (o : Option Ticket). cond (is_some o) (landed ticket s) (after_good (flying_of ticket s.flying) (landed ticket s))) up
    ∙ ap (λ (o : Option Flying). after_good o (landed ticket s)) found
