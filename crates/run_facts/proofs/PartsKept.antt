-- What a change of one context leaves of the parts.
use Rattle.std.proofs.Common.{◌≡◌, ℕ, ◌+◌, Bool, true, false, cond, List, [], ◌∷◌, ◌++◌, ◌==◌, take, drop, refl, ap, ◌∙◌, arith, sym, append_assoc}
use Rattle.run_facts.proofs.Common.{flat_map, Disk, Context, FreshUnit}
use Rattle.store_steps.specs.declared.flight.Switching.{Switching}
use Rattle.store_steps.specs.Prelude.{State, check_pieces, flush_of, slot_phase, with_context, given_fresh, Intent, intent_of, intents, rows_part, data_part, half_part, other_part, book_part, Adds, nothing, BookGoes, IsCaused, Footprint, Touch, IsPlaced, event_of, ticket_of, events_of, IsNoData, IsNoPiece, IsNoOther, DataGoes, HalfGoes}
use Rattle.store_steps.specs.RowsGo as rows
use Rattle.store_steps.specs.DataGoes as units
use Rattle.store_steps.specs.HalfGoes as half
use Rattle.store_steps.specs.BookGoes as book
use Rattle.meta_log.specs.Prelude.{in_runs}
use Rattle.meta_store.specs.Store.{Meta, Checking}
use Rattle.switch_facts.specs.Prelude.{CheckPart, OtherGoes}
use Rattle.switch_facts.specs.OtherGoes as other
use Rattle.run_facts.proofs.OtherHalf.{placed_elsewhere}

-- what has ended of a context doesn't change what was given
pub given_kept : (place : ℕ) (change : Context → Context) → ((x : Context) → take (change x).given (change x).fresh ≡ take x.given x.fresh)
    → (front xs : List Context) → given_fresh (front ++ with_context place change xs) ≡ given_fresh (front ++ xs)
given_kept place change same [] [] = refl
given_kept place change same [] (x ∷ xs) =
    of_test (x.place == place) ∙ ap (λ (fs : List FreshUnit). take x.given x.fresh ++ fs) (given_kept place change same [] xs)
  where
    of_test : (b : Bool) → given_fresh (cond b (change x) x ∷ with_context place change xs) ≡ given_fresh (x ∷ with_context place change xs)
    of_test true = ap (λ (fs : List FreshUnit). fs ++ given_fresh (with_context place change xs)) (same x)
    of_test false = refl
given_kept place change same (x ∷ front) xs =
    ap (λ (fs : List FreshUnit). take x.given x.fresh ++ fs) (given_kept place change same front xs)

-- lists of intents are those of contexts
pub flat_intents : {A : Type 0} (f : Intent → List A) (xs : List Context) → flat_map f (intents xs) ≡ flat_map (λ x. f (intent_of x)) xs
flat_intents f [] = refl
flat_intents f (x ∷ xs) = ap (λ l. f (intent_of x) ++ l) (flat_intents f xs)

-- those of some contexts, and of others behind them
pub intents_both : (xs ys : List Context) → intents (xs ++ ys) ≡ intents xs ++ intents ys
intents_both [] ys = refl
intents_both (x ∷ xs) ys = ap (λ (is : List Intent). intent_of x ∷ is) (intents_both xs ys)

-- what was given of some, and of others behind them
pub given_both : (xs ys : List Context) → given_fresh (xs ++ ys) ≡ given_fresh xs ++ given_fresh ys
given_both [] ys = refl
given_both (x ∷ xs) ys = ap (λ (fs : List FreshUnit). take x.given x.fresh ++ fs) (given_both xs ys)
    ∙ sym (append_assoc (take x.given x.fresh) (given_fresh xs) (given_fresh ys))

-- what the log knows of a checkpoint that is written
abbrev pub check_part : Meta → Checking → Switching → CheckPart
check_part m c w =
    record { is_left = in_runs (drop c.given (check_pieces m)); flush = flush_of w.flush; slot = slot_phase w.slot w.slot_flush }

-- a call that changes neither rows nor book
pub device_alone : (s : State) (d : Disk) (s' : State) (d' : Disk) (t : Touch) → Adds t d d' → IsPlaced s.log.sup t → IsNoOther t → s'.events ≡ s.events + events_of t
    → rows_part s' ≡ rows_part s → DataGoes d.flights t (data_part s) (data_part s') → HalfGoes d.flights t (half_part s) (half_part s')
    → other_part s' ≡ other_part s → book_part s' ≡ book_part s → Footprint s d s' d'
device_alone s d s' d' t adds placed elsewhere counted same_rows units half same_other same_book = record {
  touch = t;
  device = adds;
  placed = placed;
  counted = counted;
  rows = rows.same same_rows;
  units = units;
  half = half;
  other = other.same (placed_elsewhere s.log.sup t elsewhere placed) same_other;
  book = book.same same_book;
  caused = tt;
}

-- a call that changes nothing but what is known of the slots and the other half
pub other_alone : (s : State) (d : Disk) (s' : State) (d' : Disk) (t : Touch) → Adds t d d' → IsPlaced s.log.sup t → IsNoData t → IsNoPiece t
    → s'.events ≡ s.events + events_of t → rows_part s' ≡ rows_part s → data_part s' ≡ data_part s → half_part s' ≡ half_part s
    → OtherGoes d.flights (ticket_of t) (event_of t) (other_part s) (other_part s') → book_part s' ≡ book_part s → Footprint s d s' d'
other_alone s d s' d' t adds placed no_data no_piece counted same_rows same_units same_half goes same_book = record {
  touch = t;
  device = adds;
  placed = placed;
  counted = counted;
  rows = rows.same same_rows;
  units = units.same no_data same_units;
  half = half.same no_piece same_half;
  other = goes;
  book = book.same same_book;
  caused = tt;
}

-- a call that the device has no part in, and that changes nothing but the book
pub book_alone : (s : State) (d : Disk) (s' : State) (d' : Disk) → Adds nothing d d' → s'.events ≡ s.events
    → (same_rows : rows_part s' ≡ rows_part s) → data_part s' ≡ data_part s → half_part s' ≡ half_part s → other_part s' ≡ other_part s
    → (goes : BookGoes s.events nothing (book_part s) (book_part s')) → IsCaused s d s' d' (rows.same same_rows) goes → Footprint s d s' d'
book_alone s d s' d' adds events same_rows same_units same_half same_other goes caused = record {
  touch = nothing;
  device = adds;
  placed = tt;
  counted = omega (arith, events);
  rows = rows.same same_rows;
  units = units.same tt same_units;
  half = half.same tt same_half;
  other = other.same tt same_other;
  book = goes;
  caused = caused;
}
