-- One event more: what the device tells then, and that each submission since is in flight or has ended well.
use Rattle.std.proofs.Common.{◌≡◌, ℕ, ◌+◌, ◌≤◌, true, [], ◌∷◌, ◌++◌, length, Option, Some, None, sym, ap, subst, ◌∙◌, arith}
use Rattle.std.specs.Prelude.{IfSome}
use Rattle.std.proofs.lemmas.List.{length-append}
use Rattle.block_device.specs.Prelude.{Disk, History, history_after, flight_of, find_flight, without, Submitted, Reaped, with_event, EachWriteIsAnswered}
use Rattle.block_device.specs.declared.event.Event.{Event}
use Rattle.block_device.specs.declared.event.Event.TheVariants.{Write, Flush, Done}
use Rattle.block_device.proofs.QuietLemmas.{quiet_push, answered_submit, answered_done}
use Rattle.store_steps.specs.Prelude.{Touch, nothing, ends, flushes, on_data, on_half, on_other, on_slot, Adds, after, events_of, run_write}
use Rattle.unit_facts.specs.Known.{IsAnsweredSince}

-- a flush has the next ticket
abbrev pub HasNextTicket : History → Touch → Type 0
HasNextTicket h (flushes ticket) = ticket ≡ length h.log
HasNextTicket h t = Unit {0}

module _ (base events : ℕ) (h : History) (d d' : Disk) (told : d.history ≡ Some h) (answered : IsAnsweredSince base h d.flights events) where
  -- one event more
  more : (e : Event) → length (h.log ++ e ∷ []) ≡ base + (events + 1)
  more e = omega (arith, length-append h.log (e ∷ []), answered.counted)

  reached : base ≤ length h.log
  reached = omega (arith, answered.counted)

  -- ---- a submission

  module _ (ticket : ℕ) (e : Event) (sent : Submitted d ticket e d') where
    pub told_sent : d'.history ≡ Some (with_event h e)
    told_sent = ap (λ (x : Disk). x.history) sent.after ∙ ap (λ (o : Option History). history_after o e) told

    pub place_sent : ticket ≡ length h.log
    place_sent = subst (λ (o : Option History). IfSome o (λ k. ticket ≡ length k.log)) told sent.place

    pub answered_sent : IsAnsweredSince base (with_event h e) d'.flights (events + 1)
    answered_sent =
        let new : find_flight (length h.log) d.flights ≡ None = subst (λ (n : ℕ). find_flight n d.flights ≡ None) place_sent sent.is_new in
        let flights : d'.flights ≡ d.flights ++ flight_of (length h.log) e ∷ [] =
        ap (λ (x : Disk). x.flights) sent.after ∙ ap (λ (n : ℕ). d.flights ++ flight_of n e ∷ []) place_sent in
        record {
          quiet = quiet_push base h e answered.quiet reached;
          each = subst (EachWriteIsAnswered base (with_event h e)) (sym flights) (answered_submit base h e d.flights answered.each new);
          counted = more e;
        }

  -- ---- a good end

  module _ (ticket : ℕ) (ended : Reaped d ticket true d') where
    pub told_ended : d'.history ≡ Some (with_event h (Done ticket true))
    told_ended = ap (λ (x : Disk). x.history) ended.after ∙ ap (λ (o : Option History). history_after o (Done ticket true)) told

    pub answered_ended : IsAnsweredSince base (with_event h (Done ticket true)) d'.flights (events + 1)
    answered_ended =
        let flights : d'.flights ≡ without ticket d.flights = ap (λ (x : Disk). x.flights) ended.after in
        record {
          quiet = quiet_push base h (Done ticket true) answered.quiet reached;
          each = subst (EachWriteIsAnswered base (with_event h (Done ticket true))) (sym flights)
              (answered_done base h ticket d.flights answered.each);
          counted = more (Done ticket true);
        }

-- ---- whatever a call adds

-- what the device tells then
pub record IsTold (base events : ℕ) (h : History) (d' : Disk) (t : Touch) : Type 0 where
  pub told : d'.history ≡ Some (after t h)
  pub answered : IsAnsweredSince base (after t h) d'.flights (events + events_of t)
  pub next : HasNextTicket h t

pub told_of : (base events : ℕ) (h : History) (d d' : Disk) (t : Touch) → Adds t d d' → d.history ≡ Some h → IsAnsweredSince base h d.flights events
    → IsTold base events h d' t
told_of base events h d d' nothing adds told a = record {
  told = adds.0 ∙ told;
  answered = record { quiet = a.quiet; each = subst (EachWriteIsAnswered base h) (sym adds.1) a.each; counted = omega (arith, a.counted) };
  next = tt;
}
told_of base events h d d' (ends ticket) adds told a = record {
  told = told_ended base events h d d' told a ticket adds;
  answered = answered_ended base events h d d' told a ticket adds;
  next = tt;
}
told_of base events h d d' (flushes ticket) adds told a = record {
  told = told_sent base events h d d' told a ticket Flush adds;
  answered = answered_sent base events h d d' told a ticket Flush adds;
  next = place_sent base events h d d' told a ticket Flush adds;
}
told_of base events h d d' (on_data ticket run) adds told a = record {
  told = told_sent base events h d d' told a ticket (run_write run) adds;
  answered = answered_sent base events h d d' told a ticket (run_write run) adds;
  next = tt;
}
told_of base events h d d' (on_half ticket unit bytes) adds told a = record {
  told = told_sent base events h d d' told a ticket (Write unit bytes) adds;
  answered = answered_sent base events h d d' told a ticket (Write unit bytes) adds;
  next = tt;
}
told_of base events h d d' (on_other ticket unit bytes) adds told a = record {
  told = told_sent base events h d d' told a ticket (Write unit bytes) adds;
  answered = answered_sent base events h d d' told a ticket (Write unit bytes) adds;
  next = tt;
}
told_of base events h d d' (on_slot ticket unit bytes) adds told a = record {
  told = told_sent base events h d d' told a ticket (Write unit bytes) adds;
  answered = answered_sent base events h d d' told a ticket (Write unit bytes) adds;
  next = tt;
}
