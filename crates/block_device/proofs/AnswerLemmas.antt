-- No ticket has two Dones.
use Rattle.std.proofs.Common.{◌≡◌, ◌≢◌, inl, inr, ℕ, ◌<◌, List, [], ◌∷◌, ◌++◌, length, map, Some, All, Bool, true, false, not, eqb, sym, ◌∙◌, ap, subst, arith, length-append}
use Rattle.std.specs.Prelude.{Contains, slice_get}
use Rattle.std.proofs.lemmas.List.Elements.{All-contains, All-filter, All-map, All-push, All-weaker}
use Rattle.block_device.specs.Prelude.{IsAnsweredOnce, lowered, others, IsUnanswered, AnswersMatch}
use Rattle.block_device.proofs.LogLemmas.{slice_get-push_cases, slice_get-is}
use Rattle.block_device.proofs.Pendings.{others_differ}
use Rattle.block_device.specs.declared.event.Event.{Event}
use Rattle.block_device.specs.declared.event.Event.TheVariants.{Done}
use Rattle.block_device.specs.declared.pending.Pending.{Pending}

-- a ticket with a good Done has no bad one
pub once_good : (log : List Event) (ticket : ℕ) → IsAnsweredOnce log → Contains log (Done ticket true) → ¬ Contains log (Done ticket false)
once_good log ticket once good bad =
    let good_at : slice_get log good.0 ≡ Some (Done ticket true) = slice_get-is log good.0 (Done ticket true) good.1 (sym good.2) in
    let bad_at : slice_get log bad.0 ≡ Some (Done ticket false) = slice_get-is log bad.0 (Done ticket false) bad.1 (sym bad.2) in
    let same : good.0 ≡ bad.0 = once good.0 bad.0 ticket true false good_at bad_at in
    cc (good_at, bad_at, ap (λ i. slice_get log i) same)

-- an event that is no Done of the ticket answers it not
pub unanswered_push : (log : List Event) (event : Event) (ticket : ℕ) → IsUnanswered log ticket → ((ok : Bool) → event ≢ Done ticket ok) → IsUnanswered (log ++ event ∷ []) ticket
unanswered_push log event ticket un other place ok there = elim (slice_get-push_cases log event (Done ticket ok) place there) [
  | inl old ↦ un place ok old
  | inr new ↦ other ok new.1
]

-- a Done of the longer log is one of the shorter, where the new event is none
old_done : (log : List Event) (event : Event) (place ticket : ℕ) (ok : Bool) → ((t : ℕ) (o : Bool) → event ≢ Done t o) → slice_get (log ++ event ∷ []) place ≡ Some (Done ticket ok) → slice_get log place ≡ Some (Done ticket ok)
old_done log event place ticket ok none there = elim (slice_get-push_cases log event (Done ticket ok) place there) [
  | inl old ↦ old
  | inr new ↦ absurd (none ticket ok new.1)
]

-- one more submission
pub answers_submitted : (log : List Event) (event : Event) (ps : List Pending) (p : Pending) → AnswersMatch log ps → ((t : ℕ) (o : Bool) → event ≢ Done t o)
    → p.ticket ≡ length log → AnswersMatch (log ++ event ∷ []) (ps ++ p ∷ [])
answers_submitted log event ps p a none place = record {
  once = λ i j ticket ok ok' at_i at_j. a.once i j ticket ok ok' (old_done log event i ticket ok none at_i) (old_done log event j ticket ok' none at_j);
  earlier = λ i ticket ok at_i. let below = a.earlier i ticket ok (old_done log event i ticket ok none at_i) in omega (arith, length-append log (event ∷ []));
  unanswered = All-push (λ q. IsUnanswered (log ++ event ∷ []) q.ticket) ps p
      (All-weaker (λ q. IsUnanswered log q.ticket) (λ q. IsUnanswered (log ++ event ∷ []) q.ticket) (λ q un. unanswered_push log event q.ticket un (λ ok. none q.ticket ok)) ps a.unanswered)
      (λ i ok at_i. let below = a.earlier i p.ticket ok (old_done log event i p.ticket ok none at_i) in omega (arith, below, place));
}

-- where each waits for one reap fewer
pub answers_lowered : (log : List Event) (ps : List Pending) → AnswersMatch log ps → AnswersMatch log (map lowered ps)
answers_lowered log ps a = record { once = a.once; earlier = a.earlier; unanswered = All-map (λ q. IsUnanswered log q.ticket) lowered ps a.unanswered }

both : (P Q : Pending → Type 0) (ps : List Pending) → All P ps → All Q ps → All (λ p. P p × Q p) ps
both P Q ps p q k x below = (p k x below, q k x below)

-- one that was in flight is answered
pub answers_done : (log : List Event) (ps : List Pending) (p : Pending) → AnswersMatch log ps → Contains ps p → p.ticket < length log
    → AnswersMatch (log ++ Done p.ticket p.ok ∷ []) (others p.ticket ps)
answers_done log ps p a is_open before =
    let event = Done p.ticket p.ok in
    let un_p : IsUnanswered log p.ticket = All-contains (λ q. IsUnanswered log q.ticket) ps p a.unanswered is_open in
    record {
      once = λ j k ticket ok ok' at_j at_k. elim (slice_get-push_cases log event (Done ticket ok) j at_j) [
        | inl old_j ↦
            elim (slice_get-push_cases log event (Done ticket ok') k at_k) [
              | inl old_k ↦ a.once j k ticket ok ok' old_j old_k
              | inr new_k ↦ let same : ticket ≡ p.ticket = cc (new_k.1) in absurd (un_p j ok (subst (λ (t : ℕ). slice_get log j ≡ Some (Done t ok)) same old_j))
            ]
        | inr new_j ↦
            elim (slice_get-push_cases log event (Done ticket ok') k at_k) [
              | inl old_k ↦ let same : ticket ≡ p.ticket = cc (new_j.1) in absurd (un_p k ok' (subst (λ (t : ℕ). slice_get log k ≡ Some (Done t ok')) same old_k))
              | inr new_k ↦ new_j.0 ∙ sym new_k.0
            ]
      ];
      earlier = λ j ticket ok at_j. elim (slice_get-push_cases log event (Done ticket ok) j at_j) [
        | inl old ↦ let was = a.earlier j ticket ok old in omega (arith, length-append log (event ∷ []))
        | inr new ↦ let same : ticket ≡ p.ticket = cc (new.1) in omega (arith, length-append log (event ∷ []))
      ];
      unanswered = All-weaker (λ q. (q.ticket ≢ p.ticket) × IsUnanswered log q.ticket) (λ q. IsUnanswered (log ++ event ∷ []) q.ticket)
          (λ q h. unanswered_push log event q.ticket h.1 (λ ok e. h.0 (cc e))) (others p.ticket ps)
          (both (λ q. q.ticket ≢ p.ticket) (λ q. IsUnanswered log q.ticket) (others p.ticket ps) (others_differ p.ticket ps) (All-filter (λ q. not (eqb q.ticket p.ticket)) (λ q. IsUnanswered log q.ticket) ps a.unanswered));
    }
