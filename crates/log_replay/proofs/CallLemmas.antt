-- One submission in flight, until its end.
use Rattle.std.proofs.Common.{◌≡◌, inl, inr, ℕ, ◌+◌, ◌<◌, Bool, true, false, eqb, List, [], ◌∷◌, map, refl, sym, ap, ◌∙◌, arith}
use Rattle.std.specs.Prelude.{IsSome}
use Rattle.std.proofs.lemmas.Bool.{cases_eq}
use Rattle.std.proofs.lemmas.Bool.Decides.{nat_tests}
use Rattle.block_device.specs.Prelude.{Disk, Flight, history_after, find_flight, without, Reaped, Waited}
use Rattle.block_device.specs.declared.event.Event.TheVariants.{Done}
use Rattle.block_device.specs.declared.device.Failed.{Failed}
use Rattle.block_device.specs.declared.device.Failed.TheVariants.{Memory, Fault}
use Rattle.log_replay.specs.Prelude.{IsOnly, Ended}

-- whatever ticket is found among one is that one, and none is left without it
found_only : (flights : List Flight) (ticket t : ℕ) → IsOnly ticket flights → IsSome (find_flight t flights) → (t ≡ ticket) × (without t flights ≡ [])
found_only [] ticket t only is = absurd cc
found_only (f ∷ g ∷ flights) ticket t only is = absurd cc
found_only (f ∷ []) ticket t only is = elim (cases_eq f.ticket t) [
  | inl same ↦ let yes : eqb f.ticket t ≡ true = grind (arith, nat_tests) in let first : f.ticket ≡ ticket = cc in rw yes (sym same ∙ first, refl)
  | inr other ↦ let differ : eqb f.ticket t ≡ false = grind (arith, nat_tests) in absurd (let never = rw differ at is in cc)
]

pub ended : (old mid new : Disk) (ticket t : ℕ) (waits : ℕ) (ok : Bool) → IsOnly ticket old.flights → mid ≡ record old { waits = waits } → Reaped mid t ok new → Ended old ticket ok new
ended old mid new ticket t waits ok only is reaped =
    let flights : mid.flights ≡ old.flights = ap (λ (d : Disk). d.flights) is in
    let found = found_only mid.flights ticket t (ap (λ (l : List Flight). map (λ f. f.ticket) l) flights ∙ only) reaped.was_open in
    reaped.after
    ∙ ap (λ (d : Disk). record d { flights = without t mid.flights; waits = 0; history = history_after d.history (Done t ok) }) is
    ∙ ap (λ l. record old { flights = l; waits = 0; history = history_after old.history (Done t ok) }) found.1
    ∙ ap (λ n. record old { flights = []; waits = 0; history = history_after old.history (Done n ok) }) found.0

pub waited : (old mid new : Disk) (ticket waits : ℕ) → IsOnly ticket old.flights → mid ≡ record old { waits = waits } → Waited mid new → (waits < 64) × (new ≡ record old { waits = waits + 1 })
waited old mid new ticket waits only is (inl idle) =
    let none : [] ≡ ticket ∷ [] = ap (λ (l : List Flight). map (λ f. f.ticket) l) (sym (sym (ap (λ (d : Disk). d.flights) is) ∙ idle.0)) ∙ only in absurd cc
waited old mid new ticket waits only is (inr busy) =
    let now : mid.waits ≡ waits = ap (λ (d : Disk). d.waits) is in
    (omega (arith, busy.1, now), busy.2 ∙ ap (λ (d : Disk). record d { waits = d.waits + 1 }) is)

-- a call failed by a fault, or memory ran out
pub either_failure : (P : Type 0) (why : Failed) → (why ≡ Fault → P) → (why ≡ Memory → P) → P
either_failure P Memory fault memory = memory refl
either_failure P Fault fault memory = fault refl
