-- Tickets that ascend, as submissions come and go.
use Rattle.std.proofs.Common.{◌≡◌, ℕ, ◌+◌, ◌<◌, ◌≤◌, List, [], ◌∷◌, ◌++◌, length, map, None, All, Bool, true, false, eqb, refl, sym, ◌∙◌, ap, subst, arith}
use Rattle.std.proofs.lemmas.Bool.Decides.{nat_tests}
use Rattle.std.proofs.lemmas.List.{length-map, map-append}
use Rattle.std.proofs.lemmas.List.Elements.{All-head, All-tail, All-push, All-cons}
use Rattle.block_device.specs.Prelude.{find_flight, flight_of, without, Submitted, Reaped}
use Rattle.block_device.specs.declared.event.Event.{Event}
use Rattle.device_file.specs.FileDisk.{FileDisk, silent}
use Rattle.device_file.specs.Sync.{flight_seen, PendingAscend}
use Rattle.device_file.specs.declared.sync.Pending.{Pending}

-- a later next ticket serves as well
pub ascend_later : (n m : ℕ) (ps : List Pending) → n ≤ m → PendingAscend n ps → PendingAscend m ps
ascend_later n m [] le ps = tt
ascend_later n m (p ∷ ps) le all = (omega (arith, all.0), all.1, ascend_later n m ps le all.2)

-- the next ticket is none of them
next_is_new : (n : ℕ) (ps : List Pending) → PendingAscend n ps → find_flight n (map flight_seen ps) ≡ None
next_is_new n [] all = refl
next_is_new n (p ∷ ps) all =
    let other : eqb p.ticket n ≡ false = grind (arith, nat_tests, all.0) in
    rw other (next_is_new n ps all.2)

-- it goes behind them
ascend_push : (n : ℕ) (ps : List Pending) (p : Pending) → p.ticket ≡ n → PendingAscend n ps → PendingAscend (n + 1) (ps ++ p ∷ [])
ascend_push n [] p is all = (omega (arith, is), (λ k d lt. absurd (omega (arith, lt))), tt)
ascend_push n (q ∷ ps) p is all =
    (omega (arith, all.0), All-push (λ r. q.ticket < r.ticket) ps p all.1 (omega (arith, is, all.0)), ascend_push n ps p is all.2)

-- without the first ticket, the others are left
without_first : (t : ℕ) (ps : List Pending) → All (λ q. t < q.ticket) ps → without t (map flight_seen ps) ≡ map flight_seen ps
without_first t [] all = refl
without_first t (p ∷ ps) all =
    let above : t < p.ticket = All-head (λ q. t < q.ticket) p ps all in
    let other : eqb p.ticket t ≡ false = grind (arith, nat_tests, above) in
    rw other (ap (λ fs. flight_seen p ∷ fs) (without_first t ps (All-tail (λ q. t < q.ticket) p ps all)))

-- what a submission makes of the disk
pub submitted : (units next : ℕ) (old new : List Pending) (p : Pending) (event : Event) → PendingAscend next old → new ≡ old ++ p ∷ [] → flight_seen p ≡ flight_of next event
    → Submitted (silent units (map flight_seen old)) next event (silent units (map flight_seen new))
submitted units next old new p event all is same = record {
  is_new = next_is_new next old all;
  place = tt;
  after = ap (λ ps. silent units (map flight_seen ps)) is ∙ ap (silent units) (map-append flight_seen old (p ∷ []) ∙ ap (λ f. map flight_seen old ++ f ∷ []) same);
}

-- what is left after the first was reaped
reaped_first : (units next : ℕ) (ps : List Pending) (p : Pending) (ok : Bool) → PendingAscend next (p ∷ ps)
    → Reaped (silent units (map flight_seen (p ∷ ps))) p.ticket ok (silent units (map flight_seen ps))
reaped_first units next ps p ok all =
    let same : eqb p.ticket p.ticket ≡ true = grind (arith, nat_tests) in
    let gone : without p.ticket (map flight_seen (p ∷ ps)) ≡ map flight_seen ps = rw same (without_first p.ticket ps all.1) in
    record {
      was_open = rw same refl;
      fewer = omega arith;
      after = ap (silent units) (sym gone);
    }

pub reaped : (units next : ℕ) (old new : List Pending) (p : Pending) (ok : Bool) → PendingAscend next old → old ≡ p ∷ new
    → Reaped (silent units (map flight_seen old)) p.ticket ok (silent units (map flight_seen new))
reaped units next old new p ok all is =
    let P : List Pending → Type 0 = λ ps. Reaped (silent units (map flight_seen ps)) p.ticket ok (silent units (map flight_seen new)) in
    subst P (sym is) (reaped_first units next new p ok (subst (PendingAscend next) is all))

-- the others ascend
pub ascend_rest : (next : ℕ) (old new : List Pending) (p : Pending) → old ≡ p ∷ new → PendingAscend next old → PendingAscend next new
ascend_rest next old new p is all = (subst (PendingAscend next) is all).2

-- the new one goes behind
pub ascend_more : (next : ℕ) (old new : List Pending) (p : Pending) → new ≡ old ++ p ∷ [] → p.ticket ≡ next → PendingAscend next old → PendingAscend (next + 1) new
ascend_more next old new p is ticket all = subst (PendingAscend (next + 1)) (sym is) (ascend_push next old p ticket all)

-- the first is the least
pub first_is_least : (units next : ℕ) (old new : List Pending) (p : Pending) → old ≡ p ∷ new → PendingAscend next old
    → All (λ f. p.ticket ≤ f.ticket) (map flight_seen old)
first_is_least units next old new p is all =
    let P : List Pending → Type 0 = λ ps. All (λ f. p.ticket ≤ f.ticket) (map flight_seen ps) in
    subst P (sym is) (least new p (subst (PendingAscend next) is all).1)
  where
    weak : (ps : List Pending) (t : ℕ) → All (λ q. t < q.ticket) ps → All (λ f. t ≤ f.ticket) (map flight_seen ps)
    weak [] t all = λ k d lt. absurd (omega (arith, lt))
    weak (q ∷ ps) t all = All-cons (λ f. t ≤ f.ticket) (flight_seen q) (map flight_seen ps) (omega (arith, All-head (λ q. t < q.ticket) q ps all)) (weak ps t (All-tail (λ q. t < q.ticket) q ps all))

    least : (ps : List Pending) (p : Pending) → All (λ q. p.ticket < q.ticket) ps → All (λ f. p.ticket ≤ f.ticket) (map flight_seen (p ∷ ps))
    least ps p all = All-cons (λ f. p.ticket ≤ f.ticket) (flight_seen p) (map flight_seen ps) (omega arith) (weak ps p.ticket all)

-- there is room for one more
pub has_room : (units faults : ℕ) (ps : List Pending) (v : FileDisk) → record { disk = silent units (map flight_seen ps); faults = faults } ≡ v
    → length v.disk.flights < v.disk.depth → length ps < 64
has_room units faults ps v is room =
    let flights : map flight_seen ps ≡ v.disk.flights = ap (λ v. v.disk.flights) is in
    let depth : 64 ≡ v.disk.depth = ap (λ v. v.disk.depth) is in
    omega (arith, length-map ps flight_seen, ap length flights, depth, room)
