-- Units and room go to accepted transactions alone: no other call takes any.
use Rattle.std.proofs.Common.{◌≡◌, inl, inr, ℕ, ◌+◌, ◌-◌, ◌<◌, ◌≤◌, true, List, [], ◌∷◌, ◌++◌, length}
use Rattle.std.proofs.Common.{None, Contains, refl, sym, ap, subst, ◌∙◌, arith}
use Rattle.run_facts.proofs.Common.{Disk, IsSound, Entry, Answer, Command, Read, Change, accepted_change, accepted, unit_count, FreshUnit, Step, IsKnown, PlansKeep, IsWithin, is_free, free_units}
use Rattle.std.proofs.lemmas.List.{length-map}
use Rattle.object_model.specs.declared.command.Answer.TheVariants as answer
use Rattle.object_model.specs.declared.command.Command.TheVariants as ask
use Rattle.store_steps.specs.Prelude.{State, is_ready, Call, submitting, reading, stepping, DoesOrFails, Submits, Reads, Calls, IsRun, need_of, room_of, rows_units, free_count, entered, Accepts, Refuses, ops_by, released_by, needs_by, RowsPart, rows_part, RowsGo, Footprint}
use Rattle.plan_drafts.specs.Prelude.{most_units, fresh_units}
use Rattle.unit_allocator.proofs.FreeUnits.{listed_is_free}
use Rattle.meta_rows.specs.Prelude.{rows_after}
use Rattle.meta_log.specs.Prelude.{check_units}
use Rattle.space_facts.proofs.Prelude.{rows_units-after, check_units_are}
use Rattle.run_facts.specs.Prelude.{IsKept, HasRoom}
use Rattle.store_steps.specs.RowsGo as rows
use Rattle.run_facts.proofs.Prelude.{footprint_of, IsNoJoin, none_joins, needs_join, StepOutcome, has_stepped, has_waited, has_gone_down, kept_leaves, kept_call}
use Rattle.book_facts.specs.Prelude.{units_taken_by, units_taken_at_most, need_if_accepted, needs_in}
use Rattle.book_facts.proofs.Accepted.{cause_refuses}
use Rattle.book_facts.proofs.Entries.{own_change, accepted_push, none_accepted}
use Rattle.book_facts.proofs.FreeCounts.{count_taken, count_given}
use Rattle.book_facts.proofs.Commits.{all_then}
use Rattle.book_facts.proofs.KnownPlans.{IsKnownPlan, known_plan}

-- ---- steps take nothing

-- as many units are free, or more, and as much room is left, or more
pub record LeavesRoom (s s' : State) : Type 0 where
  pub entries : s'.book.entries ≡ s.book.entries
  pub space : free_count s.space ≤ free_count s'.space
  pub room : room_of s.log ≤ room_of s'.log

-- the states differ in other parts
same_room : (s t : State) → t.book.entries ≡ s.book.entries → t.space ≡ s.space → t.log ≡ s.log → LeavesRoom s t
same_room s t entries space log =
    record { entries = entries; space = (let same = ap free_count space in omega (arith, same)); room = (let same = ap room_of log in omega (arith, same)) }

-- what becomes of the rows without one that joins
record PartLeaves (p q : RowsPart) : Type 0 where
  space : free_count p.space ≤ free_count q.space
  room : p.sup.half - rows_units p.rows - p.reserved ≤ q.sup.half - rows_units q.rows - q.reserved

part_same : (p q : RowsPart) → q.space ≡ p.space → q.sup.half ≡ p.sup.half → q.rows ≡ p.rows → q.reserved ≡ p.reserved → PartLeaves p q
part_same p q space half rows reserved = record {
  space = (let same = ap free_count space in omega (arith, same));
  room = left p.sup.half q.sup.half (rows_units p.rows) (rows_units q.rows) p.reserved q.reserved half (ap rows_units rows) reserved;
}
  where
    left : (half half' rows rows' reserved reserved' : ℕ) → half' ≡ half → rows' ≡ rows → reserved' ≡ reserved
        → half - rows - reserved ≤ half' - rows' - reserved'
    left half half' rows rows' reserved reserved' is same as_much = omega (arith, is, same, as_much)

part_leaves : (p q : RowsPart) (goes : RowsGo p q) → IsNoJoin goes → HasRoom p → PartLeaves p q
part_leaves p q (rows.same is) alone has =
    part_same p q (ap (λ (r : RowsPart). r.space) is) (ap (λ (r : RowsPart). r.sup.half) is) (ap (λ (r : RowsPart). r.rows) is) (ap (λ (r : RowsPart). r.reserved) is)
part_leaves p q (rows.joins x more is) alone has = absurd alone
part_leaves p q (rows.reorders later complete is) alone has =
    part_same p q (ap (λ (r : RowsPart). r.space) is) (ap (λ (r : RowsPart). r.sup.half) is) (ap (λ (r : RowsPart). r.rows) is) (ap (λ (r : RowsPart). r.reserved) is)
part_leaves p q (rows.switches number limits is) alone has =
    part_same p q (ap (λ (r : RowsPart). r.space) is) (ap (λ (r : RowsPart). r.sup.half) is) (ap (λ (r : RowsPart). r.rows) is) (ap (λ (r : RowsPart). r.reserved) is)
part_leaves p q (rows.applies number front back both fits is) alone has = subst (PartLeaves p) (sym is) (record {
  space = count_given (released_by front) p.space;
  room = by_number p.sup.half (rows_units p.rows) (rows_units (rows_after p.rows (ops_by front))) (unit_count number (ops_by front)) p.reserved (needs_by front)
      (needs_by back) (rows_units-after p.rows number (ops_by front)) fits.0 has.room (has.reserved ∙ ap needs_by both ∙ needs_join front back);
})
  where
    by_number : (half rows later units reserved front back : ℕ) → later ≤ rows + units → units ≤ front → rows + reserved ≤ half → reserved ≡ front + back
        → half - rows - reserved ≤ half - later - (reserved - front)
    by_number half rows later units reserved front back more few le is = omega (arith, more, few, le, is)

-- the room of a state, by its rows as one record
room_is : (s : State) → room_of s.log ≡ s.log.sup.half - rows_units s.log.rows - s.log.reserved
room_is s = ap (λ (n : ℕ). s.log.sup.half - n - s.log.reserved) (check_units_are s.log.number s.log.rows)

pub step_room : (s : State) (d : Disk) (s' : State) (d' : Disk) (step : Step) → IsKept s d → is_ready step d.depth s ≡ true → DoesOrFails step s d s' d'
    → LeavesRoom s s'
step_room s d s' d' step kept ready does = of_leaves (kept_leaves step s d s' d' kept ready does)
  where
    of_leaves : StepOutcome s d s' d' → LeavesRoom s s'
    of_leaves (has_stepped up paid matches) =
        let f : Footprint s d s' d' = footprint_of (stepping step) s d s' d' kept (paid.near.up ∙ up) (ready, does) in
        let leaves : PartLeaves (rows_part s) (rows_part s') =
        part_leaves (rows_part s) (rows_part s') f.rows (none_joins s d s' d' paid.near.entries f.rows f.book f.caused) (kept.up up).room in
        record {
          entries = paid.near.entries;
          space = leaves.space;
          room = (let was = room_is s in let is = room_is s' in let more = leaves.room in omega (arith, was, is, more));
        }
    of_leaves (has_waited none same some) = same_room s s' (ap (λ (t : State). t.book.entries) same) (ap (λ (t : State). t.space) same) (ap (λ (t : State). t.log) same)
    of_leaves (has_gone_down gone) = same_room s s' (ap (λ (t : State). t.book.entries) gone.ends.after) (ap (λ (t : State). t.space) gone.ends.after)
        (ap (λ (t : State). t.log) gone.ends.after)

-- ---- what entries took

taken_append : (xs ys : List Change) → units_taken_by (xs ++ ys) ≡ units_taken_by xs + units_taken_by ys
taken_append [] ys = omega arith
taken_append (x ∷ xs) ys = let more = taken_append xs ys in omega (arith, more)

pub taken_push : (es : List Entry) (e : Entry) → units_taken_at_most (es ++ e ∷ []) ≡ units_taken_at_most es + units_taken_at_most (e ∷ [])
taken_push es e = ap units_taken_by (accepted_push es e) ∙ taken_append (accepted es) (accepted (e ∷ []))

-- one that isn't accepted takes nothing
none_taken : (es : List Entry) (e : Entry) → own_change e ≡ None → units_taken_at_most (es ++ e ∷ []) ≡ units_taken_at_most es
none_taken es e is = ap units_taken_by (none_accepted es e is)

-- ---- each call

-- what is free, and what the book's accepted transactions took, is no less than before
abbrev pub KeepsSpace : State → State → Type 0
KeepsSpace s s' = free_count s.space + units_taken_at_most s.book.entries ≤ free_count s'.space + units_taken_at_most s'.book.entries

step_space : (s s' : State) → LeavesRoom s s' → KeepsSpace s s'
step_space s s' leaves =
    let same = ap units_taken_at_most leaves.entries in
    let more = leaves.space in
    omega (arith, same, more)

-- an entry that accepts nothing
entered_space : (s : State) (client line : ℕ) (command : Command) (a : Answer) → accepted_change command a ≡ None
    → KeepsSpace s (entered client line command a s)
entered_space s client line command a none =
    let same = none_taken s.book.entries (record { client = client; line = line; command = command; answer = a; acks = s.acked }) none in
    omega (arith, same)

module _ (s : State) (d : Disk) (client line : ℕ) (change : Change) (s' : State) (plans : PlansKeep) (kept : IsKept s d)
    (known : IsKnown change.ops) where
  accepted_space : Accepts client line change s d s' → KeepsSpace s s'
  accepted_space does = subst (KeepsSpace s) (sym does.after) (
      let is : IsKnownPlan s change does.plan = known_plan plans s d client line change s' kept known does in
      let units : List ℕ = fresh_units does.plan in
      let entry : Entry = record { client = client; line = line; command = ask.Change change; answer = answer.Accepted; acks = s.acked } in
      let free = count_taken units s.space is.keeps.ascend
      (all_then (λ u. Contains (free_units s.space) u) (λ u. IsWithin s.space u × (is_free s.space u ≡ true)) units
      (λ u c. let found = listed_is_free s.space u c in (found.within, found.free)) is.takes.free) in
      let count : length units ≤ most_units change.ops =
      let long = length-map does.plan.fresh (λ (f : FreshUnit). f.unit) in omega (arith, long, is.takes.within) in
      let more = taken_push s.book.entries entry in
      let here : units_taken_at_most (entry ∷ []) ≡ most_units change.ops + 0 = refl in
      omega (arith, free, count, more, here))

  refused_space : (a : Answer) → Refuses client line change a s d s' → KeepsSpace s s'
  refused_space a does = subst (KeepsSpace s) (sym does.after) (
      entered_space s client line (ask.Change change) a (cause_refuses change s d a does.cause))

pub call_space : (call : Call) (s s' : State) (d d' : Disk) → PlansKeep → IsKept s d → Calls call s d s' d' → KeepsSpace s s'
call_space (submitting client line change) s s' d d' plans kept made = elim made.1 [
  | inl does ↦ accepted_space s d client line change s' plans kept made.0 does
  | inr (inl refuses) ↦ refused_space s d client line change s' plans kept made.0 refuses.0 refuses.1
  | inr (inr away) ↦ subst (KeepsSpace s) (sym away.same) (omega arith)
]
call_space (reading client line read) s s' d d' plans kept made = elim made.0 [
  | inl is ↦ subst (KeepsSpace s) (sym is.1.after) (entered_space s client line (ask.Read read) is.0 refl)
  | inr away ↦ subst (KeepsSpace s) (sym away.same) (omega arith)
]
call_space (stepping step) s s' d d' plans kept made = step_space s s' (step_room s d s' d' step kept made.0 made.1)

-- ---- runs

pub run_space : (calls : List Call) (s s' : State) (d d' : Disk) → PlansKeep → IsKept s d → IsRun s d calls s' d' → KeepsSpace s s'
run_space [] s s' d d' plans kept run = subst (KeepsSpace s) (sym run.0) (omega arith)
run_space (call ∷ calls) s s' d d' plans kept run =
    let t : State = run.0 in
    let e : Disk = run.1.0 in
    let first = call_space call s t d e plans kept run.1.1.0 in
    let rest = run_space calls t s' e d' plans (kept_call call s t d e plans kept run.1.1.0 run.1.1.1.0) run.1.1.1.1 in
    omega (arith, first, rest)

-- want of space comes where more is asked for than was free at the mount
pub want_of_space : (calls : List Call) (s s' t : State) (d d' : Disk) (client line need free : ℕ) (change : Change) → PlansKeep → IsKept s d
    → s.book.entries ≡ [] → IsRun s d calls s' d' → Refuses client line change (answer.NoSpace need free) s' d' t → free_count s.space < units_taken_at_most s'.book.entries + need
want_of_space calls s s' t d d' client line need free change plans kept empty run refuses =
    let kept_free = run_space calls s s' d d' plans kept run in
    let none = ap units_taken_at_most empty in
    let few = refuses.cause.2 in
    let less = refuses.cause.3 in
    omega (arith, kept_free, none, few, less)

-- ---- room in the log

pub accepted_room : (s s' : State) (d : Disk) (client line : ℕ) (change : Change) → IsKept s d → IsKnown change.ops
    → (a : Accepts client line change s d s') → room_of s'.log + need_of s.log a.plan ≡ room_of s.log
accepted_room s s' d client line change kept known a =
    ap (λ (t : State). room_of t.log + need_of s.log a.plan) a.after
    ∙ by_number s.log.sup.half (check_units s.log.number s.log.rows) s.log.reserved (need_of s.log a.plan) a.fits
  where
    by_number : (half rows reserved need : ℕ) → need ≤ half - rows - reserved → half - rows - (reserved + need) + need ≡ half - rows - reserved
    by_number half rows reserved need fits = omega (arith, fits)

pub steps_room : (step : Step) (s s' : State) (d d' : Disk) → IsKept s d → is_ready step d.depth s ≡ true → DoesOrFails step s d s' d' → IsSound d'
    → room_of s.log ≤ room_of s'.log
steps_room step s s' d d' kept ready does sound = (step_room s d s' d' step kept ready does).room

-- a submitted transaction lowers the room by its need, if it is accepted
submitted_room : (s s' : State) (d : Disk) (client line : ℕ) (change : Change) → IsKept s d → IsKnown change.ops
    → (made : Submits client line change s d s') → room_of s.log ≤ room_of s'.log + need_if_accepted client line change s d s' made
submitted_room s s' d client line change kept known (inl accepts) = let room = accepted_room s s' d client line change kept known accepts in omega (arith, room)
submitted_room s s' d client line change kept known (inr (inl refuses)) =
    let same = ap (λ (t : State). room_of t.log) refuses.1.after in omega (arith, same)
submitted_room s s' d client line change kept known (inr (inr away)) = let same = ap (λ (t : State). room_of t.log) away.same in omega (arith, same)

-- a read takes none
read_room : (s s' : State) (d : Disk) (client line : ℕ) (read : Read) → Reads client line read s d s' → room_of s.log ≤ room_of s'.log
read_room s s' d client line read (inl (a, is)) = let same = ap (λ (t : State). room_of t.log) is.after in omega (arith, same)
read_room s s' d client line read (inr away) = let same = ap (λ (t : State). room_of t.log) away.same in omega (arith, same)

pub run_room : (calls : List Call) (s s' : State) (d d' : Disk) → PlansKeep → IsKept s d → (run : IsRun s d calls s' d')
    → room_of s.log ≤ room_of s'.log + needs_in calls s d s' d' run
run_room [] s s' d d' plans kept run = let same = ap (λ (t : State). room_of t.log) run.0 in omega (arith, same)
run_room (submitting client line change ∷ calls) s s' d d' plans kept run =
    let t : State = run.0 in
    let e : Disk = run.1.0 in
    let made = run.1.1.0 in
    let first = submitted_room s t d client line change kept made.0 made.1 in
    let rest = run_room calls t s' e d' plans (kept_call (submitting client line change) s t d e plans kept made run.1.1.1.0) run.1.1.1.1 in
    omega (arith, first, rest)
run_room (reading client line read ∷ calls) s s' d d' plans kept run =
    let t : State = run.0 in
    let e : Disk = run.1.0 in
    let made = run.1.1.0 in
    let first = read_room s t d client line read made.0 in
    let rest = run_room calls t s' e d' plans (kept_call (reading client line read) s t d e plans kept made run.1.1.1.0) run.1.1.1.1 in
    omega (arith, first, rest)
run_room (stepping step ∷ calls) s s' d d' plans kept run =
    let t : State = run.0 in
    let e : Disk = run.1.0 in
    let made = run.1.1.0 in
    let first = (step_room s d t e step kept made.0 made.1).room in
    let rest = run_room calls t s' e d' plans (kept_call (stepping step) s t d e plans kept made run.1.1.1.0) run.1.1.1.1 in
    omega (arith, first, rest)

-- want of room comes where more is asked for than there was at the mount
pub want_of_room : (calls : List Call) (s s' t : State) (d d' : Disk) (client line need room : ℕ) (change : Change) → PlansKeep → IsKept s d
    → (run : IsRun s d calls s' d') → Refuses client line change (answer.MetaFull need room) s' d' t → room_of s.log < needs_in calls s d s' d' run + need
want_of_room calls s s' t d d' client line need room change plans kept run refuses =
    let kept_room = run_room calls s s' d d' plans kept run in
    let is = refuses.cause.2 in
    let less = refuses.cause.3 in
    omega (arith, kept_room, is, less)
