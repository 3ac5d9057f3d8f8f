-- Scripts that together ask for no more units than are free find them.
use Rattle.std.proofs.Common.{◌≡◌, ℕ, ◌+◌, ◌<◌, ◌≤◌, Bool, true, false, cond, List, [], ◌∷◌, ◌++◌, map, length, refl, sym, ap, subst, ◌∙◌, arith}
use Rattle.std.specs.Prelude.{◌==◌}
use Rattle.std.specs.List.{AllByRecursion}
use Rattle.std.proofs.lemmas.Bool.{eqb-false}
use Rattle.std.proofs.lemmas.List.{length-map}
use Rattle.block_device.specs.Prelude.{Disk}
use Rattle.object_model.specs.declared.book.Book.{Book}
use Rattle.object_model.specs.declared.book.Entry.{Entry}
use Rattle.unit_allocator.specs.Prelude.{Space}
use Rattle.plan_proofs.proofs.PlanLaws.{plans_keep, asks_are_few}
use Rattle.script_text.specs.declared.line.Line.{Line}
use Rattle.store_steps.specs.Prelude.{State, Found, free_count, Call, IsRun}
use Rattle.run_facts.specs.Prelude.{IsKept}
use Rattle.book_facts.specs.Prelude.{units_asked, demand_of, demanded_by, any_no_space}
use Rattle.book_facts.proofs.Prelude.{want_is_beyond_the_demand}
use Rattle.mount_replay.specs.Mounting.{IsOpenedOn}
use Rattle.client_runs.specs.Prelude.{Ask, asks_of, Asked, asked_in, asked_by, entries_of, AskedUpTo, EachAskedUpTo, AreAsked}
use Rattle.bstore_top.specs.Prelude.{script_demand, scripts_demand}

-- ---- of one client

demand_in : List Asked → ℕ
demand_in [] = 0
demand_in (a ∷ later) = units_asked a.command + demand_in later

in_both : (xs ys : List Asked) → demand_in (xs ++ ys) ≡ demand_in xs + demand_in ys
unfolding demand_in
in_both [] ys = omega arith
in_both (x ∷ xs) ys = let rest = in_both xs ys in omega (arith, rest)

of_asks : (client : ℕ) (asks : List Ask) → demand_of (map (λ a. a.command) asks) ≡ demand_in (map (asked_by client) asks)
unfolding demand_in
of_asks client [] = refl
of_asks client (a ∷ asks) = ap (λ n. units_asked a.command + n) (of_asks client asks)

of_entries : (es : List Entry) → demanded_by es ≡ demand_in (map asked_in es)
unfolding demand_in
of_entries [] = refl
of_entries (e ∷ es) = ap (λ n. units_asked e.command + n) (of_entries es)

-- the entries of a client asked for no more than its script
client_within : (client : ℕ) (lines : List Line) (entries : List Entry) (left : List Ask) → AskedUpTo client (asks_of lines) entries left
    → demanded_by (entries_of client entries) ≤ script_demand lines
client_within client lines entries left asked =
    omega (
      arith,
      of_asks client (asks_of lines),
      ap demand_in asked,
      in_both (map asked_in (entries_of client entries)) (map (asked_by client) left),
      of_entries (entries_of client entries),
    )

-- ---- of all clients

-- what the entries of clients asked for, of which the first has this number
by_client : ℕ → List (List Line) → List Entry → ℕ
by_client client [] es = 0
by_client client (lines ∷ scripts) es = demanded_by (entries_of client es) + by_client (client + 1) scripts es

-- an entry more
more_asked : (client : ℕ) (scripts : List (List Line)) (e : Entry) (es : List Entry) → by_client client scripts es ≤ by_client client scripts (e ∷ es)
unfolding by_client
more_asked client [] e es = omega arith
more_asked client (lines ∷ scripts) e es = by_test (e.client == client) (more_asked (client + 1) scripts e es)
  where
    by_test : (b : Bool) → by_client (client + 1) scripts es ≤ by_client (client + 1) scripts (e ∷ es)
        → demanded_by (entries_of client es) + by_client (client + 1) scripts es
        ≤ demanded_by (cond b (e ∷ entries_of client es) (entries_of client es)) + by_client (client + 1) scripts (e ∷ es)
    by_test true rest = omega (arith, rest)
    by_test false rest = omega (arith, rest)

-- an entry of one of them
one_asked : (client : ℕ) (scripts : List (List Line)) (e : Entry) (es : List Entry) → client ≤ e.client → e.client < client + length scripts
    → units_asked e.command + by_client client scripts es ≤ by_client client scripts (e ∷ es)
unfolding by_client
one_asked client [] e es from to = absurd (omega (arith, from, to))
one_asked client (lines ∷ scripts) e es from to =
    by_test (e.client == client) refl (λ above. one_asked (client + 1) scripts e es above (omega (arith, to)))
  where
    by_test : (b : Bool) → (e.client == client) ≡ b
        → (client + 1 ≤ e.client → units_asked e.command + by_client (client + 1) scripts es ≤ by_client (client + 1) scripts (e ∷ es))
        → units_asked e.command + (demanded_by (entries_of client es) + by_client (client + 1) scripts es)
        ≤ demanded_by (cond b (e ∷ entries_of client es) (entries_of client es)) + by_client (client + 1) scripts (e ∷ es)
    by_test true is later = let rest = more_asked (client + 1) scripts e es in omega (arith, rest)
    by_test false is later =
        let other = eqb-false e.client client is in
        let rest = later (omega (arith, from, other)) in
        omega (arith, rest)

-- the entries of all
all_by_client : (scripts : List (List Line)) (es : List Entry) → AllByRecursion (λ e. e.client < length scripts) es
    → demanded_by es ≤ by_client 0 scripts es
all_by_client scripts [] no_other = omega arith
all_by_client scripts (e ∷ es) no_other =
    let rest = all_by_client scripts es no_other.1 in
    let one = one_asked 0 scripts e es (omega arith) (omega (arith, no_other.0)) in
    omega (arith, rest, one)

each_within : (client : ℕ) (scripts : List (List Line)) (es : List Entry) (lefts : List (List Ask)) → EachAskedUpTo client (map asks_of scripts) es lefts
    → by_client client scripts es ≤ scripts_demand scripts
unfolding by_client
each_within client [] es lefts asked = omega arith
each_within client (lines ∷ scripts) es [] asked = absurd asked
each_within client (lines ∷ scripts) es (left ∷ lefts) asked =
    let rest = each_within (client + 1) scripts es lefts asked.1 in
    omega (arith, client_within client lines es left asked.0, rest)

-- the entries of a run asked for no more than its scripts
asked_within : (scripts : List (List Line)) (es : List Entry) (lefts : List (List Ask)) → AreAsked (map asks_of scripts) es lefts
    → demanded_by es ≤ scripts_demand scripts
asked_within scripts es lefts asked =
    let clients = all_by_client scripts es (subst (λ (n : ℕ). AllByRecursion (λ e. e.client < n) es) (length-map scripts asks_of) asked.no_other) in
    let each = each_within 0 scripts es lefts asked.each in
    omega (arith, clients, each)

pub found_within : (scripts : List (List Line)) (given : Disk) (f : Found) (space : Space) (start : Disk) (s closed : State) (disk : Disk)
    (calls : List Call) (book : Book) (lefts : List (List Ask)) → IsOpenedOn given f space start s → IsKept s start → IsRun s start calls closed disk
    → book ≡ closed.book → AreAsked (map asks_of scripts) book.entries lefts → scripts_demand scripts ≤ free_count s.space
    → any_no_space book.entries ≡ false
found_within scripts given f space start s closed disk calls book lefts mounted kept run book_is asked within = by (any_no_space book.entries) refl
  where
    by : (b : Bool) → any_no_space book.entries ≡ b → b ≡ false
    by false is = refl
    by true is =
        let same = ap (λ (b : Book). b.entries) book_is in
        let beyond = want_is_beyond_the_demand calls s closed start disk plans_keep asks_are_few kept (ap (λ (z : State). z.book.entries) mounted.state) run
        (sym (ap any_no_space same) ∙ is) in
        let few = asked_within scripts book.entries lefts asked in
        absurd (omega (arith, beyond, ap demanded_by same, few, within))
