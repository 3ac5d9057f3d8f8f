-- Where a book is complete, no client waits for an acknowledgement, and so none has a command left where nothing can be drawn.
use Rattle.std.proofs.Common.{◌≡◌, ℕ, ◌+◌, ◌≤◌, Bool, true, false, List, [], ◌∷◌, map, length, refl, ap, subst, arith}
use Rattle.std.specs.Prelude.{is_some}
use Rattle.std.specs.List.{AllByRecursion}
use Rattle.object_model.specs.Prelude.{acked_count}
use Rattle.object_model.specs.declared.book.Book.{Book}
use Rattle.object_model.specs.declared.book.Commit.{Commit}
use Rattle.object_model.specs.declared.book.Entry.{Entry}
use Rattle.script_text.specs.declared.line.Line.{Line}
use Rattle.book_facts.proofs.Prelude.{one_if, count_cons}
use Rattle.client_runs.specs.Prelude.{Ask, asks_of, client_calls, AskedUpTo, EachAskedUpTo, AreAsked}
use Rattle.client_runs.proofs.Prelude.{no_command_left}
use Rattle.bstore_top.specs.Prelude.{IsComplete, AreAllAsked}

-- ---- commits

few_acked : (cs : List Commit) → acked_count cs ≤ length cs
few_acked [] = omega arith
few_acked (c ∷ cs) =
    let ih = few_acked cs in
    let one = at_most (is_some c.acked_at) in
    omega (arith, ih, one, count_cons c cs)
  where
    at_most : (b : Bool) → one_if b ≤ 1
    at_most true = omega arith
    at_most false = omega arith

abbrev IsAcked : Commit → Type 0
IsAcked c = is_some c.acked_at ≡ true

-- where they are as many as the commits, each is acknowledged
each_acked : (cs : List Commit) → acked_count cs ≡ length cs → AllByRecursion IsAcked cs
each_acked [] all = tt
each_acked (c ∷ cs) all =
    let few = few_acked cs in
    let here : IsAcked c = by_test (is_some c.acked_at) (let many = count_cons c cs in omega (arith, many, all, few)) in
    (here, each_acked cs (let one = ap one_if here in omega (arith, one, count_cons c cs, all)))
  where
    by_test : (b : Bool) → 1 ≤ one_if b → b ≡ true
    by_test true some = refl
    by_test false some = absurd (omega (arith, some))

-- ---- commands that are left

each_all : (client : ℕ) (scripts : List (List Line)) (entries : List Entry) (lefts : List (List Ask))
    → EachAskedUpTo client (map asks_of scripts) entries lefts → AllByRecursion (λ asks. asks ≡ []) lefts
    → EachAskedUpTo client (map asks_of scripts) entries (map {A = List Line} {B = List Ask} (λ lines. []) scripts)
each_all client [] entries [] asked none = tt
each_all client [] entries (left ∷ lefts) asked none = absurd asked
each_all client (lines ∷ scripts) entries [] asked none = absurd asked
each_all client (lines ∷ scripts) entries (left ∷ lefts) asked none = (
  subst (AskedUpTo client (asks_of lines) entries) none.0 asked.0,
  each_all (client + 1) scripts entries lefts asked.1 none.1,
)

-- where a book is complete and no client has a call, its entries are all commands
pub all_asked : (scripts : List (List Line)) (book : Book) (lefts : List (List Ask)) → IsComplete book → client_calls 0 lefts book ≡ []
    → AreAsked (map asks_of scripts) book.entries lefts → AreAllAsked scripts book.entries
all_asked scripts book lefts complete none asked = record {
  each = each_all 0 scripts book.entries lefts asked.each (no_command_left lefts book (each_acked book.commits complete.acked) complete.in_order none);
  no_other = asked.no_other;
}
