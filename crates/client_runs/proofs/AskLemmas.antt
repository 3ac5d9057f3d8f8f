-- A client goes on behind its next command.
use Rattle.std.proofs.Common.{◌≡◌, ◌≢◌, ℕ, zero, suc, ◌+◌, ◌<◌, ◌≤◌, Bool, true, false, List, [], ◌∷◌, ◌++◌, length, drop, Some}
use Rattle.std.proofs.Common.{ap, ◌∙◌, sym, refl, subst, arith}
use Rattle.std.specs.Prelude.{slice_get, is_some, IsSome, ◌==◌, ◌&&◌, ◌||◌, not, if◌then◌else◌}
use Rattle.std.specs.List.{AllByRecursion}
use Rattle.std.proofs.lemmas.Bool.{ne_eqb, and_parts, eqb-true, eqb-false}
use Rattle.block_device.specs.Prelude.{Disk, IsSound}
use Rattle.object_model.specs.Prelude.{accepted_change, change_at, is_acknowledged}
use Rattle.object_model.specs.declared.book.Book.{Book}
use Rattle.object_model.specs.declared.book.Commit.{Commit}
use Rattle.object_model.specs.declared.book.Entry.{Entry}
use Rattle.object_model.specs.declared.command.Command.{Command}
use Rattle.script_text.specs.Prelude.{is_wait, FitsWhat}
use Rattle.script_text.specs.declared.line.Line.{Line}
use Rattle.script_text.specs.declared.line.What.TheVariants as what
use Rattle.store_steps.specs.Prelude.{State}
use Rattle.run_facts.specs.Prelude.{IsKept}
use Rattle.book_facts.proofs.Prelude.{all_push, all_then}
use Rattle.client_runs.specs.declared.client.Client.{Client}
use Rattle.client_runs.specs.declared.clients.Clients.{Clients}
use Rattle.client_runs.specs.declared.run_fail.RunFail.{RunFail}
use Rattle.client_runs.specs.declared.run_fail.RunFail.TheVariants as run
use Rattle.client_runs.specs.Prelude.{Ask, Asked, call_of, scripts_behind, is_accepted_of, unacked, command_sum, left_of, lefts, IsClient, is_able, one_more, able_of, changed, IsOfOne, TakesOf, AreCounts, AreOfClients, AreTied, FitsAsk, EachFits, IsMade, IsUnmade, AsksNext, AsksInVain}
use Rattle.client_runs.proofs.DrawLemmas.{get_map}
use Rattle.client_runs.proofs.ClientLemmas.{length_changed, well_changed, lefts_same}
use Rattle.client_runs.proofs.TieLemmas.{one_if, unacked_push, unacked_few, count_of, counts_by, counts_changed}
use Rattle.client_runs.proofs.StepLemmas.{order_one, at_item, there_within}

-- ---- what is left

-- what is left of one client, and of all of them behind its next command
pub sum_behind : (i : ℕ) (lists : List (List Ask)) (a : Ask) (rest : List Ask) → slice_get lists i ≡ Some (a ∷ rest)
    → command_sum (scripts_behind i lists) + 1 ≡ command_sum lists
sum_behind i [] a rest at = absurd cc
sum_behind zero (x ∷ xs) a rest at =
    let same : x ≡ a ∷ rest = cc in
    let many : length x ≡ length (drop 1 x) + 1 =
    ap (λ (l : List Ask). length l) same ∙ (omega arith ∙ ap (λ (l : List Ask). length (drop 1 l) + 1) (sym same)) in
    omega (arith, many)
sum_behind (suc i) (x ∷ xs) a rest at = let ih = sum_behind i xs a rest at in omega (arith, ih)

pub fits_behind : (P : Ask → Type 0) (i : ℕ) (lists : List (List Ask)) → AllByRecursion (AllByRecursion P) lists
    → AllByRecursion (AllByRecursion P) (scripts_behind i lists)
fits_behind P i [] all = tt
fits_behind P zero (x ∷ xs) all = (drop_first x all.0, all.1)
  where
    drop_first : (l : List Ask) → AllByRecursion P l → AllByRecursion P (drop 1 l)
    drop_first [] each = tt
    drop_first (y ∷ ys) each = each.1
fits_behind P (suc i) (x ∷ xs) all = (all.0, fits_behind P i xs all.1)

-- a client that was changed to one whose first command is gone
lefts_behind : (i : ℕ) (cs : List Client) (before after : Client) (a : Ask) → slice_get cs i ≡ Some before → left_of before ≡ a ∷ left_of after
    → lefts (changed i (λ c. after) cs) ≡ scripts_behind i (lefts cs)
lefts_behind i [] before after a at left = absurd cc
lefts_behind zero (x ∷ xs) before after a at left =
    let same : x ≡ before = cc in
    ap (λ (l : List Ask). drop 1 l ∷ lefts xs) (sym left) ∙ ap (λ (c : Client). drop 1 (left_of c) ∷ lefts xs) (sym same)
lefts_behind (suc i) (x ∷ xs) before after a at left = ap (λ (l : List (List Ask)). left_of x ∷ l) (lefts_behind i xs before after a at left)

pub one_then : (P Q : Client → Type 0) (i : ℕ) (cs : List Client) → ((c : Client) → P c → Q c) → IsOfOne P i cs → IsOfOne Q i cs
one_then P Q i [] more is = absurd is
one_then P Q zero (x ∷ xs) more is = more x is
one_then P Q (suc i) (x ∷ xs) more is = one_then P Q i xs more is

-- a client that can go on has a command left
pub has_next : (i : ℕ) (cs : List Client) → IsOfOne (λ c. is_able c ≡ true) i cs → IsOfOne (λ c. is_some c.next ≡ true) i cs
has_next i cs is = one_then (λ c. is_able c ≡ true) (λ c. is_some c.next ≡ true) i cs
    (λ c able. (and_parts (is_some c.next) (not c.waits || (c.unacked == 0)) able).0) is

-- ---- its next command was taken

module _ (client : ℕ) (old new : List Client) (l : Line) (took : TakesOf client old l new) where
  abbrev pub next : Ask
  next = record { line = l.line; waits = took.before.waits; command = took.takes.command }

  pub left_there : slice_get (lefts old) client ≡ Some (next ∷ left_of took.after)
  left_there = get_map left_of old client took.before took.there ∙ ap (λ (a : List Ask). Some a) took.takes.left

  pub no_wait : is_wait l.what ≡ false
  no_wait = ap is_wait took.takes.says

  command_is : (c : Command) → l.what ≡ what.Command c → took.takes.command ≡ c
  command_is c said = let same : what.Command took.takes.command ≡ what.Command c = sym took.takes.says ∙ said in cc

  pub fits_next : (c : Command) → l.what ≡ what.Command c → EachFits old → FitsWhat (what.Command c)
  fits_next c said fits =
      subst (λ (k : Command). FitsWhat (what.Command k)) (command_is c said)
      (at_item (AllByRecursion FitsAsk) client (lefts old) (next ∷ left_of took.after) left_there fits).0

  pub room_next : (entries : ℕ) → entries + command_sum (lefts old) ≤ 1048576 → entries < 1048576
  room_next entries room = omega (arith, room, sum_behind client (lefts old) next (left_of took.after) left_there)

  pub below : client < length old
  below = there_within old client took.before took.there

  pub length_took : length new ≡ length old
  length_took = ap (λ (cs : List Client). length cs) took.is ∙ length_changed client (λ c. took.after) old

  pub well_took : AllByRecursion IsClient old → AllByRecursion IsClient new
  well_took well = subst (λ (cs : List Client). AllByRecursion IsClient cs) (sym took.is)
      (well_changed IsClient client (λ k. took.after) old (λ k is. took.takes.well) well)

  changed_there : (i : ℕ) (cs : List Client) (P : Client → Type 0) (after : Client) → i < length cs → P after → IsOfOne P i (changed i (λ c. after) cs)
  changed_there i [] P after there is = absurd (omega (arith, there))
  changed_there zero (x ∷ xs) P after there is = is
  changed_there (suc i) (x ∷ xs) P after there is = changed_there i xs P after (omega (arith, there)) is

  -- its count is below the limit
  pub count_low : (book : Book) → AreCounts 0 old book → length book.entries < 1048576 → IsOfOne (λ c. c.unacked < 4294967295) client new
  count_low book counts few = subst (λ (cs : List Client). IsOfOne (λ c. c.unacked < 4294967295) client cs) (sym took.is)
      (changed_there client old (λ c. c.unacked < 4294967295) took.after below (omega (
        arith,
        took.takes.same,
        count_of 0 client old took.before book took.there counts,
        unacked_few (0 + client) book.commits 0 book.entries,
        few,
      )))

  -- ---- and made

  module _ (book book' : Book) (accepted : Bool) (own : unacked client book' ≡ unacked client book + one_if accepted)
      (others : (m : ℕ) → m ≢ client → unacked m book' ≡ unacked m book) (counts : AreCounts 0 old book) where
    taken_counts : AreCounts 0 new book
    taken_counts = subst (λ (cs : List Client). AreCounts 0 cs book) (sym took.is)
        (counts_changed client book book (λ m other. refl) (λ c. took.after) 0 client old (omega arith)
        (λ c is. took.takes.same ∙ (count_of 0 client old took.before book took.there counts
        ∙ ap (λ (n : ℕ). unacked n book) {x = 0 + client} {y = client} (omega arith))) counts)

    same_or : (b : Bool) → b ≡ accepted → AreCounts 0 (if b then changed client one_more new else new) book'
    same_or true is =
        let one : one_if accepted ≡ 1 = ap one_if (sym is) in
        counts_changed client book book' others one_more 0 client new (omega arith) (λ c counted. omega (arith, counted, own, one)) taken_counts
    same_or false is =
        let none : one_if accepted ≡ 0 = ap one_if (sym is) in
        counts_changed_none (λ m. by_eq m none)
      where
        counts_changed_none : ((m : ℕ) → unacked m book' ≡ unacked m book) → AreCounts 0 new book'
        counts_changed_none same = counts_by 0 new book book' same taken_counts

        by_eq : (m : ℕ) → one_if accepted ≡ 0 → unacked m book' ≡ unacked m book
        by_eq m none = of_test (m == client) refl
          where
            of_test : (b : Bool) → (m == client) ≡ b → unacked m book' ≡ unacked m book
            of_test true e =
                let same : m ≡ client = eqb-true m client e in
                ap (λ (n : ℕ). unacked n book') same ∙ (omega (arith, own, none) ∙ ap (λ (n : ℕ). unacked n book) (sym same))
            of_test false e = others m (eqb-false m client e)

    pub counts_made : AreCounts 0 (if accepted then changed client one_more new else new) book'
    counts_made = same_or accepted refl

-- ---- one more entry

-- no commit is of a place behind the entries
none_behind : (n : ℕ) (commits : List Commit) → AllByRecursion (λ c. c.place < n) commits → is_acknowledged commits n ≡ false
none_behind n [] all = refl
none_behind n (c ∷ cs) all =
    ap (λ (b : Bool). (b && is_some c.acked_at) || is_acknowledged cs n) (ne_eqb c.place n (λ e. omega (arith, e, all.0))) ∙ none_behind n cs all.1

place_within : (es : List Entry) (place : ℕ) → IsSome (change_at es place) → place < length es
place_within [] place some = absurd cc
place_within (e ∷ es) zero some = omega arith
place_within (e ∷ es) (suc place) some = let within = place_within es place some in omega (arith, within)

-- what it makes of the counts
pub count_entry : (s s' : State) (e : Entry) → AllByRecursion (λ c. IsSome (change_at s.book.entries c.place)) s.book.commits
    → s'.book.entries ≡ s.book.entries ++ e ∷ [] → s'.book.commits ≡ s.book.commits → (m : ℕ)
    → unacked m s'.book ≡ unacked m s.book + one_if (is_accepted_of m e)
count_entry s s' e of_accepted entries commits m =
    let es : List Entry = s.book.entries in
    let cs : List Commit = s.book.commits in
    let none : is_acknowledged cs (0 + length es) ≡ false =
    ap (λ (n : ℕ). is_acknowledged cs n) {x = 0 + length es} {y = length es} (omega arith)
    ∙ none_behind (length es) cs (all_then (λ c. IsSome (change_at es c.place)) (λ c. c.place < length es) cs (λ c some. place_within es c.place some) of_accepted) in
    ap (λ (l : List Entry). unacked m (record { entries = l; commits = s'.book.commits })) entries
    ∙ (ap (λ (l : List Commit). unacked m (record { entries = es ++ e ∷ []; commits = l })) commits
    ∙ (unacked_push m cs 0 es e
    ∙ ap (λ (b : Bool). unacked m s.book + one_if b) (ap (λ (b : Bool). is_accepted_of m e && not b) none ∙ and_true (is_accepted_of m e))))
  where
    and_true : (b : Bool) → (b && true) ≡ b
    and_true true = refl
    and_true false = refl

-- an entry of another client is none of this one's
pub not_of : (m client : ℕ) (e : Entry) → e.client ≡ client → m ≢ client → is_accepted_of m e ≡ false
not_of m client e is other = ap (λ (b : Bool). b && is_some (accepted_change e.command e.answer)) (ne_eqb e.client m (λ same. other (sym same ∙ is)))

-- ---- the command of a client

module _ (client : ℕ) (clients : Clients) (l : Line) (new : List Client) (took : TakesOf client clients.all.items l new) (c : Command)
    (said : l.what ≡ what.Command c) where
  -- it has no entry
  pub asks_vain : (e : RunFail) (s : State) (d : Disk) (s' : State) (d' : Disk) → IsUnmade e client l.line c s d s' d'
      → AsksInVain e client clients s d s' d'
  asks_vain e s d s' d' unmade = record {
    next = next client clients.all.items new l took;
    rest = left_of took.after;
    left = left_there client clients.all.items new l took;
    unmade = subst (λ (k : Command). IsUnmade e client l.line k s d s' d') (sym (command_is client clients.all.items new l took c said)) unmade;
  }

  -- it has one, and the client goes on
  pub asks_next : (accepted : Bool) (clients' : Clients) (s : State) (d : Disk) (s' : State) (d' : Disk) → IsKept s d → IsSound d'
      → AreTied clients s → IsMade client l.line c accepted s d s' d'
      → clients'.all.items ≡ (if accepted then changed client one_more new else new) → clients'.able.items ≡ able_of 0 clients'.all.items
      → AsksNext client clients s d clients' s' d'
  asks_next accepted clients' s d s' d' kept sound tied made all able =
      let old : List Client = clients.all.items in
      let is : took.takes.command ≡ c = command_is client old new l took c said in
      let own_client : made.entry.client ≡ client = ap (λ (a : Asked). a.client) made.asked in
      let entry = count_entry s s' made.entry tied.order.of_accepted made.entries made.commits in
      let own : unacked client s'.book ≡ unacked client s.book + one_if accepted =
      entry client ∙ ap (λ (b : Bool). unacked client s.book + one_if b) made.accepted_is in
      let others : (m : ℕ) → m ≢ client → unacked m s'.book ≡ unacked m s.book =
      λ m other. entry m ∙ (ap (λ (b : Bool). unacked m s.book + one_if b) (not_of m client made.entry own_client other) ∙ omega arith) in
      let well_new : AllByRecursion IsClient new = well_took client old new l took tied.clients_are.well in
      let many : length clients'.all.items ≡ length old =
      ap (λ (cs : List Client). length cs) all ∙ (length_if accepted new ∙ length_took client old new l took) in
      record {
        next = next client old new l took;
        rest = left_of took.after;
        left = left_there client old new l took;
        accepted = accepted;
        made = subst (λ (k : Command). IsMade client l.line k accepted s d s' d') (sym is) made;
        behind_it = ap (λ (cs : List Client). lefts cs) all ∙ (lefts_if accepted new ∙ (ap (λ (cs : List Client). lefts cs) took.is
            ∙ lefts_behind client old took.before took.after (next client old new l took) took.there took.takes.left));
        tied = record {
          clients_are = record {
            few = omega (arith, many, tied.clients_are.few);
            well = subst (λ (cs : List Client). AllByRecursion IsClient cs) (sym all) (well_if accepted new well_new);
            able = able;
          };
          order = order_one (call_of client l.line c) s d s' d' kept tied.order made.called sound;
          counts = subst (λ (cs : List Client). AreCounts 0 cs s'.book) (sym all)
              (counts_made client old new l took s.book s'.book accepted own others tied.counts);
          no_other = subst (λ (n : ℕ). AreOfClients n s'.book.entries) (sym many)
              (subst (λ (es : List Entry). AreOfClients (length old) es) (sym made.entries)
              (all_push (λ e. e.client < length old) s.book.entries made.entry tied.no_other
              (subst (λ (n : ℕ). n < length old) (sym own_client) (below client old new l took))));
        };
      }
    where
      length_if : (b : Bool) (cs : List Client) → length (if b then changed client one_more cs else cs) ≡ length cs
      length_if true cs = length_changed client one_more cs
      length_if false cs = refl

      lefts_if : (b : Bool) (cs : List Client) → lefts (if b then changed client one_more cs else cs) ≡ lefts cs
      lefts_if true cs = lefts_same client one_more cs (λ k. refl)
      lefts_if false cs = refl

      well_if : (b : Bool) (cs : List Client) → AllByRecursion IsClient cs → AllByRecursion IsClient (if b then changed client one_more cs else cs)
      well_if true cs well = well_changed IsClient client one_more cs (λ k is. record { at_command = is.at_command; size = is.size }) well
      well_if false cs well = well

-- there was no memory for it
pub asks_memory : (client : ℕ) (clients : Clients) (l : Line) (new : List Client) (took : TakesOf client clients.all.items l new) (e : RunFail)
    (s : State) (d : Disk) → e ≡ run.Memory → AsksInVain e client clients s d s d
asks_memory client clients l new took e s d is =
    asks_vain client clients l new took took.takes.command took.takes.says e s d s d
    (subst (λ (z : RunFail). IsUnmade z client l.line took.takes.command s d s d) (sym is) (refl, refl))
