-- The clients' run, from one command to the next, and its ends.
use Rattle.std.proofs.Common.{◌≡◌, ◌≢◌, inl, inr, ℕ, zero, suc, ◌+◌, ◌<◌, ◌≤◌, Bool, true, false, cond, List, [], ◌∷◌, ◌++◌, map, length, drop, Option, Some, None}
use Rattle.std.proofs.Common.{Result, Ok, Err, MatchResult, ap, ◌∙◌, sym, refl, subst, arith, append_assoc, length-append}
use Rattle.std.specs.Prelude.{slice_get, ◌==◌, IsSomeAnd}
use Rattle.std.specs.List.{AllByRecursion}
use Rattle.std.proofs.lemmas.Bool.{ne_eqb, eq-eqb}
use Rattle.block_device.specs.Prelude.{Disk, IsSound}
use Rattle.object_model.specs.declared.book.Book.{Book}
use Rattle.object_model.specs.declared.book.Entry.{Entry}
use Rattle.object_model.specs.declared.command.Command.{Command}
use Rattle.object_model.specs.declared.command.Command.TheVariants as command
use Rattle.script_text.specs.declared.line.Line.{Line}
use Rattle.script_text.specs.declared.line.What.{What}
use Rattle.script_text.specs.declared.line.What.TheVariants as what
use Rattle.script_text.specs.Prelude.{is_wait}
use Rattle.store_steps.specs.Prelude.{State}
use Rattle.store_kernel.specs.declared.step_fail.StepFail.{StepFail}
use Rattle.store_kernel.specs.declared.step_fail.StepFail.TheVariants as fail
use Rattle.std.specs.Prelude.{IsSome, nat_eq}
use Rattle.std.specs.List.{IsDistinct}
use Rattle.std.specs.Option.{option_map_or}
use Rattle.object_model.specs.Prelude.{change_at}
use Rattle.script_text.specs.Prelude.{FitsWhat}
use Rattle.store_steps.specs.declared.context.Context.{Context}
use Rattle.store_steps.specs.Prelude.{Batch, intents}
use Rattle.book_facts.specs.Prelude.{IsInOrder, AreQueued, IsOfEntry}
use Rattle.book_facts.proofs.Prelude.{all_push}
use Rattle.client_runs.specs.declared.client.Client.{Client}
use Rattle.client_runs.specs.declared.clients.Clients.{Clients}
use Rattle.client_runs.specs.declared.run_fail.RunFail.{RunFail}
use Rattle.client_runs.specs.declared.run_fail.RunFail.TheVariants as run
use Rattle.client_runs.specs.Prelude.{Ask, asked, asks_from, asks_of, call_of, scripts_behind, asks_after, ready_list, IsDrawnOf, Position, at_position, calls_at, LeadsTo, command_sum, FitsLine, Asked, asked_in, asked_by, entries_of, AskedUpTo, EachAskedUpTo, AreAsked, CallTakesMemory, EndsAs, is_able, left_of, lefts, IsOfOne, AreTied, FitsAsk, EachFits, position_of, StepsOn, DrawsClient, FindsClient, StopsAs, AsksNext, AsksInVain, fail_of, EndsClients, RunsClients, WindsUp, empty_book, IsNew, AreNewClients, AreCounts, AreOfClients, unacked, RunsUpTo}
use Rattle.client_runs.specs.declared.drawing.Drawn.TheVariants as drawn
use Rattle.client_runs.proofs.DrawLemmas.{get_map, DrawsCall, drawn_client}
use Rattle.client_runs.proofs.RunLemmas.{stays, leads_more, leads_on}
use Rattle.client_runs.proofs.SteppingLemmas.{from_able}
use Rattle.client_runs.proofs.StepLemmas.{there_within}
use Rattle.client_runs.proofs.AskLemmas.{sum_behind, fits_behind}

-- ---- entries of clients

entries_other : (number : ℕ) (es : List Entry) (e : Entry) → (e.client == number) ≡ false → entries_of number (es ++ e ∷ []) ≡ entries_of number es
entries_other number [] e other = ap (λ (b : Bool). cond b (e ∷ []) []) other
entries_other number (x ∷ xs) e other = by_test (x.client == number) (entries_other number xs e other)
  where
    by_test : (b : Bool) → entries_of number (xs ++ e ∷ []) ≡ entries_of number xs
        → cond b (x ∷ entries_of number (xs ++ e ∷ [])) (entries_of number (xs ++ e ∷ [])) ≡ cond b (x ∷ entries_of number xs) (entries_of number xs)
    by_test true ih = ap (λ (l : List Entry). x ∷ l) ih
    by_test false ih = ih

entries_own : (number : ℕ) (es : List Entry) (e : Entry) → (e.client == number) ≡ true → entries_of number (es ++ e ∷ []) ≡ entries_of number es ++ e ∷ []
entries_own number [] e own = ap (λ (b : Bool). cond b (e ∷ []) []) own
entries_own number (x ∷ xs) e own = by_test (x.client == number) (entries_own number xs e own)
  where
    by_test : (b : Bool) → entries_of number (xs ++ e ∷ []) ≡ entries_of number xs ++ e ∷ []
        → cond b (x ∷ entries_of number (xs ++ e ∷ [])) (entries_of number (xs ++ e ∷ []))
        ≡ cond b (x ∷ entries_of number xs) (entries_of number xs) ++ e ∷ []
    by_test true ih = ap (λ (l : List Entry). x ∷ l) ih
    by_test false ih = ih

asked_push : (es : List Entry) (e : Entry) → map asked_in (es ++ e ∷ []) ≡ map asked_in es ++ (asked_in e ∷ [])
asked_push [] e = refl
asked_push (x ∷ xs) e = ap (λ (l : List Asked). asked_in x ∷ l) (asked_push xs e)

-- an entry of another client
asked_other : (number : ℕ) (asks left : List Ask) (es : List Entry) (e : Entry) → e.client ≢ number → AskedUpTo number asks es left
    → AskedUpTo number asks (es ++ e ∷ []) left
asked_other number asks left es e other so_far =
    so_far ∙ ap (λ (l : List Entry). map asked_in l ++ map (asked_by number) left) (sym (entries_other number es e (ne_eqb e.client number other)))

-- an entry of the client, for its next command
asked_own : (number : ℕ) (asks left rest : List Ask) (a : Ask) (es : List Entry) (e : Entry) → left ≡ a ∷ rest → asked_in e ≡ asked_by number a
    → AskedUpTo number asks es left → AskedUpTo number asks (es ++ e ∷ []) rest
asked_own number asks left rest a es e is same so_far =
    let mine : (e.client == number) ≡ true = eq-eqb e.client number (ap (λ (k : Asked). k.client) same) in
    let own : List Entry = entries_of number es in
    so_far
    ∙ (ap (λ (l : List Ask). map asked_in own ++ map (asked_by number) l) is
    ∙ (sym (append_assoc (map asked_in own) (asked_by number a ∷ []) (map (asked_by number) rest))
    ∙ (ap (λ (k : Asked). (map asked_in own ++ (k ∷ [])) ++ map (asked_by number) rest) (sym same)
    ∙ (ap (λ (l : List Asked). l ++ map (asked_by number) rest) (sym (asked_push own e))
    ∙ ap (λ (l : List Entry). map asked_in l ++ map (asked_by number) rest) (sym (entries_own number es e mine))))))

each_other : (number : ℕ) (scripts lists : List (List Ask)) (es : List Entry) (e : Entry) → e.client < number
    → EachAskedUpTo number scripts es lists → EachAskedUpTo number scripts (es ++ e ∷ []) lists
each_other number [] [] es e low each = tt
each_other number (asks ∷ more) (left ∷ lists) es e low each = (
  asked_other number asks left es e (λ same. omega (arith, same, low)) each.0,
  each_other (number + 1) more lists es e (omega (arith, low)) each.1,
)
each_other number [] (left ∷ lists) es e low each = absurd each
each_other number (asks ∷ more) [] es e low each = absurd each

each_own : (number i : ℕ) (scripts lists : List (List Ask)) (a : Ask) (rest : List Ask) (es : List Entry) (e : Entry)
    → slice_get lists i ≡ Some (a ∷ rest) → asked_in e ≡ asked_by (number + i) a → EachAskedUpTo number scripts es lists
    → EachAskedUpTo number scripts (es ++ e ∷ []) (scripts_behind i lists)
each_own number i [] [] a rest es e at same each = tt
each_own number zero (asks ∷ more) (left ∷ lists) a rest es e at same each =
    let is : left ≡ a ∷ rest = cc in
    let there : asked_in e ≡ asked_by number a = same ∙ ap (λ (n : ℕ). asked_by n a) {x = number + 0} {y = number} (omega arith) in
    let gone : AskedUpTo number asks (es ++ e ∷ []) rest = asked_own number asks left rest a es e is there each.0 in (
      subst (λ (l : List Ask). AskedUpTo number asks (es ++ e ∷ []) l) (sym (ap (λ (l : List Ask). drop 1 l) is)) gone,
      each_other (number + 1) more lists es e (omega (arith, ap (λ (k : Asked). k.client) there)) each.1,
    )
each_own number (suc i) (asks ∷ more) (left ∷ lists) a rest es e at same each = (
  asked_other number asks left es e (λ is. omega (arith, is, ap (λ (k : Asked). k.client) same)) each.0,
  each_own (number + 1) i more lists a rest es e at
      (same ∙ ap (λ (n : ℕ). asked_by n a) {x = number + suc i} {y = number + 1 + i} (omega arith)) each.1,
)
each_own number i [] (left ∷ lists) a rest es e at same each = absurd each
each_own number i (asks ∷ more) [] a rest es e at same each = absurd each

as_many : (number : ℕ) (scripts lists : List (List Ask)) (es : List Entry) → EachAskedUpTo number scripts es lists → length lists ≡ length scripts
as_many number [] [] es each = refl
as_many number (asks ∷ more) (left ∷ lists) es each = ap suc (as_many (number + 1) more lists es each.1)
as_many number [] (left ∷ lists) es each = absurd each
as_many number (asks ∷ more) [] es each = absurd each

-- behind a command that was made
asked_more : (client : ℕ) (scripts lists : List (List Ask)) (a : Ask) (rest : List Ask) (es : List Entry) (e : Entry)
    → slice_get lists client ≡ Some (a ∷ rest) → asked_in e ≡ asked_by client a → AreAsked scripts es lists
    → AreAsked scripts (es ++ e ∷ []) (scripts_behind client lists)
asked_more client scripts lists a rest es e at same asked = record {
  each = each_own 0 client scripts lists a rest es e at (same ∙ ap (λ (n : ℕ). asked_by n a) {x = client} {y = 0 + client} (omega arith)) asked.each;
  no_other = all_push (λ x. x.client < length scripts) es e asked.no_other
      (omega (arith, ap (λ (k : Asked). k.client) same, there_within lists client (a ∷ rest) at, as_many 0 scripts lists es asked.each));
}

-- ---- from one command to the next

-- how far the run has come
pub record IsRunning (p : Position) (x : ℕ) (c : Clients) (s : State) (d : Disk) : Type 0 where
  pub leads : LeadsTo p (position_of x c s d)
  pub up : s.down ≡ None
  pub tied : AreTied c s
  pub fits : EachFits c.all.items
  pub room : length s.book.entries + command_sum (lefts c.all.items) ≤ 1048576
  pub asked : (scripts : List (List Ask)) → AreAsked scripts p.state.book.entries p.clients → AreAsked scripts s.book.entries (lefts c.all.items)

pub run_begins : (x : ℕ) (c : Clients) (s : State) (d : Disk) → s.down ≡ None → AreTied c s → EachFits c.all.items
    → length s.book.entries + command_sum (lefts c.all.items) ≤ 1048576 → IsRunning (position_of x c s d) x c s d
run_begins x c s d up tied fits room = record {
  leads = stays (position_of x c s d);
  up = up;
  tied = tied;
  fits = fits;
  room = room;
  asked = λ scripts asked. asked;
}

module _ (p : Position) (x : ℕ) (c : Clients) (s : State) (d : Disk) (so_far : IsRunning p x c s d) where
  -- steps alone were made
  stepped : (y : ℕ) (c' : Clients) (s' : State) (d' : Disk) → StepsOn x c s d y c' s' d' → IsRunning p y c' s' d'
  stepped y c' s' d' steps = record {
    leads = leads_on p (position_of x c s d) (position_of y c' s' d') so_far.leads steps.leads;
    up = steps.up;
    tied = steps.tied;
    fits = subst (λ (l : List (List Ask)). AllByRecursion (AllByRecursion FitsAsk) l) (sym steps.same) so_far.fits;
    room = omega (arith, so_far.room, ap (λ (es : List Entry). length es) steps.entries, ap (λ (l : List (List Ask)). command_sum l) steps.same);
    asked = λ scripts asked. subst (λ (l : List (List Ask)). AreAsked scripts s'.book.entries l) (sym steps.same)
        (subst (λ (es : List Entry). AreAsked scripts es (lefts c.all.items)) (sym steps.entries) (so_far.asked scripts asked));
  }

  -- nothing was left to be drawn
  pub runs_out : (found : Option ℕ) (x' : ℕ) (c' : Clients) (s' : State) (d' : Disk) → found ≡ None → FindsClient found x c s d x' c' s' d'
      → RunsClients None p x' s' d'
  runs_out (Some client) x' c' s' d' is finds = absurd cc
  runs_out None x' c' s' d' is finds =
      let here : IsRunning p x' c' s' d' = stepped x' c' s' d' finds.steps in
      record { reached = position_of x' c' s' d'; leads = here.leads; ended = (refl, refl, (finds.nothing, here.up)); asked = here.asked }

  -- a step failed
  pub runs_down : (e : StepFail) (x' : ℕ) (s' : State) (d' : Disk) → StopsAs (Some e) (position_of x c s d) s' d'
      → RunsClients (Some (fail_of e)) p x' s' d'
  runs_down e x' s' d' stops = record {
    reached = at_position stops.x (lefts c.all.items) s' d';
    leads = leads_on p (position_of x c s d) (at_position stops.x (lefts c.all.items) s' d') so_far.leads stops.leads;
    ended = ends_so e stops.ended;
    asked = λ scripts asked. subst (λ (es : List Entry). AreAsked scripts es (lefts c.all.items)) (sym stops.entries) (so_far.asked scripts asked);
  }
    where
      ends_so : (f : StepFail) → EndsAs (Some f) (at_position stops.x (lefts c.all.items) s' d')
          → EndsClients (Some (fail_of f)) (at_position stops.x (lefts c.all.items) s' d') x' s' d'
      ends_so fail.Fault ended = (refl, refl, ended)
      ends_so fail.Memory ended = (refl, refl, ended)

  -- a client was drawn
  module _ (client : ℕ) (found : Option ℕ) (x' : ℕ) (c' : Clients) (s' : State) (d' : Disk) (is : found ≡ Some client)
      (finds : FindsClient found x c s d x' c' s' d') where
    abbrev pub one : DrawsClient client x c s d x' c' s' d'
    one = subst (λ (o : Option ℕ). FindsClient o x c s d x' c' s' d') is finds

    pub before_it : IsRunning p one.y c' s' d'
    before_it = stepped one.y c' s' d' one.steps

    the_call : DrawsCall c'.all.items s'.book (ready_list d'.depth s') one.y x' one.steps.tied.clients_are.well one.steps.tied.counts client
    the_call = drawn_client c'.all.items s'.book (ready_list d'.depth s') one.y x' one.steps.tied.clients_are.well one.steps.tied.counts client
        (from_able x c s d one.y c' s' d' one.steps (drawn.Client client) x' one.drawn)

    pub can_go_on : IsOfOne (λ k. is_able k ≡ true) client c'.all.items
    can_go_on = subst (λ (o : Option Client). IsSomeAnd o (λ k. is_able k ≡ true)) (sym the_call.there) the_call.able

    -- its next command is the one that is left first
    same_next : (a : Ask) (rest : List Ask) → slice_get (lefts c'.all.items) client ≡ Some (a ∷ rest) → the_call.next ≡ a
    same_next a rest at =
        let there : slice_get (lefts c'.all.items) client ≡ Some (the_call.next ∷ the_call.rest) =
        get_map left_of c'.all.items client the_call.c the_call.there ∙ ap (λ (l : List Ask). Some l) the_call.left in
        let same : Some (the_call.next ∷ the_call.rest) ≡ Some (a ∷ rest) = sym there ∙ at in
        cc

    drawn_so : (a : Ask) (rest : List Ask) → slice_get (lefts c'.all.items) client ≡ Some (a ∷ rest)
        → IsDrawnOf x' (calls_at (position_of one.y c' s' d')) (call_of client a.line a.command)
    drawn_so a rest at = subst (λ (k : Ask). IsDrawnOf x' (calls_at (position_of one.y c' s' d')) (call_of client k.line k.command))
        (same_next a rest at) the_call.drawn_is

    goes_behind : (line : ℕ) (k : Command) (lists : List (List Ask)) → scripts_behind client lists ≡ asks_after (call_of client line k) lists
    goes_behind line (command.Change change) lists = refl
    goes_behind line (command.Read read) lists = refl

    -- a command takes memory
    takes_memory : (line : ℕ) (k : Command) → CallTakesMemory (call_of client line k)
    takes_memory line (command.Change change) = tt
    takes_memory line (command.Read read) = tt

    -- its command was made
    pub runs_on : (c'' : Clients) (s'' : State) (d'' : Disk) → AsksNext client c' s' d' c'' s'' d'' → IsSound d'' → IsRunning p x' c'' s'' d''
    runs_on c'' s'' d'' asks sound =
        let lists : List (List Ask) = lefts c'.all.items in
        let many : length s''.book.entries ≡ length s'.book.entries + 1 =
        ap (λ (es : List Entry). length es) asks.made.entries ∙ length-append s'.book.entries (asks.made.entry ∷ []) in
        record {
          leads = leads_more p (position_of one.y c' s' d') (call_of client asks.next.line asks.next.command) (position_of x' c'' s'' d'')
              before_it.leads (record {
                x = one.drawn.turn;
                drawn = drawn_so asks.next asks.rest asks.left;
                called = asks.made.called;
                sound = sound;
                clients = asks.behind_it ∙ goes_behind asks.next.line asks.next.command lists;
              });
          up = asks.made.up;
          tied = asks.tied;
          fits = subst (λ (l : List (List Ask)). AllByRecursion (AllByRecursion FitsAsk) l) (sym asks.behind_it)
              (fits_behind FitsAsk client lists before_it.fits);
          room = omega (
            arith,
            before_it.room,
            many,
            ap (λ (l : List (List Ask)). command_sum l) asks.behind_it,
            sum_behind client lists asks.next asks.rest asks.left,
          );
          asked = λ scripts was. subst (λ (l : List (List Ask)). AreAsked scripts s''.book.entries l) (sym asks.behind_it)
              (subst (λ (es : List Entry). AreAsked scripts es (scripts_behind client lists)) (sym asks.made.entries)
              (asked_more client scripts lists asks.next asks.rest s'.book.entries asks.made.entry asks.left asks.made.asked
              (before_it.asked scripts was)));
        }

    -- there is less left
    pub runs_less : (c'' : Clients) (s'' : State) (d'' : Disk) → AsksNext client c' s' d' c'' s'' d''
        → command_sum (lefts c''.all.items) < command_sum (lefts c.all.items)
    runs_less c'' s'' d'' asks = omega (
      arith,
      ap (λ (l : List (List Ask)). command_sum l) asks.behind_it,
      ap (λ (l : List (List Ask)). command_sum l) one.steps.same,
      sum_behind client (lefts c'.all.items) asks.next asks.rest asks.left,
    )

    -- its command wasn't made
    pub runs_in_vain : (e : RunFail) (s'' : State) (d'' : Disk) → AsksInVain e client c' s' d' s'' d'' → RunsClients (Some e) p x' s'' d''
    runs_in_vain run.Fault s'' d'' vain = absurd vain.unmade
    runs_in_vain run.Memory s'' d'' vain = record {
      reached = position_of one.y c' s' d';
      leads = before_it.leads;
      ended = (
        sym vain.unmade.0,
        sym vain.unmade.1,
        record {
          up = before_it.up;
          call = call_of client vain.next.line vain.next.command;
          drawn = subst (λ (n : ℕ). IsDrawnOf n (calls_at (position_of one.y c' s' d')) (call_of client vain.next.line vain.next.command))
              one.drawn.turn (drawn_so vain.next vain.rest vain.left);
          takes = takes_memory vain.next.line vain.next.command;
        },
      );
      asked = λ scripts was. subst (λ (z : State). AreAsked scripts z.book.entries (lefts c'.all.items)) (sym vain.unmade.0) (before_it.asked scripts was);
    }
    runs_in_vain run.DeviceRead s'' d'' vain = record {
      reached = position_of one.y c' s' d';
      leads = before_it.leads;
      ended = (
        record {
          client = client;
          line = vain.next.line;
          command = vain.next.command;
          x = one.drawn.turn;
          drawn = drawn_so vain.next vain.rest vain.left;
          needs = vain.unmade.2;
          clients = refl;
          state = vain.unmade.0;
          disk = vain.unmade.1;
        },
        ap (λ (z : State). z.down) vain.unmade.0 ∙ before_it.up,
      );
      asked = λ scripts was. subst (λ (z : State). AreAsked scripts z.book.entries (lefts c'.all.items)) (sym vain.unmade.0) (before_it.asked scripts was);
    }

-- ---- the whole run

-- each client's first command is left, where nothing was asked
nothing_asked : (number : ℕ) (lists : List (List Ask)) → EachAskedUpTo number lists [] lists
nothing_asked number [] = tt
nothing_asked number (asks ∷ more) = (refl, nothing_asked (number + 1) more)

asked_none : (lists : List (List Ask)) (s : State) → s.book ≡ empty_book → AreAsked lists s.book.entries lists
asked_none lists s none = subst (λ (b : Book). AreAsked lists b.entries lists) (sym none) (record { each = nothing_asked 0 lists; no_other = tt })

-- the commands of lines that scripts can have
fits_asked : (waits : Bool) (line : ℕ) (w : What) (more : List Ask) → FitsWhat w → AllByRecursion FitsAsk more
    → AllByRecursion FitsAsk (asked waits line w ++ more)
fits_asked waits line (what.Command c) more fits all = (fits, all)
fits_asked waits line what.Wait more fits all = all

fits_asks : (waits : Bool) (lines : List Line) → AllByRecursion FitsLine lines → AllByRecursion FitsAsk (asks_from waits lines)
fits_asks waits [] all = tt
fits_asks waits (l ∷ ls) all = fits_asked waits l.line l.what (asks_from (is_wait l.what) ls) all.0 (fits_asks (is_wait l.what) ls all.1)

fits_scripts : (scripts : List (List Line)) → AllByRecursion (AllByRecursion FitsLine) scripts
    → AllByRecursion (AllByRecursion FitsAsk) (map asks_of scripts)
fits_scripts [] all = tt
fits_scripts (lines ∷ more) all = (fits_asks false lines all.0, fits_scripts more all.1)

counts_none : (number : ℕ) (cs : List Client) (book : Book) → book ≡ empty_book → AllByRecursion (λ c. c.unacked ≡ 0) cs → AreCounts number cs book
counts_none number [] book none all = tt
counts_none number (c ∷ cs) book none all = (
  all.0 ∙ ap (λ (b : Book). unacked number b) (sym none),
  counts_none (number + 1) cs book none all.1,
)

nothing_twice : IsDistinct nat_eq []
unfolding IsDistinct
nothing_twice = tt

order_new : (s : State) → IsNew s → IsInOrder s
order_new s new = record {
  of_accepted = subst (λ (b : Book). AllByRecursion (λ c. IsSome (change_at b.entries c.place)) b.commits) (sym new.book) tt;
  queued = subst (λ (b : Book). AreQueued b (intents s.pending)) (sym new.book)
      (subst (λ (xs : List Context). AreQueued empty_book (intents xs)) (sym new.pending) (record { once = nothing_twice; in_order = λ coll. refl }));
  contexts = subst (λ (b : Option Batch). AllByRecursion (IsOfEntry s.book.entries) (intents (option_map_or (λ k. k.contexts) b []) ++ intents s.pending)) (sym new.batch)
      (subst (λ (xs : List Context). AllByRecursion (IsOfEntry s.book.entries) (intents xs)) (sym new.pending) tt);
}

-- new clients are tied to the book of a kernel of which nothing was asked yet
pub new_tied : (scripts : List (List Line)) (c : Clients) (s : State) → IsNew s → AreNewClients scripts c → AreTied c s
new_tied scripts c s new clients = record {
  clients_are = clients.are;
  order = order_new s new;
  counts = counts_none 0 c.all.items s.book new.book clients.none;
  no_other = subst (λ (b : Book). AreOfClients (length c.all.items) b.entries) (sym new.book) tt;
}

pub new_fits : (scripts : List (List Line)) (c : Clients) → AreNewClients scripts c → AllByRecursion (AllByRecursion FitsLine) scripts → EachFits c.all.items
new_fits scripts c clients fits = subst (λ (l : List (List Ask)). AllByRecursion (AllByRecursion FitsAsk) l) (sym clients.left) (fits_scripts scripts fits)

pub new_room : (scripts : List (List Line)) (c : Clients) (s : State) → IsNew s → AreNewClients scripts c → command_sum (map asks_of scripts) ≤ 1048576
    → length s.book.entries + command_sum (lefts c.all.items) ≤ 1048576
new_room scripts c s new clients few = omega (arith, few, ap (λ (l : List (List Ask)). command_sum l) clients.left, ap (λ (b : Book). length b.entries) new.book)

-- there was no memory for the clients
pub no_clients : (seed : ℕ) (scripts : List (List Line)) (s : State) (d : Disk) → s.down ≡ None → IsNew s → RunsUpTo (Some run.Memory) seed scripts s d s d
no_clients seed scripts s d up new =
    let start : Position = at_position seed (map asks_of scripts) s d in
    record {
      reached = start;
      leads = stays start;
      last = start;
      ended = (refl, inr (refl, up));
      state = refl;
      disk = refl;
      asked = asked_none (map asks_of scripts) s new.book;
    }

-- however draining ended
any_stop : (r : Result (Unit {0}) StepFail) (p : Position) (s' : State) (d' : Disk)
    → MatchResult r (λ x. StopsAs None p s' d') (λ e. StopsAs (Some e) p s' d') → (e : Option StepFail) × StopsAs e p s' d'
any_stop (Ok u) p s' d' stops = (None, stops)
any_stop (Err e) p s' d' stops = (Some e, stops)

pub winds_up : (f : RunFail) (r : Result (Unit {0}) StepFail) (x : ℕ) (s : State) (d : Disk) (s' : State) (d' : Disk) → f ≡ run.DeviceRead
    → MatchResult r (λ u. StopsAs None (at_position x [] s d) s' d') (λ e. StopsAs (Some e) (at_position x [] s d) s' d') → WindsUp f x s d s' d'
winds_up run.DeviceRead r x s d s' d' is stops = let any = any_stop r (at_position x [] s d) s' d' stops in
    record { fail = any.0; stops = any.1 }
winds_up run.Fault r x s d s' d' is stops = absurd cc
winds_up run.Memory r x s d s' d' is stops = absurd cc

-- the clients' run, wound up, is the whole run
module _ (seed y : ℕ) (same : y ≡ seed) (scripts : List (List Line)) (c : Clients) (s : State) (d : Disk) (new : IsNew s) (clients : AreNewClients scripts c)
  where
    start_is : position_of y c s d ≡ at_position seed (map asks_of scripts) s d
    start_is = ap (λ (n : ℕ). position_of n c s d) same ∙ ap (λ (l : List (List Ask)). at_position seed l s d) clients.left

    start_asked : AreAsked (map asks_of scripts) s.book.entries (lefts c.all.items)
    start_asked = subst (λ (l : List (List Ask)). AreAsked (map asks_of scripts) s.book.entries l) (sym clients.left) (asked_none (map asks_of scripts) s new.book)

    pub ran_out : (x' : ℕ) (s' : State) (d' : Disk) → RunsClients None (position_of y c s d) x' s' d' → RunsUpTo None seed scripts s d s' d'
    ran_out x' s' d' ran = record {
      reached = ran.reached;
      leads = subst (λ (p : Position). LeadsTo p ran.reached) start_is ran.leads;
      last = ran.reached;
      ended = (refl, ran.ended.2);
      state = ran.ended.0;
      disk = ran.ended.1;
      asked = ran.asked (map asks_of scripts) start_asked;
    }

    pub ran_up_to : (f : RunFail) (x' : ℕ) (t : State) (e : Disk) (s' : State) (d' : Disk) → RunsClients (Some f) (position_of y c s d) x' t e
        → WindsUp f x' t e s' d' → RunsUpTo (Some f) seed scripts s d s' d'
    ran_up_to run.Fault x' t e s' d' ran wound = record {
      reached = ran.reached;
      leads = subst (λ (p : Position). LeadsTo p ran.reached) start_is ran.leads;
      last = ran.reached;
      ended = (refl, ran.ended.2);
      state = ran.ended.0 ∙ sym wound.0;
      disk = ran.ended.1 ∙ sym wound.1;
      asked = subst (λ (z : State). AreAsked (map asks_of scripts) z.book.entries ran.reached.clients) (sym wound.0) (ran.asked (map asks_of scripts) start_asked);
    }
    ran_up_to run.Memory x' t e s' d' ran wound = record {
      reached = ran.reached;
      leads = subst (λ (p : Position). LeadsTo p ran.reached) start_is ran.leads;
      last = ran.reached;
      ended = (refl, inl ran.ended.2);
      state = ran.ended.0 ∙ sym wound.0;
      disk = ran.ended.1 ∙ sym wound.1;
      asked = subst (λ (z : State). AreAsked (map asks_of scripts) z.book.entries ran.reached.clients) (sym wound.0) (ran.asked (map asks_of scripts) start_asked);
    }
    ran_up_to run.DeviceRead x' t e s' d' ran wound = record {
      reached = ran.reached;
      leads = subst (λ (p : Position). LeadsTo p ran.reached) start_is ran.leads;
      last = at_position wound.stops.x [] s' d';
      ended = record {
        resumed = at_position x' [] t e;
        lost = ran.ended.0;
        leads = wound.stops.leads;
        fail = wound.fail;
        ended = wound.stops.ended;
      };
      state = refl;
      disk = refl;
      asked = subst (λ (es : List Entry). AreAsked (map asks_of scripts) es ran.reached.clients) (sym wound.stops.entries)
          (ran.asked (map asks_of scripts) start_asked);
    }

-- the kernel is up where a read was lost
pub up_again : (f : RunFail) (p : Position) (x' : ℕ) (s' : State) (d' : Disk) → RunsClients (Some f) p x' s' d' → f ≡ run.DeviceRead → s'.down ≡ None
up_again run.DeviceRead p x' s' d' ran is = ran.ended.1
up_again run.Fault p x' s' d' ran is = absurd cc
up_again run.Memory p x' s' d' ran is = absurd cc
