-- How each call of the kernel keeps the clients tied to its book.
use Rattle.std.proofs.Common.{◌≡◌, ◌≢◌, ℕ, zero, suc, ◌+◌, ◌<◌, ◌≤◌, Bool, true, false, cond, List, [], ◌∷◌, ◌++◌, length, map, Option, Some, None}
use Rattle.std.proofs.Common.{ap, ◌∙◌, sym, refl, subst, append-nil, append_assoc, arith}
use Rattle.std.specs.Prelude.{slice_get, is_some, IfSome, ◌&&◌, ◌||◌, not, ◌==◌, nat_eq, nat_lt}
use Rattle.std.specs.List.{AllByRecursion, IsDistinct}
use Rattle.std.proofs.lemmas.Bool.{ne_eqb, eq-eqb, eqb-false, lt-ltb, le-ltb, ltb-true, ltb-false}
use Rattle.std.proofs.lemmas.Option.{IfSome_then}
use Rattle.object_model.specs.Prelude.{accepted_change, is_acknowledged}
use Rattle.object_model.specs.declared.book.Book.{Book}
use Rattle.object_model.specs.declared.book.Commit.{Commit}
use Rattle.object_model.specs.declared.book.Entry.{Entry}
use Rattle.store_steps.specs.declared.context.Context.{Context}
use Rattle.store_steps.specs.Prelude.{commit_of, acknowledged}
use Rattle.book_facts.specs.Prelude.{commit_places}
use Rattle.client_runs.specs.declared.client.Client.{Client}
use Rattle.client_runs.specs.Prelude.{is_accepted_of, unacked_from, unacked, changed, AreCounts, IsOfOne}

-- ---- counts

abbrev pub one_if : Bool → ℕ
one_if b = cond b 1 0

-- an entry, and those behind it
pub unacked_cons : (client : ℕ) (commits : List Commit) (place : ℕ) (e : Entry) (es : List Entry)
    → unacked_from client commits place (e ∷ es)
    ≡ one_if (is_accepted_of client e && not (is_acknowledged commits place)) + unacked_from client commits (place + 1) es
unacked_cons client commits place e es = by_test (is_accepted_of client e && not (is_acknowledged commits place))
  where
    later : ℕ
    later = unacked_from client commits (place + 1) es

    by_test : (b : Bool) → cond b (later + 1) later ≡ one_if b + later
    by_test true = omega arith
    by_test false = omega arith

-- an entry more, behind all
pub unacked_push : (client : ℕ) (commits : List Commit) (place : ℕ) (es : List Entry) (e : Entry)
    → unacked_from client commits place (es ++ e ∷ [])
    ≡ unacked_from client commits place es + one_if (is_accepted_of client e && not (is_acknowledged commits (place + length es)))
unacked_push client commits place [] e =
    unacked_cons client commits place e []
    ∙ (ap (λ (n : ℕ). one_if (is_accepted_of client e && not (is_acknowledged commits n)) + 0) {x = place} {y = place + 0} (omega arith) ∙ omega arith)
unacked_push client commits place (x ∷ xs) e =
    let ih = unacked_push client commits (place + 1) xs e in
    let there : one_if (is_accepted_of client e && not (is_acknowledged commits (place + 1 + length xs)))
    ≡ one_if (is_accepted_of client e && not (is_acknowledged commits (place + suc (length xs)))) =
    ap (λ (n : ℕ). one_if (is_accepted_of client e && not (is_acknowledged commits n))) {x = place + 1 + length xs} {y = place + suc (length xs)} (omega arith) in
    omega (arith, unacked_cons client commits place x (xs ++ e ∷ []), unacked_cons client commits place x xs, ih, there)

-- it depends on the commits by what they acknowledge
pub unacked_by : (client : ℕ) (commits commits' : List Commit) (place : ℕ) (es : List Entry)
    → ((p : ℕ) → is_acknowledged commits' p ≡ is_acknowledged commits p)
    → unacked_from client commits' place es ≡ unacked_from client commits place es
unacked_by client commits commits' place [] same = refl
unacked_by client commits commits' place (e ∷ es) same =
    let ih = unacked_by client commits commits' (place + 1) es same in
    let here : one_if (is_accepted_of client e && not (is_acknowledged commits' place)) ≡ one_if (is_accepted_of client e && not (is_acknowledged commits place)) =
    ap (λ (b : Bool). one_if (is_accepted_of client e && not b)) (same place) in
    omega (arith, unacked_cons client commits place e es, unacked_cons client commits' place e es, ih, here)

-- it is at most the number of entries
pub unacked_few : (client : ℕ) (commits : List Commit) (place : ℕ) (es : List Entry) → unacked_from client commits place es ≤ length es
unacked_few client commits place [] = omega arith
unacked_few client commits place (e ∷ es) =
    let ih = unacked_few client commits (place + 1) es in
    let one = one_at_most (is_accepted_of client e && not (is_acknowledged commits place)) in
    omega (arith, unacked_cons client commits place e es, ih, one)
  where
    one_at_most : (b : Bool) → one_if b ≤ 1
    one_at_most true = omega arith
    one_at_most false = omega arith

-- ---- acknowledgements

-- a commit that isn't acknowledged acknowledges nothing
pub acknowledged_push : (commits : List Commit) (c : Commit) (p : ℕ) → c.acked_at ≡ None → is_acknowledged (commits ++ c ∷ []) p ≡ is_acknowledged commits p
acknowledged_push [] c p none = ap (λ (o : Option ℕ). ((c.place == p) && is_some o) || false) none ∙ and_false (c.place == p)
  where
    and_false : (b : Bool) → ((b && false) || false) ≡ false
    and_false true = refl
    and_false false = refl
acknowledged_push (x ∷ xs) c p none = ap (λ (b : Bool). ((x.place == p) && is_some x.acked_at) || b) (acknowledged_push xs c p none)

pub acknowledged_more : (commits : List Commit) (xs : List Context) (p : ℕ) → is_acknowledged (commits ++ map commit_of xs) p ≡ is_acknowledged commits p
acknowledged_more commits [] p = ap (λ (cs : List Commit). is_acknowledged cs p) (append-nil commits)
acknowledged_more commits (x ∷ xs) p =
    ap (λ (cs : List Commit). is_acknowledged cs p) (sym (append_assoc commits (commit_of x ∷ []) (map commit_of xs)))
    ∙ acknowledged_more (commits ++ commit_of x ∷ []) xs p ∙ acknowledged_push commits (commit_of x) p refl

lt_suc : (i k : ℕ) → nat_lt (suc i) (suc k) ≡ nat_lt i k
lt_suc i k = by_test (nat_lt i k) refl
  where
    by_test : (b : Bool) → nat_lt i k ≡ b → nat_lt (suc i) (suc k) ≡ b
    by_test true e = lt-ltb (suc i) (suc k) (omega (arith, ltb-true i k e))
    by_test false e = le-ltb (suc i) (suc k) (omega (arith, ltb-false i k e))

-- the next acknowledgement is of the place of the first commit that isn't acknowledged
pub acknowledged_next : (events k p : ℕ) (commits : List Commit) (c : Commit) → slice_get commits k ≡ Some c
    → ((i : ℕ) → IfSome (slice_get commits i) (λ d. is_some d.acked_at ≡ nat_lt i k))
    → is_acknowledged (acknowledged events commits) p ≡ (c.place == p) || is_acknowledged commits p
acknowledged_next events k p [] c at acks = absurd cc
acknowledged_next events zero p (x ∷ xs) c at acks =
    let same : x ≡ c = cc in
    let none : is_some x.acked_at ≡ false = acks 0 in
    by_none (is_some x.acked_at) none same
  where
    by_none : (b : Bool) → b ≡ false → x ≡ c
        → is_acknowledged (cond b (x ∷ acknowledged events xs) (record x { acked_at = Some events } ∷ xs)) p
        ≡ (c.place == p) || (((x.place == p) && b) || is_acknowledged xs p)
    by_none true is same = absurd cc
    by_none false is same = ap (λ (y : Commit). ((x.place == p) && true) || is_acknowledged xs p) same ∙ by_place (x.place == p) (c.place == p)
        (ap (λ (y : Commit). y.place == p) same)
      where
        by_place : (a b : Bool) → a ≡ b → ((a && true) || is_acknowledged xs p) ≡ b || ((a && false) || is_acknowledged xs p)
        by_place true true e = refl
        by_place false false e = refl
        by_place true false e = absurd cc
        by_place false true e = absurd cc
acknowledged_next events (suc k) p (x ∷ xs) c at acks =
    by_some (is_some x.acked_at) (acks 0 ∙ lt-ltb 0 (suc k) (omega arith)) (acknowledged_next events k p xs c at (λ i. IfSome_then (slice_get xs i) (acks (suc i)) (λ (d : Commit) is. is ∙ lt_suc i k)))
  where
    by_some : (b : Bool) → b ≡ true → is_acknowledged (acknowledged events xs) p ≡ (c.place == p) || is_acknowledged xs p
        → is_acknowledged (cond b (x ∷ acknowledged events xs) (record x { acked_at = Some events } ∷ xs)) p
        ≡ (c.place == p) || (((x.place == p) && b) || is_acknowledged xs p)
    by_some false is ih = absurd cc
    by_some true is ih = turn ((x.place == p) && is_some x.acked_at) ((x.place == p) && true) (ap (λ (b : Bool). (x.place == p) && b) (acks 0 ∙ lt-ltb 0 (suc k) (omega arith)))
      where
        turn : (a b : Bool) → a ≡ b → (a || is_acknowledged (acknowledged events xs) p) ≡ (c.place == p) || (b || is_acknowledged xs p)
        turn true true e = or_true (c.place == p)
          where
            or_true : (b : Bool) → true ≡ b || true
            or_true true = refl
            or_true false = refl
        turn false false e = ih
        turn true false e = absurd cc
        turn false true e = absurd cc

-- the commits of other places acknowledge nothing of this one
none_at : (p : ℕ) (commits : List Commit) → AllByRecursion (λ q. nat_eq p q ≡ false) (commit_places commits) → is_acknowledged commits p ≡ false
none_at p [] apart = refl
none_at p (x ∷ xs) apart =
    let other : (x.place == p) ≡ false = ne_eqb x.place p (λ e. eqb-false p x.place apart.0 (sym e)) in
    ap (λ (b : Bool). (b && is_some x.acked_at) || is_acknowledged xs p) other ∙ none_at p xs apart.1

apart_at : (q k : ℕ) (commits : List Commit) (c : Commit) → slice_get commits k ≡ Some c
    → AllByRecursion (λ p. nat_eq q p ≡ false) (commit_places commits) → nat_eq q c.place ≡ false
apart_at q k [] c at apart = absurd cc
apart_at q zero (x ∷ xs) c at apart = let same : x ≡ c = cc in ap (λ (d : Commit). nat_eq q d.place) (sym same) ∙ apart.0
apart_at q (suc k) (x ∷ xs) c at apart = apart_at q k xs c at apart.1

-- a transaction that is committed once isn't acknowledged before its commit is
pub not_acknowledged : (k : ℕ) (commits : List Commit) (c : Commit) → slice_get commits k ≡ Some c → IsDistinct nat_eq (commit_places commits)
    → is_some c.acked_at ≡ false → is_acknowledged commits c.place ≡ false
unfolding IsDistinct
not_acknowledged k [] c at distinct none = absurd cc
not_acknowledged zero (x ∷ xs) c at distinct none =
    let same : x ≡ c = cc in
    let rest : is_acknowledged xs c.place ≡ false = subst (λ (d : Commit). is_acknowledged xs d.place ≡ false) same (none_at x.place xs distinct.0) in
    let never : is_some x.acked_at ≡ false = ap (λ (d : Commit). is_some d.acked_at) same ∙ none in
    ap (λ (b : Bool). ((x.place == c.place) && b) || is_acknowledged xs c.place) never ∙ (ap (λ (b : Bool). ((x.place == c.place) && false) || b) rest
    ∙ and_false (x.place == c.place))
  where
    and_false : (b : Bool) → ((b && false) || false) ≡ false
    and_false true = refl
    and_false false = refl
not_acknowledged (suc k) (x ∷ xs) c at distinct none =
    let other : (x.place == c.place) ≡ false = apart_at x.place k xs c at distinct.0 in
    ap (λ (b : Bool). (b && is_some x.acked_at) || is_acknowledged xs c.place) other ∙ not_acknowledged k xs c at distinct.1 none

-- ---- the counts of one place more

module _ (client p : ℕ) (commits commits' : List Commit) (turns : (q : ℕ) → is_acknowledged commits' q ≡ (p == q) || is_acknowledged commits q)
    (not_yet : is_acknowledged commits p ≡ false) where
  here_other : (place : ℕ) (e : Entry) → p ≢ place
      → one_if (is_accepted_of client e && not (is_acknowledged commits' place)) ≡ one_if (is_accepted_of client e && not (is_acknowledged commits place))
  here_other place e other =
      ap (λ (b : Bool). one_if (is_accepted_of client e && not b)) (turns place ∙ ap (λ (b : Bool). b || is_acknowledged commits place) (ne_eqb p place other))

  -- behind the place
  past : (place : ℕ) (es : List Entry) → p < place → unacked_from client commits' place es ≡ unacked_from client commits place es
  past place [] before = refl
  past place (e ∷ es) before =
      let ih = past (place + 1) es (omega (arith, before)) in
      let here = here_other place e (λ same. omega (arith, same, before)) in
      omega (arith, unacked_cons client commits place e es, unacked_cons client commits' place e es, ih, here)

  pub counted_off : (place i : ℕ) (es : List Entry) (e : Entry) → slice_get es i ≡ Some e → p ≡ place + i
      → unacked_from client commits' place es + one_if (is_accepted_of client e) ≡ unacked_from client commits place es
  counted_off place i [] e at is = absurd cc
  counted_off place zero (x ∷ xs) e at is =
      let same : x ≡ e = cc in
      let there : p ≡ place = omega (arith, is) in
      let now : is_acknowledged commits' place ≡ true =
      turns place ∙ ap (λ (b : Bool). b || is_acknowledged commits place) (eq-eqb p place there) in
      let before : is_acknowledged commits place ≡ false = subst (λ (q : ℕ). is_acknowledged commits q ≡ false) there not_yet in
      let gone : one_if (is_accepted_of client x && not (is_acknowledged commits' place)) ≡ 0 =
      ap (λ (b : Bool). one_if (is_accepted_of client x && not b)) now ∙ none_left (is_accepted_of client x) in
      let was : one_if (is_accepted_of client x && not (is_acknowledged commits place)) ≡ one_if (is_accepted_of client e) =
      ap (λ (b : Bool). one_if (is_accepted_of client x && not b)) before ∙ (all_there (is_accepted_of client x)
      ∙ ap (λ (y : Entry). one_if (is_accepted_of client y)) same) in
      omega (arith, unacked_cons client commits place x xs, unacked_cons client commits' place x xs, past (place + 1) xs (omega (arith, there)), gone, was)
    where
      none_left : (b : Bool) → one_if (b && false) ≡ 0
      none_left true = refl
      none_left false = refl

      all_there : (b : Bool) → one_if (b && true) ≡ one_if b
      all_there true = refl
      all_there false = refl
  counted_off place (suc i) (x ∷ xs) e at is =
      let ih = counted_off (place + 1) i xs e at (omega (arith, is)) in
      let here = here_other place x (λ same. omega (arith, same, is)) in
      omega (arith, unacked_cons client commits place x xs, unacked_cons client commits' place x xs, ih, here)

-- an accepted transaction is one of its client
pub accepted_of : (client : ℕ) (e : Entry) → is_some (accepted_change e.command e.answer) ≡ true → is_accepted_of client e ≡ (e.client == client)
accepted_of client e accepted = ap (λ (b : Bool). (e.client == client) && b) accepted ∙ and_true (e.client == client)
  where
    and_true : (b : Bool) → (b && true) ≡ b
    and_true true = refl
    and_true false = refl

-- ---- the counts of clients

-- what is counted of one
pub count_at : (P : Client → Type 0) (number i : ℕ) (cs : List Client) (book : Book) → i < length cs → AreCounts number cs book
    → ((c : Client) → c.unacked ≡ unacked (number + i) book → P c) → IsOfOne P i cs
count_at P number i [] book there counts known = absurd (omega (arith, there))
count_at P number zero (x ∷ xs) book there counts known = known x (counts.0 ∙ ap (λ (n : ℕ). unacked n book) {x = number} {y = number + 0} (omega arith))
count_at P number (suc i) (x ∷ xs) book there counts known = count_at P (number + 1) i xs book (omega (arith, there)) counts.1
    (λ c is. known c (is ∙ ap (λ (n : ℕ). unacked n book) {x = number + 1 + i} {y = number + suc i} (omega arith)))

pub count_of : (number i : ℕ) (cs : List Client) (c : Client) (book : Book) → slice_get cs i ≡ Some c → AreCounts number cs book → c.unacked ≡ unacked (number + i) book
count_of number i [] c book at counts = absurd cc
count_of number zero (x ∷ xs) c book at counts = let same : x ≡ c = cc in
    ap (λ (y : Client). y.unacked) (sym same) ∙ (counts.0 ∙ ap (λ (n : ℕ). unacked n book) {x = number} {y = number + 0} (omega arith))
count_of number (suc i) (x ∷ xs) c book at counts =
    count_of (number + 1) i xs c book at counts.1 ∙ ap (λ (n : ℕ). unacked n book) {x = number + 1 + i} {y = number + suc i} (omega arith)

-- where nothing of any client changed
pub counts_by : (number : ℕ) (cs : List Client) (book book' : Book) → ((m : ℕ) → unacked m book' ≡ unacked m book) → AreCounts number cs book
    → AreCounts number cs book'
counts_by number [] book book' same counts = tt
counts_by number (c ∷ cs) book book' same counts = (counts.0 ∙ sym (same number), counts_by (number + 1) cs book book' same counts.1)

module _ (client : ℕ) (book book' : Book) (others : (m : ℕ) → m ≢ client → unacked m book' ≡ unacked m book) where
  counts_above : (number : ℕ) (cs : List Client) → client < number → AreCounts number cs book → AreCounts number cs book'
  counts_above number [] above counts = tt
  counts_above number (c ∷ cs) above counts = (
    counts.0 ∙ sym (others number (λ e. omega (arith, e, above))),
    counts_above (number + 1) cs (omega (arith, above)) counts.1,
  )

  -- where one changed, and its count with it
  pub counts_changed : (f : Client → Client) (number i : ℕ) (cs : List Client) → client ≡ number + i
      → ((c : Client) → c.unacked ≡ unacked client book → (f c).unacked ≡ unacked client book') → AreCounts number cs book
      → AreCounts number (changed i f cs) book'
  counts_changed f number i [] is keeps counts = tt
  counts_changed f number zero (x ∷ xs) is keeps counts =
      let same : client ≡ number = omega (arith, is) in (
        keeps x (counts.0 ∙ ap (λ (n : ℕ). unacked n book) (sym same)) ∙ ap (λ (n : ℕ). unacked n book') same,
        counts_above (number + 1) xs (omega (arith, same)) counts.1,
      )
  counts_changed f number (suc i) (x ∷ xs) is keeps counts = (
    counts.0 ∙ sym (others number (λ e. omega (arith, e, is))),
    counts_changed f (number + 1) i xs (omega (arith, is)) keeps counts.1,
  )
