-- The places of each client's entries, and the lines of one client, one behind another.
use Rattle.std.proofs.Common.{◌≡◌, ◌≢◌, ◌⊎◌, inl, inr, ℕ, zero, suc, ◌+◌, ◌<◌, ◌≤◌, ◌==◌, Bool, true, false, List, [], ◌∷◌, ◌++◌, length, drop, get_or}
use Rattle.std.proofs.Common.{if◌then◌else◌, append_assoc, append-nil, sym, refl, ap, ◌∙◌, arith, replicate}
use Rattle.std.specs.List.{flat_map, range_with_len}
use Rattle.std.proofs.lemmas.Bool.{eqb-true, eq-eqb}
use Rattle.std.proofs.lemmas.Bool.Decides.{eqb_tells}
use Rattle.std.proofs.lemmas.List.{drop-drop, drop-map, drop_all, drop_more, get_or-map, get_or-replicate, length-map, length-drop}
use Rattle.std.proofs.lemmas.List.Concat.{flat_map-append}
use Rattle.object_model.specs.declared.book.Entry.{Entry}
use Rattle.object_model.specs.declared.book.Commit.{Commit}
use Rattle.object_model.specs.Prelude.{is_acknowledged}
use Rattle.run_texts.specs.Prelude.{as_text, entry_line, client_lines, clients_of, next_place, client_place_from, AreLinked, Output, Waiting, AddsText}
use Rattle.run_texts.proofs.TextLemmas.{as_text-append}
use Rattle.run_texts.proofs.Adding.{both, said, nothing}

-- ---- places

-- what is behind one more
one_behind : {A : Type 0} (xs : List A) (place : ℕ) (x : A) (rest : List A) → drop place xs ≡ x ∷ rest → drop (place + 1) xs ≡ rest
one_behind {A} xs place x rest is = sym (drop-drop 1 place xs) ∙ ap (λ (l : List A). drop 1 l) is

-- what is at a place, of what is left from there on
at_front : {A : Type 0} (xs : List A) (place : ℕ) (d x : A) (rest : List A) → drop place xs ≡ x ∷ rest → get_or xs place d ≡ x
at_front [] zero d x rest is = absurd cc
at_front [] (suc n) d x rest is = absurd cc
at_front (y ∷ ys) zero d x rest is = cc
at_front (y ∷ ys) (suc n) d x rest is = at_front ys n d x rest is

-- there are as many clients as entries
pub as_many : (entries : List Entry) → length (clients_of entries) ≡ length entries
as_many entries = length-map entries (λ (e : Entry). e.client)

-- the clients of what is left
clients-drop : (place : ℕ) (entries : List Entry) → drop place (clients_of entries) ≡ clients_of (drop place entries)
clients-drop place entries = drop-map (λ (e : Entry). e.client) place entries

-- the next place isn't before the one that it was looked for from
pub next_later : (client place : ℕ) (cs : List ℕ) → place ≤ next_place client place cs
next_later client place [] = omega arith
next_later client place (c ∷ cs) = by (c == client) (next_later client (place + 1) cs)
  where
    by : (b : Bool) → place + 1 ≤ next_place client (place + 1) cs → place ≤ (if b then place else next_place client (place + 1) cs)
    by true later = omega arith
    by false later = omega (arith, later)

-- the entry there is the client's, where there is one
next_own : (clients : List ℕ) (client place : ℕ) (cs : List ℕ) → drop place clients ≡ cs → next_place client place cs < length clients
    → get_or clients (next_place client place cs) 64 ≡ client
next_own clients client place [] is within =
    absurd (omega (arith, within, length-drop place clients, ap length is))
next_own clients client place (c ∷ cs) is within =
    by (c == client) refl (next_own clients client (place + 1) cs (one_behind clients place c cs is)) within
  where
    next : ℕ
    next = next_place client (place + 1) cs

    by : (b : Bool) → (c == client) ≡ b → (next < length clients → get_or clients next 64 ≡ client) → (if b then place else next) < length clients
        → get_or clients (if b then place else next) 64 ≡ client
    by true same later below = at_front clients place 64 c cs is ∙ eqb-true c client same
    by false other later below = later below

-- no line of the client is left out on the way there
skipped : (commits : List Commit) (client : ℕ) (entries : List Entry) (place : ℕ) (es : List Entry) → drop place entries ≡ es →
    client_lines commits client place (drop place entries) ≡ client_lines commits client (next_place client place (clients_of es))
    (drop (next_place client place (clients_of es)) entries)
skipped commits client entries place [] is = refl
skipped commits client entries place (e ∷ es) is =
    by (e.client == client) refl (skipped commits client entries (place + 1) es (one_behind entries place e es is))
  where
    next : ℕ
    next = next_place client (place + 1) (clients_of es)

    lines : ℕ → List (List ℕ)
    lines p = client_lines commits client p (drop p entries)

    own : Bool → List (List ℕ)
    own b = (if b then entry_line (is_acknowledged commits place) e ∷ [] else []) ++ client_lines commits client (place + 1) es

    by : (b : Bool) → (e.client == client) ≡ b → lines (place + 1) ≡ lines next → lines place ≡ lines (if b then place else next)
    by true same later = refl
    by false other later =
        ap (λ (l : List Entry). client_lines commits client place l) is
        ∙ (ap own other ∙ (ap (λ (l : List Entry). client_lines commits client (place + 1) l) (sym (one_behind entries place e es is)) ∙ later))

-- from a place on, the lines are those from the next place of the client on
from_next : (commits : List Commit) (client : ℕ) (entries : List Entry) (from place : ℕ) → place ≡ client_place_from (clients_of entries) client from
    → client_lines commits client from (drop from entries) ≡ client_lines commits client place (drop place entries)
from_next commits client entries from place is =
    skipped commits client entries from (drop from entries) refl
    ∙ ap (λ (p : ℕ). client_lines commits client p (drop p entries))
    (ap (λ (cs : List ℕ). next_place client from cs) (sym (clients-drop from entries)) ∙ sym is)

-- the entry at that place is the client's
own_at : (client : ℕ) (entries : List Entry) (from place : ℕ) → place ≡ client_place_from (clients_of entries) client from → place < length entries
    → get_or (clients_of entries) place 64 ≡ client
own_at client entries from place is within =
    let clients = clients_of entries in
    let count : length clients ≡ length entries = as_many entries in
    ap (λ (p : ℕ). get_or clients p 64) is ∙ next_own clients client from (drop from clients) refl (omega (arith, within, is, count))

-- ---- the lines of a client

-- the lines of a client's entries before this place were added, and the entry there is the client's, where there is one
pub record IsPushedUpTo (commits : List Commit) (client : ℕ) (entries : List Entry) (place : ℕ) (p q : Waiting) (o1 o2 : Output) : Type 0 where
  pub front : List ℕ
  pub adds : AddsText front p q o1 o2
  pub rest : as_text (client_lines commits client 0 entries) ≡ front ++ as_text (client_lines commits client place (drop place entries))
  pub own : place < length entries → get_or (clients_of entries) place 64 ≡ client

-- at the first place none was
pub none_pushed : (commits : List Commit) (client : ℕ) (entries : List Entry) (place : ℕ) (p : Waiting) (o : Output)
    → place ≡ client_place_from (clients_of entries) client 0 → IsPushedUpTo commits client entries place p p o o
none_pushed commits client entries place p o is = record {
  front = [];
  adds = nothing p o;
  rest = ap as_text (from_next commits client entries 0 place is);
  own = own_at client entries 0 place is;
}

-- one more was
pub one_pushed : {p q r : Waiting} {o1 o2 o3 : Output} (commits : List Commit) (client : ℕ) (entries : List Entry) (place next : ℕ) (e : Entry)
    (acked : Bool) → IsPushedUpTo commits client entries place p q o1 o2 → place < length entries → e ≡ get_or entries place e
    → acked ≡ is_acknowledged commits place → AddsText (entry_line acked e ++ (10 ∷ [])) q r o2 o3
    → next ≡ client_place_from (clients_of entries) client (place + 1) → IsPushedUpTo commits client entries next p r o1 o3
one_pushed {p} {q} {r} {o1} {o2} {o3} commits client entries place next e acked so_far within is acked_is added next_is =
    let line : List ℕ = entry_line acked e in
    let left : List Entry = drop (place + 1) entries in
    let behind : List (List ℕ) = client_lines commits client (place + 1) left in
    let here : drop place entries ≡ e ∷ left =
    drop_more entries place e within ∙ ap (λ (x : Entry). x ∷ left) (sym is) in
    let own : (e.client == client) ≡ true =
    eq-eqb e.client client (ap (λ (x : Entry). x.client) is ∙ (sym (get_or-map (λ (x : Entry). x.client) entries place e 64 within) ∙ so_far.own within)) in
    let text : as_text (client_lines commits client place (drop place entries)) ≡ line ++ (10 ∷ as_text behind) =
    ap (λ (l : List Entry). as_text (client_lines commits client place l)) here
    ∙ (ap (λ (b : Bool). as_text ((if b then entry_line (is_acknowledged commits place) e ∷ [] else []) ++ behind)) own
    ∙ ap (λ (b : Bool). entry_line b e ++ (10 ∷ as_text behind)) (sym acked_is)) in
    record {
      front = so_far.front ++ (line ++ (10 ∷ []));
      adds = both so_far.adds added;
      rest = so_far.rest ∙ (ap (λ (t : List ℕ). so_far.front ++ t) (text ∙ sym (append_assoc line (10 ∷ []) (as_text behind)))
          ∙ (sym (append_assoc so_far.front (line ++ (10 ∷ [])) (as_text behind))
          ∙ ap (λ (ls : List (List ℕ)). (so_far.front ++ (line ++ (10 ∷ []))) ++ as_text ls) (from_next commits client entries (place + 1) next next_is)));
      own = own_at client entries (place + 1) next next_is;
    }

-- behind the last place all were
pub all_pushed : {p q : Waiting} {o1 o2 : Output} (commits : List Commit) (client : ℕ) (entries : List Entry) (place : ℕ) → length entries ≤ place
    → IsPushedUpTo commits client entries place p q o1 o2 → AddsText (as_text (client_lines commits client 0 entries)) p q o1 o2
all_pushed commits client entries place behind so_far =
    said (sym (so_far.rest
    ∙ (ap (λ (l : List Entry). so_far.front ++ as_text (client_lines commits client place l)) (drop_all place entries behind) ∙ append-nil so_far.front)))
    so_far.adds

-- ---- clients one behind another

range_more : (first n : ℕ) → range_with_len first (suc n) ≡ range_with_len first n ++ ((first + n) ∷ [])
range_more first zero = let same : first ≡ first + 0 = omega arith in ap (λ (k : ℕ). k ∷ []) same
range_more first (suc n) =
    let same : (first + 1) + n ≡ first + suc n = omega arith in
    ap (λ (l : List ℕ). first ∷ l) (range_more (first + 1) n ∙ ap (λ (k : ℕ). range_with_len (first + 1) n ++ (k ∷ [])) same)

-- the text of the first clients, and that of the next
pub next_client : (lines : ℕ → List (List ℕ)) (client : ℕ) →
    as_text (flat_map lines (range_with_len 0 client)) ++ as_text (lines client) ≡ as_text (flat_map lines (range_with_len 0 (client + 1)))
next_client lines client =
    let front : List ℕ = range_with_len 0 client in
    let one : client + 1 ≡ suc client = omega arith in
    let last : 0 + client ≡ client = omega arith in
    let more : range_with_len 0 (client + 1) ≡ front ++ (client ∷ []) =
    ap (λ (n : ℕ). range_with_len 0 n) one ∙ (range_more 0 client ∙ ap (λ (k : ℕ). front ++ (k ∷ [])) last) in
    let parts : flat_map lines (front ++ (client ∷ [])) ≡ flat_map lines front ++ lines client =
    flat_map-append lines front (client ∷ []) ∙ ap (λ (l : List (List ℕ)). flat_map lines front ++ l) (append-nil (lines client)) in
    sym (as_text-append (flat_map lines front) (lines client)) ∙ ap as_text (sym (ap (λ (l : List ℕ). flat_map lines l) more ∙ parts))

-- ---- links

-- two numbers are the same, or they aren't
abbrev Told : ℕ → ℕ → Type 0
Told a b = (((a == b) ≡ true) × (a ≡ b)) ⊎ (((a == b) ≡ false) × (a ≢ b))

-- a client's next place is here, at its own entry
here_own : (clients : List ℕ) (place client : ℕ) → place < length clients → get_or clients place 64 ≡ client → client_place_from clients client place ≡ place
here_own clients place client within own =
    ap (λ (cs : List ℕ). next_place client place cs) (drop_more clients place 64 within)
    ∙ ap (λ (b : Bool). if b then place else next_place client (place + 1) (drop (place + 1) clients)) (eq-eqb (get_or clients place 64) client own)

-- and it is behind another's entry
here_other : (clients : List ℕ) (place client : ℕ) → place < length clients → (get_or clients place 64 == client) ≡ false
    → client_place_from clients client place ≡ client_place_from clients client (place + 1)
here_other clients place client within other =
    ap (λ (cs : List ℕ). next_place client place cs) (drop_more clients place 64 within)
    ∙ ap (λ (b : Bool). if b then place else next_place client (place + 1) (drop (place + 1) clients)) other

-- looking goes on behind an entry of another client
pub passed_by : (clients : List ℕ) (place client from : ℕ) → place < length clients → get_or clients place 64 ≢ client
    → client_place_from clients client place ≡ client_place_from clients client from → client_place_from clients client (place + 1) ≡ client_place_from clients client from
passed_by clients place client from within other so_far = by (eqb_tells (get_or clients place 64) client)
  where
    by : Told (get_or clients place 64) client → client_place_from clients client (place + 1) ≡ client_place_from clients client from
    by (inl same) = absurd (other same.1)
    by (inr told) = sym (here_other clients place client within told.0) ∙ so_far

-- and ends at one of its own
pub found_at : (clients : List ℕ) (place client from : ℕ) → place < length clients → get_or clients place 64 ≡ client
    → client_place_from clients client place ≡ client_place_from clients client from → place ≡ client_place_from clients client from
found_at clients place client from within own so_far = sym (here_own clients place client within own) ∙ so_far

-- behind the last entry there is none
pub none_linked : (entries : List Entry) (next : List ℕ) → length next ≡ length entries
    → AreLinked (clients_of entries) (length entries) (replicate 64 (length entries)) next
none_linked entries next places =
    let clients = clients_of entries in
    let n : ℕ = length entries in
    let count : length clients ≡ n = as_many entries in
    record {
      all_clients = refl;
      all_places = places ∙ sym count;
      starts = λ client within.
          get_or-replicate 64 client n 0 within ∙ ap (λ (cs : List ℕ). next_place client n cs) (sym (drop_all n clients (omega (arith, count))));
      goes_on = λ place client from within own few. absurd (omega (arith, from, within, count));
    }

-- the client of the entry at a place
pub client_at : (entries : List Entry) (place : ℕ) (e : Entry) → place < length entries → e ≡ get_or entries place e
    → e.client ≡ get_or (clients_of entries) place 64
client_at entries place e within is =
    ap (λ (x : Entry). x.client) is ∙ sym (get_or-map (λ (x : Entry). x.client) entries place e 64 within)

-- an entry of no client changes nothing
pub other_linked : (clients first next : List ℕ) (from place client : ℕ) → AreLinked clients from first next → from ≡ place + 1
    → place < length clients → client ≡ get_or clients place 64 → 64 ≤ client → AreLinked clients place first next
other_linked clients first next from place client linked is within own many = record {
  all_clients = linked.all_clients;
  all_places = linked.all_places;
  starts = λ c below. start c below (eqb_tells (get_or clients place 64) c);
  goes_on = λ at c least inside own_at below. go at c least inside own_at below (eqb_tells at place);
}
  where
    start : (c : ℕ) → c < 64 → Told (get_or clients place 64) c → get_or first c 0 ≡ client_place_from clients c place
    start c below (inl same) = absurd (omega (arith, below, many, own, same.1))
    start c below (inr other) =
        linked.starts c below ∙ (ap (λ (p : ℕ). client_place_from clients c p) is ∙ sym (here_other clients place c within other.0))

    go : (at c : ℕ) → place ≤ at → at < length clients → get_or clients at 64 ≡ c → c < 64 → Told at place
        → get_or next at 0 ≡ client_place_from clients c (at + 1)
    go at c least inside own_at below (inl same) =
        let client_is : client ≡ c = own ∙ (ap (λ (k : ℕ). get_or clients k 64) (sym same.1) ∙ own_at) in
        absurd (omega (arith, below, many, client_is))
    go at c least inside own_at below (inr other) = linked.goes_on at c (omega (arith, other.1, least, is)) inside own_at below
