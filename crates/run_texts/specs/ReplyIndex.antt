-- Where each client's entries are among all entries.
use Rattle.std.specs.Prelude.{◌≡◌, ℕ, ◌+◌, ◌<◌, ◌≤◌, ◌==◌, false, List, [], ◌∷◌, length, map, drop, slice_index_or, if◌then◌else◌}
use Rattle.object_model.specs.declared.book.Commit.{Commit}
use Rattle.object_model.specs.declared.book.Entry.{Entry}
use Rattle.object_model.specs.Prelude.{is_acknowledged}
use Rattle.run_texts.specs.declared.reply_index.ReplyIndex.{ReplyIndex}

-- the client of each entry
abbrev pub clients_of : List Entry → List ℕ
clients_of entries = map (λ e. e.client) entries

-- The first place of this client among the places from this one on, or the place behind the last one. The clients are those of the entries at
-- these places.
abbrev pub next_place : ℕ → ℕ → List ℕ → ℕ
next_place client place [] = place
next_place client place (c ∷ cs) = if c == client then place else next_place client (place + 1) cs

-- the first place of this client from this place on among all places
abbrev pub client_place_from : List ℕ → ℕ → ℕ → ℕ
client_place_from clients client place = next_place client place (drop place clients)

-- the lists have the first place of each client from this place on, and for each of these places the next one of its client
pub record AreLinked (clients : List ℕ) (from : ℕ) (first next : List ℕ) : Type 0 where
  pub all_clients : length first ≡ 64
  pub all_places : length next ≡ length clients
  pub starts : (client : ℕ) → client < 64 → slice_index_or first client 0 ≡ client_place_from clients client from
  pub goes_on : (place client : ℕ) → from ≤ place → place < length clients → slice_index_or clients place 64 ≡ client → client < 64
      → slice_index_or next place 0 ≡ client_place_from clients client (place + 1)

-- the index says of each entry whether its commit is acknowledged, and where the next one of its client is
pub record IsIndexOf (index : ReplyIndex) (commits : List Commit) (entries : List Entry) : Type 0 where
  pub flags : length index.acked.items ≡ length entries
  pub acked : (place : ℕ) → place < length entries → slice_index_or index.acked.items place false ≡ is_acknowledged commits place
  pub linked : AreLinked (clients_of entries) 0 index.first index.next.items
