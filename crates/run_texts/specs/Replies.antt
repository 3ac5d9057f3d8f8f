-- The replies: a line for each entry of the book.
use Rattle.std.specs.Prelude.{ℕ, ◌+◌, ◌==◌, Bool, true, false, List, [], ◌∷◌, ◌++◌, length, count_by, if◌then◌else◌, codes, decimal}
use Rattle.std.specs.List.{list_any, flat_map, range_with_len}
use Rattle.object_model.specs.declared.op.Refusal.{Refusal}
use Rattle.object_model.specs.declared.op.Refusal.TheVariants.{NoCollection, CollectionExists, NotEmpty, NoObject, NoAttr}
use Rattle.object_model.specs.declared.op.Refusal.TheVariants.{SameObject, BadRange, TooBig}
use Rattle.object_model.specs.declared.command.Command.{Command}
use Rattle.object_model.specs.declared.command.Command.TheVariants as ask
use Rattle.object_model.specs.declared.command.Read.TheVariants as reads
use Rattle.object_model.specs.declared.command.Answer.{Answer}
use Rattle.object_model.specs.declared.command.Answer.TheVariants as answer
use Rattle.object_model.specs.declared.book.Entry.{Entry}
use Rattle.run_texts.specs.declared.replies.Kind.{Kind}
use Rattle.run_texts.specs.declared.replies.Kind.TheVariants.{Accepted, Refused, Read}
use Rattle.object_model.specs.declared.book.Commit.{Commit}
use Rattle.object_model.specs.declared.book.Book.{Book}
use Rattle.object_model.specs.Prelude.{is_acknowledged}
use Rattle.script_text.specs.Prelude.{escaped}
use Rattle.run_texts.specs.Hex.{hex_or_dash, hex_sum}

-- why a command is refused, by number and name
abbrev pub refusal_text : Refusal → List ℕ
refusal_text NoCollection = codes "E1 NoCollection"
refusal_text CollectionExists = codes "E2 CollectionExists"
refusal_text NotEmpty = codes "E3 NotEmpty"
refusal_text NoObject = codes "E4 NoObject"
refusal_text NoAttr = codes "E5 NoAttr"
refusal_text SameObject = codes "E6 SameObject"
refusal_text BadRange = codes "E7 BadRange"
refusal_text TooBig = codes "E8 TooBig"

-- what stands before the bytes that a command has read
abbrev pub bytes_word : Command → List ℕ
bytes_word (ask.Read (reads.Bytes c o off len)) = codes "data "
bytes_word (ask.Read (reads.GetAttr c o name)) = codes "attr "
bytes_word (ask.Read (reads.OmapGet c o key)) = codes "omap "
bytes_word (ask.Read (reads.OmapHeader c o)) = codes "header "
bytes_word command = []

-- a unit holds bytes of another checksum than the one that is kept
abbrev pub csum_text : ℕ → ℕ → ℕ → List ℕ
csum_text unit kept found = codes "E14 Csum unit=" ++ decimal unit ++ codes " kept=" ++ hex_sum kept ++ codes " found=" ++ hex_sum found

-- names, each behind a space
abbrev pub names_text : List (List ℕ) → List ℕ
names_text [] = []
names_text (name ∷ names) = 0x20 ∷ (escaped name ++ names_text names)

-- the reply to a command whose commit is acknowledged, or not
abbrev pub reply_text : Bool → Command → Answer → List ℕ
reply_text acked command answer.Accepted = if acked then codes "ok" else codes "sent"
reply_text acked command (answer.Refused refusal) = refusal_text refusal
reply_text acked command (answer.NoSpace need free) = codes "E9 NoSpace need=" ++ decimal need ++ codes " free=" ++ decimal free
reply_text acked command (answer.MetaFull need room) = codes "E10 MetaFull need=" ++ decimal need ++ codes " room=" ++ decimal room
reply_text acked command (answer.Csum unit kept found) = csum_text unit kept found
reply_text acked command (answer.Bytes bytes) = bytes_word command ++ hex_or_dash bytes
reply_text acked command (answer.Size size) = codes "size " ++ decimal size
reply_text acked command (answer.Sum size crc) = codes "sum " ++ decimal size ++ codes " " ++ hex_sum crc
reply_text acked command (answer.Names names) = codes "objects" ++ names_text names

-- the client's number, the line of the command in its script, and the reply: of an entry whose commit is acknowledged, or not
abbrev pub entry_line : Bool → Entry → List ℕ
entry_line acked e =
    decimal e.client ++ codes ":" ++ decimal e.line ++ codes " " ++ reply_text acked e.command e.answer

-- the lines of the entries of one client, where the first of these entries is at this place
abbrev pub client_lines : List Commit → ℕ → ℕ → List Entry → List (List ℕ)
client_lines commits client place [] = []
client_lines commits client place (e ∷ es) =
    (if e.client == client then entry_line (is_acknowledged commits place) e ∷ [] else []) ++ client_lines commits client (place + 1) es

-- the lines of all entries: client by client, those of each in the book's order
abbrev pub reply_lines : Book → List (List ℕ)
reply_lines book = flat_map (λ client. client_lines book.commits client 0 book.entries) (range_with_len 0 64)

-- a transaction was accepted
abbrev pub is_accepted : Answer → Bool
is_accepted answer.Accepted = true
is_accepted a = false

-- a command was refused, or met a bad unit
abbrev pub counts_as_refused : Answer → Bool
counts_as_refused (answer.Refused refusal) = true
counts_as_refused (answer.NoSpace need free) = true
counts_as_refused (answer.MetaFull need room) = true
counts_as_refused (answer.Csum unit kept found) = true
counts_as_refused a = false

-- a bad unit was met
abbrev pub is_csum : Answer → Bool
is_csum (answer.Csum unit kept found) = true
is_csum a = false

-- a read was answered
abbrev pub is_read : Answer → Bool
is_read (answer.Bytes bytes) = true
is_read (answer.Size size) = true
is_read (answer.Sum size crc) = true
is_read (answer.Names names) = true
is_read a = false

-- an answer of this kind was given
abbrev pub is_of : Kind → Answer → Bool
is_of Accepted a = is_accepted a
is_of Refused a = counts_as_refused a
is_of Read a = is_read a

-- a reply names a bad unit
abbrev pub has_csum : List Entry → Bool
has_csum entries = list_any (λ e. is_csum e.answer) entries

-- how many answers of a kind there are
abbrev pub answers_of : Kind → List Entry → ℕ
answers_of kind entries = count_by (λ e. is_of kind e.answer) entries

-- the last line of a run whose work was done, with so many units free at its end
abbrev pub done_line : Book → ℕ → List ℕ
done_line book free =
    codes "done accepted=" ++ decimal (answers_of Accepted book.entries) ++ codes " refused=" ++ decimal (answers_of Refused book.entries)
    ++ codes " reads=" ++ decimal (answers_of Read book.entries) ++ codes " commits=" ++ decimal (length book.commits) ++ codes " free="
    ++ decimal free
