-- Answers and books as plain objects give them, but for the bytes that reads gave: on a device that doesn't tell what it holds these are known
-- by their checksums alone.
use Rattle.std.specs.Prelude.{◌≡◌, ◌⊎◌, ℕ, ⊤, not, nat_eq, List, [], ◌∷◌, length, map, IsTrue, IsSome}
use Rattle.std.specs.List.{AllByRecursion, IsDistinct}
use Rattle.object_model.specs.declared.command.Command.{Command}
use Rattle.object_model.specs.declared.command.Command.TheVariants as ask
use Rattle.object_model.specs.declared.command.Read.TheVariants as reads
use Rattle.object_model.specs.declared.command.Answer.{Answer}
use Rattle.object_model.specs.declared.command.Answer.TheVariants as answer
use Rattle.object_model.specs.declared.book.Entry.{Entry}
use Rattle.object_model.specs.declared.book.Book.{Book}
use Rattle.object_model.specs.Prelude.{Objects, replay, reply_of, accepted, is_refused, is_of_device, change_at, IsPrefixOf, entry_places, committed_places, AreAckedFrom, acked_count, AreCountsWithin}

-- the answers are the same, or two to a read of bytes that are as many, or two to their sum that say the same size
abbrev pub IsAlike : Command → Answer → Answer → Type 0
IsAlike (ask.Read (reads.Bytes c o off len)) (answer.Bytes a) (answer.Bytes b) = length a ≡ length b
IsAlike (ask.Read (reads.Sum c o)) (answer.Sum size crc) (answer.Sum other_size other_crc) = size ≡ other_size
IsAlike command a b = a ≡ b

-- an entry has an answer like the one that these objects give, or one of the device's where they give no refusal
abbrev pub IsAnsweredAlike : Objects → Entry → Type 0
IsAnsweredAlike objects e = IsAlike e.command e.answer (reply_of e.command objects)
    ⊎ (IsTrue (is_of_device e.command e.answer) × IsTrue (not (is_refused (reply_of e.command objects))))

-- each entry is answered so at the replay of the accepted ones before it
abbrev pub AnswersAlikeFrom : Objects → List Entry → Type 0
AnswersAlikeFrom objects [] = ⊤
AnswersAlikeFrom objects (e ∷ es) = IsAnsweredAlike objects e × AnswersAlikeFrom (replay objects (accepted (e ∷ []))) es

-- The book is a history of plain objects that began with these, but for the bytes that reads gave.
pub record IsLegalButBytes (objects : Objects) (book : Book) : Type 0 where
  pub answers : AnswersAlikeFrom objects book.entries
  pub of_accepted : AllByRecursion (λ c. IsSome (change_at book.entries c.place)) book.commits
  pub once : IsDistinct nat_eq (map (λ c. c.place) book.commits)
  pub in_order : (coll : List ℕ) → IsPrefixOf (committed_places coll book.entries book.commits) (entry_places coll book.entries)
  pub acked_first : AreAckedFrom 0 book.commits
  pub counts : AreCountsWithin 0 (acked_count book.commits) book.entries

-- the answer names no bad unit
abbrev pub IsNoCsum : Answer → Type 0
IsNoCsum (answer.Csum unit kept found) = ⊥
IsNoCsum a = Unit {0}
