-- When the table takes words, and why it doesn't.
use Rattle.std.proofs.Common.{◌≡◌, List, true, inl, inr, refl, sym, subst, ◌∙◌, Option, Some, None, MatchOption}
use Rattle.clap.specs.Words.{Row, Text, HasKind, IsAmong, Kinds, fault_of, subcommand_of, is_simple_and_free, is_simple, kind_of}
use Rattle.clap.specs.declared.error.Error.{Error}
use Rattle.clap.proofs.OnLiterals.{clap_on_literals}
use Rattle.command_words.specs.declared.no_line.NoLine.{NoLine}
use Rattle.command_words.specs.declared.no_line.NoLine.TheVariants as none
use Rattle.command_words.specs.declared.command_line.CommandLine.{CommandLine}
use Rattle.command_words.specs.CommandLine.{TableTakes, Spells, IsWhyFor, IsWhyNot, IsNoCommandLine, IsSaid, IsNotSaid, IsLineFound, IsNotFound}
use Rattle.command_words.specs.Table.{table}

-- the table is a simple command, no argument of which has a rule on another
pub table_is_free : is_simple_and_free table ≡ true
unfolding clap_on_literals
table_is_free = refl

pub table_is_simple : is_simple table ≡ true
unfolding clap_on_literals
table_is_simple = refl

-- why words are none that a parse refuses
pub refused_why : (words : List Text) (e : Error) (told_of : NoLine) → HasKind (fault_of table words) e → IsWhyFor e told_of → IsWhyNot words told_of
refused_why words e none.Memory kind why = tt
refused_why words e (none.Told text) (inl memory) why = absurd (why memory)
refused_why words e (none.Told text) (inr among) why = λ line s. subst (λ (kinds : Kinds). IsAmong (kind_of e) kinds) s.taken among

-- the line that was found is the one that the words spell
pub spelled : (words : List Text) (found : Option (Text × List Row)) (line : CommandLine) → TableTakes words → found ≡ subcommand_of table words
    → IsLineFound found line → Spells words line
spelled words None line taken is said = absurd said
spelled words (Some p) line taken is said = record { in_range = said.0; taken = taken; name = p.0; rows = p.1; found = sym is; says = said.1 }

-- and where none was found, they spell none
pub unspelled : (words : List Text) (found : Option (Text × List Row)) → found ≡ subcommand_of table words → IsNotFound found → IsNoCommandLine words
unspelled words found is none line s = none line (subst (λ (f : Option (Text × List Row)). IsLineFound f line) (sym (is ∙ s.found)) (s.in_range, s.says))

-- what the command says is what was found
pub found_by : (found : Option (Text × List Row)) (name : Text) (rows : List Row) (r : Option CommandLine) → found ≡ Some (name, rows)
    → MatchOption r (IsNotSaid name rows) (IsSaid name rows) → MatchOption r (IsNotFound found) (IsLineFound found)
found_by found name rows r is said =
    subst (λ (f : Option (Text × List Row)). MatchOption r (IsNotFound f) (IsLineFound f)) (sym is) said

-- nothing is found where no command was
pub none_found : (found : Option (Text × List Row)) → found ≡ None → IsNotFound found
none_found found is = subst IsNotFound (sym is) (λ line said. said)
