-- Command lines: which words are one, and what they say.
use Rattle.std.specs.Prelude.{◌≡◌, ◌≢◌, ◌⊎◌, Option, ℕ, ◌<◌, ◌≤◌, ◌^◌, List, [], map, codes, Some, IsSomeAnd}
use Rattle.std.specs.Prelude.{Vec, String, string_bytes}
use Rattle.std.specs.Str.Parse.{IsNumeral, digits_value, without_leading_plus}
use Rattle.std.specs.declared.alloc.Global.{Global}
use Rattle.clap.specs.Words.{Row, Text, fault_of, subcommand_of, first_of, one_of, all_of, kind_of}
use Rattle.clap.specs.declared.error.Error.{Error}
use Rattle.clap.specs.declared.error.kind.ErrorKind.TheVariants.{OutOfMemory}
use Rattle.command_words.specs.declared.command_line.CommandLine.{CommandLine}
use Rattle.command_words.specs.declared.command_line.CommandLine.TheVariants.{Mkfs, Step, Dump, Fsck}
use Rattle.command_words.specs.declared.no_line.NoLine.{NoLine}
use Rattle.command_words.specs.declared.no_line.NoLine.TheVariants as none
use Rattle.command_words.specs.Table.{table}
pub use Rattle.command_words.specs.FileNames.{IsFileName, AreFileNames}

-- the words that a program was started with, as their bytes: the first is its own name
abbrev pub words_of : Vec (String Global) Global → List (List ℕ)
words_of words = map string_bytes words.items

-- the units of a log half
abbrev pub IsHalf : ℕ → Type 0
IsHalf half = (8 ≤ half) × (half ≤ 65536)

-- the units of a device
abbrev pub IsUnitCount : ℕ → Type 0
IsUnitCount units = (1 ≤ units) × (units ≤ 1048576)

-- names and numbers are within their limits
abbrev pub IsInRange : CommandLine → Type 0
IsInRange (Mkfs dev half units prefer) = IsFileName dev × IsHalf half × IsUnitCount units × (prefer ≤ 1048576)
IsInRange (Step dev seed scripts) = IsFileName dev × (seed < 2 ^ 32) × AreFileNames scripts
IsInRange (Dump dev) = IsFileName dev
IsInRange (Fsck dev) = IsFileName dev

-- ---- what was found

-- the text of an argument
abbrev pub HasText : Text → List Row → Text → Type 0
HasText id rows text = first_of id rows ≡ Some text

-- its texts, where it may have several
abbrev pub HasTexts : Text → List Row → List Text → Type 0
HasTexts id rows texts = all_of id rows ≡ Some texts

-- a text writes a number: in decimal, a plus may stand before it
abbrev pub Writes : ℕ → Text → Type 0
Writes n text = IsNumeral 10 (without_leading_plus text) × (digits_value 10 (without_leading_plus text) ≡ n)

-- the number of an argument
abbrev pub HasNumber : Text → List Row → ℕ → Type 0
HasNumber id rows n = IsSomeAnd (one_of id rows) (Writes n)

-- the command of this name, with these values of its arguments, is a command line
abbrev pub SaysCommandLine : Text → List Row → CommandLine → Type 0
SaysCommandLine name rows (Mkfs dev half units prefer) = (name ≡ codes "mkfs") × HasText (codes "DEV") rows dev × HasNumber (codes "half") rows half
    × HasNumber (codes "units") rows units × HasNumber (codes "prefer") rows prefer
SaysCommandLine name rows (Step dev seed scripts) = (name ≡ codes "step") × HasText (codes "DEV") rows dev × HasNumber (codes "seed") rows seed
    × HasTexts (codes "SCRIPT") rows scripts
SaysCommandLine name rows (Dump dev) = (name ≡ codes "dump") × HasText (codes "DEV") rows dev
SaysCommandLine name rows (Fsck dev) = (name ≡ codes "fsck") × HasText (codes "DEV") rows dev

-- ---- command lines

-- The table takes the words: a parse finds nothing wrong with them.
abbrev pub TableTakes : List (List ℕ) → Type 0
TableTakes words = fault_of table words ≡ []

-- the words spell this command line
pub record Spells (words : List (List ℕ)) (line : CommandLine) : Type 0 where
  pub in_range : IsInRange line
  pub taken : TableTakes words
  pub name : Text
  pub rows : List Row
  pub found : subcommand_of table words ≡ Some (name, rows)
  pub says : SaysCommandLine name rows line

-- the words spell none
abbrev pub IsNoCommandLine : List (List ℕ) → Type 0
IsNoCommandLine words = (line : CommandLine) → ¬ Spells words line

-- why words were read as none: memory ran out, or they spell none
abbrev pub IsWhyNot : List (List ℕ) → NoLine → Type 0
IsWhyNot words none.Memory = Unit {0}
IsWhyNot words (none.Told text) = IsNoCommandLine words

-- the command of this name says a command line that is in range, by the values that were found; or none
abbrev pub IsSaid : Text → List Row → CommandLine → Type 0
IsSaid name rows line = IsInRange line × SaysCommandLine name rows line

abbrev pub IsNotSaid : Text → List Row → Type 0
IsNotSaid name rows = (line : CommandLine) → ¬ IsSaid name rows line

-- so it is of what a parse found
abbrev pub IsLineFound : Option (Text × List Row) → CommandLine → Type 0
IsLineFound found line = IsSomeAnd found (λ p. IsSaid p.0 p.1 line)

abbrev pub IsNotFound : Option (Text × List Row) → Type 0
IsNotFound found = (line : CommandLine) → ¬ IsLineFound found line

-- what is told of an error: that memory ran out, or the text of another one
abbrev pub IsWhyFor : Error → NoLine → Type 0
IsWhyFor error none.Memory = Unit {0}
IsWhyFor error (none.Told text) = kind_of error ≢ OutOfMemory
