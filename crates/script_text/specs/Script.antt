-- What a script says, and which of its lines is the first bad one.
use Rattle.std.specs.Prelude.{◌≡◌, ◌⊎◌, ℕ, ◌+◌, ◌<◌, ◌≤◌, ◌==◌, if◌then◌else◌, List, [], ◌∷◌, ◌++◌, length, Option, Some, None, IsSome, IfSome}
use Rattle.std.specs.List.{AllByRecursion}
use Rattle.script_text.specs.Grammar.{command_count}
use Rattle.script_text.specs.Blocks.{Says, EachSays, Parse, start, next, parse_after}
use Rattle.script_text.specs.declared.grammar.Statement.{Statement}
use Rattle.script_text.specs.declared.line.Line.{Line}

-- the most bytes of a script
abbrev pub script_limit : ℕ
script_limit = 1073741824

-- the most bytes of a line, without its line feed
abbrev pub line_limit : ℕ
line_limit = 4194304

-- with a byte in front of the first line
abbrev pub onto : ℕ → List (List ℕ) → List (List ℕ)
onto b [] = (b ∷ []) ∷ []
onto b (line ∷ lines) = (b ∷ line) ∷ lines

-- the lines without their line feeds, which the last may lack
abbrev pub lines_of : List ℕ → List (List ℕ)
lines_of [] = []
lines_of (b ∷ bytes) = if b == 10 then [] ∷ lines_of bytes else onto b (lines_of bytes)

-- lines that each end by a line feed
abbrev pub ended : List (List ℕ) → List ℕ
ended [] = []
ended (line ∷ lines) = line ++ (10 ∷ ended lines)

-- how many of them are commands
abbrev pub commands : List Line → ℕ
commands [] = 0
commands (l ∷ ls) = command_count l.what + commands ls

-- lines within the grammar and the limits, and what they say
pub record AreGood (texts : List (List ℕ)) (parse : Parse) : Type 0 where
  pub statements : List Statement
  pub says : EachSays texts statements
  pub short : AllByRecursion (λ text. length text ≤ line_limit) texts
  pub grouped : parse_after 1 (Some start) statements ≡ Some parse

-- the bytes are a script of these commands and `wait`s
pub record IsScript (bytes : List ℕ) (lines : List Line) : Type 0 where
  pub parse : Parse
  pub good : AreGood (lines_of bytes) parse
  pub said : lines ≡ parse.lines
  pub ended : parse.block ≡ None
  pub small : length bytes ≤ script_limit

-- a line outside the grammar
abbrev pub IsOutside : List ℕ → Type 0
IsOutside text = (s : Statement) → ¬ (Says text s)

-- a line that can't stand behind these others: a command too many, or one that the blocks don't let stand there
pub record IsMisplaced (front : List (List ℕ)) (parse : Parse) (text : List ℕ) : Type 0 where
  pub statement : Statement
  pub says : Says text statement
  pub unfit : next (length front + 1) parse statement ≡ None

-- a line behind these others that holds the first byte past the limit: its line feed is part of it
pub record IsPastLimit (size : ℕ) (front : List (List ℕ)) (text : List ℕ) : Type 0 where
  pub larger : script_limit < size
  pub holds : script_limit ≤ length (ended front) + length text

-- why the line behind these others is bad, in a script of so many bytes
abbrev pub IsBad : ℕ → List (List ℕ) → Parse → List ℕ → Type 0
IsBad size front parse text = IsOutside text ⊎ (line_limit < length text) ⊎ IsMisplaced front parse text ⊎ IsPastLimit size front text

-- the first bad line of the bytes has this number
pub record IsBadLine (bytes : List ℕ) (n : ℕ) : Type 0 where
  pub front : List (List ℕ)
  pub text : List ℕ
  pub behind : List (List ℕ)
  pub lines : lines_of bytes ≡ front ++ (text ∷ behind)
  pub number : n ≡ length front + 1
  pub parse : Parse
  pub good : AreGood front parse
  pub within : length (ended front) ≤ script_limit
  pub bad : IsBad (length bytes) front parse text

-- no line of the bytes is bad, but a block isn't ended: this is the number one past the last line
pub record IsUnended (bytes : List ℕ) (n : ℕ) : Type 0 where
  pub parse : Parse
  pub good : AreGood (lines_of bytes) parse
  pub unended : IsSome parse.block
  pub small : length bytes ≤ script_limit
  pub number : n ≡ length (lines_of bytes) + 1

-- the bytes are no script, and this is the number of the first bad line
abbrev pub IsBadAt : List ℕ → ℕ → Type 0
IsBadAt bytes n = IsBadLine bytes n ⊎ IsUnended bytes n

-- a source gave this text: all that it had, where it tells that
abbrev pub IsTextOf : Option (List ℕ) → List ℕ → Type 0
IsTextOf left text = IfSome left (λ whole. whole ≡ text)
