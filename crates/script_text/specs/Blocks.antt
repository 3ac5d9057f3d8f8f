-- How the lines of a script are grouped into commands: a block, from `begin` to `end`, is one transaction, and so is an operation alone.
use Rattle.std.specs.Prelude.{◌≡◌, ℕ, ◌+◌, ◌-◌, ◌==◌, Bool, false, ◌&&◌, if◌then◌else◌, List, [], ◌∷◌, ◌++◌, Option, Some, None, codes}
use Rattle.std.specs.Option.{option_map}
use Rattle.object_model.specs.declared.command.Command.TheVariants as command
use Rattle.object_model.specs.Prelude.{Change, is_same}
use Rattle.script_text.specs.Grammar.{IsLineOf, IsPassedOver, is_wait}
use Rattle.script_text.specs.declared.grammar.Statement.{Statement}
use Rattle.script_text.specs.declared.grammar.Statement.TheVariants.{PassedOver, Begin, End, Says as Alone}
use Rattle.script_text.specs.declared.line.Line.{Line}
use Rattle.script_text.specs.declared.line.What.{What}
use Rattle.script_text.specs.declared.line.What.TheVariants.{Command, Wait}
use Rattle.script_text.specs.declared.parser.Block.{Block}

-- the most commands of a script
abbrev pub command_limit : ℕ
command_limit = 16384

-- what a line is by itself
abbrev pub Says : List ℕ → Statement → Type 0
Says text PassedOver = IsPassedOver text
Says text Begin = text ≡ codes "begin"
Says text End = text ≡ codes "end"
Says text (Alone what) = IsLineOf text what

-- what each of the lines is
abbrev pub EachSays : List (List ℕ) → List Statement → Type 0
EachSays [] [] = Unit {0}
EachSays (text ∷ texts) (s ∷ more) = Says text s × EachSays texts more
EachSays [] (s ∷ more) = ⊥
EachSays (text ∷ texts) [] = ⊥

-- what lines say: the commands and `wait`s, each with its line's number, how many more commands may come, and the block that isn't ended
pub record Parse : Type 0 where
  pub lines : List Line
  pub commands_left : ℕ
  pub block : Option Block

-- before the first line
abbrev pub start : Parse
start = record { lines = []; commands_left = command_limit; block = None }

-- one more command, unless it is one too many
abbrev pub one_command_more : Parse → Option Parse
one_command_more p = if p.commands_left == 0 then None else Some (record p { commands_left = p.commands_left - 1 })

-- a `wait` isn't counted
abbrev pub statement_counted : What → Parse → Option Parse
statement_counted (Command command) p = one_command_more p
statement_counted Wait p = Some p

-- the last of these lines is a `wait`; where there is none, the one before them is
abbrev pub ends_in_wait : Bool → List Line → Bool
ends_in_wait waits [] = waits
ends_in_wait waits (l ∷ ls) = ends_in_wait (is_wait l.what) ls

-- a line is kept, unless it is a `wait` behind a `wait`, which asks for nothing more
abbrev pub kept_behind : Bool → Line → List Line
kept_behind waits l = if waits && is_wait l.what then [] else l ∷ []

-- with this command or `wait`
abbrev pub with_line : Line → Parse → Parse
with_line l p = record p { lines = p.lines ++ kept_behind (ends_in_wait false p.lines) l }

-- in this block
abbrev pub with_block : Block → Parse → Parse
with_block b p = record p { block = Some b }

-- behind this block, which is this transaction
abbrev pub with_ended : Block → Parse → Change → Parse
with_ended b p change = with_line (record { line = b.line; what = Command (command.Change change) }) (record p { block = None })

-- the line of this number behind others, outside of a block; None if it can't stand there
unfoldable pub outside : ℕ → Parse → Statement → Option Parse
outside n p PassedOver = Some p
outside n p Begin = option_map (with_block (record { line = n; change = None })) (one_command_more p)
outside n p End = None
outside n p (Alone what) = option_map (with_line (record { line = n; what = what })) (statement_counted what p)

-- the operations of a block and of one line more, on the same collection
abbrev pub together : Option Change → Change → Option Change
together None more = Some more
together (Some so_far) more = if is_same so_far.coll more.coll then Some (record so_far { ops = so_far.ops ++ more.ops }) else None

-- the line behind others, in this block; None if it can't stand there
unfoldable pub inside : Parse → Block → Statement → Option Parse
inside p b PassedOver = Some (with_block b p)
inside p b Begin = None
inside p b End = option_map (with_ended b p) b.change
inside p b (Alone (Command (command.Change change))) = option_map (λ both. with_block (record b { change = Some both }) p) (together b.change change)
inside p b (Alone what) = None

-- the line of this number behind others; None if it can't stand there
unfoldable pub next : ℕ → Parse → Statement → Option Parse
next n p s = elim p.block [ None ↦ outside n p s | Some b ↦ inside p b s ]

-- lines behind others, where the first has this number; None if one of them can't stand there
abbrev pub parse_after : ℕ → Option Parse → List Statement → Option Parse
parse_after n p [] = p
parse_after n None (s ∷ more) = None
parse_after n (Some p) (s ∷ more) = parse_after (n + 1) (next n p s) more
