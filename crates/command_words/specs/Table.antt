-- The table of commands: which words each takes, as `clap` reads it.
use Rattle.std.specs.Prelude.{◌≡◌, ℕ, pos, true, false, List, [], ◌∷◌, Some, codes}
use Rattle.clap.specs.Words.{App, Rule, Text, new_app, new_rule, with_rule, with_subcommand, app_of, rule_of}
use Rattle.clap.specs.declared.builder.command.Command.TheViews.{out-Command}
use Rattle.clap.specs.declared.builder.arg.Arg.{Arg}
use Rattle.clap.specs.declared.builder.command.Command.{Command}
use Rattle.clap.specs.declared.builder.value_parser.ValueParser.TheVariants as vp

-- ---- arguments

-- a name, at its place: any text but the empty one
abbrev pub name_rule : Text → Rule
name_rule id = record (new_rule id) { required = true; parser = Some vp.NonEmptyString }

-- the names of scripts: 1 to 64
abbrev pub scripts_rule : Rule
scripts_rule = record (name_rule (codes "SCRIPT")) { range = Some (record { start_inclusive = 1; end_inclusive = 64 }) }

-- `--NAME N`, of a number from the least to the most one
abbrev pub number_rule : Text → ℕ → ℕ → Rule
number_rule id least most = record (new_rule id) { long = Some id; required = true; parser = Some (vp.Signed (pos least) (pos most)) }

-- a number that may be left out
abbrev pub prefer_rule : Rule
prefer_rule = record (number_rule (codes "prefer") 0 1048576) { required = false; defaults = codes "32768" ∷ [] }

-- ---- commands

abbrev pub with_rules : App → List Rule → App
with_rules a [] = a
with_rules a (r ∷ rs) = with_rules (with_rule a r) rs

-- a command, by its name and its arguments
abbrev pub command : Text → List Rule → App
command name rules = with_rules (new_app name) rules

abbrev pub mkfs : App
mkfs = command (codes "mkfs") (name_rule (codes "DEV") ∷ number_rule (codes "half") 8 65536 ∷ number_rule (codes "units") 1 1048576 ∷ prefer_rule ∷ [])

abbrev pub step : App
step = command (codes "step") (name_rule (codes "DEV") ∷ number_rule (codes "seed") 0 4294967295 ∷ scripts_rule ∷ [])

abbrev pub dump : App
dump = command (codes "dump") (name_rule (codes "DEV") ∷ [])

abbrev pub fsck : App
fsck = command (codes "fsck") (name_rule (codes "DEV") ∷ [])

-- the program's own command, which wants one of these
abbrev pub program : App
program = let a : App = new_app (codes "bstore") in record a { top = record a.top { subcommand_required = true; arg_required_else_help = true } }

abbrev pub with_commands : App → List App → App
with_commands a [] = a
with_commands a (c ∷ cs) = with_commands (with_subcommand a c.top) cs

abbrev pub table : App
table = with_commands program (mkfs ∷ step ∷ dump ∷ fsck ∷ [])

-- ---- what was made for `clap`

abbrev pub IsArg : Rule → Arg → Type 0
IsArg rule a = (rule_of a ≡ rule) × (a.global ≡ false)

abbrev pub IsCommand : App → Command → Type 0
IsCommand app c = (app_of c ≡ app) × ((out-Command c).has_globals ≡ false)
