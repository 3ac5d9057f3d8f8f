-- What is kept of a line, and the data and the meaning that it stands for.
use Rattle.std.specs.Prelude.{ℕ, List, replicate}
use Rattle.object_model.specs.declared.op.Op.{Op}
use Rattle.object_model.specs.declared.op.Op.TheVariants as op
use Rattle.object_model.specs.declared.command.Command.TheVariants as command
use Rattle.script_text.specs.declared.change.SpelledOp.{SpelledOp}
use Rattle.script_text.specs.declared.change.SpelledOp.TheVariants as spelled
use Rattle.script_text.specs.declared.data.Spelled.{Spelled}
use Rattle.script_text.specs.declared.data.Spelled.TheVariants.{Hex, Fill}
use Rattle.script_text.specs.declared.line.What.{What}
use Rattle.script_text.specs.declared.line.What.TheVariants.{Command, Wait}
use Rattle.script_text.specs.declared.said.Kept.{Kept}
use Rattle.script_text.specs.declared.said.Kept.TheVariants.{Change, Read, Wait as Waits}

-- the bytes of data that aren't written out
abbrev pub spelled_bytes : Spelled → List ℕ
spelled_bytes (Hex bytes) = bytes
spelled_bytes (Fill byte count) = replicate count byte

-- the operation whose data aren't written out
abbrev pub spelled_op : SpelledOp → Op
spelled_op (spelled.Write object off bytes) = op.Write object off bytes
spelled_op (spelled.SetAttr object pair) = op.SetAttr object pair.key pair.value
spelled_op (spelled.OmapHeader object value) = op.OmapHeader object value
spelled_op (spelled.OmapSet object pairs) = op.OmapSet object pairs
spelled_op (spelled.Other o) = o

-- what is said
abbrev pub kept_what : Kept → What
kept_what (Change change) = Command (command.Change change)
kept_what (Read read) = Command (command.Read read)
kept_what Waits = Wait

-- a read or a `wait`
abbrev pub IsNoChange : What → Type 0
IsNoChange (Command (command.Change change)) = ⊥
IsNoChange what = Unit {0}
