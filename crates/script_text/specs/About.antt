-- Lines about a collection, an object as a whole or a value of it: the word that each begins with, and what it says.
use Rattle.std.specs.Prelude.{ℕ, List, codes}
use Rattle.object_model.specs.declared.op.Op.TheVariants as op
use Rattle.object_model.specs.declared.command.Command.TheVariants as command
use Rattle.object_model.specs.declared.command.Read.TheVariants as reads
use Rattle.script_text.specs.Grammar.{op_line}
use Rattle.script_text.specs.declared.about.CollWord.{CollWord}
use Rattle.script_text.specs.declared.about.CollWord.TheVariants as coll
use Rattle.script_text.specs.declared.about.ObjectWord.{ObjectWord}
use Rattle.script_text.specs.declared.about.ObjectWord.TheVariants as object
use Rattle.script_text.specs.declared.about.ValueWord.{ValueWord}
use Rattle.script_text.specs.declared.about.ValueWord.TheVariants as value
use Rattle.script_text.specs.declared.line.What.{What}
use Rattle.script_text.specs.declared.line.What.TheVariants.{Command}

-- `WORD C`
abbrev pub coll_word : CollWord → List ℕ
coll_word coll.MkColl = codes "mkcoll"
coll_word coll.RmColl = codes "rmcoll"
coll_word coll.List = codes "list"

abbrev pub coll_says : CollWord → List ℕ → What
coll_says coll.MkColl c = op_line c op.MkColl
coll_says coll.RmColl c = op_line c op.RmColl
coll_says coll.List c = Command (command.Read (reads.List c))

-- `WORD C O`
abbrev pub object_word : ObjectWord → List ℕ
object_word object.Touch = codes "touch"
object_word object.Remove = codes "remove"
object_word object.RmAttrs = codes "rmattrs"
object_word object.OmapClear = codes "omapclear"
object_word object.Sum = codes "sum"
object_word object.Stat = codes "stat"
object_word object.OmapHdr = codes "omaphdr"

abbrev pub object_says : ObjectWord → List ℕ → List ℕ → What
object_says object.Touch c o = op_line c (op.Touch o)
object_says object.Remove c o = op_line c (op.Remove o)
object_says object.RmAttrs c o = op_line c (op.RmAttrs o)
object_says object.OmapClear c o = op_line c (op.OmapClear o)
object_says object.Sum c o = Command (command.Read (reads.Sum c o))
object_says object.Stat c o = Command (command.Read (reads.Stat c o))
object_says object.OmapHdr c o = Command (command.Read (reads.OmapHeader c o))

-- `WORD C O NAME`
abbrev pub value_word : ValueWord → List ℕ
value_word value.RmAttr = codes "rmattr"
value_word value.GetAttr = codes "getattr"
value_word value.OmapGet = codes "omapget"

abbrev pub value_says : ValueWord → List ℕ → List ℕ → List ℕ → What
value_says value.RmAttr c o name = op_line c (op.RmAttr o name)
value_says value.GetAttr c o name = Command (command.Read (reads.GetAttr c o name))
value_says value.OmapGet c o name = Command (command.Read (reads.OmapGet c o name))
