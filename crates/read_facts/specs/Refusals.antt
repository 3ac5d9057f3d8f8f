-- Commands that rows refuse: those that the plain objects of their shape refuse. Which cause comes first is for the plain objects to say.
use Rattle.std.specs.Prelude.{◌≡◌, not, IsTrue}
use Rattle.object_model.specs.declared.op.Refusal.{Refusal}
use Rattle.object_model.specs.declared.command.Command.{Command}
use Rattle.object_model.specs.declared.command.Answer.TheVariants as answer
use Rattle.object_model.specs.Prelude.{Objects, reply_of, is_refused}
use Rattle.meta_rows.specs.Prelude.{Rows}
use Rattle.store_image.specs.Prelude.{IsShape}

-- Plain objects of the rows' shape refuse the command with this, whatever their bytes are. There are such objects where no row is bad, by a law
-- of this crate; what is known of a kernel's book has some for its submitted rows: those after all accepted transactions.
abbrev pub IsRefusedBy : Rows → Command → Refusal → Type 0
IsRefusedBy rows command refusal = (objects : Objects) → IsShape rows objects → reply_of command objects ≡ answer.Refused refusal

-- and these don't refuse it
abbrev pub IsNotRefused : Rows → Command → Type 0
IsNotRefused rows command = (objects : Objects) → IsShape rows objects → IsTrue (not (is_refused (reply_of command objects)))
