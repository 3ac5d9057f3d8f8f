-- Where a run refuses a transaction for want of room in the log.
use Rattle.std.specs.Prelude.{◌≡◌, ℕ, ◌+◌, ◌<◌, List, [], ◌∷◌, ◌++◌}
use Rattle.object_model.specs.declared.book.Entry.{Entry}
use Rattle.object_model.specs.declared.command.Answer.TheVariants as answer
use Rattle.store_steps.specs.Prelude.{Call, submitting, reading, stepping}
use Rattle.book_facts.specs.Prelude.{need_if_accepted}
use Rattle.client_runs.specs.Prelude.{Position, Draws, IsDrawnRun}

-- the units of the log that a drawn call's transaction needs, if it is accepted
abbrev pub need_of_call : (call : Call) (p q : Position) → Draws p call q → ℕ
need_of_call (submitting client line change) p q draws = need_if_accepted client line change p.state p.disk q.state draws.called.1
need_of_call (reading client line read) p q draws = 0
need_of_call (stepping step) p q draws = 0

-- An entry that a call adds tells of want of room only where it, with so many units that were needed before, needs more than there was room for.
abbrev pub FullOnlyBeyond : ℕ → ℕ → Position → Position → Type 0
FullOnlyBeyond room needed p q = (e : Entry) (need left : ℕ) → q.state.book.entries ≡ p.state.book.entries ++ e ∷ []
    → e.answer ≡ answer.MetaFull need left → room < needed + need

-- So it is with each call of a drawn run: what was needed before it is what the transactions accepted by the calls before it need.
abbrev pub EachFullOnlyBeyond : ℕ → ℕ → (p : Position) (calls : List Call) (q : Position) → IsDrawnRun p calls q → Type 0
EachFullOnlyBeyond room needed p [] q run = Unit {0}
EachFullOnlyBeyond room needed p (call ∷ calls) q run =
    FullOnlyBeyond room needed p run.0 × EachFullOnlyBeyond room (needed + need_of_call call p run.0 run.1.0) run.0 calls q run.1.1
