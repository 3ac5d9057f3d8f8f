-- Commands of clients, and their entries.
use Rattle.std.proofs.Common.{◌≡◌, inl, inr, ℕ, ◌<◌, Bool, true, false, List, [], ◌∷◌, ◌++◌, length, Some, None}
use Rattle.std.proofs.Common.{Result, Ok, Err, OnOk, IfErr, MatchResult, ap, ◌∙◌, sym, refl, arith}
use Rattle.std.specs.Prelude.{is_some, ◌&&◌}
use Rattle.std.specs.List.{AllByRecursion}
use Rattle.std.proofs.lemmas.Bool.{eq-eqb}
use Rattle.block_device.specs.Prelude.{Disk}
use Rattle.block_device.specs.declared.device.Ticket.{Ticket}
use Rattle.object_model.specs.declared.op.Op.{Op}
use Rattle.object_model.specs.declared.op.Op.TheVariants as op
use Rattle.object_model.specs.Prelude.{Change, accepted_change}
use Rattle.object_model.specs.declared.book.Book.{Book}
use Rattle.object_model.specs.declared.command.Answer.{Answer}
use Rattle.object_model.specs.declared.command.Answer.TheVariants as answer
use Rattle.object_model.specs.declared.command.Command.{Command}
use Rattle.object_model.specs.declared.command.Command.TheVariants as command
use Rattle.object_model.specs.declared.command.Read.{Read}
use Rattle.object_model.specs.declared.book.Entry.{Entry}
use Rattle.script_text.specs.Prelude.{IsKnownChange, IsKnownChangeOp}
use Rattle.script_text.specs.declared.line.What.TheVariants as what
use Rattle.store_steps.specs.Prelude.{State, entered, Accepts, Refuses, IsDownBy, IsBookFull, AnswersRead, Calls}
use Rattle.plan_drafts.specs.Prelude.{IsKnown, IsKnownOp}
use Rattle.store_kernel.specs.Submitting.{RefusesBy, IsReadFail}
use Rattle.store_kernel.specs.Reading.{UnansweredBy, IsDeviceRead}
use Rattle.store_kernel.specs.declared.unanswered.Unanswered.{Unanswered}
use Rattle.store_kernel.specs.declared.unanswered.Unanswered.TheVariants as unanswered
use Rattle.store_kernel.specs.declared.refused.Refused.{Refused}
use Rattle.store_kernel.specs.declared.refused.Refused.TheVariants as refused
use Rattle.client_runs.specs.declared.run_fail.RunFail.{RunFail}
use Rattle.client_runs.specs.declared.run_fail.RunFail.TheVariants as run
use Rattle.client_runs.specs.Prelude.{call_of, IsNoted, IsNotNoted, IsNotTurnedAway, IsReplied, IsNoTurnAway, IsFailOf, IsMade, IsUnmade}

-- ---- what the store knows

known_op : (o : Op) → IsKnownChangeOp o → IsKnownOp o
known_op (op.Clone o to) known = absurd known
known_op (op.CloneRange o to src len dst) known = absurd known
known_op o known = tt

each_known : (ops : List Op) → AllByRecursion IsKnownChangeOp ops → IsKnown ops
each_known [] known = tt
each_known (o ∷ ops) known = (known_op o known.0, each_known ops known.1)

-- operations that scripts can have are known to the store
pub known_ops : (ops : List Op) → IsKnownChange ops → IsKnown ops
known_ops [] known = absurd known
known_ops (o ∷ ops) known = (known_op o known.0, each_known ops known.1)

-- the kernel isn't down, and its book isn't full
not_down : (s : State) (ticket : Ticket) → s.down ≡ None → IsDownBy ticket s → ⊥
not_down s ticket up down = let never : None ≡ Some ticket = sym up ∙ down in cc

-- a book with room isn't full
not_full : (s : State) → length s.book.entries < 1048576 → IsBookFull s → ⊥
not_full s room full = omega (arith, room, full.full)

-- so it turns no transaction away
pub not_turned_away : (client line : ℕ) (change : Change) (r : Result ℕ Refused) (s : State) (d : Disk) (s' : State) → s.down ≡ None → length s.book.entries < 1048576
    → IfErr r (λ why. RefusesBy why client line change s d s') → IsNotTurnedAway r
not_turned_away client line change (Ok place) s d s' up room refuses = tt
not_turned_away client line change (Err (refused.Refusal refusal)) s d s' up room refuses = tt
not_turned_away client line change (Err (refused.NoSpace need free)) s d s' up room refuses = tt
not_turned_away client line change (Err (refused.Csum unit kept found)) s d s' up room refuses = tt
not_turned_away client line change (Err (refused.MetaFull need left)) s d s' up room refuses = tt
not_turned_away client line change (Err (refused.DeviceRead back)) s d s' up room refuses = tt
not_turned_away client line change (Err (refused.Memory back)) s d s' up room refuses = tt
not_turned_away client line change (Err (refused.Down ticket back)) s d s' up room refuses = absurd (not_down s ticket up refuses.0)
not_turned_away client line change (Err (refused.BookFull back)) s d s' up room refuses = absurd (not_full s room refuses.0)

-- nor does it turn a read away
pub no_turn_away : (read : Read) (r : Result ℕ Unanswered) (s s' : State) → s.down ≡ None → length s.book.entries < 1048576
    → IfErr r (λ why. UnansweredBy why read s s') → IsNoTurnAway r
no_turn_away read (Ok place) s s' up room unanswered = tt
no_turn_away read (Err (unanswered.DeviceRead back)) s s' up room away = tt
no_turn_away read (Err (unanswered.Memory back)) s s' up room away = tt
no_turn_away read (Err (unanswered.Down ticket back)) s s' up room away = absurd (not_down s ticket up away.0)
no_turn_away read (Err (unanswered.BookFull back)) s s' up room away = absurd (not_full s room away.0)

-- ---- the entry of a command

-- a call that leaves the kernel up, with one more entry, has made the command
made_by : (client line : ℕ) (c : Command) (a : Answer) (accepted : Bool) (s t : State) (d : Disk) (s' : State) (d' : Disk) → s.down ≡ None
    → Calls (call_of client line c) s d s' d' → t.down ≡ s.down → t.book ≡ s.book → is_some (accepted_change c a) ≡ accepted
    → s' ≡ entered client line c a t → IsMade client line c accepted s d s' d'
made_by client line c a accepted s t d s' d' up called same book takes after =
    let entry : Entry = record { client = client; line = line; command = c; answer = a; acks = t.acked } in
    record {
      called = called;
      up = ap (λ (z : State). z.down) after ∙ (same ∙ up);
      entry = entry;
      asked = refl;
      entries = ap (λ (z : State). z.book.entries) after ∙ ap (λ (b : Book). b.entries ++ entry ∷ []) book;
      commits = ap (λ (z : State). z.book.commits) after ∙ ap (λ (b : Book). b.commits) book;
      accepted_is = ap (λ (b : Bool). b && is_some (accepted_change c a)) (eq-eqb client client refl) ∙ takes;
    }

-- a transaction that was refused with an answer has its entry
made_refused : (client line : ℕ) (change : Change) (reply : Answer) (s : State) (d : Disk) (s' : State) (d' : Disk) → s.down ≡ None
    → IsKnown change.ops → d' ≡ d → is_some (accepted_change (command.Change change) reply) ≡ false → Refuses client line change reply s d s'
    → IsMade client line (command.Change change) false s d s' d'
made_refused client line change reply s d s' d' up may same none refuses =
    made_by client line (command.Change change) reply false s s d s' d' up (may, inr (inl (reply, refuses)), same) refl refl none refuses.after

-- one that has no entry leaves the kernel as it was
refused_same : (e : RunFail) (why : Refused) (client line : ℕ) (change : Change) (s : State) (d : Disk) (s' : State) (d' : Disk)
    → RefusesBy why client line change s d s' → d' ≡ d → IsNotNoted e (Err why) → IsUnmade e client line (command.Change change) s d s' d'
refused_same run.DeviceRead (refused.DeviceRead back) client line change s d s' d' away same is = (away.0, same, away.2)
refused_same run.Memory (refused.Memory back) client line change s d s' d' away same is = (away.0, same)
refused_same e why client line change s d s' d' away same is = absurd is

-- what a submission makes, by its end
pub submitted_ends : (client line : ℕ) (change : Change) (r : Result ℕ Refused) (out : Result Bool RunFail) (s : State) (d : Disk) (s' : State)
    (d' : Disk)
    → s.down ≡ None → IsKnown change.ops → d' ≡ d → OnOk r (Accepts client line change s d s')
    → IfErr r (λ why. RefusesBy why client line change s d s')
    → MatchResult out (λ accepted. IsNoted accepted r) (λ e. IsNotNoted e r)
    → MatchResult out (λ accepted. IsMade client line (command.Change change) accepted s d s' d')
    (λ e. IsUnmade e client line (command.Change change) s d s' d')
submitted_ends client line change (Ok place) (Ok true) s d s' d' up may same accepted refuses noted =
    made_by client line (command.Change change) answer.Accepted true s _ d s' d' up (may, inl accepted, same) refl refl refl accepted.after
submitted_ends client line change (Err (refused.Refusal refusal)) (Ok false) s d s' d' up may same accepted refuses noted =
    made_refused client line change (answer.Refused refusal) s d s' d' up may same refl refuses
submitted_ends client line change (Err (refused.NoSpace need free)) (Ok false) s d s' d' up may same accepted refuses noted =
    made_refused client line change (answer.NoSpace need free) s d s' d' up may same refl refuses
submitted_ends client line change (Err (refused.Csum unit kept found)) (Ok false) s d s' d' up may same accepted refuses noted =
    made_refused client line change (answer.Csum unit kept found) s d s' d' up may same refl refuses
submitted_ends client line change (Err (refused.MetaFull need room)) (Ok false) s d s' d' up may same accepted refuses noted =
    made_refused client line change (answer.MetaFull need room) s d s' d' up may same refl refuses
submitted_ends client line change (Err why) (Err e) s d s' d' up may same accepted refuses noted =
    refused_same e why client line change s d s' d' refuses same noted
submitted_ends client line change (Ok place) (Err run.Memory) s d s' d' up may same accepted refuses noted = absurd noted
submitted_ends client line change (Ok place) (Err run.Fault) s d s' d' up may same accepted refuses noted = absurd noted
submitted_ends client line change (Ok place) (Err run.DeviceRead) s d s' d' up may same accepted refuses noted = absurd noted
submitted_ends client line change r (Ok true) s d s' d' up may same accepted refuses noted = absurd noted
submitted_ends client line change r (Ok false) s d s' d' up may same accepted refuses noted = absurd noted

-- what is known where the device failed at a read of old bytes is known where that is why the transaction has no entry
pub submit_rose : (r : Result ℕ Refused) (out : Result Bool RunFail) (A : Type 0) → IfErr r (λ why. IsReadFail why → A)
    → MatchResult out (λ accepted. IsNoted accepted r) (λ e. IsNotNoted e r) → out ≡ Err run.DeviceRead → A
submit_rose (Err (refused.DeviceRead back)) (Err run.DeviceRead) A cause noted is = cause tt
submit_rose r (Err run.DeviceRead) A cause noted is = absurd noted
submit_rose r (Err run.Memory) A cause noted is = absurd cc
submit_rose r (Err run.Fault) A cause noted is = absurd cc
submit_rose r (Ok accepted) A cause noted is = absurd cc

-- a read that has no answer leaves the kernel as it was
unanswered_same : (e : RunFail) (why : Unanswered) (client line : ℕ) (read : Read) (s : State) (d : Disk) (s' : State) (d' : Disk)
    → UnansweredBy why read s s' → d' ≡ d → IsFailOf e (Err why) → IsUnmade e client line (command.Read read) s d s' d'
unanswered_same run.DeviceRead (unanswered.DeviceRead back) client line read s d s' d' away same is = (away.0, same, away.2)
unanswered_same run.Memory (unanswered.Memory back) client line read s d s' d' away same is = (away.0, same)
unanswered_same e why client line read s d s' d' away same is = absurd is

-- what a read makes, by its end
pub replied_ends : (client line : ℕ) (read : Read) (r : Result ℕ Unanswered) (out : Result (Unit {0}) RunFail) (s : State) (d : Disk) (s' : State)
    (d' : Disk)
    → s.down ≡ None → d' ≡ d → OnOk r ((a : Answer) × AnswersRead client line read a s d s')
    → IfErr r (λ why. UnansweredBy why read s s')
    → MatchResult out (λ _. IsReplied r) (λ e. IsFailOf e r)
    → MatchResult out (λ _. IsMade client line (command.Read read) false s d s' d') (λ e. IsUnmade e client line (command.Read read) s d s' d')
replied_ends client line read (Ok place) (Ok u) s d s' d' up same answered away replied =
    made_by client line (command.Read read) answered.0 false s s d s' d' up (inl answered, same) refl refl refl answered.1.after
replied_ends client line read (Err why) (Err e) s d s' d' up same answered away replied =
    unanswered_same e why client line read s d s' d' away same replied
replied_ends client line read (Ok place) (Err run.Memory) s d s' d' up same answered away replied = absurd replied
replied_ends client line read (Ok place) (Err run.Fault) s d s' d' up same answered away replied = absurd replied
replied_ends client line read (Ok place) (Err run.DeviceRead) s d s' d' up same answered away replied = absurd replied
replied_ends client line read (Err why) (Ok u) s d s' d' up same answered away replied = absurd replied

-- what is known where the device failed at a read is known where that is why the read has no entry
pub read_rose : (r : Result ℕ Unanswered) (out : Result (Unit {0}) RunFail) (A : Type 0) → IfErr r (λ why. IsDeviceRead why → A)
    → MatchResult out (λ _. IsReplied r) (λ e. IsFailOf e r) → out ≡ Err run.DeviceRead → A
read_rose (Err (unanswered.DeviceRead back)) (Err run.DeviceRead) A cause replied is = cause tt
read_rose r (Err run.DeviceRead) A cause replied is = absurd replied
read_rose r (Err run.Memory) A cause replied is = absurd cc
read_rose r (Err run.Fault) A cause replied is = absurd cc
read_rose r (Ok u) A cause replied is = absurd cc
