-- Each call leaves all entries with the answers that plain objects give, and none that names a bad unit.
use Rattle.std.proofs.Common.{◌≡◌, inl, inr, ℕ, Bool, true, false, cond, List, [], ◌∷◌, ◌++◌, Some, None, Result, Ok, Err, refl, sym, ap, subst}
use Rattle.std.specs.Prelude.{nat_lt, take, drop, ◌+◌}
use Rattle.std.specs.List.{AllByRecursion}
use Rattle.std.specs.Option.{option_map_or}
use Rattle.std.specs.FinMap as finite
use Rattle.byte_maps.specs.ByteMap.{ByteMap}
use Rattle.block_device.specs.Prelude.{Disk, History}
use Rattle.object_model.specs.Prelude.{Object, Collection, Objects, Change, replay, object_limit, answer_from, found_collection, found_object, value_of, read_reply, accepted, AnswersFrom, IsLegal}
use Rattle.object_model.specs.Book.{IsAnswered as IsRight}
use Rattle.object_model.specs.declared.book.Entry.{Entry}
use Rattle.object_model.specs.declared.op.Refusal.{Refusal}
use Rattle.object_model.specs.declared.op.Refusal.TheVariants.{NoAttr, BadRange}
use Rattle.object_model.specs.declared.command.Command.TheVariants as ask
use Rattle.object_model.specs.declared.command.Read.{Read}
use Rattle.object_model.specs.declared.command.Read.TheVariants as reads
use Rattle.object_model.specs.declared.command.Answer.{Answer}
use Rattle.object_model.specs.declared.command.Answer.TheVariants as answer
use Rattle.meta_log.specs.Prelude.{width_of}
use Rattle.read_facts.specs.Prelude.{IsNoCsum, AnswersAlikeFrom, IsLegalButBytes}
use Rattle.read_facts.proofs.Seen.{seen_answer}
use Rattle.store_steps.specs.Prelude.{State, IsCause, Call, submitting, reading, stepping, AnswersRead, Reads, Submits, Calls, memory_of}
use Rattle.run_facts.specs.Prelude.{IsKept}
use Rattle.book_facts.specs.Prelude.{KnownOfBook}
use Rattle.book_facts.proofs.Prelude.{known_legal, answers_push, alike_last, step_room}
use Rattle.crash_facts.specs.Store.{KnownOfStore, IsDurable}
use Rattle.crash_facts.proofs.OldBytes.{meets_none}
use Rattle.crash_facts.proofs.Submitted.{seen_at, submitted_stand, unread_good}
use Rattle.flight_facts.proofs.Prelude.{all_join}

-- each entry has the answer that plain objects give, and none names a bad unit
pub record AreAnswered (opening : Objects) (entries : List Entry) : Type 0 where
  pub answers : AnswersFrom opening entries
  pub no_csum : AllByRecursion (λ e. IsNoCsum e.answer) entries

-- one more entry
answered_push : (opening : Objects) (es : List Entry) (e : Entry) → AreAnswered opening es → IsRight (replay opening (accepted es)) e
    → IsNoCsum e.answer → AreAnswered opening (es ++ e ∷ [])
answered_push opening es e are right no_csum = record {
  answers = answers_push opening es e are.answers right;
  no_csum = all_join (λ x. IsNoCsum x.answer) es (e ∷ []) are.no_csum (no_csum, tt);
}

-- ---- plain objects name no bad unit

-- where each answer to what is found names none
found_no_csum : {X : Type 0} (r : Result X Refusal) (read : X → Answer) → ((x : X) → IsNoCsum (read x)) → IsNoCsum (answer_from r read)
found_no_csum (Ok x) read each = each x
found_no_csum (Err refusal) read each = tt

-- nor does the refusal of a range
range_no_csum : (b : Bool) (bytes : List ℕ) → IsNoCsum (cond b (answer.Refused BadRange) (answer.Bytes bytes))
range_no_csum true bytes = tt
range_no_csum false bytes = tt

-- nor does a value
value_no_csum : (m : ByteMap (List ℕ)) (name : List ℕ) → IsNoCsum (value_of m name)
value_no_csum m name = elim (finite.get m name) as (λ x. IsNoCsum (option_map_or (λ v. answer.Bytes v) x (answer.Refused NoAttr))) [ None ↦ tt | Some v ↦ tt ]

-- so the answer to a read doesn't
reply_no_csum : (read : Read) (objects : Objects) → IsNoCsum (read_reply read objects)
reply_no_csum (reads.Bytes c o off len) objects =
    found_no_csum (found_object objects c o)
    (λ (b : Object). cond (nat_lt object_limit (off + len)) (answer.Refused BadRange) (answer.Bytes (take len (drop off b.bytes))))
    (λ (b : Object). range_no_csum (nat_lt object_limit (off + len)) (take len (drop off b.bytes)))
reply_no_csum (reads.Sum c o) objects = found_no_csum (found_object objects c o) _ (λ (b : Object). tt)
reply_no_csum (reads.Stat c o) objects = found_no_csum (found_object objects c o) _ (λ (b : Object). tt)
reply_no_csum (reads.GetAttr c o name) objects = found_no_csum (found_object objects c o) _ (λ (b : Object). value_no_csum b.attrs name)
reply_no_csum (reads.OmapGet c o key) objects = found_no_csum (found_object objects c o) _ (λ (b : Object). value_no_csum b.omap key)
reply_no_csum (reads.OmapHeader c o) objects = found_no_csum (found_object objects c o) _ (λ (b : Object). tt)
reply_no_csum (reads.List c) objects = found_no_csum (found_collection objects c) _ (λ (found : Collection). tt)

-- ---- a transaction

-- nor does the answer to one, since none of the units whose old bytes it asks for is bad
cause_no_csum : (base : ℕ) (opening : Objects) (a : Answer) (change : Change) (s : State) (d : Disk) → IsKept s d → IsDurable base opening s d
    → s.down ≡ None → IsCause a change s d → IsNoCsum a
cause_no_csum base opening (answer.Refused refusal) change s d kept durable up cause = tt
cause_no_csum base opening (answer.NoSpace need free) change s d kept durable up cause = tt
cause_no_csum base opening (answer.Csum unit sum found) change s d kept durable up cause =
    absurd (meets_none base opening s d durable.history kept up (durable.up up) change unit sum found cause)
cause_no_csum base opening (answer.MetaFull need room) change s d kept durable up cause = tt
cause_no_csum base opening a change s d kept durable up cause = absurd cause

-- what is known of its answer says all, since it gives no bytes
submitted_one : (opening : Objects) (s : State) (client line : ℕ) (change : Change) (a : Answer) (es' : List Entry) → IsNoCsum a
    → (let e : Entry = record { client = client; line = line; command = ask.Change change; answer = a; acks = s.acked } in
    es' ≡ s.book.entries ++ e ∷ [] → AnswersAlikeFrom opening es' → AreAnswered opening s.book.entries → AreAnswered opening es')
submitted_one opening s client line change a es' no_csum same alike are =
    let e : Entry = record { client = client; line = line; command = ask.Change change; answer = a; acks = s.acked } in
    subst (AreAnswered opening) (sym same) (answered_push opening s.book.entries e are
    (alike_last opening s.book.entries e (subst (AnswersAlikeFrom opening) same alike)) no_csum)

-- what a submission leaves
submit_answers : (base : ℕ) (opening : Objects) (client line : ℕ) (change : Change) (s : State) (d : Disk) (s' : State) → IsKept s d
    → IsDurable base opening s d → AreAnswered opening s.book.entries → KnownOfBook opening s' → Submits client line change s d s'
    → AreAnswered opening s'.book.entries
submit_answers base opening client line change s d s' kept durable are book (inl does) =
    submitted_one opening s client line change answer.Accepted s'.book.entries tt (ap (λ (t : State). t.book.entries) does.after) book.answers are
submit_answers base opening client line change s d s' kept durable are book (inr (inl (a, refuses))) =
    submitted_one opening s client line change a s'.book.entries
    (cause_no_csum base opening a change s d kept durable refuses.can_note.up refuses.cause)
    (ap (λ (t : State). t.book.entries) refuses.after) book.answers are
submit_answers base opening client line change s d s' kept durable are book (inr (inr turned)) =
    subst (λ (t : State). AreAnswered opening t.book.entries) (sym turned.same) are

-- ---- a read

-- gives what plain objects have, whatever is under way
read_is_plain : (base : ℕ) (opening : Objects) (client line : ℕ) (read : Read) (a : Answer) (s s' : State) (d : Disk) (h : History) → IsKept s d
    → KnownOfStore base opening s d h → AnswersRead client line read a s d s' → a ≡ read_reply read (replay opening (accepted s.book.entries))
read_is_plain base opening client line read a s s' d h kept known is =
    let up : s.down ≡ None = is.can_note.up in
    seen_answer (width_of s.log.sup) (memory_of s) d h known.units.told s.submitted (unread_good base opening s d h kept up known) (seen_at s h)
    (λ unit. refl) (replay opening (accepted s.book.entries)) (submitted_stand base opening s d h kept up known) read a is.names is.given

-- what a read leaves
read_answers : (base : ℕ) (opening : Objects) (client line : ℕ) (read : Read) (s s' : State) (d : Disk) → IsKept s d
    → IsDurable base opening s d → AreAnswered opening s.book.entries → Reads client line read s d s' → AreAnswered opening s'.book.entries
read_answers base opening client line read s s' d kept durable are (inl (a, is)) =
    let objects : Objects = replay opening (accepted s.book.entries) in
    let e : Entry = record { client = client; line = line; command = ask.Read read; answer = a; acks = s.acked } in
    let plain : a ≡ read_reply read objects =
    read_is_plain base opening client line read a s s' d durable.history kept (durable.up is.can_note.up) is in
    subst (λ (t : State). AreAnswered opening t.book.entries) (sym is.after)
    (answered_push opening s.book.entries e are (inl plain) (subst IsNoCsum (sym plain) (reply_no_csum read objects)))
read_answers base opening client line read s s' d kept durable are (inr turned) =
    subst (λ (t : State). AreAnswered opening t.book.entries) (sym turned.same) are

-- ---- each call

pub call_answers : (base : ℕ) (opening : Objects) (call : Call) (s s' : State) (d d' : Disk) → IsKept s d → IsDurable base opening s d
    → KnownOfBook opening s' → Calls call s d s' d' → AreAnswered opening s'.book.entries
call_answers base opening call s s' d d' kept durable book' made = of_call call made
  where
    are : AreAnswered opening s.book.entries
    are = record { answers = durable.answers; no_csum = durable.no_csum }

    of_call : (c : Call) → Calls c s d s' d' → AreAnswered opening s'.book.entries
    of_call (submitting client line change) does = submit_answers base opening client line change s d s' kept durable are book' does.1
    of_call (reading client line read) does = read_answers base opening client line read s s' d kept durable are does.0
    of_call (stepping step) does = subst (AreAnswered opening) (sym (step_room s d s' d' step kept does.0 does.1).entries) are

-- ---- the book of a durable store

pub durable_legal : (base : ℕ) (opening : Objects) (s : State) (d : Disk) → IsDurable base opening s d → IsLegal opening s.book
durable_legal base opening s d durable =
    let legal : IsLegalButBytes opening s.book = known_legal opening s durable.book in
    record {
      answers = durable.answers;
      of_accepted = legal.of_accepted;
      once = legal.once;
      in_order = legal.in_order;
      acked_first = legal.acked_first;
      counts = legal.counts;
    }

pub durable_sums : (base : ℕ) (opening : Objects) (s : State) (d : Disk) → IsDurable base opening s d
    → AllByRecursion (λ e. IsNoCsum e.answer) s.book.entries
durable_sums base opening s d durable = durable.no_csum
