-- What the end of a submission leaves as it is, whatever it was for.
use Rattle.std.proofs.Common.{◌≡◌, ◌==◌, ℕ, ◌+◌, ◌-◌, ◌*◌, ◌≤◌, suc, Bool, true, false, cond, List, [], ◌∷◌, ◌++◌, length, Option, Some, None, is_some, is_none, refl, ap, ◌∙◌, arith}
use Rattle.flight_facts.proofs.Common.{option_map, option_map_or, Ticket, Context, FlushState, Flying, Job, Meta, Begun, Checking}
use Rattle.store_steps.specs.declared.flight.FlushState.TheVariants as flush
use Rattle.store_steps.specs.declared.flight.Job.TheVariants as job
use Rattle.store_steps.specs.declared.flight.Switching.{Switching}
use Rattle.store_steps.specs.Prelude.{Batch, State, with_context, done_more, first_flushed, second_flushed, written_more, checked_more, check_flushed, slot_written, slot_flushed, check_pieces, after_done, after_good, flying_of, landed, reaped, Intent, intent_of, intents, uncommitted}
use Rattle.flight_facts.specs.Prelude.{by_one, stage_work, stages_work, batch_pieces, switch_stages, check_most, work_of, sum_work, batch_work, switch_work, check_due}

-- how far a context is doesn't change its intent
pub intents_kept : (place : ℕ) (change : Context → Context) → ((x : Context) → intent_of (change x) ≡ intent_of x) → (front xs : List Context)
    → intents (front ++ with_context place change xs) ≡ intents (front ++ xs)
intents_kept place change same [] [] = refl
intents_kept place change same [] (x ∷ xs) = of_test (x.place == place) ∙ ap (λ (is : List Intent). intent_of x ∷ is) (intents_kept place change same [] xs)
  where
    of_test : (b : Bool) → intents (cond b (change x) x ∷ with_context place change xs) ≡ intents (x ∷ with_context place change xs)
    of_test true = ap (λ (i : Intent). i ∷ intents (with_context place change xs)) (same x)
    of_test false = refl
intents_kept place change same (x ∷ front) xs = ap (λ (is : List Intent). intent_of x ∷ is) (intents_kept place change same front xs)

-- ---- work

-- contexts as many, of as much work
pub record AreAsMany (xs ys : List Context) : Type 0 where
  pub work : sum_work ys ≡ sum_work xs
  pub count : length ys ≡ length xs

-- what has ended of a context doesn't change its work
done_as_many : (place count : ℕ) (xs : List Context) → AreAsMany xs (with_context place (done_more count) xs)
done_as_many place count [] = record { work = refl; count = refl }
done_as_many place count (x ∷ xs) =
    let rest : AreAsMany xs (with_context place (done_more count) xs) = done_as_many place count xs in
    record { work = of_test (x.place == place) rest.work; count = ap suc rest.count }
  where
    of_test : (b : Bool) → sum_work (with_context place (done_more count) xs) ≡ sum_work xs
        → sum_work (cond b (done_more count x) x ∷ with_context place (done_more count) xs) ≡ sum_work (x ∷ xs)
    of_test true rest = ap (λ (n : ℕ). work_of x + n) rest
    of_test false rest = ap (λ (n : ℕ). work_of x + n) rest

-- one submission whose end has come costs no more than before
less_one : (j : Job) (state : FlushState) → stage_work (by_one j flush.Flushed) ≤ stage_work (by_one j state)
less_one j flush.NotSent = omega arith
less_one j (flush.Sent ticket) = omega arith
less_one j flush.Flushed = omega arith

-- pieces that have ended were given before
given_same : (o : Option Begun) → option_map_or (λ (r : Begun). r.given) (option_map written_more o) 0 ≡ option_map_or (λ (r : Begun). r.given) o 0
given_same None = refl
given_same (Some r) = refl

made_same : (o : Option Begun) → is_none (option_map written_more o) ≡ is_none o
made_same None = refl
made_same (Some r) = refl

first_ended : (m : Meta) (o : Option Batch) → option_map_or (batch_work m) (option_map first_flushed o) 0 ≤ option_map_or (batch_work m) o 0
first_ended m None = omega arith
first_ended m (Some b) = sums _ _ _ _ _ (less_one job.DataFlush b.first)
  where
    sums : (a a' r seal n : ℕ) → a' ≤ a → (a' + r) + seal + 1 + n + check_most ≤ (a + r) + seal + 1 + n + check_most
    sums a a' r seal n le = omega (arith, le)

second_ended : (m : Meta) (o : Option Batch) → option_map_or (batch_work m) (option_map second_flushed o) 0 ≤ option_map_or (batch_work m) o 0
second_ended m None = omega arith
second_ended m (Some b) = sums (stage_work (by_one job.DataFlush b.first)) _ _ _ _ _ (less_one job.RecordFlush b.second)
  where
    sums : (f r a a' seal n : ℕ) → a' ≤ a
        → (f + (r + (a' + 0))) + seal + 1 + n + check_most ≤ (f + (r + (a + 0))) + seal + 1 + n + check_most
    sums f r a a' seal n le = omega (arith, le)

piece_ended : (m : Meta) (o : Option Batch) → option_map_or (batch_work (record m { begun = option_map written_more m.begun })) o 0
    ≤ option_map_or (batch_work m) o 0
piece_ended m None = omega arith
piece_ended m (Some b) = sums (stage_work (by_one job.DataFlush b.first)) (batch_pieces m.number b) _ _ (stage_work (by_one job.RecordFlush b.second))
    (cond (is_none (option_map written_more m.begun)) 1 0) (cond (is_none m.begun) 1 0) (length b.contexts) (given_same m.begun)
    (ap (λ (t : Bool). cond t 1 0) (made_same m.begun))
  where
    sums : (f pieces given given' second seal seal' n : ℕ) → given' ≡ given → seal ≡ seal'
        → (f + (2 * (pieces - given') + (second + 0))) + seal + 1 + n + check_most ≤ (f + (2 * (pieces - given) + (second + 0))) + seal' + 1 + n + check_most
    sums f pieces given given' second seal seal' n same also = omega (arith, same, also)

no_more : (n : ℕ) → n ≤ n
no_more n = omega arith

-- ---- a switch

abbrev switch_stage_work : Meta → Switching → Option Checking → ℕ
switch_stage_work m w o = option_map_or (λ c. stages_work (switch_stages (length (check_pieces m)) c w)) o 0

flush_ended : (m : Meta) (w : Switching) (o : Option Checking) → switch_stage_work m (check_flushed w) o ≤ switch_stage_work m w o
flush_ended m w None = omega arith
flush_ended m w (Some c) = sums (2 * (length (check_pieces m) - c.given)) _ _ _ _ (less_one job.CheckFlush w.flush)
  where
    sums : (p a a' b c : ℕ) → a' ≤ a → p + (a' + (b + (c + 0))) ≤ p + (a + (b + (c + 0)))
    sums p a a' b c le = omega (arith, le)

slot_ended : (m : Meta) (w : Switching) (o : Option Checking) → switch_stage_work m (slot_written w) o ≤ switch_stage_work m w o
slot_ended m w None = omega arith
slot_ended m w (Some c) = sums (2 * (length (check_pieces m) - c.given)) (stage_work (by_one job.CheckFlush w.flush)) _ _ _ (less_one job.Slot w.slot)
  where
    sums : (p a b b' c : ℕ) → b' ≤ b → p + (a + (b' + (c + 0))) ≤ p + (a + (b + (c + 0)))
    sums p a b b' c le = omega (arith, le)

slot_flush_ended : (m : Meta) (w : Switching) (o : Option Checking) → switch_stage_work m (slot_flushed w) o ≤ switch_stage_work m w o
slot_flush_ended m w None = omega arith
slot_flush_ended m w (Some c) = sums (2 * (length (check_pieces m) - c.given)) (stage_work (by_one job.CheckFlush w.flush))
    (stage_work (by_one job.Slot w.slot)) _ _ (less_one job.SlotFlush w.slot_flush)
  where
    sums : (p a b c c' : ℕ) → c' ≤ c → p + (a + (b + (c' + 0))) ≤ p + (a + (b + (c + 0)))
    sums p a b c c' le = omega (arith, le)

run_ended : (m : Meta) (o : Option Switching) (n : ℕ)
    → option_map_or (switch_work (record m { check = option_map checked_more m.check })) o n ≤ option_map_or (switch_work m) o n
run_ended m None n = omega arith
run_ended m (Some w) n = of_check m.check
  where
    of_check : (o : Option Checking) → switch_stage_work m w (option_map checked_more o) + 1 ≤ switch_stage_work m w o + 1
    of_check None = omega arith
    of_check (Some c) = omega arith

-- ---- what a good end leaves, while the kernel is up

-- it changes contexts, batch and switch, record and checkpoint alone, whatever it was for
pub done_alone : (j : Job) (s : State) → after_done j s
    ≡ (let t : State = after_done j s in record s {
      log = record s.log { begun = t.log.begun; check = t.log.check };
      pending = t.pending;
      batch = t.batch;
      switching = t.switching;
    })
done_alone (job.Data place count) s = refl
done_alone other s = refl

-- Of these it leaves what all transactions under way are to do, how many wait and their work, and the batch's contexts; of the work of batch and
-- switch no more is left than before.
pub record DoneLeaves (s t : State) : Type 0 where
  pub waiting : intents (uncommitted t) ≡ intents (uncommitted s)
  pub many : length t.pending ≡ length s.pending
  pub work : sum_work t.pending ≡ sum_work s.pending
  pub contexts : option_map_or (λ (b : Batch). length b.contexts) t.batch 0 ≡ option_map_or (λ (b : Batch). length b.contexts) s.batch 0
  pub batch : option_map_or (batch_work (record s.log { begun = t.log.begun; check = t.log.check })) t.batch 0
      ≤ option_map_or (batch_work s.log) s.batch 0
  pub switch : option_map_or (switch_work (record s.log { begun = t.log.begun; check = t.log.check })) t.switching (check_due s.log)
      ≤ option_map_or (switch_work s.log) s.switching (check_due s.log)

-- a batch with the same contexts
batch_leaves : (f : Batch → Batch) → ((b : Batch) → (f b).contexts ≡ b.contexts) → (s : State)
    → option_map_or (batch_work s.log) (option_map f s.batch) 0 ≤ option_map_or (batch_work s.log) s.batch 0
    → DoneLeaves s (record s { batch = option_map f s.batch })
batch_leaves f same s less = record {
  waiting = ap (λ (xs : List Context). intents (xs ++ s.pending)) (contexts s.batch);
  many = refl;
  work = refl;
  contexts = counted s.batch;
  batch = less;
  switch = no_more (option_map_or (switch_work s.log) s.switching (check_due s.log));
}
  where
    contexts : (o : Option Batch) → option_map_or (λ (b : Batch). b.contexts) (option_map f o) [] ≡ option_map_or (λ (b : Batch). b.contexts) o []
    contexts None = refl
    contexts (Some b) = same b

    counted : (o : Option Batch)
        → option_map_or (λ (b : Batch). length b.contexts) (option_map f o) 0 ≡ option_map_or (λ (b : Batch). length b.contexts) o 0
    counted None = refl
    counted (Some b) = ap (λ (xs : List Context). length xs) (same b)

-- a switch that costs no more
switch_leaves : (f : Switching → Switching) (s : State)
    → ((w : Switching) (o : Option Checking) → switch_stage_work s.log (f w) o ≤ switch_stage_work s.log w o)
    → DoneLeaves s (record s { switching = option_map f s.switching })
switch_leaves f s less = record {
  waiting = refl;
  many = refl;
  work = refl;
  contexts = refl;
  batch = no_more (option_map_or (batch_work s.log) s.batch 0);
  switch = of_switch s.switching;
}
  where
    one_on : (a b : ℕ) → a ≤ b → a + 1 ≤ b + 1
    one_on a b le = omega (arith, le)

    of_switch : (o : Option Switching)
        → option_map_or (switch_work s.log) (option_map f o) (check_due s.log) ≤ option_map_or (switch_work s.log) o (check_due s.log)
    of_switch None = no_more (check_due s.log)
    of_switch (Some w) = one_on (switch_stage_work s.log (f w) s.log.check) (switch_stage_work s.log w s.log.check) (less w s.log.check)

-- the table, by jobs
pub done_leaves : (j : Job) (s : State) → DoneLeaves s (after_done j s)
done_leaves (job.Data place count) s =
    let many : AreAsMany s.pending (with_context place (done_more count) s.pending) = done_as_many place count s.pending in
    record {
      waiting = intents_kept place (done_more count) (λ x. refl) (option_map_or (λ (b : Batch). b.contexts) s.batch []) s.pending;
      many = many.count;
      work = many.work;
      contexts = refl;
      batch = no_more (option_map_or (batch_work s.log) s.batch 0);
      switch = no_more (option_map_or (switch_work s.log) s.switching (check_due s.log));
    }
done_leaves job.DataFlush s = batch_leaves first_flushed (λ b. refl) s (first_ended s.log s.batch)
done_leaves job.Record s = record {
  waiting = refl;
  many = refl;
  work = refl;
  contexts = refl;
  batch = piece_ended s.log s.batch;
  switch = no_more (option_map_or (switch_work s.log) s.switching (check_due s.log));
}
done_leaves job.RecordFlush s = batch_leaves second_flushed (λ b. refl) s (second_ended s.log s.batch)
done_leaves job.Check s = record {
  waiting = refl;
  many = refl;
  work = refl;
  contexts = refl;
  batch = no_more (option_map_or (batch_work s.log) s.batch 0);
  switch = run_ended s.log s.switching (check_due s.log);
}
done_leaves job.CheckFlush s = switch_leaves check_flushed s (flush_ended s.log)
done_leaves job.Slot s = switch_leaves slot_written s (slot_ended s.log)
done_leaves job.SlotFlush s = switch_leaves slot_flushed s (slot_flush_ended s.log)

-- ---- what any end leaves

-- the book, whether the kernel is down, and what all transactions under way are to do
pub record EndLeaves (s t : State) : Type 0 where
  pub book : t.book ≡ s.book
  pub down : t.down ≡ s.down
  pub waiting : intents (uncommitted t) ≡ intents (uncommitted s)

-- a good end, whether it counts or not
pub good_end : (ticket : Ticket) (s : State) → EndLeaves s (reaped ticket true s)
good_end ticket s = of_test (is_some s.down)
  where
    of_flying : (o : Option Flying) → EndLeaves s (after_good o (landed ticket s))
    of_flying None = record { book = refl; down = refl; waiting = refl }
    of_flying (Some f) =
        let u : State = landed ticket s in
        record {
          book = ap (λ (z : State). z.book) (done_alone f.job u);
          down = ap (λ (z : State). z.down) (done_alone f.job u);
          waiting = (done_leaves f.job u).waiting;
        }

    of_test : (b : Bool) → EndLeaves s (cond b (landed ticket s) (after_good (flying_of ticket s.flying) (landed ticket s)))
    of_test true = record { book = refl; down = refl; waiting = refl }
    of_test false = of_flying (flying_of ticket s.flying)

-- the book, at a bad end too
pub end_book : (ticket : Ticket) (ok : Bool) (s : State) → (reaped ticket ok s).book ≡ s.book
end_book ticket true s = (good_end ticket s).book
end_book ticket false s = refl
