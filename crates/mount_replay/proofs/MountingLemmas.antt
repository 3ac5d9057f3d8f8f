-- Steps that take the ends of what is in flight, one after another.
use Rattle.std.proofs.Common.{◌≡◌, ◌≢◌, inl, inr, ℕ, ◌+◌, ◌-◌, ◌*◌, ◌<◌, Bool, true, false, List, [], ◌∷◌, ◌++◌, length, Option, None, Some}
use Rattle.std.proofs.Common.{refl, sym, ap, subst, ◌∙◌, arith}
use Rattle.std.proofs.lemmas.List.Elements.{All-push, All-from_recursion}
use Rattle.block_device.specs.declared.event.Event.{Event}
use Rattle.block_device.specs.declared.event.Event.TheVariants.{Done}
use Rattle.block_device.specs.Prelude.{Disk, IsSound, History, history_after, Waited}
use Rattle.store_steps.specs.declared.step.Step.TheVariants.{Reap}
use Rattle.store_steps.specs.Prelude.{State, Takes, Call, stepping, Calls, IsRun}
use Rattle.run_facts.proofs.Prelude.{end_book}
use Rattle.log_replay.specs.Prelude.{Told, GoesOn, IsLater}
use Rattle.mount_replay.specs.Mounting.{IsReapedTo}
use Rattle.log_replay.proofs.ZeroLemmas.{told_start, goes_on_same, goes_on_join}
use Rattle.log_replay.proofs.MadeLemmas.{told_join}

-- ---- runs

-- a run with one more call
run_more : (calls : List Call) (call : Call) (s : State) (d : Disk) (t : State) (e : Disk) (t' : State) (e' : Disk)
    → IsRun s d calls t e → Calls call t e t' e' → IsSound e' → IsRun s d (calls ++ call ∷ []) t' e'
run_more [] call s d t e t' e' run step sound =
    let first = subst (λ x. Calls call x d t' e') run.0 (subst (λ x. Calls call t x t' e') run.1 step) in (t', (e', (first, (sound, (refl, refl)))))
run_more (c ∷ calls) call s d t e t' e' run step sound =
    let rest = run.1 in
    let first = rest.1 in
    let behind = first.1 in (run.0, (rest.0, (first.0, (behind.0, run_more calls call run.0 rest.0 t e t' e' behind.1 step sound))))

-- ---- what one step keeps

-- the history with one more event goes on
told_grown : (o : Option History) (event : Event) → Told GoesOn o (history_after o event)
told_grown None event = tt
told_grown (Some h) event = record { same_start = refl; events = event ∷ []; more = refl }

-- how many reaps what is in flight takes at most
abbrev pub reaps_left : Disk → ℕ
reaps_left d = 65 * length d.flights + (64 - d.waits)

-- the same device later, with fewer reaps left
pub record IsOneReap (s : State) (d : Disk) (s' : State) (d' : Disk) : Type 0 where
  pub book : s'.book ≡ s.book
  pub units : d'.units ≡ d.units
  pub depth : d'.depth ≡ d.depth
  pub told : Told GoesOn d.history d'.history
  pub fewer : reaps_left d' < reaps_left d

took : (s : State) (d : Disk) (ok : Bool) (s' : State) (d' : Disk) → Takes s d ok s' d' → IsOneReap s d s' d'
took s d ok s' d' takes =
    let after = takes.ended.after in
    let waits : d'.waits ≡ 0 = ap (λ (x : Disk). x.waits) after in record {
      book = ap (λ (x : State). x.book) takes.after ∙ end_book takes.ticket ok s;
      units = ap (λ (x : Disk). x.units) after;
      depth = ap (λ (x : Disk). x.depth) after;
      told = subst (λ o. Told GoesOn d.history o) (sym (ap (λ (x : Disk). x.history) after)) (told_grown d.history (Done takes.ticket.place ok));
      fewer = omega (arith, takes.ended.fewer, waits);
    }

waited : (s : State) (d : Disk) (s' : State) (d' : Disk) → d.flights ≢ [] → Waited d d' → s' ≡ s → IsOneReap s d s' d'
waited s d s' d' flies (inl idle) same = absurd (flies idle.0)
waited s d s' d' flies (inr busy) same =
    let after = busy.2 in
    let waits : d'.waits ≡ d.waits + 1 = ap (λ (x : Disk). x.waits) after in
    let flights : d'.flights ≡ d.flights = ap (λ (x : Disk). x.flights) after in
    let lengths : length d'.flights ≡ length d.flights = ap (λ l. length l) flights in record {
      book = ap (λ (x : State). x.book) same;
      units = ap (λ (x : Disk). x.units) after;
      depth = ap (λ (x : Disk). x.depth) after;
      told = subst (λ o. Told GoesOn d.history o) (sym (ap (λ (x : Disk). x.history) after)) (told_start GoesOn d.history goes_on_same);
      fewer = omega (arith, busy.1, waits, lengths);
    }

pub one_reap : (s : State) (d : Disk) (s' : State) (d' : Disk) → d.flights ≢ [] → Calls (stepping Reap) s d s' d' → IsOneReap s d s' d'
one_reap s d s' d' flies call = elim call.1 [
  | inr bad ↦ took s d false s' d' bad
  | inl good ↦ elim good [
    | inl takes ↦ took s d true s' d' takes
    | inr none ↦ waited s d s' d' flies none.0 none.1
  ]
]

-- ---- all of them

-- ends were taken, and this is the same device later
pub record ReapedSoFar (s : State) (d : Disk) (s' : State) (d' : Disk) : Type 0 where
  pub reaped : IsReapedTo s d s' d'
  pub book : s'.book ≡ s.book
  pub units : d'.units ≡ d.units
  pub depth : d'.depth ≡ d.depth
  pub told : Told GoesOn d.history d'.history

pub reaped_none : (s : State) (d : Disk) → ReapedSoFar s d s d
reaped_none s d = record {
  reaped = record { calls = []; reaps = All-from_recursion (λ call. call ≡ stepping Reap) [] tt; run = (refl, refl) };
  book = refl;
  units = refl;
  depth = refl;
  told = told_start GoesOn d.history goes_on_same;
}

pub reaped_more : (s : State) (d : Disk) (t : State) (e : Disk) (t' : State) (e' : Disk) → ReapedSoFar s d t e → e.flights ≢ []
    → Calls (stepping Reap) t e t' e' → IsSound e' → ReapedSoFar s d t' e'
reaped_more s d t e t' e' so_far flies call sound =
    let one = one_reap t e t' e' flies call in
    let was = so_far.reaped in record {
      reaped = record {
        calls = was.calls ++ stepping Reap ∷ [];
        reaps = All-push (λ c. c ≡ stepping Reap) was.calls (stepping Reap) was.reaps refl;
        run = run_more was.calls (stepping Reap) s d t e t' e' was.run call sound;
      };
      book = one.book ∙ so_far.book;
      units = one.units ∙ so_far.units;
      depth = one.depth ∙ so_far.depth;
      told = told_join GoesOn GoesOn GoesOn d.history e.history e'.history (λ h k m a b c p q. goes_on_join h k m p q) so_far.told one.told;
    }

pub later_idle : (s : State) (d : Disk) (s' : State) (d' : Disk) → ReapedSoFar s d s' d' → IsSound d' → d'.flights ≡ [] → IsLater d d'
later_idle s d s' d' so_far sound idle = record { sound = sound; units = so_far.units; depth = so_far.depth; idle = idle; told = so_far.told }
