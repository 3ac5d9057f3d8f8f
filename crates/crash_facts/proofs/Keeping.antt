-- What a kernel keeps of its device: a start lies in the log before each call that came after it, so each call goes on from what was known there.
use Rattle.std.proofs.Common.{◌≡◌, ◌⊎◌, inl, inr, ℕ, ◌+◌, ◌≤◌, true, List, [], ◌∷◌, ◌++◌, length, take, Option, Some, None}
use Rattle.std.proofs.Common.{refl, sym, ap, subst, ◌∙◌, arith, length-append}
use Rattle.std.proofs.lemmas.Option.{same_Some}
use Rattle.std.proofs.lemmas.List.{take-append-le}
use Rattle.block_device.specs.Prelude.{last, IsClean, Disk, History, IsSound, history_after, with_event}
use Rattle.block_device.specs.declared.device.Ticket.{Ticket}
use Rattle.block_device.specs.declared.event.Event.{Event}
use Rattle.block_device.specs.declared.event.Event.TheVariants.{Write, Flush, Done}
use Rattle.object_model.specs.Prelude.{Objects}
use Rattle.store_image.specs.Prelude.{StandsFor, IsStart, EachCutStands}
use Rattle.unit_allocator.specs.Prelude.{Space}
use Rattle.store_steps.specs.Prelude.{State, Found, opened, Call, Calls, Touch, nothing, ends, flushes, on_data, on_half, on_other, on_slot, Adds, events_of, run_write, Footprint}
use Rattle.plan_drafts.specs.Prelude.{PlansKeep}
use Rattle.run_facts.specs.Prelude.{IsKept}
use Rattle.run_facts.proofs.Prelude.{GoesDown, down_call, footprint_of}
use Rattle.crash_facts.specs.Store.{IsDurable, KeepsDurable, IsMounted}
use Rattle.crash_facts.proofs.Runs.{call_durable, mounted_durable}

-- ---- a call is no event, or one that is counted

record IsNoEvent (s s' : State) (d d' : Disk) : Type 0 where
  same : d'.history ≡ d.history
  counted : s'.events ≡ s.events

record IsOneEvent (s s' : State) (d d' : Disk) : Type 0 where
  event : Event
  more : d'.history ≡ history_after d.history event
  counted : s'.events ≡ s.events + 1

abbrev IsAtMostOne : State → State → Disk → Disk → Type 0
IsAtMostOne s s' d d' = IsNoEvent s s' d d' ⊎ IsOneEvent s s' d d'

-- one that leaves the kernel up, by what it adds to the log
touch_events : (s s' : State) (d d' : Disk) (t : Touch) → Adds t d d' → s'.events ≡ s.events + events_of t → IsAtMostOne s s' d d'
touch_events s s' d d' nothing adds counted = inl (record { same = adds.0; counted = omega (arith, counted) })
touch_events s s' d d' (ends ticket) adds counted =
    inr (record { event = Done ticket true; more = ap (λ (e : Disk). e.history) adds.after; counted = counted })
touch_events s s' d d' (flushes ticket) adds counted =
    inr (record { event = Flush; more = ap (λ (e : Disk). e.history) adds.after; counted = counted })
touch_events s s' d d' (on_data ticket run) adds counted =
    inr (record { event = run_write run; more = ap (λ (e : Disk). e.history) adds.after; counted = counted })
touch_events s s' d d' (on_half ticket unit bytes) adds counted =
    inr (record { event = Write unit bytes; more = ap (λ (e : Disk). e.history) adds.after; counted = counted })
touch_events s s' d d' (on_other ticket unit bytes) adds counted =
    inr (record { event = Write unit bytes; more = ap (λ (e : Disk). e.history) adds.after; counted = counted })
touch_events s s' d d' (on_slot ticket unit bytes) adds counted =
    inr (record { event = Write unit bytes; more = ap (λ (e : Disk). e.history) adds.after; counted = counted })

down_events : (s s' : State) (d d' : Disk) → GoesDown s d s' d' → IsAtMostOne s s' d d'
down_events s s' d d' (inl end) = inr (record {
  event = Done end.ticket.place end.ok;
  more = ap (λ (e : Disk). e.history) end.ended.after;
  counted = ap (λ (t : State). t.events) end.after;
})
down_events s s' d d' (inr still) = inl (record { same = still.history; counted = ap (λ (t : State). t.events) still.state })

call_events : (call : Call) (s s' : State) (d d' : Disk) → IsKept s d → Calls call s d s' d' → IsAtMostOne s s' d d'
call_events call s s' d d' kept made = of_down s'.down refl
  where
    of_down : (o : Option Ticket) → s'.down ≡ o → IsAtMostOne s s' d d'
    of_down None up =
        let f : Footprint s d s' d' = footprint_of call s d s' d' kept up made in
        touch_events s s' d d' f.touch f.device f.counted
    of_down (Some first) down = down_events s s' d d' (down_call call s d s' d' first kept down made)

-- ---- each call

-- a start lies in the log without its last event
earlier_start : (base : ℕ) (g : History) (e : Event) (opening : Objects) → base ≤ length g.log → IsStart base (with_event g e) opening
    → IsStart base g opening
earlier_start base g e opening reached start =
    let same : take base (g.log ++ e ∷ []) ≡ take base g.log = take-append-le base g.log (e ∷ []) reached in
    record {
      reached = reached;
      clean = λ unit. subst (λ (log : List Event). IsClean log unit) same (start.clean unit);
      stands = subst (λ (log : List Event). StandsFor (last g.start log) opening) same start.stands;
    }

module _ (base : ℕ) (opening : Objects) (s s' : State) (d d' : Disk) (h : History) (keeps : KeepsDurable s d) (told : d'.history ≡ Some h)
    (counted : length h.log ≡ base + s'.events) (start : IsStart base h opening) where
  -- so it was durable before
  before_none : IsNoEvent s s' d d' → IsDurable base opening s d
  before_none none = keeps h base opening (sym none.same ∙ told) (counted ∙ ap (λ (n : ℕ). base + n) none.counted) start

  before_one : IsOneEvent s s' d d' → IsDurable base opening s d
  before_one one = of_history d.history refl
    where
      of_told : (g : History) → d.history ≡ Some g → with_event g one.event ≡ h → IsDurable base opening s d
      of_told g was grew =
          let size : length (g.log ++ one.event ∷ []) ≡ base + s'.events = ap (λ (k : History). length k.log) grew ∙ counted in
          let before : length g.log ≡ base + s.events = omega (arith, size, one.counted, length-append g.log (one.event ∷ [])) in
          keeps g base opening was before
          (earlier_start base g one.event opening (omega (arith, before)) (subst (λ (k : History). IsStart base k opening) (sym grew) start))

      of_history : (o : Option History) → d.history ≡ o → IsDurable base opening s d
      of_history None was = let never : None ≡ Some h = sym (one.more ∙ ap (λ (x : Option History). history_after x one.event) was) ∙ told in absurd (cc)
      of_history (Some g) was =
          of_told g was (same_Some (with_event g one.event) h (sym (one.more ∙ ap (λ (x : Option History). history_after x one.event) was) ∙ told))

pub call_keeps : (call : Call) (s s' : State) (d d' : Disk) → PlansKeep → IsKept s d → IsSound d' → KeepsDurable s d → Calls call s d s' d' → KeepsDurable s' d'
call_keeps call s s' d d' plans kept sound keeps made h base opening told counted start =
    call_durable base opening call s s' d d' plans kept sound (elim (call_events call s s' d d' kept made) [
      | inl none ↦ before_none base opening s s' d d' h keeps told counted start none
      | inr one ↦ before_one base opening s s' d d' h keeps told counted start one
    ]) made

-- ---- a mounted store

pub mounted_keeps : (f : Found) (space : Space) (next events : ℕ) (d : Disk) → d.flights ≡ []
    → ((h : History) (base : ℕ) (opening : Objects) → d.history ≡ Some h → length h.log ≡ base + events → IsStart base h opening
    → IsMounted base opening f events h) → KeepsDurable (opened f space next events) d
mounted_keeps f space next events d none mounted h base opening told counted start =
    mounted_durable base opening f space next events d h told none (mounted h base opening told counted start)

-- ---- what it comes to

pub kernel_durable : (base : ℕ) (opening : Objects) (s : State) (d : Disk) (h : History) → KeepsDurable s d → d.history ≡ Some h
    → length h.log ≡ base + s.events → IsStart base h opening → EachCutStands base h opening s.book
kernel_durable base opening s d h keeps told counted start =
    let durable : IsDurable base opening s d = keeps h base opening told counted start in
    subst (λ (k : History). EachCutStands base k opening s.book) (same_Some durable.history h (sym durable.told ∙ told)) durable.cuts
