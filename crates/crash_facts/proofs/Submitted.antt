-- What the submitted rows stand for, over the bytes that units have in memory, or as last written; and that no write ended badly of a unit that is
-- read of the device.
use Rattle.std.proofs.Common.{◌≡◌, ℕ, Bool, true, false, cond, ◌==◌, List, [], ◌∷◌, Some, None, unwrap_or, refl, sym, ap, subst, ◌∙◌}
use Rattle.std.specs.Prelude.{IfSome}
use Rattle.block_device.specs.Prelude.{HasNoBadDone, IsAnsweredOnce, Disk, History, last_at}
use Rattle.block_device.proofs.ReadLemmas.{clean_good}
use Rattle.object_model.specs.Prelude.{Objects, replay, accepted}
use Rattle.meta_rows.specs.Prelude.{Rows}
use Rattle.meta_log.specs.Prelude.{width_of}
use Rattle.store_image.specs.Prelude.{HasPage, ObjectsStand}
use Rattle.store_image.proofs.Prelude.{objects_stand}
use Rattle.plan_rows.specs.declared.plan.FreshUnit.{FreshUnit}
use Rattle.store_steps.specs.declared.context.Context.{Context}
use Rattle.store_steps.specs.Prelude.{State, Intent, intents, rows_by, uncommitted, all_fresh, bytes_in, memory_of}
use Rattle.run_facts.specs.Prelude.{IsKept}
use Rattle.run_facts.proofs.Prelude.{IsIdle, idle_uncommitted, given_of_all, none_of_bytes, page_on_data}
use Rattle.book_facts.specs.Prelude.{applied_changes}
use Rattle.book_facts.proofs.Prelude.{all_selected, all_under_way}
use Rattle.crash_facts.specs.HeldBytes.{bytes_with, held_or_last}
use Rattle.crash_facts.specs.Store.{KnownOfStore}
use Rattle.crash_facts.proofs.Bytes.{fresh_are}

-- the bytes of units, where fresh ones have theirs
with_found : (fs : List FreshUnit) (at : ℕ → List ℕ) (unit : ℕ) → bytes_with fs at unit ≡ unwrap_or (bytes_in fs unit) (at unit)
with_found [] at unit = refl
with_found (f ∷ fs) at unit = by_test (f.unit == unit) (with_found fs at unit)
  where
    by_test : (b : Bool) → bytes_with fs at unit ≡ unwrap_or (bytes_in fs unit) (at unit)
        → cond b f.bytes (bytes_with fs at unit) ≡ unwrap_or (cond b (Some f.bytes) (bytes_in fs unit)) (at unit)
    by_test true more = refl
    by_test false more = more

-- the bytes of a unit: those in memory, or those last written
abbrev pub seen_at : State → History → ℕ → List ℕ
seen_at s h unit = unwrap_or (memory_of s unit) (last_at h unit)

-- and what units are to hold once all that is under way has reached the device is that
pub held_is_seen : (s : State) (h : History) (unit : ℕ) → held_or_last h (intents (uncommitted s)) unit ≡ seen_at s h unit
held_is_seen s h unit = ap (λ (fs : List FreshUnit). bytes_with fs (last_at h) unit) (fresh_are (uncommitted s))
    ∙ with_found (all_fresh (uncommitted s)) (last_at h) unit

module _ (base : ℕ) (opening : Objects) (s : State) (d : Disk) (h : History) (kept : IsKept s d) (up : s.down ≡ None)
    (known : KnownOfStore base opening s d h) where
  abbrev xs : List Intent
  xs = intents (uncommitted s)

  abbrev objects : Objects
  objects = replay opening (accepted s.book.entries)

  -- they are the committed rows with all that is under way
  held_stand : ObjectsStand (width_of s.log.sup) (held_or_last h xs) s.submitted objects
  held_stand =
      subst (λ (rows : Rows). ObjectsStand (width_of s.log.sup) (held_or_last h xs) rows objects) (sym (kept.up up).rows.submitted)
      (subst (ObjectsStand (width_of s.log.sup) (held_or_last h xs) (rows_by s.log.rows xs)) (all_under_way opening s known.book)
      (all_selected (width_of s.log.sup) (held_or_last h xs) s.log.rows xs (replay opening (applied_changes s)) s.book.entries known.stand))

  -- so they stand for the objects after all accepted transactions
  pub submitted_stand : ObjectsStand (width_of s.log.sup) (seen_at s h) s.submitted objects
  submitted_stand = objects_stand (width_of s.log.sup) (held_or_last h xs) (seen_at s h) s.submitted
      (λ unit has. held_is_seen s h unit) objects held_stand

  -- each ticket has one end
  answered_once : IsAnsweredOnce h.log
  answered_once = subst (λ o. IfSome o (λ k. IsAnsweredOnce k.log)) known.units.told kept.always.device.once

  -- a unit of a page that isn't in memory is clean, so that no write of it ended badly
  pub unread_good : (unit : ℕ) → HasPage (width_of s.log.sup) s.submitted unit → memory_of s unit ≡ None → HasNoBadDone h.log unit
  unread_good unit has none = clean_good h.log unit answered_once (known.units.clean unit (page_on_data s d kept up unit has).0
      (given_of_all (λ (f : FreshUnit). ¬ (f.unit ≡ unit)) (uncommitted s) (none_of_bytes (all_fresh (uncommitted s)) unit none)))

  -- once nothing is under way so do the committed rows, over the bytes last written
  pub idle_objects : IsIdle s → ObjectsStand (width_of s.log.sup) (last_at h) s.log.rows objects
  idle_objects idle =
      let none : uncommitted s ≡ [] = idle_uncommitted s idle in
      subst (λ (rows : Rows). ObjectsStand (width_of s.log.sup) (last_at h) rows objects)
      ((kept.up up).rows.submitted ∙ ap (λ (ys : List Context). rows_by s.log.rows (intents ys)) none)
      (objects_stand (width_of s.log.sup) (seen_at s h) (last_at h) s.submitted
      (λ unit has. ap (λ (ys : List Context). unwrap_or (bytes_in (all_fresh ys) unit) (last_at h unit)) none) objects submitted_stand)
