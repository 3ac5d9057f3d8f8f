-- The old bytes over which a transaction is planned are those that units hold to which its pages map, in memory or as last written; and none
-- of these units is bad.
use Rattle.std.proofs.Common.{◌≡◌, ℕ, List, [], ◌∷◌, ◌++◌, map, Option, None, refl, sym, subst, ◌∙◌}
use Rattle.std.specs.List.{AllByRecursion}
use Rattle.unit_fields.specs.declared.width.Width.{Width}
use Rattle.block_device.specs.Prelude.{Disk, History}
use Rattle.object_model.specs.Prelude.{Objects, Change, replay, accepted}
use Rattle.meta_rows.specs.Prelude.{Rows}
use Rattle.meta_log.specs.Prelude.{width_of}
use Rattle.store_image.specs.Prelude.{PageUnit, HasPage}
use Rattle.read_facts.specs.Prelude.{IsHeldAt, IsFound, AreGoodUnits, IsFirstBadUnit}
use Rattle.read_facts.proofs.Units.{good_is_found}
use Rattle.read_facts.proofs.Seen.{found_is, unit_not_bad}
use Rattle.plan_rows.specs.declared.plan.ReadUnit.{ReadUnit}
use Rattle.plan_drafts.specs.Prelude.{places_of, AsksFor}
use Rattle.plan_drafts.proofs.Reading.{IsPageOf, asked_places, units_have_pages, plan_read}
use Rattle.store_steps.specs.Prelude.{State, intents, uncommitted, memory_of, MeetsBadUnit, AcceptsOne}
use Rattle.run_facts.specs.Prelude.{IsKept}
use Rattle.run_facts.proofs.Prelude.{all_right}
use Rattle.crash_facts.specs.HeldBytes.{held_or_last}
use Rattle.crash_facts.specs.Store.{KnownOfStore}
use Rattle.crash_facts.proofs.Standing.{HoldsOldBytes}
use Rattle.crash_facts.proofs.Submitted.{seen_at, held_is_seen, submitted_stand, unread_good}

-- a page stands on each unit whose old bytes a transaction asks for
pub asked_units : (w : Width) (change : Change) (rows : Rows) (need : ℕ) (places : List PageUnit) → AsksFor w change rows need places
    → AllByRecursion (HasPage w rows) (map (λ on. on.unit) places)
asked_units w change rows need places asks = units_have_pages w rows places (asked_places w change rows need places asks)

-- ---- what is read of them

-- what was read of good units is what they are found to hold
each_found : (memory : ℕ → Option (List ℕ)) (held : ℕ → List ℕ → Type 0) (places : List PageUnit) (read : List ReadUnit)
    → map (λ r. r.unit) read ≡ map (λ on. on.unit) places → AreGoodUnits memory held places (map (λ r. r.bytes) read)
    → AllByRecursion (λ r. IsFound memory held r.unit r.bytes) read
each_found memory held [] [] units good = tt
each_found memory held [] (r ∷ read) units good = absurd good
each_found memory held (on ∷ places) [] units good = absurd good
each_found memory held (on ∷ places) (r ∷ read) units good =
    let first : r.unit ≡ on.unit = cc in
    let rest : map (λ (q : ReadUnit). q.unit) read ≡ map (λ (p : PageUnit). p.unit) places = cc in (
      subst (λ (u : ℕ). IsFound memory held u r.bytes) (sym first) (good_is_found memory held on r.bytes good.0),
      each_found memory held places read rest good.1,
    )

module _ (base : ℕ) (opening : Objects) (s s' : State) (d : Disk) (h : History) (kept : IsKept s d) (up : s.down ≡ None)
    (known : KnownOfStore base opening s d h) where
  -- what a unit with a page gives is what it is to hold
  holds : (read : List ReadUnit) → AllByRecursion (λ r. HasPage (width_of s.log.sup) s.submitted r.unit) read
      → AllByRecursion (λ r. IsFound (memory_of s) (IsHeldAt d) r.unit r.bytes) read
      → AllByRecursion (λ r. held_or_last h (intents (uncommitted s)) r.unit ≡ r.bytes) read
  holds [] have found = tt
  holds (r ∷ read) have found = (
    held_is_seen s h r.unit ∙ sym (found_is (width_of s.log.sup) (memory_of s) d h known.units.told s.submitted
        (unread_good base opening s d h kept up known) (seen_at s h) (λ unit. refl) r.unit r.bytes have.0 found.0),
    holds read have.1 found.1,
  )

  -- so the old bytes over which an accepted transaction was planned are held
  pub old_bytes : (one : AcceptsOne s d s') → HoldsOldBytes s h one.accepts.plan
  old_bytes one = holds one.accepts.plan.read
      (plan_read (width_of s.log.sup) one.change s.submitted s.space s.next_sbid one.accepts.plan one.accepts.plans)
      (each_found (memory_of s) (IsHeldAt d) (places_of one.change.ops one.accepts.plans.start) one.accepts.plan.read one.accepts.plans.read.units one.accepts.read)

-- no unit whose old bytes are asked for is bad
pub meets_none : (base : ℕ) (opening : Objects) (s : State) (d : Disk) (h : History) → IsKept s d → s.down ≡ None → KnownOfStore base opening s d h
    → (change : Change) (unit sum found : ℕ) → MeetsBadUnit change s d unit sum found → ⊥
meets_none base opening s d h kept up known change unit sum found meets =
    let w : Width = width_of s.log.sup in
    let first : IsFirstBadUnit (memory_of s) (IsHeldAt d) meets.places unit sum found = meets.first_bad in
    let bad : PageUnit = record { unit = unit; csum = sum } in
    let asked : AllByRecursion (IsPageOf w s.submitted) (first.front ++ bad ∷ first.rest) =
    subst (AllByRecursion (IsPageOf w s.submitted)) first.is (asked_places w change s.submitted meets.need meets.places meets.asks) in
    let of : IsPageOf w s.submitted bad = (all_right (IsPageOf w s.submitted) first.front (bad ∷ first.rest) asked).0 in
    unit_not_bad w (memory_of s) d h known.units.told s.submitted (unread_good base opening s d h kept up known) (seen_at s h) (λ unit. refl)
    (replay opening (accepted s.book.entries)) (submitted_stand base opening s d h kept up known) of.coll of.object of.size of.page unit sum found
    of.there of.is_on first.bad
