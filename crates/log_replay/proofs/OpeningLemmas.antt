-- What reads of the slots and of the active half say of the contents.
use Rattle.std.proofs.Common.{◌≡◌, inl, inr, ℕ, zero, suc, ◌+◌, ◌*◌, ◌<◌, ◌≤◌, List, Option, None, Some, sym, ap, subst, ◌∙◌, arith}
use Rattle.std.specs.Prelude.{IfSome, MatchOption}
use Rattle.std.proofs.lemmas.Bool.{cases_lt, lt-ltb, le-ltb}
use Rattle.byte_maps.specs.Units.{unit_at, IsUnits}
use Rattle.byte_maps.proofs.Prelude.{unit_at-whole}
use Rattle.block_device.specs.Prelude.{last, HasNoBadDone, IsAnsweredOnce, Disk, History, HasRead, IsSound}
use Rattle.block_device.proofs.ReadLemmas.{clean_good}
use Rattle.meta_log.specs.declared.slot.Super.{Super}
use Rattle.meta_log.proofs.SlotLemmas.{same_slot}
use Rattle.meta_log.specs.Prelude.{IsSlotOf, IsValidSlot, IsActiveSlot}
use Rattle.log_replay.specs.Prelude.{IsAllClean, IsAbout, HasNoSuper, newer_of, HasPiece}

-- P of what was last written, where that is told and no unit is dirty
abbrev AboutTold : Option History → (List ℕ → Type 0) → Type 0
AboutTold o P = IfSome o (λ h. IsAllClean h → P (last h.start h.log))

-- ---- units that were read where nothing is dirty

units_read : (o : Option History) (at count : ℕ) (bytes : List ℕ) (P : List ℕ → Type 0) → IfSome o (λ h. IsAnsweredOnce h.log)
    → IfSome o (λ h. (k : ℕ) → k < count → HasNoBadDone h.log (at + k) → unit_at k bytes ≡ unit_at (at + k) (last h.start h.log))
    → ((contents : List ℕ) → HasPiece at count bytes contents → P contents) → AboutTold o P
units_read None at count bytes P once read then = tt
units_read (Some h) at count bytes P once read then = λ clean. then (last h.start h.log)
    (λ k lt. sym (read k lt (clean_good h.log (at + k) once (clean (at + k)))))

pub seen : (d : Disk) (at count : ℕ) (bytes : List ℕ) (P : List ℕ → Type 0) → IsSound d → HasRead d at count bytes
    → ((contents : List ℕ) → HasPiece at count bytes contents → P contents) → IsAbout d P
seen d at count bytes P sound read then = units_read d.history at count bytes P sound.once read.units then

-- the contents have the device's size
sized : (o : Option History) (units : ℕ) (P : List ℕ → Type 0) → IfSome o (λ h. IsUnits units (last h.start h.log))
    → AboutTold o (λ contents. IsUnits units contents → P contents) → AboutTold o P
sized None units P size p = tt
sized (Some h) units P size p = λ clean. p clean size

pub with_size : (d : Disk) (P : List ℕ → Type 0) → IsSound d → IsAbout d (λ contents. IsUnits d.units contents → P contents) → IsAbout d P
with_size d P sound p = sized d.history d.units P sound.size_now p

-- two facts of the contents make a third
both : (o : Option History) (P Q R : List ℕ → Type 0) → ((contents : List ℕ) → P contents → Q contents → R contents)
    → AboutTold o P → AboutTold o Q → AboutTold o R
both None P Q R join p q = tt
both (Some h) P Q R join p q = λ clean. join (last h.start h.log) (p clean) (q clean)

pub about_both : (d : Disk) (P Q R : List ℕ → Type 0) → ((contents : List ℕ) → P contents → Q contents → R contents)
    → IsAbout d P → IsAbout d Q → IsAbout d R
about_both d P Q R join p q = both d.history P Q R join p q

any_about : (o : Option History) (P : List ℕ → Type 0) → ((contents : List ℕ) → P contents) → AboutTold o P
any_about None P p = tt
any_about (Some h) P p = λ clean. p (last h.start h.log)

pub about_all : (d : Disk) (P : List ℕ → Type 0) → ((contents : List ℕ) → P contents) → IsAbout d P
about_all d P p = any_about d.history P p

pub about_more : (d : Disk) (P Q : List ℕ → Type 0) → ((contents : List ℕ) → P contents → Q contents) → IsAbout d P → IsAbout d Q
about_more d P Q more p = about_both d P P Q (λ contents a b. more contents a) p p

-- ---- one slot

-- what the bytes of a slot say, on a device of so many units
abbrev pub Says : ℕ → ℕ → List ℕ → Option Super → Type 0
Says units slot bytes found = MatchOption found ((s : Super) → IsSlotOf slot bytes s → ¬ (s.units ≡ units)) (λ s. IsSlotOf slot bytes s × (s.units ≡ units))

abbrev pub Shows : ℕ → Option Super → List ℕ → Type 0
Shows slot found contents = MatchOption found ((s : Super) → ¬ IsValidSlot contents slot s) (IsValidSlot contents slot)

shows : (units slot : ℕ) (bytes contents : List ℕ) (found : Option Super) → IsUnits units contents → unit_at slot contents ≡ bytes
    → Says units slot bytes found → Shows slot found contents
shows units slot bytes contents None size is says = λ s valid.
    says s (subst (λ unit. IsSlotOf slot unit s) is valid.holds) (omega (arith, size, valid.same_size))
shows units slot bytes contents (Some s) size is says = record {
  holds = subst (λ unit. IsSlotOf slot unit s) (sym is) says.0;
  same_size = size ∙ ap (λ n. 4096 * n) (sym says.1);
}

-- a unit that was read is the unit of the contents
one_unit : (slot : ℕ) (bytes contents : List ℕ) → IsUnits 1 bytes → HasPiece slot 1 bytes contents → unit_at slot contents ≡ bytes
one_unit slot bytes contents size same =
    ap (λ (n : ℕ). unit_at n contents) (omega arith) ∙ same 0 (omega arith) ∙ unit_at-whole bytes (omega (arith, size))

pub slot_seen : (d : Disk) (slot : ℕ) (bytes : List ℕ) (found : Option Super) → IsSound d → HasRead d slot 1 bytes
    → Says d.units slot bytes found → IsAbout d (Shows slot found)
slot_seen d slot bytes found sound read says = with_size d (Shows slot found) sound
    (seen d slot 1 bytes (λ contents. IsUnits d.units contents → Shows slot found contents) sound read
    (λ contents same size. shows d.units slot bytes contents found size (one_unit slot bytes contents read.size same) says))

-- ---- both slots

two_slots : (P : ℕ → Type 0) → P 0 → P 1 → (at : ℕ) → at < 2 → P at
two_slots P a b zero lt = a
two_slots P a b (suc zero) lt = b
two_slots P a b (suc (suc n)) lt = absurd (omega (arith, lt))

-- a valid slot is active where the other one is invalid or not above it
module _ (contents : List ℕ) where
  -- the epoch of what slot number `at` holds, if it is valid, is at most this one
  abbrev IsNotAbove : ℕ → ℕ → Type 0
  IsNotAbove epoch at = (other : Super) → IsValidSlot contents at other → other.epoch ≤ epoch

  active_here : (at : ℕ) (s : Super) → IsValidSlot contents at s → IsNotAbove s.epoch 0 → IsNotAbove s.epoch 1 → IsActiveSlot contents s
  active_here at s valid zero_below one_below = record {
    here = subst (λ k. IsValidSlot contents k s) (sym valid.holds.own_epoch) valid;
    greatest = λ k other lt. two_slots (IsNotAbove s.epoch) zero_below one_below k lt other;
  }

  itself : (at : ℕ) (s : Super) → IsValidSlot contents at s → IsNotAbove s.epoch at
  itself at s valid other also = rw (same_slot contents at other s also valid) (omega arith)

  below : (at epoch : ℕ) (s : Super) → IsValidSlot contents at s → s.epoch ≤ epoch → IsNotAbove epoch at
  below at epoch s valid le other also = let same : other.epoch ≤ s.epoch = itself at s valid other also in omega (arith, same, le)

  pub newest : (first second : Option Super) → Shows 0 first contents → Shows 1 second contents
      → MatchOption (newer_of first second) (HasNoSuper contents) (IsActiveSlot contents)
  newest None None a b = λ at s lt. two_slots (λ k. ¬ IsValidSlot contents k s) (a s) (b s) at lt
  newest None (Some t) a b = active_here 1 t b (λ other v. absurd (a other v)) (itself 1 t b)
  newest (Some s) None a b = active_here 0 s a (itself 0 s a) (λ other v. absurd (b other v))
  newest (Some s) (Some t) a b = elim (cases_lt s.epoch t.epoch) [
    | inl lt ↦ rw (lt-ltb s.epoch t.epoch lt) (active_here 1 t b (below 0 t.epoch s a (omega (arith, lt))) (itself 1 t b))
    | inr ge ↦ rw (le-ltb s.epoch t.epoch ge) (active_here 0 s a (itself 0 s a) (below 1 s.epoch t b ge))
  ]

pub newest_of : (P : Super → Type 0) (first second : Option Super) → IfSome first P → IfSome second P → IfSome (newer_of first second) P
newest_of P None second a b = b
newest_of P (Some s) None a b = a
newest_of P (Some s) (Some t) a b = elim (cases_lt s.epoch t.epoch) [
  | inl lt ↦ rw (lt-ltb s.epoch t.epoch lt) b
  | inr ge ↦ rw (le-ltb s.epoch t.epoch ge) a
]
