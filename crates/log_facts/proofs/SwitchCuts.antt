-- What a crash leaves while the superblock that follows is written.
use Rattle.std.proofs.Common.{◌≡◌, ◌≢◌, ◌⊎◌, inl, inr, ℕ, ◌-◌, ◌*◌, ◌%◌, ◌≤◌, List, length, take, None, refl, sym, ap, subst, ◌∙◌, arith}
use Rattle.byte_maps.specs.Units.{unit_at, IsUnits}
use Rattle.block_device.specs.Prelude.{last, IsCrashImage, History}
use Rattle.block_device.proofs.LogLemmas.{surely_image}
use Rattle.object_model.specs.Prelude.{Objects, replay, committed, HasAcked}
use Rattle.object_model.specs.declared.book.Book.{Book}
use Rattle.meta_rows.specs.declared.row_op.RowOp.{RowOp}
use Rattle.meta_rows.specs.Prelude.{Rows}
use Rattle.meta_log.specs.declared.slot.Super.{Super}
use Rattle.meta_log.specs.Prelude.{super_bytes, IsValidSlot, IsActiveSlot, width_of, other_slot, next_super}
use Rattle.meta_log.proofs.SlotLemmas.{same_super}
use Rattle.store_image.specs.Prelude.{NoBadRow, IsExactBut, IsLeakedIn, NoChanceMatch, LeavesPrefix}
use Rattle.store_image.proofs.Prelude.{equal_or_not, none_bad_too}
use Rattle.log_facts.specs.Prelude.{FlushState, IsOlderSlot, ActiveHalfStands, SoundFor, NextSlotStands, LeavesEither}
use Rattle.log_facts.proofs.Reading.{slots_read}
use Rattle.log_facts.proofs.Crashes.{half_left}
use Rattle.log_facts.proofs.Cuts.{sound_image, exact_image}
use Rattle.log_facts.proofs.Switching.{older_than_next}

-- ---- the slots of an image: the one in use is as it was, and the other is as it was submitted, or it is none that is as new

module _ (h : History) (s : Super) (number : ℕ) (flush : FlushState) (image : List ℕ) (whole : IsUnits s.units h.start)
    (stands : NextSlotStands h s number flush) (is : IsCrashImage h.start h.log image) (chance : NoChanceMatch h.start h.log image) where
  image_units : IsUnits s.units image
  image_units = is.size ∙ whole

  in_use : unit_at (s.epoch % 2) image ≡ super_bytes s
  in_use = surely_image h (s.epoch % 2) (λ unit. unit ≡ super_bytes s) image stands.active is

  still_older : unit_at (other_slot s) image ≢ super_bytes (next_super s number) → IsOlderSlot s (unit_at (other_slot s) image)
  still_older differs other holds same_units =
      let valid : IsValidSlot image (other_slot s) other = record { holds = holds; same_size = image_units ∙ ap (λ n. 4096 * n) (sym same_units) } in
      elim (chance.slots (other_slot s) other (omega arith) valid) [
        | inl outranked ↦
            let first : Super = outranked.0 in
            let there : 1 - other_slot s ≡ s.epoch % 2 = omega arith in
            let it : first ≡ s = same_super first s outranked.1.holds.limits stands.limits
            (sym outranked.1.holds.spelled ∙ ap (λ n. unit_at n image) there ∙ in_use) in
            omega (arith, ap (λ (t : Super). t.epoch) it, outranked.2, holds.own_epoch)
        | inr written ↦ absurd (differs (written ∙ stands.written))
      ]

  pub slots_either : IsActiveSlot image s ⊎ IsActiveSlot image (next_super s number)
  slots_either =
      let t = next_super s number in
      let here : other_slot s ≡ t.epoch % 2 = omega arith in
      let back : s.epoch % 2 ≡ other_slot t = omega arith in
      elim (equal_or_not (unit_at (other_slot s) image) (super_bytes t)) [
        | inl new ↦ inr (slots_read image t stands.next_limits image_units
            (subst (λ n. unit_at n image ≡ super_bytes t) here new)
            (subst (λ n. IsOlderSlot t (unit_at n image)) back (older_than_next s number (unit_at (s.epoch % 2) image) stands.limits in_use)))
        | inr old ↦ inl (slots_read image s stands.limits image_units in_use (still_older old))
      ]

-- ---- and with it the rows

module _ (h : History) (s : Super) (number : ℕ) (flush : FlushState) (rows : Rows) (tail next tail' next' : ℕ) (recs recs' : List (List RowOp))
    (from from' : ℕ) (second second' : FlushState)
    (whole : IsUnits s.units h.start) (stands : NextSlotStands h s number flush)
    (half : ActiveHalfStands h s rows tail next None from second recs)
    (half' : ActiveHalfStands h (next_super s number) rows tail' next' None from' second' recs') where
  pub leaves_either : (image : List ℕ) → IsCrashImage h.start h.log image → NoChanceMatch h.start h.log image → LeavesEither image s number rows
  leaves_either image is chance = elim (slots_either h s number flush image whole stands is chance) [
    | inl old ↦ inl (old, half_left h s rows tail next from second recs image stands.limits whole is half)
    | inr new ↦ inr (new, half_left h (next_super s number) rows tail' next' from' second' recs' image stands.next_limits whole is half')
  ]

-- ---- goodness doesn't ask for the epoch

pub good_next : (s : Super) (number : ℕ) (rows : Rows) → NoBadRow s rows → NoBadRow (next_super s number) rows
good_next s number rows good = none_bad_too s (next_super s number) refl refl rows good

pub sound_next : (h : History) (s : Super) (number : ℕ) (rows : Rows) (objects : Objects) → SoundFor h s rows objects
    → SoundFor h (next_super s number) rows objects
sound_next h s number rows objects sound = record { good = good_next s number rows sound.good; stand = sound.stand; clean = sound.clean }

-- ---- the cut

pub switch_cut : (h : History) (s : Super) (number : ℕ) (flush : FlushState) (rows : Rows) (tail next tail' next' : ℕ) (recs recs' : List (List RowOp))
    (from from' : ℕ) (second second' : FlushState) (base : ℕ) (objects : Objects) (book : Book) (count : ℕ)
    → IsUnits s.units h.start → NextSlotStands h s number flush
    → ActiveHalfStands h s rows tail next None from second recs
    → ActiveHalfStands h (next_super s number) rows tail' next' None from' second' recs'
    → count ≤ length book.commits → HasAcked base (length h.log) book.commits count
    → SoundFor h s rows (replay objects (committed book.entries (take count book.commits)))
    → IsExactBut (width_of s) (IsLeakedIn (last h.start (take base h.log))) rows
    → LeavesPrefix base h.start objects book h.log
switch_cut h s number flush rows tail next tail' next' recs recs' from from' second second' base objects book count whole stands half half' within acked
    sound exact image is chance =
    let before : List ℕ = last h.start (take base h.log) in
    let after : Objects = replay objects (committed book.entries (take count book.commits)) in
    let t = next_super s number in
    elim (leaves_either h s number flush rows tail next tail' next' recs recs' from from' second second' whole stands half half' image is chance) [
      | inl old ↦ record {
        count = count;
        within = within;
        has_acked = acked;
        stands = sound_image h s rows after image sound is old.0 old.1;
        exact = exact_image before image s rows old.0 old.1 exact;
      }
      | inr new ↦ record {
        count = count;
        within = within;
        has_acked = acked;
        stands = sound_image h t rows after image (sound_next h s number rows after sound) is new.0 new.1;
        exact = exact_image before image t rows new.0 new.1 exact;
      }
    ]
