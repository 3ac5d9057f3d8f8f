-- The first units are cleared, and then the slot is written: an empty store.
use Rattle.std.proofs.Common.{◌≡◌, inl, inr, ℕ, zero, suc, ◌+◌, ◌*◌, ◌<◌, ◌≤◌, true, List, [], length}
use Rattle.std.proofs.Common.{get_or, drop, Option, Some, None, refl, sym, ap, subst, ◌∙◌, arith}
use Rattle.std.specs.Prelude.{Contains, IfSome}
use Rattle.std.specs.FinMap as map
use Rattle.std.proofs.lemmas.List.{get_or-take, get_or-replicate}
use Rattle.byte_maps.specs.Units.{unit_at, IsUnits, zeros}
use Rattle.byte_maps.proofs.Prelude.{unit_at-laid_inside, unit_at-whole, unit_at-units_from}
use Rattle.block_device.specs.Prelude.{last, IsClean, Disk, History, IsQuiet, IsSound, last_at}
use Rattle.block_device.specs.declared.event.Event.TheVariants.{Write, Flush}
use Rattle.block_device.proofs.LogLemmas.{unit_at-after_event}
use Rattle.meta_rows.specs.declared.row_op.RowOp.{RowOp}
use Rattle.meta_log.specs.declared.slot.Super.{Super}
use Rattle.meta_log.specs.Prelude.{BeginsWithRecord, active_half, AreRowsOf, super_bytes, IsSuper, IsValidSlot, IsActiveSlot, active_unit, width_of}
use Rattle.meta_log.proofs.SlotLemmas.{same_super, length-super_bytes}
use Rattle.store_image.proofs.Prelude.{equal_or_not}
use Rattle.row_facts.proofs.NoRows.{none_good, none_stand, none_exact}
use Rattle.log_replay.specs.Prelude.{after_call, with_call, Called, Told, IsZero, WasZeroed, AreStale, new_super, units_needed, IsAllClean, WasCleared, WasMade, IsEmptyStore, HoldsEmptyStore}
use Rattle.log_replay.proofs.ZeroLemmas.{last-call, done_call, told_call}
use Rattle.log_replay.proofs.CleanLemmas.{clean_after_flush, done_where_clean, last_at-flush}

-- ---- what is told, step by step

pub told_join : (P Q R : History → History → Type 0) (a b c : Option History) → ((h k m : History) → a ≡ Some h → b ≡ Some k → c ≡ Some m → P h k → Q k m → R h m) → Told P a b → Told Q b c → Told R a c
told_join P Q R None None None step p q = tt
told_join P Q R None None (Some m) step p q = q
told_join P Q R None (Some k) c step p q = absurd p
told_join P Q R (Some h) None c step p q = absurd p
told_join P Q R (Some h) (Some k) None step p q = q
told_join P Q R (Some h) (Some k) (Some m) step p q = step h k m refl refl refl p q

pub told_if : (R : History → History → Type 0) (P X : History → Type 0) (a c : Option History) → ((h m : History) → c ≡ Some m → R h m → P h → X m) → Told R a c → IfSome a P → IfSome c X
told_if R P X None None step r p = tt
told_if R P X None (Some m) step r p = absurd r
told_if R P X (Some h) None step r p = absurd r
told_if R P X (Some h) (Some m) step r p = step h m refl r p

if_some : (P : History → Type 0) (o : Option History) (h : History) → o ≡ Some h → IfSome o P → P h
if_some P o h is p = subst (λ (x : Option History). IfSome x P) is p

-- ---- the first units are cleared

was_cleared : (below : ℕ) (stale : List ℕ) (h k : History) → (IsAllClean h → (unit : ℕ) → unit < below → ¬ Contains stale unit → IsZero h unit) → WasZeroed stale h k → WasCleared below h (after_call Flush true k)
was_cleared below stale h k others was = record {
  clean = λ clean. clean_after_flush k (was.done (done_where_clean h clean));
  zero = λ clean unit lt. last_at-flush k unit ∙ elim (equal_or_not (last_at k unit) (zeros 4096)) [
    | inl is ↦ is
    | inr other ↦ let out = λ (here : Contains stale unit). other (was.zero unit here) in absurd (other (was.others unit out ∙ others clean unit lt out))
  ];
}

pub cleared : (below : ℕ) (stale : List ℕ) (d d1 d2 : Disk) → AreStale below d stale → Told (WasZeroed stale) d.history d1.history → Called d1 Flush true d2 → Told (WasCleared below) d.history d2.history
cleared below stale d d1 d2 are was called =
    subst (λ (x : Disk). Told (WasCleared below) d.history x.history) (sym called) (told_call (WasZeroed stale) (WasCleared below) Flush d.history d1.history
    (λ h k is_h is_k zeroed. was_cleared below stale h k (if_some _ d.history h is_h are.others) zeroed) was)

-- ---- the slot is written

module _ (units half prefer : ℕ) (bytes : List ℕ) (is : bytes ≡ super_bytes (new_super units half prefer)) where
  size : length bytes ≡ 4096
  size = ap length is ∙ length-super_bytes (new_super units half prefer)

  was_made : (h : History) → 4096 ≤ length (last h.start h.log) → WasMade units half prefer h (after_call Flush true (after_call (Write 0 bytes) true h))
  was_made h fits =
      let written = after_call (Write 0 bytes) true h in
      let inside : 4096 * 0 + length bytes ≤ length (last h.start h.log) = omega (arith, size, fits) in
      record {
        clean = λ clean. clean_after_flush written (done_call (Write 0 bytes) h (done_where_clean h clean));
        slot = last_at-flush written 0 ∙ ap (unit_at 0) (last-call (Write 0 bytes) h) ∙ unit_at-laid_inside 0 0 0 bytes (last h.start h.log) inside (omega arith) (omega (arith, size)) ∙ unit_at-whole bytes size ∙ is;
        others = λ unit above. last_at-flush written unit ∙ ap (unit_at unit) (last-call (Write 0 bytes) h)
            ∙ unit_at-after_event unit (Write 0 bytes) (last h.start h.log) inside (λ covers. omega (arith, covers.1, size, above));
      }

  pub made : (d d1 d2 : Disk) → 0 < d.units → IfSome d.history (λ h. IsUnits d.units (last h.start h.log)) → Called d (Write 0 bytes) true d1 → Called d1 Flush true d2 → Told (WasMade units half prefer) d.history d2.history
  made d d1 d2 some fits first second =
      let history : d2.history ≡ with_call Flush true (with_call (Write 0 bytes) true d.history) = ap (λ (x : Disk). x.history) second ∙ ap (λ (x : Disk). with_call Flush true x.history) first in
      subst (λ o. Told (WasMade units half prefer) d.history o) (sym history) (step d.units some d.history fits)
    where
      step : (n : ℕ) → 0 < n → (o : Option History) → IfSome o (λ h. IsUnits n (last h.start h.log)) → Told (WasMade units half prefer) o (with_call Flush true (with_call (Write 0 bytes) true o))
      step n p None f = tt
      step n p (Some h) f = was_made h (omega (arith, p, f))

-- ---- these contents are an empty store

head_of_unit : (xs : List ℕ) → get_or (unit_at 0 xs) 0 0 ≡ get_or xs 0 0
unfolding unit_at
head_of_unit xs = get_or-take 4096 (drop (4096 * 0) xs) 0 0 (omega arith)

head_of_zeros : get_or (zeros 4096) 0 0 ≡ 0
unfolding zeros
head_of_zeros = get_or-replicate 4096 0 0 0 (omega arith)

-- zeros are no slot, and begin no record
pub zeros_no_slot : (s : Super) → zeros 4096 ≡ super_bytes s → ⊥
zeros_no_slot s e = let never = sym head_of_zeros ∙ ap (λ l. get_or l 0 0) e in omega (arith, never)

pub zeros_no_record : (bytes : List ℕ) (number : ℕ) (ops : List RowOp) (rest : List ℕ) → unit_at 0 bytes ≡ zeros 4096 → BeginsWithRecord bytes number ops rest → ⊥
zeros_no_record bytes number ops rest unit begins =
    let never = sym head_of_zeros ∙ ap (λ l. get_or l 0 0) (sym unit) ∙ head_of_unit bytes ∙ ap (λ l. get_or l 0 0) begins.spelled in omega (arith, never)

module _ (units half prefer : ℕ) (contents : List ℕ) (limits : IsSuper (new_super units half prefer)) (whole : IsUnits units contents)
    (slot : unit_at 0 contents ≡ super_bytes (new_super units half prefer)) (rest : (unit : ℕ) → 0 < unit → unit < half + 2 → unit_at unit contents ≡ zeros 4096) where
  s : Super
  s = new_super units half prefer

  active : IsActiveSlot contents (new_super units half prefer)
  active = record {
    here = record { holds = record { spelled = slot; limits = limits; own_epoch = refl }; same_size = whole };
    greatest = λ at other below valid. none_greater at other below valid;
  }
    where
      none_greater : (at : ℕ) (other : Super) → at < 2 → IsValidSlot contents at other → other.epoch ≤ 0
      none_greater zero other below valid =
          let same : other ≡ new_super units half prefer = same_super other (new_super units half prefer) valid.holds.limits limits (sym valid.holds.spelled ∙ slot) in
          omega (arith, ap (λ (x : Super). x.epoch) same)
      none_greater (suc zero) other below valid = absurd (zeros_no_slot other (sym (rest 1 (omega arith) (omega arith)) ∙ valid.holds.spelled))
      none_greater (suc (suc n)) other below valid = omega (arith, below)

  first_unit : unit_at 0 (active_half contents (new_super units half prefer)) ≡ zeros 4096
  first_unit =
      unit_at-units_from (active_unit (new_super units half prefer)) half 0 contents (omega (arith, limits.half_least))
      ∙ ap (λ n. unit_at n contents) (omega arith)
      ∙ rest 2 (omega arith) (omega (arith, limits.half_least))

  read : AreRowsOf contents (new_super units half prefer) map.empty
  read = record { records = []; stand = λ ops rest begins. zeros_no_record _ _ ops rest first_unit begins; made = refl }

  pub empty_store : IsEmptyStore units half prefer contents
  empty_store = record {
    slot = active;
    empty = λ unit from below. rest unit (omega (arith, from)) (omega (arith, below));
    stands = record {
      super = new_super units half prefer;
      active = active;
      rows = map.empty;
      read = read;
      good = none_good (new_super units half prefer);
      stand = none_stand (width_of (new_super units half prefer)) _;
    };
    exact = record {
      super = new_super units half prefer;
      active = active;
      rows = map.empty;
      read = read;
      exact =
          none_exact (width_of (new_super units half prefer));
    };
  }

-- ---- both steps

pub record WasLaidOut (units half prefer : ℕ) (old new : History) : Type 0 where
  pub clean : IsAllClean old → IsAllClean new
  pub slot : last_at new 0 ≡ super_bytes (new_super units half prefer)
  pub zero : IsAllClean old → (unit : ℕ) → 0 < unit → unit < half + 2 → IsZero new unit

laid_out : (units half prefer : ℕ) (h k m : History) → WasCleared (half + 2) h k → WasMade units half prefer k m → WasLaidOut units half prefer h m
laid_out units half prefer h k m was then_made = record {
  clean = λ clean. then_made.clean (was.clean clean);
  slot = then_made.slot;
  zero = λ clean unit above below. then_made.others unit above ∙ was.zero clean unit below;
}

pub holds_empty_store : (half prefer units : ℕ) (d d1 d2 : Disk) → 8 ≤ half → half ≤ 65536 → prefer ≤ 1048576 → units_needed half ≤ units → units ≡ d2.units → d2.flights ≡ [] → IsSound d2
    → Told (WasCleared (half + 2)) d.history d1.history → Told (WasMade units half prefer) d1.history d2.history → IsQuiet d → HoldsEmptyStore half prefer d2
holds_empty_store half prefer units d d1 d2 least most prefer_most room same idle sound first second quiet =
    let both = told_join (WasCleared (half + 2)) (WasMade units half prefer) (WasLaidOut units half prefer) d.history d1.history d2.history (λ h k m is_h is_k is_m p q. laid_out units half prefer h k m p q) first second in
    let limits : IsSuper (new_super units half prefer) = record {
      units_most = omega (arith, sound.units, same);
      half_least = least;
      half_most = most;
      room = room;
      prefer_most = prefer_most;
      epoch_below = omega arith;
      first_below = omega arith;
    } in
    record {
      quiet = record { idle = idle; clean = told_if (WasLaidOut units half prefer) (λ h. (k : ℕ) → IsClean h.log k) (λ h. (k : ℕ) → IsClean h.log k) d.history d2.history (λ h m is_m was clean. was.clean clean) both quiet.clean };
      store = told_if (WasLaidOut units half prefer) (λ h. (k : ℕ) → IsClean h.log k) (λ h. IsEmptyStore d2.units half prefer (last h.start h.log)) d.history d2.history (λ h m is_m was clean.
          subst (λ n. IsEmptyStore n half prefer (last m.start m.log)) same (empty_store units half prefer (last m.start m.log) limits
          (subst (λ n. IsUnits n (last m.start m.log)) (sym same) (if_some _ d2.history m is_m sound.size_now)) was.slot (λ unit above below. was.zero clean unit above below))) both quiet.clean;
    }
