-- Units that are looked at, and those that are found to be zero.
use Rattle.std.proofs.Common.{◌≡◌, inl, inr, ℕ, zero, suc, ◌+◌, ◌-◌, ◌<◌, ◌≤◌, List, [], ◌∷◌, ◌++◌, length, get_or, Option, None, Some, refl, sym, ap, subst, ◌∙◌, arith}
use Rattle.std.specs.Prelude.{◌⊎◌, ◌≢◌, Contains, All, IfSome, replicate}
use Rattle.std.proofs.lemmas.Bool.{cases_lt}
use Rattle.std.proofs.lemmas.List.{get_or-replicate, ext_get_or, get_or_append_left, get_or-append-add, length-append}
use Rattle.std.proofs.lemmas.List.Elements.{All-get_or, All-replicate, All-push, All-weaker, All-from_recursion, Contains-append_left, Contains-append_cases, Contains-push}
use Rattle.byte_maps.specs.Units.{unit_at, zeros, IsUnits}
use Rattle.byte_maps.proofs.Prelude.{length-zeros, unit_at-append_front, unit_at-append_back}
use Rattle.block_device.specs.Prelude.{last, IsClean, Disk, History, HasRead, IsSound}
use Rattle.log_replay.specs.Prelude.{IsAllClean, IsZero, AreStale, UnitsAscend, IsNotZero, AddsStale, AreNotZero, HasPiece, AreUnitsFrom, bytes_not_passed, IsReader, AddsUnits, HasStale}
use Rattle.log_replay.specs.declared.half_reader.HalfReader.{HalfReader}
use Rattle.log_replay.proofs.HalfLemmas.{no_units, units_read, between_join}

pub zeros-from_all : (n : ℕ) (xs : List ℕ) → length xs ≡ n → All (λ b. b ≡ 0) xs → xs ≡ zeros n
unfolding zeros
zeros-from_all n xs size all = ext_get_or 0 xs (replicate n 0) (size ∙ sym (length-zeros n)) (λ i lt. All-get_or (λ b. b ≡ 0) xs i 0 lt all ∙ sym (get_or-replicate n i 0 0 (omega (arith, lt, size))))

pub all_of_zeros : (n : ℕ) (xs : List ℕ) → xs ≡ zeros n → All (λ b. b ≡ 0) xs
unfolding zeros
all_of_zeros n xs is = subst (All (λ b. b ≡ 0)) (sym is) (All-replicate (λ b. b ≡ 0) n 0 refl)

-- ---- the units of one piece

-- a unit behind those that ascend
ascend-push : (xs : List ℕ) (x : ℕ) → All (λ y. y < x) xs → UnitsAscend xs → UnitsAscend (xs ++ x ∷ [])
ascend-push xs x below ascend i j before within =
    let size : length (xs ++ x ∷ []) ≡ length xs + 1 = length-append xs (x ∷ []) in
    let lower : get_or (xs ++ x ∷ []) i 0 ≡ get_or xs i 0 = get_or_append_left xs (x ∷ []) 0 i (omega (arith, before, within, size)) in
    elim (cases_lt j (length xs)) [
      | inl inside ↦
          let upper : get_or (xs ++ x ∷ []) j 0 ≡ get_or xs j 0 = get_or_append_left xs (x ∷ []) 0 j inside in
          omega (arith, ascend i j before inside, lower, upper)
      | inr end ↦
          let is : j ≡ length xs + 0 = omega (arith, end, within, size) in
          let upper : get_or (xs ++ x ∷ []) j 0 ≡ x = ap (λ n. get_or (xs ++ x ∷ []) n 0) is ∙ get_or-append-add xs (x ∷ []) 0 0 in
          omega (arith, All-get_or (λ y. y < x) xs i 0 (omega (arith, before, is)) below, lower, upper)
    ]

pub record AddedSoFar (at done : ℕ) (bytes old new : List ℕ) : Type 0 where
  pub within : All (λ unit. unit < at + done) new
  pub keeps : (unit : ℕ) → Contains old unit → Contains new unit
  pub adds : (k : ℕ) → k < done → ¬ Contains new (at + k) → unit_at k bytes ≡ zeros 4096
  pub only : (unit : ℕ) → Contains new unit → Contains old unit ⊎ IsNotZero at done bytes unit
  pub ascend : UnitsAscend old → UnitsAscend new
  pub many : length new ≤ length old + done

all_more : (n m : ℕ) (xs : List ℕ) → n ≤ m → All (λ unit. unit < n) xs → All (λ unit. unit < m) xs
all_more n m xs le all = All-weaker (λ unit. unit < n) (λ unit. unit < m) (λ unit lt. omega (arith, lt, le)) xs all

not_zero_more : (at done : ℕ) (bytes : List ℕ) (unit : ℕ) → IsNotZero at done bytes unit → IsNotZero at (done + 1) bytes unit
not_zero_more at done bytes unit is = record { from = is.from; to = omega (arith, is.to); holds = is.holds }

-- a unit is zero, and is left out
pub added_zero : (at done : ℕ) (bytes old new : List ℕ) → unit_at done bytes ≡ zeros 4096 → AddedSoFar at done bytes old new → AddedSoFar at (done + 1) bytes old new
added_zero at done bytes old new is_zero so_far = record {
  within = all_more (at + done) (at + (done + 1)) new (omega arith) so_far.within;
  keeps = so_far.keeps;
  adds = λ k lt not. elim (cases_lt k done) [
    | inl below ↦ so_far.adds k below not
    | inr here ↦ let is : done ≡ k = omega (arith, lt, here) in subst (λ n. unit_at n bytes ≡ zeros 4096) is is_zero
  ];
  only = λ unit here. elim (so_far.only unit here) [
    | inl older ↦ inl older
    | inr new_one ↦ inr (not_zero_more at done bytes unit new_one)
  ];
  ascend = so_far.ascend;
  many = omega (arith, so_far.many);
}

-- a unit is added
pub added_stale : (at done : ℕ) (bytes old new more : List ℕ) → more ≡ new ++ (at + done) ∷ [] → unit_at done bytes ≢ zeros 4096
    → AddedSoFar at done bytes old new → AddedSoFar at (done + 1) bytes old more
added_stale at done bytes old new more is other so_far = subst (AddedSoFar at (done + 1) bytes old) (sym is) (record {
  within = All-push (λ unit. unit < at + (done + 1)) new (at + done) (all_more (at + done) (at + (done + 1)) new (omega arith) so_far.within) (omega arith);
  keeps = λ unit here. Contains-append_left new ((at + done) ∷ []) unit (so_far.keeps unit here);
  adds = λ k lt not. elim (cases_lt k done) [
    | inl below ↦ so_far.adds k below (λ here. not (Contains-append_left new ((at + done) ∷ []) (at + k) here))
    | inr here ↦ let is_k : done ≡ k = omega (arith, lt, here) in absurd (not (subst (λ n. Contains (new ++ (at + done) ∷ []) (at + n)) is_k (Contains-push new (at + done))))
  ];
  only = λ unit here. elim (Contains-append_cases new ((at + done) ∷ []) unit here) [
    | inl before ↦ elim (so_far.only unit before) [
      | inl older ↦ inl older
      | inr new_one ↦ inr (not_zero_more at done bytes unit new_one)
    ]
    | inr now ↦ inr (here_is unit (only_one (at + done) unit now))
  ];
  ascend = λ ascend. ascend-push new (at + done) so_far.within (so_far.ascend ascend);
  many = omega (arith, so_far.many, length-append new ((at + done) ∷ []));
})
  where
    only_one : (x unit : ℕ) → Contains (x ∷ []) unit → unit ≡ x
    only_one x unit (zero, inside, is_x) = sym is_x
    only_one x unit (suc i, inside, is_x) = absurd (omega (arith, inside))

    here_is : (unit : ℕ) → unit ≡ at + done → IsNotZero at (done + 1) bytes unit
    here_is unit is_unit =
        let place : unit - at ≡ done = omega (arith, is_unit) in
        record { from = omega (arith, is_unit); to = omega (arith, is_unit); holds = subst (λ n. unit_at n bytes ≢ zeros 4096) (sym place) other }

pub added_none : (at : ℕ) (bytes old : List ℕ) → All (λ unit. unit < at) old → AddedSoFar at 0 bytes old old
added_none at bytes old below = record {
  within = all_more at (at + 0) old (omega arith) below;
  keeps = λ unit here. here;
  adds = λ k lt. absurd (omega (arith, lt));
  only = λ unit here. inl here;
  ascend = λ ascend. ascend;
  many = omega arith;
}

-- what was added to none
pub only_these : (at count : ℕ) (bytes old new : List ℕ) → old ≡ [] → AddsStale at count bytes old new → AreNotZero at count bytes new
only_these at count bytes old new none adds = record {
  each = λ unit here. elim (adds.only unit here) [
    | inl older ↦ absurd (no_element unit (subst (λ l. Contains l unit) none older))
    | inr new_one ↦ new_one
  ];
  others = adds.adds;
  ascend = adds.ascend (subst UnitsAscend (sym none) (λ i j before within. absurd (omega (arith, within))));
  many = omega (arith, adds.many, ap length none);
}
  where
    no_element : (unit : ℕ) → Contains [] unit → ⊥
    no_element unit here = omega (arith, here.1)

pub all_below : (at : ℕ) → All (λ unit. unit < at) []
all_below at = All-from_recursion (λ unit. unit < at) [] tt

-- ---- more units

adds_none : (at count : ℕ) (old : List ℕ) → count ≡ 0 → All (λ unit. unit < at) old → AddsStale at count [] old old
adds_none at count old none below = record {
  within = all_more at (at + count) old (omega arith) below;
  keeps = λ unit here. here;
  adds = λ k lt. absurd (omega (arith, lt, none));
  only = λ unit here. inl here;
  ascend = λ ascend. ascend;
  many = omega arith;
}

-- those of some units were added, and then those of the next ones
adds_join : (at n m : ℕ) (a b old mid new : List ℕ) → IsUnits n a → AddsStale at n a old mid → AddsStale (at + n) m b mid new
    → AddsStale at (n + m) (a ++ b) old new
adds_join at n m a b old mid new size first second = record {
  within = all_more (at + n + m) (at + (n + m)) new (omega arith) second.within;
  keeps = λ unit here. second.keeps unit (first.keeps unit here);
  adds = λ k lt not. elim (cases_lt k n) [
    | inl front ↦ unit_at-append_front k a b (omega (arith, size, front)) ∙ first.adds k front (λ here. not (second.keeps (at + k) here))
    | inr ge ↦
        let j = k - n in
        let place : at + n + j ≡ at + k = omega (arith, ge) in
        unit_at-append_back n k j a b size (omega (arith, ge))
        ∙ second.adds j (omega (arith, lt, ge)) (λ here. not (subst (Contains new) place here))
  ];
  only = λ unit here. elim (second.only unit here) [
    | inl before ↦ elim (first.only unit before) [
      | inl older ↦ inl older
      | inr is ↦ inr (record {
        from = is.from;
        to = omega (arith, is.to);
        holds = λ zero_there. is.holds (sym (unit_at-append_front (unit - at) a b (omega (arith, size, is.from, is.to))) ∙ zero_there);
      })
    ]
    | inr is ↦ inr (record {
      from = omega (arith, is.from);
      to = omega (arith, is.to);
      holds = λ zero_there. is.holds (sym (unit_at-append_back n (unit - at) (unit - (at + n)) a b size (omega (arith, is.from))) ∙ zero_there);
    })
  ];
  ascend = λ ascend. second.ascend (first.ascend ascend);
  many = omega (arith, first.many, second.many);
}

adds_between : (first mid end : ℕ) (a b old now new : List ℕ) → first ≤ mid → mid ≤ end → IsUnits (mid - first) a
    → AddsStale first (mid - first) a old now → AddsStale mid (end - mid) b now new → AddsStale first (end - first) (a ++ b) old new
adds_between first mid end a b old now new le more size p q =
    let place : mid ≡ first + (mid - first) = omega (arith, le) in
    let count : mid - first + (end - mid) ≡ end - first = omega (arith, le, more) in
    subst (λ (n : ℕ). AddsStale first n (a ++ b) old new) count
    (adds_join first (mid - first) (end - mid) a b old now new size p (subst (λ (n : ℕ). AddsStale n (end - mid) b now new) place q))

pub adds_no_units : (d : Disk) (first : ℕ) (old : List ℕ) → All (λ unit. unit < first) old → AddsUnits d first first old old
adds_no_units d first old below = record {
  bytes = [];
  units = no_units first (first - first) d (omega arith);
  adds = adds_none first (first - first) old (omega arith) below;
}

pub adds_more_units : (d : Disk) (first at count : ℕ) (bytes old mid new : List ℕ) → first ≤ at → IsSound d → HasRead d at count bytes
    → AddsStale at count bytes mid new → AddsUnits d first at old mid → AddsUnits d first (at + count) old new
adds_more_units d first at count bytes old mid new le sound read adds so_far =
    let many : count ≡ at + count - at = omega arith in
    record {
      bytes = so_far.bytes ++ bytes;
      units = between_join first at (at + count) so_far.bytes bytes d le (omega arith) so_far.units
          (subst (λ (n : ℕ). AreUnitsFrom at n bytes d) many (units_read d at count bytes sound read));
      adds = adds_between first at (at + count) so_far.bytes bytes old mid new le (omega arith) so_far.units.size so_far.adds
          (subst (λ (n : ℕ). AddsStale at n bytes mid new) many adds);
    }

-- those before the next unit
pub all_before : (d : Disk) (first at : ℕ) (old new : List ℕ) → first ≤ at → AddsUnits d first at old new → All (λ unit. unit < at) new
all_before d first at old new le so_far = all_more (first + (at - first)) at new (omega (arith, le)) so_far.adds.within

-- ---- the units behind the records

pub stale_found : (d : Disk) (h : HalfReader) (count : ℕ) (none mid new : List ℕ) → none ≡ [] → IsReader h → count ≡ h.next - h.at
    → AddsStale h.at count (bytes_not_passed h) none mid → AddsUnits d h.next h.end mid new → HasStale d h new
stale_found d h count none mid new nothing reader many first later = record {
  more = later.bytes;
  read = later.units;
  stale = only_these h.at (h.end - h.at) (bytes_not_passed h ++ later.bytes) none new nothing
      (adds_between h.at h.next h.end (bytes_not_passed h) later.bytes none mid new reader.read reader.more reader.size
      (subst (λ (n : ℕ). AddsStale h.at n (bytes_not_passed h) none mid) many first) later.adds);
}

-- ---- the units of a new store

module _ (below : ℕ) (bytes new : List ℕ) (adds : AddsStale 2 (below - 2) bytes (0 ∷ 1 ∷ []) new) where
  others_zero : (o : Option History) → IfSome o (λ h. IsAllClean h → HasPiece 2 (below - 2) bytes (last h.start h.log))
      → IfSome o (λ h. ((unit : ℕ) → IsClean h.log unit) → (unit : ℕ) → unit < below → ¬ Contains new unit → IsZero h unit)
  others_zero None read = tt
  others_zero (Some h) read = λ clean unit lt not. elim (cases_lt unit 2) [
    | inl slot ↦ absurd (not (adds.keeps unit (slot_there unit slot)))
    | inr ge ↦
        let k = unit - 2 in
        let is : 2 + k ≡ unit = omega (arith, ge) in
        let within : k < below - 2 = omega (arith, ge, lt) in
        subst (IsZero h) is (read clean k within ∙ adds.adds k within (λ here. not (subst (Contains new) is here)))
  ]
    where
      slot_there : (unit : ℕ) → unit < 2 → Contains (0 ∷ 1 ∷ []) unit
      slot_there zero lt = (0, omega arith, refl)
      slot_there (suc zero) lt = (1, omega arith, refl)
      slot_there (suc (suc n)) lt = absurd (omega (arith, lt))

pub slots_below : (units : List ℕ) → units ≡ 0 ∷ 1 ∷ [] → All (λ unit. unit < 2) units
slots_below units is = subst (All (λ unit. unit < 2)) (sym is) (All-from_recursion (λ unit. unit < 2) (0 ∷ 1 ∷ []) (omega arith, (omega arith, tt)))

pub are_stale : (d : Disk) (below : ℕ) (units new : List ℕ) → units ≡ 0 ∷ 1 ∷ [] → 2 ≤ below → AddsUnits d 2 below units new → AreStale below d new
are_stale d below units new is le found =
    let adds : AddsStale 2 (below - 2) found.bytes (0 ∷ 1 ∷ []) new = subst (λ (l : List ℕ). AddsStale 2 (below - 2) found.bytes l new) is found.adds in
    record {
      within = all_more (2 + (below - 2)) below new (omega (arith, le)) adds.within;
      many = omega (arith, adds.many, le);
      slot_0 = adds.keeps 0 (0, omega arith, refl);
      slot_1 = adds.keeps 1 (1, omega arith, refl);
      others = others_zero below found.bytes new adds d.history found.units.pieces;
    }
