-- How the contents, the stable writes and the clean units change with one more event.
use Rattle.std.proofs.Common.{◌≡◌, ◌⊎◌, inl, inr, ℕ, zero, suc, ◌+◌, ◌*◌, ◌<◌, ◌≤◌, List, [], ◌∷◌, ◌++◌, length, take, get_or, Some, Bool, true, false, refl, sym, ◌∙◌, ap, subst, arith, length-append}
use Rattle.std.specs.Prelude.{Contains, slice_get}
use Rattle.std.proofs.lemmas.Bool.{cases_lt}
use Rattle.std.proofs.lemmas.List.{take_all, take-append-le, length-take-le, take_at}
use Rattle.std.proofs.lemmas.List.Elements.{Contains-append_left, Contains-push}
use Rattle.byte_maps.specs.Units.{unit_at}
use Rattle.block_device.specs.Prelude.{after_event, last, WritesUnit, IsFlushAfter, IsStable, IsClean, IsCrashImage, EachCut, History, with_event, last_at, SurelyHolds, IsPending, EventFits}
use Rattle.byte_maps.proofs.Prelude.{length-overlaid, unit_at-laid_before, unit_at-laid_behind, unit_at-laid_inside}
use Rattle.block_device.specs.declared.event.Event.{Event}
use Rattle.block_device.specs.declared.event.Event.TheVariants.{Write, Flush, Done}

pub last-push : (start : List ℕ) (log : List Event) (event : Event) → last start (log ++ event ∷ []) ≡ after_event (last start log) event
last-push start [] event = refl
last-push start (e ∷ log) event = last-push (after_event start e) log event

-- an event that doesn't write unit k leaves it
pub unit_at-after_event : (k : ℕ) (event : Event) (bytes : List ℕ) → EventFits (length bytes) event → ¬ WritesUnit k event → unit_at k (after_event bytes event) ≡ unit_at k bytes
unit_at-after_event k (Write at piece) bytes fits spared =
    elim (cases_lt k at) [
      | inl before ↦ unit_at-laid_before at k piece bytes fits before
      | inr behind ↦
          elim (cases_lt (4096 * k) (4096 * at + length piece)) [
            | inl inside ↦ absurd (spared (behind, inside))
            | inr past ↦ unit_at-laid_behind at k piece bytes fits past
          ]
    ]
unit_at-after_event k Flush bytes fits spared = refl
unit_at-after_event k (Done ticket ok) bytes fits spared = refl

pub length-after_event : (event : Event) (bytes : List ℕ) → EventFits (length bytes) event → length (after_event bytes event) ≡ length bytes
length-after_event (Write at piece) bytes fits = length-overlaid at piece bytes fits
length-after_event Flush bytes fits = refl
length-after_event (Done ticket ok) bytes fits = refl

pub slice_get-push : {X : Type 0} → (xs : List X) (y x : X) (i : ℕ) → slice_get xs i ≡ Some x → slice_get (xs ++ y ∷ []) i ≡ Some x
slice_get-push [] y x i is = absurd (cc)
slice_get-push (z ∷ xs) y x zero is = is
slice_get-push (z ∷ xs) y x (suc i) is = slice_get-push xs y x i is

pub slice_get-last : {X : Type 0} → (xs : List X) (y : X) → slice_get (xs ++ y ∷ []) (length xs) ≡ Some y
slice_get-last [] y = refl
slice_get-last (x ∷ xs) y = slice_get-last xs y

-- what stands in a longer list stands in the shorter one, or is the new item
pub slice_get-push_cases : {X : Type 0} → (xs : List X) (y x : X) (i : ℕ) → slice_get (xs ++ y ∷ []) i ≡ Some x → (slice_get xs i ≡ Some x) ⊎ ((i ≡ length xs) × (y ≡ x))
slice_get-push_cases [] y x zero is = inr (refl, cc)
slice_get-push_cases [] y x (suc i) is = absurd (cc)
slice_get-push_cases (z ∷ xs) y x zero is = inl is
slice_get-push_cases (z ∷ xs) y x (suc i) is = elim (slice_get-push_cases xs y x i is) [ inl old ↦ inl old | inr new ↦ inr (ap (λ (n : ℕ). suc n) new.0, new.1) ]

pub slice_get-lt : {X : Type 0} → (xs : List X) (x : X) (i : ℕ) → slice_get xs i ≡ Some x → i < length xs
slice_get-lt [] x i is = absurd (cc)
slice_get-lt (z ∷ xs) x zero is = omega arith
slice_get-lt (z ∷ xs) x (suc i) is = let below = slice_get-lt xs x i is in omega arith

-- a flush that was submitted stays one
pub flush_push : (log : List Event) (event : Event) (flush write : ℕ) → IsFlushAfter log flush write → IsFlushAfter (log ++ event ∷ []) flush write
flush_push log event flush write after = record {
  is_flush = slice_get-push log event Flush flush after.is_flush;
  written =
      let below = slice_get-lt log Flush flush after.is_flush in
      let same : take flush (log ++ event ∷ []) ≡ take flush log = take-append-le flush log (event ∷ []) (omega arith) in
      rw same after.written;
}

-- a flush submitted now comes after each write that has a good Done
pub flush_submitted : (log : List Event) (write : ℕ) → Contains log (Done write true) → IsFlushAfter (log ++ Flush ∷ []) (length log) write
flush_submitted log write done = record {
  is_flush = slice_get-last log Flush;
  written = let same : take (length log) (log ++ Flush ∷ []) ≡ log = take_at log (Flush ∷ []) (length log) refl in rw same done;
}

pub stable_push : (log : List Event) (event : Event) (write : ℕ) → IsStable log write → IsStable (log ++ event ∷ []) write
stable_push log event write s = record {
  flush = s.flush;
  after = flush_push log event s.flush write s.after;
  done = Contains-append_left log (event ∷ []) (Done s.flush true) s.done;
}

-- the good Done of a flush makes the writes before it stable
pub stable_done : (log : List Event) (flush write : ℕ) → IsFlushAfter log flush write → IsStable (log ++ Done flush true ∷ []) write
stable_done log flush write after = record {
  flush = flush;
  after = flush_push log (Done flush true) flush write after;
  done = Contains-push log (Done flush true);
}

-- a unit that isn't written stays clean
pub clean_push : (log : List Event) (event : Event) (k : ℕ) → IsClean log k → ¬ WritesUnit k event → IsClean (log ++ event ∷ []) k
clean_push log event k clean spared write e there covers =
    elim (slice_get-push_cases log event e write there) [
      | inl old ↦ stable_push log event write (clean write e old covers)
      | inr new ↦ absurd (spared (subst (λ x. WritesUnit k x) (sym new.1) covers))
    ]

module _ (h : History) (event : Event) where
  -- the bytes last written to a unit that this event doesn't write
  last_at-push : (k : ℕ) → EventFits (length (last h.start h.log)) event → ¬ WritesUnit k event → last_at (with_event h event) k ≡ last_at h k
  last_at-push k fits spared =
      ap (λ (l : List ℕ). unit_at k l) (last-push h.start h.log event) ∙ unit_at-after_event k event (last h.start h.log) fits spared

  pub surely_push : (k : ℕ) (P : List ℕ → Type 0) → SurelyHolds h k P → EventFits (length (last h.start h.log)) event → ¬ WritesUnit k event → SurelyHolds (with_event h event) k P
  surely_push k P s fits spared = record {
    clean = clean_push h.log event k s.clean spared;
    last = rw (last_at-push k fits spared) s.last;
  }

  pub pending_push : (k write : ℕ) (P : List ℕ → Type 0) → IsPending h k write P → EventFits (length (last h.start h.log)) event → ¬ WritesUnit k event → IsPending (with_event h event) k write P
  pending_push k write P p fits spared = record {
    others = λ place e there covers.
        elim (slice_get-push_cases h.log event e place there) [
          | inl old ↦ elim (p.others place e old covers) [ inl is ↦ inl is | inr s ↦ inr (stable_push h.log event place s) ]
          | inr new ↦ absurd (spared (subst (λ x. WritesUnit k x) (sym new.1) covers))
        ];
    last = rw (last_at-push k fits spared) p.last;
  }

-- a write of a clean unit makes it pending
pub pending_written : (h : History) (at k j : ℕ) (bytes : List ℕ) (P : List ℕ → Type 0) → IsClean h.log k → 4096 * at + length bytes ≤ length (last h.start h.log)
    → k ≡ at + j → 4096 * j + 4096 ≤ length bytes → P (unit_at j bytes) → IsPending (with_event h (Write at bytes)) k (length h.log) P
pending_written h at k j bytes P clean fits is inside holds = record {
  others = λ place e there covers.
      elim (slice_get-push_cases h.log (Write at bytes) e place there) [
        | inl old ↦ inr (stable_push h.log (Write at bytes) place (clean place e old covers))
        | inr new ↦ inl new.0
      ];
  last =
      let same : last_at (with_event h (Write at bytes)) k ≡ unit_at j bytes =
      ap (λ (l : List ℕ). unit_at k l) (last-push h.start h.log (Write at bytes)) ∙ unit_at-laid_inside at k j bytes (last h.start h.log) fits is inside in
      rw same holds;
}

-- the good Done of a flush after its write makes a pending unit sure
pub pending_flushed : (h : History) (k flush write : ℕ) (P : List ℕ → Type 0) → IsPending h k write P → IsFlushAfter h.log flush write → SurelyHolds (with_event h (Done flush true)) k P
pending_flushed h k flush write P p after = record {
  clean = λ place e there covers.
      elim (slice_get-push_cases h.log (Done flush true) e place there) [
        | inl old ↦
            elim (p.others place e old covers) [
              | inl is ↦ rw is (stable_done h.log flush write after)
              | inr s ↦ stable_push h.log (Done flush true) place s
            ]
        | inr new ↦ absurd (subst (λ x. WritesUnit k x) (sym new.1) covers)
      ];
  last = rw (last-push h.start h.log (Done flush true)) p.last;
}

-- what surely holds of a unit holds of it in each image
pub surely_image : (h : History) (k : ℕ) (P : List ℕ → Type 0) (image : List ℕ) → SurelyHolds h k P → IsCrashImage h.start h.log image → P (unit_at k image)
surely_image h k P image s is = rw (is.clean k s.clean) s.last

-- cuts

pub each_cut_none : (log : List Event) (P : List Event → Type 0) → P log → EachCut (length log) log P
each_cut_none log P now n from to =
    let whole : take n log ≡ log = take_all n log from in
    rw whole now

pub each_cut_push : (base : ℕ) (log : List Event) (event : Event) (P : List Event → Type 0) → EachCut base log P → P (log ++ event ∷ []) → EachCut base (log ++ event ∷ []) P
each_cut_push base log event P each now n from to =
    elim (cases_lt (length log) n) [
      | inl past ↦
          let whole : take n (log ++ event ∷ []) ≡ log ++ event ∷ [] = take_all n (log ++ event ∷ []) (omega (arith, length-append log (event ∷ []))) in
          rw whole now
      | inr within ↦
          let same : take n (log ++ event ∷ []) ≡ take n log = take-append-le n log (event ∷ []) within in
          rw same (each n from within)
    ]

-- P gives Q at the cuts before the last, and Q holds at the last
pub each_cut_weaker : (base : ℕ) (log : List Event) (P Q : List Event → Type 0) → EachCut base log P → ((front : List Event) → length front < length log → P front → Q front) → Q log → EachCut base log Q
each_cut_weaker base log P Q each weaker now n from to =
    elim (cases_lt n (length log)) [
      | inl before ↦ weaker (take n log) (omega (arith, length-take-le n log to)) (each n from to)
      | inr end ↦ let whole : take n log ≡ log = take_all n log end in rw whole now
    ]

-- small facts on lists and tests

pub false_unless : (b : Bool) → ¬ (b ≡ true) → b ≡ false
false_unless true differs = absurd (differs refl)
false_unless false differs = refl

pub slice_get-is : {X : Type 0} → (xs : List X) (i : ℕ) (x : X) → i < length xs → x ≡ get_or xs i x → slice_get xs i ≡ Some x
slice_get-is [] i x below is = absurd (omega arith)
slice_get-is (y ∷ xs) zero x below is = ap (λ z. Some z) (sym is)
slice_get-is (y ∷ xs) (suc i) x below is = slice_get-is xs i x (omega arith) is

pub slice_get-take : {X : Type 0} → (n : ℕ) (xs : List X) (i : ℕ) (x : X) → slice_get (take n xs) i ≡ Some x → slice_get xs i ≡ Some x
slice_get-take zero xs i x is = absurd (cc)
slice_get-take (suc n) [] i x is = absurd (cc)
slice_get-take (suc n) (y ∷ xs) zero x is = is
slice_get-take (suc n) (y ∷ xs) (suc i) x is = slice_get-take n xs i x is
