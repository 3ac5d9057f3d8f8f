-- The laws of the disk model, and the lemmas on quiet devices that the layers above take.
use Rattle.std.proofs.Common.{◌≡◌, ◌⊎◌, ◌↔◌, inl, inr, zero, suc, ℕ, ◌+◌, List, [], ◌∷◌, ◌++◌, length, get_or, Some, All, true, false, refl, sym, ◌∙◌, ap, subst, arith, length-append, append_assoc}
use Rattle.std.specs.Prelude.{Contains, slice_get}
use Rattle.std.proofs.lemmas.List.{append-nil}
use Rattle.std.proofs.lemmas.List.Elements.{All-head, All-tail, Contains-push}
use Rattle.byte_maps.specs.Units.{unit_at, Covers, IsUnits}
use Rattle.block_device.specs.Prelude.{after_event, last, WritesUnit, WritesNothing, IsStable, IsClean, IsDirty, IsCrashImage, IsAnsweredOnce, IsCovered, is_dirty, IsWholeLog}
use Rattle.block_device.proofs.LogLemmas.{last-push, slice_get-last, slice_get-push_cases, slice_get-lt, slice_get-is, flush_push, flush_submitted, stable_push, stable_done, clean_push}
use Rattle.block_device.proofs.Places.{is_dirty-means, not_dirty-means}
use Rattle.block_device.proofs.ImageLemmas.{length-last}
use Rattle.block_device.proofs.RangeLemmas.{clean_image}
use Rattle.block_device.proofs.AnswerLemmas.{once_good}
use Rattle.block_device.proofs.ReadLemmas.{stable_good}
use Rattle.block_device.specs.declared.event.Event.{Event}
use Rattle.block_device.specs.declared.event.Event.TheVariants.{Write, Flush, Done}

-- an event that writes nothing

writes_no_unit : (event : Event) (k : ℕ) → WritesNothing event → ¬ WritesUnit k event
writes_no_unit (Write at bytes) k none c = none
writes_no_unit Flush k none c = c
writes_no_unit (Done ticket ok) k none c = c

pub last_mono : (start : List ℕ) (log : List Event) (event : Event) → WritesNothing event → last start (log ++ event ∷ []) ≡ last start log
last_mono start log event none = last-push start log event ∙ same event none (last start log)
  where
    same : (e : Event) → WritesNothing e → (bytes : List ℕ) → after_event bytes e ≡ bytes
    same (Write at piece) none bytes = absurd none
    same Flush none bytes = refl
    same (Done ticket ok) none bytes = refl

pub image_mono : (start : List ℕ) (log : List Event) (event : Event) (image : List ℕ) → WritesNothing event → IsCrashImage start (log ++ event ∷ []) image → IsCrashImage start log image
image_mono start log event image none is = record {
  size = is.size;
  clean = λ k clean. is.clean k (clean_push log event k clean (writes_no_unit event k none)) ∙ ap (λ (l : List ℕ). unit_at k l) (last_mono start log event none);
}

pub images_shrink : (start : List ℕ) (log more : List Event) (image : List ℕ) → All WritesNothing more → IsCrashImage start (log ++ more) image → IsCrashImage start log image
images_shrink start log [] image none is = subst (λ l. IsCrashImage start l image) (append-nil log) is
images_shrink start log (e ∷ more) image none is =
    let longer : log ++ e ∷ more ≡ (log ++ e ∷ []) ++ more = sym (append_assoc log (e ∷ []) more) in
    image_mono start log e image (All-head WritesNothing e more none) (images_shrink start (log ++ e ∷ []) more image (All-tail WritesNothing e more none) (subst (λ l. IsCrashImage start l image) longer is))

-- a clean device

pub clean_one : (units : ℕ) (start : List ℕ) (log : List Event) (image : List ℕ) → IsUnits units start → IsWholeLog (length start) log → ((k : ℕ) → IsClean log k) → IsCrashImage start log image ↔ (image ≡ last start log)
clean_one units start log image whole fits clean =
    let size : length (last start log) ≡ length start = length-last start log fits in (
      λ is. clean_image start log image units (omega (arith, whole, size)) size clean is,
      λ same. record { size = ap length same ∙ size; clean = λ k _. ap (λ (l : List ℕ). unit_at k l) same },
    )

pub crash_by_dirty : (start : List ℕ) (log : List Event) (image : List ℕ) → IsCrashImage start log image ↔ ((length image ≡ length start) × ((k : ℕ) → is_dirty log k ≡ false → unit_at k image ≡ unit_at k (last start log)))
crash_by_dirty start log image = (
  λ is. (is.size, λ k none. is.clean k ((not_dirty-means log k).0 none)),
  λ by. record { size = by.0; clean = λ k clean. by.1 k ((not_dirty-means log k).1 clean) },
)

pub dirty_tested : (log : List Event) (k : ℕ) → ((is_dirty log k ≡ true) ↔ IsDirty log k) × ((is_dirty log k ≡ false) ↔ IsClean log k)
dirty_tested log k = (is_dirty-means log k, not_dirty-means log k)

pub stable_is_good : (log : List Event) (write : ℕ) → IsAnsweredOnce log → IsStable log write → Contains log (Done write true) × (¬ Contains log (Done write false))
stable_is_good log write once s = (stable_good log write s, once_good log write once (stable_good log write s))

-- what a flush covers

pub covered_push : (log : List Event) (event : Event) (flush k : ℕ) → IsCovered log flush k → ¬ WritesUnit k event → IsCovered (log ++ event ∷ []) flush k
covered_push log event flush k covered spared write e there covers = elim (slice_get-push_cases log event e write there) [
  | inl old ↦ elim (covered write e old covers) [ inl s ↦ inl (stable_push log event write s) | inr after ↦ inr (flush_push log event flush write after) ]
  | inr new ↦ absurd (spared (subst (λ x. WritesUnit k x) (sym new.1) covers))
]

pub clean_covered : (log : List Event) (flush k : ℕ) → IsClean log k → IsCovered log flush k
clean_covered log flush k clean write e there covers = inl (clean write e there covers)

pub covered_done : (log : List Event) (flush k : ℕ) → IsCovered log flush k → IsClean (log ++ Done flush true ∷ []) k
covered_done log flush k covered write e there covers = elim (slice_get-push_cases log (Done flush true) e write there) [
  | inl old ↦ elim (covered write e old covers) [ inl s ↦ stable_push log (Done flush true) write s | inr after ↦ stable_done log flush write after ]
  | inr new ↦ absurd (subst (λ x. WritesUnit k x) (sym new.1) covers)
]

-- each write that has a good Done, or is stable, is covered by a flush submitted now
pub flush_covers : (log : List Event) (k : ℕ) → ((write : ℕ) (event : Event) → slice_get log write ≡ Some event → WritesUnit k event → IsStable log write ⊎ Contains log (Done write true))
    → IsCovered (log ++ Flush ∷ []) (length log) k
flush_covers log k each write e there covers = elim (slice_get-push_cases log Flush e write there) [
  | inl old ↦ elim (each write e old covers) [ inl s ↦ inl (stable_push log Flush write s) | inr good ↦ inr (flush_submitted log write good) ]
  | inr new ↦ absurd (subst (λ x. WritesUnit k x) (sym new.1) covers)
]

pub flush_cleans : (log : List Event) (at k : ℕ) (bytes : List ℕ) → IsClean log k → IsClean (log ++ Write at bytes ∷ Done (length log) true ∷ Flush ∷ Done (length log + 2) true ∷ []) k
flush_cleans log at k bytes clean =
    let written = log ++ Write at bytes ∷ [] in
    let done = written ++ Done (length log) true ∷ [] in
    let size : length done ≡ length log + 2 = omega (arith, length-append written (Done (length log) true ∷ []), length-append log (Write at bytes ∷ [])) in
    let each : (write : ℕ) (event : Event) → slice_get done write ≡ Some event → WritesUnit k event → IsStable done write ⊎ Contains done (Done write true) =
    λ write event there covers. elim (slice_get-push_cases written (Done (length log) true) event write there) [
      | inr new ↦ absurd (subst (λ x. WritesUnit k x) (sym new.1) covers)
      | inl old ↦
          elim (slice_get-push_cases log (Write at bytes) event write old) [
            | inl older ↦ inl (stable_push written (Done (length log) true) write (stable_push log (Write at bytes) write (clean write event older covers)))
            | inr now ↦ inr (subst (λ (n : ℕ). Contains done (Done n true)) (sym now.0) (Contains-push written (Done (length log) true)))
          ]
    ] in
    let cleaned : IsClean ((done ++ Flush ∷ []) ++ Done (length done) true ∷ []) k = covered_done (done ++ Flush ∷ []) (length done) k (flush_covers done k each) in
    let whole : ((done ++ Flush ∷ []) ++ Done (length log + 2) true ∷ []) ≡ log ++ Write at bytes ∷ Done (length log) true ∷ Flush ∷ Done (length log + 2) true ∷ [] =
    append_assoc done (Flush ∷ []) (Done (length log + 2) true ∷ [])
    ∙ append_assoc written (Done (length log) true ∷ []) (Flush ∷ Done (length log + 2) true ∷ [])
    ∙ append_assoc log (Write at bytes ∷ []) (Done (length log) true ∷ Flush ∷ Done (length log + 2) true ∷ []) in
    subst (λ l. IsClean l k) whole (subst (λ (n : ℕ). IsClean ((done ++ Flush ∷ []) ++ Done n true ∷ []) k) size cleaned)

contains-push_cases : (log : List Event) (event x : Event) → Contains (log ++ event ∷ []) x → Contains log x ⊎ (event ≡ x)
contains-push_cases log event x c = elim (slice_get-push_cases log event x c.0 (slice_get-is (log ++ event ∷ []) c.0 x c.1 (sym c.2))) [
  | inl old ↦ inl (contains_at log c.0 x old)
  | inr new ↦ inr new.1
]
  where
    contains_at : (xs : List Event) (i : ℕ) (y : Event) → slice_get xs i ≡ Some y → Contains xs y
    contains_at xs i y there = (i, slice_get-lt xs y i there, got xs i y there)
      where
        got : (xs : List Event) (i : ℕ) (y : Event) → slice_get xs i ≡ Some y → get_or xs i y ≡ y
        got [] i y there = absurd (cc)
        got (z ∷ zs) zero y there = cc
        got (z ∷ zs) (suc i) y there = got zs i y there

pub write_dirties : (log : List Event) (at k : ℕ) (bytes : List ℕ) → Covers at bytes k → (¬ Contains log (Done (length log) true)) → IsDirty (log ++ Write at bytes ∷ []) k
write_dirties log at k bytes covers none =
    let now = log ++ Write at bytes ∷ [] in
    let unstable : ¬ IsStable now (length log) = λ s.
    elim (contains-push_cases log (Write at bytes) (Done (length log) true) (stable_good now (length log) s)) [ inl old ↦ none old | inr new ↦ cc new ] in
    (length log, (Write at bytes, slice_get-last log (Write at bytes), covers, unstable))
