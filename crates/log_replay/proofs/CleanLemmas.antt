-- A flush after all writes are done leaves nothing dirty.
use Rattle.std.proofs.Common.{◌≡◌, inl, inr, ℕ, true, [], ◌∷◌, ◌++◌, length, take, drop, sym, ap, subst}
use Rattle.std.specs.Prelude.{Contains}
use Rattle.std.proofs.lemmas.List.{take-append-drop}
use Rattle.std.proofs.lemmas.List.Elements.{Contains-append_left}
use Rattle.byte_maps.specs.Units.{unit_at}
use Rattle.block_device.specs.Prelude.{WritesUnit, History, last_at}
use Rattle.block_device.specs.declared.event.Event.TheVariants.{Flush, Done}
use Rattle.block_device.proofs.LogLemmas.{slice_get-push_cases, flush_submitted, stable_done}
use Rattle.log_replay.specs.Prelude.{after_call, EachWriteIsDone, IsAllClean}
use Rattle.log_replay.proofs.ZeroLemmas.{last-call}

pub clean_after_flush : (h : History) → EachWriteIsDone h.log → IsAllClean (after_call Flush true h)
clean_after_flush h done unit write event at writes = elim (slice_get-push_cases (h.log ++ Flush ∷ []) (Done (length h.log) true) event write at) [
  | inl before ↦ elim (slice_get-push_cases h.log Flush event write before) [
    | inl older ↦ stable_done (h.log ++ Flush ∷ []) (length h.log) write (flush_submitted h.log write (done write unit event older writes))
    | inr new ↦ absurd (subst (WritesUnit unit) (sym new.1) writes)
  ]
  | inr end ↦ absurd (subst (WritesUnit unit) (sym end.1) writes)
]

pub done_where_clean : (h : History) → IsAllClean h → EachWriteIsDone h.log
done_where_clean h clean write unit event at writes =
    let stable = clean unit write event at writes in
    subst (λ l. Contains l (Done write true)) (take-append-drop stable.flush h.log) (Contains-append_left (take stable.flush h.log) (drop stable.flush h.log) (Done write true) stable.after.written)

pub last_at-flush : (h : History) (unit : ℕ) → last_at (after_call Flush true h) unit ≡ last_at h unit
last_at-flush h unit = ap (unit_at unit) (last-call Flush h)
