use Rattle.std.proofs.Common.{ℕ, ◌+◌, ◌-◌, List, IfOk, subst}
use Rattle.std.proofs.lemmas.Result.{IfOk-weaker}
use Rattle.log_replay.specs.Prelude.{Told, IsCleared, AreNotZero, AreStaleOf, IsLogCleared, first_behind, half_end, rest_of}
use Rattle.mount_replay.proofs.MountLemmas.{stale_between}
use Rattle.mount_replay.proofs.mounting.clear_log.Goals as goal

pub clear_behind-requires-clause-between : goal.clear_behind-requires-clause-between
clear_behind-requires-clause-between g c =
    let found = c.requires.found in
    rw c.active_unit-active.ensures
    (stale_between c.args.found.now found.half c.deref.result.now c.deref.ensures.value found.tail found.stale)

pub returns-clause-cleared : goal.returns-clause-cleared
returns-clause-cleared g c =
    let s = c.args.found.now in
    let old = (g.D.Device.disk c.args.dev.now).history in
    let new = (g.D.Device.disk c.clear_behind.new.dev).history in
    let at = subst (λ (a : ℕ). IfOk c.clear_behind.result (λ events. (bytes : List ℕ)
    → AreNotZero (a + s.log.tail) (a + s.sup.half - (a + s.log.tail)) bytes c.deref.result.now
    → Told (IsCleared (a + s.log.tail) (a + s.sup.half) bytes events) old new)) c.active_unit-active.ensures c.clear_behind.ensures.cleared in
    let stale = subst (λ (l : List ℕ). IfOk c.clear_behind.result (λ events. (bytes : List ℕ)
    → AreNotZero (first_behind s) (half_end s - first_behind s) bytes l
    → Told (IsCleared (first_behind s) (half_end s) bytes events) old new)) c.deref.ensures.value at in
    IfOk-weaker c.clear_behind.result (λ events. (bytes : List ℕ) → AreNotZero (first_behind s) (half_end s - first_behind s) bytes s.stale.items
    → Told (IsCleared (first_behind s) (half_end s) bytes events) old new)
    (λ events. (half : List ℕ) → AreStaleOf half s → Told (IsLogCleared s half events) old new)
    (λ events all half are. all (rest_of half s) are) stale
