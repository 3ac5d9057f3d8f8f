-- What a read gives.
use Rattle.std.proofs.Common.{◌≡◌, ℕ, ◌+◌, ◌<◌, List, take, drop, Some, true, subst}
use Rattle.std.specs.Prelude.{IfSome, Contains}
use Rattle.std.proofs.lemmas.List.{take-append-drop}
use Rattle.std.proofs.lemmas.List.Elements.{Contains-append_left}
use Rattle.byte_maps.specs.Units.{unit_at}
use Rattle.block_device.specs.Prelude.{IsStable, IsClean, HasNoBadDone, IsAnsweredOnce, Disk, History, HasRead, IsSound, SurelyHolds, last_at}
use Rattle.block_device.proofs.AnswerLemmas.{once_good}
use Rattle.block_device.specs.declared.event.Event.{Event}
use Rattle.block_device.specs.declared.event.Event.TheVariants.{Done}

-- a stable write has a good Done
pub stable_good : (log : List Event) (write : ℕ) → IsStable log write → Contains log (Done write true)
stable_good log write s =
    subst (λ l. Contains l (Done write true)) (take-append-drop s.flush log) (Contains-append_left (take s.flush log) (drop s.flush log) (Done write true) s.after.written)

-- so no write of a clean unit has a bad one
pub clean_good : (log : List Event) (k : ℕ) → IsAnsweredOnce log → IsClean log k → HasNoBadDone log k
clean_good log k once clean write event there covers = once_good log write once (stable_good log write (clean write event there covers))

-- what surely holds of a unit holds of it as read
pub surely_read : (d : Disk) (at count j : ℕ) (bytes : List ℕ) (h : History) (P : List ℕ → Type 0) → IsSound d → HasRead d at count bytes → d.history ≡ Some h → j < count
    → SurelyHolds h (at + j) P → P (unit_at j bytes)
surely_read d at count j bytes h P sound read told below s =
    let units = subst (λ o. IfSome o (λ g. (k : ℕ) → k < count → HasNoBadDone g.log (at + k) → unit_at k bytes ≡ last_at g (at + k))) told read.units in
    let once = subst (λ o. IfSome o (λ g. IsAnsweredOnce g.log)) told sound.once in
    rw (units j below (clean_good h.log (at + j) once s.clean)) s.last
