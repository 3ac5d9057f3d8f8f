use Rattle.std.proofs.Common.{◌≡◌, rules}
use Rattle.meta_log.proofs.SlotReading.{behind_magic, version_there, version_one}
use Rattle.meta_log.proofs.slot.read_version.Goals as goal
use Rattle.meta_log.proofs.slot.read_version.Goals.{else-eq-via-then-eq+else-version-eq-VERSION, else-eq-via-else-eq}

pub returns-in_err-version : goal.returns-in_err-version
returns-in_err-version c = rw c.from_residual-in_err-version.ensures (λ rest is. version_there _ _ rest c.in_err-version.ensures (behind_magic _ _ _ rest c.in_ok-magic.ensures is).1)

pub returns-else-eq : goal.returns-else-eq
returns-else-eq c = λ rest is.
    let begun = behind_magic _ _ _ rest c.in_ok-magic.ensures is in
    elim c.else-eq.branch [
      | else-eq-via-then-eq+else-version-eq-VERSION w ↦ w.if-version-eq-VERSION.false (version_one _ _ rest _ c.in_ok-version.ensures begun.1)
      | else-eq-via-else-eq w ↦ (let same : c.in_ok-magic.magic.now ≡ c.as_slice.result.now = cc in search rules)
    ]
