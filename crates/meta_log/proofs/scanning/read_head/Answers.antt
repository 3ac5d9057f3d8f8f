use Rattle.std.proofs.Common.{◌≡◌, arith, rules}
use Rattle.meta_log.proofs.PartLemmas.{brec, head_read, head_begins}
use Rattle.meta_log.proofs.scanning.read_head.Goals as goal
use Rattle.meta_log.proofs.scanning.read_head.Goals.{else-eq-via-then-eq+else-held-number, else-eq-via-else-eq}

pub returns-then-held-number : goal.returns-then-held-number
returns-then-held-number c =
    let magic = rw c.new-fields.ensures at c.in_ok-magic.ensures in
    let same : c.in_ok-magic.magic.now ≡ brec = search rules in
    head_read c.args.head.now _ _ _ _ _ _ _ _ c.args.number c.requires magic c.in_ok-size.ensures.spelled c.in_ok-held.ensures.spelled
    c.in_ok-count.ensures.spelled same c.if-held-number.true

pub returns-else-eq : goal.returns-else-eq
returns-else-eq c = λ count size is.
    let magic = rw c.new-fields.ensures at c.in_ok-magic.ensures in
    let begun = head_begins c.args.head.now _ _ _ _ _ c.in_ok-held.held c.args.number count size magic c.in_ok-size.ensures.spelled
    c.in_ok-held.ensures.spelled (omega arith) (omega arith) is in
    elim c.else-eq.branch [
      | else-eq-via-then-eq+else-held-number w ↦ w.if-held-number.false begun.1
      | else-eq-via-else-eq w ↦ (let same : c.in_ok-magic.magic.now ≡ c.as_slice.result.now = cc in search rules)
    ]
