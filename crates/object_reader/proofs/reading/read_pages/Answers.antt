use Rattle.std.proofs.Common.{◌≡◌, ◌+◌, ◌-◌, ℕ, arith, subst, ◌∙◌}
use Rattle.write_buffers.specs.Prelude.{memory_in}
use Rattle.page_sources.specs.Prelude.{GivesPages, IsPartFail}
use Rattle.page_sources.proofs.PartLemmas.{more_pages, fails_behind, handed_on}
use Rattle.object_reader.proofs.reading.read_pages.Goals as goal

pub parts-init : goal.parts-init
parts-init g c =
    let n = c.in_ok-front.front in
    let many : n ≡ c.args.first + n - c.args.first = omega arith in (
      c.read_part.ensures.same,
      c.read_part.ensures.later,
      omega arith,
      c.in_ok-front.ensures.few.1,
      subst (λ (n : ℕ). GivesPages (memory_in c.args.buffers.now) (g.D.Device.disk c.args.device.now) c.args.pages.now c.args.first n c.read_part.new.part.items) many c.in_ok-front.ensures.good,
      c.read_part.ensures.kept,
    )

pub parts-preserved : goal.parts-preserved
parts-preserved g c =
    let disk = g.D.Device.disk in
    let was = c.parts.invariant in
    let n = c.in_ok-count.count in
    let more = subst (λ ps. GivesPages (memory_in c.args.buffers.now) (disk c.args.device.now) ps c.parts.next n c.read_part-in-parts.new.part.items) was.5
    (subst (λ d. GivesPages (memory_in c.args.buffers.now) d c.parts.pages c.parts.next n c.read_part-in-parts.new.part.items) was.0 c.in_ok-count.ensures.good) in (
      c.read_part-in-parts.ensures.same ∙ was.0,
      omega (arith, was.1, c.read_part-in-parts.ensures.later),
      omega (arith, was.2),
      omega (arith, c.in_ok-count.ensures.few.1),
      more_pages (memory_in c.args.buffers.now) (disk c.args.device.now) c.args.pages.now c.args.first c.parts.next n c.parts.bytes.items c.read_part-in-parts.new.part.items _ was.2
          (rw c.deref.ensures.value at c.in_ok-extend_from_slice.ensures.items) was.4 more,
      c.read_part-in-parts.ensures.kept ∙ was.5,
    )

pub returns-in_err-count-clause-fail : goal.returns-in_err-count-clause-fail
returns-in_err-count-clause-fail g c =
    let d = g.D.Device.disk c.args.device.now in
    let was = c.parts.invariant in
    let why = c.in_err-count.field-0.0 in
    let failed = subst (λ ps. IsPartFail (memory_in c.args.buffers.now) d ps c.parts.next (c.args.end - c.parts.next) why) was.5
    (subst (λ d. IsPartFail (memory_in c.args.buffers.now) d c.parts.pages c.parts.next (c.args.end - c.parts.next) why) was.0 c.in_err-count.ensures.fail) in
    handed_on (IsPartFail (memory_in c.args.buffers.now) d c.args.pages.now c.args.first (c.args.end - c.args.first)) c.from_residual-in_err-count.result why
    c.from_residual-in_err-count.ensures (fails_behind (memory_in c.args.buffers.now) d c.args.pages.now c.args.first c.parts.next c.args.end c.parts.bytes.items why was.2
    was.3 was.4 failed)

pub returns-clause-good : goal.returns-clause-good
returns-clause-good g c =
    let was = c.parts.invariant in
    let at_end : c.parts.next ≡ c.args.end = omega (arith, was.3, c.parts-test.false) in
    subst (λ (n : ℕ). GivesPages (memory_in c.args.buffers.now) (g.D.Device.disk c.args.device.now) c.args.pages.now c.args.first (n - c.args.first) c.parts.bytes.items) at_end
    was.4
