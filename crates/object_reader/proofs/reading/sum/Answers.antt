use Rattle.std.proofs.Common.{◌≡◌, ◌-◌, ◌+◌, ◌*◌, ◌≤◌, take, ap, refl, arith, subst, sym, ◌∙◌}
use Rattle.read_facts.specs.Prelude.{pages_read}
use Rattle.write_buffers.specs.Prelude.{memory_in}
use Rattle.page_sources.specs.Prelude.{CanRead, GivesPages, IsPartFail}
use Rattle.page_sources.proofs.PartLemmas.{handed_on}
use Rattle.object_reader.specs.Ranges.{IsDigestOf}
use Rattle.object_reader.proofs.ReadLemmas.{digest_of_none, digest_of_more, sums_of_front, sum_of_all, sum_fails_behind}
use Rattle.object_reader.proofs.reading.sum.Goals as goal

pub parts-init : goal.parts-init
parts-init g c = (
  refl,
  omega arith,
  omega arith,
  subst (IsDigestOf (memory_in c.args.buffers.now) (g.D.Device.disk c.args.device.now) c.args.pages.now c.args.size 0)
      (sym c.new-digest.ensures) (digest_of_none (memory_in c.args.buffers.now) (g.D.Device.disk c.args.device.now) c.args.pages.now c.args.size),
  refl,
)

pub read_part-requires-clause-can : goal.read_part-requires-clause-can
read_part-requires-clause-can g c =
    subst (λ ps. CanRead (memory_in c.args.buffers.now) (g.D.Device.disk c.parts.device) ps) (sym c.parts.invariant.4)
    (subst (λ d. CanRead (memory_in c.args.buffers.now) d c.args.pages.now) (sym c.parts.invariant.0) c.requires.can)

pub take_in-requires-clause-sums : goal.take_in-requires-clause-sums
take_in-requires-clause-sums g c =
    let part = c.read_part.new.part.items in
    let left = c.args.size - c.parts.next * 4096 in
    let bytes : c.deref.result.now ≡ part = c.deref.ensures.value in
    let front : c.front.result.now ≡ take left part = c.front.ensures ∙ ap (take left) bytes in
    sums_of_front c.in_ok-count.count left part c.front.result.now c.read_part.new.sums front c.in_ok-count.ensures.good.size c.in_ok-count.ensures.sums

pub parts-preserved : goal.parts-preserved
parts-preserved g c =
    let disk = g.D.Device.disk in
    let was = c.parts.invariant in
    let d = disk c.args.device.now in
    let pages = c.args.pages.now in
    let size = c.args.size in
    let next = c.parts.next in
    let n = c.in_ok-count.count in
    let part = c.read_part.new.part.items in
    let more = subst (λ ps. GivesPages (memory_in c.args.buffers.now) d ps next n part) was.4
    (subst (λ d. GivesPages (memory_in c.args.buffers.now) d c.parts.pages next n part) was.0 c.in_ok-count.ensures.good) in
    let fits : 4096 * next ≤ size = omega (arith, c.parts-test.true, c.pages_of-end.ensures) in
    let left : size - next * 4096 ≡ size - 4096 * next = omega arith in
    let front : c.front.result.now ≡ take (size - 4096 * next) part =
    c.front.ensures ∙ ap (take (size - next * 4096)) c.deref.ensures.value ∙ ap (λ m. take m part) left in (
      c.read_part.ensures.same ∙ was.0,
      omega (arith, was.1, c.read_part.ensures.later),
      omega (arith, c.in_ok-count.ensures.few.1),
      subst (IsDigestOf (memory_in c.args.buffers.now) d pages size (next + n)) (sym c.take_in.ensures)
          (digest_of_more (memory_in c.args.buffers.now) d pages size next n c.parts.digest part c.front.result.now fits front was.3 more),
      c.read_part.ensures.kept ∙ was.4,
    )

pub returns-in_err-count-clause-fail : goal.returns-in_err-count-clause-fail
returns-in_err-count-clause-fail g c =
    let d = g.D.Device.disk c.args.device.now in
    let was = c.parts.invariant in
    let why = c.in_err-count.field-0.0 in
    let pages = c.args.pages.now in
    let size = c.args.size in
    let failed = subst (λ ps. IsPartFail (memory_in c.args.buffers.now) d ps c.parts.next (c.pages_of-end.result - c.parts.next) why) was.4
    (subst (λ d. IsPartFail (memory_in c.args.buffers.now) d c.parts.pages c.parts.next (c.pages_of-end.result - c.parts.next) why) was.0 c.in_err-count.ensures.fail) in
    handed_on (IsPartFail (memory_in c.args.buffers.now) d pages 0 (pages_read size 0 size)) c.from_residual.result why
    c.from_residual.ensures (sum_fails_behind (memory_in c.args.buffers.now) d pages size c.parts.next c.pages_of-end.result c.parts.digest why c.pages_of-end.ensures was.2
    was.3 failed)

pub returns-clause-good : goal.returns-clause-good
returns-clause-good g c =
    let was = c.parts.invariant in
    let at_end : c.parts.next ≡ c.pages_of-end.result = omega (arith, was.2, c.parts-test.false) in
    sum_of_all (memory_in c.args.buffers.now) (g.D.Device.disk c.args.device.now) c.args.pages.now c.args.size c.parts.next c.parts.digest _
    (at_end ∙ c.pages_of-end.ensures) c.finish.ensures was.3
