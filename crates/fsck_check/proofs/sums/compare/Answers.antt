use Rattle.std.proofs.Common.{◌≡◌, ◌+◌, ◌<◌, [], ◌∷◌, length, get_or, sym, ap, subst, ◌∙◌, arith}
use Rattle.byte_maps.specs.Units.{unit_at}
use Rattle.byte_maps.proofs.UnitLemmas.{length-unit_at}
use Rattle.crc32c_csum.specs.Prelude.{crc32c}
use Rattle.fsck_check.specs.Sums.{UnitSum, IsUnitIn, AddsSums}
use Rattle.fsck_check.proofs.Adding.{place_more, read_unit, adds_good, adds_bad}
use Rattle.fsck_check.proofs.sums.compare.Goals.{then-sum-own+in_ok-push, else-sum-own}
use Rattle.fsck_check.proofs.sums.compare.Goals as goal

pub loop-i-preserved : goal.loop-i-preserved
loop-i-preserved c =
    let at = c.args.at in
    let i = c.loop-i.i in
    let kept = c.args.kept.now in
    let bytes = c.args.bytes.now in
    let held = IsUnitIn at (length kept) bytes in
    let p : UnitSum = (at + i, get_or kept i 0) in
    let lt : i < length kept = c.loop-i-test.true in
    let here = read_unit at (length kept) i bytes c.requires.whole lt in
    let sum : c.crc32c-sum.result ≡ crc32c (unit_at i bytes) = c.crc32c-sum.ensures ∙ ap crc32c c.unit_of.ensures in
    place_more held at i kept c.args.found.now c.loop-i.found c.if-sum-own.found lt c.loop-i.invariant (elim c.if-sum-own.branch [
      | then-sum-own+in_ok-push w ↦ adds_bad held p c.crc32c-sum.result c.loop-i.found c.if-sum-own.found (record {
        bytes = unit_at i bytes;
        size = length-unit_at i bytes (omega (arith, c.requires.whole, lt));
        holds = here;
        is_found = sum;
        differs = w.if-sum-own.true;
      }) (w.found-is ∙ w.in_ok-push.ensures.ok)
      | else-sum-own w ↦ subst (λ l. AddsSums held (p ∷ []) c.loop-i.found l) (sym w.found-is) (adds_good held p c.loop-i.found (unit_at i bytes, (here, sym sum ∙ w.if-sum-own.false)))
    ])
