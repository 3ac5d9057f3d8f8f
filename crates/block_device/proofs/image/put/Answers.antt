use Rattle.std.proofs.Common.{◌≡◌, set, ◌+◌, ◌*◌, ◌≤◌, length, ℕ, List, Bool, not, ◌||◌, refl, sym, ◌∙◌, ap, arith}
use Rattle.byte_maps.specs.Units.{unit_at, overlaid}
use Rattle.block_device.specs.Prelude.{is_laid, mark}
use Rattle.block_device.proofs.PutLemmas.{put_none, put_one, put_more, put_all, unit_piece, length-unit_at}
use Rattle.block_device.proofs.image.put.Goals as goal
use Rattle.block_device.proofs.image.put.Goals.{then-takes, else-takes, then-torn-k, else-torn-k}

pub loop-j-init : goal.loop-j-init
loop-j-init c = put_none c.args.tear c.args.at c.args.bytes.now c.args.stable c.args.image.now c.args.torn.now

pub loop-j-preserved : goal.loop-j-preserved
loop-j-preserved c =
    let inside : 4096 * (c.args.at + c.loop-j.j) + 4096 ≤ length c.loop-j.image = omega (arith, c.loop-j-test.true, c.requires.inside, c.loop-j.invariant.size) in
    let within : 4096 * c.loop-j.j + 4096 ≤ length c.args.bytes.now = omega (arith, c.loop-j-test.true) in
    let k = c.args.at + c.loop-j.j in
    let piece = unit_at c.loop-j.j c.args.bytes.now in
    let puts : c.if-takes.image ≡ put_one (is_laid c.args.tear c.args.stable (mark c.loop-j.torn k) c.loop-j.j) k piece c.loop-j.image =
    elim c.if-takes.branch [
      | then-takes w ↦ w.image-is ∙ w.lay.ensures ∙ ap (λ (l : List ℕ). overlaid k l c.loop-j.image) (unit_piece c.loop-j.j c.args.bytes.now)
          ∙ ap (λ (b : Bool). put_one b k piece c.loop-j.image) (sym w.if-takes.true ∙ c.takes.ensures)
      | else-takes w ↦ w.image-is ∙ ap (λ (b : Bool). put_one b k piece c.loop-j.image) (sym w.if-takes.false ∙ c.takes.ensures)
    ] in
    let marked : c.if-torn-k.torn ≡ (mark c.loop-j.torn k || not c.args.stable) =
    elim c.if-torn-k.branch [
      | then-torn-k w ↦ w.torn-is ∙ w.if-torn-k.true ∙ ap (λ (b : Bool). b || not c.args.stable) (sym w.if-torn-k.true)
      | else-torn-k w ↦ w.torn-is ∙ ap (λ (b : Bool). b || not c.args.stable) (sym w.if-torn-k.false)
    ] in
    put_more c.args.tear c.loop-j.j c.args.at c.args.bytes.now c.args.stable c.args.image.now c.loop-j.image c.if-takes.image c.args.torn.now c.loop-j.torn _ piece
    c.loop-j.invariant inside (omega (arith, inside, c.requires.marks, c.loop-j.invariant.marks, c.loop-j.invariant.size)) refl (length-unit_at c.loop-j.j c.args.bytes.now within) puts (ap (λ (b : Bool). set c.loop-j.torn k b) marked)

pub returns : goal.returns
returns c = put_all c.args.tear c.loop-j.j c.args.at c.args.bytes.now c.args.stable c.args.image.now c.loop-j.image c.args.torn.now c.loop-j.torn (omega (arith, c.requires.whole.1, c.loop-j-test.false, c.loop-j.auto.j-end)) c.loop-j.invariant
