use Rattle.std.proofs.Common.{◌+◌, ◌*◌, ◌≤◌, ℕ, List, inl, inr, length, sym, ◌∙◌, ap, arith}
use Rattle.std.proofs.lemmas.Bool.{cases_eq, false≢true}
use Rattle.byte_maps.specs.Units.{unit_at}
use Rattle.block_device.specs.Prelude.{mark}
use Rattle.block_device.proofs.PutLemmas.{unit_at-laid_one, unit_at-laid_itself}
use Rattle.block_device.proofs.ImageLemmas.{filled_more}
use Rattle.block_device.proofs.image.fill_torn.Goals as goal
use Rattle.block_device.proofs.image.fill_torn.Goals.{then-is_torn, else-is_torn}

pub loop-k-preserved : goal.loop-k-preserved
loop-k-preserved c = elim c.if-is_torn.branch [
  | then-is_torn w ↦
      let fits : 4096 * c.loop-k.k + 4096 ≤ length c.loop-k.image = omega (arith, c.loop-k-test.true, c.requires.marks, c.loop-k.invariant.size) in
      let laid_now = w.image-is ∙ w.lay.ensures in
      record {
        size = c.if-is_torn.auto.image ∙ c.loop-k.invariant.size;
        others = filled_more c.loop-k.k c.args.filling.now c.loop-k.image c.if-is_torn.image c.args.image.now c.args.torn.now c.requires.filling fits w.if-is_torn.true laid_now c.loop-k.invariant.others;
        filled = λ unit below torn. elim (cases_eq unit c.loop-k.k) [
          | inl here ↦ ap (λ (n : ℕ). unit_at n c.if-is_torn.image) here ∙ ap (λ (l : List ℕ). unit_at c.loop-k.k l) laid_now ∙ unit_at-laid_itself c.loop-k.k c.args.filling.now c.loop-k.image c.requires.filling fits
          | inr other ↦
              ap (λ (l : List ℕ). unit_at unit l) laid_now ∙ unit_at-laid_one c.loop-k.k unit c.args.filling.now c.loop-k.image c.requires.filling fits other
              ∙ c.loop-k.invariant.filled unit (omega (arith, below)) torn
        ];
      }
  | else-is_torn w ↦
      rw w.image-is (record {
        size = c.loop-k.invariant.size;
        others = c.loop-k.invariant.others;
        filled = λ unit below torn. elim (cases_eq unit c.loop-k.k) [
          | inl here ↦ absurd (false≢true (sym w.if-is_torn.false ∙ ap (λ (n : ℕ). mark c.args.torn.now n) (sym here) ∙ torn))
          | inr other ↦ c.loop-k.invariant.filled unit (omega (arith, below)) torn
        ];
      })
]
