use Rattle.std.proofs.Common.{◌≡◌, ℕ, min, ◌∙◌, ap, take, length, arith}
use Rattle.end_points.proofs.BayLemmas.{resized_front}
use Rattle.end_points.proofs.memory_bay.resize.Goals as goal

pub returns : goal.returns
returns c =
    let front = rw c.in_ok-made.ensures.items at c.in_ok-extend_from_slice.ensures.items in
    let least : c.min.result ≡ min (length c.args.bytes.now) c.args.size = omega arith in
    c.in_ok-resize.ensures.items
    ∙ resized_front c.args.size _ c.args.bytes.now c.extend_from_slice.new.self.items (front ∙ ap (λ (n : ℕ). take n c.args.bytes.now) least) (omega arith)
