use Rattle.std.proofs.Common.{◌≡◌, ℕ, List, ◌++◌, ap, ap₂, ◌∙◌}
use Rattle.std.specs.Int.{w32, to_le_bytes}
use Rattle.byte_maps.specs.Units.{zeros}
use Rattle.crc32c_csum.specs.Prelude.{crc32c}
use Rattle.meta_log.proofs.slot.Super.write.Goals as goal
use Rattle.meta_log.specs.Prelude.{super_fields}

pub returns : goal.returns
returns c =
    let body : c.fill.new.front.items ≡ super_fields c.args.self.now = c.in_ok-fill.ensures ∙ ap (λ (f : List ℕ). f ++ zeros 4052) c.in_ok-unit.ensures in
    let sum : c.crc32c-sum.result ≡ crc32c (super_fields c.args.self.now) = c.crc32c-sum.ensures ∙ ap crc32c (c.deref.ensures.value ∙ body) in
    c.in_ok-push_u32_le.ensures.ok ∙ ap₂ (λ (b : List ℕ) (n : ℕ). b ++ to_le_bytes w32 n) body sum
