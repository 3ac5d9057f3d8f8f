-- The pages of no bytes.
use Rattle.std.proofs.Common.{◌≡◌, ℕ, [], ◌++◌, take, ap, ◌∙◌, arith, take_all, drop_of_length-le}
use Rattle.byte_maps.specs.Units.{zeros}
use Rattle.byte_maps.proofs.Prelude.{length-zeros}
use Rattle.store_image.specs.Prelude.{page_bytes}

pub no_pages : (page : ℕ) → page_bytes [] page ≡ zeros 4096
no_pages page =
    ap (λ l. take 4096 (l ++ zeros 4096)) (drop_of_length-le [] (omega arith))
    ∙ take_all 4096 (zeros 4096) (omega (arith, length-zeros 4096))
