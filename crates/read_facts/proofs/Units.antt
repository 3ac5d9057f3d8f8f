-- Units read by the checksums that are kept.
use Rattle.std.proofs.Common.{◌≡◌, ℕ, List, [], ◌∷◌, ◌++◌, Option, Some, None}
use Rattle.std.specs.Prelude.{MatchOption}
use Rattle.crc32c_csum.specs.Prelude.{crc32c}
use Rattle.store_image.specs.Prelude.{PageUnit}
use Rattle.read_facts.specs.Prelude.{IsRead, IsFound, AreGoodUnits}

module _ (memory : ℕ → Option (List ℕ)) (held : ℕ → List ℕ → Type 0) where
  -- good units behind others
  pub good_append : (front units : List PageUnit) (before read : List (List ℕ)) → AreGoodUnits memory held front before
      → AreGoodUnits memory held units read → AreGoodUnits memory held (front ++ units) (before ++ read)
  good_append [] units [] read good more = more
  good_append [] units (b ∷ before) read good more = absurd good
  good_append (p ∷ front) units [] read good more = absurd good
  good_append (p ∷ front) units (b ∷ before) read good more = (good.0, good_append front units before read good.1 more)

  -- what a good unit gives is what it is found to hold
  pub good_is_found : (on : PageUnit) (bytes : List ℕ) → IsRead memory held on bytes → IsFound memory held on.unit bytes
  good_is_found on bytes = by (memory on.unit)
    where
      by : (copy : Option (List ℕ)) → MatchOption copy (held on.unit bytes × (crc32c bytes ≡ on.csum)) (λ b. bytes ≡ b)
          → MatchOption copy (held on.unit bytes) (λ b. bytes ≡ b)
      by None is = is.0
      by (Some b) is = is
