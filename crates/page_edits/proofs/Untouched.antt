-- Ranges of no bytes touch no page.
use Rattle.std.proofs.Common.{◌≡◌, ℕ, ◌+◌, ◌/◌, ◌≤◌, Bool, true, false, not, List, [], ◌∷◌, refl, sym, ap, ◌∙◌}
use Rattle.std.specs.Prelude.{◌&&◌}
use Rattle.std.specs.Ordering.{nat_cmp}
use Rattle.std.specs.FinMap as finite
use Rattle.std.specs.FinMap.Entries.{where_key}
use Rattle.std.proofs.lemmas.Bool.{le-ltb}
use Rattle.number_map.specs.NumberMap.{NumberMap, is_key_in}
use Rattle.number_map.proofs.Laws.{same}
use Rattle.row_format.specs.Prelude.{Place}
use Rattle.blob_map.specs.Prelude.{PageMap}
use Rattle.plan_drafts.specs.Edits.{has_bytes_of}

none_kept : (es : List (ℕ × Place)) → where_key nat_cmp (λ page. false) es ≡ []
none_kept [] = refl
none_kept (e ∷ es) = none_kept es

-- a map without those keys that fail a test which all pass is as it was
pub none_retained : {X : Type 0} (m : NumberMap X) → finite.retain_keys m (λ key. true) ≡ m
none_retained m = same (finite.retain_keys m (λ key. true)) m (λ q. finite.get-retain_keys m (λ key. true) q (λ x e. refl))

module _ (off end : ℕ) (kept : PageMap) (none : end ≤ off) where
  abbrev by : Bool → ℕ → Bool
  by b page = b && is_key_in (off / 4096) ((end + 4095) / 4096) page

  pub all_stay : kept ≡ finite.retain_keys kept (λ page. not (has_bytes_of off end page))
  all_stay = sym (ap (λ b. finite.retain_keys kept (λ page. not (by b page))) (le-ltb off end none)
      ∙ none_retained kept)

  pub none_left : [] ≡ where_key nat_cmp (has_bytes_of off end) (finite.entries kept)
  none_left = sym (ap (λ b. where_key nat_cmp (by b) (finite.entries kept)) (le-ltb off end none) ∙ none_kept (finite.entries kept))
