-- Shards of extents, joined, are the extents, and each is within the bound.
use Rattle.std.proofs.Common.{◌≡◌, inl, inr, ℕ, true, false, cond, List, [], ◌∷◌, ◌++◌, length, Option, refl, sym, ap, subst, ◌∙◌, append_assoc, append-nil}
use Rattle.std.specs.List.{flat_map, AllByRecursion}
use Rattle.std.specs.FinMap as finite
use Rattle.std.proofs.lemmas.Bool.{cases_Bool}
use Rattle.std.proofs.lemmas.List.Concat.{flat_map-append}
use Rattle.number_map.proofs.Laws.{same}
use Rattle.unit_fields.specs.declared.width.Width.{Width}
use Rattle.row_format.specs.Prelude.{Extent}
use Rattle.blob_map.specs.Prelude.{PageMap, extent_pages, with_pages, extents_of}
use Rattle.blob_map.proofs.Forms.{extents_places, extents_ascend}
use Rattle.blob_map.proofs.Lay.{laid_append}
use Rattle.blob_map.proofs.Places.{laid_alone}
use Rattle.extent_shards.specs.Prelude.{shard_bytes, is_within, shards_from, shards_of, IsBounded, joined_extents, joined_map}

pub join_one_more : (shards : List (List Extent)) (shard : List Extent)
    → joined_map (shards ++ shard ∷ []) ≡ with_pages (joined_map shards) (flat_map extent_pages shard)
join_one_more shards shard =
    let all : joined_extents (shards ++ shard ∷ []) ≡ joined_extents shards ++ shard =
    flat_map-append (λ es. es) shards (shard ∷ []) ∙ ap (λ l. joined_extents shards ++ l) (append-nil shard) in
    ap (λ es. with_pages finite.empty (flat_map extent_pages es)) all
    ∙ ap (with_pages finite.empty) (flat_map-append extent_pages (joined_extents shards) shard)
    ∙ laid_append finite.empty (flat_map extent_pages (joined_extents shards)) (flat_map extent_pages shard)

module _ (w : Width) (bound : Option ℕ) where
  -- the extent joins the shard, or begins the next
  module _ (shard : List Extent) (e : Extent) (es : List Extent) where
    joins : is_within bound (length (shard_bytes w (shard ++ e ∷ []))) ≡ true
        → shards_from w bound shard (e ∷ es) ≡ shards_from w bound (shard ++ e ∷ []) es
    joins is = ap (λ t. cond t (shards_from w bound (shard ++ e ∷ []) es) (shard ∷ shards_from w bound (e ∷ []) es)) is

    begins : is_within bound (length (shard_bytes w (shard ++ e ∷ []))) ≡ false
        → shards_from w bound shard (e ∷ es) ≡ shard ∷ shards_from w bound (e ∷ []) es
    begins is = ap (λ t. cond t (shards_from w bound (shard ++ e ∷ []) es) (shard ∷ shards_from w bound (e ∷ []) es)) is

  from_back : (es shard : List Extent) → joined_extents (shards_from w bound shard es) ≡ shard ++ es
  from_back [] shard = refl
  from_back (e ∷ es) shard = elim (cases_Bool (is_within bound (length (shard_bytes w (shard ++ e ∷ []))))) [
    | inl is ↦ ap joined_extents (joins shard e es is) ∙ from_back es (shard ++ e ∷ []) ∙ append_assoc shard (e ∷ []) es
    | inr is ↦ ap joined_extents (begins shard e es is) ∙ ap (λ l. shard ++ l) (from_back es (e ∷ []))
  ]

  pub shards_back : (es : List Extent) → joined_extents (shards_of w bound es) ≡ es
  shards_back [] = refl
  shards_back (e ∷ es) = from_back es (e ∷ [])

  pub join_of_split : (pages : PageMap) → joined_map (shards_of w bound (extents_of (finite.entries pages))) ≡ pages
  join_of_split pages =
      let es = extents_of (finite.entries pages) in
      ap (λ l. with_pages finite.empty (flat_map extent_pages l)) (shards_back es)
      ∙ same (with_pages finite.empty (flat_map extent_pages es)) pages
      (λ page. laid_alone es (extents_ascend pages) page ∙ extents_places pages page)

  from_bounded : (es shard : List Extent) → IsBounded w bound shard → AllByRecursion (IsBounded w bound) (shards_from w bound shard es)
  from_bounded [] shard is = (is, tt)
  from_bounded (e ∷ es) shard is = elim (cases_Bool (is_within bound (length (shard_bytes w (shard ++ e ∷ []))))) [
    | inl does ↦ subst (AllByRecursion (IsBounded w bound)) (sym (joins shard e es does)) (from_bounded es (shard ++ e ∷ []) (inl does))
    | inr not ↦ subst (AllByRecursion (IsBounded w bound)) (sym (begins shard e es not)) (is, from_bounded es (e ∷ []) (inr refl))
  ]

  pub shards_bounded : (es : List Extent) → AllByRecursion (IsBounded w bound) (shards_of w bound es)
  shards_bounded [] = tt
  shards_bounded (e ∷ es) = from_bounded es (e ∷ []) (inr refl)
