-- The first of the extents of pages, and the pages that it has.
use Rattle.std.proofs.Common.{◌≡◌, ℕ, ◌+◌, ◌<◌, ◌≤◌, true, false, cond, List, [], ◌∷◌, ◌++◌, length, get_or, take, drop, refl, sym, ap, subst, ◌∙◌, arith}
use Rattle.std.specs.Prelude.{nat_lt, ◌==◌, ◌&&◌}
use Rattle.std.proofs.lemmas.List.{drop_more, drop_all, take_more, length-take, length-map, map-append, get_or-drop}
use Rattle.row_format.specs.Prelude.{Body, Place, page_count}
use Rattle.onode_codec.specs.declared.extent.Head.{Head}
use Rattle.onode_codec.specs.declared.extent.Start.{Start}
use Rattle.onode_codec.specs.declared.extent.Start.TheVariants.{Unit as OnUnit, Slot as OnSlot}
use Rattle.blob_map.specs.Prelude.{csum_of, alone, single, is_next, longer, more, follows, extents_from, extents_of}
use Rattle.extent_shards.specs.Prelude.{body_with, extent_with, csums_of, IsFirstRun}
use Rattle.blob_map.proofs.Back.{follows_means}

-- the first pages, as many as the head says, are in its extent, and the others are to come
pub record Grows (ps : List (ℕ × Place)) (h : Head) : Type 0 where
  pub some : 0 < h.count
  pub most : h.count ≤ 256
  pub within : h.count ≤ length ps
  pub grown : extents_of ps ≡ extents_from (extent_with h (csums_of (take h.count ps))) (drop h.count ps)

pub one_grows : (ps : List (ℕ × Place)) (h : Head) (place : Place) (d : ℕ × Place) → 0 < length ps → h.count ≡ 1
    → (h.first, place) ≡ get_or ps 0 d → body_with h.start 1 (csum_of place ∷ []) ≡ alone place → Grows ps h
one_grows [] h place d lt one is begins = absurd (omega (arith, lt))
one_grows (p ∷ ps) h place d lt one is begins = record {
  some = omega (arith, one);
  most = omega (arith, one);
  within = omega (arith, one);
  grown = ap (λ x. extents_from (single x) ps) (sym is)
      ∙ ap (λ (b : Body). extents_from (record { first = h.first; body = b }) ps) (sym begins)
      ∙ ap (λ x. extents_from (record { first = h.first; body = body_with h.start 1 (csum_of x.1 ∷ []) }) ps) is
      ∙ ap (λ n. extents_from (record { first = h.first; body = body_with h.start n (csums_of (take n (p ∷ ps))) }) (drop n (p ∷ ps))) (sym one);
}

longer_with : (s : Start) (count : ℕ) (csums : List ℕ) (place : Place)
    → longer (body_with s count csums) place ≡ body_with s (count + 1) (csums ++ csum_of place ∷ [])
longer_with (OnUnit unit) count csums place = refl
longer_with (OnSlot sbid index) count csums place = refl

pub count_with : (s : Start) (count : ℕ) (csums : List ℕ) → length csums ≡ count → page_count (body_with s count csums) ≡ count
count_with (OnUnit unit) count csums size = size
count_with (OnSlot sbid index) count csums size = refl

pub follows_with : (h : Head) (csums : List ℕ) (page : ℕ) (place : Place) → length csums ≡ h.count
    → (nat_lt h.count 256 && (page == h.first + h.count && is_next (body_with h.start h.count csums) place)) ≡ follows (extent_with h csums) (page, place)
follows_with h csums page place size =
    ap (λ n. nat_lt n 256 && (page == h.first + n && is_next (body_with h.start h.count csums) place)) (sym (count_with h.start h.count csums size))

pub count_csums : (n : ℕ) (ps : List (ℕ × Place)) → n ≤ length ps → length (csums_of (take n ps)) ≡ n
count_csums n ps le = length-map (take n ps) (λ p. csum_of p.1) ∙ omega (arith, length-take n ps, le)

pub size_of_csums : (ps : List (ℕ × Place)) (h : Head) → Grows ps h → length (csums_of (take h.count ps)) ≡ h.count
size_of_csums ps h g = count_csums h.count ps g.within

module _ (ps : List (ℕ × Place)) (h : Head) (q : ℕ × Place) (g : Grows ps h) (lt : h.count < length ps) (is : q ≡ get_or ps h.count q) where
  left_is : drop h.count ps ≡ q ∷ drop (h.count + 1) ps
  left_is = drop_more ps h.count q lt ∙ ap (λ x. x ∷ drop (h.count + 1) ps) (sym is)

  csums_more : csums_of (take (h.count + 1) ps) ≡ csums_of (take h.count ps) ++ csum_of q.1 ∷ []
  csums_more = ap csums_of (take_more ps h.count q lt ∙ ap (λ x. take h.count ps ++ x ∷ []) (sym is))
      ∙ map-append (λ p. csum_of p.1) (take h.count ps) (q ∷ [])

  pub next_grows : (h' : Head) → follows (extent_with h (csums_of (take h.count ps))) q ≡ true → h' ≡ record h { count = h.count + 1 } → Grows ps h'
  next_grows h' does is' =
      let few = (follows_means (extent_with h (csums_of (take h.count ps))) q does).few in
      let size = size_of_csums ps h g in
      let more_is : Grows ps (record h { count = h.count + 1 }) = record {
        some = omega arith;
        most = omega (arith, few, count_with h.start h.count (csums_of (take h.count ps)) size);
        within = omega (arith, lt);
        grown = g.grown ∙ ap (extents_from (extent_with h (csums_of (take h.count ps)))) left_is
            ∙ ap (λ t. cond t (extents_from (more (extent_with h (csums_of (take h.count ps))) q) (drop (h.count + 1) ps))
            (extent_with h (csums_of (take h.count ps)) ∷ extents_from (single q) (drop (h.count + 1) ps))) does
            ∙ ap (λ (b : Body). extents_from (record { first = h.first; body = b }) (drop (h.count + 1) ps)) (longer_with h.start h.count (csums_of (take h.count ps)) q.1)
            ∙ ap (λ cs. extents_from (record { first = h.first; body = body_with h.start (h.count + 1) cs }) (drop (h.count + 1) ps)) (sym csums_more);
      } in subst (Grows ps) (sym is') more_is

  pub ends_here : follows (extent_with h (csums_of (take h.count ps))) q ≡ false → IsFirstRun ps h
  ends_here doesnt = record {
    some = g.some;
    most = g.most;
    within = g.within;
    run = g.grown ∙ ap (extents_from (extent_with h (csums_of (take h.count ps)))) left_is
        ∙ ap (λ t. cond t (extents_from (more (extent_with h (csums_of (take h.count ps))) q) (drop (h.count + 1) ps))
        (extent_with h (csums_of (take h.count ps)) ∷ extents_from (single q) (drop (h.count + 1) ps))) doesnt
        ∙ ap (λ l. extent_with h (csums_of (take h.count ps)) ∷ extents_of l) (sym left_is);
  }

-- the pages end with the extent
pub ends_with_all : (ps : List (ℕ × Place)) (h : Head) → Grows ps h → length ps ≤ h.count → IsFirstRun ps h
ends_with_all ps h g le =
    let none = drop_all h.count ps le in
    record {
      some = g.some;
      most = g.most;
      within = g.within;
      run = g.grown ∙ ap (extents_from (extent_with h (csums_of (take h.count ps)))) none
          ∙ ap (λ l. extent_with h (csums_of (take h.count ps)) ∷ extents_of l) (sym none);
    }

-- the page behind those of the extent, by its place among the pages behind the first
pub next_of : (ps rest : List (ℕ × Place)) (h : Head) (i : ℕ) (q : ℕ × Place) → rest ≡ drop 1 ps → h.count ≡ i + 1 → q ≡ get_or rest i q
    → q ≡ get_or ps h.count q
next_of ps rest h i q rest_is count is =
    let n : 1 + i ≡ h.count = omega (arith, count) in
    is ∙ ap (λ l. get_or l i q) rest_is ∙ get_or-drop 1 ps i q ∙ ap (λ k. get_or ps k q) n
