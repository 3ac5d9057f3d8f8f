-- Byte strings by their pages.
use Rattle.std.proofs.Common.{◌≡◌, ◌≢◌, ◌⊎◌, inl, inr, ℕ, ◌+◌, ◌*◌, ◌/◌, ◌%◌, ◌<◌, List, ◌++◌, length, get_or, drop, refl, sym, ap, subst, ◌∙◌, arith}
use Rattle.std.specs.declared.cmp.Ordering.{Ordering}
use Rattle.std.specs.declared.cmp.Ordering.TheVariants.{Less, Equal, Greater}
use Rattle.std.specs.Cmp.{tied_itself}
use Rattle.std.specs.Cmp.Lexicographic.{nat_list_cmp_total}
use Rattle.std.proofs.lemmas.List.{get_or-take, get_or-drop, get_or_append_left, length-drop, ext_get_or}
use Rattle.byte_maps.specs.ByteMap.{byte_order}
use Rattle.byte_maps.specs.Units.{zeros}
use Rattle.byte_maps.proofs.Prelude.{same_bytes}
use Rattle.store_image.specs.Prelude.{page_bytes}

apart : (x y : List ℕ) (r : Ordering) → byte_order x y ≡ r → (r ≢ Equal) → x ≢ y
apart x y r is other e = other (sym is ∙ ap (byte_order x) (sym e) ∙ tied_itself nat_list_cmp_total x)

-- two byte strings are equal or they are not
pub equal_or_not : (x y : List ℕ) → (x ≡ y) ⊎ (x ≢ y)
equal_or_not x y =
    elim (byte_order x y) as (λ r. byte_order x y ≡ r → (x ≡ y) ⊎ (x ≢ y)) [
      | Less ↦ λ p. inr (apart x y Less p (λ e. absurd cc))
      | Equal ↦ λ p. inl (same_bytes x y p)
      | Greater ↦ λ p. inr (apart x y Greater p (λ e. absurd cc))
    ] refl

byte_in_page : (x : List ℕ) (p r : ℕ) → r < 4096 → 4096 * p + r < length x → get_or (page_bytes x p) r 0 ≡ get_or x (4096 * p + r) 0
byte_in_page x p r lt within =
    get_or-take 4096 (drop (4096 * p) x ++ zeros 4096) r 0 lt
    ∙ get_or_append_left (drop (4096 * p) x) (zeros 4096) 0 r (omega (arith, within, length-drop (4096 * p) x))
    ∙ get_or-drop (4096 * p) x r 0

-- bytes of one length with the same pages are the same
pub same_pages : (x y : List ℕ) → length x ≡ length y → ((p : ℕ) → page_bytes x p ≡ page_bytes y p) → x ≡ y
same_pages x y long h = ext_get_or 0 x y long (λ i lt.
    let p = i / 4096 in
    let r = i % 4096 in
    let is : 4096 * p + r ≡ i = omega arith in
    let small : r < 4096 = omega arith in
    subst (λ k. get_or x k 0 ≡ get_or y k 0) is
    (sym (byte_in_page x p r small (omega (arith, is, lt))) ∙ ap (λ l. get_or l r 0) (h p) ∙ byte_in_page y p r small (omega (arith, is, lt, long))))
