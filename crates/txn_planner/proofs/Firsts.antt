-- The state before the first operation, and an object as it is loaded.
use Rattle.std.proofs.Common.{◌≡◌, ◌↔◌, ℕ, List, [], Contains, Option, Some, None, refl, sym, ap, ◌∙◌, arith}
use Rattle.std.specs.Option.{option_map}
use Rattle.std.specs.FinMap as finite
use Rattle.meta_rows.specs.Prelude.{Rows}
use Rattle.unit_fields.specs.declared.width.Width.{Width}
use Rattle.row_format.specs.Prelude.{onode, Place}
use Rattle.row_format.proofs.Prelude.{same_row}
use Rattle.blob_map.specs.Prelude.{PageMap}
use Rattle.number_map.specs.NumberMap.{NumberMap}
use Rattle.number_map.proofs.Laws.{same}
use Rattle.plan_drafts.specs.Prelude.{Layout, HasLayout, IsMapOf, or_empty, or_new, size_at, draft_of, Leaves}
use Rattle.txn_planner.specs.Planning.{first_draft}

pub kept_first : (x : Option Layout) → (or_new (option_map draft_of x)).kept ≡ (or_empty x).pages
kept_first None = refl
kept_first (Some x) = refl

-- no page is left then
pub none_left : (w : Width) (rows : Rows) (c : List ℕ) (layouts : List ℕ → Option Layout) (unit : ℕ)
    → Contains [] unit ↔ Leaves layouts (first_draft w rows c layouts) unit
none_left w rows c layouts unit = (λ k. by k, λ l. absurd (let t = sym l.left ∙ ap (λ m. finite.get m l.page) (kept_first (layouts l.object)) ∙ l.stood in cc))
  where
    by : Contains [] unit → Leaves layouts (first_draft w rows c layouts) unit
    by k = absurd (omega (arith, k.1))

-- ---- the layout that an object has

module _ (w : Width) (rows : Rows) (c o : List ℕ) where
  same_pages : (pages other : PageMap) → IsMapOf w rows c o pages → IsMapOf w rows c o other → pages ≡ other
  same_pages pages other are too = same pages other (λ page. by page (finite.get pages page) refl)
    where
      by : (page : ℕ) (place : Option Place) → finite.get pages page ≡ place → place ≡ finite.get other page
      by page (Some place) is = sym ((too page place).1 ((are page place).0 is))
      by page None is = elim (finite.get other page) as (λ z. finite.get other page ≡ z → None ≡ z) [
        | None ↦ λ p. refl
        | Some place ↦ λ p. absurd (let t = sym is ∙ (are page place).1 ((too page place).0 p) in cc)
      ] refl

  -- it has one alone
  pub one_layout : (x y : Option Layout) → HasLayout w rows c o x → HasLayout w rows c o y → x ≡ y
  one_layout None None has too = refl
  one_layout None (Some y) has too = absurd (let t = sym has ∙ too.0.stands in cc)
  one_layout (Some x) None has too = absurd (let t = sym too ∙ has.0.stands in cc)
  one_layout (Some x) (Some y) has too =
      let row : onode c o x.size ≡ onode c o y.size =
      same_row w (onode c o x.size) (onode c o y.size) has.0.fits too.0.fits refl (let t = sym has.0.stands ∙ too.0.stands in cc) in
      let size : x.size ≡ y.size = cc in
      let pages : x.pages ≡ y.pages = same_pages x.pages y.pages has.1 too.1 in
      λ i. Some (record { size = size i; pages = pages i })

-- ---- its draft

pub some_drafted : (size : ℕ) (pages : PageMap) (puts : NumberMap ℕ) → puts ≡ finite.empty → (layout : Option Layout) → Some size ≡ size_at layout
    → pages ≡ (or_empty layout).pages → Some (record { size = size; kept = pages; puts = puts }) ≡ option_map draft_of layout
some_drafted size pages puts none None sized are = absurd cc
some_drafted size pages puts none (Some x) sized are =
    let e : size ≡ x.size = cc in λ i. Some (record { size = e i; kept = are i; puts = none i })

pub none_drafted : (layout : Option Layout) → None ≡ size_at layout → None ≡ option_map draft_of layout
none_drafted None sized = refl
none_drafted (Some x) sized = absurd cc
