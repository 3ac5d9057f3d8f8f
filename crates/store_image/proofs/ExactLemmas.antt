-- How exactness goes from rows to rows, and from image to image.
use Rattle.std.proofs.Common.{◌↔◌, inl, inr, ⊎_elim, ℕ, List, subst}
use Rattle.unit_fields.specs.declared.width.Width.{Width}
use Rattle.meta_rows.specs.Prelude.{Rows}
use Rattle.meta_log.specs.declared.slot.Super.{Super}
use Rattle.meta_log.specs.Prelude.{AreRowsOf, width_of, IsActiveSlot}
use Rattle.meta_log.proofs.SlotLemmas.{same_active}
use Rattle.store_image.specs.Prelude.{IsLeaked, IsExactBut, IsExactAs, IsInexact, IsExactImageBut, IsExactImage, IsLeakedIn, StaysExact}
use Rattle.store_image.proofs.OneObjects.{same_rows}
use Rattle.store_image.proofs.Counting.{one_count}

-- ---- rows

-- where the leaked ones that a statement names are others, among which is each marked unit without an owner
pub renamed : (w : Width) (leaked others : ℕ → Type 0) (rows : Rows)
    → ((unit : ℕ) → IsLeaked w rows unit → leaked unit → others unit) → IsExactBut w leaked rows → IsExactBut w others rows
renamed w leaked others rows there exact = record {
  marked = λ unit small is. ⊎_elim (λ owned. inl owned)
      (λ was. inr (there unit (record { is_unit = small; marked = is; unowned = was.1 }) was.0, was.1)) (exact.marked unit small is);
  owned_marked = exact.owned_marked;
  one_owner = exact.one_owner;
  counts = exact.counts;
}

pub as_itself : (w : Width) (leaked : ℕ → Type 0) (rows : Rows) → IsExactBut w leaked rows → IsExactAs w rows rows
as_itself w leaked rows exact = record {
  marked = λ unit small is. ⊎_elim (λ owned. inl owned)
      (λ was. inr (record { is_unit = small; marked = is; unowned = was.1 }, was.1)) (exact.marked unit small is);
  owned_marked = exact.owned_marked;
  one_owner = exact.one_owner;
  counts = exact.counts;
}

-- a marked unit that nobody owns is one of those that are left out
pub is_left_out : (w : Width) (leaked : ℕ → Type 0) (rows : Rows) (unit : ℕ) → IsExactBut w leaked rows → IsLeaked w rows unit → leaked unit
is_left_out w leaked rows unit exact is = ⊎_elim (λ owned. absurd (is.unowned owned)) (λ was. was.0) (exact.marked unit is.is_unit is.marked)

pub no_new_leaks : (w : Width) (first rows : Rows) (unit : ℕ) → IsExactAs w first rows → IsLeaked w rows unit → IsLeaked w first unit
no_new_leaks w first rows unit exact = is_left_out w (IsLeaked w first) rows unit exact

pub exact_onward : (w : Width) (first rows later : Rows) → IsExactAs w first rows → IsExactAs w rows later → IsExactAs w first later
exact_onward w first rows later exact more =
    renamed w (IsLeaked w rows) (IsLeaked w first) later (λ unit _ is. no_new_leaks w first rows unit exact is) more

pub no_inexact : (w : Width) (leaked : ℕ → Type 0) (rows : Rows) → IsExactBut w leaked rows → (unit : ℕ) → ¬ IsInexact w rows unit
no_inexact w leaked rows exact unit is = ⊎_elim (λ x. x.1 (exact.owned_marked unit x.0))
    (λ more. ⊎_elim (λ x. x (exact.one_owner unit))
    (λ x. x.differs (one_count w rows x.sbid x.index x.counted x.is.count x.is_counted (exact.counts x.sbid x.index unit x.is x.has_slot))) more) is

-- ---- images

-- an image by its slot and its rows
pub by_rows : (leaked : ℕ → Type 0) (image : List ℕ) (s : Super) (rows : Rows) → IsActiveSlot image s → AreRowsOf image s rows
    → IsExactImageBut leaked image → IsExactBut (width_of s) leaked rows
by_rows leaked image s rows active read exact =
    let is_super = same_active image exact.super s exact.active active in
    let are_rows = same_rows image s exact.rows rows (subst (λ t. AreRowsOf image t exact.rows) is_super exact.read) read in
    subst (λ r. IsExactBut (width_of s) leaked r) are_rows exact.exact

pub leaked_by_rows : (image : List ℕ) (s : Super) (rows : Rows) (unit : ℕ) → IsActiveSlot image s → AreRowsOf image s rows
    → IsLeakedIn image unit ↔ IsLeaked (width_of s) rows unit
leaked_by_rows image s rows unit active read = (there, λ is. record { super = s; active = active; rows = rows; read = read; leaked = is })
  where
    there : IsLeakedIn image unit → IsLeaked (width_of s) rows unit
    there is =
        let is_super = same_active image is.super s is.active active in
        let are_rows = same_rows image s is.rows rows (subst (λ t. AreRowsOf image t is.rows) is_super is.read) read in
        subst (λ r. IsLeaked (width_of s) r unit) are_rows is.leaked

pub as_image : (before : List ℕ) (s : Super) (first rows : Rows) → IsActiveSlot before s → AreRowsOf before s first
    → IsExactAs (width_of s) first rows → IsExactBut (width_of s) (IsLeakedIn before) rows
as_image before s first rows active read exact =
    renamed (width_of s) (IsLeaked (width_of s) first) (IsLeakedIn before) rows
    (λ unit _ is. (leaked_by_rows before s first unit active read).1 is) exact

pub as_rows : (before : List ℕ) (s : Super) (first rows : Rows) → IsActiveSlot before s → AreRowsOf before s first
    → IsExactBut (width_of s) (IsLeakedIn before) rows → IsExactAs (width_of s) first rows
as_rows before s first rows active read exact =
    renamed (width_of s) (IsLeakedIn before) (IsLeaked (width_of s) first) rows
    (λ unit _ is. (leaked_by_rows before s first unit active read).0 is) exact

pub stays_exact : (before image : List ℕ) → StaysExact before image → IsExactImage before → IsExactImage image
stays_exact before image stays is =
    let none : (unit : ℕ) → ¬ IsLeakedIn before unit
    = λ unit leaked. is_left_out (width_of is.super) (λ u. ⊥) is.rows unit is.exact
    ((leaked_by_rows before is.super is.rows unit is.active is.read).0 leaked) in
    let before_is : IsExactImageBut (IsLeakedIn before) before = record {
      super = is.super;
      active = is.active;
      rows = is.rows;
      read = is.read;
      exact = renamed (width_of is.super) (λ u. ⊥) (IsLeakedIn before) is.rows (λ unit _ never. absurd never) is.exact;
    } in
    let after = stays before_is in
    record {
      super = after.super;
      active = after.active;
      rows = after.rows;
      read = after.read;
      exact = renamed (width_of after.super) (IsLeakedIn before) (λ u. ⊥) after.rows (λ unit _ leaked. none unit leaked) after.exact;
    }

-- what is leaked then was leaked before
pub stays_leaks : (before image : List ℕ) (unit : ℕ) → StaysExact before image → IsExactImageBut (IsLeakedIn before) before
    → IsLeakedIn image unit → IsLeakedIn before unit
stays_leaks before image unit stays is leaked =
    let after = stays is in
    is_left_out (width_of after.super) (IsLeakedIn before) after.rows unit after.exact
    ((leaked_by_rows image after.super after.rows unit after.active after.read).0 leaked)

pub stays_onward : (before image later : List ℕ) → StaysExact before image → StaysExact image later → StaysExact before later
stays_onward before image later stays more is =
    let there = stays is in
    let by_image : IsExactImageBut (IsLeakedIn image) image = record {
      super = there.super;
      active = there.active;
      rows = there.rows;
      read = there.read;
      exact = as_image image there.super there.rows there.rows there.active there.read
          (as_itself (width_of there.super) (IsLeakedIn before) there.rows there.exact);
    } in
    let after = more by_image in
    let first = as_rows before is.super is.rows there.rows is.active is.read there.exact in
    let second = as_rows image there.super there.rows after.rows there.active there.read after.exact in
    record {
      super = after.super;
      active = after.active;
      rows = after.rows;
      read = after.read;
      exact = as_image before is.super is.rows after.rows is.active is.read
          (exact_onward (width_of is.super) is.rows there.rows after.rows first second);
    }

pub stays_by_rows : (before image : List ℕ) (s : Super) (rows : Rows) → IsActiveSlot before s → AreRowsOf before s rows
    → IsActiveSlot image s → AreRowsOf image s rows → StaysExact before image
stays_by_rows before image s rows active read active' read' is =
    record { super = s; active = active'; rows = rows; read = read'; exact = by_rows (IsLeakedIn before) before s rows active read is }

pub stays_from_rows : (before image : List ℕ) (s : Super) (first rows : Rows) → IsActiveSlot before s → AreRowsOf before s first
    → IsActiveSlot image s → AreRowsOf image s rows → IsExactAs (width_of s) first rows → StaysExact before image
stays_from_rows before image s first rows active read active' read' exact is =
    record { super = s; active = active'; rows = rows; read = read'; exact = as_image before s first rows active read exact }
