-- One page more or one less names a slot.
use Rattle.std.specs.Prelude.{◌≡◌, ◌≢◌, ◌⊎◌, ◌↔◌, ℕ, ◌+◌}
use Rattle.unit_fields.specs.declared.width.Width.{Width}
use Rattle.meta_rows.specs.Prelude.{Rows}
use Rattle.row_format.specs.Prelude.{Slot}
use Rattle.store_image.specs.Pages.{HasSlot}
use Rattle.store_image.specs.Owners.{PageName, Names}

-- the slots of two rows are the same, but that this one's counts are so in the first and so in the second
pub record CountsMove (w : Width) (rows later : Rows) (sbid index before after : ℕ) : Type 0 where
  pub there : (at : ℕ) (x : Slot) → HasSlot w later sbid index at x → x.count ≡ after
  pub was : (at : ℕ) (x : Slot) → HasSlot w later sbid index at x → (y : Slot) × (HasSlot w rows sbid index at y × (y.count ≡ before))
  pub others : (s k at : ℕ) (x : Slot) → (s ≢ sbid) ⊎ (k ≢ index) → HasSlot w later s k at x ↔ HasSlot w rows s k at x

-- the page, which named no slot, names this one
pub record NamesOneMore (w : Width) (rows later : Rows) (page : PageName) (sbid index count : ℕ) : Type 0 where
  pub not_before : (s k : ℕ) → ¬ Names w rows s k page
  pub now : (s k : ℕ) → Names w later s k page ↔ ((s ≡ sbid) × (k ≡ index))
  pub others : (p : PageName) (s k : ℕ) → p ≢ page → Names w later s k p ↔ Names w rows s k p
  pub counts : CountsMove w rows later sbid index count (count + 1)

-- the page, which named this slot, names none
pub record NamesOneLess (w : Width) (rows later : Rows) (page : PageName) (sbid index count : ℕ) : Type 0 where
  pub before : (s k : ℕ) → Names w rows s k page ↔ ((s ≡ sbid) × (k ≡ index))
  pub not_now : (s k : ℕ) → ¬ Names w later s k page
  pub others : (p : PageName) (s k : ℕ) → p ≢ page → Names w later s k p ↔ Names w rows s k p
  pub counts : CountsMove w rows later sbid index (count + 1) count
