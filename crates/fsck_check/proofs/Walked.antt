-- The rows one after the other, and the pages of each.
use Rattle.std.proofs.Common.{◌≡◌, ℕ, ◌<◌, List, ◌++◌, length, get_or, map, sym, ap, subst, ◌∙◌}
use Rattle.unit_fields.specs.declared.width.Width.{Width}
use Rattle.meta_rows.specs.Prelude.{Rows}
use Rattle.meta_log.specs.declared.slot.Super.{Super}
use Rattle.meta_log.specs.Prelude.{width_of}
use Rattle.store_image.specs.Prelude.{NoBadRow}
use Rattle.row_format.specs.Row as format
use Rattle.row_reading.specs.Reading.{SpellsRow}
use Rattle.row_reading.proofs.Entries.{AreRows, entry_is}
use Rattle.row_check.proofs.Walk.{has_spelled}
use Rattle.row_check.proofs.MarkedRows.{RowAt, spells_within}
use Rattle.findings.specs.declared.finding.Finding.{Finding}
use Rattle.findings.specs.Findings.{PageSum}
use Rattle.fsck_check.specs.Sums.{UnitSum, row_places, SpellsInside, FindsBadSums, AddsSums}
use Rattle.fsck_check.proofs.Adding.{sums_joined}
use Rattle.fsck_check.proofs.Pages.{unit_sum, map_joined}
use Rattle.fsck_check.proofs.Rows.{row_pages, row_places_are}
use Rattle.fsck_check.proofs.Spelled.{row_inside}

pub row_here : (w : Width) (es : List (List ℕ × List ℕ)) (i : ℕ) (x : List ℕ × List ℕ) (key value : List ℕ) → i < length es → x ≡ get_or es i x
    → key ≡ x.0 → value ≡ x.1 → (row : format.Row) → SpellsRow w key value row → RowAt w es i row
row_here w es i x key value lt is k v row spells d =
    subst (λ (e : List ℕ × List ℕ). SpellsRow w e.0 e.1 row) (sym (entry_is es i x key value lt is k v d)) spells

-- the row at this place is one of the table's, and its pages stand on units of the device
pub spells_inside : (s : Super) (rows : Rows) → NoBadRow s rows → (es : List (List ℕ × List ℕ)) → AreRows rows es → (i : ℕ) (x : List ℕ × List ℕ) (key value : List ℕ)
    → i < length es → x ≡ get_or es i x → key ≡ x.0 → value ≡ x.1 → SpellsInside (width_of s) rows key value s.units
spells_inside s rows good es are i x key value lt is k v =
    let here = spells_within s rows good es are i x key value lt is k v in
    let has = has_spelled (width_of s) rows es are i x here.row lt (row_here (width_of s) es i x key value lt is k v here.row here.spells x) in
    record { row = here.row; spells = here.spells; inside = row_inside s rows good here.row has }

pub row_summed : (w : Width) (rows : Rows) (held : ℕ → List ℕ → Type 0) (row : format.Row) (pages : List PageSum) (old new : List Finding) → FindsBadSums held (map unit_sum pages) old
    → AddsSums held (row_places w rows row) old new → FindsBadSums held (map unit_sum (pages ++ row_pages w rows row)) new
row_summed w rows held row pages old new sums adds =
    let places : map unit_sum (pages ++ row_pages w rows row) ≡ map unit_sum pages ++ row_places w rows row =
    map_joined pages (row_pages w rows row) ∙ ap (λ (l : List UnitSum). map unit_sum pages ++ l) (row_places_are w rows row) in
    subst (λ (l : List UnitSum). FindsBadSums held l new) (sym places)
    (subst (FindsBadSums held (map unit_sum pages ++ row_places w rows row)) (sym adds.1) (sums_joined held (map unit_sum pages) (row_places w rows row) old adds.0 sums adds.2))
