-- Where the pages of extents end.
use Rattle.std.proofs.Common.{◌↔◌, ℕ, ◌+◌, ◌<◌, ◌≤◌, ◌^◌, List, [], ◌∷◌, ◌++◌, arith}
use Rattle.std.specs.List.{AllByRecursion}
use Rattle.row_format.specs.Prelude.{Extent, page_end}
use Rattle.row_format.specs.Row as format
use Rattle.ordered_lists.proofs.Joining.{all_joined}
use Rattle.row_reading.specs.declared.row.Row.{Row}
use Rattle.row_reading.specs.declared.row.Row.TheVariants as read
use Rattle.row_reading.specs.Reading.{format_row}
use Rattle.unit_fields.specs.declared.width.Width.{Width}
use Rattle.row_format.specs.Prelude.{Body, private, shared, page_count, FitsExtent, FitsBody}
use Rattle.row_check.specs.declared.passed.Passed.{Passed}
use Rattle.row_check.specs.Bad.{IsShardOf, IsEndOf, EndsWith, HasLowPages}

pub none_ends : IsEndOf [] 0
none_ends = λ page. (λ le. tt, λ all. omega arith)

all_split : (P : Extent → Type 0) (xs : List Extent) (y : Extent) → AllByRecursion P (xs ++ y ∷ []) → AllByRecursion P xs × P y
all_split P [] y all = (tt, all.0)
all_split P (x ∷ xs) y all = let rest = all_split P xs y all.1 in ((all.0, rest.0), rest.1)

-- one extent more
pub end_more : (es : List Extent) (e : Extent) (end new : ℕ) → IsEndOf es end → ((page : ℕ) → (new ≤ page) ↔ ((page_end e ≤ page) × (end ≤ page))) → IsEndOf (es ++ e ∷ []) new
end_more es e end new old more = λ page. (
  λ le. let two = (more page).0 le in all_joined (λ x. page_end x ≤ page) es (e ∷ []) ((old page).0 two.1) (two.0, tt),
  λ all. let two = all_split (λ x. page_end x ≤ page) es e all in (more page).1 (two.1, (old page).1 two.0),
)

-- a shard of the same object as the last one, and one of another
pub ends_with_own : (p : Passed) (c o : List ℕ) (first : ℕ) (es : List Extent) (end new : ℕ) → IsShardOf p.last c o → IsEndOf es end
    → ((page : ℕ) → (new ≤ page) ↔ ((end ≤ page) × (p.end ≤ page))) → EndsWith p (read.Shard c o first es) new
ends_with_own p c o first es end new own is more = λ page. (
  λ le. let two = (more page).0 le in (λ same. two.1, (is page).0 two.0),
  λ both. (more page).1 ((is page).1 both.1, both.0 own),
)

pub ends_with_other : (p : Passed) (c o : List ℕ) (first : ℕ) (es : List Extent) (end : ℕ) → (IsShardOf p.last c o → ⊥) → IsEndOf es end
    → EndsWith p (read.Shard c o first es) end
ends_with_other p c o first es end other is = λ page. (λ le. (λ own. absurd (other own), (is page).0 le), λ both. (is page).1 both.1)

-- a row that fits its fields
low_body : (w : Width) (first : ℕ) (body : Body) → first < 2 ^ 32 → FitsBody w body → first + page_count body < 2 ^ 33
low_body w first (private unit csums) low fits = omega (arith, low, fits.2)
low_body w first (shared sbid index count) low fits = omega (arith, low, fits.3)

low_extents : (w : Width) (es : List Extent) → AllByRecursion (FitsExtent w) es → AllByRecursion (λ e. page_end e < 2 ^ 33) es
low_extents w [] fit = tt
low_extents w (e ∷ es) fit = (low_body w e.first e.body fit.0.first fit.0.body, low_extents w es fit.1)

pub low_pages : (w : Width) (row : Row) (value : List ℕ) → format.FitsRow w (format_row row value) → HasLowPages row
low_pages w (read.Shard c o page es) value fits = low_extents w es fits.fit
low_pages w (read.Collection d) value fits = tt
low_pages w (read.Onode d u size) value fits = tt
low_pages w (read.Attribute d u n) value fits = tt
low_pages w (read.OmapHeader d u) value fits = tt
low_pages w (read.OmapPair d u k) value fits = tt
low_pages w (read.Blob sbid first slots) value fits = tt
low_pages w (read.Bitmap r bits) value fits = tt
