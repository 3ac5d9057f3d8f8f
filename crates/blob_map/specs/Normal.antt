-- Extents in normal form: the longest runs of consecutive pages on consecutive units, or on consecutive slots of one blob, cut at 256 pages.
use Rattle.std.specs.Prelude.{◌≡◌, ℕ, ◌+◌, ◌<◌, ◌==◌, ◌&&◌, nat_lt, Bool, false, if◌then◌else◌, List, [], ◌∷◌, ◌++◌, length, Option, Some, None}
use Rattle.row_format.specs.Prelude.{Extent, Body, private, shared, Place, own, slot, page_count, page_end}
use Rattle.blob_map.specs.Pages.{csum_of}

-- one page at its place
abbrev pub alone : Place → Body
alone (own unit csum) = private unit (csum ∷ [])
alone (slot sbid index) = shared sbid index 1

-- the extent of one page
abbrev pub single : ℕ × Place → Extent
single p = record { first = p.0; body = alone p.1 }

-- whether a place is the next behind those of a body
abbrev pub is_next : Body → Place → Bool
is_next (private unit csums) (own at csum) = at == unit + length csums
is_next (shared sbid first count) (slot blob index) = blob == sbid && index == first + count
is_next body place = false

-- whether a page may be an extent's next
abbrev pub follows : Extent → ℕ × Place → Bool
follows e p = nat_lt (page_count e.body) 256 && (p.0 == page_end e && is_next e.body p.1)

-- a body with one page more
abbrev pub longer : Body → Place → Body
longer (private unit csums) place = private unit (csums ++ csum_of place ∷ [])
longer (shared sbid first count) place = shared sbid first (count + 1)

-- an extent with one page more
abbrev pub more : Extent → ℕ × Place → Extent
more e p = record { first = e.first; body = longer e.body p.1 }

-- the extents of pages that come after an extent, with that extent
abbrev pub extents_from : Extent → List (ℕ × Place) → List Extent
extents_from e [] = e ∷ []
extents_from e (p ∷ ps) = if follows e p then extents_from (more e p) ps else e ∷ extents_from (single p) ps

-- the extents of pages
abbrev pub extents_of : List (ℕ × Place) → List Extent
extents_of [] = []
extents_of (p ∷ ps) = extents_from (single p) ps

-- the same where there may be an extent already that the first page follows
abbrev pub extents_finished : Option Extent → List (ℕ × Place) → List Extent
extents_finished None ps = extents_of ps
extents_finished (Some e) ps = extents_from e ps

-- the second body begins on the unit or the slot behind the first one's last
abbrev pub IsBehind : Body → Body → Type 0
IsBehind (private unit csums) (private other more) = other ≡ unit + length csums
IsBehind (shared sbid first count) (shared blob index more) = (blob ≡ sbid) × (index ≡ first + count)
IsBehind body other = ⊥

-- the second extent begins where the first ends, on the next unit or slot, and the first has fewer than 256 pages
pub record Joins (e f : Extent) : Type 0 where
  pub few : page_count e.body < 256
  pub page : f.first ≡ page_end e
  pub next : IsBehind e.body f.body

-- no extent could take a page of its neighbour
abbrev pub NoneJoins : List Extent → Type 0
NoneJoins [] = Unit {0}
NoneJoins (e ∷ []) = Unit {0}
NoneJoins (e ∷ f ∷ es) = ¬ Joins e f × NoneJoins (f ∷ es)
