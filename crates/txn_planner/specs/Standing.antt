-- Units that a transaction takes, by the numbers of their takings, and those of them on which pages stand at its end.
use Rattle.std.specs.Prelude.{◌≡◌, ◌⊎◌, ◌↔◌, ℕ, List, Some}
use Rattle.std.specs.FinMap as finite
use Rattle.byte_maps.specs.ByteMap.{ByteMap}
use Rattle.number_map.specs.NumberMap.{NumberMap}
use Rattle.bitmap_freelist.specs.Bitmap.{Units, Has}
use Rattle.plan_drafts.specs.declared.draft.Draft.{Draft}
use Rattle.txn_planner.specs.declared.touched.Touched.{Touched}

-- the set got the numbers that these are, and no others
abbrev pub GetsNumbers : (ℕ → Type 0) → Units → Units → Type 0
GetsNumbers IsOne old new = (n : ℕ) → Has new n ↔ (Has old n ⊎ IsOne n)

-- a page was put by the taking
abbrev pub IsPutBy : NumberMap ℕ → ℕ → Type 0
IsPutBy puts taking = (page : ℕ) × (finite.get puts page ≡ Some taking)

-- a page of the object was
pub record IsPutOf (t : Touched) (taking : ℕ) : Type 0 where
  pub draft : Draft
  pub there : t.now ≡ Some draft
  pub put : IsPutBy draft.puts taking

-- a page of one of the objects was
pub record IsPutIn (objects : ByteMap Touched) (taking : ℕ) : Type 0 where
  pub object : List ℕ
  pub touched : Touched
  pub among : finite.get objects object ≡ Some touched
  pub put : IsPutOf touched taking
