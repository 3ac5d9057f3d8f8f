-- Objects that a transaction has looked at.
use Rattle.std.specs.Prelude.{◌≡◌, ℕ, true, false, List, Option, Some, None}
use Rattle.std.specs.FinMap as finite
use Rattle.unit_fields.specs.Prelude.{IsName}
use Rattle.meta_rows.specs.Prelude.{Rows}
use Rattle.row_format.specs.Prelude.{Place}
use Rattle.plan_drafts.specs.declared.draft.Draft.{Draft}
use Rattle.plan_drafts.specs.Prelude.{Layout, or_empty, size_at, or_new}
use Rattle.object_rows.specs.Shards.{AreShards}
use Rattle.txn_planner.specs.declared.touched.Touched.{Touched}

-- a page of the object stood somewhere, and doesn't stand there any more
pub record HasLeft (layout : Option Layout) (now : Option Draft) : Type 0 where
  pub page : ℕ
  pub place : Place
  pub stood : finite.get (or_empty layout).pages page ≡ Some place
  pub left : finite.get (or_new now).kept page ≡ None

-- The object had this layout before the transaction, and these shards, and stands so now; and it is known whether a page of it was left.
pub record IsTouched (rows : Rows) (c o : List ℕ) (layout : Option Layout) (now : Option Draft) (t : Touched) : Type 0 where
  pub named : IsName o
  pub before : t.before ≡ size_at layout
  pub shards : AreShards rows c o t.shards.items
  pub now_is : t.now ≡ now
  pub kept : t.left ≡ false → (or_new now).kept ≡ (or_empty layout).pages
  pub gone : t.left ≡ true → HasLeft layout now
