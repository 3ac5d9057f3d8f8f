-- Rows by the collections that they are of, and operations on rows of some collections.
use Rattle.std.specs.Prelude.{◌≡◌, ◌⊎◌, ℕ, ◌<◌, ◌^◌, true, List, ◌++◌, None, Any}
use Rattle.std.specs.List.{AllByRecursion}
use Rattle.std.specs.FinMap as finite
use Rattle.unit_fields.specs.Prelude.{IsCollName}
use Rattle.unit_fields.specs.declared.width.Width.{Width}
use Rattle.meta_rows.specs.Prelude.{Rows, key_of}
use Rattle.meta_rows.specs.declared.row_op.RowOp.{RowOp}
use Rattle.object_model.specs.Prelude.{is_named}
use Rattle.row_format.specs.Prelude.{object_key, coll_key, shared_key}
use Rattle.store_image.specs.Prelude.{IsNamedBy, HasKey}
use Rattle.plan_rows.specs.Layouts.{TurnsBits}

-- the kinds of an object's rows: its onode and its shards, its attributes, its header and omap
abbrev pub IsObjectKind : ℕ → Type 0
IsObjectKind kind = (kind ≡ 0x4f) ⊎ ((kind ≡ 0x41) ⊎ (kind ≡ 0x4d))

-- the key is of a row of the collection: its own, or one of an object in it
abbrev pub IsKeyIn : List ℕ → List ℕ → Type 0
IsKeyIn c key = (key ≡ coll_key c) ⊎ ((kind : ℕ) × (o rest : List ℕ) × IsObjectKind kind × (key ≡ object_key kind c o rest))

-- the key is of a row of one of the collections
pub record IsKeyOfSome (names : List (List ℕ)) (key : List ℕ) : Type 0 where
  pub coll : List ℕ
  pub among : is_named coll names ≡ true
  pub of : IsKeyIn coll key

-- ---- shared blobs

-- Each blob has a collection that is its home: no other's shards name it.
abbrev pub AreAtHome : Width → (ℕ → List ℕ) → Rows → Type 0
AreAtHome w home rows = (c : List ℕ) (sbid : ℕ) → IsNamedBy w rows c sbid → home sbid ≡ c

-- so it is of those that shards of the collections name
abbrev pub AreAtHomeIn : Width → (ℕ → List ℕ) → List (List ℕ) → Rows → Type 0
AreAtHomeIn w home names rows = (c : List ℕ) (sbid : ℕ) → is_named c names ≡ true → IsNamedBy w rows c sbid → home sbid ≡ c

-- the key is of the row of a blob whose home is one of the collections
pub record IsKeyOfBlob (home : ℕ → List ℕ) (names : List (List ℕ)) (key : List ℕ) : Type 0 where
  pub sbid : ℕ
  pub small : sbid < 2 ^ 64
  pub among : is_named (home sbid) names ≡ true
  pub is : key ≡ shared_key sbid

-- the number is above those of all blobs that have rows
abbrev pub IsAboveBlobs : ℕ → Rows → Type 0
IsAboveBlobs next rows = (sbid : ℕ) → sbid < 2 ^ 64 → HasKey rows (shared_key sbid) → sbid < next

-- the operations have one on the row of this blob
abbrev pub ChangesBlob : List RowOp → ℕ → Type 0
ChangesBlob ops sbid = (sbid < 2 ^ 64) × Any (λ op. key_of op ≡ shared_key sbid) ops

-- the operations make the blob: they have one on its row, which isn't among the rows
pub record MakesBlob (rows : Rows) (ops : List RowOp) (sbid : ℕ) : Type 0 where
  pub changes : ChangesBlob ops sbid
  pub new : finite.get rows (shared_key sbid) ≡ None

-- the home of each blob that they make is one of the collections
abbrev pub AreMadeAt : (ℕ → List ℕ) → List (List ℕ) → Rows → List RowOp → Type 0
AreMadeAt home names rows ops = (sbid : ℕ) → MakesBlob rows ops sbid → is_named (home sbid) names ≡ true

-- ---- rows and operations

-- the rows of the collections, and those of the blobs that their shards name, are the same in both
pub record AgreeOn (w : Width) (names : List (List ℕ)) (rows other : Rows) : Type 0 where
  pub own : (key : List ℕ) → IsKeyOfSome names key → finite.get rows key ≡ finite.get other key
  pub blobs : (c : List ℕ) (sbid : ℕ) → is_named c names ≡ true → IsNamedBy w rows c sbid
      → finite.get rows (shared_key sbid) ≡ finite.get other (shared_key sbid)

-- the rows of the blobs that the operations change are the same in both
abbrev pub AgreeOnBlobs : List RowOp → Rows → Rows → Type 0
AgreeOnBlobs ops rows other = (sbid : ℕ) → ChangesBlob ops sbid → finite.get rows (shared_key sbid) ≡ finite.get other (shared_key sbid)

-- Operations on rows of these collections and of blobs at home there, and behind them those that turn the bits of the units that are taken and
-- of those that are released.
pub record AreOf (home : ℕ → List ℕ) (names : List (List ℕ)) (taken released : List ℕ) (ops : List RowOp) : Type 0 where
  pub named : AllByRecursion IsCollName names
  pub own : List RowOp
  pub flips : List RowOp
  pub is : ops ≡ own ++ flips
  pub keys : AllByRecursion (λ op. IsKeyOfSome names (key_of op) ⊎ IsKeyOfBlob home names (key_of op)) own
  pub turns : TurnsBits taken released flips

-- no collection is in both
abbrev pub HaveNoneInCommon : List (List ℕ) → List (List ℕ) → Type 0
HaveNoneInCommon names others = (c : List ℕ) → is_named c names ≡ true → is_named c others ≡ true → ⊥
