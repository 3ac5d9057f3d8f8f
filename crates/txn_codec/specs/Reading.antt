-- Transactions read from bytes.
use Rattle.std.specs.Prelude.{◌≡◌, ◌⊎◌, ℕ, List, [], ◌∷◌, ◌++◌, length, take, Result, MatchResult}
use Rattle.std.specs.List.{flat_map, AllByRecursion}
use Rattle.meta_rows.specs.Prelude.{BeginsWithNo, ReadsFront}
use Rattle.object_model.specs.Prelude.{Change}
use Rattle.txn_codec.specs.declared.fail.ReadFail.{ReadFail}
use Rattle.txn_codec.specs.declared.fail.ReadFail.TheVariants.{NotSpelled}
use Rattle.unit_fields.specs.Prelude.{IsName, IsCollName}
use Rattle.object_model.specs.declared.op.Op.{Op}
use Rattle.txn_codec.specs.Spelling.{Field, field_bytes, name_bytes, count_bytes, list_bytes, txn_op_bytes, IsCount, FitList, FitsField, FitsOp, transaction_bytes, FitsTransaction}

-- one that fits was read from the front, or none stands there, or memory ran out
abbrev pub GivesFront : {X : Type 0} → (X → Type 0) → (X → List ℕ) → List ℕ → List ℕ → Result X ReadFail → Type 0
GivesFront Fits spelling old new result = MatchResult result (ReadsFront Fits spelling old new) (λ why. why ≡ NotSpelled → BeginsWithNo Fits spelling old)

-- two names were read from the front, one behind the other
pub record ReadsNames (old first second left : List ℕ) : Type 0 where
  pub mid : List ℕ
  pub one : ReadsFront IsName name_bytes old mid first
  pub other : ReadsFront IsName name_bytes mid left second

-- a name stands at the front, and none behind it
pub record LacksSecond (old : List ℕ) : Type 0 where
  pub mid : List ℕ
  pub first : List ℕ
  pub one : ReadsFront IsName name_bytes old mid first
  pub none : BeginsWithNo IsName name_bytes mid

-- no two names stand at the front
abbrev pub LacksNames : List ℕ → Type 0
LacksNames old = BeginsWithNo IsName name_bytes old ⊎ LacksSecond old

-- the count of a transaction's operations and the first one were read from the front
pub record ReadsFirst (old : List ℕ) (count : ℕ) (first : Op) (left : List ℕ) : Type 0 where
  pub behind : List ℕ
  pub counted : ReadsFront IsCount count_bytes old behind count
  pub read : ReadsFront FitsOp txn_op_bytes behind left first

-- no operations with their count stand at the front
abbrev pub HasNoFirst : List ℕ → Type 0
HasNoFirst bytes = BeginsWithNo (FitList FitsOp) (list_bytes txn_op_bytes) bytes

-- so many operations of a transaction were read
pub record ReadsBody (old : List ℕ) (count i : ℕ) (t : Change) (left : List ℕ) : Type 0 where
  pub coll : IsCollName t.coll
  pub is_count : IsCount count
  pub size : length t.ops ≡ i
  pub fit : AllByRecursion FitsOp t.ops
  pub spelled : old ≡ name_bytes t.coll ++ (count_bytes count ++ (flat_map txn_op_bytes t.ops ++ left))

-- an operation was read from the front and put behind those of a transaction
pub record AddsOp (t : Change) (old : List ℕ) (s : Change) (left : List ℕ) : Type 0 where
  pub op : Op
  pub read : ReadsFront FitsOp txn_op_bytes old left op
  pub whole : s ≡ record t { ops = t.ops ++ op ∷ [] }

-- one that fits was written behind what was there
abbrev pub AddsSpelling : {X : Type 0} → (X → Type 0) → (X → List ℕ) → X → List ℕ → List ℕ → Type 0
AddsSpelling Fits spelling x old new = Fits x × (new ≡ old ++ spelling x)

-- a code was written behind what was there, and fields that fit behind it
abbrev pub AddsForm : ℕ → List Field → List ℕ → List ℕ → Type 0
AddsForm code fields old new = AllByRecursion FitsField fields × (new ≡ old ++ (code ∷ flat_map field_bytes fields))

-- the bytes are the one spelling of a transaction
pub record SpellsTransaction (bytes : List ℕ) (t : Change) : Type 0 where
  pub fits : FitsTransaction t
  pub spelled : bytes ≡ transaction_bytes t

-- the first bytes are it, so many of them
pub record IsTransactionFront (bytes : List ℕ) (t : Change) (used : ℕ) : Type 0 where
  pub front : SpellsTransaction (take used bytes) t
  pub used_is : used ≡ length (transaction_bytes t)
