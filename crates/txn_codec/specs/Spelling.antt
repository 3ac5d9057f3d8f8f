-- The one spelling of a transaction.
use Rattle.std.specs.Prelude.{ℕ, ◌<◌, ◌≤◌, ◌^◌, List, [], ◌∷◌, ◌++◌, length, ⊤}
use Rattle.std.specs.List.{flat_map, AllByRecursion}
use Rattle.std.specs.Int.{w16, w64, to_le_bytes}
use Rattle.unit_fields.specs.Prelude.{IsName, IsCollName}
use Rattle.meta_rows.specs.Prelude.{value_bytes, IsValue}
use Rattle.object_model.specs.Prelude.{Change}
use Rattle.object_model.specs.declared.op.Op.{Op}
use Rattle.object_model.specs.declared.op.Op.TheVariants.{MkColl, RmColl, Touch, Write, Zero, Truncate, Remove, SetAttr, RmAttr, RmAttrs, Clone, CloneRange, OmapSet, OmapRm, OmapRmRange, OmapClear, OmapHeader}
use Rattle.object_model.specs.declared.op.Pair.{Pair}

-- what an operation is spelled by, behind its code
pub data Field : Type 0 where
  Name : List ℕ → Field
  Number : ℕ → Field
  Value : List ℕ → Field
  Keys : List (List ℕ) → Field
  Pairs : List Pair → Field

-- the table of the operations: the code of each, and its fields in order
abbrev pub op_form : Op → ℕ × List Field
op_form MkColl = (1, [])
op_form RmColl = (2, [])
op_form (Touch o) = (3, Name o ∷ [])
op_form (Write o off bytes) = (4, Name o ∷ Number off ∷ Value bytes ∷ [])
op_form (Zero o off len) = (5, Name o ∷ Number off ∷ Number len ∷ [])
op_form (Truncate o size) = (6, Name o ∷ Number size ∷ [])
op_form (Remove o) = (7, Name o ∷ [])
op_form (SetAttr o attr value) = (8, Name o ∷ Name attr ∷ Value value ∷ [])
op_form (RmAttr o attr) = (9, Name o ∷ Name attr ∷ [])
op_form (RmAttrs o) = (10, Name o ∷ [])
op_form (Clone o to) = (11, Name o ∷ Name to ∷ [])
op_form (CloneRange o to src len dst) = (12, Name o ∷ Name to ∷ Number src ∷ Number len ∷ Number dst ∷ [])
op_form (OmapSet o pairs) = (13, Name o ∷ Pairs pairs ∷ [])
op_form (OmapRm o keys) = (14, Name o ∷ Keys keys ∷ [])
op_form (OmapRmRange o first last) = (15, Name o ∷ Name first ∷ Name last ∷ [])
op_form (OmapClear o) = (16, Name o ∷ [])
op_form (OmapHeader o value) = (17, Name o ∷ Value value ∷ [])

abbrev pub code_of : Op → ℕ
code_of op = (op_form op).0

abbrev pub fields_of : Op → List Field
fields_of op = (op_form op).1

-- a name: the number of its bytes in one byte, and they
abbrev pub name_bytes : List ℕ → List ℕ
name_bytes name = length name ∷ name

-- numbers are little-endian
abbrev pub number_bytes : ℕ → List ℕ
number_bytes n = to_le_bytes w64 n

abbrev pub count_bytes : ℕ → List ℕ
count_bytes n = to_le_bytes w16 n

-- a key, and its value behind a length of four bytes
abbrev pub pair_bytes : Pair → List ℕ
pair_bytes pair = name_bytes pair.key ++ value_bytes pair.value

-- things one after another, behind their number in two bytes
abbrev pub list_bytes : {X : Type 0} → (X → List ℕ) → List X → List ℕ
list_bytes spelling xs = count_bytes (length xs) ++ flat_map spelling xs

abbrev pub field_bytes : Field → List ℕ
field_bytes (Name name) = name_bytes name
field_bytes (Number n) = number_bytes n
field_bytes (Value value) = value_bytes value
field_bytes (Keys keys) = list_bytes name_bytes keys
field_bytes (Pairs pairs) = list_bytes pair_bytes pairs

-- an operation: its code, and its fields one after another
abbrev pub txn_op_bytes : Op → List ℕ
txn_op_bytes op = code_of op ∷ flat_map field_bytes (fields_of op)

-- the spelling of a transaction: the version 1, its collection's name, and its operations
abbrev pub transaction_bytes : Change → List ℕ
transaction_bytes t = 1 ∷ (name_bytes t.coll ++ list_bytes txn_op_bytes t.ops)

-- ---- what has a spelling

abbrev pub FitsNumber : ℕ → Type 0
FitsNumber n = n < 2 ^ 64

pub record IsCount (n : ℕ) : Type 0 where
  pub some : 0 < n
  pub most : n ≤ 65535

pub record FitsPair (pair : Pair) : Type 0 where
  pub key : IsName pair.key
  pub value : IsValue pair.value

-- 1 to 65535 things that fit
pub record FitList {X : Type 0} (Fits : X → Type 0) (xs : List X) : Type 0 where
  pub count : IsCount (length xs)
  pub each : AllByRecursion Fits xs

abbrev pub FitsField : Field → Type 0
FitsField (Name name) = IsName name
FitsField (Number n) = FitsNumber n
FitsField (Value value) = IsValue value
FitsField (Keys keys) = FitList IsName keys
FitsField (Pairs pairs) = FitList FitsPair pairs

abbrev pub FitsOp : Op → Type 0
FitsOp op = AllByRecursion FitsField (fields_of op)

pub record FitsTransaction (t : Change) : Type 0 where
  pub coll : IsCollName t.coll
  pub ops : FitList FitsOp t.ops

-- ---- what a transaction in memory may lack of that: names are names there, and numbers have their width

abbrev pub HasShortValues : List Pair → Type 0
HasShortValues pairs = AllByRecursion (λ pair. IsValue pair.value) pairs

-- a value has fewer than 2^32 bytes, and there are 1 to 65535 keys or pairs
abbrev pub HasWidth : Field → Type 0
HasWidth (Name name) = ⊤
HasWidth (Number n) = ⊤
HasWidth (Value value) = IsValue value
HasWidth (Keys keys) = IsCount (length keys)
HasWidth (Pairs pairs) = IsCount (length pairs) × HasShortValues pairs

abbrev pub HaveWidth : Op → Type 0
HaveWidth op = AllByRecursion HasWidth (fields_of op)

-- the counts and lengths of a transaction fit the fields that they are written in
pub record IsEncodable (t : Change) : Type 0 where
  pub count : length t.ops ≤ 65535
  pub fields : AllByRecursion HaveWidth t.ops
