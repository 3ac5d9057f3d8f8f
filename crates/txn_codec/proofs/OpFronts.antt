-- No spelling of a field begins another of the same kind, and no spelling of an operation begins another.
use Rattle.std.proofs.Common.{◌≡◌, ℕ, ◌==◌, List, [], ◌∷◌, ◌++◌, length, drop, get_or, if◌then◌else◌, refl, sym, ap, ◌∙◌, append_assoc, arith}
use Rattle.std.specs.List.{flat_map, AllByRecursion}
use Rattle.std.proofs.lemmas.List.Concat.{flat_map-cons}
use Rattle.unit_fields.specs.Prelude.{IsName}
use Rattle.object_model.specs.declared.op.Op.{Op}
use Rattle.object_model.specs.declared.op.Op.TheVariants.{MkColl, RmColl, Touch, Write, Zero, Truncate, Remove, SetAttr, RmAttr, RmAttrs, Clone, CloneRange, OmapSet, OmapRm, OmapRmRange, OmapClear, OmapHeader}
use Rattle.object_model.specs.declared.op.Pair.{Pair}
use Rattle.txn_codec.specs.Prelude.{Field, Name, Number, Value, Keys, Pairs, code_of, fields_of, name_bytes, pair_bytes, field_bytes, txn_op_bytes, FitsPair, FitsField, FitsOp}
use Rattle.txn_codec.proofs.Fronts.{IsFree, rest_of, first_of_two, name_free, number_free, value_free, pair_free, list_free}

pub data Kind : Type 0 where
  OfName : Kind
  OfNumber : Kind
  OfValue : Kind
  OfKeys : Kind
  OfPairs : Kind

abbrev pub kind_of : Field → Kind
kind_of (Name x) = OfName
kind_of (Number x) = OfNumber
kind_of (Value x) = OfValue
kind_of (Keys x) = OfKeys
kind_of (Pairs x) = OfPairs

pub field_front : (f g : Field) (x y : List ℕ) → kind_of f ≡ kind_of g → FitsField f → FitsField g → field_bytes f ++ x ≡ field_bytes g ++ y
    → (f ≡ g) × (x ≡ y)
field_front (Name a) (Name b) x y same fa fb e = let both = name_free IsName a b x y fa fb e in (ap Name both.0, both.1)
field_front (Name a) (Number b) x y same fa fb e = absurd cc
field_front (Name a) (Value b) x y same fa fb e = absurd cc
field_front (Name a) (Keys b) x y same fa fb e = absurd cc
field_front (Name a) (Pairs b) x y same fa fb e = absurd cc
field_front (Number a) (Name b) x y same fa fb e = absurd cc
field_front (Number a) (Number b) x y same fa fb e = let both = number_free a b x y fa fb e in (ap Number both.0, both.1)
field_front (Number a) (Value b) x y same fa fb e = absurd cc
field_front (Number a) (Keys b) x y same fa fb e = absurd cc
field_front (Number a) (Pairs b) x y same fa fb e = absurd cc
field_front (Value a) (Name b) x y same fa fb e = absurd cc
field_front (Value a) (Number b) x y same fa fb e = absurd cc
field_front (Value a) (Value b) x y same fa fb e = let both = value_free a b x y fa fb e in (ap Value both.0, both.1)
field_front (Value a) (Keys b) x y same fa fb e = absurd cc
field_front (Value a) (Pairs b) x y same fa fb e = absurd cc
field_front (Keys a) (Name b) x y same fa fb e = absurd cc
field_front (Keys a) (Number b) x y same fa fb e = absurd cc
field_front (Keys a) (Value b) x y same fa fb e = absurd cc
field_front (Keys a) (Keys b) x y same fa fb e = let both = list_free IsName name_bytes (name_free IsName) a b x y fa fb e in (ap Keys both.0, both.1)
field_front (Keys a) (Pairs b) x y same fa fb e = absurd cc
field_front (Pairs a) (Name b) x y same fa fb e = absurd cc
field_front (Pairs a) (Number b) x y same fa fb e = absurd cc
field_front (Pairs a) (Value b) x y same fa fb e = absurd cc
field_front (Pairs a) (Keys b) x y same fa fb e = absurd cc
field_front (Pairs a) (Pairs b) x y same fa fb e = let both = list_free FitsPair pair_bytes pair_free a b x y fa fb e in (ap Pairs both.0, both.1)

abbrev pub kinds_of : List Field → List Kind
kinds_of [] = []
kinds_of (f ∷ fs) = kind_of f ∷ kinds_of fs

pub regroup : (f : Field) (fs : List Field) (x : List ℕ) → flat_map field_bytes (f ∷ fs) ++ x ≡ field_bytes f ++ (flat_map field_bytes fs ++ x)
regroup f fs x = ap (λ (l : List ℕ). l ++ x) (flat_map-cons field_bytes f fs) ∙ append_assoc (field_bytes f) (flat_map field_bytes fs) x

pub first_kind : (k l : Kind) (ks ls : List Kind) → k ∷ ks ≡ l ∷ ls → k ≡ l
first_kind k l ks ls e = ap (λ (s : List Kind). get_or s 0 k) e

pub other_kinds : (k l : Kind) (ks ls : List Kind) → k ∷ ks ≡ l ∷ ls → ks ≡ ls
other_kinds k l ks ls e = ap (λ (s : List Kind). drop 1 s) e

fields_front : (fs gs : List Field) (x y : List ℕ) → kinds_of fs ≡ kinds_of gs → AllByRecursion FitsField fs → AllByRecursion FitsField gs
    → flat_map field_bytes fs ++ x ≡ flat_map field_bytes gs ++ y → (fs ≡ gs) × (x ≡ y)
fields_front [] [] x y same ff fg e = (refl, e)
fields_front [] (g ∷ gs) x y same ff fg e = absurd (omega (arith, ap length same))
fields_front (f ∷ fs) [] x y same ff fg e = absurd (omega (arith, ap length same))
fields_front (f ∷ fs) (g ∷ gs) x y same ff fg e =
    let first = field_front f g (flat_map field_bytes fs ++ x) (flat_map field_bytes gs ++ y)
    (first_kind (kind_of f) (kind_of g) (kinds_of fs) (kinds_of gs) same) ff.0 fg.0 (sym (regroup f fs x) ∙ e ∙ regroup g gs y) in
    let others = fields_front fs gs x y (other_kinds (kind_of f) (kind_of g) (kinds_of fs) (kinds_of gs) same) ff.1 fg.1 first.1 in
    (λ i. first.0 i ∷ others.0 i, others.1)

-- ---- operations: the code tells the kinds of the fields, and with them the operation

abbrev pub kinds_at : ℕ → List Kind
kinds_at code = get_or (
    [] ∷ [] ∷ [] ∷ (OfName ∷ []) ∷ (OfName ∷ OfNumber ∷ OfValue ∷ []) ∷ (OfName ∷ OfNumber ∷ OfNumber ∷ []) ∷ (OfName ∷ OfNumber ∷ []) ∷ (OfName ∷ []) ∷ (OfName ∷ OfName ∷ OfValue ∷ []) ∷ (OfName ∷ OfName ∷ []) ∷ (OfName ∷ []) ∷ (OfName ∷ OfName ∷ []) ∷ (OfName ∷ OfName ∷ OfNumber ∷ OfNumber ∷ OfNumber ∷ []) ∷ (OfName ∷ OfPairs ∷ []) ∷ (OfName ∷ OfKeys ∷ []) ∷ (OfName ∷ OfName ∷ OfName ∷ []) ∷ (OfName ∷ []) ∷ (OfName ∷ OfValue ∷ []) ∷ []) code []

pub kinds : (op : Op) → kinds_of (fields_of op) ≡ kinds_at (code_of op)
kinds MkColl = refl
kinds RmColl = refl
kinds (Touch a) = refl
kinds (Write a b c) = refl
kinds (Zero a b c) = refl
kinds (Truncate a b) = refl
kinds (Remove a) = refl
kinds (SetAttr a b c) = refl
kinds (RmAttr a b) = refl
kinds (RmAttrs a) = refl
kinds (Clone a b) = refl
kinds (CloneRange a b c d e) = refl
kinds (OmapSet a b) = refl
kinds (OmapRm a b) = refl
kinds (OmapRmRange a b c) = refl
kinds (OmapClear a) = refl
kinds (OmapHeader a b) = refl

abbrev bytes_in : Field → List ℕ
bytes_in (Name name) = name
bytes_in (Value value) = value
bytes_in field = []

abbrev number_in : Field → ℕ
number_in (Number n) = n
number_in field = 0

abbrev keys_in : Field → List (List ℕ)
keys_in (Keys keys) = keys
keys_in field = []

abbrev pairs_in : Field → List Pair
pairs_in (Pairs pairs) = pairs
pairs_in field = []

abbrev op_at : ℕ → (ℕ → Field) → Op
op_at code at =
    if code == 1 then MkColl else
    if code == 2 then RmColl else
    if code == 3 then Touch (bytes_in (at 0)) else
    if code == 4 then Write (bytes_in (at 0)) (number_in (at 1)) (bytes_in (at 2)) else
    if code == 5 then Zero (bytes_in (at 0)) (number_in (at 1)) (number_in (at 2)) else
    if code == 6 then Truncate (bytes_in (at 0)) (number_in (at 1)) else
    if code == 7 then Remove (bytes_in (at 0)) else
    if code == 8 then SetAttr (bytes_in (at 0)) (bytes_in (at 1)) (bytes_in (at 2)) else
    if code == 9 then RmAttr (bytes_in (at 0)) (bytes_in (at 1)) else
    if code == 10 then RmAttrs (bytes_in (at 0)) else
    if code == 11 then Clone (bytes_in (at 0)) (bytes_in (at 1)) else
    if code == 12 then CloneRange (bytes_in (at 0)) (bytes_in (at 1)) (number_in (at 2)) (number_in (at 3)) (number_in (at 4)) else
    if code == 13 then OmapSet (bytes_in (at 0)) (pairs_in (at 1)) else
    if code == 14 then OmapRm (bytes_in (at 0)) (keys_in (at 1)) else
    if code == 15 then OmapRmRange (bytes_in (at 0)) (bytes_in (at 1)) (bytes_in (at 2)) else
    if code == 16 then OmapClear (bytes_in (at 0)) else
    OmapHeader (bytes_in (at 0)) (bytes_in (at 1))

abbrev op_from : ℕ → List Field → Op
op_from code fields = op_at code (λ i. get_or fields i (Number 0))

again : (op : Op) → op_from (code_of op) (fields_of op) ≡ op
again MkColl = refl
again RmColl = refl
again (Touch a) = refl
again (Write a b c) = refl
again (Zero a b c) = refl
again (Truncate a b) = refl
again (Remove a) = refl
again (SetAttr a b c) = refl
again (RmAttr a b) = refl
again (RmAttrs a) = refl
again (Clone a b) = refl
again (CloneRange a b c d e) = refl
again (OmapSet a b) = refl
again (OmapRm a b) = refl
again (OmapRmRange a b c) = refl
again (OmapClear a) = refl
again (OmapHeader a b) = refl

pub op_free : IsFree FitsOp txn_op_bytes
op_free a b x y fa fb e =
    let code : code_of a ≡ code_of b = first_of_two (code_of a) (code_of b) (flat_map field_bytes (fields_of a) ++ x) (flat_map field_bytes (fields_of b) ++ y) e in
    let both = fields_front (fields_of a) (fields_of b) x y (kinds a ∙ ap kinds_at code ∙ sym (kinds b)) fa fb
    (rest_of (code_of a) (code_of b) (flat_map field_bytes (fields_of a) ++ x) (flat_map field_bytes (fields_of b) ++ y) e) in
    (sym (again a) ∙ (λ i. op_from (code i) (both.0 i)) ∙ again b, both.1)
