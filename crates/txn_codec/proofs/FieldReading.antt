-- Operations read from the front of bytes, field by field.
use Rattle.std.proofs.Common.{◌≡◌, ◌≢◌, inl, inr, ℕ, List, [], ◌∷◌, ◌++◌, length, sym, ap, ◌∙◌, subst, refl, append_assoc, arith, Result, Ok, Err, IsErr, IsErrAnd, MatchResult}
use Rattle.std.specs.List.{flat_map, AllByRecursion}
use Rattle.unit_fields.specs.Prelude.{IsName}
use Rattle.meta_rows.specs.Prelude.{value_bytes, IsValue, BeginsWithNo, ReadsFront}
use Rattle.object_model.specs.declared.op.Op.{Op}
use Rattle.txn_codec.specs.Prelude.{Field, Name, Number, Value, Keys, Pairs, code_of, fields_of, name_bytes, number_bytes, pair_bytes, list_bytes, field_bytes, txn_op_bytes, FitsNumber, GivesFront, ReadsNames, LacksNames, FitsPair, FitList, FitsField, FitsOp}
use Rattle.txn_codec.specs.declared.fail.ReadFail.{ReadFail}
use Rattle.txn_codec.specs.declared.fail.ReadFail.TheVariants.{NotSpelled}
use Rattle.txn_codec.proofs.Fronts.{rest_of, first_of_two, name_front}
use Rattle.txn_codec.proofs.OpFronts.{Kind, OfName, OfNumber, OfValue, OfKeys, OfPairs, kind_of, kinds_of, kinds, kinds_at, field_front, regroup, first_kind, other_kinds}

-- why a part wasn't read is why the whole wasn't
pub passed_on : {X : Type 0} (Found : X → Type 0) (Missing : Type 0) (r : Result X ReadFail) (why : ReadFail) → IsErr r × IsErrAnd r (λ e. e ≡ why)
    → (why ≡ NotSpelled → Missing) → MatchResult r Found (λ e. e ≡ NotSpelled → Missing)
passed_on Found Missing (Ok x) why is none = absurd is.1
passed_on Found Missing (Err e) why is none = λ same. none (sym is.1 ∙ same)

pub handed_on : {X : Type 0} (Fits : X → Type 0) (spelling : X → List ℕ) (old new : List ℕ) (r : Result X ReadFail) (why : ReadFail)
    → IsErr r × IsErrAnd r (λ e. e ≡ why) → (why ≡ NotSpelled → BeginsWithNo Fits spelling old) → GivesFront Fits spelling old new r
handed_on Fits spelling old new r why is none = passed_on (ReadsFront Fits spelling old new) (BeginsWithNo Fits spelling old) r why is none

-- behind a key there is no value, so no pair stands there
pub pair_missing : (old mid key : List ℕ) → ReadsFront IsName name_bytes old mid key → BeginsWithNo IsValue value_bytes mid
    → BeginsWithNo FitsPair pair_bytes old
pair_missing old mid key read none pair rest fits e =
    none pair.value rest fits.value
    (name_front key pair.key mid (value_bytes pair.value ++ rest)
    (sym read.spelled ∙ e ∙ append_assoc (name_bytes pair.key) (value_bytes pair.value) rest)).1

-- no fields of these kinds stand at the front
abbrev pub NoFields : List Kind → List ℕ → Type 0
NoFields ks bytes = (fs : List Field) (rest : List ℕ) → kinds_of fs ≡ ks → AllByRecursion FitsField fs → bytes ≢ flat_map field_bytes fs ++ rest

-- no field of this kind does
abbrev NoField : Kind → List ℕ → Type 0
NoField OfName bytes = BeginsWithNo IsName name_bytes bytes
NoField OfNumber bytes = BeginsWithNo FitsNumber number_bytes bytes
NoField OfValue bytes = BeginsWithNo IsValue value_bytes bytes
NoField OfKeys bytes = BeginsWithNo (FitList IsName) (list_bytes name_bytes) bytes
NoField OfPairs bytes = BeginsWithNo (FitList FitsPair) (list_bytes pair_bytes) bytes

no_field : (f : Field) (bytes rest : List ℕ) → NoField (kind_of f) bytes → FitsField f → bytes ≢ field_bytes f ++ rest
no_field (Name x) bytes rest none fits e = none x rest fits e
no_field (Number x) bytes rest none fits e = none x rest fits e
no_field (Value x) bytes rest none fits e = none x rest fits e
no_field (Keys x) bytes rest none fits e = none x rest fits e
no_field (Pairs x) bytes rest none fits e = none x rest fits e

missing : (k : Kind) (ks : List Kind) (bytes : List ℕ) → NoField k bytes → NoFields (k ∷ ks) bytes
missing k ks bytes none [] rest same fit e = absurd (omega (arith, ap length same))
missing k ks bytes none (f ∷ fs) rest same fit e =
    no_field f bytes (flat_map field_bytes fs ++ rest)
    (subst (λ (l : Kind). NoField l bytes) (sym (first_kind (kind_of f) k (kinds_of fs) ks same)) none) fit.0 (e ∙ regroup f fs rest)

past : (f : Field) (ks : List Kind) (old mid : List ℕ) → FitsField f → old ≡ field_bytes f ++ mid → NoFields ks mid → NoFields (kind_of f ∷ ks) old
past f ks old mid fits is none [] rest same fit e = absurd (omega (arith, ap length same))
past f ks old mid fits is none (g ∷ gs) rest same fit e =
    let both = field_front f g mid (flat_map field_bytes gs ++ rest) (sym (first_kind (kind_of g) (kind_of f) (kinds_of gs) ks same)) fits fit.0
    (sym is ∙ e ∙ regroup g gs rest) in
    none gs rest (other_kinds (kind_of g) (kind_of f) (kinds_of gs) ks same) fit.1 both.1

-- ---- what is missing: a field, or one behind another

pub no_name : {ks : List Kind} {bytes : List ℕ} → BeginsWithNo IsName name_bytes bytes → NoFields (OfName ∷ ks) bytes
no_name {ks} {bytes} none = missing OfName ks bytes none

pub no_number : {ks : List Kind} {bytes : List ℕ} → BeginsWithNo FitsNumber number_bytes bytes → NoFields (OfNumber ∷ ks) bytes
no_number {ks} {bytes} none = missing OfNumber ks bytes none

pub no_value : {ks : List Kind} {bytes : List ℕ} → BeginsWithNo IsValue value_bytes bytes → NoFields (OfValue ∷ ks) bytes
no_value {ks} {bytes} none = missing OfValue ks bytes none

pub no_keys : {ks : List Kind} {bytes : List ℕ} → BeginsWithNo (FitList IsName) (list_bytes name_bytes) bytes → NoFields (OfKeys ∷ ks) bytes
no_keys {ks} {bytes} none = missing OfKeys ks bytes none

pub no_pairs : {ks : List Kind} {bytes : List ℕ} → BeginsWithNo (FitList FitsPair) (list_bytes pair_bytes) bytes → NoFields (OfPairs ∷ ks) bytes
no_pairs {ks} {bytes} none = missing OfPairs ks bytes none

pub past_name : {ks : List Kind} {old mid : List ℕ} {x : List ℕ} → ReadsFront IsName name_bytes old mid x → NoFields ks mid → NoFields (OfName ∷ ks) old
past_name {ks} {old} {mid} {x} read none = past (Name x) ks old mid read.fits read.spelled none

pub past_number : {ks : List Kind} {old mid : List ℕ} {x : ℕ} → ReadsFront FitsNumber number_bytes old mid x → NoFields ks mid → NoFields (OfNumber ∷ ks) old
past_number {ks} {old} {mid} {x} read none = past (Number x) ks old mid read.fits read.spelled none

pub no_names : {ks : List Kind} {bytes : List ℕ} → LacksNames bytes → NoFields (OfName ∷ OfName ∷ ks) bytes
no_names {ks} {bytes} (inl none) = no_name none
no_names {ks} {bytes} (inr second) = past_name second.one (no_name second.none)

pub past_names : {ks : List Kind} {old mid a b : List ℕ} → ReadsNames old a b mid → NoFields ks mid → NoFields (OfName ∷ OfName ∷ ks) old
past_names {ks} {old} {mid} {a} {b} read none = past_name read.one (past_name read.other none)

-- where the fields of a code are missing, no operation stands behind it
pub no_op : (code : ℕ) (old : List ℕ) → NoFields (kinds_at code) old → BeginsWithNo FitsOp txn_op_bytes (code ∷ old)
no_op code old none op rest fits e =
    let same : code ≡ code_of op = first_of_two code (code_of op) old (flat_map field_bytes (fields_of op) ++ rest) e in
    none (fields_of op) rest (kinds op ∙ ap kinds_at (sym same)) fits (rest_of code (code_of op) old (flat_map field_bytes (fields_of op) ++ rest) e)

-- ---- what was read: fields, one behind another

pub record ReadsFields (fs : List Field) (old new : List ℕ) : Type 0 where
  pub fit : AllByRecursion FitsField fs
  pub spelled : old ≡ flat_map field_bytes fs ++ new

pub all_read : {bytes : List ℕ} → ReadsFields [] bytes bytes
all_read {bytes} = record { fit = tt; spelled = refl }

more : (f : Field) (fs : List Field) (old mid new : List ℕ) → FitsField f → old ≡ field_bytes f ++ mid → ReadsFields fs mid new → ReadsFields (f ∷ fs) old new
more f fs old mid new fits is read = record {
  fit = (fits, read.fit);
  spelled = is ∙ ap (λ (l : List ℕ). field_bytes f ++ l) read.spelled ∙ sym (regroup f fs new);
}

pub with_name : {fs : List Field} {old mid new : List ℕ} {x : List ℕ} → ReadsFront IsName name_bytes old mid x → ReadsFields fs mid new → ReadsFields (Name x ∷ fs) old new
with_name {fs} {old} {mid} {new} {x} read others = more (Name x) fs old mid new read.fits read.spelled others

pub with_names : {fs : List Field} {old mid new a b : List ℕ} → ReadsNames old a b mid → ReadsFields fs mid new → ReadsFields (Name a ∷ Name b ∷ fs) old new
with_names {fs} {old} {mid} {new} {a} {b} read others = with_name read.one (with_name read.other others)

pub with_number : {fs : List Field} {old mid new : List ℕ} {x : ℕ} → ReadsFront FitsNumber number_bytes old mid x → ReadsFields fs mid new → ReadsFields (Number x ∷ fs) old new
with_number {fs} {old} {mid} {new} {x} read others = more (Number x) fs old mid new read.fits read.spelled others

pub with_value : {fs : List Field} {old mid new : List ℕ} {x : List ℕ} → ReadsFront IsValue value_bytes old mid x → ReadsFields fs mid new → ReadsFields (Value x ∷ fs) old new
with_value {fs} {old} {mid} {new} {x} read others = more (Value x) fs old mid new read.fits read.spelled others

pub op_read : (op : Op) (old new : List ℕ) → ReadsFields (fields_of op) old new → ReadsFront FitsOp txn_op_bytes (code_of op ∷ old) new op
op_read op old new read = record { fits = read.fit; spelled = ap (λ (l : List ℕ). code_of op ∷ l) read.spelled }
