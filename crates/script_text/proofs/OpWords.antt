-- The words of operations: each is of one operation, whose arguments the words behind it give.
use Rattle.std.proofs.Common.{◌≡◌, ℕ, true, false, List, [], ◌∷◌, refl, sym, ap, subst, ◌∙◌}
use Rattle.std.specs.Prelude.{codes, Bool, ◌||◌}
use Rattle.object_model.specs.declared.op.Op.{Op}
use Rattle.object_model.specs.declared.op.Op.TheVariants.{MkColl, RmColl, Touch, Write, Zero, Truncate, Remove, SetAttr, RmAttr, RmAttrs, Clone, CloneRange, OmapSet, OmapRm, OmapRmRange, OmapClear, OmapHeader}
use Rattle.object_model.specs.declared.op.Pair.{Pair}
use Rattle.script_text.specs.Prelude.{IsNameWord, IsNumber, IsDataWord, op_word, AreObjectArgs, AreWriteArgs, AreRangeArgs, AreSizeArgs, AreNameArgs, AreDataArgs, AreAttrArgs, AreKeyRangeArgs, AreKeyWords, ArePairWords, AreKeysArgs, ArePairsArgs, AreArgs, IsKnownChange}
use Rattle.script_text.proofs.Splits.{same_bytes, differ}
use Rattle.script_text.proofs.Numbers.{same_number}
use Rattle.script_text.proofs.Names.{same_name}
use Rattle.script_text.proofs.DataWords.{same_data}

-- an operation that has arguments in scripts is known
pub known_args : (op : Op) (args : List (List ℕ)) → AreArgs args op → IsKnownChange (op ∷ [])
known_args (Clone o to) args are = absurd are
known_args (CloneRange o to src len dst) args are = absurd are
known_args op args are = (tt, tt)

-- ---- the operation of a word

-- it is of this form, on an object
pub record IsObjectOp (form : List ℕ → Op) (args : List (List ℕ)) (op : Op) : Type 0 where
  pub object : List ℕ
  pub says : op ≡ form object
  pub are : AreObjectArgs args object

-- it is a write
pub record IsWriteOp (args : List (List ℕ)) (op : Op) : Type 0 where
  pub object : List ℕ
  pub off : ℕ
  pub bytes : List ℕ
  pub says : op ≡ Write object off bytes
  pub are : AreWriteArgs args object off bytes

-- it makes a range zeros
pub record IsRangeOp (args : List (List ℕ)) (op : Op) : Type 0 where
  pub object : List ℕ
  pub off : ℕ
  pub len : ℕ
  pub says : op ≡ Zero object off len
  pub are : AreRangeArgs args object off len

-- it sets the size
pub record IsSizeOp (args : List (List ℕ)) (op : Op) : Type 0 where
  pub object : List ℕ
  pub size : ℕ
  pub says : op ≡ Truncate object size
  pub are : AreSizeArgs args object size

-- it sets an attribute
pub record IsAttrOp (args : List (List ℕ)) (op : Op) : Type 0 where
  pub object : List ℕ
  pub name : List ℕ
  pub value : List ℕ
  pub says : op ≡ SetAttr object name value
  pub are : AreAttrArgs args object name value

-- it takes an attribute away
pub record IsNameOp (args : List (List ℕ)) (op : Op) : Type 0 where
  pub object : List ℕ
  pub name : List ℕ
  pub says : op ≡ RmAttr object name
  pub are : AreNameArgs args object name

-- it sets pairs
pub record IsPairsOp (args : List (List ℕ)) (op : Op) : Type 0 where
  pub object : List ℕ
  pub pairs : List Pair
  pub says : op ≡ OmapSet object pairs
  pub are : ArePairsArgs args object pairs

-- it takes keys away
pub record IsKeysOp (args : List (List ℕ)) (op : Op) : Type 0 where
  pub object : List ℕ
  pub keys : List (List ℕ)
  pub says : op ≡ OmapRm object keys
  pub are : AreKeysArgs args object keys

-- it takes a range of keys away
pub record IsKeyRangeOp (args : List (List ℕ)) (op : Op) : Type 0 where
  pub object : List ℕ
  pub first : List ℕ
  pub last : List ℕ
  pub says : op ≡ OmapRmRange object first last
  pub are : AreKeyRangeArgs args object first last

-- it sets the header
pub record IsHeaderOp (args : List (List ℕ)) (op : Op) : Type 0 where
  pub object : List ℕ
  pub value : List ℕ
  pub says : op ≡ OmapHeader object value
  pub are : AreDataArgs args object value

pub mkcoll_only : (op : Op) (args : List (List ℕ)) → codes "mkcoll" ≡ op_word op → AreArgs args op → (op ≡ MkColl) × (args ≡ [])
mkcoll_only MkColl args word are = (refl, are)
mkcoll_only op args word are = absurd (differ (codes "mkcoll") (op_word op) refl word)

pub rmcoll_only : (op : Op) (args : List (List ℕ)) → codes "rmcoll" ≡ op_word op → AreArgs args op → (op ≡ RmColl) × (args ≡ [])
rmcoll_only RmColl args word are = (refl, are)
rmcoll_only op args word are = absurd (differ (codes "rmcoll") (op_word op) refl word)

pub touch_only : (op : Op) (args : List (List ℕ)) → codes "touch" ≡ op_word op → AreArgs args op → IsObjectOp (λ o. Touch o) args op
touch_only (Touch object) args word are = record { object = object; says = refl; are = are }
touch_only op args word are = absurd (differ (codes "touch") (op_word op) refl word)

pub write_only : (op : Op) (args : List (List ℕ)) → codes "write" ≡ op_word op → AreArgs args op → IsWriteOp args op
write_only (Write object off bytes) args word are = record { object = object; off = off; bytes = bytes; says = refl; are = are }
write_only op args word are = absurd (differ (codes "write") (op_word op) refl word)

pub zero_only : (op : Op) (args : List (List ℕ)) → codes "zero" ≡ op_word op → AreArgs args op → IsRangeOp args op
zero_only (Zero object off len) args word are = record { object = object; off = off; len = len; says = refl; are = are }
zero_only op args word are = absurd (differ (codes "zero") (op_word op) refl word)

pub truncate_only : (op : Op) (args : List (List ℕ)) → codes "truncate" ≡ op_word op → AreArgs args op → IsSizeOp args op
truncate_only (Truncate object size) args word are = record { object = object; size = size; says = refl; are = are }
truncate_only op args word are = absurd (differ (codes "truncate") (op_word op) refl word)

pub remove_only : (op : Op) (args : List (List ℕ)) → codes "remove" ≡ op_word op → AreArgs args op → IsObjectOp (λ o. Remove o) args op
remove_only (Remove object) args word are = record { object = object; says = refl; are = are }
remove_only op args word are = absurd (differ (codes "remove") (op_word op) refl word)

pub setattr_only : (op : Op) (args : List (List ℕ)) → codes "setattr" ≡ op_word op → AreArgs args op → IsAttrOp args op
setattr_only (SetAttr object name value) args word are = record { object = object; name = name; value = value; says = refl; are = are }
setattr_only op args word are = absurd (differ (codes "setattr") (op_word op) refl word)

pub rmattr_only : (op : Op) (args : List (List ℕ)) → codes "rmattr" ≡ op_word op → AreArgs args op → IsNameOp args op
rmattr_only (RmAttr object name) args word are = record { object = object; name = name; says = refl; are = are }
rmattr_only op args word are = absurd (differ (codes "rmattr") (op_word op) refl word)

pub rmattrs_only : (op : Op) (args : List (List ℕ)) → codes "rmattrs" ≡ op_word op → AreArgs args op → IsObjectOp (λ o. RmAttrs o) args op
rmattrs_only (RmAttrs object) args word are = record { object = object; says = refl; are = are }
rmattrs_only op args word are = absurd (differ (codes "rmattrs") (op_word op) refl word)

pub omapset_only : (op : Op) (args : List (List ℕ)) → codes "omapset" ≡ op_word op → AreArgs args op → IsPairsOp args op
omapset_only (OmapSet object pairs) args word are = record { object = object; pairs = pairs; says = refl; are = are }
omapset_only op args word are = absurd (differ (codes "omapset") (op_word op) refl word)

pub omaprm_only : (op : Op) (args : List (List ℕ)) → codes "omaprm" ≡ op_word op → AreArgs args op → IsKeysOp args op
omaprm_only (OmapRm object keys) args word are = record { object = object; keys = keys; says = refl; are = are }
omaprm_only op args word are = absurd (differ (codes "omaprm") (op_word op) refl word)

pub omaprmrange_only : (op : Op) (args : List (List ℕ)) → codes "omaprmrange" ≡ op_word op → AreArgs args op → IsKeyRangeOp args op
omaprmrange_only (OmapRmRange object first last) args word are = record { object = object; first = first; last = last; says = refl; are = are }
omaprmrange_only op args word are = absurd (differ (codes "omaprmrange") (op_word op) refl word)

pub omapclear_only : (op : Op) (args : List (List ℕ)) → codes "omapclear" ≡ op_word op → AreArgs args op → IsObjectOp (λ o. OmapClear o) args op
omapclear_only (OmapClear object) args word are = record { object = object; says = refl; are = are }
omapclear_only op args word are = absurd (differ (codes "omapclear") (op_word op) refl word)

pub omapheader_only : (op : Op) (args : List (List ℕ)) → codes "omapheader" ≡ op_word op → AreArgs args op → IsHeaderOp args op
omapheader_only (OmapHeader object value) args word are = record { object = object; value = value; says = refl; are = are }
omapheader_only op args word are = absurd (differ (codes "omapheader") (op_word op) refl word)

-- ---- the same arguments are of the same operation

object_args_same : (form : List ℕ → Op) (args : List (List ℕ)) (o p : List ℕ) → AreObjectArgs args o → AreObjectArgs args p → form o ≡ form p
object_args_same form args o p x y =
    let words : x.object_word ∷ [] ≡ y.object_word ∷ [] = sym x.words ∙ y.words in
    let object_words : y.object_word ≡ x.object_word = cc in
    ap form (same_name x.object_word o p x.names (subst (λ (l : List ℕ). IsNameWord l p) object_words y.names))

write_args_same : (args : List (List ℕ)) (o p : List ℕ) (n m : ℕ) (b c : List ℕ) → AreWriteArgs args o n b → AreWriteArgs args p m c
    → Write o n b ≡ Write p m c
write_args_same args o p n m b c x y =
    let words : x.object_word ∷ x.off_word ∷ x.data_word ∷ [] ≡ y.object_word ∷ y.off_word ∷ y.data_word ∷ [] = sym x.words ∙ y.words in
    let object_words : y.object_word ≡ x.object_word = cc in
    let off_words : y.off_word ≡ x.off_word = cc in
    let data_words : y.data_word ≡ x.data_word = cc in
    let objects : o ≡ p = same_name x.object_word o p x.names (subst (λ (l : List ℕ). IsNameWord l p) object_words y.names) in
    let offs : n ≡ m = same_number x.off_word n m x.offset (subst (λ (l : List ℕ). IsNumber l m) off_words y.offset) in
    let datas : b ≡ c = same_data x.data_word b c x.holds (subst (λ (l : List ℕ). IsDataWord l c) data_words y.holds) in
    cc

range_args_same : (args : List (List ℕ)) (o p : List ℕ) (n m k l : ℕ) → AreRangeArgs args o n k → AreRangeArgs args p m l → Zero o n k ≡ Zero p m l
range_args_same args o p n m k l x y =
    let words : x.object_word ∷ x.off_word ∷ x.len_word ∷ [] ≡ y.object_word ∷ y.off_word ∷ y.len_word ∷ [] = sym x.words ∙ y.words in
    let object_words : y.object_word ≡ x.object_word = cc in
    let off_words : y.off_word ≡ x.off_word = cc in
    let len_words : y.len_word ≡ x.len_word = cc in
    let objects : o ≡ p = same_name x.object_word o p x.names (subst (λ (w : List ℕ). IsNameWord w p) object_words y.names) in
    let offs : n ≡ m = same_number x.off_word n m x.offset (subst (λ (w : List ℕ). IsNumber w m) off_words y.offset) in
    let lens : k ≡ l = same_number x.len_word k l x.count (subst (λ (w : List ℕ). IsNumber w l) len_words y.count) in
    cc

size_args_same : (args : List (List ℕ)) (o p : List ℕ) (n m : ℕ) → AreSizeArgs args o n → AreSizeArgs args p m → Truncate o n ≡ Truncate p m
size_args_same args o p n m x y =
    let words : x.object_word ∷ x.size_word ∷ [] ≡ y.object_word ∷ y.size_word ∷ [] = sym x.words ∙ y.words in
    let object_words : y.object_word ≡ x.object_word = cc in
    let size_words : y.size_word ≡ x.size_word = cc in
    let objects : o ≡ p = same_name x.object_word o p x.names (subst (λ (w : List ℕ). IsNameWord w p) object_words y.names) in
    let sizes : n ≡ m = same_number x.size_word n m x.sized (subst (λ (w : List ℕ). IsNumber w m) size_words y.sized) in
    cc

-- the words of a name are one name's
names_same : (w v a b : List ℕ) → v ≡ w → IsNameWord w a → IsNameWord v b → a ≡ b
names_same w v a b is x y = same_name w a b x (subst (λ (l : List ℕ). IsNameWord l b) is y)

-- the words of data are one list of bytes
datas_same : (w v a b : List ℕ) → v ≡ w → IsDataWord w a → IsDataWord v b → a ≡ b
datas_same w v a b is x y = same_data w a b x (subst (λ (l : List ℕ). IsDataWord l b) is y)

name_args_same : (args : List (List ℕ)) (o p n m : List ℕ) → AreNameArgs args o n → AreNameArgs args p m → RmAttr o n ≡ RmAttr p m
name_args_same args o p n m x y =
    let words : x.object_word ∷ x.name_word ∷ [] ≡ y.object_word ∷ y.name_word ∷ [] = sym x.words ∙ y.words in
    let object_words : y.object_word ≡ x.object_word = cc in
    let name_words : y.name_word ≡ x.name_word = cc in
    let objects : o ≡ p = names_same x.object_word y.object_word o p object_words x.names y.names in
    let names : n ≡ m = names_same x.name_word y.name_word n m name_words x.called y.called in
    cc

data_args_same : (args : List (List ℕ)) (o p b c : List ℕ) → AreDataArgs args o b → AreDataArgs args p c → OmapHeader o b ≡ OmapHeader p c
data_args_same args o p b c x y =
    let words : x.object_word ∷ x.data_word ∷ [] ≡ y.object_word ∷ y.data_word ∷ [] = sym x.words ∙ y.words in
    let object_words : y.object_word ≡ x.object_word = cc in
    let data_words : y.data_word ≡ x.data_word = cc in
    let objects : o ≡ p = names_same x.object_word y.object_word o p object_words x.names y.names in
    let datas : b ≡ c = datas_same x.data_word y.data_word b c data_words x.holds y.holds in
    cc

attr_args_same : (args : List (List ℕ)) (o p n m b c : List ℕ) → AreAttrArgs args o n b → AreAttrArgs args p m c → SetAttr o n b ≡ SetAttr p m c
attr_args_same args o p n m b c x y =
    let words : x.object_word ∷ x.name_word ∷ x.data_word ∷ [] ≡ y.object_word ∷ y.name_word ∷ y.data_word ∷ [] = sym x.words ∙ y.words in
    let object_words : y.object_word ≡ x.object_word = cc in
    let name_words : y.name_word ≡ x.name_word = cc in
    let data_words : y.data_word ≡ x.data_word = cc in
    let objects : o ≡ p = names_same x.object_word y.object_word o p object_words x.names y.names in
    let names : n ≡ m = names_same x.name_word y.name_word n m name_words x.called y.called in
    let datas : b ≡ c = datas_same x.data_word y.data_word b c data_words x.holds y.holds in
    cc

key_range_args_same : (args : List (List ℕ)) (o p n m b c : List ℕ) → AreKeyRangeArgs args o n b → AreKeyRangeArgs args p m c → OmapRmRange o n b ≡ OmapRmRange p m c
key_range_args_same args o p n m b c x y =
    let words : x.object_word ∷ x.first_word ∷ x.last_word ∷ [] ≡ y.object_word ∷ y.first_word ∷ y.last_word ∷ [] = sym x.words ∙ y.words in
    let object_words : y.object_word ≡ x.object_word = cc in
    let first_words : y.first_word ≡ x.first_word = cc in
    let last_words : y.last_word ≡ x.last_word = cc in
    let objects : o ≡ p = names_same x.object_word y.object_word o p object_words x.names y.names in
    let firsts : n ≡ m = names_same x.first_word y.first_word n m first_words x.begins y.begins in
    let lasts : b ≡ c = names_same x.last_word y.last_word b c last_words x.ends y.ends in
    cc

keys_same : (words keys others : List (List ℕ)) → AreKeyWords words keys → AreKeyWords words others → keys ≡ others
keys_same [] [] [] x y = refl
keys_same [] [] (b ∷ bs) x y = absurd y
keys_same [] (a ∷ rest) others x y = absurd x
keys_same (w ∷ words) [] others x y = absurd x
keys_same (w ∷ words) (a ∷ rest) [] x y = absurd y
keys_same (w ∷ words) (a ∷ rest) (b ∷ bs) x y =
    let head : a ≡ b = same_name w a b x.0 y.0 in
    let tail : rest ≡ bs = keys_same words rest bs x.1 y.1 in
    cc

pair_same : (a b : Pair) → a.key ≡ b.key → a.value ≡ b.value → a ≡ b
pair_same a b keys values =
    let first : a ≡ record { key = b.key; value = a.value } = ap (λ (l : List ℕ). record { key = l; value = a.value }) keys in
    let second : ◌≡◌ {A = Pair} (record { key = b.key; value = a.value }) b = ap (λ (l : List ℕ). record { key = b.key; value = l }) values in
    first ∙ second

pairs_same : (words : List (List ℕ)) (pairs others : List Pair) → ArePairWords words pairs → ArePairWords words others → pairs ≡ others
pairs_same [] [] [] x y = refl
pairs_same [] [] (b ∷ bs) x y = absurd y
pairs_same [] (a ∷ rest) others x y = absurd x
pairs_same (w ∷ []) pairs others x y = absurd x
pairs_same (w ∷ v ∷ words) [] others x y = absurd x
pairs_same (w ∷ v ∷ words) (a ∷ rest) [] x y = absurd y
pairs_same (w ∷ v ∷ words) (a ∷ rest) (b ∷ bs) x y =
    let head : a ≡ b = pair_same a b (same_name w a.key b.key x.0 y.0) (same_data v a.value b.value x.1 y.1) in
    let tail : rest ≡ bs = pairs_same words rest bs x.2 y.2 in
    cc

keys_args_same : (args : List (List ℕ)) (o p : List ℕ) (ks ls : List (List ℕ)) → AreKeysArgs args o ks → AreKeysArgs args p ls → OmapRm o ks ≡ OmapRm p ls
keys_args_same args o p ks ls x y =
    let words : x.object_word ∷ x.key_words ≡ y.object_word ∷ y.key_words = sym x.words ∙ y.words in
    let object_words : y.object_word ≡ x.object_word = cc in
    let key_words : y.key_words ≡ x.key_words = cc in
    let objects : o ≡ p = names_same x.object_word y.object_word o p object_words x.names y.names in
    let keys : ks ≡ ls = keys_same x.key_words ks ls x.spell (subst (λ (w : List (List ℕ)). AreKeyWords w ls) key_words y.spell) in
    cc

pairs_args_same : (args : List (List ℕ)) (o p : List ℕ) (ks ls : List Pair) → ArePairsArgs args o ks → ArePairsArgs args p ls → OmapSet o ks ≡ OmapSet p ls
pairs_args_same args o p ks ls x y =
    let words : x.object_word ∷ x.pair_words ≡ y.object_word ∷ y.pair_words = sym x.words ∙ y.words in
    let object_words : y.object_word ≡ x.object_word = cc in
    let pair_words : y.pair_words ≡ x.pair_words = cc in
    let objects : o ≡ p = names_same x.object_word y.object_word o p object_words x.names y.names in
    let pairs : ks ≡ ls = pairs_same x.pair_words ks ls x.spell (subst (λ (w : List (List ℕ)). ArePairWords w ls) pair_words y.spell) in
    cc

pub op_same : (args : List (List ℕ)) (a b : Op) → op_word a ≡ op_word b → AreArgs args a → AreArgs args b → a ≡ b
op_same args MkColl b word x y = sym (mkcoll_only b args word y).0
op_same args (Touch o) b word x y = let of = touch_only b args word y in object_args_same (λ p. Touch p) args o of.object x of.are ∙ sym of.says
op_same args (Write o n c) b word x y =
    let of = write_only b args word y in write_args_same args o of.object n of.off c of.bytes x of.are ∙ sym of.says
op_same args (Zero o n k) b word x y =
    let of = zero_only b args word y in range_args_same args o of.object n of.off k of.len x of.are ∙ sym of.says
op_same args (Truncate o n) b word x y = let of = truncate_only b args word y in size_args_same args o of.object n of.size x of.are ∙ sym of.says
op_same args (Remove o) b word x y = let of = remove_only b args word y in object_args_same (λ p. Remove p) args o of.object x of.are ∙ sym of.says
op_same args RmColl b word x y = sym (rmcoll_only b args word y).0
op_same args (SetAttr o n v) b word x y =
    let of = setattr_only b args word y in attr_args_same args o of.object n of.name v of.value x of.are ∙ sym of.says
op_same args (RmAttr o n) b word x y = let of = rmattr_only b args word y in name_args_same args o of.object n of.name x of.are ∙ sym of.says
op_same args (RmAttrs o) b word x y = let of = rmattrs_only b args word y in object_args_same (λ p. RmAttrs p) args o of.object x of.are ∙ sym of.says
op_same args (OmapSet o pairs) b word x y = let of = omapset_only b args word y in pairs_args_same args o of.object pairs of.pairs x of.are ∙ sym of.says
op_same args (OmapRm o keys) b word x y = let of = omaprm_only b args word y in keys_args_same args o of.object keys of.keys x of.are ∙ sym of.says
op_same args (OmapRmRange o n m) b word x y =
    let of = omaprmrange_only b args word y in key_range_args_same args o of.object n of.first m of.last x of.are ∙ sym of.says
op_same args (OmapClear o) b word x y = let of = omapclear_only b args word y in object_args_same (λ p. OmapClear p) args o of.object x of.are ∙ sym of.says
op_same args (OmapHeader o v) b word x y = let of = omapheader_only b args word y in data_args_same args o of.object v of.value x of.are ∙ sym of.says
op_same args (Clone o to) b word x y = absurd x
op_same args (CloneRange o to src len dst) b word x y = absurd x

-- ---- the words that begin a transaction

-- it is the word of an operation that scripts have
abbrev pub is_op_word : List ℕ → Bool
is_op_word word = same_bytes word (codes "mkcoll") || same_bytes word (codes "rmcoll") || same_bytes word (codes "touch") || same_bytes word (codes "write")
    || same_bytes word (codes "zero") || same_bytes word (codes "truncate") || same_bytes word (codes "remove") || same_bytes word (codes "setattr")
    || same_bytes word (codes "rmattr") || same_bytes word (codes "rmattrs") || same_bytes word (codes "omapset") || same_bytes word (codes "omaprm")
    || same_bytes word (codes "omaprmrange") || same_bytes word (codes "omapclear") || same_bytes word (codes "omapheader")

is_its_word : (op : Op) (args : List (List ℕ)) → AreArgs args op → is_op_word (op_word op) ≡ true
is_its_word (Clone o to) args are = absurd are
is_its_word (CloneRange o to src len dst) args are = absurd are
is_its_word op args are = refl

-- no operation has another word: the test computes
pub no_op_word : (word : List ℕ) (op : Op) (args : List (List ℕ)) → is_op_word word ≡ false → word ≡ op_word op → AreArgs args op → ⊥
no_op_word word op args test is are =
    let never : true ≡ false = sym (is_its_word op args are) ∙ ap is_op_word (sym is) ∙ test in cc
