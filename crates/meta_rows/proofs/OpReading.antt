-- Where no operation stands at the front of bytes, and where bytes spell no list of operations.
use Rattle.std.proofs.Common.{◌≡◌, ◌≢◌, ℕ, ◌<◌, ◌^◌, List, [], ◌∷◌, ◌++◌, length, sym, ap, ◌∙◌, append_assoc, arith}
use Rattle.std.proofs.lemmas.List.{length-append}
use Rattle.std.proofs.lemmas.List.Concat.{flat_map-cons}
use Rattle.meta_rows.specs.declared.row_op.RowOp.{RowOp}
use Rattle.meta_rows.specs.declared.row_op.RowOp.TheVariants.{Set, Drop, Flip}
use Rattle.meta_rows.specs.Prelude.{key_bytes, value_bytes, op_bytes, ops_bytes, IsKey, FitsRowOp, AllFit, IsValue, BeginsWithNo, ReadsFront, SpellOps}
use Rattle.meta_rows.proofs.Ops.{key_front, op_front, length-op_bytes}

-- behind the key of a set or of a flip there is a value
value_there : (key mid k v rest : List ℕ) → IsKey key → IsKey k → length v < 2 ^ 32
    → key_bytes key ++ mid ≡ (key_bytes k ++ value_bytes v) ++ rest → BeginsWithNo IsValue value_bytes mid → ⊥
value_there key mid k v rest is_key is_k short is none =
    none v rest short (key_front key k mid (value_bytes v ++ rest) is_key is_k (is ∙ append_assoc (key_bytes k) (value_bytes v) rest)).1

-- where there is none, no operation stands there but a drop
pub value_missing : (code : ℕ) (bytes behind mid key : List ℕ) → bytes ≡ code ∷ behind → ReadsFront IsKey key_bytes behind mid key → code ≢ 2
    → BeginsWithNo IsValue value_bytes mid → BeginsWithNo FitsRowOp op_bytes bytes
value_missing code bytes behind mid key is read other none (Set k v) rest fits e =
    value_there key mid k v rest read.fits fits.0 fits.1 (let same : behind ≡ (key_bytes k ++ value_bytes v) ++ rest = cc in sym read.spelled ∙ same) none
value_missing code bytes behind mid key is read other none (Drop k) rest fits e = let two : code ≡ 2 = cc in other two
value_missing code bytes behind mid key is read other none (Flip k v) rest fits e =
    value_there key mid k v rest read.fits fits.0 fits.1 (let same : behind ≡ (key_bytes k ++ value_bytes v) ++ rest = cc in sym read.spelled ∙ same) none

regroup : (op : RowOp) (ops : List RowOp) (left : List ℕ) → ops_bytes (op ∷ ops) ++ left ≡ op_bytes op ++ (ops_bytes ops ++ left)
regroup op ops left = ap (λ (l : List ℕ). l ++ left) (flat_map-cons op_bytes op ops) ∙ append_assoc (op_bytes op) (ops_bytes ops) left

some_bytes : (op : RowOp) (rest : List ℕ) → 0 < length (op_bytes op ++ rest)
some_bytes op rest = omega (arith, length-append (op_bytes op) rest, length-op_bytes op)

-- where no operation stands behind those that were read, the whole is no spelling
no_more : (read ops : List RowOp) (left : List ℕ) → AllFit read → AllFit ops → left ≢ [] → BeginsWithNo FitsRowOp op_bytes left
    → ops_bytes read ++ left ≢ ops_bytes ops
no_more [] [] left fits fit some none e = some e
no_more [] (op ∷ ops) left fits fit some none e = none op (ops_bytes ops) fit.0 (e ∙ flat_map-cons op_bytes op ops)
no_more (o ∷ read) [] left fits fit some none e =
    absurd (omega (arith, some_bytes o (ops_bytes read ++ left), ap length (sym (regroup o read left) ∙ e)))
no_more (o ∷ read) (op ∷ ops) left fits fit some none e =
    let first = op_front o op (ops_bytes read ++ left) (ops_bytes ops) fits.0 fit.0 (sym (regroup o read left) ∙ e ∙ flat_map-cons op_bytes op ops) in
    no_more read ops left fits.1 fit.1 some none first.1

pub no_spelling : (bytes left : List ℕ) (read ops : List RowOp) → bytes ≡ ops_bytes read ++ left → AllFit read → left ≢ []
    → BeginsWithNo FitsRowOp op_bytes left → ¬ (SpellOps bytes ops)
no_spelling bytes left read ops is fits some none spelled = no_more read ops left fits spelled.fit some none (sym is ∙ spelled.spelled)
