-- A transaction read from the front of bytes, operation by operation.
use Rattle.std.proofs.Common.{◌≡◌, ℕ, ◌+◌, ◌<◌, List, [], ◌∷◌, ◌++◌, length, sym, ap, ◌∙◌, subst, append_assoc, append-nil, arith, refl}
use Rattle.std.specs.List.{flat_map, AllByRecursion}
use Rattle.std.proofs.lemmas.List.{length_push}
use Rattle.std.proofs.lemmas.List.Concat.{flat_map-cons, flat_map-append}
use Rattle.unit_fields.specs.Prelude.{IsCollName}
use Rattle.meta_rows.specs.Prelude.{BeginsWithNo, ReadsFront}
use Rattle.object_model.specs.Prelude.{Change}
use Rattle.object_model.specs.declared.op.Op.{Op}
use Rattle.txn_codec.specs.Prelude.{name_bytes, count_bytes, list_bytes, txn_op_bytes, transaction_bytes, AddsOp, IsCount, FitList, FitsOp, FitsTransaction, HasNoFirst, ReadsBody, ReadsFirst}
use Rattle.txn_codec.proofs.Fronts.{rest_of, name_front, list_missing, count_missing}
use Rattle.txn_codec.proofs.OpFronts.{op_free}

-- behind the collection's name no operations stand
ops_missing : (old mid coll : List ℕ) → old ≡ name_bytes coll ++ mid → BeginsWithNo (FitList FitsOp) (list_bytes txn_op_bytes) mid
    → BeginsWithNo FitsTransaction transaction_bytes (1 ∷ old)
ops_missing old mid coll is none t rest fits e =
    let body : old ≡ (name_bytes t.coll ++ list_bytes txn_op_bytes t.ops) ++ rest = rest_of 1 1 old ((name_bytes t.coll ++ list_bytes txn_op_bytes t.ops) ++ rest) e in
    none t.ops rest fits.ops
    (name_front coll t.coll mid (list_bytes txn_op_bytes t.ops ++ rest) (sym is ∙ body ∙ append_assoc (name_bytes t.coll) (list_bytes txn_op_bytes t.ops) rest)).1

pub no_count : (mid : List ℕ) → BeginsWithNo IsCount count_bytes mid → HasNoFirst mid
no_count mid none = count_missing FitsOp txn_op_bytes op_free mid none

pub no_first : (mid behind : List ℕ) (count : ℕ) → ReadsFront IsCount count_bytes mid behind count → BeginsWithNo FitsOp txn_op_bytes behind → HasNoFirst mid
no_first mid behind count counted none =
    list_missing FitsOp txn_op_bytes op_free count [] mid behind behind counted.fits counted.spelled counted.fits.some tt refl none

pub no_begin : (old mid coll : List ℕ) → ReadsFront IsCollName name_bytes old mid coll → HasNoFirst mid → BeginsWithNo FitsTransaction transaction_bytes (1 ∷ old)
no_begin old mid coll read none = ops_missing old mid coll read.spelled none

pub no_coll : (old : List ℕ) → BeginsWithNo IsCollName name_bytes old → BeginsWithNo FitsTransaction transaction_bytes (1 ∷ old)
no_coll old none t rest fits e =
    none t.coll (list_bytes txn_op_bytes t.ops ++ rest) fits.coll
    (rest_of 1 1 old ((name_bytes t.coll ++ list_bytes txn_op_bytes t.ops) ++ rest) e ∙ append_assoc (name_bytes t.coll) (list_bytes txn_op_bytes t.ops) rest)

one_op : (op : Op) (left : List ℕ) → txn_op_bytes op ++ left ≡ flat_map txn_op_bytes (op ∷ []) ++ left
one_op op left = ap (λ (l : List ℕ). l ++ left) (sym (flat_map-cons txn_op_bytes op [] ∙ append-nil (txn_op_bytes op)))

pub begun : (old mid left coll : List ℕ) (count : ℕ) (first : Op) (t : Change) → ReadsFront IsCollName name_bytes old mid coll
    → ReadsFirst mid count first left → t ≡ record { coll = coll; ops = first ∷ [] } → ReadsBody old count 1 t left
begun old mid left coll count first t named both is =
    let counted = both.counted in
    let read = both.read in
    subst (λ (s : Change). ReadsBody old count 1 s left) (sym is) (record {
      coll = named.fits;
      is_count = counted.fits;
      size = refl;
      fit = (read.fits, tt);
      spelled = named.spelled ∙ ap (λ (l : List ℕ). name_bytes coll ++ l)
          (counted.spelled ∙ ap (λ (l : List ℕ). count_bytes count ++ l) (read.spelled ∙ one_op first left));
    })

fit_push : (ops : List Op) (op : Op) → AllByRecursion FitsOp ops → FitsOp op → AllByRecursion FitsOp (ops ++ op ∷ [])
fit_push [] op all fits = (fits, tt)
fit_push (o ∷ ops) op all fits = (all.0, fit_push ops op all.1 fits)

pub one_more : (old mid left : List ℕ) (count i : ℕ) (t s : Change) → ReadsBody old count i t mid → AddsOp t mid s left → ReadsBody old count (i + 1) s left
one_more old mid left count i t s body adds =
    let op = adds.op in
    let read = adds.read in
    subst (λ (u : Change). ReadsBody old count (i + 1) u left) (sym adds.whole) (record {
      coll = body.coll;
      is_count = body.is_count;
      size = length_push t.ops op ∙ ap (λ (n : ℕ). n + 1) body.size;
      fit = fit_push t.ops op body.fit read.fits;
      spelled = body.spelled ∙ ap (λ (l : List ℕ). name_bytes t.coll ++ (count_bytes count ++ l))
          (ap (λ (l : List ℕ). flat_map txn_op_bytes t.ops ++ l) (read.spelled ∙ one_op op left)
          ∙ sym (append_assoc (flat_map txn_op_bytes t.ops) (flat_map txn_op_bytes (op ∷ [])) left)
          ∙ ap (λ (l : List ℕ). l ++ left) (sym (flat_map-append txn_op_bytes t.ops (op ∷ []))));
    })

-- where there are to be more, and none stands there
pub no_other : (old left : List ℕ) (count i : ℕ) (t : Change) → ReadsBody old count i t left → i < count → BeginsWithNo FitsOp txn_op_bytes left
    → BeginsWithNo FitsTransaction transaction_bytes (1 ∷ old)
no_other old left count i t body few none =
    ops_missing old (count_bytes count ++ (flat_map txn_op_bytes t.ops ++ left)) t.coll body.spelled
    (list_missing FitsOp txn_op_bytes op_free count t.ops (count_bytes count ++ (flat_map txn_op_bytes t.ops ++ left)) (flat_map txn_op_bytes t.ops ++ left) left
    body.is_count refl (omega (arith, few, body.size)) body.fit refl none)

-- all of them
pub body_read : (old left : List ℕ) (count i : ℕ) (t : Change) → ReadsBody old count i t left → i ≡ count
    → ReadsFront FitsTransaction transaction_bytes (1 ∷ old) left t
body_read old left count i t body all =
    let size : length t.ops ≡ count = body.size ∙ all in
    record {
      fits = record {
        coll = body.coll;
        ops = record { count = subst (λ (n : ℕ). IsCount n) (sym size) body.is_count; each = body.fit };
      };
      spelled = ap (λ (l : List ℕ). 1 ∷ l) (body.spelled
          ∙ ap (λ (n : ℕ). name_bytes t.coll ++ (count_bytes n ++ (flat_map txn_op_bytes t.ops ++ left))) (sym size)
          ∙ ap (λ (l : List ℕ). name_bytes t.coll ++ l) (sym (append_assoc (count_bytes (length t.ops)) (flat_map txn_op_bytes t.ops) left))
          ∙ sym (append_assoc (name_bytes t.coll) (list_bytes txn_op_bytes t.ops) left));
    }
