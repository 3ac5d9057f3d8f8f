-- Operations on rows of the bitmap may come behind the others, or before them, and the rows are the same.
use Rattle.std.proofs.Common.{◌≡◌, ℕ, Bool, true, false, cond, not, List, [], ◌∷◌, ◌++◌, refl, sym, ap, ◌∙◌, append_assoc, append-nil}
use Rattle.std.specs.List.{filter}
use Rattle.std.proofs.lemmas.List.Elements.{filter-append}
use Rattle.std.specs.FinMap.{get}
use Rattle.byte_maps.proofs.Prelude.{same}
use Rattle.meta_rows.specs.Prelude.{Rows, row_after, rows_after, key_of}
use Rattle.meta_rows.specs.declared.row_op.RowOp.{RowOp}
use Rattle.meta_rows.proofs.BatchLemmas.{only_its_own}
use Rattle.meta_rows.proofs.Folds.{rows_after-append}
use Rattle.log_replay.specs.Prelude.{is_bitmap_key, AreBits, AreOthers}

abbrev pub is_bits : RowOp → Bool
is_bits op = is_bitmap_key (key_of op)

abbrev pub is_other : RowOp → Bool
is_other op = not (is_bitmap_key (key_of op))

no_other : (bits : List RowOp) → AreBits bits → filter is_other bits ≡ []
no_other [] all = refl
no_other (op ∷ ops) all =
    ap (λ (b : Bool). cond (not b) (op ∷ filter is_other ops) (filter is_other ops)) all.0 ∙ no_other ops all.1

no_bits : (others : List RowOp) → AreOthers others → filter is_bits others ≡ []
no_bits [] all = refl
no_bits (op ∷ ops) all =
    ap (λ (b : Bool). cond b (op ∷ filter is_bits ops) (filter is_bits ops)) all.0 ∙ no_bits ops all.1

-- of either kind they are the same ones in the same order
same_bits : (others bits : List RowOp) → AreOthers others → filter is_bits (bits ++ others) ≡ filter is_bits (others ++ bits)
same_bits others bits all =
    filter-append is_bits bits others
    ∙ ap (λ (l : List RowOp). filter is_bits bits ++ l) (no_bits others all)
    ∙ append-nil (filter is_bits bits)
    ∙ ap (λ (l : List RowOp). l ++ filter is_bits bits) (sym (no_bits others all))
    ∙ sym (filter-append is_bits others bits)

same_others : (others bits : List RowOp) → AreBits bits → filter is_other (bits ++ others) ≡ filter is_other (others ++ bits)
same_others others bits all =
    filter-append is_other bits others
    ∙ ap (λ (l : List RowOp). l ++ filter is_other others) (no_other bits all)
    ∙ sym (append-nil (filter is_other others))
    ∙ ap (λ (l : List RowOp). filter is_other others ++ l) (sym (no_other bits all))
    ∙ sym (filter-append is_other others bits)

turned : (rows : Rows) (others bits : List RowOp) → AreOthers others → AreBits bits → rows_after rows (bits ++ others) ≡ rows_after rows (others ++ bits)
turned rows others bits first second = same _ _ (λ (q : List ℕ).
    let xs = bits ++ others in
    let ys = others ++ bits in
    elim (is_bitmap_key q) as (λ (b : Bool). is_bitmap_key q ≡ b → get (rows_after rows xs) q ≡ get (rows_after rows ys) q) [
      | true ↦ λ kind.
          let own : (o : RowOp) → key_of o ≡ q → is_bits o ≡ true = λ o is. ap is_bitmap_key is ∙ kind in
          only_its_own q is_bits own rows rows xs refl
          ∙ ap (λ (l : List RowOp). get (rows_after rows l) q) (same_bits others bits first)
          ∙ sym (only_its_own q is_bits own rows rows ys refl)
      | false ↦ λ kind.
          let own : (o : RowOp) → key_of o ≡ q → is_other o ≡ true = λ o is. ap (λ k. not (is_bitmap_key k)) is ∙ ap not kind in
          only_its_own q is_other own rows rows xs refl
          ∙ ap (λ (l : List RowOp). get (rows_after rows l) q) (same_others others bits second)
          ∙ sym (only_its_own q is_other own rows rows ys refl)
    ] refl)

-- those on the bitmap were applied, and the others wait
pub bits_first : (rows : Rows) (others bits : List RowOp) → AreOthers others → AreBits bits
    → rows_after (rows_after rows bits) others ≡ rows_after rows (others ++ bits)
bits_first rows others bits first second = sym (rows_after-append rows bits others) ∙ turned rows others bits first second

pub one_more_bits : (rows : Rows) (others bits : List RowOp) (op : RowOp) → rows_after rows (others ++ (bits ++ op ∷ [])) ≡ row_after (rows_after rows (others ++ bits)) op
one_more_bits rows others bits op =
    ap (rows_after rows) (sym (append_assoc others bits (op ∷ []))) ∙ rows_after-append rows (others ++ bits) (op ∷ [])

pub one_more_other : (rows : Rows) (others bits : List RowOp) (op : RowOp) → AreOthers others → AreBits bits → is_bits op ≡ false
    → rows_after rows ((others ++ op ∷ []) ++ bits) ≡ row_after (rows_after rows (others ++ bits)) op
one_more_other rows others bits op first second other =
    ap (rows_after rows) (append_assoc others (op ∷ []) bits)
    ∙ rows_after-append rows others (op ∷ bits)
    ∙ sym (turned (rows_after rows others) (op ∷ []) bits (other, tt) second)
    ∙ rows_after-append (rows_after rows others) bits (op ∷ [])
    ∙ ap (λ (m : Rows). row_after m op) (sym (rows_after-append rows others bits))

pub more_bits : (bits : List RowOp) (op : RowOp) → AreBits bits → is_bits op ≡ true → AreBits (bits ++ op ∷ [])
more_bits [] op all is = (is, tt)
more_bits (b ∷ bits) op all is = (all.0, more_bits bits op all.1 is)

pub more_others : (others : List RowOp) (op : RowOp) → AreOthers others → is_bits op ≡ false → AreOthers (others ++ op ∷ [])
more_others [] op all is = (is, tt)
more_others (o ∷ others) op all is = (all.0, more_others others op all.1 is)
