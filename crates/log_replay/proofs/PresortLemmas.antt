-- Operations in the order of some bytes of their keys: those of one key come as they came, so that the rows are the same.
use Rattle.std.proofs.Common.{◌≡◌, ℕ, Bool, true, not, List, refl, sym, ap, subst, ◌∙◌, drop}
use Rattle.std.specs.Prelude.{◌&&◌}
use Rattle.std.specs.List.Sorted.{ties, IsStableBy}
use Rattle.std.specs.Ordering.{is_lt, nat_cmp, ordering_reverse}
use Rattle.std.specs.declared.cmp.Ordering.{Ordering}
use Rattle.std.specs.declared.cmp.Ordering.TheVariants.{Less, Equal, Greater}
use Rattle.std.specs.Cmp.{nat_cmp_total}
use Rattle.std.specs.FinMap.{get}
use Rattle.byte_maps.proofs.Prelude.{same}
use Rattle.meta_rows.specs.Prelude.{Rows, rows_after, key_of}
use Rattle.meta_rows.specs.declared.row_op.RowOp.{RowOp}
use Rattle.meta_rows.specs.declared.row_op.RowOp.TheVariants.{Drop}
use Rattle.meta_rows.proofs.BatchLemmas.{only_its_own}
use Rattle.log_replay.specs.Prelude.{first_word}

abbrev pub word : ℕ → RowOp → ℕ
word at op = first_word (drop at (key_of op))

abbrev pub has_lower_word : ℕ → RowOp → RowOp → Bool
has_lower_word at a b = is_lt (nat_cmp (word at a) (word at b))

not_before : (o : Ordering) → o ≡ ordering_reverse o → not (is_lt o) && not (is_lt o) ≡ true
not_before Less e = absurd cc
not_before Equal e = refl
not_before Greater e = absurd cc

not_lower : (n : ℕ) → not (is_lt (nat_cmp n n)) && not (is_lt (nat_cmp n n)) ≡ true
not_lower n = not_before (nat_cmp n n) (nat_cmp_total.antisymm n n)

of_its_key : (at : ℕ) (q : List ℕ) (op : RowOp) → key_of op ≡ q → ties (has_lower_word at) (Drop q) op ≡ true
of_its_key at q op is =
    subst (λ (k : List ℕ). not (is_lt (nat_cmp (first_word (drop at q)) (first_word (drop at k)))) && not (is_lt (nat_cmp (first_word (drop at k)) (first_word (drop at q)))) ≡ true) (sym is)
    (not_lower (first_word (drop at q)))

pub by_words : (at : ℕ) (rows : Rows) (xs ys : List RowOp) → IsStableBy (has_lower_word at) xs ys → rows_after rows ys ≡ rows_after rows xs
by_words at rows xs ys stable = same _ _ (λ q.
    only_its_own q (ties (has_lower_word at) (Drop q)) (of_its_key at q) rows rows ys refl
    ∙ ap (λ (l : List RowOp). get (rows_after rows l) q) (stable (Drop q))
    ∙ sym (only_its_own q (ties (has_lower_word at) (Drop q)) (of_its_key at q) rows rows xs refl))
