use Rattle.std.proofs.Common.{◌∷◌, [], List, ◌++◌, ◌∙◌, ap, sym, subst, append_assoc, arith}
use Rattle.meta_rows.specs.Prelude.{AllFit, Entry, list_size, sets_of}
use Rattle.meta_rows.proofs.CursorLemmas.{size_last, size_first}
use Rattle.meta_rows.proofs.row_cursor.row_behind.Goals as goal

pub loop-row-preserved : goal.loop-row-preserved
loop-row-preserved c =
    let row : Entry = c.in-Some.row.now in
    let rest : List Entry = c.next.new.self in
    let kept = c.loop-row.invariant in
    let steps = c.in-Some.ensures.steps in
    record {
      can_next = tt;
      finite = tt;
      fit = (subst (λ (es : List Entry). AllFit (sets_of es)) steps kept.fit).1;
      passed = kept.passed ++ row ∷ [];
      rows = kept.rows ∙ ap (λ (l : List Entry). kept.passed ++ l) steps ∙ sym (append_assoc kept.passed (row ∷ []) rest);
      size = omega (arith, kept.size, size_last kept.passed row, c.row_len-size.ensures, c.if-left-size.false);
      most = omega (arith, kept.most, ap list_size steps, size_first row rest, c.row_len-size.ensures, c.if-left-size.false);
    }
