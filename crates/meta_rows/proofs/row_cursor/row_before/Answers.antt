use Rattle.std.proofs.Common.{◌∷◌, [], List, ◌++◌, ◌∙◌, ap, subst, append_assoc, arith}
use Rattle.meta_rows.specs.Prelude.{AllFit, Entry, list_size, sets_of}
use Rattle.meta_rows.proofs.CursorLemmas.{fit_front, fit_back, size_last}
use Rattle.meta_rows.proofs.row_cursor.row_before.Goals as goal

pub row_len-size-requires : goal.row_len-size-requires
row_len-size-requires c =
    (fit_back c.next_back.new.self (c.in-Some.row.now ∷ []) (subst (λ (es : List Entry). AllFit (sets_of es)) c.in-Some.ensures c.rows.invariant.fit)).0

pub returns-then-left-size : goal.returns-then-left-size
returns-then-left-size c =
    let row : Entry = c.in-Some.row.now in
    let front : List Entry = c.next_back.new.self in
    let kept = c.rows.invariant in
    let size = ap list_size c.in-Some.ensures ∙ size_last front row in
    record {
      front = front;
      value = row.1;
      back = kept.back;
      is = kept.rows ∙ ap (λ (l : List Entry). l ++ kept.back) c.in-Some.ensures ∙ append_assoc front (row ∷ []) kept.back;
      place_is = omega (arith, size, kept.size, c.row_len-size.ensures, c.if-left-size.true);
    }

pub rows-preserved : goal.rows-preserved
rows-preserved c =
    let row : Entry = c.in-Some.row.now in
    let front : List Entry = c.next_back.new.self in
    let kept = c.rows.invariant in
    let size = ap list_size c.in-Some.ensures ∙ size_last front row in
    record {
      fit = fit_front front (row ∷ []) (subst (λ (es : List Entry). AllFit (sets_of es)) c.in-Some.ensures kept.fit);
      back = row ∷ kept.back;
      rows = kept.rows ∙ ap (λ (l : List Entry). l ++ kept.back) c.in-Some.ensures ∙ append_assoc front (row ∷ []) kept.back;
      size = omega (arith, size, kept.size, c.row_len-size.ensures, c.if-left-size.false);
      some = omega (arith, c.if-left-size.false);
      most = omega (arith, size, kept.most, c.row_len-size.ensures, c.if-left-size.false);
    }
