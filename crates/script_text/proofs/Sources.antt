-- What was read of a source.
use Rattle.std.proofs.Common.{◌≡◌, ◌≢◌, ℕ, ◌+◌, ◌-◌, ◌<◌, ◌≤◌, Bool, true, false, List, [], ◌++◌, length}
use Rattle.std.proofs.Common.{take, drop, Option, Some, None, refl, sym, ap, subst, ◌∙◌, arith, append_assoc, append-nil, length-append}
use Rattle.std.specs.Prelude.{IfSome}
use Rattle.std.proofs.lemmas.List.{take-append-drop, drop_all, drop_at, nil_from_length}
use Rattle.end_points.specs.Source.{Took, without_first}
use Rattle.script_text.specs.Prelude.{script_limit, IsTextOf, IsAfter, TakesPiece, IsReadFrom, ReadingEnds, IsReadingOn, WasReadUpTo, WasRead}
use Rattle.script_text.specs.declared.reader.Reader.{Reader}

-- a read's bytes, where nothing stood before them
pub took_bytes : (mid new : Option (List ℕ)) (most n : ℕ) (before after : List ℕ) → before ≡ [] → (t : Took mid most n before after new) → after ≡ t.piece
took_bytes mid new most n before after empty t = t.appended ∙ ap (λ (l : List ℕ). l ++ t.piece) empty

pub took_size : (mid new : Option (List ℕ)) (most n : ℕ) (before after : List ℕ) → before ≡ [] → Took mid most n before after new → length after ≡ n
took_size mid new most n before after empty t = ap length (took_bytes mid new most n before after empty t) ∙ t.size

pub took_on : (old mid new : Option (List ℕ)) (bytes : List ℕ) (most n : ℕ) (before after : List ℕ) → IsReadFrom old bytes mid → before ≡ []
    → Took mid most n before after new → IsReadFrom old (bytes ++ after) new
took_on None mid new bytes most n before after from empty t = t.rest ∙ ap (λ (o : Option (List ℕ)). without_first n o) from
took_on (Some whole) mid new bytes most n before after from empty t =
    let rest = from.0 in
    let piece : after ≡ take n rest = took_bytes mid new most n before after empty t
    ∙ subst (λ (o : Option (List ℕ)). IfSome o (λ left. t.piece ≡ take n left)) from.1 t.next in
    let parts : rest ≡ after ++ drop n rest = sym (take-append-drop n rest) ∙ ap (λ (l : List ℕ). l ++ drop n rest) (sym piece) in (
      drop n rest,
      t.rest ∙ ap (λ (o : Option (List ℕ)). without_first n o) from.1,
      from.2 ∙ ap (λ (l : List ℕ). bytes ++ l) parts
          ∙ sym (append_assoc bytes after (drop n rest)),
    )

pub reading_more : (old mid new : Option (List ℕ)) (r s : Reader) (left most n : ℕ) (before after piece : List ℕ) → IsReadingOn old mid r left → before ≡ []
    → Took mid most n before after new → n ≤ left
    → piece ≡ after → TakesPiece piece r s → s.count ≤ r.count + length piece → IsReadingOn old new s (left - n)
reading_more old mid new r s left most n before after piece on empty t few is takes count =
    let size : length piece ≡ n = ap length is ∙ took_size mid new most n before after empty t in
    let total : length (on.bytes ++ piece) ≡ length on.bytes + length piece = length-append on.bytes piece in
    record {
      bytes = on.bytes ++ piece;
      from = subst (λ (l : List ℕ). IsReadFrom old (on.bytes ++ l) new) (sym is) (took_on old mid new on.bytes most n before after on.from empty t);
      after = takes on.bytes (omega (arith, total, size, on.size, few)) on.after;
      size = omega (arith, total, size, on.size, few);
      count = omega (arith, total, on.count, count);
    }

text_of_whole : (old new : Option (List ℕ)) (bytes : List ℕ) → IsReadFrom old bytes new → ReadingEnds true new bytes → IsTextOf old bytes
text_of_whole None new bytes from ends = tt
text_of_whole (Some whole) new bytes from ends =
    let nil : from.0 ≡ [] = subst (λ (o : Option (List ℕ)). IfSome o (λ left. left ≡ [])) from.1 ends in
    from.2 ∙ ap (λ (l : List ℕ). bytes ++ l) nil ∙ append-nil bytes

through_whole : (old new : Option (List ℕ)) (bytes : List ℕ) → IsReadFrom old bytes new → ReadingEnds true new bytes → length bytes ≤ script_limit
    → new ≡ without_first 1073741825 old
through_whole None new bytes from ends small = from
through_whole (Some whole) new bytes from ends small =
    let nil : from.0 ≡ [] = subst (λ (o : Option (List ℕ)). IfSome o (λ left. left ≡ [])) from.1 ends in
    let size = ap length from.2 ∙ length-append bytes from.0 in
    let none = ap length nil in
    let gone : drop 1073741825 whole ≡ [] = drop_all 1073741825 whole (omega (arith, size, none, small)) in
    from.1 ∙ ap (λ (l : List ℕ). Some l) (nil ∙ sym gone)

-- a source that ended within the limit
pub ended_read : (old new : Option (List ℕ)) (r : Reader) (end : Bool) → end ≡ true → WasReadUpTo old new r end → WasRead old new r
ended_read old new r end is read =
    let ends = subst (λ (b : Bool). ReadingEnds b new read.bytes) is read.ends in
    record {
      text = read.bytes;
      of = text_of_whole old new read.bytes read.from ends;
      after = read.after;
      through = through_whole old new read.bytes
          read.from ends read.small;
    }

-- one that ends just at the limit
pub full_read : (old mid new : Option (List ℕ)) (r : Reader) (before after : List ℕ) (n : ℕ) → WasReadUpTo old mid r false → before ≡ []
    → Took mid 1 n before after new → n ≡ 0 → WasRead old new r
full_read old mid new r before after n read empty t none =
    let from = took_on old mid new read.bytes 1 n before after read.from empty t in
    let nil : after ≡ [] = nil_from_length after (took_size mid new 1 n before after empty t ∙ none) in
    let same : read.bytes ++ after ≡ read.bytes = ap (λ (l : List ℕ). read.bytes ++ l) nil ∙ append-nil read.bytes in
    let rests : IfSome new (λ left. left ≡ []) = left_none mid new n t.rest (t.end (omega arith) none) in
    ended_read old new r true refl (record {
      bytes = read.bytes;
      from = subst (λ (l : List ℕ). IsReadFrom old l new) same from;
      after = read.after;
      small = read.small;
      count = read.count;
      ends = rests;
    })
  where
    left_some : (rest : List ℕ) (new : Option (List ℕ)) (n : ℕ) → new ≡ Some (drop n rest) → rest ≡ [] → IfSome new (λ left. left ≡ [])
    left_some rest new n is nil =
        let gone : drop n rest ≡ [] = drop_all n rest (omega (arith, ap length nil)) in
        subst (λ (o : Option (List ℕ)). IfSome o (λ left. left ≡ [])) (sym is) gone

    left_none : (mid new : Option (List ℕ)) (n : ℕ) → new ≡ without_first n mid → IfSome mid (λ left. left ≡ []) → IfSome new (λ left. left ≡ [])
    left_none None new n is end = subst (λ (o : Option (List ℕ)). IfSome o (λ left. left ≡ [])) (sym is) tt
    left_none (Some rest) new n is end = left_some rest new n is end

-- one that goes on past the limit
pub past_read : (old mid new : Option (List ℕ)) (r s : Reader) (before after : List ℕ) (n : ℕ) → WasReadUpTo old mid r false → before ≡ []
    → Took mid 1 n before after new → n ≢ 0
    → ((bytes piece : List ℕ) → length bytes ≡ script_limit → 0 < length piece → IsAfter bytes r → IsAfter (bytes ++ piece) s) → WasRead old new s
past_read old mid new r s before after n read empty t some refuse =
    by old (took_on old mid new read.bytes 1 n before after read.from empty t)
  where
    size : length after ≡ n
    size = took_size mid new 1 n before after empty t

    by : (o : Option (List ℕ)) → IsReadFrom o (read.bytes ++ after) new → WasRead o new s
    by None from = record {
      text = read.bytes ++ after;
      of = tt;
      after = refuse read.bytes after read.ends (omega (arith, size, some)) read.after;
      through =
          from;
    }
    by (Some whole) from =
        let rest = from.0 in
        let longer : 0 < length (after ++ rest) = omega (arith, size, some, length-append after rest) in
        let total : length (read.bytes ++ after) ≡ 1073741825 = omega (arith, length-append read.bytes after, size, t.few, some, read.ends) in
        record {
          text = read.bytes ++ (after ++ rest);
          of = from.2 ∙ append_assoc read.bytes after rest;
          after = refuse read.bytes (after ++ rest) read.ends longer read.after;
          through = from.1 ∙ ap (λ (l : List ℕ). Some l) (sym (ap (λ (l : List ℕ). drop 1073741825 l) from.2
              ∙ drop_at (read.bytes ++ after) rest 1073741825 total));
        }
