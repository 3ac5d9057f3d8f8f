-- What a reader keeps.
use Rattle.std.proofs.Common.{◌≡◌, ◌≢◌, inl, inr, ℕ, ◌+◌, ◌<◌, ◌≤◌, Bool, true, false, List, [], ◌∷◌, ◌++◌}
use Rattle.std.proofs.Common.{length, Option, Some, None, MatchOption, refl, sym, ap, subst, ◌∙◌, arith, append_assoc, append-nil, length-append}
use Rattle.std.specs.Prelude.{is_some, IsSome, IsNone, OnOk, Result, Ok, Err}
use Rattle.script_text.specs.Prelude.{HasNo, script_limit, line_limit, lines_of, ended, Says, Parse, next, AreGood, IsScript, IsOutside, IsBadAt, Becomes, IsBadBehind, Ends, IsReadSoFar, IsAfter, TakesPiece, HasTaken, AreAllGood, IsAtEnd}
use Rattle.script_text.specs.declared.grammar.Statement.{Statement}
use Rattle.script_text.specs.declared.line.Line.{Line}
use Rattle.script_text.specs.declared.reader.Reader.{Reader}
use Rattle.script_text.proofs.Splits.{has_no-append}
use Rattle.script_text.proofs.Scripts.{good-push}
use Rattle.script_text.proofs.Lines.{lines_behind, lines_of_ended, lines_of_last, first_line, ended-push, feeds-push}

-- ---- a line more

-- a line that was read, by what becomes of it
pub line_goes : (texts : List (List ℕ)) (text : List ℕ) (p q : Parse) (n : ℕ) (s : Statement) → AreGood texts p → length text ≤ line_limit → Says text s
    → n ≡ length texts + 1 → Becomes (next n p s) true q → AreGood (texts ++ (text ∷ [])) q
line_goes texts text p q n s good le says number becomes =
    good-push texts text p q s good says le (ap (λ (k : ℕ). next k p s) (sym number) ∙ by (next n p s) becomes)
  where
    by : (o : Option Parse) → Becomes o true q → o ≡ Some q
    by None becomes = let never : true ≡ false = becomes in cc
    by (Some r) becomes = ap (λ (x : Parse). Some x) (sym becomes.1)

pub line_misplaced : (texts : List (List ℕ)) (text : List ℕ) (p q : Parse) (n : ℕ) (s : Statement) → AreGood texts p → Says text s
    → n ≡ length texts + 1 → Becomes (next n p s) false q → IsBadBehind texts text n
line_misplaced texts text p q n s good says number becomes = record {
  parse = p;
  good = good;
  number = number;
  bad = inr (record { statement = s; says = says; unfit = ap (λ (k : ℕ). next k p s) (sym number) ∙ by (next n p s) becomes });
}
  where
    by : (o : Option Parse) → Becomes o false q → o ≡ None
    by None becomes = refl
    by (Some r) becomes = let never : false ≡ true = becomes.0 in absurd cc

pub line_outside : (texts : List (List ℕ)) (text : List ℕ) (p : Parse) (n : ℕ) → AreGood texts p → IsOutside text → n ≡ length texts + 1
    → IsBadBehind texts text n
line_outside texts text p n good outside number = record { parse = p; good = good; number = number; bad = inl outside }

-- nothing is bad, and the line is kept
pub kept_good : (texts : List (List ℕ)) (text : List ℕ) (r new : Reader) → new ≡ r → r.bad ≡ None → AreGood (texts ++ (text ∷ [])) r.parser
    → MatchOption new.bad (AreGood (texts ++ (text ∷ [])) new.parser) (IsBadBehind texts text)
kept_good texts text r new is none good =
    subst (λ (x : Reader). MatchOption x.bad (AreGood (texts ++ (text ∷ [])) x.parser) (IsBadBehind texts text)) (sym is)
    (subst (λ (o : Option ℕ). MatchOption o (AreGood (texts ++ (text ∷ [])) r.parser) (IsBadBehind texts text)) (sym none) good)

-- ---- the bytes that a reader has taken

pub none_of : {X : Type 0} (o : Option X) (r : Bool) → r ≡ is_some o → r ≡ false → o ≡ None
none_of None r is test = refl
none_of (Some x) r is test = let never : true ≡ false = sym is ∙ test in cc

pub is_within : (bytes : List ℕ) (r : Reader) → r.bad ≡ None → IsAfter bytes r → IsReadSoFar bytes r
is_within bytes r none after = subst (λ (o : Option ℕ). MatchOption o (IsReadSoFar bytes r) (λ n. (more : List ℕ) → IsBadAt (bytes ++ more) n)) none after

-- the lines of the bytes, with more behind them
lines_with : (bytes more : List ℕ) (r : Reader) (w : IsReadSoFar bytes r) → lines_of (bytes ++ more) ≡ w.texts ++ lines_of (r.text.items ++ more)
lines_with bytes more r w =
    ap (λ (l : List ℕ). lines_of l) (ap (λ (l : List ℕ). l ++ more) w.whole ∙ append_assoc (ended w.texts) r.text.items more)
    ∙ lines_behind w.texts (r.text.items ++ more) w.no_feeds

ended_size : (bytes : List ℕ) (r : Reader) (w : IsReadSoFar bytes r) → length bytes ≡ length (ended w.texts) + length r.text.items
ended_size bytes r w = ap length w.whole ∙ length-append (ended w.texts) r.text.items

-- a line that is bad by itself or as a command
pub bad_behind : (bytes whole text : List ℕ) (behind : List (List ℕ)) (r : Reader) (n : ℕ) (w : IsReadSoFar bytes r)
    → lines_of whole ≡ w.texts ++ (text ∷ behind) → IsBadBehind w.texts text n → IsBadAt whole n
bad_behind bytes whole text behind r n w lines bad = inl (record {
  front = w.texts;
  text = text;
  behind = behind;
  lines = lines;
  number = bad.number;
  parse = bad.parse;
  good = bad.good;
  within = omega (arith, ended_size bytes r w, w.small);
  bad = elim bad.bad [ inl outside ↦ inl outside | inr misplaced ↦ inr (inr (inl misplaced)) ];
})

-- a line feed
fed : (bytes : List ℕ) (old new : Reader) (w : IsReadSoFar bytes old) → length (bytes ++ (10 ∷ [])) ≤ script_limit → new.text.items ≡ []
    → new.count ≡ old.count + 1 → (o : Option ℕ)
    → MatchOption o (AreGood (w.texts ++ (old.text.items ∷ [])) new.parser) (IsBadBehind w.texts old.text.items)
    → MatchOption o (IsReadSoFar (bytes ++ (10 ∷ [])) new) (λ n. (more : List ℕ) → IsBadAt (bytes ++ (10 ∷ []) ++ more) n)
fed bytes old new w small empty count None good = record {
  texts = w.texts ++ (old.text.items ∷ []);
  good = good;
  count = count ∙ omega (arith, w.count, length-append w.texts (old.text.items ∷ []));
  whole = ap (λ (l : List ℕ). l ++ (10 ∷ [])) w.whole ∙ append_assoc (ended w.texts) old.text.items (10 ∷ []) ∙ sym (ended-push w.texts old.text.items)
      ∙ sym (append-nil (ended (w.texts ++ (old.text.items ∷ [])))) ∙ ap (λ (l : List ℕ). ended (w.texts ++ (old.text.items ∷ [])) ++ l) (sym empty);
  no_feeds = feeds-push w.texts old.text.items w.no_feeds w.unended;
  unended = subst (λ (l : List ℕ). HasNo 10 l) (sym empty) tt;
  short = omega (arith, ap length empty);
  small = small;
}
fed bytes old new w small empty count (Some n) bad = λ more.
    bad_behind bytes (bytes ++ (10 ∷ []) ++ more) old.text.items (lines_of more) old n w
    (ap (λ (l : List ℕ). lines_of l) (append_assoc bytes (10 ∷ []) more) ∙ lines_with bytes (10 ∷ more) old w
    ∙ ap (λ (l : List (List ℕ)). w.texts ++ l) (lines_of_ended old.text.items more w.unended)) bad

pub takes_feed : (old new : Reader) → old.bad ≡ None → new.text.items ≡ [] → new.count ≡ old.count + 1 → Ends (λ text. text ≡ old.text.items) old new
    → TakesPiece (10 ∷ []) old new
takes_feed old new none empty count ends bytes small after =
    let w = is_within bytes old none after in
    fed bytes old new w small empty count new.bad (ends w.texts old.text.items w.good w.count none w.short refl)

-- the same, where memory may have run out
pub takes_feed_if_ok : {X E : Type 0} (old new : Reader) (r : Result X E) → old.bad ≡ None → OnOk r (new.text.items ≡ []) → OnOk r (new.count ≡ old.count + 1)
    → OnOk r (Ends (λ text. text ≡ old.text.items) old new) → OnOk r (TakesPiece (10 ∷ []) old new)
takes_feed_if_ok old new (Ok x) none empty count ends = takes_feed old new none empty count ends
takes_feed_if_ok old new (Err e) none empty count ends = empty

-- bytes that make the line too long
pub too_long : (bytes piece : List ℕ) (r : Reader) → r.bad ≡ None → HasNo 10 piece → line_limit < length r.text.items + length piece → IsAfter bytes r
    → (more : List ℕ) → IsBadAt (bytes ++ piece ++ more) (r.count + 1)
too_long bytes piece r none feeds long after more =
    let w = is_within bytes r none after in
    let line = r.text.items ++ piece in
    let size : length line ≡ length r.text.items + length piece = length-append r.text.items piece in
    let some : line ++ more ≢ [] = λ is. absurd (omega (arith, size, long, length-append line more, ap length is)) in
    let first = first_line line more (has_no-append 10 r.text.items piece w.unended feeds) some in
    inl (record {
      front = w.texts;
      text = first.text;
      behind = first.behind;
      parse = r.parser;
      good = w.good;
      lines = ap (λ (l : List ℕ). lines_of l) (append_assoc bytes piece more) ∙ lines_with bytes (piece ++ more) r w
          ∙ ap (λ (l : List ℕ). w.texts ++ lines_of l) (sym (append_assoc r.text.items piece more)) ∙ ap (λ (l : List (List ℕ)). w.texts ++ l) first.whole;
      number = omega (arith, w.count);
      within = omega (arith, ended_size bytes r w, w.small);
      bad = inr (inl (omega (arith, size, long, first.longer)));
    })

-- a byte past the limit
pub past_limit : (bytes piece : List ℕ) (r : Reader) → r.bad ≡ None → length bytes ≡ script_limit → 0 < length piece → IsAfter bytes r → (more : List ℕ)
    → IsBadAt (bytes ++ piece ++ more) (r.count + 1)
past_limit bytes piece r none full byte after more =
    let w = is_within bytes r none after in
    let rest = piece ++ more in
    let size : length rest ≡ length piece + length more = length-append piece more in
    let some : r.text.items ++ rest ≢ [] = λ is. absurd (omega (arith, size, byte, length-append r.text.items rest, ap length is)) in
    let first = first_line r.text.items rest w.unended some in
    inl (record {
      front = w.texts;
      text = first.text;
      behind = first.behind;
      parse = r.parser;
      good = w.good;
      lines = ap (λ (l : List ℕ). lines_of l) (append_assoc bytes piece more) ∙ lines_with bytes rest r w
          ∙ ap (λ (l : List (List ℕ)). w.texts ++ l) first.whole;
      number = omega (arith, w.count);
      within = omega (arith, ended_size bytes r w, w.small);
      bad = inr (inr (inr (record {
        larger = omega (arith, full, byte, length-append (bytes ++ piece) more, length-append bytes piece);
        holds = omega (arith, full, ended_size bytes r w, first.longer);
      })));
    })

-- two pieces, one after the other
pub takes_both : (a b : List ℕ) (r s t : Reader) → TakesPiece a r s → TakesPiece b s t → TakesPiece (a ++ b) r t
takes_both a b r s t first second bytes small after =
    let same : bytes ++ a ++ b ≡ bytes ++ (a ++ b) = append_assoc bytes a b in
    let fits : length (bytes ++ a) ≤ script_limit = omega (arith, small, length-append bytes (a ++ b), length-append a b, length-append bytes a) in
    subst (λ (l : List ℕ). IsAfter l t) same (second (bytes ++ a) (subst (λ (l : List ℕ). length l ≤ script_limit) (sym same) small) (first bytes fits after))

pub taken_more : (piece rest front behind : List ℕ) (old r s t : Reader) → HasTaken piece rest old r → rest ≡ front ++ (10 ∷ behind) → s.count ≡ r.count
    → TakesPiece front r s → t.count ≤ s.count + 1 → TakesPiece (10 ∷ []) s t
    → HasTaken piece behind old t
taken_more piece rest front behind old r s t so_far cut same takes one feed =
    let line = front ++ (10 ∷ []) in
    record {
      front = so_far.front ++ line;
      whole = so_far.whole ∙ ap (λ (l : List ℕ). so_far.front ++ l) (cut ∙ sym (append_assoc front (10 ∷ []) behind))
          ∙ sym (append_assoc so_far.front line behind);
      count = omega (arith, so_far.count, same, one, length-append so_far.front line, length-append front (10 ∷ []));
      takes = takes_both so_far.front line old r t so_far.takes (takes_both front (10 ∷ []) r s t takes feed);
    }

pub if_taken : {X E : Type 0} (P Q : Type 0) (r : Result X E) → (P → Q) → OnOk r P → OnOk r Q
if_taken P Q (Ok x) more p = more p
if_taken P Q (Err e) more p = p

-- the last part of a piece
pub taken_all : (piece rest : List ℕ) (old r s : Reader) → HasTaken piece rest old r → TakesPiece rest r s → TakesPiece piece old s
taken_all piece rest old r s so_far takes =
    subst (λ (l : List ℕ). TakesPiece l old s) (sym so_far.whole) (takes_both so_far.front rest old r s so_far.takes takes)

-- ---- the end of a script

pub done_bad : (bytes : List ℕ) (W V : Type 0) (o : Option ℕ) (r : Bool) → r ≡ is_some o → r ≡ true
    → MatchOption o W (λ n. (more : List ℕ) → IsBadAt (bytes ++ more) n) → MatchOption o V (IsBadAt bytes)
done_bad bytes W V None r is test after = let never : false ≡ true = sym is ∙ test in absurd (cc)
done_bad bytes W V (Some n) r is test after = subst (λ (l : List ℕ). IsBadAt l n) (append-nil bytes) (after [])

pub done_ended : (bytes : List ℕ) (r : Reader) → r.bad ≡ None → r.text.items ≡ [] → IsAfter bytes r → IsAtEnd bytes r
done_ended bytes r none empty after =
    let w = is_within bytes r none after in
    let lines : lines_of bytes ≡ w.texts =
    ap (λ (l : List ℕ). lines_of l) (sym (append-nil bytes)) ∙ lines_with bytes [] r w ∙ ap (λ (l : List ℕ). w.texts ++ lines_of (l ++ [])) empty
    ∙ append-nil w.texts in
    subst (λ (o : Option ℕ). MatchOption o (AreAllGood bytes r) (IsBadAt bytes)) (sym none) (record {
      good = subst (λ (l : List (List ℕ)). AreGood l r.parser) (sym lines) w.good;
      count = w.count ∙ ap length (sym lines);
      small = w.small;
    })

done_by : (bytes : List ℕ) (old new : Reader) (w : IsReadSoFar bytes old) → lines_of bytes ≡ w.texts ++ (old.text.items ∷ []) → new.count ≡ old.count + 1
    → (o : Option ℕ) → MatchOption o (AreGood (w.texts ++ (old.text.items ∷ [])) new.parser) (IsBadBehind w.texts old.text.items)
    → MatchOption o (AreAllGood bytes new) (IsBadAt bytes)
done_by bytes old new w lines count None good = record {
  good = subst (λ (l : List (List ℕ)). AreGood l new.parser) (sym lines) good;
  count = omega (arith, count, w.count, ap length lines, length-append w.texts (old.text.items ∷ []));
  small = w.small;
}
done_by bytes old new w lines count (Some n) bad = bad_behind bytes bytes old.text.items [] old n w lines bad

pub done_last : (bytes : List ℕ) (old new : Reader) → old.bad ≡ None → old.text.items ≢ [] → new.count ≡ old.count + 1
    → Ends (λ text. text ≡ old.text.items) old new → IsAfter bytes old → IsAtEnd bytes new
done_last bytes old new none some count ends after =
    let w = is_within bytes old none after in
    let lines : lines_of bytes ≡ w.texts ++ (old.text.items ∷ []) =
    ap (λ (l : List ℕ). lines_of l) (sym (append-nil bytes)) ∙ lines_with bytes [] old w
    ∙ ap (λ (l : List ℕ). w.texts ++ lines_of l) (append-nil old.text.items)
    ∙ ap (λ (l : List (List ℕ)). w.texts ++ l) (lines_of_last old.text.items w.unended some) in
    done_by bytes old new w lines count new.bad (ends w.texts old.text.items w.good w.count none w.short refl)

-- ---- what the end says

pub all_good : (bytes : List ℕ) (r : Reader) → r.bad ≡ None → IsAtEnd bytes r → AreAllGood bytes r
all_good bytes r none end = subst (λ (o : Option ℕ). MatchOption o (AreAllGood bytes r) (IsBadAt bytes)) none end

pub bad_at : (bytes : List ℕ) (n : ℕ) (r : Reader) → r.bad ≡ Some n → IsAtEnd bytes r → IsBadAt bytes n
bad_at bytes n r some end = subst (λ (o : Option ℕ). MatchOption o (AreAllGood bytes r) (IsBadAt bytes)) some end

pub script_of : (bytes : List ℕ) (r : Reader) (lines : List Line) → AreAllGood bytes r → IsNone r.parser.block → lines ≡ r.parser.lines
    → IsScript bytes lines
script_of bytes r lines good ended said = record {
  parse = r.parser;
  good = good.good;
  said = said;
  ended = none_of r.parser.block false (sym ended) refl;
  small = good.small;
}

pub unended_at : (bytes : List ℕ) (r : Reader) (n : ℕ) → AreAllGood bytes r → IsSome r.parser.block → n ≡ r.count + 1 → IsBadAt bytes n
unended_at bytes r n good unended number =
    inr (record { parse = r.parser; good = good.good; unended = unended; small = good.small; number = omega (arith, number, good.count) })

-- the last line ends, where memory may have run out
pub done_last_if_ok : {X E : Type 0} (old new : Reader) (r : Result X E) → old.bad ≡ None → old.text.items ≢ [] → OnOk r (new.count ≡ old.count + 1)
    → OnOk r (Ends (λ text. text ≡ old.text.items) old new) → OnOk r ((bytes : List ℕ) → IsAfter bytes old → IsAtEnd bytes new)
done_last_if_ok old new (Ok x) none some count ends = λ bytes. done_last bytes old new none some count ends
done_last_if_ok old new (Err e) none some count ends = count
