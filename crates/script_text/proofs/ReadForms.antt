-- The lines of reads, and the words behind their first one.
use Rattle.std.proofs.Common.{◌≡◌, ℕ, List, [], ◌∷◌, ◌++◌, refl, sym, ap, subst, ◌∙◌}
use Rattle.std.specs.Prelude.{codes}
use Rattle.unit_fields.specs.Prelude.{IsCollName}
use Rattle.object_model.specs.declared.command.Command.{Command as Asked}
use Rattle.object_model.specs.declared.command.Command.TheVariants as command
use Rattle.object_model.specs.declared.command.Read.TheVariants as reads
use Rattle.script_text.specs.Prelude.{in_words, AreObjectWords, IsLineOf, NamesObject, NamesRange}
use Rattle.script_text.specs.declared.line.What.{What}
use Rattle.script_text.specs.declared.line.What.TheVariants.{Command}
use Rattle.script_text.proofs.Splits.{has_none}
use Rattle.script_text.proofs.FirstWords.{IsObjectLine, read_only, sum_only, stat_only, list_only}
use Rattle.script_text.proofs.Forms.{behind_first, HasColl, HasObject, names_behind, HasRange, range_named}

-- ---- `sum` and `stat`

-- the words of such a line name an object
object_words : (word n : List ℕ) (ws : List (List ℕ)) (form : List ℕ → List ℕ → Asked) (rest : List ℕ) (what : What) → rest ≡ in_words (n ∷ ws)
    → IsObjectLine word form (word ∷ n ∷ ws) what → HasObject rest
object_words word n ws form rest what is of =
    ((of.coll, of.object), names_behind word n ws rest of.coll of.object of.are.object_word is of.are.whole of.are.named of.are.names)

-- a line of `sum` names an object
pub sum_says : (rest : List ℕ) (what : What) → IsLineOf (codes "sum" ++ (0x20 ∷ rest)) what → HasObject rest
sum_says rest what line =
    let behind = behind_first (codes "sum") rest what (has_none 0x20 (codes "sum") refl) line in
    object_words (codes "sum") behind.next behind.words (λ c o. command.Read (reads.Sum c o)) rest what behind.whole
    (sum_only (codes "sum" ∷ behind.next ∷ behind.words) (behind.next ∷ behind.words) what refl behind.say)

-- a line of `stat` names an object
pub stat_says : (rest : List ℕ) (what : What) → IsLineOf (codes "stat" ++ (0x20 ∷ rest)) what → HasObject rest
stat_says rest what line =
    let behind = behind_first (codes "stat") rest what (has_none 0x20 (codes "stat") refl) line in
    object_words (codes "stat") behind.next behind.words (λ c o. command.Read (reads.Stat c o)) rest what behind.whole
    (stat_only (codes "stat" ∷ behind.next ∷ behind.words) (behind.next ∷ behind.words) what refl behind.say)

-- the words of a text that names an object, behind another
words_of : (word rest c o : List ℕ) (is : NamesObject rest c o) → AreObjectWords word (word ∷ c ∷ is.object_word ∷ []) c o
words_of word rest c o is = record { object_word = is.object_word; named = is.named; whole = refl; names = is.names }

-- a text that names an object behind `sum`
pub sum_line : (rest c o : List ℕ) → NamesObject rest c o → IsLineOf (codes "sum" ++ (0x20 ∷ rest)) (Command (command.Read (reads.Sum c o)))
sum_line rest c o is = record {
  words = codes "sum" ∷ c ∷ is.object_word ∷ [];
  whole = ap (λ (l : List ℕ). codes "sum" ++ (0x20 ∷ l)) is.whole;
  say = words_of (codes "sum") rest c o is;
  fits = tt;
}

-- a text that names an object behind `stat`
pub stat_line : (rest c o : List ℕ) → NamesObject rest c o → IsLineOf (codes "stat" ++ (0x20 ∷ rest)) (Command (command.Read (reads.Stat c o)))
stat_line rest c o is = record {
  words = codes "stat" ∷ c ∷ is.object_word ∷ [];
  whole = ap (λ (l : List ℕ). codes "stat" ++ (0x20 ∷ l)) is.whole;
  say = words_of (codes "stat") rest c o is;
  fits = tt;
}

-- ---- `list`

-- a line of `list` has a collection's name behind its first word
pub list_says : (rest : List ℕ) (what : What) → IsLineOf (codes "list" ++ (0x20 ∷ rest)) what → HasColl rest
list_says rest what line =
    let behind = behind_first (codes "list") rest what (has_none 0x20 (codes "list") refl) line in
    let of = list_only (codes "list" ∷ behind.next ∷ behind.words) (behind.next ∷ behind.words) what refl behind.say in
    let both : codes "list" ∷ behind.next ∷ behind.words ≡ codes "list" ∷ of.coll ∷ [] = of.are.whole in
    let tails : behind.next ∷ behind.words ≡ of.coll ∷ [] = cc in
    (rest, (refl, subst IsCollName (sym (behind.whole ∙ ap in_words tails)) of.are.named))

-- a collection's name behind `list`
pub list_line : (rest coll : List ℕ) → coll ≡ rest → IsCollName rest → IsLineOf (codes "list" ++ (0x20 ∷ rest)) (Command (command.Read (reads.List coll)))
list_line rest coll is named = record {
  words = codes "list" ∷ coll ∷ [];
  whole = ap (λ (l : List ℕ). codes "list" ++ (0x20 ∷ l)) (sym is);
  say = record { named = subst IsCollName (sym is) named; whole = refl };
  fits = tt;
}

-- ---- `read`

-- a line of `read` names a range
pub read_says : (rest : List ℕ) (what : What) → IsLineOf (codes "read" ++ (0x20 ∷ rest)) what → HasRange rest
read_says rest what line =
    let behind = behind_first (codes "read") rest what (has_none 0x20 (codes "read") refl) line in
    let of = read_only (codes "read" ∷ behind.next ∷ behind.words) (behind.next ∷ behind.words) what refl behind.say in
    let are = of.are in
    let both : codes "read" ∷ behind.next ∷ behind.words ≡ codes "read" ∷ of.coll ∷ are.object_word ∷ are.off_word ∷ are.len_word ∷ [] = are.whole in
    let tails : behind.next ∷ behind.words ≡ of.coll ∷ are.object_word ∷ are.off_word ∷ are.len_word ∷ [] = cc in (
      (of.coll, of.object, of.off, of.len),
      range_named rest of.coll are.object_word are.off_word are.len_word of.coll of.object of.off of.len (behind.whole ∙ ap in_words tails) refl
          are.named are.names are.offset are.size,
    )

-- a text that names a range behind `read`
pub read_line : (rest c o : List ℕ) (off len : ℕ) → NamesRange rest c o off len → IsLineOf (codes "read" ++ (0x20 ∷ rest)) (Command (command.Read (reads.Bytes c o off len)))
read_line rest c o off len is = record {
  words = codes "read" ∷ c ∷ is.are.object_word ∷ is.are.off_word ∷ is.are.len_word ∷ [];
  whole = ap (λ (l : List ℕ). codes "read" ++ (0x20 ∷ l)) (is.whole ∙ ap (λ (l : List (List ℕ)). in_words (c ∷ l)) is.are.words);
  say = record {
    object_word = is.are.object_word;
    off_word = is.are.off_word;
    len_word = is.are.len_word;
    named = is.named;
    whole = refl;
    names = is.are.names;
    offset = is.are.offset;
    size = is.are.count;
  };
  fits = tt;
}
