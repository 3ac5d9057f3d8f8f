-- What is known of a reader of a script that has taken some of it.
use Rattle.std.specs.Prelude.{◌≡◌, ◌≢◌, ◌⊎◌, slice_index, codes, ℕ, ◌+◌, ◌<◌, ◌≤◌, Bool, true, false, List, [], ◌∷◌, ◌++◌, length, Option, Some, None, Result, MatchOption, MatchResult, IfSome}
use Rattle.std.specs.List.{AllByRecursion}
use Rattle.unit_fields.specs.Prelude.{IsCollName}
use Rattle.object_model.specs.declared.op.Pair.{Pair}
use Rattle.script_text.specs.Grammar.{HasNo, in_words, IsNameWord, IsDataWord, AreRangeArgs, AreSizeArgs, AreNameArgs, AreDataArgs, AreAttrArgs, AreKeyRangeArgs, AreKeysArgs, ArePairsArgs, AreKeyWords, ArePairWords, AreWordsOf, FitsWhat}
use Rattle.script_text.specs.About.{coll_word, object_word, value_word}
use Rattle.script_text.specs.Blocks.{Parse}
use Rattle.script_text.specs.Script.{script_limit, line_limit, lines_of, ended}
use Rattle.script_text.specs.Script.{AreGood, IsOutside, IsMisplaced, IsBadAt, IsTextOf}
use Rattle.script_text.specs.declared.about.CollWord.{CollWord}
use Rattle.script_text.specs.declared.about.ObjectWord.{ObjectWord}
use Rattle.script_text.specs.declared.about.ValueWord.{ValueWord}
use Rattle.script_text.specs.declared.fail.ScriptFail.{ScriptFail}
use Rattle.script_text.specs.declared.fail.ScriptFail.TheVariants as fail
use Rattle.script_text.specs.declared.fail.WordFail.{WordFail}
use Rattle.script_text.specs.declared.fail.WordFail.TheVariants.{NotSpelled}
use Rattle.script_text.specs.declared.line.What.{What}
use Rattle.script_text.specs.declared.reader.Reader.{Reader}
use Rattle.block_device.specs.declared.device.Failed.{Failed}
use Rattle.block_device.specs.declared.device.Failed.TheVariants as failed
use Rattle.end_points.specs.Source.{without_first}

-- a zero alone, or another digit at the front
abbrev pub IsPlainNumber : List ℕ → Type 0
IsPlainNumber word = (word ≡ 0x30 ∷ []) ⊎ ((0x31 ≤ slice_index word 0) × (slice_index word 0 ≤ 0x39))

-- such a thing was found, or there is none, or memory ran out
abbrev pub Finds : {X : Type 0} → (X → Type 0) → Result X WordFail → Type 0
Finds {X} IsSuch result = MatchResult result IsSuch (λ why. why ≡ NotSpelled → (x : X) → ¬ (IsSuch x))

-- the words say this, as a line can
abbrev pub AreGoodWords : List (List ℕ) → What → Type 0
AreGoodWords words what = AreWordsOf words what × FitsWhat what

-- the text is a collection's name and a word of an object's name
pub record NamesObject (text coll object : List ℕ) : Type 0 where
  pub object_word : List ℕ
  pub named : IsCollName coll
  pub whole : text ≡ in_words (coll ∷ object_word ∷ [])
  pub names : IsNameWord object_word object

-- the text is those two and two numbers
pub record NamesRange (text coll object : List ℕ) (off len : ℕ) : Type 0 where
  pub named : IsCollName coll
  pub args : List (List ℕ)
  pub whole : text ≡ in_words (coll ∷ args)
  pub are : AreRangeArgs args object off len

-- the text is those two and one number
pub record NamesSize (text coll object : List ℕ) (size : ℕ) : Type 0 where
  pub named : IsCollName coll
  pub args : List (List ℕ)
  pub whole : text ≡ in_words (coll ∷ args)
  pub are : AreSizeArgs args object size

-- the text is a collection's name, and words behind it that are these arguments
pub record HasArgs (Are : List (List ℕ) → Type 0) (text coll : List ℕ) : Type 0 where
  pub named : IsCollName coll
  pub args : List (List ℕ)
  pub whole : text ≡ in_words (coll ∷ args)
  pub are : Are args

-- `C O NAME`
abbrev pub NamesValue : List ℕ → List ℕ → List ℕ → List ℕ → Type 0
NamesValue text coll object name = HasArgs (λ args. AreNameArgs args object name) text coll

-- `C O DATA`
abbrev pub NamesHeader : List ℕ → List ℕ → List ℕ → List ℕ → Type 0
NamesHeader text coll object value = HasArgs (λ args. AreDataArgs args object value) text coll

-- `C O NAME DATA`
abbrev pub NamesAttr : List ℕ → List ℕ → List ℕ → List ℕ → List ℕ → Type 0
NamesAttr text coll object name value = HasArgs (λ args. AreAttrArgs args object name value) text coll

-- `C O NAME NAME`
abbrev pub NamesKeyRange : List ℕ → List ℕ → List ℕ → List ℕ → List ℕ → Type 0
NamesKeyRange text coll object first last = HasArgs (λ args. AreKeyRangeArgs args object first last) text coll

-- `C O` and one or more NAME
abbrev pub NamesKeys : List ℕ → List ℕ → List ℕ → List (List ℕ) → Type 0
NamesKeys text coll object keys = HasArgs (λ args. AreKeysArgs args object keys) text coll

-- `C O` and one or more `NAME DATA`
abbrev pub NamesPairs : List ℕ → List ℕ → List ℕ → List Pair → Type 0
NamesPairs text coll object pairs = HasArgs (λ args. ArePairsArgs args object pairs) text coll

-- the text is one or more NAME
pub record SpellsKeys (text : List ℕ) (keys : List (List ℕ)) : Type 0 where
  pub words : List (List ℕ)
  pub whole : text ≡ in_words words
  pub spell : AreKeyWords words keys
  pub some : 0 < length keys

-- the text is one or more `NAME DATA`
pub record SpellsPairs (text : List ℕ) (pairs : List Pair) : Type 0 where
  pub words : List (List ℕ)
  pub whole : text ≡ in_words words
  pub spell : ArePairWords words pairs
  pub some : 0 < length pairs

-- two words are the key and the value of this pair
pub record SpellsPair (key_word value_word : List ℕ) (p : Pair) : Type 0 where
  pub names : IsNameWord key_word p.key
  pub holds : IsDataWord value_word p.value

-- the first two words of the text, and what stands behind them
pub record StandBefore (text first second rest : List ℕ) : Type 0 where
  pub first_word : HasNo 0x20 first
  pub second_word : HasNo 0x20 second
  pub whole : text ≡ first ++ (0x20 ∷ (second ++ (0x20 ∷ rest)))

-- the word is neither `write` or `read` nor one about a collection or an object as a whole
pub record IsOtherThanWhole (word : List ℕ) : Type 0 where
  pub no_write : word ≢ codes "write"
  pub no_read : word ≢ codes "read"
  pub no_object : (w : ObjectWord) → word ≢ object_word w
  pub no_coll : (w : CollWord) → word ≢ coll_word w

-- nor is it of bytes that are zeros or cut off, nor about one value
pub record IsLaterWord (word : List ℕ) : Type 0 where
  pub other : IsOtherThanWhole word
  pub no_zero : word ≢ codes "zero"
  pub no_truncate : word ≢ codes "truncate"
  pub no_value : (w : ValueWord) → word ≢ value_word w

-- where something fits, this is what is there now
abbrev pub Becomes : Option Parse → Bool → Parse → Type 0
Becomes None fits new = fits ≡ false
Becomes (Some p) fits new = (fits ≡ true) × (new ≡ p)

-- the text behind these is the first bad line, by itself or as one that can't stand there
pub record IsBadBehind (texts : List (List ℕ)) (text : List ℕ) (n : ℕ) : Type 0 where
  pub parse : Parse
  pub good : AreGood texts parse
  pub number : n ≡ length texts + 1
  pub bad : IsOutside text ⊎ IsMisplaced texts parse text

-- where the texts so far were good, one more that has P is kept, or is the bad one
abbrev pub Ends : (List ℕ → Type 0) → Reader → Reader → Type 0
Ends P old new = (texts : List (List ℕ)) (text : List ℕ) → AreGood texts old.parser
    → old.count ≡ length texts → old.bad ≡ None
    → length text ≤ line_limit → P text
    → MatchOption new.bad (AreGood (texts ++ (text ∷ [])) new.parser) (IsBadBehind texts text)

-- the bytes are good lines, and a last one that isn't ended
pub record IsReadSoFar (bytes : List ℕ) (r : Reader) : Type 0 where
  pub texts : List (List ℕ)
  pub good : AreGood texts r.parser
  pub count : r.count ≡ length texts
  pub whole : bytes ≡ ended texts ++ r.text.items
  pub no_feeds : AllByRecursion (λ text. HasNo 10 text) texts
  pub unended : HasNo 10 r.text.items
  pub short : length r.text.items ≤ line_limit
  pub small : length bytes ≤ script_limit

-- what a reader is that has taken these bytes: its bad line is bad however the script goes on
abbrev pub IsAfter : List ℕ → Reader → Type 0
IsAfter bytes r = MatchOption r.bad (IsReadSoFar bytes r) (λ n. (more : List ℕ) → IsBadAt (bytes ++ more) n)

-- the reader takes a piece
abbrev pub TakesPiece : List ℕ → Reader → Reader → Type 0
TakesPiece piece old new = (bytes : List ℕ) → length (bytes ++ piece) ≤ script_limit → IsAfter bytes old → IsAfter (bytes ++ piece) new

-- the reader has taken a piece up to this rest of it
pub record HasTaken (piece rest : List ℕ) (old new : Reader) : Type 0 where
  pub front : List ℕ
  pub whole : piece ≡ front ++ rest
  pub count : new.count ≤ old.count + length front
  pub takes : TakesPiece front old new

-- these bytes were taken of a source
abbrev pub IsReadFrom : Option (List ℕ) → List ℕ → Option (List ℕ) → Type 0
IsReadFrom None bytes new = new ≡ None
IsReadFrom (Some whole) bytes new = (rest : List ℕ) × (new ≡ Some rest) × (whole ≡ bytes ++ rest)

-- how reading ended: at the end of the source, or at the limit
abbrev pub ReadingEnds : Bool → Option (List ℕ) → List ℕ → Type 0
ReadingEnds true new bytes = IfSome new (λ left. left ≡ [])
ReadingEnds false new bytes = length bytes ≡ script_limit

-- these bytes were taken of a source, and a reader has them
pub record WasReadUpTo (old new : Option (List ℕ)) (r : Reader) (end : Bool) : Type 0 where
  pub bytes : List ℕ
  pub from : IsReadFrom old bytes new
  pub after : IsAfter bytes r
  pub small : length bytes ≤ script_limit
  pub count : r.count ≤ script_limit
  pub ends : ReadingEnds end new bytes

-- with so many bytes left to the limit
pub record IsReadingOn (old new : Option (List ℕ)) (r : Reader) (left : ℕ) : Type 0 where
  pub bytes : List ℕ
  pub from : IsReadFrom old bytes new
  pub after : IsAfter bytes r
  pub size : length bytes + left ≡ script_limit
  pub count : r.count ≤ length bytes

-- a source was read to its end, or past the limit by one byte
pub record WasRead (old new : Option (List ℕ)) (r : Reader) : Type 0 where
  pub text : List ℕ
  pub of : IsTextOf old text
  pub after : IsAfter text r
  pub through : new ≡ without_first 1073741825 old

-- the bytes' lines are good, but for a block that isn't ended
pub record AreAllGood (bytes : List ℕ) (r : Reader) : Type 0 where
  pub good : AreGood (lines_of bytes) r.parser
  pub count : r.count ≡ length (lines_of bytes)
  pub small : length bytes ≤ script_limit

-- a reader that has taken all bytes of a script, and has ended the last line
abbrev pub IsAtEnd : List ℕ → Reader → Type 0
IsAtEnd bytes r = MatchOption r.bad (AreAllGood bytes r) (IsBadAt bytes)

-- where the failure names a line
abbrev pub IfLine : ScriptFail → (ℕ → Type 0) → Type 0
IfLine (fail.Line n) P = P n
IfLine f P = Unit {0}

-- what a failed read of a source becomes
abbrev pub of_source : Failed → ScriptFail
of_source failed.Memory = fail.Memory
of_source failed.Fault = fail.ReadFault
