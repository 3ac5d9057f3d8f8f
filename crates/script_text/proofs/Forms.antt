-- What the words of a line say.
use Rattle.std.proofs.Common.{◌≡◌, ◌≢◌, ℕ, ◌≤◌, true, false, List, [], ◌∷◌, ◌++◌, Result, Ok, Err}
use Rattle.std.proofs.Common.{refl, sym, ap, subst, ◌∙◌, arith}
use Rattle.std.specs.Prelude.{codes, IfOk, decimal}
use Rattle.std.specs.Fmt.{digits}
use Rattle.std.proofs.lemmas.Fmt.{digits_is_IsNumeral, decimal_is_IsNumeral}
use Rattle.unit_fields.specs.Prelude.{IsCollName, head_suffix}
use Rattle.object_model.specs.Prelude.{Change}
use Rattle.object_model.specs.declared.op.Op.{Op}
use Rattle.object_model.specs.declared.op.Op.TheVariants.{MkColl, RmColl, Touch, Write, Zero, Truncate, Remove, SetAttr, RmAttr, RmAttrs, OmapSet, OmapRm, OmapRmRange, OmapClear, OmapHeader}
use Rattle.object_model.specs.declared.op.Pair.{Pair}
use Rattle.object_model.specs.declared.command.Command.TheVariants as command
use Rattle.object_model.specs.declared.command.Read.{Read}
use Rattle.object_model.specs.declared.command.Read.TheVariants as reads
use Rattle.script_text.specs.Prelude.{HasNo, AreWords, in_words, IsNameWord, IsNumber, IsDataWord, op_word, AreObjectArgs, AreWriteArgs, AreRangeArgs, AreSizeArgs, AreNameArgs, AreDataArgs, AreAttrArgs, AreKeyRangeArgs, AreKeyWords, ArePairWords, AreKeysArgs, ArePairsArgs, AreArgs, AreChangeWords, AreReadWords, AreObjectWords, AreValueWords, AreListWords, AreWordsOfRead, AreWordsOf, FitsWhat, IsLineOf, op_line, IsPassedOver, Finds, AreGoodWords, NamesObject, NamesRange, NamesSize}
use Rattle.script_text.specs.declared.line.What.{What}
use Rattle.script_text.specs.declared.line.What.TheVariants.{Command, Wait}
use Rattle.script_text.specs.declared.fail.WordFail.{WordFail}
use Rattle.script_text.proofs.Finding.{found_as}
use Rattle.script_text.proofs.Splits.{parts, no_part, has_no-append, lacks, has_none}
use Rattle.script_text.proofs.Numbers.{no_space_digits, number_no_space}
use Rattle.script_text.proofs.Names.{name_no_space}
use Rattle.script_text.proofs.DataWords.{data_no_space}
use Rattle.script_text.proofs.Words.{same_words}
use Rattle.script_text.proofs.OpWords.{IsWriteOp, known_args, mkcoll_only, rmcoll_only, touch_only, write_only, zero_only, truncate_only, remove_only, op_same}
use Rattle.script_text.proofs.FirstWords.{IsOtherWord, is_read_word, read_word, read_begins, other_words, change_only, read_only, sum_only, stat_only, getattr_only, omapget_only, omaphdr_only, list_only, wait_only}
use Rattle.script_text.proofs.FirstWords.{read_same, object_same, value_same, list_same}

-- what is known of a result that is Ok
pub if_ok : {X E : Type 0} (P Q : X → Type 0) (r : Result X E) → ((x : X) → P x → Q x) → IfOk r P → IfOk r Q
if_ok P Q (Ok x) more p = more x p
if_ok P Q (Err e) more p = p

pub coll_no_space : (name : List ℕ) → IsCollName name → HasNo 0x20 name
coll_no_space name is =
    let pool = no_space_digits 10 (omega arith) (decimal is.pool) (decimal_is_IsNumeral is.pool is.pool_fits).0.1 in
    let seed = no_space_digits 16 (omega arith) (digits 16 false is.seed)
    (digits_is_IsNumeral 16 false (omega arith) (omega arith) is.seed (let fits = is.seed_fits in omega arith)).0.1 in
    let back = has_no-append 0x20 (digits 16 false is.seed) head_suffix seed (has_none 0x20 head_suffix refl) in
    subst (λ (l : List ℕ). HasNo 0x20 l) (sym is.spelled) (has_no-append 0x20 (decimal is.pool) (0x2e ∷ (digits 16 false is.seed ++ head_suffix)) pool
    ((λ same. absurd (omega (arith, same))), back))

-- ---- each line begins with a word, which begins with a letter

pub record IsWorded (words : List (List ℕ)) : Type 0 where
  pub first : ℕ
  pub word : List ℕ
  pub behind : List (List ℕ)
  pub letter : 0x61 ≤ first
  pub whole : words ≡ (first ∷ word) ∷ behind
  pub no_spaces : AreWords ((first ∷ word) ∷ behind)

object_args_words : (args : List (List ℕ)) (object : List ℕ) → AreObjectArgs args object → AreWords args
object_args_words args object is = subst AreWords (sym is.words) (name_no_space is.object_word object is.names, tt)

write_args_words : (args : List (List ℕ)) (object : List ℕ) (off : ℕ) (bytes : List ℕ) → AreWriteArgs args object off bytes → AreWords args
write_args_words args object off bytes is = subst AreWords (sym is.words) (
  name_no_space is.object_word object is.names,
  (number_no_space is.off_word off is.offset, (data_no_space is.data_word bytes is.holds, tt)),
)

range_args_words : (args : List (List ℕ)) (object : List ℕ) (off len : ℕ) → AreRangeArgs args object off len → AreWords args
range_args_words args object off len is = subst AreWords (sym is.words) (
  name_no_space is.object_word object is.names,
  (number_no_space is.off_word off is.offset, (number_no_space is.len_word len is.count, tt)),
)

size_args_words : (args : List (List ℕ)) (object : List ℕ) (size : ℕ) → AreSizeArgs args object size → AreWords args
size_args_words args object size is = subst AreWords (sym is.words) (
  name_no_space is.object_word object is.names,
  (number_no_space is.size_word size is.sized, tt),
)

pub name_args_words : (args : List (List ℕ)) (object name : List ℕ) → AreNameArgs args object name → AreWords args
name_args_words args object name is = subst AreWords (sym is.words) (
  name_no_space is.object_word object is.names,
  (name_no_space is.name_word name is.called, tt),
)

pub data_args_words : (args : List (List ℕ)) (object value : List ℕ) → AreDataArgs args object value → AreWords args
data_args_words args object value is = subst AreWords (sym is.words) (
  name_no_space is.object_word object is.names,
  (data_no_space is.data_word value is.holds, tt),
)

pub attr_args_words : (args : List (List ℕ)) (object name value : List ℕ) → AreAttrArgs args object name value → AreWords args
attr_args_words args object name value is = subst AreWords (sym is.words) (
  name_no_space is.object_word object is.names,
  (name_no_space is.name_word name is.called, (data_no_space is.data_word value is.holds, tt)),
)

pub key_range_args_words : (args : List (List ℕ)) (object first last : List ℕ) → AreKeyRangeArgs args object first last → AreWords args
key_range_args_words args object first last is = subst AreWords (sym is.words) (
  name_no_space is.object_word object is.names,
  (name_no_space is.first_word first is.begins, (name_no_space is.last_word last is.ends, tt)),
)

pub key_words_are : (words keys : List (List ℕ)) → AreKeyWords words keys → AreWords words
key_words_are [] keys are = tt
key_words_are (w ∷ words) [] are = absurd are
key_words_are (w ∷ words) (k ∷ keys) are = (name_no_space w k are.0, key_words_are words keys are.1)

pub pair_words_are : (words : List (List ℕ)) (pairs : List Pair) → ArePairWords words pairs → AreWords words
pair_words_are [] pairs are = tt
pair_words_are (w ∷ []) pairs are = absurd are
pair_words_are (w ∷ v ∷ words) [] are = absurd are
pair_words_are (w ∷ v ∷ words) (p ∷ pairs) are =
    (name_no_space w p.key are.0, (data_no_space v p.value are.1, pair_words_are words pairs are.2))

keys_args_words : (args : List (List ℕ)) (object : List ℕ) (keys : List (List ℕ)) → AreKeysArgs args object keys → AreWords args
keys_args_words args object keys is = subst AreWords (sym is.words) (name_no_space is.object_word object is.names, key_words_are is.key_words keys is.spell)

pairs_args_words : (args : List (List ℕ)) (object : List ℕ) (pairs : List Pair) → ArePairsArgs args object pairs → AreWords args
pairs_args_words args object pairs is = subst AreWords (sym is.words) (name_no_space is.object_word object is.names, pair_words_are is.pair_words pairs is.spell)

-- the words behind a collection's
pub args_words : (op : Op) (args : List (List ℕ)) → AreArgs args op → AreWords args
args_words MkColl args is = subst AreWords (sym is) tt
args_words (Touch o) args is = object_args_words args o is
args_words (Write o off bytes) args is = write_args_words args o off bytes is
args_words (Zero o off len) args is = range_args_words args o off len is
args_words (Truncate o size) args is = size_args_words args o size is
args_words (Remove o) args is = object_args_words args o is
args_words RmColl args is = subst AreWords (sym is) tt
args_words (SetAttr o name value) args is = attr_args_words args o name value is
args_words (RmAttr o name) args is = name_args_words args o name is
args_words (RmAttrs o) args is = object_args_words args o is
args_words (OmapSet o pairs) args is = pairs_args_words args o pairs is
args_words (OmapRm o keys) args is = keys_args_words args o keys is
args_words (OmapRmRange o first last) args is = key_range_args_words args o first last is
args_words (OmapClear o) args is = object_args_words args o is
args_words (OmapHeader o value) args is = data_args_words args o value is
args_words op args is = absurd is

-- a known word, a collection's and others
word_worded : (first : ℕ) (word coll : List ℕ) (args : List (List ℕ)) → 0x61 ≤ first → lacks 0x20 (first ∷ word) ≡ true → HasNo 0x20 coll → AreWords args
    → IsWorded ((first ∷ word) ∷ coll ∷ args)
word_worded first word coll args letter test none are = record {
  first = first;
  word = word;
  behind = coll ∷ args;
  letter = letter;
  whole = refl;
  no_spaces = (has_none 0x20 (first ∷ word) test, (none, are));
}

op_worded : (op : Op) (coll : List ℕ) (args : List (List ℕ)) → HasNo 0x20 coll → AreArgs args op → IsWorded (op_word op ∷ coll ∷ args)
op_worded MkColl coll args none is = word_worded 0x6d (codes "kcoll") coll args (omega arith) refl none (args_words MkColl args is)
op_worded RmColl coll args none is = word_worded 0x72 (codes "mcoll") coll args (omega arith) refl none (args_words RmColl args is)
op_worded (Touch o) coll args none is = word_worded 0x74 (codes "ouch") coll args (omega arith) refl none (args_words (Touch o) args is)
op_worded (Write o off bytes) coll args none is = word_worded 0x77 (codes "rite") coll args (omega arith) refl none (args_words (Write o off bytes) args is)
op_worded (Zero o off len) coll args none is = word_worded 0x7a (codes "ero") coll args (omega arith) refl none (args_words (Zero o off len) args is)
op_worded (Truncate o size) coll args none is = word_worded 0x74 (codes "runcate") coll args (omega arith) refl none (args_words (Truncate o size) args is)
op_worded (Remove o) coll args none is = word_worded 0x72 (codes "emove") coll args (omega arith) refl none (args_words (Remove o) args is)
op_worded (SetAttr o name value) coll args none is = word_worded 0x73 (codes "etattr") coll args (omega arith) refl none (args_words (SetAttr o name value) args is)
op_worded (RmAttr o name) coll args none is = word_worded 0x72 (codes "mattr") coll args (omega arith) refl none (args_words (RmAttr o name) args is)
op_worded (RmAttrs o) coll args none is = word_worded 0x72 (codes "mattrs") coll args (omega arith) refl none (args_words (RmAttrs o) args is)
op_worded (OmapSet o pairs) coll args none is = word_worded 0x6f (codes "mapset") coll args (omega arith) refl none (args_words (OmapSet o pairs) args is)
op_worded (OmapRm o keys) coll args none is = word_worded 0x6f (codes "maprm") coll args (omega arith) refl none (args_words (OmapRm o keys) args is)
op_worded (OmapRmRange o key_first key_last) coll args none is = word_worded 0x6f (codes "maprmrange") coll args (omega arith) refl none (args_words (OmapRmRange o key_first key_last) args is)
op_worded (OmapClear o) coll args none is = word_worded 0x6f (codes "mapclear") coll args (omega arith) refl none (args_words (OmapClear o) args is)
op_worded (OmapHeader o value) coll args none is = word_worded 0x6f (codes "mapheader") coll args (omega arith) refl none (args_words (OmapHeader o value) args is)
op_worded op coll args none is = absurd is

-- the words of a read of an object as a whole
object_worded : (first : ℕ) (word : List ℕ) (words : List (List ℕ)) (c o : List ℕ) → 0x61 ≤ first → HasNo 0x20 (first ∷ word)
    → AreObjectWords (first ∷ word) words c o → IsWorded words
object_worded first word words c o letter none say = subst IsWorded (sym say.whole) (record {
  first = first;
  word = word;
  behind = c ∷ say.object_word ∷ [];
  letter = letter;
  whole = refl;
  no_spaces = (none, (coll_no_space c say.named, (name_no_space say.object_word o say.names, tt)));
})

-- the words of a read of a value of an object
value_worded : (first : ℕ) (word : List ℕ) (words : List (List ℕ)) (c o n : List ℕ) → 0x61 ≤ first → HasNo 0x20 (first ∷ word)
    → AreValueWords (first ∷ word) words c o n → IsWorded words
value_worded first word words c o n letter none say = subst IsWorded (sym say.whole) (record {
  first = first;
  word = word;
  behind = c ∷ say.object_word ∷ say.name_word ∷ [];
  letter = letter;
  whole = refl;
  no_spaces = (none, (coll_no_space c say.named, (name_no_space say.object_word o say.names, (name_no_space say.name_word n say.called, tt))));
})

-- the words of a read of an object's bytes
read_worded : (words : List (List ℕ)) (c o : List ℕ) (off len : ℕ) → AreReadWords words c o off len → IsWorded words
read_worded words c o off len say = subst IsWorded (sym say.whole) (record {
  first = 0x72;
  word = codes "ead";
  behind = c ∷ say.object_word ∷ say.off_word ∷ say.len_word ∷ [];
  letter = omega arith;
  whole = refl;
  no_spaces = (
    has_none 0x20 (codes "read") refl,
    (
      coll_no_space c say.named,
      (
        name_no_space say.object_word o say.names,
        (number_no_space say.off_word off say.offset, (number_no_space say.len_word len say.size, tt)),
      ),
    ),
  );
})

-- the words of a read of a collection's names
list_worded : (words : List (List ℕ)) (c : List ℕ) → AreListWords words c → IsWorded words
list_worded words c say = subst IsWorded (sym say.whole) (record {
  first = 0x6c;
  word = codes "ist";
  behind = c ∷ [];
  letter = omega arith;
  whole = refl;
  no_spaces = (has_none 0x20 (codes "list") refl, (coll_no_space c say.named, tt));
})

-- the words of each read
worded_read : (words : List (List ℕ)) (read : Read) → AreWordsOfRead words read → IsWorded words
worded_read words (reads.Bytes c o off len) say = read_worded words c o off len say
worded_read words (reads.Sum c o) say = object_worded 0x73 (codes "um") words c o (omega arith) (has_none 0x20 (codes "sum") refl) say
worded_read words (reads.Stat c o) say = object_worded 0x73 (codes "tat") words c o (omega arith) (has_none 0x20 (codes "stat") refl) say
worded_read words (reads.GetAttr c o n) say = value_worded 0x67 (codes "etattr") words c o n (omega arith) (has_none 0x20 (codes "getattr") refl) say
worded_read words (reads.OmapGet c o n) say = value_worded 0x6f (codes "mapget") words c o n (omega arith) (has_none 0x20 (codes "omapget") refl) say
worded_read words (reads.OmapHeader c o) say = object_worded 0x6f (codes "maphdr") words c o (omega arith) (has_none 0x20 (codes "omaphdr") refl) say
worded_read words (reads.List c) say = list_worded words c say

-- the words of each line
worded : (words : List (List ℕ)) (what : What) → AreWordsOf words what → IsWorded words
worded words (Command (command.Change change)) say =
    subst IsWorded (sym say.whole) (op_worded say.op change.coll say.args (coll_no_space change.coll say.named) say.about)
worded words (Command (command.Read read)) say = worded_read words read say
worded words Wait say = record {
  first = 0x77;
  word = codes "ait";
  behind = [];
  letter = omega arith;
  whole = say;
  no_spaces = (has_none 0x20 (codes "wait") refl, tt);
}

-- the words of a line are the only ones
pub line_words : (w : List ℕ) (ws : List (List ℕ)) (text : List ℕ) (what : What) → AreWords (w ∷ ws) → text ≡ in_words (w ∷ ws) → IsLineOf text what
    → AreWordsOf (w ∷ ws) what
line_words w ws text what are is line =
    let of = worded line.words what line.say in
    let same = same_words (of.first ∷ of.word) w of.behind ws of.no_spaces are (ap in_words (sym of.whole) ∙ sym line.whole ∙ is) in
    subst (λ (l : List (List ℕ)). AreWordsOf l what) (of.whole ∙ same) line.say

-- the words of a line that is cut behind its first one
pub record IsBehind (word rest : List ℕ) (what : What) : Type 0 where
  pub next : List ℕ
  pub words : List (List ℕ)
  pub whole : rest ≡ in_words (next ∷ words)
  pub no_spaces : AreWords (next ∷ words)
  pub say : AreWordsOf (word ∷ next ∷ words) what

behind_of : (word rest v : List ℕ) (vs : List (List ℕ)) (what : What) → HasNo 0x20 word → AreWords (v ∷ vs) → word ++ (0x20 ∷ rest) ≡ in_words (v ∷ vs)
    → AreWordsOf (v ∷ vs) what → IsBehind word rest what
behind_of word rest v [] what none are is say = absurd (no_part 0x20 v word rest are.0 (sym is))
behind_of word rest v (n ∷ vs) what none are is say =
    let both = parts 0x20 word v rest (in_words (n ∷ vs)) none are.0 is in
    record {
      next = n;
      words = vs;
      whole = both.1;
      no_spaces = are.1;
      say = subst (λ (l : List ℕ). AreWordsOf (l ∷ n ∷ vs) what) (sym both.0) say;
    }

pub behind_first : (word rest : List ℕ) (what : What) → HasNo 0x20 word → IsLineOf (word ++ (0x20 ∷ rest)) what → IsBehind word rest what
behind_first word rest what none line =
    let of = worded line.words what line.say in
    behind_of word rest (of.first ∷ of.word) of.behind what none of.no_spaces (line.whole ∙ ap in_words of.whole)
    (subst (λ (l : List (List ℕ)). AreWordsOf l what) of.whole line.say)

-- a passed over line says nothing
starts : (b : ℕ) (bs : List ℕ) (ws : List (List ℕ)) → (tail : List ℕ) × (in_words ((b ∷ bs) ∷ ws) ≡ b ∷ tail)
starts b bs [] = (bs, refl)
starts b bs (w ∷ ws) = (bs ++ (0x20 ∷ in_words (w ∷ ws)), refl)

pub passed_or_line : (text : List ℕ) (what : What) → IsPassedOver text → IsLineOf text what → ⊥
passed_or_line text what passed line =
    let of = worded line.words what line.say in
    let begin = starts of.first of.word of.behind in
    by text of.first begin.0 of.letter (line.whole ∙ ap in_words of.whole ∙ begin.1) passed
  where
    by : (text : List ℕ) (b : ℕ) (tail : List ℕ) → 0x61 ≤ b → text ≡ b ∷ tail → IsPassedOver text → ⊥
    by [] b tail letter is passed = cc
    by (c ∷ cs) b tail letter is passed = let head : c ≡ b = cc in absurd (omega (arith, head, letter, passed))

-- ---- a line says one thing

change_is : (a b : Change) → a.coll ≡ b.coll → a.ops ≡ b.ops → a ≡ b
change_is a b colls lists =
    let first : a ≡ record { coll = b.coll; ops = a.ops } = ap (λ (l : List ℕ). record { coll = l; ops = a.ops }) colls in
    let second : ◌≡◌ {A = Change} (record { coll = b.coll; ops = a.ops }) b = ap (λ (l : List Op). record { coll = b.coll; ops = l }) lists in
    first ∙ second

change_same : (words : List (List ℕ)) (a b : Change) → AreChangeWords words a → AreChangeWords words b → a ≡ b
change_same words a b x y =
    let both : op_word x.op ∷ a.coll ∷ x.args ≡ op_word y.op ∷ b.coll ∷ y.args = sym x.whole ∙ y.whole in
    let word : op_word x.op ≡ op_word y.op = cc in
    let args : y.args ≡ x.args = cc in
    let colls : a.coll ≡ b.coll = cc in
    let ops : x.op ≡ y.op = op_same x.args x.op y.op word x.about (subst (λ (l : List (List ℕ)). AreArgs l y.op) args y.about) in
    change_is a b colls (x.alone ∙ ap (λ (o : Op). o ∷ []) ops ∙ sym y.alone)

-- words that say a read of bytes say nothing else
read_says_one : (words : List (List ℕ)) (c o : List ℕ) (off len : ℕ) (b : What) → AreReadWords words c o off len → AreWordsOf words b
    → Command (command.Read (reads.Bytes c o off len)) ≡ b
read_says_one words c o off len b x y =
    let is = read_only words (c ∷ x.object_word ∷ x.off_word ∷ x.len_word ∷ []) b x.whole y in
    ap Command (read_same words c is.coll o is.object off is.off len is.len x is.are) ∙ sym is.says

-- words that say a sum say nothing else
sum_says_one : (words : List (List ℕ)) (c o : List ℕ) (b : What) → AreObjectWords (codes "sum") words c o → AreWordsOf words b
    → Command (command.Read (reads.Sum c o)) ≡ b
sum_says_one words c o b x y =
    let is = sum_only words (c ∷ x.object_word ∷ []) b x.whole y in
    ap Command (object_same (codes "sum") (λ d p. command.Read (reads.Sum d p)) words c is.coll o is.object x is.are) ∙ sym is.says

-- words that say a stat say nothing else
stat_says_one : (words : List (List ℕ)) (c o : List ℕ) (b : What) → AreObjectWords (codes "stat") words c o → AreWordsOf words b
    → Command (command.Read (reads.Stat c o)) ≡ b
stat_says_one words c o b x y =
    let is = stat_only words (c ∷ x.object_word ∷ []) b x.whole y in
    ap Command (object_same (codes "stat") (λ d p. command.Read (reads.Stat d p)) words c is.coll o is.object x is.are) ∙ sym is.says

-- words that say to read an attribute say nothing else
getattr_says_one : (words : List (List ℕ)) (c o n : List ℕ) (b : What) → AreValueWords (codes "getattr") words c o n → AreWordsOf words b
    → Command (command.Read (reads.GetAttr c o n)) ≡ b
getattr_says_one words c o n b x y =
    let is = getattr_only words (c ∷ x.object_word ∷ x.name_word ∷ []) b x.whole y in
    ap Command (value_same (codes "getattr") (λ d p m. command.Read (reads.GetAttr d p m)) words c is.coll o is.object n is.name x is.are) ∙ sym is.says

-- words that say to read a value of the omap say nothing else
omapget_says_one : (words : List (List ℕ)) (c o n : List ℕ) (b : What) → AreValueWords (codes "omapget") words c o n → AreWordsOf words b
    → Command (command.Read (reads.OmapGet c o n)) ≡ b
omapget_says_one words c o n b x y =
    let is = omapget_only words (c ∷ x.object_word ∷ x.name_word ∷ []) b x.whole y in
    ap Command (value_same (codes "omapget") (λ d p m. command.Read (reads.OmapGet d p m)) words c is.coll o is.object n is.name x is.are) ∙ sym is.says

-- words that say to read the header say nothing else
omaphdr_says_one : (words : List (List ℕ)) (c o : List ℕ) (b : What) → AreObjectWords (codes "omaphdr") words c o → AreWordsOf words b
    → Command (command.Read (reads.OmapHeader c o)) ≡ b
omaphdr_says_one words c o b x y =
    let is = omaphdr_only words (c ∷ x.object_word ∷ []) b x.whole y in
    ap Command (object_same (codes "omaphdr") (λ d p. command.Read (reads.OmapHeader d p)) words c is.coll o is.object x is.are) ∙ sym is.says

-- words that say a list say nothing else
list_says_one : (words : List (List ℕ)) (c : List ℕ) (b : What) → AreListWords words c → AreWordsOf words b → Command (command.Read (reads.List c)) ≡ b
list_says_one words c b x y = let is = list_only words (c ∷ []) b x.whole y in ap Command (list_same words c is.coll x is.are) ∙ sym is.says

-- words that say to wait say nothing else
wait_says_one : (words : List (List ℕ)) (b : What) → words ≡ codes "wait" ∷ [] → AreWordsOf words b → Wait ≡ b
wait_says_one words b x y = sym (wait_only words [] b x y)

-- words that say a read say nothing else
reads_say_one : (words : List (List ℕ)) (read : Read) (b : What) → AreWordsOfRead words read → AreWordsOf words b → Command (command.Read read) ≡ b
reads_say_one words (reads.Bytes c o off len) b x y = read_says_one words c o off len b x y
reads_say_one words (reads.Sum c o) b x y = sum_says_one words c o b x y
reads_say_one words (reads.Stat c o) b x y = stat_says_one words c o b x y
reads_say_one words (reads.GetAttr c o n) b x y = getattr_says_one words c o n b x y
reads_say_one words (reads.OmapGet c o n) b x y = omapget_says_one words c o n b x y
reads_say_one words (reads.OmapHeader c o) b x y = omaphdr_says_one words c o b x y
reads_say_one words (reads.List c) b x y = list_says_one words c b x y

-- words say one thing
words_say_one : (words : List (List ℕ)) (a b : What) → AreWordsOf words a → AreWordsOf words b → a ≡ b
words_say_one words (Command (command.Change c)) (Command (command.Change d)) x y =
    ap (λ (z : Change). Command (command.Change z)) (change_same words c d x y)
words_say_one words (Command (command.Change c)) (Command (command.Read read)) x y = sym (reads_say_one words read (Command (command.Change c)) y x)
words_say_one words (Command (command.Change c)) Wait x y = sym (wait_says_one words (Command (command.Change c)) y x)
words_say_one words (Command (command.Read read)) b x y = reads_say_one words read b x y
words_say_one words Wait b x y = wait_says_one words b x y

pub line_says_one : (text : List ℕ) (a b : What) → IsLineOf text a → IsLineOf text b → a ≡ b
line_says_one text a b x y =
    let of = worded x.words a x.say in
    let also = line_words (of.first ∷ of.word) of.behind text b of.no_spaces (x.whole ∙ ap in_words of.whole) y in
    words_say_one ((of.first ∷ of.word) ∷ of.behind) a b (subst (λ (l : List (List ℕ)). AreWordsOf l a) of.whole x.say) also

-- ---- one word, and one word's lines

pub one_word : (text : List ℕ) (what : What) → HasNo 0x20 text → IsLineOf text what → text ≡ codes "wait"
one_word text what none line = by what (line_words text [] text what (none, tt) refl line)
  where
    by : (what : What) → AreWordsOf (text ∷ []) what → text ≡ codes "wait"
    by (Command (command.Change change)) say = let two : text ∷ [] ≡ op_word say.op ∷ change.coll ∷ say.args = say.whole in absurd cc
    by (Command (command.Read read)) say =
        let several = (read_begins (text ∷ []) read say).2 in
        let two : text ∷ [] ≡ read_word read ∷ several.next ∷ several.more = several.whole in absurd cc
    by Wait say = let one : text ∷ [] ≡ codes "wait" ∷ [] = say in cc

pub wait_line : (text : List ℕ) → text ≡ codes "wait" → IsLineOf text Wait
wait_line text is = record { words = codes "wait" ∷ []; whole = is; say = refl; fits = tt }

-- a line of several words begins with one of the known words
pub no_line : (word rest : List ℕ) (what : What) → HasNo 0x20 word → IsOtherWord word → ¬ (IsLineOf (word ++ (0x20 ∷ rest)) what)
no_line word rest what none other line =
    let behind = behind_first word rest what none line in other_words word behind.next behind.words what other behind.say

-- ---- a line of a transaction

-- the words of a line that begins with an operation's word
pub record IsOpLine (word rest : List ℕ) : Type 0 where
  pub coll : List ℕ
  pub op : Op
  pub args : List (List ℕ)
  pub named : IsCollName coll
  pub word_is : word ≡ op_word op
  pub whole : rest ≡ in_words (coll ∷ args)
  pub about : AreArgs args op

-- what begins with none of these words, which the tests compute, is a line of a transaction
pub op_says : (word rest : List ℕ) (what : What) → lacks 0x20 word ≡ true → is_read_word word ≡ false
    → IsLineOf (word ++ (0x20 ∷ rest)) what → IsOpLine word rest
op_says word rest what none test line =
    let behind = behind_first word rest what (has_none 0x20 word none) line in
    let of = change_only word (behind.next ∷ behind.words) what test behind.say in
    let both : word ∷ behind.next ∷ behind.words ≡ op_word of.are.op ∷ of.change.coll ∷ of.are.args = of.are.whole in
    let first : word ≡ op_word of.are.op = cc in
    let tails : behind.next ∷ behind.words ≡ of.change.coll ∷ of.are.args = cc in
    record {
      coll = of.change.coll;
      op = of.are.op;
      args = of.are.args;
      named = of.are.named;
      word_is = first;
      whole = behind.whole ∙ ap in_words tails;
      about = of.are.about;
    }

-- an operation's word, a collection's and those of its arguments are a line
pub op_said : (rest coll : List ℕ) (op : Op) (args : List (List ℕ)) (what : What) → IsCollName coll → rest ≡ in_words (coll ∷ args) → AreArgs args op
    → what ≡ op_line coll op → IsLineOf (op_word op ++ (0x20 ∷ rest)) what
op_said rest coll op args what named whole about says =
    subst (λ (w : What). IsLineOf (op_word op ++ (0x20 ∷ rest)) w) (sym says) (record {
      words = op_word op ∷ coll ∷ args;
      whole = ap (λ (l : List ℕ). op_word op ++ (0x20 ∷ l)) whole;
      say = record { op = op; args = args; alone = refl; named = named; whole = refl; about = about };
      fits = known_args op args about;
    })

-- ---- `mkcoll` and `rmcoll`

-- the text is a collection's name
abbrev pub HasColl : List ℕ → Type 0
HasColl text = (name : List ℕ) × ((name ≡ text) × IsCollName text)

pub mkcoll_says : (rest : List ℕ) (what : What) → IsLineOf (codes "mkcoll" ++ (0x20 ∷ rest)) what → HasColl rest
mkcoll_says rest what line =
    let of = op_says (codes "mkcoll") rest what refl refl line in
    let none = (mkcoll_only of.op of.args of.word_is of.about).1 in
    (rest, (refl, subst IsCollName (sym (of.whole ∙ ap (λ (l : List (List ℕ)). in_words (of.coll ∷ l)) none)) of.named))

pub mkcoll_line : (rest coll : List ℕ) (what : What) → coll ≡ rest → IsCollName rest → what ≡ op_line coll MkColl → IsLineOf (codes "mkcoll" ++ (0x20 ∷ rest)) what
mkcoll_line rest coll what is named says = op_said rest coll MkColl [] what (subst IsCollName (sym is) named) (sym is) refl says

pub rmcoll_says : (rest : List ℕ) (what : What) → IsLineOf (codes "rmcoll" ++ (0x20 ∷ rest)) what → HasColl rest
rmcoll_says rest what line =
    let of = op_says (codes "rmcoll") rest what refl refl line in
    let none = (rmcoll_only of.op of.args of.word_is of.about).1 in
    (rest, (refl, subst IsCollName (sym (of.whole ∙ ap (λ (l : List (List ℕ)). in_words (of.coll ∷ l)) none)) of.named))

pub rmcoll_line : (rest coll : List ℕ) (what : What) → coll ≡ rest → IsCollName rest → what ≡ op_line coll RmColl → IsLineOf (codes "rmcoll" ++ (0x20 ∷ rest)) what
rmcoll_line rest coll what is named says = op_said rest coll RmColl [] what (subst IsCollName (sym is) named) (sym is) refl says

-- ---- `touch` and `remove`

-- the text names an object
abbrev pub HasObject : List ℕ → Type 0
HasObject text = (x : List ℕ × List ℕ) × NamesObject text x.0 x.1

-- where the words of a line are a known one, and the names of a collection and of an object
pub names_behind : (word n : List ℕ) (ws : List (List ℕ)) (rest coll object object_word : List ℕ) → rest ≡ in_words (n ∷ ws)
    → word ∷ n ∷ ws ≡ word ∷ coll ∷ object_word ∷ [] → IsCollName coll → IsNameWord object_word object → NamesObject rest coll object
names_behind word n ws rest coll object object_word is both named names =
    let tails : n ∷ ws ≡ coll ∷ object_word ∷ [] = cc in
    record { object_word = object_word; named = named; whole = is ∙ ap in_words tails; names = names }

-- a collection's word and an object's name it
pub objects_of : (rest coll object : List ℕ) (args : List (List ℕ)) → IsCollName coll → rest ≡ in_words (coll ∷ args) → AreObjectArgs args object
    → NamesObject rest coll object
objects_of rest coll object args named whole are = record {
  object_word = are.object_word;
  named = named;
  whole = whole ∙ ap (λ (l : List (List ℕ)). in_words (coll ∷ l)) are.words;
  names = are.names;
}

-- the words of a text that names an object, behind the collection's
pub object_args : (rest c o : List ℕ) (is : NamesObject rest c o) → AreObjectArgs (is.object_word ∷ []) o
object_args rest c o is = record { object_word = is.object_word; words = refl; names = is.names }

-- a line of `touch` names an object
pub touch_says : (rest : List ℕ) (what : What) → IsLineOf (codes "touch" ++ (0x20 ∷ rest)) what → HasObject rest
touch_says rest what line =
    let of = op_says (codes "touch") rest what refl refl line in
    let only = touch_only of.op of.args of.word_is of.about in
    ((of.coll, only.object), objects_of rest of.coll only.object of.args of.named of.whole only.are)

-- a text that names an object behind `touch`
pub touch_line : (rest c o : List ℕ) (what : What) → NamesObject rest c o → what ≡ op_line c (Touch o) → IsLineOf (codes "touch" ++ (0x20 ∷ rest)) what
touch_line rest c o what is says = op_said rest c (Touch o) (is.object_word ∷ []) what is.named is.whole (object_args rest c o is) says

-- a line of `remove` names an object
pub remove_says : (rest : List ℕ) (what : What) → IsLineOf (codes "remove" ++ (0x20 ∷ rest)) what → HasObject rest
remove_says rest what line =
    let of = op_says (codes "remove") rest what refl refl line in
    let only = remove_only of.op of.args of.word_is of.about in
    ((of.coll, only.object), objects_of rest of.coll only.object of.args of.named of.whole only.are)

-- a text that names an object behind `remove`
pub remove_line : (rest c o : List ℕ) (what : What) → NamesObject rest c o → what ≡ op_line c (Remove o) → IsLineOf (codes "remove" ++ (0x20 ∷ rest)) what
remove_line rest c o what is says = op_said rest c (Remove o) (is.object_word ∷ []) what is.named is.whole (object_args rest c o is) says

-- a text that isn't two words names no object
pub no_names : (text : List ℕ) (coll object : List ℕ) → ((a b : List ℕ) → AreWords (a ∷ b ∷ []) → text ≢ in_words (a ∷ b ∷ []))
    → ¬ (NamesObject text coll object)
no_names text coll object none is =
    none coll is.object_word (coll_no_space coll is.named, (name_no_space is.object_word object is.names, tt)) is.whole

-- the two words of a text that names an object
pub two_names : (text a b coll object : List ℕ) → AreWords (a ∷ b ∷ []) → text ≡ in_words (a ∷ b ∷ []) → NamesObject text coll object
    → IsCollName a × IsNameWord b object
two_names text a b coll object are whole is =
    let same = same_words a coll (b ∷ []) (is.object_word ∷ []) are
    (coll_no_space coll is.named, (name_no_space is.object_word object is.names, tt)) (sym whole ∙ is.whole) in
    let colls : coll ≡ a = cc in
    let words : is.object_word ≡ b = cc in
    (subst IsCollName colls is.named, subst (λ (w : List ℕ). IsNameWord w object) words is.names)

-- two good words name an object
pub object_named : (text a b coll object : List ℕ) → text ≡ in_words (a ∷ b ∷ []) → coll ≡ a → IsCollName a → IsNameWord b object
    → NamesObject text coll object
object_named text a b coll object whole is named names = record {
  object_word = b;
  named = subst IsCollName (sym is) named;
  whole = whole ∙ ap (λ (l : List ℕ). in_words (l ∷ b ∷ [])) (sym is);
  names = names;
}

-- ---- a range, and a size

-- a text that isn't four words names no range
pub no_range : (text coll object : List ℕ) (off len : ℕ) → ((a b c d : List ℕ) → AreWords (a ∷ b ∷ c ∷ d ∷ []) → text ≢ in_words (a ∷ b ∷ c ∷ d ∷ []))
    → ¬ (NamesRange text coll object off len)
no_range text coll object off len none is =
    none coll is.are.object_word is.are.off_word is.are.len_word
    (coll_no_space coll is.named, subst AreWords is.are.words (range_args_words is.args object off len is.are))
    (is.whole ∙ ap (λ (l : List (List ℕ)). in_words (coll ∷ l)) is.are.words)

-- what four words say
pub record AreRangeWords (a b c d coll object : List ℕ) (off len : ℕ) : Type 0 where
  pub named : IsCollName a
  pub names : IsNameWord b object
  pub offset : IsNumber c off
  pub count : IsNumber d len

-- the four words of a text that names a range
pub range_words : (text a b c d coll object : List ℕ) (off len : ℕ) → AreWords (a ∷ b ∷ c ∷ d ∷ []) → text ≡ in_words (a ∷ b ∷ c ∷ d ∷ [])
    → NamesRange text coll object off len → AreRangeWords a b c d coll object off len
range_words text a b c d coll object off len are whole is =
    let same = same_words a coll (b ∷ c ∷ d ∷ []) is.args are
    (coll_no_space coll is.named, range_args_words is.args object off len is.are) (sym whole ∙ is.whole) in
    let colls : coll ≡ a = cc in
    let args : is.args ≡ b ∷ c ∷ d ∷ [] = cc in
    let words : is.are.object_word ∷ is.are.off_word ∷ is.are.len_word ∷ [] ≡ b ∷ c ∷ d ∷ [] = sym is.are.words ∙ args in
    let object_words : is.are.object_word ≡ b = cc in
    let off_words : is.are.off_word ≡ c = cc in
    let len_words : is.are.len_word ≡ d = cc in
    record {
      named = subst IsCollName colls is.named;
      names = subst (λ (w : List ℕ). IsNameWord w object) object_words is.are.names;
      offset = subst (λ (w : List ℕ). IsNumber w off) off_words is.are.offset;
      count = subst (λ (w : List ℕ). IsNumber w len) len_words is.are.count;
    }

-- four good words name a range
pub range_named : (text a b c d coll object : List ℕ) (off len : ℕ) → text ≡ in_words (a ∷ b ∷ c ∷ d ∷ []) → coll ≡ a → IsCollName a → IsNameWord b object
    → IsNumber c off → IsNumber d len → NamesRange text coll object off len
range_named text a b c d coll object off len whole is named names offset count = record {
  named = subst IsCollName (sym is) named;
  args = b ∷ c ∷ d ∷ [];
  whole = whole ∙ ap (λ (l : List ℕ). in_words (l ∷ b ∷ c ∷ d ∷ [])) (sym is);
  are = record { object_word = b; off_word = c; len_word = d; words = refl; names = names; offset = offset; count = count };
}

-- the text names a range
abbrev pub HasRange : List ℕ → Type 0
HasRange text = (x : List ℕ × List ℕ × ℕ × ℕ) × NamesRange text x.0 x.1 x.2 x.3

-- a line of `zero` names a range
pub zero_says : (rest : List ℕ) (what : What) → IsLineOf (codes "zero" ++ (0x20 ∷ rest)) what → HasRange rest
zero_says rest what line =
    let of = op_says (codes "zero") rest what refl refl line in
    let only = zero_only of.op of.args of.word_is of.about in
    ((of.coll, only.object, only.off, only.len), record { named = of.named; args = of.args; whole = of.whole; are = only.are })

-- a text that names a range behind `zero`
pub zero_line : (rest c o : List ℕ) (off len : ℕ) (what : What) → NamesRange rest c o off len → what ≡ op_line c (Zero o off len)
    → IsLineOf (codes "zero" ++ (0x20 ∷ rest)) what
zero_line rest c o off len what is says = op_said rest c (Zero o off len) is.args what is.named is.whole is.are says

-- a text that isn't three words names no size
pub no_size : (text coll object : List ℕ) (size : ℕ) → ((a b c : List ℕ) → AreWords (a ∷ b ∷ c ∷ []) → text ≢ in_words (a ∷ b ∷ c ∷ []))
    → ¬ (NamesSize text coll object size)
no_size text coll object size none is =
    none coll is.are.object_word is.are.size_word
    (coll_no_space coll is.named, subst AreWords is.are.words (size_args_words is.args object size is.are))
    (is.whole ∙ ap (λ (l : List (List ℕ)). in_words (coll ∷ l)) is.are.words)

-- what three words say
pub record AreSizeWords (a b c coll object : List ℕ) (size : ℕ) : Type 0 where
  pub named : IsCollName a
  pub names : IsNameWord b object
  pub sized : IsNumber c size

-- the three words of a text that names a size
pub size_words : (text a b c coll object : List ℕ) (size : ℕ) → AreWords (a ∷ b ∷ c ∷ []) → text ≡ in_words (a ∷ b ∷ c ∷ [])
    → NamesSize text coll object size → AreSizeWords a b c coll object size
size_words text a b c coll object size are whole is =
    let same = same_words a coll (b ∷ c ∷ []) is.args are
    (coll_no_space coll is.named, size_args_words is.args object size is.are) (sym whole ∙ is.whole) in
    let colls : coll ≡ a = cc in
    let args : is.args ≡ b ∷ c ∷ [] = cc in
    let words : is.are.object_word ∷ is.are.size_word ∷ [] ≡ b ∷ c ∷ [] = sym is.are.words ∙ args in
    let object_words : is.are.object_word ≡ b = cc in
    let sizes : is.are.size_word ≡ c = cc in
    record {
      named = subst IsCollName colls is.named;
      names = subst (λ (w : List ℕ). IsNameWord w object) object_words is.are.names;
      sized = subst (λ (w : List ℕ). IsNumber w size) sizes is.are.sized;
    }

-- three good words name a size
pub size_named : (text a b c coll object : List ℕ) (size : ℕ) → text ≡ in_words (a ∷ b ∷ c ∷ []) → coll ≡ a → IsCollName a → IsNameWord b object
    → IsNumber c size → NamesSize text coll object size
size_named text a b c coll object size whole is named names sized = record {
  named = subst IsCollName (sym is) named;
  args = b ∷ c ∷ [];
  whole = whole ∙ ap (λ (l : List ℕ). in_words (l ∷ b ∷ c ∷ [])) (sym is);
  are = record { object_word = b; size_word = c; words = refl; names = names; sized = sized };
}

-- the text names a size
abbrev pub HasSize : List ℕ → Type 0
HasSize text = (x : List ℕ × List ℕ × ℕ) × NamesSize text x.0 x.1 x.2

-- a line of `truncate` names a size
pub truncate_says : (rest : List ℕ) (what : What) → IsLineOf (codes "truncate" ++ (0x20 ∷ rest)) what → HasSize rest
truncate_says rest what line =
    let of = op_says (codes "truncate") rest what refl refl line in
    let only = truncate_only of.op of.args of.word_is of.about in
    ((of.coll, only.object, only.size), record { named = of.named; args = of.args; whole = of.whole; are = only.are })

-- a text that names a size behind `truncate`
pub truncate_line : (rest c o : List ℕ) (size : ℕ) (what : What) → NamesSize rest c o size → what ≡ op_line c (Truncate o size)
    → IsLineOf (codes "truncate" ++ (0x20 ∷ rest)) what
truncate_line rest c o size what is says = op_said rest c (Truncate o size) is.args what is.named is.whole is.are says

-- ---- `write`

-- the words behind `write` say this
pub record IsWrite (coll object off holds : List ℕ) : Type 0 where
  pub name : List ℕ
  pub bytes : List ℕ
  pub is_coll : IsCollName coll
  pub names : IsNameWord object name
  pub at : ℕ
  pub offset : IsNumber off at
  pub spelled : IsDataWord holds bytes

-- four words, and what they hold
record AreFour (n : List ℕ) (ws : List (List ℕ)) : Type 0 where
  object : List ℕ
  off : List ℕ
  holds : List ℕ
  four : ws ≡ object ∷ off ∷ holds ∷ []
  write : IsWrite n object off holds

-- the words of a write, behind a collection's
four_of : (n coll : List ℕ) (ws args : List (List ℕ)) (op : Op) → coll ≡ n → ws ≡ args → IsCollName coll → IsWriteOp args op → AreFour n ws
four_of n coll ws args op is same named of = record {
  object = of.are.object_word;
  off = of.are.off_word;
  holds = of.are.data_word;
  four = same ∙ of.are.words;
  write = record {
    name = of.object;
    bytes = of.bytes;
    is_coll = subst IsCollName is named;
    names = of.are.names;
    at = of.off;
    offset = of.are.offset;
    spelled = of.are.holds;
  };
}

four_words : (n : List ℕ) (ws : List (List ℕ)) (what : What) → AreWordsOf (codes "write" ∷ n ∷ ws) what → AreFour n ws
four_words n ws what say =
    let of = change_only (codes "write") (n ∷ ws) what refl say in
    let both : codes "write" ∷ n ∷ ws ≡ op_word of.are.op ∷ of.change.coll ∷ of.are.args = of.are.whole in
    let word : codes "write" ≡ op_word of.are.op = cc in
    let coll : of.change.coll ≡ n = cc in
    let args : ws ≡ of.are.args = cc in
    four_of n of.change.coll ws of.are.args of.are.op coll args of.are.named (write_only of.are.op of.are.args word of.are.about)

pub write_words : (coll object off holds : List ℕ) (what : What) → AreWordsOf (codes "write" ∷ coll ∷ object ∷ off ∷ holds ∷ []) what
    → IsWrite coll object off holds
write_words coll object off holds what say =
    let of = four_words coll (object ∷ off ∷ holds ∷ []) what say in
    let both : of.object ∷ of.off ∷ of.holds ∷ [] ≡ object ∷ off ∷ holds ∷ [] = sym of.four in
    let objects : of.object ≡ object = cc in
    let offs : of.off ≡ off = cc in
    let data_words : of.holds ≡ holds = cc in
    subst (λ (l : List ℕ). IsWrite coll object off l) data_words (subst (λ (l : List ℕ). IsWrite coll object l of.holds) offs
    (subst (λ (l : List ℕ). IsWrite coll l of.off of.holds) objects of.write))

pub write_say : (coll object off holds c o : List ℕ) (n : ℕ) (bytes : List ℕ) (what : What) → c ≡ coll → IsCollName coll → IsNameWord object o → IsNumber off n
    → IsDataWord holds bytes → what ≡ op_line c (Write o n bytes)
    → AreWordsOf (codes "write" ∷ coll ∷ object ∷ off ∷ holds ∷ []) what × FitsWhat what
write_say coll object off holds c o n bytes what is named names offset spelled says =
    subst (λ (w : What). AreWordsOf (codes "write" ∷ coll ∷ object ∷ off ∷ holds ∷ []) w × FitsWhat w)
    (sym (says ∙ ap (λ (l : List ℕ). op_line l (Write o n bytes)) is)) (
      record {
        op = Write o n bytes;
        args = object ∷ off ∷ holds ∷ [];
        alone = refl;
        named = named;
        whole = refl;
        about = record { object_word = object; off_word = off; data_word = holds; words = refl; names = names; offset = offset; holds = spelled };
      },
      (tt, tt),
    )

-- a line of `write` has four words behind it
pub no_four : (rest : List ℕ) (what : What) → ((a b c d : List ℕ) → AreWords (a ∷ b ∷ c ∷ d ∷ []) → rest ≢ in_words (a ∷ b ∷ c ∷ d ∷ []))
    → ¬ (IsLineOf (codes "write" ++ (0x20 ∷ rest)) what)
no_four rest what none line =
    let behind = behind_first (codes "write") rest what (has_none 0x20 (codes "write") refl) line in
    let of = four_words behind.next behind.words what behind.say in
    none behind.next of.object of.off of.holds
    (subst (λ (l : List (List ℕ)). AreWords (behind.next ∷ l)) of.four behind.no_spaces)
    (behind.whole ∙ ap (λ (l : List (List ℕ)). in_words (behind.next ∷ l)) of.four)

-- a word and four behind it say what the text does
pub four_read : (word rest a b c d : List ℕ) (r : Result What WordFail) → HasNo 0x20 word → AreWords (a ∷ b ∷ c ∷ d ∷ [])
    → rest ≡ in_words (a ∷ b ∷ c ∷ d ∷ []) → Finds (AreGoodWords (word ∷ a ∷ b ∷ c ∷ d ∷ [])) r → Finds (IsLineOf (word ++ (0x20 ∷ rest))) r
four_read word rest a b c d r none are is =
    let whole : word ++ (0x20 ∷ rest) ≡ in_words (word ∷ a ∷ b ∷ c ∷ d ∷ []) = ap (λ (l : List ℕ). word ++ (0x20 ∷ l)) is in
    found_as (AreGoodWords (word ∷ a ∷ b ∷ c ∷ d ∷ [])) (IsLineOf (word ++ (0x20 ∷ rest))) r
    (λ what say. record { words = word ∷ a ∷ b ∷ c ∷ d ∷ []; whole = whole; say = say.0; fits = say.1 })
    (λ what line. (what, (line_words word (a ∷ b ∷ c ∷ d ∷ []) (word ++ (0x20 ∷ rest)) what (none, are) whole line, line.fits)))
