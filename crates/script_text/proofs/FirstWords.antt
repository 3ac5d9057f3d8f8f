-- What a line can say that begins with a known word.
use Rattle.std.proofs.Common.{◌≡◌, ◌≢◌, ℕ, true, false, List, [], ◌∷◌, refl, sym, ap, subst, ◌∙◌}
use Rattle.std.specs.Prelude.{codes, Bool, ◌||◌}
use Rattle.object_model.specs.Prelude.{Change}
use Rattle.object_model.specs.declared.op.Op.{Op}
use Rattle.object_model.specs.declared.op.Op.TheVariants.{MkColl, RmColl, Touch, Write, Zero, Truncate, Remove, SetAttr, RmAttr, RmAttrs, OmapSet, OmapRm, OmapRmRange, OmapClear, OmapHeader}
use Rattle.object_model.specs.declared.command.Command.{Command as Asked}
use Rattle.object_model.specs.declared.command.Command.TheVariants as command
use Rattle.object_model.specs.declared.command.Read.{Read}
use Rattle.object_model.specs.declared.command.Read.TheVariants as reads
use Rattle.script_text.specs.Prelude.{IsNameWord, IsNumber, op_word, AreArgs, AreChangeWords, AreReadWords, AreObjectWords, AreValueWords, AreListWords, AreWordsOfRead, AreWordsOf}
use Rattle.script_text.specs.declared.line.What.{What}
use Rattle.script_text.specs.declared.line.What.TheVariants.{Command, Wait}
use Rattle.script_text.proofs.Splits.{same_bytes, differ}
use Rattle.script_text.proofs.Numbers.{same_number}
use Rattle.script_text.proofs.Names.{same_name}
use Rattle.script_text.proofs.OpWords.{is_op_word, no_op_word}

-- none of the words that a transaction begins with
pub record IsNoOpWord (word : List ℕ) : Type 0 where
  pub no_mkcoll : word ≢ codes "mkcoll"
  pub no_rmcoll : word ≢ codes "rmcoll"
  pub no_touch : word ≢ codes "touch"
  pub no_write : word ≢ codes "write"
  pub no_zero : word ≢ codes "zero"
  pub no_truncate : word ≢ codes "truncate"
  pub no_remove : word ≢ codes "remove"
  pub no_setattr : word ≢ codes "setattr"
  pub no_rmattr : word ≢ codes "rmattr"
  pub no_rmattrs : word ≢ codes "rmattrs"
  pub no_omapset : word ≢ codes "omapset"
  pub no_omaprm : word ≢ codes "omaprm"
  pub no_omaprmrange : word ≢ codes "omaprmrange"
  pub no_omapclear : word ≢ codes "omapclear"
  pub no_omapheader : word ≢ codes "omapheader"

-- none of the words that a line of several words begins with
pub record IsOtherWord (word : List ℕ) : Type 0 where
  pub no_op : IsNoOpWord word
  pub no_read : word ≢ codes "read"
  pub no_sum : word ≢ codes "sum"
  pub no_stat : word ≢ codes "stat"
  pub no_getattr : word ≢ codes "getattr"
  pub no_omapget : word ≢ codes "omapget"
  pub no_omaphdr : word ≢ codes "omaphdr"
  pub no_list : word ≢ codes "list"

-- ---- the first word

-- the word that a read begins with
abbrev pub read_word : Read → List ℕ
read_word (reads.Bytes c o off len) = codes "read"
read_word (reads.Sum c o) = codes "sum"
read_word (reads.Stat c o) = codes "stat"
read_word (reads.GetAttr c o name) = codes "getattr"
read_word (reads.OmapGet c o key) = codes "omapget"
read_word (reads.OmapHeader c o) = codes "omaphdr"
read_word (reads.List c) = codes "list"

-- the word that a read or a `wait` begins with; none for a transaction, which has its operation's
abbrev pub what_word : What → List ℕ
what_word (Command (command.Change change)) = []
what_word (Command (command.Read read)) = read_word read
what_word Wait = codes "wait"

-- it is one of these
abbrev pub is_read_word : List ℕ → Bool
is_read_word word = same_bytes word (codes "read") || same_bytes word (codes "sum") || same_bytes word (codes "stat") || same_bytes word (codes "getattr")
    || same_bytes word (codes "omapget") || same_bytes word (codes "omaphdr") || same_bytes word (codes "list") || same_bytes word (codes "wait")

-- the words begin with this one
pub record BeginWith (word : List ℕ) (words : List (List ℕ)) : Type 0 where
  pub more : List (List ℕ)
  pub whole : words ≡ word ∷ more

-- the words begin with this one and have another
pub record BeginSeveral (word : List ℕ) (words : List (List ℕ)) : Type 0 where
  pub next : List ℕ
  pub more : List (List ℕ)
  pub whole : words ≡ word ∷ next ∷ more

-- words that begin with two known words differ
apart : (a b : List ℕ) (words ws : List (List ℕ)) → same_bytes a b ≡ false → words ≡ a ∷ ws → BeginWith b words → ⊥
apart a b words ws test is begin =
    let both : a ∷ ws ≡ b ∷ begin.more = sym is ∙ begin.whole in
    let first : a ≡ b = cc in differ a b test first

object_begins : (word : List ℕ) (words : List (List ℕ)) (c o : List ℕ) → AreObjectWords word words c o → BeginSeveral word words
object_begins word words c o say = record { next = c; more = say.object_word ∷ []; whole = say.whole }

value_begins : (word : List ℕ) (words : List (List ℕ)) (c o n : List ℕ) → AreValueWords word words c o n → BeginSeveral word words
value_begins word words c o n say = record { next = c; more = say.object_word ∷ say.name_word ∷ []; whole = say.whole }

-- a read begins with its word, which is one of those and not `wait`
pub read_begins : (words : List (List ℕ)) (read : Read) → AreWordsOfRead words read
    → (is_read_word (read_word read) ≡ true) × (same_bytes (codes "wait") (read_word read) ≡ false) × BeginSeveral (read_word read) words
read_begins words (reads.Bytes c o off len) say =
    (refl, refl, record { next = c; more = say.object_word ∷ say.off_word ∷ say.len_word ∷ []; whole = say.whole })
read_begins words (reads.Sum c o) say = (refl, refl, object_begins (codes "sum") words c o say)
read_begins words (reads.Stat c o) say = (refl, refl, object_begins (codes "stat") words c o say)
read_begins words (reads.GetAttr c o name) say = (refl, refl, value_begins (codes "getattr") words c o name say)
read_begins words (reads.OmapGet c o key) say = (refl, refl, value_begins (codes "omapget") words c o key say)
read_begins words (reads.OmapHeader c o) say = (refl, refl, object_begins (codes "omaphdr") words c o say)
read_begins words (reads.List c) say = (refl, refl, record { next = c; more = []; whole = say.whole })

-- a transaction begins with its operation's word
change_begins : (words : List (List ℕ)) (change : Change) (say : AreChangeWords words change) → BeginWith (op_word say.op) words
change_begins words change say = record { more = change.coll ∷ say.args; whole = say.whole }

-- what is no transaction begins with its word
begins : (words : List (List ℕ)) (what : What) → what_word what ≢ [] → AreWordsOf words what → BeginWith (what_word what) words
begins words (Command (command.Change change)) other say = absurd (other refl)
begins words (Command (command.Read read)) other say =
    let several : BeginSeveral (read_word read) words = (read_begins words read say).2 in
    record { more = several.next ∷ several.more; whole = several.whole }
begins words Wait other say = record { more = []; whole = say }

-- a transaction begins with the word of an operation
op_first : (word : List ℕ) (op : Op) (args : List (List ℕ)) → IsNoOpWord word → word ≡ op_word op → AreArgs args op → ⊥
op_first word MkColl args none first about = none.no_mkcoll first
op_first word RmColl args none first about = none.no_rmcoll first
op_first word (Touch o) args none first about = none.no_touch first
op_first word (Write o off bytes) args none first about = none.no_write first
op_first word (Zero o off len) args none first about = none.no_zero first
op_first word (Truncate o size) args none first about = none.no_truncate first
op_first word (Remove o) args none first about = none.no_remove first
op_first word (SetAttr o name value) args none first about = none.no_setattr first
op_first word (RmAttr o name) args none first about = none.no_rmattr first
op_first word (RmAttrs o) args none first about = none.no_rmattrs first
op_first word (OmapSet o pairs) args none first about = none.no_omapset first
op_first word (OmapRm o keys) args none first about = none.no_omaprm first
op_first word (OmapRmRange o first_key last_key) args none first about = none.no_omaprmrange first
op_first word (OmapClear o) args none first about = none.no_omapclear first
op_first word (OmapHeader o value) args none first about = none.no_omapheader first
op_first word op args none first about = about

-- words that begin with another word are no transaction
no_change : (word : List ℕ) (words ws : List (List ℕ)) (change : Change) → is_op_word word ≡ false → words ≡ word ∷ ws → AreChangeWords words change → ⊥
no_change word words ws change test is say =
    let both : word ∷ ws ≡ op_word say.op ∷ change.coll ∷ say.args = sym is ∙ say.whole in
    let first : word ≡ op_word say.op = cc in no_op_word word say.op say.args test first say.about

other_read : (word : List ℕ) (read : Read) → IsOtherWord word → word ≢ read_word read
other_read word (reads.Bytes c o off len) other = other.no_read
other_read word (reads.Sum c o) other = other.no_sum
other_read word (reads.Stat c o) other = other.no_stat
other_read word (reads.GetAttr c o name) other = other.no_getattr
other_read word (reads.OmapGet c o key) other = other.no_omapget
other_read word (reads.OmapHeader c o) other = other.no_omaphdr
other_read word (reads.List c) other = other.no_list

-- words that begin with another word say nothing, if they are several
pub other_words : (word n : List ℕ) (ws : List (List ℕ)) (what : What) → IsOtherWord word → AreWordsOf (word ∷ n ∷ ws) what → ⊥
other_words word n ws (Command (command.Change change)) other say =
    let both : word ∷ n ∷ ws ≡ op_word say.op ∷ change.coll ∷ say.args = say.whole in
    let first : word ≡ op_word say.op = cc in op_first word say.op say.args other.no_op first say.about
other_words word n ws (Command (command.Read read)) other say =
    let several : BeginSeveral (read_word read) (word ∷ n ∷ ws) = (read_begins (word ∷ n ∷ ws) read say).2 in
    let both : word ∷ n ∷ ws ≡ read_word read ∷ several.next ∷ several.more = several.whole in
    let first : word ≡ read_word read = cc in other_read word read other first
other_words word n ws Wait other say = let both : word ∷ n ∷ ws ≡ codes "wait" ∷ [] = say in absurd cc

-- ---- what begins with a known word

-- the words say a transaction
pub record IsChangeLine (words : List (List ℕ)) (what : What) : Type 0 where
  pub change : Change
  pub says : what ≡ Command (command.Change change)
  pub are : AreChangeWords words change

-- a word that no read begins with isn't such a word
no_read_word : (word other : List ℕ) (words ws : List (List ℕ)) → is_read_word word ≡ false → is_read_word other ≡ true → words ≡ word ∷ ws → BeginWith other words → ⊥
no_read_word word other words ws test also is begin =
    let both : word ∷ ws ≡ other ∷ begin.more = sym is ∙ begin.whole in
    let first : other ≡ word = cc in
    let never : true ≡ false = sym also ∙ ap is_read_word first ∙ test in cc

-- words that begin with none of these say a transaction
pub change_only : (word : List ℕ) (ws : List (List ℕ)) (what : What) → is_read_word word ≡ false → AreWordsOf (word ∷ ws) what → IsChangeLine (word ∷ ws) what
change_only word ws (Command (command.Change change)) test say = record { change = change; says = refl; are = say }
change_only word ws (Command (command.Read read)) test say =
    let begin = read_begins (word ∷ ws) read say in
    absurd (no_read_word word (read_word read) (word ∷ ws) ws test begin.0 refl (record { more = begin.2.next ∷ begin.2.more; whole = begin.2.whole }))
change_only word ws Wait test say = absurd (no_read_word word (codes "wait") (word ∷ ws) ws test refl refl (record { more = []; whole = say }))

-- the words say a read of an object's bytes
pub record IsReadLine (words : List (List ℕ)) (what : What) : Type 0 where
  pub coll : List ℕ
  pub object : List ℕ
  pub off : ℕ
  pub len : ℕ
  pub says : what ≡ Command (command.Read (reads.Bytes coll object off len))
  pub are : AreReadWords words coll object off len

-- the words say a read of an object as a whole, of this form and with this word
pub record IsObjectLine (word : List ℕ) (form : List ℕ → List ℕ → Asked) (words : List (List ℕ)) (what : What) : Type 0 where
  pub coll : List ℕ
  pub object : List ℕ
  pub says : what ≡ Command (form coll object)
  pub are : AreObjectWords word words coll object

-- the words say a read of a value of an object, of this form and with this word
pub record IsValueLine (word : List ℕ) (form : List ℕ → List ℕ → List ℕ → Asked) (words : List (List ℕ)) (what : What) : Type 0 where
  pub coll : List ℕ
  pub object : List ℕ
  pub name : List ℕ
  pub says : what ≡ Command (form coll object name)
  pub are : AreValueWords word words coll object name

-- the words say a read of a collection's names
pub record IsListLine (words : List (List ℕ)) (what : What) : Type 0 where
  pub coll : List ℕ
  pub says : what ≡ Command (command.Read (reads.List coll))
  pub are : AreListWords words coll

-- what begins with `read`
pub read_only : (words ws : List (List ℕ)) (what : What) → words ≡ codes "read" ∷ ws → AreWordsOf words what → IsReadLine words what
read_only words ws (Command (command.Read (reads.Bytes c o off len))) is say = record { coll = c; object = o; off = off; len = len; says = refl; are = say }
read_only words ws (Command (command.Change change)) is say = absurd (no_change (codes "read") words ws change refl is say)
read_only words ws what is say =
    absurd (apart (codes "read") (what_word what) words ws refl is (begins words what (λ none. let never : what_word what ≡ [] = none in cc) say))

-- what begins with `sum`
pub sum_only : (words ws : List (List ℕ)) (what : What) → words ≡ codes "sum" ∷ ws → AreWordsOf words what → IsObjectLine (codes "sum") (λ c o. command.Read (reads.Sum c o)) words what
sum_only words ws (Command (command.Read (reads.Sum c o))) is say = record { coll = c; object = o; says = refl; are = say }
sum_only words ws (Command (command.Change change)) is say = absurd (no_change (codes "sum") words ws change refl is say)
sum_only words ws what is say =
    absurd (apart (codes "sum") (what_word what) words ws refl is (begins words what (λ none. let never : what_word what ≡ [] = none in cc) say))

-- what begins with `stat`
pub stat_only : (words ws : List (List ℕ)) (what : What) → words ≡ codes "stat" ∷ ws → AreWordsOf words what → IsObjectLine (codes "stat") (λ c o. command.Read (reads.Stat c o)) words what
stat_only words ws (Command (command.Read (reads.Stat c o))) is say = record { coll = c; object = o; says = refl; are = say }
stat_only words ws (Command (command.Change change)) is say = absurd (no_change (codes "stat") words ws change refl is say)
stat_only words ws what is say =
    absurd (apart (codes "stat") (what_word what) words ws refl is (begins words what (λ none. let never : what_word what ≡ [] = none in cc) say))

-- what begins with `omaphdr`
pub omaphdr_only : (words ws : List (List ℕ)) (what : What) → words ≡ codes "omaphdr" ∷ ws → AreWordsOf words what → IsObjectLine (codes "omaphdr") (λ c o. command.Read (reads.OmapHeader c o)) words what
omaphdr_only words ws (Command (command.Read (reads.OmapHeader c o))) is say = record { coll = c; object = o; says = refl; are = say }
omaphdr_only words ws (Command (command.Change change)) is say = absurd (no_change (codes "omaphdr") words ws change refl is say)
omaphdr_only words ws what is say =
    absurd (apart (codes "omaphdr") (what_word what) words ws refl is (begins words what (λ none. let never : what_word what ≡ [] = none in cc) say))

-- what begins with `getattr`
pub getattr_only : (words ws : List (List ℕ)) (what : What) → words ≡ codes "getattr" ∷ ws → AreWordsOf words what → IsValueLine (codes "getattr") (λ c o n. command.Read (reads.GetAttr c o n)) words what
getattr_only words ws (Command (command.Read (reads.GetAttr c o n))) is say = record { coll = c; object = o; name = n; says = refl; are = say }
getattr_only words ws (Command (command.Change change)) is say = absurd (no_change (codes "getattr") words ws change refl is say)
getattr_only words ws what is say =
    absurd (apart (codes "getattr") (what_word what) words ws refl is (begins words what (λ none. let never : what_word what ≡ [] = none in cc) say))

-- what begins with `omapget`
pub omapget_only : (words ws : List (List ℕ)) (what : What) → words ≡ codes "omapget" ∷ ws → AreWordsOf words what → IsValueLine (codes "omapget") (λ c o n. command.Read (reads.OmapGet c o n)) words what
omapget_only words ws (Command (command.Read (reads.OmapGet c o n))) is say = record { coll = c; object = o; name = n; says = refl; are = say }
omapget_only words ws (Command (command.Change change)) is say = absurd (no_change (codes "omapget") words ws change refl is say)
omapget_only words ws what is say =
    absurd (apart (codes "omapget") (what_word what) words ws refl is (begins words what (λ none. let never : what_word what ≡ [] = none in cc) say))

-- what begins with `list`
pub list_only : (words ws : List (List ℕ)) (what : What) → words ≡ codes "list" ∷ ws → AreWordsOf words what → IsListLine words what
list_only words ws (Command (command.Read (reads.List c))) is say = record { coll = c; says = refl; are = say }
list_only words ws (Command (command.Change change)) is say = absurd (no_change (codes "list") words ws change refl is say)
list_only words ws what is say =
    absurd (apart (codes "list") (what_word what) words ws refl is (begins words what (λ none. let never : what_word what ≡ [] = none in cc) say))

-- what begins with `wait`
pub wait_only : (words ws : List (List ℕ)) (what : What) → words ≡ codes "wait" ∷ ws → AreWordsOf words what → what ≡ Wait
wait_only words ws Wait is say = refl
wait_only words ws (Command (command.Change change)) is say = absurd (no_change (codes "wait") words ws change refl is say)
wait_only words ws (Command (command.Read read)) is say =
    let begin = read_begins words read say in
    absurd (apart (codes "wait") (read_word read) words ws begin.1 is (record { more = begin.2.next ∷ begin.2.more; whole = begin.2.whole }))

-- ---- the same words say the same

-- a read's words give its arguments
pub read_same : (words : List (List ℕ)) (c d o p : List ℕ) (n m k l : ℕ) → AreReadWords words c o n k → AreReadWords words d p m l
    → command.Read (reads.Bytes c o n k) ≡ command.Read (reads.Bytes d p m l)
read_same words c d o p n m k l x y =
    let both : codes "read" ∷ c ∷ x.object_word ∷ x.off_word ∷ x.len_word ∷ [] ≡ codes "read" ∷ d ∷ y.object_word ∷ y.off_word ∷ y.len_word ∷ []
    = sym x.whole ∙ y.whole in
    let colls : c ≡ d = cc in
    let object_words : y.object_word ≡ x.object_word = cc in
    let off_words : y.off_word ≡ x.off_word = cc in
    let len_words : y.len_word ≡ x.len_word = cc in
    let objects : o ≡ p = same_name x.object_word o p x.names (subst (λ (w : List ℕ). IsNameWord w p) object_words y.names) in
    let offs : n ≡ m = same_number x.off_word n m x.offset (subst (λ (w : List ℕ). IsNumber w m) off_words y.offset) in
    let lens : k ≡ l = same_number x.len_word k l x.size (subst (λ (w : List ℕ). IsNumber w l) len_words y.size) in
    cc

-- the words of a read of an object as a whole give its names
pub object_same : (word : List ℕ) (form : List ℕ → List ℕ → Asked) (words : List (List ℕ)) (c d o p : List ℕ) → AreObjectWords word words c o
    → AreObjectWords word words d p → form c o ≡ form d p
object_same word form words c d o p x y =
    let both : word ∷ c ∷ x.object_word ∷ [] ≡ word ∷ d ∷ y.object_word ∷ [] = sym x.whole ∙ y.whole in
    let colls : c ≡ d = cc in
    let object_words : y.object_word ≡ x.object_word = cc in
    let objects : o ≡ p = same_name x.object_word o p x.names (subst (λ (w : List ℕ). IsNameWord w p) object_words y.names) in
    ap (λ (l : List ℕ). form l o) colls ∙ ap (λ (l : List ℕ). form d l) objects

-- the words of a list give its collection
pub list_same : (words : List (List ℕ)) (c d : List ℕ) → AreListWords words c → AreListWords words d → command.Read (reads.List c) ≡ command.Read (reads.List d)
list_same words c d x y =
    let both : codes "list" ∷ c ∷ [] ≡ codes "list" ∷ d ∷ [] = sym x.whole ∙ y.whole in
    let colls : c ≡ d = cc in ap (λ (l : List ℕ). command.Read (reads.List l)) colls

-- the words of a read of a value give its names
pub value_same : (word : List ℕ) (form : List ℕ → List ℕ → List ℕ → Asked) (words : List (List ℕ)) (c d o p n m : List ℕ) → AreValueWords word words c o n
    → AreValueWords word words d p m → form c o n ≡ form d p m
value_same word form words c d o p n m x y =
    let both : word ∷ c ∷ x.object_word ∷ x.name_word ∷ [] ≡ word ∷ d ∷ y.object_word ∷ y.name_word ∷ [] = sym x.whole ∙ y.whole in
    let colls : c ≡ d = cc in
    let object_words : y.object_word ≡ x.object_word = cc in
    let name_words : y.name_word ≡ x.name_word = cc in
    let objects : o ≡ p = same_name x.object_word o p x.names (subst (λ (w : List ℕ). IsNameWord w p) object_words y.names) in
    let names : n ≡ m = same_name x.name_word n m x.called (subst (λ (w : List ℕ). IsNameWord w m) name_words y.called) in
    ap (λ (l : List ℕ). form l o n) colls ∙ ap (λ (l : List ℕ). form d l n) objects ∙ ap (λ (l : List ℕ). form d p l) names
