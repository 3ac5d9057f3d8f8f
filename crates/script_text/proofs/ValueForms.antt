-- What the lines about attributes, omaps and collections that go say.
use Rattle.std.proofs.Common.{◌≡◌, ◌≢◌, ℕ, List, [], ◌∷◌, ◌++◌, refl, sym, ap, subst, ◌∙◌}
use Rattle.std.specs.Prelude.{codes}
use Rattle.unit_fields.specs.Prelude.{IsCollName}
use Rattle.object_model.specs.declared.op.Op.TheVariants.{SetAttr, RmAttr, RmAttrs, OmapSet, OmapRm, OmapRmRange, OmapClear, OmapHeader}
use Rattle.object_model.specs.declared.op.Pair.{Pair}
use Rattle.object_model.specs.declared.command.Command.TheVariants as command
use Rattle.object_model.specs.declared.command.Read.TheVariants as reads
use Rattle.script_text.specs.Prelude.{AreWords, in_words, IsNameWord, IsDataWord, AreNameArgs, AreDataArgs, AreAttrArgs, AreKeyRangeArgs, IsLineOf, op_line, HasArgs, NamesObject, NamesValue, NamesHeader, NamesAttr, NamesKeyRange, NamesKeys, NamesPairs}
use Rattle.script_text.specs.declared.line.What.{What}
use Rattle.script_text.specs.declared.line.What.TheVariants.{Command}
use Rattle.script_text.proofs.Splits.{has_none}
use Rattle.script_text.proofs.Words.{same_words}
use Rattle.script_text.proofs.OpWords.{setattr_only, rmattr_only, rmattrs_only, omapset_only, omaprm_only, omaprmrange_only, omapclear_only, omapheader_only}
use Rattle.script_text.proofs.FirstWords.{getattr_only, omapget_only, omaphdr_only}
use Rattle.script_text.proofs.Forms.{coll_no_space, behind_first, op_says, op_said, objects_of, object_args, names_behind, HasObject, name_args_words, data_args_words, attr_args_words, key_range_args_words}

-- ---- three and four words

-- the words of a text that has these arguments
args_behind : (Are : List (List ℕ) → Type 0) → ((args : List (List ℕ)) → Are args → AreWords args) → (text a w coll : List ℕ) (ws : List (List ℕ))
    → AreWords (a ∷ w ∷ ws) → text ≡ in_words (a ∷ w ∷ ws) → HasArgs Are text coll → IsCollName a × Are (w ∷ ws)
args_behind Are no_spaces text a w coll ws are whole is =
    let same = same_words a coll (w ∷ ws) is.args are (coll_no_space coll is.named, no_spaces is.args is.are) (sym whole ∙ is.whole) in
    let colls : coll ≡ a = cc in
    let args : is.args ≡ w ∷ ws = cc in
    (subst IsCollName colls is.named, subst Are args is.are)

-- a text of fewer or more words names none
pub no_value : (text coll o n : List ℕ) → ((a b c : List ℕ) → AreWords (a ∷ b ∷ c ∷ []) → text ≢ in_words (a ∷ b ∷ c ∷ [])) → ¬ (NamesValue text coll o n)
no_value text coll o n none is =
    none coll is.are.object_word is.are.name_word (coll_no_space coll is.named, subst AreWords is.are.words (name_args_words is.args o n is.are))
    (is.whole ∙ ap (λ (l : List (List ℕ)). in_words (coll ∷ l)) is.are.words)

value_parts : (b c o n : List ℕ) → AreNameArgs (b ∷ c ∷ []) o n → IsNameWord b o × IsNameWord c n
value_parts b c o n are =
    let words : b ∷ c ∷ [] ≡ are.object_word ∷ are.name_word ∷ [] = are.words in
    let object_words : are.object_word ≡ b = cc in
    let name_words : are.name_word ≡ c = cc in
    (subst (λ (w : List ℕ). IsNameWord w o) object_words are.names, subst (λ (w : List ℕ). IsNameWord w n) name_words are.called)

-- the words of such a text
pub value_words : (text a b c coll o n : List ℕ) → AreWords (a ∷ b ∷ c ∷ []) → text ≡ in_words (a ∷ b ∷ c ∷ []) → NamesValue text coll o n
    → IsCollName a × IsNameWord b o × IsNameWord c n
value_words text a b c coll o n are whole is =
    let both = args_behind (λ args. AreNameArgs args o n) (λ args. name_args_words args o n) text a b coll (c ∷ []) are whole is in
    let of = value_parts b c o n both.1 in
    (both.0, of.0, of.1)

-- good words name it
pub value_named : (text a b c coll o n : List ℕ) → text ≡ in_words (a ∷ b ∷ c ∷ []) → coll ≡ a → IsCollName a → IsNameWord b o → IsNameWord c n → NamesValue text coll o n
value_named text a b c coll o n whole is named names called = record {
  named = subst IsCollName (sym is) named;
  args = b ∷ c ∷ [];
  whole = whole ∙ ap (λ (l : List ℕ). in_words (l ∷ b ∷ c ∷ [])) (sym is);
  are = record { object_word = b; name_word = c; words = refl; names = names; called = called };
}

-- a text of fewer or more words names none
pub no_header : (text coll o x : List ℕ) → ((a b c : List ℕ) → AreWords (a ∷ b ∷ c ∷ []) → text ≢ in_words (a ∷ b ∷ c ∷ [])) → ¬ (NamesHeader text coll o x)
no_header text coll o x none is =
    none coll is.are.object_word is.are.data_word (coll_no_space coll is.named, subst AreWords is.are.words (data_args_words is.args o x is.are))
    (is.whole ∙ ap (λ (l : List (List ℕ)). in_words (coll ∷ l)) is.are.words)

header_parts : (b c o x : List ℕ) → AreDataArgs (b ∷ c ∷ []) o x → IsNameWord b o × IsDataWord c x
header_parts b c o x are =
    let words : b ∷ c ∷ [] ≡ are.object_word ∷ are.data_word ∷ [] = are.words in
    let object_words : are.object_word ≡ b = cc in
    let data_words : are.data_word ≡ c = cc in
    (subst (λ (w : List ℕ). IsNameWord w o) object_words are.names, subst (λ (w : List ℕ). IsDataWord w x) data_words are.holds)

-- the words of such a text
pub header_words : (text a b c coll o x : List ℕ) → AreWords (a ∷ b ∷ c ∷ []) → text ≡ in_words (a ∷ b ∷ c ∷ []) → NamesHeader text coll o x
    → IsCollName a × IsNameWord b o × IsDataWord c x
header_words text a b c coll o x are whole is =
    let both = args_behind (λ args. AreDataArgs args o x) (λ args. data_args_words args o x) text a b coll (c ∷ []) are whole is in
    let of = header_parts b c o x both.1 in
    (both.0, of.0, of.1)

-- good words name it
pub header_named : (text a b c coll o x : List ℕ) → text ≡ in_words (a ∷ b ∷ c ∷ []) → coll ≡ a → IsCollName a → IsNameWord b o → IsDataWord c x → NamesHeader text coll o x
header_named text a b c coll o x whole is named names holds = record {
  named = subst IsCollName (sym is) named;
  args = b ∷ c ∷ [];
  whole = whole ∙ ap (λ (l : List ℕ). in_words (l ∷ b ∷ c ∷ [])) (sym is);
  are = record { object_word = b; data_word = c; words = refl; names = names; holds = holds };
}

-- a text of fewer or more words names none
pub no_attr : (text coll o n x : List ℕ) → ((a b c d : List ℕ) → AreWords (a ∷ b ∷ c ∷ d ∷ []) → text ≢ in_words (a ∷ b ∷ c ∷ d ∷ [])) → ¬ (NamesAttr text coll o n x)
no_attr text coll o n x none is =
    none coll is.are.object_word is.are.name_word is.are.data_word (coll_no_space coll is.named, subst AreWords is.are.words (attr_args_words is.args o n x is.are))
    (is.whole ∙ ap (λ (l : List (List ℕ)). in_words (coll ∷ l)) is.are.words)

attr_parts : (b c d o n x : List ℕ) → AreAttrArgs (b ∷ c ∷ d ∷ []) o n x → IsNameWord b o × IsNameWord c n × IsDataWord d x
attr_parts b c d o n x are =
    let words : b ∷ c ∷ d ∷ [] ≡ are.object_word ∷ are.name_word ∷ are.data_word ∷ [] = are.words in
    let object_words : are.object_word ≡ b = cc in
    let name_words : are.name_word ≡ c = cc in
    let data_words : are.data_word ≡ d = cc in
    (subst (λ (w : List ℕ). IsNameWord w o) object_words are.names, subst (λ (w : List ℕ). IsNameWord w n) name_words are.called, subst (λ (w : List ℕ). IsDataWord w x) data_words are.holds)

-- the words of such a text
pub attr_words : (text a b c d coll o n x : List ℕ) → AreWords (a ∷ b ∷ c ∷ d ∷ []) → text ≡ in_words (a ∷ b ∷ c ∷ d ∷ []) → NamesAttr text coll o n x
    → IsCollName a × IsNameWord b o × IsNameWord c n × IsDataWord d x
attr_words text a b c d coll o n x are whole is =
    let both = args_behind (λ args. AreAttrArgs args o n x) (λ args. attr_args_words args o n x) text a b coll (c ∷ d ∷ []) are whole is in
    let of = attr_parts b c d o n x both.1 in
    (both.0, of.0, of.1, of.2)

-- good words name it
pub attr_named : (text a b c d coll o n x : List ℕ) → text ≡ in_words (a ∷ b ∷ c ∷ d ∷ []) → coll ≡ a → IsCollName a → IsNameWord b o → IsNameWord c n → IsDataWord d x → NamesAttr text coll o n x
attr_named text a b c d coll o n x whole is named names called holds = record {
  named = subst IsCollName (sym is) named;
  args = b ∷ c ∷ d ∷ [];
  whole = whole ∙ ap (λ (l : List ℕ). in_words (l ∷ b ∷ c ∷ d ∷ [])) (sym is);
  are = record { object_word = b; name_word = c; data_word = d; words = refl; names = names; called = called; holds = holds };
}

-- a text of fewer or more words names none
pub no_key_range : (text coll o n m : List ℕ) → ((a b c d : List ℕ) → AreWords (a ∷ b ∷ c ∷ d ∷ []) → text ≢ in_words (a ∷ b ∷ c ∷ d ∷ [])) → ¬ (NamesKeyRange text coll o n m)
no_key_range text coll o n m none is =
    none coll is.are.object_word is.are.first_word is.are.last_word (coll_no_space coll is.named, subst AreWords is.are.words (key_range_args_words is.args o n m is.are))
    (is.whole ∙ ap (λ (l : List (List ℕ)). in_words (coll ∷ l)) is.are.words)

key_range_parts : (b c d o n m : List ℕ) → AreKeyRangeArgs (b ∷ c ∷ d ∷ []) o n m → IsNameWord b o × IsNameWord c n × IsNameWord d m
key_range_parts b c d o n m are =
    let words : b ∷ c ∷ d ∷ [] ≡ are.object_word ∷ are.first_word ∷ are.last_word ∷ [] = are.words in
    let object_words : are.object_word ≡ b = cc in
    let first_words : are.first_word ≡ c = cc in
    let last_words : are.last_word ≡ d = cc in
    (subst (λ (w : List ℕ). IsNameWord w o) object_words are.names, subst (λ (w : List ℕ). IsNameWord w n) first_words are.begins, subst (λ (w : List ℕ). IsNameWord w m) last_words are.ends)

-- the words of such a text
pub key_range_words : (text a b c d coll o n m : List ℕ) → AreWords (a ∷ b ∷ c ∷ d ∷ []) → text ≡ in_words (a ∷ b ∷ c ∷ d ∷ []) → NamesKeyRange text coll o n m
    → IsCollName a × IsNameWord b o × IsNameWord c n × IsNameWord d m
key_range_words text a b c d coll o n m are whole is =
    let both = args_behind (λ args. AreKeyRangeArgs args o n m) (λ args. key_range_args_words args o n m) text a b coll (c ∷ d ∷ []) are whole is in
    let of = key_range_parts b c d o n m both.1 in
    (both.0, of.0, of.1, of.2)

-- good words name it
pub key_range_named : (text a b c d coll o n m : List ℕ) → text ≡ in_words (a ∷ b ∷ c ∷ d ∷ []) → coll ≡ a → IsCollName a → IsNameWord b o → IsNameWord c n → IsNameWord d m → NamesKeyRange text coll o n m
key_range_named text a b c d coll o n m whole is named names begins ends = record {
  named = subst IsCollName (sym is) named;
  args = b ∷ c ∷ d ∷ [];
  whole = whole ∙ ap (λ (l : List ℕ). in_words (l ∷ b ∷ c ∷ d ∷ [])) (sym is);
  are = record { object_word = b; first_word = c; last_word = d; words = refl; names = names; begins = begins; ends = ends };
}

-- ---- what the lines say

-- the text has such words
abbrev pub HasValue : List ℕ → Type 0
HasValue text = (x : (List ℕ × List ℕ) × List ℕ) × NamesValue text x.0.0 x.0.1 x.1

abbrev pub HasHeader : List ℕ → Type 0
HasHeader text = (x : (List ℕ × List ℕ) × List ℕ) × NamesHeader text x.0.0 x.0.1 x.1

abbrev pub HasAttr : List ℕ → Type 0
HasAttr text = (x : (List ℕ × List ℕ) × Pair) × NamesAttr text x.0.0 x.0.1 x.1.key x.1.value

abbrev pub HasKeyRange : List ℕ → Type 0
HasKeyRange text = (x : (List ℕ × List ℕ) × (List ℕ × List ℕ)) × NamesKeyRange text x.0.0 x.0.1 x.1.0 x.1.1

abbrev pub HasKeys : List ℕ → Type 0
HasKeys text = (x : (List ℕ × List ℕ) × List (List ℕ)) × NamesKeys text x.0.0 x.0.1 x.1

abbrev pub HasPairs : List ℕ → Type 0
HasPairs text = (x : (List ℕ × List ℕ) × List Pair) × NamesPairs text x.0.0 x.0.1 x.1

-- ---- the lines of transactions

-- behind `setattr`
pub setattr_says : (rest : List ℕ) (what : What) → IsLineOf (codes "setattr" ++ (0x20 ∷ rest)) what → HasAttr rest
setattr_says rest what line =
    let of = op_says (codes "setattr") rest what refl refl line in
    let only = setattr_only of.op of.args of.word_is of.about in
    (((of.coll, only.object), record { key = only.name; value = only.value }), record { named = of.named; args = of.args; whole = of.whole; are = only.are })

pub setattr_line : (rest c o n x : List ℕ) (what : What) → NamesAttr rest c o n x → what ≡ op_line c (SetAttr o n x) → IsLineOf (codes "setattr" ++ (0x20 ∷ rest)) what
setattr_line rest c o n x what is says = op_said rest c (SetAttr o n x) is.args what is.named is.whole is.are says

-- behind `rmattr`
pub rmattr_says : (rest : List ℕ) (what : What) → IsLineOf (codes "rmattr" ++ (0x20 ∷ rest)) what → HasValue rest
rmattr_says rest what line =
    let of = op_says (codes "rmattr") rest what refl refl line in
    let only = rmattr_only of.op of.args of.word_is of.about in
    (((of.coll, only.object), only.name), record { named = of.named; args = of.args; whole = of.whole; are = only.are })

pub rmattr_line : (rest c o n : List ℕ) (what : What) → NamesValue rest c o n → what ≡ op_line c (RmAttr o n) → IsLineOf (codes "rmattr" ++ (0x20 ∷ rest)) what
rmattr_line rest c o n what is says = op_said rest c (RmAttr o n) is.args what is.named is.whole is.are says

-- behind `omaprmrange`
pub omaprmrange_says : (rest : List ℕ) (what : What) → IsLineOf (codes "omaprmrange" ++ (0x20 ∷ rest)) what → HasKeyRange rest
omaprmrange_says rest what line =
    let of = op_says (codes "omaprmrange") rest what refl refl line in
    let only = omaprmrange_only of.op of.args of.word_is of.about in
    (((of.coll, only.object), (only.first, only.last)), record { named = of.named; args = of.args; whole = of.whole; are = only.are })

pub omaprmrange_line : (rest c o n m : List ℕ) (what : What) → NamesKeyRange rest c o n m → what ≡ op_line c (OmapRmRange o n m) → IsLineOf (codes "omaprmrange" ++ (0x20 ∷ rest)) what
omaprmrange_line rest c o n m what is says = op_said rest c (OmapRmRange o n m) is.args what is.named is.whole is.are says

-- behind `omapheader`
pub omapheader_says : (rest : List ℕ) (what : What) → IsLineOf (codes "omapheader" ++ (0x20 ∷ rest)) what → HasHeader rest
omapheader_says rest what line =
    let of = op_says (codes "omapheader") rest what refl refl line in
    let only = omapheader_only of.op of.args of.word_is of.about in
    (((of.coll, only.object), only.value), record { named = of.named; args = of.args; whole = of.whole; are = only.are })

pub omapheader_line : (rest c o x : List ℕ) (what : What) → NamesHeader rest c o x → what ≡ op_line c (OmapHeader o x) → IsLineOf (codes "omapheader" ++ (0x20 ∷ rest)) what
omapheader_line rest c o x what is says = op_said rest c (OmapHeader o x) is.args what is.named is.whole is.are says

-- behind `omaprm`
pub omaprm_says : (rest : List ℕ) (what : What) → IsLineOf (codes "omaprm" ++ (0x20 ∷ rest)) what → HasKeys rest
omaprm_says rest what line =
    let of = op_says (codes "omaprm") rest what refl refl line in
    let only = omaprm_only of.op of.args of.word_is of.about in
    (((of.coll, only.object), only.keys), record { named = of.named; args = of.args; whole = of.whole; are = only.are })

pub omaprm_line : (rest c o : List ℕ) (keys : List (List ℕ)) (what : What) → NamesKeys rest c o keys → what ≡ op_line c (OmapRm o keys) → IsLineOf (codes "omaprm" ++ (0x20 ∷ rest)) what
omaprm_line rest c o keys what is says = op_said rest c (OmapRm o keys) is.args what is.named is.whole is.are says

-- behind `omapset`
pub omapset_says : (rest : List ℕ) (what : What) → IsLineOf (codes "omapset" ++ (0x20 ∷ rest)) what → HasPairs rest
omapset_says rest what line =
    let of = op_says (codes "omapset") rest what refl refl line in
    let only = omapset_only of.op of.args of.word_is of.about in
    (((of.coll, only.object), only.pairs), record { named = of.named; args = of.args; whole = of.whole; are = only.are })

pub omapset_line : (rest c o : List ℕ) (pairs : List Pair) (what : What) → NamesPairs rest c o pairs → what ≡ op_line c (OmapSet o pairs) → IsLineOf (codes "omapset" ++ (0x20 ∷ rest)) what
omapset_line rest c o pairs what is says = op_said rest c (OmapSet o pairs) is.args what is.named is.whole is.are says

-- behind `rmattrs`
pub rmattrs_says : (rest : List ℕ) (what : What) → IsLineOf (codes "rmattrs" ++ (0x20 ∷ rest)) what → HasObject rest
rmattrs_says rest what line =
    let of = op_says (codes "rmattrs") rest what refl refl line in
    let only = rmattrs_only of.op of.args of.word_is of.about in
    ((of.coll, only.object), objects_of rest of.coll only.object of.args of.named of.whole only.are)

pub rmattrs_line : (rest c o : List ℕ) (what : What) → NamesObject rest c o → what ≡ op_line c (RmAttrs o) → IsLineOf (codes "rmattrs" ++ (0x20 ∷ rest)) what
rmattrs_line rest c o what is says = op_said rest c (RmAttrs o) (is.object_word ∷ []) what is.named is.whole (object_args rest c o is) says

-- behind `omapclear`
pub omapclear_says : (rest : List ℕ) (what : What) → IsLineOf (codes "omapclear" ++ (0x20 ∷ rest)) what → HasObject rest
omapclear_says rest what line =
    let of = op_says (codes "omapclear") rest what refl refl line in
    let only = omapclear_only of.op of.args of.word_is of.about in
    ((of.coll, only.object), objects_of rest of.coll only.object of.args of.named of.whole only.are)

pub omapclear_line : (rest c o : List ℕ) (what : What) → NamesObject rest c o → what ≡ op_line c (OmapClear o) → IsLineOf (codes "omapclear" ++ (0x20 ∷ rest)) what
omapclear_line rest c o what is says = op_said rest c (OmapClear o) (is.object_word ∷ []) what is.named is.whole (object_args rest c o is) says

-- ---- the lines of reads

-- behind `getattr`
pub getattr_says : (rest : List ℕ) (what : What) → IsLineOf (codes "getattr" ++ (0x20 ∷ rest)) what → HasValue rest
getattr_says rest what line =
    let behind = behind_first (codes "getattr") rest what (has_none 0x20 (codes "getattr") refl) line in
    let of = getattr_only (codes "getattr" ∷ behind.next ∷ behind.words) (behind.next ∷ behind.words) what refl behind.say in
    let are = of.are in
    let both : codes "getattr" ∷ behind.next ∷ behind.words ≡ codes "getattr" ∷ of.coll ∷ are.object_word ∷ are.name_word ∷ [] = are.whole in
    let tails : behind.next ∷ behind.words ≡ of.coll ∷ are.object_word ∷ are.name_word ∷ [] = cc in (
      ((of.coll, of.object), of.name),
      value_named rest of.coll are.object_word are.name_word of.coll of.object of.name (behind.whole ∙ ap in_words tails) refl
          are.named are.names are.called,
    )

pub getattr_line : (rest c o n : List ℕ) → NamesValue rest c o n → IsLineOf (codes "getattr" ++ (0x20 ∷ rest)) (Command (command.Read (reads.GetAttr c o n)))
getattr_line rest c o n is = record {
  words = codes "getattr" ∷ c ∷ is.are.object_word ∷ is.are.name_word ∷ [];
  whole = ap (λ (l : List ℕ). codes "getattr" ++ (0x20 ∷ l)) (is.whole ∙ ap (λ (l : List (List ℕ)). in_words (c ∷ l)) is.are.words);
  say = record {
    object_word = is.are.object_word;
    name_word = is.are.name_word;
    named = is.named;
    whole = refl;
    names = is.are.names;
    called = is.are.called;
  };
  fits = tt;
}

-- behind `omapget`
pub omapget_says : (rest : List ℕ) (what : What) → IsLineOf (codes "omapget" ++ (0x20 ∷ rest)) what → HasValue rest
omapget_says rest what line =
    let behind = behind_first (codes "omapget") rest what (has_none 0x20 (codes "omapget") refl) line in
    let of = omapget_only (codes "omapget" ∷ behind.next ∷ behind.words) (behind.next ∷ behind.words) what refl behind.say in
    let are = of.are in
    let both : codes "omapget" ∷ behind.next ∷ behind.words ≡ codes "omapget" ∷ of.coll ∷ are.object_word ∷ are.name_word ∷ [] = are.whole in
    let tails : behind.next ∷ behind.words ≡ of.coll ∷ are.object_word ∷ are.name_word ∷ [] = cc in (
      ((of.coll, of.object), of.name),
      value_named rest of.coll are.object_word are.name_word of.coll of.object of.name (behind.whole ∙ ap in_words tails) refl
          are.named are.names are.called,
    )

pub omapget_line : (rest c o n : List ℕ) → NamesValue rest c o n → IsLineOf (codes "omapget" ++ (0x20 ∷ rest)) (Command (command.Read (reads.OmapGet c o n)))
omapget_line rest c o n is = record {
  words = codes "omapget" ∷ c ∷ is.are.object_word ∷ is.are.name_word ∷ [];
  whole = ap (λ (l : List ℕ). codes "omapget" ++ (0x20 ∷ l)) (is.whole ∙ ap (λ (l : List (List ℕ)). in_words (c ∷ l)) is.are.words);
  say = record {
    object_word = is.are.object_word;
    name_word = is.are.name_word;
    named = is.named;
    whole = refl;
    names = is.are.names;
    called = is.are.called;
  };
  fits = tt;
}

-- behind `omaphdr`
pub omaphdr_says : (rest : List ℕ) (what : What) → IsLineOf (codes "omaphdr" ++ (0x20 ∷ rest)) what → HasObject rest
omaphdr_says rest what line =
    let behind = behind_first (codes "omaphdr") rest what (has_none 0x20 (codes "omaphdr") refl) line in
    let of = omaphdr_only (codes "omaphdr" ∷ behind.next ∷ behind.words) (behind.next ∷ behind.words) what refl behind.say in (
      (of.coll, of.object),
      names_behind (codes "omaphdr") behind.next behind.words rest of.coll of.object of.are.object_word behind.whole of.are.whole
          of.are.named of.are.names,
    )

pub omaphdr_line : (rest c o : List ℕ) → NamesObject rest c o → IsLineOf (codes "omaphdr" ++ (0x20 ∷ rest)) (Command (command.Read (reads.OmapHeader c o)))
omaphdr_line rest c o is = record {
  words = codes "omaphdr" ∷ c ∷ is.object_word ∷ [];
  whole = ap (λ (l : List ℕ). codes "omaphdr" ++ (0x20 ∷ l)) is.whole;
  say = record { object_word = is.object_word; named = is.named; whole = refl; names = is.names };
  fits = tt;
}
