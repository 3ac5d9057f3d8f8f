-- Lines about a collection, an object as a whole or a value of it, whichever word they begin with.
use Rattle.std.proofs.Common.{◌≡◌, ◌≢◌, ℕ, List, ◌∷◌, ◌++◌, sym, subst}
use Rattle.std.specs.Prelude.{codes}
use Rattle.unit_fields.specs.Prelude.{IsCollName}
use Rattle.script_text.specs.Prelude.{HasNo, IsLaterWord, IsLineOf, NamesObject, NamesValue, coll_word, coll_says, object_word, object_says, value_word, value_says}
use Rattle.script_text.specs.declared.about.CollWord.{CollWord}
use Rattle.script_text.specs.declared.about.CollWord.TheVariants as coll
use Rattle.script_text.specs.declared.about.ObjectWord.{ObjectWord}
use Rattle.script_text.specs.declared.about.ObjectWord.TheVariants as object
use Rattle.script_text.specs.declared.about.ValueWord.{ValueWord}
use Rattle.script_text.specs.declared.about.ValueWord.TheVariants as value
use Rattle.script_text.specs.declared.line.What.{What}
use Rattle.script_text.proofs.Forms.{HasColl, HasObject, no_line, mkcoll_says, mkcoll_line, rmcoll_says, rmcoll_line, touch_says, touch_line, remove_says, remove_line}
use Rattle.script_text.proofs.ReadForms.{list_says, list_line, sum_says, sum_line, stat_says, stat_line}
use Rattle.script_text.proofs.ValueForms.{HasValue, rmattrs_says, rmattrs_line, omapclear_says, omapclear_line, omaphdr_says, omaphdr_line, rmattr_says, rmattr_line, getattr_says, getattr_line, omapget_says, omapget_line}

-- ---- a collection

-- none of these words
pub no_coll_word : (text : List ℕ) → text ≢ codes "mkcoll" → text ≢ codes "rmcoll" → text ≢ codes "list"
    → (w : CollWord) → text ≢ coll_word w
no_coll_word text no_mkcoll no_rmcoll no_list coll.MkColl = no_mkcoll
no_coll_word text no_mkcoll no_rmcoll no_list coll.RmColl = no_rmcoll
no_coll_word text no_mkcoll no_rmcoll no_list coll.List = no_list

pub coll_has : (w : CollWord) (rest : List ℕ) (what : What) → IsLineOf (coll_word w ++ (0x20 ∷ rest)) what → HasColl rest
coll_has coll.MkColl rest what line = mkcoll_says rest what line
coll_has coll.RmColl rest what line = rmcoll_says rest what line
coll_has coll.List rest what line = list_says rest what line

pub coll_line : (w : CollWord) (rest c : List ℕ) (what : What) → c ≡ rest → IsCollName rest → what ≡ coll_says w c → IsLineOf (coll_word w ++ (0x20 ∷ rest)) what
coll_line coll.MkColl rest c what is named says = mkcoll_line rest c what is named says
coll_line coll.RmColl rest c what is named says = rmcoll_line rest c what is named says
coll_line coll.List rest c what is named says =
    subst (λ (w : What). IsLineOf (coll_word coll.List ++ (0x20 ∷ rest)) w) (sym says) (list_line rest c is named)

-- ---- an object as a whole

-- none of these words
pub no_object_word : (text : List ℕ) → text ≢ codes "touch" → text ≢ codes "remove" → text ≢ codes "rmattrs" → text ≢ codes "omapclear" → text ≢ codes "sum" → text ≢ codes "stat" → text ≢ codes "omaphdr"
    → (w : ObjectWord) → text ≢ object_word w
no_object_word text no_touch no_remove no_rmattrs no_omapclear no_sum no_stat no_omaphdr object.Touch = no_touch
no_object_word text no_touch no_remove no_rmattrs no_omapclear no_sum no_stat no_omaphdr object.Remove = no_remove
no_object_word text no_touch no_remove no_rmattrs no_omapclear no_sum no_stat no_omaphdr object.RmAttrs = no_rmattrs
no_object_word text no_touch no_remove no_rmattrs no_omapclear no_sum no_stat no_omaphdr object.OmapClear = no_omapclear
no_object_word text no_touch no_remove no_rmattrs no_omapclear no_sum no_stat no_omaphdr object.Sum = no_sum
no_object_word text no_touch no_remove no_rmattrs no_omapclear no_sum no_stat no_omaphdr object.Stat = no_stat
no_object_word text no_touch no_remove no_rmattrs no_omapclear no_sum no_stat no_omaphdr object.OmapHdr = no_omaphdr

pub object_has : (w : ObjectWord) (rest : List ℕ) (what : What) → IsLineOf (object_word w ++ (0x20 ∷ rest)) what → HasObject rest
object_has object.Touch rest what line = touch_says rest what line
object_has object.Remove rest what line = remove_says rest what line
object_has object.RmAttrs rest what line = rmattrs_says rest what line
object_has object.OmapClear rest what line = omapclear_says rest what line
object_has object.Sum rest what line = sum_says rest what line
object_has object.Stat rest what line = stat_says rest what line
object_has object.OmapHdr rest what line = omaphdr_says rest what line

pub object_line : (w : ObjectWord) (rest c o : List ℕ) (what : What) → NamesObject rest c o → what ≡ object_says w c o
    → IsLineOf (object_word w ++ (0x20 ∷ rest)) what
object_line object.Touch rest c o what is says = touch_line rest c o what is says
object_line object.Remove rest c o what is says = remove_line rest c o what is says
object_line object.RmAttrs rest c o what is says = rmattrs_line rest c o what is says
object_line object.OmapClear rest c o what is says = omapclear_line rest c o what is says
object_line object.Sum rest c o what is says =
    subst (λ (w : What). IsLineOf (object_word object.Sum ++ (0x20 ∷ rest)) w) (sym says) (sum_line rest c o is)
object_line object.Stat rest c o what is says =
    subst (λ (w : What). IsLineOf (object_word object.Stat ++ (0x20 ∷ rest)) w) (sym says) (stat_line rest c o is)
object_line object.OmapHdr rest c o what is says =
    subst (λ (w : What). IsLineOf (object_word object.OmapHdr ++ (0x20 ∷ rest)) w) (sym says) (omaphdr_line rest c o is)

-- ---- a value of an object

-- none of these words
pub no_value_word : (text : List ℕ) → text ≢ codes "rmattr" → text ≢ codes "getattr" → text ≢ codes "omapget"
    → (w : ValueWord) → text ≢ value_word w
no_value_word text no_rmattr no_getattr no_omapget value.RmAttr = no_rmattr
no_value_word text no_rmattr no_getattr no_omapget value.GetAttr = no_getattr
no_value_word text no_rmattr no_getattr no_omapget value.OmapGet = no_omapget

pub value_has : (w : ValueWord) (rest : List ℕ) (what : What) → IsLineOf (value_word w ++ (0x20 ∷ rest)) what → HasValue rest
value_has value.RmAttr rest what line = rmattr_says rest what line
value_has value.GetAttr rest what line = getattr_says rest what line
value_has value.OmapGet rest what line = omapget_says rest what line

pub value_line : (w : ValueWord) (rest c o n : List ℕ) (what : What) → NamesValue rest c o n → what ≡ value_says w c o n
    → IsLineOf (value_word w ++ (0x20 ∷ rest)) what
value_line value.RmAttr rest c o n what is says = rmattr_line rest c o n what is says
value_line value.GetAttr rest c o n what is says =
    subst (λ (w : What). IsLineOf (value_word value.GetAttr ++ (0x20 ∷ rest)) w) (sym says) (getattr_line rest c o n is)
value_line value.OmapGet rest c o n what is says =
    subst (λ (w : What). IsLineOf (value_word value.OmapGet ++ (0x20 ∷ rest)) w) (sym says) (omapget_line rest c o n is)

-- ---- any other word

-- a line begins with one of the known words
pub no_later_line : (word rest : List ℕ) (what : What) → HasNo 0x20 word → IsLaterWord word → word ≢ codes "setattr" → word ≢ codes "omapset" → word ≢ codes "omaprm"
    → word ≢ codes "omaprmrange" → word ≢ codes "omapheader" → ¬ (IsLineOf (word ++ (0x20 ∷ rest)) what)
no_later_line word rest what one later no_setattr no_omapset no_omaprm no_omaprmrange no_omapheader = no_line word rest what one (record {
  no_op = record {
    no_mkcoll = later.other.no_coll coll.MkColl;
    no_rmcoll = later.other.no_coll coll.RmColl;
    no_touch = later.other.no_object object.Touch;
    no_write = later.other.no_write;
    no_zero = later.no_zero;
    no_truncate = later.no_truncate;
    no_remove = later.other.no_object object.Remove;
    no_setattr = no_setattr;
    no_rmattr = later.no_value value.RmAttr;
    no_rmattrs = later.other.no_object object.RmAttrs;
    no_omapset = no_omapset;
    no_omaprm = no_omaprm;
    no_omaprmrange = no_omaprmrange;
    no_omapclear = later.other.no_object object.OmapClear;
    no_omapheader = no_omapheader;
  };
  no_read = later.other.no_read;
  no_sum = later.other.no_object object.Sum;
  no_stat = later.other.no_object object.Stat;
  no_getattr = later.no_value value.GetAttr;
  no_omapget = later.no_value value.OmapGet;
  no_omaphdr = later.other.no_object object.OmapHdr;
  no_list = later.other.no_coll coll.List;
})
