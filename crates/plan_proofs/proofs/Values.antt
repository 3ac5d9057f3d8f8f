-- What an operation makes of an object's values, as rows have them and as plain objects do.
use Rattle.std.proofs.Common.{◌≡◌, ℕ, Bool, true, false, cond, List, [], ◌∷◌, Option, Some, None, unwrap_or, refl, sym, ap, ◌∙◌}
use Rattle.std.specs.Prelude.{◌||◌}
use Rattle.std.specs.Ordering.{is_eq, ordering_reverse}
use Rattle.std.specs.declared.cmp.Ordering.TheVariants.{Less, Equal, Greater}
use Rattle.std.specs.Cmp.Lexicographic.{nat_list_cmp_total}
use Rattle.std.specs.FinMap as map
use Rattle.byte_maps.specs.ByteMap.{byte_order, ByteMap}
use Rattle.byte_maps.proofs.Laws.{after_insert, after_remove, after_remove_range}
use Rattle.object_model.specs.declared.op.Op.{Op}
use Rattle.object_model.specs.declared.op.Op.TheVariants.{Remove, SetAttr, RmAttr, RmAttrs, OmapSet, OmapRm, OmapRmRange, OmapClear, OmapHeader}
use Rattle.object_model.specs.declared.op.Pair.{Pair}
use Rattle.object_model.specs.Prelude.{Object, is_same, with_pairs, without_keys, without_range}
use Rattle.plan_drafts.specs.Prelude.{attribute, header, pair, value_in, is_among, value_after}

-- ---- names

back : {X : Type 0} (x y : X) (a b : List ℕ) → cond (is_same a b) x y ≡ cond (is_same b a) x y
back x y a b = elim (byte_order a b) as (λ r. byte_order a b ≡ r → cond (is_eq r) x y ≡ cond (is_same b a) x y) [
  | Less ↦ λ p. ap (λ r. cond (is_eq r) x y) (sym (reversed p))
  | Equal ↦ λ p. ap (λ r. cond (is_eq r) x y) (sym (reversed p))
  | Greater ↦ λ p. ap (λ r. cond (is_eq r) x y) (sym (reversed p))
] refl
  where
    reversed : {r : _} → byte_order a b ≡ r → byte_order b a ≡ ordering_reverse r
    reversed p = nat_list_cmp_total.antisymm b a ∙ ap ordering_reverse p

-- ---- the values of plain objects

abbrev pub attrs_after : Op → ByteMap (List ℕ) → ByteMap (List ℕ)
attrs_after (Remove o) m = map.empty
attrs_after (SetAttr o name value) m = map.insert m name value
attrs_after (RmAttr o name) m = map.remove m name
attrs_after (RmAttrs o) m = map.empty
attrs_after op m = m

abbrev pub header_after : Op → List ℕ → List ℕ
header_after (Remove o) h = []
header_after (OmapClear o) h = []
header_after (OmapHeader o value) h = value
header_after op h = h

abbrev pub omap_after : Op → ByteMap (List ℕ) → ByteMap (List ℕ)
omap_after (Remove o) m = map.empty
omap_after (OmapSet o pairs) m = with_pairs m pairs
omap_after (OmapRm o keys) m = without_keys m keys
omap_after (OmapRmRange o first last) m = without_range m first last
omap_after (OmapClear o) m = map.empty
omap_after op m = m

-- the object with the values that an operation makes of its own
abbrev pub with_values : Op → Object → Object
with_values op b = record b { attrs = attrs_after op b.attrs; header = header_after op b.header; omap = omap_after op b.omap }

none_under : (q : List ℕ) → map.get (map.empty {X = List ℕ} {R = byte_order}) q ≡ None
none_under q = map.get-empty byte_order q

pub attrs_are : (op : Op) (m : ByteMap (List ℕ)) (n : List ℕ) → map.get (attrs_after op m) n ≡ value_after op (attribute n) (map.get m n)
attrs_are (Remove o) m n = none_under n
attrs_are (SetAttr o name value) m n = after_insert m name value n ∙ back (Some value) (map.get m n) n name
attrs_are (RmAttr o name) m n = after_remove m name n ∙ back None (map.get m n) n name
attrs_are (RmAttrs o) m n = none_under n
attrs_are op m n = refl

pub header_is : (op : Op) (h : List ℕ) (old : Option (List ℕ)) → h ≡ unwrap_or old [] → header_after op h ≡ unwrap_or (value_after op header old) []
header_is (Remove o) h old is = refl
header_is (OmapClear o) h old is = refl
header_is (OmapHeader o []) h old is = refl
header_is (OmapHeader o (b ∷ bs)) h old is = refl
header_is op h old is = is

set_in : (pairs : List Pair) (m : ByteMap (List ℕ)) (q : List ℕ) → map.get (with_pairs m pairs) q ≡ value_in pairs q (map.get m q)
set_in [] m q = refl
set_in (p ∷ ps) m q = set_in ps (map.insert m p.key p.value) q
    ∙ ap (value_in ps q) (after_insert m p.key p.value q ∙ back (Some p.value) (map.get m q) q p.key)

-- of a key that is taken out first or later nothing is left
either_out : (a b : Bool) (x : Option (List ℕ)) → cond b None (cond a None x) ≡ cond (a || b) None x
either_out true true x = refl
either_out true false x = refl
either_out false b x = refl

taken_out : (keys : List (List ℕ)) (m : ByteMap (List ℕ)) (q : List ℕ) → map.get (without_keys m keys) q ≡ cond (is_among keys q) None (map.get m q)
taken_out [] m q = refl
taken_out (k ∷ ks) m q = taken_out ks (map.remove m k) q
    ∙ ap (cond (is_among ks q) None) (after_remove m k q ∙ back None (map.get m q) q k)
    ∙ either_out (is_same k q) (is_among ks q) (map.get m q)

pub omap_is : (op : Op) (m : ByteMap (List ℕ)) (q : List ℕ) → map.get (omap_after op m) q ≡ value_after op (pair q) (map.get m q)
omap_is (Remove o) m q = none_under q
omap_is (OmapSet o pairs) m q = set_in pairs m q
omap_is (OmapRm o keys) m q = taken_out keys m q
omap_is (OmapRmRange o first last) m q = after_remove_range m first last q
omap_is (OmapClear o) m q = none_under q
omap_is op m q = refl
