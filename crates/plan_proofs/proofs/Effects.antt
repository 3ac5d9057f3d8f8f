-- What operations on an object make of the objects.
use Rattle.std.proofs.Common.{◌≡◌, ◌≢◌, inl, inr, ℕ, ◌+◌, Bool, true, false, cond, List, [], length, replicate, Option, Some, None, is_some, Err, unwrap_or, refl, sym, ap, ◌∙◌}
use Rattle.std.specs.Prelude.{nat_lt, IsSome}
use Rattle.std.specs.Option.{option_map, option_map_or}
use Rattle.std.specs.FinMap as map
use Rattle.std.specs.Ordering.{eq_by_cmp, is_eq}
use Rattle.std.specs.declared.cmp.Ordering.TheVariants.{Less, Equal, Greater}
use Rattle.std.specs.Cmp.{tied_itself}
use Rattle.std.specs.Cmp.Lexicographic.{nat_list_cmp_total}
use Rattle.byte_maps.specs.Units.{zeros}
use Rattle.byte_maps.specs.ByteMap.{byte_order, ByteMap}
use Rattle.byte_maps.proofs.Prelude.{after_remove, same, same_bytes}
use Rattle.object_model.specs.declared.op.Op.{Op}
use Rattle.object_model.specs.declared.op.Op.TheVariants.{MkColl, RmColl, Clone, CloneRange, Touch, Write, Zero, Truncate, Remove, SetAttr, RmAttr, RmAttrs, OmapSet, OmapRm, OmapRmRange, OmapClear, OmapHeader}
use Rattle.object_model.specs.declared.op.Refusal.TheVariants.{NoObject, TooBig}
use Rattle.object_model.specs.Prelude.{Object, Collection, empty_object, object_limit, overwritten, resized, with_pairs, without_keys, without_range, any_value_long, unless, making, Outcome, effect_on}
use Rattle.object_model.specs.Effect.{value_limit, sparing, changing, stands}
use Rattle.store_image.proofs.Prelude.{equal_or_not}
use Rattle.row_facts.proofs.Maps.{get_same, get_other}
use Rattle.plan_drafts.specs.Prelude.{IsOnObject, object_of, is_beyond, needs_object, bytes_after}
use Rattle.plan_proofs.proofs.Values.{with_values}

-- the bytes of an object, none where it is missing
abbrev pub bytes_of : Option Object → List ℕ
bytes_of x = (unwrap_or x empty_object).bytes

-- the object, or an empty one where it is missing, with other bytes
abbrev pub with_bytes : Option Object → List ℕ → Object
with_bytes x bytes = record (unwrap_or x empty_object) { bytes = bytes }

-- The bytes of the object after an operation, where it is there then: it goes, or they change, or they stay as they are.
abbrev pub bytes_on : Op → Option Object → Option (List ℕ)
bytes_on (Remove o) x = None
bytes_on (Touch o) x = Some (bytes_after (Touch o) (bytes_of x))
bytes_on (Write o off bytes) x = Some (bytes_after (Write o off bytes) (bytes_of x))
bytes_on (Zero o off len) x = Some (bytes_after (Zero o off len) (bytes_of x))
bytes_on (Truncate o to) (Some b) = Some (bytes_after (Truncate o to) b.bytes)
bytes_on op x = option_map (λ b. b.bytes) x

-- the object with the values that the operation makes of its own
abbrev pub valued_on : Op → Option Object → Option Object
valued_on op x = option_map (with_values op) x

-- and that with the bytes after it
abbrev pub object_on : Op → Option Object → Option Object
object_on op x = option_map (with_bytes (valued_on op x)) (bytes_on op (valued_on op x))

-- a collection in which this stands under the object's name
abbrev pub put : Collection → List ℕ → Option Object → Collection
put coll o None = map.remove coll o
put coll o (Some object) = map.insert coll o object

-- ---- what stands under a name

same_name : (x y : List ℕ) → eq_by_cmp byte_order x y ≡ true → x ≡ y
same_name x y is = elim (byte_order x y) as (λ r. byte_order x y ≡ r → is_eq r ≡ true → x ≡ y) [
  | Less ↦ λ p t. absurd cc
  | Equal ↦ λ p t. same_bytes x y p
  | Greater ↦ λ p t. absurd cc
] refl is

module _ {X : Type 0} (m : ByteMap X) (o : List ℕ) where
  pub get_taken : map.get (map.remove m o) o ≡ None
  get_taken = after_remove m o o ∙ ap (λ r. cond (is_eq r) None (map.get m o)) (tied_itself nat_list_cmp_total o)

  pub get_apart : (q : List ℕ) → q ≢ o → map.get (map.remove m o) q ≡ map.get m q
  get_apart q apart = after_remove m o q ∙ elim (eq_by_cmp byte_order q o) as
      (λ b. eq_by_cmp byte_order q o ≡ b → cond b None (map.get m q) ≡ map.get m q) [
        | true ↦ λ p. absurd (apart (same_name q o p))
        | false ↦ λ p. refl
      ] refl

module _ (coll : Collection) (o : List ℕ) where
  -- taking out what isn't there changes nothing
  remove_missing : map.get coll o ≡ None → map.remove coll o ≡ coll
  remove_missing none = same (map.remove coll o) coll (λ q. elim (equal_or_not q o) [
    | inl e ↦ ap (map.get (map.remove coll o)) e ∙ get_taken coll o ∙ sym none ∙ ap (map.get coll) (sym e)
    | inr apart ↦ get_apart coll o q apart
  ])

  pub put_here : (new : Option Object) → map.get (put coll o new) o ≡ new
  put_here None = get_taken coll o
  put_here (Some object) = get_same coll o object

  pub put_apart : (new : Option Object) (q : List ℕ) → q ≢ o → map.get (put coll o new) q ≡ map.get coll q
  put_apart None q apart = get_apart coll o q apart
  put_apart (Some object) q apart = get_other coll o object q apart

-- ---- the effect

zeros_are : (n : ℕ) → replicate n 0 ≡ zeros n
unfolding zeros
zeros_are n = refl

module _ (coll : Collection) where
  abbrev Makes : Op → Type 0
  Makes op = effect_on op coll ≡ stands (put coll (object_of op) (object_on op (map.get coll (object_of op))))

  -- an object made where it is missing
  made_here : (o : List ℕ) (op : Op) (change : Object → Object) (x : Option Object) → object_on op x ≡ Some (change (unwrap_or x empty_object))
      → stands (map.insert coll o (change (unwrap_or x empty_object))) ≡ stands (put coll o (object_on op x))
  made_here o op change x is = ap (λ (new : Option Object). stands (put coll o new)) (sym is)

  -- an object changed where it is there
  spared : (o : List ℕ) (op : Op) (change : Object → Object) → object_on op None ≡ None → ((b : Object) → object_on op (Some b) ≡ Some (change b))
      → (x : Option Object) → map.get coll o ≡ x
      → option_map_or (λ b. stands (map.insert coll o (change b))) x (stands coll) ≡ stands (put coll o (object_on op x))
  spared o op change missing there None p =
      ap (λ (k : Collection). stands k) (sym (remove_missing coll o p)) ∙ ap (λ (new : Option Object). stands (put coll o new)) (sym missing)
  spared o op change missing there (Some b) p = ap (λ (new : Option Object). stands (put coll o new)) (sym (there b))

  -- an object changed that is there
  changed : (o : List ℕ) (op : Op) (change : Object → Object) → ((b : Object) → object_on op (Some b) ≡ Some (change b))
      → IsSome (map.get coll o) → changing coll o change ≡ stands (put coll o (object_on op (map.get coll o)))
  changed o op change there has = elim (map.get coll o) as (λ x. is_some x ≡ true
      → option_map_or (λ b. stands (map.insert coll o (change b))) x (Err NoObject) ≡ stands (put coll o (object_on op x))) [
        | None ↦ λ is. absurd cc
        | Some b ↦ λ is. ap (λ (new : Option Object). stands (put coll o new)) (sym (there b))
      ] has

  -- a test that doesn't refuse
  passes : (test : Bool) (after : Outcome) → test ≡ false → unless test TooBig after ≡ after
  passes test after is = ap (λ b. unless b TooBig after) is

  touched : (o : List ℕ) (x : Option Object) → object_on (Touch o) x ≡ Some (unwrap_or x empty_object)
  touched o None = refl
  touched o (Some b) = refl

  written : (o : List ℕ) (off : ℕ) (bytes : List ℕ) (x : Option Object) → object_on (Write o off bytes) x
      ≡ Some (record (unwrap_or x empty_object) { bytes = overwritten (unwrap_or x empty_object).bytes off bytes })
  written o off bytes None = refl
  written o off bytes (Some b) = refl

  zeroed : (o : List ℕ) (off len : ℕ) (x : Option Object) → object_on (Zero o off len) x
      ≡ Some (record (unwrap_or x empty_object) { bytes = overwritten (unwrap_or x empty_object).bytes off (replicate len 0) })
  zeroed o off len None = ap (λ (zs : List ℕ). Some (record empty_object { bytes = overwritten [] off zs })) (sym (zeros_are len))
  zeroed o off len (Some b) = ap (λ (zs : List ℕ). Some (record b { bytes = overwritten b.bytes off zs })) (sym (zeros_are len))

  -- What an operation that isn't refused makes of the collection: its object becomes what it is to be.
  pub effect_is : (op : Op) → IsOnObject op → is_beyond op ≡ false → (needs_object op ≡ true → IsSome (map.get coll (object_of op))) → Makes op
  effect_is MkColl on fits there = absurd on
  effect_is RmColl on fits there = absurd on
  effect_is (Clone o to) on fits there = absurd on
  effect_is (CloneRange o to src len dst) on fits there = absurd on
  effect_is (Touch o) on fits there = made_here o (Touch o) (λ b. b) (map.get coll o) (touched o (map.get coll o))
  effect_is (Write o off bytes) on fits there =
      passes (nat_lt object_limit (off + length bytes)) (making coll o (λ b. record b { bytes = overwritten b.bytes off bytes })) fits
      ∙ made_here o (Write o off bytes) (λ b. record b { bytes = overwritten b.bytes off bytes }) (map.get coll o) (written o off bytes (map.get coll o))
  effect_is (Zero o off len) on fits there =
      passes (nat_lt object_limit (off + len)) (making coll o (λ b. record b { bytes = overwritten b.bytes off (replicate len 0) })) fits
      ∙ made_here o (Zero o off len) (λ b. record b { bytes = overwritten b.bytes off (replicate len 0) }) (map.get coll o)
      (zeroed o off len (map.get coll o))
  effect_is (Truncate o to) on fits there =
      passes (nat_lt object_limit to) (sparing coll o (λ b. record b { bytes = resized b.bytes to })) fits
      ∙ spared o (Truncate o to) (λ b. record b { bytes = resized b.bytes to }) refl (λ b. refl) (map.get coll o) refl
  effect_is (Remove o) on fits there = refl
  effect_is (SetAttr o name value) on fits there =
      passes (nat_lt value_limit (length value)) (changing coll o (λ b. record b { attrs = map.insert b.attrs name value })) fits
      ∙ changed o (SetAttr o name value) (λ b. record b { attrs = map.insert b.attrs name value }) (λ b. refl) (there refl)
  effect_is (RmAttr o name) on fits there =
      changed o (RmAttr o name) (λ b. record b { attrs = map.remove b.attrs name }) (λ b. refl) (there refl)
  effect_is (RmAttrs o) on fits there = spared o (RmAttrs o) (λ b. record b { attrs = map.empty }) refl (λ b. refl) (map.get coll o) refl
  effect_is (OmapSet o pairs) on fits there =
      passes (any_value_long pairs) (changing coll o (λ b. record b { omap = with_pairs b.omap pairs })) fits
      ∙ changed o (OmapSet o pairs) (λ b. record b { omap = with_pairs b.omap pairs }) (λ b. refl) (there refl)
  effect_is (OmapRm o keys) on fits there = changed o (OmapRm o keys) (λ b. record b { omap = without_keys b.omap keys }) (λ b. refl) (there refl)
  effect_is (OmapRmRange o first last) on fits there =
      changed o (OmapRmRange o first last) (λ b. record b { omap = without_range b.omap first last }) (λ b. refl) (there refl)
  effect_is (OmapClear o) on fits there =
      spared o (OmapClear o) (λ b. record b { header = []; omap = map.empty }) refl (λ b. refl) (map.get coll o) refl
  effect_is (OmapHeader o value) on fits there =
      passes (nat_lt value_limit (length value)) (changing coll o (λ b. record b { header = value })) fits
      ∙ changed o (OmapHeader o value) (λ b. record b { header = value }) (λ b. refl) (there refl)

  -- ---- what refuses one

  refused : (test : Bool) (after : Outcome) → test ≡ true → unless test TooBig after ≡ Err TooBig
  refused test after is = ap (λ b. unless b TooBig after) is

  pub beyond_effect : (op : Op) → is_beyond op ≡ true → effect_on op coll ≡ Err TooBig
  beyond_effect (Write o off bytes) over = refused (nat_lt object_limit (off + length bytes)) _ over
  beyond_effect (Zero o off len) over = refused (nat_lt object_limit (off + len)) _ over
  beyond_effect (Truncate o to) over = refused (nat_lt object_limit to) _ over
  beyond_effect (SetAttr o name value) over = refused (nat_lt value_limit (length value)) _ over
  beyond_effect (OmapSet o pairs) over = refused (any_value_long pairs) _ over
  beyond_effect (OmapHeader o value) over = refused (nat_lt value_limit (length value)) _ over
  beyond_effect op over = absurd cc

  changes_none : (o : List ℕ) (change : Object → Object) → map.get coll o ≡ None → changing coll o change ≡ Err NoObject
  changes_none o change none = ap (λ x. option_map_or (λ b. stands (map.insert coll o (change b))) x (Err NoObject)) none

  -- within the limits an operation that needs its object looks for it
  pub lost_effect : (op : Op) → is_beyond op ≡ false → needs_object op ≡ true → map.get coll (object_of op) ≡ None → effect_on op coll ≡ Err NoObject
  lost_effect (SetAttr o name value) fits needs none = passes (nat_lt value_limit (length value)) _ fits ∙ changes_none o _ none
  lost_effect (RmAttr o name) fits needs none = changes_none o _ none
  lost_effect (OmapSet o pairs) fits needs none = passes (any_value_long pairs) _ fits ∙ changes_none o _ none
  lost_effect (OmapRm o keys) fits needs none = changes_none o _ none
  lost_effect (OmapRmRange o first last) fits needs none = changes_none o _ none
  lost_effect (OmapHeader o value) fits needs none = passes (nat_lt value_limit (length value)) _ fits ∙ changes_none o _ none
  lost_effect op fits needs none = absurd cc
