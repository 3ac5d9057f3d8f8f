-- The values that operations write: how long they are, and under which names.
use Rattle.std.proofs.Common.{◌≡◌, ◌⊎◌, inl, inr, ℕ, ◌<◌, ◌≤◌, Bool, true, false, cond, List, [], ◌∷◌, length, Option, Some, None, is_some, refl, sym, ap, subst, ◌∙◌, arith}
use Rattle.std.specs.Prelude.{nat_lt}
use Rattle.std.specs.List.{AllByRecursion}
use Rattle.std.proofs.lemmas.Bool.{cases_Bool, or_parts}
use Rattle.std.proofs.lemmas.Bool.Decides.{nat_tests}
use Rattle.object_model.specs.declared.op.Op.{Op}
use Rattle.object_model.specs.declared.op.Op.TheVariants.{Remove, SetAttr, RmAttr, RmAttrs, OmapSet, OmapRm, OmapRmRange, OmapClear, OmapHeader}
use Rattle.object_model.specs.declared.op.Pair.{Pair}
use Rattle.object_model.specs.Prelude.{is_same, any_value_long}
use Rattle.object_model.specs.Effect.{value_limit}
use Rattle.byte_maps.specs.ByteMap.{in_range}
use Rattle.unit_fields.specs.Prelude.{IsName}
use Rattle.plan_drafts.specs.Prelude.{ValueKey, attribute, header, pair, IsValueKey, value_in, is_among, not_empty, value_after, is_beyond, needs_object, HasNames}
use Rattle.plan_proofs.proofs.Names.{same_is, none_either}

-- the value may stand under the key: it isn't too long, and a header isn't empty
abbrev pub FitsValue : ValueKey → List ℕ → Type 0
FitsValue header value = (0 < length value) × (length value ≤ 65535)
FitsValue k value = length value ≤ 65535

-- so it is with the value of a pair
abbrev pub IsShort : Pair → Type 0
IsShort p = length p.value ≤ 65535

short_by : (value : List ℕ) → nat_lt value_limit (length value) ≡ false → length value ≤ 65535
short_by value is = grind (arith, nat_tests, is)

pub short_pairs : (pairs : List Pair) → any_value_long pairs ≡ false → AllByRecursion IsShort pairs
short_pairs [] is = tt
short_pairs (p ∷ ps) is =
    let both = or_parts (nat_lt value_limit (length p.value)) (any_value_long ps) is in (short_by p.value both.0, short_pairs ps both.1)

either_short : (b : Bool) (given value : List ℕ) (old : Option (List ℕ)) → length given ≤ 65535 → (old ≡ Some value → length value ≤ 65535)
    → cond b (Some given) old ≡ Some value → length value ≤ 65535
either_short true given value old short by is = subst (λ (v : List ℕ). length v ≤ 65535) (let same : given ≡ value = cc in same) short
either_short false given value old short by is = by is

-- pairs give a key one value, or leave what stood there
in_or_old : (pairs : List Pair) (key : List ℕ) (old : Option (List ℕ)) (value : List ℕ) → AllByRecursion IsShort pairs → value_in pairs key old ≡ Some value
    → (old ≡ Some value) ⊎ (length value ≤ 65535)
in_or_old [] key old value short is = inl is
in_or_old (p ∷ ps) key old value short is = elim (in_or_old ps key (cond (is_same p.key key) (Some p.value) old) value short.1 is) [
  | inl kept ↦ elim (cases_Bool (is_same p.key key)) [
    | inl same ↦ inr (let t : Some p.value ≡ Some value = sym (ap (λ b. cond b (Some p.value) old) same) ∙ kept in
        subst (λ (v : List ℕ). length v ≤ 65535) (let e : p.value ≡ value = cc in e) short.0)
    | inr other ↦ inl (sym (ap (λ b. cond b (Some p.value) old) other) ∙ kept)
  ]
  | inr fits ↦ inr fits
]

-- A value after an operation stood there, or the operation writes it, which asks for its object.
abbrev pub StoodOrWritten : Op → ValueKey → Option (List ℕ) → List ℕ → Type 0
StoodOrWritten op k old value = (old ≡ Some value) ⊎ (FitsValue k value × (needs_object op ≡ true))

either : (op : Op) (k : ValueKey) (b : Bool) (new old : Option (List ℕ)) (value : List ℕ) → cond b new old ≡ Some value
    → (new ≡ Some value → StoodOrWritten op k old value) → StoodOrWritten op k old value
either op k true new old value is by = by is
either op k false new old value is by = inl is

header_by : (o value new : List ℕ) (old : Option (List ℕ)) → length value ≤ 65535 → not_empty value ≡ Some new
    → StoodOrWritten (OmapHeader o value) header old new
header_by o [] new old short is = absurd cc
header_by o (b ∷ bs) new old short is =
    let same : b ∷ bs ≡ new = cc in
    inr (subst (λ v. (0 < length v) × (length v ≤ 65535)) same (omega arith, short), refl)

pub stood_or_written : (op : Op) (k : ValueKey) (old : Option (List ℕ)) (value : List ℕ) → is_beyond op ≡ false → value_after op k old ≡ Some value
    → StoodOrWritten op k old value
stood_or_written (Remove o) k old value fits is = absurd cc
stood_or_written (SetAttr o name v) (attribute n) old value fits is = either (SetAttr o name v) (attribute n) (is_same name n) (Some v) old value is
    (λ e. let given : v ≡ value = cc in inr (subst (λ (w : List ℕ). length w ≤ 65535) given (short_by v fits), refl))
stood_or_written (RmAttr o name) (attribute n) old value fits is =
    either (RmAttr o name) (attribute n) (is_same name n) None old value is (λ e. absurd cc)
stood_or_written (RmAttrs o) (attribute n) old value fits is = absurd cc
stood_or_written (OmapSet o pairs) (pair key) old value fits is = elim (in_or_old pairs key old value (short_pairs pairs fits) is) [
  | inl kept ↦ inl kept
  | inr short ↦ inr (short, refl)
]
stood_or_written (OmapRm o keys) (pair key) old value fits is =
    either (OmapRm o keys) (pair key) (is_among keys key) None old value is (λ e. absurd cc)
stood_or_written (OmapRmRange o first last) (pair key) old value fits is =
    either (OmapRmRange o first last) (pair key) (in_range first last key) None old value is (λ e. absurd cc)
stood_or_written (OmapClear o) header old value fits is = absurd cc
stood_or_written (OmapClear o) (pair key) old value fits is = absurd cc
stood_or_written (OmapHeader o v) header old value fits is = header_by o v value old (short_by v fits) is
stood_or_written op k old value fits is = inl is

-- ---- names

fits_among : (pairs : List Pair) (key : List ℕ) → AllByRecursion (λ p. IsName p.key) pairs → is_some (value_in pairs key None) ≡ true → IsName key
fits_among [] key fit some = absurd cc
fits_among (p ∷ ps) key fit some = elim (cases_Bool (is_same p.key key)) [
  | inl same ↦ subst IsName (same_is p.key key same) fit.0
  | inr other ↦ fits_among ps key fit.1 (ap (λ b. is_some (value_in ps key (cond b (Some p.value) None))) (sym other) ∙ some)
]

-- a value that comes is under a name
pub comes_named : (op : Op) (k : ValueKey) → HasNames op → is_some (value_after op k None) ≡ true → IsValueKey k
comes_named (Remove o) k named some = absurd cc
comes_named (SetAttr o name value) (attribute n) named some = elim (cases_Bool (is_same name n)) [
  | inl same ↦ subst IsName (same_is name n same) named
  | inr other ↦ absurd (let t = sym (ap (λ b. is_some (cond b (Some value) None)) other) ∙ some in cc)
]
comes_named (RmAttr o name) (attribute n) named some = absurd (let t = sym (ap is_some (none_either (is_same name n) None refl)) ∙ some in cc)
comes_named (RmAttrs o) (attribute n) named some = absurd cc
comes_named (OmapSet o pairs) (pair key) named some = fits_among pairs key named some
comes_named (OmapRm o keys) (pair key) named some = absurd (let t = sym (ap is_some (none_either (is_among keys key) None refl)) ∙ some in cc)
comes_named (OmapRmRange o first last) (pair key) named some = absurd (let t = sym (ap is_some (none_either (in_range first last key) None refl)) ∙ some in cc)
comes_named (OmapClear o) (pair key) named some = absurd cc
comes_named op header named some = tt
comes_named op k named some = absurd cc
