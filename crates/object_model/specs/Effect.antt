-- What an operation does to the collection of its transaction, and what a transaction does to the objects.
use Rattle.std.specs.Prelude.{◌≡◌, ℕ, ◌+◌, ◌-◌, ◌==◌, nat_lt, Bool, false, not, ◌||◌, List, [], ◌∷◌, ◌++◌, length, take, drop, replicate, filter, Option, Some, None, unwrap_or, option_and_then, Result, Ok, Err, if◌then◌else◌}
use Rattle.std.specs.List.{list_any, AllByRecursion}
use Rattle.std.specs.Option.{option_map_or}
use Rattle.std.specs.Ordering.{eq_by_cmp}
use Rattle.std.specs.FinMap as finite
use Rattle.byte_maps.specs.ByteMap.{byte_order, ByteMap, in_range}
use Rattle.object_model.specs.declared.op.Op.{Op}
use Rattle.object_model.specs.declared.op.Op.TheVariants.{MkColl, RmColl, Touch, Write, Zero, Truncate, Remove, SetAttr, RmAttr, RmAttrs, Clone, CloneRange, OmapSet, OmapRm, OmapRmRange, OmapClear, OmapHeader}
use Rattle.object_model.specs.declared.op.Pair.{Pair}
use Rattle.object_model.specs.declared.op.Refusal.{Refusal}
use Rattle.object_model.specs.declared.op.Refusal.TheVariants.{NoCollection, CollectionExists, NotEmpty, NoObject, SameObject, BadRange, TooBig}
use Rattle.object_model.specs.Objects.{Object, Collection, Objects, empty_object}

-- the most bytes of an object
abbrev pub object_limit : ℕ
object_limit = 134217728

-- the most bytes of an attribute value, an omap value or a header
abbrev pub value_limit : ℕ
value_limit = 65535

-- bytes cut at a size, or filled up to it with zeros
abbrev pub resized : List ℕ → ℕ → List ℕ
resized bytes size = take size bytes ++ replicate (size - length bytes) 0

-- Bytes with a piece laid over them: zeros between where it begins past their end. Nothing changes where the piece is empty.
abbrev pub overwritten : List ℕ → ℕ → List ℕ → List ℕ
overwritten bytes off piece = if length piece == 0 then bytes else resized bytes off ++ piece ++ drop (off + length piece) bytes

-- the pairs set one after the other: a later one of equal key wins
abbrev pub with_pairs : ByteMap (List ℕ) → List Pair → ByteMap (List ℕ)
with_pairs m [] = m
with_pairs m (p ∷ ps) = with_pairs (finite.insert m p.key p.value) ps

-- the map without these keys
abbrev pub without_keys : ByteMap (List ℕ) → List (List ℕ) → ByteMap (List ℕ)
without_keys m [] = m
without_keys m (k ∷ ks) = without_keys (finite.remove m k) ks

-- the map without the keys from the first on and below the last, in byte order
abbrev pub without_range : ByteMap (List ℕ) → List ℕ → List ℕ → ByteMap (List ℕ)
without_range m first last = finite.retain_keys m (λ k. not (in_range first last k))

-- whether some value is too long
abbrev pub any_value_long : List Pair → Bool
any_value_long pairs = list_any (λ p. nat_lt value_limit (length p.value)) pairs

-- What stands under the name of the transaction's collection after an operation, or why it is refused.
abbrev pub Outcome : Type 0
Outcome = Result (Option Collection) Refusal

-- the collection stands, with these objects
abbrev pub stands : Collection → Outcome
stands c = Ok (Some c)

-- the test refuses where it holds, before what comes after it
abbrev pub unless : Bool → Refusal → Outcome → Outcome
unless test refusal after = if test then Err refusal else after

-- the object is made where it is missing, and changed
abbrev pub making : Collection → List ℕ → (Object → Object) → Outcome
making c o change = stands (finite.insert c o (change (unwrap_or (finite.get c o) empty_object)))

-- the object is changed where it is there, and a missing one stays missing
abbrev pub sparing : Collection → List ℕ → (Object → Object) → Outcome
sparing c o change = option_map_or (λ b. stands (finite.insert c o (change b))) (finite.get c o) (stands c)

-- what is done with the object, which is refused where it is missing
abbrev pub finding : Collection → List ℕ → (Object → Outcome) → Outcome
finding c o after = option_map_or after (finite.get c o) (Err NoObject)

-- the object is changed, which is refused where it is missing
abbrev pub changing : Collection → List ℕ → (Object → Object) → Outcome
changing c o change = finding c o (λ b. stands (finite.insert c o (change b)))

-- whether two names are the same
abbrev pub is_same : List ℕ → List ℕ → Bool
is_same = eq_by_cmp byte_order

-- the table of the operations: what each makes of a collection that is there, its refusals in the order in which they are tried
abbrev pub effect_on : Op → Collection → Outcome
effect_on MkColl c = Err CollectionExists
effect_on RmColl c = unless (not (finite.len c == 0)) NotEmpty (Ok None)
effect_on (Touch o) c = making c o (λ b. b)
effect_on (Write o off bytes) c = unless (nat_lt object_limit (off + length bytes)) TooBig
    (making c o (λ b. record b { bytes = overwritten b.bytes off bytes }))
effect_on (Zero o off len) c = unless (nat_lt object_limit (off + len)) TooBig
    (making c o (λ b. record b { bytes = overwritten b.bytes off (replicate len 0) }))
effect_on (Truncate o size) c = unless (nat_lt object_limit size) TooBig
    (sparing c o (λ b. record b { bytes = resized b.bytes size }))
effect_on (Remove o) c = stands (finite.remove c o)
effect_on (SetAttr o name value) c = unless (nat_lt value_limit (length value)) TooBig
    (changing c o (λ b. record b { attrs = finite.insert b.attrs name value }))
effect_on (RmAttr o name) c = changing c o (λ b. record b { attrs = finite.remove b.attrs name })
effect_on (RmAttrs o) c = sparing c o (λ b. record b { attrs = finite.empty })
effect_on (Clone o to) c = unless (is_same o to) SameObject
    (finding c o (λ b. stands (finite.insert c to b)))
effect_on (CloneRange o to src len dst) c = unless (is_same o to) SameObject
    (finding c o (λ b. unless (nat_lt (length b.bytes) (src + len)) BadRange
    (unless (nat_lt object_limit (dst + len)) TooBig
    (making c to (λ t. record t { bytes = overwritten t.bytes dst (take len (drop src b.bytes)) })))))
effect_on (OmapSet o pairs) c = unless (any_value_long pairs) TooBig
    (changing c o (λ b. record b { omap = with_pairs b.omap pairs }))
effect_on (OmapRm o keys) c = changing c o (λ b. record b { omap = without_keys b.omap keys })
effect_on (OmapRmRange o first last) c = changing c o (λ b. record b { omap = without_range b.omap first last })
effect_on (OmapClear o) c = sparing c o (λ b. record b { header = []; omap = finite.empty })
effect_on (OmapHeader o value) c = unless (nat_lt value_limit (length value)) TooBig
    (changing c o (λ b. record b { header = value }))

-- The effect of an operation: all but mkcoll are refused where the collection is missing.
abbrev pub effect : Op → Option Collection → Outcome
effect op (Some c) = effect_on op c
effect MkColl None = stands finite.empty
effect op None = Err NoCollection

-- The first refusal is that of all.
infixl 10 ◌>>=◌
abbrev pub ◌>>=◌ : {A B : Type 0} → Result A Refusal → (A → Result B Refusal) → Result B Refusal
(Ok x) >>= f = f x
(Err e) >>= f = Err e

-- the effects of operations, one after the other
abbrev pub effects : List Op → Option Collection → Outcome
effects [] c = Ok c
effects (op ∷ ops) c = effect op c >>= effects ops

-- the objects with this under the name of a collection, and all others as before
abbrev pub with_collection : Objects → List ℕ → Option Collection → Objects
with_collection objects name None = finite.remove objects name
with_collection objects name (Some c) = finite.insert objects name c

-- a transaction: the name of its collection, and its operations in order
pub record Change : Type 0 where
  pub coll : List ℕ
  pub ops : List Op

-- the names of the collections that a transaction changes
abbrev pub names_of : Change → List (List ℕ)
names_of change = change.coll ∷ []

-- whether the collection is among these
abbrev pub is_named : List ℕ → List (List ℕ) → Bool
is_named coll [] = false
is_named coll (name ∷ names) = is_named coll names || is_same coll name

-- whether some of the others is among the names
abbrev pub any_named : List (List ℕ) → List (List ℕ) → Bool
any_named names [] = false
any_named names (other ∷ others) = any_named names others || is_named other names

-- the transactions that change a collection, in order
abbrev pub changes_on : List ℕ → List Change → List Change
changes_on coll changes = filter (λ change. is_named coll (names_of change)) changes

-- there is one name
abbrev pub OneName : List (List ℕ) → Type 0
OneName names = length names ≡ 1

-- each of these transactions has one name
abbrev pub HaveOneName : List Change → Type 0
HaveOneName changes = AllByRecursion (λ change. OneName (names_of change)) changes

-- What a transaction makes of the objects, or why it is refused.
abbrev pub transaction_effect : Change → Objects → Result Objects Refusal
transaction_effect change objects = do
  c ← effects change.ops (finite.get objects change.coll)
  Ok (with_collection objects change.coll c)

-- the objects after, or those before where there was a refusal
abbrev pub ok_or : Result Objects Refusal → Objects → Objects
ok_or (Ok after) before = after
ok_or (Err refusal) before = before

-- The objects after transactions, one after the other: a refused one changes nothing.
abbrev pub replay : Objects → List Change → Objects
replay objects [] = objects
replay objects (change ∷ changes) = replay (ok_or (transaction_effect change objects) objects) changes

-- what stands under two names
abbrev pub object_under : Objects → List ℕ → List ℕ → Option Object
object_under objects coll name = option_and_then (λ c. finite.get c name) (finite.get objects coll)
