-- Operations on a collection, as its draft has them and as plain objects do.
use Rattle.std.proofs.Common.{◌≡◌, ◌≢◌, inl, inr, ℕ, zero, suc, ◌≤◌, true, false, not, List, [], ◌∷◌, length, Option, Some, None, is_some, Ok, Err, unwrap_or, option_and_then, refl, sym, ap, subst, ◌∙◌, arith}
use Rattle.std.specs.Prelude.{◌==◌, IsSome}
use Rattle.std.specs.Option.{option_map}
use Rattle.std.specs.FinMap as map
use Rattle.std.proofs.lemmas.Bool.Decides.{nat_tests}
use Rattle.byte_maps.specs.ByteMap.{byte_order}
use Rattle.byte_maps.proofs.Prelude.{same}
use Rattle.object_model.specs.declared.op.Op.{Op}
use Rattle.object_model.specs.declared.op.Op.TheVariants.{MkColl, RmColl, Remove, OmapClear, OmapHeader}
use Rattle.object_model.specs.declared.op.Refusal.{Refusal}
use Rattle.object_model.specs.declared.op.Refusal.TheVariants.{NoCollection, NotEmpty}
use Rattle.object_model.specs.Prelude.{Object, Collection, Objects, Change, empty_object, object_limit, unless, effect, effect_on, effects, transaction_effect, with_collection, ◌>>=◌}
use Rattle.unit_fields.specs.Prelude.{IsName}
use Rattle.store_image.proofs.Prelude.{equal_or_not}
use Rattle.plan_drafts.specs.declared.draft.Draft.{Draft}
use Rattle.plan_drafts.specs.Prelude.{edit_of, bytes_after, IsInLimits, Layout, ValueKey, attribute, header, pair, IsValueKey, not_empty, value_after, IsOnObject, object_of, needs_object, or_new, draft_after, CollDraft, with_op, with_ops, IsTakenOn, IsTaken, AreTaken, IsRefused, exists, absent, occupied, beyond, lost, AreRefused, here, later, values_on}
use Rattle.plan_proofs.proofs.Effects.{bytes_of, with_bytes, bytes_on, valued_on, object_on, put, put_here, put_apart, effect_is, beyond_effect, lost_effect}
use Rattle.plan_proofs.proofs.Reached.{on_object_or, within, no_name, SameSize, what_becomes, EditLaws, IsReached, layout_cases, value_cases, x_reached, reached_after}
use Rattle.plan_proofs.proofs.Values.{with_values, attrs_are, omap_is}
use Rattle.plan_proofs.proofs.ValuesWritten.{stood_or_written, comes_named}

-- the object of a name, where the collection is there
abbrev pub object_in : Option Collection → List ℕ → Option Object
object_in k o = option_and_then (λ (found : Collection). map.get found o) k

-- an object's value under a key
abbrev pub value_of : Object → ValueKey → Option (List ℕ)
value_of b (attribute name) = map.get b.attrs name
value_of b header = not_empty b.header
value_of b (pair key) = map.get b.omap key

-- Plain objects are as the draft has the collection: it is there, its objects are there and as long, they have names, and their values are the same,
-- under names.
pub record Matches (d : CollDraft) (k : Option Collection) : Type 0 where
  pub there : d.there ≡ is_some k
  pub sizes : (o : List ℕ) → IsName o → SameSize (d.layout o) (object_in k o)
  pub named : (o : List ℕ) → is_some (object_in k o) ≡ true → IsName o
  pub values : (o : List ℕ) (b : Object) (v : ValueKey) → object_in k o ≡ Some b → IsValueKey v → d.value o v ≡ value_of b v
  pub keys : (o : List ℕ) (b : Object) (v : ValueKey) → object_in k o ≡ Some b → is_some (value_of b v) ≡ true → IsValueKey v

-- ---- values

-- the values of an object after an operation
valued_is : (op : Op) (b : Object) (v : ValueKey) → value_of (with_values op b) v ≡ value_after op v (value_of b v)
valued_is op b (attribute n) = attrs_are op b.attrs n
valued_is op b (pair q) = omap_is op b.omap q
valued_is (Remove o) b header = refl
valued_is (OmapClear o) b header = refl
valued_is (OmapHeader o value) b header = refl
valued_is op b header = refl

-- other bytes leave them
bytes_leave : (x : Option Object) (bytes : List ℕ) (v : ValueKey) → value_of (with_bytes x bytes) v ≡ value_of (unwrap_or x empty_object) v
bytes_leave x bytes (attribute n) = refl
bytes_leave x bytes header = refl
bytes_leave x bytes (pair q) = refl

empty_value : (v : ValueKey) → value_of empty_object v ≡ None
empty_value (attribute n) = map.get-empty byte_order n
empty_value header = refl
empty_value (pair q) = map.get-empty byte_order q

-- ---- one operation

-- what is known of the lengths of bytes after an operation
abbrev pub LengthLaw : Type 0
LengthLaw = (op : Op) (old : List ℕ) → IsInLimits op → length old ≤ object_limit → length (bytes_after op old) ≡ (edit_of op (length old)).size

module _ (laws : EditLaws) (lengths : LengthLaw) (layouts : List ℕ → Option Layout) (op : Op) (d : CollDraft) (taken : IsTaken d op)
    (r : IsReached layouts d) where
  abbrev o : List ℕ
  o = object_of op

  abbrev after : CollDraft
  after = with_op op d

  -- What the operation makes of the collection that the draft is of: its draft after is of that one. The object of an operation on one becomes what
  -- it is to be, and each other one is as it was.
  pub record Leads (k : Option Collection) : Type 0 where
    pub then : Option Collection
    pub effect_is : effect op k ≡ Ok then
    pub matches : Matches after then
    pub own : IsOnObject op → object_in then o ≡ object_on op (object_in k o)
    pub others : (u : List ℕ) → u ≢ o → object_in then u ≡ object_in k u

  -- ---- on an object

  module _ (coll : Collection) (m : Matches d (Some coll)) (on : IsOnObject op) (is : IsTakenOn d op) where
    abbrev x : Option Object
    x = map.get coll o

    abbrev new : Option Object
    new = object_on op x

    sized : SameSize (d.layout o) x
    sized = m.sizes o is.named

    both_there : (a : Option Draft) (b : Option Object) → SameSize a b → is_some a ≡ is_some b
    both_there None None e = refl
    both_there None (Some b) e = absurd cc
    both_there (Some a) None e = absurd cc
    both_there (Some a) (Some b) e = refl

    found : needs_object op ≡ true → IsSome x
    found needs = sym (both_there (d.layout o) x sized) ∙ is.found needs

    effect_here : effect op (Some coll) ≡ Ok (Some (put coll o new))
    effect_here = by op on ∙ effect_is coll op on is.within found
      where
        by : (op : Op) → IsOnObject op → effect op (Some coll) ≡ effect_on op coll
        by op on = refl

    -- the size of the new object
    was_long : (a : Option Draft) (b : Option Object) → SameSize a b → (or_new a).size ≡ length (bytes_of b)
    was_long None None e = refl
    was_long None (Some b) e = absurd cc
    was_long (Some a) None e = absurd cc
    was_long (Some a) (Some b) e = cc

    short : length (bytes_of x) ≤ object_limit
    short = omega (arith, was_long (d.layout o) x sized, (x_reached laws layouts op d taken r is.named).most)

    fits : IsInLimits op
    fits = within op is.within

    -- values leave the bytes
    valued_bytes : (b : Option Object) → SameSize (d.layout o) b → SameSize (d.layout o) (valued_on op b)
    valued_bytes None e = e
    valued_bytes (Some b) e = e

    bytes_same : (b : Option Object) → bytes_of (valued_on op b) ≡ bytes_of b
    bytes_same None = refl
    bytes_same (Some b) = refl

    map_bytes : (b : Option Object) → option_map (λ (z : Object). length z.bytes) (option_map (with_bytes (valued_on op b)) (option_map (λ z. z.bytes) (valued_on op b)))
        ≡ option_map (λ (z : Object). length z.bytes) b
    map_bytes None = refl
    map_bytes (Some b) = refl

    size_new : SameSize (draft_after op d) new
    size_new = elim (what_becomes op d) [
      | inl goes ↦ ap (option_map (λ (l : Draft). l.size)) (goes.made)
          ∙ sym (ap (λ b. option_map (λ (z : Object). length z.bytes) (option_map (with_bytes (valued_on op x)) b)) (goes.bytes (valued_on op x) (valued_bytes x sized)))
      | inr other ↦ elim other [
        | inl keeps ↦ ap (option_map (λ (l : Draft). l.size)) (keeps.made) ∙ sized ∙ sym (map_bytes x)
            ∙ sym (ap (λ b. option_map (λ (z : Object). length z.bytes) (option_map (with_bytes (valued_on op x)) b)) (keeps.bytes (valued_on op x) (valued_bytes x sized)))
        | inr edits ↦ ap (option_map (λ (l : Draft). l.size)) (edits.made)
            ∙ ap Some (ap (λ n. (edit_of op n).size) (was_long (d.layout o) x sized) ∙ sym (lengths op (bytes_of x) fits short)
            ∙ ap (λ b. length (bytes_after op b)) (sym (bytes_same x)))
            ∙ sym (ap (λ b. option_map (λ (z : Object). length z.bytes) (option_map (with_bytes (valued_on op x)) b)) (edits.bytes (valued_on op x) (valued_bytes x sized)))
      ]
    ]

    -- its values
    value_new : (b : Object) (v : ValueKey) → new ≡ Some b → value_of b v ≡ value_of (unwrap_or (valued_on op x) empty_object) v
    value_new b v p = by (bytes_on op (valued_on op x)) p
      where
        by : (c : Option (List ℕ)) → option_map (with_bytes (valued_on op x)) c ≡ Some b → value_of b v ≡ value_of (unwrap_or (valued_on op x) empty_object) v
        by None p = absurd cc
        by (Some bytes) p =
            let e : with_bytes (valued_on op x) bytes ≡ b = cc in
            sym (ap (λ z. value_of z v) e) ∙ bytes_leave (valued_on op x) bytes v

    -- a missing object has no value after the operation
    missing_value : map.get coll o ≡ None → (v : ValueKey) → IsValueKey v → values_on op d v ≡ None
    missing_value none v named = elim (values_on op d v) as (λ z. values_on op d v ≡ z → z ≡ None) [
      | None ↦ λ p. refl
      | Some value ↦ λ p. absurd (elim (stood_or_written op v (d.value o v) value is.within p) [
        | inl stood ↦ gone ((r.values o v value is.named named stood).1)
        | inr new ↦ gone (is.found new.1)
      ])
    ] refl
      where
        gone : is_some (d.layout o) ≡ true → ⊥
        gone some = let t = sym some ∙ both_there (d.layout o) x sized ∙ ap is_some none in cc

    values_new : (b : Object) (v : ValueKey) → new ≡ Some b → IsValueKey v → values_on op d v ≡ value_of b v
    values_new b v p named = elim x as (λ z. x ≡ z → values_on op d v ≡ value_of (unwrap_or (valued_on op z) empty_object) v) [
      | None ↦ λ none. missing_value none v named ∙ sym (empty_value v)
      | Some w ↦ λ some. ap (value_after op v) (m.values o w v some named) ∙ sym (valued_is op w v)
    ] refl ∙ sym (value_new b v p)

    some_after : (v : ValueKey) (old : Option (List ℕ)) → is_some (value_after op v old) ≡ true → (is_some old ≡ true → IsValueKey v) → IsValueKey v
    some_after v None some was = comes_named op v is.names some
    some_after v (Some value) some was = was refl

    keys_new : (b : Object) (v : ValueKey) → new ≡ Some b → is_some (value_of b v) ≡ true → IsValueKey v
    keys_new b v p some = elim x as (λ z. x ≡ z → is_some (value_of (unwrap_or (valued_on op z) empty_object) v) ≡ true → IsValueKey v) [
      | None ↦ λ none t. absurd (let e = sym (ap is_some (empty_value v)) ∙ t in cc)
      | Some w ↦ λ there t. some_after v (value_of w v) (sym (ap is_some (valued_is op w v)) ∙ t) (m.keys o w v there)
    ] refl (sym (ap is_some (value_new b v p)) ∙ some)

    on_object : Leads (Some coll)
    on_object = record {
      then = Some (put coll o new);
      effect_is = effect_here;
      own = λ on. put_here coll o new;
      others = put_apart coll o new;
      matches = record {
        there = there_still op on ∙ is.there;
        sizes = sizes_then;
        named = λ u some. elim (equal_or_not u o) [
          | inl e ↦ subst IsName (sym e) is.named
          | inr apart ↦ m.named u (sym (ap is_some (put_apart coll o new u apart)) ∙ some)
        ];
        values = values_then;
        keys = λ u b v p some. elim (equal_or_not u o) [
          | inl e ↦ keys_new b v (sym (put_here coll o new) ∙ sym (ap (map.get (put coll o new)) e) ∙ p) some
          | inr apart ↦ m.keys u b v (sym (put_apart coll o new u apart) ∙ p) some
        ];
      };
    }
      where
        there_still : (op : Op) → IsOnObject op → (with_op op d).there ≡ d.there
        there_still MkColl on = absurd on
        there_still RmColl on = absurd on
        there_still op on = refl

        sizes_then : (u : List ℕ) → IsName u → SameSize (after.layout u) (map.get (put coll o new) u)
        sizes_then u name = elim (layout_cases laws layouts op d taken r u) [
          | inl own ↦ ap (option_map (λ (l : Draft). l.size)) own.1 ∙ size_new
              ∙ sym (ap (option_map (λ (b : Object). length b.bytes)) (ap (map.get (put coll o new)) own.0 ∙ put_here coll o new))
          | inr other ↦ ap (option_map (λ (l : Draft). l.size)) other.1 ∙ m.sizes u name
              ∙ sym (ap (option_map (λ (b : Object). length b.bytes)) (put_apart coll o new u other.0))
        ]

        values_then : (u : List ℕ) (b : Object) (v : ValueKey) → map.get (put coll o new) u ≡ Some b → IsValueKey v → after.value u v ≡ value_of b v
        values_then u b v p named = elim (value_cases laws layouts op d taken r u v) [
          | inl own ↦ own.1 ∙ values_new b v (sym (put_here coll o new) ∙ sym (ap (map.get (put coll o new)) own.0) ∙ p) named
          | inr other ↦ other.1 ∙ m.values u b v (sym (put_apart coll o new u other.0) ∙ p) named
        ]

  -- ---- on the collection

  none_in : (u : List ℕ) → object_in (Some map.empty) u ≡ None
  none_in u = map.get-empty byte_order u

  apart_from : (u : List ℕ) → IsName u → object_of op ≡ [] → u ≢ o
  apart_from u name none e = no_name (subst IsName (e ∙ none) name)

  same_layout : (u : List ℕ) → IsName u → object_of op ≡ [] → after.layout u ≡ d.layout u
  same_layout u name none = elim (layout_cases laws layouts op d taken r u) [
    | inl own ↦ absurd (apart_from u name none own.0)
    | inr other ↦ other.1
  ]

  -- where it is made, there is no object
  made : op ≡ MkColl → (k : Option Collection) → Matches d k → Leads k
  made is k m = by k m (subst (IsTaken d) is taken)
    where
      none_there : (u : List ℕ) → IsName u → d.there ≡ false → d.layout u ≡ None
      none_there u name not_there = elim (d.layout u) as (λ z. d.layout u ≡ z → z ≡ None) [
        | None ↦ λ p. refl
        | Some z ↦ λ p. absurd (let t = sym not_there ∙ r.in_coll u name (ap is_some p) in cc)
      ] refl

      by : (k : Option Collection) → Matches d k → d.there ≡ false → Leads k
      by (Some coll) m not_there = absurd (let t = sym not_there ∙ m.there in cc)
      by None m not_there = record {
        then = Some map.empty;
        effect_is = ap (λ p. effect p None) is;
        own = λ on. absurd (subst IsOnObject is on);
        others = λ u apart. none_in u;
        matches = record {
          there = ap (λ p. (with_op p d).there) is;
          sizes = λ u name. ap (option_map (λ (l : Draft). l.size)) (same_layout u name (ap object_of is) ∙ none_there u name not_there)
              ∙ sym (ap (option_map (λ (b : Object). length b.bytes)) (none_in u));
          named = λ u some. absurd (let t = sym (ap is_some (none_in u)) ∙ some in cc);
          values = λ u b v p named. absurd (let t = sym (none_in u) ∙ p in cc);
          keys = λ u b v p some. absurd (let t = sym (none_in u) ∙ p in cc);
        };
      }

  -- where it goes, too
  gone : op ≡ RmColl → (k : Option Collection) → Matches d k → Leads k
  gone is k m = by k m (subst (IsTaken d) is taken)
    where
      nobody : (coll : Collection) → Matches d (Some coll) → ((u : List ℕ) → IsName u → d.layout u ≡ None) → (u : List ℕ) → map.get coll u ≡ None
      nobody coll m bare u = elim (map.get coll u) as (λ z. map.get coll u ≡ z → z ≡ None) [
        | None ↦ λ p. refl
        | Some b ↦ λ p. absurd
            (let name = m.named u (ap is_some p) in
            let t = sym (ap (option_map (λ (l : Draft). l.size)) (bare u name)) ∙ m.sizes u name ∙ ap (option_map (λ (b : Object). length b.bytes)) p in cc)
      ] refl

      none_long : (coll : Collection) → ((u : List ℕ) → map.get coll u ≡ None) → (map.len coll == 0) ≡ true
      none_long coll none = ap (λ (m : Collection). map.len m == 0) (same coll map.empty (λ u. none u ∙ sym (map.get-empty byte_order u)))
          ∙ ap (λ n. n == 0) (map.len-empty byte_order Object)

      by : (k : Option Collection) → Matches d k → (d.there ≡ true) × ((u : List ℕ) → IsName u → d.layout u ≡ None) → Leads k
      by None m t = absurd (let e = sym t.0 ∙ m.there in cc)
      by (Some coll) m t = record {
        then = None;
        effect_is = ap (λ p. effect p (Some coll)) is ∙ ap (λ b. unless (not b) NotEmpty (Ok None)) (none_long coll (nobody coll m t.1));
        own = λ on. absurd (subst IsOnObject is on);
        others = λ u apart. sym (nobody coll m t.1 u);
        matches = record {
          there = ap (λ p. (with_op p d).there) is;
          sizes = λ u name. ap (option_map (λ (l : Draft). l.size)) (same_layout u name (ap object_of is) ∙ t.1 u name);
          named = λ u some. absurd cc;
          values = λ u b v p named. absurd cc;
          keys = λ u b v p some. absurd cc;
        };
      }

  pub leads : (k : Option Collection) → Matches d k → Leads k
  leads k m = elim (on_object_or op d taken) [
    | inl on ↦ by k m on.0 on.1
    | inr coll ↦ elim coll [ inl is ↦ made is k m | inr is ↦ gone is k m ]
  ]
    where
      by : (k : Option Collection) → Matches d k → IsOnObject op → IsTakenOn d op → Leads k
      by None m on is = absurd (let t = sym is.there ∙ m.there in cc)
      by (Some coll) m on is = on_object coll m on is

-- ---- refusals

module _ (op : Op) (d : CollDraft) (k : Option Collection) (m : Matches d k) where
  -- without a collection all but its making is refused
  absent_effect : (op : Op) → ¬ (op ≡ MkColl) → effect op None ≡ Err NoCollection
  absent_effect MkColl other = absurd (other refl)
  absent_effect op other = refl

  here_effect : (op : Op) → IsOnObject op → (coll : Collection) → effect op (Some coll) ≡ effect_on op coll
  here_effect op on coll = refl

  some_long : (coll : Collection) (u : List ℕ) (b : Object) → map.get coll u ≡ Some b → (map.len coll == 0) ≡ false
  some_long coll u b is = elim (map.len coll) as (λ n. map.len coll ≡ n → (n == 0) ≡ false) [
    | zero ↦ λ p. absurd (let t = sym is ∙ ap (λ (m : Collection). map.get m u) (map.empty_of_len coll p) ∙ map.get-empty byte_order u in cc)
    | suc n ↦ λ p. grind (arith, nat_tests)
  ] refl

  object_there : (coll : Collection) (u : List ℕ) → k ≡ Some coll → IsName u → is_some (d.layout u) ≡ true → (b : Object) × (map.get coll u ≡ Some b)
  object_there coll u is name some = by (d.layout u) (map.get coll u) (m.sizes u name ∙ ap (λ l. option_map (λ (b : Object). length b.bytes) (object_in l u)) is) some
    where
      by : (a : Option Draft) (b : Option Object) → SameSize a b → is_some a ≡ true → (z : Object) × (b ≡ Some z)
      by None b e some = absurd cc
      by (Some a) None e some = absurd cc
      by (Some a) (Some b) e some = (b, refl)

  no_object : (coll : Collection) (u : List ℕ) → k ≡ Some coll → d.layout u ≡ None → map.get coll u ≡ None
  no_object coll u is none = elim (map.get coll u) as (λ z. map.get coll u ≡ z → z ≡ None) [
    | None ↦ λ p. refl
    | Some b ↦ λ p. absurd
        (let there : object_in k u ≡ Some b = ap (λ l. object_in l u) is ∙ p in
        let t = sym (ap (option_map (λ (l : Draft). l.size)) none) ∙ m.sizes u (m.named u (ap is_some there)) ∙ ap (option_map (λ (b : Object). length b.bytes)) there in cc)
  ] refl

  there_is : d.there ≡ true → (coll : Collection) × (k ≡ Some coll)
  there_is there = by k (sym there ∙ m.there)
    where
      by : (l : Option Collection) → true ≡ is_some l → (coll : Collection) × (l ≡ Some coll)
      by None e = absurd cc
      by (Some coll) e = (coll, refl)

  none_is : d.there ≡ false → k ≡ None
  none_is there = by k (sym there ∙ m.there)
    where
      by : (l : Option Collection) → false ≡ is_some l → l ≡ None
      by None e = refl
      by (Some coll) e = absurd cc

  pub refused : (refusal : Refusal) → IsRefused d op refusal → effect op k ≡ Err refusal
  refused refusal (exists is there) = let found = there_is there in ap (λ p. effect p k) is ∙ ap (effect MkColl) found.1
  refused refusal (absent other there) = ap (effect op) (none_is there) ∙ absent_effect op other
  refused refusal (occupied is there has) =
      let found = there_is there in
      let object = object_there found.0 has.object found.1 has.named has.there in
      ap (λ p. effect p k) is ∙ ap (effect RmColl) found.1
      ∙ ap (λ b. unless (not b) NotEmpty (Ok None)) (some_long found.0 has.object object.0 object.1)
  refused refusal (beyond on there over) =
      let found = there_is there in ap (effect op) found.1 ∙ here_effect op on found.0 ∙ beyond_effect found.0 op over
  refused refusal (lost on there fits needs none) =
      let found = there_is there in
      ap (effect op) found.1 ∙ here_effect op on found.0 ∙ lost_effect found.0 op fits needs (no_object found.0 (object_of op) found.1 none)

-- ---- operations

pub record AllLead (ops : List Op) (d : CollDraft) (k : Option Collection) : Type 0 where
  pub then : Option Collection
  pub effect_is : effects ops k ≡ Ok then
  pub matches : Matches (with_ops ops d) then

pub all_lead : (laws : EditLaws) (lengths : LengthLaw) (layouts : List ℕ → Option Layout) (ops : List Op) (d : CollDraft) (k : Option Collection)
    → AreTaken ops d → IsReached layouts d → Matches d k → AllLead ops d k
all_lead laws lengths layouts [] d k taken r m = record { then = k; effect_is = refl; matches = m }
all_lead laws lengths layouts (op ∷ ops) d k taken r m =
    let one = leads laws lengths layouts op d taken.0 r k m in
    let rest = all_lead laws lengths layouts ops (with_op op d) one.then taken.1 (reached_after laws layouts op d taken.0 r) one.matches in
    record { then = rest.then; effect_is = ap (λ z. z >>= effects ops) one.effect_is ∙ rest.effect_is; matches = rest.matches }

pub all_refused : (laws : EditLaws) (lengths : LengthLaw) (layouts : List ℕ → Option Layout) (ops : List Op) (d : CollDraft) (k : Option Collection)
    (refusal : Refusal) → AreRefused ops d refusal → IsReached layouts d → Matches d k → effects ops k ≡ Err refusal
all_refused laws lengths layouts _ _ k _ (here op ops d refusal is) r m = ap (λ z. z >>= effects ops) (refused op d k m refusal is)
all_refused laws lengths layouts _ _ k _ (later op ops d refusal taken is) r m =
    let one = leads laws lengths layouts op d taken r k m in
    ap (λ z. z >>= effects ops) one.effect_is
    ∙ all_refused laws lengths layouts ops (with_op op d) one.then refusal is (reached_after laws layouts op d taken r) one.matches

-- ---- a transaction

module _ (change : Change) (objects : Objects) where
  pub transaction_lead : (l : Option Collection) → effects change.ops (map.get objects change.coll) ≡ Ok l
      → transaction_effect change objects ≡ Ok (with_collection objects change.coll l)
  transaction_lead l is = ap (λ z. z >>= λ c. Ok (with_collection objects change.coll c)) is

  pub transaction_refused : (refusal : Refusal) → effects change.ops (map.get objects change.coll) ≡ Err refusal
      → transaction_effect change objects ≡ Err refusal
  transaction_refused refusal is = ap (λ z. z >>= λ c. Ok (with_collection objects change.coll c)) is
