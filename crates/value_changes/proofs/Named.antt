-- The operations that name a value, or some, make of the values what is to be made of them.
use Rattle.std.proofs.Common.{◌≡◌, ◌⊎◌, inl, inr, ℕ, Bool, true, false, cond, List, [], ◌∷◌, Option, Some, None, is_some, Result, Ok, Err, OnOk, refl, sym, ap, subst, ◌∙◌}
use Rattle.std.specs.Prelude.{unwrap_or, ◌||◌}
use Rattle.std.specs.List.{AllByRecursion}
use Rattle.std.specs.FinMap as finite
use Rattle.unit_fields.specs.Prelude.{IsName, IsCollName}
use Rattle.object_model.specs.declared.op.Op.{Op}
use Rattle.object_model.specs.declared.op.Op.TheVariants.{SetAttr, RmAttr, OmapSet, OmapRm, OmapHeader}
use Rattle.object_model.specs.declared.op.Pair.{Pair}
use Rattle.object_model.specs.Prelude.{is_same}
use Rattle.meta_rows.specs.Prelude.{Rows}
use Rattle.row_format.specs.Prelude.{object_key, attr_key, header_key, omap_key}
use Rattle.row_format.proofs.Prelude.{same_head, same_place}
use Rattle.plan_rows.specs.Prelude.{ValueKey, attribute, header, pair, value_key, IsValueKey, IsKeyOfValue, value_in, is_among, not_empty, value_after}
use Rattle.row_changes.specs.Prelude.{ChangeMap, value_seen}
use Rattle.row_changes.proofs.Keys.{same_or_not}
use Rattle.row_changes.proofs.Logs.{insert_get, seen_insert}
use Rattle.value_changes.specs.Changed.{AreNames, ChangesValues, with_pair, without_key}
use Rattle.value_changes.proofs.ValueKeys.{is_one, same_key}

-- what is known where there is no error
pub on_ok : {A E : Type 0} (r : Result A E) (P Q : Type 0) → (P → Q) → OnOk r P → OnOk r Q
on_ok (Ok a) P Q f p = f p
on_ok (Err e) P Q f p = tt

-- the kind of a value's key, and what stands behind the names
kind_of : ValueKey → ℕ
kind_of (attribute name) = 0x41
kind_of header = 0x4d
kind_of (pair key) = 0x4d

rest_of : ValueKey → List ℕ
rest_of (attribute name) = name
rest_of header = 0x2d ∷ []
rest_of (pair key) = 0x2e ∷ key

key_is : (c o : List ℕ) (k : ValueKey) → value_key c o k ≡ object_key (kind_of k) c o (rest_of k)
unfolding kind_of rest_of
key_is c o (attribute name) = refl
key_is c o header = refl
key_is c o (pair key) = refl

-- a key is of values of one object alone
pub same_object : (c o u : List ℕ) (j k : ValueKey) → IsCollName c → IsName o → IsName u → value_key c u j ≡ value_key c o k → u ≡ o
same_object c o u j k coll object other e =
    let at : object_key (kind_of j) c u (rest_of j) ≡ object_key (kind_of k) c o (rest_of k) = sym (key_is c u j) ∙ e ∙ key_is c o k in
    let kind : kind_of j ≡ kind_of k = same_head _ _ _ _ at in
    (same_place (kind_of k) c u c o (rest_of j) (rest_of k) coll other coll object (ap (λ n. object_key n c u (rest_of j)) (sym kind) ∙ at)).1

-- and a key of a value in the collection, which is of the object, is of a value of the object
pub key_of_object : (c o u key : List ℕ) (kind : ℕ) (rest : List ℕ) → IsCollName c → IsName o → IsName u → IsKeyOfValue c u key
    → key ≡ object_key kind c o rest → IsKeyOfValue c o key
key_of_object c o u key kind rest coll object other of is =
    let at : object_key (kind_of of.of) c u (rest_of of.of) ≡ object_key kind c o rest = sym (key_is c u of.of) ∙ sym of.is ∙ is in
    let same_kind : kind_of of.of ≡ kind = same_head _ _ _ _ at in
    let one : u ≡ o = (same_place kind c u c o (rest_of of.of) rest coll other coll object (ap (λ n. object_key n c u (rest_of of.of)) (sym same_kind) ∙ at)).1 in
    subst (λ (x : List ℕ). IsKeyOfValue c x key) one of

abbrev pub Others : List ℕ → List ℕ → ChangeMap → ChangeMap → Type 0
Others c o old new = (key : List ℕ) → IsKeyOfValue c o key ⊎ (finite.get new key ≡ finite.get old key)

-- pairs of the omap are set, one after the other, or their keys go
abbrev pub with_pairs : List ℕ → List ℕ → List Pair → ChangeMap → ChangeMap
with_pairs c o [] m = m
with_pairs c o (p ∷ ps) m = with_pairs c o ps (with_pair c o p m)

abbrev pub without_keys : List ℕ → List ℕ → List (List ℕ) → ChangeMap → ChangeMap
without_keys c o [] m = m
without_keys c o (k ∷ ks) m = without_keys c o ks (without_key c o k m)

abbrev pub Own : Op → Rows → List ℕ → List ℕ → ChangeMap → ChangeMap → Type 0
Own op rows c o old new = (k : ValueKey) → IsValueKey k → value_seen rows new (value_key c o k) ≡ value_after op k (value_seen rows old (value_key c o k))

module _ (rows : Rows) (c o : List ℕ) (names : AreNames c o) where
  pub same_seen : (old new : ChangeMap) (key : List ℕ) → finite.get new key ≡ finite.get old key → value_seen rows new key ≡ value_seen rows old key
  same_seen old new key e = ap (λ (x : Option (Option (List ℕ))). unwrap_or x (finite.get rows key)) e

  pub changes_values : (op : Op) (old new : ChangeMap) → Own op rows c o old new → Others c o old new → ChangesValues op rows c o old new
  changes_values op old new own others = record {
    own = own;
    apart = λ u k other named not. elim (others (value_key c u k)) [
      | inl of ↦ absurd (not (same_object c o u k of.of names.0 names.1 other of.is))
      | inr same ↦ same_seen old new (value_key c u k) same
    ];
    others = others;
    still = λ of_values key changed. elim (others key) [
      | inl of ↦ (o, names.1, of)
      | inr same ↦ of_values key (sym (ap is_some same) ∙ changed)
    ];
  }

  -- an operation that changes no value
  pub none_changed : (op : Op) (m : ChangeMap) → ((k : ValueKey) (old : Option (List ℕ)) → value_after op k old ≡ old) → ChangesValues op rows c o m m
  none_changed op m same = changes_values op m m (λ k named. sym (same k (value_seen rows m (value_key c o k)))) (λ key. inr refl)

  -- ---- one value

  one_other : (own : ValueKey) (value : Option (List ℕ)) (m : ChangeMap) → IsValueKey own → Others c o m (finite.insert m (value_key c o own) value)
  one_other own value m named key = same_or_not (IsKeyOfValue c o key ⊎ (finite.get (finite.insert m (value_key c o own) value) key ≡ finite.get m key))
      (value_key c o own) key
      (λ one is. inl (record { of = own; named = named; is = sym one }))
      (λ apart not. inr (insert_get m (value_key c o own) value key ∙ ap (λ b. cond b (Some value) (finite.get m key)) not))

  one_seen : (own k : ValueKey) (value : Option (List ℕ)) (m : ChangeMap)
      → value_seen rows (finite.insert m (value_key c o own) value) (value_key c o k) ≡ cond (is_one own k) value (value_seen rows m (value_key c o k))
  one_seen own k value m = seen_insert rows m (value_key c o own) value (value_key c o k)
      ∙ ap (λ b. cond b value (value_seen rows m (value_key c o k))) (same_key c o own k)

  one_changed : (op : Op) (own : ValueKey) (value : Option (List ℕ)) (old new : ChangeMap) → IsValueKey own
      → ((k : ValueKey) (x : Option (List ℕ)) → cond (is_one own k) value x ≡ value_after op k x)
      → new ≡ finite.insert old (value_key c o own) value → ChangesValues op rows c o old new
  one_changed op own value old new named agrees is = subst (ChangesValues op rows c o old) (sym is)
      (changes_values op old (finite.insert old (value_key c o own) value)
      (λ k key_named. one_seen own k value old ∙ agrees k (value_seen rows old (value_key c o k))) (one_other own value old named))

  pub attr_set : (name value : List ℕ) (old new : ChangeMap) → IsName name → new ≡ finite.insert old (attr_key c o name) (Some value)
      → ChangesValues (SetAttr o name value) rows c o old new
  attr_set name value old new named = one_changed (SetAttr o name value) (attribute name) (Some value) old new named agrees
    where
      agrees : (k : ValueKey) (x : Option (List ℕ)) → cond (is_one (attribute name) k) (Some value) x ≡ value_after (SetAttr o name value) k x
      agrees (attribute n) x = refl
      agrees header x = refl
      agrees (pair key) x = refl

  pub attr_gone : (name : List ℕ) (old new : ChangeMap) → IsName name → new ≡ finite.insert old (attr_key c o name) None
      → ChangesValues (RmAttr o name) rows c o old new
  attr_gone name old new named = one_changed (RmAttr o name) (attribute name) None old new named agrees
    where
      agrees : (k : ValueKey) (x : Option (List ℕ)) → cond (is_one (attribute name) k) None x ≡ value_after (RmAttr o name) k x
      agrees (attribute n) x = refl
      agrees header x = refl
      agrees (pair key) x = refl

  pub header_set : (value : List ℕ) (old new : ChangeMap) → new ≡ finite.insert old (header_key c o) (not_empty value)
      → ChangesValues (OmapHeader o value) rows c o old new
  header_set value old new = one_changed (OmapHeader o value) header (not_empty value) old new tt agrees
    where
      agrees : (k : ValueKey) (x : Option (List ℕ)) → cond (is_one header k) (not_empty value) x ≡ value_after (OmapHeader o value) k x
      agrees (attribute n) x = refl
      agrees header x = refl
      agrees (pair key) x = refl

  -- ---- pairs of the omap

  pub both_others : (old mid new : ChangeMap) → Others c o old mid → Others c o mid new → Others c o old new
  both_others old mid new first then key = elim (first key) [
    | inl of ↦ inl of
    | inr same ↦ elim (then key) [
      | inl of ↦ inl of
      | inr again ↦ inr (again ∙ same)
    ]
  ]

  pairs_others : (ps : List Pair) (m : ChangeMap) → AllByRecursion (λ p. IsName p.key) ps → Others c o m (with_pairs c o ps m)
  pairs_others [] m named = λ key. inr refl
  pairs_others (p ∷ ps) m named = both_others m (with_pair c o p m) (with_pairs c o ps (with_pair c o p m))
      (one_other (pair p.key) (Some p.value) m named.0) (pairs_others ps (with_pair c o p m) named.1)

  pairs_seen : (ps : List Pair) (k : ValueKey) (m : ChangeMap)
      → value_seen rows (with_pairs c o ps m) (value_key c o k) ≡ value_after (OmapSet o ps) k (value_seen rows m (value_key c o k))
  pairs_seen [] (attribute n) m = refl
  pairs_seen [] header m = refl
  pairs_seen [] (pair key) m = refl
  pairs_seen (p ∷ ps) (attribute n) m = pairs_seen ps (attribute n) (with_pair c o p m) ∙ one_seen (pair p.key) (attribute n) (Some p.value) m
  pairs_seen (p ∷ ps) header m = pairs_seen ps header (with_pair c o p m) ∙ one_seen (pair p.key) header (Some p.value) m
  pairs_seen (p ∷ ps) (pair key) m = pairs_seen ps (pair key) (with_pair c o p m)
      ∙ ap (value_in ps key) (one_seen (pair p.key) (pair key) (Some p.value) m)

  pub pairs_set : (ps : List Pair) (old new : ChangeMap) → AllByRecursion (λ p. IsName p.key) ps → new ≡ with_pairs c o ps old
      → ChangesValues (OmapSet o ps) rows c o old new
  pairs_set ps old new named is = subst (ChangesValues (OmapSet o ps) rows c o old) (sym is)
      (changes_values (OmapSet o ps) old (with_pairs c o ps old) (λ k key_named. pairs_seen ps k old) (pairs_others ps old named))

  keys_others : (ks : List (List ℕ)) (m : ChangeMap) → AllByRecursion IsName ks → Others c o m (without_keys c o ks m)
  keys_others [] m named = λ key. inr refl
  keys_others (k ∷ ks) m named = both_others m (without_key c o k m) (without_keys c o ks (without_key c o k m))
      (one_other (pair k) None m named.0) (keys_others ks (without_key c o k m) named.1)

  either_goes : (a b : Bool) (old : Option (List ℕ)) → cond b None (cond a None old) ≡ cond (a || b) None old
  either_goes true true old = refl
  either_goes true false old = refl
  either_goes false true old = refl
  either_goes false false old = refl

  keys_seen : (ks : List (List ℕ)) (k : ValueKey) (m : ChangeMap)
      → value_seen rows (without_keys c o ks m) (value_key c o k) ≡ value_after (OmapRm o ks) k (value_seen rows m (value_key c o k))
  keys_seen [] (attribute n) m = refl
  keys_seen [] header m = refl
  keys_seen [] (pair key) m = refl
  keys_seen (x ∷ xs) (attribute n) m = keys_seen xs (attribute n) (without_key c o x m) ∙ one_seen (pair x) (attribute n) None m
  keys_seen (x ∷ xs) header m = keys_seen xs header (without_key c o x m) ∙ one_seen (pair x) header None m
  keys_seen (x ∷ xs) (pair key) m = keys_seen xs (pair key) (without_key c o x m)
      ∙ ap (λ (old : Option (List ℕ)). cond (is_among xs key) None old) (one_seen (pair x) (pair key) None m)
      ∙ either_goes (is_same x key) (is_among xs key) (value_seen rows m (omap_key c o key))

  pub keys_gone : (ks : List (List ℕ)) (old new : ChangeMap) → AllByRecursion IsName ks → new ≡ without_keys c o ks old
      → ChangesValues (OmapRm o ks) rows c o old new
  keys_gone ks old new named is = subst (ChangesValues (OmapRm o ks) rows c o old) (sym is)
      (changes_values (OmapRm o ks) old (without_keys c o ks old) (λ k key_named. keys_seen ks k old) (keys_others ks old named))
