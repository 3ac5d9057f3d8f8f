-- What is seen through logged changes, and what their difference to rows is.
use Rattle.std.proofs.Common.{◌≡◌, ℕ, Bool, true, false, cond, List, [], ◌∷◌, ◌++◌, map, filter, Option, Some, None, is_some, refl, sym, ap, subst, ◌∙◌}
use Rattle.std.specs.Prelude.{unwrap_or, not}
use Rattle.std.specs.List.{AllByRecursion}
use Rattle.std.specs.FinMap as finite
use Rattle.std.specs.FinMap.{find}
use Rattle.byte_maps.specs.ByteMap.{byte_order, in_range}
use Rattle.byte_maps.proofs.Prelude.{same_bytes, after_insert, same}
use Rattle.byte_maps.proofs.Laws.{after_remove_range}
use Rattle.object_model.specs.Prelude.{is_same}
use Rattle.meta_rows.specs.Prelude.{Rows, rows_from_to}
use Rattle.meta_rows.specs.declared.row_op.RowOp.{RowOp}
use Rattle.row_changes.specs.declared.row_change.RowChange.{RowChange}
use Rattle.row_changes.specs.Seen.{ChangeMap, value_seen, IsChanged, DropsRange, IsDifferenceBy}
use Rattle.row_changes.specs.Log.{logged, last_for, ops_of, ChangesRise, lasts}
use Rattle.row_changes.proofs.Keys.{same_itself, same_or_not}
use Rattle.row_changes.proofs.Ranges.{Entry, range_find}
use Rattle.row_changes.proofs.Puts.{all_map, makes_all, puts_ascend, puts_change, put_keys}
use Rattle.row_changes.proofs.Sorted.{lasts_all, lasts_ascend, lasts_same}

turned : (a b : List ℕ) → is_same b a ≡ is_same a b
turned a b = same_or_not (is_same b a ≡ is_same a b) a b
    (λ one is. ap (λ (k : List ℕ). is_same k a) (sym one) ∙ ap (λ (k : List ℕ). is_same a k) one)
    (λ apart not. same_or_not (is_same b a ≡ is_same a b) b a (λ one is. absurd (apart (sym one))) (λ other f. f ∙ sym not))

-- a change behind others
pub insert_get : (m : ChangeMap) (k : List ℕ) (value : Option (List ℕ)) (key : List ℕ)
    → finite.get (finite.insert m k value) key ≡ cond (is_same k key) (Some value) (finite.get m key)
insert_get m k value key = after_insert m k value key ∙ ap (λ b. cond b (Some value) (finite.get m key)) (turned k key)

pub logged_append : (m : ChangeMap) (a b : List RowChange) → logged m (a ++ b) ≡ logged (logged m a) b
logged_append m [] b = refl
logged_append m (c ∷ a) b = logged_append (finite.insert m c.key c.value) a b

-- ---- what is seen

module _ (rows : Rows) where
  seen_by : (b : Bool) (value old : Option (List ℕ)) (o : Option (Option (List ℕ))) → unwrap_or o old ≡ unwrap_or o old
      → unwrap_or (cond b (Some value) o) old ≡ cond b value (unwrap_or o old)
  seen_by true value old o t = refl
  seen_by false value old o t = refl

  pub seen_insert : (m : ChangeMap) (k : List ℕ) (value : Option (List ℕ)) (key : List ℕ)
      → value_seen rows (finite.insert m k value) key ≡ cond (is_same k key) value (value_seen rows m key)
  seen_insert m k value key = ap (λ (o : Option (Option (List ℕ))). unwrap_or o (finite.get rows key)) (insert_get m k value key)
      ∙ seen_by (is_same k key) value (finite.get rows key) (finite.get m key) refl

  pub logged_seen : (m : ChangeMap) (cs : List RowChange) (key : List ℕ) → value_seen rows (logged m cs) key ≡ last_for cs key (value_seen rows m key)
  logged_seen m [] key = refl
  logged_seen m (c ∷ cs) key = logged_seen (finite.insert m c.key c.value) cs key ∙ ap (last_for cs key) (seen_insert m c.key c.value key)

  seen_empty : (key : List ℕ) → value_seen rows finite.empty key ≡ finite.get rows key
  seen_empty key = ap (λ (o : Option (Option (List ℕ))). unwrap_or o (finite.get rows key)) (finite.get-empty byte_order key)

  pub log_seen : (cs : List RowChange) (key : List ℕ) → value_seen rows (logged finite.empty cs) key ≡ last_for cs key (finite.get rows key)
  log_seen cs key = logged_seen finite.empty cs key ∙ ap (last_for cs key) (seen_empty key)

-- ---- which keys are changed

-- whatever stood under the key, it doesn't matter
abbrev Decides : List RowChange → List ℕ → Type 0
Decides cs key = (a b : Option (List ℕ)) → last_for cs key a ≡ last_for cs key b

own_decides : (c : RowChange) (cs : List RowChange) → Decides (c ∷ cs) c.key
own_decides c cs a b = ap (λ t. last_for cs c.key (cond t c.value a)) (same_itself c.key)
    ∙ sym (ap (λ t. last_for cs c.key (cond t c.value b)) (same_itself c.key))

all_decided : (cs : List RowChange) → AllByRecursion (λ c. Decides cs c.key) cs
all_decided [] = tt
all_decided (c ∷ cs) = (
  own_decides c cs,
  all_map (λ x. Decides cs x.key) (λ x. Decides (c ∷ cs) x.key)
      (λ x d a b. d (cond (is_same c.key x.key) c.value a) (cond (is_same c.key x.key) c.value b)) cs (all_decided cs),
)

decided_changed : (cs : List RowChange) (key : List ℕ) → Decides cs key → IsChanged (logged finite.empty cs) key
decided_changed cs key decides = by (finite.get (logged finite.empty cs) key) refl
  where
    some_row : Rows
    some_row = finite.insert finite.empty key []

    none_row : Rows
    none_row = finite.empty

    by : (o : Option (Option (List ℕ))) → finite.get (logged finite.empty cs) key ≡ o → is_some o ≡ true
    by (Some value) is = refl
    by None is =
        let without : last_for cs key (finite.get none_row key) ≡ finite.get none_row key =
        sym (log_seen none_row cs key) ∙ ap (λ (o : Option (Option (List ℕ))). unwrap_or o (finite.get none_row key)) is in
        let with_one : last_for cs key (finite.get some_row key) ≡ finite.get some_row key =
        sym (log_seen some_row cs key) ∙ ap (λ (o : Option (Option (List ℕ))). unwrap_or o (finite.get some_row key)) is in
        let clash : finite.get none_row key ≡ finite.get some_row key =
        sym without ∙ decides (finite.get none_row key) (finite.get some_row key) ∙ with_one in
        let none_is : finite.get none_row key ≡ None = finite.get-empty byte_order key in
        let some_is : finite.get some_row key ≡ Some [] =
        after_insert none_row key [] key ∙ ap (λ b. cond b (Some []) (finite.get none_row key)) (same_itself key) in
        let t : None ≡ Some [] = sym none_is ∙ clash ∙ some_is in absurd cc

-- ---- the difference

pub difference_is : (rows : Rows) (log sorted : List RowChange) (ops : List RowOp)
    → ((key : List ℕ) (old : Option (List ℕ)) → last_for sorted key old ≡ last_for log key old) → ChangesRise sorted
    → ops ≡ ops_of rows (lasts sorted) → IsDifferenceBy rows (logged finite.empty log) ops
difference_is rows log sorted ops same up is = subst (IsDifferenceBy rows (logged finite.empty log)) (sym is) (record {
  in_order = puts_ascend rows (lasts sorted) (lasts_ascend sorted up);
  changes = puts_change rows (lasts sorted);
  makes = λ key. makes_all rows (lasts sorted) key (lasts_ascend sorted up) ∙ lasts_same sorted key (finite.get rows key)
      ∙ same key (finite.get rows key) ∙ sym (log_seen rows log key);
  of_changed = put_keys rows (IsChanged (logged finite.empty log)) (lasts sorted)
      (lasts_all (λ c. IsChanged (logged finite.empty log) c.key) sorted (all_map
      (λ c. Decides sorted c.key) (λ c. IsChanged (logged finite.empty log) c.key)
      (λ c d. decided_changed log c.key (λ a b. sym (same c.key a) ∙ d a b ∙ same c.key b)) sorted (all_decided sorted)));
})

-- ---- a range of rows that goes

abbrev pub gone : List Entry → List RowChange
gone es = map (λ e. record { key = e.0; value = None }) es

-- a change where there is a row that goes
abbrev gone_of : Option (List ℕ) → Option (Option (List ℕ)) → Option (Option (List ℕ))
gone_of None held = held
gone_of (Some v) held = Some None

gone_get : (m : ChangeMap) (es : List Entry) (key : List ℕ)
    → finite.get (logged m (gone es)) key ≡ gone_of (find byte_order key es) (finite.get m key)
gone_get m [] key = refl
gone_get m (e ∷ es) key = gone_get (finite.insert m e.0 None) es key
    ∙ ap (gone_of (find byte_order key es)) (after_insert m e.0 None key)
    ∙ elim (is_same key e.0) as (λ (b : Bool). gone_of (find byte_order key es) (cond b (Some None) (finite.get m key))
    ≡ gone_of (cond b (Some e.1) (find byte_order key es)) (finite.get m key)) [
      | true ↦ elim (find byte_order key es) as (λ (o : Option (List ℕ)). gone_of o (Some None) ≡ Some None) [
        | None ↦ refl
        | Some v ↦ refl
      ]
      | false ↦ refl
    ]

module _ (rows : Rows) (first end : List ℕ) where
  abbrev outside_of : ChangeMap → ChangeMap
  outside_of old = finite.retain_keys old (λ k. not (in_range first end k))

  after_all : (old : ChangeMap) (key : List ℕ) → finite.get (logged (outside_of old) (gone (rows_from_to rows first (Some end)))) key
      ≡ gone_of (cond (in_range first end key) (finite.get rows key) None) (cond (in_range first end key) None (finite.get old key))
  after_all old key = gone_get (outside_of old) (rows_from_to rows first (Some end)) key
      ∙ (λ i. gone_of (range_find rows first end key i) (after_remove_range old first end key i))

  pub range_goes : (old new : ChangeMap) → new ≡ logged (outside_of old) (gone (rows_from_to rows first (Some end))) → DropsRange rows first end old new
  range_goes old new is = record {
    inside = λ key here. ap (λ (o : Option (Option (List ℕ))). unwrap_or o (finite.get rows key)) (now key ∙ by_test key true here) ∙ none_seen (finite.get rows key);
    known = λ key here changed. has (finite.get rows key) (sym (ap is_some (now key ∙ by_test key true here)) ∙ changed);
    outside = λ key out. now key ∙ by_test key false out;
  }
    where
      now : (key : List ℕ) → finite.get new key
          ≡ gone_of (cond (in_range first end key) (finite.get rows key) None) (cond (in_range first end key) None (finite.get old key))
      now key = ap (λ (m : ChangeMap). finite.get m key) is ∙ after_all old key

      by_test : (key : List ℕ) (b : Bool) → in_range first end key ≡ b
          → gone_of (cond (in_range first end key) (finite.get rows key) None) (cond (in_range first end key) None (finite.get old key))
          ≡ gone_of (cond b (finite.get rows key) None) (cond b None (finite.get old key))
      by_test key b e = ap (λ t. gone_of (cond t (finite.get rows key) None) (cond t None (finite.get old key))) e

      none_seen : (held : Option (List ℕ)) → unwrap_or (gone_of held None) held ≡ None
      none_seen None = refl
      none_seen (Some v) = refl

      has : (held : Option (List ℕ)) → is_some (gone_of held None) ≡ true → is_some held ≡ true
      has None e = e
      has (Some v) e = refl

-- ---- changes in the log

pub pushed : (log : List RowChange) (c : RowChange) (m : ChangeMap) → logged finite.empty log ≡ m
    → logged finite.empty (log ++ c ∷ []) ≡ finite.insert m c.key c.value
pushed log c m is = logged_append finite.empty log (c ∷ []) ∙ ap (λ (n : ChangeMap). finite.insert n c.key c.value) is

-- those outside a range
module _ (first end : List ℕ) where
  abbrev out : List ℕ → Bool
  out k = not (in_range first end k)

  get_out : (m : ChangeMap) (key : List ℕ) → finite.get (finite.retain_keys m out) key ≡ cond (out key) (finite.get m key) None
  get_out m key = finite.get-retain_keys m out key (λ x tied. ap out (sym (same_bytes key x tied)))

  inserted : (m : ChangeMap) (k : List ℕ) (value : Option (List ℕ)) → out k ≡ true
      → finite.insert (finite.retain_keys m out) k value ≡ finite.retain_keys (finite.insert m k value) out
  inserted m k value is = same _ _ (λ key.
      insert_get (finite.retain_keys m out) k value key ∙ ap (cond (is_same k key) (Some value)) (get_out m key)
      ∙ same_or_not (cond (is_same k key) (Some value) (cond (out key) (finite.get m key) None)
      ≡ cond (out key) (cond (is_same k key) (Some value) (finite.get m key)) None) k key
      (λ one t. (λ i. cond (t i) (Some value) (cond (out key) (finite.get m key) None))
      ∙ sym ((λ i. cond (out key) (cond (t i) (Some value) (finite.get m key)) None)
      ∙ ap (λ b. cond b (Some value) None) (ap out (sym one) ∙ is)))
      (λ apart f. (λ i. cond (f i) (Some value) (cond (out key) (finite.get m key) None))
      ∙ sym (λ i. cond (out key) (cond (f i) (Some value) (finite.get m key)) None))
      ∙ sym (get_out (finite.insert m k value) key ∙ ap (λ (o : Option (Option (List ℕ))). cond (out key) o None) (insert_get m k value key)))

  left_out : (m : ChangeMap) (k : List ℕ) (value : Option (List ℕ)) → out k ≡ false
      → finite.retain_keys m out ≡ finite.retain_keys (finite.insert m k value) out
  left_out m k value is = same _ _ (λ key.
      get_out m key
      ∙ same_or_not (cond (out key) (finite.get m key) None ≡ cond (out key) (cond (is_same k key) (Some value) (finite.get m key)) None) k key
      (λ one t. ap (λ b. cond b (finite.get m key) None) (ap out (sym one) ∙ is)
      ∙ sym (ap (λ b. cond b (cond (is_same k key) (Some value) (finite.get m key)) None) (ap out (sym one) ∙ is)))
      (λ apart f. sym (λ i. cond (out key) (cond (f i) (Some value) (finite.get m key)) None))
      ∙ sym (get_out (finite.insert m k value) key ∙ ap (λ (o : Option (Option (List ℕ))). cond (out key) o None) (insert_get m k value key)))

  outside_from : (m : ChangeMap) (log : List RowChange)
      → logged (finite.retain_keys m out) (filter (λ c. out c.key) log) ≡ finite.retain_keys (logged m log) out
  outside_from m [] = refl
  outside_from m (c ∷ cs) = elim (out c.key) as (λ (b : Bool). out c.key ≡ b
      → logged (finite.retain_keys m out) (cond b (c ∷ filter (λ x. out x.key) cs) (filter (λ x. out x.key) cs))
      ≡ finite.retain_keys (logged (finite.insert m c.key c.value) cs) out) [
        | true ↦ λ is. ap (λ (n : ChangeMap). logged n (filter (λ x. out x.key) cs)) (inserted m c.key c.value is)
            ∙ outside_from (finite.insert m c.key c.value) cs
        | false ↦ λ is. ap (λ (n : ChangeMap). logged n (filter (λ x. out x.key) cs)) (left_out m c.key c.value is)
            ∙ outside_from (finite.insert m c.key c.value) cs
      ] refl

  abbrev none : ChangeMap
  none = finite.empty

  none_left : none ≡ finite.retain_keys none out
  none_left = same none (finite.retain_keys none out) (λ key. finite.get-empty byte_order key ∙ sym (get_out none key ∙ ap (λ (o : Option (Option (List ℕ))). cond (out key) o None) (finite.get-empty byte_order key)
      ∙ no_matter (out key)))
    where
      no_matter : (b : Bool) → cond {A = Option (Option (List ℕ))} b None None ≡ None
      no_matter true = refl
      no_matter false = refl

  pub logged_outside : (log : List RowChange) → logged finite.empty (filter (λ c. out c.key) log) ≡ finite.retain_keys (logged finite.empty log) out
  logged_outside log = ap (λ (m : ChangeMap). logged m (filter (λ c. out c.key) log)) none_left ∙ outside_from finite.empty log
