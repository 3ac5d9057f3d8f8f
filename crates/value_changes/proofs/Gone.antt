-- The operations that take a range of values away, or all.
use Rattle.std.proofs.Common.{◌≡◌, ◌⊎◌, inl, inr, ℕ, Bool, true, false, cond, List, [], ◌∷◌, Option, Some, None, is_some, refl, sym, ap, subst, ◌∙◌, arith}
use Rattle.std.specs.FinMap as finite
use Rattle.byte_maps.specs.ByteMap.{in_range}
use Rattle.object_model.specs.declared.op.Op.TheVariants.{Remove, RmAttrs, OmapClear, OmapRmRange}
use Rattle.object_model.specs.Prelude.{is_same}
use Rattle.meta_rows.specs.Prelude.{Rows}
use Rattle.row_format.specs.Prelude.{object_key, omap_key}
use Rattle.store_image.specs.Prelude.{HasKey}
use Rattle.plan_rows.specs.Prelude.{ValueKey, attribute, header, pair, value_key, IsValueKey, IsKeyOfValue, value_after}
use Rattle.row_changes.specs.Prelude.{ChangeMap, value_seen, DropsRange}
use Rattle.row_changes.proofs.Keys.{same_or_not}
use Rattle.value_changes.specs.Changed.{NoneBad, AreNames, AreOfValues, ChangesValues}
use Rattle.object_rows.specs.Fronts.{values_first, values_end}
use Rattle.value_changes.proofs.ValueKeys.{same_key, in_kind, kind_in, kind_out, pair_in, in_pairs, pairs_out}
use Rattle.value_changes.proofs.GoodRows.{IsValueKind, are_named}
use Rattle.value_changes.proofs.Named.{Others, key_of_object, same_seen, changes_values, both_others}

module _ (rows : Rows) (c o : List ℕ) (names : AreNames c o) (good : NoneBad rows) where
  -- the keys of a range are of the object's values
  abbrev IsOfObject : List ℕ → Type 0
  IsOfObject key = (kind : ℕ) × (rest : List ℕ) × IsValueKind kind × (key ≡ object_key kind c o rest)

  in_others : (first end : List ℕ) (old new : ChangeMap) → AreOfValues c old → DropsRange rows first end old new
      → ((key : List ℕ) → in_range first end key ≡ true → IsOfObject key) → Others c o old new
  in_others first end old new of_values drops inside key = elim (in_range first end key) as
      (λ (b : Bool). in_range first end key ≡ b → IsKeyOfValue c o key ⊎ (finite.get new key ≡ finite.get old key)) [
        | true ↦ λ is. by_new is (inside key is) (finite.get new key) refl
        | false ↦ λ not. inr (drops.outside key not)
      ] refl
    where
      by_old : IsOfObject key → (held : Option (Option (List ℕ))) → finite.get old key ≡ held → finite.get new key ≡ None
          → IsKeyOfValue c o key ⊎ (finite.get new key ≡ finite.get old key)
      by_old of None was gone = inr (gone ∙ sym was)
      by_old of (Some x) was gone =
          let by = of_values key (ap is_some was) in
          inl (key_of_object c o by.0 key of.0 of.1 names.0 names.1 by.1 by.2 of.3)

      by_new : in_range first end key ≡ true → IsOfObject key → (held : Option (Option (List ℕ))) → finite.get new key ≡ held
          → IsKeyOfValue c o key ⊎ (finite.get new key ≡ finite.get old key)
      by_new is of None at = by_old of (finite.get old key) refl at
      by_new is of (Some x) at =
          let has : HasKey rows key = drops.known key is (ap is_some at) in
          inl (subst (IsKeyOfValue c o) (sym of.3) (are_named good.0 rows c o good.1 names.0 names.1 of.0 of.1 of.2 (subst (HasKey rows) of.3 has)))

  omap_not_attr : ◌≡◌ {A = ℕ} 0x4d 0x41 → ⊥
  omap_not_attr e = omega (arith, e)

  attr_not_omap : ◌≡◌ {A = ℕ} 0x41 0x4d → ⊥
  attr_not_omap e = omega (arith, e)

  module _ (old new : ChangeMap) (of_values : AreOfValues c old) where
    -- a value of the kind, and one of another
    kind_gone : (kind : ℕ) → DropsRange rows (values_first kind c o) (values_end kind c o) old new → (rest : List ℕ)
        → value_seen rows new (object_key kind c o rest) ≡ None
    kind_gone kind drops rest = drops.inside (object_key kind c o rest) (kind_in c o kind rest)

    kind_stays : (kind : ℕ) → DropsRange rows (values_first kind c o) (values_end kind c o) old new → (other : ℕ) (rest : List ℕ) → (other ≡ kind → ⊥)
        → value_seen rows new (object_key other c o rest) ≡ value_seen rows old (object_key other c o rest)
    kind_stays kind drops other rest apart = same_seen rows c o names old new (object_key other c o rest)
        (drops.outside (object_key other c o rest) (kind_out c o kind other rest apart))

    kind_others : (kind : ℕ) → IsValueKind kind → DropsRange rows (values_first kind c o) (values_end kind c o) old new → Others c o old new
    kind_others kind is drops = in_others (values_first kind c o) (values_end kind c o) old new of_values drops
        (λ key here. let at = in_kind c o kind key here in (kind, at.0, is, at.1))

    pub attrs_gone : DropsRange rows (values_first 0x41 c o) (values_end 0x41 c o) old new → ChangesValues (RmAttrs o) rows c o old new
    attrs_gone drops = changes_values rows c o names (RmAttrs o) old new own (kind_others 0x41 (inl refl) drops)
      where
        own : (k : ValueKey) → IsValueKey k → value_seen rows new (value_key c o k) ≡ value_after (RmAttrs o) k (value_seen rows old (value_key c o k))
        own (attribute n) named = kind_gone 0x41 drops n
        own header named = kind_stays 0x41 drops 0x4d (0x2d ∷ []) omap_not_attr
        own (pair key) named = kind_stays 0x41 drops 0x4d (0x2e ∷ key) omap_not_attr

    pub omap_gone : DropsRange rows (values_first 0x4d c o) (values_end 0x4d c o) old new → ChangesValues (OmapClear o) rows c o old new
    omap_gone drops = changes_values rows c o names (OmapClear o) old new own (kind_others 0x4d (inr refl) drops)
      where
        own : (k : ValueKey) → IsValueKey k → value_seen rows new (value_key c o k) ≡ value_after (OmapClear o) k (value_seen rows old (value_key c o k))
        own (attribute n) named = kind_stays 0x4d drops 0x41 n attr_not_omap
        own header named = kind_gone 0x4d drops (0x2d ∷ [])
        own (pair key) named = kind_gone 0x4d drops (0x2e ∷ key)

    -- a key that isn't of a pair
    no_pair : (k : ValueKey) (first last : List ℕ) → ((rest : List ℕ) → is_same (value_key c o k) (omap_key c o rest) ≡ false)
        → in_range (omap_key c o first) (omap_key c o last) (value_key c o k) ≡ false
    no_pair k first last not = pairs_out c o first last (value_key c o k) (λ rest e. same_or_not ⊥ (value_key c o k) (omap_key c o rest)
        (λ one is. let clash : true ≡ false = sym is ∙ not rest in absurd cc) (λ apart f. apart e))

    pub pairs_gone : (first last : List ℕ) → DropsRange rows (omap_key c o first) (omap_key c o last) old new
        → ChangesValues (OmapRmRange o first last) rows c o old new
    pairs_gone first last drops = changes_values rows c o names (OmapRmRange o first last) old new own
        (in_others (omap_key c o first) (omap_key c o last) old new of_values drops
        (λ key here. let at = in_pairs c o first last key here in (0x4d, 0x2e ∷ at.0, inr refl, at.1)))
      where
        outside : (k : ValueKey) → in_range (omap_key c o first) (omap_key c o last) (value_key c o k) ≡ false
            → value_seen rows new (value_key c o k) ≡ value_seen rows old (value_key c o k)
        outside k out = same_seen rows c o names old new (value_key c o k) (drops.outside (value_key c o k) out)

        of_pair : (key : List ℕ) (b : Bool) → in_range first last key ≡ b
            → value_seen rows new (omap_key c o key) ≡ cond b None (value_seen rows old (omap_key c o key))
        of_pair key true is = drops.inside (omap_key c o key) (pair_in c o first last key ∙ is)
        of_pair key false is = outside (pair key) (pair_in c o first last key ∙ is)

        own : (k : ValueKey) → IsValueKey k → value_seen rows new (value_key c o k) ≡ value_after (OmapRmRange o first last) k (value_seen rows old (value_key c o k))
        own (attribute n) named = outside (attribute n) (no_pair (attribute n) first last (λ rest. same_key c o (attribute n) (pair rest)))
        own header named = outside header (no_pair header first last (λ rest. same_key c o header (pair rest)))
        own (pair key) named = of_pair key (in_range first last key) refl

  -- the attributes, and then the omap
  pub all_gone : (old mid new : ChangeMap) → ChangesValues (RmAttrs o) rows c o old mid → ChangesValues (OmapClear o) rows c o mid new
      → ChangesValues (Remove o) rows c o old new
  all_gone old mid new first then = changes_values rows c o names (Remove o) old new own (both_others rows c o names old mid new first.others then.others)
    where
      own : (k : ValueKey) → IsValueKey k → value_seen rows new (value_key c o k) ≡ value_after (Remove o) k (value_seen rows old (value_key c o k))
      own (attribute n) named = then.own (attribute n) named ∙ first.own (attribute n) named
      own header named = then.own header named
      own (pair key) named = then.own (pair key) named
