-- Whether a collection has an object: of those that were looked at, or of those that weren't.
use Rattle.std.proofs.Common.{◌≡◌, ◌⊎◌, inl, inr, ℕ, Bool, true, false, cond, List, [], ◌∷◌, Option, Some, None, is_some, refl, sym, ap, ◌∙◌}
use Rattle.std.specs.Prelude.{◌||◌}
use Rattle.std.specs.List.{AllByRecursion}
use Rattle.std.specs.Option.{option_map, IfSome}
use Rattle.std.specs.Ordering.{is_eq}
use Rattle.std.specs.declared.cmp.Ordering.TheVariants.{Less, Equal, Greater}
use Rattle.std.specs.FinMap as finite
use Rattle.std.specs.FinMap.{find, entries, get-entries}
use Rattle.std.proofs.lemmas.Bool.{cases_Bool, or_parts}
use Rattle.byte_maps.specs.ByteMap.{ByteMap, byte_order}
use Rattle.byte_maps.proofs.Prelude.{same_bytes}
use Rattle.meta_rows.specs.Prelude.{Rows}
use Rattle.unit_fields.specs.Prelude.{IsName}
use Rattle.unit_fields.specs.declared.width.Width.{Width}
use Rattle.row_format.specs.Prelude.{onode_key}
use Rattle.store_image.specs.Prelude.{HasKey}
use Rattle.read_facts.specs.Prelude.{IsObject, IsBehind, IsNextOf, IsPast}
use Rattle.read_facts.proofs.Walks.{got_each}
use Rattle.object_rows.proofs.NamesOrder.{turned}
use Rattle.plan_drafts.specs.Prelude.{Layout, HasLayout, draft_of, CollDraft, HasSome, IsBare}
use Rattle.txn_planner.specs.declared.planning.Planning.{Planning}
use Rattle.txn_planner.specs.declared.touched.Touched.{Touched}
use Rattle.txn_planner.specs.Planning.{IsStateOf, any_there, HasUntouched, AllTouched}
use Rattle.txn_planner.specs.Steps.{HaveLayouts}

-- ---- objects that were looked at

-- one of them is there
pub record HasTouched (objects : ByteMap Touched) : Type 0 where
  pub object : List ℕ
  pub touched : Touched
  pub is : finite.get objects object ≡ Some touched
  pub there : is_some touched.now ≡ true

abbrev test : List ℕ × Touched → Bool
test e = is_some e.1.now

some_touched : (objects : ByteMap Touched) (es : List (List ℕ × Touched)) → AllByRecursion (λ e. finite.get objects e.0 ≡ Some e.1) es
    → any_there es ≡ true → HasTouched objects
some_touched objects [] are some = absurd cc
some_touched objects (e ∷ es) are some = elim (cases_Bool (test e)) [
  | inl is ↦ record { object = e.0; touched = e.1; is = are.0; there = is }
  | inr isnt ↦ some_touched objects es are.1 (sym (ap (λ b. b || any_there es) isnt) ∙ some)
]

pub touched_there : (objects : ByteMap Touched) → any_there (entries objects) ≡ true → HasTouched objects
touched_there objects some = some_touched objects (entries objects) (got_each objects) some

none_touched : (es : List (List ℕ × Touched)) → any_there es ≡ false → (o : List ℕ) (t : Touched) → find byte_order o es ≡ Some t → is_some t.now ≡ false
none_touched [] none o t is = absurd cc
none_touched (e ∷ es) none o t is =
    let both = or_parts (test e) (any_there es) none in
    elim (cases_Bool (is_eq (byte_order o e.0))) [
      | inl same ↦
          let at : Some e.1 ≡ Some t = sym (ap (λ b. cond b (Some e.1) (find byte_order o es)) same) ∙ is in
          let here : e.1 ≡ t = cc in
          ap (λ (x : Touched). is_some x.now) (sym here) ∙ both.0
      | inr other ↦ none_touched es both.1 o t (sym (ap (λ b. cond b (Some e.1) (find byte_order o es)) other) ∙ is)
    ]

pub touched_missing : (objects : ByteMap Touched) → any_there (entries objects) ≡ false → (o : List ℕ) (t : Touched) → finite.get objects o ≡ Some t
    → is_some t.now ≡ false
touched_missing objects none o t is = none_touched (entries objects) none o t (sym (get-entries objects o) ∙ is)

-- ---- all objects

no_value : {X : Type 0} (x : Option X) → is_some x ≡ false → x ≡ None
no_value None is = refl
no_value (Some v) is = absurd cc

module _ (w : Width) (rows : Rows) (c : List ℕ) (layouts : List ℕ → Option Layout) (d : CollDraft) (p : Planning) (state : IsStateOf rows c layouts d p)
    (have : HaveLayouts w rows c layouts) where
  -- an object that has an onode has a layout
  layout_there : (o : List ℕ) → IsName o → HasKey rows (onode_key c o) → is_some (layouts o) ≡ true
  layout_there o name has = by (layouts o) (have o name)
    where
      by : (l : Option Layout) → HasLayout w rows c o l → is_some l ≡ true
      by None none = absurd (let t = sym (ap (λ (v : Option (List ℕ)). is_some v) none) ∙ has in cc)
      by (Some l) is = refl

  onode_there : (o : List ℕ) → IsName o → (l : Option Layout) → HasLayout w rows c o l → is_some l ≡ true → HasKey rows (onode_key c o)
  onode_there o name None has some = absurd cc
  onode_there o name (Some l) has some = ap (λ (v : Option (List ℕ)). is_some v) has.0.stands

  drafted_there : (l : Option Layout) → is_some (option_map draft_of l) ≡ is_some l
  drafted_there None = refl
  drafted_there (Some l) = refl

  pub some_by_touched : HasTouched p.objects → HasSome d
  some_by_touched h =
      let t = state.touched h.object h.touched h.is in
      record { object = h.object; named = t.named; there = ap (λ x. is_some x) (sym t.now_is) ∙ h.there }

  pub some_by_untouched : HasUntouched rows c p → HasSome d
  some_by_untouched h = record {
    object = h.object;
    named = h.named;
    there = ap (λ x. is_some x) (state.untouched h.object h.named h.untouched) ∙ drafted_there (layouts h.object)
        ∙ layout_there h.object h.named h.there;
  }

  pub none_by_both : any_there (entries p.objects) ≡ false → AllTouched rows c p → IsBare d
  none_by_both none all o name = by (finite.get p.objects o) refl
    where
      by : (t : Option Touched) → finite.get p.objects o ≡ t → d.layout o ≡ None
      by (Some t) is = sym (state.touched o t is).now_is ∙ no_value t.now (touched_missing p.objects none o t is)
      by None is = no_value (d.layout o) (ap (λ x. is_some x) (state.untouched o name is) ∙ drafted_there (layouts o) ∙ missing (cases_Bool (is_some (layouts o))))
        where
          missing : (is_some (layouts o) ≡ true) ⊎ (is_some (layouts o) ≡ false) → is_some (layouts o) ≡ false
          missing (inr none) = none
          missing (inl some) = absurd (let t = sym (ap (λ (x : Option Touched). is_some x) is) ∙ all o name (onode_there o name (layouts o) (have o name) some) in cc)

-- ---- the walk over names

-- each object that isn't behind the last name was looked at
pub record AreLooked (rows : Rows) (c : List ℕ) (objects : ByteMap Touched) (last : Option (List ℕ)) : Type 0 where
  pub named : IfSome last IsName
  pub looked : (o : List ℕ) → IsObject rows c o → (IsBehind last o → ⊥) → finite.contains_key objects o ≡ true

module _ (rows : Rows) (c : List ℕ) (objects : ByteMap Touched) where
  pub none_looked : AreLooked rows c objects None
  none_looked = record { named = tt; looked = λ o is before. absurd (before tt) }

  pub next_looked : (last : Option (List ℕ)) (name : List ℕ) → AreLooked rows c objects last → IsNextOf (IsObject rows c) last name
      → finite.contains_key objects name ≡ true → AreLooked rows c objects (Some name)
  next_looked last name are next has = record {
    named = next.is.named;
    looked = λ o is before. elim (byte_order name o) as (λ r. byte_order name o ≡ r → finite.contains_key objects o ≡ true) [
      | Less ↦ λ p. absurd (before p)
      | Equal ↦ λ p. ap (finite.contains_key objects) (sym (same_bytes name o p)) ∙ has
      | Greater ↦ λ p. are.looked o is (λ behind. next.least o is behind (turned name o p))
    ] refl;
  }

  pub all_looked : (last : Option (List ℕ)) → AreLooked rows c objects last → IsPast (IsObject rows c) last → (o : List ℕ) → IsName o
      → HasKey rows (onode_key c o) → finite.contains_key objects o ≡ true
  all_looked last are past o name has = are.looked o (record { named = name; there = has }) (past o (record { named = name; there = has }))
