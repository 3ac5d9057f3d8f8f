-- The state after an operation is that of the draft after it.
use Rattle.std.proofs.Common.{◌≡◌, ◌≢◌, ◌⊎◌, ◌↔◌, inl, inr, ℕ, Bool, true, false, cond, List, [], ◌∷◌, ◌++◌, Contains, Option, Some, None, refl, sym, ap, subst, ◌∙◌}
use Rattle.std.specs.Prelude.{◌||◌}
use Rattle.std.specs.List.{flat_map}
use Rattle.std.specs.Ordering.{nat_cmp}
use Rattle.std.specs.FinMap as finite
use Rattle.std.specs.FinMap.{entries, get-entries, entries_sorted}
use Rattle.std.specs.FinMap.Entries.{where_key}
use Rattle.std.proofs.lemmas.Bool.{cases_Bool, or_parts}
use Rattle.meta_rows.specs.Prelude.{Rows}
use Rattle.unit_fields.specs.Prelude.{IsName}
use Rattle.unit_fields.specs.declared.width.Width.{Width}
use Rattle.row_format.specs.Prelude.{Place, own}
use Rattle.store_image.proofs.Prelude.{equal_or_not}
use Rattle.plan_drafts.specs.declared.draft.Draft.{Draft}
use Rattle.plan_drafts.specs.Prelude.{units_released, Layout, or_empty, or_new, CollDraft, Leaves}
use Rattle.blob_map.specs.Prelude.{PageMap}
use Rattle.number_map.proofs.Laws.{same}
use Rattle.unit_allocator.proofs.Lists.{Contains-head, Contains-tail, Contains-cases}
use Rattle.txn_planner.proofs.Between.{In, at_in, in_at, found_in, in_found, unit_stands, stands_unit}
use Rattle.plan_proofs.proofs.Lists.{Contains-left, Contains-right}
use Rattle.txn_planner.specs.declared.touched.Touched.{Touched}
use Rattle.txn_planner.specs.Steps.{has_any}
use Rattle.txn_planner.specs.Touching.{HasLeft, IsTouched}

-- ---- lists

in_either : (xs ys : List ℕ) (v : ℕ) → Contains (xs ++ ys) v → Contains xs v ⊎ Contains ys v
in_either [] ys v k = inr k
in_either (x ∷ xs) ys v k = elim (Contains-cases x v (xs ++ ys) k) [
  | inl e ↦ inl (subst (Contains (x ∷ xs)) e (Contains-head x xs))
  | inr later ↦ elim (in_either xs ys v later) [ inl a ↦ inl (Contains-tail x v xs a) | inr b ↦ inr b ]
]

pub where_all : (es : List (ℕ × Place)) → where_key nat_cmp (λ page. true) es ≡ es
where_all [] = refl
where_all (e ∷ es) = ap (λ (l : List (ℕ × Place)). e ∷ l) (where_all es)

none_passes : (test : ℕ → Bool) (es : List (ℕ × Place)) → has_any (where_key nat_cmp test es) ≡ false → (page : ℕ) (place : Place) → In es (page, place)
    → test page ≡ false
none_passes test [] none page place is = absurd is
none_passes test (e ∷ es) none page place is = elim (cases_Bool (test e.0)) [
  | inl passes ↦ absurd (let t = sym (ap (λ b. has_any (cond b (e ∷ where_key nat_cmp test es) (where_key nat_cmp test es))) passes) ∙ none in cc)
  | inr fails ↦
      let rest : has_any (where_key nat_cmp test es) ≡ false =
      sym (ap (λ b. has_any (cond b (e ∷ where_key nat_cmp test es) (where_key nat_cmp test es))) fails) ∙ none in
      elim is [
        | inl here ↦ ap test (sym (ap (λ (p : ℕ × Place). p.0) here)) ∙ fails
        | inr later ↦ none_passes test es rest page place later
      ]
]

some_passes : (test : ℕ → Bool) (es : List (ℕ × Place)) → has_any (where_key nat_cmp test es) ≡ true
    → (page : ℕ) × (place : Place) × In es (page, place) × (test page ≡ true)
some_passes test [] some = absurd cc
some_passes test (e ∷ es) some = elim (cases_Bool (test e.0)) [
  | inl passes ↦ (e.0, e.1, inl refl, passes)
  | inr fails ↦
      let rest = some_passes test es (sym (ap (λ b. has_any (cond b (e ∷ where_key nat_cmp test es) (where_key nat_cmp test es))) fails) ∙ some) in
      (rest.0, rest.1, inr rest.2, rest.3)
]

-- an entry is found in its map
entry_of : (m : PageMap) (page : ℕ) (place : Place) → finite.get m page ≡ Some place → In (entries m) (page, place)
entry_of m page place is = found_in (entries m) page place (sym (get-entries m page) ∙ is)

of_entry : (m : PageMap) (page : ℕ) (place : Place) → In (entries m) (page, place) → finite.get m page ≡ Some place
of_entry m page place is = get-entries m page ∙ in_found (entries m) page place (entries_sorted m) is

-- ---- an object some of whose pages are left

-- of the pages that stood where they stood those that pass the test do so no more
pub record IsCut (x y : Option Draft) (test : ℕ → Bool) : Type 0 where
  pub none : (page : ℕ) → test page ≡ true → finite.get (or_new y).kept page ≡ None
  pub same : (page : ℕ) → test page ≡ false → finite.get (or_new y).kept page ≡ finite.get (or_new x).kept page

abbrev pub were : Option Draft → (ℕ → Bool) → List (ℕ × Place)
were x test = where_key nat_cmp test (entries (or_new x).kept)

-- where none passes, one that does doesn't stand there
not_there_by : (x : Option Draft) (test : ℕ → Bool) (page : ℕ) → has_any (were x test) ≡ false → test page ≡ true → finite.get (or_new x).kept page ≡ None
not_there_by x test page none passes = elim (finite.get (or_new x).kept page) as (λ z. finite.get (or_new x).kept page ≡ z → z ≡ None) [
  | None ↦ λ p. refl
  | Some place ↦ λ p. absurd
      (let t = sym passes ∙ none_passes test (entries (or_new x).kept) none page place (entry_of (or_new x).kept page place p) in cc)
] refl

module _ (rows : Rows) (c o : List ℕ) (layout : Option Layout) (x y : Option Draft) (test : ℕ → Bool) (cut : IsCut x y test)
    (stood : (page : ℕ) (place : Place) → finite.get (or_new x).kept page ≡ Some place → finite.get (or_empty layout).pages page ≡ Some place) where
  pub cut_touched : (t : Touched) → IsTouched rows c o layout x t
      → IsTouched rows c o layout y (record t { now = y; left = t.left || has_any (were x test) })
  cut_touched t is = record {
    named = is.named;
    before = is.before;
    shards = is.shards;
    now_is = refl;
    kept = λ none.
        let both = or_parts t.left (has_any (were x test)) none in
        same (or_new y).kept (or_empty layout).pages (λ page. unmoved both.1 page ∙ ap (λ m. finite.get m page) (is.kept both.0));
    gone = λ some. by t.left refl some;
  }
    where
      unmoved : has_any (were x test) ≡ false → (page : ℕ) → finite.get (or_new y).kept page ≡ finite.get (or_new x).kept page
      unmoved none page = elim (cases_Bool (test page)) [
        | inr fails ↦ cut.same page fails
        | inl passes ↦ cut.none page passes ∙ sym (not_there_by x test page none passes)
      ]

      still_left : (page : ℕ) → finite.get (or_new x).kept page ≡ None → finite.get (or_new y).kept page ≡ None
      still_left page none = elim (cases_Bool (test page)) [
        | inr fails ↦ cut.same page fails ∙ none
        | inl passes ↦ cut.none page passes
      ]

      by : (b : Bool) → t.left ≡ b → (t.left || has_any (were x test)) ≡ true → HasLeft layout y
      by true left some =
          let h = is.gone left in
          record { page = h.page; place = h.place; stood = h.stood; left = still_left h.page h.left }
      by false left some =
          let p = some_passes test (entries (or_new x).kept) (sym (ap (λ b. b || has_any (were x test)) left) ∙ some) in
          record { page = p.0; place = p.1; stood = stood p.0 p.1 (of_entry (or_new x).kept p.0 p.1 p.2); left = cut.none p.0 p.3 }

-- ---- the units that are left

-- the draft before and after: one object changed, and all others are as they were
pub record IsChanged (o : List ℕ) (y : Option Draft) (d d' : CollDraft) : Type 0 where
  pub here : d'.layout o ≡ y
  pub others : (u : List ℕ) → u ≢ o → d'.layout u ≡ d.layout u

module _ (w : Width) (layouts : List ℕ → Option Layout) (o : List ℕ) (name : IsName o) (d d' : CollDraft) (y : Option Draft) (test : ℕ → Bool)
    (changed : IsChanged o y d d') (cut : IsCut (d.layout o) y test)
    (stood : (page : ℕ) (place : Place) → finite.get (or_new (d.layout o)).kept page ≡ Some place → finite.get (or_empty (layouts o)).pages page ≡ Some place) where
  abbrev x : Option Draft
  x = d.layout o

  abbrev units : List ℕ
  units = flat_map (λ p. units_released p.1) (were x test)

  kept_or_not : (m : PageMap) (page : ℕ) → ((place : Place) × (finite.get m page ≡ Some place)) ⊎ (finite.get m page ≡ None)
  kept_or_not m page = by (finite.get m page)
    where
      by : (z : Option Place) → ((place : Place) × (z ≡ Some place)) ⊎ (z ≡ None)
      by None = inr refl
      by (Some place) = inl (place, refl)

  pub left_then : (left : List ℕ) → ((u : ℕ) → Contains left u ↔ Leaves layouts d u) → (u : ℕ) → Contains (left ++ units) u ↔ Leaves layouts d' u
  left_then left are u = (λ k. elim (in_either left units u k) [ inl a ↦ still ((are u).0 a) | inr b ↦ now b ], back)
    where
      still : Leaves layouts d u → Leaves layouts d' u
      still l = elim (equal_or_not l.object o) [
        | inr apart ↦ record {
          object = l.object;
          named = l.named;
          page = l.page;
          csum = l.csum;
          stood = l.stood;
          left = ap (λ z. finite.get (or_new z).kept l.page) (changed.others l.object apart) ∙ l.left;
        }
        | inl e ↦ record {
          object = l.object;
          named = l.named;
          page = l.page;
          csum = l.csum;
          stood = l.stood;
          left = ap (λ z. finite.get (or_new (d'.layout z)).kept l.page) e ∙ ap (λ z. finite.get (or_new z).kept l.page) changed.here
              ∙ gone_still l.page (ap (λ z. finite.get (or_new (d.layout z)).kept l.page) (sym e) ∙ l.left);
        }
      ]
        where
          gone_still : (page : ℕ) → finite.get (or_new x).kept page ≡ None → finite.get (or_new y).kept page ≡ None
          gone_still page none = elim (cases_Bool (test page)) [
            | inr fails ↦ cut.same page fails ∙ none
            | inl passes ↦ cut.none page passes
          ]

      now : Contains units u → Leaves layouts d' u
      now k =
          let at = unit_stands w test (entries (or_new x).kept) u (at_in units u k.0 k.1 k.2) in
          record {
            object = o;
            named = name;
            page = at.page;
            csum = at.csum;
            stood = stood at.page (own u at.csum) (of_entry (or_new x).kept at.page (own u at.csum) at.there);
            left = ap (λ z. finite.get (or_new z).kept at.page) changed.here ∙ cut.none at.page at.inside;
          }

      back : Leaves layouts d' u → Contains (left ++ units) u
      back l = elim (equal_or_not l.object o) [
        | inr apart ↦ Contains-left left units u ((are u).1 (record {
          object = l.object;
          named = l.named;
          page = l.page;
          csum = l.csum;
          stood = l.stood;
          left = ap (λ z. finite.get (or_new z).kept l.page) (sym (changed.others l.object apart)) ∙ l.left;
        }))
        | inl e ↦ here l e (kept_or_not (or_new x).kept l.page)
      ]
        where
          here : (l : Leaves layouts d' u) → l.object ≡ o
              → ((place : Place) × (finite.get (or_new x).kept l.page ≡ Some place)) ⊎ (finite.get (or_new x).kept l.page ≡ None)
              → Contains (left ++ units) u
          here l e (inr none) = Contains-left left units u ((are u).1 (record {
            object = l.object;
            named = l.named;
            page = l.page;
            csum = l.csum;
            stood = l.stood;
            left = ap (λ z. finite.get (or_new (d.layout z)).kept l.page) e ∙ none;
          }))
          here l e (inl there) =
              let stood_so : Some there.0 ≡ Some (own u l.csum) =
              sym (stood l.page there.0 there.1) ∙ ap (λ z. finite.get (or_empty (layouts z)).pages l.page) (sym e) ∙ l.stood in
              let is : finite.get (or_new x).kept l.page ≡ Some (own u l.csum) = there.1 ∙ stood_so in
              Contains-right left units u (in_at units u (stands_unit w test (entries (or_new x).kept) u l.page l.csum
              (entry_of (or_new x).kept l.page (own u l.csum) is) (passes l.page (own u l.csum) is
              (sym (ap (λ z. finite.get (or_new z).kept l.page) changed.here) ∙ ap (λ z. finite.get (or_new (d'.layout z)).kept l.page) (sym e) ∙ l.left))))
            where
              passes : (page : ℕ) (place : Place) → finite.get (or_new x).kept page ≡ Some place → finite.get (or_new y).kept page ≡ None → test page ≡ true
              passes page place is none = elim (cases_Bool (test page)) [
                | inl yes_it ↦ yes_it
                | inr fails ↦ absurd (let t = sym is ∙ sym (cut.same page fails) ∙ none in cc)
              ]
