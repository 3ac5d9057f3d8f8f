-- The balance of pages and slots: the pages that named a slot before operations are as many as those that name it after them and those that left it.
use Rattle.std.proofs.Common.{◌≡◌, ◌↔◌, inl, inr, ℕ, ◌+◌, ◌<◌, Bool, true, false, cond, not, T, List, [], ◌∷◌, ◌++◌, length, filter, Contains, Option, Some, None, refl, sym, ap, subst, ◌∙◌, arith}
use Rattle.std.specs.Prelude.{◌==◌, ◌&&◌}
use Rattle.std.specs.List.{flat_map}
use Rattle.std.specs.Option.{option_map, option_map_or}
use Rattle.std.specs.Ordering.{nat_cmp}
use Rattle.std.specs.FinMap as finite
use Rattle.std.specs.FinMap.{is_sorted, entries, entries_sorted}
use Rattle.std.specs.FinMap.Entries.{below_all, where_key, is_sorted-where_key}
use Rattle.std.proofs.lemmas.Bool.{eqb-true, eq-eqb, and_parts, and_from, not-true, both_ways}
use Rattle.std.proofs.lemmas.List.Filters.{length-filter_both}
use Rattle.number_map.proofs.Places.{both_first, both_second}
use Rattle.number_map.proofs.Search.{less_is}
use Rattle.object_model.specs.declared.op.Op.{Op}
use Rattle.object_model.specs.declared.op.Op.TheVariants.{Remove}
use Rattle.object_model.specs.Prelude.{is_same}
use Rattle.unit_fields.specs.Prelude.{IsName}
use Rattle.row_format.specs.Prelude.{Place, own, slot}
use Rattle.store_image.specs.Prelude.{PageName, EachOnce}
use Rattle.store_image.proofs.Counting.{not_more}
use Rattle.plan_rows.specs.declared.plan.SlotNo.{SlotNo}
use Rattle.plan_drafts.specs.declared.draft.Draft.{Draft}
use Rattle.plan_drafts.specs.Prelude.{Edit, end_of, is_touched, is_left, fate_of, slots_released, drafted, Layout, or_empty, draft_of, or_new, edit_on, pages_left, object_of, object_before, draft_after, CollDraft, slots_on, with_op, with_ops, IsTaken, AreTaken, indexes_of, times_in}
use Rattle.page_edits.proofs.DraftedPages.{retained_at}
use Rattle.page_edits.proofs.Entries.{where_are}
use Rattle.page_edits.proofs.Fates.{left_is}
use Rattle.page_edits.proofs.Lists.{In, in_contains, contains_in}
use Rattle.plan_proofs.proofs.Drafted.{AreThose, NamesStill, AreBalanced}
use Rattle.plan_proofs.proofs.Names.{same_is, itself}
use Rattle.plan_proofs.proofs.Reached.{on_object_or}

-- ---- pages that pass a test

module _ (test : PageName → Bool) where
  in_passing : (ps : List PageName) (p : PageName) → In ps p → test p ≡ true → In (filter test ps) p
  in_passing [] p has is = absurd has
  in_passing (q ∷ ps) p has is = elim (test q) as (λ b. test q ≡ b → In (cond b (q ∷ filter test ps) (filter test ps)) p) [
    | true ↦ λ t. elim has [ inl same ↦ inl same | inr later ↦ inr (in_passing ps p later is) ]
    | false ↦ λ t. elim has [
      | inl same ↦ absurd (both_ways (test p) (ap test (sym same) ∙ t) is)
      | inr later ↦ in_passing ps p later is
    ]
  ] refl

  of_passing : (ps : List PageName) (p : PageName) → In (filter test ps) p → In ps p × (test p ≡ true)
  of_passing [] p has = absurd has
  of_passing (q ∷ ps) p has = elim (test q) as (λ b. test q ≡ b → In (cond b (q ∷ filter test ps) (filter test ps)) p → In (q ∷ ps) p × (test p ≡ true)) [
    | true ↦ λ t has. elim has [
      | inl same ↦ (inl same, ap test (sym same) ∙ t)
      | inr later ↦ let r = of_passing ps p later in (inr r.0, r.1)
    ]
    | false ↦ λ t has. let r = of_passing ps p has in (inr r.0, r.1)
  ] refl has

  passing_are : (ps : List PageName) (p : PageName) → Contains (filter test ps) p ↔ (Contains ps p × (test p ≡ true))
  passing_are ps p = (
    λ has. let r = of_passing ps p (contains_in (filter test ps) p has) in (in_contains ps p r.0, r.1),
    λ both. in_contains (filter test ps) p (in_passing ps p (contains_in ps p both.0) both.1),
  )

  passing_once : (ps : List PageName) → EachOnce ps → EachOnce (filter test ps)
  passing_once [] once = tt
  passing_once (q ∷ ps) once = elim (test q) as (λ b. EachOnce (cond b (q ∷ filter test ps) (filter test ps))) [
    | true ↦ ((λ has. once.0 ((passing_are ps q).0 has).0), passing_once ps once.1)
    | false ↦ passing_once ps once.1
  ]

-- ---- slots that were left

indexes_both : (sbid : ℕ) (a b : List SlotNo) → indexes_of sbid (a ++ b) ≡ indexes_of sbid a ++ indexes_of sbid b
indexes_both sbid [] b = refl
indexes_both sbid (x ∷ a) b = by (x.sbid == sbid) (indexes_both sbid a b)
  where
    by : (t : Bool) → indexes_of sbid (a ++ b) ≡ indexes_of sbid a ++ indexes_of sbid b
        → cond t (x.index ∷ indexes_of sbid (a ++ b)) (indexes_of sbid (a ++ b)) ≡ cond t (x.index ∷ indexes_of sbid a) (indexes_of sbid a) ++ indexes_of sbid b
    by true rest = ap (λ l. x.index ∷ l) rest
    by false rest = rest

times_both : (a b : List ℕ) (index : ℕ) → times_in (a ++ b) index ≡ times_in a index + times_in b index
times_both [] b index = omega arith
times_both (k ∷ a) b index = by (k == index) (times_both a b index)
  where
    by : (t : Bool) → times_in (a ++ b) index ≡ times_in a index + times_in b index
        → cond t (1 + times_in (a ++ b) index) (times_in (a ++ b) index) ≡ cond t (1 + times_in a index) (times_in a index) + times_in b index
    by true rest = omega (arith, rest)
    by false rest = rest

-- the place is the slot
abbrev is_slot : ℕ → ℕ → Place → Bool
is_slot sbid index (own unit csum) = false
is_slot sbid index (slot s i) = (s == sbid) && (i == index)

module _ (c o : List ℕ) (sbid index : ℕ) where
  abbrev page_of : ℕ → PageName
  page_of page = record { coll = c; object = o; page = page }

  -- those of an object's pages that stand on the slot
  abbrev on_slot : List (ℕ × Place) → List PageName
  on_slot [] = []
  on_slot (e ∷ es) = cond (is_slot sbid index e.1) (page_of e.0 ∷ on_slot es) (on_slot es)

  -- they are as many as the slot is left by them
  on_slot_times : (es : List (ℕ × Place)) → length (on_slot es) ≡ times_in (indexes_of sbid (flat_map (λ p. slots_released p.1) es)) index
  on_slot_times [] = refl
  on_slot_times ((page, own unit csum) ∷ es) = on_slot_times es
  on_slot_times ((page, slot s i) ∷ es) = by (s == sbid) (i == index) (on_slot_times es) ∙ pushed (s == sbid)
    where
      left : List ℕ
      left = indexes_of sbid (flat_map (λ p. slots_released p.1) es)

      by : (t u : Bool) → length (on_slot es) ≡ times_in left index → length (cond (t && u) (page_of page ∷ on_slot es) (on_slot es))
          ≡ cond t (cond u (1 + times_in left index) (times_in left index)) (times_in left index)
      by true true rest = omega (arith, rest)
      by true false rest = rest
      by false u rest = rest

      pushed : (t : Bool) → cond t (cond (i == index) (1 + times_in left index) (times_in left index)) (times_in left index)
          ≡ times_in (cond t (i ∷ left) left) index
      pushed true = refl
      pushed false = refl

  is_slot_of : (place : Place) → is_slot sbid index place ≡ true → place ≡ slot sbid index
  is_slot_of (own unit csum) is = absurd cc
  is_slot_of (slot s i) is =
      let parts = and_parts (s == sbid) (i == index) is in
      λ j. slot (eqb-true s sbid parts.0 j) (eqb-true i index parts.1 j)

  slot_is : is_slot sbid index (slot sbid index) ≡ true
  slot_is = and_from (sbid == sbid) (index == index) (eq-eqb sbid sbid refl) (eq-eqb index index refl)

  of_on_slot : (es : List (ℕ × Place)) (p : PageName) → In (on_slot es) p → (p.coll ≡ c) × ((p.object ≡ o) × In es (p.page, slot sbid index))
  of_on_slot [] p has = absurd has
  of_on_slot (e ∷ es) p has = elim (is_slot sbid index e.1) as (λ b. is_slot sbid index e.1 ≡ b → In (cond b (page_of e.0 ∷ on_slot es) (on_slot es)) p
      → (p.coll ≡ c) × ((p.object ≡ o) × In (e ∷ es) (p.page, slot sbid index))) [
        | true ↦ λ t has. elim has [
          | inl same ↦ (
            ap (λ (q : PageName). q.coll) (sym same),
            (
              ap (λ (q : PageName). q.object) (sym same),
              inl (λ j. (ap (λ (q : PageName). q.page) same j, is_slot_of e.1 t j)),
            ),
          )
          | inr later ↦ let r = of_on_slot es p later in (r.0, (r.1.0, inr r.1.1))
        ]
        | false ↦ λ t has. let r = of_on_slot es p has in (r.0, (r.1.0, inr r.1.1))
      ] refl has

  in_on_slot : (es : List (ℕ × Place)) (p : PageName) → p.coll ≡ c → p.object ≡ o → In es (p.page, slot sbid index) → In (on_slot es) p
  in_on_slot [] p coll object has = absurd has
  in_on_slot (e ∷ es) p coll object has =
      elim (is_slot sbid index e.1) as (λ b. is_slot sbid index e.1 ≡ b → In (cond b (page_of e.0 ∷ on_slot es) (on_slot es)) p) [
        | true ↦ λ t. elim has [
          | inl same ↦ inl (λ j. record { coll = sym coll j; object = sym object j; page = ap (λ (q : ℕ × Place). q.0) same j })
          | inr later ↦ inr (in_on_slot es p coll object later)
        ]
        | false ↦ λ t. elim has [
          | inl same ↦ absurd (both_ways (is_slot sbid index e.1) t (ap (λ (q : ℕ × Place). is_slot sbid index q.1) same ∙ slot_is))
          | inr later ↦ in_on_slot es p coll object later
        ]
      ] refl

  above : (low : ℕ) (es : List (ℕ × Place)) (e : ℕ × Place) → T (below_all nat_cmp low es) → In es e → low < e.0
  above low [] e below has = absurd has
  above low (f ∷ es) e below (inl same) = omega (arith, less_is low f.0 (both_first _ _ below), ap (λ (q : ℕ × Place). q.0) same)
  above low (f ∷ es) e below (inr later) = above low es e (both_second _ _ below) later

  on_slot_once : (es : List (ℕ × Place)) → T (is_sorted nat_cmp es) → EachOnce (on_slot es)
  on_slot_once [] sorted = tt
  on_slot_once (e ∷ es) sorted = elim (is_slot sbid index e.1) as (λ b. EachOnce (cond b (page_of e.0 ∷ on_slot es) (on_slot es))) [
    | true ↦ (
      λ has.
          let there = of_on_slot es (page_of e.0) (contains_in (on_slot es) (page_of e.0) has) in
          let lower = above e.0 es (e.0, slot sbid index) (both_first _ (is_sorted nat_cmp es) sorted) there.1.1 in
          omega (arith, lower),
      on_slot_once es (both_second (below_all nat_cmp e.0 es) _ sorted),
    )
    | false ↦ on_slot_once es (both_second (below_all nat_cmp e.0 es) _ sorted)
  ]

-- ---- pages that an operation makes leave

none_pass : {X : Type 0} (es : List (ℕ × X)) → where_key nat_cmp (λ page. false) es ≡ []
none_pass [] = refl
none_pass (e ∷ es) = none_pass es

all_pass : {X : Type 0} (es : List (ℕ × X)) → where_key nat_cmp (λ page. true) es ≡ es
all_pass [] = refl
all_pass (e ∷ es) = ap (λ fs. e ∷ fs) (all_pass es)

-- Of the operation's object those pages leave their places that pass a test, and the others stay.
record PagesLeft (op : Op) (d : CollDraft) : Type 0 where
  test : ℕ → Bool
  left : pages_left op (object_before op d) ≡ where_key nat_cmp test (entries (or_new (object_before op d)).kept)
  kept : (page : ℕ) → finite.get (or_new (draft_after op d)).kept page ≡ cond (test page) None (finite.get (or_new (object_before op d)).kept page)

by_edit : (op : Op) (d : CollDraft)
    → pages_left op (object_before op d)
    ≡ option_map_or (λ e. where_key nat_cmp (is_touched e) (entries (or_new (object_before op d)).kept)) (edit_on op (object_before op d)) []
    → draft_after op d ≡ option_map_or (λ e. Some (drafted e d.taken (or_new (object_before op d)))) (edit_on op (object_before op d)) (object_before op d)
    → PagesLeft op d
by_edit op d left made = by (edit_on op (object_before op d)) left made
  where
    x : Option Draft
    x = object_before op d

    other_way : {X : Type 0} (t : Bool) (y : Option X) → cond (not t) y None ≡ cond t None y
    other_way true y = refl
    other_way false y = refl

    by : (z : Option Edit) → pages_left op x ≡ option_map_or (λ e. where_key nat_cmp (is_touched e) (entries (or_new x).kept)) z []
        → draft_after op d ≡ option_map_or (λ e. Some (drafted e d.taken (or_new x))) z x → PagesLeft op d
    by None left made = record {
      test = λ page. false;
      left = left ∙ sym (none_pass (entries (or_new x).kept));
      kept = λ page. ap (λ z. finite.get (or_new z).kept page) made;
    }
    by (Some e) left made = record {
      test = is_touched e;
      left = left;
      kept = λ page. ap (λ z. finite.get (or_new z).kept page) made
          ∙ retained_at (or_new x).kept (λ q. is_left (fate_of e (or_new x) q)) page
          ∙ ap (λ b. cond b (finite.get (or_new x).kept page) None) (left_is e.off (end_of e) e.clears (or_new x) page)
          ∙ other_way (is_touched e page) (finite.get (or_new x).kept page);
    }

left_by : (op : Op) (d : CollDraft) → PagesLeft op d
left_by (Remove o) d = record {
  test = λ page. true;
  left = sym (all_pass (entries (or_new (d.layout o)).kept));
  kept = λ page. finite.get-empty nat_cmp page;
}
left_by op d = by_edit op d refl refl

-- ---- one operation

module _ (c : List ℕ) (op : Op) (d : CollDraft) (named : (p : ℕ × Place) → Contains (pages_left op (object_before op d)) p → IsName (object_of op)) where
  abbrev o : List ℕ
  o = object_of op

  abbrev after : CollDraft
  after = with_op op d

  abbrev pages : PagesLeft op d
  pages = left_by op d

  abbrev leaves : PageName → Bool
  leaves p = is_same p.object o && pages.test p.page

  -- a page stands where it stood but if it leaves
  kept_or_left : (u : List ℕ) (page : ℕ) → finite.get (or_new (after.layout u)).kept page
      ≡ cond (is_same u o && pages.test page) None (finite.get (or_new (d.layout u)).kept page)
  kept_or_left u page = by (is_same u o) refl
    where
      by : (b : Bool) → is_same u o ≡ b → finite.get (or_new (cond b (draft_after op d) (d.layout u))).kept page
          ≡ cond (b && pages.test page) None (finite.get (or_new (d.layout u)).kept page)
      by true p = pages.kept page ∙ ap (λ v. cond (pages.test page) None (finite.get (or_new (d.layout v)).kept page)) (sym (same_is u o p))
      by false p = refl

  module _ (sbid index : ℕ) (still : List PageName) (are : AreThose (NamesStill c d sbid index) still) where
    abbrev stay : List PageName
    stay = filter (λ p. not (leaves p)) still

    abbrev go : List PageName
    go = filter leaves still

    abbrev all_left : List (ℕ × Place)
    all_left = pages_left op (object_before op d)

    abbrev left : List PageName
    left = on_slot c o sbid index all_left

    unless : {X : Type 0} (b : Bool) (x : Option X) (y : X) → cond b None x ≡ Some y → (x ≡ Some y) × (not b ≡ true)
    unless true x y is = absurd cc
    unless false x y is = (is, refl)

    stay_are : AreThose (NamesStill c after sbid index) stay
    stay_are = record {
      each = λ p. (
        λ has.
            let both = (passing_are (λ p. not (leaves p)) still p).0 has in
            let names = (are.each p).0 both.0 in
            record {
              coll = names.coll;
              named = names.named;
              stands = kept_or_left p.object p.page
                  ∙ ap (λ b. cond b None (finite.get (or_new (d.layout p.object)).kept p.page)) (not-true (leaves p) both.1) ∙ names.stands;
            },
        λ names.
            let was = unless (leaves p) (finite.get (or_new (d.layout p.object)).kept p.page) (slot sbid index)
            (sym (kept_or_left p.object p.page) ∙ names.stands) in
            (passing_are (λ p. not (leaves p)) still p).1
            ((are.each p).1 (record { coll = names.coll; named = names.named; stands = was.0 }), was.1),
      );
      once = passing_once (λ p. not (leaves p)) still are.once;
    }

    go_left : (p : PageName) → Contains go p → Contains left p
    go_left p has =
        let both = (passing_are leaves still p).0 has in
        let names = (are.each p).0 both.0 in
        let parts = and_parts (is_same p.object o) (pages.test p.page) both.1 in
        let object : p.object ≡ o = same_is p.object o parts.0 in
        let stood : finite.get (or_new (d.layout o)).kept p.page ≡ Some (slot sbid index) =
        ap (λ u. finite.get (or_new (d.layout u)).kept p.page) (sym object) ∙ names.stands in
        let among : In all_left (p.page, slot sbid index) = contains_in all_left (p.page, slot sbid index)
        (subst (λ es. Contains es (p.page, slot sbid index)) (sym pages.left)
        ((where_are pages.test (or_new (d.layout o)).kept p.page (slot sbid index)).1 (stood, parts.1))) in
        in_contains left p (in_on_slot c o sbid index all_left p names.coll object among)

    left_go : (p : PageName) → Contains left p → Contains go p
    left_go p has =
        let there = of_on_slot c o sbid index all_left p (contains_in left p has) in
        let among = in_contains all_left (p.page, slot sbid index) there.1.1 in
        let both = (where_are pages.test (or_new (d.layout o)).kept p.page (slot sbid index)).0
        (subst (λ es. Contains es (p.page, slot sbid index)) pages.left among) in
        let names : NamesStill c d sbid index p = record {
          coll = there.0;
          named = subst IsName (sym there.1.0) (named (p.page, slot sbid index) among);
          stands = ap (λ u. finite.get (or_new (d.layout u)).kept p.page) there.1.0 ∙ both.0;
        } in
        (passing_are leaves still p).1
        ((are.each p).1 names, and_from (is_same p.object o) (pages.test p.page) (ap (λ u. is_same u o) there.1.0 ∙ itself o) both.1)

    left_once : EachOnce left
    left_once = on_slot_once c o sbid index all_left (subst (λ es. T (is_sorted nat_cmp es)) (sym pages.left)
        (is_sorted-where_key nat_cmp pages.test (entries (or_new (d.layout o)).kept) (entries_sorted (or_new (d.layout o)).kept)))

    go_stay : length still ≡ length stay + times_in (indexes_of sbid (slots_on op d)) index
    go_stay = omega (
      arith,
      length-filter_both leaves (λ p. not (leaves p)) (λ p. refl) still,
      not_more go left (passing_once leaves still are.once) go_left,
      not_more left go left_once left_go,
      on_slot_times c o sbid index all_left,
    )

-- only of a named object pages leave their places
named_left : (op : Op) (d : CollDraft) → IsTaken d op → (p : ℕ × Place) → Contains (pages_left op (object_before op d)) p → IsName (object_of op)
named_left op d taken p has = elim (on_object_or op d taken) [
  | inl on ↦ on.1.named
  | inr coll ↦ elim coll [
    | inl is ↦ none (subst (λ q. Contains (pages_left q (object_before q d)) p) is has)
    | inr is ↦ none (subst (λ q. Contains (pages_left q (object_before q d)) p) is has)
  ]
]
  where
    none : {P : Type 0} → Contains [] p → P
    none has = absurd (omega (arith, has.1))

balanced_with : (c : List ℕ) (layouts : List ℕ → Option Layout) (op : Op) (d : CollDraft) → IsTaken d op → AreBalanced c layouts d
    → AreBalanced c layouts (with_op op d)
balanced_with c layouts op d taken balance sbid index those are =
    let was = balance sbid index those are in
    let named = named_left op d taken in (
      stay c op d named sbid index was.0 was.1,
      stay_are c op d named sbid index was.0 was.1,
      omega (
        arith,
        was.2,
        go_stay c op d named sbid index was.0 was.1,
        ap (λ ks. times_in ks index) (indexes_both sbid d.unshared (slots_on op d)),
        times_both (indexes_of sbid d.unshared) (indexes_of sbid (slots_on op d)) index,
      ),
    )

-- ---- operations

balanced_by : (c : List ℕ) (layouts : List ℕ → Option Layout) (ops : List Op) (d : CollDraft) → AreTaken ops d → AreBalanced c layouts d
    → AreBalanced c layouts (with_ops ops d)
balanced_by c layouts [] d taken balance = balance
balanced_by c layouts (op ∷ ops) d taken balance = balanced_by c layouts ops (with_op op d) taken.1 (balanced_with c layouts op d taken.0 balance)

-- where nothing was left, all pages stand where they stood
all_stand : (c : List ℕ) (layouts : List ℕ → Option Layout) (start : CollDraft) → start.unshared ≡ []
    → ((o : List ℕ) → IsName o → start.layout o ≡ option_map draft_of (layouts o)) → AreBalanced c layouts start
all_stand c layouts start none drafts sbid index those are = (
  those,
  record {
    each = λ p. (
      λ has. let names = (are.each p).0 has in
          record { coll = names.coll; named = names.named; stands = same p.object names.named p.page ∙ names.stood },
      λ names. (are.each p).1 (record { coll = names.coll; named = names.named; stood = sym (same p.object names.named p.page) ∙ names.stands }),
    );
    once = are.once;
  },
  omega (arith, ap (λ xs. times_in (indexes_of sbid xs) index) none),
)
  where
    pages_of : (x : Option Layout) (page : ℕ) → finite.get (or_new (option_map draft_of x)).kept page ≡ finite.get (or_empty x).pages page
    pages_of None page = refl
    pages_of (Some x) page = refl

    same : (u : List ℕ) → IsName u → (page : ℕ) → finite.get (or_new (start.layout u)).kept page ≡ finite.get (or_empty (layouts u)).pages page
    same u name page = ap (λ x. finite.get (or_new x).kept page) (drafts u name) ∙ pages_of (layouts u) page

pub balanced : (c : List ℕ) (layouts : List ℕ → Option Layout) (ops : List Op) (start : CollDraft) → AreTaken ops start → start.unshared ≡ []
    → ((o : List ℕ) → IsName o → start.layout o ≡ option_map draft_of (layouts o)) → AreBalanced c layouts (with_ops ops start)
balanced c layouts ops start taken none drafts = balanced_by c layouts ops start taken (all_stand c layouts start none drafts)
