-- Walks over collections and objects: what was seen grows by what comes next, each name has a row above those before it, so a walk ends, and the
-- text grows by the lines of each.
use Rattle.std.proofs.Common.{◌≡◌, ℕ, ◌+◌, ◌≤◌, ◌<◌, Bool, true, false, cond, ◌||◌, List, [], ◌∷◌, ◌++◌}
use Rattle.std.proofs.Common.{Option, Some, None, MatchOption, is_some, Result, Ok, Err, refl, sym, ap, subst, ◌∙◌, arith, append-nil, codes}
use Rattle.std.specs.Prelude.{IfSome}
use Rattle.std.specs.List.{AllByRecursion}
use Rattle.std.specs.FinMap as finite
use Rattle.std.specs.FinMap.Entries.{find}
use Rattle.std.specs.Ordering.{is_eq, is_lt}
use Rattle.std.specs.declared.cmp.Ordering.{Ordering}
use Rattle.std.specs.declared.cmp.Ordering.TheVariants.{Less, Equal, Greater}
use Rattle.std.proofs.Math.Bool.{or_assoc, or-false}
use Rattle.std.proofs.lemmas.Cmp.{nat_list_cmp_total, tied_itself}
use Rattle.std.proofs.lemmas.Grind.{flat_map-append}
use Rattle.std.proofs.lemmas.List.{map-append, flat_map_more}
use Rattle.std.proofs.lemmas.List.Folds.{list_any-append}
use Rattle.byte_maps.specs.ByteMap.{byte_order}
use Rattle.byte_maps.proofs.Prelude.{same_bytes}
use Rattle.block_device.specs.Prelude.{Disk}
use Rattle.meta_rows.specs.Prelude.{Rows}
use Rattle.meta_log.specs.Prelude.{width_of}
use Rattle.store_steps.specs.Prelude.{State}
use Rattle.meta_rows.proofs.PartLemmas.{less}
use Rattle.unit_fields.specs.declared.width.Width.{Width}
use Rattle.row_format.specs.Prelude.{coll_key, onode_key}
use Rattle.object_reader.specs.Readable.{IsNextView}
use Rattle.object_rows.proofs.NamesOrder.{same_first}
use Rattle.object_rows.proofs.NamesKeys.{onodes_in_order}
use Rattle.read_facts.specs.Prelude.{IsHeldAt, no_memory, IsCollection, IsObject, IsNextOf, IsPast, AreNext, last_of, IsViewOf, object_names, coll_names, IsViewed, IsWhole, AreWholeButLast, WalksTo, WalksAll}
use Rattle.read_facts.specs.declared.view.CollView.{CollView}
use Rattle.read_facts.specs.declared.view.ObjectView.{ObjectView}
use Rattle.read_facts.proofs.Walks.{next_appended, last_appended}
use Rattle.flight_facts.proofs.Prelude.{all_join}
use Rattle.book_facts.proofs.Commits.{one_if}
use Rattle.store_kernel.specs.declared.unanswered.WalkFail.{WalkFail}
use Rattle.script_text.specs.Prelude.{escaped}
use Rattle.run_texts.specs.Prelude.{Output, as_text, object_lines, coll_lines, is_bad, DumpSoFar, AddsLines, AddsWalk}
use Rattle.run_texts.specs.DumpTexts.{has_bad_object}
use Rattle.run_texts.proofs.TextLemmas.{as_text-append}
use Rattle.run_texts.proofs.Adding.{both, said, nothing}
use Rattle.bstore_top.specs.Prelude.{AtEnd, PrintsColl, PrintsWalk}

-- ---- the rows above a name

-- a row: its key and its value
abbrev Entry : Type 0
Entry = List ℕ × List ℕ

-- a test for the same bytes says so
is_equal : (r : Ordering) → is_eq r ≡ true → r ≡ Equal
is_equal Less is = absurd cc
is_equal Equal is = refl
is_equal Greater is = absurd cc

-- how many rows have keys that pass
abbrev count_keys : (List ℕ → Bool) → List Entry → ℕ
count_keys p [] = 0
count_keys p (e ∷ es) = one_if (p e.0) + count_keys p es

-- what passes the second test passes the first
one_less : (b d : Bool) → (d ≡ true → b ≡ true) → one_if d ≤ one_if b
one_less true true all = omega arith
one_less true false all = omega arith
one_less false true all = let no = all refl in absurd cc
one_less false false all = omega arith

module _ (p q : List ℕ → Bool) (within : (k : List ℕ) → q k ≡ true → p k ≡ true) where
  no_more : (es : List Entry) → count_keys q es ≤ count_keys p es
  no_more [] = omega arith
  no_more (e ∷ es) = omega (arith, one_less (p e.0) (q e.0) (within e.0), no_more es)

  -- a key that is there and passes the first alone makes a difference
  fewer : (key : List ℕ) → p key ≡ true → q key ≡ false → (es : List Entry) → is_some (find byte_order key es) ≡ true
      → count_keys q es < count_keys p es
  fewer key there gone [] is = absurd cc
  fewer key there gone (e ∷ es) is =
      elim (is_eq (byte_order key e.0)) as (λ b. is_eq (byte_order key e.0) ≡ b → is_some (cond b (Some e.1) (find byte_order key es)) ≡ true
      → count_keys q (e ∷ es) < count_keys p (e ∷ es)) [
        | true ↦ λ t h.
            let same : key ≡ e.0 = same_bytes key e.0 (is_equal (byte_order key e.0) t) in
            let one : one_if (p e.0) ≡ 1 = ap one_if (sym (ap p same) ∙ there) in
            let none : one_if (q e.0) ≡ 0 = ap one_if (sym (ap q same) ∙ gone) in
            omega (arith, one, none, no_more es)
        | false ↦ λ t h. omega (arith, one_less (p e.0) (q e.0) (within e.0), fewer key there gone es h)
      ] refl is

-- the key is above that of a name, if there is one
abbrev is_above : (List ℕ → List ℕ) → Option (List ℕ) → List ℕ → Bool
is_above key None k = true
is_above key (Some name) k = is_lt (byte_order (key name) k)

-- how many rows have such keys
abbrev pub rows_above : (List ℕ → List ℕ) → Rows → Option (List ℕ) → ℕ
rows_above key rows last = count_keys (is_above key last) (finite.entries rows)

module _ (Is : List ℕ → Type 0) (key : List ℕ → List ℕ) (rows : Rows) (there : (n : List ℕ) → Is n → is_some (finite.get rows (key n)) ≡ true)
    (in_order : (n m : List ℕ) → Is n → Is m → byte_order n m ≡ Less → byte_order (key n) (key m) ≡ Less) where
  -- a key of a name behind another one is above
  next_above : (last : Option (List ℕ)) (name : List ℕ) → IfSome last Is → IsNextOf Is last name → is_above key last (key name) ≡ true
  next_above None name is next = refl
  next_above (Some before) name is next = ap is_lt (in_order before name is next.is next.behind)

  -- so are all above that
  all_above : (last : Option (List ℕ)) (name : List ℕ) → IfSome last Is → IsNextOf Is last name → (k : List ℕ)
      → is_above key (Some name) k ≡ true → is_above key last k ≡ true
  all_above None name is next k up = refl
  all_above (Some before) name is next k up =
      ap is_lt (nat_list_cmp_total.trans (key before) (key name) k (in_order before name is next.is next.behind) (less (byte_order (key name) k) up))

  -- fewer are above the next name
  fewer_above : (last : Option (List ℕ)) (name : List ℕ) → IfSome last Is → IsNextOf Is last name
      → rows_above key rows (Some name) < rows_above key rows last
  fewer_above last name is next =
      fewer (is_above key last) (is_above key (Some name)) (all_above last name is next) (key name) (next_above last name is next)
      (ap is_lt (tied_itself nat_list_cmp_total (key name))) (finite.entries rows)
      (ap is_some (sym (finite.get-entries rows (key name))) ∙ there name next.is)

-- fewer rows are above the next collection
pub fewer_colls : (rows : Rows) (last : Option (List ℕ)) (c : List ℕ) → IfSome last (IsCollection rows) → IsNextOf (IsCollection rows) last c
    → rows_above coll_key rows (Some c) < rows_above coll_key rows last
fewer_colls rows = fewer_above (IsCollection rows) coll_key rows (λ n is. is.there) (λ n m is_n is_m behind. same_first 0x43 n m ∙ behind)

-- and above the next object
pub fewer_objects : (rows : Rows) (c : List ℕ) (last : Option (List ℕ)) (o : List ℕ) → IfSome last (IsObject rows c)
    → IsNextOf (IsObject rows c) last o
    → rows_above (onode_key c) rows (Some o) < rows_above (onode_key c) rows last
fewer_objects rows c = fewer_above (IsObject rows c) (onode_key c) rows (λ n is. is.there)
    (λ n m is_n is_m behind. onodes_in_order c n m is_n.named is_m.named behind)

-- ---- lines behind lines

-- none, of no collection
pub no_walk : (p : DumpSoFar) (o : Output) → AddsWalk [] p p o o
no_walk p o = record { adds = nothing p.text o; noted = sym (or-false p.bad) }

-- the same lines, said otherwise
lines_said : {p q : DumpSoFar} {o1 o2 : Output} {a b : List (List ℕ)} {x y : Bool} → a ≡ b → x ≡ y → AddsLines a x p q o1 o2 → AddsLines b y p q o1 o2
lines_said {p} {q} {o1} {o2} {a} {b} {x} {y} same bad lines = record {
  adds = said (ap (λ (l : List (List ℕ)). as_text l) same) lines.adds;
  noted = lines.noted ∙ ap (λ (z : Bool). p.bad || z) bad;
}

module _ {p q r : DumpSoFar} {o1 o2 o3 : Output} where
  lines_both : {a b : List (List ℕ)} {x y : Bool} → AddsLines a x p q o1 o2 → AddsLines b y q r o2 o3 → AddsLines (a ++ b) (x || y) p r o1 o3
  lines_both {a} {b} {x} {y} first second = record {
    adds = said (sym (as_text-append a b)) (both first.adds second.adds);
    noted = second.noted ∙ ap (λ (z : Bool). z || y) first.noted ∙ or_assoc p.bad x y;
  }

  -- collections behind collections
  walk_both : (colls more : List CollView) → AddsWalk colls p q o1 o2 → AddsWalk more q r o2 o3 → AddsWalk (colls ++ more) p r o1 o3
  walk_both colls more first second = lines_said (sym (flat_map-append coll_lines colls more)) (sym (list_any-append has_bad_object colls more))
      (lines_both first second)

  -- a collection, and one more of its objects
  object_behind : (v : CollView) (o : ObjectView) → AddsWalk (v ∷ []) p q o1 o2 → AddsLines (object_lines o) (is_bad o.sum) q r o2 o3
      → AddsWalk (record { coll = v.coll; objects = v.objects ++ o ∷ [] } ∷ []) p r o1 o3
  object_behind v o walked added = lines_said lines bad (lines_both walked added)
    where
      more : CollView
      more = record { coll = v.coll; objects = v.objects ++ o ∷ [] }

      lines : (coll_lines v ++ []) ++ object_lines o ≡ coll_lines more ++ []
      lines = ap (λ (l : List (List ℕ)). l ++ object_lines o) (append-nil (coll_lines v))
          ∙ flat_map_more object_lines ((codes "coll " ++ escaped v.coll) ∷ []) v.objects o ∙ sym (append-nil (coll_lines more))

      bad : ((has_bad_object v || false) || is_bad o.sum) ≡ (has_bad_object more || false)
      bad = simp (or-false, list_any-append)

-- ---- what a kernel found, in the words of the walk

module _ (Is : List ℕ → Type 0) where
  pub next_found : (found after last : Option (List ℕ)) (name : List ℕ) → after ≡ last → found ≡ Some name
      → MatchOption found (IsPast Is after) (IsNextOf Is after) → IsNextOf Is last name
  next_found found after last name same is next =
      subst (λ (x : Option (List ℕ)). IsNextOf Is x name) same
      (subst (λ (f : Option (List ℕ)). MatchOption f (IsPast Is after) (IsNextOf Is after)) is next)

  -- where none was found there is none
  pub none_found : {X : Type 0} (Next : X → Type 0) (found : Option X) (after last : Option (List ℕ)) → after ≡ last → found ≡ None
      → MatchOption found (IsPast Is after) Next → IsPast Is last
  none_found {X} Next found after last same is next =
      subst (IsPast Is) same (subst (λ (f : Option X). MatchOption f (IsPast Is after) Next) is next)

-- a collection that was found is the next one
pub coll_found : (rows later : Rows) (found : Option (List ℕ)) (after last : Option (List ℕ)) (c : List ℕ) → later ≡ rows → after ≡ last
    → found ≡ Some c → MatchOption found (IsPast (IsCollection later) after) (IsNextOf (IsCollection later) after) → IsNextOf (IsCollection rows) last c
coll_found rows later found after last c same last_is is next =
    subst (λ (r : Rows). IsNextOf (IsCollection r) last c) same (next_found (IsCollection later) found after last c last_is is next)

-- where none was found there is none behind the last one
pub none_behind : (rows later : Rows) (found : Option (List ℕ)) (after last : Option (List ℕ)) → later ≡ rows → after ≡ last → found ≡ None
    → MatchOption found (IsPast (IsCollection later) after) (IsNextOf (IsCollection later) after) → IsPast (IsCollection rows) last
none_behind rows later found after last same last_is is next =
    subst (λ (r : Rows). IsPast (IsCollection r) last) same
    (none_found (IsCollection later) (IsNextOf (IsCollection later) after) found after last last_is is next)

-- an object that was found is the next one, and the view is of it
pub view_found : (w : Width) (m : ℕ → Option (List ℕ)) (d e : Disk) (rows later : Rows) (c : List ℕ) (found : Option ObjectView) (after last : Option (List ℕ)) (o : ObjectView)
    → m ≡ no_memory → e ≡ d → later ≡ rows → after ≡ last → found ≡ Some o
    → MatchOption found (IsPast (IsObject later c) after) (IsNextView w m (IsHeldAt e) later c after)
    → IsNextView w no_memory (IsHeldAt d) rows c last o
view_found w m d e rows later c found after last o nothing device same last_is is next =
    let at : IsNextView w m (IsHeldAt e) later c after o =
    subst (λ (f : Option ObjectView). MatchOption f (IsPast (IsObject later c) after) (IsNextView w m (IsHeldAt e) later c after)) is next in
    subst (λ (x : Option (List ℕ)). IsNextView w no_memory (IsHeldAt d) rows c x o) last_is
    (subst (λ (r : Rows). IsNextView w no_memory (IsHeldAt d) r c after o) same
    (subst (λ (x : Disk). IsNextView w no_memory (IsHeldAt x) later c after o) device
    (subst (λ (n : ℕ → Option (List ℕ)). IsNextView w n (IsHeldAt e) later c after o) nothing at)))

-- ---- objects that were seen

module _ (w : Width) (d : Disk) (rows : Rows) where
  pub none_viewed : (v : CollView) → v.objects ≡ [] → IsViewed w no_memory (IsHeldAt d) rows v
  none_viewed v none = record {
    next = subst (λ (os : List ObjectView). AreNext (IsObject rows v.coll) None (object_names os)) (sym none) tt;
    each = subst (λ (os : List ObjectView). AllByRecursion (IsViewOf w no_memory (IsHeldAt d) rows v.coll) os) (sym none) tt;
  }

  -- with the one that comes next
  pub one_viewed : (v seen : CollView) (o : ObjectView) → seen.coll ≡ v.coll → seen.objects ≡ v.objects ++ o ∷ []
      → IsViewed w no_memory (IsHeldAt d) rows v
      → IsNextView w no_memory (IsHeldAt d) rows v.coll (last_of None (object_names v.objects)) o → IsViewed w no_memory (IsHeldAt d) rows seen
  one_viewed v seen o coll more viewed next =
      let names : object_names seen.objects ≡ object_names v.objects ++ o.name ∷ [] =
      ap object_names more ∙ map-append (λ (x : ObjectView). x.name) v.objects (o ∷ []) in
      record {
        next = subst (λ (c : List ℕ). AreNext (IsObject rows c) None (object_names seen.objects)) (sym coll)
            (subst (AreNext (IsObject rows v.coll) None) (sym names)
            (next_appended (IsObject rows v.coll) None (object_names v.objects) o.name viewed.next next.next));
        each = subst (λ (c : List ℕ). AllByRecursion (IsViewOf w no_memory (IsHeldAt d) rows c) seen.objects) (sym coll)
            (subst (AllByRecursion (IsViewOf w no_memory (IsHeldAt d) rows v.coll)) (sym more)
            (all_join (IsViewOf w no_memory (IsHeldAt d) rows v.coll) v.objects (o ∷ []) viewed.each (next.view, tt)));
      }

  -- ---- collections that were seen

  -- all objects of each of them were
  pub record WalksWhole (colls : List CollView) : Type 0 where
    pub next : AreNext (IsCollection rows) None (coll_names colls)
    pub each : AllByRecursion (IsWhole w no_memory (IsHeldAt d) rows) colls

  -- none are, so far
  pub none_walked : (colls : List CollView) → colls ≡ [] → WalksWhole colls
  none_walked colls none = subst WalksWhole (sym none) (record { next = tt; each = tt })

  -- then all objects of each but the last were
  whole_but_last : (colls : List CollView) → AllByRecursion (IsWhole w no_memory (IsHeldAt d) rows) colls
      → AreWholeButLast w no_memory (IsHeldAt d) rows colls
  whole_but_last [] all = tt
  whole_but_last (v ∷ []) all = all.0.viewed
  whole_but_last (v ∷ w ∷ more) all = (all.0, whole_but_last (w ∷ more) all.1)

  -- and some objects of one more
  part_of_last : (colls : List CollView) (v : CollView) → AllByRecursion (IsWhole w no_memory (IsHeldAt d) rows) colls
      → IsViewed w no_memory (IsHeldAt d) rows v
      → AreWholeButLast w no_memory (IsHeldAt d) rows (colls ++ v ∷ [])
  part_of_last [] v all part = part
  part_of_last (w ∷ []) v all part = (all.0, part)
  part_of_last (w ∷ x ∷ more) v all part = (all.0, part_of_last (x ∷ more) v all.1 part)

  -- the walk has come so far
  pub so_far : (colls : List CollView) → WalksWhole colls → WalksTo w no_memory (IsHeldAt d) rows colls
  so_far colls walked = record { next = walked.next; each = whole_but_last colls walked.each }

  -- a collection that is next is so by its view
  next_view : (last : Option (List ℕ)) (c : List ℕ) (colls : List CollView) (v : CollView) → last_of None (coll_names colls) ≡ last → v.coll ≡ c
      → IsNextOf (IsCollection rows) last c → IsNextOf (IsCollection rows) (last_of None (coll_names colls)) v.coll
  next_view last c colls v last_is of_coll next =
      subst (IsNextOf (IsCollection rows) (last_of None (coll_names colls))) (sym of_coll)
      (subst (λ (x : Option (List ℕ)). IsNextOf (IsCollection rows) x c) (sym last_is) next)

  -- the names of the collections with the one that comes next
  names_more : (colls more : List CollView) (v : CollView) → more ≡ colls ++ v ∷ [] → WalksWhole colls
      → IsNextOf (IsCollection rows) (last_of None (coll_names colls)) v.coll → AreNext (IsCollection rows) None (coll_names more)
  names_more colls more v is walked next =
      let names : coll_names more ≡ coll_names colls ++ v.coll ∷ [] =
      ap coll_names is ∙ map-append (λ (x : CollView). x.coll) colls (v ∷ []) in
      subst (AreNext (IsCollection rows) None) (sym names)
      (next_appended (IsCollection rows) None (coll_names colls) v.coll walked.next next)

  -- with the collection that comes next, and all of its objects
  pub one_walked : (colls more : List CollView) (v : CollView) → more ≡ colls ++ v ∷ [] → WalksWhole colls
      → IsNextOf (IsCollection rows) (last_of None (coll_names colls)) v.coll → IsWhole w no_memory (IsHeldAt d) rows v → WalksWhole more
  one_walked colls more v is walked next whole = record {
    next = names_more colls more v is walked next;
    each = subst (AllByRecursion (IsWhole w no_memory (IsHeldAt d) rows)) (sym is)
        (all_join (IsWhole w no_memory (IsHeldAt d) rows) colls (v ∷ []) walked.each (whole, tt));
  }

  -- or some of its objects
  pub part_walked : (colls more : List CollView) (v : CollView) → more ≡ colls ++ v ∷ [] → WalksWhole colls
      → IsNextOf (IsCollection rows) (last_of None (coll_names colls)) v.coll → IsViewed w no_memory (IsHeldAt d) rows v
      → WalksTo w no_memory (IsHeldAt d) rows more
  part_walked colls more v is walked next part = record {
    next = names_more colls more v is walked next;
    each = subst (AreWholeButLast w no_memory (IsHeldAt d) rows) (sym is) (part_of_last colls v walked.each part);
  }

  -- where none comes next the walk has come to its end
  pub all_walked : (colls : List CollView) → WalksWhole colls → IsPast (IsCollection rows) (last_of None (coll_names colls))
      → WalksAll w no_memory (IsHeldAt d) rows colls
  all_walked colls walked past = record { all = record { next = walked.next; past = past }; each = walked.each }

  -- ---- what was printed

  module _ (p q : DumpSoFar) (o1 o2 : Output) where
    -- objects of a collection up to this last one were seen, and are printed
    pub record PrintedObjects (coll : List ℕ) (last : Option (List ℕ)) : Type 0 where
      pub view : CollView
      pub of_coll : view.coll ≡ coll
      pub viewed : IsViewed w no_memory (IsHeldAt d) rows view
      pub last_is : last_of None (object_names view.objects) ≡ last
      pub there : IfSome last (IsObject rows coll)
      pub printed : AddsWalk (view ∷ []) p q o1 o2

    -- so far none are, but the collection is
    pub no_objects : (c : List ℕ) → AddsLines (coll_lines (record { coll = c; objects = [] })) false p q o1 o2 → PrintedObjects c None
    no_objects c added =
        let v : CollView = record { coll = c; objects = [] } in
        record {
          view = v;
          of_coll = refl;
          viewed = none_viewed v refl;
          last_is = refl;
          there = tt;
          printed = lines_said (sym (append-nil (coll_lines v))) refl added;
        }

    -- some objects are printed of a collection whose walk has failed
    pub part_printed : (c : List ℕ) (last : Option (List ℕ)) (why : WalkFail) → PrintedObjects c last → PrintsColl w d rows c (Err why) p q o1 o2
    part_printed c last why done =
        record { view = done.view; of_coll = done.of_coll; viewed = done.viewed; whole = tt; printed = done.printed }

    -- or whose sink has
    pub cut_printed : (c : List ℕ) (last : Option (List ℕ)) (u : Unit {0}) → q.text.failed ≡ true → PrintedObjects c last
        → PrintsColl w d rows c (Ok u) p q o1 o2
    cut_printed c last u failed done =
        record { view = done.view; of_coll = done.of_coll; viewed = done.viewed; whole = λ good. absurd cc; printed = done.printed }

    -- all are where none comes next
    pub whole_printed : (c : List ℕ) (last : Option (List ℕ)) (u : Unit {0}) → PrintedObjects c last → IsPast (IsObject rows c) last
        → PrintsColl w d rows c (Ok u) p q o1 o2
    whole_printed c last u done past = record {
      view = done.view;
      of_coll = done.of_coll;
      viewed = done.viewed;
      whole = λ good. record {
        viewed = done.viewed;
        past = subst (λ (x : List ℕ). IsPast (IsObject rows x) (last_of None (object_names done.view.objects))) (sym done.of_coll)
            (subst (IsPast (IsObject rows c)) (sym done.last_is) past);
      };
      printed = done.printed;
    }

    -- all objects of collections up to this last one were seen, and are printed
    pub record PrintedColls (last : Option (List ℕ)) : Type 0 where
      pub colls : List CollView
      pub walked : WalksWhole colls
      pub last_is : last_of None (coll_names colls) ≡ last
      pub there : IfSome last (IsCollection rows)
      pub printed : AddsWalk colls p q o1 o2

    -- a walk has come so far where it has failed
    pub walk_failed : (last : Option (List ℕ)) (why : WalkFail) → PrintedColls last → PrintsWalk w d rows (Err why) p q o1 o2
    walk_failed last why done = record { colls = done.colls; walked = so_far done.colls done.walked; all = tt; printed = done.printed }

    -- to its end where none comes next
    pub walk_ended : (last : Option (List ℕ)) (u : Unit {0}) → PrintedColls last → IsPast (IsCollection rows) last
        → PrintsWalk w d rows (Ok u) p q o1 o2
    walk_ended last u done past = record {
      colls = done.colls;
      walked = so_far done.colls done.walked;
      all = λ good. all_walked done.colls done.walked (subst (IsPast (IsCollection rows)) (sym done.last_is) past);
      printed = done.printed;
    }

  -- so far none are
  pub no_colls : (p : DumpSoFar) (o : Output) → PrintedColls p p o o None
  no_colls p o = record { colls = []; walked = none_walked [] refl; last_is = refl; there = tt; printed = no_walk p o }

  -- a walk that came to no end says nothing of it
  no_end : (failed : Bool) (P : Type 0) (x : Result (Unit {0}) WalkFail) → AtEnd x failed ⊥ → AtEnd x failed P
  no_end failed P (Ok u) never = λ good. absurd (never good)
  no_end failed P (Err why) never = tt

  module _ {p q r : DumpSoFar} {o1 o2 o3 : Output} where
    -- one object more
    pub object_printed : (c : List ℕ) (last : Option (List ℕ)) (o : ObjectView) → PrintedObjects p q o1 o2 c last
        → IsNextView w no_memory (IsHeldAt d) rows c last o → AddsLines (object_lines o) (is_bad o.sum) q r o2 o3
        → PrintedObjects p r o1 o3 c (Some o.name)
    object_printed c last o done next added =
        let v : CollView = done.view in
        let more : CollView = record { coll = v.coll; objects = v.objects ++ o ∷ [] } in
        let names : object_names (v.objects ++ o ∷ []) ≡ object_names v.objects ++ o.name ∷ [] =
        map-append (λ (x : ObjectView). x.name) v.objects (o ∷ []) in
        record {
          view = more;
          of_coll = done.of_coll;
          viewed = one_viewed v more o refl refl done.viewed
              (subst (λ (l : Option (List ℕ)). IsNextView w no_memory (IsHeldAt d) rows v.coll l o) (sym done.last_is)
              (subst (λ (x : List ℕ). IsNextView w no_memory (IsHeldAt d) rows x last o) (sym done.of_coll) next));
          last_is = ap (last_of None) names ∙ last_appended None (object_names v.objects) o.name;
          there = next.next.is;
          printed = object_behind v o done.printed added;
        }

    -- one collection more
    pub coll_printed : (last : Option (List ℕ)) (c : List ℕ) (u : Unit {0}) → PrintedColls p q o1 o2 last → IsNextOf (IsCollection rows) last c
        → r.text.failed ≡ false → PrintsColl w d rows c (Ok u) q r o2 o3 → PrintedColls p r o1 o3 (Some c)
    coll_printed last c u done next good coll =
        let v : CollView = coll.view in
        let names : coll_names (done.colls ++ v ∷ []) ≡ coll_names done.colls ++ v.coll ∷ [] =
        map-append (λ (x : CollView). x.coll) done.colls (v ∷ []) in
        record {
          colls = done.colls ++ v ∷ [];
          walked = one_walked done.colls (done.colls ++ v ∷ []) v refl done.walked (next_view last c done.colls v done.last_is coll.of_coll next) (coll.whole good);
          last_is = ap (last_of None) names ∙ last_appended None (coll_names done.colls) v.coll ∙ ap (λ (x : List ℕ). Some x) coll.of_coll;
          there = next.is;
          printed = walk_both done.colls (v ∷ []) done.printed coll.printed;
        }

    -- or a part of one
    pub last_printed : (last : Option (List ℕ)) (c : List ℕ) (x : Result (Unit {0}) WalkFail) → AtEnd x r.text.failed ⊥ → PrintedColls p q o1 o2 last
        → IsNextOf (IsCollection rows) last c → PrintsColl w d rows c x q r o2 o3 → PrintsWalk w d rows x p r o1 o3
    last_printed last c x never done next coll =
        let v : CollView = coll.view in
        record {
          colls = done.colls ++ v ∷ [];
          walked = part_walked done.colls (done.colls ++ v ∷ []) v refl done.walked (next_view last c done.colls v done.last_is coll.of_coll next) coll.viewed;
          all = no_end r.text.failed (WalksAll w no_memory (IsHeldAt d) rows (done.colls ++ v ∷ [])) x never;
          printed = walk_both done.colls (v ∷ []) done.printed coll.printed;
        }

-- the sink has failed, or not, said otherwise
pub at_end_by : (P : Type 0) (r : Result (Unit {0}) WalkFail) (a b : Bool) → a ≡ b → AtEnd r b P → AtEnd r a P
at_end_by P r a b same all = subst (λ (x : Bool). AtEnd r x P) (sym same) all

-- what was printed of a collection of a kernel that is in this state
pub coll_at : (s later : State) (d e : Disk) (c : List ℕ) (r : Result (Unit {0}) WalkFail) (p q : DumpSoFar) (o1 o2 : Output) → later ≡ s → e ≡ d
    → PrintsColl (width_of later.log.sup) e later.submitted c r p q o1 o2 → PrintsColl (width_of s.log.sup) d s.submitted c r p q o1 o2
coll_at s later d e c r p q o1 o2 same device prints =
    subst (λ (z : State). PrintsColl (width_of z.log.sup) d z.submitted c r p q o1 o2) same
    (subst (λ (x : Disk). PrintsColl (width_of later.log.sup) x later.submitted c r p q o1 o2) device prints)
