-- A walk over the names of a collection's objects, and that it ends.
use Rattle.std.proofs.Common.{◌≡◌, ◌≢◌, ℕ, ◌<◌, ◌≤◌, Bool, true, false, cond, List, [], ◌∷◌}
use Rattle.std.proofs.Common.{◌++◌, length, Option, Some, None, MatchOption, refl, sym, ap, subst, ◌∙◌, arith}
use Rattle.std.specs.Option.{IfSome}
use Rattle.std.specs.Ordering.{is_eq}
use Rattle.std.specs.declared.cmp.Ordering.{Ordering}
use Rattle.std.specs.declared.cmp.Ordering.TheVariants.{Less, Equal, Greater}
use Rattle.std.specs.FinMap as map
use Rattle.std.specs.FinMap.{find}
use Rattle.std.specs.FinMap.Entries.{where_key}
use Rattle.byte_maps.specs.ByteMap.{byte_order, in_range}
use Rattle.byte_maps.proofs.Prelude.{same_bytes}
use Rattle.meta_rows.specs.Prelude.{Rows, rows_from_to}
use Rattle.unit_fields.specs.Prelude.{IsName}
use Rattle.row_format.specs.Prelude.{onode_key}
use Rattle.read_facts.specs.Prelude.{IsObject, IsNextOf, IsPast, AreNext, last_of, AreAll}
use Rattle.read_facts.proofs.Walks.{next_appended, last_appended}
use Rattle.onode_codec.specs.Fronts.{objects_first, objects_end}
use Rattle.object_rows.proofs.NamesKeys.{onode_within, own_before, range_within}
use Rattle.object_rows.proofs.NamesNext.{there_is}

-- ---- fewer entries

-- a row: its key and its value
abbrev Entry : Type 0
Entry = List ℕ × List ℕ

-- a test for the same
is_equal : (r : Ordering) → is_eq r ≡ true → r ≡ Equal
is_equal Less h = absurd cc
is_equal Equal h = refl
is_equal Greater h = absurd cc

-- one entry more, by two tests of which the first passes where the second does
one_kept : (e : Entry) (ps qs : List Entry) (b d : Bool) → (d ≡ true → b ≡ true) → length qs ≤ length ps
    → length (cond d (e ∷ qs) qs) ≤ length (cond b (e ∷ ps) ps)
one_kept e ps qs true true f le = omega (arith, le)
one_kept e ps qs true false f le = omega (arith, le)
one_kept e ps qs false true f le = let no = f refl in absurd cc
one_kept e ps qs false false f le = le

-- the same, where what stands behind makes a difference
one_later : (e : Entry) (ps qs : List Entry) (b d : Bool) → (d ≡ true → b ≡ true) → length qs < length ps
    → length (cond d (e ∷ qs) qs) < length (cond b (e ∷ ps) ps)
one_later e ps qs true true f lt = omega (arith, lt)
one_later e ps qs true false f lt = omega (arith, lt)
one_later e ps qs false true f lt = let no = f refl in absurd cc
one_later e ps qs false false f lt = lt

-- one that the first alone passes
one_dropped : (e : Entry) (ps qs : List Entry) (b d : Bool) → b ≡ true → d ≡ false → length qs ≤ length ps
    → length (cond d (e ∷ qs) qs) < length (cond b (e ∷ ps) ps)
one_dropped e ps qs true true t f le = absurd cc
one_dropped e ps qs true false t f le = omega (arith, le)
one_dropped e ps qs false d t f le = absurd cc

module _ (p q : List ℕ → Bool) (within : (k : List ℕ) → q k ≡ true → p k ≡ true) where
  -- the second test leaves no more than the first
  fewer : (es : List Entry) → length (where_key byte_order q es) ≤ length (where_key byte_order p es)
  fewer [] = omega arith
  fewer (e ∷ es) = one_kept e (where_key byte_order p es) (where_key byte_order q es) (p e.0) (q e.0) (within e.0) (fewer es)

  -- an entry's key that the first test alone passes makes a difference
  dropped : (key value : List ℕ) → p key ≡ true → q key ≡ false → (es : List Entry) → find byte_order key es ≡ Some value
      → length (where_key byte_order q es) < length (where_key byte_order p es)
  dropped key value there gone [] is = absurd cc
  dropped key value there gone (e ∷ es) is =
      let ps : List Entry = where_key byte_order p es in
      let qs : List Entry = where_key byte_order q es in
      elim (is_eq (byte_order key e.0)) as (λ b. is_eq (byte_order key e.0) ≡ b → cond b (Some e.1) (find byte_order key es) ≡ Some value
      → length (where_key byte_order q (e ∷ es)) < length (where_key byte_order p (e ∷ es))) [
        | true ↦ λ t h.
            let same : key ≡ e.0 = same_bytes key e.0 (is_equal (byte_order key e.0) t) in
            one_dropped e ps qs (p e.0) (q e.0) (sym (ap p same) ∙ there) (sym (ap q same) ∙ gone) (fewer es)
        | false ↦ λ t h. one_later e ps qs (p e.0) (q e.0) (within e.0) (dropped key value there gone es h)
      ] refl is

-- what is not true is false
not_so : (b : Bool) → b ≢ true → b ≡ false
not_so true h = absurd (h refl)
not_so false h = refl

module _ (rows : Rows) (c : List ℕ) where
  -- how many rows are left behind an object
  abbrev pub rows_left : Option (List ℕ) → ℕ
  rows_left after = length (rows_from_to rows (objects_first c after) (Some (objects_end c)))

  -- behind the next object fewer are left
  pub fewer_left : (after : Option (List ℕ)) (name : List ℕ) → IfSome after IsName → IsNextOf (IsObject rows c) after name
      → rows_left (Some name) < rows_left after
  fewer_left after name named next =
      let key : List ℕ = onode_key c name in
      let value = there_is (map.get rows key) next.is.there in
      dropped (in_range (objects_first c after) (objects_end c)) (in_range (objects_first c (Some name)) (objects_end c))
      (range_within c name after named next.is.named next.behind) key value.0
      (onode_within c name after named next.is.named next.behind)
      (not_so (in_range (objects_first c (Some name)) (objects_end c) key) (own_before c name next.is.named))
      (map.entries rows) (sym (map.get-entries rows key) ∙ value.1)

  -- ---- the next name, as it is found

  -- a name that was found is the next one
  pub found_next : (found after last : Option (List ℕ)) (name : List ℕ) → after ≡ last → found ≡ Some name
      → MatchOption found (IsPast (IsObject rows c) after) (IsNextOf (IsObject rows c) after) → IsNextOf (IsObject rows c) last name
  found_next found after last name same is next =
      subst (λ (x : Option (List ℕ)). IsNextOf (IsObject rows c) x name) same
      (subst (λ (f : Option (List ℕ)). MatchOption f (IsPast (IsObject rows c) after) (IsNextOf (IsObject rows c) after)) is next)

  -- where none was found there is none
  pub found_none : (found after last : Option (List ℕ)) → after ≡ last → found ≡ None
      → MatchOption found (IsPast (IsObject rows c) after) (IsNextOf (IsObject rows c) after) → IsPast (IsObject rows c) last
  found_none found after last same is next =
      subst (IsPast (IsObject rows c)) same
      (subst (λ (f : Option (List ℕ)). MatchOption f (IsPast (IsObject rows c) after) (IsNextOf (IsObject rows c) after)) is next)

  -- ---- the names so far

  -- The names are the first ones, and this is the last of them.
  pub record AreFirstNames (names : List (List ℕ)) (last : Option (List ℕ)) : Type 0 where
    pub next : AreNext (IsObject rows c) None names
    pub last_is : last_of None names ≡ last
    pub named : IfSome last IsName

  -- no names are
  pub no_name : AreFirstNames [] None
  no_name = record { next = tt; last_is = refl; named = tt }

  -- with the next one more they are
  pub one_name_more : (names : List (List ℕ)) (last : Option (List ℕ)) (name : List ℕ) → AreFirstNames names last
      → IsNextOf (IsObject rows c) last name → AreFirstNames (names ++ name ∷ []) (Some name)
  one_name_more names last name are next = record {
    next = next_appended (IsObject rows c) None names name are.next
        (subst (λ (x : Option (List ℕ)). IsNextOf (IsObject rows c) x name) (sym are.last_is) next);
    last_is = last_appended None names name;
    named = next.is.named;
  }

  -- with none behind the last, these are all
  pub all_names : (names : List (List ℕ)) (last : Option (List ℕ)) → AreFirstNames names last → IsPast (IsObject rows c) last
      → AreAll (IsObject rows c) names
  all_names names last are past = record {
    next = are.next;
    past = subst (IsPast (IsObject rows c)) (sym are.last_is) past;
  }
