-- Shards put one after the other, as the pages of a map are cut.
use Rattle.std.proofs.Common.{◌≡◌, ◌⊎◌, inl, inr, ℕ, ◌-◌, ◌<◌, ◌≤◌, Bool, true, false, List, [], ◌∷◌, ◌++◌, length, drop, Option, Some, None, refl, sym, ap, subst, ◌∙◌, arith}
use Rattle.std.specs.Prelude.{◌==◌, ◌||◌}
use Rattle.std.specs.List.{AllByRecursion}
use Rattle.std.specs.Ordering.{nat_cmp, eq_by_cmp}
use Rattle.std.specs.Cmp.{nat_cmp_total}
use Rattle.std.specs.FinSet as set
use Rattle.std.specs.FinSet.{same_set, nat_cmp-IsAntisymmetric}
use Rattle.std.proofs.lemmas.Bool.{cases_Bool, cases_lt}
use Rattle.std.proofs.lemmas.Bool.Decides.{nat_tests}
use Rattle.std.proofs.lemmas.List.{drop_all, length-drop}
use Rattle.unit_fields.specs.declared.width.Width.{Width}
use Rattle.meta_rows.specs.Prelude.{Rows}
use Rattle.row_format.specs.Prelude.{Extent, Place, BeginsAt}
use Rattle.bitmap_freelist.specs.Bitmap.{Units}
use Rattle.blob_map.specs.Prelude.{extents_of}
use Rattle.row_changes.specs.Prelude.{ChangeMap}
use Rattle.extent_shards.specs.Prelude.{shards_of, shard_limit, first_of, joined_extents}
use Rattle.extent_shards.proofs.Joins.{shards_back}
use Rattle.extent_shards.proofs.Openings.{HasExtent, all_full}
use Rattle.extent_shards.proofs.Fronts.{begins_at_first}
use Rattle.txn_planner.specs.Laying.{openings, first_page, with_first_page, is_single, with_shard, with_shards, ArePut}

-- the shards of pages
abbrev pub cut : Width → List (ℕ × Place) → List (List Extent)
cut w ps = shards_of w (Some shard_limit) (extents_of ps)

-- the first shard has come, and there are several if any page is left
pub record HaveBegun (w : Width) (ps left : List (ℕ × Place)) (behind : Units) : Type 0 where
  pub fewer : length left < length ps
  pub single : 0 < length left → is_single (cut w ps) ≡ false
  pub begin : openings (cut w left) (with_first_page (first_page ps) behind) ≡ openings (cut w ps) set.empty

-- those of the pages that are left are still to come, and then all have come
pub record AreLeft (w : Width) (rows : Rows) (c o : List ℕ) (ps left : List (ℕ × Place)) (behind : Units) (old now : ChangeMap) : Type 0 where
  pub come : with_shards w rows c o (is_single (cut w ps)) (cut w left) now ≡ with_shards w rows c o (is_single (cut w ps)) (cut w ps) old
  pub begun : ((left ≡ ps) × (behind ≡ set.empty)) ⊎ HaveBegun w ps left behind

-- before the first one
pub none_put : (w : Width) (rows : Rows) (c o : List ℕ) (ps : List (ℕ × Place)) (behind : Units) (old : ChangeMap) → behind ≡ set.empty
    → AreLeft w rows c o ps ps behind old old
none_put w rows c o ps behind old none = record { come = refl; begun = inl (refl, none) }

-- after the last one
pub all_put : (w : Width) (rows : Rows) (c o : List ℕ) (ps left : List (ℕ × Place)) (behind : Units) (old now : ChangeMap)
    → AreLeft w rows c o ps left behind old now → left ≡ [] → ArePut w rows c o ps behind old now
all_put w rows c o ps left behind old now are none = record {
  begin = elim are.begun [
    | inl first ↦ ap (λ l. with_first_page (first_page l) behind) (sym first.0 ∙ none) ∙ first.1
        ∙ ap (λ l. openings (cut w l) set.empty) (sym none ∙ first.0)
    | inr later ↦ ap (λ l. openings (cut w l) (with_first_page (first_page ps) behind)) (sym none) ∙ later.begin
  ];
  come = ap (λ l. with_shards w rows c o (is_single (cut w ps)) (cut w l) now) (sym none) ∙ are.come;
}

-- pages have a shard
some_shard : (w : Width) (ps : List (ℕ × Place)) → 0 < length ps → cut w ps ≡ [] → ⊥
some_shard w [] some none = absurd (omega (arith, some))
some_shard w (p ∷ ps) some none =
    let empty : extents_of (p ∷ ps) ≡ [] = sym (shards_back w (Some shard_limit) (extents_of (p ∷ ps))) ∙ ap joined_extents none in
    subst (BeginsAt p.0) empty (begins_at_first (p ∷ ps) p some)

-- and the first of them begins at the first page
first_begins : (w : Width) (ps : List (ℕ × Place)) (shard : List Extent) (rest : List (List Extent)) → 0 < length ps → cut w ps ≡ shard ∷ rest
    → first_page ps ≡ Some (first_of shard)
first_begins w [] shard rest some is = absurd (omega (arith, some))
first_begins w (p ∷ ps) [] rest some is =
    absurd (subst (AllByRecursion HasExtent) is (all_full w (Some shard_limit) (extents_of (p ∷ ps)))).0
first_begins w (p ∷ ps) (e ∷ es) rest some is =
    let joined : extents_of (p ∷ ps) ≡ e ∷ (es ++ joined_extents rest) =
    sym (shards_back w (Some shard_limit) (extents_of (p ∷ ps))) ∙ ap joined_extents is in
    let at : e.first ≡ p.0 = subst (BeginsAt p.0) joined (begins_at_first (p ∷ ps) p some) in
    ap Some (sym at)

several : (shard : List Extent) (shards : List (List Extent)) → (shards ≡ [] → ⊥) → is_single (shard ∷ shards) ≡ false
several shard [] some = absurd (some refl)
several shard (x ∷ xs) some = refl

same_count : (a b : ℕ) → (a == b) ≡ true → a ≡ b
same_count a b is = grind (arith, nat_tests, is)

other_count : (a b : ℕ) → (a == b) ≡ false → a ≡ b → ⊥
other_count a b is same = grind (arith, nat_tests, is, same)

less_count : (a b : ℕ) → a < b → (a == b) ≡ false
less_count a b less = grind (arith, nat_tests, less)

swapped : (s : Units) (a b : ℕ) → set.insert (set.insert s a) b ≡ set.insert (set.insert s b) a
swapped s a b = same_set nat_cmp_total nat_cmp-IsAntisymmetric (set.insert (set.insert s a) b) (set.insert (set.insert s b) a) (λ q.
    put_twice a b q
    ∙ or_swap (eq_by_cmp nat_cmp q b) (eq_by_cmp nat_cmp q a) (set.contains s q)
    ∙ sym (put_twice b a q))
  where
    put_twice : (x y q : ℕ) → set.contains (set.insert (set.insert s x) y) q
        ≡ (eq_by_cmp nat_cmp q y || (eq_by_cmp nat_cmp q x || set.contains s q))
    put_twice x y q = set.contains-insert nat_cmp_total (set.insert s x) y q
        ∙ ap (λ t. eq_by_cmp nat_cmp q y || t) (set.contains-insert nat_cmp_total s x q)

    or_swap : (x y z : Bool) → (x || (y || z)) ≡ (y || (x || z))
    or_swap true true z = refl
    or_swap true false z = refl
    or_swap false y z = refl

-- the first page and others, with one more of these
first_swapped : (first : Option ℕ) (s : Units) (x : ℕ) → with_first_page first (set.insert s x) ≡ set.insert (with_first_page first s) x
first_swapped None s x = refl
first_swapped (Some f) s x = swapped s x f

module _ (w : Width) (rows : Rows) (c o : List ℕ) (ps left left' : List (ℕ × Place)) (behind : Units) (old now : ChangeMap)
    (are : AreLeft w rows c o ps left behind old now) (shard : List Extent) (count : ℕ) (some : 0 < count) (within : count ≤ length left)
    (left_is : left' ≡ drop count left) (is : cut w left ≡ shard ∷ cut w left') where
  fewer : length left' ≡ length left - count
  fewer = ap length left_is ∙ length-drop count left

  several_where_first : left ≡ ps → 0 < length left' → is_single (cut w ps) ≡ false
  several_where_first first more =
      ap (λ l. is_single (cut w l)) (sym first) ∙ ap is_single is ∙ several shard (cut w left') (some_shard w left' more)

  -- the shard is the only one exactly where it has all pages
  pub only_by_count : (count == length ps) ≡ is_single (cut w ps)
  only_by_count = elim are.begun [
    | inl first' ↦ let first : left ≡ ps = first'.0 in elim (cases_Bool (count == length ps)) [
      | inl all ↦
          let none : left' ≡ [] = left_is ∙ drop_all count left (omega (arith, same_count count (length ps) all, ap length first)) in
          all ∙ sym (ap (λ l. is_single (cut w l)) (sym first) ∙ ap is_single (is ∙ ap (λ l. shard ∷ cut w l) none))
      | inr not ↦ not ∙ sym (several_where_first first (omega (
        arith,
        fewer,
        within,
        ap length first,
        other_than (other_count count (length ps) not),
      )))
    ]
    | inr later ↦ less_count count (length ps) (omega (arith, within, later.fewer)) ∙ sym (later.single (omega (arith, some, within)))
  ]
    where
      later_or_all : length left ≤ length ps
      later_or_all = elim are.begun [ inl first ↦ omega (arith, ap length first.0) | inr later ↦ omega (arith, later.fewer) ]

      other_than : (count ≡ length ps → ⊥) → count < length ps
      other_than apart = elim (cases_lt count (length ps)) [
        | inl lt ↦ lt
        | inr le ↦ absurd (apart (omega (arith, le, within, later_or_all)))
      ]

  come_on : (now' : ChangeMap) → now' ≡ with_shard w rows c o (count == length ps) shard now
      → with_shards w rows c o (is_single (cut w ps)) (cut w left') now' ≡ with_shards w rows c o (is_single (cut w ps)) (cut w ps) old
  come_on now' put =
      ap (with_shards w rows c o (is_single (cut w ps)) (cut w left')) (put ∙ ap (λ only. with_shard w rows c o only shard now) only_by_count)
      ∙ ap (λ l. with_shards w rows c o (is_single (cut w ps)) l now) (sym is) ∙ are.come

  -- the first one has come
  pub first_put : (now' : ChangeMap) → (length left < length ps → ⊥) → now' ≡ with_shard w rows c o (count == length ps) shard now
      → AreLeft w rows c o ps left' behind old now'
  first_put now' not put = elim are.begun [
    | inr later ↦ absurd (not later.fewer)
    | inl first ↦ record {
      come = come_on now' put;
      begun = inr (record {
        fewer = omega (arith, fewer, some, within, ap length first.0);
        single = λ more. several_where_first first.0 more;
        begin =
            ap (λ p. openings (cut w left') (with_first_page p behind))
            (ap first_page (sym first.0) ∙ first_begins w left shard (cut w left') (omega (arith, some, within)) is)
            ∙ ap (λ s. openings (cut w left') (set.insert s (first_of shard))) first.1
            ∙ ap (λ l. openings l set.empty) (sym is ∙ ap (cut w) first.0);
      });
    }
  ]

  -- one behind it has
  pub next_put : (first : ℕ) (behind' : Units) (now' : ChangeMap) → length left < length ps → first_of shard ≡ first
      → behind' ≡ set.insert behind first → now' ≡ with_shard w rows c o (count == length ps) shard now → AreLeft w rows c o ps left' behind' old now'
  next_put first behind' now' less begins noted put = elim are.begun [
    | inl first ↦ absurd (omega (arith, less, ap length first.0))
    | inr later ↦ record {
      come = come_on now' put;
      begun = inr (record {
        fewer = omega (arith, fewer, later.fewer);
        single = λ more. later.single (omega (arith, fewer, more));
        begin =
            ap (λ s. openings (cut w left') (with_first_page (first_page ps) s)) (noted ∙ ap (set.insert behind) (sym begins))
            ∙ ap (openings (cut w left')) (first_swapped (first_page ps) behind (first_of shard))
            ∙ ap (λ l. openings l (with_first_page (first_page ps) behind)) (sym is) ∙ later.begin;
      });
    }
  ]
