-- Sequencers by name: what a change at one name leaves at the others.
use Rattle.std.proofs.Common.{◌≡◌, ◌≢◌, ℕ, Bool, true, List, [], Option, Some, unwrap_or, refl, sym, ap, subst, ◌∙◌}
use Rattle.std.specs.Prelude.{Vec}
use Rattle.std.specs.declared.alloc.Global.{Global}
use Rattle.std.specs.BTreeMap.{BTreeMap, get_by, UpdatesBy, is_at}
use Rattle.std.specs.Map.{lookup, set_value, KeepsOthers, IsKeyTest, AreApart}
use Rattle.std.specs.Ordering.{nat_cmp, is_eq, eq_by_cmp}
use Rattle.std.specs.declared.cmp.Ordering.{Ordering}
use Rattle.std.specs.declared.cmp.Ordering.TheVariants.{Less, Equal, Greater}
use Rattle.std.specs.Cmp.Lexicographic.{slice_cmp}
use Rattle.std.proofs.lemmas.Map.Lookups.{exact_bytes}
use Rattle.std.proofs.lemmas.Map.Steps.{set_value_same}
use Rattle.std.proofs.lemmas.Bool.{false≢true, false_from_ne_true}
use Rattle.op_sequencer.specs.declared.sequencer.Turn.{Turn}

eq_is_equal : (o : Ordering) → is_eq o ≡ true → o ≡ Equal
eq_is_equal Less h = absurd (false≢true h)
eq_is_equal Equal h = refl
eq_is_equal Greater h = absurd (false≢true h)

-- names with memory of their own, and the order of these
abbrev pub Name : Type 0
Name = Vec ℕ Global

abbrev pub name_cmp : Name → Name → Ordering
name_cmp x y = slice_cmp nat_cmp x.items y.items

abbrev pub by_name : List ℕ → Name → Ordering
by_name coll name = slice_cmp nat_cmp coll name.items

same_bytes : (c q : List ℕ) → is_eq (slice_cmp nat_cmp c q) ≡ true → c ≡ q
same_bytes c q same = exact_bytes c q (eq_is_equal (slice_cmp nat_cmp c q) same)

-- a name is looked for by its bytes alone
key_test : (q : List ℕ) → IsKeyTest (eq_by_cmp name_cmp) (is_at (by_name q))
key_test q x y same = ap (λ (bytes : List ℕ). is_eq (slice_cmp nat_cmp bytes y.items)) (same_bytes q x.items same)

tests_apart : (c q : List ℕ) → q ≢ c → AreApart (is_at (by_name c)) (is_at (by_name q))
tests_apart c q ne k same = false_from_ne_true (is_at (by_name q) k) (λ other. ne (same_bytes q k.items other ∙ sym (same_bytes c k.items same)))

other_entries : (c q : List ℕ) (old new : List (Name × List Turn)) → KeepsOthers (eq_by_cmp name_cmp) (is_at (by_name c)) old new → q ≢ c
    → lookup (is_at (by_name q)) new ≡ lookup (is_at (by_name q)) old
unfolding KeepsOthers
other_entries c q old new keeps ne = keeps (is_at (by_name q)) (key_test q) (tests_apart c q ne)

abbrev pub turns_at : BTreeMap Name (List Turn) → List ℕ → List Turn
turns_at m coll = unwrap_or (get_by (by_name coll) m) []

pub others_stay : (c q : List ℕ) (w : Option (List Turn)) (m n : BTreeMap Name (List Turn)) → UpdatesBy name_cmp (by_name c) m n w → q ≢ c
    → turns_at n q ≡ turns_at m q
others_stay c q w m n updates ne = ap (λ (o : Option (List Turn)). unwrap_or o []) (other_entries c q m.entries n.entries updates.3 ne)

pub at_name : (c : List ℕ) (turns : List Turn) (m n : BTreeMap Name (List Turn)) → UpdatesBy name_cmp (by_name c) m n (Some turns)
    → turns_at n c ≡ turns
at_name c turns m n updates = ap (λ (o : Option (List Turn)). unwrap_or o []) updates.1

pub same_by_entries : (m n : BTreeMap Name (List Turn)) → n.entries ≡ m.entries → (q : List ℕ) → turns_at n q ≡ turns_at m q
same_by_entries m n same q = ap (λ (es : List (Name × List Turn)). unwrap_or (lookup (is_at (by_name q)) es) []) same

-- a value that is written back as it was changes nothing
pub unwritten : (test : Name → Bool) (es : List (Name × List Turn)) (now was : List Turn) → now ≡ was → lookup test es ≡ Some was → set_value test es now ≡ es
unwritten test es now was same found = ap (set_value test es) same ∙ set_value_same test es was found

-- a name that had no sequencer gets one with these turns
pub inserted : (c : List ℕ) (key : Name) (made : List Turn) (m n : BTreeMap Name (List Turn)) → key.items ≡ c → UpdatesBy name_cmp (name_cmp key) m n (Some made)
    → (turns_at n c ≡ made) × ((q : List ℕ) → q ≢ c → turns_at n q ≡ turns_at m q)
inserted c key made m n is updates =
    let at_c : UpdatesBy name_cmp (by_name c) m n (Some made) =
    subst (λ (k : List ℕ). UpdatesBy name_cmp (by_name k) m n (Some made)) is updates in
    (at_name c made m n at_c, λ q ne. others_stay c q (Some made) m n at_c ne)
