-- The first row of a range has the least key there.
use Rattle.std.proofs.Common.{◌≡◌, ◌≢◌, ℕ, Bool, true, false, cond, not, T, List, []}
use Rattle.std.proofs.Common.{◌∷◌, Option, Some, None, is_some, refl, sym, ap, subst, ◌∙◌}
use Rattle.std.specs.Prelude.{◌&&◌}
use Rattle.std.specs.Ordering.{is_eq, is_lt}
use Rattle.std.specs.declared.cmp.Ordering.{Ordering}
use Rattle.std.specs.declared.cmp.Ordering.TheVariants.{Less, Equal, Greater}
use Rattle.std.specs.FinMap as map
use Rattle.std.specs.FinMap.{find, is_sorted}
use Rattle.std.specs.FinMap.Entries.{below_all, is_sorted-where_key, find-where_key}
use Rattle.std.proofs.lemmas.Cmp.{tied_itself, nat_list_cmp_total}
use Rattle.byte_maps.specs.ByteMap.{byte_order, in_range}
use Rattle.byte_maps.proofs.Prelude.{same_bytes, both_first, both_second}
use Rattle.meta_rows.specs.Prelude.{Rows, rows_from_to}
use Rattle.object_rows.specs.NextKeys.{IsLeastKey, HasNoKey}

-- a row: its key and its value
abbrev Entry : Type 0
Entry = List ℕ × List ℕ

-- a test for below
pub is_less : (r : Ordering) → T (is_lt r) → r ≡ Less
is_less Less h = refl
is_less Equal h = absurd h
is_less Greater h = absurd h

-- what is none is no value
pub none_some : (o : Option (List ℕ)) → o ≡ None → is_some o ≡ true → ⊥
none_some None n s = cc
none_some (Some v) n s = cc

-- a key below that of entries in order is not among them
below_first : (q k : List ℕ) (es : List Entry) → byte_order q k ≡ Less → T (below_all byte_order k es) → find byte_order q es ≡ None
below_first q k [] less h = refl
below_first q k (e ∷ es) less h =
    ap (λ (r : Ordering). cond (is_eq r) (Some e.1) (find byte_order q es))
    (nat_list_cmp_total.trans q k e.0 less (is_less (byte_order k e.0) (both_first _ _ h)))
    ∙ below_first q k es less (both_second _ _ h)

-- a value that is left by a test
pub cut : (b : Bool) (o : Option (List ℕ)) (v : List ℕ) → cond b o None ≡ Some v → (b ≡ true) × (o ≡ Some v)
cut true o v e = (refl, e)
cut false o v e = absurd cc

module _ (rows : Rows) (first end : List ℕ) where
  -- the rows of the range
  abbrev range : List Entry
  range = rows_from_to rows first (Some end)

  -- whether a key is in the range
  abbrev passes : List ℕ → Bool
  passes key = in_range first end key

  -- The entries are those of the rows whose keys are in the range.
  pub record AreInRange (es : List Entry) : Type 0 where
    pub sorted : T (is_sorted byte_order es)
    pub finds : (key : List ℕ) → find byte_order key es ≡ cond (passes key) (map.get rows key) None

  -- those that `rows_from_to` names are
  range_is : AreInRange range
  range_is = record {
    sorted = is_sorted-where_key byte_order passes (map.entries rows) (map.entries_sorted rows);
    finds = λ key.
        find-where_key byte_order passes key (λ x t. ap passes (sym (same_bytes key x t))) (map.entries rows)
        ∙ ap (λ (o : Option (List ℕ)). cond (passes key) o None) (sym (map.get-entries rows key));
  }

  -- the rows that a range lends are those
  pub lent : (es : List Entry) → es ≡ range → AreInRange es
  lent es is = subst AreInRange (sym is) range_is

  -- what is looked for under a key in the range is what the rows have
  finds_in : (es : List Entry) → AreInRange es → (key : List ℕ) → passes key ≡ true → find byte_order key es ≡ map.get rows key
  finds_in es are key within = are.finds key ∙ ap (λ (b : Bool). cond b (map.get rows key) None) within

  -- where there is no row, there is no key
  pub no_row : AreInRange [] → HasNoKey rows first end
  no_row are key has within = none_some (map.get rows key) (sym (finds_in [] are key within)) has

  -- the first row has the least key
  pub first_row : (e : Entry) (es : List Entry) → AreInRange (e ∷ es) → IsLeastKey rows first end e.0
  first_row e es are =
      let own : find byte_order e.0 (e ∷ es) ≡ Some e.1 =
      ap (λ (r : Ordering). cond (is_eq r) (Some e.1) (find byte_order e.0 es)) (tied_itself nat_list_cmp_total e.0) in
      let here = cut (passes e.0) (map.get rows e.0) e.1 (sym (are.finds e.0) ∙ own) in
      record {
        there = ap is_some here.1;
        within = here.0;
        least = λ other has within less.
            let above : find byte_order other (e ∷ es) ≡ None =
            ap (λ (r : Ordering). cond (is_eq r) (Some e.1) (find byte_order other es)) less
            ∙ below_first other e.0 es less (both_first _ _ are.sorted) in
            none_some (map.get rows other) (sym (finds_in (e ∷ es) are other within) ∙ above) has;
      }

  -- the same, as a function that draws the first row sees it
  pub least_key : (es : List Entry) (e : Entry) (rest : List Entry) (key : List ℕ) → es ≡ range → es ≡ e ∷ rest → key ≡ e.0 → IsLeastKey rows first end key
  least_key es e rest key is drawn own = subst (IsLeastKey rows first end) (sym own) (first_row e rest (lent (e ∷ rest) (sym drawn ∙ is)))

  -- no first row, so no key
  pub no_key : (es : List Entry) → es ≡ range → es ≡ [] → HasNoKey rows first end
  no_key es is none = no_row (lent [] (sym none ∙ is))

-- ---- keys in a range, by byte order

-- the two tests of a range, taken apart and put together
not_less : (r : Ordering) (b : Bool) → (not (is_lt r) && b) ≡ true → r ≢ Less
not_less Less b h e = absurd cc
not_less Equal b h e = absurd cc
not_less Greater b h e = absurd cc

-- its second half
then_less : (r q : Ordering) → (not (is_lt r) && is_lt q) ≡ true → q ≡ Less
then_less Less q h = absurd cc
then_less Equal Less h = refl
then_less Equal Equal h = absurd cc
then_less Equal Greater h = absurd cc
then_less Greater Less h = refl
then_less Greater Equal h = absurd cc
then_less Greater Greater h = absurd cc

-- and both again
both_so : (r q : Ordering) → r ≢ Less → q ≡ Less → (not (is_lt r) && is_lt q) ≡ true
both_so Less q apart is = absurd (apart refl)
both_so Equal q apart is = ap is_lt is
both_so Greater q apart is = ap is_lt is

-- a key in a range is at least the first and below the end
pub from_range : (first end key : List ℕ) → in_range first end key ≡ true → (byte_order key first ≢ Less) × (byte_order key end ≡ Less)
from_range first end key is = (
  not_less (byte_order key first) (is_lt (byte_order key end)) is,
  then_less (byte_order key first) (byte_order key end) is,
)

-- such a key is in the range
pub to_range : (first end key : List ℕ) → byte_order key first ≢ Less → byte_order key end ≡ Less → in_range first end key ≡ true
to_range first end key up down = both_so (byte_order key first) (byte_order key end) up down
