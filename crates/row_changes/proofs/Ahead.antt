-- Rows looked for among those from some key on.
use Rattle.std.proofs.Common.{◌≡◌, ℕ, Bool, true, false, cond, not, T, List, [], ◌∷◌, ◌++◌, Option, Some, None, refl, sym, ap, subst, ◌∙◌}
use Rattle.std.specs.Prelude.{◌&&◌}
use Rattle.std.specs.List.{AllByRecursion}
use Rattle.std.specs.Option.{IfSome, option_flatten}
use Rattle.std.specs.Ordering.{is_lt, is_gt, is_eq, ordering_reverse}
use Rattle.std.specs.declared.cmp.Ordering.{Ordering}
use Rattle.std.specs.declared.cmp.Ordering.TheVariants.{Less, Equal, Greater}
use Rattle.std.proofs.lemmas.Cmp.{tied_itself, upto}
use Rattle.std.specs.Cmp.Lexicographic.{nat_list_cmp_total}
use Rattle.std.specs.FinMap as finite
use Rattle.std.specs.FinMap.{find, is_sorted}
use Rattle.std.specs.FinMap.Entries.{where_key, find-where_key, is_sorted-where_key}
use Rattle.byte_maps.specs.ByteMap.{byte_order}
use Rattle.byte_maps.proofs.Prelude.{same_bytes, both_first, both_second}
use Rattle.byte_maps.proofs.Places.{find_below, below_more}
use Rattle.meta_rows.specs.Prelude.{Rows, rows_from_to}
use Rattle.meta_rows.specs.Table.{is_from_to}
use Rattle.row_changes.specs.declared.row_change.RowChange.{RowChange}
use Rattle.row_changes.specs.Log.{ChangesRise}
use Rattle.row_changes.proofs.Sorted.{held_all}
use Rattle.row_changes.specs.Ahead.{IsFirstBelow, AreLeft, LieAhead, LieAheadOf}

abbrev Entry : Type 0
Entry = List ℕ × List ℕ

both : (a b : Bool) → T a → T b → T (a && b)
both true b p q = q
both false b p q = absurd p

is_less : (o : Ordering) → is_lt o ≡ true → o ≡ Less
is_less Less h = refl
is_less Equal h = absurd cc
is_less Greater h = absurd cc

-- no key is above itself
pub never_above : (key : List ℕ) → is_gt (byte_order key key) ≡ false
never_above key = ap is_gt (tied_itself nat_list_cmp_total key)

-- ---- by the first row

pub value_first : (key : List ℕ) (e : Entry) (es : List Entry) → byte_order e.0 key ≡ Equal → find byte_order key (e ∷ es) ≡ Some e.1
value_first key e es is = ap (λ o. cond (is_eq o) (Some e.1) (find byte_order key es))
    (ap (byte_order key) (same_bytes e.0 key is) ∙ tied_itself nat_list_cmp_total key)

pub none_before : (key : List ℕ) (e : Entry) (es : List Entry) → T (is_sorted byte_order (e ∷ es)) → byte_order e.0 key ≡ Greater
    → find byte_order key (e ∷ es) ≡ None
none_before key e es h is =
    let less : byte_order key e.0 ≡ Less = nat_list_cmp_total.antisymm key e.0 ∙ ap ordering_reverse is in
    find_below key (e ∷ es) (both _ _ (subst (λ o. T (is_lt o)) (sym less) tt) (below_more key e.0 es less (both_first _ _ h)))

-- a key that isn't below one above this one is above it
above : (x key other : List ℕ) → byte_order x key ≡ Less → is_gt (byte_order key other) ≡ false → byte_order x other ≡ Less
above x key other up le = elim (byte_order key other) as (λ (o : Ordering). byte_order key other ≡ o → is_gt o ≡ false → byte_order x other ≡ Less) [
  | Less ↦ λ is n. nat_list_cmp_total.trans x key other up is
  | Equal ↦ λ is n. ap (byte_order x) (sym (same_bytes key other is)) ∙ up
  | Greater ↦ λ is n. absurd cc
] refl le

passed_over : (key : List ℕ) (e : Entry) (es : List Entry) → byte_order e.0 key ≡ Less → (other : List ℕ) → is_gt (byte_order key other) ≡ false
    → find byte_order other es ≡ find byte_order other (e ∷ es)
passed_over key e es below other le = sym (ap (λ o. cond (is_eq o) (Some e.1) (find byte_order other es))
    (nat_list_cmp_total.antisymm other e.0 ∙ ap ordering_reverse (above e.0 key other below le)))

pub first_goes : (key : List ℕ) (e : Entry) (old new : List Entry) → T (is_sorted byte_order old) → old ≡ e ∷ new → byte_order e.0 key ≡ Less
    → AreLeft key old new
first_goes key e old new h is below = record {
  sorted = both_second _ _ (subst (λ es. T (is_sorted byte_order es)) is h);
  same = λ other le. passed_over key e new below other le ∙ ap (find byte_order other) (sym is);
}

pub first_below : (key : List ℕ) (e : Entry) (old new : List Entry) → old ≡ e ∷ new → byte_order e.0 key ≡ Less → IsFirstBelow key old
first_below key e old new is below = subst (IsFirstBelow key) (sym is) (ap is_lt below)

pub all_left : (key : List ℕ) (es : List Entry) → T (is_sorted byte_order es) → AreLeft key es es
all_left key es h = record { sorted = h; same = λ other le. refl }

pub left_twice : (key : List ℕ) (a b c : List Entry) → AreLeft key a b → AreLeft key b c → AreLeft key a c
left_twice key a b c first second = record { sorted = second.sorted; same = λ other le. second.same other le ∙ first.same other le }

-- where there is an answer, it is what the option holds
pub flattened : {X : Type 0} (f : Option X → Option (List ℕ)) (r : Option (Option X)) (held : Option (List ℕ)) → IfSome r (λ value. f value ≡ held)
    → (r ≡ None → ⊥) → f (option_flatten r) ≡ held
flattened f None held is some = absurd (some refl)
flattened f (Some value) held is some = is

-- ---- the rows from a key on

module _ (rows : Rows) (key : List ℕ) where
  abbrev onwards : List Entry
  onwards = rows_from_to rows key None

  pub onwards_sorted : T (is_sorted byte_order onwards)
  onwards_sorted = is_sorted-where_key byte_order (is_from_to key None) (finite.entries rows) (finite.entries_sorted rows)

  from_key : (other : List ℕ) → is_gt (byte_order key other) ≡ false → is_from_to key None other ≡ true
  from_key other le = ap (λ o. not (is_lt o)) (nat_list_cmp_total.antisymm other key) ∙ back (byte_order key other) le
    where
      back : (o : Ordering) → is_gt o ≡ false → not (is_lt (ordering_reverse o)) ≡ true
      back Less h = refl
      back Equal h = refl
      back Greater h = absurd cc

  pub onwards_find : (other : List ℕ) → is_gt (byte_order key other) ≡ false → find byte_order other onwards ≡ finite.get rows other
  onwards_find other le =
      find-where_key byte_order (is_from_to key None) other (λ x t. ap (is_from_to key None) (sym (same_bytes other x t))) (finite.entries rows)
      ∙ ap (λ b. cond b (find byte_order other (finite.entries rows)) None) (from_key other le)
      ∙ sym (finite.get-entries rows other)

  pub onwards_ahead : (es : List Entry) → AreLeft key onwards es → LieAhead rows (Some es) key
  onwards_ahead es left = (left.sorted, λ other le. left.same other le ∙ onwards_find other le)

  first_from : (es : List Entry) → AllByRecursion (λ e. is_from_to key None e.0 ≡ true) es → IsFirstBelow key es → ⊥
  first_from [] all below = below
  first_from (e ∷ es) all below = let clash : true ≡ false = sym all.0 ∙ ap not below in cc

  all_from : (es : List Entry) → AllByRecursion (λ e. is_from_to key None e.0 ≡ true) (where_key byte_order (is_from_to key None) es)
  all_from [] = tt
  all_from (e ∷ es) = elim (is_from_to key None e.0) as (λ (b : Bool). is_from_to key None e.0 ≡ b
      → AllByRecursion (λ x. is_from_to key None x.0 ≡ true) (cond b (e ∷ where_key byte_order (is_from_to key None) es) (where_key byte_order (is_from_to key None) es))) [
        | true ↦ λ is. (is, all_from es)
        | false ↦ λ is. all_from es
      ] refl

  -- the first of them isn't below the key
  pub never_below : IsFirstBelow key onwards → ⊥
  never_below below = first_from onwards (all_from (finite.entries rows)) below

-- ---- later keys

not_above : (a b : List ℕ) → is_lt (byte_order b a) ≡ false → is_gt (byte_order a b) ≡ false
not_above a b h = ap is_gt (nat_list_cmp_total.antisymm a b) ∙ back (byte_order b a) h
  where
    back : (o : Ordering) → is_lt o ≡ false → is_gt (ordering_reverse o) ≡ false
    back Less h = absurd cc
    back Equal h = refl
    back Greater h = refl

not_above_twice : (a b c : List ℕ) → is_gt (byte_order a b) ≡ false → is_gt (byte_order b c) ≡ false → is_gt (byte_order a c) ≡ false
not_above_twice a b c p q = upto nat_list_cmp_total a b c p q

pub ahead_later : (rows : Rows) (ahead : Option (List Entry)) (key later : List ℕ) → is_lt (byte_order later key) ≡ false → LieAhead rows ahead key
    → LieAhead rows ahead later
ahead_later rows None key later le lie = tt
ahead_later rows (Some es) key later le lie = (lie.0, λ other up. lie.1 other (not_above_twice key later other (not_above key later le) up))

-- the next change's key isn't below the last one's
pub ahead_next : (rows : Rows) (ahead : Option (List Entry)) (held : Option RowChange) (c : RowChange)
    → IfSome held (λ h. is_lt (byte_order c.key h.key) ≡ false) → LieAheadOf rows ahead held → LieAheadOf rows ahead (Some c)
ahead_next rows ahead None c up is = subst (λ a. LieAhead rows a c.key) (sym is) tt
ahead_next rows ahead (Some h) c up lie = ahead_later rows ahead h.key c.key up lie

-- of changes in order the next one's key isn't below the last one's, and the others are in order
pub rise_next : (held : Option RowChange) (c : RowChange) (rest : List RowChange) → ChangesRise (held_all held ++ (c ∷ rest))
    → IfSome held (λ h. is_lt (byte_order c.key h.key) ≡ false) × ChangesRise (c ∷ rest)
rise_next None c rest rise = (tt, rise)
rise_next (Some h) c rest rise = (rise.0.0, rise.1)
