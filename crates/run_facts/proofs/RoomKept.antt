-- What a call makes of the rows keeps the room that transactions have reserved in the log, and which units are those of the store.
use Rattle.std.proofs.Common.{◌≡◌, ℕ, ◌+◌, ◌-◌, ◌≤◌, List, [], ◌∷◌, ◌++◌, fold, map, sym, ap, subst, ◌∙◌, arith}
use Rattle.run_facts.proofs.Common.{AllByRecursion, IsSuper, rows_after, unit_count}
use Rattle.meta_rows.specs.Prelude.{FitsRowOp, AllFit}
use Rattle.meta_rows.proofs.FitLemmas.{fit_still}
use Rattle.selections.specs.Fair.{IsComplete}
use Rattle.selections.proofs.Selecting.{complete_is_fair, all_selected}
use Rattle.selections.proofs.Order.{fold_alike, each_is}
use Rattle.space_facts.proofs.Prelude.{each_named, rows_units-after, within_joined, within_applied, within_rewritten}
use Rattle.store_steps.specs.Prelude.{Intent, is_in, ops_by, rows_by, needs_by, released_by, RowsPart, RowsGo, rows_units, NeedsEnough, AreRowsWithin}
use Rattle.store_steps.specs.RowsGo as rows
use Rattle.flight_facts.specs.Prelude.{FitsRecord}
use Rattle.flight_facts.proofs.Prelude.{all_left, all_right, all_join}
use Rattle.run_facts.specs.Prelude.{HasRoom, IsSpaceOf}
use Rattle.run_facts.proofs.SpaceUnits.{space_taken, space_given}

-- ---- needs do not depend on an order

as_fold : (n : ℕ) (xs : List Intent) → n + needs_by xs ≡ fold (λ k x. k + x.need) n xs
as_fold n [] = omega arith
as_fold n (x ∷ xs) = moved n x.need (needs_by xs) ∙ as_fold (n + x.need) xs
  where
    moved : (n need rest : ℕ) → n + (need + rest) ≡ (n + need) + rest
    moved n need rest = omega arith

needs_alike : (xs ys : List Intent) → IsComplete is_in xs ys → needs_by ys ≡ needs_by xs
needs_alike xs ys same = as_sum ys ∙
    fold_alike is_in (λ k x. k + x.need) (λ k. Unit {0}) (λ x. Unit {0}) (λ k x of fine. tt) (λ k x y of_x of_y fine share. turned k x.need y.need)
    each_named 0 ys xs (each_is (λ x. Unit {0}) (λ x. tt) ys) (each_is (λ x. Unit {0}) (λ x. tt) xs) tt same
    ∙ sym (as_sum xs)
  where
    none : (n : ℕ) → n ≡ 0 + n
    none n = omega arith

    as_sum : (zs : List Intent) → needs_by zs ≡ fold (λ k x. k + x.need) 0 zs
    as_sum zs = none (needs_by zs) ∙ as_fold 0 zs

    turned : (k a b : ℕ) → k + b + a ≡ k + a + b
    turned k a b = omega arith

pub needs_join : (xs ys : List Intent) → needs_by (xs ++ ys) ≡ needs_by xs + needs_by ys
needs_join [] ys = omega arith
needs_join (x ∷ xs) ys = omega (arith, needs_join xs ys)

-- operations of several have a spelling where each one's do
spelled_by : (xs : List Intent) → AllByRecursion FitsRecord xs → AllFit (ops_by xs)
spelled_by [] all = tt
spelled_by (x ∷ xs) all = all_join FitsRowOp x.ops (ops_by xs) (all.0).fit (spelled_by xs all.1)

-- ---- each change

-- one that joins has room for its record
abbrev pub HasRoomTo : (p : RowsPart) {q : RowsPart} → RowsGo p q → Type 0
HasRoomTo p (rows.joins x more is) = FitsRecord x × (rows_units p.rows + (p.reserved + x.need) ≤ p.sup.half)
HasRoomTo p other = Unit {0}

pub room_go : (p q : RowsPart) (goes : RowsGo p q) → HasRoomTo p goes → HasRoom p → HasRoom q
room_go p q (rows.same is) to has = subst HasRoom (sym is) has
room_go p q (rows.joins x more is) to has = subst HasRoom (sym is) (record {
  fits = all_join FitsRecord p.intents (x ∷ []) has.fits (to.0, tt);
  reserved = omega (arith, has.reserved, needs_join p.intents (x ∷ []));
  room = to.1;
  tail = has.tail;
  spelled = has.spelled;
})
room_go p q (rows.reorders later complete is) to has = subst HasRoom (sym is) (record {
  fits = all_selected is_in each_named FitsRecord p.intents later (complete_is_fair is_in p.intents later complete) has.fits;
  reserved = has.reserved ∙ sym (needs_alike p.intents later complete);
  room = has.room;
  tail = has.tail;
  spelled = has.spelled;
})
room_go p q (rows.switches number limits is) to has = subst HasRoom (sym is) (record {
  fits = has.fits;
  reserved = has.reserved;
  room = has.room;
  tail = front (rows_units p.rows) p.reserved p.sup.half has.room;
  spelled = has.spelled;
})
  where
    front : (units reserved half : ℕ) → units + reserved ≤ half → units ≤ half
    front units reserved half le = omega (arith, le)
room_go p q (rows.applies number front back both fits is) to has = subst HasRoom (sym is) (record {
  fits = all_right FitsRecord front back (subst (AllByRecursion FitsRecord) both has.fits);
  reserved = rest p.reserved (needs_by front) (needs_by back) (has.reserved ∙ ap needs_by both ∙ needs_join front back);
  room = behind (rows_units p.rows) (rows_units (rows_after p.rows (ops_by front))) p.reserved p.sup.half (unit_count number (ops_by front)) (needs_by front)
      (needs_by back) has.room fits.0 (has.reserved ∙ ap needs_by both ∙ needs_join front back) (rows_units-after p.rows number (ops_by front));
  tail = fits.1;
  spelled = fit_still p.rows (ops_by front) has.spelled (spelled_by front (all_left FitsRecord front back (subst (AllByRecursion FitsRecord) both has.fits)));
})
  where
    rest : (reserved front back : ℕ) → reserved ≡ front + back → reserved - front ≡ back
    rest reserved front back is = omega (arith, is)

    behind : (rows later reserved half units front back : ℕ) → rows + reserved ≤ half → units ≤ front → reserved ≡ front + back → later ≤ rows + units
        → later + (reserved - front) ≤ half
    behind rows later reserved half units front back le fits is more = omega (arith, le, fits, is, more)

-- the record of one that fits takes what it needs
takes : (x : Intent) → FitsRecord x → NeedsEnough x
takes x fits number = exact (unit_count number x.ops) x.need (fits.need number)
  where
    exact : (units need : ℕ) → units ≡ need → units ≤ need
    exact units need is = omega (arith, is)

enough : (xs : List Intent) → AllByRecursion FitsRecord xs → AllByRecursion NeedsEnough xs
enough [] all = tt
enough (x ∷ xs) all = (takes x all.0, enough xs all.1)

-- the rows stay within the records and what is reserved
pub within_go : (p q : RowsPart) (goes : RowsGo p q) → HasRoomTo p goes → p.submitted ≡ rows_by p.rows p.intents → HasRoom p → AreRowsWithin p
    → AreRowsWithin q
within_go p q (rows.same is) to are has within = subst AreRowsWithin (sym is) within
within_go p q (rows.joins x more is) to are has within = subst AreRowsWithin (sym is) (within_joined p x more (takes x to.0) within)
within_go p q (rows.reorders later complete is) to are has within =
    subst AreRowsWithin (sym is) (record { committed = within.committed; submitted = within.submitted })
within_go p q (rows.applies number front back both fits is) to are has within = subst AreRowsWithin (sym is)
    (within_applied p number front back (are ∙ ap (rows_by p.rows) both) (has.reserved ∙ ap needs_by both ∙ needs_join front back)
    (enough back (all_right FitsRecord front back (subst (AllByRecursion FitsRecord) both has.fits))) within)
within_go p q (rows.switches number limits is) to are has within =
    subst AreRowsWithin (sym is) (within_rewritten p number are has.reserved (enough p.intents has.fits))

-- which units are those of the store isn't changed
pub space_go : (p q : RowsPart) → RowsGo p q → IsSpaceOf p.sup p.space → IsSpaceOf q.sup q.space
space_go p q (rows.same is) has = subst (λ (r : RowsPart). IsSpaceOf r.sup r.space) (sym is) has
space_go p q (rows.joins x more is) has =
    subst (λ (r : RowsPart). IsSpaceOf r.sup r.space) (sym is) (space_taken p.sup p.space (map (λ f. f.unit) x.fresh) has)
space_go p q (rows.reorders later complete is) has = subst (λ (r : RowsPart). IsSpaceOf r.sup r.space) (sym is) has
space_go p q (rows.applies number front back both fits is) has =
    subst (λ (r : RowsPart). IsSpaceOf r.sup r.space) (sym is) (space_given p.sup p.space (released_by front) has)
space_go p q (rows.switches number limits is) has =
    subst (λ (r : RowsPart). IsSpaceOf r.sup r.space) (sym is) (record { first = has.first; count = has.count })

-- nor how the store is divided, and its superblock has its limits
pub super_go : (p q : RowsPart) → RowsGo p q → IsSuper p.sup → IsSuper q.sup
super_go p q (rows.same is) has = subst (λ (r : RowsPart). IsSuper r.sup) (sym is) has
super_go p q (rows.joins x more is) has = subst (λ (r : RowsPart). IsSuper r.sup) (sym is) has
super_go p q (rows.reorders later complete is) has = subst (λ (r : RowsPart). IsSuper r.sup) (sym is) has
super_go p q (rows.applies number front back both fits is) has = subst (λ (r : RowsPart). IsSuper r.sup) (sym is) has
super_go p q (rows.switches number limits is) has = subst (λ (r : RowsPart). IsSuper r.sup) (sym is) limits

pub units_go : (p q : RowsPart) → RowsGo p q → q.sup.units ≡ p.sup.units
units_go p q (rows.same is) = ap (λ (r : RowsPart). r.sup.units) is
units_go p q (rows.joins x more is) = ap (λ (r : RowsPart). r.sup.units) is
units_go p q (rows.reorders later complete is) = ap (λ (r : RowsPart). r.sup.units) is
units_go p q (rows.applies number front back both fits is) = ap (λ (r : RowsPart). r.sup.units) is
units_go p q (rows.switches number limits is) = ap (λ (r : RowsPart). r.sup.units) is

pub half_go : (p q : RowsPart) → RowsGo p q → q.sup.half ≡ p.sup.half
half_go p q (rows.same is) = ap (λ (r : RowsPart). r.sup.half) is
half_go p q (rows.joins x more is) = ap (λ (r : RowsPart). r.sup.half) is
half_go p q (rows.reorders later complete is) = ap (λ (r : RowsPart). r.sup.half) is
half_go p q (rows.applies number front back both fits is) = ap (λ (r : RowsPart). r.sup.half) is
half_go p q (rows.switches number limits is) = ap (λ (r : RowsPart). r.sup.half) is
