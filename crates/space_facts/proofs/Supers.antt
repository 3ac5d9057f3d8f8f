-- What is known of rows and of plans asks only for the superblock's half and units: so it stays where the halves change places.
use Rattle.std.proofs.Common.{◌≡◌, ℕ, List, [], ◌∷◌, refl, sym, arith}
use Rattle.std.specs.List.{AllByRecursion}
use Rattle.meta_rows.specs.Prelude.{Rows}
use Rattle.meta_log.specs.declared.slot.Super.{Super}
use Rattle.meta_log.specs.Prelude.{next_super}
use Rattle.store_image.specs.Prelude.{NoBadRow, IsDataUnit}
use Rattle.store_image.proofs.Prelude.{data_too, none_bad_too}
use Rattle.plan_rows.specs.declared.plan.FreshUnit.{FreshUnit}
use Rattle.plan_rows.specs.declared.plan.Plan.{Plan}
use Rattle.plan_rows.specs.Prelude.{IsGood, PlanKeeps}
use Rattle.store_steps.specs.Prelude.{Intent, names_in, plan_of, rows_by, EachIsPlanned}

-- two superblocks of stores that are divided alike
pub record AreAlike (s t : Super) : Type 0 where
  pub half : t.half ≡ s.half
  pub units : t.units ≡ s.units

pub turned : (s t : Super) → AreAlike s t → AreAlike t s
turned s t a = record { half = omega (arith, a.half); units = omega (arith, a.units) }

pub next_alike : (s : Super) (number : ℕ) → AreAlike s (next_super s number)
next_alike s number = record { half = refl; units = refl }

module _ (s t : Super) (a : AreAlike s t) where
  pub data_alike : (unit : ℕ) → IsDataUnit s unit → IsDataUnit t unit
  data_alike = data_too s t (sym a.half) (sym a.units)

  none_bad : (rows : Rows) → NoBadRow s rows → NoBadRow t rows
  none_bad = none_bad_too s t (sym a.half) (sym a.units)

  pub good_alike : (rows : Rows) → IsGood s rows → IsGood t rows
  good_alike rows is = record { good = none_bad rows is.good; exact = is.exact }

  fresh_alike : (fs : List FreshUnit) → AllByRecursion (λ f. IsDataUnit s f.unit) fs → AllByRecursion (λ f. IsDataUnit t f.unit) fs
  fresh_alike [] all = tt
  fresh_alike (f ∷ fs) all = (data_alike f.unit all.0, fresh_alike fs all.1)

-- a plan keeps what it keeps
plan_alike : (s t : Super) → AreAlike s t → (names : List (List ℕ)) (view : Rows) (plan : Plan) → PlanKeeps s names view plan → PlanKeeps t names view plan
plan_alike s t a names view plan keeps = record {
  of = keeps.of;
  fit = keeps.fit;
  fresh = record { on_data = fresh_alike s t a plan.fresh keeps.fresh.on_data; whole = keeps.fresh.whole };
  ascend = keeps.ascend;
  good = λ rows suits is. none_bad s t a _ (keeps.good rows suits (good_alike t s (turned s t a) rows is));
  exact = λ rows suits is. keeps.exact rows suits (good_alike t s (turned s t a) rows is);
  home = λ home rows suits is. keeps.home home rows suits (good_alike t s (turned s t a) rows is);
  owns = λ rows suits is. keeps.owns rows suits (good_alike t s (turned s t a) rows is);
}

pub planned_alike : (s t : Super) → AreAlike s t → (rows : Rows) (xs : List Intent) → EachIsPlanned s rows xs → EachIsPlanned t rows xs
planned_alike s t a rows xs planned some x fair =
    let is = planned some x fair in
    record { keeps = plan_alike s t a (names_in x) (rows_by rows some) (plan_of x) is.keeps; unmarked = is.unmarked }

-- ---- for the laws

pub good_switched : (sup : Super) (number : ℕ) (rows : Rows) → IsGood sup rows → IsGood (next_super sup number) rows
good_switched sup number = good_alike sup (next_super sup number) (next_alike sup number)

pub planned_switched : (sup : Super) (number : ℕ) (rows : Rows) (xs : List Intent) → EachIsPlanned sup rows xs → EachIsPlanned (next_super sup number) rows xs
planned_switched sup number = planned_alike sup (next_super sup number) (next_alike sup number)
