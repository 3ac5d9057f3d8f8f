-- Of a superblock rows and plans ask for the device's units and the half's: the epoch and the first record's number are nothing to them.
use Rattle.std.proofs.Common.{◌≡◌, ℕ, List, [], ◌∷◌, sym}
use Rattle.std.specs.List.{AllByRecursion}
use Rattle.meta_rows.specs.Prelude.{Rows}
use Rattle.meta_log.specs.declared.slot.Super.{Super}
use Rattle.store_image.specs.Prelude.{IsDataUnit}
use Rattle.store_image.proofs.Prelude.{data_too, none_bad_too}
use Rattle.plan_rows.specs.declared.plan.FreshUnit.{FreshUnit}
use Rattle.plan_rows.specs.declared.plan.Plan.{Plan}
use Rattle.plan_rows.specs.Keeps.{IsGood, PlanKeeps}

module _ (s t : Super) (units : s.units ≡ t.units) (half : s.half ≡ t.half) where
  all_data : (fs : List FreshUnit) → AllByRecursion (λ f. IsDataUnit s f.unit) fs → AllByRecursion (λ f. IsDataUnit t f.unit) fs
  all_data [] all = tt
  all_data (f ∷ fs) all = (data_too s t half units f.unit all.0, all_data fs all.1)

  pub good_too : (rows : Rows) → IsGood s rows → IsGood t rows
  good_too rows is = record { good = none_bad_too s t half units rows is.good; exact = is.exact }

module _ (s t : Super) (units : s.units ≡ t.units) (half : s.half ≡ t.half) where
  back : (rows : Rows) → IsGood t rows → IsGood s rows
  back rows is = good_too t s (sym units) (sym half) rows is

  pub plan_too : (names : List (List ℕ)) (view : Rows) (plan : Plan) → PlanKeeps s names view plan → PlanKeeps t names view plan
  plan_too names view plan keeps = record {
    of = keeps.of;
    fit = keeps.fit;
    fresh = record { on_data = all_data s t units half plan.fresh keeps.fresh.on_data; whole = keeps.fresh.whole };
    ascend = keeps.ascend;
    good = λ rows suits is. none_bad_too s t half units _ (keeps.good rows suits (back rows is));
    exact = λ rows suits is. keeps.exact rows suits (back rows is);
    home = λ home rows suits is. keeps.home home rows suits (back rows is);
    owns = λ rows suits is. keeps.owns rows suits (back rows is);
  }
