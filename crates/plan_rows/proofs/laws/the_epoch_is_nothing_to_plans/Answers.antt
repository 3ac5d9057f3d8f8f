use Rattle.plan_rows.proofs.Carried.{good_too, plan_too}
use Rattle.plan_rows.proofs.laws.the_epoch_is_nothing_to_plans.Goals as goal

pub returns : goal.returns
returns c = record { good = good_too; plans = plan_too }
