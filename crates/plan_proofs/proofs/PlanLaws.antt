-- What is known of each plan, for the crates above.
use Rattle.std.proofs.Common.{ℕ, ◌+◌, ◌≤◌, ◌^◌, length}
use Rattle.meta_rows.specs.Prelude.{Rows, rows_size, ops_bytes}
use Rattle.meta_log.specs.declared.slot.Super.{Super}
use Rattle.meta_log.specs.Prelude.{width_of}
use Rattle.object_model.specs.Prelude.{Change}
use Rattle.unit_allocator.specs.Prelude.{Space}
use Rattle.plan_rows.specs.declared.plan.Plan.{Plan}
use Rattle.plan_drafts.specs.Prelude.{IsGood, AreFreeOver, Plans, PlansKeep, AsksAreFew}
use Rattle.plan_proofs.proofs.EditFacts.{the_edit_laws, the_length_law, the_byte_laws, the_count_laws}
use Rattle.plan_proofs.proofs.PlansKeep.{plans_keep_by, short_by, asks_are_few_by}

pub plans_keep : PlansKeep
plans_keep = plans_keep_by the_edit_laws the_length_law the_byte_laws the_count_laws

pub asks_are_few : AsksAreFew
asks_are_few = asks_are_few_by the_count_laws

pub plans_short : (s : Super) (view : Rows) (space : Space) (next : ℕ) (change : Change) (plan : Plan) → IsGood s view
    → AreFreeOver s view space → Plans (width_of s) change view space next plan → length (ops_bytes plan.ops) ≤ 2 ^ 40 + rows_size view
plans_short = short_by the_edit_laws the_length_law the_byte_laws the_count_laws
