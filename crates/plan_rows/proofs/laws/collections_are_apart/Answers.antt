use Rattle.plan_rows.proofs.Apart.{kept_apart, blobs_apart, change_places, table_kept, bits_turned}
use Rattle.plan_rows.proofs.laws.collections_are_apart.Goals as goal

pub returns-clause-kept : goal.returns-clause-kept
returns-clause-kept c = kept_apart

pub returns-clause-blobs : goal.returns-clause-blobs
returns-clause-blobs c = blobs_apart

pub returns-clause-order : goal.returns-clause-order
returns-clause-order c = change_places

pub returns-clause-table : goal.returns-clause-table
returns-clause-table c = table_kept

pub returns-clause-bits : goal.returns-clause-bits
returns-clause-bits c = bits_turned
