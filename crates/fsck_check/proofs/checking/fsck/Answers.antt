use Rattle.std.proofs.Common.{inl, inr, ℕ, List, Vec, Global, subst}
use Rattle.std.specs.Prelude.{IfOk}
use Rattle.block_device.specs.Prelude.{Disk}
use Rattle.row_check.specs.Bad.{IsLeastBad}
use Rattle.read_facts.specs.Prelude.{IsHeldAt}
use Rattle.findings.specs.declared.finding.Finding.{Finding}
use Rattle.findings.specs.Findings.{FindsNoBadRow}
use Rattle.fsck_check.specs.Checking.{FoundAll}
use Rattle.fsck_check.proofs.Spelled.{of_some}
use Rattle.fsck_check.proofs.Told.{found_all, bad_rows_found, each_ok}
use Rattle.fsck_check.proofs.checking.fsck.Goals as goal

pub returns-in_default-clause-found : goal.returns-in_default-clause-found
returns-in_default-clause-found g c =
    let d = g.D.Device.disk c.args.dev.now in
    let store = c.in-Ok.store in
    each_ok c.pages_and_units.result (λ (found : Vec Finding Global). FindsNoBadRow store.sup (IsHeldAt d) store.log.rows.rows found.items)
    (λ (found : Vec Finding Global). FoundAll d found.items)
    (λ (found : Vec Finding Global) none. found_all d store found.items c.in-Ok.ensures.found (inr none))
    (subst (λ (e : Disk). IfOk c.pages_and_units.result (λ (found : Vec Finding Global). FindsNoBadRow store.sup (IsHeldAt e) store.log.rows.rows found.items))
    c.in-Ok.ensures.same c.pages_and_units.ensures.found)

pub returns-clause-found : goal.returns-clause-found
returns-clause-found g c =
    let d = g.D.Device.disk c.args.dev.now in
    let store = c.in-Ok.store in
    let first = of_some _ (λ (k : List ℕ). IsLeastBad store.sup store.log.rows.rows k) c.in_ok-first.field-0 c.in-Some.first c.in-Some.is c.in_ok-first.ensures in
    found_all d store c.in_ok-rows_found.field-0.items c.in-Ok.ensures.found
    (inl (bad_rows_found store.sup store.log.rows.rows c.in-Some.first c.in_ok-bad.bad c.in_ok-rows_found.field-0.items first c.in_ok-bad.ensures
    c.in_ok-rows_found.ensures))
