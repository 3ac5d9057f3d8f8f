use Rattle.std.proofs.Common.{◌≡◌, ◌≤◌, [], ◌++◌, List, ℕ, length, refl, sym, ap, subst, ◌∙◌, arith, append_assoc, append-nil, length-append, take-append-drop}
use Rattle.block_device.specs.Prelude.{Disk}
use Rattle.read_facts.specs.Prelude.{IsHeldAt}
use Rattle.fsck_check.specs.Sums.{unit_sums_from, AddsSums}
use Rattle.fsck_check.proofs.Adding.{adds_none, inside, piece_more, no_units}
use Rattle.fsck_check.proofs.sums.check_units.Goals as goal

pub pieces-init : goal.pieces-init
pieces-init g c = record {
  same = refl;
  later = omega arith;
  done = [];
  split = refl;
  at = omega arith;
  sums = adds_none (IsHeldAt (g.D.Device.disk c.args.dev.now)) c.args.found.now;
}

pub check_run-requires-clause-idle : goal.check_run-requires-clause-idle
check_run-requires-clause-idle g c = ap (λ (d : Disk). d.flights) c.pieces.invariant.same ∙ c.requires.idle

pub check_run-requires-clause-inside : goal.check_run-requires-clause-inside
check_run-requires-clause-inside g c =
    let few : length c.split_at.result.0.now ≤ length c.pieces.left.now = omega (arith, c.split_at.ensures.front_len, c.min.ensures) in
    let in_all = inside c.args.unit c.pieces.at (length c.split_at.result.0.now) (g.D.Device.disk c.args.dev.now).units c.args.csums.now
    c.pieces.invariant.done c.pieces.left.now c.pieces.invariant.split c.pieces.invariant.at few c.requires.inside in
    omega (arith, in_all, ap (λ (d : Disk). d.units) c.pieces.invariant.same)

pub check_run-requires-clause-fits : goal.check_run-requires-clause-fits
check_run-requires-clause-fits g c =
    let few : length c.split_at.result.0.now ≤ length c.pieces.left.now = omega (arith, c.split_at.ensures.front_len, c.min.ensures) in
    let in_all = inside c.args.unit c.pieces.at (length c.split_at.result.0.now) (g.D.Device.disk c.args.dev.now).units c.args.csums.now
    c.pieces.invariant.done c.pieces.left.now c.pieces.invariant.split c.pieces.invariant.at few c.requires.inside in
    omega (arith, in_all, c.requires.units)

pub overflow_add-at : goal.overflow_add-at
overflow_add-at g c =
    let few : length c.split_at.result.0.now ≤ length c.pieces.left.now = omega (arith, c.split_at.ensures.front_len, c.min.ensures) in
    let in_all = inside c.args.unit c.pieces.at (length c.split_at.result.0.now) (g.D.Device.disk c.args.dev.now).units c.args.csums.now
    c.pieces.invariant.done c.pieces.left.now c.pieces.invariant.split c.pieces.invariant.at few c.requires.inside in
    omega (arith, in_all, c.requires.units)

pub pieces-preserved : goal.pieces-preserved
pieces-preserved g c =
    let d = g.D.Device.disk c.args.dev.now in
    let done = c.pieces.invariant.done in
    let front = c.split_at.result.0.now in
    let back = c.split_at.result.1.now in
    let whole : c.pieces.left.now ≡ front ++ back =
    sym (take-append-drop c.min.result c.pieces.left.now) ∙ (λ k. sym c.split_at.ensures.front k ++ sym c.split_at.ensures.back k) in
    record {
      same = c.in_ok-check_run.ensures.same ∙ c.pieces.invariant.same;
      later = omega (arith, c.in_ok-check_run.ensures.later, c.pieces.invariant.later);
      done = done ++ front;
      split = c.pieces.invariant.split ∙ ap (λ (l : List ℕ). done ++ l) whole ∙ sym (append_assoc done front back);
      at = omega (arith, c.pieces.invariant.at, length-append done front);
      sums = piece_more (IsHeldAt d) c.args.unit c.pieces.at done front c.args.found.now c.pieces.found c.check_run.new.found c.pieces.invariant.at
          c.pieces.invariant.sums
          (subst (λ (e : Disk). AddsSums (IsHeldAt e) (unit_sums_from c.pieces.at front) c.pieces.found c.check_run.new.found) c.pieces.invariant.same
          c.in_ok-check_run.ensures.sums);
    }

pub returns-clause-sums : goal.returns-clause-sums
returns-clause-sums g c =
    let done = c.pieces.invariant.done in
    let none : c.pieces.left.now ≡ [] = no_units c.pieces.left.now (sym c.is_empty.ensures ∙ c.pieces-test.false) in
    let all : c.args.csums.now ≡ done = c.pieces.invariant.split ∙ ap (λ (l : List ℕ). done ++ l) none ∙ append-nil done in
    subst (λ (l : List ℕ). AddsSums (IsHeldAt (g.D.Device.disk c.args.dev.now)) (unit_sums_from c.args.unit l) c.args.found.now c.pieces.found) (sym all)
    c.pieces.invariant.sums
