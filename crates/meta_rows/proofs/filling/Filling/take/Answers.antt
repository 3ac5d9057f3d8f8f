use Rattle.std.proofs.Common.{◌∙◌, ap, sym, subst}
use Rattle.meta_rows.specs.Prelude.{key_of, AllBelow, value_left, joined, rows_of, held_rows, held_value, HoldsKey, NotBelow}
use Rattle.meta_rows.proofs.FillLemmas.{changed_held, still_filling, all_under, comes_behind, under_later, awaits_left}
use Rattle.meta_rows.proofs.filling.Filling.take.Goals as goal

pub returns-then-holds-clause-rows : goal.returns-then-holds-clause-rows
returns-then-holds-clause-rows c =
    let old = c.args.self.now in
    ap rows_of c.change_held.ensures
    ∙ changed_held c.args.op (joined old.all.list.items) old.held c.requires.awaits.0 (subst (λ k. HoldsKey k old.held) c.key.ensures (c.holds.ensures.yes c.if-holds.true))

pub returns-then-holds-clause-state : goal.returns-then-holds-clause-state
returns-then-holds-clause-state c =
    still_filling c.args.op c.args.self.now c.args.self.now c.change_held.new.self c.requires.state c.requires.state.order (ap (λ f. f.all) c.change_held.ensures) (ap (λ f. f.size) c.change_held.ensures)
    (returns-then-holds-clause-rows c)

under : (c : goal.After-change_held-2) → AllBelow (key_of c.args.op) (rows_of c.args.self.now)
under c =
    let old = c.args.self.now in
    let low = subst (λ k. NotBelow k old.held) (sym c.key.ensures) c.requires.awaits.1 in
    all_under (key_of c.args.op) old c.requires.awaits (subst (λ k. AllBelow k (held_rows old.held)) c.key.ensures (c.holds.ensures.other c.if-holds.false low))

pub returns-clause-rows : goal.returns-clause-rows
returns-clause-rows c = comes_behind c.args.op c.args.self.now c.put_held.new.self c.change_held-2.new.self (under c) c.put_held.ensures.rows c.put_held.ensures.none c.change_held-2.ensures

pub returns-clause-state : goal.returns-clause-state
returns-clause-state c =
    still_filling c.args.op c.args.self.now c.put_held.new.self c.change_held-2.new.self c.put_held.ensures.state c.requires.state.order (ap (λ f. f.all) c.change_held-2.ensures)
    (ap (λ f. f.size) c.change_held-2.ensures) (returns-clause-rows c)

pub returns-clause-awaits : goal.returns-clause-awaits
returns-clause-awaits c = λ key awaits later. (
  subst (λ f. AllBelow key (joined f.all.list.items)) (sym c.change_held-2.ensures)
      (subst (AllBelow key) (sym c.put_held.ensures.rows) (under_later (key_of c.args.op) key (rows_of c.args.self.now) (under c) later)),
  subst (λ f. NotBelow key f.held) (sym c.change_held-2.ensures)
      (awaits_left key c.args.op (value_left (held_value c.put_held.new.self.held) c.args.op) later),
)
