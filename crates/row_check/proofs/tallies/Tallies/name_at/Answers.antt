use Rattle.std.proofs.Common.{◌≡◌, ◌+◌, ◌≤◌, List, length, get_or, set, sym, subst, ap, ◌∙◌, arith}
use Rattle.std.proofs.lemmas.List.{get_or_default}
use Rattle.std.proofs.lemmas.Result.{on_ok_weaker}
use Rattle.row_check.specs.Tallies.{Tally, no_tally, Tallies, tally_raised, raised_at}
use Rattle.row_check.proofs.Naming.{set_raised}
use Rattle.row_check.proofs.tallies.Tallies.name_at.Goals as goal

pub name-requires : goal.name-requires
name-requires c =
    let at = c.args.at in
    let r : Tally = c.index_mut.result.now in
    let items : c.self.inside.list.items ≡ c.args.self.now.list = ap (λ (t : Tallies). t.list) c.self.view_is in
    let here : get_or c.args.self.now.list at no_tally ≡ r =
    get_or_default c.args.self.now.list at no_tally r c.requires.within ∙ ap (λ (l : List Tally). get_or l at r) (sym items) ∙ sym c.index_mut.ensures.value in
    subst (λ (x : Tally). c.args.first + c.args.count ≤ length x.named) here c.requires.slots

pub returns : goal.returns
returns c =
    let at = c.args.at in
    let r : Tally = c.index_mut.result.now in
    let held : List Tally = c.self.inside.list.items in
    let items : held ≡ c.args.self.now.list = ap (λ (t : Tallies). t.list) c.self.view_is in
    let places = ap (λ (t : Tallies). t.places) c.self.view_is in
    on_ok_weaker c.name.result (λ is.
    let list : set held at c.name.new.self ≡ raised_at c.args.self.now.list at c.args.first c.args.count =
    ap (λ (x : Tally). set held at x) (is ∙ ap (λ (x : Tally). tally_raised x c.args.first c.args.count) c.index_mut.ensures.value)
    ∙ set_raised held at c.args.first c.args.count r (omega (arith, c.requires.within, ap length items))
    ∙ ap (λ (l : List Tally). raised_at l at c.args.first c.args.count) items in
    λ i. record { places = places i; list = list i }) c.name.ensures
