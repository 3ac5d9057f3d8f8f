use Rattle.std.proofs.Common.{◌<◌, List, take, get_or, false, All, sym, subst, arith}
use Rattle.std.proofs.lemmas.List.{take_more, take_all}
use Rattle.std.proofs.lemmas.List.Elements.{All-push}
use Rattle.block_device.specs.declared.pending.Pending.{Pending}
use Rattle.block_device.proofs.pending.first_ready.Goals as goal

none_yet : Pending
none_yet = record { ticket = 0; first = 0; bytes = 0; ok = false; lag = 0 }

pub loop-i-preserved : goal.loop-i-preserved
unfolding none_yet
loop-i-preserved c =
    let ps = c.args.pending.now in
    let i = c.loop-i.i in
    let here : 0 < (get_or ps i none_yet).lag = omega (arith, c.if-p-eq0.false) in
    subst (λ (l : List Pending). All (λ p. 0 < p.lag) l) (sym (take_more ps i none_yet c.loop-i-test.true)) (All-push (λ p. 0 < p.lag) (take i ps) (get_or ps i none_yet) c.loop-i.invariant here)

pub returns : goal.returns
returns c = subst (λ (l : List Pending). All (λ p. 0 < p.lag) l) (take_all c.loop-i.i c.args.pending.now c.loop-i-test.false) c.loop-i.invariant
