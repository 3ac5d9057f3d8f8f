use Rattle.std.proofs.Common.{arith}
use Rattle.waiting_contexts.proofs.HeadCounts.{heads_fit}
use Rattle.waiting_contexts.proofs.choosing.choose.Goals as goal

pub go_back-requires : goal.go_back-requires
go_back-requires c =
    let lengths = c.pick-picked.ensures.lengths in
    let room = c.pick-picked.ensures.room in
    let fits = heads_fit c.args.hand.now.places c.args.submissions.now c.requires.heads in
    let most = c.requires.room in
    omega (arith, lengths, room, fits, most)
