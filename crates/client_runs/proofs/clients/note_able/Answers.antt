use Rattle.std.proofs.Common.{ap, arith, List, ℕ}
use Rattle.client_runs.specs.Clients.{below}
use Rattle.client_runs.proofs.ClientLemmas.{below_few}
use Rattle.client_runs.proofs.clients.note_able.Goals as goal

pub insert-requires : goal.insert-requires
insert-requires c = (
  omega arith,
  (
    omega (
      arith,
      c.rank_in-at-in-false-true.ensures,
      ap (λ (l : List ℕ). below c.args.client l) c.as_slice-in-false-true.ensures.value,
      below_few c.args.client c.args.able.now.items,
    ),
    c.requires.room c.in-false-true.is-0 c.in-false-true.is-1,
  ),
)
