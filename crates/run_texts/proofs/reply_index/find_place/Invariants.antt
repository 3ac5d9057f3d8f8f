use Rattle.std.proofs.Common.{◌≡◌}
use Rattle.run_texts.specs.Prelude.{clients_of, client_place_from}
use Rattle.run_texts.proofs.reply_index.find_place.Given as goal

abbrev pub invariant-loop-place : goal.invariant-loop-place
invariant-loop-place l = client_place_from (clients_of l.entries) l.client l.place ≡ client_place_from (clients_of l.entries) l.client l.from
