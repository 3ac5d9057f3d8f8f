use Rattle.std.proofs.Common.{ℕ, List, ◌+◌, ◌<◌, ◌≤◌, length, ap, sym, subst, ◌∙◌, arith}
use Rattle.object_model.specs.declared.book.Entry.{Entry}
use Rattle.object_model.specs.declared.book.Commit.{Commit}
use Rattle.object_model.specs.Prelude.{is_acknowledged}
use Rattle.run_texts.specs.Prelude.{clients_of, client_place_from}
use Rattle.run_texts.proofs.IndexLemmas.{none_pushed, one_pushed, all_pushed, next_later}
use Rattle.run_texts.proofs.replies.push_client.Goals as goal

pub loop-place-init : goal.loop-place-init
loop-place-init g c =
    none_pushed c.args.book.now.commits c.args.client c.args.book.now.entries c.first_place-place.result _ _
    (c.first_place-place.ensures ∙ ap (λ (es : List Entry). client_place_from (clients_of es) c.args.client 0) c.as_slice-entries.ensures)

pub loop-place-smaller : goal.loop-place-smaller
loop-place-smaller g c =
    let place : ℕ = c.loop-place.place in
    let later : place + 1 ≤ c.place_behind-place.result =
    subst (λ (n : ℕ). place + 1 ≤ n) (sym c.place_behind-place.ensures) (next_later c.args.client (place + 1) _) in
    omega (arith, later, c.loop-place-test.true)

pub loop-place-preserved : goal.loop-place-preserved
loop-place-preserved g c =
    let place : ℕ = c.loop-place.place in
    let book = c.args.book.now in
    let same = c.as_slice-entries.ensures in
    let within : place < length book.entries = omega (arith, c.loop-place-test.true, ap length same) in
    one_pushed book.commits c.args.client book.entries place c.place_behind-place.result c.index-entries-place.result c.is_acked_at-acked.result
    c.loop-place.invariant within (rw same at c.index-entries-place.is)
    (c.is_acked_at-acked.ensures ∙ ap (λ (cs : List Commit). is_acknowledged cs place) c.as_slice.ensures) c.push_entry.ensures
    (c.place_behind-place.ensures ∙ ap (λ (es : List Entry). client_place_from (clients_of es) c.args.client (place + 1)) same)

pub returns : goal.returns
returns g c =
    all_pushed c.args.book.now.commits c.args.client c.args.book.now.entries c.loop-place.place
    (omega (arith, c.loop-place-test.false, ap length c.as_slice-entries.ensures)) c.loop-place.invariant
