-- What a call makes of the book keeps what is kept of it.
use Rattle.std.proofs.Common.{◌≡◌, ℕ, ◌<◌, ◌≤◌, true, List, [], ◌∷◌, ◌++◌, length, None, refl, sym, subst, append_assoc, append-nil, length-append, arith}
use Rattle.run_facts.proofs.Common.{ltb-true, Disk, Commit}
use Rattle.store_steps.specs.declared.step.Step.TheVariants.{Finish}
use Rattle.store_steps.specs.Prelude.{State, applied_count, is_ready, Intent, RowsPart, BookPart, book_part, Touch, RowsGo, BookGoes, commits_of, IsCaused}
use Rattle.store_steps.specs.RowsGo as rows
use Rattle.store_steps.specs.BookGoes as book
use Rattle.flight_facts.proofs.Prelude.{acknowledged_length, ready_not_down, ready_by_table}
use Rattle.run_facts.specs.Prelude.{AcksAre, IsBookKept}
use Rattle.run_facts.proofs.Numbers.{acks_push, acks_more}

-- commits that aren't acknowledged, behind those that there are
acks_behind : (acked : ℕ) (xs : List Intent) (cs : List Commit) → AcksAre acked cs → acked ≤ length cs → AcksAre acked (cs ++ commits_of xs)
acks_behind acked [] cs acks within = subst (AcksAre acked) (sym (append-nil cs)) acks
acks_behind acked (x ∷ xs) cs acks within =
    let c : Commit = record { place = x.place; acked_at = None } in
    subst (AcksAre acked) (append_assoc cs (c ∷ []) (commits_of xs))
    (acks_behind acked xs (cs ++ c ∷ []) (acks_push cs c acked acks within refl) (omega (arith, length-append cs (c ∷ []), within)))

-- an acknowledgement is of a commit that is applied
abbrev pub IsAckedInTurn : (p : BookPart) {events : ℕ} {t : Touch} {q : BookPart} → BookGoes events t p q → Type 0
IsAckedInTurn p (book.acknowledges is) = p.acked < p.applied
IsAckedInTurn p other = Unit {0}

pub book_go : (events : ℕ) (t : Touch) (p q : BookPart) (goes : BookGoes events t p q) → IsAckedInTurn p goes → IsBookKept p → IsBookKept q
book_go events t p q (book.same is) turn kept = subst IsBookKept (sym is) kept
book_go events t p q (book.enters e is) turn kept = subst IsBookKept (sym is) (record { acks = kept.acks; within = kept.within; all = kept.all })
book_go events t p q (book.commits xs none is) turn kept = subst IsBookKept (sym is) (record {
  acks = acks_behind p.acked xs p.book.commits kept.acks (omega (arith, kept.within, kept.all));
  within = kept.within;
  all = omega (arith, kept.all, length-append p.book.commits (commits_of xs));
})
book_go events t p q (book.applies count all is) turn kept = subst IsBookKept (sym is) (record {
  acks = kept.acks;
  within = omega (arith, kept.within, kept.all, all);
  all = omega (arith, all);
})
book_go events t p q (book.acknowledges is) turn kept = subst IsBookKept (sym is) (record {
  acks = acks_more events p.book.commits p.acked kept.acks;
  within = omega (arith, turn);
  all = omega (arith, kept.all, acknowledged_length events p.book.commits);
})

-- the cause of an acknowledgement is that it is its turn
module _ (s : State) (d : Disk) (s' : State) (d' : Disk) where
  in_turn : is_ready Finish d.depth s ≡ true → (book_part s).acked < (book_part s).applied
  in_turn ready = ltb-true s.acked (applied_count s) (ready_by_table s d.depth Finish (ready_not_down s d.depth Finish refl ready) ready)

  pub acked_in_turn : {p q : RowsPart} {events : ℕ} {t : Touch} {c : BookPart} (moved : RowsGo p q) (goes : BookGoes events t (book_part s) c)
      → IsCaused s d s' d' moved goes → IsAckedInTurn (book_part s) goes
  acked_in_turn (rows.same kept) (book.acknowledges is) caused = in_turn caused.ready
  acked_in_turn moved (book.acknowledges is) caused = absurd caused
  acked_in_turn moved goes caused = tt
