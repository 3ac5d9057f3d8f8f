-- The acknowledged commits, as commits and acknowledgements come.
use Rattle.std.proofs.Common.{◌≡◌, inl, inr, ℕ, zero, suc, ◌+◌, ◌<◌, ◌≤◌, Bool, true, false, cond, nat_lt, List, [], ◌∷◌, ◌++◌, length, Option, Some, None, is_some, slice_get, IfSome, refl, sym, ap, subst, ◌∙◌, arith}
use Rattle.std.proofs.lemmas.Bool.{lt-ltb, le-ltb, cases_lt}
use Rattle.std.proofs.lemmas.Option.{IfSome_then, slice_get_cases}
use Rattle.block_device.proofs.LogLemmas.{slice_get-push_cases}
use Rattle.object_model.specs.declared.book.Commit.{Commit}
use Rattle.store_steps.specs.Prelude.{acknowledged}
use Rattle.run_facts.specs.Prelude.{AcksAre}

-- the commit at this place, if there is one, is acknowledged where so many are
abbrev IsAcked : ℕ → ℕ → Option Commit → Type 0
IsAcked acked i o = IfSome o (λ (c : Commit). is_some c.acked_at ≡ nat_lt i acked)

-- a commit that isn't acknowledged
pub acks_push : (cs : List Commit) (c : Commit) (acked : ℕ) → AcksAre acked cs → acked ≤ length cs → c.acked_at ≡ None → AcksAre acked (cs ++ c ∷ [])
acks_push cs c acked acks le new i = of_found (slice_get (cs ++ c ∷ []) i) refl
  where
    of_found : (o : Option Commit) → slice_get (cs ++ c ∷ []) i ≡ o → IsAcked acked i o
    of_found None e = tt
    of_found (Some x) e = elim (slice_get-push_cases cs c x i e) [
      | inl old ↦ subst (IsAcked acked i) old (acks i)
      | inr last ↦ ap (λ (y : Commit). is_some y.acked_at) (sym last.1) ∙ ap is_some new ∙ sym (le-ltb i acked (omega (arith, le, last.0)))
    ]

lt_suc : (i n : ℕ) → nat_lt (suc i) (suc n) ≡ nat_lt i n
lt_suc i n = elim (cases_lt i n) [
  | inl lt ↦ lt-ltb (suc i) (suc n) (omega (arith, lt)) ∙ sym (lt-ltb i n lt)
  | inr le ↦ le-ltb (suc i) (suc n) (omega (arith, le)) ∙ sym (le-ltb i n le)
]

-- the first commit that isn't acknowledged is acknowledged
pub acks_more : (events : ℕ) (cs : List Commit) (acked : ℕ) → AcksAre acked cs → AcksAre (acked + 1) (acknowledged events cs)
acks_more events [] acked acks i = tt
acks_more events (c ∷ cs) zero acks i =
    subst (λ (b : Bool). IsAcked (0 + 1) i (slice_get (cond b (c ∷ acknowledged events cs) (record c { acked_at = Some events } ∷ cs)) i))
    (sym (acks 0)) (of_place i)
  where
    of_place : (i : ℕ) → IsAcked (0 + 1) i (slice_get (record c { acked_at = Some events } ∷ cs) i)
    of_place zero = refl
    of_place (suc j) = IfSome_then (slice_get cs j) (acks (suc j))
        (λ (x : Commit) p. p ∙ le-ltb (suc j) 0 (omega arith) ∙ sym (le-ltb (suc j) 1 (omega arith)))
acks_more events (c ∷ cs) (suc n) acks i =
    subst (λ (b : Bool). IsAcked (suc n + 1) i (slice_get (cond b (c ∷ acknowledged events cs) (record c { acked_at = Some events } ∷ cs)) i))
    (sym here) (of_place (acks_more events cs n (λ j. IfSome_then (slice_get cs j) (acks (suc j)) (λ (x : Commit) p. p ∙ lt_suc j n))) i)
  where
    here : is_some c.acked_at ≡ true
    here = acks 0 ∙ lt-ltb 0 (suc n) (omega arith)

    of_place : AcksAre (n + 1) (acknowledged events cs) → (i : ℕ)
        → IfSome (slice_get (c ∷ acknowledged events cs) i) (λ (x : Commit). is_some x.acked_at ≡ nat_lt i (suc n + 1))
    of_place rest zero = here ∙ sym (lt-ltb 0 (suc n + 1) (omega arith))
    of_place rest (suc j) = IfSome_then (slice_get (acknowledged events cs) j) (rest j)
        (λ (x : Commit) p. p ∙ sym (lt_suc j (n + 1)) ∙ ap (nat_lt (suc j)) (same n))
      where
        same : (n : ℕ) → suc (n + 1) ≡ suc n + 1
        same n = omega arith

-- the next one
pub record NextAcked (cs : List Commit) (acked : ℕ) : Type 0 where
  pub commit : Commit
  pub here : slice_get cs acked ≡ Some commit
  pub not_acked : commit.acked_at ≡ None

none_is : {A : Type 0} (o : Option A) → is_some o ≡ false → o ≡ None
none_is None e = refl
none_is (Some x) e = absurd (cc)

pub next_acked : (cs : List Commit) (acked : ℕ) → AcksAre acked cs → acked < length cs → NextAcked cs acked
next_acked cs acked acks below = elim (slice_get_cases cs acked).1 [
  | inl found ↦ record {
    commit = found.0;
    here = found.2;
    not_acked = none_is (found.0).acked_at
        (subst (IsAcked acked acked) found.2 (acks acked) ∙ le-ltb acked acked (omega arith));
  }
  | inr past ↦ absurd (omega (arith, past.0, below))
]
