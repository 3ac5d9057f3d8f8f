-- Drawn runs, call by call, and what steps leave as it is.
use Rattle.std.proofs.Common.{◌≡◌, false, List, [], ◌∷◌, ◌++◌, None, ap, ◌∙◌, refl, subst}
use Rattle.block_device.specs.Prelude.{Disk}
use Rattle.object_model.specs.declared.book.Entry.{Entry}
use Rattle.store_steps.specs.declared.step.Step.{Step}
use Rattle.store_steps.specs.Prelude.{State, Takes, Does, Call, IsRun}
use Rattle.run_facts.proofs.Prelude.{does_well, book_step, step_entries, stays_up}
use Rattle.client_runs.specs.Prelude.{Position, Draws, IsDrawnRun, LeadsTo}

-- ---- runs

-- no calls lead from a position to itself
pub stays : (p : Position) → LeadsTo p p
stays p = record { calls = []; run = refl }

-- a run with one call more behind it
run_more : (p : Position) (calls : List Call) (q : Position) (call : Call) (r : Position) → IsDrawnRun p calls q → Draws q call r
    → IsDrawnRun p (calls ++ (call ∷ [])) r
run_more p [] q call r run draws = (r, (subst (λ z. Draws z call r) run draws, refl))
run_more p (c ∷ cs) q call r run draws = (run.0, (run.1.0, run_more run.0 cs q call r run.1.1 draws))

-- and one call more
pub leads_more : (p q : Position) (call : Call) (r : Position) → LeadsTo p q → Draws q call r → LeadsTo p r
leads_more p q call r leads draws = record { calls = leads.calls ++ (call ∷ []); run = run_more p leads.calls q call r leads.run draws }

-- the calls of one run, and then those of another
run_on : (p : Position) (calls : List Call) (q : Position) (more : List Call) (r : Position) → IsDrawnRun p calls q → IsDrawnRun q more r
    → IsDrawnRun p (calls ++ more) r
run_on p [] q more r run rest = subst (λ z. IsDrawnRun z more r) run rest
run_on p (c ∷ cs) q more r run rest = (run.0, (run.1.0, run_on run.0 cs q more r run.1.1 rest))

-- one run behind another
pub leads_on : (p q r : Position) → LeadsTo p q → LeadsTo q r → LeadsTo p r
leads_on p q r first second = record { calls = first.calls ++ second.calls; run = run_on p first.calls q second.calls r first.run second.run }

-- drawn calls are a run of the kernel
pub drawn_run : (p : Position) (calls : List Call) (q : Position) → IsDrawnRun p calls q → IsRun p.state p.disk calls q.state q.disk
drawn_run p [] q run = (ap (λ (z : Position). z.state) run, ap (λ (z : Position). z.disk) run)
drawn_run p (call ∷ calls) q run = (run.0.state, (run.0.disk, (run.1.0.called, (run.1.0.sound, drawn_run run.0 calls q run.1.1))))

-- ---- what steps leave as it is

-- the kernel isn't down, and the entries are as before
pub record IsUpWith (entries : List Entry) (s : State) : Type 0 where
  pub up : s.down ≡ None
  pub same : s.book.entries ≡ entries

-- each step that ends well keeps them
pub step_keeps : (step : Step) (s : State) (d : Disk) (s' : State) (d' : Disk) (entries : List Entry) → Does step s d s' d' → IsUpWith entries s
    → IsUpWith entries s'
step_keeps step s d s' d' entries does here = record {
  up = stays_up step s d s' d' does ∙ here.up;
  same = step_entries step s s' (book_step step s d s' d' (does_well step s d s' d' does)) ∙ here.same;
}

-- a bad end keeps the entries
pub bad_end_same : (s : State) (d : Disk) (s' : State) (d' : Disk) → Takes s d false s' d' → s'.book.entries ≡ s.book.entries
bad_end_same s d s' d' took = ap (λ (z : State). z.book.entries) took.after
