-- Steps that are drawn, one behind another.
use Rattle.std.proofs.Common.{◌≡◌, inr, ℕ, ◌/◌, ◌%◌, ◌^◌, ◌+◌, ◌-◌, true, false, List, [], length, Some, None, ap, ◌∙◌, sym, refl, subst}
use Rattle.block_device.specs.Prelude.{Disk, IsSound}
use Rattle.store_steps.specs.declared.step.Step.{Step}
use Rattle.store_steps.specs.declared.step.Step.TheVariants.{Reap}
use Rattle.store_steps.specs.Prelude.{State, is_ready, Takes, Does, DoesOrFails, stepping}
use Rattle.store_kernel.specs.Steps.{TakesMemory}
use Rattle.store_kernel.specs.declared.step_fail.StepFail.{StepFail}
use Rattle.store_kernel.specs.declared.step_fail.StepFail.TheVariants as fail
use Rattle.client_runs.specs.declared.clients.Clients.{Clients}
use Rattle.client_runs.specs.declared.drawing.Drawn.{Drawn}
use Rattle.client_runs.specs.declared.drawing.Drawn.TheVariants as drawn
use Rattle.client_runs.specs.Prelude.{Ask, ready_list, possible_calls, turned, IsDrawnOf, at_position, LeadsTo, LacksMemory, able_of, lefts, AreTied, IsDrawnFrom, IsNothing, position_of, StepsOn, DrawsClient, DrawsNothing, StopsAs}
use Rattle.client_runs.proofs.DrawLemmas.{ready_passes, drawn_step, no_calls}
use Rattle.run_facts.proofs.Prelude.{does_well, goes_down}
use Rattle.client_runs.proofs.RunLemmas.{stays, leads_more, IsUpWith, step_keeps, bad_end_same}

-- a step that is drawn is ready
pub drawn_ready : (able : List ℕ) (depth : ℕ) (s : State) (x : ℕ) (step : Step) (x' : ℕ) → IsDrawnFrom able (ready_list depth s) x (drawn.Step step) x'
    → is_ready step depth s ≡ true
drawn_ready able depth s x step x' from =
    ready_passes depth s ((x' / 2 ^ 33) % (length able + length (ready_list depth s)) - length able) step from.is.1

-- what was drawn from a list that is the same
pub given : (l able : List ℕ) (ready : List Step) (x : ℕ) (field item : Drawn) (x' : ℕ) → l ≡ able → field ≡ item → IsDrawnFrom l ready x field x'
    → IsDrawnFrom able ready x item x'
given l able ready x field item x' same is from =
    subst (λ (z : Drawn). IsDrawnFrom able ready x z x') is (subst (λ (z : List ℕ). IsDrawnFrom z ready x field x') same from)

pub none_given : (l able : List ℕ) (ready : List Step) (x x' : ℕ) → l ≡ able → IsNothing l ready x x' → IsNothing able ready x x'
none_given l able ready x x' same none = subst (λ (z : List ℕ). IsNothing z ready x x') same none

-- a step that was drawn, and takes memory, had none
lacks_memory : (x x' : ℕ) (clients : List (List Ask)) (s : State) (d : Disk) (s' : State) (d' : Disk) (step : Step) → s.down ≡ None → x' ≡ turned x
    → TakesMemory step → s' ≡ s → d' ≡ d → IsDrawnOf x' (possible_calls clients s.book (ready_list d.depth s)) (stepping step)
    → LacksMemory (at_position x clients s' d')
lacks_memory x x' clients s d s' d' step up turn takes same disk from =
    let here : LacksMemory (at_position x clients s d) = record {
      up = up;
      call = stepping step;
      drawn = subst (λ (n : ℕ). IsDrawnOf n (possible_calls clients s.book (ready_list d.depth s)) (stepping step)) turn from;
      takes = takes;
    } in
    subst (λ (z : Disk). LacksMemory (at_position x clients s' z)) (sym disk)
    (subst (λ (z : State). LacksMemory (at_position x clients z d)) (sym same) here)

-- ---- between the commands of clients

pub steps_begin : (x : ℕ) (clients : Clients) (s : State) (d : Disk) → s.down ≡ None → AreTied clients s → StepsOn x clients s d x clients s d
steps_begin x clients s d up tied = record {
  leads = stays (position_of x clients s d);
  same = refl;
  entries = refl;
  up = up;
  tied = tied;
}

module _ (x0 : ℕ) (c0 : Clients) (s0 : State) (d0 : Disk) (x : ℕ) (c : Clients) (s : State) (d : Disk) (so_far : StepsOn x0 c0 s0 d0 x c s d) where
  -- those that can go on are those of which the program has the numbers
  pub from_able : (item : Drawn) (x' : ℕ) → IsDrawnFrom c.able.items (ready_list d.depth s) x item x'
      → IsDrawnFrom (able_of 0 c.all.items) (ready_list d.depth s) x item x'
  from_able item x' from = subst (λ (l : List ℕ). IsDrawnFrom l (ready_list d.depth s) x item x') so_far.tied.clients_are.able from

  -- a step leads on
  one_more_step : (step : Step) (x' : ℕ) (s' : State) (d' : Disk) → IsDrawnFrom c.able.items (ready_list d.depth s) x (drawn.Step step) x'
      → DoesOrFails step s d s' d' → IsSound d' → LeadsTo (position_of x0 c0 s0 d0) (at_position x' (lefts c.all.items) s' d')
  one_more_step step x' s' d' from does sound =
      leads_more (position_of x0 c0 s0 d0) (position_of x c s d) (stepping step) (at_position x' (lefts c.all.items) s' d') so_far.leads (record {
        x = from.turn;
        drawn = drawn_step c.all.items s.book (ready_list d.depth s) x x' so_far.tied.clients_are.well so_far.tied.counts step
            (from_able (drawn.Step step) x' from);
        called = (drawn_ready c.able.items d.depth s x step x' from, does);
        sound = sound;
        clients = refl;
      })

  pub steps_go_on : (step : Step) (x' : ℕ) (c' : Clients) (s' : State) (d' : Disk)
      → IsDrawnFrom c.able.items (ready_list d.depth s) x (drawn.Step step) x' → Does step s d s' d' → IsSound d' → AreTied c' s'
      → lefts c'.all.items ≡ lefts c.all.items → StepsOn x0 c0 s0 d0 x' c' s' d'
  steps_go_on step x' c' s' d' from does sound tied left =
      let kept : IsUpWith s0.book.entries s' =
      step_keeps step s d s' d' s0.book.entries does (record { up = so_far.up; same = so_far.entries }) in
      record {
        leads = subst (λ (l : List (List Ask)). LeadsTo (position_of x0 c0 s0 d0) (at_position x' l s' d')) (sym left)
            (one_more_step step x' s' d' from (does_well step s d s' d' does) sound);
        same = left ∙ so_far.same;
        entries = kept.same;
        up = kept.up;
        tied = tied;
      }

  -- a step that fails
  pub steps_stop : (e : StepFail) (step : Step) (x' : ℕ) (s' : State) (d' : Disk)
      → IsDrawnFrom c.able.items (ready_list d.depth s) x (drawn.Step step) x' → IsSound d'
      → (e ≡ fail.Fault → (step ≡ Reap) × Takes s d false s' d') → (e ≡ fail.Memory → TakesMemory step × (s' ≡ s) × (d' ≡ d))
      → StopsAs (Some e) (position_of x0 c0 s0 d0) s' d'
  steps_stop fail.Memory step x' s' d' from sound fault memory =
      let same = memory refl in
      let here : LeadsTo (position_of x0 c0 s0 d0) (at_position x (lefts c0.all.items) s d) =
      subst (λ (l : List (List Ask)). LeadsTo (position_of x0 c0 s0 d0) (at_position x l s d)) so_far.same so_far.leads in
      record {
        x = x;
        leads = subst (λ (z : Disk). LeadsTo (position_of x0 c0 s0 d0) (at_position x (lefts c0.all.items) s' z)) (sym same.2)
            (subst (λ (z : State). LeadsTo (position_of x0 c0 s0 d0) (at_position x (lefts c0.all.items) z d)) (sym same.1) here);
        ended = lacks_memory x x' (lefts c0.all.items) s d s' d' step so_far.up from.turn same.0 same.1 same.2
            (subst (λ (l : List (List Ask)). IsDrawnOf x' (possible_calls l s.book (ready_list d.depth s)) (stepping step)) so_far.same
            (drawn_step c.all.items s.book (ready_list d.depth s) x x' so_far.tied.clients_are.well so_far.tied.counts step
            (from_able (drawn.Step step) x' from)));
        entries = ap (λ (z : State). z.book.entries) same.1 ∙ so_far.entries;
      }
  steps_stop fail.Fault step x' s' d' from sound fault memory =
      let bad = fault refl in
      let fails : DoesOrFails step s d s' d' = subst (λ (z : Step). DoesOrFails z s d s' d') (sym bad.0) (inr bad.1) in
      record {
        x = x';
        leads = subst (λ (l : List (List Ask)). LeadsTo (position_of x0 c0 s0 d0) (at_position x' l s' d')) so_far.same
            (one_more_step step x' s' d' from fails sound);
        ended = goes_down s d s' d' bad.1;
        entries = bad_end_same s d s' d' bad.1 ∙ so_far.entries;
      }

  -- a client is drawn
  pub draws_one : (client x' : ℕ) → IsDrawnFrom c.able.items (ready_list d.depth s) x (drawn.Client client) x' → DrawsClient client x0 c0 s0 d0 x' c s d
  draws_one client x' from = record { y = x; steps = so_far; drawn = from }

  -- nothing is left to be drawn
  pub draws_none : (x' : ℕ) → IsNothing c.able.items (ready_list d.depth s) x x' → DrawsNothing x0 c0 s0 d0 x' c s d
  draws_none x' none = subst (λ (z : ℕ). DrawsNothing x0 c0 s0 d0 z c s d) (sym none.same) (record {
    steps = so_far;
    nothing = no_calls c.all.items s.book (ready_list d.depth s) x x' so_far.tied.clients_are.well so_far.tied.counts
        (sym so_far.tied.clients_are.able ∙ none.no_client) none.no_step;
  })

-- ---- where no client is left

-- how far draining has come
pub record IsDraining (x0 : ℕ) (s0 : State) (d0 : Disk) (x : ℕ) (s : State) (d : Disk) : Type 0 where
  pub leads : LeadsTo (at_position x0 [] s0 d0) (at_position x [] s d)
  pub here : IsUpWith s0.book.entries s

pub drain_begins : (x : ℕ) (s : State) (d : Disk) → s.down ≡ None → IsDraining x s d x s d
drain_begins x s d up = record { leads = stays (at_position x [] s d); here = record { up = up; same = refl } }

pub no_client : (ready : List Step) (x : ℕ) (client x' : ℕ) → IsDrawnFrom [] ready x (drawn.Client client) x' → ⊥
no_client ready x client x' from = let never : None ≡ Some client = from.is in cc

module _ (x0 : ℕ) (s0 : State) (d0 : Disk) (x : ℕ) (s : State) (d : Disk) (so_far : IsDraining x0 s0 d0 x s d) where
  drains_more : (step : Step) (x' : ℕ) (s' : State) (d' : Disk) → IsDrawnFrom [] (ready_list d.depth s) x (drawn.Step step) x'
      → DoesOrFails step s d s' d' → IsSound d' → LeadsTo (at_position x0 [] s0 d0) (at_position x' [] s' d')
  drains_more step x' s' d' from does sound =
      leads_more (at_position x0 [] s0 d0) (at_position x [] s d) (stepping step) (at_position x' [] s' d') so_far.leads (record {
        x = from.turn;
        drawn = drawn_step [] s.book (ready_list d.depth s) x x' tt tt step from;
        called = (drawn_ready [] d.depth s x step x' from, does);
        sound = sound;
        clients = refl;
      })

  pub drain_goes_on : (step : Step) (x' : ℕ) (s' : State) (d' : Disk) → IsDrawnFrom [] (ready_list d.depth s) x (drawn.Step step) x'
      → Does step s d s' d' → IsSound d' → IsDraining x0 s0 d0 x' s' d'
  drain_goes_on step x' s' d' from does sound = record {
    leads = drains_more step x' s' d' from (does_well step s d s' d' does) sound;
    here = step_keeps step s d s' d' s0.book.entries does so_far.here;
  }

  pub drain_ends : (x' : ℕ) → IsNothing [] (ready_list d.depth s) x x' → StopsAs None (at_position x0 [] s0 d0) s d
  drain_ends x' none = record {
    x = x;
    leads = so_far.leads;
    ended = (no_calls [] s.book (ready_list d.depth s) x x' tt tt refl none.no_step, so_far.here.up);
    entries = so_far.here.same;
  }

  pub drain_stops : (e : StepFail) (step : Step) (x' : ℕ) (s' : State) (d' : Disk) → IsDrawnFrom [] (ready_list d.depth s) x (drawn.Step step) x'
      → IsSound d' → (e ≡ fail.Fault → (step ≡ Reap) × Takes s d false s' d') → (e ≡ fail.Memory → TakesMemory step × (s' ≡ s) × (d' ≡ d))
      → StopsAs (Some e) (at_position x0 [] s0 d0) s' d'
  drain_stops fail.Memory step x' s' d' from sound fault memory =
      let same = memory refl in
      record {
        x = x;
        leads = subst (λ (z : Disk). LeadsTo (at_position x0 [] s0 d0) (at_position x [] s' z)) (sym same.2)
            (subst (λ (z : State). LeadsTo (at_position x0 [] s0 d0) (at_position x [] z d)) (sym same.1) so_far.leads);
        ended = lacks_memory x x' [] s d s' d' step so_far.here.up from.turn same.0 same.1 same.2
            (drawn_step [] s.book (ready_list d.depth s) x x' tt tt step from);
        entries = ap (λ (z : State). z.book.entries) same.1 ∙ so_far.here.same;
      }
  drain_stops fail.Fault step x' s' d' from sound fault memory =
      let bad = fault refl in
      let fails : DoesOrFails step s d s' d' = subst (λ (z : Step). DoesOrFails z s d s' d') (sym bad.0) (inr bad.1) in
      record {
        x = x';
        leads = drains_more step x' s' d' from fails sound;
        ended = goes_down s d s' d' bad.1;
        entries = bad_end_same s d s' d' bad.1 ∙ so_far.here.same;
      }
