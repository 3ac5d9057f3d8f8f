-- A kernel as it is opened.
use Rattle.std.proofs.Common.{◌≡◌, ℕ, Bool, true, false, not, ◌||◌, cond, filter, Option, None, List, [], ◌∷◌, refl, ap, ◌∙◌}
use Rattle.std.specs.List.{list_any}
use Rattle.meta_rows.specs.Prelude.{Rows}
use Rattle.meta_store.specs.Store.{Begun, Checking, Meta}
use Rattle.object_model.specs.declared.book.Entry.{Entry}
use Rattle.object_model.specs.declared.book.Commit.{Commit}
use Rattle.unit_allocator.specs.Prelude.{Space}
use Rattle.store_steps.specs.declared.context.Context.{Context}
use Rattle.store_steps.specs.declared.flight.Flying.{Flying}
use Rattle.store_steps.specs.Prelude.{opened, is_empty}
use Rattle.store_steps.specs.declared.step.Step.{Step}
use Rattle.store_kernel.specs.Seen.{found_of, IsUnused, state_of}

-- the state of the kernel's fields as they begin
pub opened_is : (m : Meta) (rows : Rows) (pending : List Context) (flying : List Flying) (entries : List Entry) (commits : List Commit) (space : Space) (next events : ℕ)
    → IsUnused m → rows ≡ m.rows → pending ≡ [] → flying ≡ [] → entries ≡ [] → commits ≡ []
    → state_of m rows pending None None flying None events space entries commits 0 next ≡ opened (found_of m) space next events
opened_is m rows pending flying entries commits space next events unused same none_pending none_flying none_entered none_committed =
    ap (λ (x : Rows). state_of m x pending None None flying None events space entries commits 0 next) same
    ∙ ap (λ (x : List Context). state_of m m.rows x None None flying None events space entries commits 0 next) none_pending
    ∙ ap (λ (x : List Flying). state_of m m.rows [] None None x None events space entries commits 0 next) none_flying
    ∙ ap (λ (x : List Entry). state_of m m.rows [] None None [] None events space x commits 0 next) none_entered
    ∙ ap (λ (x : List Commit). state_of m m.rows [] None None [] None events space [] x 0 next) none_committed
    ∙ ap (λ (r : ℕ). let t : Meta = record m { reserved = r } in state_of t m.rows [] None None [] None events space [] [] 0 next) unused.none_reserved
    ∙ ap (λ (b : Option Begun). let t : Meta = record m { reserved = 0; begun = b } in state_of t m.rows [] None None [] None events space [] [] 0 next)
    unused.none_begun
    ∙ ap (λ (c : Option Checking). let t : Meta = record m { reserved = 0; begun = None; check = c } in state_of t m.rows [] None None [] None events space [] [] 0 next)
    unused.none_checked

-- no step is ready where none of them all is
pub none_ready : (test : Step → Bool) (steps : List Step) → not (list_any test steps) ≡ is_empty (filter test steps)
none_ready test [] = refl
none_ready test (x ∷ xs) = of_test (test x) (none_ready test xs)
  where
    of_test : (b : Bool) → not (list_any test xs) ≡ is_empty (filter test xs)
        → not (b || list_any test xs) ≡ is_empty (cond b (x ∷ filter test xs) (filter test xs))
    of_test true rest = refl
    of_test false rest = rest
