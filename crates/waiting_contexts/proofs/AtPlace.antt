-- What a call tells of the context at its place.
use Rattle.std.proofs.Common.{◌≡◌, inl, inr, ℕ, ◌==◌, not, Bool, false, cond, List, [], ◌∷◌, Option, Some, None, is_some, refl, sym, ap, ◌∙◌}
use mathlib.Core.Bool.{beq}
use Rattle.std.specs.Option.{option_map_or}
use Rattle.std.proofs.lemmas.Bool.{cases_Bool}
use Rattle.store_steps.specs.declared.context.Context.{Context}
use Rattle.store_steps.specs.Prelude.{unsent, is_done, with_context}
use Rattle.waiting_contexts.specs.Places.{context_at, is_done_at}
use Rattle.waiting_contexts.specs.Unsent.{has_unsent_at}
use Rattle.waiting_contexts.proofs.UnsentLemmas.{changed_at}

-- where no context has the place nothing changes
pub none_changes : (p : ℕ) (f : Context → Context) (xs : List Context) → context_at p xs ≡ None → with_context p f xs ≡ xs
none_changes p f [] none = refl
none_changes p f (x ∷ xs) none = elim (cases_Bool (x.place == p)) [
  | inl here ↦
      let found : Some x ≡ None = sym (ap (λ (b : Bool). cond b (Some x) (context_at p xs)) here) ∙ none in
      absurd (cc)
  | inr other ↦
      ap (λ (b : Bool). cond b (f x) x ∷ with_context p f xs) other
      ∙ ap (λ (l : List Context). x ∷ l) (none_changes p f xs (sym (ap (λ (b : Bool). cond b (Some x) (context_at p xs)) other) ∙ none))
]

abbrev left_of : Option Context → Bool
left_of o = option_map_or (λ (z : Context). is_some (unsent z)) o false

abbrev done_of : Option Context → Bool
done_of o = option_map_or (λ (z : Context). is_done z) o false

module _ (p : ℕ) (f : Context → Context) (keeps : (z : Context) → z.place ≡ (f z).place) (xs ys : List Context) (is : ys ≡ with_context p f xs) where
  there : (x : Context) → context_at p xs ≡ Some x → context_at p ys ≡ Some (f x)
  there x at = ap (context_at p) is ∙ changed_at p xs x f keeps at

  nowhere : context_at p xs ≡ None → context_at p ys ≡ None
  nowhere none = ap (context_at p) (is ∙ none_changes p f xs none) ∙ none

  pub left_there : (x y : Context) (b : Bool) → context_at p xs ≡ Some x → y ≡ f x → b ≡ is_some (unsent y) → b ≡ has_unsent_at p ys
  left_there x y b at same told = told ∙ ap (λ (z : Context). is_some (unsent z)) same ∙ sym (ap left_of (there x at))

  pub none_left : (b : Bool) → context_at p xs ≡ None → b ≡ false → b ≡ has_unsent_at p ys
  none_left b none told = told ∙ sym (ap left_of (nowhere none))

  pub last_there : (x y : Context) (was now b : Bool) → context_at p xs ≡ Some x → y ≡ f x → was ≡ is_done x → now ≡ is_done y → b ≡ not (beq now was)
      → b ≡ not (beq (is_done_at p ys) (is_done_at p xs))
  last_there x y was now b at same told_was told_now told =
      told
      ∙ ap (λ (c : Bool). not (beq c was)) (told_now ∙ ap (λ (z : Context). is_done z) same ∙ sym (ap done_of (there x at)))
      ∙ ap (λ (c : Bool). not (beq (is_done_at p ys) c)) (told_was ∙ sym (ap done_of at))

  pub none_last : (b : Bool) → context_at p xs ≡ None → b ≡ false → b ≡ not (beq (is_done_at p ys) (is_done_at p xs))
  none_last b none told =
      told ∙ ap (λ (c : Bool). not (beq c false)) (sym (ap done_of (nowhere none))) ∙ ap (λ (c : Bool). not (beq (is_done_at p ys) c)) (sym (ap done_of none))
