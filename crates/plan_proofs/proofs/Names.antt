-- Names that are the same, and what is under one of them.
use Rattle.std.proofs.Common.{◌≡◌, ◌≢◌, inl, inr, ℕ, Bool, true, false, cond, List, Option, None, refl, ap}
use Rattle.std.specs.Ordering.{is_eq}
use Rattle.std.specs.declared.cmp.Ordering.TheVariants.{Less, Equal, Greater}
use Rattle.std.specs.Cmp.{tied_itself}
use Rattle.std.specs.Cmp.Lexicographic.{nat_list_cmp_total}
use Rattle.std.proofs.lemmas.Bool.{cases_Bool}
use Rattle.byte_maps.specs.ByteMap.{byte_order}
use Rattle.byte_maps.proofs.Prelude.{same_bytes}
use Rattle.object_model.specs.Prelude.{is_same}
use Rattle.plan_drafts.specs.Prelude.{at_name}

pub same_is : (x y : List ℕ) → is_same x y ≡ true → x ≡ y
same_is x y is = elim (byte_order x y) as (λ r. byte_order x y ≡ r → is_eq r ≡ true → x ≡ y) [
  | Less ↦ λ p t. absurd cc
  | Equal ↦ λ p t. same_bytes x y p
  | Greater ↦ λ p t. absurd cc
] refl is

pub itself : (o : List ℕ) → is_same o o ≡ true
itself o = ap is_eq (tied_itself nat_list_cmp_total o)

pub none_either : {X : Type 0} (b : Bool) (x : Option X) → x ≡ None → cond b None x ≡ None
none_either true x is = refl
none_either false x is = is

module _ {X : Type 0} (o : List ℕ) (x : X) (all : List ℕ → X) where
  pub at_here : at_name o x all o ≡ x
  at_here = ap (λ b. cond b x (all o)) (itself o)

  pub at_other : (u : List ℕ) → u ≢ o → at_name o x all u ≡ all u
  at_other u apart = elim (cases_Bool (is_same u o)) [
    | inl same ↦ absurd (apart (same_is u o same))
    | inr other ↦ ap (λ b. cond b x (all u)) other
  ]
