-- Two keys are the same or not.
use Rattle.std.proofs.Common.{◌≡◌, ◌≢◌, ℕ, Bool, true, false, List, refl, sym, ap, ◌∙◌}
use Rattle.std.specs.Ordering.{is_eq}
use Rattle.std.specs.declared.cmp.Ordering.{Ordering}
use Rattle.std.specs.declared.cmp.Ordering.TheVariants.{Less, Equal, Greater}
use Rattle.std.specs.Cmp.{tied_itself}
use Rattle.std.specs.Cmp.Lexicographic.{nat_list_cmp_total}
use Rattle.byte_maps.specs.ByteMap.{byte_order}
use Rattle.byte_maps.proofs.Prelude.{same_bytes}
use Rattle.object_model.specs.Prelude.{is_same}

pub same_itself : (a : List ℕ) → is_same a a ≡ true
same_itself a = ap is_eq (tied_itself nat_list_cmp_total a)

is_equal : (o : Ordering) → is_eq o ≡ true → o ≡ Equal
is_equal Less is = absurd cc
is_equal Equal is = refl
is_equal Greater is = absurd cc

pub same_or_not : (A : Type 0) (a b : List ℕ) → (a ≡ b → is_same a b ≡ true → A) → (a ≢ b → is_same a b ≡ false → A) → A
same_or_not A a b here other = elim (is_same a b) as (λ (t : Bool). is_same a b ≡ t → A) [
  | true ↦ λ is. here (same_bytes a b (is_equal (byte_order a b) is)) is
  | false ↦ λ not. other (λ one. let clash : true ≡ false = sym (same_itself a) ∙ ap (is_same a) one ∙ not in cc) not
] refl

pub less_apart : (a b : List ℕ) → byte_order a b ≡ Less → a ≢ b
less_apart a b less same =
    let tied : byte_order a b ≡ Equal = ap (byte_order a) (sym same) ∙ tied_itself nat_list_cmp_total a in
    let t = sym less ∙ tied in cc
