-- One slot among those of a blob.
use Rattle.std.proofs.Common.{◌≡◌, inl, inr, ℕ, zero, suc, ◌+◌, ◌<◌, ◌≤◌, ◌==◌, Bool, true, false, cond, List, [], ◌∷◌, length, set, get_or, Contains, Option, Some, None, option_to_list, refl, sym, ap, ◌∙◌, arith}
use Rattle.std.specs.Prelude.{slice_get}
use Rattle.std.proofs.lemmas.Bool.Decides.{nat_tests}
use Rattle.std.specs.Option.{option_map_or}
use Rattle.row_format.specs.Prelude.{Slot}
use Rattle.unit_allocator.proofs.Lists.{Contains-cases}
use Rattle.plan_rows.specs.Prelude.{lowered, with_one_less, with_less}
use Rattle.shared_blobs.specs.Blob.{Blob, raised, with_one_more, freed_by}

-- ---- past the end

pub get_past : (xs : List Slot) (index : ℕ) → length xs ≤ index → slice_get xs index ≡ None
get_past [] index le = refl
get_past (x ∷ xs) zero le = absurd (omega (arith, le))
get_past (x ∷ xs) (suc n) le = get_past xs n (omega (arith, le))

pub less_past : (xs : List Slot) (index : ℕ) → length xs ≤ index → with_one_less xs index ≡ xs
less_past [] index le = refl
less_past (x ∷ xs) zero le = absurd (omega (arith, le))
less_past (x ∷ xs) (suc n) le = ap (λ (l : List Slot). x ∷ l) (less_past xs n (omega (arith, le)))

-- ---- at a place

pub get_at : (xs : List Slot) (index : ℕ) (x : Slot) → index < length xs → x ≡ get_or xs index x → slice_get xs index ≡ Some x
get_at [] index x lt is = absurd (omega (arith, lt))
get_at (y ∷ xs) zero x lt is = ap Some (sym is)
get_at (y ∷ xs) (suc n) x lt is = get_at xs n x (omega (arith, lt)) is

pub less_at : (xs : List Slot) (index : ℕ) (x : Slot) → index < length xs → x ≡ get_or xs index x → set xs index (lowered x) ≡ with_one_less xs index
less_at [] index x lt is = absurd (omega (arith, lt))
less_at (y ∷ xs) zero x lt is = ap (λ z. lowered z ∷ xs) is
less_at (y ∷ xs) (suc n) x lt is = ap (λ (l : List Slot). y ∷ l) (less_at xs n x (omega (arith, lt)) is)

pub more_at : (xs : List Slot) (index : ℕ) (x : Slot) → index < length xs → x ≡ get_or xs index x → set xs index (raised x) ≡ with_one_more xs index
more_at [] index x lt is = absurd (omega (arith, lt))
more_at (y ∷ xs) zero x lt is = ap (λ z. raised z ∷ xs) is
more_at (y ∷ xs) (suc n) x lt is = ap (λ (l : List Slot). y ∷ l) (more_at xs n x (omega (arith, lt)) is)

-- ---- how many

pub length-less : (xs : List Slot) (index : ℕ) → length (with_one_less xs index) ≡ length xs
length-less [] index = refl
length-less (x ∷ xs) zero = refl
length-less (x ∷ xs) (suc n) = ap suc (length-less xs n)

pub length-with_less : (xs : List Slot) (ks : List ℕ) → length (with_less xs ks) ≡ length xs
length-with_less xs [] = refl
length-with_less xs (k ∷ ks) = length-with_less (with_one_less xs k) ks ∙ length-less xs k

-- ---- what comes free

pub other : (n : ℕ) → (n ≡ 1 → ⊥) → (n == 1) ≡ false
other n apart = grind (arith, nat_tests, apart)

-- by what stands under the number
abbrev pub freed_of : Blob → ℕ → Option Slot → Option ℕ
freed_of b index x = option_map_or (λ (x : Slot). cond (x.count == 1) (Some (b.first + index)) None) x None

pub freed_none : (b : Blob) (index : ℕ) → length b.slots ≤ index → None ≡ freed_by b index
freed_none b index le = sym (ap (freed_of b index) (get_past b.slots index le))

pub freed_some : (b : Blob) (index : ℕ) (x : Slot) → slice_get b.slots index ≡ Some x → x.count ≡ 1 → Some (b.first + index) ≡ freed_by b index
freed_some b index x is one = sym (ap (freed_of b index) is ∙ ap (λ (n : ℕ). cond (n == 1) (Some (b.first + index)) None) one)

pub freed_other : (b : Blob) (index : ℕ) (x : Slot) → slice_get b.slots index ≡ Some x → (x.count == 1) ≡ false → None ≡ freed_by b index
freed_other b index x is other = sym (ap (freed_of b index) is ∙ ap (λ (t : Bool). cond t (Some (b.first + index)) None) other)

pub some_freed : (b : Blob) (index u : ℕ) → Contains (option_to_list (freed_by b index)) u
    → (x : Slot) × (slice_get b.slots index ≡ Some x) × (x.count ≡ 1) × (u ≡ b.first + index)
some_freed b index u k = by (slice_get b.slots index) refl k
  where
    of : (x : Slot) (t : Bool) → (x.count == 1) ≡ t → Contains (option_to_list (cond t (Some (b.first + index)) None)) u → (x.count ≡ 1) × (u ≡ b.first + index)
    of x true is c = (grind (arith, nat_tests, is), elim (Contains-cases (b.first + index) u [] c) [ inl e ↦ sym e | inr later ↦ absurd (omega (arith, later.1)) ])
    of x false is c = absurd (omega (arith, c.1))

    by : (z : Option Slot) → slice_get b.slots index ≡ z → Contains (option_to_list (freed_of b index z)) u
        → (x : Slot) × (slice_get b.slots index ≡ Some x) × (x.count ≡ 1) × (u ≡ b.first + index)
    by None is c = absurd (omega (arith, c.1))
    by (Some x) is c = let o = of x (x.count == 1) refl c in (x, is, o.0, o.1)
