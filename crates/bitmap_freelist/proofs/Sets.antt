-- Units in lists, and in the sets of these lists.
use Rattle.std.proofs.Common.{◌≡◌, ◌≢◌, ◌↔◌, ◌⊎◌, inl, inr, ⊎_elim, ℕ, zero, suc, ◌/◌, ◌<◌, ◌≤◌, Bool, true, false, ◌||◌, nat_eq, List, [], ◌∷◌}
use Rattle.std.proofs.Common.{length, get_or, take, drop, refl, sym, ap, subst, ◌∙◌, arith}
use Rattle.std.specs.List.{AllByRecursion, list_any}
use Rattle.std.specs.FinSet as set
use Rattle.std.proofs.lemmas.Bool.{cases_eq}
use Rattle.std.proofs.lemmas.Bool.Decides.{nat_tests}
use Rattle.unit_fields.specs.Prelude.{Ascends}
use Rattle.bitmap_freelist.specs.Bitmap.{Units, Has}
use Rattle.bitmap_freelist.proofs.Bits.{IsIn}

-- a test that passes decides
or_true : (b : Bool) → (b || true) ≡ true
or_true true = refl
or_true false = refl

-- a list's test says which units are in it
any_of : (us : List ℕ) (unit : ℕ) → (list_any (λ y. nat_eq y unit) us ≡ true) ↔ IsIn unit us
any_of [] unit = (λ e. absurd cc, λ no. absurd no)
any_of (u ∷ us) unit =
    let later = any_of us unit in
    elim (cases_eq u unit) [
      | inl one ↦
          let test : nat_eq u unit ≡ true = grind (arith, nat_tests) in
          (λ e. inl one, λ there. ap (λ b. b || list_any (λ y. nat_eq y unit) us) test)
      | inr other ↦
          let test : nat_eq u unit ≡ false = grind (arith, nat_tests) in
          let rest = ap (λ b. b || list_any (λ y. nat_eq y unit) us) test in
          (λ e. inr (later.0 (sym rest ∙ e)), ⊎_elim (λ one. absurd (other one)) (λ there. rest ∙ later.1 there))
    ]

-- the units of a list's set are those of the list
pub in_set : (us : List ℕ) (units : Units) → set.from_list us ≡ units → (unit : ℕ) → Has units unit ↔ IsIn unit us
in_set us units is unit =
    let test = ap (λ s. set.contains s unit) (sym is) ∙ set.contains-from_list_nat us unit in
    (λ has. (any_of us unit).0 (sym test ∙ has), λ there. test ∙ (any_of us unit).1 there)

-- a list in two parts
pub in_part : (us : List ℕ) (n unit : ℕ) → IsIn unit us → IsIn unit (take n us) ⊎ IsIn unit (drop n us)
in_part us zero unit there = inr there
in_part [] (suc n) unit there = absurd there
in_part (u ∷ us) (suc n) unit (inl one) = inl (inl one)
in_part (u ∷ us) (suc n) unit (inr later) = ⊎_elim (λ front. inl (inr front)) (λ back. inr back) (in_part us n unit later)

-- what is in the front is in the list
pub in_front : (us : List ℕ) (n unit : ℕ) → IsIn unit (take n us) → IsIn unit us
in_front us zero unit there = absurd there
in_front [] (suc n) unit there = there
in_front (u ∷ us) (suc n) unit (inl one) = inl one
in_front (u ∷ us) (suc n) unit (inr later) = inr (in_front us n unit later)

-- what is in the back is in the list
pub in_back : (us : List ℕ) (n unit : ℕ) → IsIn unit (drop n us) → IsIn unit us
in_back us zero unit there = there
in_back [] (suc n) unit there = there
in_back (u ∷ us) (suc n) unit there = inr (in_back us n unit there)

-- what holds of all holds of each
pub all_in : (P : ℕ → Type 0) (us : List ℕ) → AllByRecursion P us → (unit : ℕ) → IsIn unit us → P unit
all_in P [] all unit there = absurd there
all_in P (u ∷ us) all unit (inl one) = subst P one all.0
all_in P (u ∷ us) all unit (inr later) = all_in P us all.1 unit later

-- the back of a list that ascends does too
pub ascends_drop : (us : List ℕ) (n : ℕ) → Ascends us → Ascends (drop n us)
ascends_drop us zero up = up
ascends_drop [] (suc n) up = tt
ascends_drop (u ∷ us) (suc n) up = ascends_drop us n up.1

-- the least unit of a list that ascends
pub least : (u : ℕ) (us : List ℕ) → Ascends (u ∷ us) → (unit : ℕ) → IsIn unit (u ∷ us) → u ≤ unit
least u us up unit (inl one) = omega (arith, one)
least u us up unit (inr later) = let above : u < unit = all_in (λ v. u < v) us up.0 unit later in omega arith

-- units above one of a later row are of later rows
all_later : (u row : ℕ) (us : List ℕ) → row < u / 128 → AllByRecursion (λ v. u < v) us → AllByRecursion (λ v. row < v / 128) us
all_later u row [] after all = tt
all_later u row (v ∷ us) after all = (omega (arith, all.0), all_later u row us after all.1)

-- the units behind those of a row are of later rows
pub behind_row : (us : List ℕ) (row n : ℕ) → Ascends us → AllByRecursion (λ u. row ≤ u / 128) us → (n < length us → get_or us n 0 / 128 ≢ row)
    → AllByRecursion (λ u. row < u / 128) (drop n us)
behind_row [] row zero up from ends = tt
behind_row [] row (suc n) up from ends = tt
behind_row (u ∷ us) row zero up from ends =
    let after : row < u / 128 = omega (arith, from.0, ends (omega arith)) in
    (after, all_later u row us after up.0)
behind_row (u ∷ us) row (suc n) up from ends = behind_row us row n up.1 from.1 (λ lt. ends (omega arith))

-- units that are at least the first are of its row or of later ones
pub all_from : (us : List ℕ) (row first : ℕ) → row ≤ first / 128 → ((unit : ℕ) → IsIn unit us → first ≤ unit) → AllByRecursion (λ u. row ≤ u / 128) us
all_from [] row first le most = tt
all_from (u ∷ us) row first le most =
    (let ge = most u (inl refl) in omega (arith, ge), all_from us row first le (λ unit there. most unit (inr there)))
