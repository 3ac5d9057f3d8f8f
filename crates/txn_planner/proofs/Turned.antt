-- Sets that get the units of lists one by one, and the operations that turn the units of such a set.
use Rattle.std.proofs.Common.{◌≡◌, ◌⊎◌, ◌↔◌, inl, inr, ⊎_elim, ℕ, ◌+◌, ◌<◌, true≢false, List, length, get_or}
use Rattle.std.proofs.Common.{sym, ap, ◌∙◌, arith}
use Rattle.std.specs.Ordering.{nat_cmp}
use Rattle.std.specs.FinSet as set
use Rattle.std.proofs.lemmas.Bool.{cases_eq}
use Rattle.std.proofs.lemmas.List.{get_or_default}
use Rattle.meta_rows.specs.declared.row_op.RowOp.{RowOp}
use Rattle.bitmap_freelist.specs.Bitmap.{Units, Has, AreFlips, GetFlips}
use Rattle.bitmap_freelist.proofs.Reading.{has_insert}
use Rattle.plan_drafts.specs.Prelude.{TurnsBits}
use Rattle.txn_planner.specs.Turns.{GetsUnits, GetTurns}

-- the set got the first i of these units, and no others
abbrev pub AddsFirst : ℕ → List ℕ → Units → Units → Type 0
AddsFirst i us old new = (unit : ℕ) → Has new unit ↔ (Has old unit ⊎ ((k : ℕ) × (k < i) × (get_or us k unit ≡ unit)))

-- with one unit more put in, it got one more
pub adds_next : (us : List ℕ) (i x : ℕ) (old s : Units) → i < length us → x ≡ get_or us i x → AddsFirst i us old s
    → AddsFirst (i + 1) us old (set.insert s x)
adds_next us i x old s below is adds unit =
    let at : get_or us i unit ≡ x = get_or_default us i unit x below ∙ sym is in (
      λ has. ⊎_elim (λ one. inr (i, omega arith, at ∙ sym one))
          (λ held. ⊎_elim (λ was. inl was) (λ few. inr (few.0, omega (arith, few.1), few.2)) ((adds unit).0 held))
          ((has_insert s x unit).0 has),
      λ there. (has_insert s x unit).1 (⊎_elim (λ was. inr ((adds unit).1 (inl was)))
          (λ few. elim (cases_eq few.0 i) [
            | inl last ↦ inl (sym few.2 ∙ ap (λ k. get_or us k unit) last ∙ at)
            | inr before ↦ inr ((adds unit).1 (inr (few.0, omega (arith, few.1, before), few.2)))
          ]) there),
    )

-- the operations that turn the units of a set which got one list and then another
pub turns_both : (taken released : List ℕ) (none some all : Units) (flips : List RowOp) → none ≡ set.empty → GetsUnits taken none some
    → GetsUnits released some all → AreFlips all flips → TurnsBits taken released flips
turns_both taken released none some all flips is first second are = record {
  units = all;
  are_units = λ unit.
      let nobody : Has none unit → ⊥ = λ has.
      true≢false (sym has ∙ ap (λ s. set.contains s unit) is ∙ set.contains-empty nat_cmp unit) in (
        λ has. ⊎_elim (λ was. inl (⊎_elim (λ no. absurd (nobody no)) (λ c. c) ((first unit).0 was))) (λ c. inr c) ((second unit).0 has),
        ⊎_elim (λ c. (second unit).1 (inl ((first unit).1 (inr c)))) (λ c. (second unit).1 (inr c)),
      );
  are_flips = are;
}

-- the same behind operations that are there
pub gets_both : (taken released : List ℕ) (none some all : Units) (old new : List RowOp) → none ≡ set.empty → GetsUnits taken none some
    → GetsUnits released some all → GetFlips all old new → GetTurns taken released old new
gets_both taken released none some all old new is first second got =
    record { flips = got.flips; new_is = got.new_is; turns = turns_both taken released none some all got.flips is first second got.are_flips }
