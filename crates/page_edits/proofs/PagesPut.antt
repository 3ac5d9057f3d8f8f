-- Pages that are put by takings, one each.
use Rattle.std.proofs.Common.{◌≡◌, ◌⊎◌, inl, inr, ℕ, ◌+◌, ◌<◌, ◌≤◌, List, [], ◌∷◌, length, Some, refl, sym, ap, subst, ◌∙◌, arith}
use Rattle.std.specs.FinMap as finite
use Rattle.std.proofs.lemmas.Bool.{cases_eq}
use Rattle.unit_fields.specs.Prelude.{Ascends}
use Rattle.number_map.specs.NumberMap.{NumberMap}
use Rattle.number_map.proofs.Laws.{get_same, get_other}
use Rattle.plan_drafts.specs.Edits.{with_takings}
use Rattle.page_edits.proofs.Lists.{In, all_at}

pub in_or_not : (xs : List ℕ) (x : ℕ) → In xs x ⊎ (In xs x → ⊥)
in_or_not [] x = inr (λ is. is)
in_or_not (y ∷ ys) x = elim (cases_eq y x) [
  | inl e ↦ inl (inl e)
  | inr apart ↦ elim (in_or_not ys x) [
    | inl is ↦ inl (inr is)
    | inr none ↦ inr (λ is. elim is [ inl e ↦ apart e | inr later ↦ none later ])
  ]
]

pub not_behind : (p : ℕ) (ps : List ℕ) → Ascends (p ∷ ps) → In ps p → ⊥
not_behind p ps ascend is = let less : p < p = all_at (λ v. p < v) ps p ascend.0 is in omega (arith, less)

-- the page was put by one of so many takings from the first on
pub record HasTaking (n count : ℕ) (puts : NumberMap ℕ) (page : ℕ) : Type 0 where
  pub taking : ℕ
  pub put : finite.get puts page ≡ Some taking
  pub from : n ≤ taking
  pub to : taking < n + count

pub outside : (pages : List ℕ) (n : ℕ) (puts : NumberMap ℕ) (page : ℕ) → (In pages page → ⊥)
    → finite.get (with_takings n pages puts) page ≡ finite.get puts page
outside [] n puts page none = refl
outside (p ∷ ps) n puts page none = outside ps (n + 1) (finite.insert puts p n) page (λ is. none (inr is))
    ∙ get_other puts p n page (λ e. none (inl (sym e)))

pub first_taking : (p : ℕ) (ps : List ℕ) (n : ℕ) (puts : NumberMap ℕ) → Ascends (p ∷ ps)
    → finite.get (with_takings n (p ∷ ps) puts) p ≡ Some n
first_taking p ps n puts ascend = outside ps (n + 1) (finite.insert puts p n) p (not_behind p ps ascend) ∙ get_same puts p n

pub inside : (pages : List ℕ) (n : ℕ) (puts : NumberMap ℕ) → Ascends pages → (page : ℕ) → In pages page
    → HasTaking n (length pages) (with_takings n pages puts) page
inside [] n puts ascend page is = absurd is
inside (p ∷ ps) n puts ascend page (inl e) = subst (λ q. HasTaking n (length (p ∷ ps)) (with_takings n (p ∷ ps) puts) q) e
    (record { taking = n; put = first_taking p ps n puts ascend; from = omega arith; to = omega arith })
inside (p ∷ ps) n puts ascend page (inr later) =
    let t = inside ps (n + 1) (finite.insert puts p n) ascend.1 page later in
    let from : n + 1 ≤ t.taking = t.from in
    let to : t.taking < n + 1 + length ps = t.to in
    record { taking = t.taking; put = t.put; from = omega (arith, from); to = omega (arith, to) }

pub alone : (pages : List ℕ) (n : ℕ) (puts : NumberMap ℕ) → Ascends pages → (page other taking : ℕ) → In pages page → In pages other
    → finite.get (with_takings n pages puts) page ≡ Some taking → finite.get (with_takings n pages puts) other ≡ Some taking → page ≡ other
alone [] n puts ascend page other taking is was one two = absurd is
alone (p ∷ ps) n puts ascend page other taking (inl e) (inl f) one two = sym e ∙ f
alone (p ∷ ps) n puts ascend page other taking (inl e) (inr later) one two =
    let here : Some n ≡ Some taking = sym (first_taking p ps n puts ascend) ∙ ap (finite.get (with_takings n (p ∷ ps) puts)) e ∙ one in
    let t = inside ps (n + 1) (finite.insert puts p n) ascend.1 other later in
    let there : Some t.taking ≡ Some taking = sym t.put ∙ two in
    let same : n ≡ t.taking = cc in
    let from : n + 1 ≤ t.taking = t.from in
    absurd (omega (arith, same, from))
alone (p ∷ ps) n puts ascend page other taking (inr later) (inl f) one two =
    let here : Some n ≡ Some taking = sym (first_taking p ps n puts ascend) ∙ ap (finite.get (with_takings n (p ∷ ps) puts)) f ∙ two in
    let t = inside ps (n + 1) (finite.insert puts p n) ascend.1 page later in
    let there : Some t.taking ≡ Some taking = sym t.put ∙ one in
    let same : n ≡ t.taking = cc in
    let from : n + 1 ≤ t.taking = t.from in
    absurd (omega (arith, same, from))
alone (p ∷ ps) n puts ascend page other taking (inr is) (inr was) one two =
    alone ps (n + 1) (finite.insert puts p n) ascend.1 page other taking is was one two
