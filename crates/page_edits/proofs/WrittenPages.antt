-- What units are to hold after pages were written, each by the taking of its unit.
use Rattle.std.proofs.Common.{◌≡◌, inl, inr, ℕ, true, false, cond, eqb, List, [], ◌∷◌, map, refl, sym, ap, subst, ◌∙◌}
use Rattle.std.proofs.lemmas.Bool.{eq-eqb, ne_eqb}
use Rattle.unit_fields.specs.Prelude.{Ascends}
use Rattle.plan_drafts.specs.Edits.{Held, with_writes}
use Rattle.page_edits.proofs.Lists.{In}
use Rattle.page_edits.proofs.PagesPut.{not_behind}

module _ (taking : ℕ → ℕ) (bytes : ℕ → List ℕ) where
  abbrev pub written : List ℕ → List (ℕ × List ℕ)
  written pages = map (λ page. (taking page, bytes page)) pages

  abbrev once : ℕ → Held → Held
  once page held = λ t. cond (eqb t (taking page)) (bytes page) (held t)

  once_other : (page : ℕ) (held : Held) (t : ℕ) → (taking page ≡ t → ⊥) → once page held t ≡ held t
  once_other page held t apart = ap (λ b. cond b (bytes page) (held t)) (ne_eqb t (taking page) (λ e. apart (sym e)))

  once_same : (page : ℕ) (held : Held) (t : ℕ) → taking page ≡ t → once page held t ≡ bytes page
  once_same page held t is = ap (λ b. cond b (bytes page) (held t)) (eq-eqb t (taking page) (sym is))

  -- a taking that isn't written keeps its content
  pub unwritten : (pages : List ℕ) (held : Held) (t : ℕ) → ((page : ℕ) → In pages page → taking page ≡ t → ⊥)
      → with_writes (written pages) held t ≡ held t
  unwritten [] held t none = refl
  unwritten (p ∷ ps) held t none = unwritten ps (once p held) t (λ page is. none page (inr is)) ∙ once_other p held t (none p (inl refl))

  -- where no two pages have one taking, each page's taking gets its bytes
  pub written_at : (pages : List ℕ) (held : Held) (page : ℕ) → Ascends pages → In pages page
      → ((other : ℕ) → In pages other → taking other ≡ taking page → other ≡ page) → with_writes (written pages) held (taking page) ≡ bytes page
  written_at [] held page ascend is only = absurd is
  written_at (p ∷ ps) held page ascend (inl e) only =
      unwritten ps (once p held) (taking page)
      (λ other has same. not_behind p ps ascend (subst (In ps) (only other (inr has) same ∙ sym e) has))
      ∙ once_same p held (taking page) (ap taking e)
      ∙ ap bytes e
  written_at (p ∷ ps) held page ascend (inr later) only =
      written_at ps (once p held) page ascend.1 later (λ other has same. only other (inr has) same)

  module _ (P : List ℕ → Type 0) where
    pub all_written : (pages : List ℕ) (held : Held) (t : ℕ) → P (held t) → ((page : ℕ) → In pages page → P (bytes page))
        → P (with_writes (written pages) held t)
    all_written [] held t was each = was
    all_written (p ∷ ps) held t was each = all_written ps (once p held) t
        (elim (eqb t (taking p)) as (λ b. P (cond b (bytes p) (held t))) [ true ↦ each p (inl refl) | false ↦ was ])
        (λ page is. each page (inr is))

    pub some_written : (pages : List ℕ) (held : Held) (page t : ℕ) → In pages page → taking page ≡ t → ((q : ℕ) → In pages q → P (bytes q))
        → P (with_writes (written pages) held t)
    some_written [] held page t is same each = absurd is
    some_written (p ∷ ps) held page t (inl e) same each = all_written ps (once p held) t
        (subst P (sym (once_same p held t (ap taking e ∙ same))) (each p (inl refl))) (λ q has. each q (inr has))
    some_written (p ∷ ps) held page t (inr later) same each = some_written ps (once p held) page t later same (λ q has. each q (inr has))
