-- What units are to hold after planned writes of pages, one after the other.
use Rattle.std.proofs.Common.{◌≡◌, inl, inr, ℕ, ◌+◌, ◌<◌, ◌≤◌, cond, eqb, List, [], ◌∷◌, ◌++◌, length, map, drop, get_or, refl, sym, ap, subst, ◌∙◌, arith}
use Rattle.std.specs.List.{AllByRecursion}
use Rattle.std.proofs.Math.ListN.{set}
use Rattle.std.proofs.Math.Path.{fun_ext}
use Rattle.std.proofs.lemmas.Bool.{cases_eq, eq-eqb, ne_eqb}
use Rattle.std.proofs.lemmas.List.{drop_more, get_or-set_same, get_or-set_other}
use Rattle.unit_fields.specs.Prelude.{Ascends}
use Rattle.object_model.specs.declared.op.Op.{Op}
use Rattle.row_format.specs.Prelude.{Place}
use Rattle.store_image.specs.Prelude.{PageUnit}
use Rattle.plan_drafts.specs.declared.draft.Draft.{Draft}
use Rattle.plan_rows.specs.declared.plan.ReadUnit.{ReadUnit}
use Rattle.plan_drafts.specs.Edits.{Edit, edit_of, pages_put, taking_of, drafted, Held, page_written, writes_of, with_writes}
use Rattle.page_edits.specs.declared.writes.OldBytes.{OldBytes}
use Rattle.page_edits.specs.declared.writes.OldBytes.TheVariants.{Zeros, Put, Read}
use Rattle.page_edits.specs.declared.writes.PageWrite.{PageWrite}
use Rattle.page_edits.specs.Takings.{IsNumbered}
use Rattle.page_edits.specs.Writes.{op_at, held_old, bytes_made, made_by, held_after_write, after_writes, held_in, IsWriteBy, CanBeMade}
use Rattle.page_edits.proofs.Lists.{In}
use Rattle.page_edits.proofs.PagesPut.{not_behind}
use Rattle.page_edits.proofs.DraftedPages.{put_ascends}
use Rattle.page_edits.proofs.DraftedBytes.{only}

-- ---- takings that differ

abbrev pub Differ : List ℕ → Type 0
Differ [] = Unit {0}
Differ (t ∷ ts) = (In ts t → ⊥) × Differ ts

in_map : {X : Type 0} (f : X → ℕ) (xs : List X) (y : ℕ) → In (map f xs) y → (x : X) × In xs x × (f x ≡ y)
in_map f [] y is = absurd is
in_map f (x ∷ xs) y (inl e) = (x, inl refl, e)
in_map f (x ∷ xs) y (inr later) = let r = in_map f xs y later in (r.0, inr r.1, r.2)

of_map : {X : Type 0} (f : X → ℕ) (xs : List X) (x : X) → In xs x → In (map f xs) (f x)
of_map f [] x is = absurd is
of_map f (y ∷ ys) x (inl e) = inl (ap f e)
of_map f (y ∷ ys) x (inr later) = inr (of_map f ys x later)

differ_map : (taking : ℕ → ℕ) (pages : List ℕ) → Ascends pages
    → ((page other : ℕ) → In pages page → In pages other → taking other ≡ taking page → other ≡ page) → Differ (map taking pages)
differ_map taking [] ascend one = tt
differ_map taking (p ∷ ps) ascend one = (
  λ is. let r = in_map taking ps (taking p) is in
      not_behind p ps ascend (subst (In ps) (one p r.0 (inl refl) (inr r.1) r.2) r.1),
  differ_map taking ps ascend.1 (λ page other is has same. one page other (inr is) (inr has) same),
)

firsts : {X : Type 0} (f : X → ℕ × List ℕ) (xs : List X) → map (λ p. p.0) (map f xs) ≡ map (λ x. (f x).0) xs
firsts f [] = refl
firsts f (x ∷ xs) = ap (λ l. (f x).0 ∷ l) (firsts f xs)

-- ---- the writes of one operation

old_same : (held start : Held) (at : ℕ) (w : PageWrite) → IsWriteBy at w → held w.taking ≡ start w.taking → held_old held w.old ≡ held_old start w.old
old_same held start at w of same = by w.old of.own
  where
    by : (old : OldBytes) → ((taking : ℕ) → old ≡ Put taking → taking ≡ w.taking) → held_old held old ≡ held_old start old
    by Zeros own = refl
    by (Put taking) own = let is : taking ≡ w.taking = own taking refl in ap held is ∙ same ∙ sym (ap start is)
    by (Read unit) own = refl

module _ (ops : List Op) (at : ℕ) (op : Op) (read : List ReadUnit) (start : Held) (op_is : op_at ops at ≡ op) where
  once_made : (w : PageWrite) (held : Held) → IsWriteBy at w → held w.taking ≡ start w.taking
      → bytes_made (op_at ops w.op) read (held_old held w.old) w ≡ bytes_made op read (held_old start w.old) w
  once_made w held of same =
      ap (λ (o : Op). bytes_made o read (held_old held w.old) w) (ap (op_at ops) of.of ∙ op_is)
      ∙ ap (λ b. bytes_made op read b w) (old_same held start at w of same)

  all_made : (ws : List PageWrite) (held : Held) → AllByRecursion (IsWriteBy at) ws → Differ (map (λ w. w.taking) ws)
      → ((w : PageWrite) → In ws w → held w.taking ≡ start w.taking)
      → after_writes ops read ws held ≡ with_writes (map (made_by op read start) ws) held
  all_made [] held of differ same = refl
  all_made (w ∷ ws) held of differ same =
      let made : List ℕ = bytes_made op read (held_old start w.old) w in
      let next : Held = λ t. cond (eqb t w.taking) made (held t) in
      ap (λ (b : List ℕ). after_writes ops read ws (λ t. cond (eqb t w.taking) b (held t))) (once_made w held of.0 (same w (inl refl)))
      ∙ all_made ws next of.1 differ.1 (λ v is.
      ap (λ b. cond b made (held v.taking)) (ne_eqb v.taking w.taking
      (λ e. differ.0 (subst (In (map (λ (x : PageWrite). x.taking) ws)) e (of_map (λ (x : PageWrite). x.taking) ws v is))))
      ∙ same v (inr is))

pub operation_made : (on : Place → PageUnit) (ops : List Op) (at : ℕ) (op : Op) (read : List ReadUnit) (held : Held) (n : ℕ) (d : Draft) (writes : List PageWrite)
    → op_at ops at ≡ op → AllByRecursion (IsWriteBy at) writes → IsNumbered n d
    → map (made_by op read held) writes ≡ writes_of on (edit_of op d.size) read held n d
    → after_writes ops read writes held ≡ with_writes (writes_of on (edit_of op d.size) read held n d) held
operation_made on ops at op read held n d writes op_is of num are =
    let e : Edit = edit_of op d.size in
    let takings : map (λ (w : PageWrite). w.taking) writes ≡ map (taking_of (drafted (edit_of op d.size) n d)) (pages_put (edit_of op d.size) d) =
    sym (firsts (made_by op read held) writes) ∙ ap (map (λ (p : ℕ × List ℕ). p.0)) are
    ∙ firsts (page_written on (edit_of op d.size) read held d (drafted (edit_of op d.size) n d)) (pages_put (edit_of op d.size) d) in
    all_made ops at op read held op_is writes held of
    (subst Differ (sym takings) (differ_map (taking_of (drafted e n d)) (pages_put e d) (put_ascends e d) (only on e read held n d num)))
    (λ w is. refl)
    ∙ ap (λ l. with_writes l held) are

-- ---- more writes

pub more_made : (ops : List Op) (read : List ReadUnit) (held : Held) (writes later : List PageWrite)
    → after_writes ops read (writes ++ later) held ≡ after_writes ops read later (after_writes ops read writes held)
more_made ops read held [] later = refl
more_made ops read held (w ∷ ws) later = more_made ops read (held_after_write ops read w held) ws later

pub can_more : (ops : List Op) (takings more : ℕ) (writes : List PageWrite) → takings ≤ more → AllByRecursion (CanBeMade ops takings) writes
    → AllByRecursion (CanBeMade ops more) writes
can_more ops takings more [] le all = tt
can_more ops takings more (w ∷ ws) le all =
    let one : w.taking < takings = all.0.taken in (
      record { there = all.0.there; within = all.0.within; from = all.0.from; to = all.0.to; taken = omega (arith, one); old = λ taking is. omega (arith, all.0.old taking is, le) },
      can_more ops takings more ws le all.1,
    )

pub can_both : (ops : List Op) (takings : ℕ) (writes later : List PageWrite) → AllByRecursion (CanBeMade ops takings) writes
    → AllByRecursion (CanBeMade ops takings) later → AllByRecursion (CanBeMade ops takings) (writes ++ later)
can_both ops takings [] later all rest = rest
can_both ops takings (w ∷ ws) later all rest = (all.0, can_both ops takings ws later all.1 rest)

-- ---- as a list

pub next_write : (ws : List PageWrite) (i : ℕ) (w : PageWrite) → i < length ws → w ≡ get_or ws i w → drop i ws ≡ w ∷ drop (i + 1) ws
next_write ws i w less is = drop_more ws i w less ∙ ap (λ x. x ∷ drop (i + 1) ws) (sym is)

pub set_held : (ops : List Op) (read : List ReadUnit) (before contents : List (List ℕ)) (w : PageWrite) (new : List ℕ) → w.taking < length contents
    → ((taking : ℕ) → ¬ (taking ≡ w.taking) → held_in contents taking ≡ held_in before taking)
    → new ≡ bytes_made (op_at ops w.op) read (held_old (held_in before) w.old) w → held_in (set contents w.taking new) ≡ held_after_write ops read w (held_in before)
set_held ops read before contents w new within others is = fun_ext (λ t. elim (cases_eq t w.taking) [
  | inl same ↦
      ap (λ k. get_or (set contents w.taking new) k []) same
      ∙ get_or-set_same contents w.taking new [] within
      ∙ is
      ∙ sym (ap (λ b. cond b (bytes_made (op_at ops w.op) read (held_old (held_in before) w.old) w) (get_or before t [])) (eq-eqb t w.taking same))
  | inr apart ↦
      get_or-set_other contents w.taking t new [] apart
      ∙ others t apart
      ∙ sym (ap (λ b. cond b (bytes_made (op_at ops w.op) read (held_old (held_in before) w.old) w) (get_or before t [])) (ne_eqb t w.taking apart))
])
