-- How far an edit reaches: its end is within an object's limit, and no page stands past the object's end after it.
use Rattle.std.proofs.Common.{◌≡◌, inl, inr, ℕ, ◌+◌, ◌-◌, ◌*◌, ◌<◌, ◌≤◌, true, false, cond, max, List, [], ◌⊎◌, length, ltb, eqb, refl, subst, ap, ◌∙◌, arith}
use Rattle.std.proofs.lemmas.Bool.{cases_lt, cond-true, cond-false, lt-ltb, le-ltb, eq-eqb, ne_eqb}
use Rattle.byte_maps.specs.Units.{zeros}
use Rattle.byte_maps.proofs.Prelude.{length-zeros}
use Rattle.object_model.specs.declared.op.Op.{Op}
use Rattle.object_model.specs.declared.op.Op.TheVariants.{Write, Zero, Truncate}
use Rattle.object_model.specs.Prelude.{object_limit}
use Rattle.store_image.specs.Prelude.{pages_of}
use Rattle.plan_drafts.specs.declared.draft.Draft.{Draft}
use Rattle.plan_drafts.specs.Edits.{Edit, end_of, grown, edit_of, covers_whole, is_there, is_cleared, fate_of, gets_bytes, drafted, EndsBelow, IsInLimits}
use Rattle.page_edits.proofs.PageRanges.{IsTouched, in_part}
use Rattle.page_edits.proofs.DraftedPages.{put_touched, put_test, stood_in_part, stood_or_put}

-- ---- how long an object is with bytes laid over it

module _ (size off len : ℕ) where
  pub grown_is : ((0 < len) × (grown size off len ≡ max size (off + len))) ⊎ ((len ≡ 0) × (grown size off len ≡ size))
  grown_is = elim (cases_lt 0 len) [
    | inl some ↦ inl (some, cond-false (eqb len 0) size (max size (off + len)) (ne_eqb len 0 (λ e. omega (arith, some, e))))
    | inr le ↦ let none : len ≡ 0 = omega (arith, le) in inr (none, cond-true (eqb len 0) size (max size (off + len)) (eq-eqb len 0 none))
  ]

  grown_keeps : size ≤ grown size off len
  grown_keeps = elim grown_is [ inl laid ↦ omega (arith, laid.1) | inr none ↦ omega (arith, none.1) ]

  grown_reaches : 0 < len → off + len ≤ grown size off len
  grown_reaches some = elim grown_is [ inl laid ↦ omega (arith, laid.1) | inr none ↦ omega (arith, some, none.0) ]

  grown_within : size ≤ object_limit → off + len ≤ object_limit → grown size off len ≤ object_limit
  grown_within small within = elim grown_is [ inl laid ↦ omega (arith, laid.1, small, within) | inr none ↦ omega (arith, none.1, small) ]

  laid_ends : (page : ℕ) → IsTouched off (off + len) page → page < pages_of (grown size off len)
  laid_ends page t =
      let some : off < off + len = t.some in
      let to : 4096 * page < off + len = t.to in
      omega (arith, to, grown_reaches (omega (arith, some)))

  kept_ends : (page : ℕ) → page < pages_of size → page < pages_of (grown size off len)
  kept_ends page below = omega (arith, below, grown_keeps)

-- ---- the zeros that a truncate lays over the object

abbrev pub zeros_cut : ℕ → ℕ → List ℕ
zeros_cut to size = cond (ltb to size) (zeros (object_limit - to)) []

pub zeros_cut_is : (to size : ℕ) → ((to < size) × (zeros_cut to size ≡ zeros (object_limit - to))) ⊎ ((size ≤ to) × (zeros_cut to size ≡ []))
zeros_cut_is to size = elim (cases_lt to size) [
  | inl less ↦ inl (less, cond-true (ltb to size) (zeros (object_limit - to)) [] (lt-ltb to size less))
  | inr same ↦ inr (same, cond-false (ltb to size) (zeros (object_limit - to)) [] (le-ltb to size same))
]

pub length_cut : (to size : ℕ) → ((to < size) × (length (zeros_cut to size) ≡ object_limit - to)) ⊎ ((size ≤ to) × (length (zeros_cut to size) ≡ 0))
length_cut to size = elim (zeros_cut_is to size) [
  | inl less ↦ inl (less.0, ap (λ l. length l) less.1 ∙ length-zeros (object_limit - to))
  | inr same ↦ inr (same.0, ap (λ l. length l) same.1)
]

-- ---- limits

pub end_within : (op : Op) (size : ℕ) → IsInLimits op → end_of (edit_of op size) ≤ object_limit
end_within (Write o off bytes) size within = within
end_within (Zero o off len) size within = subst (λ n. off + n ≤ object_limit) (let is : len ≡ length (zeros len) = omega (arith, length-zeros len) in is) within
end_within (Truncate o to) size within = elim (length_cut to size) [
  | inl less ↦ omega (arith, within, less.1)
  | inr same ↦ omega (arith, within, same.1)
]
end_within op size within = omega arith

pub size_within : (op : Op) (size : ℕ) → IsInLimits op → size ≤ object_limit → (edit_of op size).size ≤ object_limit
size_within (Write o off bytes) size within small = grown_within size off (length bytes) small within
size_within (Zero o off len) size within small = grown_within size off len small within
size_within (Truncate o to) size within small = within
size_within op size within small = small

-- ---- no page stands past the end

module _ (n : ℕ) (d : Draft) where
  -- every page that stands anywhere either gets new bytes, or stood there and stays
  ends_by : (e : Edit) (end : ℕ) → ((page : ℕ) → IsTouched e.off (end_of e) page → gets_bytes (fate_of e d page) ≡ true → page < end)
      → ((page : ℕ) → is_there d page ≡ true → is_cleared e page ≡ false → page < end) → EndsBelow (drafted e n d) end
  ends_by e end put stays = λ page is. elim (stood_or_put e d n page is) [
    | inl new ↦ put page (put_touched e d page new) (put_test e d page new)
    | inr stood ↦ stays page stood.0 stood.1
  ]

  -- a page that stood below the end of an object, and isn't cleared by a cut, is below the cut
  cut_ends : (to size page : ℕ) → size ≤ object_limit → page < pages_of size
      → covers_whole to (to + length (zeros_cut to size)) page ≡ false → page < pages_of to
  cut_ends to size page small below part = elim (length_cut to size) [
    | inr same ↦ omega (arith, same.0, below)
    | inl less ↦ elim (in_part to (to + length (zeros_cut to size)) page part) [
      | inl low ↦ omega (arith, low)
      | inr high ↦ let short : size ≤ 134217728 = small in omega (arith, high, less.0, less.1, short, below)
    ]
  ]

  ends_of : (op : Op) (size : ℕ) → IsInLimits op → size ≤ object_limit → EndsBelow d (pages_of size)
      → EndsBelow (drafted (edit_of op size) n d) (pages_of (edit_of op size).size)
  ends_of (Write o off bytes) size within small below = ends_by (edit_of (Write o off bytes) size) (pages_of (grown size off (length bytes)))
      (λ page t is. laid_ends size off (length bytes) page t) (λ page stood kept. kept_ends size off (length bytes) page (below page stood))
  ends_of (Zero o off len) size within small below = ends_by (edit_of (Zero o off len) size) (pages_of (grown size off len))
      (λ page t is. laid_ends size off len page (subst (λ k. IsTouched off (off + k) page) (length-zeros len) t))
      (λ page stood kept. kept_ends size off len page (below page stood))
  ends_of (Truncate o to) size within small below = ends_by (edit_of (Truncate o to) size) (pages_of to)
      (λ page t is. let p = stood_in_part (edit_of (Truncate o to) size) d page t refl is in cut_ends to size page small (below page p.0) p.1)
      (λ page stood kept. cut_ends to size page small (below page stood) kept)
  ends_of op size within small below = ends_by (edit_of op size) (pages_of size) (λ page t is. absurd (let some : 0 < 0 = t.some in omega (arith, some)))
      (λ page stood kept. below page stood)

pub ends : (op : Op) (n : ℕ) (d : Draft) → IsInLimits op → d.size ≤ object_limit → EndsBelow d (pages_of d.size)
    → EndsBelow (drafted (edit_of op d.size) n d) (pages_of (edit_of op d.size).size)
ends op n d within small below = ends_of n d op d.size within small below
