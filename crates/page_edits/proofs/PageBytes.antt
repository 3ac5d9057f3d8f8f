-- The pages of bytes, of bytes with a piece laid over them, and of bytes that are cut or filled up.
use Rattle.std.proofs.Common.{◌≡◌, ◌⊎◌, inl, inr, ℕ, ◌+◌, ◌-◌, ◌*◌, ◌<◌, ◌≤◌, ◌==◌, true, false, cond, List, [], ◌++◌, length, get_or, take, drop, replicate, refl, sym, ap, subst, ◌∙◌, arith, append_assoc, length-append, length-drop}
use Rattle.std.specs.Prelude.{max}
use Rattle.std.proofs.lemmas.Bool.{cases_lt}
use Rattle.std.proofs.lemmas.Bool.Decides.{nat_tests}
use Rattle.std.proofs.lemmas.List.{get_or-take, get_or-drop, get_or_append_left, get_or-append_right, get_or_past, get_or-replicate, length-take, length-take-le, length-replicate, ext_get_or}
use Rattle.byte_maps.specs.Units.{zeros}
use Rattle.byte_maps.proofs.Prelude.{length-zeros}
use Rattle.object_model.specs.Prelude.{resized, overwritten}
use Rattle.store_image.specs.Prelude.{page_bytes}
use Rattle.plan_drafts.specs.Edits.{page_after}

-- ---- pages and zeros, byte by byte

pub zero_there : (n i : ℕ) → get_or (zeros n) i 0 ≡ 0
unfolding zeros
zero_there n i = elim (cases_lt i n) [
  | inl lt ↦ get_or-replicate n i 0 0 lt
  | inr le ↦ get_or_past (replicate n 0) i 0 (omega (arith, le, length-replicate {A = ℕ} n 0))
]

-- zeros behind bytes read as nothing does
with_zeros : (xs : List ℕ) (n i : ℕ) → get_or (xs ++ zeros n) i 0 ≡ get_or xs i 0
with_zeros xs n i = elim (cases_lt i (length xs)) [
  | inl lt ↦ get_or_append_left xs (zeros n) 0 i lt
  | inr le ↦ get_or-append_right xs (zeros n) (length xs) i 0 refl le ∙ zero_there n (i - length xs) ∙ sym (get_or_past xs i 0 le)
]

pub page_byte : (x : List ℕ) (page r : ℕ) → r < 4096 → get_or (page_bytes x page) r 0 ≡ get_or x (4096 * page + r) 0
page_byte x page r lt =
    get_or-take 4096 (drop (4096 * page) x ++ zeros 4096) r 0 lt ∙ with_zeros (drop (4096 * page) x) 4096 r ∙ get_or-drop (4096 * page) x r 0

pub page_length : (x : List ℕ) (page : ℕ) → length (page_bytes x page) ≡ 4096
page_length x page = length-take-le 4096 (drop (4096 * page) x ++ zeros 4096)
    (omega (arith, length-append (drop (4096 * page) x) (zeros 4096), length-zeros 4096))

-- whole pages with the same bytes are one
pub same_pages : (x y : List ℕ) → length x ≡ 4096 → length y ≡ 4096 → ((r : ℕ) → r < 4096 → get_or x r 0 ≡ get_or y r 0) → x ≡ y
same_pages x y long same each = ext_get_or 0 x y (long ∙ sym same) (λ r within. each r (omega (arith, within, long)))

-- no bytes have pages of zeros
pub no_pages : (page : ℕ) → page_bytes [] page ≡ zeros 4096
no_pages page = same_pages (page_bytes [] page) (zeros 4096) (page_length [] page) (length-zeros 4096)
    (λ r lt. page_byte [] page r lt ∙ sym (zero_there 4096 r))

-- ---- bytes that are cut or filled up

module _ (old : List ℕ) (off : ℕ) where
  pub resized_length : length (resized old off) ≡ off
  resized_length = omega (arith, length-append (take off old) (replicate (off - length old) 0), length-take off old, length-replicate {A = ℕ} (off - length old) 0)

  pub resized_byte : (i : ℕ) → i < off → get_or (resized old off) i 0 ≡ get_or old i 0
  resized_byte i lt = elim (cases_lt i (length old)) [
    | inl within ↦
        get_or_append_left (take off old) (replicate (off - length old) 0) 0 i (omega (arith, length-take off old, within, lt)) ∙ get_or-take off old i 0 lt
    | inr past ↦
        get_or-append_right (take off old) (replicate (off - length old) 0) (length old) i 0 (omega (arith, length-take off old, past, lt)) past
        ∙ get_or-replicate (off - length old) (i - length old) 0 0 (omega (arith, past, lt))
        ∙ sym (get_or_past old i 0 past)
  ]

-- ---- bytes with a piece laid over them

not_none : (n : ℕ) → 0 < n → (n == 0) ≡ false
not_none n lt = grind (arith, nat_tests)

none : (n : ℕ) → n ≤ 0 → (n == 0) ≡ true
none n le = grind (arith, nat_tests)

module _ (old piece : List ℕ) (off : ℕ) where
  abbrev behind : List ℕ
  behind = drop (off + length piece) old

  abbrev over : List ℕ
  over = resized old off ++ piece ++ behind

  pub over_none : length piece ≤ 0 → overwritten old off piece ≡ old
  over_none le = ap (λ b. cond b old over) (none (length piece) le)

  over_is : 0 < length piece → overwritten old off piece ≡ resized old off ++ (piece ++ behind)
  over_is some = ap (λ b. cond b old over) (not_none (length piece) some) ∙ append_assoc (resized old off) piece behind

  pub over_low : (i : ℕ) → i < off → get_or (overwritten old off piece) i 0 ≡ get_or old i 0
  over_low i lt = elim (cases_lt 0 (length piece)) [
    | inr le ↦ ap (λ l. get_or l i 0) (over_none le)
    | inl some ↦ ap (λ l. get_or l i 0) (over_is some)
        ∙ get_or_append_left (resized old off) (piece ++ behind) 0 i (omega (arith, resized_length old off, lt)) ∙ resized_byte old off i lt
  ]

  pub over_piece : (i : ℕ) → off ≤ i → i < off + length piece → get_or (overwritten old off piece) i 0 ≡ get_or piece (i - off) 0
  over_piece i le lt = ap (λ l. get_or l i 0) (over_is (omega (arith, le, lt)))
      ∙ get_or-append_right (resized old off) (piece ++ behind) off i 0 (resized_length old off) le
      ∙ get_or_append_left piece behind 0 (i - off) (omega (arith, le, lt))

  pub over_high : (i : ℕ) → off + length piece ≤ i → get_or (overwritten old off piece) i 0 ≡ get_or old i 0
  over_high i le = elim (cases_lt 0 (length piece)) [
    | inr le_none ↦ ap (λ l. get_or l i 0) (over_none le_none)
    | inl some ↦ ap (λ l. get_or l i 0) (over_is some)
        ∙ get_or-append_right (resized old off) (piece ++ behind) off i 0 (resized_length old off) (omega (arith, le))
        ∙ get_or-append_right piece behind (length piece) (i - off) 0 refl (omega (arith, le))
        ∙ get_or-drop (off + length piece) old (i - off - length piece) 0
        ∙ ap (λ n. get_or old n 0) (let at : off + length piece + (i - off - length piece) ≡ i = omega (arith, le) in at)
  ]

  pub over_length : 0 < length piece → length (overwritten old off piece) ≡ max (length old) (off + length piece)
  over_length some = ap length (over_is some)
      ∙ omega (arith, length-append (resized old off) (piece ++ behind), length-append piece behind, resized_length old off, length-drop (off + length piece) old)

  pub over_longer : length old ≤ length (overwritten old off piece)
  over_longer = elim (cases_lt 0 (length piece)) [
    | inr le ↦ omega (arith, ap length (over_none le))
    | inl some ↦ omega (arith, over_length some)
  ]

-- ---- a page with a piece laid over the object

module _ (off : ℕ) (piece : List ℕ) (page : ℕ) (old : List ℕ) (whole : length old ≡ 4096) where
  abbrev low : ℕ
  low = off - 4096 * page

  abbrev part : List ℕ
  part = drop (4096 * page - off) piece

  pub after_length : length (page_after off piece page old) ≡ 4096
  after_length = length-take-le 4096 (overwritten old low part) (omega (arith, whole, over_longer old part low))

  after_is : (r : ℕ) → r < 4096 → get_or (page_after off piece page old) r 0 ≡ get_or (overwritten old low part) r 0
  after_is r lt = get_or-take 4096 (overwritten old low part) r 0 lt

  after_low : (r : ℕ) → r < 4096 → 4096 * page + r < off → get_or (page_after off piece page old) r 0 ≡ get_or old r 0
  after_low r lt before = after_is r lt ∙ over_low old part low r (omega (arith, before))

  after_piece : (r : ℕ) → r < 4096 → off ≤ 4096 * page + r → 4096 * page + r < off + length piece
      → get_or (page_after off piece page old) r 0 ≡ get_or piece (4096 * page + r - off) 0
  after_piece r lt from to =
      let at : 4096 * page - off + (r - (off - 4096 * page)) ≡ 4096 * page + r - off = omega (arith, from) in
      after_is r lt
      ∙ over_piece old part low r (omega (arith, from)) (omega (arith, from, to, length-drop (4096 * page - off) piece))
      ∙ get_or-drop (4096 * page - off) piece (r - low) 0 ∙ ap (λ n. get_or piece n 0) at

  after_high : (r : ℕ) → r < 4096 → off + length piece ≤ 4096 * page + r → get_or (page_after off piece page old) r 0 ≡ get_or old r 0
  after_high r lt behind = after_is r lt ∙ over_high old part low r (omega (arith, behind, length-drop (4096 * page - off) piece))

  -- by what holds before the piece, in it and behind it
  pub after_by : (P : ℕ → ℕ → Type 0) → ((r : ℕ) → r < 4096 → 4096 * page + r < off → P r (get_or old r 0))
      → ((r : ℕ) → r < 4096 → off ≤ 4096 * page + r → 4096 * page + r < off + length piece → P r (get_or piece (4096 * page + r - off) 0))
      → ((r : ℕ) → r < 4096 → off + length piece ≤ 4096 * page + r → P r (get_or old r 0))
      → (r : ℕ) → r < 4096 → P r (get_or (page_after off piece page old) r 0)
  after_by P before inside behind r lt = elim (cases_lt (4096 * page + r) off) [
    | inl less ↦ subst (P r) (sym (after_low r lt less)) (before r lt less)
    | inr from ↦ elim (cases_lt (4096 * page + r) (off + length piece)) [
      | inl to ↦ subst (P r) (sym (after_piece r lt from to)) (inside r lt from to)
      | inr past ↦ subst (P r) (sym (after_high r lt past)) (behind r lt past)
    ]
  ]

  -- it stays as it was where the piece doesn't reach it
  pub after_apart : (off + length piece ≤ off) ⊎ ((4096 * page + 4096 ≤ off) ⊎ (off + length piece ≤ 4096 * page))
      → page_after off piece page old ≡ old
  after_apart apart = same_pages (page_after off piece page old) old after_length whole (after_by (λ r byte. byte ≡ get_or old r 0) (λ r lt before. refl)
      (λ r lt from to. absurd (elim apart [
        | inl none ↦ omega (arith, none, from, to)
        | inr apart ↦ elim apart [ inl before ↦ omega (arith, before, from, lt) | inr behind ↦ omega (arith, behind, to) ]
      ])) (λ r lt behind. refl))

  -- it is zeros where it was or the piece covers it, and the piece is zeros
  pub after_zeros : ((i : ℕ) → get_or piece i 0 ≡ 0) → (old ≡ zeros 4096) ⊎ ((off ≤ 4096 * page) × (4096 * page + 4096 ≤ off + length piece))
      → page_after off piece page old ≡ zeros 4096
  after_zeros clear is = same_pages (page_after off piece page old) (zeros 4096) after_length (length-zeros 4096) (λ r lt. all r lt ∙ sym (zero_there 4096 r))
    where
      all : (r : ℕ) → r < 4096 → get_or (page_after off piece page old) r 0 ≡ 0
      all = after_by (λ r byte. byte ≡ 0)
          (λ r lt before. elim is [ inl was ↦ ap (λ l. get_or l r 0) was ∙ zero_there 4096 r | inr covers ↦ absurd (omega (arith, covers.0, before)) ])
          (λ r lt from to. clear (4096 * page + r - off))
          (λ r lt behind. elim is [ inl was ↦ ap (λ l. get_or l r 0) was ∙ zero_there 4096 r | inr covers ↦ absurd (omega (arith, covers.1, behind, lt)) ])

-- ---- the pages of changed bytes

-- of bytes with a piece laid over them
pub page_overwritten : (bytes : List ℕ) (off : ℕ) (piece : List ℕ) (page : ℕ)
    → page_bytes (overwritten bytes off piece) page ≡ page_after off piece page (page_bytes bytes page)
page_overwritten bytes off piece page = sym (same_pages (page_after off piece page (page_bytes bytes page)) (page_bytes (overwritten bytes off piece) page)
    (after_length off piece page (page_bytes bytes page) (page_length bytes page)) (page_length (overwritten bytes off piece) page)
    (after_by off piece page (page_bytes bytes page) (page_length bytes page) (λ r byte. byte ≡ get_or (page_bytes (overwritten bytes off piece) page) r 0)
    (λ r lt before. page_byte bytes page r lt ∙ sym (page_byte (overwritten bytes off piece) page r lt ∙ over_low bytes piece off (4096 * page + r) before))
    (λ r lt from to. sym (page_byte (overwritten bytes off piece) page r lt ∙ over_piece bytes piece off (4096 * page + r) from to))
    (λ r lt behind. page_byte bytes page r lt ∙ sym (page_byte (overwritten bytes off piece) page r lt ∙ over_high bytes piece off (4096 * page + r) behind))))

-- of bytes that are filled up
pub page_grown : (bytes : List ℕ) (size : ℕ) (page : ℕ) → length bytes ≤ size → page_bytes (resized bytes size) page ≡ page_bytes bytes page
page_grown bytes size page longer =
    same_pages (page_bytes (resized bytes size) page) (page_bytes bytes page) (page_length (resized bytes size) page) (page_length bytes page)
    (λ r lt. page_byte (resized bytes size) page r lt ∙ elim (cases_lt (4096 * page + r) size) [
      | inl within ↦ resized_byte bytes size (4096 * page + r) within
      | inr past ↦ get_or_past (resized bytes size) (4096 * page + r) 0 (omega (arith, resized_length bytes size, past))
          ∙ sym (get_or_past bytes (4096 * page + r) 0 (omega (arith, longer, past)))
    ] ∙ sym (page_byte bytes page r lt))

-- of bytes that are cut: zeros are laid over the rest, up to a limit
pub page_cut : (bytes : List ℕ) (size limit : ℕ) (page : ℕ) → size ≤ limit → length bytes ≤ limit
    → page_bytes (resized bytes size) page ≡ page_after size (zeros (limit - size)) page (page_bytes bytes page)
page_cut bytes size limit page less short = sym (same_pages (page_after size cleared page (page_bytes bytes page)) (page_bytes (resized bytes size) page)
    (after_length size cleared page (page_bytes bytes page) (page_length bytes page)) (page_length (resized bytes size) page)
    (after_by size cleared page (page_bytes bytes page) (page_length bytes page) (λ r byte. byte ≡ get_or (page_bytes (resized bytes size) page) r 0)
    (λ r lt before. page_byte bytes page r lt ∙ sym (page_byte (resized bytes size) page r lt ∙ resized_byte bytes size (4096 * page + r) before))
    (λ r lt from to. zero_there (limit - size) (4096 * page + r - size) ∙ sym (page_byte (resized bytes size) page r lt ∙ past r from))
    (λ r lt behind.
    let long : length cleared ≡ limit - size = length-zeros (limit - size) in
    page_byte bytes page r lt ∙ get_or_past bytes (4096 * page + r) 0 (omega (arith, behind, long, less, short))
    ∙ sym (page_byte (resized bytes size) page r lt ∙ past r (omega (arith, behind))))))
  where
    cleared : List ℕ
    cleared = zeros (limit - size)

    past : (r : ℕ) → size ≤ 4096 * page + r → get_or (resized bytes size) (4096 * page + r) 0 ≡ 0
    past r from = get_or_past (resized bytes size) (4096 * page + r) 0 (omega (arith, resized_length bytes size, from))
