-- How many of a map's pages are in its first shard.
use Rattle.std.proofs.Common.{◌≡◌, ◌⊎◌, inl, inr, ℕ, zero, suc, ◌+◌, ◌-◌, ◌<◌, ◌≤◌, ◌^◌, Bool, true, false, cond, List, [], ◌∷◌, ◌++◌, length, get_or, take, drop, Option, Some, None, refl, sym, ap, subst, ◌∙◌, append_assoc, append-nil, arith}
use Rattle.std.specs.Prelude.{nat_le, ◌==◌}
use Rattle.std.specs.List.{flat_map}
use Rattle.std.specs.Int.{w16, w32, to_le_bytes}
use Rattle.std.proofs.lemmas.Bool.Decides.{nat_tests}
use Rattle.std.proofs.lemmas.List.{length-append, length-take, length-drop, drop_all, drop-drop}
use Rattle.std.proofs.lemmas.List.Concat.{flat_map-cons, flat_map-append}
use Rattle.unit_fields.specs.declared.width.Width.{Width}
use Rattle.unit_fields.specs.Prelude.{bytes_of}
use Rattle.row_format.specs.Prelude.{Extent, BeginsAt, Place, extent_bytes, csum_bytes}
use Rattle.onode_codec.specs.declared.extent.Head.{Head}
use Rattle.onode_codec.specs.declared.extent.Start.{Start}
use Rattle.onode_codec.specs.declared.extent.Start.TheVariants.{Unit as OnUnit, Slot as OnSlot}
use Rattle.onode_codec.proofs.ExtentReading.{length-csums}
use Rattle.blob_map.specs.Prelude.{extents_of}
use Rattle.extent_shards.specs.Prelude.{shard_bytes, is_within, shards_from, shards_of, first_of, body_with, extent_with, run_size, csums_of, IsFirstRun, room_behind, LacksRoom, WritesRun, WritesFront, WritesShard}
use Rattle.extent_shards.specs.declared.pushing.Front.{Front}
use Rattle.extent_shards.proofs.Runs.{count_csums, count_with}
use Rattle.extent_shards.proofs.Fronts.{count_of, count_append, count_all, front_of, begins_at_first}

-- what it is to be within a bound
pub within_bound : (bound limit count : ℕ) → limit ≡ bound → count ≤ limit → nat_le count bound ≡ true
within_bound bound limit count is le = grind (arith, nat_tests)

pub past_bound : (bound limit count : ℕ) → limit ≡ bound → limit < count → nat_le count bound ≡ false
past_bound bound limit count is lt = grind (arith, nat_tests)

-- the bytes of an extent
run_length : (w : Width) (first count : ℕ) (s : Start) (csums : List ℕ) → length csums ≡ count
    → length (extent_bytes w (record { first = first; body = body_with s count csums })) ≡ run_size w s count
run_length w first count (OnUnit unit) csums size =
    let numbers = flat_map (csum_bytes w) csums in
    omega (
      arith,
      length-append (to_le_bytes w32 first) (to_le_bytes w16 (length csums) ++ (0 ∷ (to_le_bytes w32 unit ++ numbers))),
      length-append (to_le_bytes w16 (length csums)) (0 ∷ (to_le_bytes w32 unit ++ numbers)),
      length-append (to_le_bytes w32 unit) numbers,
      length-csums w csums ∙ ap (bytes_of w) size,
    )
run_length w first count (OnSlot sbid index) csums size = omega arith

-- the extent of the first run, alone, is that of its pages
module _ (ps : List (ℕ × Place)) (h : Head) (run : IsFirstRun ps h) where
  abbrev pub first_extent : Extent
  first_extent = extent_with h (csums_of (take h.count ps))

  pub run_count : count_of (first_extent ∷ []) ≡ h.count
  run_count = omega (arith, count_with h.start h.count (csums_of (take h.count ps)) (count_csums h.count ps run.within))

  pub run_taken : extents_of (take h.count ps) ≡ first_extent ∷ []
  run_taken = front_of ps h.count (first_extent ∷ []) (extents_of (drop h.count ps)) run.run run_count

  pub run_bytes : (w : Width) → length (extent_bytes w first_extent) ≡ run_size w h.start h.count
  run_bytes w = run_length w h.first h.count h.start (csums_of (take h.count ps)) (count_csums h.count ps run.within)

-- The first pages, so many of them, are cut between two extents, and theirs are at the front of the first shard. They have so many bytes, which are
-- written behind what was there.
pub record IsFront (w : Width) (bound : Option ℕ) (ps : List (ℕ × Place)) (count bytes : ℕ) (old new : List ℕ) : Type 0 where
  pub some : 0 < count
  pub within : count ≤ length ps
  pub apart : extents_of ps ≡ extents_of (take count ps) ++ extents_of (drop count ps)
  pub shards : shards_of w bound (extents_of ps) ≡ shards_from w bound (extents_of (take count ps)) (extents_of (drop count ps))
  pub bytes_are : bytes ≡ length (shard_bytes w (extents_of (take count ps)))
  pub written : new ≡ old ++ shard_bytes w (extents_of (take count ps))

one_alone : (w : Width) (e : Extent) → shard_bytes w (e ∷ []) ≡ extent_bytes w e
one_alone w e = flat_map-cons (extent_bytes w) e [] ∙ append-nil (extent_bytes w e)

-- the first extent
pub run_is_front : (w : Width) (bound : Option ℕ) (ps : List (ℕ × Place)) (h : Head) (count bytes : ℕ) (old new : List ℕ) → IsFirstRun ps h
    → count ≡ h.count → bytes ≡ run_size w h.start h.count → new ≡ old ++ extent_bytes w (extent_with h (csums_of (take h.count ps)))
    → IsFront w bound ps count bytes old new
run_is_front w bound ps h count bytes old new run is bytes_is pushed =
    let e = first_extent ps h run in
    let left = extents_of (drop h.count ps) in
    let taken = run_taken ps h run in
    let at : IsFront w bound ps h.count bytes old new = record {
      some = run.some;
      within = run.within;
      apart = run.run ∙ ap (λ l. l ++ left) (sym taken);
      shards = ap (shards_of w bound) run.run ∙ ap (λ l. shards_from w bound l left) (sym taken);
      bytes_are = bytes_is ∙ sym (run_bytes ps h run w) ∙ ap length (sym (one_alone w e)) ∙ ap (λ l. length (shard_bytes w l)) (sym taken);
      written = pushed ∙ ap (λ l. old ++ l) (sym (one_alone w e)) ∙ ap (λ l. old ++ shard_bytes w l) (sym taken);
    } in subst (λ n. IsFront w bound ps n bytes old new) (sym is) at

-- one extent behind so many pages
module _ (w : Width) (bound : Option ℕ) (ps : List (ℕ × Place)) (count bytes : ℕ) (old new : List ℕ) (h : Head)
    (front : IsFront w bound ps count bytes old new) (run : IsFirstRun (drop count ps) h) (bytes' : ℕ)
    (bytes_more : bytes' ≡ bytes + run_size w h.start h.count) where
  abbrev shard : List Extent
  shard = extents_of (take count ps)

  abbrev next : Extent
  next = first_extent (drop count ps) h run

  abbrev left : List Extent
  left = extents_of (drop h.count (drop count ps))

  both : shard_bytes w (shard ++ next ∷ []) ≡ shard_bytes w shard ++ extent_bytes w next
  both = flat_map-append (extent_bytes w) shard (next ∷ []) ∙ ap (λ l. shard_bytes w shard ++ l) (one_alone w next)

  with_next : bytes' ≡ length (shard_bytes w (shard ++ next ∷ []))
  with_next = bytes_more ∙ omega (
    arith,
    front.bytes_are,
    run_bytes (drop count ps) h run w,
    ap length both,
    length-append (shard_bytes w shard) (extent_bytes w next),
  )

  steps : (b : Bool) → is_within bound bytes' ≡ b
      → shards_of w bound (extents_of ps) ≡ cond b (shards_from w bound (shard ++ next ∷ []) left) (shard ∷ shards_from w bound (next ∷ []) left)
  steps b is = front.shards ∙ ap (shards_from w bound shard) run.run
      ∙ ap (λ t. cond t (shards_from w bound (shard ++ next ∷ []) left) (shard ∷ shards_from w bound (next ∷ []) left))
      (ap (is_within bound) (sym with_next) ∙ is)

  -- it joins the shard
  pub more_is_front : is_within bound bytes' ≡ true → (count' : ℕ) (new' : List ℕ) → count' ≡ count + h.count
      → new' ≡ new ++ extent_bytes w next → IsFront w bound ps count' bytes' old new'
  more_is_front is count' new' count_is pushed =
      let all : extents_of ps ≡ (shard ++ next ∷ []) ++ left = front.apart ∙ ap (λ l. shard ++ l) run.run ∙ sym (append_assoc shard (next ∷ []) left) in
      let taken : extents_of (take (count + h.count) ps) ≡ shard ++ next ∷ [] =
      front_of ps (count + h.count) (shard ++ next ∷ []) left all (omega (
        arith,
        count_append shard (next ∷ []),
        count_all (take count ps),
        length-take count ps,
        front.within,
        run_count (drop count ps) h run,
      )) in
      let behind : drop h.count (drop count ps) ≡ drop (count + h.count) ps = drop-drop h.count count ps in
      let at : IsFront w bound ps (count + h.count) bytes' old new' = record {
        some = omega (arith, front.some);
        within = omega (arith, front.within, run.within, length-drop count ps);
        apart = all ∙ ap (λ l. l ++ left) (sym taken) ∙ ap (λ l. extents_of (take (count + h.count) ps) ++ extents_of l) behind;
        shards = steps true is ∙ ap (λ l. shards_from w bound l left) (sym taken)
            ∙ ap (λ l. shards_from w bound (extents_of (take (count + h.count) ps)) (extents_of l)) behind;
        bytes_are = with_next ∙ ap (λ l. length (shard_bytes w l)) (sym taken);
        written = pushed ∙ ap (λ l. l ++ extent_bytes w next) front.written ∙ append_assoc old (shard_bytes w shard) (extent_bytes w next)
            ∙ ap (λ l. old ++ l) (sym both) ∙ ap (λ l. old ++ shard_bytes w l) (sym taken);
      } in subst (λ n. IsFront w bound ps n bytes' old new') (sym count_is) at

  -- it begins the next one
  pub shard_is_full : is_within bound bytes' ≡ false → WritesFront w bound ps count old new
  shard_is_full is = record {
    some = front.some;
    within = front.within;
    first = steps false is ∙ ap (λ l. shard ∷ shards_of w bound l) (sym run.run);
    written = front.written;
  }

-- no extent is left
pub shard_is_last : (w : Width) (bound : Option ℕ) (ps : List (ℕ × Place)) (count bytes : ℕ) (old new : List ℕ)
    → IsFront w bound ps count bytes old new → length ps ≤ count → WritesFront w bound ps count old new
shard_is_last w bound ps count bytes old new front le =
    let none = drop_all count ps le in
    record {
      some = front.some;
      within = front.within;
      first = front.shards ∙ ap (λ l. shards_from w bound (extents_of (take count ps)) (extents_of l)) none
          ∙ ap (λ l. extents_of (take count ps) ∷ shards_of w bound (extents_of l)) (sym none);
      written = front.written;
    }

-- ---- from no page on

-- no page is in the shard yet, or those are that are at the front of it
abbrev pub IsBegun : Width → Option ℕ → List (ℕ × Place) → ℕ → ℕ → List ℕ → List ℕ → Type 0
IsBegun w bound ps count bytes old new = ((count ≡ 0) × (bytes ≡ 0) × (new ≡ old)) ⊎ IsFront w bound ps count bytes old new

module _ (w : Width) (bound : Option ℕ) (ps : List (ℕ × Place)) (count bytes : ℕ) (old new : List ℕ) where
  module _ (h : Head) (begun : IsBegun w bound ps count bytes old new) (run : IsFirstRun (drop count ps) h) (bytes' : ℕ)
      (bytes_more : bytes' ≡ bytes + run_size w h.start h.count) where
    pub one_more_run : (0 < count → is_within bound bytes' ≡ true) → (count' : ℕ) (new' : List ℕ) → count' ≡ count + h.count
        → new' ≡ new ++ extent_bytes w (extent_with h (csums_of (take h.count (drop count ps)))) → IsFront w bound ps count' bytes' old new'
    one_more_run is count' new' count_is pushed = elim begun [
      | inl z ↦ run_is_front w bound ps h count' bytes' old new' (subst (λ n. IsFirstRun (drop n ps) h) z.0 run) (omega (arith, count_is, z.0))
          (omega (arith, bytes_more, z.1))
          (pushed ∙ ap (λ l. l ++ extent_bytes w (extent_with h (csums_of (take h.count (drop count ps))))) z.2
          ∙ ap (λ n. old ++ extent_bytes w (extent_with h (csums_of (take h.count (drop n ps))))) z.0)
      | inr front ↦ more_is_front w bound ps count bytes old new h front run bytes' bytes_more (is front.some) count' new' count_is pushed
    ]

    pub begun_is_full : 0 < count → is_within bound bytes' ≡ false → WritesFront w bound ps count old new
    begun_is_full some is = elim begun [
      | inl z ↦ absurd (omega (arith, z.0, some))
      | inr front ↦ shard_is_full w bound ps count bytes old new h front run bytes' bytes_more is
    ]

  pub none_yet : IsBegun w bound ps count bytes old new → count ≤ 0 → bytes ≡ 0
  none_yet begun le = elim begun [ inl z ↦ z.1 | inr front ↦ absurd (omega (arith, front.some, le)) ]

  pub begun_is_last : IsBegun w bound ps count bytes old new → 0 < length ps → length ps ≤ count → WritesFront w bound ps count old new
  begun_is_last begun some le = elim begun [
    | inl z ↦ absurd (omega (arith, z.0, some, le))
    | inr front ↦ shard_is_last w bound ps count bytes old new front le
  ]

-- ---- by the room that there is

some_size : (w : Width) (s : Start) (count : ℕ) → 0 < run_size w s count
some_size w (OnUnit unit) count = omega arith
some_size w (OnSlot sbid index) count = omega arith

not_zero : (n : ℕ) → 0 < n → (n == 0) ≡ false
not_zero n some = grind (arith, nat_tests)

room_left : (bound count bytes : ℕ) → 0 < count → room_behind bound count bytes ≡ bound - bytes
room_left bound count bytes some = ap (λ t. cond t (2 ^ 64 - 1) (bound - bytes)) (not_zero count some)

room_for_first : (bound count bytes : ℕ) → count ≡ 0 → room_behind bound count bytes ≡ 2 ^ 64 - 1
room_for_first bound count bytes none = ap (λ n. room_behind bound n bytes) none

-- there isn't room for the next extent
pub full_without_room : (w : Width) (bound : ℕ) (ps : List (ℕ × Place)) (count bytes room : ℕ) (old new new' : List ℕ)
    → IsBegun w (Some bound) ps count bytes old new → room ≡ room_behind bound count bytes → LacksRoom w (drop count ps) room new new'
    → WritesFront w (Some bound) ps count old new'
full_without_room w bound ps count bytes room old new new' begun is lacks =
    let size = run_size w lacks.head.start lacks.head.count in
    let some : 0 < count = elim begun [
      | inl z ↦ absurd (omega (arith, is ∙ room_for_first bound count bytes z.0, lacks.more, lacks.few))
      | inr front ↦ front.some
    ] in
    subst (WritesFront w (Some bound) ps count old) (sym lacks.same)
    (begun_is_full w (Some bound) ps count bytes old new lacks.head begun lacks.run (bytes + size) refl some
    (past_bound bound bound (bytes + size) refl (omega (arith, is ∙ room_left bound count bytes some, lacks.more))))

-- it is written, for there is
module _ (w : Width) (bound : ℕ) (ps : List (ℕ × Place)) (count bytes room pages more bytes' : ℕ) (old new new' : List ℕ)
    (begun : IsBegun w (Some bound) ps count bytes old new) (is : room ≡ room_behind bound count bytes)
    (writes : WritesRun w (drop count ps) room pages more new new') (bytes_is : bytes' ≡ bytes + more) where
  fits : 0 < count → bytes' ≤ bound
  fits some = omega (
    arith,
    is ∙ room_left bound count bytes some,
    writes.within,
    bytes_is,
    writes.bytes_are,
    some_size w writes.head.start writes.head.count,
  )

  pub more_with_room : (count' : ℕ) → count' ≡ count + pages → IsFront w (Some bound) ps count' bytes' old new'
  more_with_room count' count_is =
      one_more_run w (Some bound) ps count bytes old new writes.head begun writes.run bytes' (bytes_is ∙ ap (λ n. bytes + n) writes.bytes_are)
      (λ some. within_bound bound bound bytes' refl (fits some)) count' new' (count_is ∙ ap (λ n. count + n) writes.pages_are) writes.written

  pub small_with_room : bound < 2 ^ 32 → bytes' < 2 ^ 33
  small_with_room below = elim begun [
    | inl z ↦ omega (arith, z.1, bytes_is, writes.few)
    | inr front ↦ omega (arith, fits front.some, below)
  ]

-- ---- where the shard begins

first_is : (es : List Extent) (page : ℕ) → BeginsAt page es → first_of es ≡ page
first_is [] page begins = absurd begins
first_is (e ∷ es) page begins = begins

first_taken : (ps : List (ℕ × Place)) (count : ℕ) (d : ℕ × Place) → 0 < count → get_or (take count ps) 0 d ≡ get_or ps 0 d
first_taken ps zero d some = absurd (omega (arith, some))
first_taken [] (suc count) d some = refl
first_taken (p ∷ ps) (suc count) d some = refl

pub shard_begins : (w : Width) (bound : Option ℕ) (ps : List (ℕ × Place)) (front : Front) (d : ℕ × Place) (old new : List ℕ)
    → WritesFront w bound ps front.count old new → front.first ≡ (get_or ps 0 d).0 → WritesShard w bound ps front old new
shard_begins w bound ps front d old new is first = record {
  some = is.some;
  within = is.within;
  shard = extents_of (take front.count ps);
  begins = first_is (extents_of (take front.count ps)) (get_or (take front.count ps) 0 d).0
      (begins_at_first (take front.count ps) d (omega (arith, length-take front.count ps, is.some, is.within)))
      ∙ ap (λ (p : ℕ × Place). p.0) (first_taken ps front.count d is.some) ∙ sym first;
  first = is.first;
  written = is.written;
}

-- ---- without a bound

all_from : (w : Width) (es shard : List Extent) → shards_from w None shard es ≡ (shard ++ es) ∷ []
all_from w [] shard = ap (λ l. l ∷ []) (sym (append-nil shard))
all_from w (e ∷ es) shard = all_from w es (shard ++ e ∷ []) ∙ ap (λ l. l ∷ []) (append_assoc shard (e ∷ []) es)

pub all_in_one : (w : Width) (e : Extent) (es : List Extent) → shards_of w None (e ∷ es) ≡ (e ∷ es) ∷ []
all_in_one w e es = all_from w es (e ∷ [])
