-- The image of a tear, as the log is laid over the start contents event by event.
use Rattle.std.proofs.Common.{◌≡◌, ◌≢◌, ◌⊎◌, inl, inr, ℕ, ◌+◌, ◌-◌, ◌*◌, ◌/◌, ◌<◌, ◌≤◌, suc, replicate, List, [], ◌∷◌, ◌++◌, length, take, drop, get_or, not, length-drop, Bool, true, false, ◌&&◌, ◌||◌, Some, refl, sym, ◌∙◌, ap, subst, arith}
use Rattle.std.specs.Prelude.{slice_get, if◌then◌else◌, nat_lt, ◌==◌, ◌%◌}
use Rattle.std.proofs.lemmas.Bool.{cases_lt, cases_Bool, lt-ltb, le-ltb, false≢true}
use Rattle.std.proofs.lemmas.Bool.Decides.{nat_tests}
use Rattle.std.proofs.lemmas.List.{length-take-le, get_or-replicate, length-replicate, take_more, take_all}
use Rattle.byte_maps.specs.Units.{unit_at, overlaid, Covers, IsUnits}
use Rattle.byte_maps.proofs.Prelude.{length-overlaid, unit_at-laid_inside}
use Rattle.block_device.specs.Prelude.{after_event, last, WritesUnit, IsClean, IsCrashImage, covers, is_stable, first_unstable, is_dirty, reaches, held_after_event, held_from, landed_unit, torn_unit, noise, IsTornImage, IsWholeEvent, IsWholeLog, is_laid, mark, laid_unit, IsPut}
use Rattle.block_device.proofs.LogLemmas.{unit_at-after_event, slice_get-push_cases, slice_get-lt, slice_get-is, slice_get-take}
use Rattle.block_device.proofs.Places.{covers-means, is_stable-means, first_unstable-le, first_unstable-holds, clean_end}
use Rattle.block_device.proofs.PutLemmas.{unit_at-laid_one}
use Rattle.block_device.specs.declared.event.Event.{Event}
use Rattle.block_device.specs.declared.event.Event.TheVariants.{Write, Flush, Done}
use Rattle.block_device.specs.declared.image.Tear.{Tear}
use Rattle.block_device.specs.declared.image.Tear.TheVariants.{Old, New, First, Odd, Noise}

-- the image of the first n events
pub record IsImageUpTo (tear : Tear) (n : ℕ) (start : List ℕ) (log : List Event) (image : List ℕ) (marks : List Bool) : Type 0 where
  pub size : length image ≡ length start
  pub units : IsUnits (length marks) image
  pub within : n ≤ length log
  pub held : (k : ℕ) → k < length marks → unit_at k image ≡ held_from (reaches tear log k) k 0 (unit_at k start) (take n log)
  pub torn : (k : ℕ) → k < length marks → mark marks k ≡ nat_lt (first_unstable log k) n

pub image_start : (tear : Tear) (units n : ℕ) (start image : List ℕ) (log : List Event) (marks : List Bool) → IsUnits units start → image ≡ start → n ≡ length start / 4096 → marks ≡ replicate n false → IsImageUpTo tear 0 start log image marks
image_start tear units n start image log marks whole is n_is are = record {
  size = ap length is;
  units = omega (arith, ap length is, whole, ap length are, length-replicate n false);
  within = omega arith;
  held = λ k _. ap (λ (l : List ℕ). unit_at k l) is;
  torn = λ k below.
      let inside : k < n = omega (arith, ap length are, length-replicate n false) in
      ap (λ (l : List Bool). get_or l k false) are ∙ get_or-replicate n k false false inside ∙ sym (le-ltb (first_unstable log k) 0 (omega arith));
}

-- one more event

held_from-push : (reached : ℕ → ℕ → Bool) (k n : ℕ) (held : List ℕ) (log : List Event) (event : Event) → held_from reached k n held (log ++ event ∷ []) ≡ held_after_event (reached (n + length log)) k (held_from reached k n held log) event
held_from-push reached k n held [] event = ap (λ (m : ℕ). held_after_event (reached m) k held event) (omega arith)
held_from-push reached k n held (e ∷ log) event =
    held_from-push reached k (n + 1) (held_after_event (reached n) k held e) log event
    ∙ ap (λ (m : ℕ). held_after_event (reached m) k (held_from reached k (n + 1) (held_after_event (reached n) k held e) log) event) (omega arith)

held_more : (reached : ℕ → ℕ → Bool) (k place : ℕ) (held : List ℕ) (log : List Event) (event : Event) → place < length log → event ≡ get_or log place event
    → held_from reached k 0 held (take (place + 1) log) ≡ held_after_event (reached place) k (held_from reached k 0 held (take place log)) event
held_more reached k place held log event below is =
    let front : length (take place log) ≡ place = length-take-le place log (omega arith) in
    ap (λ l. held_from reached k 0 held l) (take_more log place event below ∙ ap (λ e. take place log ++ e ∷ []) (sym is))
    ∙ held_from-push reached k 0 held (take place log) event
    ∙ ap (λ (m : ℕ). held_after_event (reached m) k (held_from reached k 0 held (take place log)) event) (omega arith)

-- an event that is no unstable write of the unit is not the first one
first_other : (log : List Event) (k place : ℕ) (event : Event) → slice_get log place ≡ Some event → (WritesUnit k event → is_stable log place ≡ true) → first_unstable log k ≢ place
first_other log k place event there stable is =
    let at = first_unstable-holds log k (omega (arith, slice_get-lt log event place there)) in
    let same : at.0 ≡ event = cc (at.1, there, ap (λ (n : ℕ). slice_get log n) is) in
    false≢true (sym at.3 ∙ ap (λ (n : ℕ). is_stable log n) is ∙ stable (subst (λ e. WritesUnit k e) same at.2))

lt_more : (f n : ℕ) → f ≢ n → nat_lt f n ≡ nat_lt f (n + 1)
lt_more f n other = grind (arith, nat_tests)

lt_other : (f n : ℕ) → f ≢ n → not (nat_lt f n) ≡ nat_lt n f
lt_other f n other = grind (arith, nat_tests)

or_false : (b : Bool) → (b || false) ≡ b
or_false true = refl
or_false false = refl

or_true : (b : Bool) → (b || true) ≡ true
or_true true = refl
or_true false = refl

-- the mark of a unit after one more event
mark_more : (log : List Event) (k place : ℕ) (event : Event) (stable : Bool) → slice_get log place ≡ Some event → WritesUnit k event → stable ≡ is_stable log place
    → (nat_lt (first_unstable log k) place || not stable) ≡ nat_lt (first_unstable log k) (place + 1)
mark_more log k place event true there covers is = or_false (nat_lt (first_unstable log k) place) ∙ lt_more (first_unstable log k) place (first_other log k place event there (λ _. sym is))
mark_more log k place event false there covers is =
    or_true (nat_lt (first_unstable log k) place) ∙ sym (lt-ltb (first_unstable log k) (place + 1) (omega (arith, first_unstable-le log k place event there covers (sym is))))

-- the code lays just those units that reach the disk
held_back : (log : List Event) (k place : ℕ) (event : Event) (stable : Bool) → slice_get log place ≡ Some event → WritesUnit k event → stable ≡ is_stable log place
    → (stable && not (nat_lt (first_unstable log k) place)) ≡ nat_lt place (first_unstable log k)
held_back log k place event true there covers is = lt_other (first_unstable log k) place (first_other log k place event there (λ _. sym is))
held_back log k place event false there covers is = sym (le-ltb place (first_unstable log k) (first_unstable-le log k place event there covers (sym is)))

laid_reaches : (tear : Tear) (log : List Event) (k place j : ℕ) (event : Event) (stable : Bool) → slice_get log place ≡ Some event → WritesUnit k event → stable ≡ is_stable log place
    → is_laid tear stable (nat_lt (first_unstable log k) place) j ≡ reaches tear log k place j
laid_reaches Old log k place j event stable there covers is = held_back log k place event stable there covers is
laid_reaches New log k place j event stable there covers is = refl
laid_reaches First log k place j event stable there covers is = ap (λ (b : Bool). b || (j == 0)) is
laid_reaches Odd log k place j event stable there covers is = ap (λ (b : Bool). b || (j % 2 == 1)) is
laid_reaches Noise log k place j event stable there covers is = held_back log k place event stable there covers is

held_covered : (reached : ℕ → Bool) (k at : ℕ) (held bytes : List ℕ) → Covers at bytes k → held_after_event reached k held (Write at bytes) ≡ (if reached (k - at) then unit_at (k - at) bytes else held)
held_covered reached k at held bytes c = ap (λ (b : Bool). if b && reached (k - at) then unit_at (k - at) bytes else held) ((covers-means at bytes k).1 c)

held_apart : (reached : ℕ → Bool) (k : ℕ) (held : List ℕ) (event : Event) → ¬ WritesUnit k event → held_after_event reached k held event ≡ held
held_apart reached k held (Write at bytes) apart = elim (cases_Bool (covers at bytes k)) [
  | inl covered ↦ absurd (apart ((covers-means at bytes k).0 covered))
  | inr uncovered ↦ ap (λ (b : Bool). if b && reached (k - at) then unit_at (k - at) bytes else held) uncovered
]
held_apart reached k held Flush apart = refl
held_apart reached k held (Done ticket ok) apart = refl

-- covered or not
cases_covers : (at : ℕ) (bytes : List ℕ) (k : ℕ) → Covers at bytes k ⊎ (¬ Covers at bytes k)
cases_covers at bytes k = elim (cases_Bool (covers at bytes k)) [
  | inl covered ↦ inl ((covers-means at bytes k).0 covered)
  | inr uncovered ↦ inr (λ c. false≢true (sym uncovered ∙ (covers-means at bytes k).1 c))
]

pub image_write : (tear : Tear) (place : ℕ) (start : List ℕ) (log : List Event) (at : ℕ) (bytes image image' : List ℕ) (marks marks' : List Bool) (event : Event) (stable : Bool)
    → IsImageUpTo tear place start log image marks → place < length log → event ≡ get_or log place event → event ≡ Write at bytes
    → stable ≡ is_stable log place → IsPut tear at bytes stable image image' marks marks' → IsImageUpTo tear (place + 1) start log image' marks'
image_write tear place start log at bytes image image' marks marks' event stable s below is is_write decides put =
    let there : slice_get log place ≡ Some (Write at bytes) = slice_get-is log place event below is ∙ ap (λ e. Some e) is_write in
    let is' : Write at bytes ≡ get_or log place (Write at bytes) = subst (λ e. e ≡ get_or log place e) is_write is in
    let more : (k : ℕ) → held_from (reaches tear log k) k 0 (unit_at k start) (take (place + 1) log) ≡ held_after_event (reaches tear log k place) k (held_from (reaches tear log k) k 0 (unit_at k start) (take place log)) (Write at bytes) =
    λ k. held_more (reaches tear log k) k place (unit_at k start) log (Write at bytes) below is' in
    record {
      size = put.size ∙ s.size;
      units = omega (arith, put.size, put.marks, s.units);
      within = omega arith;
      held = λ k inside.
          let before = held_from (reaches tear log k) k 0 (unit_at k start) (take place log) in
          let inside' : k < length marks = omega (arith, put.marks) in
          elim (cases_covers at bytes k) [
            | inr apart ↦ put.others k apart ∙ s.held k inside' ∙ sym (held_apart (reaches tear log k place) k before (Write at bytes) apart) ∙ sym (more k)
            | inl c ↦
                put.written k c
                ∙ ap (λ (l : List ℕ). laid_unit tear stable (mark marks k) (k - at) bytes l) (s.held k inside')
                ∙ ap (λ (b : Bool). laid_unit tear stable b (k - at) bytes before) (s.torn k inside')
                ∙ ap (λ (b : Bool). if b then unit_at (k - at) bytes else before) (laid_reaches tear log k place (k - at) (Write at bytes) stable there c decides)
                ∙ sym (held_covered (reaches tear log k place) k at before bytes c)
                ∙ sym (more k)
          ];
      torn = λ k inside.
          let inside' : k < length marks = omega (arith, put.marks) in
          elim (cases_covers at bytes k) [
            | inr apart ↦ put.other_marks k apart ∙ s.torn k inside' ∙ lt_more (first_unstable log k) place (first_other log k place (Write at bytes) there (λ c. absurd (apart c)))
            | inl c ↦ put.torn k c ∙ ap (λ (b : Bool). b || not stable) (s.torn k inside') ∙ mark_more log k place (Write at bytes) stable there c decides
          ];
    }

-- an event that writes nothing
pub image_other : (tear : Tear) (place : ℕ) (start : List ℕ) (log : List Event) (image : List ℕ) (marks : List Bool) (event : Event)
    → IsImageUpTo tear place start log image marks → place < length log → event ≡ get_or log place event → ((at : ℕ) (bytes : List ℕ) → event ≡ Write at bytes → ⊥) → IsImageUpTo tear (place + 1) start log image marks
image_other tear place start log image marks event s below is other = record {
  size = s.size;
  units = s.units;
  within = omega arith;
  held = λ k inside. s.held k inside ∙ sym (held_apart (reaches tear log k place) k (held_from (reaches tear log k) k 0 (unit_at k start) (take place log)) event (apart k event other)) ∙ sym (held_more (reaches tear log k) k place (unit_at k start) log event below is);
  torn = λ k inside. s.torn k inside ∙ lt_more (first_unstable log k) place (first_other log k place event (slice_get-is log place event below is) (λ c. absurd (apart k event other c)));
}
  where
    apart : (k : ℕ) (e : Event) → ((at : ℕ) (piece : List ℕ) → e ≡ Write at piece → ⊥) → ¬ WritesUnit k e
    apart k (Write at piece) differs c = differs at piece refl
    apart k Flush differs c = c
    apart k (Done ticket ok) differs c = c

-- the image of all events, but for noise
pub image_all : (tear : Tear) (n : ℕ) (start : List ℕ) (log : List Event) (image : List ℕ) (marks : List Bool) → tear ≢ Noise → length log ≤ n → IsImageUpTo tear n start log image marks → IsTornImage tear start log image
image_all tear n start log image marks other all s = record {
  size = s.size;
  units = λ k inside.
      let below : k < length marks = omega (arith, s.units, s.size) in
      s.held k below ∙ ap (λ l. held_from (reaches tear log k) k 0 (unit_at k start) l) (take_all n log all) ∙ no_noise tear other start log k;
}
  where
    no_noise : (tear : Tear) → tear ≢ Noise → (start : List ℕ) (log : List Event) (k : ℕ) → landed_unit tear start log k ≡ torn_unit tear start log k
    no_noise Old other start log k = refl
    no_noise New other start log k = refl
    no_noise First other start log k = refl
    no_noise Odd other start log k = refl
    no_noise Noise other start log k = absurd (other refl)

-- with its torn units filled
pub image_filled : (n : ℕ) (start : List ℕ) (log : List Event) (image image' : List ℕ) (marks : List Bool) → length log ≤ n → IsImageUpTo Noise n start log image marks → length image' ≡ length image
    → ((k : ℕ) → mark marks k ≡ false → unit_at k image' ≡ unit_at k image) → ((k : ℕ) → k < length marks → mark marks k ≡ true → unit_at k image' ≡ noise) → IsTornImage Noise start log image'
image_filled n start log image image' marks all s size others filled = record {
  size = size ∙ s.size;
  units = λ k inside.
      let below : k < length marks = omega (arith, s.units, s.size) in
      let end : n ≡ length log = omega (arith, s.within) in
      let dirty : is_dirty log k ≡ mark marks k = ap (λ (m : ℕ). nat_lt (first_unstable log k) m) (sym end) ∙ sym (s.torn k below) in
      elim (cases_Bool (mark marks k)) [
        | inl torn ↦ filled k below torn ∙ ap (λ (b : Bool). if b then noise else landed_unit Noise start log k) (sym (dirty ∙ torn))
        | inr whole ↦
            others k whole ∙ s.held k below ∙ ap (λ l. held_from (reaches Noise log k) k 0 (unit_at k start) l) (take_all n log all)
            ∙ ap (λ (b : Bool). if b then noise else landed_unit Noise start log k) (sym (dirty ∙ whole))
      ];
}

-- one torn unit more is filled
pub filled_more : (k : ℕ) (filling image image' old : List ℕ) (torn : List Bool) → length filling ≡ 4096 → 4096 * k + 4096 ≤ length image → mark torn k ≡ true → image' ≡ overlaid k filling image
    → ((unit : ℕ) → mark torn unit ≡ false → unit_at unit image ≡ unit_at unit old) → (unit : ℕ) → mark torn unit ≡ false → unit_at unit image' ≡ unit_at unit old
filled_more k filling image image' old torn size fits is_torn is before unit whole =
    ap (λ (l : List ℕ). unit_at unit l) is ∙ unit_at-laid_one k unit filling image size fits (λ same. false≢true (sym whole ∙ ap (λ (n : ℕ). mark torn n) same ∙ is_torn)) ∙ before unit whole

-- each image of a tear is a crash image

pub length-last : (start : List ℕ) (log : List Event) → IsWholeLog (length start) log → length (last start log) ≡ length start
length-last start [] fits = refl
length-last start (e ∷ log) fits =
    let size : length (after_event start e) ≡ length start = length_whole e start (fits 0 e refl) in
    length-last (after_event start e) log (λ place event there. subst (λ (n : ℕ). IsWholeEvent n event) (sym size) (fits (suc place) event there)) ∙ size
  where
    length_whole : (e : Event) (bytes : List ℕ) → IsWholeEvent (length bytes) e → length (after_event bytes e) ≡ length bytes
    length_whole (Write at piece) bytes whole = length-overlaid at piece bytes whole.0
    length_whole Flush bytes whole = refl
    length_whole (Done ticket ok) bytes whole = refl

-- where each write of the unit reaches the disk the unit is as last written
landed_last : (reached : ℕ → ℕ → Bool) (k n : ℕ) (held bytes : List ℕ) (log : List Event) → IsWholeLog (length bytes) log → held ≡ unit_at k bytes
    → ((i : ℕ) (event : Event) (j : ℕ) → slice_get log i ≡ Some event → WritesUnit k event → reached (n + i) j ≡ true) → held_from reached k n held log ≡ unit_at k (last bytes log)
landed_last reached k n held bytes [] fits is all = is
landed_last reached k n held bytes (e ∷ log) fits is all =
    landed_last reached k (n + 1) (held_after_event (reached n) k held e) (after_event bytes e) log
    (λ place event there. subst (λ (m : ℕ). IsWholeEvent m event) (sym (size e (fits 0 e refl))) (fits (suc place) event there))
    (now e (fits 0 e refl) (λ j c. ap (λ (m : ℕ). reached m j) (omega arith) ∙ all 0 e j refl c))
    (λ i event j there c. ap (λ (m : ℕ). reached m j) (omega arith) ∙ all (suc i) event j there c)
  where
    size : (e : Event) → IsWholeEvent (length bytes) e → length (after_event bytes e) ≡ length bytes
    size (Write at piece) whole = length-overlaid at piece bytes whole.0
    size Flush whole = refl
    size (Done ticket ok) whole = refl

    now : (e : Event) → IsWholeEvent (length bytes) e → ((j : ℕ) → WritesUnit k e → reached n j ≡ true) → held_after_event (reached n) k held e ≡ unit_at k (after_event bytes e)
    now (Write at piece) whole lands = elim (cases_covers at piece k) [
      | inl c ↦
          held_covered (reached n) k at held piece c ∙ ap (λ (b : Bool). if b then unit_at (k - at) piece else held) (lands (k - at) c)
          ∙ sym (unit_at-laid_inside at k (k - at) piece bytes whole.0 (omega (arith, c.0)) (omega (arith, c.0, c.1, whole.2)))
      | inr apart ↦ held_apart (reached n) k held (Write at piece) apart ∙ is ∙ sym (unit_at-after_event k (Write at piece) bytes whole.0 apart)
    ]
    now Flush whole lands = is
    now (Done ticket ok) whole lands = is

-- a clean unit's writes all reach the disk
clean_reaches : (tear : Tear) (log : List Event) (k i j : ℕ) (event : Event) → IsClean log k → slice_get log i ≡ Some event → WritesUnit k event → reaches tear log k i j ≡ true
clean_reaches Old log k i j event clean there c = lt-ltb i (first_unstable log k) (omega (arith, clean_end log k clean, slice_get-lt log event i there))
clean_reaches New log k i j event clean there c = refl
clean_reaches First log k i j event clean there c = ap (λ (b : Bool). b || (j == 0)) ((is_stable-means log i).1 (clean i event there c))
clean_reaches Odd log k i j event clean there c = ap (λ (b : Bool). b || (j % 2 == 1)) ((is_stable-means log i).1 (clean i event there c))
clean_reaches Noise log k i j event clean there c = lt-ltb i (first_unstable log k) (omega (arith, clean_end log k clean, slice_get-lt log event i there))

clean_torn : (tear : Tear) (start : List ℕ) (log : List Event) (k : ℕ) → IsClean log k → torn_unit tear start log k ≡ landed_unit tear start log k
clean_torn Old start log k clean = refl
clean_torn New start log k clean = refl
clean_torn First start log k clean = refl
clean_torn Odd start log k clean = refl
clean_torn Noise start log k clean = ap (λ (b : Bool). if b then noise else landed_unit Noise start log k) (le-ltb (first_unstable log k) (length log) (omega (arith, clean_end log k clean)))

unit_past : (k : ℕ) (bytes : List ℕ) → length bytes ≤ 4096 * k → unit_at k bytes ≡ []
unfolding unit_at
unit_past k bytes past = take_none (drop (4096 * k) bytes) (omega (arith, length-drop (4096 * k) bytes))
  where
    take_none : (xs : List ℕ) → length xs ≡ 0 → take 4096 xs ≡ []
    take_none [] none = refl
    take_none (x ∷ xs) none = absurd (omega arith)

pub torn_is_crash : (tear : Tear) (units : ℕ) (start : List ℕ) (log : List Event) (image : List ℕ) → IsUnits units start → IsWholeLog (length start) log → IsTornImage tear start log image → IsCrashImage start log image
torn_is_crash tear units start log image whole fits torn = record {
  size = torn.size;
  clean = λ k clean. elim (cases_lt k units) [
    | inl inside ↦
        torn.units k (omega (arith, whole)) ∙ clean_torn tear start log k clean
        ∙ landed_last (reaches tear log k) k 0 (unit_at k start) start log fits refl (λ i event j there c. ap (λ (m : ℕ). reaches tear log k m j) (omega arith) ∙ clean_reaches tear log k i j event clean there c)
    | inr past ↦ unit_past k image (omega (arith, torn.size, whole)) ∙ sym (unit_past k (last start log) (omega (arith, length-last start log fits, whole)))
  ];
}

-- the log's writes fit

pub all_fit_push : (size : ℕ) (log log' : List Event) (event : Event) → IsWholeLog size log → log' ≡ log ++ event ∷ [] → IsWholeEvent size event → IsWholeLog size log'
all_fit_push size log log' event fits is whole = subst (λ l. IsWholeLog size l) (sym is) (λ place e there. elim (slice_get-push_cases log event e place there) [
  | inl old ↦ fits place e old
  | inr new ↦ subst (λ x. IsWholeEvent size x) new.1 whole
])

pub all_fit_take : (size n : ℕ) (log : List Event) → IsWholeLog size log → IsWholeLog size (take n log)
all_fit_take size n log fits place event there = fits place event (slice_get-take n log place event there)
