-- One page more leaves a slot.
use Rattle.std.proofs.Common.{◌≡◌, ◌≢◌, ◌⊎◌, inl, inr, ℕ, ◌+◌, ◌<◌, ◌≤◌, ◌^◌, Bool, true, false, cond, List, [], ◌∷◌, ◌++◌, Contains, Option, Some, None, option_to_list, refl, sym, ap, subst, ◌∙◌, arith}
use Rattle.std.specs.Prelude.{slice_get}
use Rattle.std.specs.Int.{w32, from_le_bytes}
use Rattle.std.specs.List.{Any}
use Rattle.std.specs.FinMap as finite
use Rattle.std.proofs.lemmas.Bool.{cases_lt}
use Rattle.std.proofs.lemmas.List.{length-append, get_or_append_left}
use Rattle.std.proofs.lemmas.List.Quantifiers.{Any-push}
use Rattle.std.proofs.lemmas.Option.{same_Some}
use Rattle.byte_maps.proofs.Prelude.{after_remove, insert-remove}
use Rattle.unit_fields.specs.declared.width.Width.{Width}
use Rattle.meta_rows.specs.Prelude.{Rows}
use Rattle.row_format.specs.Prelude.{Slot, slots_read, shared_key, thing_of}
use Rattle.row_format.specs.Things.{Thing, a_shared_blob}
use Rattle.row_format.proofs.Prelude.{shared_again}
use Rattle.row_facts.proofs.Maps.{get_same, get_other}
use Rattle.store_image.specs.Prelude.{HasSlot}
use Rattle.store_image.proofs.Prelude.{equal_or_not, number_cases}
use Rattle.unit_allocator.proofs.Lists.{Contains-head, Contains-tail, Contains-cases}
use Rattle.plan_rows.specs.Stores.{AreRowsOfWidth}
use Rattle.plan_rows.specs.declared.plan.SlotNo.{SlotNo}
use Rattle.plan_rows.specs.Prelude.{indexes_of, times_in, with_one_less, with_less, IsKeyOfSlot, IsFreed}
use Rattle.shared_blobs.specs.Blob.{Blob, blob_now, freed_by}
use Rattle.shared_blobs.specs.Lowering.{blob_left, HaveUnits, AreLowered}
use Rattle.shared_blobs.specs.declared.lowering.Lowered.{Lowered}
use Rattle.shared_blobs.proofs.BlobRows.{read_back, is_row, units_of}
use Rattle.shared_blobs.proofs.Slots.{freed_some, some_freed}
use Rattle.shared_blobs.proofs.Times.{less_all, more_before, less-append, times-append, times_same, times_other, indexes_more, indexes_other}

-- ---- keys

sbid_of : Option Thing → ℕ
sbid_of (Some (a_shared_blob sbid)) = sbid
sbid_of thing = 0

same_blob : (a b : ℕ) → a < 2 ^ 64 → b < 2 ^ 64 → shared_key a ≡ shared_key b → a ≡ b
same_blob a b p q e = let t : Some (a_shared_blob a) ≡ Some (a_shared_blob b) = sym (shared_again a p) ∙ ap thing_of e ∙ shared_again b q in cc

-- ---- lists

abbrev IsOf : ℕ → SlotNo → Type 0
IsOf sbid s = s.sbid ≡ sbid

still_any : (sbid : ℕ) (left : List SlotNo) (s : SlotNo) → Any (IsOf sbid) left → Any (IsOf sbid) (left ++ s ∷ [])
still_any sbid left s any =
    (any.0, any.1, omega (arith, any.2, length-append left (s ∷ [])), get_or_append_left left (s ∷ []) any.1 any.0 any.2 ∙ any.3, any.4)

either_list : (xs ys : List ℕ) (v : ℕ) → Contains (xs ++ ys) v → Contains xs v ⊎ Contains ys v
either_list [] ys v k = inr k
either_list (x ∷ xs) ys v k = elim (Contains-cases x v (xs ++ ys) k) [
  | inl e ↦ inl (subst (Contains (x ∷ xs)) e (Contains-head x xs))
  | inr later ↦ elim (either_list xs ys v later) [ inl a ↦ inl (Contains-tail x v xs a) | inr b ↦ inr b ]
]

in_left : (xs ys : List ℕ) (v : ℕ) → Contains xs v → Contains (xs ++ ys) v
in_left [] ys v k = absurd (omega (arith, k.1))
in_left (x ∷ xs) ys v k = elim (Contains-cases x v xs k) [
  | inl e ↦ subst (Contains (x ∷ (xs ++ ys))) e (Contains-head x (xs ++ ys))
  | inr later ↦ Contains-tail x v (xs ++ ys) (in_left xs ys v later)
]

in_right : (xs ys : List ℕ) (v : ℕ) → Contains ys v → Contains (xs ++ ys) v
in_right [] ys v k = k
in_right (x ∷ xs) ys v k = Contains-tail x v (xs ++ ys) (in_right xs ys v k)

-- ---- blobs

pub left_now : (w : Width) (value : Option (List ℕ)) (ks : List ℕ) (b : Blob) → blob_left w value ks ≡ Some b → blob_now w value ks ≡ Some b
left_now w value [] b is = absurd cc
left_now w value (k ∷ ks) b is = is

-- where no blob is there it is as its row has it
pub none_left : (w : Width) (value : Option (List ℕ)) (ks : List ℕ) → blob_left w value ks ≡ None → blob_now w value ks ≡ blob_now w value []
none_left w value [] none = refl
none_left w None (k ∷ ks) none = refl
none_left w (Some value) (k ∷ ks) none = absurd cc

some_left : (w : Width) (value : Option (List ℕ)) (ks : List ℕ) (k : ℕ) → blob_left w value (ks ++ k ∷ []) ≡ blob_now w value (ks ++ k ∷ [])
some_left w value [] k = refl
some_left w value (j ∷ ks) k = refl

-- the value of its row, and the blob by it
record IsNow (w : Width) (value : Option (List ℕ)) (ks : List ℕ) (b : Blob) : Type 0 where
  held : List ℕ
  stands : value ≡ Some held
  first : b.first ≡ from_le_bytes w32 held
  slots : b.slots ≡ with_less (slots_read w held) ks

now_by : (w : Width) (value : Option (List ℕ)) (ks : List ℕ) (b : Blob) → blob_now w value ks ≡ Some b → IsNow w value ks b
now_by w None ks b is = absurd cc
now_by w (Some held) ks b is =
    let same : record { first = from_le_bytes w32 held; slots = with_less (slots_read w held) ks } ≡ b = same_Some _ b is in
    record { held = held; stands = refl; first = sym (ap (λ (z : Blob). z.first) same); slots = sym (ap (λ (z : Blob). z.slots) same) }

now_more : (w : Width) (value : Option (List ℕ)) (ks : List ℕ) (k : ℕ) (b : Blob) → blob_now w value ks ≡ Some b
    → blob_now w value (ks ++ k ∷ []) ≡ Some (record b { slots = with_one_less b.slots k })
now_more w value ks k b is =
    let now = now_by w value ks b is in
    ap (λ v. blob_now w v (ks ++ k ∷ [])) now.stands
    ∙ (λ i. Some (record { first = sym now.first i; slots = (less-append (slots_read w now.held) ks k ∙ ap (λ xs. with_one_less xs k) (sym now.slots)) i }))

none_more : (w : Width) (value : Option (List ℕ)) (ks js : List ℕ) → blob_now w value ks ≡ None → (value ≡ None) × (blob_left w value js ≡ None)
none_more w None ks [] none = (refl, refl)
none_more w None ks (j ∷ js) none = (refl, refl)
none_more w (Some held) ks js none = absurd cc

-- ---- one page more

module _ (w : Width) (rows : Rows) (good : AreRowsOfWidth w rows) (s : SlotNo) (small : s.sbid < 2 ^ 64) (left : List SlotNo) where
  abbrev key : List ℕ
  key = shared_key s.sbid

  abbrev ks : List ℕ
  ks = indexes_of s.sbid left

  abbrev then : List SlotNo
  then = left ++ s ∷ []

  abbrev times : List SlotNo → ℕ → ℕ → ℕ
  times l sbid index = times_in (indexes_of sbid l) index

  -- the slot is left once more, and no other one
  times_more : times then s.sbid s.index ≡ times left s.sbid s.index + 1
  times_more = ap (λ l. times_in l s.index) (indexes_more s.sbid left s refl) ∙ times-append ks s.index s.index
      ∙ ap (λ n. times left s.sbid s.index + n) (times_same s.index)

  times_same_but : (sbid index : ℕ) → ((sbid ≡ s.sbid) × (index ≡ s.index)) ⊎ (times then sbid index ≡ times left sbid index)
  times_same_but sbid index = elim (number_cases s.sbid sbid) [
    | inr apart ↦ inr (ap (λ l. times_in l index) (indexes_other sbid left s apart))
    | inl e ↦ elim (number_cases s.index index) [
      | inl same ↦ inl (sym e, sym same)
      | inr other ↦ inr (ap (λ l. times_in l index) (indexes_more sbid left s e) ∙ times-append (indexes_of sbid left) s.index index
          ∙ omega (arith, times_other s.index index other))
    ]
  ]

  no_fewer : (sbid index : ℕ) → times left sbid index ≤ times then sbid index
  no_fewer sbid index = elim (times_same_but sbid index) [
    | inl at ↦
        let was : times left sbid index ≡ times left s.sbid s.index = (λ i. times left (at.0 i) (at.1 i)) in
        let is : times then sbid index ≡ times then s.sbid s.index = (λ i. times then (at.0 i) (at.1 i)) in
        omega (arith, times_more, was, is)
    | inr same ↦ omega (arith, same)
  ]

  still_key : (q : List ℕ) → IsKeyOfSlot left q → IsKeyOfSlot then q
  still_key q is = record { sbid = is.sbid; small = is.small; among = still_any is.sbid left s is.among; is = is.is }

  still_freed : (u : ℕ) → IsFreed w rows left u → IsFreed w rows then u
  still_freed u f = record {
    sbid = f.sbid;
    index = f.index;
    is = f.is;
    has_slot = f.has_slot;
    counted = f.counted;
    all_leave = omega (arith, f.all_leave, no_fewer f.sbid f.index);
  }

  module _ (b : Blob) (now : blob_now w (finite.get rows key) ks ≡ Some b) where
    abbrev it : IsNow w (finite.get rows key) ks b
    it = now_by w (finite.get rows key) ks b now

    -- what the slot is in the row
    row_slot : (u : ℕ) (x : Slot) → HasSlot w rows s.sbid s.index u x
        → (slice_get (slots_read w it.held) s.index ≡ Some x) × (u ≡ b.first + s.index)
    row_slot u x has =
        let value = same_Some it.held _ (sym it.stands ∙ has.has_blob.stands) in
        let fits = has.has_blob.fits in
        let said = read_back w it.held (record { first = has.first; slots = has.slots })
        (record { fits = record { number = omega arith; unit = fits.unit; some = fits.some; few = fits.few; fit = fits.fit }; is = value }) in (
          ap (λ (z : Blob). slice_get z.slots s.index) said ∙ has.there,
          omega (arith, has.at_is, it.first, ap (λ (z : Blob). z.first) said),
        )

    -- the last page left it
    freed_here : (u : ℕ) (x : Slot) → HasSlot w rows s.sbid s.index u x → x.count ≡ times left s.sbid s.index + 1
        → Contains (option_to_list (freed_by b s.index)) u
    freed_here u x has count =
        let at = row_slot u x has in
        let less = less_all (slots_read w it.held) ks s.index x at.0 in
        let there : slice_get b.slots s.index ≡ Some less.0 = ap (λ xs. slice_get xs s.index) it.slots ∙ less.1 in
        subst (λ o. Contains (option_to_list o) u) (ap Some at.1 ∙ freed_some b s.index less.0 there (omega (arith, less.2, count)))
        (Contains-head u [])

    here_freed : (u : ℕ) → Contains (option_to_list (freed_by b s.index)) u → IsFreed w rows then u
    here_freed u k =
        let f = some_freed b s.index u k in
        let was = more_before (slots_read w it.held) ks s.index f.0 (ap (λ xs. slice_get xs s.index) (sym it.slots) ∙ f.1) in
        record {
          sbid = s.sbid;
          index = s.index;
          is = was.0;
          has_slot = record {
            first = from_le_bytes w32 it.held;
            slots = slots_read w it.held;
            has_blob = is_row w rows good s.sbid small it.held it.stands;
            there = was.1;
            at_is = omega (arith, f.3, it.first);
          };
          counted = omega (arith, was.2, f.2);
          all_leave = omega (arith, was.2, f.2, times_more);
        }

    freed_then : (u : ℕ) → IsFreed w rows then u → IsFreed w rows left u ⊎ Contains (option_to_list (freed_by b s.index)) u
    freed_then u f = elim (cases_lt (times left f.sbid f.index) f.is.count) [
      | inr all ↦ inl (record { sbid = f.sbid; index = f.index; is = f.is; has_slot = f.has_slot; counted = f.counted; all_leave = omega (arith, all) })
      | inl more ↦ elim (times_same_but f.sbid f.index) [
        | inr same ↦ absurd (omega (arith, same, more, f.all_leave))
        | inl at ↦
            let was : times left f.sbid f.index ≡ times left s.sbid s.index = (λ i. times left (at.0 i) (at.1 i)) in
            let is : times then f.sbid f.index ≡ times then s.sbid s.index = (λ i. times then (at.0 i) (at.1 i)) in
            inr (freed_here u f.is (subst (λ n. HasSlot w rows n s.index u f.is) at.0 (subst (λ n. HasSlot w rows f.sbid n u f.is) at.1 f.has_slot))
            (omega (arith, more, f.all_leave, times_more, was, is)))
      ]
    ]

    pub left_one : (old new : Lowered) → AreLowered w rows left old
        → new.blobs ≡ finite.insert (finite.remove old.blobs key) key (record b { slots = with_one_less b.slots s.index })
        → new.freed.items ≡ old.freed.items ++ option_to_list (freed_by b s.index) → AreLowered w rows then new
    left_one old new before blobs freed = record {
      of_slots = λ q x is. elim (equal_or_not q key) [
        | inl e ↦ record { sbid = s.sbid; small = small; among = Any-push (IsOf s.sbid) left s refl; is = e }
        | inr apart ↦ still_key q (before.of_slots q x (sym (other q apart) ∙ is))
      ];
      blobs = λ n lt. elim (number_cases n s.sbid) [
        | inl e ↦ subst (λ m. finite.get new.blobs (shared_key m) ≡ blob_left w (finite.get rows (shared_key m)) (indexes_of m then)) (sym e) own
        | inr apart ↦ other (shared_key n) (λ e. apart (same_blob n s.sbid lt small e)) ∙ before.blobs n lt
            ∙ ap (blob_left w (finite.get rows (shared_key n))) (sym (indexes_other n left s (λ e. apart (sym e))))
      ];
      freed = λ u. (
        λ k. elim (either_list old.freed.items (option_to_list (freed_by b s.index)) u (subst (λ l. Contains l u) freed k)) [
          | inl was ↦ still_freed u ((before.freed u).0 was)
          | inr it ↦ here_freed u it
        ],
        λ f. subst (λ l. Contains l u) (sym freed) (elim (freed_then u f) [
          | inl was ↦ in_left old.freed.items (option_to_list (freed_by b s.index)) u ((before.freed u).1 was)
          | inr it ↦ in_right old.freed.items (option_to_list (freed_by b s.index)) u it
        ]),
      );
    }
      where
        whole : new.blobs ≡ finite.insert old.blobs key (record b { slots = with_one_less b.slots s.index })
        whole = blobs ∙ insert-remove old.blobs key (record b { slots = with_one_less b.slots s.index })

        other : (q : List ℕ) → q ≢ key → finite.get new.blobs q ≡ finite.get old.blobs q
        other q apart = ap (λ m. finite.get m q) whole ∙ get_other old.blobs key (record b { slots = with_one_less b.slots s.index }) q apart

        own : finite.get new.blobs key ≡ blob_left w (finite.get rows key) (indexes_of s.sbid then)
        own = ap (λ m. finite.get m key) whole ∙ get_same old.blobs key (record b { slots = with_one_less b.slots s.index })
            ∙ sym (ap (blob_left w (finite.get rows key)) (indexes_more s.sbid left s refl) ∙ some_left w (finite.get rows key) ks s.index
            ∙ now_more w (finite.get rows key) ks s.index b now)

  -- a slot of a blob that has no row
  pub left_none : (old new : Lowered) → AreLowered w rows left old → blob_now w (finite.get rows key) ks ≡ None
      → new.blobs ≡ finite.remove old.blobs key → new.freed.items ≡ old.freed.items → AreLowered w rows then new
  left_none old new before none blobs freed = record {
    of_slots = λ q x is. still_key q (before.of_slots q x (sym (same q) ∙ is));
    blobs = λ n lt. same (shared_key n) ∙ before.blobs n lt ∙ elim (number_cases n s.sbid) [
      | inr apart ↦ ap (blob_left w (finite.get rows (shared_key n))) (sym (indexes_other n left s (λ e. apart (sym e))))
      | inl e ↦ subst (λ m. blob_left w (finite.get rows (shared_key m)) (indexes_of m left) ≡ blob_left w (finite.get rows (shared_key m)) (indexes_of m then))
          (sym e) ((none_more w (finite.get rows key) ks ks none).1 ∙ sym (none_more w (finite.get rows key) ks (indexes_of s.sbid then) none).1)
    ];
    freed = λ u. (
      λ k. still_freed u ((before.freed u).0 (subst (λ l. Contains l u) freed k)),
      λ f. subst (λ l. Contains l u) (sym freed) ((before.freed u).1 (freed_before u f)),
    );
  }
    where
      no_row : finite.get rows key ≡ None
      no_row = (none_more w (finite.get rows key) ks ks none).0

      not_there : finite.get old.blobs key ≡ None
      not_there = before.blobs s.sbid small ∙ (none_more w (finite.get rows key) ks ks none).1

      no_blob : Blob
      no_blob = record { first = 0; slots = [] }

      same : (q : List ℕ) → finite.get new.blobs q ≡ finite.get old.blobs q
      same q = ap (λ m. finite.get m q) blobs ∙ elim (equal_or_not q key) [
        | inl e ↦ ap (finite.get (finite.remove old.blobs key)) e ∙ after_remove old.blobs key key ∙ gone (finite.get old.blobs key) not_there _
            ∙ ap (finite.get old.blobs) (sym e)
        | inr apart ↦ sym (get_other (finite.remove old.blobs key) key no_blob q apart) ∙ ap (λ m. finite.get m q) (insert-remove old.blobs key no_blob)
            ∙ get_other old.blobs key no_blob q apart
      ]
        where
          gone : (z : Option Blob) → z ≡ None → (t : Bool) → cond t None z ≡ z
          gone z e true = sym e
          gone z e false = refl

      freed_before : (u : ℕ) → IsFreed w rows then u → IsFreed w rows left u
      freed_before u f = elim (times_same_but f.sbid f.index) [
        | inr same ↦ record { sbid = f.sbid; index = f.index; is = f.is; has_slot = f.has_slot; counted = f.counted; all_leave = omega (arith, same, f.all_leave) }
        | inl at ↦ absurd (let t = sym f.has_slot.has_blob.stands ∙ ap (λ n. finite.get rows (shared_key n)) at.0 ∙ no_row in cc)
      ]

-- ---- all of them

pub none_lowered : (w : Width) (rows : Rows) (l : Lowered) → l.blobs ≡ finite.empty → l.freed.items ≡ [] → AreLowered w rows [] l
none_lowered w rows l blobs freed = record {
  of_slots = λ q b is. absurd (let t = sym is ∙ ap (λ m. finite.get m q) blobs ∙ finite.get-empty _ q in cc);
  blobs = λ n lt. ap (λ m. finite.get m (shared_key n)) blobs ∙ finite.get-empty _ (shared_key n);
  freed = λ u. (
    λ k. absurd (let c : Contains [] u = subst (λ l. Contains l u) freed k in omega (arith, c.1)),
    λ f. absurd (omega (arith, f.counted, f.all_leave)),
  );
}

pub have_units : (w : Width) (rows : Rows) (good : AreRowsOfWidth w rows) (left : List SlotNo) (l : Lowered) → AreLowered w rows left l → HaveUnits l.blobs
have_units w rows good left l are key b is =
    let of = are.of_slots key b is in
    units_of w rows good of.sbid of.small (indexes_of of.sbid left) b (left_now w (finite.get rows (shared_key of.sbid)) (indexes_of of.sbid left) b
    (sym (are.blobs of.sbid of.small) ∙ ap (finite.get l.blobs) (sym of.is) ∙ is))

-- ---- as calls say it

module _ (w : Width) (rows : Rows) (good : AreRowsOfWidth w rows) (s : SlotNo) (small : s.sbid < 2 ^ 64) (old new : Lowered) (held : Option Blob)
    (is_held : (ks : List ℕ) → finite.get old.blobs (shared_key s.sbid) ≡ blob_left w (finite.get rows (shared_key s.sbid)) ks
    → held ≡ blob_now w (finite.get rows (shared_key s.sbid)) ks) where
  pub leaves_none : held ≡ None → new.blobs ≡ finite.remove old.blobs (shared_key s.sbid) → new.freed.items ≡ old.freed.items
      → (left : List SlotNo) → AreLowered w rows left old → AreLowered w rows (left ++ s ∷ []) new
  leaves_none none blobs freed left before =
      left_none w rows good s small left old new before (sym (is_held (indexes_of s.sbid left) (before.blobs s.sbid small)) ∙ none) blobs freed

  pub leaves_one : (b : Blob) → held ≡ Some b
      → new.blobs ≡ finite.insert (finite.remove old.blobs (shared_key s.sbid)) (shared_key s.sbid) (record b { slots = with_one_less b.slots s.index })
      → new.freed.items ≡ old.freed.items ++ option_to_list (freed_by b s.index)
      → (left : List SlotNo) → AreLowered w rows left old → AreLowered w rows (left ++ s ∷ []) new
  leaves_one b some blobs freed left before =
      left_one w rows good s small left b (sym (is_held (indexes_of s.sbid left) (before.blobs s.sbid small)) ∙ some) old new before blobs freed
