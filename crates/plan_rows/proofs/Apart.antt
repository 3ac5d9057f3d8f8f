-- Operations on rows of collections and of blobs at home there: what they leave alone, and that they change places with those on rows of others.
use Rattle.std.proofs.Common.{◌≡◌, ◌≢◌, ◌↔◌, ◌⊎◌, inl, inr, ℕ, suc, ◌<◌, ◌^◌, Bool, true, false, ◌||◌, List, [], ◌∷◌, ◌++◌, drop, Option, Some, Contains, refl, sym, ap, subst, ◌∙◌, arith}
use Rattle.std.specs.Prelude.{unwrap_or}
use Rattle.std.specs.List.{AllByRecursion}
use Rattle.std.specs.Int.{w32, to_be_bytes}
use Rattle.std.specs.FinMap as finite
use Rattle.byte_maps.proofs.Prelude.{same}
use Rattle.unit_fields.specs.Prelude.{IsCollName}
use Rattle.unit_fields.specs.declared.width.Width.{Width}
use Rattle.unit_fields.proofs.CollNames.{no_zero_in_coll}
use Rattle.meta_rows.specs.Prelude.{Rows, rows_after, key_of, LeaveAlone}
use Rattle.meta_rows.specs.declared.row_op.RowOp.{RowOp}
use Rattle.meta_rows.proofs.Folds.{rows_after-append}
use Rattle.meta_rows.proofs.RowLemmas.{get-rows_after_other}
use Rattle.object_model.specs.Prelude.{is_same, is_named}
use Rattle.object_model.proofs.Names.{same_name}
use Rattle.row_format.specs.Prelude.{shared_key, a_shared_blob, thing_of, bit_row, bit_in}
use Rattle.row_format.proofs.Prelude.{same_head, first_zero, shared_again}
use Rattle.store_image.specs.Prelude.{IsNamedBy, bit_of, IsMarked}
use Rattle.bitmap_freelist.specs.Bitmap.{Units, AreFlipsFrom, AreBitmapRows, Has, IsOtherKey, ExactlyOne}
use Rattle.bitmap_freelist.proofs.Turning.{leave_others, change_order, stay_in_table, turn_their_units}
use Rattle.plan_rows.specs.Prelude.{IsObjectKind, IsKeyIn, IsKeyOfSome, AreAtHome, IsKeyOfBlob, ChangesBlob, AgreeOn, AgreeOnBlobs, AreOf, HaveNoneInCommon}
use Rattle.plan_rows.specs.Layouts.{TurnsBits}
use Rattle.plan_rows.proofs.Alike.{after_alike, alone_or}
use Rattle.plan_rows.proofs.Homes.{both_hold, named_low}
use Rattle.plan_rows.proofs.Agreeing.{named_too}

-- ---- keys

kind_not : (kind n : ℕ) → IsObjectKind kind → n ≢ 0x4f → n ≢ 0x41 → n ≢ 0x4d → kind ≢ n
kind_not kind n is a b c e = elim is [
  | inl k ↦ a (sym e ∙ k)
  | inr (inl k) ↦ b (sym e ∙ k)
  | inr (inr k) ↦ c (sym e ∙ k)
]

not_coll : (kind : ℕ) → IsObjectKind kind → kind ≢ 0x43
not_coll kind is = kind_not kind 0x43 is (λ e. absurd (omega (arith, e))) (λ e. absurd (omega (arith, e))) (λ e. absurd (omega (arith, e)))

not_bit : (kind : ℕ) → IsObjectKind kind → kind ≢ 0x62
not_bit kind is = kind_not kind 0x62 is (λ e. absurd (omega (arith, e))) (λ e. absurd (omega (arith, e))) (λ e. absurd (omega (arith, e)))

-- a key is of rows of one collection
coll_of : (c d key : List ℕ) → IsCollName c → IsCollName d → IsKeyIn c key → IsKeyIn d key → c ≡ d
coll_of c d key cn dn (inl a) (inl b) = ap (drop 1) (sym a ∙ b)
coll_of c d key cn dn (inl a) (inr b) = absurd (not_coll b.0 b.3 (sym (same_head 0x43 b.0 c _ (sym a ∙ b.4))))
coll_of c d key cn dn (inr a) (inl b) = absurd (not_coll a.0 a.3 (same_head a.0 0x43 _ d (sym a.4 ∙ b)))
coll_of c d key cn dn (inr a) (inr b) =
    (first_zero c d (a.1 ++ 0 ∷ a.2) (b.1 ++ 0 ∷ b.2) (no_zero_in_coll c cn) (no_zero_in_coll d dn)
    (ap (drop 1) (sym a.4 ∙ b.4))).0

no_bitmap_key : (c rest : List ℕ) → IsKeyIn c (0x62 ∷ rest) → ⊥
no_bitmap_key c rest (inl a) = omega (arith, same_head 0x62 0x43 rest c a)
no_bitmap_key c rest (inr a) = not_bit a.0 a.3 (sym (same_head 0x62 a.0 rest _ a.4))

not_blob : (kind : ℕ) → IsObjectKind kind → kind ≢ 0x58
not_blob kind is = kind_not kind 0x58 is (λ e. absurd (omega (arith, e))) (λ e. absurd (omega (arith, e))) (λ e. absurd (omega (arith, e)))

pub no_blob_key : (c rest : List ℕ) → IsKeyIn c (0x58 ∷ rest) → ⊥
no_blob_key c rest (inl a) = omega (arith, same_head 0x58 0x43 rest c a)
no_blob_key c rest (inr a) = not_blob a.0 a.3 (sym (same_head 0x58 a.0 rest _ a.4))

-- a key is of one blob
same_blob : (m n : ℕ) → m < 2 ^ 64 → n < 2 ^ 64 → shared_key m ≡ shared_key n → m ≡ n
same_blob m n low also e =
    let things : Some (a_shared_blob m) ≡ Some (a_shared_blob n) = sym (shared_again m low) ∙ ap thing_of e ∙ shared_again n also in
    cc

pub named_coll : (names : List (List ℕ)) (c : List ℕ) → AllByRecursion IsCollName names → is_named c names ≡ true → IsCollName c
named_coll [] c all is = absurd cc
named_coll (name ∷ names) c all is = by (λ e. named_coll names c all.1 e) (is_named c names) refl (is_same c name) refl is
  where
    by : (is_named c names ≡ true → IsCollName c) → (among : Bool) → is_named c names ≡ among → (first : Bool) → is_same c name ≡ first
        → (among || first) ≡ true → IsCollName c
    by rest true i first s e = rest i
    by rest false i true s e = subst IsCollName (sym (same_name c name s)) all.0
    by rest false i false s e = absurd cc

-- ---- the keys of an operation's own rows

-- the key is of a row of the collections, or of a blob at home in one
abbrev pub IsOwn : (ℕ → List ℕ) → List (List ℕ) → List ℕ → Type 0
IsOwn home names key = IsKeyOfSome names key ⊎ IsKeyOfBlob home names key

not_of_bitmap : (home : ℕ → List ℕ) (names : List (List ℕ)) (rest : List ℕ) → IsOwn home names (0x62 ∷ rest) → ⊥
not_of_bitmap home names rest (inl is) = no_bitmap_key is.coll rest is.of
not_of_bitmap home names rest (inr is) = omega (arith, same_head 0x62 0x58 rest _ is.is)

no_bit : (home : ℕ → List ℕ) (names : List (List ℕ)) (key : List ℕ) → IsOwn home names key → IsOtherKey key
no_bit home names key is r below e = not_of_bitmap home names _ (subst (IsOwn home names) e is)

-- so is that of a blob which shards of the collections name
pub blob_own : (w : Width) (home : ℕ → List ℕ) (names : List (List ℕ)) (rows : Rows) → AreAtHome w home rows → (c : List ℕ) (sbid : ℕ)
    → is_named c names ≡ true → IsNamedBy w rows c sbid → IsOwn home names (shared_key sbid)
blob_own w home names rows at_home c sbid among named = inr (record {
  sbid = sbid;
  small = named_low w rows c sbid named;
  among = ap (λ d. is_named d names) (at_home c sbid named) ∙ among;
  is = refl;
})

-- ---- two lists of collections without a common one

module _ (home : ℕ → List ℕ) (names others : List (List ℕ)) (others_named : AllByRecursion IsCollName others) (apart : HaveNoneInCommon names others) where
  key_apart : (key : List ℕ) → AllByRecursion IsCollName names → IsOwn home names key → IsOwn home others key → ⊥
  key_apart key named (inl a) (inl b) =
      let same_coll : a.coll ≡ b.coll =
      coll_of a.coll b.coll key (named_coll names a.coll named a.among) (named_coll others b.coll others_named b.among) a.of b.of in
      apart b.coll (subst (λ c. is_named c names ≡ true) same_coll a.among) b.among
  key_apart key named (inl a) (inr b) = no_blob_key a.coll _ (subst (IsKeyIn a.coll) b.is a.of)
  key_apart key named (inr a) (inl b) = no_blob_key b.coll _ (subst (IsKeyIn b.coll) a.is b.of)
  key_apart key named (inr a) (inr b) =
      let same : a.sbid ≡ b.sbid = same_blob a.sbid b.sbid a.small b.small (sym a.is ∙ b.is) in
      apart (home b.sbid) (subst (λ n. is_named (home n) names ≡ true) same a.among) b.among

  -- operations on rows of the ones leave those of the others
  pub leaves : (taken released : List ℕ) (rows : Rows) (ops : List RowOp) (key : List ℕ) → AreOf home names taken released ops
      → IsOwn home others key → finite.get (rows_after rows ops) key ≡ finite.get rows key
  leaves taken released rows ops key of is = elim (alone_or (IsOwn home names) of.own key of.keys) [
    | inl alone ↦ ap (λ l. finite.get (rows_after rows l) key) of.is ∙ ap (λ r. finite.get r key) (rows_after-append rows of.own of.flips)
        ∙ leave_others (rows_after rows of.own) of.turns.units of.flips of.turns.are_flips key (no_bit home others key is)
        ∙ get-rows_after_other rows of.own key alone
    | inr mine ↦ absurd (key_apart key of.named mine is)
  ]

pub kept_apart : (w : Width) (home : ℕ → List ℕ) (names others : List (List ℕ)) (taken released : List ℕ) (rows : Rows) (ops : List RowOp)
    → AreAtHome w home rows → AreOf home names taken released ops → AllByRecursion IsCollName others → HaveNoneInCommon names others
    → AgreeOn w others (rows_after rows ops) rows
kept_apart w home names others taken released rows ops at_home of named apart = record {
  own = own;
  blobs = λ c sbid among by. left (shared_key sbid)
      (blob_own w home others rows at_home c sbid among
      (named_too w others rows (rows_after rows ops) (λ key is. sym (own key is)) c sbid among by));
}
  where
    left : (key : List ℕ) → IsOwn home others key → finite.get (rows_after rows ops) key ≡ finite.get rows key
    left key is = leaves home names others named apart taken released rows ops key of is

    own : (key : List ℕ) → IsKeyOfSome others key → finite.get (rows_after rows ops) key ≡ finite.get rows key
    own key is = left key (inl is)

-- ---- the rows of blobs

-- operations that turn bits are on no row of another key
flips_alone : (units : Units) (from : ℕ) (flips : List RowOp) (key : List ℕ) → AreFlipsFrom units from flips → IsOtherKey key → LeaveAlone flips key
flips_alone units from [] key are other = tt
flips_alone units from (op ∷ flips) key are other =
    (λ e. other are.0 are.1.below (sym e ∙ ap key_of are.1.is), flips_alone units (suc are.0) flips key are.2 other)

both_alone : (ops more : List RowOp) (key : List ℕ) → LeaveAlone ops key → LeaveAlone more key → LeaveAlone (ops ++ more) key
both_alone [] more key alone also = also
both_alone (op ∷ ops) more key alone also = (alone.0, both_alone ops more key alone.1 also)

no_bit_of : (sbid : ℕ) → IsOtherKey (shared_key sbid)
no_bit_of sbid r below e = omega (arith, same_head 0x58 0x62 _ _ e)

-- a blob whose row operations change is that of a key of theirs, since those that turn bits are on none
pub changed_among : (P : List ℕ → Type 0) (taken released : List ℕ) (ops own flips : List RowOp) → ops ≡ own ++ flips
    → AllByRecursion (λ op. P (key_of op)) own → TurnsBits taken released flips → (sbid : ℕ) → ChangesBlob ops sbid → P (shared_key sbid)
changed_among P taken released ops own flips is keys turns sbid changes = elim (alone_or P own (shared_key sbid) keys) [
  | inr p ↦ p
  | inl alone ↦
      let also : LeaveAlone flips (shared_key sbid) = flips_alone turns.units 0 flips (shared_key sbid) turns.are_flips (no_bit_of sbid) in
      let all : LeaveAlone ops (shared_key sbid) =
      subst (λ l. LeaveAlone l (shared_key sbid)) (sym is) (both_alone own flips (shared_key sbid) alone also) in
      let both = both_hold (λ op. key_of op ≢ shared_key sbid) (λ op. key_of op ≡ shared_key sbid) ops all changes.1 in
      absurd (both.1 both.2)
]

-- a blob whose row operations on rows of collections change is at home in one of these
pub changed_own : (home : ℕ → List ℕ) (names : List (List ℕ)) (taken released : List ℕ) (ops : List RowOp) → AreOf home names taken released ops
    → (sbid : ℕ) → ChangesBlob ops sbid → IsOwn home names (shared_key sbid)
changed_own home names taken released ops of =
    changed_among (IsOwn home names) taken released ops of.own of.flips of.is of.keys of.turns

pub changed_at_home : (home : ℕ → List ℕ) (names : List (List ℕ)) (taken released : List ℕ) (ops : List RowOp) → AreOf home names taken released ops
    → (sbid : ℕ) → ChangesBlob ops sbid → is_named (home sbid) names ≡ true
changed_at_home home names taken released ops of sbid changes = elim (changed_own home names taken released ops of sbid changes) [
  | inl mine ↦ absurd (no_blob_key mine.coll _ mine.of)
  | inr mine ↦ subst (λ n. is_named (home n) names ≡ true) (sym (same_blob sbid mine.sbid changes.0 mine.small mine.is)) mine.among
]

-- and one that operations on rows of other collections change is left alone
pub blobs_apart : (home : ℕ → List ℕ) (names others : List (List ℕ)) (taken released other_taken other_released : List ℕ) (rows : Rows)
    (ops more : List RowOp) → AreOf home names taken released ops → AreOf home others other_taken other_released more → HaveNoneInCommon names others
    → AgreeOnBlobs more (rows_after rows ops) rows
blobs_apart home names others taken released other_taken other_released rows ops more mine theirs apart sbid changes =
    leaves home names others theirs.named apart taken released rows ops (shared_key sbid) mine
    (changed_own home others other_taken other_released more theirs sbid changes)

-- ---- the order

-- where the own rows are left alone only the bits are turned
bits_only : (home : ℕ → List ℕ) (names : List (List ℕ)) (taken released key : List ℕ) (rows : Rows) (ops : List RowOp)
    (of : AreOf home names taken released ops) → LeaveAlone of.own key
    → finite.get (rows_after rows ops) key ≡ finite.get (rows_after rows of.flips) key
bits_only home names taken released key rows ops of alone =
    ap (λ l. finite.get (rows_after rows l) key) of.is ∙ ap (λ r. finite.get r key) (rows_after-append rows of.own of.flips)
    ∙ after_alike of.flips (rows_after rows of.own) rows key (get-rows_after_other rows of.own key alone)

module _ (home : ℕ → List ℕ) (names others : List (List ℕ)) (taken released other_taken other_released : List ℕ) (rows : Rows)
    (ops more : List RowOp) (mine : AreOf home names taken released ops) (theirs : AreOf home others other_taken other_released more)
    (apart : HaveNoneInCommon names others) (table : AreBitmapRows rows) where
  back : HaveNoneInCommon others names
  back c among others_among = apart c others_among among

  mine_left : (at : Rows) (key : List ℕ) → IsOwn home others key → finite.get (rows_after at ops) key ≡ finite.get at key
  mine_left at key is = leaves home names others theirs.named apart taken released at ops key mine is

  theirs_left : (at : Rows) (key : List ℕ) → IsOwn home names key → finite.get (rows_after at more) key ≡ finite.get at key
  theirs_left at key is = leaves home others names mine.named back other_taken other_released at more key theirs is

  at_key : (key : List ℕ) → finite.get (rows_after (rows_after rows ops) more) key ≡ finite.get (rows_after (rows_after rows more) ops) key
  at_key key = elim (alone_or (IsOwn home names) mine.own key mine.keys) [
    | inr own ↦ theirs_left (rows_after rows ops) key own ∙ after_alike ops rows (rows_after rows more) key (sym (theirs_left rows key own))
    | inl alone ↦ elim (alone_or (IsOwn home others) theirs.own key theirs.keys) [
      | inr own ↦ after_alike more (rows_after rows ops) rows key (mine_left rows key own) ∙ sym (mine_left (rows_after rows more) key own)
      | inl left ↦
          bits_only home others other_taken other_released key (rows_after rows ops) more theirs left
          ∙ after_alike theirs.flips (rows_after rows ops) (rows_after rows mine.flips) key (bits_only home names taken released key rows ops mine alone)
          ∙ ap (λ r. finite.get r key)
          (change_order rows mine.turns.units theirs.turns.units mine.flips theirs.flips table mine.turns.are_flips theirs.turns.are_flips)
          ∙ sym (after_alike mine.flips (rows_after rows more) (rows_after rows theirs.flips) key
          (bits_only home others other_taken other_released key rows more theirs left))
          ∙ sym (bits_only home names taken released key (rows_after rows more) ops mine alone)
    ]
  ]

  -- the two lists change places
  pub change_places : rows_after (rows_after rows ops) more ≡ rows_after (rows_after rows more) ops
  change_places = same _ _ at_key

-- ---- the bitmap

module _ (home : ℕ → List ℕ) (names : List (List ℕ)) (taken released : List ℕ) (rows : Rows) (ops : List RowOp)
    (of : AreOf home names taken released ops) where
  own_then_flips : rows_after rows ops ≡ rows_after (rows_after rows of.own) of.flips
  own_then_flips = ap (rows_after rows) of.is ∙ rows_after-append rows of.own of.flips

  -- its rows are left alone by the first ones
  bitmap_left : (rest : List ℕ) → finite.get (rows_after rows of.own) (0x62 ∷ rest) ≡ finite.get rows (0x62 ∷ rest)
  bitmap_left rest = elim (alone_or (IsOwn home names) of.own (0x62 ∷ rest) of.keys) [
    | inl alone ↦ get-rows_after_other rows of.own (0x62 ∷ rest) alone
    | inr mine ↦ absurd (not_of_bitmap home names rest mine)
  ]

  -- they stay rows of the table
  pub table_kept : AreBitmapRows rows → AreBitmapRows (rows_after rows ops)
  table_kept table =
      subst AreBitmapRows (sym own_then_flips)
      (stay_in_table (rows_after rows of.own) of.turns.units of.flips of.turns.are_flips
      (λ rest value is. table rest value (sym (bitmap_left rest) ∙ is)))

  exactly_like : {A B C D : Type 0} → (A ↔ C) → (B ↔ D) → ExactlyOne A B ↔ ExactlyOne C D
  exactly_like ac bd = (
    λ is. elim is [ inl h ↦ inl (ac.0 h.0, λ d. h.1 (bd.1 d)) | inr h ↦ inr (λ c. h.0 (ac.1 c), bd.0 h.1) ],
    λ is. elim is [ inl h ↦ inl (ac.1 h.0, λ b. h.1 (bd.0 b)) | inr h ↦ inr (λ a. h.0 (ac.0 a), bd.1 h.1) ],
  )

  -- exactly the bits of the units that are taken and of those that are released are turned
  pub bits_turned : (unit : ℕ) → unit < 2 ^ 32
      → IsMarked (rows_after rows ops) unit ↔ ExactlyOne (IsMarked rows unit) (Contains taken unit ⊎ Contains released unit)
  bits_turned unit small =
      let bit : bit_of (rows_after rows of.own) unit ≡ bit_of rows unit =
      ap (λ (o : Option (List ℕ)). bit_in (unwrap_or o []) unit) (bitmap_left (to_be_bytes w32 (bit_row unit))) in
      let whole : bit_of (rows_after rows ops) unit ≡ bit_of (rows_after (rows_after rows of.own) of.flips) unit =
      ap (λ r. bit_of r unit) own_then_flips in
      let turn : IsMarked (rows_after (rows_after rows of.own) of.flips) unit ↔ ExactlyOne (IsMarked (rows_after rows of.own) unit)
      (Has of.turns.units unit) = turn_their_units (rows_after rows of.own) of.turns.units of.flips of.turns.are_flips unit small in
      let same_facts : ExactlyOne (IsMarked (rows_after rows of.own) unit) (Has of.turns.units unit) ↔ ExactlyOne (IsMarked rows unit)
      (Contains taken unit ⊎ Contains released unit) = exactly_like (λ m. sym bit ∙ m, λ m. bit ∙ m) (of.turns.are_units unit) in
      (λ m. same_facts.0 (turn.0 (sym whole ∙ m)), λ e. whole ∙ turn.1 (same_facts.1 e))
