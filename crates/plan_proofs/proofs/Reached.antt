-- What operations on a collection lead to: what holds of its draft after each of them.
use Rattle.std.proofs.Common.{◌≡◌, ◌≢◌, ◌⊎◌, inl, inr, ℕ, ◌+◌, ◌<◌, ◌≤◌, true, false, List, [], ◌∷◌, length, Contains, Option, Some, None, is_some, refl, sym, ap, subst, ◌∙◌, arith}
use Rattle.std.specs.Option.{option_map, option_map_or}
use Rattle.std.specs.FinMap as finite
use Rattle.std.specs.FinMap.Entries.{where_key}
use Rattle.std.specs.List.{flat_map}
use Rattle.std.specs.Ordering.{nat_cmp}
use Rattle.std.proofs.lemmas.Bool.Decides.{nat_tests}
use Rattle.std.proofs.lemmas.List.Elements.{Contains-append_cases}
use Rattle.object_model.specs.declared.op.Op.{Op}
use Rattle.object_model.specs.declared.op.Op.TheVariants.{MkColl, RmColl, Touch, Write, Zero, Truncate, Remove, SetAttr, RmAttr, RmAttrs, Clone, CloneRange, OmapSet, OmapRm, OmapRmRange, OmapClear, OmapHeader}
use Rattle.object_model.specs.Prelude.{Object, object_limit}
use Rattle.unit_fields.specs.Prelude.{IsName}
use Rattle.row_format.specs.Prelude.{Place, slot}
use Rattle.row_format.specs.Prelude as format
use Rattle.store_image.specs.Prelude.{pages_of}
use Rattle.store_image.proofs.Prelude.{equal_or_not}
use Rattle.plan_rows.specs.declared.plan.SlotNo.{SlotNo}
use Rattle.plan_drafts.specs.declared.draft.Draft.{Draft}
use Rattle.plan_drafts.specs.Prelude.{Edit, edit_of, drafted, pages_taking, EndsBelow, bytes_after, IsInLimits, Layout, or_empty, ValueKey, IsValueKey, value_after, IsOnObject, object_of, is_beyond, or_new, edit_on, object_before, draft_after, CollDraft, with_op, with_ops, IsTakenOn, IsTaken, AreTaken, values_on, pages_left, slots_released, slots_on, is_touched}
use Rattle.page_edits.proofs.Entries.{entry_found, where_are}
use Rattle.page_edits.proofs.Lists.{In, in_contains, contains_in}
use Rattle.plan_proofs.proofs.Effects.{bytes_of, bytes_on}
use Rattle.plan_proofs.proofs.Names.{at_here, at_other}
use Rattle.plan_proofs.proofs.ValuesWritten.{FitsValue, stood_or_written}

pub no_name : IsName [] → ⊥
no_name is = omega (arith, is.not_empty)

-- ---- kinds of operations

-- an operation is on an object, or on the collection
pub on_object_or : (op : Op) (d : CollDraft) → IsTaken d op → (IsOnObject op × IsTakenOn d op) ⊎ ((op ≡ MkColl) ⊎ (op ≡ RmColl))
on_object_or MkColl d taken = inr (inl refl)
on_object_or RmColl d taken = inr (inr refl)
on_object_or (Clone o to) d taken = absurd taken
on_object_or (CloneRange o to src len dst) d taken = absurd taken
on_object_or (Touch o) d taken = inl (tt, taken)
on_object_or (Write o off bytes) d taken = inl (tt, taken)
on_object_or (Zero o off len) d taken = inl (tt, taken)
on_object_or (Truncate o to) d taken = inl (tt, taken)
on_object_or (Remove o) d taken = inl (tt, taken)
on_object_or (SetAttr o name value) d taken = inl (tt, taken)
on_object_or (RmAttr o name) d taken = inl (tt, taken)
on_object_or (RmAttrs o) d taken = inl (tt, taken)
on_object_or (OmapSet o pairs) d taken = inl (tt, taken)
on_object_or (OmapRm o keys) d taken = inl (tt, taken)
on_object_or (OmapRmRange o first last) d taken = inl (tt, taken)
on_object_or (OmapClear o) d taken = inl (tt, taken)
on_object_or (OmapHeader o value) d taken = inl (tt, taken)

-- its numbers are within the limits
pub within : (op : Op) → is_beyond op ≡ false → IsInLimits op
within (Write o off bytes) is = grind (arith, nat_tests, is)
within (Zero o off len) is = grind (arith, nat_tests, is)
within (Truncate o to) is = grind (arith, nat_tests, is)
within op is = tt

-- an object is there where the draft has it, and as long
abbrev pub SameSize : Option Draft → Option Object → Type 0
SameSize x there = option_map (λ l. l.size) x ≡ option_map (λ b. length b.bytes) there

-- an operation takes the object away
pub record Goes (op : Op) (d : CollDraft) : Type 0 where
  pub edit : edit_on op (object_before op d) ≡ None
  pub made : draft_after op d ≡ None
  pub bytes : (there : Option Object) → SameSize (object_before op d) there → bytes_on op there ≡ None
  pub values : (k : ValueKey) (old : Option (List ℕ)) → value_after op k old ≡ None

-- or it leaves its bytes as they are, or it missing
pub record Keeps (op : Op) (d : CollDraft) : Type 0 where
  pub edit : edit_on op (object_before op d) ≡ None
  pub made : draft_after op d ≡ object_before op d
  pub bytes : (there : Option Object) → SameSize (object_before op d) there → bytes_on op there ≡ option_map (λ b. b.bytes) there

-- or it edits it
pub record Edits (op : Op) (d : CollDraft) : Type 0 where
  pub edit : edit_on op (object_before op d) ≡ Some (edit_of op (or_new (object_before op d)).size)
  pub made : draft_after op d ≡ Some (drafted (edit_of op (or_new (object_before op d)).size) d.taken (or_new (object_before op d)))
  pub bytes : (there : Option Object) → SameSize (object_before op d) there → bytes_on op there ≡ Some (bytes_after op (bytes_of there))

pub what_becomes : (op : Op) (d : CollDraft) → Goes op d ⊎ (Keeps op d ⊎ Edits op d)
what_becomes (Remove o) d = inl (record { edit = refl; made = refl; bytes = λ there sized. refl; values = λ k old. refl })
what_becomes (Touch o) d = inr (inr (record { edit = refl; made = refl; bytes = λ there sized. refl }))
what_becomes (Write o off piece) d = inr (inr (record { edit = refl; made = refl; bytes = λ there sized. refl }))
what_becomes (Zero o off len) d = inr (inr (record { edit = refl; made = refl; bytes = λ there sized. refl }))
what_becomes (Truncate o to) d = by (d.layout o) refl
  where
    missing : (there : Option Object) → SameSize None there → bytes_on (Truncate o to) there ≡ option_map (λ b. b.bytes) there
    missing None sized = refl
    missing (Some b) sized = absurd cc

    there_is : (l : Draft) (there : Option Object) → SameSize (Some l) there
        → bytes_on (Truncate o to) there ≡ Some (bytes_after (Truncate o to) (bytes_of there))
    there_is l None sized = absurd cc
    there_is l (Some b) sized = refl

    edit : Option Draft → Option Edit
    edit x = edit_on (Truncate o to) x

    made : Option Draft → Option Draft
    made x = option_map_or (λ e. Some (drafted e d.taken (or_new x))) (edit_on (Truncate o to) x) x

    by : (x : Option Draft) → d.layout o ≡ x → Goes (Truncate o to) d ⊎ (Keeps (Truncate o to) d ⊎ Edits (Truncate o to) d)
    by None none = inr (inl (record {
      edit = ap edit none;
      made = ap made none ∙ sym none;
      bytes = λ there sized. missing there (subst (λ x. SameSize x there) none sized);
    }))
    by (Some l) is = inr (inr (record {
      edit = ap edit is ∙ sym (ap (λ x. Some (edit_of (Truncate o to) (or_new x).size)) is);
      made = ap made is ∙ sym (ap (λ x. Some (drafted (edit_of (Truncate o to) (or_new x).size) d.taken (or_new x))) is);
      bytes = λ there sized. there_is l there (subst (λ x. SameSize x there) is sized);
    }))
what_becomes op d = inr (inl (record { edit = refl; made = refl; bytes = λ there sized. refl }))

-- ---- what edits keep

-- what is known of edits of a draft
pub record EditLaws : Type 0 where
  pub size : (op : Op) (size : ℕ) → IsInLimits op → size ≤ object_limit → (edit_of op size).size ≤ object_limit
  pub ends : (op : Op) (n : ℕ) (d : Draft) → IsInLimits op → d.size ≤ object_limit → EndsBelow d (pages_of d.size)
      → EndsBelow (drafted (edit_of op d.size) n d) (pages_of (edit_of op d.size).size)
  pub kept : (e : Edit) (n : ℕ) (d : Draft) (page : ℕ) (place : Place) → finite.get (drafted e n d).kept page ≡ Some place
      → finite.get d.kept page ≡ Some place
  pub put : (e : Edit) (n : ℕ) (d : Draft) (page taking : ℕ) → finite.get (drafted e n d).puts page ≡ Some taking
      → (finite.get d.puts page ≡ Some taking) ⊎ ((n ≤ taking) × (taking < n + length (pages_taking e d)))
  pub once : (e : Edit) (n : ℕ) (d : Draft) (p q taking : ℕ) → ((page t : ℕ) → finite.get d.puts page ≡ Some t → t < n)
      → ((page other t : ℕ) → finite.get d.puts page ≡ Some t → finite.get d.puts other ≡ Some t → page ≡ other)
      → finite.get (drafted e n d).puts p ≡ Some taking → finite.get (drafted e n d).puts q ≡ Some taking → p ≡ q
  pub apart : (e : Edit) (n : ℕ) (d : Draft)
      → ((page taking : ℕ) (place : Place) → finite.get d.kept page ≡ Some place → finite.get d.puts page ≡ Some taking → ⊥)
      → (page taking : ℕ) (place : Place) → finite.get (drafted e n d).kept page ≡ Some place → finite.get (drafted e n d).puts page ≡ Some taking → ⊥

-- What holds of an object that operations have led to, where its layout was this one and so many units were taken: the pages that stand where they
-- stood did so, no page stands in both maps, each taking was one of these, and no page is behind the object's end.
pub record IsObjectReached (layout : Option Layout) (n : ℕ) (x : Draft) : Type 0 where
  pub kept : (page : ℕ) (place : Place) → finite.get x.kept page ≡ Some place → finite.get (or_empty layout).pages page ≡ Some place
  pub below : (page taking : ℕ) → finite.get x.puts page ≡ Some taking → taking < n
  pub apart : (page taking : ℕ) (place : Place) → finite.get x.kept page ≡ Some place → finite.get x.puts page ≡ Some taking → ⊥
  pub ends : EndsBelow x (pages_of x.size)
  pub most : x.size ≤ object_limit

-- a page of an object stood on the slot, as the layouts say
pub record WasNamed (layouts : List ℕ → Option Layout) (x : SlotNo) : Type 0 where
  pub object : List ℕ
  pub named : IsName object
  pub page : ℕ
  pub stood : finite.get (or_empty (layouts object)).pages page ≡ Some (slot x.sbid x.index)

-- What holds of the collection: of each object so; a taking is of one page of one object; pages stood on the slots that were left; and what has
-- an object or a value is there.
pub record IsReached (layouts : List ℕ → Option Layout) (d : CollDraft) : Type 0 where
  pub objects : (o : List ℕ) (x : Draft) → IsName o → d.layout o ≡ Some x → IsObjectReached (layouts o) d.taken x
  pub once : (o u : List ℕ) (x y : Draft) (p q taking : ℕ) → IsName o → IsName u → d.layout o ≡ Some x → d.layout u ≡ Some y
      → finite.get x.puts p ≡ Some taking → finite.get y.puts q ≡ Some taking → (o ≡ u) × (p ≡ q)
  pub left : (x : SlotNo) → Contains d.unshared x → WasNamed layouts x
  pub in_coll : (o : List ℕ) → IsName o → is_some (d.layout o) ≡ true → d.there ≡ true
  pub values : (o : List ℕ) (k : ValueKey) (value : List ℕ) → IsName o → IsValueKey k → d.value o k ≡ Some value
      → FitsValue k value × (is_some (d.layout o) ≡ true)

-- a missing object, as a new one
nothing_new : (page : ℕ) {X P : Type 0} (x : X) → finite.get {R = nat_cmp} finite.empty page ≡ Some x → P
nothing_new page x is = absurd (let t = sym (finite.get-empty nat_cmp page) ∙ is in cc)

pub new_reached : (layout : Option Layout) (n : ℕ) → IsObjectReached layout n (or_new None)
new_reached layout n = record {
  kept = λ page place is. nothing_new page place is;
  below = λ page taking is. nothing_new page taking is;
  apart = λ page taking place is too. nothing_new page place is;
  ends = λ page is. absurd (let t = sym (ap (λ (p : Option Place). is_some p) (finite.get-empty nat_cmp page)) in let u = sym (ap (λ (p : Option ℕ). is_some p) (finite.get-empty nat_cmp page)) in cc);
  most = omega arith;
}

no_slot : {z : SlotNo} → Contains [] z → ⊥
no_slot k = omega (arith, k.1)

-- a slot that pages release is that of one of them
slot_of : (ps : List (ℕ × Place)) (z : SlotNo) → In (flat_map (λ p. slots_released p.1) ps) z → (page : ℕ) × In ps (page, slot z.sbid z.index)
slot_of [] z is = absurd is
slot_of ((page, format.own unit csum) ∷ ps) z is = let later = slot_of ps z is in (later.0, inr later.1)
slot_of ((page, slot sbid index) ∷ ps) z (inl e) = (page, inl (ap (λ (y : SlotNo). (page, slot y.sbid y.index)) e))
slot_of ((page, slot sbid index) ∷ ps) z (inr behind) = let later = slot_of ps z behind in (later.0, inr later.1)

-- the pages that leave their places stood there
left_stood : (op : Op) (x : Option Draft) (page : ℕ) (place : Place) → In (pages_left op x) (page, place) → finite.get (or_new x).kept page ≡ Some place
left_stood (Remove o) x page place is = entry_found (or_new x).kept page place is
left_stood op x page place is = by (edit_on op x) is
  where
    by : (e : Option Edit) → In (option_map_or (λ e. where_key nat_cmp (is_touched e) (finite.entries (or_new x).kept)) e []) (page, place)
        → finite.get (or_new x).kept page ≡ Some place
    by None is = absurd is
    by (Some e) is = ((where_are (is_touched e) (or_new x).kept page place).0
        (in_contains (where_key nat_cmp (is_touched e) (finite.entries (or_new x).kept)) (page, place) is)).0

-- ---- one operation

module _ (laws : EditLaws) (layouts : List ℕ → Option Layout) (op : Op) (d : CollDraft) (taken : IsTaken d op) (r : IsReached layouts d) where
  abbrev o : List ℕ
  o = object_of op

  abbrev n : ℕ
  n = d.taken

  abbrev x : Option Draft
  x = d.layout o

  abbrev after : CollDraft
  after = with_op op d

  -- an object of a name is that of the operation, or as it was
  pub layout_cases : (u : List ℕ) → ((u ≡ o) × (after.layout u ≡ draft_after op d)) ⊎ ((u ≢ o) × (after.layout u ≡ d.layout u))
  layout_cases u = elim (equal_or_not u o) [
    | inl e ↦ inl (e, ap after.layout e ∙ at_here o (draft_after op d) d.layout)
    | inr apart ↦ inr (apart, at_other o (draft_after op d) d.layout u apart)
  ]

  pub value_cases : (u : List ℕ) (k : ValueKey)
      → ((u ≡ o) × (after.value u k ≡ values_on op d k)) ⊎ ((u ≢ o) × (after.value u k ≡ d.value u k))
  value_cases u k = elim (equal_or_not u o) [
    | inl e ↦ inl (e, ap (λ v. after.value v k) e ∙ ap (λ f. f k) (at_here o (values_on op d) d.value))
    | inr apart ↦ inr (apart, ap (λ f. f k) (at_other o (values_on op d) d.value u apart))
  ]

  -- the limits are kept, but where the operation isn't about bytes
  fits : IsInLimits op
  fits = elim (on_object_or op d taken) [
    | inl on ↦ within op on.1.within
    | inr coll ↦ elim coll [ inl is ↦ subst IsInLimits (sym is) tt | inr is ↦ subst IsInLimits (sym is) tt ]
  ]

  more : d.taken ≤ after.taken
  more = omega arith

  pub x_reached : IsName o → IsObjectReached (layouts o) n (or_new x)
  x_reached name = elim x as (λ z. x ≡ z → IsObjectReached (layouts o) n (or_new z)) [
    | None ↦ λ p. new_reached (layouts o) n
    | Some y ↦ λ p. r.objects o y name p
  ] refl

  later : (layout : Option Layout) (y : Draft) → IsObjectReached layout d.taken y → IsObjectReached layout after.taken y
  later layout y was = record {
    kept = was.kept;
    below = λ page taking is. omega (arith, was.below page taking is);
    apart = was.apart;
    ends = was.ends;
    most = was.most;
  }

  -- how many units an edit takes
  takes : (edits : Edits op d) → after.taken ≡ n + length (pages_taking (edit_of op (or_new x).size) (or_new x))
  takes edits = ap (λ e. n + option_map_or (λ e. length (pages_taking e (or_new x))) e 0) edits.edit

  edited_reached : IsName o → (edits : Edits op d) → IsObjectReached (layouts o) after.taken (drafted (edit_of op (or_new x).size) n (or_new x))
  edited_reached name edits =
      let was = x_reached name in
      let e : Edit = edit_of op (or_new x).size in
      record {
        kept = λ page place is. was.kept page place (laws.kept e n (or_new x) page place is);
        below = λ page taking is. elim (laws.put e n (or_new x) page taking is) [
          | inl old ↦ omega (arith, was.below page taking old)
          | inr new ↦ omega (arith, new.1, takes edits)
        ];
        apart = laws.apart e n (or_new x) was.apart;
        ends = laws.ends op n (or_new x) fits was.most was.ends;
        most = laws.size op (or_new x).size fits was.most;
      }

  own_reached : IsName o → (y : Draft) → draft_after op d ≡ Some y → IsObjectReached (layouts o) after.taken y
  own_reached name y is = elim (what_becomes op d) [
    | inl goes ↦ absurd (let t = sym (goes.made) ∙ is in cc)
    | inr other ↦ elim other [
      | inl keeps ↦ later (layouts o) y (r.objects o y name (sym (keeps.made) ∙ is))
      | inr edits ↦
          let same : Some (drafted (edit_of op (or_new x).size) n (or_new x)) ≡ Some y = sym (edits.made) ∙ is in
          let e : drafted (edit_of op (or_new x).size) n (or_new x) ≡ y = cc in
          subst (IsObjectReached (layouts o) after.taken) e (edited_reached name edits)
    ]
  ]

  objects_after : (u : List ℕ) (y : Draft) → IsName u → after.layout u ≡ Some y → IsObjectReached (layouts u) after.taken y
  objects_after u y name is = elim (layout_cases u) [
    | inl own ↦ subst (λ v. IsObjectReached (layouts v) after.taken y) (sym own.0) (own_reached (subst IsName own.0 name) y (sym own.1 ∙ is))
    | inr other ↦ later (layouts u) y (r.objects u y name (sym other.1 ∙ is))
  ]

  -- ---- takings

  -- a page of the object was put before, or now
  record PutBefore (page taking : ℕ) : Type 0 where
    was : Draft
    there : x ≡ Some was
    put : finite.get was.puts page ≡ Some taking

  put_cases : IsName o → (y : Draft) → draft_after op d ≡ Some y → (page taking : ℕ) → finite.get y.puts page ≡ Some taking
      → PutBefore page taking ⊎ (n ≤ taking)
  put_cases name y is page taking put = elim (what_becomes op d) [
    | inl goes ↦ absurd (let t = sym (goes.made) ∙ is in cc)
    | inr other ↦ elim other [
      | inl keeps ↦ inl (record { was = y; there = sym (keeps.made) ∙ is; put = put })
      | inr edits ↦
          let same : Some (drafted (edit_of op (or_new x).size) n (or_new x)) ≡ Some y = sym (edits.made) ∙ is in
          let e : drafted (edit_of op (or_new x).size) n (or_new x) ≡ y = cc in
          elim (laws.put (edit_of op (or_new x).size) n (or_new x) page taking (ap (λ (z : Draft). finite.get z.puts page) e ∙ put)) [
            | inl old ↦ inl (elim x as (λ z. x ≡ z → finite.get (or_new z).puts page ≡ Some taking → PutBefore page taking) [
              | None ↦ λ p is. nothing_new page taking is
              | Some w ↦ λ p is. record { was = w; there = p; put = is }
            ] refl old)
            | inr new ↦ inr new.0
          ]
    ]
  ]

  pub alone : IsName o → (page other taking : ℕ) → finite.get (or_new x).puts page ≡ Some taking → finite.get (or_new x).puts other ≡ Some taking
      → page ≡ other
  alone name page other taking one two = elim x as (λ z. x ≡ z → finite.get (or_new z).puts page ≡ Some taking
      → finite.get (or_new z).puts other ≡ Some taking → page ≡ other) [
        | None ↦ λ p one two. nothing_new page taking one
        | Some y ↦ λ p one two. (r.once o o y y page other taking name name p p one two).1
      ] refl one two

  new_once : IsName o → (y : Draft) → draft_after op d ≡ Some y → (p q taking : ℕ) → n ≤ taking → finite.get y.puts p ≡ Some taking
      → finite.get y.puts q ≡ Some taking → p ≡ q
  new_once name y is p q taking late one two = elim (what_becomes op d) [
    | inl goes ↦ absurd (let t = sym (goes.made) ∙ is in cc)
    | inr other ↦ elim other [
      | inl keeps ↦ absurd (let b = (r.objects o y name (sym (keeps.made) ∙ is)).below p taking one in omega (arith, b, late))
      | inr edits ↦
          let same : Some (drafted (edit_of op (or_new x).size) n (or_new x)) ≡ Some y = sym (edits.made) ∙ is in
          let e : drafted (edit_of op (or_new x).size) n (or_new x) ≡ y = cc in
          laws.once (edit_of op (or_new x).size) n (or_new x) p q taking (x_reached name).below (alone name)
          (ap (λ (z : Draft). finite.get z.puts p) e ∙ one) (ap (λ (z : Draft). finite.get z.puts q) e ∙ two)
    ]
  ]

  once_after : (u v : List ℕ) (y z : Draft) (p q taking : ℕ) → IsName u → IsName v → after.layout u ≡ Some y → after.layout v ≡ Some z
      → finite.get y.puts p ≡ Some taking → finite.get z.puts q ≡ Some taking → (u ≡ v) × (p ≡ q)
  once_after u v y z p q taking named too is at one two = elim (layout_cases u) [
    | inl own ↦
        let name : IsName o = subst IsName own.0 named in
        elim (put_cases name y (sym own.1 ∙ is) p taking one) [
          | inl old ↦ elim (layout_cases v) [
            | inl mine ↦ elim (put_cases name z (sym mine.1 ∙ at) q taking two) [
              | inl before ↦ let e = r.once o o old.was before.was p q taking name name old.there before.there old.put before.put in
                  (own.0 ∙ sym mine.0, e.1)
              | inr late ↦ absurd (let b = (r.objects o old.was name old.there).below p taking old.put in omega (arith, b, late))
            ]
            | inr other ↦ let e = r.once o v old.was z p q taking name too old.there (sym other.1 ∙ at) old.put two in (own.0 ∙ e.0, e.1)
          ]
          | inr late ↦ elim (layout_cases v) [
            | inl mine ↦
                let same : Some y ≡ Some z = sym (sym own.1 ∙ is) ∙ (sym mine.1 ∙ at) in
                let e : y ≡ z = cc in
                (own.0 ∙ sym mine.0, new_once name y (sym own.1 ∙ is) p q taking late one (ap (λ (w : Draft). finite.get w.puts q) e ∙ two))
            | inr other ↦ absurd (let b = (r.objects v z too (sym other.1 ∙ at)).below q taking two in omega (arith, b, late))
          ]
        ]
    | inr other ↦ elim (layout_cases v) [
      | inl mine ↦
          let name : IsName o = subst IsName mine.0 too in
          elim (put_cases name z (sym mine.1 ∙ at) q taking two) [
            | inl before ↦ let e = r.once u o y before.was p q taking named name (sym other.1 ∙ is) before.there one before.put in (e.0 ∙ sym mine.0, e.1)
            | inr late ↦ absurd (let b = (r.objects u y named (sym other.1 ∙ is)).below p taking one in omega (arith, b, late))
          ]
      | inr apart ↦ r.once u v y z p q taking named too (sym other.1 ∙ is) (sym apart.1 ∙ at) one two
    ]
  ]

  -- ---- slots that pages leave

  left_after : (z : SlotNo) → Contains after.unshared z → WasNamed layouts z
  left_after z k = elim (Contains-append_cases d.unshared (slots_on op d) z k) [
    | inl before ↦ r.left z before
    | inr now ↦
        let at = slot_of (pages_left op x) z (contains_in (slots_on op d) z now) in
        let name : IsName o = elim (on_object_or op d taken) [
          | inl on ↦ on.1.named
          | inr coll ↦ absurd (elim coll [
            | inl is ↦ no_slot (subst (λ p. Contains (slots_on p d) z) is now)
            | inr is ↦ no_slot (subst (λ p. Contains (slots_on p d) z) is now)
          ])
        ] in
        let stood = left_stood op x at.0 (slot z.sbid z.index) at.1 in
        record { object = o; named = name; page = at.0; stood = (x_reached name).kept at.0 (slot z.sbid z.index) stood }
  ]

  -- ---- what is there

  there_or_bare : (after.there ≡ true) ⊎ ((u : List ℕ) → IsName u → after.layout u ≡ None)
  there_or_bare = elim (on_object_or op d taken) [
    | inl on ↦ inl (stays op on.0 ∙ on.1.there)
    | inr coll ↦ elim coll [
      | inl is ↦ inl (ap (λ p. (with_op p d).there) is)
      | inr is ↦ inr (λ u name. elim (layout_cases u) [
        | inl own ↦ absurd (no_name (subst IsName (own.0 ∙ ap object_of is) name))
        | inr other ↦ other.1 ∙ (subst (IsTaken d) is taken).1 u name
      ])
    ]
  ]
    where
      stays : (op : Op) → IsOnObject op → (with_op op d).there ≡ d.there
      stays MkColl on = absurd on
      stays RmColl on = absurd on
      stays op on = refl

  in_coll_after : (u : List ℕ) → IsName u → is_some (after.layout u) ≡ true → after.there ≡ true
  in_coll_after u name some = elim there_or_bare [
    | inl is ↦ is
    | inr bare ↦ absurd (let t = sym (ap is_some (bare u name)) ∙ some in cc)
  ]

  -- ---- values

  own_values : IsName o → (k : ValueKey) (value : List ℕ) → IsValueKey k → values_on op d k ≡ Some value
      → FitsValue k value × (is_some (draft_after op d) ≡ true)
  own_values name k value named is =
      let either : (FitsValue k value) × (is_some x ≡ true) = elim (on_object_or op d taken) [
        | inl on ↦ elim (stood_or_written op k (d.value o k) value on.1.within is) [
          | inl stood ↦ r.values o k value name named stood
          | inr new ↦ (new.0, on.1.found new.1)
        ]
        | inr coll ↦ absurd (elim coll [ inl e ↦ no_name (subst IsName (ap object_of e) name) | inr e ↦ no_name (subst IsName (ap object_of e) name) ])
      ] in (
        either.0,
        elim (what_becomes op d) [
          | inl goes ↦ absurd (let t = sym (goes.values k (d.value o k)) ∙ is in cc)
          | inr other ↦ elim other [
            | inl keeps ↦ ap is_some (keeps.made) ∙ either.1
            | inr edits ↦ ap is_some (edits.made)
          ]
        ],
      )

  values_after : (u : List ℕ) (k : ValueKey) (value : List ℕ) → IsName u → IsValueKey k → after.value u k ≡ Some value
      → FitsValue k value × (is_some (after.layout u) ≡ true)
  values_after u k value name named is = elim (equal_or_not u o) [
    | inl e ↦
        let own = own_values (subst IsName e name) k value named
        (sym (ap (λ v. after.value v k) e ∙ ap (λ f. f k) (at_here o (values_on op d) d.value)) ∙ is) in
        (own.0, ap is_some (ap after.layout e ∙ at_here o (draft_after op d) d.layout) ∙ own.1)
    | inr apart ↦
        let old = r.values u k value name named (sym (ap (λ f. f k) (at_other o (values_on op d) d.value u apart)) ∙ is) in
        (old.0, ap is_some (at_other o (draft_after op d) d.layout u apart) ∙ old.1)
  ]

  pub reached_after : IsReached layouts after
  reached_after = record { objects = objects_after; once = once_after; left = left_after; in_coll = in_coll_after; values = values_after }

-- ---- operations

pub reached : (laws : EditLaws) (layouts : List ℕ → Option Layout) (ops : List Op) (d : CollDraft) → AreTaken ops d → IsReached layouts d
    → IsReached layouts (with_ops ops d)
reached laws layouts [] d taken r = r
reached laws layouts (op ∷ ops) d taken r = reached laws layouts ops (with_op op d) taken.1 (reached_after laws layouts op d taken.0 r)
