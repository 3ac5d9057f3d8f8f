-- The bytes of objects along the operations of a transaction: each page holds them where it stood, or its unit is to hold them.
use Rattle.std.proofs.Common.{◌≡◌, ◌≢◌, inl, inr, ℕ, ◌<◌, ◌≤◌, List, [], ◌∷◌, ◌++◌, length, map, Contains, Option, Some, None, Ok, refl, sym, ap, subst, ◌∙◌, arith}
use Rattle.std.specs.Option.{option_map, option_map_or}
use Rattle.std.specs.List.{AllByRecursion}
use Rattle.std.specs.FinMap as finite
use Rattle.std.specs.Ordering.{nat_cmp}
use Rattle.std.proofs.lemmas.List.{map-append}
use Rattle.object_model.specs.declared.op.Op.{Op}
use Rattle.object_model.specs.Prelude.{Object, Collection, object_limit, effects, ◌>>=◌}
use Rattle.unit_fields.specs.Prelude.{IsName}
use Rattle.row_format.specs.Prelude.{Place}
use Rattle.store_image.specs.Prelude.{PageUnit}
use Rattle.plan_drafts.specs.declared.draft.Draft.{Draft}
use Rattle.plan_rows.specs.declared.plan.ReadUnit.{ReadUnit}
use Rattle.plan_drafts.specs.Prelude.{Edit, edit_of, places_read, drafted, Held, writes_of, with_writes, HoldBytes, bytes_after, IsInLimits, Layout, object_of, or_new, edit_on, draft_after, places_on, CollDraft, with_op, with_ops, places_of, held_after, held_by, IsTaken, AreTaken}
use Rattle.page_edits.specs.Takings.{WereRead}
use Rattle.plan_proofs.proofs.Lists.{Contains-left, Contains-right}
use Rattle.plan_proofs.proofs.PageBytes.{no_pages}
use Rattle.plan_proofs.proofs.Effects.{bytes_of, bytes_on, valued_on, with_bytes, object_on}
use Rattle.plan_proofs.proofs.Matches.{object_in, Matches, LengthLaw, Leads, leads}
use Rattle.plan_proofs.proofs.Reached.{on_object_or, no_name, within, SameSize, Keeps, Edits, what_becomes, EditLaws, IsReached, layout_cases, x_reached, alone, reached_after}

-- ---- what is known of one edit

-- what was put is to hold whole pages
abbrev pub AreWhole : Held → Draft → Type 0
AreWhole held d = (page taking : ℕ) → finite.get d.puts page ≡ Some taking → length (held taking) ≡ 4096

pub record ByteLaws : Type 0 where
  pub bytes : (on : Place → PageUnit) (at : ℕ → List ℕ) (held : Held) (op : Op) (old : List ℕ) (read : List ReadUnit) (n : ℕ) (d : Draft)
      → IsInLimits op → length old ≤ object_limit → d.size ≡ length old → HoldBytes on at held d old
      → ((page taking : ℕ) → finite.get d.puts page ≡ Some taking → taking < n)
      → ((page other taking : ℕ) → finite.get d.puts page ≡ Some taking → finite.get d.puts other ≡ Some taking → page ≡ other)
      → WereRead at (places_read on (edit_of op d.size) d) read
      → HoldBytes on at (with_writes (writes_of on (edit_of op d.size) read held n d) held) (drafted (edit_of op d.size) n d) (bytes_after op old)
  pub whole : (on : Place → PageUnit) (e : Edit) (read : List ReadUnit) (held : Held) (n : ℕ) (d : Draft) → AllByRecursion (λ r. length r.bytes ≡ 4096) read
      → AreWhole held d → AreWhole (with_writes (writes_of on e read held n d) held) (drafted e n d)
  pub others : (on : Place → PageUnit) (e : Edit) (read : List ReadUnit) (held : Held) (n : ℕ) (d : Draft) (taking : ℕ) → taking < n
      → ((page : ℕ) → ¬ (finite.get d.puts page ≡ Some taking)) → with_writes (writes_of on e read held n d) held taking ≡ held taking

-- ---- one operation

-- each object's pages hold its bytes
abbrev pub HoldsAll : (ℕ → List ℕ) → Held → CollDraft → Option Collection → Type 0
HoldsAll at held d k = (o : List ℕ) (x : Draft) (b : Object) → IsName o → d.layout o ≡ Some x → object_in k o ≡ Some b
    → HoldBytes d.on at held x b.bytes

-- and what was put is to hold whole pages
abbrev pub AllWhole : Held → CollDraft → Type 0
AllWhole held d = (o : List ℕ) (x : Draft) → IsName o → d.layout o ≡ Some x → AreWhole held x

-- the same of units that are to hold the same
held_same : (on : Place → PageUnit) (at : ℕ → List ℕ) (held later : Held) (x : Draft) (bytes : List ℕ)
    → ((page taking : ℕ) → finite.get x.puts page ≡ Some taking → later taking ≡ held taking) → HoldBytes on at held x bytes
    → HoldBytes on at later x bytes
held_same on at held later x bytes same hold = record {
  kept = hold.kept;
  put = λ page taking is. same page taking is ∙ hold.put page taking is;
  holes = hold.holes;
}

module _ (laws : EditLaws) (lengths : LengthLaw) (bytes : ByteLaws) (layouts : List ℕ → Option Layout) (op : Op) (d : CollDraft) (taken : IsTaken d op)
    (r : IsReached layouts d) (read : List ReadUnit) (held : Held) where
  abbrev o : List ℕ
  o = object_of op

  abbrev x : Option Draft
  x = d.layout o

  abbrev after : CollDraft
  after = with_op op d

  abbrev later : Held
  later = held_after read op d held

  -- without an edit nothing is written
  unwritten : edit_on op x ≡ None → (taking : ℕ) → later taking ≡ held taking
  unwritten none taking = ap (λ (e : Option Edit). with_writes (option_map_or (λ e. writes_of d.on e read held d.taken (or_new x)) e []) held taking) none

  written : (edits : Edits op d) → (taking : ℕ)
      → later taking ≡ with_writes (writes_of d.on (edit_of op (or_new x).size) read held d.taken (or_new x)) held taking
  written edits taking =
      ap (λ (e : Option Edit). with_writes (option_map_or (λ e. writes_of d.on e read held d.taken (or_new x)) e []) held taking) edits.edit

  -- an edit is of an object that has a name
  edits_named : Edits op d → IsName o
  edits_named edits = elim (on_object_or op d taken) [
    | inl on ↦ on.1.named
    | inr coll ↦ elim coll [
      | inl is ↦ absurd (let t = sym (ap (λ p. edit_on p (d.layout o)) is) ∙ edits.edit in cc)
      | inr is ↦ absurd (let t = sym (ap (λ p. edit_on p (d.layout o)) is) ∙ edits.edit in cc)
    ]
  ]

  -- the takings of other objects keep their bytes
  others_keep : (u : List ℕ) (z : Draft) → IsName u → u ≢ o → d.layout u ≡ Some z → (page taking : ℕ) → finite.get z.puts page ≡ Some taking
      → later taking ≡ held taking
  others_keep u z name apart there page taking put = elim (what_becomes op d) [
    | inl goes ↦ unwritten goes.edit taking
    | inr other ↦ elim other [
      | inl keeps ↦ unwritten keeps.edit taking
      | inr edits ↦ written edits taking ∙ bytes.others d.on (edit_of op (or_new x).size) read held d.taken (or_new x) taking
          ((r.objects u z name there).below page taking put) (none_of (edits_named edits) x refl)
    ]
  ]
    where
      none_of : IsName o → (w : Option Draft) → x ≡ w → (page : ℕ) → ¬ (finite.get (or_new x).puts page ≡ Some taking)
      none_of own None p q is = absurd (let t = sym (finite.get-empty nat_cmp q) ∙ ap (λ w. finite.get (or_new w).puts q) (sym p) ∙ is in cc)
      none_of own (Some w) p q is = apart ((r.once u o z w page q taking name own there p put (ap (λ v. finite.get (or_new v).puts q) (sym p) ∙ is)).0)

  module _ (at : ℕ → List ℕ) (k : Option Collection) (m : Matches d k) (were : WereRead at (places_on op d) read) (all : HoldsAll at held d k) where
    abbrev lead : Leads laws lengths layouts op d taken r k
    lead = leads laws lengths layouts op d taken r k m

    abbrev there : Option Object
    there = object_in k o

    -- an object's pages hold its bytes, and those of a missing one hold none
    old_hold : IsName o → HoldBytes d.on at held (or_new x) (bytes_of there)
    old_hold name = by x there refl refl (m.sizes o name)
      where
        by : (w : Option Draft) (b : Option Object) → x ≡ w → there ≡ b → SameSize w b → HoldBytes d.on at held (or_new w) (bytes_of b)
        by None None p q e = record {
          kept = λ page place is none. absurd (let t = sym (finite.get-empty nat_cmp page) ∙ is in cc);
          put = λ page taking is. absurd (let t = sym (finite.get-empty nat_cmp page) ∙ is in cc);
          holes = λ page none. no_pages page;
        }
        by None (Some b) p q e = absurd cc
        by (Some w) None p q e = absurd cc
        by (Some w) (Some b) p q e = all o w b name p q

    old_size : IsName o → (or_new x).size ≡ length (bytes_of there)
    old_size name = by x there (m.sizes o name)
      where
        by : (w : Option Draft) (b : Option Object) → SameSize w b → (or_new w).size ≡ length (bytes_of b)
        by None None e = refl
        by None (Some b) e = absurd cc
        by (Some w) None e = absurd cc
        by (Some w) (Some b) e = cc

    -- values leave the bytes
    valued_size : (b : Option Object) → SameSize x b → SameSize x (valued_on op b)
    valued_size None e = e
    valued_size (Some b) e = e

    valued_bytes : (b : Option Object) → option_map (λ (z : Object). z.bytes) (valued_on op b) ≡ option_map (λ (z : Object). z.bytes) b
    valued_bytes None = refl
    valued_bytes (Some b) = refl

    bytes_same : (b : Option Object) → bytes_of (valued_on op b) ≡ bytes_of b
    bytes_same None = refl
    bytes_same (Some b) = refl

    -- the bytes of the object after
    new_bytes : (b : Object) → object_on op there ≡ Some b → bytes_on op (valued_on op there) ≡ Some b.bytes
    new_bytes b is = by (bytes_on op (valued_on op there)) is
      where
        by : (z : Option (List ℕ)) → option_map (with_bytes (valued_on op there)) z ≡ Some b → z ≡ Some b.bytes
        by None e = absurd cc
        by (Some bytes) e = let same : with_bytes (valued_on op there) bytes ≡ b = cc in ap (λ (z : Object). Some z.bytes) same

    sized : IsName o → SameSize x (valued_on op there)
    sized name = valued_size there (m.sizes o name)

    own_hold : IsName o → (y : Draft) (b : Object) → draft_after op d ≡ Some y → object_on op there ≡ Some b → HoldBytes d.on at later y b.bytes
    own_hold name y b is new = elim (what_becomes op d) [
      | inl goes ↦ absurd (let t = sym (goes.made) ∙ is in cc)
      | inr other ↦ elim other [
        | inl keeps ↦
            let bytes_are : option_map (λ (z : Object). z.bytes) there ≡ Some b.bytes =
            sym (valued_bytes there) ∙ sym (keeps.bytes (valued_on op there) (sized name)) ∙ new_bytes b new in
            kept_hold keeps (sym (keeps.made) ∙ is) bytes_are
        | inr edits ↦
            let same : Some (drafted (edit_of op (or_new x).size) d.taken (or_new x)) ≡ Some y = sym (edits.made) ∙ is in
            let e : drafted (edit_of op (or_new x).size) d.taken (or_new x) ≡ y = cc in
            let made : Some (bytes_after op (bytes_of (valued_on op there))) ≡ Some b.bytes = sym (edits.bytes (valued_on op there) (sized name)) ∙ new_bytes b new in
            let made_is : bytes_after op (bytes_of there) ≡ b.bytes = ap (bytes_after op) (sym (bytes_same there)) ∙ some_same _ _ made in
            subst (λ z. HoldBytes d.on at later z b.bytes) e (subst (HoldBytes d.on at later (drafted (edit_of op (or_new x).size) d.taken (or_new x))) made_is
            (held_same d.on at (with_writes (writes_of d.on (edit_of op (or_new x).size) read held d.taken (or_new x)) held) later
            (drafted (edit_of op (or_new x).size) d.taken (or_new x)) (bytes_after op (bytes_of there)) (λ page taking put. written edits taking)
            (bytes.bytes d.on at held op (bytes_of there) read d.taken (or_new x) (fits taken) short (old_size name) (old_hold name)
            (x_reached laws layouts op d taken r name).below (alone laws layouts op d taken r name) (read_for edits))))
      ]
    ]
      where
        some_same : (p q : List ℕ) → Some p ≡ Some q → p ≡ q
        some_same p q e = cc

        fits : IsTaken d op → IsInLimits op
        fits t = elim (on_object_or op d t) [
          | inl on ↦ within op on.1.within
          | inr coll ↦ elim coll [ inl e ↦ subst IsInLimits (sym e) tt | inr e ↦ subst IsInLimits (sym e) tt ]
        ]

        short : length (bytes_of there) ≤ object_limit
        short = omega (arith, old_size name, (x_reached laws layouts op d taken r name).most)

        read_for : Edits op d → WereRead at (places_read d.on (edit_of op (or_new x).size) (or_new x)) read
        read_for edits = subst (λ ps. WereRead at ps read) (ap (λ (e : Option Edit). option_map_or (λ e. places_read d.on e (or_new x)) e []) edits.edit) were

        kept_hold : Keeps op d → x ≡ Some y → option_map (λ (z : Object). z.bytes) there ≡ Some b.bytes → HoldBytes d.on at later y b.bytes
        kept_hold keeps p q = by there refl q
          where
            by : (w : Option Object) → there ≡ w → option_map (λ (z : Object). z.bytes) w ≡ Some b.bytes → HoldBytes d.on at later y b.bytes
            by None e q = absurd cc
            by (Some w) e q =
                let same : w.bytes ≡ b.bytes = some_same w.bytes b.bytes q in
                subst (HoldBytes d.on at later y) same (held_same d.on at held later y w.bytes (λ page taking put. unwritten keeps.edit taking) (all o y w name p e))

    pub holds_after : HoldsAll at later after lead.then
    holds_after u y b name is there_is = elim (layout_cases laws layouts op d taken r u) [
      | inl mine ↦
          let own = subst IsName mine.0 name in
          own_hold own y b (sym mine.1 ∙ is) (own_object own b (ap (object_in lead.then) (sym mine.0) ∙ there_is))
      | inr other ↦
          let stood = sym other.1 ∙ is in
          held_same d.on at held later y b.bytes (others_keep u y name other.0 stood)
          (all u y b name stood (sym (lead.others u other.0) ∙ there_is))
    ]
      where
        own_object : IsName o → (b : Object) → object_in lead.then o ≡ Some b → object_on op there ≡ Some b
        own_object named b is = elim (on_object_or op d taken) [
          | inl on ↦ sym (lead.own on.0) ∙ is
          | inr coll ↦ absurd (elim coll [ inl e ↦ no_name (subst IsName (ap object_of e) named) | inr e ↦ no_name (subst IsName (ap object_of e) named) ])
        ]

  pub whole_after : AllByRecursion (λ r. length r.bytes ≡ 4096) read → AllWhole held d → AllWhole later after
  whole_after read_whole all u y name is page taking put = elim (layout_cases laws layouts op d taken r u) [
    | inl mine ↦ own_whole (subst IsName mine.0 name) (sym mine.1 ∙ is)
    | inr other ↦ ap length (others_keep u y name other.0 (sym other.1 ∙ is) page taking put) ∙ all u y name (sym other.1 ∙ is) page taking put
  ]
    where
      x_whole : IsName o → AreWhole held (or_new x)
      x_whole named = by x refl
        where
          by : (w : Option Draft) → x ≡ w → AreWhole held (or_new w)
          by None p page taking put = absurd (let t = sym (finite.get-empty nat_cmp page) ∙ put in cc)
          by (Some w) p page taking put = all o w named p page taking put

      own_whole : IsName o → draft_after op d ≡ Some y → length (later taking) ≡ 4096
      own_whole named made = elim (what_becomes op d) [
        | inl goes ↦ absurd (let t = sym (goes.made) ∙ made in cc)
        | inr other ↦ elim other [
          | inl keeps ↦ ap length (unwritten keeps.edit taking) ∙ all o y named (sym (keeps.made) ∙ made) page taking put
          | inr edits ↦
              let same : Some (drafted (edit_of op (or_new x).size) d.taken (or_new x)) ≡ Some y = sym (edits.made) ∙ made in
              let e : drafted (edit_of op (or_new x).size) d.taken (or_new x) ≡ y = cc in
              ap length (written edits taking) ∙ bytes.whole d.on (edit_of op (or_new x).size) read held d.taken (or_new x) read_whole (x_whole named) page taking
              (ap (λ (z : Draft). finite.get z.puts page) e ∙ put)
        ]
      ]

-- ---- operations

-- they leave places on their units
pub on_same : (ops : List Op) (d : CollDraft) → (with_ops ops d).on ≡ d.on
on_same [] d = refl
on_same (op ∷ ops) d = on_same ops (with_op op d)

-- what was read of places that stand one behind the other
front_read : (at : ℕ → List ℕ) (ps qs : List PageUnit) (read : List ReadUnit) → WereRead at (ps ++ qs) read → WereRead at ps read × WereRead at qs read
front_read at ps qs read were =
    let us : List ℕ = map (λ on. on.unit) ps in
    let vs : List ℕ = map (λ on. on.unit) qs in
    let among : (unit : ℕ) → Contains (us ++ vs) unit → Contains (map (λ r. r.unit) read) unit =
    λ unit k. were.among unit (subst (λ ws. Contains ws unit) (sym (map-append (λ (on : PageUnit). on.unit) ps qs)) k) in (
      record { among = λ unit k. among unit (Contains-left us vs unit k); seen = were.seen },
      record { among = λ unit k. among unit (Contains-right us vs unit k); seen = were.seen },
    )

pub all_hold : (laws : EditLaws) (lengths : LengthLaw) (bytes : ByteLaws) (layouts : List ℕ → Option Layout) (ops : List Op) (d : CollDraft) (k : Option Collection)
    → AreTaken ops d → IsReached layouts d → Matches d k → (read : List ReadUnit) (held : Held) (at : ℕ → List ℕ)
    → WereRead at (places_of ops d) read → HoldsAll at held d k → (l : Option Collection) → effects ops k ≡ Ok l
    → HoldsAll at (held_by read ops d held) (with_ops ops d) l
all_hold laws lengths bytes layouts [] d k taken r m read held at were all l is =
    let same : k ≡ l = cc in subst (HoldsAll at held d) same all
all_hold laws lengths bytes layouts (op ∷ ops) d k taken r m read held at were all l is =
    let parts = front_read at (places_on op d) (places_of ops (with_op op d)) read were in
    let one = leads laws lengths layouts op d taken.0 r k m in
    all_hold laws lengths bytes layouts ops (with_op op d) one.then taken.1 (reached_after laws layouts op d taken.0 r) one.matches read
    (held_after read op d held) at parts.1 (holds_after laws lengths bytes layouts op d taken.0 r read held at k m parts.0 all) l
    (sym (ap (λ z. z >>= effects ops) one.effect_is) ∙ is)

pub all_whole : (laws : EditLaws) (lengths : LengthLaw) (bytes : ByteLaws) (layouts : List ℕ → Option Layout) (ops : List Op) (d : CollDraft)
    → AreTaken ops d → IsReached layouts d → (read : List ReadUnit) (held : Held) → AllByRecursion (λ r. length r.bytes ≡ 4096) read → AllWhole held d
    → AllWhole (held_by read ops d held) (with_ops ops d)
all_whole laws lengths bytes layouts [] d taken r read held whole all = all
all_whole laws lengths bytes layouts (op ∷ ops) d taken r read held whole all = all_whole laws lengths bytes layouts ops (with_op op d) taken.1
    (reached_after laws layouts op d taken.0 r) read (held_after read op d held) whole
    (whole_after laws lengths bytes layouts op d taken.0 r read held whole all)
