-- The places whose old bytes a transaction asks for are those of pages of objects that are there.
use Rattle.std.proofs.Common.{◌≡◌, ◌⊎◌, inl, inr, ℕ, Bool, true, false, cond, List, [], ◌∷◌, ◌++◌, map, Option, Some, None, refl, sym, ap, subst, ◌∙◌}
use Rattle.std.specs.List.{AllByRecursion, flat_map}
use Rattle.std.specs.Option.{option_map, option_map_or, option_to_list}
use Rattle.std.specs.Ordering.{nat_cmp, is_eq}
use Rattle.std.specs.declared.cmp.Ordering.TheVariants.{Less, Equal, Greater}
use Rattle.std.specs.FinMap as finite
use Rattle.std.specs.FinMap.{nat_cmp-IsAntisymmetric}
use Rattle.std.proofs.lemmas.Bool.{cases_Bool}
use Rattle.byte_maps.specs.ByteMap.{byte_order}
use Rattle.byte_maps.proofs.Prelude.{same_bytes}
use Rattle.object_model.specs.declared.op.Op.{Op}
use Rattle.object_model.specs.declared.op.Op.TheVariants.{MkColl, RmColl, Touch, Write, Zero, Truncate, Remove, SetAttr, RmAttr, RmAttrs, Clone, CloneRange, OmapSet, OmapRm, OmapRmRange, OmapClear, OmapHeader}
use Rattle.object_model.specs.Prelude.{Change, is_same}
use Rattle.unit_fields.specs.Prelude.{IsName}
use Rattle.unit_fields.specs.declared.width.Width.{Width}
use Rattle.meta_rows.specs.Prelude.{Rows}
use Rattle.row_format.specs.Prelude.{Place}
use Rattle.store_image.specs.Prelude.{HasOnode, PageUnit, StandsOn, IsPageOn, HasPage}
use Rattle.unit_allocator.specs.Prelude.{Space}
use Rattle.plan_drafts.specs.declared.draft.Draft.{Draft}
use Rattle.plan_rows.specs.declared.plan.Plan.{Plan}
use Rattle.plan_rows.specs.declared.plan.ReadUnit.{ReadUnit}
use Rattle.plan_drafts.specs.Prelude.{Edit, fate_of, is_left, needs_old, pages_put, drafted, PlacesStand, place_read, places_read, Layout, HasLayout, or_empty, object_of, or_new, edit_on, draft_after, places_on, CollDraft, at_name, with_op, places_of, IsTaken, AreTaken, draft_of, Begins, AsksFor, Plans}

-- ---- names

same_is : (x y : List ℕ) → is_same x y ≡ true → x ≡ y
same_is x y is = elim (byte_order x y) as (λ r. byte_order x y ≡ r → is_eq r ≡ true → x ≡ y) [
  | Less ↦ λ p t. absurd cc
  | Equal ↦ λ p t. same_bytes x y p
  | Greater ↦ λ p t. absurd cc
] refl is

-- what is under a name after one is put
at_cases : {X : Type 0} (o : List ℕ) (x : X) (all : List ℕ → X) (u : List ℕ)
    → ((u ≡ o) × (at_name o x all u ≡ x)) ⊎ (at_name o x all u ≡ all u)
at_cases o x all u = elim (cases_Bool (is_same u o)) [
  | inl same ↦ inl (same_is u o same, ap (λ b. cond b x (all u)) same)
  | inr other ↦ inr (ap (λ b. cond b x (all u)) other)
]

-- ---- what stands where it stood

-- the pages of the draft's objects that stand where they stood
abbrev AreKept : (List ℕ → Option Layout) → CollDraft → Type 0
AreKept layouts d = (o : List ℕ) (x : Draft) (page : ℕ) (place : Place) → IsName o → d.layout o ≡ Some x → finite.get x.kept page ≡ Some place
    → finite.get (or_empty (layouts o)).pages page ≡ Some place

module _ (layouts : List ℕ → Option Layout) (d : CollDraft) (kept : AreKept layouts d) where
  -- a missing object has none
  new_kept : (o : List ℕ) (page : ℕ) (place : Place) → IsName o → finite.get (or_new (d.layout o)).kept page ≡ Some place
      → finite.get (or_empty (layouts o)).pages page ≡ Some place
  new_kept o page place name is = elim (d.layout o) as (λ z. d.layout o ≡ z → finite.get (or_new z).kept page ≡ Some place
      → finite.get (or_empty (layouts o)).pages page ≡ Some place) [
        | None ↦ λ p is. absurd (let t = sym (finite.get-empty nat_cmp page) ∙ is in cc)
        | Some x ↦ λ p is. kept o x page place name p is
      ] refl is

  still_kept : (e : Edit) (n : ℕ) (x : Draft) (page : ℕ) (place : Place) → finite.get (drafted e n x).kept page ≡ Some place
      → finite.get x.kept page ≡ Some place
  still_kept e n x page place is = by (is_left (fate_of e x page)) (sym (finite.get-retain_keys x.kept (λ page. is_left (fate_of e x page)) page
      (λ other tied. ap (λ q. is_left (fate_of e x q)) (sym (nat_cmp-IsAntisymmetric page other tied)))) ∙ is)
    where
      by : (b : Bool) → cond b (finite.get x.kept page) None ≡ Some place → finite.get x.kept page ≡ Some place
      by true is = is
      by false is = absurd cc

  after_kept : (op : Op) (y : Draft) (page : ℕ) (place : Place) → IsName (object_of op) → draft_after op d ≡ Some y
      → finite.get y.kept page ≡ Some place → finite.get (or_empty (layouts (object_of op))).pages page ≡ Some place
  after_kept op y page place named is at = by op named is
    where
      edited : (o : List ℕ) → IsName o → (e : Edit) → Some (drafted e d.taken (or_new (d.layout o))) ≡ Some y
          → finite.get (or_empty (layouts o)).pages page ≡ Some place
      edited o name e is =
          let same : drafted e d.taken (or_new (d.layout o)) ≡ y = cc in
          new_kept o page place name (still_kept e d.taken (or_new (d.layout o)) page place (ap (λ (z : Draft). finite.get z.kept page) same ∙ at))

      stays : (o : List ℕ) → IsName o → (x : Option Edit)
          → option_map_or (λ e. Some (drafted e d.taken (or_new (d.layout o)))) x (d.layout o) ≡ Some y
          → finite.get (or_empty (layouts o)).pages page ≡ Some place
      stays o name None is = kept o y page place name is at
      stays o name (Some e) is = edited o name e is

      by : (op : Op) → IsName (object_of op) → draft_after op d ≡ Some y → finite.get (or_empty (layouts (object_of op))).pages page ≡ Some place
      by (Remove u) name is = absurd cc
      by op name is = stays (object_of op) name (edit_on op (d.layout (object_of op))) is

  kept_after : (op : Op) → AreKept layouts (with_op op d)
  kept_after op o x page place name is at = elim (at_cases (object_of op) (draft_after op d) d.layout o) [
    | inl mine ↦ subst (λ u. finite.get (or_empty (layouts u)).pages page ≡ Some place) (sym mine.0)
        (after_kept op x page place (subst IsName mine.0 name) (sym mine.1 ∙ is) at)
    | inr other ↦ kept o x page place name (sym other ∙ is) at
  ]

-- ---- places

-- a page of an object that is there stands on the unit, and this checksum is kept for it
pub record IsPageOf (w : Width) (rows : Rows) (on : PageUnit) : Type 0 where
  pub coll : List ℕ
  pub object : List ℕ
  pub page : ℕ
  pub is_on : IsPageOn w rows coll object page on
  pub size : ℕ
  pub there : HasOnode rows coll object size

module _ (w : Width) (rows : Rows) (c : List ℕ) (layouts : List ℕ → Option Layout) (has : (o : List ℕ) → IsName o → HasLayout w rows c o (layouts o)) where
  page_of_layout : (on : Place → PageUnit) → PlacesStand w rows layouts on → (o : List ℕ) (page : ℕ) (place : Place) → IsName o
      → finite.get (or_empty (layouts o)).pages page ≡ Some place → IsPageOf w rows (on place)
  page_of_layout on stand o page place name is = by (layouts o) (has o name) is (stand o page place name is)
    where
      by : (x : Option Layout) → HasLayout w rows c o x → finite.get (or_empty x).pages page ≡ Some place → StandsOn w rows place (on place)
          → IsPageOf w rows (on place)
      by None missing is at = absurd (let t = sym (finite.get-empty nat_cmp page) ∙ is in cc)
      by (Some l) stands is at = record {
        coll = c;
        object = o;
        page = page;
        is_on = record { place = place; at = (stands.1 page place).0 is; stands = at };
        size = l.size;
        there = stands.0;
      }

  module _ (d : CollDraft) (kept : AreKept layouts d) (stand : PlacesStand w rows layouts d.on) where
    at_page : (o : List ℕ) (e : Edit) (page : ℕ) → IsName o → AllByRecursion (IsPageOf w rows) (option_to_list (place_read d.on (fate_of e (or_new (d.layout o)) page) (finite.get (or_new (d.layout o)).kept page)))
    at_page o e page name = by (needs_old (fate_of e (or_new (d.layout o)) page)) (finite.get (or_new (d.layout o)).kept page) refl
      where
        by : (b : Bool) (x : Option Place) → finite.get (or_new (d.layout o)).kept page ≡ x → AllByRecursion (IsPageOf w rows) (option_to_list (cond b (option_map d.on x) None))
        by false x is = tt
        by true None is = tt
        by true (Some place) is = (page_of_layout d.on stand o page place name (new_kept layouts d kept o page place name is), tt)

    at_pages : (o : List ℕ) (e : Edit) → IsName o → (pages : List ℕ)
        → AllByRecursion (IsPageOf w rows) (flat_map (λ page. option_to_list (place_read d.on (fate_of e (or_new (d.layout o)) page) (finite.get (or_new (d.layout o)).kept page))) pages)
    at_pages o e name [] = tt
    at_pages o e name (page ∷ pages) = both (option_to_list (place_read d.on (fate_of e (or_new (d.layout o)) page) (finite.get (or_new (d.layout o)).kept page))) _ (at_page o e page name) (at_pages o e name pages)
      where
        both : (xs ys : List PageUnit) → AllByRecursion (IsPageOf w rows) xs → AllByRecursion (IsPageOf w rows) ys → AllByRecursion (IsPageOf w rows) (xs ++ ys)
        both [] ys a b = b
        both (x ∷ xs) ys a b = (a.0, both xs ys a.1 b)

    on_places : (op : Op) → IsTaken d op → AllByRecursion (IsPageOf w rows) (places_on op d)
    on_places op taken = by op taken
      where
        of_edit : (o : List ℕ) (e : Edit) → IsName o → AllByRecursion (IsPageOf w rows) (places_read d.on e (or_new (d.layout o)))
        of_edit o e name = at_pages o e name (pages_put e (or_new (d.layout o)))

        either : (o : List ℕ) (x : Option Edit) → IsName o → AllByRecursion (IsPageOf w rows) (option_map_or (λ e. places_read d.on e (or_new (d.layout o))) x [])
        either o None name = tt
        either o (Some e) name = of_edit o e name

        by : (op : Op) → IsTaken d op → AllByRecursion (IsPageOf w rows) (places_on op d)
        by MkColl taken = tt
        by RmColl taken = tt
        by (Clone o to) taken = absurd taken
        by (CloneRange o to src len dst) taken = absurd taken
        by (Touch o) taken = either o (edit_on (Touch o) (d.layout o)) taken.named
        by (Write o off bytes) taken = either o (edit_on (Write o off bytes) (d.layout o)) taken.named
        by (Zero o off len) taken = either o (edit_on (Zero o off len) (d.layout o)) taken.named
        by (Truncate o to) taken = either o (edit_on (Truncate o to) (d.layout o)) taken.named
        by (Remove o) taken = tt
        by (SetAttr o name value) taken = tt
        by (RmAttr o name) taken = tt
        by (RmAttrs o) taken = tt
        by (OmapSet o pairs) taken = tt
        by (OmapRm o keys) taken = tt
        by (OmapRmRange o first last) taken = tt
        by (OmapClear o) taken = tt
        by (OmapHeader o value) taken = tt

  all_places : (ops : List Op) (d : CollDraft) → AreKept layouts d → PlacesStand w rows layouts d.on → AreTaken ops d → AllByRecursion (IsPageOf w rows) (places_of ops d)
  all_places [] d kept stand taken = tt
  all_places (op ∷ ops) d kept stand taken =
      both (places_on op d) (places_of ops (with_op op d)) (on_places d kept stand op taken.0)
      (all_places ops (with_op op d) (kept_after layouts d kept op) stand taken.1)
    where
      both : (xs ys : List PageUnit) → AllByRecursion (IsPageOf w rows) xs → AllByRecursion (IsPageOf w rows) ys → AllByRecursion (IsPageOf w rows) (xs ++ ys)
      both [] ys a b = b
      both (x ∷ xs) ys a b = (a.0, both xs ys a.1 b)

-- ---- transactions

kept_first : (w : Width) (rows : Rows) (c : List ℕ) (layouts : List ℕ → Option Layout) (d : CollDraft) → Begins w rows c layouts d → AreKept layouts d
kept_first w rows c layouts d begins o x page place name is at = by (layouts o) (sym (begins.drafts o name) ∙ is)
  where
    by : (l : Option Layout) → option_map draft_of l ≡ Some x → finite.get (or_empty l).pages page ≡ Some place
    by None e = absurd cc
    by (Some l) e = let same : draft_of l ≡ x = cc in ap (λ (z : Draft). finite.get z.kept page) same ∙ at

pub asked_places : (w : Width) (change : Change) (rows : Rows) (need : ℕ) (places : List PageUnit) → AsksFor w change rows need places
    → AllByRecursion (IsPageOf w rows) places
asked_places w change rows need places asks = subst (AllByRecursion (IsPageOf w rows)) (sym asks.places_are)
    (all_places w rows change.coll asks.layouts asks.begins.has change.ops asks.start
    (kept_first w rows change.coll asks.layouts asks.start asks.begins) asks.begins.stand asks.taken)

-- so a page stands on each of their units
pub units_have_pages : (w : Width) (rows : Rows) (places : List PageUnit) → AllByRecursion (IsPageOf w rows) places
    → AllByRecursion (HasPage w rows) (map (λ on. on.unit) places)
units_have_pages w rows [] all = tt
units_have_pages w rows (on ∷ places) all = (
  record { coll = all.0.coll; object = all.0.object; page = all.0.page; on = on; is_on = all.0.is_on; is_unit = refl },
  units_have_pages w rows places all.1,
)

all_units : (P : ℕ → Type 0) (read : List ReadUnit) → AllByRecursion P (map (λ r. r.unit) read) → AllByRecursion (λ r. P r.unit) read
all_units P [] all = tt
all_units P (r ∷ read) all = (all.0, all_units P read all.1)

-- and on each unit that was read for a plan
pub plan_read : (w : Width) (change : Change) (rows : Rows) (space : Space) (next : ℕ) (plan : Plan) → Plans w change rows space next plan
    → AllByRecursion (λ r. HasPage w rows r.unit) plan.read
plan_read w change rows space next plan is = all_units (HasPage w rows) plan.read (subst (AllByRecursion (HasPage w rows)) (sym is.read.units)
    (units_have_pages w rows (places_of change.ops is.start)
    (all_places w rows change.coll is.layouts is.begins.has change.ops is.start
    (kept_first w rows change.coll is.layouts is.start is.begins) is.begins.stand is.taken)))
