-- Shards read one after the other.
use Rattle.std.proofs.Common.{◌≡◌, inl, inr, ℕ, List, [], ◌∷◌, ◌++◌, map, refl, sym, ap, subst, ◌∙◌, append_assoc, append-nil}
use Rattle.std.specs.List.{flat_map, AllByRecursion}
use Rattle.std.specs.FinMap as finite
use Rattle.std.proofs.lemmas.List.Concat.{flat_map-append}
use Rattle.unit_fields.specs.declared.width.Width.{Width}
use Rattle.row_format.specs.Prelude.{Extent, BeginsAt}
use Rattle.onode_codec.specs.Reading.{SpellExtents}
use Rattle.onode_codec.proofs.Again.{same_extents}
use Rattle.blob_map.specs.Prelude.{PageMap, HasNumbers, extent_pages, with_pages}
use Rattle.blob_map.proofs.Lay.{laid_append}
use Rattle.object_rows.specs.Shards.{extents_in, first_pages}
use Rattle.object_rows.proofs.Lists.{all_append}
use Rattle.extent_shards.specs.Prelude.{IsShardValue, AddsShard}
use Rattle.onode_state.proofs.ShardRows.{shard_entry, FitsAsShard, IsShardEntry, In}

abbrev Entry : Type 0
Entry = List ℕ × List ℕ

-- the entries are these shards' rows
pub record AreRead (w : Width) (c o : List ℕ) (entries : List (List ℕ × List ℕ)) (firsts : List ℕ) (pages : PageMap) : Type 0 where
  pub shards : List (ℕ × List Extent)
  pub fit : AllByRecursion (FitsAsShard w c o) shards
  pub entries_are : entries ≡ map (shard_entry w c o) shards
  pub firsts_are : firsts ≡ first_pages shards
  pub pages_are : pages ≡ with_pages finite.empty (flat_map extent_pages (extents_in shards))

-- nothing is read yet
pub none_read : (w : Width) (c o : List ℕ) (firsts : List ℕ) (pages : PageMap) → firsts ≡ [] → pages ≡ finite.empty → AreRead w c o [] firsts pages
none_read w c o firsts pages firsts_are pages_are =
    record { shards = []; fit = tt; entries_are = refl; firsts_are = firsts_are; pages_are = pages_are }

-- the shards that entries are the rows of
pub record AreEntriesOf (w : Width) (c o : List ℕ) (entries : List (List ℕ × List ℕ)) (shards : List (ℕ × List Extent)) : Type 0 where
  pub fit : AllByRecursion (FitsAsShard w c o) shards
  pub entries_are : entries ≡ map (shard_entry w c o) shards

pub shards_by_entries : (w : Width) (c o : List ℕ) (es : List Entry) → AllByRecursion (IsShardEntry w c o) es
    → (shards : List (ℕ × List Extent)) × AreEntriesOf w c o es shards
shards_by_entries w c o [] all = ([], record { fit = tt; entries_are = refl })
shards_by_entries w c o (e ∷ es) all =
    let others = shards_by_entries w c o es all.1 in
    let entry = all.0 in (
      (entry.page, entry.extents) ∷ others.0,
      record { fit = (entry.fits, others.1.fit); entries_are = λ i. entry.is i ∷ others.1.entries_are i },
    )

all_split : {X : Type 0} (P : X → Type 0) (xs ys : List X) → AllByRecursion P (xs ++ ys) → AllByRecursion P xs × AllByRecursion P ys
all_split P [] ys all = (tt, all)
all_split P (x ∷ xs) ys all = let others = all_split P xs ys all.1 in ((all.0, others.0), others.1)

-- the value of one of their rows is a shard's
pub value_in : (w : Width) (c o value : List ℕ) (shards : List (ℕ × List Extent)) (e : Entry) → AllByRecursion (FitsAsShard w c o) shards
    → AllByRecursion HasNumbers (extents_in shards) → In (map (shard_entry w c o) shards) e → value ≡ e.1 → IsShardValue w value
value_in w c o value [] e fit numbers there value_is = absurd there
value_in w c o value (x ∷ xs) e fit numbers (inl same) value_is = record {
  page = x.0;
  extents = x.1;
  begins = fit.0.begins;
  spelled = record { fit = fit.0.fit; spelled = value_is ∙ ap (λ (y : Entry). y.1) (sym same) };
  numbers = (all_split HasNumbers x.1 (extents_in xs) numbers).0;
}
value_in w c o value (x ∷ xs) e fit numbers (inr later) value_is =
    value_in w c o value xs e fit.1 (all_split HasNumbers x.1 (extents_in xs) numbers).1 later value_is

map_append : {X Y : Type 0} (f : X → Y) (xs ys : List X) → map f (xs ++ ys) ≡ map f xs ++ map f ys
map_append f [] ys = refl
map_append f (x ∷ xs) ys = ap (λ l. f x ∷ l) (map_append f xs ys)

extents_behind : (xs : List (ℕ × List Extent)) (x : ℕ × List Extent) → extents_in (xs ++ x ∷ []) ≡ extents_in xs ++ x.1
extents_behind [] x = append-nil x.1
extents_behind (y ∷ ys) x = ap (λ l. y.1 ++ l) (extents_behind ys x) ∙ sym (append_assoc y.1 (extents_in ys) x.1)

same_begin : (es fs : List Extent) (a b : ℕ) → es ≡ fs → BeginsAt a es → BeginsAt b fs → a ≡ b
same_begin [] fs a b same p q = absurd p
same_begin (e ∷ es) fs a b same p q = sym p ∙ begins (subst (BeginsAt b) (sym same) q)
  where
    begins : BeginsAt b (e ∷ es) → e.first ≡ b
    begins h = h

-- one entry more is read
pub read_more : (w : Width) (c o value : List ℕ) (es : List Entry) (e : Entry) (firsts firsts' : List ℕ) (pages pages' : PageMap)
    → IsShardEntry w c o e → value ≡ e.1 → AddsShard w value firsts pages firsts' pages' → AreRead w c o es firsts pages
    → AreRead w c o (es ++ e ∷ []) firsts' pages'
read_more w c o value es e firsts firsts' pages pages' entry value_is adds read =
    let spelled : SpellExtents w value entry.extents =
    record { fit = entry.fits.fit; spelled = value_is ∙ ap (λ (x : Entry). x.1) entry.is } in
    let own : adds.own ≡ entry.extents = same_extents w value adds.own entry.extents adds.spelled spelled in
    let page : adds.page ≡ entry.page = same_begin adds.own entry.extents adds.page entry.page own adds.begins entry.fits.begins in
    let x : ℕ × List Extent = (entry.page, entry.extents) in
    record {
      shards = read.shards ++ x ∷ [];
      fit = all_append (FitsAsShard w c o) read.shards (x ∷ []) read.fit (entry.fits, tt);
      entries_are = ap (λ l. l ++ e ∷ []) read.entries_are ∙ ap (λ (y : Entry). map (shard_entry w c o) read.shards ++ y ∷ []) entry.is
          ∙ sym (map_append (shard_entry w c o) read.shards (x ∷ []));
      firsts_are = adds.firsts_are ∙ ap (λ l. l ++ adds.page ∷ []) read.firsts_are ∙ ap (λ (n : ℕ). first_pages read.shards ++ n ∷ []) page
          ∙ sym (map_append (λ (y : ℕ × List Extent). y.0) read.shards (x ∷ []));
      pages_are = adds.pages_are ∙ ap (λ m. with_pages m (flat_map extent_pages adds.own)) read.pages_are
          ∙ ap (λ es. with_pages (with_pages finite.empty (flat_map extent_pages (extents_in read.shards))) (flat_map extent_pages es)) own
          ∙ sym (laid_append finite.empty (flat_map extent_pages (extents_in read.shards)) (flat_map extent_pages x.1))
          ∙ ap (with_pages finite.empty) (sym (flat_map-append extent_pages (extents_in read.shards) x.1))
          ∙ ap (λ es. with_pages finite.empty (flat_map extent_pages es)) (sym (extents_behind read.shards x));
    }
