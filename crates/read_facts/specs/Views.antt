-- What a walk over all objects shows of them.
use Rattle.std.specs.Prelude.{◌≡◌, ℕ, List, [], ◌∷◌, length, map, Option, Some, None, Result, Ok, Err}
use Rattle.std.specs.List.{AllByRecursion}
use Rattle.std.specs.FinMap as finite
use Rattle.unit_fields.specs.declared.width.Width.{Width}
use Rattle.crc32c_csum.specs.Prelude.{crc32c}
use Rattle.byte_maps.specs.ByteMap.{ByteMap}
use Rattle.unit_fields.specs.Prelude.{IsName}
use Rattle.object_model.specs.Prelude.{Object, Collection, Objects}
use Rattle.object_model.specs.declared.command.Read.TheVariants as reads
use Rattle.object_model.specs.declared.command.Answer.{Answer}
use Rattle.object_model.specs.declared.command.Answer.TheVariants as answer
use Rattle.meta_rows.specs.Prelude.{Rows, row}
use Rattle.row_format.specs.Prelude.{attr_key, header_key, omap_key}
use Rattle.store_image.specs.Prelude.{HasKey}
use Rattle.read_facts.specs.declared.view.BadSum.{BadSum}
use Rattle.read_facts.specs.declared.view.CollView.{CollView}
use Rattle.read_facts.specs.declared.view.ObjectView.{ObjectView}
use Rattle.read_facts.specs.declared.view.ValueView.{ValueView}
use Rattle.read_facts.specs.Walks.{IsCollection, IsObject, AreNext, IsPast, last_of, AreAll}
use Rattle.read_facts.specs.Answers.{Gives}

-- ---- an object's values of one kind: its attributes, or the pairs of its omap

-- the rows have a value of this name, by the key of its row
pub record IsValueOf (key_of : List ℕ → List ℕ) (rows : Rows) (name : List ℕ) : Type 0 where
  pub named : IsName name
  pub there : HasKey rows (key_of name)

abbrev pub value_names : List ValueView → List (List ℕ)
value_names values = map (λ v. v.name) values

-- these are all of them, in the byte order of their names
pub record AreValues (key_of : List ℕ → List ℕ) (rows : Rows) (values : List ValueView) : Type 0 where
  pub all : AreAll (IsValueOf key_of rows) (value_names values)
  pub each : AllByRecursion (λ v. finite.get rows (key_of v.name) ≡ Some v.value) values

-- ---- objects, collections and all of them

-- what a view says of the bytes, as an answer: their size and checksum, or the bad unit
abbrev pub sum_answer : ℕ → Result ℕ BadSum → Answer
sum_answer size (Ok crc) = answer.Sum size crc
sum_answer size (Err bad) = answer.Csum bad.unit bad.kept bad.found

-- the view is of an object of the collection
pub record IsViewOf (w : Width) (memory : ℕ → Option (List ℕ)) (held : ℕ → List ℕ → Type 0) (rows : Rows) (c : List ℕ)
    (v : ObjectView) : Type 0 where
  pub is : IsObject rows c v.name
  pub has_size : Gives w memory held rows (reads.Stat c v.name) (answer.Size v.size)
  pub sums : Gives w memory held rows (reads.Sum c v.name) (sum_answer v.size v.sum)
  pub attrs : AreValues (attr_key c v.name) rows v.attrs
  pub header : v.header ≡ row rows (header_key c v.name)
  pub omap : AreValues (omap_key c v.name) rows v.omap

abbrev pub object_names : List ObjectView → List (List ℕ)
object_names views = map (λ v. v.name) views

abbrev pub coll_names : List CollView → List (List ℕ)
coll_names colls = map (λ v. v.coll) colls

-- objects of a collection were viewed from the first one on
pub record IsViewed (w : Width) (memory : ℕ → Option (List ℕ)) (held : ℕ → List ℕ → Type 0) (rows : Rows) (v : CollView) : Type 0 where
  pub next : AreNext (IsObject rows v.coll) None (object_names v.objects)
  pub each : AllByRecursion (IsViewOf w memory held rows v.coll) v.objects

-- all of them were
pub record IsWhole (w : Width) (memory : ℕ → Option (List ℕ)) (held : ℕ → List ℕ → Type 0) (rows : Rows) (v : CollView) : Type 0 where
  pub viewed : IsViewed w memory held rows v
  pub past : IsPast (IsObject rows v.coll) (last_of None (object_names v.objects))

-- of all collections but the last of these all objects were, and of that some
abbrev pub AreWholeButLast : Width → (ℕ → Option (List ℕ)) → (ℕ → List ℕ → Type 0) → Rows → List CollView → Type 0
AreWholeButLast w memory held rows [] = Unit {0}
AreWholeButLast w memory held rows (v ∷ []) = IsViewed w memory held rows v
AreWholeButLast w memory held rows (v ∷ next ∷ more) = IsWhole w memory held rows v × AreWholeButLast w memory held rows (next ∷ more)

-- A walk has come so far: the collections in byte order from the first one on, and their objects.
pub record WalksTo (w : Width) (memory : ℕ → Option (List ℕ)) (held : ℕ → List ℕ → Type 0) (rows : Rows) (colls : List CollView) : Type 0 where
  pub next : AreNext (IsCollection rows) None (coll_names colls)
  pub each : AreWholeButLast w memory held rows colls

-- a walk over all objects
pub record WalksAll (w : Width) (memory : ℕ → Option (List ℕ)) (held : ℕ → List ℕ → Type 0) (rows : Rows) (colls : List CollView) : Type 0 where
  pub all : AreAll (IsCollection rows) (coll_names colls)
  pub each : AllByRecursion (IsWhole w memory held rows) colls

-- ---- the views of plain objects

abbrev pub values_in : ByteMap (List ℕ) → List ValueView
values_in values = map (λ e. record { name = e.0; value = e.1 }) (finite.entries values)

abbrev pub object_view : List ℕ → Object → ObjectView
object_view name object = record {
  name = name;
  size = length object.bytes;
  sum = Ok (crc32c object.bytes);
  attrs = values_in object.attrs;
  header = object.header;
  omap = values_in object.omap;
}

abbrev pub views_in : Collection → List ObjectView
views_in objects = map (λ e. object_view e.0 e.1) (finite.entries objects)

abbrev pub views_of : Objects → List CollView
views_of objects = map (λ e. record { coll = e.0; objects = views_in e.1 }) (finite.entries objects)

-- no page of an object is bad
abbrev pub IsGoodView : ObjectView → Type 0
IsGoodView v = (crc : ℕ) × (v.sum ≡ Ok crc)

abbrev pub HasGoodViews : CollView → Type 0
HasGoodViews v = AllByRecursion IsGoodView v.objects
