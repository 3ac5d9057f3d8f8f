-- The names of collections and of objects that rows have are the keys of objects that have the shape of the rows.
use Rattle.std.proofs.Common.{◌≡◌, ℕ, List, Option, Some, None, true, false, is_some, refl, sym, ap, subst, ◌∙◌, option_and_then}
use Rattle.std.specs.FinMap as finite
use Rattle.meta_rows.specs.Prelude.{Rows}
use Rattle.meta_log.specs.declared.slot.Super.{Super}
use Rattle.meta_log.specs.Prelude.{width_of}
use Rattle.object_model.specs.Prelude.{Collection, Objects, object_under}
use Rattle.unit_fields.specs.Prelude.{IsCollName}
use Rattle.unit_fields.specs.declared.width.Width.{Width}
use Rattle.row_format.specs.Prelude.{coll_key, Row, row_key, FitsRow}
use Rattle.row_format.proofs.Prelude.{under_coll}
use Rattle.store_image.specs.Prelude.{HasKey, NoBadRow, IsShape}
use Rattle.row_facts.proofs.ByRow.{object_present}
use Rattle.read_facts.specs.Prelude.{IsCollection, IsObject, AreAll}
use Rattle.read_facts.proofs.Walks.{keys_are_all}

-- a row under the key of a collection names a collection
coll_named : (w : Width) (c : List ℕ) (row : Row) → FitsRow w row → coll_key c ≡ row_key row → IsCollName c
coll_named w c row fits is = subst (FitsRow w) (under_coll w c row fits is) fits

-- what an option that is there holds
pub some_of : {X : Type 0} (x : Option X) → is_some x ≡ true → (v : X) × (x ≡ Some v)
some_of None e = absurd cc
some_of (Some v) e = (v, refl)

-- one that isn't there holds nothing
pub none_of : {X : Type 0} (x : Option X) → is_some x ≡ false → x ≡ None
none_of None e = refl
none_of (Some v) e = absurd cc

-- the collections
pub coll_keys : (s : Super) (rows : Rows) (objects : Objects) → NoBadRow s rows → IsShape rows objects
    → AreAll (IsCollection rows) (finite.keys objects)
coll_keys s rows objects good shape =
    keys_are_all (IsCollection rows) objects (λ name is. shape.collections name ∙ is.there) (λ name has.
    let there : HasKey rows (coll_key name) = sym (shape.collections name) ∙ has in
    let value = some_of (finite.get rows (coll_key name)) there in
    let row = good (coll_key name) value.0 value.1 in
    record { named = coll_named (width_of s) name row.row row.fits row.key_is; there = there })

-- the object under a name of a collection that is found
pub under_found : (objects : Objects) (c o : List ℕ) (found : Collection) → finite.get objects c ≡ Some found
    → object_under objects c o ≡ finite.get found o
under_found objects c o found is = ap (λ (x : Option Collection). option_and_then (λ (coll : Collection). finite.get coll o) x) is

-- the objects of one
pub object_keys : (rows : Rows) (objects : Objects) (c : List ℕ) (found : Collection) → IsShape rows objects → IsCollName c
    → finite.get objects c ≡ Some found → AreAll (IsObject rows c) (finite.keys found)
object_keys rows objects c found shape named is =
    keys_are_all (IsObject rows c) found (λ name its.
    sym (ap is_some (under_found objects c name found is)) ∙ (object_present rows objects c name shape named its.named).1 its.there) (λ name has.
    let object = some_of (finite.get found name) has in
    let size = (shape.present c name object.0 (under_found objects c name found is ∙ object.1)).size in
    record { named = size.fits.1; there = ap is_some size.stands })
