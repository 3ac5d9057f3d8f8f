-- The names of contexts: so far each has one, that of its collection.
use Rattle.std.proofs.Common.{◌≡◌, ℕ, true, List, refl}
use Rattle.object_model.specs.Prelude.{is_named, OneName}
use Rattle.object_model.proofs.Names.{is_same_itself, only_name}
use Rattle.store_steps.specs.declared.context.Context.{Context}
use Rattle.store_steps.specs.Prelude.{colls_of}

pub has_one_coll : (x : Context) → OneName (colls_of x)
has_one_coll x = refl

pub is_own_coll : (x : Context) → is_named x.coll (colls_of x) ≡ true
is_own_coll x = is_same_itself x.coll

-- a name of a context that has one is that of its collection
pub own_coll : (x : Context) (coll : List ℕ) → OneName (colls_of x) → is_named coll (colls_of x) ≡ true → coll ≡ x.coll
own_coll x coll one is = only_name (colls_of x) coll x.coll one is (is_own_coll x)
