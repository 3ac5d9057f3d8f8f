-- Books.
use Rattle.std.proofs.Common.{◌≡◌, List, [], refl, sym, subst}
use Rattle.std.specs.List.{IsDistinct}
use Rattle.object_model.specs.declared.book.Entry.{Entry}
use Rattle.object_model.specs.declared.book.Commit.{Commit}
use Rattle.object_model.specs.declared.book.Book.{Book}
use Rattle.object_model.specs.Prelude.{Objects, IsLegal}

nothing : (objects : Objects) → IsLegal objects (record { entries = []; commits = [] })
unfolding IsDistinct
nothing objects = record { answers = tt; of_accepted = tt; once = tt; in_order = λ coll. ([], refl); acked_first = tt; counts = tt }

-- a book without entries and commits is legal
pub IsLegal-empty : (objects : Objects) (entries : List Entry) (commits : List Commit) → entries ≡ [] → commits ≡ [] → IsLegal objects (record { entries = entries; commits = commits })
IsLegal-empty objects entries commits e f = subst (λ (b : Book). IsLegal objects b) (λ i. record { entries = sym e i; commits = sym f i }) (nothing objects)
