-- A walk over all objects, where the device tells what it holds, shows the objects that rows and units stand for, over the valuation of `Seen`.
use Rattle.std.proofs.Common.{◌≡◌, ℕ, List, [], ◌∷◌, length, map, Option, Some, None, unwrap_or, is_some, true, Result, Ok, Err, refl, sym, ap, ◌∙◌}
use Rattle.std.specs.List.{AllByRecursion}
use Rattle.std.specs.FinMap as finite
use Rattle.std.proofs.lemmas.Option.{same_Some}
use Rattle.unit_fields.specs.declared.width.Width.{Width}
use Rattle.crc32c_csum.specs.Prelude.{crc32c}
use Rattle.block_device.specs.Prelude.{Disk, History, last_at, HasNoBadDone}
use Rattle.object_model.specs.declared.command.Read.TheVariants as reads
use Rattle.object_model.specs.declared.command.Answer.{Answer}
use Rattle.object_model.specs.declared.command.Answer.TheVariants as answer
use Rattle.object_model.specs.Prelude.{Object, Collection, Objects, object_under, read_reply}
use Rattle.byte_maps.specs.ByteMap.{ByteMap}
use Rattle.unit_fields.specs.Prelude.{IsName}
use Rattle.meta_rows.specs.Prelude.{Rows}
use Rattle.row_format.specs.Prelude.{attr_key, omap_key}
use Rattle.meta_log.specs.declared.slot.Super.{Super}
use Rattle.store_image.specs.Prelude.{NoBadRow, HasPage, IsObjectShape, ObjectsStand}
use Rattle.row_facts.proofs.ByRow.{object_present}
use Rattle.read_facts.specs.declared.view.BadSum.{BadSum}
use Rattle.read_facts.specs.declared.view.CollView.{CollView}
use Rattle.read_facts.specs.declared.view.ObjectView.{ObjectView}
use Rattle.read_facts.specs.declared.view.ValueView.{ValueView}
use Rattle.read_facts.specs.Prelude.{IsCollection, IsObject, IsHeldAt, Gives, IsValueOf, value_names, AreValues, sum_answer, IsViewOf, object_names, coll_names, IsViewed, IsWhole, AreWholeButLast, WalksTo, WalksAll, values_in, object_view, views_in, views_of, IsGoodView, HasGoodViews}
use Rattle.read_facts.proofs.Walks.{one_order, each_is, all_to, all_by, got_each, keys_are_all}
use Rattle.read_facts.proofs.Keys.{coll_keys, object_keys, under_found, some_of}
use Rattle.read_facts.proofs.Found.{sum_taken}
use Rattle.read_facts.proofs.Plain.{size_is, sum_given}
use Rattle.read_facts.proofs.Seen.{seen_answer}

-- ---- lists

-- what holds of each image holds of each by its image
all_unmapped : {A B : Type 0} (f : A → B) (P : B → Type 0) (xs : List A) → AllByRecursion P (map f xs) → AllByRecursion (λ (x : A). P (f x)) xs
all_unmapped f P [] all = tt
all_unmapped f P (x ∷ xs) all = (all.0, all_unmapped f P xs all.1)

-- a list under the same names as another is made of it, where each is made of the one of its name
made_of : {A B : Type 0} (name : A → List ℕ) (key : B → List ℕ) (f : B → A) (P : A → Type 0) (Q : B → Type 0)
    → ((a : A) (b : B) → name a ≡ key b → P a → Q b → a ≡ f b) → (xs : List A) (ys : List B) → map name xs ≡ map key ys
    → AllByRecursion P xs → AllByRecursion Q ys → xs ≡ map f ys
made_of name key f P Q is [] [] same p q = refl
made_of name key f P Q is [] (b ∷ ys) same p q = absurd cc
made_of name key f P Q is (a ∷ xs) [] same p q = absurd cc
made_of name key f P Q is (a ∷ xs) (b ∷ ys) same p q =
    let heads : name a ≡ key b = cc in
    let tails : map name xs ≡ map key ys = cc in
    let first = is a b heads p.0 q.0 in
    let rest = made_of name key f P Q is xs ys tails p.1 q.1 in
    λ i. first i ∷ rest i

-- each collection was viewed
each_viewed : (w : Width) (memory : ℕ → Option (List ℕ)) (held : ℕ → List ℕ → Type 0) (rows : Rows) (colls : List CollView)
    → AreWholeButLast w memory held rows colls → AllByRecursion (IsViewed w memory held rows) colls
each_viewed w memory held rows [] are = tt
each_viewed w memory held rows (v ∷ []) are = (are, tt)
each_viewed w memory held rows (v ∷ next ∷ more) are = (are.0.viewed, each_viewed w memory held rows (next ∷ more) are.1)

-- ---- an object's values of one kind

-- all values that rows have are those of a map, where it has under each name what the rows have under its key
module _ (key_of : List ℕ → List ℕ) (rows : Rows) (m : ByteMap (List ℕ))
    (named : (name : List ℕ) → is_some (finite.get m name) ≡ true → IsName name)
    (same : (name : List ℕ) → IsName name → finite.get m name ≡ finite.get rows (key_of name)) where
  -- a value is the map's entry of its name
  value_is : (v : ValueView) (e : List ℕ × List ℕ) → v.name ≡ e.0 → finite.get rows (key_of v.name) ≡ Some v.value → finite.get m e.0 ≡ Some e.1
      → v ≡ record { name = e.0; value = e.1 }
  value_is v e name held got =
      let value : v.value ≡ e.1 =
      same_Some v.value e.1 (sym held ∙ ap (λ (n : List ℕ). finite.get rows (key_of n)) name ∙ sym (same e.0 (named e.0 (ap is_some got))) ∙ got) in
      λ i. record { name = name i; value = value i }

  pub values_are : (values : List ValueView) → AreValues key_of rows values → values ≡ values_in m
  values_are values are =
      let names : value_names values ≡ finite.keys m =
      one_order (IsValueOf key_of rows) (value_names values) (finite.keys m) are.all
      (keys_are_all (IsValueOf key_of rows) m (λ name its. ap is_some (same name its.named) ∙ its.there) (λ name has.
      let is : IsName name = named name has in
      record { named = is; there = sym (ap is_some (same name is)) ∙ has })) in
      made_of (λ (v : ValueView). v.name) (λ (e : List ℕ × List ℕ). e.0) (λ (e : List ℕ × List ℕ). record { name = e.0; value = e.1 })
      (λ (v : ValueView). finite.get rows (key_of v.name) ≡ Some v.value) (λ (e : List ℕ × List ℕ). finite.get m e.0 ≡ Some e.1) value_is values
      (finite.entries m) names are.each (got_each m)

-- the checksum in an answer
abbrev crc_of : Answer → ℕ
crc_of (answer.Sum size crc) = crc
crc_of a = 0

module _ (w : Width) (memory : ℕ → Option (List ℕ)) (d : Disk) (h : History) (tells : d.history ≡ Some h)
    (rows : Rows) (answered : (unit : ℕ) → HasPage w rows unit → memory unit ≡ None → HasNoBadDone h.log unit) (at : ℕ → List ℕ)
    (valued : (unit : ℕ) → at unit ≡ unwrap_or (memory unit) (last_at h unit)) (objects : Objects) (stand : ObjectsStand w at rows objects) where
  -- ---- one object

  module _ (c o : List ℕ) (coll : IsCollection rows c) (is : IsObject rows c o) (object : Object)
      (under : object_under objects c o ≡ Some object) where
    -- the reply to a sum is the object's
    sum_reply : answer.Sum (length object.bytes) (crc32c object.bytes) ≡ read_reply (reads.Sum c o) objects
    sum_reply =
        let given = sum_given objects c o (sum_taken rows c o coll.named is.named coll.there is.there objects stand.shape) in
        let same : object ≡ given.object = same_Some object given.object (sym under ∙ given.under) in
        ap (λ (b : Object). answer.Sum (length b.bytes) (crc32c b.bytes)) same ∙ sym given.reply

    -- the checksum in a view is the object's
    sum_is : (size : ℕ) (sum : Result ℕ BadSum) → Gives w memory (IsHeldAt d) rows (reads.Sum c o) (sum_answer size sum)
        → sum ≡ Ok (crc32c object.bytes)
    sum_is size (Ok crc) gives =
        let e = seen_answer w memory d h tells rows answered at valued objects stand (reads.Sum c o) (answer.Sum size crc) (coll.named, is.named)
        (sum_taken rows c o coll.named is.named coll.there is.there, gives) in
        ap Ok (ap crc_of (e ∙ sym sum_reply))
    sum_is size (Err bad) gives =
        let e = seen_answer w memory d h tells rows answered at valued objects stand (reads.Sum c o) (answer.Csum bad.unit bad.kept bad.found)
        (coll.named, is.named) (sum_taken rows c o coll.named is.named coll.there is.there, gives) in
        absurd (let same = e ∙ sym sum_reply in cc)

  -- a view of an object is good
  good_view : (c : List ℕ) (v : ObjectView) → IsCollection rows c → IsViewOf w memory (IsHeldAt d) rows c v → IsGoodView v
  good_view c v coll view =
      let object = some_of (object_under objects c v.name)
      ((object_present rows objects c v.name stand.shape coll.named view.is.named).1 view.is.there) in
      (crc32c object.0.bytes, sum_is c v.name coll view.is object.0 object.1 v.size v.sum view.sums)

  -- it is the view of the object under its name
  view_is : (c : List ℕ) (found : Collection) → IsCollection rows c → finite.get objects c ≡ Some found → (v : ObjectView) (e : List ℕ × Object)
      → v.name ≡ e.0 → IsViewOf w memory (IsHeldAt d) rows c v → finite.get found e.0 ≡ Some e.1
      → v ≡ object_view e.0 e.1
  view_is c found coll there v e name view got =
      let under : object_under objects c v.name ≡ Some e.1 = under_found objects c v.name found there ∙ ap (finite.get found) name ∙ got in
      let size : v.size ≡ length e.1.bytes = size_is w rows objects stand.shape c v.name e.1 v.size under view.has_size in
      let sum : v.sum ≡ Ok (crc32c e.1.bytes) = sum_is c v.name coll view.is e.1 under v.size v.sum view.sums in
      let shape : IsObjectShape rows c v.name e.1 = stand.shape.present c v.name e.1 under in
      let attrs : v.attrs ≡ values_in e.1.attrs = values_are (attr_key c v.name) rows e.1.attrs shape.attr_names shape.attrs v.attrs view.attrs in
      let header : v.header ≡ e.1.header = view.header ∙ sym shape.header in
      let omap : v.omap ≡ values_in e.1.omap = values_are (omap_key c v.name) rows e.1.omap shape.omap_keys shape.omap v.omap view.omap in
      λ i. record { name = name i; size = size i; sum = sum i; attrs = attrs i; header = header i; omap = omap i }

  -- ---- one collection

  -- the views of a collection are good
  viewed_good : (v : CollView) → IsCollection rows v.coll → IsViewed w memory (IsHeldAt d) rows v → HasGoodViews v
  viewed_good v coll viewed =
      all_to (IsViewOf w memory (IsHeldAt d) rows v.coll) IsGoodView (λ view is. good_view v.coll view coll is) v.objects viewed.each

  -- a collection all of whose objects were viewed is the view of the one under its name
  whole_is : (v : CollView) (e : List ℕ × Collection) → v.coll ≡ e.0 → IsCollection rows v.coll × IsWhole w memory (IsHeldAt d) rows v
      → finite.get objects e.0 ≡ Some e.1
      → v ≡ record { coll = e.0; objects = views_in e.1 }
  whole_is v e name (coll, whole) got =
      let there : finite.get objects v.coll ≡ Some e.1 = ap (finite.get objects) name ∙ got in
      let names : object_names v.objects ≡ finite.keys e.1 =
      one_order (IsObject rows v.coll) (object_names v.objects) (finite.keys e.1) (record { next = whole.viewed.next; past = whole.past })
      (object_keys rows objects v.coll e.1 stand.shape coll.named there) in
      let views : v.objects ≡ views_in e.1 =
      made_of (λ (view : ObjectView). view.name) (λ (f : List ℕ × Object). f.0)
      (λ (f : List ℕ × Object). object_view f.0 f.1)
      (IsViewOf w memory (IsHeldAt d) rows v.coll) (λ (f : List ℕ × Object). finite.get e.1 f.0 ≡ Some f.1) (view_is v.coll e.1 coll there) v.objects
      (finite.entries e.1)
      names whole.viewed.each (got_each e.1) in
      λ i. record { coll = name i; objects = views i }

  -- ---- all of them

  -- each view of a walk is good
  pub walk_good : (colls : List CollView) → WalksTo w memory (IsHeldAt d) rows colls → AllByRecursion HasGoodViews colls
  walk_good colls walk =
      all_by (λ (v : CollView). IsCollection rows v.coll) (IsViewed w memory (IsHeldAt d) rows) HasGoodViews viewed_good colls
      (all_unmapped (λ (v : CollView). v.coll) (IsCollection rows) colls (each_is (IsCollection rows) None (coll_names colls) walk.next))
      (each_viewed w memory (IsHeldAt d) rows colls walk.each)

  -- a walk over all objects is the views of the objects
  pub walk_is : (s : Super) → NoBadRow s rows → (colls : List CollView) → WalksAll w memory (IsHeldAt d) rows colls → colls ≡ views_of objects
  walk_is s good colls walk =
      let names : coll_names colls ≡ finite.keys objects =
      one_order (IsCollection rows) (coll_names colls) (finite.keys objects) walk.all (coll_keys s rows objects good stand.shape) in
      let each : AllByRecursion (λ (v : CollView). IsCollection rows v.coll × IsWhole w memory (IsHeldAt d) rows v) colls =
      all_by (λ (v : CollView). IsCollection rows v.coll) (IsWhole w memory (IsHeldAt d) rows)
      (λ (v : CollView). IsCollection rows v.coll × IsWhole w memory (IsHeldAt d) rows v)
      (λ v coll whole. (coll, whole)) colls
      (all_unmapped (λ (v : CollView). v.coll) (IsCollection rows) colls (each_is (IsCollection rows) None (coll_names colls) walk.all.next))
      walk.each in
      made_of (λ (v : CollView). v.coll) (λ (e : List ℕ × Collection). e.0)
      (λ (e : List ℕ × Collection). record { coll = e.0; objects = views_in e.1 })
      (λ (v : CollView). IsCollection rows v.coll × IsWhole w memory (IsHeldAt d) rows v)
      (λ (e : List ℕ × Collection). finite.get objects e.0 ≡ Some e.1) whole_is colls (finite.entries objects) names each (got_each objects)
