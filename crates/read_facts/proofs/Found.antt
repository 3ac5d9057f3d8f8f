-- What is found in objects of the rows' shape, by the rows of a collection and of an onode.
use Rattle.std.proofs.Common.{◌≡◌, ℕ, List, length, Option, Some, None, Result, Ok, Err, is_ok, refl, sym, ap, subst, ◌∙◌}
use Rattle.std.specs.Prelude.{not, IsOk, IsTrue}
use Rattle.std.specs.Option.{option_map_or}
use Rattle.std.specs.FinMap as finite
use Rattle.crc32c_csum.specs.Prelude.{crc32c}
use Rattle.object_model.specs.declared.op.Refusal.{Refusal}
use Rattle.object_model.specs.declared.op.Refusal.TheVariants.{NoCollection, NoObject, NoAttr}
use Rattle.object_model.specs.declared.command.Command.TheVariants as ask
use Rattle.object_model.specs.declared.command.Read.{Read}
use Rattle.object_model.specs.declared.command.Read.TheVariants as reads
use Rattle.object_model.specs.declared.command.Answer.{Answer}
use Rattle.object_model.specs.declared.command.Answer.TheVariants as answer
use Rattle.object_model.specs.Prelude.{Object, Collection, Objects, object_under, answer_from, found_object, read_reply, is_refused}
use Rattle.meta_rows.specs.Prelude.{Rows, row}
use Rattle.unit_fields.specs.Prelude.{IsName, IsCollName}
use Rattle.unit_fields.specs.declared.width.Width.{Width}
use Rattle.row_format.specs.Prelude.{coll_key, onode_key, attr_key, header_key, omap_key}
use Rattle.store_image.specs.Prelude.{HasKey, IsShape}
use Rattle.row_facts.proofs.ByRow.{object_absent, object_present}
use Rattle.row_facts.proofs.Replies.{coll_found}
use Rattle.read_facts.specs.Prelude.{IsRefusedBy, IsNotRefused, IsAnswerOf}
use Rattle.read_facts.proofs.Keys.{under_found, some_of}

-- ---- lookups by what is under the names

abbrev object_by : Option Object → Result Object Refusal
object_by x = option_map_or (λ (b : Object). Ok b) x (Err NoObject)

abbrev object_in : List ℕ → Option Collection → Result Object Refusal
object_in o x = option_map_or (λ (found : Collection). object_by (finite.get found o)) x (Err NoCollection)

-- what is found is answered from, and so not refused
pub answer_given : {A : Type 0} (r : Result A Refusal) (read : A → Answer) → IsOk r → ((x : A) → IsTrue (not (is_refused (read x))))
    → IsTrue (not (is_refused (answer_from r read)))
answer_given (Ok x) read ok given = given x
answer_given (Err refusal) read ok given = absurd cc

module _ (rows : Rows) (objects : Objects) (shape : IsShape rows objects) (c o : List ℕ) where
  -- where the collection is there, its objects decide
  by_under : HasKey rows (coll_key c) → found_object objects c o ≡ object_by (object_under objects c o)
  by_under has =
      let found = coll_found rows objects shape c has in
      ap (object_in o) found.1 ∙ ap object_by (sym (under_found objects c o found.0 found.1))

  pub object_missing : IsCollName c → IsName o → HasKey rows (coll_key c) → finite.get rows (onode_key c o) ≡ None
      → found_object objects c o ≡ Err NoObject
  object_missing coll name has none = by_under has ∙ ap object_by ((object_absent rows objects c o shape coll name).1 none)

  pub object_there : IsCollName c → IsName o → HasKey rows (coll_key c) → HasKey rows (onode_key c o) → IsOk (found_object objects c o)
  object_there coll name has there =
      let object = some_of (object_under objects c o) ((object_present rows objects c o shape coll name).1 there) in
      ap is_ok (by_under has ∙ ap object_by object.1)

-- so the sum of its bytes isn't refused
pub sum_taken : (rows : Rows) (c o : List ℕ) → IsCollName c → IsName o → HasKey rows (coll_key c) → HasKey rows (onode_key c o)
    → IsNotRefused rows (ask.Read (reads.Sum c o))
sum_taken rows c o coll name has there objects shape =
    answer_given (found_object objects c o) (λ b. answer.Sum (length b.bytes) (crc32c b.bytes))
    (object_there rows objects shape c o coll name has there) (λ b. refl)

-- ---- values of an object that is there

abbrev pub by_value : Option (List ℕ) → Answer
by_value x = option_map_or (λ v. answer.Bytes v) x (answer.Refused NoAttr)

module _ (rows : Rows) (c o : List ℕ) (coll : IsCollName c) (name : IsName o) (has : HasKey rows (coll_key c)) (there : HasKey rows (onode_key c o)) where
  -- a value that each such object has as the rows have it decides the answer
  answered_by : (field : Object → Option (List ℕ)) (key : List ℕ)
      → ((objects : Objects) → IsShape rows objects → (b : Object) → object_under objects c o ≡ Some b → field b ≡ finite.get rows key)
      → (objects : Objects) → IsShape rows objects → answer_from (found_object objects c o) (λ b. by_value (field b)) ≡ by_value (finite.get rows key)
  answered_by field key same objects shape =
      let object = some_of (object_under objects c o) ((object_present rows objects c o shape coll name).1 there) in
      ap (λ r. answer_from r (λ b. by_value (field b))) (by_under rows objects shape c o has ∙ ap object_by object.1)
      ∙ ap by_value (same objects shape object.0 object.1)

  -- the answer to a read of a value is what stands under its key, or that there is none
  value_answered : (read : Read) (key : List ℕ) → ((objects : Objects) → IsShape rows objects → read_reply read objects ≡ by_value (finite.get rows key))
      → (P : Answer → Type 0) → (a : Answer) → a ≡ by_value (finite.get rows key) → (IsRefusedBy rows (ask.Read read) NoAttr → P (answer.Refused NoAttr))
      → ((value : List ℕ) → IsNotRefused rows (ask.Read read) → finite.get rows key ≡ Some value → P (answer.Bytes value)) → P a
  value_answered read key replies P a is none some = elim (finite.get rows key) as (λ x. finite.get rows key ≡ x → a ≡ by_value x → P a) [
    | None ↦ λ p e. subst P (sym e) (none (λ objects shape. replies objects shape ∙ ap by_value p))
    | Some v ↦ λ p e. subst P (sym e) (some v (λ objects shape. ap (λ r. not (is_refused r)) (replies objects shape ∙ ap by_value p)) p)
  ] refl is

  pub attr_answered : (w : Width) (memory : ℕ → Option (List ℕ)) (held : ℕ → List ℕ → Type 0) (n : List ℕ) → IsName n → (a : Answer)
      → a ≡ by_value (finite.get rows (attr_key c o n)) → IsAnswerOf w memory held rows (reads.GetAttr c o n) a
  attr_answered w memory held n named a is = value_answered (reads.GetAttr c o n) (attr_key c o n)
      (answered_by (λ b. finite.get b.attrs n) (attr_key c o n) (λ objects shape b under. (shape.present c o b under).attrs n named))
      (IsAnswerOf w memory held rows (reads.GetAttr c o n)) a is (λ refused. refused) (λ value taken found. (taken, found))

  pub pair_answered : (w : Width) (memory : ℕ → Option (List ℕ)) (held : ℕ → List ℕ → Type 0) (key : List ℕ) → IsName key → (a : Answer)
      → a ≡ by_value (finite.get rows (omap_key c o key)) → IsAnswerOf w memory held rows (reads.OmapGet c o key) a
  pair_answered w memory held key named a is = value_answered (reads.OmapGet c o key) (omap_key c o key)
      (answered_by (λ b. finite.get b.omap key) (omap_key c o key) (λ objects shape b under. (shape.present c o b under).omap key named))
      (IsAnswerOf w memory held rows (reads.OmapGet c o key)) a is (λ refused. refused) (λ value taken found. (taken, found))

  pub header_answered : (w : Width) (memory : ℕ → Option (List ℕ)) (held : ℕ → List ℕ → Type 0) (value : List ℕ) → value ≡ row rows (header_key c o)
      → IsAnswerOf w memory held rows (reads.OmapHeader c o) (answer.Bytes value)
  header_answered w memory held value is = (
    λ objects shape. answer_given (found_object objects c o) (λ b. answer.Bytes b.header) (object_there rows objects shape c o coll name has there) (λ b. refl),
    is,
  )
