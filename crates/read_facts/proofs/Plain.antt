-- What rows answer by the objects that have their shape.
use Rattle.std.proofs.Common.{◌≡◌, ◌⊎◌, inl, inr, ℕ, ◌+◌, Bool, true, false, cond, not, nat_lt, List, [], length, take, drop, Option, Some, None, Ok, Err, unwrap_or, option_and_then, refl, sym, ap, subst, ◌∙◌}
use Rattle.std.specs.Prelude.{IsTrue}
use Rattle.std.specs.Int.{w64, from_le_bytes}
use Rattle.std.specs.Option.{option_map_or}
use Rattle.std.proofs.lemmas.Nat.{from_le_bytes-to_le_bytes_8}
use Rattle.std.specs.FinMap as finite
use Rattle.crc32c_csum.specs.Prelude.{crc32c}
use Rattle.object_model.specs.declared.op.Refusal.TheVariants.{NoCollection, NoObject, NoAttr, BadRange}
use Rattle.object_model.specs.declared.command.Command.TheVariants as ask
use Rattle.object_model.specs.declared.command.Read.{Read}
use Rattle.object_model.specs.declared.command.Read.TheVariants as reads
use Rattle.object_model.specs.declared.command.Answer.{Answer}
use Rattle.object_model.specs.declared.command.Answer.TheVariants as answer
use Rattle.object_model.specs.Prelude.{Object, Collection, Objects, object_under, object_limit, answer_from, answer_of_object, value_of, read_reply, is_refused, is_of_device}
use Rattle.meta_rows.specs.Prelude.{Rows}
use Rattle.byte_maps.specs.ByteMap.{ByteMap}
use Rattle.unit_fields.specs.Prelude.{IsName, IsCollName}
use Rattle.unit_fields.specs.declared.width.Width.{Width}
use Rattle.store_image.specs.Prelude.{HasOnode, IsShape}
use Rattle.read_facts.specs.Prelude.{IsObject, ReadsRange, HasReadNames, IsAnswerOf, IsAlike}
use Rattle.read_facts.proofs.Walks.{one_order}
use Rattle.read_facts.proofs.Keys.{object_keys}
use Rattle.read_facts.proofs.Cut.{cut_length}

-- rows say one size of an object
pub one_size : (rows : Rows) (c o : List ℕ) (m n : ℕ) → HasOnode rows c o m → HasOnode rows c o n → m ≡ n
one_size rows c o m n p q =
    let e = ap (λ (v : Option (List ℕ)). unwrap_or v []) (sym p.stands ∙ q.stands) in
    sym (from_le_bytes-to_le_bytes_8 m p.fits.2) ∙ ap (from_le_bytes w64) e ∙ from_le_bytes-to_le_bytes_8 n q.fits.2

-- an object that the rows have is among the objects of their shape
pub onode_object : (rows : Rows) (objects : Objects) → IsShape rows objects → (c o : List ℕ) (size : ℕ) → HasOnode rows c o size
    → (object : Object) × (object_under objects c o ≡ Some object)
onode_object rows objects shape c o size there = of_found (object_under objects c o) refl
  where
    of_found : (x : Option Object) → object_under objects c o ≡ x → (object : Object) × (object_under objects c o ≡ Some object)
    of_found None is = let none = shape.missing c o there.fits.0 there.fits.1 is in absurd (let never = sym there.stands ∙ none in cc)
    of_found (Some object) is = (object, is)

-- ---- what isn't refused is answered from what is found

abbrev IsGivenAnswer : Answer → Type 0
IsGivenAnswer a = IsTrue (not (is_refused a))

-- the answer is read from an object
pub record IsGiven (objects : Objects) (c o : List ℕ) (a : Answer) (read : Object → Answer) : Type 0 where
  pub object : Object
  pub under : object_under objects c o ≡ Some object
  pub reply : a ≡ read object

-- the answer by the object, or by the collection
abbrev by_object : (Object → Answer) → Option Object → Answer
by_object read x = answer_from (option_map_or (λ (b : Object). Ok b) x (Err NoObject)) read

abbrev by_coll : List ℕ → (Object → Answer) → Option Collection → Answer
by_coll o read x = answer_from (option_map_or (λ (found : Collection). option_map_or (λ (b : Object). Ok b) (finite.get found o) (Err NoObject)) x
    (Err NoCollection)) read

module _ (objects : Objects) (c o : List ℕ) where
  in_coll : (read : Object → Answer) (x : Option Object) → object_under objects c o ≡ x → IsGivenAnswer (by_object read x)
      → IsGiven objects c o (by_object read x) read
  in_coll read None under given = absurd cc
  in_coll read (Some object) under given = record { object = object; under = under; reply = refl }

  in_objects : (read : Object → Answer) (x : Option Collection) → finite.get objects c ≡ x → IsGivenAnswer (by_coll o read x)
      → IsGiven objects c o (by_coll o read x) read
  in_objects read None e given = absurd cc
  in_objects read (Some found) e given =
      in_coll read (finite.get found o) (ap (λ (y : Option Collection). option_and_then (λ (coll : Collection). finite.get coll o) y) e) given

  object_given : (read : Object → Answer) → IsGivenAnswer (answer_of_object objects c o read)
      → IsGiven objects c o (answer_of_object objects c o read) read
  object_given read = in_objects read (finite.get objects c) refl

  -- a range that isn't refused is cut from the object's bytes
  in_range : (beyond : Bool) (bytes : List ℕ) → IsGivenAnswer (cond beyond (answer.Refused BadRange) (answer.Bytes bytes))
      → cond beyond (answer.Refused BadRange) (answer.Bytes bytes) ≡ answer.Bytes bytes
  in_range true bytes given = absurd cc
  in_range false bytes given = refl

  pub read_given : (off len : ℕ) → IsGivenAnswer (read_reply (reads.Bytes c o off len) objects)
      → IsGiven objects c o (read_reply (reads.Bytes c o off len) objects) (λ b. answer.Bytes (take len (drop off b.bytes)))
  read_given off len is =
      let beyond : Bool = nat_lt object_limit (off + len) in
      let given = object_given (λ b. cond beyond (answer.Refused BadRange) (answer.Bytes (take len (drop off b.bytes)))) is in
      record {
        object = given.object;
        under = given.under;
        reply = given.reply ∙ in_range beyond (take len (drop off given.object.bytes)) (subst IsGivenAnswer given.reply is);
      }

  pub sum_given : IsGivenAnswer (read_reply (reads.Sum c o) objects)
      → IsGiven objects c o (read_reply (reads.Sum c o) objects) (λ b. answer.Sum (length b.bytes) (crc32c b.bytes))
  sum_given is = object_given (λ b. answer.Sum (length b.bytes) (crc32c b.bytes)) is

  pub attr_given : (name : List ℕ) → IsGivenAnswer (read_reply (reads.GetAttr c o name) objects)
      → IsGiven objects c o (read_reply (reads.GetAttr c o name) objects) (λ b. value_of b.attrs name)
  attr_given name is = object_given (λ b. value_of b.attrs name) is

  pub pair_given : (key : List ℕ) → IsGivenAnswer (read_reply (reads.OmapGet c o key) objects)
      → IsGiven objects c o (read_reply (reads.OmapGet c o key) objects) (λ b. value_of b.omap key)
  pair_given key is = object_given (λ b. value_of b.omap key) is

  pub header_given : IsGivenAnswer (read_reply (reads.OmapHeader c o) objects)
      → IsGiven objects c o (read_reply (reads.OmapHeader c o) objects) (λ b. answer.Bytes b.header)
  header_given is = object_given (λ b. answer.Bytes b.header) is

  pub stat_given : IsGivenAnswer (read_reply (reads.Stat c o) objects)
      → IsGiven objects c o (read_reply (reads.Stat c o) objects) (λ b. answer.Size (length b.bytes))
  stat_given is = object_given (λ b. answer.Size (length b.bytes)) is

-- the answer is the names of a collection's objects
record IsListed (objects : Objects) (c : List ℕ) (a : Answer) : Type 0 where
  found : Collection
  there : finite.get objects c ≡ Some found
  reply : a ≡ answer.Names (finite.keys found)

abbrev names_by : Option Collection → Answer
names_by x =
    answer_from (option_map_or (λ (found : Collection). Ok found) x (Err NoCollection)) (λ (found : Collection). answer.Names (finite.keys found))

list_by : (objects : Objects) (c : List ℕ) (x : Option Collection) → finite.get objects c ≡ x → IsGivenAnswer (names_by x)
    → IsListed objects c (names_by x)
list_by objects c None e given = absurd cc
list_by objects c (Some found) e given = record { found = found; there = e; reply = refl }

list_given : (objects : Objects) (c : List ℕ) → IsGivenAnswer (read_reply (reads.List c) objects) → IsListed objects c (read_reply (reads.List c) objects)
list_given objects c = list_by objects c (finite.get objects c) refl

-- ---- what a read gives

-- no answer to a transaction: it accepts nothing, and wants neither units nor room
abbrev pub IsOfRead : Answer → Type 0
IsOfRead answer.Accepted = ⊥
IsOfRead (answer.NoSpace need free) = ⊥
IsOfRead (answer.MetaFull need room) = ⊥
IsOfRead a = Unit {0}

pub given_by_read : (w : Width) (memory : ℕ → Option (List ℕ)) (held : ℕ → List ℕ → Type 0) (rows : Rows) (read : Read) (a : Answer)
    → IsAnswerOf w memory held rows read a → IsOfRead a
given_by_read w memory held rows (reads.Bytes c o off len) (answer.Bytes bytes) is = tt
given_by_read w memory held rows (reads.Bytes c o off len) (answer.Csum unit kept found) is = tt
given_by_read w memory held rows (reads.Sum c o) (answer.Sum size crc) is = tt
given_by_read w memory held rows (reads.Sum c o) (answer.Csum unit kept found) is = tt
given_by_read w memory held rows (reads.Stat c o) (answer.Size size) is = tt
given_by_read w memory held rows (reads.GetAttr c o name) (answer.Bytes value) is = tt
given_by_read w memory held rows (reads.OmapGet c o key) (answer.Bytes value) is = tt
given_by_read w memory held rows (reads.OmapHeader c o) (answer.Bytes value) is = tt
given_by_read w memory held rows (reads.List c) (answer.Names names) is = tt
given_by_read w memory held rows read (answer.Refused refusal) is = tt
given_by_read w memory held rows read a is = absurd is.1

-- ---- all but the bytes

module _ (w : Width) (rows : Rows) (objects : Objects) (shape : IsShape rows objects) where
  -- the size that rows say is the object's
  pub size_is : (c o : List ℕ) (object : Object) (size : ℕ) → object_under objects c o ≡ Some object → HasOnode rows c o size
      → size ≡ length object.bytes
  size_is c o object size under has = one_size rows c o size (length object.bytes) has (shape.present c o object under).size

  -- an answer is alike or by a bad unit
  abbrev IsPlain : Read → Answer → Type 0
  IsPlain read a = IsAlike (ask.Read read) a (read_reply read objects)
      ⊎ (IsTrue (is_of_device (ask.Read read) a) × IsTrue (not (is_refused (read_reply read objects))))

  module _ (memory : ℕ → Option (List ℕ)) (held : ℕ → List ℕ → Type 0) where
    -- an answer to a read of bytes
    plain_read : (c o : List ℕ) (off len : ℕ) (a : Answer) → IsAnswerOf w memory held rows (reads.Bytes c o off len) a → IsPlain (reads.Bytes c o off len) a
    plain_read c o off len (answer.Refused r) is =
        inl (subst (IsAlike (ask.Read (reads.Bytes c o off len)) (answer.Refused r)) (sym (is objects shape)) refl)
    plain_read c o off len (answer.Bytes bytes) is =
        let given = read_given objects c o off len (is.0 objects shape) in
        let read : ReadsRange w memory held rows c o is.1.0 off len bytes = is.1.1 in
        let size : length given.object.bytes ≡ is.1.0 = sym (size_is c o given.object is.1.0 given.under read.has_size) in
        inl (subst (IsAlike (ask.Read (reads.Bytes c o off len)) (answer.Bytes bytes)) (sym given.reply)
        (ap length read.cut ∙ cut_length is.1.0 off len read.pages given.object.bytes read.good.size size))
    plain_read c o off len (answer.Csum unit kept found) is = inr (refl, is.0 objects shape)
    plain_read c o off len a is = absurd is.1

    -- an answer to a sum
    plain_sum : (c o : List ℕ) (a : Answer) → IsAnswerOf w memory held rows (reads.Sum c o) a → IsPlain (reads.Sum c o) a
    plain_sum c o (answer.Refused r) is = inl (subst (IsAlike (ask.Read (reads.Sum c o)) (answer.Refused r)) (sym (is objects shape)) refl)
    plain_sum c o (answer.Sum size crc) is =
        let given = sum_given objects c o (is.0 objects shape) in
        inl (subst (IsAlike (ask.Read (reads.Sum c o)) (answer.Sum size crc)) (sym given.reply) (size_is c o given.object size given.under is.1.1.0.has_size))
    plain_sum c o (answer.Csum unit kept found) is = inr (refl, is.0 objects shape)
    plain_sum c o a is = absurd is.1

    -- an answer with a size
    pub plain_stat : (c o : List ℕ) (a : Answer) → IsAnswerOf w memory held rows (reads.Stat c o) a → a ≡ read_reply (reads.Stat c o) objects
    plain_stat c o (answer.Refused r) is = sym (is objects shape)
    plain_stat c o (answer.Size size) is =
        let given = stat_given objects c o (is.0 objects shape) in
        ap answer.Size (size_is c o given.object size given.under is.1) ∙ sym given.reply
    plain_stat c o a is = absurd is.1

    -- a value that is found is the answer
    found_value : (m : ByteMap (List ℕ)) (name value : List ℕ) → finite.get m name ≡ Some value → answer.Bytes value ≡ value_of m name
    found_value m name value is = sym (ap (λ x. option_map_or (λ v. answer.Bytes v) x (answer.Refused NoAttr)) is)

    -- answers with values
    pub plain_attr : (c o name : List ℕ) (a : Answer) → IsName name → IsAnswerOf w memory held rows (reads.GetAttr c o name) a
        → a ≡ read_reply (reads.GetAttr c o name) objects
    plain_attr c o name (answer.Refused r) named is = sym (is objects shape)
    plain_attr c o name (answer.Bytes value) named is =
        let given = attr_given objects c o name (is.0 objects shape) in
        found_value given.object.attrs name value ((shape.present c o given.object given.under).attrs name named ∙ is.1) ∙ sym given.reply
    plain_attr c o name a named is = absurd is.1

    pub plain_pair : (c o key : List ℕ) (a : Answer) → IsName key → IsAnswerOf w memory held rows (reads.OmapGet c o key) a
        → a ≡ read_reply (reads.OmapGet c o key) objects
    plain_pair c o key (answer.Refused r) named is = sym (is objects shape)
    plain_pair c o key (answer.Bytes value) named is =
        let given = pair_given objects c o key (is.0 objects shape) in
        found_value given.object.omap key value ((shape.present c o given.object given.under).omap key named ∙ is.1) ∙ sym given.reply
    plain_pair c o key a named is = absurd is.1

    pub plain_header : (c o : List ℕ) (a : Answer) → IsAnswerOf w memory held rows (reads.OmapHeader c o) a → a ≡ read_reply (reads.OmapHeader c o) objects
    plain_header c o (answer.Refused r) is = sym (is objects shape)
    plain_header c o (answer.Bytes value) is =
        let given = header_given objects c o (is.0 objects shape) in
        ap answer.Bytes (is.1 ∙ sym (shape.present c o given.object given.under).header) ∙ sym given.reply
    plain_header c o a is = absurd is.1

    -- an answer with names
    pub plain_list : (c : List ℕ) (a : Answer) → IsCollName c → IsAnswerOf w memory held rows (reads.List c) a → a ≡ read_reply (reads.List c) objects
    plain_list c (answer.Refused r) coll is = sym (is objects shape)
    plain_list c (answer.Names names) coll is =
        let given = list_given objects c (is.0 objects shape) in
        let keys = object_keys rows objects c given.found shape coll given.there in
        ap answer.Names (one_order (IsObject rows c) names (finite.keys given.found) is.1 keys) ∙ sym given.reply
    plain_list c a coll is = absurd is.1

    -- whatever is in memory and the units hold
    pub plain_answer : (read : Read) (a : Answer) → HasReadNames read → IsAnswerOf w memory held rows read a → IsPlain read a
    plain_answer (reads.Bytes c o off len) a names is = plain_read c o off len a is
    plain_answer (reads.Sum c o) a names is = plain_sum c o a is
    plain_answer (reads.Stat c o) a names is = inl (plain_stat c o a is)
    plain_answer (reads.GetAttr c o name) a names is = inl (plain_attr c o name a names.2 is)
    plain_answer (reads.OmapGet c o key) a names is = inl (plain_pair c o key a names.2 is)
    plain_answer (reads.OmapHeader c o) a names is = inl (plain_header c o a is)
    plain_answer (reads.List c) a names is = inl (plain_list c a names is)
