-- Answers to commands that read, from the parts that were read.
use Rattle.std.proofs.Common.{◌≡◌, ℕ, ◌+◌, ◌/◌, ◌≤◌, Bool, true, false, cond, List, take, drop, Option, Some, None, is_some, unwrap_or, refl, sym, ap, subst, arith}
use Rattle.std.specs.Prelude.{not, nat_lt, Result, Ok, Err, IsOk, IfOk, IfErr, MatchOption}
use Rattle.std.specs.FinMap as finite
use Rattle.std.proofs.lemmas.Bool.{le-ltb, ltb-false}
use Rattle.block_device.specs.Prelude.{Disk}
use Rattle.object_model.specs.Prelude.{Object, object_limit, answer_from, found_object, is_refused}
use Rattle.object_model.specs.declared.op.Refusal.{Refusal}
use Rattle.object_model.specs.declared.op.Refusal.TheVariants.{NoObject, BadRange}
use Rattle.object_model.specs.declared.command.Command.TheVariants as ask
use Rattle.object_model.specs.declared.command.Read.TheVariants as reads
use Rattle.object_model.specs.declared.command.Answer.{Answer}
use Rattle.object_model.specs.declared.command.Answer.TheVariants as answer
use Rattle.meta_rows.specs.Prelude.{Rows, row}
use Rattle.unit_fields.specs.Prelude.{IsName, IsCollName}
use Rattle.unit_fields.specs.declared.width.Width.{Width}
use Rattle.row_format.specs.Prelude.{Extent, coll_key, onode_key, attr_key, header_key, omap_key, onode}
use Rattle.store_image.specs.Prelude.{HasKey, HasOnode, PageUnit, HasPage, IsDataUnit, HasObject}
use Rattle.store_image.proofs.Prelude.{in_place}
use Rattle.plan_rows.proofs.OnData.{page_on_data}
use Rattle.onode_state.specs.Objects.{IsObjectFound}
use Rattle.object_rows.specs.Stores.{AreRowsOfAStore, AreRowsOfWidth}
use Rattle.read_facts.specs.declared.view.BadSum.{BadSum}
use Rattle.read_facts.specs.declared.view.ValueView.{ValueView}
use Rattle.read_facts.specs.Prelude.{IsHeldAt, pages_read, IsRefusedBy, IsNotRefused, Gives, IsAnswerOf, IsObject, AreValues, sum_answer, IsViewOf}
use Rattle.read_facts.proofs.Keys.{none_of}
use Rattle.read_facts.proofs.Found.{sum_taken, answer_given, object_missing, object_there}
use Rattle.page_sources.specs.declared.parts.PartFail.{PartFail}
use Rattle.page_sources.specs.declared.parts.PartFail.TheVariants as why
use Rattle.page_sources.specs.Prelude.{unit_with, PagesByRows, unit_found, FindUnitsOf, CanRead, HasPageToRead, IsPartFail}
use Rattle.object_reader.proofs.FoundLemmas.{units_found}
use Rattle.object_reader.specs.Missing.{IsObjectMissing}
use Rattle.object_reader.specs.Readable.{IsReadable}
use Rattle.object_reader.specs.Ranges.{GivesRange, GivesSum}
use Rattle.object_reader.specs.PartFails.{IsCsumOf, IsSumOf}
use Rattle.object_reader.specs.ToRead.{RangeNeedsDevice, ReadNeedsDevice}

-- rows that can be read are a store's
pub rows_of_a_store : (w : Width) (memory : ℕ → Option (List ℕ)) (rows : Rows) (d : Disk) → IsReadable w memory rows d → AreRowsOfAStore rows
rows_of_a_store w memory rows d can = record { sup = can.sup; limits = can.limits; good = can.good }

pub rows_of_width : (w : Width) (memory : ℕ → Option (List ℕ)) (rows : Rows) (d : Disk) → IsReadable w memory rows d → AreRowsOfWidth w rows
rows_of_width w memory rows d can = record { store = rows_of_a_store w memory rows d can; wide = can.wide }

-- what each value keeps holds of the result
pub ok_of : {T E : Type 0} (result : Result T E) (P Q : T → Type 0) → ((x : T) → P x → Q x) → IfOk result P → IfOk result Q
ok_of (Ok x) P Q keeps is = keeps x is
ok_of (Err e) P Q keeps is = tt

-- ---- refusals

-- the test of a refusal that isn't one
pub at_none : {A : Type 0} (x : Option A) (P : Type 0) (Q : A → Type 0) → MatchOption x P Q → x ≡ None → P
at_none None P Q is none = is
at_none (Some refusal) P Q is none = absurd cc

pub at_some : {A : Type 0} (x : Option A) (y : A) (P : Type 0) (Q : A → Type 0) → MatchOption x P Q → x ≡ Some y → Q y
at_some None y P Q is some = absurd cc
at_some (Some z) y P Q is some = subst Q (ap (λ o. unwrap_or o y) some) is

module _ (rows : Rows) (c o : List ℕ) where
  -- an object that has no row in a collection that has one
  pub no_onode_row : IsCollName c → IsName o → HasKey rows (coll_key c) → finite.contains_key rows (onode_key c o) ≡ false
      → IsObjectMissing rows c o NoObject
  no_onode_row coll name has none objects shape =
      object_missing rows objects shape c o coll name has (none_of (finite.get rows (onode_key c o)) none)

  -- one that has its row, as its collection has
  module _ (coll : IsCollName c) (name : IsName o) (has : HasObject rows c o) (off len : ℕ) where
    abbrev read_by : Bool → Object → Answer
    read_by beyond b = cond beyond (answer.Refused BadRange) (answer.Bytes (take len (drop off b.bytes)))

    -- a range within an object's limit, or past it
    pub read_taken : off + len ≤ object_limit → IsNotRefused rows (ask.Read (reads.Bytes c o off len))
    read_taken within objects shape =
        answer_given (found_object objects c o) (read_by (nat_lt object_limit (off + len)))
        (object_there rows objects shape c o coll name has.0 has.1)
        (λ b. ap (λ (beyond : Bool). not (is_refused (read_by beyond b))) (le-ltb object_limit (off + len) within))

    pub read_too_far : nat_lt object_limit (off + len) ≡ true → IsRefusedBy rows (ask.Read (reads.Bytes c o off len)) BadRange
    read_too_far beyond objects shape =
        of (found_object objects c o) (object_there rows objects shape c o coll name has.0 has.1)
      where
        of : (x : Result Object Refusal) → IsOk x → answer_from x (read_by (nat_lt object_limit (off + len))) ≡ answer.Refused BadRange
        of (Ok b) ok = ap (λ (t : Bool). read_by t b) beyond
        of (Err refusal) ok = absurd cc

-- ---- an object that is there

module _ (w : Width) (memory : ℕ → Option (List ℕ)) (d : Disk) (rows : Rows) (c o : List ℕ) (size : ℕ) (extents : List Extent)
    (can : IsReadable w memory rows d) (found : IsObjectFound w rows c o size extents) where
  has : HasOnode rows c o size
  has = found.has_size

  -- so its collection is there too
  pub is_there : HasObject rows c o
  is_there = ((in_place can.sup rows (onode c o size) can.good has).0, ap is_some has.stands)

  -- a range within an object's limit isn't refused
  pub range_taken : IsCollName c → IsName o → (off len : ℕ) → nat_lt object_limit (off + len) ≡ false
      → IsNotRefused rows (ask.Read (reads.Bytes c o off len))
  range_taken coll name off len within =
      read_taken rows c o coll name is_there off len (omega (arith, ltb-false object_limit (off + len) within))

  -- nor is the sum of its bytes
  pub whole_taken : IsCollName c → IsName o → IsNotRefused rows (ask.Read (reads.Sum c o))
  whole_taken coll name = sum_taken rows c o coll name is_there.0 is_there.1

  pub size_most : size ≤ object_limit
  size_most = (in_place can.sup rows (onode c o size) can.good has).1

  -- its pages, on the units where they are found
  module _ (pages : PagesByRows) (are : pages ≡ record { width = w; rows = rows; extents = extents }) where
    are_pages : FindUnitsOf w rows c o pages
    are_pages = subst (FindUnitsOf w rows c o) (sym are) (units_found w rows c o extents (rows_of_width w memory rows d can) found.are_pages)

    page_on : (page : ℕ) (on : PageUnit) → unit_found pages page ≡ Some on → HasPage w rows on.unit
    page_on page on at = record { coll = c; object = o; page = page; on = on; is_on = (are_pages page on).0 at; is_unit = refl }

    pub can_read : CanRead memory d pages
    can_read = record {
      units_most = omega (arith, can.units, can.limits.units_most);
      free = λ page on at none. can.free on.unit (page_on page on at) none;
      inside = λ page on at.
          let here = subst (λ v. HasPage v rows on.unit) (sym can.wide) (page_on page on at) in
          let on_data : IsDataUnit can.sup on.unit = page_on_data can.sup rows on.unit can.good here in
          omega (arith, can.units, on_data.1);
      whole = can.whole;
    }

    -- the bytes of a range
    pub bytes_answer : (off len : ℕ) (bytes : List ℕ) → IsNotRefused rows (ask.Read (reads.Bytes c o off len)) → GivesRange memory d pages size off len bytes
        → IsAnswerOf w memory (IsHeldAt d) rows (reads.Bytes c o off len) (answer.Bytes bytes)
    bytes_answer off len bytes none gives =
        (none, (size, record { has_size = has; pages = gives.whole; good = gives.good.good w rows c o are_pages; cut = gives.cut }))

    -- a bad page of a range
    pub read_fails : (off len : ℕ) (fail : PartFail) (a : Answer) → IsNotRefused rows (ask.Read (reads.Bytes c o off len))
        → IsPartFail memory d pages (off / 4096) (pages_read size off len) fail → IsCsumOf fail a
        → IsAnswerOf w memory (IsHeldAt d) rows (reads.Bytes c o off len) a
    read_fails off len (why.BadPage bad) a none fails is = subst (IsAnswerOf w memory (IsHeldAt d) rows (reads.Bytes c o off len)) (sym is)
        (none, (size, record { has_size = has; first_bad = fails w rows c o are_pages }))
    read_fails off len why.Memory a none fails is = absurd is
    read_fails off len why.Fault a none fails is = absurd is

    -- a page of a range that the device has to be read for
    needs_device : (off len : ℕ) → HasPageToRead memory pages (off / 4096) (pages_read size off len) → RangeNeedsDevice w memory rows c o size off len
    needs_device off len one = record {
      has_size = has;
      index = one.index;
      within = one.within;
      on = unit_with one.unit one.is_on.0;
      is_on = (are_pages (off / 4096 + one.index) (unit_with one.unit one.is_on.0)).0 one.is_on.1;
      not_in_memory = one.not_in_memory;
    }

    -- the device fails only where there is one
    pub read_needs : (off len : ℕ) (fail : PartFail) → IsNotRefused rows (ask.Read (reads.Bytes c o off len))
        → IsPartFail memory d pages (off / 4096) (pages_read size off len) fail → fail ≡ why.Fault
        → ReadNeedsDevice w memory rows (reads.Bytes c o off len)
    read_needs off len fail none fails is =
        (none, (size, needs_device off len (subst (IsPartFail memory d pages (off / 4096) (pages_read size off len)) is fails)))

    pub sum_needs : (fail : PartFail) → IsNotRefused rows (ask.Read (reads.Sum c o)) → IsPartFail memory d pages 0 (pages_read size 0 size) fail
        → fail ≡ why.Fault → ReadNeedsDevice w memory rows (reads.Sum c o)
    sum_needs fail none fails is = (none, (size, needs_device 0 size (subst (IsPartFail memory d pages 0 (pages_read size 0 size)) is fails)))

    -- the checksum of all bytes
    gives_sum : (crc : ℕ) → GivesSum memory d pages size crc → Gives w memory (IsHeldAt d) rows (reads.Sum c o) (answer.Sum size crc)
    gives_sum crc gives =
        let whole = gives.gives in (
          gives.bytes,
          (record { has_size = has; pages = whole.whole; good = whole.good.good w rows c o are_pages; cut = whole.cut }, gives.is),
        )

    gives_bad : (bad : BadSum) → IsPartFail memory d pages 0 (pages_read size 0 size) (why.BadPage bad)
        → Gives w memory (IsHeldAt d) rows (reads.Sum c o) (answer.Csum bad.unit bad.kept bad.found)
    gives_bad bad fails = (size, record { has_size = has; first_bad = fails w rows c o are_pages })

    pub sum_gives : (crc : ℕ) → IsNotRefused rows (ask.Read (reads.Sum c o)) → GivesSum memory d pages size crc
        → IsAnswerOf w memory (IsHeldAt d) rows (reads.Sum c o) (answer.Sum size crc)
    sum_gives crc none gives = (none, gives_sum crc gives)

    pub sum_fails : (fail : PartFail) (a : Answer) → IsNotRefused rows (ask.Read (reads.Sum c o)) → IsPartFail memory d pages 0 (pages_read size 0 size) fail
        → IsCsumOf fail a → IsAnswerOf w memory (IsHeldAt d) rows (reads.Sum c o) a
    sum_fails (why.BadPage bad) a none fails is = subst (IsAnswerOf w memory (IsHeldAt d) rows (reads.Sum c o)) (sym is) (none, gives_bad bad fails)
    sum_fails why.Memory a none fails is = absurd is
    sum_fails why.Fault a none fails is = absurd is

    -- what a view shows
    sums : (read : Result ℕ PartFail) (sum : Result ℕ BadSum) → IfOk read (GivesSum memory d pages size)
        → IfErr read (IsPartFail memory d pages 0 (pages_read size 0 size)) → IsSumOf read sum
        → Gives w memory (IsHeldAt d) rows (reads.Sum c o) (sum_answer size sum)
    sums (Ok crc) sum good fails is =
        subst (λ (s : Result ℕ BadSum). Gives w memory (IsHeldAt d) rows (reads.Sum c o) (sum_answer size s)) (sym is) (gives_sum crc good)
    sums (Err (why.BadPage bad)) sum good fails is =
        subst (λ (s : Result ℕ BadSum). Gives w memory (IsHeldAt d) rows (reads.Sum c o) (sum_answer size s)) (sym is) (gives_bad bad fails)
    sums (Err why.Memory) sum good fails is = absurd is
    sums (Err why.Fault) sum good fails is = absurd is

    pub shows : (read : Result ℕ PartFail) (sum : Result ℕ BadSum) → IsObject rows c o → IfOk read (GivesSum memory d pages size)
        → IfErr read (IsPartFail memory d pages 0 (pages_read size 0 size)) → IsSumOf read sum
        → (attrs omap : List ValueView) (header : List ℕ) → AreValues (attr_key c o) rows attrs → AreValues (omap_key c o) rows omap
        → header ≡ row rows (header_key c o)
        → IsViewOf w memory (IsHeldAt d) rows c (record { name = o; size = size; sum = sum; attrs = attrs; header = header; omap = omap })
    shows read sum is good fails same attrs omap header are_attrs are_pairs is_header = record {
      is = is;
      has_size = has;
      sums = sums read sum good fails same;
      attrs = are_attrs;
      header = is_header;
      omap = are_pairs;
    }
