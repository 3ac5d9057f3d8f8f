-- Reads where the device tells what it holds, and no write of the units that it reads ended badly, over a valuation of units: bytes in memory, else those last written.
use Rattle.std.proofs.Common.{◌≡◌, ℕ, ◌+◌, ◌/◌, List, length, take, drop, Option, Some, None, unwrap_or, refl, sym, ap, subst, ◌∙◌, arith, take_all}
use Rattle.std.specs.Prelude.{IfSome, MatchOption}
use Rattle.byte_maps.specs.Units.{unit_at}
use Rattle.unit_fields.specs.declared.width.Width.{Width}
use Rattle.crc32c_csum.specs.Prelude.{crc32c}
use Rattle.block_device.specs.Prelude.{Disk, History, last_at, HasNoBadDone}
use Rattle.object_model.specs.declared.command.Read.{Read}
use Rattle.object_model.specs.declared.command.Read.TheVariants as reads
use Rattle.object_model.specs.declared.command.Answer.{Answer}
use Rattle.object_model.specs.declared.command.Answer.TheVariants as answer
use Rattle.object_model.specs.Prelude.{Objects, read_reply}
use Rattle.meta_rows.specs.Prelude.{Rows}
use Rattle.store_image.specs.Prelude.{HasOnode, PageUnit, IsPageOn, HasPage, page_bytes, AreObjectBytes, ObjectsStand}
use Rattle.read_facts.specs.Prelude.{IsHeldAt, IsFound, IsGoodPage, hole, mapped, IsBadPage, IsBadUnit, ReadsRange, FailsAt, HasReadNames, IsAnswerOf}
use Rattle.read_facts.proofs.Cut.{cut_is}
use Rattle.read_facts.proofs.Plain.{onode_object, read_given, sum_given, size_is, plain_stat, plain_attr, plain_pair, plain_header, plain_list}

module _ (w : Width) (memory : ℕ → Option (List ℕ)) (d : Disk) (h : History) (tells : d.history ≡ Some h) (rows : Rows)
    (answered : (unit : ℕ) → HasPage w rows unit → memory unit ≡ None → HasNoBadDone h.log unit) (at : ℕ → List ℕ)
    (valued : (unit : ℕ) → at unit ≡ unwrap_or (memory unit) (last_at h unit)) where
  -- what a unit with a page holds that isn't in memory is what was last written there
  held_there : (unit : ℕ) (bytes : List ℕ) → HasPage w rows unit → memory unit ≡ None → IsHeldAt d unit bytes → bytes ≡ last_at h unit
  held_there unit bytes has none held =
      let of : IfSome (Some h) (λ (g : History). HasNoBadDone g.log unit → bytes ≡ last_at g unit) =
      subst (λ (x : Option History). IfSome x (λ (g : History). HasNoBadDone g.log unit → bytes ≡ last_at g unit)) tells held in
      of (answered unit has none)

  held_is : (c o : List ℕ) (page : ℕ) (on : PageUnit) (bytes : List ℕ) → IsPageOn w rows c o page on → memory on.unit ≡ None
      → IsHeldAt d on.unit bytes → bytes ≡ last_at h on.unit
  held_is c o page on bytes is_on = held_there on.unit bytes (record { coll = c; object = o; page = page; on = on; is_on = is_on; is_unit = refl })

  -- so what it gives is what it is valued at
  pub found_is : (unit : ℕ) (bytes : List ℕ) → HasPage w rows unit → IsFound memory (IsHeldAt d) unit bytes → bytes ≡ at unit
  found_is unit bytes has found = by_copy (memory unit) refl found ∙ sym (valued unit)
    where
      by_copy : (copy : Option (List ℕ)) → memory unit ≡ copy → MatchOption copy (IsHeldAt d unit bytes) (λ b. bytes ≡ b)
          → bytes ≡ unwrap_or copy (last_at h unit)
      by_copy None none held = held_there unit bytes has none held
      by_copy (Some b) some same = same

  -- what it gives is what it is valued at
  given_is : (c o : List ℕ) (page : ℕ) (on : PageUnit) (copy : Option (List ℕ)) (bytes : List ℕ) → IsPageOn w rows c o page on
      → memory on.unit ≡ copy → MatchOption copy (IsHeldAt d on.unit bytes × (crc32c bytes ≡ on.csum)) (λ b. bytes ≡ b)
      → bytes ≡ unwrap_or copy (last_at h on.unit)
  given_is c o page on None bytes is_on none is = held_is c o page on bytes is_on none is.0
  given_is c o page on (Some b) bytes is_on some is = is

  module _ (c o : List ℕ) (bytes : List ℕ) (are : AreObjectBytes w at rows c o bytes) where
    -- a good page is the object's
    good_is : (page : ℕ) (read : List ℕ) → IsGoodPage w memory (IsHeldAt d) rows c o page read → read ≡ page_bytes bytes page
    good_is page read (hole nowhere zero) = zero ∙ sym (are.holes page nowhere)
    good_is page read (mapped on is gives) =
        given_is c o page on (memory on.unit) read is refl gives ∙ sym (valued on.unit) ∙ sym (are.mapped page on is).seen

    -- no page is bad
    none_bad : (page unit kept found : ℕ) → IsBadPage w memory (IsHeldAt d) rows c o page unit kept found → ⊥
    none_bad page unit kept found bad =
        let seen = are.mapped page (record { unit = unit; csum = kept }) bad.is_on in
        let same : bad.bytes ≡ page_bytes bytes page =
        held_is c o page (record { unit = unit; csum = kept }) bad.bytes bad.is_on bad.not_in_memory bad.holds
        ∙ sym (valued unit ∙ ap (λ (copy : Option (List ℕ)). unwrap_or copy (last_at h unit)) bad.not_in_memory) ∙ sym seen.seen in
        bad.differs (bad.is_found ∙ ap crc32c same ∙ seen.kept)

    -- so a read gives the object's bytes
    pub bytes_are : (off len : ℕ) (read : List ℕ) → ReadsRange w memory (IsHeldAt d) rows c o (length bytes) off len read
        → read ≡ take len (drop off bytes)
    bytes_are off len read r =
        r.cut ∙ cut_is bytes r.pages off len r.good.size (λ i below. good_is (off / 4096 + i) (unit_at i r.pages) (r.good.each i below))

    -- and none fails
    pub none_fails : (size off len unit kept found : ℕ) → FailsAt w memory (IsHeldAt d) rows c o size off len unit kept found → ⊥
    none_fails size off len unit kept found f = none_bad (off / 4096 + f.first_bad.index) unit kept found f.first_bad.bad

  module _ (objects : Objects) (stand : ObjectsStand w at rows objects) where
    -- no page of an object is on a bad unit
    pub unit_not_bad : (c o : List ℕ) (size page unit kept found : ℕ) → HasOnode rows c o size
        → IsPageOn w rows c o page (record { unit = unit; csum = kept }) → IsBadUnit memory (IsHeldAt d) unit kept found → ⊥
    unit_not_bad c o size page unit kept found there is_on bad =
        let object = onode_object rows objects stand.shape c o size there in
        none_bad c o object.0.bytes (stand.bytes c o object.0 object.1) page unit kept found (record {
          is_on = is_on;
          not_in_memory = bad.not_in_memory;
          bytes = bad.bytes;
          size = bad.size;
          holds = bad.holds;
          is_found = bad.is_found;
          differs = bad.differs;
        })

    -- a read of bytes is answered as the objects do
    seen_read : (c o : List ℕ) (off len : ℕ) (a : Answer) → IsAnswerOf w memory (IsHeldAt d) rows (reads.Bytes c o off len) a
        → a ≡ read_reply (reads.Bytes c o off len) objects
    seen_read c o off len (answer.Refused r) is = sym (is objects stand.shape)
    seen_read c o off len (answer.Bytes bytes) is =
        let given = read_given objects c o off len (is.0 objects stand.shape) in
        let read : ReadsRange w memory (IsHeldAt d) rows c o is.1.0 off len bytes = is.1.1 in
        let size : is.1.0 ≡ length given.object.bytes =
        size_is w rows objects stand.shape c o given.object is.1.0 given.under read.has_size in
        let same : bytes ≡ take len (drop off given.object.bytes) =
        bytes_are c o given.object.bytes (stand.bytes c o given.object given.under) off len bytes
        (subst (λ (n : ℕ). ReadsRange w memory (IsHeldAt d) rows c o n off len bytes) size read) in
        ap answer.Bytes same ∙ sym given.reply
    seen_read c o off len (answer.Csum unit kept found) is =
        let given = read_given objects c o off len (is.0 objects stand.shape) in
        absurd (none_fails c o given.object.bytes (stand.bytes c o given.object given.under) is.1.0 off len unit kept found is.1.1)
    seen_read c o off len a is = absurd is.1

    -- so is a sum
    seen_sum : (c o : List ℕ) (a : Answer) → IsAnswerOf w memory (IsHeldAt d) rows (reads.Sum c o) a → a ≡ read_reply (reads.Sum c o) objects
    seen_sum c o (answer.Refused r) is = sym (is objects stand.shape)
    seen_sum c o (answer.Sum size crc) is =
        let given = sum_given objects c o (is.0 objects stand.shape) in
        let bytes : List ℕ = given.object.bytes in
        let read : ReadsRange w memory (IsHeldAt d) rows c o size 0 size is.1.0 = is.1.1.0 in
        let same_size : size ≡ length bytes = size_is w rows objects stand.shape c o given.object size given.under read.has_size in
        let same : is.1.0 ≡ take size (drop 0 bytes) =
        bytes_are c o bytes (stand.bytes c o given.object given.under) 0 size is.1.0
        (subst (λ (n : ℕ). ReadsRange w memory (IsHeldAt d) rows c o n 0 size is.1.0) same_size read) in
        let crc_is : crc ≡ crc32c bytes =
        is.1.1.1 ∙ ap crc32c (same ∙ ap (λ (n : ℕ). take n bytes) same_size ∙ take_all (length bytes) bytes (omega arith)) in
        ap (λ (n : ℕ). answer.Sum n crc) same_size ∙ ap (answer.Sum (length bytes)) crc_is ∙ sym given.reply
    seen_sum c o (answer.Csum unit kept found) is =
        let given = sum_given objects c o (is.0 objects stand.shape) in
        absurd (none_fails c o given.object.bytes (stand.bytes c o given.object given.under) is.1.0 0 is.1.0 unit kept found is.1.1)
    seen_sum c o a is = absurd is.1

    -- a read is answered as the objects do
    pub seen_answer : (read : Read) (a : Answer) → HasReadNames read → IsAnswerOf w memory (IsHeldAt d) rows read a → a ≡ read_reply read objects
    seen_answer (reads.Bytes c o off len) a names is = seen_read c o off len a is
    seen_answer (reads.Sum c o) a names is = seen_sum c o a is
    seen_answer (reads.Stat c o) a names is = plain_stat w rows objects stand.shape memory (IsHeldAt d) c o a is
    seen_answer (reads.GetAttr c o name) a names is = plain_attr w rows objects stand.shape memory (IsHeldAt d) c o name a names.2 is
    seen_answer (reads.OmapGet c o key) a names is = plain_pair w rows objects stand.shape memory (IsHeldAt d) c o key a names.2 is
    seen_answer (reads.OmapHeader c o) a names is = plain_header w rows objects stand.shape memory (IsHeldAt d) c o a is
    seen_answer (reads.List c) a names is = plain_list w rows objects stand.shape memory (IsHeldAt d) c a names is
