-- What each step of reading a record tells.
use Rattle.std.proofs.Common.{◌≡◌, ℕ, ◌+◌, ◌-◌, ◌*◌, ◌<◌, ◌≤◌, ◌^◌, List, [], ◌∷◌, ◌++◌, length, take, drop, take-append-drop, refl, sym, ap, ap₂, subst, ◌∙◌, append_assoc, arith}
use Rattle.std.specs.Prelude.{◌≢◌, All}
use Rattle.std.specs.Int.{w32, w64, to_le_bytes}
use Rattle.std.proofs.lemmas.List.{length-append, drop_at}
use Rattle.crc32c_csum.specs.Prelude.{crc32c}
use Rattle.byte_maps.specs.Units.{zeros, units_for, in_units}
use Rattle.byte_maps.proofs.Prelude.{length-zeros, length-in_units}
use Rattle.unit_fields.specs.Prelude.{ReadsBytes}
use Rattle.meta_rows.specs.declared.row_op.RowOp.{RowOp}
use Rattle.meta_rows.specs.Prelude.{ops_bytes, SpellOps}
use Rattle.meta_rows.proofs.FieldLemmas.{same_front, number_front, wide32, wide64}
use Rattle.meta_rows.proofs.Ops.{ops_bytes-same}
use Rattle.meta_log.specs.Prelude.{head_of, unit_count, BeginsWithRecord, parts_bytes, BeginsWithParts, IsCut, BeginsNoRecord, TakesUnits}
use Rattle.meta_log.proofs.RecordLemmas.{count_below}
use Rattle.meta_log.proofs.SlotReading.{all_of_zeros, zeros_of_all}

-- the checksum behind the head
abbrev pub sum_bytes : ℕ → ℕ → List ℕ → List ℕ
sum_bytes number count body = to_le_bytes w32 (crc32c (head_of number count (length body) ++ body))

-- the zeros behind the body
abbrev pub padding : List ℕ → List ℕ
padding body = zeros (4096 * units_for (24 + length body) - (24 + length body))

length-parts_bytes : (number count : ℕ) (body : List ℕ) → length (parts_bytes number count body) ≡ 24 + length body
length-parts_bytes number count body = length-append (head_of number count (length body) ++ sum_bytes number count body) body

-- the parts of a record, one behind the other
in_a_row : (number count : ℕ) (body rest : List ℕ) → in_units (parts_bytes number count body) ++ rest
    ≡ head_of number count (length body) ++ (sum_bytes number count body ++ (body ++ (padding body ++ rest)))
in_a_row number count body rest =
    let head = head_of number count (length body) in
    let sum = sum_bytes number count body in
    ap (λ (n : ℕ). (parts_bytes number count body ++ zeros (4096 * units_for n - n)) ++ rest) (length-parts_bytes number count body)
    ∙ append_assoc (parts_bytes number count body) (padding body) rest
    ∙ append_assoc (head ++ sum) body (padding body ++ rest)
    ∙ append_assoc head sum (body ++ (padding body ++ rest))

-- ---- the head

-- "BREC"
abbrev pub brec : List ℕ
brec = 0x42 ∷ 0x52 ∷ 0x45 ∷ 0x43 ∷ []

no_bytes : (xs : List ℕ) → length xs ≡ 0 → xs ≡ []
no_bytes [] is = refl
no_bytes (x ∷ xs) is = absurd (omega (arith, is))

-- the fields of a head, one behind the other
pub head_read : (head behind_magic behind_size behind_number left magic : List ℕ) (size held count number : ℕ) → length head ≡ 20
    → ReadsBytes 4 head behind_magic magic → behind_magic ≡ to_le_bytes w32 size ++ behind_size → behind_size ≡ to_le_bytes w64 held ++ behind_number
    → behind_number ≡ to_le_bytes w32 count ++ left → magic ≡ brec → held ≡ number → head ≡ head_of number count size
head_read head behind_magic behind_size behind_number left magic size held count number long read at_size at_number at_count is_magic is_number =
    let none : left ≡ [] = no_bytes left (omega (
      arith,
      long,
      ap length read.parts,
      read.size,
      length-append magic behind_magic,
      ap length at_size,
      ap length at_number,
      ap length at_count,
    )) in
    let front = λ (n : ℕ). brec ++ (to_le_bytes w32 size ++ (to_le_bytes w64 n ++ (to_le_bytes w32 count ++ []))) in
    read.parts
    ∙ ap₂ (λ (m f : List ℕ). m ++ f) is_magic (at_size ∙ ap (λ (f : List ℕ). to_le_bytes w32 size ++ f) (at_number
    ∙ ap (λ (f : List ℕ). to_le_bytes w64 held ++ f) (at_count ∙ ap (λ (f : List ℕ). to_le_bytes w32 count ++ f) none)))
    ∙ ap front is_number

-- a head's magic and number
pub head_begins : (head behind_magic behind_size behind_number magic : List ℕ) (n held number count size : ℕ) → ReadsBytes 4 head behind_magic magic
    → behind_magic ≡ to_le_bytes w32 n ++ behind_size → behind_size ≡ to_le_bytes w64 held ++ behind_number → held < 2 ^ 64 → number < 2 ^ 64
    → head ≡ head_of number count size → (magic ≡ brec) × (held ≡ number)
head_begins head behind_magic behind_size behind_number magic n held number count size read at_size at_number held_below below is =
    let numbers = to_le_bytes w64 number ++ to_le_bytes w32 count in
    let begun = same_front magic brec behind_magic (to_le_bytes w32 size ++ numbers) read.size (sym read.parts ∙ is) in
    let sized = same_front (to_le_bytes w32 n) (to_le_bytes w32 size) behind_size numbers refl (sym at_size ∙ begun.1) in
    (begun.0, (number_front w64 (2 ^ 64) wide64 held number behind_number (to_le_bytes w32 count) held_below below (sym at_number ∙ sized.1)).0)

-- ---- a record's parts, each behind the one before

pub after_head : (bytes behind head : List ℕ) (number count : ℕ) (body rest : List ℕ) → ReadsBytes 20 bytes behind head
    → BeginsWithParts bytes number count body rest
    → (head ≡ head_of number count (length body)) × (behind ≡ sum_bytes number count body ++ (body ++ (padding body ++ rest)))
after_head bytes behind head number count body rest read parts =
    same_front head (head_of number count (length body)) behind _ read.size (sym read.parts ∙ parts.spelled ∙ in_a_row number count body rest)

-- the head, the checksum and the body that were read from the front of bytes
pub record ReadsParts (bytes behind_head behind_sum left head : List ℕ) (number count size sum : ℕ) (body : List ℕ) : Type 0 where
  pub head_at : ReadsBytes 20 bytes behind_head head
  pub sum_at : behind_head ≡ to_le_bytes w32 sum ++ behind_sum
  pub body_at : ReadsBytes size behind_sum left body
  pub head_is : head ≡ head_of number count size
  pub count_below : count < 2 ^ 32
  pub size_below : size < 2 ^ 32

-- where a record stands, they are its parts
pub record ArePartsOf (left : List ℕ) (count sum : ℕ) (head body : List ℕ) (its_count : ℕ) (its_body rest : List ℕ) : Type 0 where
  pub count_is : count ≡ its_count
  pub body_is : body ≡ its_body
  pub sum_is : to_le_bytes w32 sum ≡ to_le_bytes w32 (crc32c (head ++ body))
  pub behind : left ≡ padding body ++ rest

pub parts_are : (bytes behind_head behind_sum left head : List ℕ) (number count size sum : ℕ) (body : List ℕ) (its_count : ℕ) (its_body rest : List ℕ)
    → ReadsParts bytes behind_head behind_sum left head number count size sum body → BeginsWithParts bytes number its_count its_body rest
    → ArePartsOf left count sum head body its_count its_body rest
parts_are bytes behind_head behind_sum left head number count size sum body its_count its_body rest read parts =
    let first = after_head bytes behind_head head number its_count its_body rest read.head_at parts in
    let same : head_of number count size ≡ head_of number its_count (length its_body) = sym read.head_is ∙ first.0 in
    let sizes = number_front w32 (2 ^ 32) wide32 size (length its_body) _ _ read.size_below parts.body_below (ap (drop 4) same) in
    let counts = number_front w32 (2 ^ 32) wide32 count its_count [] [] read.count_below parts.count_below (ap (drop 16) same) in
    let sums = same_front (to_le_bytes w32 sum) (sum_bytes number its_count its_body) behind_sum (its_body ++ (padding its_body ++ rest)) refl
    (sym read.sum_at ∙ first.1) in
    let bodies = same_front body its_body left (padding its_body ++ rest) (read.body_at.size ∙ sizes.0) (sym read.body_at.parts ∙ sums.1) in
    record {
      count_is = counts.0;
      body_is = bodies.0;
      sum_is = sums.0 ∙ ap₂ (λ (h b : List ℕ). to_le_bytes w32 (crc32c (h ++ b))) (sym first.0) (sym bodies.0);
      behind = bodies.1 ∙ ap (λ (b : List ℕ). padding b ++ rest) (sym bodies.0);
    }

-- with their checksum and zeros behind them they are a record
pub are_parts : (bytes behind_head behind_sum left head : List ℕ) (number count size sum : ℕ) (body pad rest : List ℕ) (zero_count : ℕ)
    → ReadsParts bytes behind_head behind_sum left head number count size sum body
    → to_le_bytes w32 sum ≡ to_le_bytes w32 (crc32c (head ++ body)) → ReadsBytes zero_count left rest pad
    → zero_count ≡ 4096 * units_for (24 + length body) - (24 + length body) → All (λ b. b ≡ 0) pad
    → BeginsWithParts bytes number count body rest
are_parts bytes behind_head behind_sum left head number count size sum body pad rest zero_count read is_sum pad_at is_count zero =
    let head_is : head ≡ head_of number count (length body) = read.head_is ∙ ap (head_of number count) (sym read.body_at.size) in
    let pad_is : pad ≡ padding body = zeros_of_all _ pad (pad_at.size ∙ is_count) zero in
    let sum_is : to_le_bytes w32 sum ≡ sum_bytes number count body = is_sum ∙ ap (λ (h : List ℕ). to_le_bytes w32 (crc32c (h ++ body))) head_is in
    let tail : left ≡ padding body ++ rest = pad_at.parts ∙ ap (λ (p : List ℕ). p ++ rest) pad_is in
    record {
      spelled =
          read.head_at.parts
          ∙ ap₂ (λ (h f : List ℕ). h ++ f) head_is (read.sum_at
          ∙ ap₂ (λ (s f : List ℕ). s ++ f) sum_is (read.body_at.parts ∙ ap (λ (f : List ℕ). body ++ f) tail))
          ∙ sym (in_a_row number count body rest);
      count_below = read.count_below;
      body_below = omega (arith, read.size_below, read.body_at.size);
    }

-- what is behind it begins with its units
pub behind_units : (bytes : List ℕ) (number count : ℕ) (body rest : List ℕ) (units : ℕ) → BeginsWithParts bytes number count body rest
    → units ≡ units_for (24 + length body) → IsCut bytes number count body units
behind_units bytes number count body rest units parts is =
    let size : length (in_units (parts_bytes number count body)) ≡ 4096 * units = length-in_units (parts_bytes number count body)
    ∙ ap (λ (n : ℕ). 4096 * units_for n) (length-parts_bytes number count body) ∙ ap (λ (n : ℕ). 4096 * n) (sym is) in
    let same : drop (4096 * units) bytes ≡ rest = ap (drop (4096 * units)) parts.spelled ∙ drop_at (in_units (parts_bytes number count body)) rest (4096 * units) size in
    record { stands = subst (BeginsWithParts bytes number count body) (sym same) parts; size = is }

-- bytes begin with one such record at most
same_body : (bytes : List ℕ) (number n m : ℕ) (a b x y : List ℕ) → BeginsWithParts bytes number n a x → BeginsWithParts bytes number m b y → (n ≡ m) × (a ≡ b)
same_body bytes number n m a b x y p q =
    let e = sym (in_a_row number n a x) ∙ sym p.spelled ∙ q.spelled ∙ in_a_row number m b y in
    let heads = same_front (head_of number n (length a)) (head_of number m (length b)) _ _ refl e in
    let sizes = number_front w32 (2 ^ 32) wide32 (length a) (length b) _ _ p.body_below q.body_below (ap (drop 4) heads.0) in
    let counts = number_front w32 (2 ^ 32) wide32 n m [] [] p.count_below q.count_below (ap (drop 16) heads.0) in
    let sums = same_front (sum_bytes number n a) (sum_bytes number m b) _ _ refl heads.1 in
    (counts.0, (same_front a b _ _ sizes.0 sums.1).0)

-- ---- records

pub parts_of_record : (bytes : List ℕ) (number : ℕ) (ops : List RowOp) (rest : List ℕ) → BeginsWithRecord bytes number ops rest
    → BeginsWithParts bytes number (length ops) (ops_bytes ops) rest
parts_of_record bytes number ops rest record_at = record {
  spelled = record_at.spelled;
  count_below = omega (arith, count_below ops, record_at.body_below);
  body_below = record_at.body_below;
}

-- ---- the operations in a body

-- a record's operations are those that its body spells
pub ops_of_record : (bytes : List ℕ) (number count : ℕ) (body : List ℕ) (units : ℕ) (found ops : List RowOp) (rest : List ℕ)
    → IsCut bytes number count body units → SpellOps body found → BeginsWithRecord bytes number ops rest → (found ≡ ops) × (count ≡ length ops)
ops_of_record bytes number count body units found ops rest cut spelled here =
    let same = same_body bytes number count (length ops) body (ops_bytes ops) _ rest cut.stands (parts_of_record bytes number ops rest here) in
    (ops_bytes-same found ops spelled.fit here.fit (sym spelled.spelled ∙ same.1), same.0)

-- where the body spells none, no record stands there
pub no_record : (bytes : List ℕ) (number count : ℕ) (body : List ℕ) (units : ℕ) (ops : List RowOp) (rest : List ℕ) → IsCut bytes number count body units
    → ((found : List RowOp) → ¬ (SpellOps body found)) → ¬ (BeginsWithRecord bytes number ops rest)
no_record bytes number count body units ops rest cut none here =
    let same = same_body bytes number count (length ops) body (ops_bytes ops) _ rest cut.stands (parts_of_record bytes number ops rest here) in
    none ops (record { fit = here.fit; spelled = same.1 })

-- where it spells as many as the head says, they are the record's
pub is_record : (bytes : List ℕ) (number count : ℕ) (body : List ℕ) (units : ℕ) (ops : List RowOp) → IsCut bytes number count body units
    → SpellOps body ops → number < 2 ^ 62 → length ops ≡ count
    → BeginsWithRecord bytes number ops (drop (4096 * units) bytes) × (units ≡ unit_count number ops)
is_record bytes number count body units ops cut spelled below is = (
  record {
    spelled = cut.stands.spelled ∙ ap₂ (λ (n : ℕ) (b : List ℕ). in_units (parts_bytes number n b) ++ drop (4096 * units) bytes) (sym is) spelled.spelled;
    number_below = below;
    body_below = subst (λ (b : List ℕ). length b < 2 ^ 32) spelled.spelled cut.stands.body_below;
    fit = spelled.fit;
  },
  cut.size ∙ ap (λ (b : List ℕ). units_for (24 + length b)) spelled.spelled ∙ ap units_for (sym (length-parts_bytes number (length ops) (ops_bytes ops))),
)

-- ---- zeros behind a body

-- where a record stands, there are as many zeros as it needs
pub padding_there : (left body rest : List ℕ) → left ≡ padding body ++ rest → 4096 * units_for (24 + length body) - (24 + length body) ≤ length left
padding_there left body rest is =
    omega (arith, ap length is, length-append (padding body) rest, length-zeros (4096 * units_for (24 + length body) - (24 + length body)))

pub zeros_there : (left body pad rest its_rest : List ℕ) (count : ℕ) → ReadsBytes count left rest pad
    → count ≡ 4096 * units_for (24 + length body) - (24 + length body) → left ≡ padding body ++ its_rest → All (λ b. b ≡ 0) pad
zeros_there left body pad rest its_rest count read is stands =
    let size : length pad ≡ length (padding body) =
    read.size ∙ is ∙ sym (length-zeros (4096 * units_for (24 + length body) - (24 + length body))) in
    all_of_zeros _ pad (same_front pad (padding body) rest its_rest size (sym read.parts ∙ stands)).0

-- ---- what the head says

-- the head of the record that bytes with these at their front begin with
head_there : (bytes head more : List ℕ) (number : ℕ) (ops : List RowOp) (rest : List ℕ) → head ≡ take 20 bytes → length head ≡ 20
    → BeginsWithRecord (bytes ++ more) number ops rest → head ≡ head_of number (length ops) (length (ops_bytes ops))
head_there bytes head more number ops rest front size here =
    let cut : bytes ++ more ≡ head ++ (drop 20 bytes ++ more) =
    ap (λ (b : List ℕ). b ++ more) (sym (take-append-drop 20 bytes)) ∙ append_assoc (take 20 bytes) (drop 20 bytes) more
    ∙ ap (λ (h : List ℕ). h ++ (drop 20 bytes ++ more)) (sym front) in
    let read : ReadsBytes 20 (bytes ++ more) (drop 20 bytes ++ more) head = record { size = size; parts = cut } in
    (after_head (bytes ++ more) (drop 20 bytes ++ more) head number (length ops) (ops_bytes ops) rest read
    (parts_of_record (bytes ++ more) number ops rest here)).0

-- where no head of this number stands, there is no record
pub no_head : (bytes head : List ℕ) (number : ℕ) → head ≡ take 20 bytes → length head ≡ 20
    → ((count size : ℕ) → head ≢ head_of number count size) → BeginsNoRecord bytes number
no_head bytes head number front size none more ops rest here =
    none (length ops) (length (ops_bytes ops)) (head_there bytes head more number ops rest front size here)

-- a record with this head takes as many units as it says
pub units_said : (bytes head : List ℕ) (number count said units : ℕ) → head ≡ take 20 bytes → length head ≡ 20
    → head ≡ head_of number count said → said < 2 ^ 32 → units ≡ units_for (24 + said) → TakesUnits bytes number units
units_said bytes head number count said units front size is below takes more ops rest here =
    let same : head_of number count said ≡ head_of number (length ops) (length (ops_bytes ops)) =
    sym is ∙ head_there bytes head more number ops rest front size here in
    let sizes = number_front w32 (2 ^ 32) wide32 said (length (ops_bytes ops)) _ _ below here.body_below (ap (drop 4) same) in
    ap units_for (length-parts_bytes number (length ops) (ops_bytes ops)) ∙ ap (λ (n : ℕ). units_for (24 + n)) (sym sizes.0) ∙ sym takes
