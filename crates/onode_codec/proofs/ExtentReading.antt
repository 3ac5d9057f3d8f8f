-- Extents read from the front of bytes: where none stands there, and which those are that the bytes spell.
use Rattle.std.proofs.Common.{◌≡◌, ◌≢◌, ℕ, ◌<◌, ◌≤◌, ◌^◌, ◌+◌, List, [], ◌∷◌, ◌++◌, length, drop, Option, Some, None, MatchOption, refl, sym, ap, ◌∙◌, append_assoc, append-nil, arith}
use Rattle.std.specs.List.{flat_map, AllByRecursion}
use Rattle.std.specs.Int.{w16, w32, w64, to_le_bytes, from_le_bytes}
use Rattle.std.proofs.lemmas.List.{length-append, length_push}
use Rattle.std.proofs.lemmas.List.Concat.{flat_map-cons, flat_map-append}
use Rattle.meta_rows.proofs.FieldLemmas.{number_front, wide16, wide32, wide64}
use Rattle.unit_fields.specs.Prelude.{IsTooShort, ReadsNumber, bytes_of}
use Rattle.unit_fields.specs.declared.width.Width.{Width}
use Rattle.unit_fields.specs.declared.width.Width.TheVariants.{FourBytes}
use Rattle.row_format.specs.Prelude.{Body, private, shared, Extent, page_count, body_bytes, extent_bytes, FitsBody, FitsExtent, csum_bytes, csum_in, FitsCsum}
use Rattle.row_format.proofs.Prelude.{same_head, extent_front, bytes_less}
pub use Rattle.row_format.proofs.ExtentReading.{length-csums}
use Rattle.onode_codec.specs.declared.extent.Head.{Head}
use Rattle.onode_codec.specs.declared.extent.Start.{Start}
use Rattle.onode_codec.specs.declared.extent.Start.TheVariants.{Unit as OnUnit, Slot as OnSlot}
use Rattle.onode_codec.specs.Reading.{start_bytes, FitsStart, extent_head, BeginsWithNoExtent, HasNoStart, ReadsHead, ReadsCsum, ReadsCsums, ReadsExtent, SpellExtents}

-- a head on a unit and its checksums are an extent
pub head_then_csums : (w : Width) (first count unit : ℕ) (csums : List ℕ) → length csums ≡ count
    → extent_head (record { first = first; count = count; start = OnUnit unit }) ++ flat_map (csum_bytes w) csums
    ≡ extent_bytes w (record { first = first; body = private unit csums })
head_then_csums w first count unit csums size =
    ap (λ n. to_le_bytes w32 first ++ (to_le_bytes w16 n ++ (0 ∷ (to_le_bytes w32 unit ++ flat_map (csum_bytes w) csums)))) (sym size)

-- where an extent's first page stands, and what follows the head
abbrev pub start_of : Body → Start
start_of (private unit csums) = OnUnit unit
start_of (shared sbid first count) = OnSlot sbid first

abbrev pub numbers_of : Width → Body → List ℕ
numbers_of w (private unit csums) = flat_map (csum_bytes w) csums
numbers_of w (shared sbid first count) = []

body_parts : (w : Width) (b : Body) (rest : List ℕ) → body_bytes w b ++ rest ≡ start_bytes (start_of b) ++ (numbers_of w b ++ rest)
body_parts w (private unit csums) rest = refl
body_parts w (shared sbid first count) rest = refl

fits_start : (w : Width) (b : Body) → FitsBody w b → FitsStart (start_of b)
fits_start w (private unit csums) fits = fits.0
fits_start w (shared sbid first count) fits = (fits.0, fits.1)

most_pages : (w : Width) (b : Body) → FitsBody w b → page_count b ≤ 256
most_pages w (private unit csums) fits = fits.2
most_pages w (shared sbid first count) fits = fits.3

-- where a page stands is spelled in one way
start_front : (a b : Start) (x y : List ℕ) → FitsStart a → FitsStart b → start_bytes a ++ x ≡ start_bytes b ++ y → (a ≡ b) × (x ≡ y)
start_front (OnUnit u) (OnUnit v) x y fa fb e =
    let unit = number_front w32 (2 ^ 32) wide32 u v x y fa fb (ap (drop 1) e) in
    (ap OnUnit unit.0, unit.1)
start_front (OnUnit u) (OnSlot t j) x y fa fb e = absurd (omega (arith, same_head _ _ _ _ e))
start_front (OnSlot s i) (OnUnit v) x y fa fb e = absurd (omega (arith, same_head _ _ _ _ e))
start_front (OnSlot s i) (OnSlot t j) x y fa fb e =
    let sbid = number_front w64 (2 ^ 64) wide64 s t (to_le_bytes w16 i ++ x) (to_le_bytes w16 j ++ y) fa.0 fb.0 (ap (drop 1) e) in
    let index = number_front w16 (2 ^ 16) wide16 i j x y fa.1 fb.1 sbid.1 in
    (λ k. OnSlot (sbid.0 k) (index.0 k), index.1)

-- a head is that of the extent which stands there
pub record IsHeadOf (w : Width) (h : Head) (b : Body) (rest mid : List ℕ) (first : ℕ) : Type 0 where
  pub first_is : h.first ≡ first
  pub count_is : h.count ≡ page_count b
  pub start_is : h.start ≡ start_of b
  pub behind : mid ≡ numbers_of w b ++ rest

pub head_front : (w : Width) (old mid rest : List ℕ) (h : Head) (first : ℕ) (b : Body) → ReadsHead old mid h
    → FitsExtent w (record { first = first; body = b })
    → old ≡ extent_bytes w (record { first = first; body = b }) ++ rest
    → IsHeadOf w h b rest mid first
head_front w old mid rest h first b read fits is =
    let both : extent_head h ++ mid ≡ extent_bytes w (record { first = first; body = b }) ++ rest = sym read.spelled ∙ is in
    let one = number_front w32 (2 ^ 32) wide32 h.first first (to_le_bytes w16 h.count ++ (start_bytes h.start ++ mid))
    (to_le_bytes w16 (page_count b) ++ (body_bytes w b ++ rest)) read.first_below fits.first both in
    let two = number_front w16 (2 ^ 16) wide16 h.count (page_count b) (start_bytes h.start ++ mid)
    (body_bytes w b ++ rest) (omega (arith, read.most)) (omega (arith, most_pages w b fits.body)) one.1 in
    let three = start_front h.start (start_of b) mid (numbers_of w b ++ rest) read.start_fits (fits_start w b fits.body) (two.1 ∙ body_parts w b rest) in
    record { first_is = one.0; count_is = two.0; start_is = three.0; behind = three.1 }

fits_push : (w : Width) (cs : List ℕ) (c : ℕ) → FitsCsum w c → AllByRecursion (FitsCsum w) cs → AllByRecursion (FitsCsum w) (cs ++ c ∷ [])
fits_push w [] c fits all = (fits, tt)
fits_push w (k ∷ cs) c fits all = (all.0, fits_push w cs c fits all.1)

-- a number that was read is a checksum
pub csum_read : (w : Width) (old new : List ℕ) (found : Option ℕ)
    → MatchOption found (IsTooShort 4 old new) (ReadsNumber (from_le_bytes w32) (to_le_bytes w32) old new)
    → MatchOption found (IsTooShort (bytes_of w 1) old new) (ReadsCsum w old new)
unfolding csum_in
csum_read FourBytes old new None short = short
csum_read FourBytes old new (Some csum) read = record {
  fits = let same = read.value_is ∙ ap (from_le_bytes w32) read.spelled in omega (arith, same);
  is = read.value_is;
  spelled = read.spelled;
}

pub csums_none : (w : Width) (old : List ℕ) → ReadsCsums w 0 old old []
csums_none w old = record { size = refl; fit = tt; spelled = refl }

-- one checksum more is read
pub csums_more : (w : Width) (count csum : ℕ) (old mid new cs : List ℕ) → ReadsCsum w mid new csum → ReadsCsums w count old mid cs
    → ReadsCsums w (count + 1) old new (cs ++ csum ∷ [])
csums_more w count csum old mid new cs one read = record {
  size = length_push cs csum ∙ ap (λ k. k + 1) read.size;
  fit = fits_push w cs csum one.fits read.fit;
  spelled = read.spelled ∙ ap (λ l. flat_map (csum_bytes w) cs ++ l) one.spelled
      ∙ sym (append_assoc (flat_map (csum_bytes w) cs) (csum_bytes w csum) new)
      ∙ ap (λ (l : List ℕ). (flat_map (csum_bytes w) cs ++ l) ++ new) (sym (flat_map-cons (csum_bytes w) csum [] ∙ append-nil (csum_bytes w csum)))
      ∙ ap (λ (l : List ℕ). l ++ new) (sym (flat_map-append (csum_bytes w) cs (csum ∷ [])));
}

-- where fewer bytes than one's are left behind some, there aren't as many as are wanted
pub csums_short : (w : Width) (count i : ℕ) (old mid cs : List ℕ) → ReadsCsums w i old mid cs → i < count → length mid < bytes_of w 1
    → length old < bytes_of w count
csums_short w count i old mid cs read lt few = omega (
  arith,
  few,
  bytes_less w i count lt,
  ap length read.spelled,
  length-append (flat_map (csum_bytes w) cs) mid,
  length-csums w cs ∙ ap (bytes_of w) read.size,
)

-- a head and the checksums behind it were read, which are an extent
pub extent_read : (w : Width) (old mid new csums : List ℕ) (first count unit : ℕ) → ReadsHead old mid (record { first = first; count = count; start = OnUnit unit })
    → ReadsCsums w count mid new csums → ReadsExtent w old new (record { first = first; body = private unit csums })
extent_read w old mid new csums first count unit head numbers = record {
  fits = record {
    first = head.first_below;
    body = (head.start_fits, omega (arith, numbers.size, head.some), omega (arith, numbers.size, head.most), numbers.fit);
  };
  spelled = head.spelled ∙ ap (λ l. extent_head (record { first = first; count = count; start = OnUnit unit }) ++ l) numbers.spelled
      ∙ sym (append_assoc (extent_head (record { first = first; count = count; start = OnUnit unit })) (flat_map (csum_bytes w) csums) new)
      ∙ ap (λ l. l ++ new) (head_then_csums w first count unit csums numbers.size);
}

-- or a head alone, of one on slots
pub slots_read : (w : Width) (old new : List ℕ) (first count sbid index : ℕ)
    → ReadsHead old new (record { first = first; count = count; start = OnSlot sbid index })
    → ReadsExtent w old new (record { first = first; body = shared sbid index count })
slots_read w old new first count sbid index head = record {
  fits = record { first = head.first_below; body = (head.start_fits.0, head.start_fits.1, head.some, head.most) };
  spelled = head.spelled;
}

pub some_bytes : (w : Width) (e : Extent) (rest : List ℕ) → 0 < length (extent_bytes w e ++ rest)
some_bytes w e rest =
    omega (
      arith,
      length-append (extent_bytes w e) rest,
      length-append (to_le_bytes w32 e.first)
          (to_le_bytes w16 (page_count e.body) ++ body_bytes w e.body),
    )

-- the extents that bytes spell are the one that was read, and those that the bytes behind it spell
pub record AreBehind (w : Width) (e : Extent) (es : List Extent) (new : List ℕ) : Type 0 where
  pub rest : List Extent
  pub are : es ≡ e ∷ rest
  pub spelled : SpellExtents w new rest

pub spelled_behind : (w : Width) (old new : List ℕ) (e : Extent) (es : List Extent) → SpellExtents w old es → ReadsExtent w old new e
    → AreBehind w e es new
spelled_behind w old new e [] spelled read = absurd (omega (arith, ap length (sym spelled.spelled ∙ read.spelled), some_bytes w e new))
spelled_behind w old new e (k ∷ es) spelled read =
    let both = extent_front w e k new (flat_map (extent_bytes w) es) read.fits spelled.fit.0
    (sym read.spelled ∙ spelled.spelled ∙ flat_map-cons (extent_bytes w) k es) in
    record {
      rest = es;
      are = λ i. sym both.0 i ∷ es;
      spelled = record { fit = spelled.fit.1; spelled = both.1 };
    }

-- behind the head of an extent on units there are as many checksums as it says
csums_there : (w : Width) (old mid rest : List ℕ) (first count unit other : ℕ) (b : Body)
    → ReadsHead old mid (record { first = first; count = count; start = OnUnit unit })
    → FitsExtent w (record { first = other; body = b })
    → old ≡ extent_bytes w (record { first = other; body = b }) ++ rest → bytes_of w count ≤ length mid
csums_there w old mid rest first count unit other (private at csums) read fits is =
    let head = head_front w old mid rest (record { first = first; count = count; start = OnUnit unit }) other (private at csums) read fits is in
    omega (
      arith,
      ap (bytes_of w) head.count_is,
      ap length head.behind,
      length-append (flat_map (csum_bytes w) csums) rest,
      length-csums w csums,
    )
csums_there w old mid rest first count unit other (shared sbid index n) read fits is =
    let head = head_front w old mid rest (record { first = first; count = count; start = OnUnit unit }) other (shared sbid index n) read fits is in
    absurd (kind head.start_is)
  where
    on_unit : Start → ℕ
    on_unit (OnUnit u) = 0
    on_unit (OnSlot s i) = 1

    kind : OnUnit unit ≡ OnSlot sbid index → ⊥
    kind e = omega (arith, ap on_unit e)

-- where fewer follow, no extent stands there
pub csums_missing : (w : Width) (old mid : List ℕ) (first count unit : ℕ) → ReadsHead old mid (record { first = first; count = count; start = OnUnit unit })
    → length mid < bytes_of w count → BeginsWithNoExtent w old
csums_missing w old mid first count unit read few e rest fits is =
    absurd (omega (arith, few, csums_there w old mid rest first count unit e.first e.body read fits is))

-- where no kind of extent stands behind a page and a number, no extent stands there
pub start_missing : (w : Width) (old mid new : List ℕ) (first count : ℕ) → first < 2 ^ 32 → count < 2 ^ 16 → old ≡ to_le_bytes w32 first ++ mid
    → mid ≡ to_le_bytes w16 count ++ new → HasNoStart new → BeginsWithNoExtent w old
start_missing w old mid new first count low few front behind none e rest fits is =
    let one = number_front w32 (2 ^ 32) wide32 first e.first mid (to_le_bytes w16 (page_count e.body) ++ (body_bytes w e.body ++ rest))
    low fits.first (sym front ∙ is) in
    let two = number_front w16 (2 ^ 16) wide16 count (page_count e.body) new (body_bytes w e.body ++ rest) few
    (omega (arith, most_pages w e.body fits.body)) (sym behind ∙ one.1) in
    none (start_of e.body) (numbers_of w e.body ++ rest) (fits_start w e.body fits.body) (two.1 ∙ body_parts w e.body rest)

regroup : (w : Width) (k : Extent) (a : List Extent) (left : List ℕ)
    → flat_map (extent_bytes w) (k ∷ a) ++ left ≡ extent_bytes w k ++ (flat_map (extent_bytes w) a ++ left)
regroup w k a left =
    ap (λ (l : List ℕ). l ++ left) (flat_map-cons (extent_bytes w) k a) ∙ append_assoc (extent_bytes w k) (flat_map (extent_bytes w) a) left

-- where no extent stands behind those that were read, the whole is no spelling
no_more : (w : Width) (a es : List Extent) (left : List ℕ) → AllByRecursion (FitsExtent w) a → AllByRecursion (FitsExtent w) es → left ≢ []
    → BeginsWithNoExtent w left → flat_map (extent_bytes w) a ++ left ≢ flat_map (extent_bytes w) es
no_more w [] [] left fa fes some begins e = some e
no_more w [] (k ∷ es) left fa fes some begins e = begins k (flat_map (extent_bytes w) es) fes.0 (e ∙ flat_map-cons (extent_bytes w) k es)
no_more w (k ∷ a) [] left fa fes some begins e =
    absurd (omega (arith, some_bytes w k (flat_map (extent_bytes w) a ++ left), ap length (sym (regroup w k a left) ∙ e)))
no_more w (k ∷ a) (l ∷ es) left fa fes some begins e =
    let first = extent_front w k l (flat_map (extent_bytes w) a ++ left) (flat_map (extent_bytes w) es) fa.0 fes.0
    (sym (regroup w k a left) ∙ e ∙ flat_map-cons (extent_bytes w) l es) in
    no_more w a es left fa.1 fes.1 some begins first.1

pub no_spelling : (w : Width) (bytes left : List ℕ) (a es : List Extent) → bytes ≡ flat_map (extent_bytes w) a ++ left
    → AllByRecursion (FitsExtent w) a
    → left ≢ [] → BeginsWithNoExtent w left → ¬ (SpellExtents w bytes es)
no_spelling w bytes left a es is fa some begins spelled = no_more w a es left fa spelled.fit some begins (sym is ∙ spelled.spelled)
