-- Pages of an object, read from memory or from the device: which bytes of units are in memory, and what bytes a unit holds else, are arguments.
use Rattle.std.specs.Prelude.{◌≡◌, ◌≢◌, ℕ, ◌+◌, ◌-◌, ◌/◌, ◌%◌, ◌<◌, min, nat_lt, List, [], ◌∷◌, ◌++◌, length, take, drop, Option, None, IfSome, MatchOption, if◌then◌else◌}
use Rattle.byte_maps.specs.Units.{unit_at, zeros, IsUnits}
use Rattle.unit_fields.specs.declared.width.Width.{Width}
use Rattle.crc32c_csum.specs.Prelude.{crc32c}
use Rattle.block_device.specs.Prelude.{HasNoBadDone, Disk, last_at}
use Rattle.meta_rows.specs.Prelude.{Rows}
use Rattle.store_image.specs.Prelude.{HasOnode, PageUnit, IsPageOn, IsHole, pages_of}

-- the unit holds these bytes, as far as the device tells: those last written there, where no write of it ended badly
abbrev pub IsHeldAt : Disk → ℕ → List ℕ → Type 0
IsHeldAt d unit bytes = IfSome d.history (λ h. HasNoBadDone h.log unit → bytes ≡ last_at h unit)

-- the bytes of no unit are in memory
abbrev pub no_memory : ℕ → Option (List ℕ)
no_memory unit = None

-- what a unit gives to a reader: its bytes in memory as they are, or those that it holds where they have the checksum that is kept
abbrev pub IsRead : (ℕ → Option (List ℕ)) → (ℕ → List ℕ → Type 0) → PageUnit → List ℕ → Type 0
IsRead memory held on bytes = MatchOption (memory on.unit) (held on.unit bytes × (crc32c bytes ≡ on.csum)) (λ b. bytes ≡ b)

-- what a unit gives, its checksum aside: its bytes in memory, or those that it holds
abbrev pub IsFound : (ℕ → Option (List ℕ)) → (ℕ → List ℕ → Type 0) → ℕ → List ℕ → Type 0
IsFound memory held unit bytes = MatchOption (memory unit) (held unit bytes) (λ b. bytes ≡ b)

-- A page of an object is good: it is a hole and its bytes are zeros, or its unit gives them.
pub data IsGoodPage (w : Width) (memory : ℕ → Option (List ℕ)) (held : ℕ → List ℕ → Type 0) (rows : Rows) (c o : List ℕ) (page : ℕ)
    (bytes : List ℕ) : Type 0 where
  hole : IsHole w rows c o page → bytes ≡ zeros 4096 → IsGoodPage w memory held rows c o page bytes
  mapped : (on : PageUnit) → IsPageOn w rows c o page on → IsRead memory held on bytes → IsGoodPage w memory held rows c o page bytes

-- It is bad: its unit isn't in memory and holds bytes whose checksum isn't the one that is kept.
pub record IsBadPage (w : Width) (memory : ℕ → Option (List ℕ)) (held : ℕ → List ℕ → Type 0) (rows : Rows) (c o : List ℕ)
    (page unit kept found : ℕ) : Type 0 where
  pub is_on : IsPageOn w rows c o page (record { unit = unit; csum = kept })
  pub not_in_memory : memory unit ≡ None
  pub bytes : List ℕ
  pub size : length bytes ≡ 4096
  pub holds : held unit bytes
  pub is_found : found ≡ crc32c bytes
  pub differs : found ≢ kept

-- so many pages from the first on are good, and these are their bytes
pub record AreGoodPages (w : Width) (memory : ℕ → Option (List ℕ)) (held : ℕ → List ℕ → Type 0) (rows : Rows) (c o : List ℕ)
    (first count : ℕ) (bytes : List ℕ) : Type 0 where
  pub size : IsUnits count bytes
  pub each : (i : ℕ) → i < count → IsGoodPage w memory held rows c o (first + i) (unit_at i bytes)

-- of so many pages from the first on it is the first bad one
pub record IsFirstBad (w : Width) (memory : ℕ → Option (List ℕ)) (held : ℕ → List ℕ → Type 0) (rows : Rows) (c o : List ℕ)
    (first count unit kept found : ℕ) : Type 0 where
  pub index : ℕ
  pub within : index < count
  pub before : List ℕ
  pub good : AreGoodPages w memory held rows c o first index before
  pub bad : IsBadPage w memory held rows c o (first + index) unit kept found

-- ---- units by the checksums that are kept

-- these units are good, and these are their bytes, in order: one list for each
abbrev pub AreGoodUnits : (ℕ → Option (List ℕ)) → (ℕ → List ℕ → Type 0) → List PageUnit → List (List ℕ) → Type 0
AreGoodUnits memory held [] [] = Unit {0}
AreGoodUnits memory held (on ∷ units) (bytes ∷ read) = IsRead memory held on bytes × AreGoodUnits memory held units read
AreGoodUnits memory held units read = ⊥

-- A unit is bad, as a page on it: it isn't in memory and holds bytes whose checksum isn't the one that is kept.
pub record IsBadUnit (memory : ℕ → Option (List ℕ)) (held : ℕ → List ℕ → Type 0) (unit kept found : ℕ) : Type 0 where
  pub not_in_memory : memory unit ≡ None
  pub bytes : List ℕ
  pub size : length bytes ≡ 4096
  pub holds : held unit bytes
  pub is_found : found ≡ crc32c bytes
  pub differs : found ≢ kept

-- of these units it is the first bad one
pub record IsFirstBadUnit (memory : ℕ → Option (List ℕ)) (held : ℕ → List ℕ → Type 0) (units : List PageUnit)
    (unit kept found : ℕ) : Type 0 where
  pub front : List PageUnit
  pub rest : List PageUnit
  pub is : units ≡ front ++ (record { unit = unit; csum = kept }) ∷ rest
  pub before : List (List ℕ)
  pub good : AreGoodUnits memory held front before
  pub bad : IsBadUnit memory held unit kept found

-- ---- ranges of bytes

-- where a read of an object of this size ends: behind so many bytes, or at the size
abbrev pub read_end : ℕ → ℕ → ℕ → ℕ
read_end size off len = min size (off + len)

-- the pages that it must read, from that of its first byte on: none where it ends where it begins or before
abbrev pub pages_read : ℕ → ℕ → ℕ → ℕ
pages_read size off len = if nat_lt off (read_end size off len) then pages_of (read_end size off len) - off / 4096 else 0

-- the bytes of a range of an object, cut at its size, where all pages that must be read are good
pub record ReadsRange (w : Width) (memory : ℕ → Option (List ℕ)) (held : ℕ → List ℕ → Type 0) (rows : Rows) (c o : List ℕ)
    (size off len : ℕ) (bytes : List ℕ) : Type 0 where
  pub has_size : HasOnode rows c o size
  pub pages : List ℕ
  pub good : AreGoodPages w memory held rows c o (off / 4096) (pages_read size off len) pages
  pub cut : bytes ≡ take (read_end size off len - off) (drop (off % 4096) pages)

-- the first of the pages that must be read that is bad
pub record FailsAt (w : Width) (memory : ℕ → Option (List ℕ)) (held : ℕ → List ℕ → Type 0) (rows : Rows) (c o : List ℕ)
    (size off len unit kept found : ℕ) : Type 0 where
  pub has_size : HasOnode rows c o size
  pub first_bad : IsFirstBad w memory held rows c o (off / 4096) (pages_read size off len) unit kept found
