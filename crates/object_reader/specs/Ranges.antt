-- Bytes of a range of an object, and their checksum, from pages that were read some at a time.
use Rattle.std.specs.Prelude.{◌≡◌, ℕ, ◌-◌, ◌/◌, ◌%◌, List, take, drop, Option}
use Rattle.crc32c_csum.specs.Prelude.{crc32c, remainder, all_ones}
use Rattle.block_device.specs.Prelude.{Disk}
use Rattle.read_facts.specs.Prelude.{read_end, pages_read}
use Rattle.page_sources.specs.Prelude.{PagesByRows, GivesPages}

-- of each object of this size with these pages, the bytes of a range
pub record GivesRange (memory : ℕ → Option (List ℕ)) (d : Disk) (pages : PagesByRows) (size off len : ℕ) (bytes : List ℕ) : Type 0 where
  pub whole : List ℕ
  pub good : GivesPages memory d pages (off / 4096) (pages_read size off len) whole
  pub cut : bytes ≡ take (read_end size off len - off) (drop (off % 4096) whole)

-- so many pages from page 0 on were read, and this is the remainder of their bytes below a size
pub record IsDigestOf (memory : ℕ → Option (List ℕ)) (d : Disk) (pages : PagesByRows) (size count digest : ℕ) : Type 0 where
  pub whole : List ℕ
  pub good : GivesPages memory d pages 0 count whole
  pub remains : digest ≡ remainder all_ones (take size whole)

-- of each object of this size with these pages, the checksum of its bytes
pub record GivesSum (memory : ℕ → Option (List ℕ)) (d : Disk) (pages : PagesByRows) (size crc : ℕ) : Type 0 where
  pub bytes : List ℕ
  pub gives : GivesRange memory d pages size 0 size bytes
  pub is : crc ≡ crc32c bytes
