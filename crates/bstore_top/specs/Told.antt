-- What a crash leaves of that which a client was told.
use Rattle.std.specs.Prelude.{◌≡◌, ℕ, true, List, length, slice_get, Some, codes}
use Rattle.block_device.specs.Prelude.{IsCrashImage, Disk, History}
use Rattle.object_model.specs.Prelude.{Objects, is_acknowledged}
use Rattle.object_model.specs.declared.book.Book.{Book}
use Rattle.object_model.specs.declared.book.Entry.{Entry}
use Rattle.store_image.specs.Prelude.{NoChanceMatch}
use Rattle.store_image.specs.Durability.{StandsForPrefix}
use Rattle.run_texts.specs.Prelude.{reply_text}
use Rattle.bstore_top.specs.Keeping.{IsDurableFrom}
use Rattle.bstore_top.specs.Waiting.{is_among_first}

-- the entry at this place of the book is printed with the reply `ok`
pub record IsToldOk (book : Book) (place : ℕ) : Type 0 where
  pub entry : Entry
  pub there : slice_get book.entries place ≡ Some entry
  pub reply : reply_text (is_acknowledged book.commits place) entry.command entry.answer ≡ codes "ok"

-- the image stands for the objects after first commits of the book, among which is the one of this place
pub record HoldsCommit (place : ℕ) (h : History) (objects : Objects) (book : Book) (image : List ℕ) : Type 0 where
  pub prefix : StandsForPrefix 0 (length h.log) h.start objects book image
  pub among : is_among_first prefix.count book.commits place ≡ true

-- so does every image that a crash behind the whole log may leave, unless something torn is valid by chance
abbrev pub EachImageHolds : ℕ → History → Objects → Book → Type 0
EachImageHolds place h objects book = (image : List ℕ) → IsCrashImage h.start h.log image → NoChanceMatch h.start h.log image
    → HoldsCommit place h objects book image

-- The law: what was told `ok` is there.
abbrev pub ToldOkIsThere : Type 0
ToldOkIsThere = (contents : List ℕ) (objects : Objects) (book : Book) (disk : Disk) → (durable : IsDurableFrom contents objects book disk)
    → (place : ℕ) → IsToldOk book place → EachImageHolds place durable.history objects book
