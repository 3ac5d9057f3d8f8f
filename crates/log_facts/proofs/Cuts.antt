-- What a crash leaves stands for the objects after a front of the commits.
use Rattle.std.proofs.Common.{◌≡◌, inl, inr, ℕ, ◌<◌, ◌≤◌, List, length, take, Option, Some, None, sym, subst, arith}
use Rattle.std.specs.Prelude.{IfSome, slice_get}
use Rattle.std.proofs.lemmas.List.{take_all}
use Rattle.byte_maps.specs.Units.{unit_at, IsUnits}
use Rattle.block_device.specs.Prelude.{last, IsCrashImage, History, last_at}
use Rattle.object_model.specs.Prelude.{Objects, replay, committed, IsAckedBy, HasAcked}
use Rattle.object_model.specs.declared.book.Book.{Book}
use Rattle.object_model.specs.declared.book.Commit.{Commit}
use Rattle.meta_rows.specs.declared.row_op.RowOp.{RowOp}
use Rattle.meta_rows.specs.Prelude.{Rows, rows_after}
use Rattle.meta_log.specs.declared.slot.Super.{Super}
use Rattle.meta_log.specs.Prelude.{AreRowsOf, width_of, IsActiveSlot}
use Rattle.store_image.specs.Prelude.{IsExactBut, IsLeakedIn, StaysExact, StandsFor, LeavesPrefix}
use Rattle.store_image.proofs.Prelude.{objects_stand}
use Rattle.log_facts.specs.Prelude.{FlushState, SlotsStand, ActiveHalfStands, SoundFor}
use Rattle.log_facts.proofs.Crashes.{leaves_rows}

pub sound_image : (h : History) (s : Super) (rows : Rows) (objects : Objects) (image : List ℕ) → SoundFor h s rows objects
    → IsCrashImage h.start h.log image → IsActiveSlot image s → AreRowsOf image s rows → StandsFor image objects
sound_image h s rows objects image sound is active read = record {
  super = s;
  active = active;
  rows = rows;
  read = read;
  good = sound.good;
  stand = objects_stand (width_of s) (last_at h) (λ unit. unit_at unit image) rows
      (λ unit has. sym (is.clean unit (sound.clean unit has))) objects sound.stand;
}

-- an image that has rows whose bitmap is as exact as that of the contents before
pub exact_image : (before image : List ℕ) (s : Super) (rows : Rows) → IsActiveSlot image s → AreRowsOf image s rows
    → IsExactBut (width_of s) (IsLeakedIn before) rows → StaysExact before image
exact_image before image s rows active read exact was = record { super = s; active = active; rows = rows; read = read; exact = exact }

-- more commits have all that were acknowledged too
acked_more : (base cut : ℕ) (commits : List Commit) (count more : ℕ) → count ≤ more → HasAcked base cut commits count → HasAcked base cut commits more
acked_more base cut commits count more below has i = weaker (slice_get commits i) (has i)
  where
    weaker : (o : Option Commit) → IfSome o (λ c. IsAckedBy base cut c → i < count) → IfSome o (λ c. IsAckedBy base cut c → i < more)
    weaker None p = tt
    weaker (Some c) p = λ acked. let lower = p acked in omega (arith, lower, below)

pub cut_stands : (h : History) (s : Super) (rows : Rows) (tail number : ℕ) (begun : Option (List RowOp)) (given_from : ℕ)
    (second : FlushState) (recs : List (List RowOp)) (base : ℕ) (objects : Objects) (book : Book) (count : ℕ)
    → IsUnits s.units h.start → IsUnits s.units (last h.start h.log) → SlotsStand h s
    → ActiveHalfStands h s rows tail number begun given_from second recs
    → count ≤ length book.commits → HasAcked base (length h.log) book.commits count
    → SoundFor h s rows (replay objects (committed book.entries (take count book.commits)))
    → ((ops : List RowOp) → begun ≡ Some ops → given_from ≡ 0 → SoundFor h s (rows_after rows ops) (replay objects (committed book.entries book.commits)))
    → IsExactBut (width_of s) (IsLeakedIn (last h.start (take base h.log))) rows
    → ((ops : List RowOp) → begun ≡ Some ops → IsExactBut (width_of s) (IsLeakedIn (last h.start (take base h.log))) (rows_after rows ops))
    → LeavesPrefix base h.start objects book h.log
cut_stands h s rows tail number begun given_from second recs base objects book count whole whole_now slots half within acked sound sound_begun
    exact exact_begun image is chance =
    let before : List ℕ = last h.start (take base h.log) in
    let found = leaves_rows h s rows tail number begun given_from second recs image whole whole_now slots half is chance in
    elim found.read [
      | inl read ↦ record {
        count = count;
        within = within;
        has_acked = acked;
        stands = sound_image h s rows (replay objects (committed book.entries (take count book.commits))) image sound is found.active read;
        exact = exact_image before image s rows found.active read exact;
      }
      | inr has ↦
          let all : take (length book.commits) book.commits ≡ book.commits = take_all (length book.commits) book.commits (omega arith) in
          let stands = sound_image h s (rows_after rows has.ops) (replay objects (committed book.entries book.commits)) image
          (sound_begun has.ops has.is_begun has.all_given) is found.active has.read in
          record {
            count = length book.commits;
            within = omega arith;
            has_acked = acked_more base (length h.log) book.commits count (length book.commits) within acked;
            stands = subst (λ commits. StandsFor image (replay objects (committed book.entries commits))) (sym all) stands;
            exact = exact_image before image s (rows_after rows has.ops) found.active has.read (exact_begun has.ops has.is_begun);
          }
    ]
