-- A run that stopped for want of memory before its words were read.
use Rattle.std.proofs.Common.{◌≡◌, inl, ℕ, List, [], Option, Some, None, Err, refl, sym, subst}
use Rattle.block_device.specs.Prelude.{Disk}
use Rattle.end_points.specs.Bay.{BayView}
use Rattle.object_model.specs.declared.book.Book.{Book}
use Rattle.command_words.specs.declared.command_line.CommandLine.{CommandLine}
use Rattle.command_words.specs.declared.command_line.CommandLine.TheVariants.{Mkfs, Step, Dump, Fsck}
use Rattle.run_texts.specs.declared.status.Stop.TheVariants as stop
use Rattle.run_texts.specs.declared.work_end.WorkEnd.TheVariants as end
use Rattle.run_texts.specs.Prelude.{Output, ReportsStep, ReportsStop}
use Rattle.client_runs.specs.Prelude.{empty_book}
use Rattle.bstore_top.specs.StepRun.{seen}
use Rattle.bstore_top.specs.Run.{LeavesGiven, Ran}

module _ (status : ℕ) (disk : Option Disk) (book : Book) (old new : Output) (no_disk : disk ≡ None) (no_book : book ≡ empty_book)
    (told : ReportsStop stop.OutOfMemory status old new) where
  pub unread_run : (faults : Option ℕ) (sources : List ℕ) (bay : BayView) (n : ℕ) → sources ≡ [] → (line : CommandLine)
      → Ran line status (seen disk faults sources book) bay bay n n old new
  unread_run faults sources bay n no_source (Mkfs dev half units prefer) = record {
    stop = Some stop.OutOfMemory;
    cause = tt;
    left = subst (λ (o : Option Disk). LeavesGiven dev units (Some stop.OutOfMemory) bay o bay) (sym no_disk) tt;
    printed = told;
  }
  unread_run faults sources bay n no_source (Step dev seed files) = record {
    end = end.OutOfMemory;
    course = inl (record { no_disk = no_disk; no_book = no_book; cause = tt });
    printed = subst (λ (b : Book). ReportsStep b end.OutOfMemory status old new) (sym no_book) told;
  }
  unread_run faults sources bay n no_source (Dump dev) = record {
    end = end.OutOfMemory;
    colls = [];
    no_book = no_book;
    no_source = no_source;
    course = inl (record { no_disk = no_disk; nothing = refl; cause = tt });
    printed = told;
    cut = λ never. absurd cc;
  }
  unread_run faults sources bay n no_source (Fsck dev) = record {
    ended = Err end.OutOfMemory;
    no_book = no_book;
    no_source = no_source;
    course = inl (record { no_disk = no_disk; end = end.OutOfMemory; ended_so = refl; cause = tt });
    printed = told;
  }
