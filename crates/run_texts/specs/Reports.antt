-- What is printed of a run once its work was done or stopped.
use Rattle.std.specs.Prelude.{ℕ, List, [], ◌∷◌, Option, Result}
use Rattle.object_model.specs.declared.book.Book.{Book}
use Rattle.read_facts.specs.declared.view.CollView.{CollView}
use Rattle.run_texts.specs.declared.status.Stop.{Stop}
use Rattle.run_texts.specs.declared.work_end.WorkEnd.{WorkEnd}
use Rattle.run_texts.specs.Status.{stop_number, end_number}
use Rattle.run_texts.specs.Texts.{as_text, stopped_line, mkfs_text}
use Rattle.findings.specs.declared.finding.Finding.{Finding}
use Rattle.run_texts.specs.FsckTexts.{fsck_number, fsck_text}
use Rattle.run_texts.specs.StepTexts.{step_number, step_text}
use Rattle.run_texts.specs.DumpTexts.{dump_number, dump_text}
use Rattle.run_texts.specs.Printed.{Output, Printed}

-- the text of a run of `mkfs` whose work was done or stopped for this
abbrev pub ReportsMkfs : ℕ → ℕ → Option Stop → ℕ → Output → Output → Type 0
ReportsMkfs half units stop status old new = Printed (end_number stop) (mkfs_text half units stop) status old new

-- the text of one of `step`
abbrev pub ReportsStep : Book → WorkEnd → ℕ → Output → Output → Type 0
ReportsStep book end status old new = Printed (step_number book end) (step_text book end) status old new

-- and of one of `dump`
abbrev pub ReportsDump : List CollView → WorkEnd → ℕ → Output → Output → Type 0
ReportsDump colls end status old new = Printed (dump_number colls end) (dump_text colls end) status old new

-- and of one of `fsck`, that found this or came to no store
abbrev pub ReportsFsck : Result (List Finding) WorkEnd → ℕ → Output → Output → Type 0
ReportsFsck ended status old new = Printed (fsck_number ended) (fsck_text ended) status old new

-- of a run that stopped for this before it did anything
abbrev pub ReportsStop : Stop → ℕ → Output → Output → Type 0
ReportsStop stop status old new = Printed (stop_number stop) (as_text (stopped_line stop ∷ [])) status old new

-- Words that spell no command line: some lines were printed.
pub record ShowedUsage (status : ℕ) (old new : Output) : Type 0 where
  pub lines : List (List ℕ)
  pub printed : Printed 1 (as_text lines) status old new
