-- What a run of `step` prints: a function of its book and its end.
use Rattle.std.specs.Prelude.{ℕ, Bool, true, false, List, [], ◌∷◌, ◌++◌, codes, decimal}
use Rattle.object_model.specs.declared.book.Book.{Book}
use Rattle.run_texts.specs.declared.status.Stop.{Stop}
use Rattle.run_texts.specs.declared.status.Stop.TheVariants as stop
use Rattle.run_texts.specs.declared.work_end.WorkEnd.{WorkEnd}
use Rattle.run_texts.specs.declared.work_end.WorkEnd.TheVariants.{Done, BadLine, NoSuper, BadRow, NotExact, WornOut, DeviceFault, OutOfMemory, BayFault, SinkFault}
use Rattle.run_texts.specs.declared.status.Status.{Status}
use Rattle.run_texts.specs.declared.status.Status.TheVariants as status
use Rattle.run_texts.specs.Status.{number}
use Rattle.run_texts.specs.Texts.{as_text, stopped_line}
use Rattle.run_texts.specs.Replies.{reply_lines, done_line, has_csum}
use Rattle.run_texts.specs.Hex.{hex_text}

-- how a run has ended whose work ended so, unless it has met a bad unit
abbrev pub work_status : WorkEnd → Status
work_status (Done free) = status.Done
work_status (BadLine script n) = status.Stopped stop.BadScript
work_status NoSuper = status.Stopped stop.Refused
work_status (BadRow key) = status.Stopped stop.Refused
work_status (NotExact unit) = status.Stopped stop.Refused
work_status WornOut = status.Stopped stop.Refused
work_status DeviceFault = status.Stopped stop.DeviceFault
work_status OutOfMemory = status.Stopped stop.OutOfMemory
work_status BayFault = status.Stopped stop.BayFault
work_status SinkFault = status.SinkFault

-- The first cause in time: a bad unit that was met comes before what ended the run.
abbrev pub first_cause : Bool → Stop → Stop
first_cause true late = stop.Refused
first_cause false late = late

-- a run that has met a bad unit, or not, has this status
abbrev pub end_status : Bool → WorkEnd → ℕ
end_status true end = 4
end_status false end = number (work_status end)

-- the exit status of a run of `step`
abbrev pub step_number : Book → WorkEnd → ℕ
step_number book end = end_status (has_csum book.entries) end

-- the first bad line of a client's script
abbrev pub script_line : ℕ → ℕ → List ℕ
script_line script n = codes "script " ++ decimal script ++ codes " line " ++ decimal n

-- the store has a bad row, under this key
abbrev pub bad_row_line : List ℕ → List ℕ
bad_row_line key = codes "mount BadRow " ++ hex_text key

-- the bitmap doesn't say who owns this unit
abbrev pub not_exact_line : ℕ → List ℕ
not_exact_line unit = codes "mount NotExact unit=" ++ decimal unit

-- the last lines of a run that stopped before its work was done
abbrev pub fail_lines : Bool → WorkEnd → List (List ℕ)
fail_lines bad (Done free) = []
fail_lines bad (BadLine script n) = script_line script n ∷ stopped_line stop.BadScript ∷ []
fail_lines bad NoSuper = codes "mount NoSuper" ∷ stopped_line stop.Refused ∷ []
fail_lines bad (BadRow key) = bad_row_line key ∷ stopped_line stop.Refused ∷ []
fail_lines bad (NotExact unit) = not_exact_line unit ∷ stopped_line stop.Refused ∷ []
fail_lines bad WornOut = codes "mount WornOut" ∷ stopped_line stop.Refused ∷ []
fail_lines bad DeviceFault = stopped_line (first_cause bad stop.DeviceFault) ∷ []
fail_lines bad OutOfMemory = stopped_line (first_cause bad stop.OutOfMemory) ∷ []
fail_lines bad BayFault = stopped_line (first_cause bad stop.BayFault) ∷ []
fail_lines bad SinkFault = []

-- the lines behind the replies
abbrev pub end_lines : Book → WorkEnd → List (List ℕ)
end_lines book (Done free) = done_line book free ∷ []
end_lines book end = fail_lines (has_csum book.entries) end

-- the whole text
abbrev pub step_text : Book → WorkEnd → List ℕ
step_text book end = as_text (reply_lines book ++ end_lines book end)
