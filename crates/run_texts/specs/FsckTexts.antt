-- What a run of `fsck` prints: a function of what it found, or of why it found nothing.
use Rattle.std.specs.Prelude.{ℕ, false, List, [], ◌∷◌, ◌++◌, length, map, Result, Ok, Err, codes, decimal}
use Rattle.findings.specs.declared.finding.Finding.{Finding}
use Rattle.findings.specs.declared.finding.Finding.TheVariants.{BadRow, BadSum, Leaked, Unmarked, Doubled, WrongCount}
use Rattle.run_texts.specs.declared.work_end.WorkEnd.{WorkEnd}
use Rattle.run_texts.specs.Hex.{hex_text, hex_sum}
use Rattle.run_texts.specs.StepTexts.{fail_lines, end_status}
use Rattle.run_texts.specs.Texts.{as_text}

-- a finding
abbrev pub finding_line : Finding → List ℕ
finding_line (BadRow key) = codes "BadRow key=" ++ hex_text key
finding_line (BadSum unit kept found) = codes "BadSum unit=" ++ decimal unit ++ codes " kept=" ++ hex_sum kept ++ codes " found=" ++ hex_sum found
finding_line (Leaked unit) = codes "Leaked unit=" ++ decimal unit
finding_line (Unmarked unit) = codes "Unmarked unit=" ++ decimal unit
finding_line (Doubled unit) = codes "Doubled unit=" ++ decimal unit
finding_line (WrongCount unit kept counted) = codes "WrongCount unit=" ++ decimal unit ++ codes " kept=" ++ decimal kept ++ codes " counted=" ++ decimal counted

abbrev pub finding_lines : List Finding → List (List ℕ)
finding_lines found = map finding_line found

-- how many there are
abbrev pub count_line : ℕ → List ℕ
count_line count = codes "findings " ++ decimal count

-- the lines of a store that was looked through, or of a run that came to none
abbrev pub fsck_lines : Result (List Finding) WorkEnd → List (List ℕ)
fsck_lines (Ok found) = finding_lines found ++ count_line (length found) ∷ []
fsck_lines (Err end) = fail_lines false end

abbrev pub fsck_text : Result (List Finding) WorkEnd → List ℕ
fsck_text ended = as_text (fsck_lines ended)

-- the exit status
abbrev pub fsck_number : Result (List Finding) WorkEnd → ℕ
fsck_number (Ok []) = 0
fsck_number (Ok (f ∷ fs)) = 4
fsck_number (Err end) = end_status false end
