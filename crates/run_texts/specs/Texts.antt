-- The texts that runs print, but for the replies.
use Rattle.std.specs.Prelude.{ℕ, ◌+◌, ◌-◌, ◌*◌, List, [], ◌∷◌, ◌++◌, Option, Some, None, codes, decimal}
use Rattle.run_texts.specs.declared.status.Stop.{Stop}
use Rattle.run_texts.specs.declared.status.Stop.TheVariants.{Refused}
use Rattle.run_texts.specs.Status.{stop_number}

-- lines as a text: each ends with a line feed
abbrev pub as_text : List (List ℕ) → List ℕ
as_text [] = []
as_text (line ∷ lines) = line ++ (0x0a ∷ as_text lines)

-- a store of so many units was made; the units but for the slots and the halves hold data
abbrev pub made_line : ℕ → ℕ → List ℕ
made_line half units = codes "mkfs units=" ++ decimal units ++ codes " half=" ++ decimal half ++ codes " data=" ++ decimal (units - 2 * half - 2)

-- the device has fewer units than a store with such halves needs
abbrev pub too_small_line : ℕ → ℕ → List ℕ
too_small_line half units = codes "mkfs TooSmall units=" ++ decimal units ++ codes " need=" ++ decimal (2 * half + 3)

-- the last line of a run that stopped before its work was done
abbrev pub stopped_line : Stop → List ℕ
stopped_line stop = codes "stopped " ++ decimal (stop_number stop)

-- the lines of a run of `mkfs` whose work was done, or stopped for this
abbrev pub mkfs_lines : ℕ → ℕ → Option Stop → List (List ℕ)
mkfs_lines half units None = made_line half units ∷ []
mkfs_lines half units (Some Refused) = too_small_line half units ∷ stopped_line Refused ∷ []
mkfs_lines half units (Some stop) = stopped_line stop ∷ []

-- and its text
abbrev pub mkfs_text : ℕ → ℕ → Option Stop → List ℕ
mkfs_text half units stop = as_text (mkfs_lines half units stop)
