-- Command lines spelled in the order of the table.
use Rattle.std.specs.Prelude.{◌≢◌, ℕ, List, [], ◌∷◌, codes, decimal, slice_index}
use Rattle.std.specs.List.{AllByRecursion}
use Rattle.command_words.specs.declared.command_line.CommandLine.{CommandLine}
use Rattle.command_words.specs.declared.command_line.CommandLine.TheVariants.{Mkfs, Step, Dump, Fsck}

-- a command line's words behind the program's name, with all options, and the names and options as in the table
abbrev pub spelling : CommandLine → List (List ℕ)
spelling (Mkfs dev half units prefer) = codes "mkfs" ∷ dev ∷ codes "--half" ∷ decimal half ∷ codes "--units" ∷ decimal units
    ∷ codes "--prefer" ∷ decimal prefer ∷ []
spelling (Step dev seed scripts) = codes "step" ∷ dev ∷ codes "--seed" ∷ decimal seed ∷ scripts
spelling (Dump dev) = codes "dump" ∷ dev ∷ []
spelling (Fsck dev) = codes "fsck" ∷ dev ∷ []

-- the name doesn't begin with a dash, so that it is no option
abbrev pub IsPlain : List ℕ → Type 0
IsPlain name = slice_index name 0 ≢ 0x2d

abbrev pub HasPlainNames : CommandLine → Type 0
HasPlainNames (Mkfs dev half units prefer) = IsPlain dev
HasPlainNames (Step dev seed scripts) = IsPlain dev × AllByRecursion IsPlain scripts
HasPlainNames (Dump dev) = IsPlain dev
HasPlainNames (Fsck dev) = IsPlain dev
