-- The text of a run of `dump` on its way to a sink: the lines of what a walk has come to.
use Rattle.std.specs.Prelude.{◌≡◌, ℕ, List, [], Bool, false, ◌||◌}
use Rattle.read_facts.specs.declared.view.CollView.{CollView}
use Rattle.run_texts.specs.Texts.{as_text}
use Rattle.run_texts.specs.DumpTexts.{walk_lines, has_bad_view}
use Rattle.run_texts.specs.Printed.{Output}
use Rattle.run_texts.specs.Printing.{Waiting, AddsText}

-- the text, and whether some object in it has a bad unit
pub record DumpSoFar : Type 0 where
  pub text : Waiting
  pub bad : Bool

abbrev pub nothing_dumped : DumpSoFar
nothing_dumped = record { text = record { bytes = []; failed = false }; bad = false }

-- these lines were added, and it was noted whether they are of a bad unit
pub record AddsLines (lines : List (List ℕ)) (bad : Bool) (before after : DumpSoFar) (old new : Output) : Type 0 where
  pub adds : AddsText (as_text lines) before.text after.text old new
  pub noted : after.bad ≡ (before.bad || bad)

-- so were the lines of a walk over these collections
abbrev pub AddsWalk : List CollView → DumpSoFar → DumpSoFar → Output → Output → Type 0
AddsWalk colls before after old new = AddsLines (walk_lines colls) (has_bad_view colls) before after old new
