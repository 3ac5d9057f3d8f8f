-- The scripts of a run: what stands under their names, and why they weren't read.
use Rattle.std.specs.Prelude.{◌≡◌, ◌⊎◌, ℕ, ◌+◌, ◌<◌, List, [], ◌∷◌, ◌++◌, length, take, replicate, slice_index_or, Option, Some, IfSome}
use Rattle.std.specs.FinMap as finite
use Rattle.block_device.specs.Prelude.{Rose}
use Rattle.block_device.specs.declared.device.Failed.{Failed}
use Rattle.block_device.specs.declared.device.Failed.TheVariants as failed
use Rattle.end_points.specs.Bay.{Names}
use Rattle.script_text.specs.Prelude.{IsScript, IsBadAt}
use Rattle.script_text.specs.declared.fail.ScriptFail.{ScriptFail}
use Rattle.script_text.specs.declared.fail.ScriptFail.TheVariants as script
use Rattle.script_text.specs.declared.line.Line.{Line}
use Rattle.script_reading.specs.declared.unread.Unread.{Unread}
use Rattle.script_reading.specs.declared.unread.Unread.TheVariants as unread

-- the bay has this text under this name, where it tells
abbrev pub IsTextUnder : Option Names → List ℕ → List ℕ → Type 0
IsTextUnder names name text = IfSome names (λ n. finite.get n.texts name ≡ Some text)

-- the script under a name has these lines
pub record HasScript (names : Option Names) (name : List ℕ) (lines : List Line) : Type 0 where
  pub text : List ℕ
  pub under : IsTextUnder names name text
  pub script : IsScript text lines

-- this line of it is the first that is outside the grammar or the limits
pub record HasBadLine (names : Option Names) (name : List ℕ) (n : ℕ) : Type 0 where
  pub text : List ℕ
  pub under : IsTextUnder names name text
  pub bad : IsBadAt text n

-- the scripts under these names have these lines, each its own
abbrev pub HaveScripts : Option Names → List (List ℕ) → List (List Line) → Type 0
HaveScripts names [] [] = Unit {0}
HaveScripts names (file ∷ files) (lines ∷ scripts) = HasScript names file lines × HaveScripts names files scripts
HaveScripts names [] (lines ∷ scripts) = ⊥
HaveScripts names (file ∷ files) [] = ⊥

-- so many scripts were opened, and neither the bay nor a read of them has failed
pub record AreReadWhole (count : ℕ) (source_faults : List ℕ) (before now : ℕ) : Type 0 where
  pub sources : source_faults ≡ replicate count 0
  pub bay : now ≡ before

-- the scripts before the one of this number have lines
pub record HaveFront (names : Option Names) (files : List (List ℕ)) (script : ℕ) : Type 0 where
  pub within : script < length files
  pub scripts : List (List Line)
  pub lines : HaveScripts names (take script files) scripts

-- The script of this number has a bad line, and was read to its end. Those before it have none.
pub record HasBadScript (script n : ℕ) (names : Option Names) (files : List (List ℕ)) (source_faults : List ℕ) (before now : ℕ) : Type 0 where
  pub front : HaveFront names files script
  pub bad : HasBadLine names (slice_index_or files script []) n
  pub whole : AreReadWhole (script + 1) source_faults before now

-- the source of the script of this number has failed, and those before it were read whole
pub record SourceFaults (script : ℕ) (source_faults : List ℕ) (before now : ℕ) : Type 0 where
  pub count : ℕ
  pub some : 0 < count
  pub sources : source_faults ≡ replicate script 0 ++ count ∷ []
  pub bay : now ≡ before

-- the bay has failed to open the script of this number, and those before it were read whole
pub record BayFaults (script : ℕ) (source_faults : List ℕ) (before now : ℕ) : Type 0 where
  pub sources : source_faults ≡ replicate script 0
  pub rose : Rose before now

-- The bay or the source of a script has failed. The scripts before it have lines.
pub record HasFault (names : Option Names) (files : List (List ℕ)) (source_faults : List ℕ) (before now : ℕ) : Type 0 where
  pub script : ℕ
  pub front : HaveFront names files script
  pub cause : SourceFaults script source_faults before now ⊎ BayFaults script source_faults before now

-- why scripts weren't read
abbrev pub FailsToRead : Unread → Option Names → List (List ℕ) → List ℕ → ℕ → ℕ → Type 0
FailsToRead unread.Memory names files source_faults before now = Unit {0}
FailsToRead (unread.Line script n) names files source_faults before now = HasBadScript script n names files source_faults before now
FailsToRead unread.Fault names files source_faults before now = HasFault names files source_faults before now

-- ---- one script

-- why the script of this number wasn't read, where those before it were
abbrev pub ScriptFailsAt : ℕ → Unread → Option Names → List (List ℕ) → List ℕ → ℕ → ℕ → Type 0
ScriptFailsAt i unread.Memory names files source_faults before now = Unit {0}
ScriptFailsAt i (unread.Line script n) names files source_faults before now =
    (script ≡ i) × HasBadLine names (slice_index_or files i []) n × AreReadWhole (i + 1) source_faults before now
ScriptFailsAt i unread.Fault names files source_faults before now = SourceFaults i source_faults before now ⊎ BayFaults i source_faults before now

-- why a script wasn't read that the bay didn't open
abbrev pub unread_bay : Failed → Unread
unread_bay failed.Memory = unread.Memory
unread_bay failed.Fault = unread.Fault

-- and why one wasn't that it opened
abbrev pub unread_script : ScriptFail → ℕ → Unread
unread_script script.Memory i = unread.Memory
unread_script (script.Line n) i = unread.Line i n
unread_script script.ReadFault i = unread.Fault
