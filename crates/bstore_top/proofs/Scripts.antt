-- The scripts of a run: they are such as clients can run, and why they weren't read.
use Rattle.std.proofs.Common.{◌≡◌, inl, inr, ℕ, ◌*◌, ◌≤◌, Bool, false, List, [], ◌∷◌, map, length, Option}
use Rattle.std.proofs.Common.{refl, arith, length-append, Vec, Global}
use Rattle.std.specs.List.{AllByRecursion}
use Rattle.std.proofs.lemmas.List.{length-map}
use Rattle.block_device.specs.Prelude.{Rose}
use Rattle.block_device.specs.declared.device.Failed.{Failed}
use Rattle.block_device.specs.declared.device.Failed.TheVariants as failed
use Rattle.end_points.specs.Bay.{Names}
use Rattle.script_text.specs.Prelude.{command_count, is_wait, commands, IsScript}
use Rattle.script_text.specs.declared.line.Line.{Line}
use Rattle.script_text.specs.declared.line.What.{What}
use Rattle.script_text.specs.declared.line.What.TheVariants as what
use Rattle.script_text.proofs.Groups.{lines_fit, lines_few}
use Rattle.script_reading.specs.Prelude.{HaveScripts, AreReadWhole, FailsToRead}
use Rattle.script_reading.specs.declared.unread.Unread.{Unread}
use Rattle.script_reading.specs.declared.unread.Unread.TheVariants as unread
use Rattle.client_runs.specs.Prelude.{asked, asks_from, asks_of, FitsLine, command_sum}
use Rattle.bstore_top.specs.Prelude.{FailsBefore, end_of_scripts, end_of_bay}

-- ---- how many commands a script has

asked_few : (b : Bool) (n : ℕ) (w : What) → length (asked b n w) ≤ command_count w
asked_few b n (what.Command command) = omega arith
asked_few b n what.Wait = omega arith

few_asked : (b : Bool) (ls : List Line) → length (asks_from b ls) ≤ commands ls
few_asked b [] = omega arith
few_asked b (l ∷ ls) =
    let behind = few_asked (is_wait l.what) ls in
    omega (arith, length-append (asked b l.line l.what) (asks_from (is_wait l.what) ls), asked_few b l.line l.what, behind)

-- the lines of a script are such as it can have, and few
script_fits : (text : List ℕ) (lines : List Line) → IsScript text lines → AllByRecursion FitsLine lines × (length (asks_of lines) ≤ 16384)
script_fits text lines is_script = (lines_fit text lines is_script, omega (arith, few_asked false lines, lines_few text lines is_script))

-- ---- all scripts

-- they are such as clients can run
pub record CanRun (scripts : List (List Line)) (count : ℕ) : Type 0 where
  pub many : length scripts ≡ count
  pub fits : AllByRecursion (AllByRecursion FitsLine) scripts
  pub few : command_sum (map asks_of scripts) ≤ 16384 * count

can_run : (names : Option Names) (files : List (List ℕ)) (scripts : List (List Line)) → HaveScripts names files scripts → CanRun scripts (length files)
can_run names [] [] have = record { many = refl; fits = tt; few = omega arith }
can_run names (file ∷ files) (lines ∷ scripts) have =
    let one = script_fits have.0.text lines have.0.script in
    let rest : CanRun scripts (length files) = can_run names files scripts have.1 in
    record { many = omega (arith, rest.many); fits = (one.0, rest.fits); few = omega (arith, one.1, rest.few) }
can_run names [] (lines ∷ scripts) have = absurd have
can_run names (file ∷ files) [] have = absurd have

-- at most 64 of them
module _ (names : Option Names) (files : List (List ℕ)) (scripts : List (Vec Line Global)) (few : length files ≤ 64)
    (have : HaveScripts names files (map {A = Vec Line Global} {B = List Line} (λ s. s.items) scripts)) where
  run : CanRun (map {A = Vec Line Global} {B = List Line} (λ s. s.items) scripts) (length files)
  run = can_run names files _ have

  pub scripts_few : length scripts ≤ 64
  scripts_few = omega (arith, length-map scripts (λ (s : Vec Line Global). s.items), run.many, few)

  pub scripts_fit : AllByRecursion (AllByRecursion FitsLine) (map {A = Vec Line Global} {B = List Line} (λ s. s.items) scripts)
  scripts_fit = run.fits

  pub scripts_room : command_sum (map asks_of (map {A = Vec Line Global} {B = List Line} (λ s. s.items) scripts)) ≤ 1048576
  scripts_room = omega (arith, run.few, few)

-- ---- why no device was opened

-- the scripts weren't read
pub unread_before : (e : Unread) (names : Option Names) (files : List (List ℕ)) (faults : List ℕ) (before now : ℕ)
    → FailsToRead e names files faults before now → FailsBefore (end_of_scripts e) names files faults before now
unread_before unread.Memory names files faults before now fails = tt
unread_before (unread.Line script n) names files faults before now fails = fails
unread_before unread.Fault names files faults before now fails = inl fails

-- the bay gave no device
pub unopened_before : (e : Failed) (names : Option Names) (files : List (List ℕ)) (scripts : List (List Line)) (faults : List ℕ) (before at now : ℕ)
    → HaveScripts names files scripts → AreReadWhole (length files) faults before at → (e ≡ failed.Fault → Rose at now)
    → FailsBefore (end_of_bay e) names files faults before now
unopened_before failed.Memory names files scripts faults before at now have whole rose = tt
unopened_before failed.Fault names files scripts faults before at now have whole rose = inr (record {
  scripts = scripts;
  lines = have;
  sources = whole.sources;
  rose = omega (arith, rose refl, whole.bay);
})
