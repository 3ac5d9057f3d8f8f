-- Starts of `step` and of `dump` that nothing stands against.
use Rattle.std.specs.Prelude.{◌≡◌, ℕ, ◌<◌, List, Any, Some, IfSome}
use Rattle.std.specs.FinMap as map
use Rattle.std.specs.List.{AllByRecursion}
use Rattle.block_device.specs.Prelude.{Rose}
use Rattle.end_points.specs.Bay.{Names, BayView}
use Rattle.object_model.specs.Prelude.{Objects}
use Rattle.meta_log.specs.Prelude.{width_of}
use Rattle.store_image.specs.Prelude.{IsExact, IsExactAs, StandsFor}
use Rattle.store_steps.specs.Prelude.{Found}
use Rattle.log_replay.specs.Prelude.{IsFoundIn, HasLowNumbers}
use Rattle.script_text.specs.Prelude.{IsScript}
use Rattle.script_text.specs.declared.line.Line.{Line}
use Rattle.run_texts.specs.Prelude.{Output}
use Rattle.bstore_top.specs.StepRun.{Seen}

-- Under the device's name there is a store that stands for some objects: what a mount finds in it is a bitmap that is exact, but for leaked units,
-- and numbers that leave room for those to come.
pub record HasGoodStore (names : Names) (dev : List ℕ) : Type 0 where
  pub contents : List ℕ
  pub under_dev : map.get names.devices dev ≡ Some contents
  pub objects : Objects
  pub stands : StandsFor contents objects
  pub found : Found
  pub is_found : IsFoundIn contents found
  pub exact : IsExactAs (width_of found.sup) found.rows found.rows
  pub numbers : HasLowNumbers found

-- there is a script under this name
pub record IsScriptUnder (names : Names) (file : List ℕ) : Type 0 where
  pub text : List ℕ
  pub under : map.get names.texts file ≡ Some text
  pub lines : List Line
  pub is_script : IsScript text lines

-- The bay tells its names. Under each script's there is a script, and under the device's such a store.
pub record IsGoodStart (dev : List ℕ) (files : List (List ℕ)) (bay : BayView) : Type 0 where
  pub names : Names
  pub told : bay.names ≡ Some names
  pub scripts : AllByRecursion (IsScriptUnder names) files
  pub store : HasGoodStore names dev

-- such a start of a command that reads no script
pub record IsGoodStore (dev : List ℕ) (bay : BayView) : Type 0 where
  pub names : Names
  pub told : bay.names ≡ Some names
  pub store : HasGoodStore names dev

-- such a start where no unit is leaked either
pub record IsExactStore (dev : List ℕ) (bay : BayView) : Type 0 where
  pub good : IsGoodStore dev bay
  pub exact : IsExact (width_of good.store.found.sup) good.store.found.rows

-- no count of faults rose: the device and the sources, where there are any, have counted none, and the bay and the sink no more than before
pub record HasNoFault (seen : Seen) (before now : ℕ) (old new : Output) : Type 0 where
  pub device : IfSome seen.dev_faults (λ n. n ≡ 0)
  pub sources : ¬ Any (λ n. 0 < n) seen.source_faults
  pub bay : ¬ Rose before now
  pub sink : ¬ Rose old.faults new.faults
