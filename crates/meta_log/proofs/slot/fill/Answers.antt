use Rattle.std.proofs.Common.{◌≡◌, ℕ, ◌-◌, List, ◌++◌, take, replicate, length, Result, Ok, Err, OnOk, is_ok, if◌then◌else◌, ◌∙◌}
use Rattle.std.specs.declared.alloc.AllocError.{AllocError}
use Rattle.byte_maps.specs.Units.{zeros}
use Rattle.meta_log.proofs.SlotLemmas.{filled}
use Rattle.meta_log.proofs.slot.fill.Goals as goal

by : (r : Result (Unit {0}) AllocError) (old new : List ℕ) (count : ℕ) → count ≡ 40 → length old ≡ 40 → new ≡ (if is_ok r then take 4092 old ++ replicate (4092 - count) 0 else old) → OnOk r (new ≡ old ++ zeros 4052)
by (Ok u) old new count is long made = made ∙ filled old count is long
by (Err e) old new count is long made = tt

pub returns : goal.returns
returns c = by c.resize.result c.args.front.now.items c.resize.new.self.items c.args.front.now.len (c.args.front.now.ok.0 ∙ c.requires) c.requires c.resize.ensures.items
