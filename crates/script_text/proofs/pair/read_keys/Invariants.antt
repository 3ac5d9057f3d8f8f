use Rattle.std.proofs.Common.{length}
use Rattle.script_text.proofs.Lists.{KeysOn}
use Rattle.script_text.proofs.pair.read_keys.Given as goal

abbrev pub invariant-keys : goal.invariant-keys
invariant-keys l = KeysOn l.text l.keys l.rest

abbrev pub decreases-keys : goal.decreases-keys
decreases-keys l = length l.rest
