use Rattle.mount_replay.proofs.MountedLemmas.{begins_with, refuses_store}
use Rattle.mount_replay.proofs.laws.a_mount_opens_the_objects.Goals as goal

pub returns-clause-opens : goal.returns-clause-opens
returns-clause-opens c given now h objects f space s sound holds mounted = begins_with given now h objects f space s sound holds mounted

pub returns-clause-refuses : goal.returns-clause-refuses
returns-clause-refuses c given h objects fail before now holds fails = refuses_store given h objects before now holds fail fails
