use Rattle.bitmap_freelist.proofs.Alike.{flips_alike, alike_owns, alike_stand}
use Rattle.bitmap_freelist.proofs.laws.flips_leave_objects.Goals as goal

pub returns-clause-alike : goal.returns-clause-alike
returns-clause-alike c = flips_alike

pub returns-clause-owns : goal.returns-clause-owns
returns-clause-owns c = alike_owns

pub returns-clause-stand : goal.returns-clause-stand
returns-clause-stand c = alike_stand
