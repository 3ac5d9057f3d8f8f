use Rattle.bitmap_freelist.proofs.Turning.{leave_others}
use Rattle.bitmap_freelist.proofs.laws.flips_leave_other_rows.Goals as goal

pub returns : goal.returns
returns c = leave_others
