use Rattle.store_kernel.proofs.ends.count_end.Goals as goal

pub done-requires : goal.done-requires
done-requires c = c.requires.given c.in-Data.place c.in-Data.count c.in-Data.is
