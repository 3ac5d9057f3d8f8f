use Rattle.byte_maps.proofs.Prelude.{comparisons_rise}
use Rattle.meta_rows.proofs.RangeLemmas.{starts_there, starts_between}
use Rattle.meta_rows.proofs.chunk.start_of.Goals as goal

pub returns-in-Ok : goal.returns-in-Ok
returns-in-Ok c = starts_there c.args.key.now c.args.entries.now c.in-Ok.at c.requires c.in-Ok.ensures.bound c.in-Ok.ensures.position

pub returns-in-Err : goal.returns-in-Err
returns-in-Err c =
    starts_between c.args.key.now c.args.entries.now c.in-Err.at c.in-Err.ensures.bound (c.in-Err.ensures.position (comparisons_rise c.args.key.now _ c.requires))
