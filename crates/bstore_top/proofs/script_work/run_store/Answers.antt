use Rattle.bstore_top.proofs.Scripts.{scripts_few, scripts_fit, scripts_room}
use Rattle.bstore_top.proofs.script_work.run_store.Goals as goal

pub work_on-end-requires-clause-few : goal.work_on-end-requires-clause-few
work_on-end-requires-clause-few g c = scripts_few _ c.args.scripts.now c.in-Ok.scripts.items c.len.ensures.names.1 c.in-Ok.ensures.scripts

pub work_on-end-requires-clause-fits : goal.work_on-end-requires-clause-fits
work_on-end-requires-clause-fits g c = scripts_fit _ c.args.scripts.now c.in-Ok.scripts.items c.len.ensures.names.1 c.in-Ok.ensures.scripts

pub work_on-end-requires-clause-room : goal.work_on-end-requires-clause-room
work_on-end-requires-clause-room g c = scripts_room _ c.args.scripts.now c.in-Ok.scripts.items c.len.ensures.names.1 c.in-Ok.ensures.scripts
