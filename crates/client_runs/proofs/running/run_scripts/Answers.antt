use Rattle.client_runs.proofs.ClientRunLemmas.{no_clients, new_tied, new_fits, ran_out, ran_up_to}
use Rattle.client_runs.proofs.running.run_scripts.Goals as goal

pub returns-in_default-clause-ran : goal.returns-in_default-clause-ran
returns-in_default-clause-ran g c = no_clients c.args.seed _ _ _ c.requires.up c.requires.new

pub run_clients-requires-clause-tied : goal.run_clients-requires-clause-tied
run_clients-requires-clause-tied g c = new_tied _ c.in-Ok.clients _ c.requires.new c.in-Ok.ensures

pub run_clients-requires-clause-fits : goal.run_clients-requires-clause-fits
run_clients-requires-clause-fits g c = new_fits _ c.in-Ok.clients c.in-Ok.ensures c.requires.fits

pub returns-in-Ok-run_clients-clause-ran : goal.returns-in-Ok-run_clients-clause-ran
returns-in-Ok-run_clients-clause-ran g c =
    ran_out c.args.seed _ c.from.ensures _ c.in-Ok.clients _ _ c.requires.new c.in-Ok.ensures c.run_clients.new.generator.x
    c.run_clients.new.kernel.state (g.D.Device.disk c.run_clients.new.kernel.device) c.in-Ok-run_clients.ensures.ran

pub returns-clause-ran : goal.returns-clause-ran
returns-clause-ran g c =
    ran_up_to c.args.seed _ c.from.ensures _ c.in-Ok.clients _ _ c.requires.new c.in-Ok.ensures c.in-Err.fail c.run_clients.new.generator.x
    c.run_clients.new.kernel.state (g.D.Device.disk c.run_clients.new.kernel.device) c.wind_up.new.kernel.state
    (g.D.Device.disk c.wind_up.new.kernel.device) c.in-Err.ensures.ran c.wind_up.ensures.wound_up
