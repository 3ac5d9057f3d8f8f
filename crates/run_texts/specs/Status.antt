-- The exit statuses.
use Rattle.std.specs.Prelude.{ℕ, Option, Some, None}
use Rattle.run_texts.specs.declared.status.Stop.{Stop}
use Rattle.run_texts.specs.declared.status.Stop.TheVariants.{BadScript, DeviceFault, Refused, OutOfMemory, BayFault}
use Rattle.run_texts.specs.declared.status.Status.{Status}
use Rattle.run_texts.specs.declared.status.Status.TheVariants.{Done, NotACommandLine, Stopped, SinkFault}

-- the status of a run that stopped
abbrev pub stop_number : Stop → ℕ
stop_number BadScript = 2
stop_number DeviceFault = 3
stop_number Refused = 4
stop_number OutOfMemory = 5
stop_number BayFault = 7

-- the status of a run
abbrev pub number : Status → ℕ
number Done = 0
number NotACommandLine = 1
number (Stopped stop) = stop_number stop
number SinkFault = 6

-- the status of a run whose work was done, or stopped for this
abbrev pub end_number : Option Stop → ℕ
end_number None = 0
end_number (Some stop) = stop_number stop
