use Rattle.crash_facts.proofs.Keeping.{kernel_durable}
use Rattle.crash_facts.proofs.laws.a_kernel_is_durable.Goals as goal

pub returns : goal.returns
returns c = kernel_durable
