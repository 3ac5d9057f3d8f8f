use Rattle.store_kernel.proofs.kernel.Kernel.facts.Goals as goal

pub returns-clause-durable : goal.returns-clause-durable
returns-clause-durable g c = rw (← c.self.view_is) c.self.invariant.durable
