use Rattle.std.proofs.Common.{ℕ, List, subst}
use Rattle.block_device.specs.Prelude.{Disk}
use Rattle.meta_log.specs.Prelude.{BeginsNoRecord, TakesUnits}
use Rattle.log_replay.specs.Prelude.{ReadsOn}
use Rattle.log_replay.proofs.HalfLemmas.{reads_join, none_by_head, none_by_size, holds_record}
use Rattle.log_replay.proofs.half_reader.HalfReader.fetch_record.Goals as goal

pub returns-in_default-clause-may : goal.returns-in_default-clause-may
returns-in_default-clause-may g c =
    none_by_head c.fetch.new.self c.args.number (subst (λ (l : List ℕ). BeginsNoRecord l c.args.number) c.left.ensures c.in_default.ensures)

pub returns-then-units-self-clause-may : goal.returns-then-units-self-clause-may
returns-then-units-self-clause-may g c =
    none_by_size c.fetch.new.self c.args.number c.in-Some.units c.in_ok-fetch.ensures.read.reader
    (subst (λ (l : List ℕ). TakesUnits l c.args.number c.in-Some.units) c.left.ensures c.in-Some.ensures) c.if-units-self.true

pub returns-clause-read : goal.returns-clause-read
returns-clause-read g c =
    reads_join (g.D.Device.disk c.args.dev.now) c.args.self.now c.fetch.new.self c.fetch-2.new.self c.in_ok-fetch.ensures.read
    (subst (λ (e : Disk). ReadsOn e c.fetch.new.self c.fetch-2.new.self) c.fetch.ensures.same c.in_ok-fetch-2.ensures.read)

pub returns-clause-may : goal.returns-clause-may
returns-clause-may g c =
    holds_record (g.D.Device.disk c.fetch.new.dev) c.fetch.new.self c.fetch-2.new.self c.args.number c.in-Some.units
    (subst (λ (l : List ℕ). TakesUnits l c.args.number c.in-Some.units) c.left.ensures c.in-Some.ensures)
    c.in_ok-fetch-2.ensures.read c.in_ok-fetch-2.ensures.there
