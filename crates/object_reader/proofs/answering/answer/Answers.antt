use Rattle.std.proofs.Common.{sym, subst}
use Rattle.read_facts.specs.Prelude.{IsHeldAt, IsAnswerOf}
use Rattle.write_buffers.specs.Prelude.{memory_in}
use Rattle.object_reader.proofs.answering.answer.Goals as goal

pub returns-in_ok-answer_stat-in-Stat-clause-ok : goal.returns-in_ok-answer_stat-in-Stat-clause-ok
returns-in_ok-answer_stat-in-Stat-clause-ok g c =
    let d = g.D.Device.disk c.args.device.now in
    subst (λ read. IsAnswerOf c.args.width (memory_in c.args.buffers.now) (IsHeldAt d) c.args.rows.now.rows read c.in_ok-answer_stat-in-Stat.field-0)
    (sym c.in-Stat.is) (c.in_ok-answer_stat-in-Stat.ensures.ok c.args.width (memory_in c.args.buffers.now) d)

pub returns-in_ok-answer_list-in-List-clause-ok : goal.returns-in_ok-answer_list-in-List-clause-ok
returns-in_ok-answer_list-in-List-clause-ok g c =
    let d = g.D.Device.disk c.args.device.now in
    subst (λ read. IsAnswerOf c.args.width (memory_in c.args.buffers.now) (IsHeldAt d) c.args.rows.now.rows read c.in_ok-answer_list-in-List.field-0)
    (sym c.in-List.is) (c.in_ok-answer_list-in-List.ensures.ok c.args.width (memory_in c.args.buffers.now) d)

pub returns-in_ok-answer_attr-in-GetAttr-clause-ok : goal.returns-in_ok-answer_attr-in-GetAttr-clause-ok
returns-in_ok-answer_attr-in-GetAttr-clause-ok g c =
    let d = g.D.Device.disk c.args.device.now in
    subst (λ read. IsAnswerOf c.args.width (memory_in c.args.buffers.now) (IsHeldAt d) c.args.rows.now.rows read c.in_ok-answer_attr-in-GetAttr.field-0)
    (sym c.in-GetAttr.is) (c.in_ok-answer_attr-in-GetAttr.ensures.ok c.args.width (memory_in c.args.buffers.now) d)

pub returns-in_ok-answer_pair-in-OmapGet-clause-ok : goal.returns-in_ok-answer_pair-in-OmapGet-clause-ok
returns-in_ok-answer_pair-in-OmapGet-clause-ok g c =
    let d = g.D.Device.disk c.args.device.now in
    subst (λ read. IsAnswerOf c.args.width (memory_in c.args.buffers.now) (IsHeldAt d) c.args.rows.now.rows read c.in_ok-answer_pair-in-OmapGet.field-0)
    (sym c.in-OmapGet.is) (c.in_ok-answer_pair-in-OmapGet.ensures.ok c.args.width (memory_in c.args.buffers.now) d)

pub returns-in_ok-answer_header-in-OmapHeader-clause-ok : goal.returns-in_ok-answer_header-in-OmapHeader-clause-ok
returns-in_ok-answer_header-in-OmapHeader-clause-ok g c =
    let d = g.D.Device.disk c.args.device.now in
    subst (λ read. IsAnswerOf c.args.width (memory_in c.args.buffers.now) (IsHeldAt d) c.args.rows.now.rows read c.in_ok-answer_header-in-OmapHeader.field-0)
    (sym c.in-OmapHeader.is) (c.in_ok-answer_header-in-OmapHeader.ensures.ok c.args.width (memory_in c.args.buffers.now) d)
