use Rattle.std.proofs.Common.{◌∙◌, arith}
use Rattle.std.proofs.lemmas.Result.{err_from_is_err_and}
use Rattle.script_reading.proofs.ScriptLemmas.{have_next, fails_to_read, lines_behind}
use Rattle.script_reading.proofs.reading.read_scripts.Goals as goal

pub returns-in_err-lines-clause-cause : goal.returns-in_err-lines-clause-cause
returns-in_err-lines-clause-cause g c =
    let p = err_from_is_err_and c.from_residual-in_err-lines.result c.from_residual-in_err-lines.ensures.1 in
    let so_far = c.loop-script.invariant in
    rw (p.1, p.2)
    (fails_to_read c.in_err-lines.field-0.0 _ _ c.args.names.now c.loop-script.script _ _ _ _ _ so_far.same so_far.whole.bay
    (omega (arith, c.loop-script-test.true, c.len-script-end.ensures.count)) so_far.have c.in_err-lines.ensures.cause)

pub loop-script-preserved : goal.loop-script-preserved
loop-script-preserved g c =
    let so_far = c.loop-script.invariant in
    let one = c.in_ok-lines.ensures in
    record {
      have = rw (lines_behind c.loop-script.scripts.items c.push_reserved.new.self.items c.in_ok-lines.lines c.push_reserved.ensures.items)
          (have_next _ _ c.args.names.now c.loop-script.script _ c.in_ok-lines.lines.items so_far.same
          (omega (arith, c.loop-script-test.true, c.len-script-end.ensures.count)) so_far.have one.lines);
      whole = record { sources = one.whole.sources; bay = one.whole.bay ∙ so_far.whole.bay };
      same = one.same ∙ so_far.same;
      scripts = omega (arith, c.push_reserved.ensures.len, so_far.scripts);
      sources = omega (arith, one.count, so_far.sources);
      script_room = omega (arith, c.push_reserved.ensures.capacity, so_far.script_room);
      source_room = omega (arith, one.room, so_far.source_room);
    }
