use Rattle.std.proofs.Common.{◌≡◌, ◌<◌, ◌/◌, length, rules, get_or, arith}
use Rattle.std.proofs.lemmas.List.{get_or_read_under}
use Rattle.unit_allocator.proofs.OneBit.{set_here, set_there, other_words}
use Rattle.unit_allocator.proofs.bits.set.Goals as goal

pub returns-clause-here : goal.returns-clause-here
returns-clause-here c =
    let within = c.requires in
    let at : c.args.i / 64 < length c.args.words.now.items = omega (arith, within) in
    let read : c.index_mut.result.now ≡ get_or c.args.words.now.items (c.args.i / 64) 0 =
    get_or_read_under _ _ _ _ 0 c.index_mut.ensures.value at (search rules) in
    rw read (set_here c.args.words.now.items c.args.i within)

pub returns-clause-elsewhere : goal.returns-clause-elsewhere
returns-clause-elsewhere c =
    let within = c.requires in
    let at : c.args.i / 64 < length c.args.words.now.items = omega (arith, within) in
    let read : c.index_mut.result.now ≡ get_or c.args.words.now.items (c.args.i / 64) 0 =
    get_or_read_under _ _ _ _ 0 c.index_mut.ensures.value at (search rules) in
    rw read (set_there c.args.words.now.items c.args.i within)

pub returns-clause-others : goal.returns-clause-others
returns-clause-others c = other_words c.args.words.now.items (c.args.i / 64) _
