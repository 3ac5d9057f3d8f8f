use Rattle.std.proofs.Common.{[], refl, subst}
use Rattle.script_text.specs.Prelude.{WasReadUpTo}
use Rattle.script_text.proofs.Sources.{ended_read, full_read, past_read}
use Rattle.script_text.proofs.script.read_through.Goals as goal

pub returns-then-branch-clause-read : goal.returns-then-branch-clause-read
returns-then-branch-clause-read g c =
    let left_of = g.S.Source.left in
    ended_read (left_of c.args.source.now) (left_of c.read_pieces.new.source) c.read_pieces.new.reader c.in_ok-read_pieces.field-0 c.if-branch.true
    c.in_ok-read_pieces.ensures.read

pub returns-then-n-eq0-clause-read : goal.returns-then-n-eq0-clause-read
returns-then-n-eq0-clause-read g c =
    let left_of = g.S.Source.left in
    let old = left_of c.args.source.now in
    let mid = left_of c.read_pieces.new.source in
    let r = c.read_pieces.new.reader in
    let full = subst (λ end. WasReadUpTo old mid r end) c.if-branch.false c.in_ok-read_pieces.ensures.read in
    full_read old mid (left_of c.next_piece.new.source) r [] c.next_piece.new.piece.items c.in_ok-n.n full refl
    c.in_ok-n.ensures.took c.if-n-eq0.true

pub returns-clause-read : goal.returns-clause-read
returns-clause-read g c =
    let left_of = g.S.Source.left in
    let old = left_of c.args.source.now in
    let mid = left_of c.read_pieces.new.source in
    let r = c.read_pieces.new.reader in
    let full = subst (λ end. WasReadUpTo old mid r end) c.if-branch.false c.in_ok-read_pieces.ensures.read in
    past_read old mid (left_of c.next_piece.new.source) r c.refuse.new.self [] c.next_piece.new.piece.items c.in_ok-n.n full refl
    c.in_ok-n.ensures.took c.if-n-eq0.false
    c.refuse.ensures.after
