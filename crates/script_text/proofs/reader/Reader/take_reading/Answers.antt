use Rattle.std.proofs.Common.{◌≡◌, ◌+◌, Bool, true, false, sym, subst, ◌∙◌, arith}
use Rattle.script_text.specs.Prelude.{Says, next, Becomes}
use Rattle.script_text.proofs.Readers.{line_goes, kept_good}
use Rattle.script_text.proofs.reader.Reader.take_reading.Goals as goal
use Rattle.script_text.proofs.reader.Reader.take_reading.Goals.{in-Ok+in_ok-fits-in-Ok, in-Err-NotSpelled}

pub returns-else-not-fits-clause-ends : goal.returns-else-not-fits-clause-ends
returns-else-not-fits-clause-ends c texts text good count none short reading = elim c.match-found.branch [
  | in-Ok+in_ok-fits-in-Ok w ↦
      let n = c.args.self.now.count + 1 in
      let old = c.args.self.now.parser in
      let new = w.take.new.self in
      let s = w.in-Ok.statement in
      let says : Says text s = rw w.in-Ok.is at reading in
      let becomes = subst (λ (b : Bool). Becomes (next n old s) b new) (sym w.fits-is ∙ c.if-not-fits.false) w.in_ok-fits-in-Ok.ensures in
      kept_good texts text _ c.match-found.self w.self-is none (line_goes texts text old new n s good short says (omega (arith, count)) becomes)
  | in-Err-NotSpelled w ↦ let never : true ≡ false = sym c.if-not-fits.false ∙ w.fits-is in absurd cc
]
