use Rattle.std.proofs.Common.{subst}
use Rattle.unit_fields.specs.declared.width.Width.{Width}
use Rattle.row_reading.specs.Reading.{format_row, SpellsRow, IsNoRow}
use Rattle.row_check.specs.Bad.{Knows, IsBelow}
use Rattle.row_check.proofs.Ends.{low_pages}
use Rattle.row_check.proofs.Walk.{passed_by, passed_row, judged_by}
use Rattle.row_check.proofs.bad.judge_row.Goals as goal

pub is_in_place-requires : goal.is_in_place-requires
is_in_place-requires c =
    let row = format_row c.in-Some.row c.args.value.now in
    let spells : SpellsRow c.width.result c.args.key.now c.args.value.now row = rw c.in-Some.is at c.in_ok-row.ensures in
    let is = subst (λ (w : Width). SpellsRow w c.args.key.now c.args.value.now row) c.width.ensures spells in
    record {
      value = c.args.value.now;
      fits = is.fits;
      knows = subst (λ k. Knows c.args.sup.now c.args.rows.now.rows (IsBelow k) c.args.passed.now) is.key_is c.requires.knows;
    }

pub returns-in_default-clause-knows : goal.returns-in_default-clause-knows
returns-in_default-clause-knows c =
    let none : IsNoRow c.width.result c.args.key.now c.args.value.now = rw c.in_default.is at c.in_ok-row.ensures in
    passed_by c.args.sup.now c.args.rows.now.rows c.args.key.now c.args.value.now c.requires.stands c.args.passed.now
    (subst (λ (w : Width). IsNoRow w c.args.key.now c.args.value.now) c.width.ensures none) c.requires.knows

pub pass-requires : goal.pass-requires
pass-requires c =
    let row = format_row c.in-Some.row c.args.value.now in
    let spells : SpellsRow c.width.result c.args.key.now c.args.value.now row = rw c.in-Some.is at c.in_ok-row.ensures in
    low_pages c.width.result c.in-Some.row c.args.value.now spells.fits

pub returns-in_ok-pass-in-Ok-clause-judged : goal.returns-in_ok-pass-in-Ok-clause-judged
returns-in_ok-pass-in-Ok-clause-judged c =
    let row = format_row c.in-Some.row c.args.value.now in
    let spells : SpellsRow c.width.result c.args.key.now c.args.value.now row = rw c.in-Some.is at c.in_ok-row.ensures in
    let is = subst (λ (w : Width). SpellsRow w c.args.key.now c.args.value.now row) c.width.ensures spells in
    judged_by c.args.sup.now c.args.rows.now.rows c.args.key.now c.args.value.now row c.in-Ok.fits is (c.in-Ok.ensures c.args.value.now)

pub returns-in_ok-pass-in-Ok-clause-knows : goal.returns-in_ok-pass-in-Ok-clause-knows
returns-in_ok-pass-in-Ok-clause-knows c =
    let row = format_row c.in-Some.row c.args.value.now in
    let spells : SpellsRow c.width.result c.args.key.now c.args.value.now row = rw c.in-Some.is at c.in_ok-row.ensures in
    let is = subst (λ (w : Width). SpellsRow w c.args.key.now c.args.value.now row) c.width.ensures spells in
    passed_row c.args.sup.now c.args.rows.now.rows c.args.key.now c.args.value.now c.requires.stands c.in-Some.row c.args.passed.now c.pass.new.self c.in-Ok.fits is
    c.requires.knows c.in-Ok.ensures c.in_ok-pass-in-Ok.ensures.last c.in_ok-pass-in-Ok.ensures.placed c.in_ok-pass-in-Ok.ensures.end
    c.in_ok-pass-in-Ok.ensures.namers
