use Rattle.std.specs.Prelude.{Result}
use Rattle.std.proofs.Common.{◌<◌, ℕ, [], length, get_or, ap, subst, arith}
use Rattle.std.proofs.lemmas.List.{get_or_read}
use Rattle.meta_rows.specs.Prelude.{IsKeyPlace}
use Rattle.meta_rows.proofs.ChunkLemmas.{belongs_found, belongs_among, belongs_behind}
use Rattle.meta_rows.proofs.chunk_list.is_place_of.Goals as goal

pub returns-in-Ok : goal.returns-in-Ok
returns-in-Ok c = λ yes.
    belongs_found c.args.key.now c.args.chunks.now c.requires.none_empty c.requires.order c.args.at c.in-Ok.field-0 c.requires.within
    (subst (λ (place : Result ℕ ℕ). IsKeyPlace c.args.key.now (get_or c.args.chunks.now c.args.at []) place) c.in-Ok.is c.requires.place)

pub returns-then-before-len : goal.returns-then-before-len
returns-then-before-len c = λ yes.
    let here = get_or_read c.args.chunks.now c.args.at c.index-chunks-at.result c.requires.within c.index-chunks-at.is [] in
    let within : c.in-Err.before < length (get_or c.args.chunks.now c.args.at []) = omega (arith, c.if-before-len.true, c.len.ensures, ap length here) in
    belongs_among c.args.key.now c.args.chunks.now c.requires.none_empty c.requires.order c.args.at c.in-Err.before c.requires.within (λ e. absurd (omega (arith, e))) within
    (subst (λ (place : Result ℕ ℕ). IsKeyPlace c.args.key.now (get_or c.args.chunks.now c.args.at []) place) c.in-Err.is c.requires.place)

pub returns-else-before-len : goal.returns-else-before-len
returns-else-before-len c = λ yes.
    belongs_behind c.args.key.now c.args.chunks.now c.requires.none_empty c.requires.order c.args.at c.in-Err.before c.requires.within (λ e. absurd (omega (arith, e)))
    (subst (λ (place : Result ℕ ℕ). IsKeyPlace c.args.key.now (get_or c.args.chunks.now c.args.at []) place) c.in-Err.is c.requires.place)
    (c.ends_above.ensures yes)
