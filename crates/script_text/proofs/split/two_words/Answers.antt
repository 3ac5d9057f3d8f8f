use Rattle.std.proofs.Common.{◌≡◌, ℕ, true, false, List, [], sym, subst, ◌∙◌}
use Rattle.script_text.specs.Prelude.{HasNo}
use Rattle.script_text.proofs.Words.{cut_word, no_words}
use Rattle.script_text.proofs.split.two_words.Goals as goal

pub returns-in_default : goal.returns-in_default
returns-in_default c a b are is = no_words c.args.text.now a b [] c.in_default.ensures is

pub returns-then-not-is_word : goal.returns-then-not-is_word
returns-then-not-is_word c a b are is =
    let both = cut_word c.args.text.now c.in-Some.first.now c.in-Some.rest.now a b [] c.in-Some.ensures.0 c.in-Some.ensures.1 are is in
    let yes = c.is_word.ensures.1 (subst (λ (l : List ℕ). HasNo 0x20 l) (sym both.1) are.1.0) in
    let never : true ≡ false = sym yes ∙ c.if-not-is_word.true in cc
