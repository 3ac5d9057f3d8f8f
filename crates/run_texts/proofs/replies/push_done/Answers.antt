use Rattle.std.proofs.Common.{List, ap, ◌∙◌}
use Rattle.std.specs.Prelude.{decimal}
use Rattle.object_model.specs.declared.book.Entry.{Entry}
use Rattle.run_texts.specs.declared.replies.Kind.TheVariants.{Accepted, Refused, Read}
use Rattle.run_texts.specs.Prelude.{answers_of}
use Rattle.run_texts.proofs.Adding.{both, said}
use Rattle.run_texts.proofs.replies.push_done.Goals as goal

pub returns : goal.returns
returns g c =
    let same = c.as_slice-entries.ensures in
    let accepted = said (ap decimal (c.count.ensures ∙ ap (λ (es : List Entry). answers_of Accepted es) same)) c.push_number.ensures in
    let refused = said (ap decimal (c.count-2.ensures ∙ ap (λ (es : List Entry). answers_of Refused es) same)) c.push_number-2.ensures in
    let reads = said (ap decimal (c.count-3.ensures ∙ ap (λ (es : List Entry). answers_of Read es) same)) c.push_number-3.ensures in
    let commits = said (ap decimal c.len.ensures) c.push_number-4.ensures in
    both (both (both (both (both (both (both (both (both (both c.push_str.ensures accepted) c.push_str-2.ensures) refused) c.push_str-3.ensures)
    reads) c.push_str-4.ensures) commits) c.push_str-5.ensures) c.push_number-5.ensures) c.push_str-6.ensures
