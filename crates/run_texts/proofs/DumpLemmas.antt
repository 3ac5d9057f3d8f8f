-- The lines of objects and of walks, one behind the other.
use Rattle.std.proofs.Common.{◌≡◌, ◌≢◌, ℕ, List, [], ◌∷◌, ◌++◌, Bool, true, codes, refl, ap, subst, ◌∙◌, append_assoc, append-nil, sym}
use Rattle.read_facts.specs.declared.view.CollView.{CollView}
use Rattle.read_facts.specs.declared.view.ValueView.{ValueView}
use Rattle.run_texts.specs.declared.work_end.WorkEnd.{WorkEnd}
use Rattle.run_texts.specs.Prelude.{as_text, hex_text, value_line, value_lines, header_lines, walk_lines, has_bad_view, last_lines, dump_text}
use Rattle.run_texts.specs.Prelude.{Output, TookFront, Waiting, HasStopped, PrintedSoFar, AddsText, DumpSoFar, nothing_dumped, AddsWalk}
use Rattle.run_texts.proofs.Adding.{both, said, from_nothing, stopped_in}
use Rattle.run_texts.proofs.TextLemmas.{as_text-append}

-- the text of values
abbrev pub values_text : List ℕ → List ValueView → List ℕ
values_text word values = as_text (value_lines word values)

pub values-append : (word : List ℕ) (xs ys : List ValueView) → values_text word (xs ++ ys) ≡ values_text word xs ++ values_text word ys
values-append word [] ys = refl
values-append word (v ∷ xs) ys = ap (λ (t : List ℕ). value_line word v ++ (10 ∷ t)) (values-append word xs ys)
    ∙ sym (append_assoc (value_line word v) (10 ∷ values_text word xs) (values_text word ys))

-- the line of a header that isn't empty
pub header_text : (header : List ℕ) → header ≢ [] → codes "header " ++ hex_text header ++ codes "\n" ≡ as_text (header_lines header)
header_text [] some = absurd (some refl)
header_text (b ∷ bs) some = refl

-- a line, and lines of three kinds behind it
pub line_and_three : (line : List ℕ) (a b c : List (List ℕ))
    → line ++ 10 ∷ [] ++ as_text a ++ as_text b ++ as_text c ≡ as_text (line ∷ (a ++ (b ++ c)))
line_and_three line a b c =
    ap (λ (t : List ℕ). t ++ as_text b ++ as_text c) (sym (as_text-append (line ∷ []) a))
    ∙ ap (λ (t : List ℕ). t ++ as_text c) (sym (as_text-append (line ∷ a) b))
    ∙ sym (as_text-append (line ∷ (a ++ b)) c)
    ∙ ap (λ (l : List (List ℕ)). as_text (line ∷ l)) (append_assoc a b c)

-- a walk and the last lines are the whole text
pub whole_dump : {text rest : Waiting} {bad : Bool} {o1 o2 : Output} (colls : List CollView) (end : WorkEnd) (so_far : DumpSoFar) (start : Output)
    → AddsWalk colls nothing_dumped so_far start o1 → text ≡ so_far.text → bad ≡ so_far.bad → AddsText (as_text (last_lines bad end)) text rest o1 o2
    → PrintedSoFar rest.failed start (dump_text colls end) rest.bytes o2
whole_dump {text} {rest} {bad} {o1} {o2} colls end so_far start walked same noted last =
    let lines : AddsText (as_text (last_lines (has_bad_view colls) end)) so_far.text rest o1 o2 =
    subst (λ (w : Waiting). AddsText (as_text (last_lines (has_bad_view colls) end)) w rest o1 o2) same
    (said (ap (λ (b : Bool). as_text (last_lines b end)) (noted ∙ walked.noted)) last) in
    from_nothing refl (said (sym (as_text-append (walk_lines colls) (last_lines (has_bad_view colls) end))) (both walked.adds lines))

-- where the sink has failed at the lines of a walk, it took a front of the whole text
pub stopped_dump : (colls : List CollView) (end : WorkEnd) (so_far : DumpSoFar) (start now : Output) → AddsWalk colls nothing_dumped so_far start now
    → so_far.text.failed ≡ true → TookFront (dump_text colls end) start now
stopped_dump colls end so_far start now walked failed =
    let walk : List ℕ = as_text (walk_lines colls) in
    let last : List ℕ = as_text (last_lines (has_bad_view colls) end) in
    let stopped : HasStopped start walk now =
    subst (λ (b : Bool). PrintedSoFar b start walk so_far.text.bytes now) failed (from_nothing refl walked.adds) in
    stopped_in start now (dump_text colls end) (record {
      front = stopped.front;
      rest = stopped.rest ++ last;
      all = append-nil (dump_text colls end) ∙ as_text-append (walk_lines colls) (last_lines (has_bad_view colls) end)
          ∙ ap (λ (t : List ℕ). t ++ last) stopped.all ∙ append_assoc stopped.front stopped.rest last;
      written = stopped.written;
      rose = stopped.rose;
    })
