-- What becomes of the lines so far where one is taken.
use Rattle.std.proofs.Common.{◌≡◌, ℕ, ◌-◌, ◌==◌, List, [], ◌∷◌, ◌++◌, Bool, true, false, if◌then◌else◌, Option, Some, None, refl, sym, ap, subst, ◌∙◌, append-nil}
use Rattle.std.specs.Prelude.{◌&&◌}
use Rattle.std.specs.Option.{option_map}
use Rattle.object_model.specs.declared.command.Command.TheVariants as command
use Rattle.object_model.specs.Prelude.{Change, is_same}
use Rattle.script_text.specs.Prelude.{Parse, one_command_more, statement_counted, ends_in_wait, kept_behind, with_line, with_block, with_ended, together, outside, inside, next, is_wait, Becomes, IsNoChange}
use Rattle.script_text.specs.declared.grammar.Statement.{Statement}
use Rattle.script_text.specs.declared.grammar.Statement.TheVariants.{PassedOver, Begin, End, Says as Alone}
use Rattle.script_text.specs.declared.line.Line.{Line}
use Rattle.script_text.specs.declared.line.What.{What}
use Rattle.script_text.specs.declared.line.What.TheVariants.{Command, Wait}
use Rattle.script_text.specs.declared.parser.Block.{Block}

-- ---- one more command

pub one_fits : (p q : Parse) → (p.commands_left == 0) ≡ false → q ≡ record p { commands_left = p.commands_left - 1 } → Becomes (one_command_more p) true q
one_fits p q some is =
    subst (λ (b : Bool). Becomes (if b then None else Some (record p { commands_left = p.commands_left - 1 })) true q) (sym some) (refl, is)

pub none_fits : (p q : Parse) → (p.commands_left == 0) ≡ true → Becomes (one_command_more p) false q
none_fits p q none =
    subst (λ (b : Bool). Becomes (if b then None else Some (record p { commands_left = p.commands_left - 1 })) false q) (sym none) refl

pub wait_fits : (w : What) (p q : Parse) → is_wait w ≡ true → q ≡ p → Becomes (statement_counted w p) true q
wait_fits Wait p q is same = (refl, same)
wait_fits (Command c) p q is same = let never : false ≡ true = is in absurd cc

pub command_fits : (w : What) (p q : Parse) (fits : Bool) → is_wait w ≡ false → Becomes (one_command_more p) fits q → Becomes (statement_counted w p) fits q
command_fits Wait p q fits is becomes = let never : true ≡ false = is in absurd cc
command_fits (Command c) p q fits is becomes = becomes

-- ---- a line that is kept

-- a line is added, or it is a `wait` behind another
pub kept_added : (waits : Bool) (old : List Line) (l : Line) (b : Bool) → b ≡ (waits && is_wait l.what) → b ≡ false → old ++ (l ∷ []) ≡ old ++ kept_behind waits l
kept_added waits old l b is test = ap (λ (t : Bool). old ++ (if t then [] else l ∷ [])) (sym test ∙ is)

pub kept_passed_over : (waits : Bool) (old : List Line) (l : Line) (b : Bool) → b ≡ (waits && is_wait l.what) → b ≡ true → old ≡ old ++ kept_behind waits l
kept_passed_over waits old l b is test = sym (append-nil old) ∙ ap (λ (t : Bool). old ++ (if t then [] else l ∷ [])) (sym test ∙ is)

pub with_lines : (p : Parse) (l : Line) (lines : List Line) → lines ≡ p.lines ++ kept_behind (ends_in_wait false p.lines) l
    → record p { lines = lines } ≡ with_line l p
with_lines p l lines is = ap (λ (ls : List Line). record p { lines = ls }) is

-- ---- where a line can stand

pub outside_passed : (n : ℕ) (p : Parse) → outside n p PassedOver ≡ Some p
unfolding outside
outside_passed n p = refl

pub outside_begin : (n : ℕ) (p : Parse) → outside n p Begin ≡ option_map (with_block (record { line = n; change = None })) (one_command_more p)
unfolding outside
outside_begin n p = refl

pub outside_end : (n : ℕ) (p : Parse) → outside n p End ≡ None
unfolding outside
outside_end n p = refl

pub outside_alone : (n : ℕ) (p : Parse) (w : What) → outside n p (Alone w) ≡ option_map (with_line (record { line = n; what = w })) (statement_counted w p)
unfolding outside
outside_alone n p w = refl

pub inside_passed : (p : Parse) (b : Block) → inside p b PassedOver ≡ Some (with_block b p)
unfolding inside
inside_passed p b = refl

pub inside_begin : (p : Parse) (b : Block) → inside p b Begin ≡ None
unfolding inside
inside_begin p b = refl

pub inside_end : (p : Parse) (b : Block) → inside p b End ≡ option_map (with_ended b p) b.change
unfolding inside
inside_end p b = refl

pub inside_change : (p : Parse) (b : Block) (change : Change) → inside p b (Alone (Command (command.Change change)))
    ≡ option_map (λ both. with_block (record b { change = Some both }) p) (together b.change change)
unfolding inside
inside_change p b change = refl

-- what is no transaction can't stand in a block
pub inside_other : (p : Parse) (b : Block) (w : What) → IsNoChange w → inside p b (Alone w) ≡ None
unfolding inside
inside_other p b (Command (command.Change change)) is = absurd is
inside_other p b w is = refl

pub next_outside : (n : ℕ) (p : Parse) (s : Statement) → p.block ≡ None → next n p s ≡ outside n p s
unfolding next
next_outside n p s none = ap (λ (o : Option Block). elim o [ None ↦ outside n p s | Some b ↦ inside p b s ]) none

pub next_inside : (n : ℕ) (p : Parse) (s : Statement) (b : Block) → p.block ≡ Some b → next n p s ≡ inside p b s
unfolding next
next_inside n p s b some = ap (λ (o : Option Block). elim o [ None ↦ outside n p s | Some c ↦ inside p c s ]) some

-- the block that was taken out doesn't matter there
pub inside_same : (p : Parse) (o : Option Block) (b : Block) (s : Statement) → inside (record p { block = o }) b s ≡ inside p b s
unfolding inside
inside_same p o b PassedOver = refl
inside_same p o b Begin = refl
inside_same p o b End = refl
inside_same p o b (Alone (Command (command.Change change))) = refl
inside_same p o b (Alone what) = refl

-- ---- what is made of what fits

-- it is the same that fits
pub becomes_same : (o r : Option Parse) (fits : Bool) (q : Parse) → o ≡ r → Becomes r fits q → Becomes o fits q
becomes_same o r fits q is becomes = subst (λ (x : Option Parse). Becomes x fits q) (sym is) becomes

pub some_fits : (o : Option Parse) (p q : Parse) → o ≡ Some p → q ≡ p → Becomes o true q
some_fits o p q is same = becomes_same o (Some p) true q is (refl, same)

pub none_fits_there : (o : Option Parse) (q : Parse) → o ≡ None → Becomes o false q
none_fits_there o q is = becomes_same o None false q is refl

pub becomes_map : (f : Parse → Parse) (o : Option Parse) (p q : Parse) → Becomes o true p → q ≡ f p → Becomes (option_map {T = Parse} {U = Parse} f o) true q
becomes_map f None p q becomes is = let never : true ≡ false = becomes in absurd cc
becomes_map f (Some r) p q becomes is = (refl, is ∙ ap f becomes.1)

pub becomes_none : (f : Parse → Parse) (o : Option Parse) (p q : Parse) → Becomes o false p → Becomes (option_map {T = Parse} {U = Parse} f o) false q
becomes_none f None p q becomes = refl
becomes_none f (Some r) p q becomes = let never : false ≡ true = becomes.0 in absurd cc

-- a block was put where none was
pub with_put : (b : Block) (p q : Parse) (z : Option Block) → z ≡ Some b → p ≡ q → record p { block = z } ≡ with_block b q
with_put b p q z put same = ap (λ (y : Option Block). record p { block = y }) put ∙ ap (with_block b) same

-- a block is begun
pub begun : (n : ℕ) (p q r : Parse) → Becomes (one_command_more p) true q → r ≡ with_block (record { line = n; change = None }) q → Becomes (outside n p Begin) true r
begun n p q r becomes is =
    becomes_same (outside n p Begin) (option_map (with_block (record { line = n; change = None })) (one_command_more p)) true r (outside_begin n p)
    (becomes_map (with_block (record { line = n; change = None })) (one_command_more p) q r becomes is)

pub not_begun : (n : ℕ) (p q r : Parse) → Becomes (one_command_more p) false q → Becomes (outside n p Begin) false r
not_begun n p q r becomes =
    becomes_same (outside n p Begin) (option_map (with_block (record { line = n; change = None })) (one_command_more p)) false r (outside_begin n p)
    (becomes_none (with_block (record { line = n; change = None })) (one_command_more p) q r becomes)

-- something is said
pub said : (n : ℕ) (w : What) (p q r : Parse) → Becomes (statement_counted w p) true q → r ≡ with_line (record { line = n; what = w }) q
    → Becomes (outside n p (Alone w)) true r
said n w p q r becomes is =
    becomes_same (outside n p (Alone w)) (option_map (with_line (record { line = n; what = w })) (statement_counted w p)) true r (outside_alone n p w)
    (becomes_map (with_line (record { line = n; what = w })) (statement_counted w p) q r becomes is)

pub not_said : (n : ℕ) (w : What) (p q r : Parse) → Becomes (statement_counted w p) false q → Becomes (outside n p (Alone w)) false r
not_said n w p q r becomes =
    becomes_same (outside n p (Alone w)) (option_map (with_line (record { line = n; what = w })) (statement_counted w p)) false r (outside_alone n p w)
    (becomes_none (with_line (record { line = n; what = w })) (statement_counted w p) q r becomes)

-- the block is ended
pub ended_block : (p q : Parse) (b : Block) (change : Change) → b.change ≡ Some change → p.block ≡ None
    → q ≡ with_line (record { line = b.line; what = Command (command.Change change) }) p → Becomes (inside p b End) true q
ended_block p q b change some none is =
    let same : record p { block = None } ≡ p = ap (λ (o : Option Block). record p { block = o }) (sym none) in
    some_fits (inside p b End) (with_ended b p change) q
    (inside_end p b ∙ ap (λ (o : Option Change). option_map {T = Change} {U = Parse} (with_ended b p) o) some)
    (is ∙ ap (λ (r : Parse). with_line (record { line = b.line; what = Command (command.Change change) }) r) (sym same))

pub empty_block : (p q : Parse) (b : Block) → b.change ≡ None → Becomes (inside p b End) false q
empty_block p q b none =
    none_fits_there (inside p b End) q (inside_end p b ∙ ap (λ (o : Option Change). option_map {T = Change} {U = Parse} (with_ended b p) o) none)

-- the block is longer
pub longer_block : (p q : Parse) (b : Block) (change both : Change) → Some both ≡ together b.change change
    → q ≡ with_block (record b { change = Some both }) p → Becomes (inside p b (Alone (Command (command.Change change)))) true q
longer_block p q b change both is same =
    some_fits (inside p b (Alone (Command (command.Change change)))) (with_block (record b { change = Some both }) p) q
    (inside_change p b change ∙ ap (λ (o : Option Change). option_map {T = Change} {U = Parse} (λ c. with_block (record b { change = Some c }) p) o) (sym is)) same

pub other_block : (p q : Parse) (b : Block) (change : Change) → None ≡ together b.change change → Becomes (inside p b (Alone (Command (command.Change change)))) false q
other_block p q b change is =
    none_fits_there (inside p b (Alone (Command (command.Change change)))) q
    (inside_change p b change ∙ ap (λ (o : Option Change). option_map {T = Change} {U = Parse} (λ c. with_block (record b { change = Some c }) p) o) (sym is))

-- ---- the operations of a block

pub together_first : (so_far : Option Change) (more : Change) → so_far ≡ None → Some more ≡ together so_far more
together_first so_far more none = ap (λ (o : Option Change). together o more) (sym none)

pub together_other : (so_far : Option Change) (first more : Change) (a b : List ℕ) (r : Bool) → so_far ≡ Some first → a ≡ first.coll → b ≡ more.coll
    → r ≡ is_same a b → r ≡ false → None ≡ together so_far more
together_other so_far first more a b r some a_is b_is test other =
    let differs : is_same first.coll more.coll ≡ false =
    ap (λ (l : List ℕ). is_same l more.coll) (sym a_is) ∙ ap (λ (l : List ℕ). is_same a l) (sym b_is) ∙ sym test ∙ other in
    ap (λ (t : Bool). if t then Some (record first { ops = first.ops ++ more.ops }) else None) (sym differs)
    ∙ ap (λ (o : Option Change). together o more) (sym some)

pub together_own : (so_far : Option Change) (first more both : Change) (a b : List ℕ) (r : Bool) → so_far ≡ Some first → a ≡ first.coll → b ≡ more.coll
    → r ≡ is_same a b → r ≡ true → both ≡ record first { ops = first.ops ++ more.ops } → Some both ≡ together so_far more
together_own so_far first more both a b r some a_is b_is test own is =
    let same : is_same first.coll more.coll ≡ true =
    ap (λ (l : List ℕ). is_same l more.coll) (sym a_is) ∙ ap (λ (l : List ℕ). is_same a l) (sym b_is) ∙ sym test ∙ own in
    ap (λ (c : Change). Some c) is
    ∙ ap (λ (t : Bool). if t then Some (record first { ops = first.ops ++ more.ops }) else None) (sym same)
    ∙ ap (λ (o : Option Change). together o more) (sym some)

-- ---- where the block was taken out

-- a line behind others, where no block isn't ended
pub outside_now : (n : ℕ) (p new : Parse) (s : Statement) (fits : Bool) → p.block ≡ None → Becomes (outside n p s) fits new → Becomes (next n p s) fits new
outside_now n p new s fits none becomes = becomes_same (next n p s) (outside n p s) fits new (next_outside n p s none) becomes

-- a line in this block
pub inside_now : (n : ℕ) (p q new : Parse) (s : Statement) (b : Block) (o : Option Block) (fits : Bool) → p ≡ q → p.block ≡ Some b
    → Becomes (inside (record p { block = o }) b s) fits new → Becomes (next n q s) fits new
inside_now n p q new s b o fits same some becomes =
    becomes_same (next n q s) (inside (record p { block = o }) b s) fits new
    (ap (λ (r : Parse). next n r s) (sym same) ∙ next_inside n p s b some ∙ sym (inside_same p o b s)) becomes
