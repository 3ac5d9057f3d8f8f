-- The commands of a script are such as clients can run, and few.
use Rattle.std.proofs.Common.{◌≡◌, inl, inr, ℕ, ◌+◌, ◌-◌, ◌<◌, ◌≤◌, ◌==◌, List, [], ◌∷◌, ◌++◌, Bool, true, false, if◌then◌else◌, Option, Some, None, refl, sym, ap, subst, ◌∙◌, arith}
use Rattle.std.specs.Prelude.{◌&&◌}
use Rattle.std.specs.List.{AllByRecursion}
use Rattle.std.specs.Option.{option_map}
use Rattle.std.proofs.lemmas.Bool.{cases_Bool}
use Rattle.std.proofs.lemmas.Bool.Decides.{nat_tests}
use Rattle.object_model.specs.declared.op.Op.{Op}
use Rattle.object_model.specs.declared.command.Command.TheVariants as command
use Rattle.object_model.specs.Prelude.{Change, is_same}
use Rattle.script_text.specs.Prelude.{command_limit, lines_of, Says, EachSays, Parse, start, one_command_more, statement_counted, ends_in_wait, kept_behind, with_line, with_block, with_ended, outside, together, inside, next, parse_after, IsScript, commands, command_count, is_wait, IsNoChange, FitsWhat, IsKnownChangeOp, IsKnownChange}
use Rattle.script_text.specs.declared.grammar.Statement.{Statement}
use Rattle.script_text.specs.declared.grammar.Statement.TheVariants.{PassedOver, Begin, End, Says as Alone}
use Rattle.script_text.specs.declared.line.Line.{Line}
use Rattle.script_text.specs.declared.line.What.{What}
use Rattle.script_text.specs.declared.line.What.TheVariants.{Command, Wait}
use Rattle.script_text.specs.declared.parser.Block.{Block}
use Rattle.script_text.proofs.Scripts.{next_goes}
use Rattle.script_text.proofs.Parsing.{outside_passed, outside_begin, outside_end, outside_alone, inside_passed, inside_begin, inside_end, inside_change, inside_other, next_outside, next_inside}

-- ---- what is known of the lines so far

abbrev FitsLine : Line → Type 0
FitsLine l = FitsWhat l.what

abbrev FitsSoFar : Option Change → Type 0
FitsSoFar None = Unit {0}
FitsSoFar (Some change) = IsKnownChange change.ops

abbrev FitsBlock : Option Block → Type 0
FitsBlock None = Unit {0}
FitsBlock (Some b) = FitsSoFar b.change

-- a block was counted already
abbrev block_count : Option Block → ℕ
block_count None = 0
block_count (Some b) = 1

-- they are known commands and `wait`s, and within the limit
pub record Fits (p : Parse) : Type 0 where
  pub lines : AllByRecursion FitsLine p.lines
  pub block : FitsBlock p.block
  pub few : commands p.lines + block_count p.block + p.commands_left ≤ command_limit

-- ---- lists

fit_both : (a b : List Line) → AllByRecursion FitsLine a → AllByRecursion FitsLine b → AllByRecursion FitsLine (a ++ b)
fit_both [] b x y = y
fit_both (l ∷ a) b x y = (x.0, fit_both a b x.1 y)

all_both : (a b : List Op) → AllByRecursion IsKnownChangeOp a → AllByRecursion IsKnownChangeOp b → AllByRecursion IsKnownChangeOp (a ++ b)
all_both [] b x y = y
all_both (o ∷ a) b x y = (x.0, all_both a b x.1 y)

each_known : (ops : List Op) → IsKnownChange ops → AllByRecursion IsKnownChangeOp ops
each_known [] known = tt
each_known (o ∷ ops) known = known

known_both : (a b : List Op) → IsKnownChange a → IsKnownChange b → IsKnownChange (a ++ b)
known_both [] b x y = absurd x
known_both (o ∷ a) b x y = (x.0, all_both a b x.1 (each_known b y))

commands_both : (a b : List Line) → commands (a ++ b) ≡ commands a + commands b
commands_both [] b = omega arith
commands_both (l ∷ a) b = omega (arith, commands_both a b)

kept_fits : (waits : Bool) (l : Line) → FitsLine l → AllByRecursion FitsLine (kept_behind waits l)
kept_fits waits l fits = elim (waits && is_wait l.what) as (λ b. AllByRecursion FitsLine (if b then [] else l ∷ [])) [ true ↦ tt | false ↦ (fits, tt) ]

kept_few : (waits : Bool) (l : Line) → commands (kept_behind waits l) ≤ command_count l.what
kept_few waits l =
    elim (waits && is_wait l.what) as (λ b. commands (if b then [] else l ∷ []) ≤ command_count l.what) [ true ↦ omega arith | false ↦ omega arith ]

-- ---- a line more

-- where a value was mapped
record Maps {A : Type 0} (f : A → Parse) (o : Option A) (q : Parse) : Type 0 where
  pub from : A
  pub is : o ≡ Some from
  pub to : q ≡ f from

maps : {A : Type 0} (f : A → Parse) (o : Option A) (q : Parse) → option_map {T = A} {U = Parse} f o ≡ Some q → Maps {A = A} f o q
maps f None q is = absurd cc
maps f (Some a) q is = record { from = a; is = refl; to = cc }

some_is : (p q : Parse) → Some p ≡ Some q → q ≡ p
some_is p q is = cc

with_line_fits : (l : Line) (p : Parse) → AllByRecursion FitsLine p.lines → FitsBlock p.block → FitsLine l
    → commands p.lines + command_count l.what + block_count p.block + p.commands_left ≤ command_limit → Fits (with_line l p)
with_line_fits l p lines block fits few = record {
  lines = fit_both p.lines (kept_behind (ends_in_wait false p.lines) l) lines (kept_fits (ends_in_wait false p.lines) l fits);
  block = block;
  few = omega (arith, few, commands_both p.lines (kept_behind (ends_in_wait false p.lines) l), kept_few (ends_in_wait false p.lines) l);
}

record IsCounted (p q : Parse) : Type 0 where
  pub some : 0 < p.commands_left
  pub is : q ≡ record p { commands_left = p.commands_left - 1 }

one_counted : (p q : Parse) → one_command_more p ≡ Some q → IsCounted p q
one_counted p q is = elim (cases_Bool (p.commands_left == 0)) [
  | inl none ↦
      let never : None ≡ Some q = sym (ap (λ (b : Bool). if b then None else Some (record p { commands_left = p.commands_left - 1 })) none) ∙ is in absurd cc
  | inr some ↦
      let found : Some (record p { commands_left = p.commands_left - 1 }) ≡ Some q =
      sym (ap (λ (b : Bool). if b then None else Some (record p { commands_left = p.commands_left - 1 })) some) ∙ is in
      record { some = grind (arith, nat_tests, some); is = some_is (record p { commands_left = p.commands_left - 1 }) q found }
]

begun_fits : (n : ℕ) (p q : Parse) → Fits p → one_command_more p ≡ Some q → Fits (with_block (record { line = n; change = None }) q)
begun_fits n p q fits is =
    let counts = one_counted p q is in
    subst (λ (r : Parse). Fits (with_block (record { line = n; change = None }) r)) (sym counts.is) (record {
      lines = fits.lines;
      block = tt;
      few = omega (arith, fits.few, counts.some);
    })

said_fits : (n : ℕ) (p q : Parse) (what : What) → Fits p → FitsWhat what → statement_counted what p ≡ Some q → Fits (with_line (record { line = n; what = what }) q)
said_fits n p q Wait fits what is =
    subst (λ (r : Parse). Fits (with_line (record { line = n; what = Wait }) r)) (sym (some_is p q is))
    (with_line_fits (record { line = n; what = Wait }) p fits.lines fits.block what (omega (arith, fits.few)))
said_fits n p q (Command c) fits what is =
    let counts = one_counted p q is in
    subst (λ (r : Parse). Fits (with_line (record { line = n; what = Command c }) r)) (sym counts.is)
    (with_line_fits (record { line = n; what = Command c }) (record p { commands_left = p.commands_left - 1 }) fits.lines fits.block what
    (omega (arith, fits.few, counts.some)))

outside_fits : (n : ℕ) (p q : Parse) (text : List ℕ) (s : Statement) → Says text s → Fits p → outside n p s ≡ Some q → Fits q
outside_fits n p q text PassedOver says fits is = subst Fits (sym (some_is p q (sym (outside_passed n p) ∙ is))) fits
outside_fits n p q text Begin says fits is =
    let m = maps (with_block (record { line = n; change = None })) (one_command_more p) q (sym (outside_begin n p) ∙ is) in
    subst Fits (sym m.to) (begun_fits n p m.from fits m.is)
outside_fits n p q text End says fits is = let never : None ≡ Some q = sym (outside_end n p) ∙ is in absurd cc
outside_fits n p q text (Alone what) says fits is =
    let m = maps (with_line (record { line = n; what = what })) (statement_counted what p) q (sym (outside_alone n p what) ∙ is) in
    subst Fits (sym m.to) (said_fits n p m.from what fits says.fits m.is)

together_fits : (so_far : Option Change) (more both : Change) → FitsSoFar so_far → IsKnownChange more.ops → together so_far more ≡ Some both
    → IsKnownChange both.ops
together_fits None more both before fits is = let same : more ≡ both = cc in subst (λ (c : Change). IsKnownChange c.ops) same fits
together_fits (Some so_far) more both before fits is =
    elim (cases_Bool (is_same so_far.coll more.coll)) [
      | inl own ↦
          let found : Some (record so_far { ops = so_far.ops ++ more.ops }) ≡ Some both =
          sym (ap (λ (b : Bool). if b then Some (record so_far { ops = so_far.ops ++ more.ops }) else None) own) ∙ is in
          let same : record so_far { ops = so_far.ops ++ more.ops } ≡ both = cc in
          subst (λ (c : Change). IsKnownChange c.ops) same (known_both so_far.ops more.ops before fits)
      | inr other ↦
          let never : None ≡ Some both = sym (ap (λ (b : Bool). if b then Some (record so_far { ops = so_far.ops ++ more.ops }) else None) other) ∙ is in
          absurd cc
    ]

-- in a block
module _ (p : Parse) (b : Block) (fits : Fits p) (here : p.block ≡ Some b) where
  fits_here : FitsSoFar b.change
  fits_here = subst FitsBlock here fits.block

  few_here : commands p.lines + 1 + p.commands_left ≤ command_limit
  few_here = let one : block_count p.block ≡ 1 = ap block_count here in omega (arith, fits.few, one)

  block_fits : (change : Option Change) → FitsSoFar change → Fits (with_block (record b { change = change }) p)
  block_fits change known = record { lines = fits.lines; block = known; few = few_here }

  ended_fits : (change : Change) → b.change ≡ Some change → Fits (with_ended b p change)
  ended_fits change is =
      with_line_fits (record { line = b.line; what = Command (command.Change change) }) (record p { block = None }) fits.lines tt
      (subst FitsSoFar is fits_here) (omega (arith, few_here))

  not_inside : (q : Parse) (w : What) → IsNoChange w → inside p b (Alone w) ≡ Some q → Fits q
  not_inside q w other is = let never : None ≡ Some q = sym (inside_other p b w other) ∙ is in absurd cc

  inside_fits : (q : Parse) (text : List ℕ) (s : Statement) → Says text s → inside p b s ≡ Some q → Fits q
  inside_fits q text PassedOver says is = subst Fits (sym (some_is (with_block b p) q (sym (inside_passed p b) ∙ is))) (block_fits b.change fits_here)
  inside_fits q text Begin says is = let never : None ≡ Some q = sym (inside_begin p b) ∙ is in absurd cc
  inside_fits q text End says is = let m = maps (with_ended b p) b.change q (sym (inside_end p b) ∙ is) in subst Fits (sym m.to) (ended_fits m.from m.is)
  inside_fits q text (Alone (Command (command.Change change))) says is =
      let m = maps (λ both. with_block (record b { change = Some both }) p) (together b.change change) q (sym (inside_change p b change) ∙ is) in
      subst Fits (sym m.to) (block_fits (Some m.from) (together_fits b.change change m.from fits_here says.fits m.is))
  inside_fits q text (Alone (Command (command.Read read))) says is = not_inside q (Command (command.Read read)) tt is
  inside_fits q text (Alone Wait) says is = not_inside q Wait tt is

next_fits : (n : ℕ) (p q : Parse) (text : List ℕ) (s : Statement) → Says text s → Fits p → next n p s ≡ Some q → Fits q
next_fits n p q text s says fits is = by p.block refl
  where
    by : (o : Option Block) → p.block ≡ o → Fits q
    by None none = outside_fits n p q text s says fits (sym (next_outside n p s none) ∙ is)
    by (Some b) some = inside_fits p b fits some q text s says (sym (next_inside n p s b some) ∙ is)

after_fits : (texts : List (List ℕ)) (n : ℕ) (p q : Parse) (statements : List Statement) → EachSays texts statements → Fits p
    → parse_after n (Some p) statements ≡ Some q → Fits q
after_fits [] n p q [] says fits is = subst Fits (sym (some_is p q is)) fits
after_fits (t ∷ ts) n p q (s ∷ more) says fits is =
    let reached = next_goes n p q s more is in
    after_fits ts (n + 1) reached.mid q more says.1 (next_fits n p reached.mid t s says.0 fits reached.goes) reached.rest
after_fits [] n p q (s ∷ more) says fits is = absurd says
after_fits (t ∷ ts) n p q [] says fits is = absurd says

-- ---- a whole script

script_fits : (bytes : List ℕ) (lines : List Line) (script : IsScript bytes lines) → Fits script.parse
script_fits bytes lines script =
    after_fits (lines_of bytes) 1 start script.parse script.good.statements script.good.says (record { lines = tt; block = tt; few = omega arith })
    script.good.grouped

pub lines_fit : (bytes : List ℕ) (lines : List Line) → IsScript bytes lines → AllByRecursion (λ l. FitsWhat l.what) lines
lines_fit bytes lines script = subst (λ (ls : List Line). AllByRecursion FitsLine ls) (sym script.said) (script_fits bytes lines script).lines

pub lines_few : (bytes : List ℕ) (lines : List Line) → IsScript bytes lines → commands lines ≤ command_limit
lines_few bytes lines script = omega (arith, (script_fits bytes lines script).few, ap commands script.said)
