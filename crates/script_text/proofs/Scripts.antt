-- What a script says, and its first bad line.
use Rattle.std.proofs.Common.{◌≡◌, inl, inr, ℕ, suc, ◌+◌, ◌<◌, ◌≤◌, List, [], ◌∷◌, ◌++◌}
use Rattle.std.proofs.Common.{Bool, true, false, length, Option, Some, None, refl, sym, ap, subst, ◌∙◌, arith, length-append}
use Rattle.std.specs.Prelude.{slice_get, ◌-◌, codes, IsSome}
use Rattle.std.specs.List.{AllByRecursion}
use Rattle.std.proofs.lemmas.Bool.{cases_lt}
use Rattle.script_text.specs.Prelude.{script_limit, line_limit, lines_of, ended, Says, EachSays, Parse, start, next, parse_after, AreGood, IsScript, IsPastLimit, IsBad, IsBadLine, IsBadAt, IsPassedOver, IsLineOf, is_wait, ends_in_wait}
use Rattle.script_text.specs.declared.grammar.Statement.{Statement}
use Rattle.script_text.specs.declared.grammar.Statement.TheVariants.{PassedOver, Begin, End, Says as Alone}
use Rattle.script_text.specs.declared.line.Line.{Line}
use Rattle.script_text.specs.declared.parser.Block.{Block}
use Rattle.script_text.specs.declared.line.What.{What}
use Rattle.script_text.proofs.Splits.{same_bytes, differ, lacks, has_none}
use Rattle.script_text.proofs.Forms.{passed_or_line, line_says_one, one_word}

-- ---- a text is one statement

-- a word with a letter is not passed over
passed_or_word : (text rest : List ℕ) (b : ℕ) → text ≡ b ∷ rest → 0x61 ≤ b → IsPassedOver text → ⊥
passed_or_word [] rest b is letter passed = cc
passed_or_word (c ∷ cs) rest b is letter passed = let head : c ≡ b = cc in absurd (omega (arith, head, letter, passed))

-- a word without a space is no line, but for `wait`
word_or_line : (text word : List ℕ) (what : What) → text ≡ word → lacks 0x20 word ≡ true → same_bytes word (codes "wait") ≡ false → IsLineOf text what → ⊥
word_or_line text word what is one other line =
    let own : IsLineOf word what = subst (λ (t : List ℕ). IsLineOf t what) is line in
    differ word (codes "wait") other (one_word word what (has_none 0x20 word one) own)

begin_or_end : (text : List ℕ) → text ≡ codes "begin" → text ≡ codes "end" → ⊥
begin_or_end text begin end = differ (codes "begin") (codes "end") refl (sym begin ∙ end)

begin_or_line : (text : List ℕ) (what : What) → text ≡ codes "begin" → IsLineOf text what → ⊥
begin_or_line text what is line = word_or_line text (codes "begin") what is refl refl line

end_or_line : (text : List ℕ) (what : What) → text ≡ codes "end" → IsLineOf text what → ⊥
end_or_line text what is line = word_or_line text (codes "end") what is refl refl line

passed_or_begin : (text : List ℕ) → IsPassedOver text → text ≡ codes "begin" → ⊥
passed_or_begin text passed is = passed_or_word text (codes "egin") 0x62 is (omega arith) passed

passed_or_end : (text : List ℕ) → IsPassedOver text → text ≡ codes "end" → ⊥
passed_or_end text passed is = passed_or_word text (codes "nd") 0x65 is (omega arith) passed

pub says_one : (text : List ℕ) (a b : Statement) → Says text a → Says text b → a ≡ b
says_one text PassedOver PassedOver x y = refl
says_one text PassedOver Begin x y = absurd (passed_or_begin text x y)
says_one text PassedOver End x y = absurd (passed_or_end text x y)
says_one text PassedOver (Alone w) x y = absurd (passed_or_line text w x y)
says_one text Begin PassedOver x y = absurd (passed_or_begin text y x)
says_one text Begin Begin x y = refl
says_one text Begin End x y = absurd (begin_or_end text x y)
says_one text Begin (Alone w) x y = absurd (begin_or_line text w x y)
says_one text End PassedOver x y = absurd (passed_or_end text y x)
says_one text End Begin x y = absurd (begin_or_end text y x)
says_one text End End x y = refl
says_one text End (Alone w) x y = absurd (end_or_line text w x y)
says_one text (Alone v) PassedOver x y = absurd (passed_or_line text v y x)
says_one text (Alone v) Begin x y = absurd (begin_or_line text v y x)
says_one text (Alone v) End x y = absurd (end_or_line text v y x)
says_one text (Alone v) (Alone w) x y = ap (λ (what : What). Alone what) (line_says_one text v w x y)

-- what is neither passed over, nor a word of blocks, nor a line, is outside the grammar
pub no_statement : (text : List ℕ) → ¬ (IsPassedOver text) → ¬ (text ≡ codes "begin") → ¬ (text ≡ codes "end") → ((what : What) → ¬ (IsLineOf text what))
    → (s : Statement) → ¬ (Says text s)
no_statement text passed begin end line PassedOver says = passed says
no_statement text passed begin end line Begin says = begin says
no_statement text passed begin end line End says = end says
no_statement text passed begin end line (Alone what) says = line what says

pub each_says_one : (texts : List (List ℕ)) (a b : List Statement) → EachSays texts a → EachSays texts b → a ≡ b
each_says_one [] [] [] x y = refl
each_says_one [] [] (b ∷ ys) x y = absurd y
each_says_one [] (a ∷ xs) b x y = absurd x
each_says_one (t ∷ ts) [] b x y = absurd x
each_says_one (t ∷ ts) (a ∷ xs) [] x y = absurd y
each_says_one (t ∷ ts) (a ∷ xs) (b ∷ ys) x y =
    let head : a ≡ b = says_one t a b x.0 y.0 in
    let tail : xs ≡ ys = each_says_one ts xs ys x.1 y.1 in cc

-- ---- good lines mean one thing

some_same : (a b : Parse) → Some a ≡ Some b → a ≡ b
some_same a b is = cc

pub good_one : (texts : List (List ℕ)) (p q : Parse) → AreGood texts p → AreGood texts q → p ≡ q
good_one texts p q x y =
    let same = each_says_one texts x.statements y.statements x.says y.says in
    some_same p q (sym x.grouped ∙ ap (λ (l : List Statement). parse_after 1 (Some start) l) same ∙ y.grouped)

pub one_list : (bytes : List ℕ) (a b : List Line) → IsScript bytes a → IsScript bytes b → a ≡ b
one_list bytes a b x y = x.said ∙ ap (λ (p : Parse). p.lines) (good_one (lines_of bytes) x.parse y.parse x.good y.good) ∙ sym y.said

-- ---- `wait`s behind one another

-- the last line of a list tells whether it ends in a `wait`
pub last_line : (waits : Bool) (ls : List Line) (l : Line) → Some l ≡ slice_get ls (length ls - 1) → is_wait l.what ≡ ends_in_wait waits ls
last_line waits [] l is = absurd cc
last_line waits (x ∷ []) l is = let same : l ≡ x = cc in ap (λ (y : Line). is_wait y.what) same
last_line waits (x ∷ y ∷ ls) l is =
    let before : length (x ∷ y ∷ ls) - 1 ≡ suc (length (y ∷ ls) - 1) = omega arith in
    last_line waits (y ∷ ls) l (is ∙ ap (λ (i : ℕ). slice_get (x ∷ y ∷ ls) i) before)

-- ---- lists of lines, cut

after_none : (n : ℕ) (more : List Statement) → parse_after n None more ≡ None
after_none n [] = refl
after_none n (s ∷ more) = refl

-- of lines that can stand there each front can
pub record Reaches (n : ℕ) (p q : Parse) (here : Statement) (behind : List Statement) : Type 0 where
  pub mid : Parse
  pub goes : next n p here ≡ Some mid
  pub rest : parse_after (n + 1) (Some mid) behind ≡ Some q

pub next_goes : (n : ℕ) (p q : Parse) (here : Statement) (rest : List Statement) → parse_after n (Some p) (here ∷ rest) ≡ Some q → Reaches n p q here rest
next_goes n p q here rest is = by (next n p here) refl
  where
    by : (o : Option Parse) → next n p here ≡ o → Reaches n p q here rest
    by None none =
        let gone : Some q ≡ None = sym is ∙ ap (λ (o : Option Parse). parse_after (n + 1) o rest) none ∙ after_none (n + 1) rest in
        absurd (cc)
    by (Some mid) some = record { mid = mid; goes = some; rest = sym (ap (λ (o : Option Parse). parse_after (n + 1) o rest) some) ∙ is }

pub after-append : (n m : ℕ) (p : Option Parse) (a b : List Statement) → m ≡ n + length a → parse_after n p (a ++ b) ≡ parse_after m (parse_after n p a) b
after-append n m p [] b is = let here : n ≡ m = omega (arith, is) in ap (λ (k : ℕ). parse_after k p b) here
after-append n m None (s ∷ a) b is = sym (after_none m b)
after-append n m (Some p) (s ∷ a) b is = after-append (n + 1) m (next n p s) a b (omega (arith, is))

-- what the lines before, at and behind a place say
pub record SaysAround (front : List (List ℕ)) (text : List ℕ) (said : List Statement) : Type 0 where
  pub before : List Statement
  pub here : Statement
  pub after : List Statement
  pub whole : said ≡ before ++ (here ∷ after)
  pub says_before : EachSays front before
  pub says_here : Says text here

pub says_around : (front : List (List ℕ)) (text : List ℕ) (behind : List (List ℕ)) (said : List Statement) → EachSays (front ++ (text ∷ behind)) said
    → SaysAround front text said
says_around [] text behind [] all = absurd all
says_around [] text behind (s ∷ more) all = record { before = []; here = s; after = more; whole = refl; says_before = tt; says_here = all.0 }
says_around (t ∷ ts) text behind [] all = absurd all
says_around (t ∷ ts) text behind (s ∷ more) all =
    let rest = says_around ts text behind more all.1 in
    record {
      before = s ∷ rest.before;
      here = rest.here;
      after = rest.after;
      whole = ap (λ (l : List Statement). s ∷ l) rest.whole;
      says_before =
          (all.0, rest.says_before);
      says_here = rest.says_here;
    }

short_at : (front : List (List ℕ)) (text : List ℕ) (behind : List (List ℕ)) → AllByRecursion (λ text. length text ≤ line_limit) (front ++ (text ∷ behind))
    → length text ≤ line_limit
short_at [] text behind all = all.0
short_at (t ∷ ts) text behind all = short_at ts text behind all.1

pub length_says : (texts : List (List ℕ)) (said : List Statement) → EachSays texts said → length said ≡ length texts
length_says [] [] all = refl
length_says [] (s ∷ more) all = absurd all
length_says (t ∷ ts) [] all = absurd all
length_says (t ∷ ts) (s ∷ more) all = ap suc (length_says ts more all.1)

-- a line among good ones can stand there
pub record Stands (front : List (List ℕ)) (p : Parse) (text : List ℕ) : Type 0 where
  pub statement : Statement
  pub says : Says text statement
  pub mid : Parse
  pub goes : next (length front + 1) p statement ≡ Some mid

stands_among : (front : List (List ℕ)) (text : List ℕ) (behind : List (List ℕ)) (p q : Parse) → AreGood (front ++ (text ∷ behind)) q → AreGood front p
    → Stands front p text
stands_among front text behind p q good before =
    let around = says_around front text behind good.statements good.says in
    let same : around.before ≡ before.statements = each_says_one front around.before before.statements around.says_before before.says in
    let size : length around.before ≡ length front = length_says front around.before around.says_before in
    let cut : parse_after 1 (Some start) (around.before ++ (around.here ∷ around.after))
    ≡ parse_after (length front + 1) (parse_after 1 (Some start) around.before) (around.here ∷ around.after) =
    after-append 1 (length front + 1) (Some start) around.before (around.here ∷ around.after) (omega (arith, size)) in
    let front_is : parse_after 1 (Some start) around.before ≡ Some p = ap (λ (l : List Statement). parse_after 1 (Some start) l) same ∙ before.grouped in
    let whole : parse_after (length front + 1) (Some p) (around.here ∷ around.after) ≡ Some q =
    ap (λ (o : Option Parse). parse_after (length front + 1) o (around.here ∷ around.after)) (sym front_is) ∙ sym cut
    ∙ ap (λ (l : List Statement). parse_after 1 (Some start) l) (sym around.whole) ∙ good.grouped in
    let reached = next_goes (length front + 1) p q around.here around.after whole in
    record { statement = around.here; says = around.says_here; mid = reached.mid; goes = reached.goes }

-- a line among good ones is not bad
not_bad : (size : ℕ) (front : List (List ℕ)) (text : List ℕ) (behind : List (List ℕ)) (p q : Parse) → AreGood (front ++ (text ∷ behind)) q
    → AreGood front p → ¬ (IsPastLimit size front text) → ¬ (IsBad size front p text)
not_bad size front text behind p q good before within bad =
    let stands = stands_among front text behind p q good before in
    elim bad [
      | inl outside ↦ outside stands.statement stands.says
      | inr more ↦ elim more [
        | inl long ↦ absurd (omega (arith, long, short_at front text behind good.short))
        | inr more ↦ elim more [
          | inl misplaced ↦
              let same : misplaced.statement ≡ stands.statement = says_one text misplaced.statement stands.statement misplaced.says stands.says in
              let never : None ≡ Some stands.mid =
              sym misplaced.unfit ∙ ap (λ (s : Statement). next (length front + 1) p s) same ∙ stands.goes in
              absurd (cc)
          | inr past ↦ within past
        ]
      ]
    ]

-- no line of good bytes is bad
good_has_no_bad : (bytes : List ℕ) (p : Parse) (n : ℕ) → AreGood (lines_of bytes) p → length bytes ≤ script_limit → IsBadLine bytes n → ⊥
good_has_no_bad bytes p n good small bad =
    let all = subst (λ (l : List (List ℕ)). AreGood l p) bad.lines good in
    not_bad (length bytes) bad.front bad.text bad.behind bad.parse p all bad.good (λ past. absurd (omega (arith, past.larger, small))) bad.bad

no_some : (o : Option Block) → o ≡ None → IsSome o → ⊥
no_some None is some = let never : false ≡ true = some in cc
no_some (Some b) is some = cc

pub script_has_no_bad : (bytes : List ℕ) (lines : List Line) (n : ℕ) → IsScript bytes lines → IsBadAt bytes n → ⊥
script_has_no_bad bytes lines n script bad = elim bad [
  | inl line ↦ good_has_no_bad bytes script.parse n script.good script.small line
  | inr unended ↦
      let same : script.parse ≡ unended.parse = good_one (lines_of bytes) script.parse unended.parse script.good unended.good in
      no_some unended.parse.block (ap (λ (p : Parse). p.block) (sym same) ∙ script.ended) unended.unended
]

-- of two fronts of a list the shorter one, and the text behind it, begin the longer one
longer_front : (a b : List (List ℕ)) (s t : List ℕ) (x y : List (List ℕ)) → a ++ (s ∷ x) ≡ b ++ (t ∷ y) → length a < length b
    → (more : List (List ℕ)) × (b ≡ a ++ (s ∷ more))
longer_front [] [] s t x y is lt = absurd (omega arith)
longer_front [] (b ∷ bs) s t x y is lt = let head : s ≡ b = cc in (bs, ap (λ (l : List ℕ). l ∷ bs) (sym head))
longer_front (a ∷ xs) [] s t x y is lt = absurd (omega arith)
longer_front (a ∷ xs) (b ∷ bs) s t x y is lt =
    let head : a ≡ b = cc in
    let tails : xs ++ (s ∷ x) ≡ bs ++ (t ∷ y) = cc in
    let rest = longer_front xs bs s t x y tails (omega arith) in
    (rest.0, ap (λ (l : List ℕ). l ∷ bs) (sym head) ∙ ap (λ (l : List (List ℕ)). a ∷ l) rest.1)

ended_front : (front : List (List ℕ)) (text : List ℕ) (more : List (List ℕ)) → length (ended front) + length text < length (ended (front ++ (text ∷ more)))
ended_front [] text more = omega (arith, length-append text (10 ∷ ended more))
ended_front (t ∷ ts) text more = omega (arith, ended_front ts text more, length-append t (10 ∷ ended ts), length-append t (10 ∷ ended (ts ++ (text ∷ more))))

not_before : (bytes : List ℕ) (n m : ℕ) (a : IsBadLine bytes n) (b : IsBadLine bytes m) → ¬ (length a.front < length b.front)
not_before bytes n m a b lt =
    let rest = longer_front a.front b.front a.text b.text a.behind b.behind (sym a.lines ∙ b.lines) lt in
    let good = subst (λ (l : List (List ℕ)). AreGood l b.parse) rest.1 b.good in
    let size = ap (λ (l : List (List ℕ)). length (ended l)) rest.1 in
    not_bad (length bytes) a.front a.text rest.0 a.parse b.parse good a.good
    (λ past. absurd (omega (arith, past.holds, size, ended_front a.front a.text rest.0, b.within))) a.bad

one_line : (bytes : List ℕ) (n m : ℕ) → IsBadLine bytes n → IsBadLine bytes m → n ≡ m
one_line bytes n m a b = elim (cases_lt (length a.front) (length b.front)) [
  | inl before ↦ absurd (not_before bytes n m a b before)
  | inr other ↦ elim (cases_lt (length b.front) (length a.front)) [
    | inl before ↦ absurd (not_before bytes m n b a before)
    | inr also ↦ omega (arith, a.number, b.number, other, also)
  ]
]

pub one_bad : (bytes : List ℕ) (n m : ℕ) → IsBadAt bytes n → IsBadAt bytes m → n ≡ m
one_bad bytes n m a b = elim a [
  | inl x ↦ elim b [
    | inl y ↦ one_line bytes n m x y
    | inr y ↦ absurd (good_has_no_bad bytes y.parse n y.good y.small x)
  ]
  | inr x ↦ elim b [
    | inl y ↦ absurd (good_has_no_bad bytes x.parse m x.good x.small y)
    | inr y ↦ x.number ∙ sym y.number
  ]
]

-- ---- one line more

pub says-push : (texts : List (List ℕ)) (text : List ℕ) (said : List Statement) (s : Statement) → EachSays texts said → Says text s
    → EachSays (texts ++ (text ∷ [])) (said ++ (s ∷ []))
says-push [] text [] s all says = (says, tt)
says-push [] text (x ∷ xs) s all says = absurd all
says-push (t ∷ ts) text [] s all says = absurd all
says-push (t ∷ ts) text (x ∷ xs) s all says = (all.0, says-push ts text xs s all.1 says)

pub short-push : (texts : List (List ℕ)) (text : List ℕ) → AllByRecursion (λ text. length text ≤ line_limit) texts → length text ≤ line_limit
    → AllByRecursion (λ text. length text ≤ line_limit) (texts ++ (text ∷ []))
short-push [] text all le = (le, tt)
short-push (t ∷ ts) text all le = (all.0, short-push ts text all.1 le)

pub good-push : (texts : List (List ℕ)) (text : List ℕ) (p q : Parse) (s : Statement) → AreGood texts p → Says text s
    → length text ≤ line_limit → next (length texts + 1) p s ≡ Some q → AreGood (texts ++ (text ∷ [])) q
good-push texts text p q s good says le goes = record {
  statements = good.statements ++ (s ∷ []);
  says = says-push texts text good.statements s good.says says;
  short = short-push texts text good.short le;
  grouped = after-append 1 (length texts + 1) (Some start) good.statements (s ∷ []) (omega (arith, length_says texts good.statements good.says))
      ∙ ap (λ (o : Option Parse). parse_after (length texts + 1) o (s ∷ [])) good.grouped ∙ goes;
}

-- before the first line
pub good_none : AreGood [] start
good_none = record { statements = []; says = tt; short = tt; grouped = refl }
