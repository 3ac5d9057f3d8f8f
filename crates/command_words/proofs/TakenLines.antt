-- Words that the table takes spell a command line.
use Rattle.std.proofs.Common.{◌≡◌, ◌≢◌, ◌⊎◌, ◌==◌, inl, inr, ℕ, ◌<◌, ◌≤◌, ◌&&◌, ◌||◌, Bool, true, false, not, cond, List, [], ◌∷◌, length, get_or, drop, fold, ◌++◌, Option, Some, None, is_some, refl, sym, ap, subst, ◌∙◌, arith}
use Rattle.std.specs.Prelude.{find, codes, nat_lt, option_map, option_and_then, slice_get, unwrap_or, pos, IsSomeAnd}
use Rattle.std.specs.List.{AllByRecursion, list_any}
use Rattle.std.specs.Option.{option_map_or}
use Rattle.std.specs.Str.{bytes_eq}
use Rattle.std.specs.Str.Parse.{IsNumeral, digits_value, starts_with_minus, without_leading_plus}
use Rattle.std.proofs.lemmas.Slice.Eq.{bytes_eq-Decides}
use Rattle.std.proofs.lemmas.Int.{ints}
use Rattle.std.proofs.lemmas.Bool.{ne_eqb, eq-eqb, eqb-true, lt-ltb, cases_lt}
use Rattle.std.proofs.lemmas.Str.Parse.{digit_from_value}
use Rattle.clap.specs.Lexer.{long_of, short_of, without_minus}
use Rattle.clap.specs.Kinds.{Kinds, or_else, range_kinds, values_kinds, value_kinds, check_kinds}
use Rattle.clap.specs.Values.{Accepts, IsSignedIn, read_as, reading_of}
use Rattle.clap.specs.ValueTests.{accepts}
use Rattle.clap.specs.Facts.{explicit_source, unwrap_or_range, parser_of_value}
use Rattle.std.proofs.lemmas.List.Folds.{list_any-append}
use Rattle.clap.specs.declared.parser.matches.ValueSource.TheVariants.{DefaultValue}
use Rattle.clap.specs.Simple.{App, new_rule, Shape, built, built_leaf, entered, rows_at, label_of, names_of, subcommand_of}
use Rattle.clap.specs.Takes.{is_given}
use Rattle.clap.specs.Walk.{Text, Rule, Row, Held, Outcome, Step, Waiting, Walk, Names, done, waits, plain, refused, next, trailing, subcommand, value, idle, option, positional}
use Rattle.clap.specs.Walk.{reading_by, arg_by_long, arg_by_index, most_values, nothing_held, walk, walk_from, walked, walked_from, word_met, subcommand_met, subcommand_or_other, long_or_other, long_met, short_or_plain, bundle, plain_word, after_flag, after_step, to_positional}
use Rattle.clap.specs.Walk.{has_row, with_default, default_rows, is_empty, with_values, more_values, at_row, settled, finished, rows_after, first_of, all_of, one_of, row_text, answers_to}
use Rattle.clap.specs.Faults.{word_fault, other_fault, step_fault, walk_fault, settle_fault, defaults_fault, level_fault, entered_fault, check_fault}
use Rattle.clap.specs.declared.builder.value_parser.ValueParser.{ValueParser}
use Rattle.clap.specs.declared.builder.value_parser.ValueParser.TheVariants as vp
use Rattle.clap.specs.declared.builder.value_parser.Reading.{Reading}
use Rattle.clap.specs.declared.builder.range.ValueRange.{ValueRange}
use Rattle.clap.proofs.ValueTestLemmas.{accepts-Accepts}
use Rattle.clap.proofs.OnLiterals.{clap_on_literals}
use Rattle.command_words.specs.declared.command_line.CommandLine.{CommandLine}
use Rattle.command_words.specs.declared.command_line.CommandLine.TheVariants.{Mkfs, Step as StepLine, Dump, Fsck}
use Rattle.command_words.specs.CommandLine.{IsFileName, AreFileNames, IsInRange, HasText, HasTexts, HasNumber, Writes, SaysCommandLine, Spells, TableTakes, IsSaid, IsLineFound}
use Rattle.command_words.specs.Table.{table, mkfs, step, dump, fsck}
use Rattle.command_words.proofs.Walks.{Among, all_in, among_in, find_in, none_first, none_next, Fits, AreGood, IsKnown, AreKnown, walk_good, settle_good, defaults_good, put}
use Rattle.command_words.proofs.Taken.{spelled}

-- ---- values

tests_pass : (zero other : Bool) (a b : Kinds) → 0 < length a → 0 < length b → cond zero a (cond other [] b) ≡ [] → other ≡ true
tests_pass false true a b some more none = refl
tests_pass false false a [] some more none = absurd (omega (arith, more))
tests_pass false false a (k ∷ ks) some more none = absurd cc
tests_pass true other [] b some more none = absurd (omega (arith, some))
tests_pass true other (k ∷ ks) b some more none = absurd cc

one_long : (n : ℕ) → range_kinds 1 1 n ≡ [] → 1 ≡ n
one_long n none = eqb-true 1 n (tests_pass (n == 0) (1 == n) _ _ (omega arith) (omega arith) none)

-- one value, as for one it is asked
one_value : (vs ds : List Text) → length ds ≤ 1 → (range_kinds 1 1 (length vs) ≡ []) ⊎ ((vs ≡ ds) × (0 < length vs)) → (v : Text) × (vs ≡ v ∷ [])
one_value (v ∷ []) ds few many = (v, refl)
one_value [] ds few (inl many) = absurd (omega (arith, one_long 0 many))
one_value [] ds few (inr many) = absurd (omega (arith, many.1))
one_value (v ∷ w ∷ vs) ds few (inl many) = absurd (omega (arith, one_long (length (v ∷ w ∷ vs)) many))
one_value (v ∷ w ∷ vs) ds few (inr many) = absurd (omega (arith, few, ap (λ (l : List Text). length l) many.0))

accepted : (b : Bool) (k : Kinds) → 0 < length k → cond b [] k ≡ [] → b ≡ true
accepted true k some none = refl
accepted false [] some none = absurd (omega (arith, some))
accepted false (x ∷ k) some none = absurd cc

-- each value passed the parser
pub all_pass : (i : Bool) (p : ValueParser) (vs : List Text) → values_kinds i p vs ≡ [] → AllByRecursion (Accepts i p) vs
all_pass i p [] none = tt
all_pass i p (v ∷ vs) none = (
  accepts-Accepts i p v (accepted (accepts i p v) _ (omega arith) (none_first (value_kinds i p v) (values_kinds i p vs) none)),
  all_pass i p vs (none_next (value_kinds i p v) (values_kinds i p vs) none),
)

without_minus-cond : (t : Text) → without_minus t ≡ cond (starts_with_minus t) (drop 1 t) t
without_minus-cond [] = refl
without_minus-cond (x ∷ xs) = by (x == 45)
  where
    by : (b : Bool) → unwrap_or (cond b (Some xs) None) (x ∷ xs) ≡ cond b xs (x ∷ xs)
    by true = refl
    by false = refl

no_plus : (ds : Text) → IsNumeral 10 ds → without_leading_plus ds ≡ ds
no_plus [] h = refl
no_plus (d ∷ ds) h =
    let plus : (d == 43) ≡ false = ne_eqb _ _ (λ e. omega (arith, digit_from_value d h.1.0)) in
    ap (λ (b : Bool). drop (cond b 1 0) (d ∷ ds)) plus

-- a text that is a number of a range, as it is read
in_range : (t : Text) (low high : ℕ) → IsSignedIn (pos low) (pos high) t → (n : ℕ) × (low ≤ n) × (n ≤ high) × Writes n (without_minus t)
in_range t low high passed = subst (λ (u : Text). (n : ℕ) × (low ≤ n) × (n ≤ high) × Writes n u) (sym (without_minus-cond t)) (by (starts_with_minus t) refl)
  where
    by : (b : Bool) → starts_with_minus t ≡ b → (n : ℕ) × (low ≤ n) × (n ≤ high) × Writes n (cond (starts_with_minus t) (drop 1 t) t)
    by true minus =
        let low_ok = rw minus at passed.2 in
        let high_ok = rw minus at passed.3 in
        let numeral : IsNumeral 10 (drop 1 t) = rw minus at passed.0 in
        let same : without_leading_plus (drop 1 t) ≡ drop 1 t = no_plus (drop 1 t) numeral in
        rw minus (digits_value 10 (drop 1 t), omega (arith, ints), omega (arith, ints), (rw same numeral, ap (digits_value 10) same))
    by false minus =
        let low_ok = rw minus at passed.2 in
        let high_ok = rw minus at passed.3 in
        let numeral : IsNumeral 10 (without_leading_plus t) = rw minus at passed.0 in
        rw minus (digits_value 10 (without_leading_plus t), omega (arith, ints), omega (arith, ints), (numeral, refl))

-- ---- rows of arguments

-- the argument has a row, with values that it takes
pub record HasRow (rows : List Row) (a : Rule) : Type 0 where
  pub row : Row
  pub found : find (λ r. bytes_eq r.id a.id) rows ≡ Some row
  pub fits : Fits a row

-- of these arguments none other has this one's id
abbrev pub IsAlone : Rule → List Rule → Type 0
IsAlone a c = AllByRecursion (λ x. (bytes_eq a.id x.id ≡ false) ⊎ (x ≡ a)) c

fits_this : (a : Rule) (r : Row) (c : List Rule) → IsAlone a c → r.id ≡ a.id → Among (λ x. Fits x r) c → Fits a r
fits_this a r [] alone is among = absurd among
fits_this a r (x ∷ c) alone is (inr among) = fits_this a r c alone.1 is among
fits_this a r (x ∷ c) alone is (inl fits) = elim alone.0 [
  | inr same ↦ subst (λ (y : Rule). Fits y r) same fits
  | inl other ↦ absurd (let equal = (bytes_eq-Decides a.id x.id).1 (sym is ∙ fits.id) in cc)
]

found_row : (c : List Rule) (a : Rule) (rows : List Row) (r : Row) → IsAlone a c → AreGood c rows → find (λ r. bytes_eq r.id a.id) rows ≡ Some r → HasRow rows a
found_row c a rows r alone good is =
    let here = find_in (λ (x : Row). bytes_eq x.id a.id) rows r is in
    record { row = r; found = is; fits = fits_this a r c alone ((bytes_eq-Decides r.id a.id).0 here.1) (all_in (λ (x : Row). Among (λ y. Fits y x) c) rows r good here.0) }

-- a required argument has one
given_row : (c : List Rule) (a : Rule) (rows : List Row) → IsAlone a c → AreGood c rows → is_given a.id rows ≡ true → HasRow rows a
given_row c a rows alone good given = by (find (λ r. bytes_eq r.id a.id) rows) refl given
  where
    by : (o : Option Row) → find (λ r. bytes_eq r.id a.id) rows ≡ o → option_map_or (λ r. explicit_source r.source) o false ≡ true → HasRow rows a
    by None is given = absurd cc
    by (Some r) is given = found_row c a rows r alone good is

first_found : (id : Text) (rows : List Row) → has_row id rows ≡ true → (r : Row) × (find (λ r. bytes_eq r.id id) rows ≡ Some r)
first_found id [] there = absurd cc
first_found id (x ∷ rows) there = here_or_later (bytes_eq x.id id) id x rows (first_found id rows) there
  where
    here_or_later : (b : Bool) (id : Text) (x : Row) (rows : List Row) → (has_row id rows ≡ true → (r : Row) × (find (λ r. bytes_eq r.id id) rows ≡ Some r))
        → (b || has_row id rows) ≡ true → (r : Row) × (cond b (Some x) (find (λ r. bytes_eq r.id id) rows) ≡ Some r)
    here_or_later true id x rows later there = (x, refl)
    here_or_later false id x rows later there = later there

-- so has one with a row
row_there : (c : List Rule) (a : Rule) (rows : List Row) → IsAlone a c → AreGood c rows → has_row a.id rows ≡ true → HasRow rows a
row_there c a rows alone good there =
    let here = first_found a.id rows there in found_row c a rows here.0 alone good here.1

-- ---- rows by default

has_row_more : (id : Text) (rows : List Row) (r : Row) → has_row id (rows ++ r ∷ []) ≡ (has_row id rows || has_row id (r ∷ []))
has_row_more id rows r = list_any-append (λ x. bytes_eq x.id id) rows (r ∷ [])

or_either : (a b : Bool) → (a ≡ true) ⊎ (b ≡ true) → (a || b) ≡ true
or_either true b is = refl
or_either false b (inl is) = absurd cc
or_either false b (inr is) = is

itself : (id : Text) (r : Row) → r.id ≡ id → has_row id (r ∷ []) ≡ true
itself id r is = or_either (bytes_eq r.id id) false (inl ((bytes_eq-Decides r.id id).1 is))

kept_by : (id : Text) (a : Rule) (rows : List Row) (values : List Text) → has_row a.id rows ≡ false → has_row id rows ≡ true
    → has_row id (default_rows a.id (reading_by a) values rows) ≡ true
kept_by id a rows [] new has = has
kept_by id a rows (v ∷ vs) new has =
    ap (has_row id) (put a DefaultValue (v ∷ vs) rows new) ∙ has_row_more id rows _ ∙ or_either _ _ (inl has)

keeps_row : (id : Text) (a : Rule) (rows : List Row) → has_row id rows ≡ true → has_row id (with_default rows a) ≡ true
keeps_row id a rows has = by (has_row a.id rows) refl
  where
    by : (b : Bool) → has_row a.id rows ≡ b → has_row id (cond b rows (default_rows a.id (reading_by a) a.defaults rows)) ≡ true
    by true is = has
    by false is = kept_by id a rows a.defaults is has

puts_values : (a : Rule) (rows : List Row) (values : List Text) → 0 < length values → has_row a.id rows ≡ false
    → has_row a.id (default_rows a.id (reading_by a) values rows) ≡ true
puts_values a rows [] some is = absurd (omega (arith, some))
puts_values a rows (v ∷ vs) some is =
    let row : Row = record { id = a.id; values = v ∷ vs; count = None; source = Some DefaultValue; reading = reading_by a } in
    ap (has_row a.id) (put a DefaultValue (v ∷ vs) rows is) ∙ has_row_more a.id rows row ∙ or_either _ _ (inr (itself a.id row refl))

puts_row : (a : Rule) (rows : List Row) → 0 < length a.defaults → has_row a.id (with_default rows a) ≡ true
puts_row a rows some = by (has_row a.id rows) refl
  where
    by : (b : Bool) → has_row a.id rows ≡ b → has_row a.id (cond b rows (default_rows a.id (reading_by a) a.defaults rows)) ≡ true
    by true is = is
    by false is = puts_values a rows a.defaults some is

keep_rows : (id : Text) (some : List Rule) (rows : List Row) → has_row id rows ≡ true → has_row id (fold with_default rows some) ≡ true
keep_rows id [] rows has = has
keep_rows id (a ∷ some) rows has = keep_rows id some (with_default rows a) (keeps_row id a rows has)

put_rows : (a : Rule) (some : List Rule) (rows : List Row) → 0 < length a.defaults → Among (λ x. x ≡ a) some → has_row a.id (fold with_default rows some) ≡ true
put_rows a [] rows values is = absurd is
put_rows a (x ∷ some) rows values (inl same) =
    keep_rows a.id some (with_default rows x) (subst (λ (y : Rule). has_row a.id (with_default rows y) ≡ true) (sym same) (puts_row a rows values))
put_rows a (x ∷ some) rows values (inr is) = put_rows a some (with_default rows x) values is

-- ---- one level of a parse

-- what a level leaves that finds no fault
record IsLevel (c : List Rule) (rows : List Row) : Type 0 where
  good : AreGood c rows
  required : (a : Rule) → Among (λ x. x ≡ a) c → a.required ≡ true → is_given a.id rows ≡ true
  by_default : (a : Rule) → Among (λ x. x ≡ a) c → 0 < length a.defaults → has_row a.id rows ≡ true

both_false : (a b : Bool) → (a || b) ≡ false → (a ≡ false) × (b ≡ false)
both_false true b none = absurd cc
both_false false b none = (refl, none)

nothing_missing : (rows : List Row) (c : List Rule) → list_any (λ a. a.required && not (is_given a.id rows)) c ≡ false
    → (a : Rule) → Among (λ x. x ≡ a) c → a.required ≡ true → is_given a.id rows ≡ true
nothing_missing rows [] none a is required = absurd is
nothing_missing rows (x ∷ c) none a (inr is) required = nothing_missing rows c (both_false (x.required && not (is_given x.id rows)) (list_any (λ a. a.required && not (is_given a.id rows)) c) none).1 a is required
nothing_missing rows (x ∷ c) none a (inl same) required =
    given x.required (is_given x.id rows) a (both_false (x.required && not (is_given x.id rows)) (list_any (λ a. a.required && not (is_given a.id rows)) c) none).0
    (ap (λ (y : Rule). y.required) same ∙ required) (ap (λ (y : Rule). is_given y.id rows) same)
  where
    given : (r g : Bool) (a : Rule) → (r && not g) ≡ false → r ≡ true → g ≡ is_given a.id rows → is_given a.id rows ≡ true
    given true true a none is same = sym same
    given true false a none is same = absurd cc
    given false g a none is same = absurd cc

check_given : (x y z : Bool) → check_kinds x y z ≡ [] → z ≡ false
check_given true y z none = absurd cc
check_given false true z none = absurd cc
check_given false false true none = absurd cc
check_given false false false none = refl

all_of_them : (c some : List Rule) → ((a : Rule) → Among (λ x. x ≡ a) some → Among (λ x. x ≡ a) c) → AllByRecursion (λ a. Among (λ x. x ≡ a) c) some
all_of_them c [] are = tt
all_of_them c (a ∷ some) are = (are a (inl refl), all_of_them c some (λ x is. are x (inr is)))

level_is : (s : Shape) (words : List Text) → AreKnown s.rules → s.args_override_self ≡ false → s.subcommand_negates_reqs ≡ false
    → level_fault s [] nothing_held words false [] ≡ [] → IsLevel s.rules (rows_after s.rules [] words)
level_is s words known once requires none =
    let end : Held = (walk s.rules [] nothing_held words).held in
    let walks = none_first (walk_fault s [] (walk_from nothing_held) words) (or_else (settle_fault s.rules s.args_override_self end) (or_else (defaults_fault (settled s.rules end).rows s.rules) (check_fault s (finished s.rules end) false))) none in
    let later = none_next (walk_fault s [] (walk_from nothing_held) words) (or_else (settle_fault s.rules s.args_override_self end) (or_else (defaults_fault (settled s.rules end).rows s.rules) (check_fault s (finished s.rules end) false))) none in
    let settles = none_first (settle_fault s.rules s.args_override_self end) (or_else (defaults_fault (settled s.rules end).rows s.rules) (check_fault s (finished s.rules end) false)) later in
    let ends = none_next (settle_fault s.rules s.args_override_self end) (or_else (defaults_fault (settled s.rules end).rows s.rules) (check_fault s (finished s.rules end) false)) later in
    let defaults = none_first (defaults_fault (settled s.rules end).rows s.rules) (check_fault s (finished s.rules end) false) ends in
    let checks = none_next (defaults_fault (settled s.rules end).rows s.rules) (check_fault s (finished s.rules end) false) ends in
    let walked_rows = walk_good s known once [] words (walk_from nothing_held) walks tt in
    let settled_rows = settle_good s.rules known end (subst (λ (again : Bool). settle_fault s.rules again end ≡ []) once settles) walked_rows in
    let missing = check_given _ _ _ checks in
    record {
      good = defaults_good s.rules known s.rules (settled s.rules end).rows (all_of_them s.rules s.rules (λ a is. is)) defaults settled_rows;
      required = nothing_missing (finished s.rules end) s.rules
          (subst (λ (b : Bool). (not (b && false) && list_any (λ a. a.required && not (is_given a.id (finished s.rules end))) s.rules) ≡ false) requires missing);
      by_default = λ a is some. put_rows a s.rules (settled s.rules end).rows some is;
    }

required_row : (c : List Rule) (rows : List Row) (a : Rule) → IsLevel c rows → IsAlone a c → Among (λ x. x ≡ a) c → a.required ≡ true → HasRow rows a
required_row c rows a level alone is required = given_row c a rows alone level.good (level.required a is required)

default_row : (c : List Rule) (rows : List Row) (a : Rule) → IsLevel c rows → IsAlone a c → Among (λ x. x ≡ a) c → 0 < length a.defaults → HasRow rows a
default_row c rows a level alone is some = row_there c a rows alone level.good (level.by_default a is some)

-- ---- what a row says

-- the argument's one value is a text that isn't empty
name_of : (a : Rule) (rows : List Row) → a.parser ≡ Some vp.NonEmptyString → unwrap_or_range a.range ≡ record { start_inclusive = 1; end_inclusive = 1 } → length a.defaults ≤ 1
    → HasRow rows a → (t : Text) × HasText a.id rows t × IsFileName t
name_of a rows parser range few has =
    let many = subst (λ (x : ValueRange). (range_kinds x.start_inclusive x.end_inclusive (length has.row.values) ≡ []) ⊎ ((has.row.values ≡ a.defaults) × (0 < length has.row.values))) range has.fits.many in
    let one = one_value has.row.values a.defaults few many in
    let passed = all_pass a.ignore_case (parser_of_value a.parser) has.row.values has.fits.passes in
    let named : AllByRecursion IsFileName (one.0 ∷ []) =
    subst (λ (p : Option ValueParser). AllByRecursion (Accepts a.ignore_case (parser_of_value p)) (one.0 ∷ [])) parser
    (subst (AllByRecursion (Accepts a.ignore_case (parser_of_value a.parser))) one.1 passed) in
    (one.0, ap (option_and_then (λ (r : Row). slice_get r.values 0)) has.found ∙ ap (λ (vs : List Text). slice_get vs 0) one.1, named.0)

-- its one value is a number of a range
number_at : (a : Rule) (rows : List Row) (low high : ℕ) → a.parser ≡ Some (vp.Signed (pos low) (pos high))
    → unwrap_or_range a.range ≡ record { start_inclusive = 1; end_inclusive = 1 } → length a.defaults ≤ 1
    → HasRow rows a → (n : ℕ) × (low ≤ n) × (n ≤ high) × HasNumber a.id rows n
number_at a rows low high parser range few has =
    let many = subst (λ (x : ValueRange). (range_kinds x.start_inclusive x.end_inclusive (length has.row.values) ≡ []) ⊎ ((has.row.values ≡ a.defaults) × (0 < length has.row.values))) range has.fits.many in
    let one = one_value has.row.values a.defaults few many in
    let passed = all_pass a.ignore_case (parser_of_value a.parser) has.row.values has.fits.passes in
    let number : AllByRecursion (IsSignedIn (pos low) (pos high)) (one.0 ∷ []) =
    subst (λ (p : Option ValueParser). AllByRecursion (Accepts a.ignore_case (parser_of_value p)) (one.0 ∷ [])) parser
    (subst (AllByRecursion (Accepts a.ignore_case (parser_of_value a.parser))) one.1 passed) in
    let read = in_range one.0 low high number.0 in
    let how : has.row.reading ≡ reading_of (vp.Signed (pos low) (pos high)) = has.fits.reading ∙ ap (λ (p : Option ValueParser). reading_of (parser_of_value p)) parser in
    let text : one_of a.id rows ≡ Some (without_minus one.0) =
    ap (option_and_then row_text) has.found ∙ ap (λ (vs : List Text). option_map (read_as has.row.reading) (slice_get vs 0)) one.1
    ∙ ap (λ (x : Reading). Some (read_as x one.0)) how in
    (read.0, read.1, read.2, subst (λ (o : Option Text). IsSomeAnd o (Writes read.0)) (sym text) read.3)

limits_pass : (zero less more : Bool) (a b c : Kinds) → 0 < length a → 0 < length b → 0 < length c → cond zero a (cond less b (cond more c [])) ≡ [] → (zero ≡ false) × (more ≡ false)
limits_pass false false false a b c x y z none = (refl, refl)
limits_pass true less more [] b c x y z none = absurd (omega (arith, x))
limits_pass true less more (k ∷ ks) b c x y z none = absurd cc
limits_pass false true more a [] c x y z none = absurd (omega (arith, y))
limits_pass false true more a (k ∷ ks) c x y z none = absurd cc
limits_pass false false true a b [] x y z none = absurd (omega (arith, z))
limits_pass false false true a b (k ∷ ks) x y z none = absurd cc

in_limits : (n : ℕ) → range_kinds 1 64 n ≡ [] → (1 ≤ n) × (n ≤ 64)
in_limits n none =
    let tests = limits_pass (n == 0) (nat_lt n 1) (nat_lt 64 n) _ _ _ (omega arith) (omega arith) (omega arith) none in
    let some : n ≢ 0 = λ is. let zero = eq-eqb n 0 is in cc in
    (omega arith, at_most (cases_lt 64 n) tests.1)
  where
    at_most : ((64 < n) ⊎ (n ≤ 64)) → nat_lt 64 n ≡ false → n ≤ 64
    at_most (inr most) no_more = most
    at_most (inl more) no_more = absurd (let is = lt-ltb 64 n more in cc)

-- its values are 1 to 64 texts, none of them empty
pub names_of_files : (a : Rule) (rows : List Row) → a.parser ≡ Some vp.NonEmptyString → unwrap_or_range a.range ≡ record { start_inclusive = 1; end_inclusive = 64 } → a.defaults ≡ []
    → HasRow rows a → (ts : List Text) × HasTexts a.id rows ts × AreFileNames ts
names_of_files a rows parser range none has =
    let passed = all_pass a.ignore_case (parser_of_value a.parser) has.row.values has.fits.passes in
    let named : AllByRecursion IsFileName has.row.values =
    subst (λ (p : Option ValueParser). AllByRecursion (Accepts a.ignore_case (parser_of_value p)) has.row.values) parser passed in
    let many = subst (λ (x : ValueRange). (range_kinds x.start_inclusive x.end_inclusive (length has.row.values) ≡ []) ⊎ ((has.row.values ≡ a.defaults) × (0 < length has.row.values))) range has.fits.many in
    let few : (1 ≤ length has.row.values) × (length has.row.values ≤ 64) = elim many [
      | inl within ↦ in_limits (length has.row.values) within
      | inr defaults ↦ absurd (omega (arith, defaults.1, ap (λ (l : List Text). length l) (defaults.0 ∙ none)))
    ] in
    (has.row.values, ap (option_map (λ (r : Row). r.values)) has.found, (few.0, few.1, named))

-- ---- the four commands

-- the arguments of a command, with that of its help
abbrev rules_of : App → List Rule
rules_of app = (built_leaf app.top).rules

abbrev argument : App → ℕ → Rule
argument app i = get_or (rules_of app) i (new_rule [])

abbrev IsTakenBy : App → List Text → Type 0
IsTakenBy app words = level_fault (built_leaf app.top) [] nothing_held words false [] ≡ []

abbrev HasLine : App → List Text → Type 0
HasLine app words = (line : CommandLine) × IsSaid app.top.name (rows_after (rules_of app) [] words) line

mkfs_line : (words : List Text) → IsTakenBy mkfs words → HasLine mkfs words
mkfs_line words none =
    let rows : List Row = rows_after (rules_of mkfs) [] words in
    let level : IsLevel (rules_of mkfs) rows = level_is (built_leaf mkfs.top) words (inl (refl, refl), (inl (refl, refl), (inl (refl, refl), (inl (refl, refl), (inr refl, tt))))) refl refl none in
    let dev = name_of (argument mkfs 0) rows refl refl (omega arith) (required_row (rules_of mkfs) rows (argument mkfs 0) level (inr refl, (inl refl, (inl refl, (inl refl, (inl refl, tt))))) (inl refl) refl) in
    let half = number_at (argument mkfs 1) rows 8 65536 refl refl (omega arith) (required_row (rules_of mkfs) rows (argument mkfs 1) level (inl refl, (inr refl, (inl refl, (inl refl, (inl refl, tt))))) (inr (inl refl)) refl) in
    let units = number_at (argument mkfs 2) rows 1 1048576 refl refl (omega arith) (required_row (rules_of mkfs) rows (argument mkfs 2) level (inl refl, (inl refl, (inr refl, (inl refl, (inl refl, tt))))) (inr (inr (inl refl))) refl) in
    let prefer = number_at (argument mkfs 3) rows 0 1048576 refl refl (omega arith) (default_row (rules_of mkfs) rows (argument mkfs 3) level (inl refl, (inl refl, (inl refl, (inr refl, (inl refl, tt))))) (inr (inr (inr (inl refl)))) (omega arith)) in
    (Mkfs dev.0 half.0 units.0 prefer.0, ((dev.2, (half.1, half.2), (units.1, units.2), prefer.2), (refl, dev.1, half.3, units.3, prefer.3)))

step_line : (words : List Text) → IsTakenBy step words → HasLine step words
step_line words none =
    let rows : List Row = rows_after (rules_of step) [] words in
    let level : IsLevel (rules_of step) rows = level_is (built_leaf step.top) words (inl (refl, refl), (inl (refl, refl), (inl (refl, refl), (inr refl, tt)))) refl refl none in
    let dev = name_of (argument step 0) rows refl refl (omega arith) (required_row (rules_of step) rows (argument step 0) level (inr refl, (inl refl, (inl refl, (inl refl, tt)))) (inl refl) refl) in
    let seed = number_at (argument step 1) rows 0 4294967295 refl refl (omega arith) (required_row (rules_of step) rows (argument step 1) level (inl refl, (inr refl, (inl refl, (inl refl, tt)))) (inr (inl refl)) refl) in
    let scripts = names_of_files (argument step 2) rows refl refl refl (required_row (rules_of step) rows (argument step 2) level (inl refl, (inl refl, (inr refl, (inl refl, tt)))) (inr (inr (inl refl))) refl) in
    (StepLine dev.0 seed.0 scripts.0, ((dev.2, omega (arith, seed.2), scripts.2), (refl, dev.1, seed.3, scripts.1)))

dump_line : (words : List Text) → IsTakenBy dump words → HasLine dump words
dump_line words none =
    let rows : List Row = rows_after (rules_of dump) [] words in
    let level : IsLevel (rules_of dump) rows = level_is (built_leaf dump.top) words (inl (refl, refl), (inr refl, tt)) refl refl none in
    let dev = name_of (argument dump 0) rows refl refl (omega arith) (required_row (rules_of dump) rows (argument dump 0) level (inr refl, (inl refl, tt)) (inl refl) refl) in
    (Dump dev.0, (dev.2, (refl, dev.1)))

fsck_line : (words : List Text) → IsTakenBy fsck words → HasLine fsck words
fsck_line words none =
    let rows : List Row = rows_after (rules_of fsck) [] words in
    let level : IsLevel (rules_of fsck) rows = level_is (built_leaf fsck.top) words (inl (refl, refl), (inr refl, tt)) refl refl none in
    let dev = name_of (argument fsck 0) rows refl refl (omega arith) (required_row (rules_of fsck) rows (argument fsck 0) level (inr refl, (inl refl, tt)) (inl refl) refl) in
    (Fsck dev.0, (dev.2, (refl, dev.1)))

-- ---- the command that a parse enters

-- a step enters no `help`
abbrev NoHelp : Step → Type 0
NoHelp (subcommand name) = bytes_eq name (codes "help") ≡ false
NoHelp _ = Unit {0}

plain_enters : (c : List Rule) (waiting : Waiting) (word : Text) (h : Held) → NoHelp (plain_word c waiting word h).1
plain_enters c idle word h = tt
plain_enters c positional word h = tt
plain_enters c (option id) word h = tt

flag_enters : (c : List Rule) (waiting : Waiting) (word : Text) (h : Held) (o : Outcome) → NoHelp (after_flag c waiting word h o).1
flag_enters c waiting word h done = tt
flag_enters c waiting word h (waits id) = tt
flag_enters c waiting word h plain = plain_enters c waiting word h
flag_enters c waiting word h refused = plain_enters c waiting word h

short_enters : (c : List Rule) (waiting : Waiting) (word : Text) (o : Option Text) (h : Held) → NoHelp (short_or_plain c waiting word o h).1
short_enters c waiting word None h = plain_enters c waiting word h
short_enters c waiting word (Some flags) h = flag_enters c waiting word (bundle c flags h).0 (bundle c flags h).1

long_enters : (c : List Rule) (waiting : Waiting) (word : Text) (o : Option (Text × Option Text)) (h : Held) → NoHelp (long_or_other c waiting word o h).1
long_enters c waiting word (Some p) h = flag_enters c waiting word (long_met c (arg_by_long c p.0) p.1 h).0 (long_met c (arg_by_long c p.0) p.1 h).1
long_enters c waiting word None h = short_enters c waiting word (short_of word) h

no_help : (b d : Bool) (ks : Kinds) → 0 < length ks → d ≡ false → cond (b && not d) ks [] ≡ [] → b ≡ false
no_help false d ks some off none = refl
no_help true true ks some off none = absurd cc
no_help true false [] some off none = absurd (omega (arith, some))
no_help true false (k ∷ ks) some off none = absurd cc

module _ (s : Shape) (helps : s.disable_help_subcommand ≡ false) where
  dashes_enter : (b : Bool) (waiting : Waiting) (position : ℕ) (word : Text) (h : Held) → NoHelp (cond b (h, trailing position) (long_or_other s.rules waiting word (long_of word) h)).1
  dashes_enter true waiting position word h = tt
  dashes_enter false waiting position word h = long_enters s.rules waiting word (long_of word) h

  other_enters : (o : Option Text) (waiting : Waiting) (position : ℕ) (word : Text) (h : Held) → other_fault s o word h ≡ [] → NoHelp (subcommand_or_other s.rules o waiting position word h).1
  other_enters (Some name) waiting position word h none = no_help (bytes_eq name (codes "help")) s.disable_help_subcommand _ (omega arith) helps none
  other_enters None waiting position word h none = dashes_enter (bytes_eq word (45 ∷ 45 ∷ [])) waiting position word h

  word_enters : (names : Names) (b : Bool) (waiting : Waiting) (position : ℕ) (word : Text) (h : Held) → word_fault s names b waiting word h ≡ []
      → NoHelp (word_met s.rules names b waiting position word h).1
  word_enters names true waiting position word h none = tt
  word_enters names false waiting position word h none = other_enters (subcommand_met names waiting word) waiting position word h none

  -- a walk stops at no `help`
  abbrev StopsWell : Option (Text × List Text) → Type 0
  StopsWell None = Unit {0}
  StopsWell (Some p) = bytes_eq p.0 (codes "help") ≡ false

  positional_stops : (o : Option Rule) (word : Text) (w : Walk) (h : Held) → StopsWell w.stopped → StopsWell (to_positional s.rules o word w h).stopped
  positional_stops None word w h well = well
  positional_stops (Some a) word w h well = tt

  step_stops : (word : Text) (w : Walk) (h : Held) (st : Step) → NoHelp st → StopsWell w.stopped → StopsWell (after_step s.rules word w h st).stopped
  step_stops word w h (next waiting) enters well = well
  step_stops word w h (trailing position) enters well = well
  step_stops word w h (subcommand name) enters well = enters
  step_stops word w h value enters well = positional_stops (arg_by_index s.rules w.position) word w h well

  module _ (names : Names) where
    turn_stops : (o : Option (Text × List Text)) (w : Walk) (word : Text)
        → cond (is_some o) [] (or_else (word_fault s names w.is_trailing w.waiting word w.held)
        (step_fault s w.position (word_met s.rules names w.is_trailing w.waiting w.position word w.held).0 (word_met s.rules names w.is_trailing w.waiting w.position word w.held).1)) ≡ []
        → StopsWell o → StopsWell w.stopped → StopsWell (walked_from s.rules names o w word).stopped
    turn_stops (Some p) w word none stops well = stops
    turn_stops None w word none stops well =
        step_stops word w (word_met s.rules names w.is_trailing w.waiting w.position word w.held).0 (word_met s.rules names w.is_trailing w.waiting w.position word w.held).1
        (word_enters names w.is_trailing w.waiting w.position word w.held (none_first _ _ none)) well

    walk_stops : (words : List Text) (w : Walk) → walk_fault s names w words ≡ [] → StopsWell w.stopped → StopsWell (fold (walked s.rules names) w words).stopped
    unfolding walk_fault walked
    walk_stops [] w none well = well
    walk_stops (word ∷ words) w none well =
        walk_stops words (walked_from s.rules names w.stopped w word) (none_next _ _ none) (turn_stops w.stopped w word (none_first _ _ none) well well)

-- ---- all words

abbrev app : App
app = built table

enters : (x b z : Bool) → check_kinds x (not b && true) z ≡ [] → b ≡ true
enters x true z none = refl
enters true false z none = absurd cc
enters false false z none = absurd cc

must_enter : (rows : List Row) (b : Bool) → check_fault app.top rows b ≡ [] → b ≡ true
must_enter rows b none =
    enters (not b && (app.top.arg_required_else_help && not (list_any (λ r. explicit_source r.source) rows))) b
    (not (app.top.subcommand_negates_reqs && b) && list_any (λ a. a.required && not (is_given a.id rows)) app.top.rules) none

-- a command that finds no fault in its words says a line
abbrev SaysLine : List Text → Shape → Type 0
SaysLine words s = level_fault s [] nothing_held words false [] ≡ [] → (line : CommandLine) × IsSaid s.name (rows_after s.rules [] words) line

either_true : (b : Bool) → (b || false) ≡ true → b ≡ true
either_true true is = refl
either_true false is = is

-- one of the four commands was entered
said_by : (p : Text × List Text) (o : Option Shape) → find (λ s. answers_to p.0 (label_of s)) app.subs ≡ o → is_some (option_map (λ s. rows_at s p.1) o) ≡ true
    → option_map_or (λ s. level_fault s [] nothing_held p.1 false []) o [] ≡ [] → bytes_eq p.0 (codes "help") ≡ false
    → (line : CommandLine) × IsLineFound (option_map (λ s. rows_at s p.1) o) line
said_by p None is entered none well = absurd cc
said_by p (Some s) is entered none well =
    let here = find_in (λ (s : Shape). answers_to p.0 (label_of s)) app.subs s is in
    elim here.0 [
      | inl same ↦ subst (SaysLine p.1) same (mkfs_line p.1) none
      | inr (inl same) ↦ subst (SaysLine p.1) same (step_line p.1) none
      | inr (inr (inl same)) ↦ subst (SaysLine p.1) same (dump_line p.1) none
      | inr (inr (inr (inl same))) ↦ subst (SaysLine p.1) same (fsck_line p.1) none
      | inr (inr (inr (inr (inl same)))) ↦ absurd (
          let named : bytes_eq (codes "help") p.0 ≡ true = either_true _ (subst (λ (x : Shape). answers_to p.0 (label_of x) ≡ true) (sym same) here.1) in
          let is_help = (bytes_eq-Decides p.0 (codes "help")).1 (sym ((bytes_eq-Decides (codes "help") p.0).0 named)) in cc)
      | inr (inr (inr (inr (inr never)))) ↦ absurd never
    ]

found_by : (o : Option (Text × List Text)) → is_some (entered app o) ≡ true → entered_fault app o ≡ [] → StopsWell app.top refl o
    → (line : CommandLine) × IsLineFound (entered app o) line
found_by None is none well = absurd cc
found_by (Some p) is none well = said_by p (find (λ s. answers_to p.0 (label_of s)) app.subs) refl is none well

pub taken_spells : (words : List Text) → TableTakes words → (line : CommandLine) × Spells words line
taken_spells words taken =
    let args : List Text = drop 1 words in
    let end : Walk = walk app.top.rules (names_of app) nothing_held args in
    let below = entered_fault app end.stopped in
    let rest = or_else (settle_fault app.top.rules app.top.args_override_self end.held) (or_else (defaults_fault (settled app.top.rules end.held).rows app.top.rules)
    (check_fault app.top (finished app.top.rules end.held) (is_some (entered app end.stopped)))) in
    let walks = none_first (walk_fault app.top (names_of app) (walk_from nothing_held) args) (or_else below rest) taken in
    let later = none_next (walk_fault app.top (names_of app) (walk_from nothing_held) args) (or_else below rest) taken in
    let checks = none_next (defaults_fault (settled app.top.rules end.held).rows app.top.rules)
    (check_fault app.top (finished app.top.rules end.held) (is_some (entered app end.stopped)))
    (none_next (settle_fault app.top.rules app.top.args_override_self end.held) _ (none_next below rest later)) in
    let said = found_by end.stopped (must_enter (finished app.top.rules end.held) (is_some (entered app end.stopped)) checks) (none_first below rest later)
    (walk_stops app.top refl (names_of app) args (walk_from nothing_held) walks tt) in
    (said.0, spelled words (entered app end.stopped) said.0 taken refl said.1)
