-- A command line that is spelled in the order of the table is one, and says what it spells.
use Rattle.std.proofs.Common.{◌≡◌, ◌≢◌, ◌⊎◌, inl, inr, ℕ, ◌+◌, ◌<◌, ◌≤◌, ◌^◌, ◌==◌, ◌&&◌, ◌||◌, Bool, true, false, not, cond, List, [], ◌∷◌, ◌++◌, length, get_or, drop, fold, Option, Some, None, is_some, refl, sym, ap, subst, ◌∙◌, arith, append_assoc, append-nil}
use Rattle.std.specs.Prelude.{codes, decimal, nat_lt, find, pos, slice_index, unwrap_or, option_map, option_and_then, IsSomeAnd}
use Rattle.std.specs.List.{AllByRecursion}
use Rattle.std.specs.Option.{option_map_or}
use Rattle.std.specs.Str.{bytes_eq}
use Rattle.std.specs.Str.Parse.{IsNumeral, digits_value, starts_with_minus, without_leading_plus, without_leading_sign}
use Rattle.std.proofs.lemmas.Int.{ints}
use Rattle.std.proofs.lemmas.Bool.{ne_eqb, ltb-true, cases_Bool}
use Rattle.std.proofs.lemmas.Fmt.{decimal_is_IsNumeral}
use Rattle.std.proofs.lemmas.Slice.Eq.{bytes_eq-Decides}
use Rattle.std.proofs.lemmas.Str.Parse.{digit_from_value}
use Rattle.clap.specs.Lexer.{long_of, short_of, short_of_rest, long_of_rest, strip_byte, without_minus}
use Rattle.clap.specs.Kinds.{Kinds, or_else, range_kinds, value_kinds, values_kinds}
use Rattle.clap.specs.Values.{Accepts, IsSignedIn}
use Rattle.clap.specs.Simple.{App, Shape, built, built_leaf, names_of, label_of, entered, rows_at}
use Rattle.clap.specs.Walk.{Text, Rule, Row, Held, Step, Waiting, Walk, Names, idle, option, positional, value, trailing, plain_word, after_step, walked_from, long_or_other, short_or_plain, word_met, walked, walk_from, nothing_held, rows_after, settled, finished, walk, answers_to}
use Rattle.clap.specs.Faults.{word_fault, flag_word_fault, bundle_fault, step_fault, turn_fault, walk_fault, level_fault, settle_fault, defaults_fault, check_fault, entered_fault}
use Rattle.clap.proofs.WalkLemmas.{walk_stopped}
use Rattle.clap.proofs.FaultLemmas.{stopped_fault}
use Rattle.clap.proofs.KindLemmas.{value_kinds-ok}
use Rattle.clap.proofs.OnLiterals.{clap_on_literals}
use Rattle.clap.specs.declared.builder.value_parser.ValueParser.{ValueParser}
use Rattle.clap.specs.declared.builder.value_parser.ValueParser.TheVariants as vp
use Rattle.command_words.specs.declared.command_line.CommandLine.{CommandLine}
use Rattle.command_words.specs.declared.command_line.CommandLine.TheVariants.{Mkfs, Step as StepLine, Dump, Fsck}
use Rattle.command_words.specs.CommandLine.{IsFileName, AreFileNames, IsInRange, Writes, SaysCommandLine, Spells, TableTakes, IsSaid}
use Rattle.command_words.specs.Spelling.{spelling, IsPlain, HasPlainNames}
use Rattle.command_words.specs.Table.{table, mkfs, step, dump, fsck}

-- ---- words that are no options

no_dashes : (word : Text) → IsPlain word → bytes_eq word (45 ∷ 45 ∷ []) ≡ false
no_dashes word plain = elim (cases_Bool (bytes_eq word (45 ∷ 45 ∷ []))) [
  | inl is ↦ absurd (plain (ap (λ (t : Text). slice_index t 0) ((bytes_eq-Decides word (45 ∷ 45 ∷ [])).0 is)))
  | inr other ↦ other
]

no_strip : (word : Text) → IsPlain word → strip_byte 45 word ≡ None
no_strip [] plain = refl
no_strip (x ∷ xs) plain = ap (λ b. cond b (Some xs) None) (ne_eqb x 45 plain)

no_long : (word : Text) → IsPlain word → long_of word ≡ None
no_long word plain = ap (λ o. option_and_then long_of_rest (option_and_then (strip_byte 45) o)) (no_strip word plain)

no_short : (word : Text) → IsPlain word → short_of word ≡ None
no_short word plain = ap (λ o. option_and_then short_of_rest o) (no_strip word plain)

module _ (s : Shape) (word : Text) (plain : IsPlain word) where
  -- such a word is a value
  plain_met : (waiting : Waiting) (position : ℕ) (h : Held) → word_met s.rules [] false waiting position word h ≡ plain_word s.rules waiting word h
  plain_met idle position h =
      ap (λ b. cond b (h, trailing position) (long_or_other s.rules idle word (long_of word) h)) (no_dashes word plain)
      ∙ ap (λ o. long_or_other s.rules idle word o h) (no_long word plain) ∙ ap (λ o. short_or_plain s.rules idle word o h) (no_short word plain)
  plain_met positional position h =
      ap (λ b. cond b (h, trailing position) (long_or_other s.rules positional word (long_of word) h)) (no_dashes word plain)
      ∙ ap (λ o. long_or_other s.rules positional word o h) (no_long word plain) ∙ ap (λ o. short_or_plain s.rules positional word o h) (no_short word plain)
  plain_met (option id) position h =
      ap (λ b. cond b (h, trailing position) (long_or_other s.rules (option id) word (long_of word) h)) (no_dashes word plain)
      ∙ ap (λ o. long_or_other s.rules (option id) word o h) (no_long word plain) ∙ ap (λ o. short_or_plain s.rules (option id) word o h) (no_short word plain)

  flag_clean : (h : Held) → flag_word_fault s.rules s.args_override_self (long_of word) word h ≡ []
  flag_clean h =
      ap (λ o. flag_word_fault s.rules s.args_override_self o word h) (no_long word plain)
      ∙ ap (λ o. option_map_or (λ flags. bundle_fault s.rules s.args_override_self flags h) o []) (no_short word plain)

  plain_clean : (waiting : Waiting) (h : Held) → word_fault s [] false waiting word h ≡ []
  plain_clean idle h = ap (λ b. cond b [] (flag_word_fault s.rules s.args_override_self (long_of word) word h)) (no_dashes word plain) ∙ flag_clean h
  plain_clean positional h = ap (λ b. cond b [] (flag_word_fault s.rules s.args_override_self (long_of word) word h)) (no_dashes word plain) ∙ flag_clean h
  plain_clean (option id) h = ap (λ b. cond b [] (flag_word_fault s.rules s.args_override_self (long_of word) word h)) (no_dashes word plain) ∙ flag_clean h

-- ---- a turn of the walk

-- a word leads from one place of the walk to another, and nothing is wrong with it
record Turns (s : Shape) (w : Walk) (word : Text) (v : Walk) : Type 0 where
  turned : walked s.rules [] w word ≡ v
  clean : turn_fault s [] w word ≡ []

-- so do these
record Walks (s : Shape) (w : Walk) (words : List Text) (v : Walk) : Type 0 where
  walks : fold (walked s.rules []) w words ≡ v
  clean : walk_fault s [] w words ≡ []

both_none : (a b : Kinds) → a ≡ [] → b ≡ [] → or_else a b ≡ []
both_none a b first next = ap (λ k. or_else k b) first ∙ next

at_end : (s : Shape) (w : Walk) → Walks s w [] w
unfolding walk_fault
at_end s w = record { walks = refl; clean = refl }

turn_then : (s : Shape) (w v u : Walk) (word : Text) (words : List Text) → Turns s w word v → Walks s v words u → Walks s w (word ∷ words) u
unfolding walk_fault
turn_then s w v u word words turn rest = record {
  walks = ap (λ x. fold (walked s.rules []) x words) turn.turned ∙ rest.walks;
  clean = both_none _ _ turn.clean (ap (λ x. walk_fault s [] x words) turn.turned ∙ rest.clean);
}

-- a word that is written out
word_turns : (s : Shape) (w : Walk) (word : Text) → turn_fault s [] w word ≡ [] → Turns s w word (walked_from s.rules [] w.stopped w word)
unfolding walked
word_turns s w word clean = record { turned = refl; clean = clean }

-- a place of the walk where no subcommand was met
abbrev walk_at : Held → Waiting → ℕ → Walk
walk_at h waiting position = record { held = h; waiting = waiting; position = position; is_trailing = false; stopped = None }

-- a word that is a value
abbrev after_value : Shape → Held → Waiting → ℕ → Text → Walk
after_value s h waiting position word = after_step s.rules word (walk_at h waiting position) (plain_word s.rules waiting word h).0 (plain_word s.rules waiting word h).1

value_turns : (s : Shape) (h : Held) (waiting : Waiting) (position : ℕ) (word : Text) → IsPlain word
    → step_fault s position (plain_word s.rules waiting word h).0 (plain_word s.rules waiting word h).1 ≡ []
    → Turns s (walk_at h waiting position) word (after_value s h waiting position word)
unfolding walked
value_turns s h waiting position word plain clean = record {
  turned = ap (λ (m : Held × Step). after_step s.rules word (walk_at h waiting position) m.0 m.1) (plain_met s word plain waiting position h);
  clean = both_none _ _ (plain_clean s word plain waiting h)
      (ap (λ (m : Held × Step). step_fault s position m.0 m.1) (plain_met s word plain waiting position h) ∙ clean);
}

-- ---- values

name_ok : (name : Text) → IsFileName name → values_kinds false vp.NonEmptyString (name ∷ []) ≡ []
name_ok name named = both_none _ _ (value_kinds-ok false vp.NonEmptyString name named) refl

no_sign : (ds : Text) → IsNumeral 10 ds → (starts_with_minus ds ≡ false) × (without_leading_plus ds ≡ ds) × (without_minus ds ≡ ds) × IsPlain ds
no_sign [] numeral = absurd (omega (arith, numeral.0))
no_sign (d ∷ ds) numeral =
    let low = digit_from_value d numeral.1.0 in
    let minus : (d == 45) ≡ false = ne_eqb d 45 (λ e. omega (arith, low, e)) in
    let plus : (d == 43) ≡ false = ne_eqb d 43 (λ e. omega (arith, low, e)) in
    (minus, ap (λ b. drop (cond b 1 0) (d ∷ ds)) plus, ap (λ b. unwrap_or (cond b (Some ds) None) (d ∷ ds)) minus, λ e. omega (arith, low, e))

module _ (n : ℕ) (small : n < 2 ^ 63) where
  digits : IsNumeral 10 (decimal n) × (digits_value 10 (decimal n) ≡ n)
  digits = decimal_is_IsNumeral n (omega (arith, small))

  plain_number : IsPlain (decimal n)
  plain_number = (no_sign (decimal n) digits.0).3

  writes : Writes n (without_minus (decimal n))
  writes =
      let sign = no_sign (decimal n) digits.0 in
      rw sign.2 (rw sign.1 digits)

  in_limits : (low high : ℕ) → low ≤ n → n ≤ high → IsSignedIn (pos low) (pos high) (decimal n)
  in_limits low high le ge =
      let sign = no_sign (decimal n) digits.0 in
      let value = digits.1 in
      rw sign.0 (rw sign.1 (digits.0, rw value (record { sfits = small }), rw value (omega (arith, ints)), rw value (omega (arith, ints))))

  number_ok : (low high : ℕ) → low ≤ n → n ≤ high → values_kinds false (vp.Signed (pos low) (pos high)) (decimal n ∷ []) ≡ []
  number_ok low high le ge = both_none _ _ (value_kinds-ok false (vp.Signed (pos low) (pos high)) (decimal n) (in_limits low high le ge)) refl

-- ---- the words of a command

abbrev start : Walk
start = walk_from nothing_held

-- a walk over all words at whose end nothing is missing
level_clean : (s : Shape) (words : List Text) (v : Walk) → Walks s start words v → settle_fault s.rules s.args_override_self v.held ≡ []
    → or_else (defaults_fault (settled s.rules v.held).rows s.rules) (check_fault s (finished s.rules v.held) false) ≡ [] → level_fault s [] nothing_held words false [] ≡ []
level_clean s words v walks settles rest =
    let ends : Held → Kinds = λ h. or_else (settle_fault s.rules s.args_override_self h) (or_else (defaults_fault (settled s.rules h).rows s.rules) (check_fault s (finished s.rules h) false)) in
    both_none (walk_fault s [] start words) _ walks.clean (ap (λ (w : Walk). ends w.held) walks.walks
    ∙ both_none (settle_fault s.rules s.args_override_self v.held) (or_else (defaults_fault (settled s.rules v.held).rows s.rules) (check_fault s (finished s.rules v.held) false)) settles rest)

rows_are : (s : Shape) (words : List Text) (v : Walk) → Walks s start words v → rows_after s.rules [] words ≡ finished s.rules v.held
rows_are s words v walks = ap (λ (w : Walk). finished s.rules w.held) walks.walks

-- what the words of a command come to
record Ends (s : Shape) (words : List Text) (line : CommandLine) : Type 0 where
  clean : level_fault s [] nothing_held words false [] ≡ []
  says : SaysCommandLine s.name (rows_after s.rules [] words) line

dump_ends : (dev : Text) → IsFileName dev → IsPlain dev → Ends (built_leaf dump.top) (dev ∷ []) (Dump dev)
unfolding clap_on_literals
dump_ends dev named plain =
    let s : Shape = built_leaf dump.top in
    let v : Walk = after_value s nothing_held idle 1 dev in
    let walks : Walks s start (dev ∷ []) v = turn_then s start v v dev [] (value_turns s nothing_held idle 1 dev plain refl) (at_end s v) in
    record {
      clean = level_clean s (dev ∷ []) v walks (name_ok dev named) refl;
      says = subst (λ (rows : List Row). SaysCommandLine s.name rows (Dump dev)) (sym (rows_are s (dev ∷ []) v walks)) (refl, refl);
    }

fsck_ends : (dev : Text) → IsFileName dev → IsPlain dev → Ends (built_leaf fsck.top) (dev ∷ []) (Fsck dev)
unfolding clap_on_literals
fsck_ends dev named plain =
    let s : Shape = built_leaf fsck.top in
    let v : Walk = after_value s nothing_held idle 1 dev in
    let walks : Walks s start (dev ∷ []) v = turn_then s start v v dev [] (value_turns s nothing_held idle 1 dev plain refl) (at_end s v) in
    record {
      clean = level_clean s (dev ∷ []) v walks (name_ok dev named) refl;
      says = subst (λ (rows : List Row). SaysCommandLine s.name rows (Fsck dev)) (sym (rows_are s (dev ∷ []) v walks)) (refl, refl);
    }

mkfs_ends : (dev : Text) (half units prefer : ℕ) → IsInRange (Mkfs dev half units prefer) → IsPlain dev
    → Ends (built_leaf mkfs.top) (dev ∷ codes "--half" ∷ decimal half ∷ codes "--units" ∷ decimal units ∷ codes "--prefer" ∷ decimal prefer ∷ []) (Mkfs dev half units prefer)
unfolding clap_on_literals
mkfs_ends dev half units prefer range plain =
    let s : Shape = built_leaf mkfs.top in
    let w1 : Walk = after_value s nothing_held idle 1 dev in
    let w2 : Walk = walked_from s.rules [] None w1 (codes "--half") in
    let w3 : Walk = after_value s w2.held w2.waiting w2.position (decimal half) in
    let w4 : Walk = walked_from s.rules [] None w3 (codes "--units") in
    let w5 : Walk = after_value s w4.held w4.waiting w4.position (decimal units) in
    let w6 : Walk = walked_from s.rules [] None w5 (codes "--prefer") in
    let w7 : Walk = after_value s w6.held w6.waiting w6.position (decimal prefer) in
    let small_half : half < 2 ^ 63 = omega (arith, range.1.1) in
    let small_units : units < 2 ^ 63 = omega (arith, range.2.1) in
    let small_prefer : prefer < 2 ^ 63 = omega (arith, range.3) in
    let half_ok = number_ok half small_half 8 65536 range.1.0 range.1.1 in
    let units_ok = number_ok units small_units 1 1048576 range.2.0 range.2.1 in
    let prefer_ok = number_ok prefer small_prefer 0 1048576 (omega arith) range.3 in
    let words : List Text = dev ∷ codes "--half" ∷ decimal half ∷ codes "--units" ∷ decimal units ∷ codes "--prefer" ∷ decimal prefer ∷ [] in
    let walks : Walks s start words w7 =
    turn_then s start w1 w7 dev _ (value_turns s nothing_held idle 1 dev plain refl)
    (turn_then s w1 w2 w7 (codes "--half") _ (word_turns s w1 (codes "--half") (both_none _ _ (name_ok dev range.0) refl))
    (turn_then s w2 w3 w7 (decimal half) _ (value_turns s w2.held w2.waiting w2.position (decimal half) (plain_number half small_half) refl)
    (turn_then s w3 w4 w7 (codes "--units") _ (word_turns s w3 (codes "--units") (both_none _ _ half_ok refl))
    (turn_then s w4 w5 w7 (decimal units) _ (value_turns s w4.held w4.waiting w4.position (decimal units) (plain_number units small_units) refl)
    (turn_then s w5 w6 w7 (codes "--prefer") _ (word_turns s w5 (codes "--prefer") (both_none _ _ units_ok refl))
    (turn_then s w6 w7 w7 (decimal prefer) [] (value_turns s w6.held w6.waiting w6.position (decimal prefer) (plain_number prefer small_prefer) refl)
    (at_end s w7))))))) in
    record {
      clean = level_clean s words w7 walks prefer_ok refl;
      says = subst (λ (rows : List Row). SaysCommandLine s.name rows (Mkfs dev half units prefer)) (sym (rows_are s words w7 walks))
          (refl, refl, writes half small_half, writes units small_units, writes prefer small_prefer);
    }

-- ---- scripts

names_ok : (names : List Text) → AllByRecursion IsFileName names → values_kinds false vp.NonEmptyString names ≡ []
names_ok [] named = refl
names_ok (t ∷ ts) named = both_none _ _ (value_kinds-ok false vp.NonEmptyString t named.0) (names_ok ts named.1)

fails : (b : Bool) → (b ≡ true → ⊥) → b ≡ false
fails true never = absurd (never refl)
fails false never = refl

none_fails : (a b c : Bool) (x y z : Kinds) → a ≡ false → b ≡ false → c ≡ false → cond a x (cond b y (cond c z [])) ≡ []
none_fails false false false x y z first second third = refl
none_fails true b c x y z first second third = absurd cc
none_fails false true c x y z first second third = absurd cc
none_fails false false true x y z first second third = absurd cc

few_ok : (n : ℕ) → 1 ≤ n → n ≤ 64 → range_kinds 1 64 n ≡ []
few_ok n some few =
    let zero : (n == 0) ≡ false = ne_eqb n 0 (λ e. omega (arith, some, e)) in
    let less : nat_lt n 1 ≡ false = fails (nat_lt n 1) (λ t. omega (arith, some, ltb-true n 1 t)) in
    let more : nat_lt 64 n ≡ false = fails (nat_lt 64 n) (λ t. omega (arith, few, ltb-true 64 n t)) in
    none_fails (n == 0) (nat_lt n 1) (nat_lt 64 n) _ _ _ zero less more

-- so many names were read of the scripts
abbrev scripts_at : List Row → List Text → Walk
scripts_at rows seen = walk_at (record { rows = rows; pending = Some (codes "SCRIPT", seen); skip = 0 }) positional 2

scripts_walk : (rows : List Row) (seen more : List Text) → AllByRecursion IsPlain more → Walks (built_leaf step.top) (scripts_at rows seen) more (scripts_at rows (seen ++ more))
unfolding clap_on_literals
scripts_walk rows seen [] plain = subst (λ (l : List Text). Walks (built_leaf step.top) (scripts_at rows seen) [] (scripts_at rows l)) (sym (append-nil seen)) (at_end (built_leaf step.top) (scripts_at rows seen))
scripts_walk rows seen (t ∷ ts) plain =
    let h : Held = record { rows = rows; pending = Some (codes "SCRIPT", seen); skip = 0 } in
    subst (λ (l : List Text). Walks (built_leaf step.top) (scripts_at rows seen) (t ∷ ts) (scripts_at rows l)) (append_assoc seen (t ∷ []) ts)
    (turn_then (built_leaf step.top) (scripts_at rows seen) (scripts_at rows (seen ++ t ∷ [])) (scripts_at rows ((seen ++ t ∷ []) ++ ts)) t ts
    (value_turns (built_leaf step.top) h positional 2 t plain.0 refl)
    (scripts_walk rows (seen ++ t ∷ []) ts plain.1))

step_ends : (dev : Text) (seed : ℕ) (scripts : List Text) → IsInRange (StepLine dev seed scripts) → HasPlainNames (StepLine dev seed scripts)
    → Ends (built_leaf step.top) (dev ∷ codes "--seed" ∷ decimal seed ∷ scripts) (StepLine dev seed scripts)
unfolding clap_on_literals
step_ends dev seed [] range plain = absurd (omega (arith, range.2.0))
step_ends dev seed (t ∷ ts) range plain =
    let s : Shape = built_leaf step.top in
    let w1 : Walk = after_value s nothing_held idle 1 dev in
    let w2 : Walk = walked_from s.rules [] None w1 (codes "--seed") in
    let w3 : Walk = after_value s w2.held w2.waiting w2.position (decimal seed) in
    let w4 : Walk = after_value s w3.held w3.waiting w3.position t in
    let rows : List Row = w4.held.rows in
    let w5 : Walk = scripts_at rows (t ∷ ts) in
    let small : seed < 2 ^ 63 = omega (arith, range.1) in
    let seed_ok = number_ok seed small 0 4294967295 (omega arith) (omega (arith, range.1)) in
    let words : List Text = dev ∷ codes "--seed" ∷ decimal seed ∷ t ∷ ts in
    let walks : Walks s start words w5 =
    turn_then s start w1 w5 dev _ (value_turns s nothing_held idle 1 dev plain.0 refl)
    (turn_then s w1 w2 w5 (codes "--seed") _ (word_turns s w1 (codes "--seed") (both_none _ _ (name_ok dev range.0) refl))
    (turn_then s w2 w3 w5 (decimal seed) _ (value_turns s w2.held w2.waiting w2.position (decimal seed) (plain_number seed small) refl)
    (turn_then s w3 w4 w5 t ts (value_turns s w3.held w3.waiting w3.position t plain.1.0 seed_ok)
    (scripts_walk rows (t ∷ []) ts plain.1.1)))) in
    record {
      clean = level_clean s words w5 walks (both_none _ _ (few_ok (length (t ∷ ts)) range.2.0 range.2.1) (names_ok (t ∷ ts) range.2.2)) refl;
      says = subst (λ (rows : List Row). SaysCommandLine s.name rows (StepLine dev seed (t ∷ ts))) (sym (rows_are s words w5 walks))
          (refl, refl, writes seed small, refl);
    }

-- ---- all words

abbrev app : App
app = built table

top_level : (rest : List Text) (name : Text) (leaf : Shape) (line : CommandLine) (program : Text) → IsInRange line
    → walked_from app.top.rules (names_of app) None start name ≡ record start { stopped = Some (name, []) }
    → turn_fault app.top (names_of app) start name ≡ [] → find (λ s. answers_to name (label_of s)) app.subs ≡ Some leaf
    → Ends leaf rest line → Spells (program ∷ name ∷ rest) line
unfolding clap_on_literals
top_level rest name leaf line program range turned clean found ends =
    let stops : Walk = record start { stopped = Some (name, rest) } in
    let walks : walk app.top.rules (names_of app) nothing_held (name ∷ rest) ≡ stops =
    ap (λ (w : Walk). fold (walked app.top.rules (names_of app)) w rest) turned ∙ sym (walk_stopped app.top.rules (names_of app) start name [] rest) in
    let fault : walk_fault app.top (names_of app) start (name ∷ rest) ≡ [] =
    both_none _ _ clean (ap (λ (w : Walk). walk_fault app.top (names_of app) w rest) turned ∙ stopped_fault app.top (names_of app) start (name, []) rest) in
    let below : entered_fault app (Some (name, rest)) ≡ [] =
    ap (λ (o : Option Shape). option_map_or (λ s. level_fault s [] nothing_held rest false []) o []) found ∙ ends.clean in
    let enters : entered app (Some (name, rest)) ≡ Some (rows_at leaf rest) = ap (option_map (λ s. rows_at s rest)) found in
    let later : Walk → Kinds = λ w. or_else (entered_fault app w.stopped) (or_else (settle_fault app.top.rules app.top.args_override_self w.held)
    (or_else (defaults_fault (settled app.top.rules w.held).rows app.top.rules) (check_fault app.top (finished app.top.rules w.held) (is_some (entered app w.stopped))))) in
    let taken : TableTakes (program ∷ name ∷ rest) =
    both_none _ _ fault (ap later walks ∙ both_none (entered_fault app (Some (name, rest))) _ below
    (ap (λ (o : Option (Text × List Row)). check_fault app.top [] (is_some o)) enters)) in
    record {
      in_range = range;
      taken = taken;
      name = leaf.name;
      rows = rows_after leaf.rules [] rest;
      found = ap (λ (w : Walk). entered app w.stopped) walks ∙ enters;
      says = ends.says;
    }

pub spelled_line : (program : Text) (line : CommandLine) → IsInRange line → HasPlainNames line → Spells (program ∷ spelling line) line
unfolding clap_on_literals
spelled_line program (Mkfs dev half units prefer) range plain =
    top_level _ (codes "mkfs") (built_leaf mkfs.top) (Mkfs dev half units prefer) program range refl refl refl (mkfs_ends dev half units prefer range plain)
spelled_line program (StepLine dev seed scripts) range plain =
    top_level _ (codes "step") (built_leaf step.top) (StepLine dev seed scripts) program range refl refl refl (step_ends dev seed scripts range plain)
spelled_line program (Dump dev) range plain =
    top_level _ (codes "dump") (built_leaf dump.top) (Dump dev) program range refl refl refl (dump_ends dev range plain)
spelled_line program (Fsck dev) range plain =
    top_level _ (codes "fsck") (built_leaf fsck.top) (Fsck dev) program range refl refl refl (fsck_ends dev range plain)
