-- A parse that finds no fault leaves rows of which each has values that its argument takes.
use Rattle.std.proofs.Common.{◌≡◌, ◌⊎◌, inl, inr, ℕ, zero, suc, ◌<◌, ◌&&◌, ◌||◌, Bool, true, false, not, cond, List, [], ◌∷◌, ◌++◌, length, drop, fold, Option, Some, None, is_some, refl, sym, ap, subst, ◌∙◌, arith}
use Rattle.std.specs.Prelude.{find, slice_get, option_map, if◌then◌else◌, encode_utf8, codes}
use Rattle.std.specs.List.{AllByRecursion, list_any}
use Rattle.std.specs.Option.{option_map_or}
use Rattle.std.specs.Str.{bytes_eq, chars}
use Rattle.std.proofs.lemmas.Bool.{ne_eqb}
use Rattle.clap.specs.Lexer.{long_of, short_of}
use Rattle.clap.specs.Kinds.{Kinds, or_else, range_kinds, request_kinds}
use Rattle.clap.specs.Values.{read_as}
use Rattle.clap.specs.Facts.{unwrap_or_range}
use Rattle.clap.specs.Simple.{Shape}
use Rattle.clap.specs.Walk.{Text, Rule, Row, Held, Outcome, Step, Waiting, Walk, Names, done, waits, plain, refused, next, trailing, subcommand, value, idle, option, positional}
use Rattle.clap.specs.Walk.{action_of, reading_by, most_values, takes_values, takes_several, arg_by_id, arg_by_long, arg_by_short, arg_by_index, at_row, more_values, with_values, without, values_or_missing}
use Rattle.clap.specs.Walk.{used_as, used, used_by_id, settled_rows, settled, reacted, pushed, option_met, flag_met, long_met, short_met, attached_value, bundle_met, bundle_step, bundle, option_word, plain_word, after_flag}
use Rattle.clap.specs.Walk.{long_word, short_word, short_or_plain, long_or_other, subcommand_met, subcommand_or_other, word_met, is_pending, positional_held, to_positional, after_step, walked_from, walked, has_row, default_rows, with_default, is_empty}
use Rattle.clap.specs.Faults.{values_fault, repeat_fault, action_fault, use_fault, settle_fault, react_fault, option_fault, long_fault, short_fault, bundle_step_fault, flags_fault, bundle_fault, flag_word_fault, other_fault, word_fault}
use Rattle.clap.specs.Faults.{positional_fault, step_fault, turn_fault, walk_fault, given_default_fault, default_fault, defaults_fault}
use Rattle.clap.specs.declared.builder.action.ArgAction.{ArgAction}
use Rattle.clap.specs.declared.builder.action.ArgAction.TheVariants.{Set, Help}
use Rattle.clap.specs.declared.parser.matches.ValueSource.{ValueSource}
use Rattle.clap.specs.declared.parser.matches.ValueSource.TheVariants.{DefaultValue, CommandLine}

-- ---- lists

-- it holds of one of these
abbrev pub Among : {A : Type 0} → (A → Type 0) → List A → Type 0
Among P [] = ⊥
Among P (x ∷ xs) = P x ⊎ Among P xs

pub among_in : {A : Type 0} (P Q : A → Type 0) → ((x : A) → P x → Q x) → (xs : List A) → Among P xs → Among Q xs
among_in P Q more [] is = is
among_in P Q more (x ∷ xs) (inl p) = inl (more x p)
among_in P Q more (x ∷ xs) (inr is) = inr (among_in P Q more xs is)

pub all_in : {A : Type 0} (P : A → Type 0) (xs : List A) (a : A) → AllByRecursion P xs → Among (λ x. x ≡ a) xs → P a
all_in P [] a all is = absurd is
all_in P (x ∷ xs) a all (inl same) = subst P same all.0
all_in P (x ∷ xs) a all (inr is) = all_in P xs a all.1 is

pub all_end : {A : Type 0} (P : A → Type 0) (xs : List A) (a : A) → AllByRecursion P xs → P a → AllByRecursion P (xs ++ a ∷ [])
all_end P [] a all is = (is, tt)
all_end P (x ∷ xs) a all is = (all.0, all_end P xs a all.1 is)

-- what is found is one of the list, and passes
found_by : {A : Type 0} (p : A → Bool) (x : A) (xs : List A) (a : A) (b : Bool) → p x ≡ b → (find p xs ≡ Some a → Among (λ y. y ≡ a) xs × (p a ≡ true))
    → cond b (Some x) (find p xs) ≡ Some a → Among (λ y. y ≡ a) (x ∷ xs) × (p a ≡ true)
found_by p x xs a true passes rest is = let same : x ≡ a = cc in (inl same, subst (λ y. p y ≡ true) same passes)
found_by p x xs a false passes rest is = let later = rest is in (inr later.0, later.1)

pub find_in : {A : Type 0} (p : A → Bool) (xs : List A) (a : A) → find p xs ≡ Some a → Among (λ x. x ≡ a) xs × (p a ≡ true)
find_in p [] a is = absurd cc
find_in p (x ∷ xs) a is = found_by p x xs a (p x) refl (find_in p xs a) is

-- ---- faults

pub none_first : (a b : Kinds) → or_else a b ≡ [] → a ≡ []
none_first [] b none = refl
none_first (k ∷ ks) b none = absurd cc

pub none_next : (a b : Kinds) → or_else a b ≡ [] → b ≡ []
none_next [] b none = none
none_next (k ∷ ks) b none = absurd cc

-- ---- what a row may be

-- The row has values of the argument: as many as a use has, or those that stand for none; each passes the argument's parser.
pub record Fits (a : Rule) (r : Row) : Type 0 where
  pub id : r.id ≡ a.id
  pub reading : r.reading ≡ reading_by a
  pub many : (range_kinds (unwrap_or_range a.range).start_inclusive (most_values a) (length r.values) ≡ []) ⊎ ((r.values ≡ a.defaults) × (0 < length r.values))
  pub passes : values_fault a r.values ≡ []

-- each row has values of one of these arguments
abbrev pub AreGood : List Rule → List Row → Type 0
AreGood c rows = AllByRecursion (λ r. Among (λ a. Fits a r) c) rows

-- a use of the argument puts its values in place, or asks for help
abbrev pub IsKnown : Rule → Type 0
IsKnown a = ((action_of a ≡ Set) × (a.missing ≡ [])) ⊎ (action_of a ≡ Help)

abbrev pub AreKnown : List Rule → Type 0
AreKnown c = AllByRecursion IsKnown c

-- ---- rows that are put

past_row : (id : Text) (change : Row → List Row) (missing : List Row) (r : Row) (rs : List Row) (b : Bool) → (b || has_row id rs) ≡ false
    → (has_row id rs ≡ false → at_row id change missing rs ≡ rs ++ missing) → cond b (change r ++ rs) (r ∷ at_row id change missing rs) ≡ r ∷ (rs ++ missing)
past_row id change missing r rs true none rest = absurd cc
past_row id change missing r rs false none rest = ap (λ (xs : List Row). r ∷ xs) (rest none)

no_row : (id : Text) (change : Row → List Row) (missing : List Row) (rows : List Row) → has_row id rows ≡ false → at_row id change missing rows ≡ rows ++ missing
no_row id change missing [] none = refl
no_row id change missing (r ∷ rs) none = past_row id change missing r rs (bytes_eq r.id id) none (no_row id change missing rs)

append_none : (rows : List Row) → rows ++ [] ≡ rows
append_none [] = refl
append_none (r ∷ rs) = ap (λ (xs : List Row). r ∷ xs) (append_none rs)

-- an argument that has no row gets one
pub put : (a : Rule) (s : ValueSource) (values : List Text) (rows : List Row) → has_row a.id rows ≡ false
    → with_values a.id (reading_by a) s values rows ≡ rows ++ (record { id = a.id; values = values; count = None; source = Some s; reading = reading_by a }) ∷ []
put a s values rows none = no_row a.id (more_values s values) _ rows none

none_taken : (id : Text) (rows : List Row) → has_row id rows ≡ false → without id rows ≡ rows
none_taken id rows none = no_row id (λ _. []) [] rows none ∙ append_none rows

missing_none : (a : Rule) (values : List Text) → a.missing ≡ [] → values_or_missing a values ≡ values
missing_none a [] none = none
missing_none a (v ∷ vs) none = refl

once : (b : Bool) (ks : Kinds) → 0 < length ks → cond (b && not false) ks [] ≡ [] → b ≡ false
once true [] some none = absurd (omega (arith, some))
once true (k ∷ ks) some none = absurd cc
once false ks some none = refl

not_again : (id : Text) (rows : List Row) → repeat_fault false id rows ≡ [] → has_row id rows ≡ false
not_again id rows none = once (has_row id rows) _ (omega arith) none

module _ (c : List Rule) (known : AreKnown c) where
  -- the argument is used, where nothing is wrong with that
  used_good : (a : Rule) (values : List Text) (rows : List Row) → Among (λ x. x ≡ a) c → use_fault false a values rows ≡ [] → AreGood c rows → AreGood c (used a values rows)
  used_good a values rows is none good = elim (all_in IsKnown c a known is) [
    | inl set ↦
        let range = none_first _ _ none in
        let action : action_fault Set false a (values_or_missing a values) rows ≡ [] =
        subst (λ (x : ArgAction). action_fault x false a (values_or_missing a values) rows ≡ []) set.0 (none_next _ _ none) in
        let new : has_row a.id rows ≡ false = not_again a.id rows (none_first _ _ action) in
        let same = missing_none a values set.1 in
        let passes : values_fault a values ≡ [] = subst (λ (vs : List Text). values_fault a vs ≡ []) same (none_next _ _ action) in
        let row : Row = record { id = a.id; values = values; count = None; source = Some CommandLine; reading = reading_by a } in
        let is_put : used a values rows ≡ rows ++ row ∷ [] =
        ap (λ (x : ArgAction). used_as x a.id (reading_by a) (values_or_missing a values) rows) set.0
        ∙ ap (λ (vs : List Text). used_as Set a.id (reading_by a) vs rows) same
        ∙ ap (λ (rs : List Row). with_values a.id (reading_by a) CommandLine values rs) (none_taken a.id rows new)
        ∙ put a CommandLine values rows new in
        subst (AreGood c) (sym is_put) (all_end (λ (r : Row). Among (λ x. Fits x r) c) rows row good
        (among_in (λ x. x ≡ a) (λ x. Fits x row) (λ x e. record {
          id = ap (λ (y : Rule). y.id) (sym e);
          reading = ap reading_by (sym e);
          many = inl (subst (λ (y : Rule). range_kinds (unwrap_or_range y.range).start_inclusive (most_values y) (length values) ≡ []) (sym e) range);
          passes = subst (λ (y : Rule). values_fault y values ≡ []) (sym e) passes;
        }) c is))
    | inr help ↦
        let action : action_fault Help false a (values_or_missing a values) rows ≡ [] =
        subst (λ (x : ArgAction). action_fault x false a (values_or_missing a values) rows ≡ []) help
        (none_next (range_kinds (unwrap_or_range a.range).start_inclusive (most_values a) (length values)) (action_fault (action_of a) false a (values_or_missing a values) rows) none) in
        absurd cc
  ]

  -- what was found for a use
  found_good : (p : Rule → Bool) (o : Option Rule) (values : List Text) (rows : List Row) → find p c ≡ o → option_map_or (λ a. use_fault false a values rows) o [] ≡ []
      → AreGood c rows → AreGood c (used_by_id o values rows)
  found_good p None values rows is none good = good
  found_good p (Some a) values rows is none good = used_good a values rows (find_in p c a is).0 none good

  -- ---- a step of the walk

  settled_good : (p : Option (Text × List Text)) (rows : List Row)
      → option_map_or (λ q. option_map_or (λ a. use_fault false a q.1 rows) (arg_by_id c q.0) []) p [] ≡ []
      → AreGood c rows → AreGood c (settled_rows c p rows)
  settled_good None rows none good = good
  settled_good (Some q) rows none good = found_good (λ a. bytes_eq a.id q.0) (arg_by_id c q.0) q.1 rows refl none good

  pub settle_good : (h : Held) → settle_fault c false h ≡ [] → AreGood c h.rows → AreGood c (settled c h).rows
  settle_good h none good = settled_good h.pending h.rows none good

  react_good : (a : Rule) (values : List Text) (h : Held) → Among (λ x. x ≡ a) c → react_fault c false a values h ≡ [] → AreGood c h.rows → AreGood c (reacted c a values h).rows
  react_good a values h is none good = used_good a values (settled c h).rows is (none_next _ _ none) (settle_good h (none_first _ _ none) good)

  option_good : (a : Rule) (v : Option Text) (h : Held) → Among (λ x. x ≡ a) c → option_fault c false a v h ≡ [] → AreGood c h.rows → AreGood c (option_met c a v h).0.rows
  option_good a None h is none good = settle_good h none good
  option_good a (Some v) h is none good = react_good a (v ∷ []) h is none good

  flag_good : (a : Rule) (v : Option Text) (h : Held) (ks : Kinds) → Among (λ x. x ≡ a) c → cond (is_some v) ks (react_fault c false a [] h) ≡ []
      → AreGood c h.rows → AreGood c (flag_met c a v h).0.rows
  flag_good a (Some w) h ks is none good = good
  flag_good a None h ks is none good = react_good a [] h is none good

  either_good : (a : Rule) (v : Option Text) (h : Held) (ks : Kinds) (b : Bool) → Among (λ x. x ≡ a) c
      → cond b (option_fault c false a v h) (cond (is_some v) ks (react_fault c false a [] h)) ≡ [] → AreGood c h.rows
      → AreGood c (cond b (option_met c a v h) (flag_met c a v h)).0.rows
  either_good a v h ks true is none good = option_good a v h is none good
  either_good a v h ks false is none good = flag_good a v h ks is none good

  long_good : (p : Rule → Bool) (o : Option Rule) (v : Option Text) (h : Held) → find p c ≡ o → long_fault c false o v h ≡ [] → AreGood c h.rows → AreGood c (long_met c o v h).0.rows
  long_good p None v h is none good = good
  long_good p (Some a) v h is none good = either_good a v h _ (takes_values a) (find_in p c a is).0 none good

  value_good : (o : Option Rule) (id word : Text) (h : Held) → AreGood c h.rows → AreGood c (option_word o id word h).0.rows
  value_good None id word h good = good
  value_good (Some a) id word h good = good

  plain_good : (waiting : Waiting) (word : Text) (h : Held) → AreGood c h.rows → AreGood c (plain_word c waiting word h).0.rows
  plain_good idle word h good = good
  plain_good positional word h good = good
  plain_good (option id) word h good = value_good (arg_by_id c id) id word h good

  after_good : (waiting : Waiting) (word : Text) (h : Held) (o : Outcome) → AreGood c h.rows → AreGood c (after_flag c waiting word h o).0.rows
  after_good waiting word h done good = good
  after_good waiting word h (waits id) good = good
  after_good waiting word h plain good = plain_good waiting word h good
  after_good waiting word h refused good = plain_good waiting word h good

  -- ---- the characters of a bundle of short flags

  -- so many of them
  abbrev FlagsGood : ℕ → Type 0
  FlagsGood k = (flags : Text) (skip : ℕ) (so_far : Outcome) (h : Held) → flags_fault c false k flags skip h ≡ [] → AreGood c h.rows
      → AreGood c (bundle_met c k flags skip so_far h).0.rows

  module _ (k : ℕ) (less : FlagsGood k) where
    flag_or_option : (a : Rule) (rest : Text) (h : Held) (b : Bool) → Among (λ x. x ≡ a) c
        → cond b (option_fault c false a (attached_value rest) h) (or_else (react_fault c false a [] h) (flags_fault c false k rest 0 (reacted c a [] h))) ≡ []
        → AreGood c h.rows
        → AreGood c (cond b (option_met c a (attached_value rest) h) (bundle_met c k rest 0 done (reacted c a [] h))).0.rows
    flag_or_option a rest h true is none good = option_good a (attached_value rest) h is none good
    flag_or_option a rest h false is none good = less rest 0 done (reacted c a [] h) (none_next _ _ none) (react_good a [] h is (none_first _ _ none) good)

    short_good : (p : Rule → Bool) (o : Option Rule) (rest : Text) (h : Held) → find p c ≡ o → short_fault c false o rest h (flags_fault c false k rest 0) ≡ []
        → AreGood c h.rows → AreGood c (short_met c o rest h (bundle_met c k rest 0 done)).0.rows
    short_good p None rest h is none good = good
    short_good p (Some a) rest h is none good = flag_or_option a rest h (takes_values a) (find_in p c a is).0 none good

    character_good : (x : Option ℕ) (flags : Text) (skip : ℕ) (so_far : Outcome) (h : Held) → bundle_step_fault c false x flags skip h (flags_fault c false k) ≡ []
        → AreGood c h.rows → AreGood c (bundle_step c x flags skip so_far h (bundle_met c k)).0.rows
    character_good None flags skip so_far h none good = good
    character_good (Some x) flags zero so_far h none good = short_good _ (arg_by_short c x) (drop (length (encode_utf8 x)) flags) h refl none good
    character_good (Some x) flags (suc skip) so_far h none good = less (drop (length (encode_utf8 x)) flags) skip so_far h none good

  flags_good : (k : ℕ) → FlagsGood k
  unfolding bundle_met flags_fault
  flags_good zero flags skip so_far h none good = good
  flags_good (suc k) flags skip so_far h none good = character_good k (flags_good k) (slice_get (chars flags) 0) flags skip so_far h none good

  -- ---- a word

  long_word_good : (waiting : Waiting) (word : Text) (p : Text × Option Text) (h : Held) → flag_word_fault c false (Some p) word h ≡ [] → AreGood c h.rows
      → AreGood c (long_word c waiting word p.0 p.1 h).0.rows
  long_word_good waiting word p h none good =
      after_good waiting word (long_met c (arg_by_long c p.0) p.1 h).0 (long_met c (arg_by_long c p.0) p.1 h).1
      (long_good _ (arg_by_long c p.0) p.1 h refl none good)

  short_word_good : (waiting : Waiting) (word : Text) (o : Option Text) (h : Held) → option_map_or (λ flags. bundle_fault c false flags h) o [] ≡ [] → AreGood c h.rows
      → AreGood c (short_or_plain c waiting word o h).0.rows
  short_word_good waiting word None h none good = plain_good waiting word h good
  short_word_good waiting word (Some flags) h none good =
      after_good waiting word (bundle c flags h).0 (bundle c flags h).1 (flags_good (length flags) flags h.skip plain (record h { skip = 0 }) none good)

  flag_word_good : (waiting : Waiting) (word : Text) (o : Option (Text × Option Text)) (h : Held) → flag_word_fault c false o word h ≡ [] → AreGood c h.rows
      → AreGood c (long_or_other c waiting word o h).0.rows
  flag_word_good waiting word (Some p) h none good = long_word_good waiting word p h none good
  flag_word_good waiting word None h none good = short_word_good waiting word (short_of word) h none good

  dashes_good : (b : Bool) (waiting : Waiting) (position : ℕ) (word : Text) (h : Held) → cond b [] (flag_word_fault c false (long_of word) word h) ≡ [] → AreGood c h.rows
      → AreGood c (cond b (h, trailing position) (long_or_other c waiting word (long_of word) h)).0.rows
  dashes_good true waiting position word h none good = good
  dashes_good false waiting position word h none good = flag_word_good waiting word (long_of word) h none good

-- ---- a whole walk, where a second use of an argument doesn't replace the first

module _ (s : Shape) (known : AreKnown s.rules) (once_only : s.args_override_self ≡ false) where
  other_good : (o : Option Text) (waiting : Waiting) (position : ℕ) (word : Text) (h : Held) → other_fault s o word h ≡ [] → AreGood s.rules h.rows
      → AreGood s.rules (subcommand_or_other s.rules o waiting position word h).0.rows
  other_good (Some name) waiting position word h none good = good
  other_good None waiting position word h none good =
      dashes_good s.rules known (bytes_eq word (45 ∷ 45 ∷ [])) waiting position word h
      (subst (λ (again : Bool). cond (bytes_eq word (45 ∷ 45 ∷ [])) [] (flag_word_fault s.rules again (long_of word) word h) ≡ []) once_only none) good

  met_good : (names : Names) (b : Bool) (waiting : Waiting) (position : ℕ) (word : Text) (h : Held) → word_fault s names b waiting word h ≡ [] → AreGood s.rules h.rows
      → AreGood s.rules (word_met s.rules names b waiting position word h).0.rows
  met_good names true waiting position word h none good = good
  met_good names false waiting position word h none good = other_good (subcommand_met names waiting word) waiting position word h none good

  goes_good : (a : Rule) (b : Bool) (h : Held) → cond b [] (settle_fault s.rules s.args_override_self h) ≡ [] → AreGood s.rules h.rows
      → AreGood s.rules (cond b h (settled s.rules h)).rows
  goes_good a true h none good = good
  goes_good a false h none good = settle_good s.rules known h (subst (λ (again : Bool). settle_fault s.rules again h ≡ []) once_only none) good

  positional_good : (o : Option Rule) (word : Text) (w : Walk) (h : Held) (ks : Kinds)
      → option_map_or (λ a. positional_fault s.rules s.args_override_self a h) o ks ≡ [] → AreGood s.rules h.rows
      → AreGood s.rules (to_positional s.rules o word w h).held.rows
  positional_good None word w h ks none good = good
  positional_good (Some a) word w h ks none good = goes_good a (is_pending a h.pending && takes_several a) h none good

  step_good : (word : Text) (w : Walk) (h : Held) (st : Step) → step_fault s w.position h st ≡ [] → AreGood s.rules h.rows
      → AreGood s.rules (after_step s.rules word w h st).held.rows
  step_good word w h (next waiting) none good = good
  step_good word w h (trailing position) none good = good
  step_good word w h (subcommand name) none good = good
  step_good word w h value none good = positional_good (arg_by_index s.rules w.position) word w h _ none good

  module _ (names : Names) where
    turn_good : (o : Option (Text × List Text)) (w : Walk) (word : Text)
        → cond (is_some o) [] (or_else (word_fault s names w.is_trailing w.waiting word w.held)
        (step_fault s w.position (word_met s.rules names w.is_trailing w.waiting w.position word w.held).0 (word_met s.rules names w.is_trailing w.waiting w.position word w.held).1)) ≡ []
        → AreGood s.rules w.held.rows → AreGood s.rules (walked_from s.rules names o w word).held.rows
    turn_good (Some p) w word none good = good
    turn_good None w word none good =
        let met : Held × Step = word_met s.rules names w.is_trailing w.waiting w.position word w.held in
        step_good word w (word_met s.rules names w.is_trailing w.waiting w.position word w.held).0 (word_met s.rules names w.is_trailing w.waiting w.position word w.held).1
        (none_next _ _ none) (met_good names w.is_trailing w.waiting w.position word w.held (none_first _ _ none) good)

    pub walk_good : (words : List Text) (w : Walk) → walk_fault s names w words ≡ [] → AreGood s.rules w.held.rows
        → AreGood s.rules (fold (walked s.rules names) w words).held.rows
    unfolding walk_fault walked
    walk_good [] w none good = good
    walk_good (word ∷ words) w none good =
        walk_good words (walked_from s.rules names w.stopped w word) (none_next _ _ none) (turn_good w.stopped w word (none_first _ _ none) good)

-- ---- defaults

some_values : (v : Text) (vs : List Text) → is_empty (v ∷ vs) ≡ false
some_values v vs = ne_eqb _ _ (λ e. omega (arith, e))

module _ (c : List Rule) (known : AreKnown c) where
  given_good : (a : Rule) (values : List Text) (rows : List Row) → a.defaults ≡ values → Among (λ x. x ≡ a) c → has_row a.id rows ≡ false
      → cond (is_empty values) [] (given_default_fault a values) ≡ [] → AreGood c rows → AreGood c (default_rows a.id (reading_by a) values rows)
  given_good a [] rows are is new none good = good
  given_good a (v ∷ vs) rows are is new none good =
      let asked : given_default_fault a (v ∷ vs) ≡ [] = subst (λ (b : Bool). cond b [] (given_default_fault a (v ∷ vs)) ≡ []) (some_values v vs) none in
      let row : Row = record { id = a.id; values = v ∷ vs; count = None; source = Some DefaultValue; reading = reading_by a } in
      let is_put : with_values a.id (reading_by a) DefaultValue (v ∷ vs) rows ≡ rows ++ row ∷ [] = put a DefaultValue (v ∷ vs) rows new in
      subst (AreGood c) (sym is_put) (all_end (λ (r : Row). Among (λ x. Fits x r) c) rows row good
      (among_in (λ x. x ≡ a) (λ x. Fits x row) (λ x e. subst (λ (y : Rule). Fits y row) (sym e) (record {
        id = refl;
        reading = refl;
        many = inr (sym are, omega arith);
        passes = none_next (request_kinds (action_of a)) (values_fault a (v ∷ vs)) asked;
      })) c is))

  default_good : (a : Rule) (rows : List Row) (b : Bool) → has_row a.id rows ≡ b → Among (λ x. x ≡ a) c
      → cond (b || is_empty a.defaults) [] (given_default_fault a a.defaults) ≡ [] → AreGood c rows
      → AreGood c (cond b rows (default_rows a.id (reading_by a) a.defaults rows))
  default_good a rows true has is none good = good
  default_good a rows false has is none good = given_good a a.defaults rows refl is has none good

  pub defaults_good : (some : List Rule) (rows : List Row) → AllByRecursion (λ a. Among (λ x. x ≡ a) c) some → defaults_fault rows some ≡ [] → AreGood c rows
      → AreGood c (fold with_default rows some)
  unfolding defaults_fault
  defaults_good [] rows are none good = good
  defaults_good (a ∷ some) rows are none good =
      defaults_good some (with_default rows a) are.1 (none_next _ _ none) (default_good a rows (has_row a.id rows) refl are.0 (none_first _ _ none) good)
