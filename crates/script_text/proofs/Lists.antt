-- Keys and pairs, read one behind another.
use Rattle.std.proofs.Common.{◌≡◌, ◌≢◌, ℕ, ◌<◌, List, [], ◌∷◌, ◌++◌, length, refl, sym, ap, subst, ◌∙◌, arith}
use Rattle.std.proofs.lemmas.List.{append_assoc}
use Rattle.unit_fields.specs.Prelude.{IsCollName}
use Rattle.object_model.specs.declared.op.Pair.{Pair}
use Rattle.script_text.specs.Prelude.{HasNo, AreWords, in_words, IsNameWord, IsDataWord, AreKeyWords, ArePairWords, NamesKeys, NamesPairs, SpellsKeys, SpellsPairs, SpellsPair, StandBefore}
use Rattle.script_text.proofs.Splits.{parts, no_part}
use Rattle.script_text.proofs.Names.{name_no_space}
use Rattle.script_text.proofs.DataWords.{data_no_space}
use Rattle.script_text.proofs.Forms.{coll_no_space}

-- ---- keys

-- the text begins with these keys where this rest of it has others
pub record KeysOn (text : List ℕ) (keys : List (List ℕ)) (rest : List ℕ) : Type 0 where
  pub forth : (more : List (List ℕ)) → SpellsKeys rest more → SpellsKeys text (keys ++ more)
  pub back : (all : List (List ℕ)) → SpellsKeys text all → (more : List (List ℕ)) × SpellsKeys rest more

pub keys_none : (text : List ℕ) (keys : List (List ℕ)) → keys ≡ [] → KeysOn text keys text
keys_none text keys is = record {
  forth = λ more s. subst (λ (l : List (List ℕ)). SpellsKeys text (l ++ more)) (sym is) s;
  back = λ all s. (all, s);
}

-- words in front of keys
key_joined : (word : List ℕ) (ws keys : List (List ℕ)) → AreKeyWords ws keys → 0 < length keys → word ++ (0x20 ∷ in_words ws) ≡ in_words (word ∷ ws)
key_joined word [] [] are some = absurd (omega (arith, some))
key_joined word [] (k ∷ ks) are some = absurd are
key_joined word (w ∷ ws) keys are some = refl

key_first : (rest word behind key : List ℕ) (more : List (List ℕ)) → rest ≡ word ++ (0x20 ∷ behind) → IsNameWord word key → SpellsKeys behind more
    → SpellsKeys rest (key ∷ more)
key_first rest word behind key more is names s = record {
  words = word ∷ s.words;
  whole = is ∙ ap (λ (l : List ℕ). word ++ (0x20 ∷ l)) s.whole ∙ key_joined word s.words more s.spell s.some;
  spell = (names, s.spell);
  some = omega arith;
}

-- the first key of a text, and those behind it
pub record IsFirstKey (word behind : List ℕ) : Type 0 where
  pub key : List ℕ
  pub names : IsNameWord word key
  pub more : List (List ℕ)
  pub spell : SpellsKeys behind more

key_cut : (rest word behind : List ℕ) (ws all : List (List ℕ)) → HasNo 0x20 word → rest ≡ word ++ (0x20 ∷ behind) → rest ≡ in_words ws → AreKeyWords ws all
    → 0 < length all → IsFirstKey word behind
key_cut rest word behind [] [] none is whole are some = absurd (omega (arith, some))
key_cut rest word behind [] (k ∷ ks) none is whole are some = absurd are
key_cut rest word behind (w ∷ ws) [] none is whole are some = absurd are
key_cut rest word behind (w ∷ []) (k ∷ ks) none is whole are some = absurd (no_part 0x20 w word behind (name_no_space w k are.0) (sym whole ∙ is))
key_cut rest word behind (w ∷ v ∷ ws) (k ∷ []) none is whole are some = absurd are.1
key_cut rest word behind (w ∷ v ∷ ws) (k ∷ l ∷ ks) none is whole are some =
    let both = parts 0x20 word w behind (in_words (v ∷ ws)) none (name_no_space w k are.0) (sym is ∙ whole) in
    record {
      key = k;
      names = subst (λ (x : List ℕ). IsNameWord x k) (sym both.0) are.0;
      more = l ∷ ks;
      spell = record { words = v ∷ ws; whole = both.1; spell = are.1; some = omega arith };
    }

pub key_behind : (text rest word behind : List ℕ) (keys all : List (List ℕ)) → KeysOn text keys rest → HasNo 0x20 word → rest ≡ word ++ (0x20 ∷ behind)
    → SpellsKeys text all → IsFirstKey word behind
key_behind text rest word behind keys all on none is s =
    let left = on.back all s in key_cut rest word behind left.1.words left.0 none is left.1.whole left.1.spell left.1.some

pub keys_more : (text rest word behind key : List ℕ) (keys pushed : List (List ℕ)) → KeysOn text keys rest → HasNo 0x20 word → rest ≡ word ++ (0x20 ∷ behind)
    → IsNameWord word key → pushed ≡ keys ++ (key ∷ []) → KeysOn text pushed behind
keys_more text rest word behind key keys pushed on none is names same = record {
  forth = λ more s. subst (λ (l : List (List ℕ)). SpellsKeys text l)
      (sym (append_assoc keys (key ∷ []) more) ∙ ap (λ (l : List (List ℕ)). l ++ more) (sym same))
      (on.forth (key ∷ more) (key_first rest word behind key more is names s));
  back = λ all s. let of = key_behind text rest word behind keys all on none is s in (of.more, of.spell);
}

-- the last one
key_alone : (rest : List ℕ) (ws all : List (List ℕ)) → HasNo 0x20 rest → rest ≡ in_words ws → AreKeyWords ws all → 0 < length all
    → (key : List ℕ) × IsNameWord rest key
key_alone rest [] [] none whole are some = absurd (omega (arith, some))
key_alone rest [] (k ∷ ks) none whole are some = absurd are
key_alone rest (w ∷ ws) [] none whole are some = absurd are
key_alone rest (w ∷ []) (k ∷ ks) none whole are some = (k, subst (λ (x : List ℕ). IsNameWord x k) (sym whole) are.0)
key_alone rest (w ∷ v ∷ ws) (k ∷ ks) none whole are some = absurd (no_part 0x20 rest w (in_words (v ∷ ws)) none whole)

pub key_last : (text rest : List ℕ) (keys all : List (List ℕ)) → KeysOn text keys rest → HasNo 0x20 rest → SpellsKeys text all → (key : List ℕ) × IsNameWord rest key
key_last text rest keys all on none s = let left = on.back all s in key_alone rest left.1.words left.0 none left.1.whole left.1.spell left.1.some

pub keys_end : (text rest key : List ℕ) (keys pushed : List (List ℕ)) → KeysOn text keys rest → IsNameWord rest key → pushed ≡ keys ++ (key ∷ [])
    → SpellsKeys text pushed
keys_end text rest key keys pushed on names same =
    subst (λ (l : List (List ℕ)). SpellsKeys text l) (sym same)
    (on.forth (key ∷ []) (record { words = rest ∷ []; whole = refl; spell = (names, tt); some = omega arith }))

-- ---- pairs

-- the text begins with these pairs where this rest of it has others
pub record PairsOn (text : List ℕ) (pairs : List Pair) (rest : List ℕ) : Type 0 where
  pub forth : (more : List Pair) → SpellsPairs rest more → SpellsPairs text (pairs ++ more)
  pub back : (all : List Pair) → SpellsPairs text all → (more : List Pair) × SpellsPairs rest more

pub pairs_none : (text : List ℕ) (pairs : List Pair) → pairs ≡ [] → PairsOn text pairs text
pairs_none text pairs is = record {
  forth = λ more s. subst (λ (l : List Pair). SpellsPairs text (l ++ more)) (sym is) s;
  back = λ all s. (all, s);
}

pair_joined : (k v : List ℕ) (ws : List (List ℕ)) (pairs : List Pair) → ArePairWords ws pairs → 0 < length pairs
    → k ++ (0x20 ∷ (v ++ (0x20 ∷ in_words ws))) ≡ in_words (k ∷ v ∷ ws)
pair_joined k v [] [] are some = absurd (omega (arith, some))
pair_joined k v [] (p ∷ ps) are some = absurd are
pair_joined k v (w ∷ ws) pairs are some = refl

pair_first : (rest k v behind : List ℕ) (p : Pair) (more : List Pair) → StandBefore rest k v behind → SpellsPair k v p → SpellsPairs behind more
    → SpellsPairs rest (p ∷ more)
pair_first rest k v behind p more is spells s = record {
  words = k ∷ v ∷ s.words;
  whole = is.whole ∙ ap (λ (l : List ℕ). k ++ (0x20 ∷ (v ++ (0x20 ∷ l)))) s.whole ∙ pair_joined k v s.words more s.spell s.some;
  spell = (spells.names, spells.holds, s.spell);
  some = omega arith;
}

-- the first pair of a text, and those behind it
pub record IsFirstPair (k v behind : List ℕ) : Type 0 where
  pub first : Pair
  pub spells : SpellsPair k v first
  pub more : List Pair
  pub spell : SpellsPairs behind more

pair_cut : (rest k v behind : List ℕ) (ws : List (List ℕ)) (all : List Pair) → StandBefore rest k v behind → rest ≡ in_words ws → ArePairWords ws all
    → 0 < length all → IsFirstPair k v behind
pair_cut rest k v behind [] [] is whole are some = absurd (omega (arith, some))
pair_cut rest k v behind [] (p ∷ ps) is whole are some = absurd are
pair_cut rest k v behind (w ∷ []) all is whole are some = absurd are
pair_cut rest k v behind (w ∷ x ∷ ws) [] is whole are some = absurd are
pair_cut rest k v behind (w ∷ x ∷ []) (p ∷ ps) is whole are some =
    let both = parts 0x20 k w (v ++ (0x20 ∷ behind)) x is.first_word (name_no_space w p.key are.0) (sym is.whole ∙ whole) in
    absurd (no_part 0x20 x v behind (data_no_space x p.value are.1) (sym both.1))
pair_cut rest k v behind (w ∷ x ∷ y ∷ ws) (p ∷ []) is whole are some = pair_none y ws are.2
  where
    pair_none : (y : List ℕ) (ws : List (List ℕ)) → ArePairWords (y ∷ ws) [] → IsFirstPair k v behind
    pair_none y [] are = absurd are
    pair_none y (z ∷ ws) are = absurd are
pair_cut rest k v behind (w ∷ x ∷ y ∷ ws) (p ∷ q ∷ ps) is whole are some =
    let both = parts 0x20 k w (v ++ (0x20 ∷ behind)) (x ++ (0x20 ∷ in_words (y ∷ ws))) is.first_word (name_no_space w p.key are.0) (sym is.whole ∙ whole) in
    let also = parts 0x20 v x behind (in_words (y ∷ ws)) is.second_word (data_no_space x p.value are.1) both.1 in
    record {
      first = p;
      spells = record {
        names = subst (λ (l : List ℕ). IsNameWord l p.key) (sym both.0) are.0;
        holds = subst (λ (l : List ℕ). IsDataWord l p.value) (sym also.0) are.1;
      };
      more = q ∷ ps;
      spell = record { words = y ∷ ws; whole = also.1; spell = are.2; some = omega arith };
    }

pub pair_behind : (text rest k v behind : List ℕ) (pairs all : List Pair) → PairsOn text pairs rest → StandBefore rest k v behind
    → SpellsPairs text all → IsFirstPair k v behind
pair_behind text rest k v behind pairs all on is s =
    let left = on.back all s in pair_cut rest k v behind left.1.words left.0 is left.1.whole left.1.spell left.1.some

pub pairs_more : (text rest k v behind : List ℕ) (p : Pair) (pairs pushed : List Pair) → PairsOn text pairs rest → StandBefore rest k v behind
    → SpellsPair k v p → pushed ≡ pairs ++ (p ∷ []) → PairsOn text pushed behind
pairs_more text rest k v behind p pairs pushed on is spells same = record {
  forth = λ more s. subst (λ (l : List Pair). SpellsPairs text l)
      (sym (append_assoc pairs (p ∷ []) more) ∙ ap (λ (l : List Pair). l ++ more) (sym same))
      (on.forth (p ∷ more) (pair_first rest k v behind p more is spells s));
  back = λ all s. let of = pair_behind text rest k v behind pairs all on is s in (of.more, of.spell);
}

-- the two words of the last one
pub record IsLastPair (rest : List ℕ) : Type 0 where
  pub key_word : List ℕ
  pub value_word : List ℕ
  pub last : Pair
  pub spells : SpellsPair key_word value_word last
  pub whole : rest ≡ in_words (key_word ∷ value_word ∷ [])

pair_alone : (rest : List ℕ) (ws : List (List ℕ)) (all : List Pair) → ((k v behind : List ℕ) → ¬ (StandBefore rest k v behind)) → rest ≡ in_words ws
    → ArePairWords ws all → 0 < length all → IsLastPair rest
pair_alone rest [] [] none whole are some = absurd (omega (arith, some))
pair_alone rest [] (p ∷ ps) none whole are some = absurd are
pair_alone rest (w ∷ []) all none whole are some = absurd are
pair_alone rest (w ∷ x ∷ ws) [] none whole are some = absurd are
pair_alone rest (w ∷ x ∷ []) (p ∷ ps) none whole are some =
    record { key_word = w; value_word = x; last = p; spells = record { names = are.0; holds = are.1 }; whole = whole }
pair_alone rest (w ∷ x ∷ y ∷ ws) (p ∷ ps) none whole are some =
    absurd (none w x (in_words (y ∷ ws)) (record { first_word = name_no_space w p.key are.0; second_word = data_no_space x p.value are.1; whole = whole }))

pub pair_last : (text rest : List ℕ) (pairs all : List Pair) → PairsOn text pairs rest → ((k v behind : List ℕ) → ¬ (StandBefore rest k v behind))
    → SpellsPairs text all → IsLastPair rest
pair_last text rest pairs all on none s = let left = on.back all s in pair_alone rest left.1.words left.0 none left.1.whole left.1.spell left.1.some

-- a rest that isn't two words ends no text of pairs
pub pair_not_two : (text rest : List ℕ) (pairs all : List Pair) → PairsOn text pairs rest → ((k v behind : List ℕ) → ¬ (StandBefore rest k v behind))
    → ((a b : List ℕ) → AreWords (a ∷ b ∷ []) → rest ≢ in_words (a ∷ b ∷ [])) → ¬ (SpellsPairs text all)
pair_not_two text rest pairs all on none not_two s =
    let of = pair_last text rest pairs all on none s in
    not_two of.key_word of.value_word (name_no_space of.key_word of.last.key of.spells.names, (data_no_space of.value_word of.last.value of.spells.holds, tt)) of.whole

-- and its two words are these
pub pair_of_two : (text rest a b : List ℕ) (pairs all : List Pair) → PairsOn text pairs rest → ((k v behind : List ℕ) → ¬ (StandBefore rest k v behind))
    → AreWords (a ∷ b ∷ []) → rest ≡ in_words (a ∷ b ∷ []) → SpellsPairs text all → (p : Pair) × SpellsPair a b p
pair_of_two text rest a b pairs all on none are whole s =
    let of = pair_last text rest pairs all on none s in
    let both = parts 0x20 of.key_word a of.value_word b (name_no_space of.key_word of.last.key of.spells.names) are.0 (sym of.whole ∙ whole) in (
      of.last,
      record {
        names = subst (λ (l : List ℕ). IsNameWord l of.last.key) both.0 of.spells.names;
        holds = subst (λ (l : List ℕ). IsDataWord l of.last.value) both.1 of.spells.holds;
      },
    )

pub pairs_end : (text rest a b : List ℕ) (p : Pair) (pairs pushed : List Pair) → PairsOn text pairs rest → rest ≡ in_words (a ∷ b ∷ []) → SpellsPair a b p
    → pushed ≡ pairs ++ (p ∷ []) → SpellsPairs text pushed
pairs_end text rest a b p pairs pushed on whole spells same =
    subst (λ (l : List Pair). SpellsPairs text l) (sym same)
    (on.forth (p ∷ []) (record { words = a ∷ b ∷ []; whole = whole; spell = (spells.names, spells.holds, tt); some = omega arith }))

-- ---- behind a collection's and an object's word

-- a text that names keys has two words before them
key_split : (text coll o : List ℕ) (ws keys : List (List ℕ)) → AreKeyWords ws keys → 0 < length keys → text ≡ in_words (coll ∷ o ∷ ws)
    → text ≡ coll ++ (0x20 ∷ (o ++ (0x20 ∷ in_words ws)))
key_split text coll o [] [] are some whole = absurd (omega (arith, some))
key_split text coll o [] (k ∷ ks) are some whole = absurd are
key_split text coll o (w ∷ ws) keys are some whole = whole

pub keys_stand : (text coll o : List ℕ) (keys : List (List ℕ)) (is : NamesKeys text coll o keys)
    → StandBefore text coll is.are.object_word (in_words is.are.key_words)
keys_stand text coll o keys is = record {
  first_word = coll_no_space coll is.named;
  second_word = name_no_space is.are.object_word o is.are.names;
  whole = key_split text coll is.are.object_word is.are.key_words keys is.are.spell is.are.some
      (is.whole ∙ ap (λ (l : List (List ℕ)). in_words (coll ∷ l)) is.are.words);
}

pair_split : (text coll o : List ℕ) (ws : List (List ℕ)) (pairs : List Pair) → ArePairWords ws pairs → 0 < length pairs → text ≡ in_words (coll ∷ o ∷ ws)
    → text ≡ coll ++ (0x20 ∷ (o ++ (0x20 ∷ in_words ws)))
pair_split text coll o [] [] are some whole = absurd (omega (arith, some))
pair_split text coll o [] (p ∷ ps) are some whole = absurd are
pair_split text coll o (w ∷ ws) pairs are some whole = whole

pub pairs_stand : (text coll o : List ℕ) (pairs : List Pair) (is : NamesPairs text coll o pairs)
    → StandBefore text coll is.are.object_word (in_words is.are.pair_words)
pairs_stand text coll o pairs is = record {
  first_word = coll_no_space coll is.named;
  second_word = name_no_space is.are.object_word o is.are.names;
  whole = pair_split text coll is.are.object_word is.are.pair_words pairs is.are.spell is.are.some
      (is.whole ∙ ap (λ (l : List (List ℕ)). in_words (coll ∷ l)) is.are.words);
}

-- two words stand before a rest in one way
pub stand_same : (text a b rest c d more : List ℕ) → StandBefore text a b rest → StandBefore text c d more → (a ≡ c) × (b ≡ d) × (rest ≡ more)
stand_same text a b rest c d more x y =
    let both = parts 0x20 a c (b ++ (0x20 ∷ rest)) (d ++ (0x20 ∷ more)) x.first_word y.first_word (sym x.whole ∙ y.whole) in
    let also = parts 0x20 b d rest more x.second_word y.second_word both.1 in
    (both.0, also.0, also.1)

-- the parts of a text that names keys
pub record AreKeysParts (a b rest o : List ℕ) (keys : List (List ℕ)) : Type 0 where
  pub named : IsCollName a
  pub names : IsNameWord b o
  pub spells : SpellsKeys rest keys

pub keys_parts : (text a b rest coll o : List ℕ) (keys : List (List ℕ)) → StandBefore text a b rest → NamesKeys text coll o keys → AreKeysParts a b rest o keys
keys_parts text a b rest coll o keys stand is =
    let same = stand_same text coll is.are.object_word (in_words is.are.key_words) a b rest (keys_stand text coll o keys is) stand in
    record {
      named = subst IsCollName same.0 is.named;
      names = subst (λ (l : List ℕ). IsNameWord l o) same.1 is.are.names;
      spells = record { words = is.are.key_words; whole = sym same.2; spell = is.are.spell; some = is.are.some };
    }

pub keys_named : (text a b rest coll o : List ℕ) (keys : List (List ℕ)) → StandBefore text a b rest → coll ≡ a → IsCollName a → IsNameWord b o
    → SpellsKeys rest keys → NamesKeys text coll o keys
keys_named text a b rest coll o keys stand is named names spells = record {
  named = subst IsCollName (sym is) named;
  args = b ∷ spells.words;
  whole = stand.whole ∙ ap (λ (l : List ℕ). a ++ (0x20 ∷ (b ++ (0x20 ∷ l)))) spells.whole
      ∙ ap (λ (l : List ℕ). a ++ (0x20 ∷ l)) (key_joined b spells.words keys spells.spell spells.some)
      ∙ ap (λ (l : List ℕ). in_words (l ∷ b ∷ spells.words)) (sym is);
  are = record { object_word = b; key_words = spells.words; words = refl; names = names; spell = spells.spell; some = spells.some };
}

-- the parts of a text that names pairs
pub record ArePairsParts (a b rest o : List ℕ) (pairs : List Pair) : Type 0 where
  pub named : IsCollName a
  pub names : IsNameWord b o
  pub spells : SpellsPairs rest pairs

pub pairs_parts : (text a b rest coll o : List ℕ) (pairs : List Pair) → StandBefore text a b rest → NamesPairs text coll o pairs → ArePairsParts a b rest o pairs
pairs_parts text a b rest coll o pairs stand is =
    let same = stand_same text coll is.are.object_word (in_words is.are.pair_words) a b rest (pairs_stand text coll o pairs is) stand in
    record {
      named = subst IsCollName same.0 is.named;
      names = subst (λ (l : List ℕ). IsNameWord l o) same.1 is.are.names;
      spells = record { words = is.are.pair_words; whole = sym same.2; spell = is.are.spell; some = is.are.some };
    }

pub pairs_named : (text a b rest coll o : List ℕ) (pairs : List Pair) → StandBefore text a b rest → coll ≡ a → IsCollName a → IsNameWord b o
    → SpellsPairs rest pairs → NamesPairs text coll o pairs
pairs_named text a b rest coll o pairs stand is named names spells = record {
  named = subst IsCollName (sym is) named;
  args = b ∷ spells.words;
  whole = stand.whole ∙ ap (λ (l : List ℕ). a ++ (0x20 ∷ (b ++ (0x20 ∷ l)))) spells.whole
      ∙ pair_joined a b spells.words pairs spells.spell spells.some
      ∙ ap (λ (l : List ℕ). in_words (l ∷ b ∷ spells.words)) (sym is);
  are = record { object_word = b; pair_words = spells.words; words = refl; names = names; spell = spells.spell; some = spells.some };
}
