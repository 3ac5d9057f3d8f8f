-- A replay by collections: what stands under a name depends on that collection's transactions alone.
use Rattle.std.proofs.Common.{◌≡◌, ℕ, Bool, true, false, cond, List, [], ◌∷◌, ◌++◌, filter, Option, Some, None, Ok, Err, refl, sym, ap, ◌∙◌}
use Rattle.std.specs.Cmp.Lexicographic.{nat_list_cmp_total}
use Rattle.std.specs.FinMap as finite
use Rattle.byte_maps.proofs.Prelude.{same}
use Rattle.object_model.specs.declared.op.Refusal.{Refusal}
use Rattle.object_model.specs.Prelude.{Collection, Objects, Outcome, Change, effects, with_collection, transaction_effect, ok_or, replay, is_same, ◌>>=◌, names_of, is_named, any_named, changes_on, HaveOneName}
use Rattle.object_model.proofs.Names.{same_name, is_same_itself, is_own, own_test, none_common}

pub replay-append : (objects : Objects) (xs ys : List Change) → replay objects (xs ++ ys) ≡ replay (replay objects xs) ys
replay-append objects [] ys = refl
replay-append objects (x ∷ xs) ys = replay-append (ok_or (transaction_effect x objects) objects) xs ys

pub replay-refused : (objects : Objects) (t : Change) (refusal : Refusal) → transaction_effect t objects ≡ Err refusal → replay objects (t ∷ []) ≡ objects
replay-refused objects t refusal e = ap (λ r. ok_or r objects) e

-- what stands under the name of a collection after an outcome
settled : Outcome → Option Collection → Option Collection
settled (Ok after) before = after
settled (Err refusal) before = before

-- what stands under a name after a transaction, and after several, given what stood there before
abbrev seen_from : List ℕ → Change → Option Collection → Option Collection
seen_from coll t before = cond (is_same coll t.coll) (settled (effects t.ops before) before) before

abbrev seen_after : List ℕ → List Change → Option Collection → Option Collection
seen_after coll [] before = before
seen_after coll (t ∷ ts) before = seen_after coll ts (seen_from coll t before)

unchanged : (objects : Objects) (coll name : List ℕ) (b : Bool) → is_same coll name ≡ b → finite.get objects coll ≡ cond b (finite.get objects name) (finite.get objects coll)
unchanged objects coll name true e = ap (finite.get objects) (same_name coll name e)
unchanged objects coll name false e = refl

placed : (objects : Objects) (name coll : List ℕ) (r : Outcome) → finite.get (ok_or (r >>= λ c. Ok (with_collection objects name c)) objects) coll ≡ cond (is_same coll name) (settled r (finite.get objects name)) (finite.get objects coll)
unfolding settled
placed objects name coll (Ok None) = finite.get-remove nat_list_cmp_total objects name coll
placed objects name coll (Ok (Some c)) = finite.get-insert nat_list_cmp_total objects name c coll
placed objects name coll (Err refusal) = unchanged objects coll name (is_same coll name) refl

named : (objects : Objects) (t : Change) (coll : List ℕ) (b : Bool) → is_same coll t.coll ≡ b
    → cond b (settled (effects t.ops (finite.get objects t.coll)) (finite.get objects t.coll)) (finite.get objects coll) ≡ cond b (settled (effects t.ops (finite.get objects coll)) (finite.get objects coll)) (finite.get objects coll)
named objects t coll true e = ap (λ n. settled (effects t.ops (finite.get objects n)) (finite.get objects n)) (sym (same_name coll t.coll e))
named objects t coll false e = refl

get-replay : (objects : Objects) (ts : List Change) (coll : List ℕ) → finite.get (replay objects ts) coll ≡ seen_after coll ts (finite.get objects coll)
get-replay objects [] coll = refl
get-replay objects (t ∷ ts) coll = get-replay (ok_or (transaction_effect t objects) objects) ts coll
    ∙ ap (seen_after coll ts) (placed objects t.coll coll (effects t.ops (finite.get objects t.coll)) ∙ named objects t coll (is_same coll t.coll) refl)

seen_after-filter : (coll : List ℕ) (ts : List Change) (before : Option Collection) → seen_after coll ts before ≡ seen_after coll (filter (λ t. is_same coll t.coll) ts) before
seen_after-filter coll [] before = refl
seen_after-filter coll (t ∷ ts) before =
    let own : List Change = filter (λ t. is_same coll t.coll) ts in
    let after : Option Collection = settled (effects t.ops before) before in
    elim (is_same coll t.coll) as (λ b. is_same coll t.coll ≡ b → seen_after coll ts (cond b after before) ≡ seen_after coll (cond b (t ∷ own) own) before) [
      | true ↦ λ e. seen_after-filter coll ts after ∙ ap (λ b. seen_after coll own (cond b after before)) (sym e)
      | false ↦ λ e. seen_after-filter coll ts before
    ] refl

replay-by_own : (objects : Objects) (xs ys : List Change) → ((coll : List ℕ) → filter (λ t. is_same coll t.coll) xs ≡ filter (λ t. is_same coll t.coll) ys) → replay objects xs ≡ replay objects ys
replay-by_own objects xs ys alike = same _ _ (λ coll.
    get-replay objects xs coll ∙ seen_after-filter coll xs (finite.get objects coll)
    ∙ ap (λ ts. seen_after coll ts (finite.get objects coll)) (alike coll)
    ∙ sym (get-replay objects ys coll ∙ seen_after-filter coll ys (finite.get objects coll)))

-- of transactions of one name these are the ones that name it
changes_of_one : (coll : List ℕ) (ts : List Change) → HaveOneName ts → changes_on coll ts ≡ filter (λ t. is_same coll t.coll) ts
changes_of_one coll [] one = refl
changes_of_one coll (t ∷ ts) one =
    ap (λ (b : Bool). cond b (t ∷ changes_on coll ts) (changes_on coll ts)) (own_test t coll one.0)
    ∙ ap (λ (l : List Change). cond (is_same coll t.coll) (t ∷ l) l) (changes_of_one coll ts one.1)

pub replay-by_collections : (objects : Objects) (xs ys : List Change) → HaveOneName xs → HaveOneName ys
    → ((coll : List ℕ) → changes_on coll xs ≡ changes_on coll ys) → replay objects xs ≡ replay objects ys
replay-by_collections objects xs ys one_x one_y alike =
    replay-by_own objects xs ys (λ coll. sym (changes_of_one coll xs one_x) ∙ alike coll ∙ changes_of_one coll ys one_y)

-- ---- collections that are not named

true_or_false : true ≡ false → ⊥
true_or_false e = cc

-- no collection that isn't named is the transaction's own
not_own : (t : Change) (coll : List ℕ) → is_named coll (names_of t) ≡ false → is_same coll t.coll ≡ false
not_own t coll other = by_test (is_same coll t.coll) refl
  where
    by_test : (b : Bool) → is_same coll t.coll ≡ b → b ≡ false
    by_test true e = sym (is_own t) ∙ ap (λ (c : List ℕ). is_named c (names_of t)) (sym (same_name coll t.coll e)) ∙ other
    by_test false e = refl

pub replay-other : (objects : Objects) (t : Change) (coll : List ℕ) → is_named coll (names_of t) ≡ false → finite.get (replay objects (t ∷ [])) coll ≡ finite.get objects coll
replay-other objects t coll other = get-replay objects (t ∷ []) coll
    ∙ ap (λ b. cond b (settled (effects t.ops (finite.get objects coll)) (finite.get objects coll)) (finite.get objects coll)) (not_own t coll other)

either_order : (t u : Change) (a b : Bool) → (a ≡ true → b ≡ true → ⊥) → cond a (t ∷ cond b (u ∷ []) []) (cond b (u ∷ []) []) ≡ cond b (u ∷ cond a (t ∷ []) []) (cond a (t ∷ []) [])
either_order t u true true apart = absurd (apart refl refl)
either_order t u true false apart = refl
either_order t u false b apart = refl

pub replay-swapped : (objects : Objects) (t u : Change) → any_named (names_of t) (names_of u) ≡ false → replay objects (t ∷ u ∷ []) ≡ replay objects (u ∷ t ∷ [])
replay-swapped objects t u apart = replay-by_own objects (t ∷ u ∷ []) (u ∷ t ∷ []) (λ coll. either_order t u _ _ (λ of_t of_u.
    let one : t.coll ≡ u.coll = sym (same_name coll t.coll of_t) ∙ same_name coll u.coll of_u in
    true_or_false (sym (is_same_itself t.coll) ∙ ap (is_same t.coll) one ∙ not_own u t.coll (none_common (names_of t) (names_of u) t.coll apart (is_own t)))))
