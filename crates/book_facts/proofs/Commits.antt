-- One more commit, and one more acknowledgement.
use Rattle.std.proofs.Common.{◌≡◌, ℕ, ◌+◌, ◌<◌, ◌≤◌, Bool, true, false, cond, List, [], ◌∷◌, ◌++◌, length, map, filter, Option}
use Rattle.std.proofs.Common.{Some, None, refl, sym, ap, subst, ◌∙◌, arith}
use Rattle.run_facts.proofs.Common.{AllByRecursion, IsDistinct, cons_option, ne_eqb, Entry, Commit, Change, change_at, committed, is_on, committed_places}
use Rattle.std.specs.Prelude.{is_some, IsSome, IsNone, IfSome, nat_eq, MatchOption, filter_map}
use Rattle.std.specs.List.{list_any}
use Rattle.std.proofs.lemmas.List.Sums.{sum_by-cons, sum_by_push}
use Rattle.object_model.specs.Prelude.{AreAckedFrom, acked_count}
use Rattle.store_steps.specs.Prelude.{acknowledged}
use Rattle.book_facts.specs.Prelude.{commit_places}
use Rattle.flight_facts.proofs.Prelude.{all_left}

-- ---- facts of each element

pub all_push : {A : Type 0} (P : A → Type 0) (xs : List A) (y : A) → AllByRecursion P xs → P y → AllByRecursion P (xs ++ y ∷ [])
all_push P [] y all is = (is, tt)
all_push P (x ∷ xs) y all is = (all.0, all_push P xs y all.1 is)

pub all_then : {A : Type 0} (P Q : A → Type 0) (xs : List A) → ((x : A) → P x → Q x) → AllByRecursion P xs → AllByRecursion Q xs
all_then P Q [] more all = tt
all_then P Q (x ∷ xs) more all = (more x all.0, all_then P Q xs more all.1)

-- ---- acknowledgements

none_acked_push : (cs : List Commit) (c : Commit) → c.acked_at ≡ None → AllByRecursion (λ d. IsNone d.acked_at) cs
    → AllByRecursion (λ d. IsNone d.acked_at) (cs ++ c ∷ [])
none_acked_push cs c is none = all_push (λ d. IsNone d.acked_at) cs c none (ap is_some is)

none_acked : (least : ℕ) (cs : List Commit) → AllByRecursion (λ d. IsNone d.acked_at) cs → AreAckedFrom least cs
none_acked least [] none = tt
none_acked least (c ∷ cs) none = by_acked c.acked_at none.0
  where
    by_acked : (o : Option ℕ) → IsNone o → MatchOption o (AllByRecursion (λ d. IsNone d.acked_at) cs) (λ a. (least ≤ a) × AreAckedFrom a cs)
    by_acked None is = none.1
    by_acked (Some a) is = absurd cc

pub acked_push : (least : ℕ) (cs : List Commit) (c : Commit) → c.acked_at ≡ None → AreAckedFrom least cs → AreAckedFrom least (cs ++ c ∷ [])
acked_push least [] c is are = none_acked least (c ∷ []) (ap is_some is, tt)
acked_push least (x ∷ cs) c is are = by_acked x.acked_at are (λ a from. acked_push a cs c is from)
  where
    by_acked : (o : Option ℕ) → MatchOption o (AllByRecursion (λ d. IsNone d.acked_at) cs) (λ a. (least ≤ a) × AreAckedFrom a cs)
        → ((a : ℕ) → AreAckedFrom a cs → AreAckedFrom a (cs ++ c ∷ []))
        → MatchOption o (AllByRecursion (λ d. IsNone d.acked_at) (cs ++ c ∷ [])) (λ a. (least ≤ a) × AreAckedFrom a (cs ++ c ∷ []))
    by_acked None none more = none_acked_push cs c is none
    by_acked (Some a) from more = (from.0, more a from.1)

abbrev pub AreByNow : ℕ → List Commit → Type 0
AreByNow events cs = AllByRecursion (λ c. IfSome c.acked_at (λ a. a ≤ events)) cs

pub by_now_more : (events more : ℕ) (cs : List Commit) → events ≤ more → AreByNow events cs → AreByNow more cs
by_now_more events more cs le are =
    all_then (λ c. IfSome c.acked_at (λ a. a ≤ events)) (λ c. IfSome c.acked_at (λ a. a ≤ more)) cs (λ c is. by_acked c.acked_at is) are
  where
    by_acked : (o : Option ℕ) → IfSome o (λ a. a ≤ events) → IfSome o (λ a. a ≤ more)
    by_acked None is = tt
    by_acked (Some a) is = omega (arith, is, le)

pub by_now_acknowledged : (events : ℕ) (cs : List Commit) → AreByNow events cs → AreByNow events (acknowledged events cs)
by_now_acknowledged events [] are = tt
by_now_acknowledged events (c ∷ cs) are = by_test (is_some c.acked_at) (by_now_acknowledged events cs are.1)
  where
    by_test : (b : Bool) → AreByNow events (acknowledged events cs)
        → AreByNow events (cond b (c ∷ acknowledged events cs) (record c { acked_at = Some events } ∷ cs))
    by_test true more = (are.0, more)
    by_test false more = (omega arith, are.1)

pub acked_acknowledged : (least events : ℕ) (cs : List Commit) → least ≤ events → AreByNow events cs → AreAckedFrom least cs
    → AreAckedFrom least (acknowledged events cs)
acked_acknowledged least events [] le now are = tt
acked_acknowledged least events (c ∷ cs) le now are = by_acked c.acked_at refl now.0 are (λ a below from. acked_acknowledged a events cs below now.1 from)
  where
    by_acked : (o : Option ℕ) → c.acked_at ≡ o → IfSome o (λ a. a ≤ events)
        → MatchOption o (AllByRecursion (λ d. IsNone d.acked_at) cs) (λ a. (least ≤ a) × AreAckedFrom a cs)
        → ((a : ℕ) → a ≤ events → AreAckedFrom a cs → AreAckedFrom a (acknowledged events cs))
        → AreAckedFrom least (cond (is_some c.acked_at) (c ∷ acknowledged events cs) (record c { acked_at = Some events } ∷ cs))
    by_acked None e below none more = subst (λ (b : Bool). AreAckedFrom least (cond b (c ∷ acknowledged events cs) (record c { acked_at = Some events } ∷ cs)))
        (sym (ap is_some e)) (le, none_acked events cs none)
    by_acked (Some a) e below from more =
        subst (λ (b : Bool). AreAckedFrom least (cond b (c ∷ acknowledged events cs) (record c { acked_at = Some events } ∷ cs)))
        (sym (ap is_some e))
        (subst (λ (o : Option ℕ). MatchOption o (AllByRecursion (λ d. IsNone d.acked_at) (acknowledged events cs))
        (λ n. (least ≤ n) × AreAckedFrom n (acknowledged events cs)))
        (sym e) (from.0, more a below from.1))

-- how many are acknowledged

abbrev pub one_if : Bool → ℕ
one_if b = cond b 1 0

pub count_cons : (c : Commit) (cs : List Commit) → acked_count (c ∷ cs) ≡ one_if (is_some c.acked_at) + acked_count cs
count_cons c cs = sum_by-cons (λ (d : Commit). one_if (is_some d.acked_at)) c cs

pub count_push : (cs : List Commit) (c : Commit) → c.acked_at ≡ None → acked_count (cs ++ c ∷ []) ≡ acked_count cs
count_push cs c is =
    let more = sum_by_push (λ (d : Commit). one_if (is_some d.acked_at)) cs c in
    let none = ap (λ (o : Option ℕ). one_if (is_some o)) is in
    omega (arith, more, none)

pub count_acknowledged : (events : ℕ) (cs : List Commit) → acked_count cs < length cs → acked_count (acknowledged events cs) ≡ acked_count cs + 1
count_acknowledged events [] some = absurd (omega (arith, some))
count_acknowledged events (c ∷ cs) some = by_test (is_some c.acked_at) refl (count_acknowledged events cs)
  where
    by_test : (b : Bool) → is_some c.acked_at ≡ b → (acked_count cs < length cs → acked_count (acknowledged events cs) ≡ acked_count cs + 1)
        → acked_count (cond b (c ∷ acknowledged events cs) (record c { acked_at = Some events } ∷ cs)) ≡ acked_count (c ∷ cs) + 1
    by_test true e more =
        let old : acked_count (c ∷ cs) ≡ 1 + acked_count cs = count_cons c cs ∙ ap (λ (b : Bool). one_if b + acked_count cs) e in
        let less : acked_count cs < length cs = omega (arith, old, some) in
        let new : acked_count (c ∷ acknowledged events cs) ≡ 1 + acked_count (acknowledged events cs) =
        count_cons c (acknowledged events cs) ∙ ap (λ (b : Bool). one_if b + acked_count (acknowledged events cs)) e in
        omega (arith, old, new, more less)
    by_test false e more =
        let old : acked_count (c ∷ cs) ≡ 0 + acked_count cs = count_cons c cs ∙ ap (λ (b : Bool). one_if b + acked_count cs) e in
        let now : Commit = record c { acked_at = Some events } in
        let new : acked_count (now ∷ cs) ≡ 1 + acked_count cs = count_cons now cs in
        omega (arith, old, new)

-- ---- an acknowledgement changes no place

pub places_acknowledged : (events : ℕ) (cs : List Commit) → commit_places (acknowledged events cs) ≡ commit_places cs
places_acknowledged events [] = refl
places_acknowledged events (c ∷ cs) = by_test (is_some c.acked_at) (places_acknowledged events cs)
  where
    by_test : (b : Bool) → commit_places (acknowledged events cs) ≡ commit_places cs
        → commit_places (cond b (c ∷ acknowledged events cs) (record c { acked_at = Some events } ∷ cs)) ≡ c.place ∷ commit_places cs
    by_test true more = ap (λ (l : List ℕ). c.place ∷ l) more
    by_test false more = refl

-- what is said of the places of commits alone
abbrev pub AreAtPlaces : List Entry → List ℕ → Type 0
AreAtPlaces es ps = AllByRecursion (λ p. IsSome (change_at es p)) ps

pub at_places : (es : List Entry) (cs : List Commit) → AllByRecursion (λ c. IsSome (change_at es c.place)) cs → AreAtPlaces es (commit_places cs)
at_places es [] all = tt
at_places es (c ∷ cs) all = (all.0, at_places es cs all.1)

pub of_places : (es : List Entry) (cs : List Commit) → AreAtPlaces es (commit_places cs) → AllByRecursion (λ c. IsSome (change_at es c.place)) cs
of_places es [] all = tt
of_places es (c ∷ cs) all = (all.0, of_places es cs all.1)

-- the places on a collection, and the transactions, by the commits' places
abbrev pub places_on : List ℕ → List Entry → List ℕ → List ℕ
places_on coll es ps = filter (λ p. is_on coll (change_at es p)) ps

pub places_by_places : (coll : List ℕ) (es : List Entry) (cs : List Commit) → committed_places coll es cs ≡ places_on coll es (commit_places cs)
places_by_places coll es [] = refl
places_by_places coll es (c ∷ cs) = by_test (is_on coll (change_at es c.place)) (places_by_places coll es cs)
  where
    by_test : (b : Bool) → committed_places coll es cs ≡ places_on coll es (commit_places cs)
        → map (λ (d : Commit). d.place)
        (cond b (c ∷ filter (λ (d : Commit). is_on coll (change_at es d.place)) cs) (filter (λ (d : Commit). is_on coll (change_at es d.place)) cs))
        ≡ cond b (c.place ∷ places_on coll es (commit_places cs)) (places_on coll es (commit_places cs))
    by_test true more = ap (λ (l : List ℕ). c.place ∷ l) more
    by_test false more = more

abbrev pub changes_at : List Entry → List ℕ → List Change
changes_at es ps = filter_map (change_at es) ps

pub committed_by_places : (es : List Entry) (cs : List Commit) → committed es cs ≡ changes_at es (commit_places cs)
committed_by_places es [] = refl
committed_by_places es (c ∷ cs) = ap (λ (l : List Change). cons_option (change_at es c.place) l) (committed_by_places es cs)

-- ---- distinct places

pub distinct_front : (xs ys : List ℕ) → IsDistinct nat_eq (xs ++ ys) → IsDistinct nat_eq xs
unfolding IsDistinct
distinct_front [] ys is = tt
distinct_front (x ∷ xs) ys is = (all_left (λ y. nat_eq x y ≡ false) xs ys is.0, distinct_front xs ys is.1)

pub none_above : (n : ℕ) (ps : List ℕ) → AllByRecursion (λ p. p < n) ps → list_any (nat_eq n) ps ≡ false
none_above n [] all = refl
none_above n (p ∷ ps) all =
    let apart : nat_eq n p ≡ false = ne_eqb n p (λ e. omega (arith, e, all.0)) in
    rw apart (none_above n ps all.1)
