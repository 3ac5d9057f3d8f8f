-- The clients, one of which is changed, and which of them can go on.
use Rattle.std.proofs.Common.{◌≡◌, ℕ, zero, suc, ◌+◌, ◌<◌, ◌≤◌, Bool, true, false, cond, List, [], ◌∷◌, ◌++◌, map, length, take, Some}
use Rattle.std.proofs.Common.{ap, ◌∙◌, sym, refl, subst, arith, length-append, append-nil, nat_lt}
use Rattle.std.proofs.lemmas.Bool.{lt-ltb, le-ltb}
use Rattle.book_facts.proofs.Prelude.{all_push}
use Rattle.std.specs.Prelude.{slice_get, slice_index_or, slice_set, insert, remove}
use Rattle.std.specs.List.{AllByRecursion}
use Rattle.script_text.specs.declared.line.Line.{Line}
use Rattle.client_runs.specs.declared.client.Client.{Client}
use Rattle.client_runs.specs.Prelude.{Ask, asks_of, left_of, lefts, IsClient, IsNewClient, is_able, TakesLine, able_of, below, able_after, changed, IsOfOne, TakesOf}
use Rattle.client_runs.proofs.DrawLemmas.{item_at}

-- ---- those that can go on

-- the clients up to one more
pub able_taken : (number i : ℕ) (cs : List Client) (c : Client) → slice_get cs i ≡ Some c
    → able_of number (take (suc i) cs) ≡ able_of number (take i cs) ++ cond (is_able c) ((number + i) ∷ []) []
able_taken number i [] c at = absurd cc
able_taken number zero (x ∷ xs) c at =
    let same : x ≡ c = cc in
    ap (λ (y : Client). cond (is_able y) (number ∷ []) []) same
    ∙ ap (λ (n : ℕ). cond (is_able c) (n ∷ []) []) {x = number} {y = number + 0} (omega arith)
able_taken number (suc i) (x ∷ xs) c at = by_able (is_able x) (able_taken (number + 1) i xs c at)
  where
    front : List ℕ
    front = able_of (number + 1) (take i xs)

    by_able : (b : Bool) → able_of (number + 1) (take (suc i) xs) ≡ front ++ cond (is_able c) ((number + 1 + i) ∷ []) []
        → cond b (number ∷ able_of (number + 1) (take (suc i) xs)) (able_of (number + 1) (take (suc i) xs))
        ≡ cond b (number ∷ front) front ++ cond (is_able c) ((number + suc i) ∷ []) []
    by_able true ih = ap (λ (l : List ℕ). number ∷ l) ih
        ∙ ap (λ (n : ℕ). number ∷ (front ++ cond (is_able c) (n ∷ []) [])) {x = number + 1 + i} {y = number + suc i} (omega arith)
    by_able false ih = ih ∙ ap (λ (n : ℕ). front ++ cond (is_able c) (n ∷ []) []) {x = number + 1 + i} {y = number + suc i} (omega arith)

-- with one that can go on, and with one that can't
pub able_on : (i j : ℕ) (cs : List Client) (d : Client) → i < length cs → j ≡ i + 1 → is_able (slice_index_or cs i d) ≡ true
    → able_of 0 (take j cs) ≡ able_of 0 (take i cs) ++ (i ∷ [])
able_on i j cs d within next able =
    let c : Client = slice_index_or cs i d in
    ap (λ (n : ℕ). able_of 0 (take n cs)) {x = j} {y = suc i} (omega (arith, next))
    ∙ (able_taken 0 i cs c (item_at i cs d within)
    ∙ (ap (λ (b : Bool). able_of 0 (take i cs) ++ cond b ((0 + i) ∷ []) []) able
    ∙ ap (λ (n : ℕ). able_of 0 (take i cs) ++ (n ∷ [])) {x = 0 + i} {y = i} (omega arith)))

pub able_off : (i j : ℕ) (cs : List Client) (d : Client) → i < length cs → j ≡ i + 1 → is_able (slice_index_or cs i d) ≡ false
    → able_of 0 (take j cs) ≡ able_of 0 (take i cs)
able_off i j cs d within next able =
    let c : Client = slice_index_or cs i d in
    ap (λ (n : ℕ). able_of 0 (take n cs)) {x = j} {y = suc i} (omega (arith, next))
    ∙ (able_taken 0 i cs c (item_at i cs d within)
    ∙ (ap (λ (b : Bool). able_of 0 (take i cs) ++ cond b ((0 + i) ∷ []) []) able ∙ append-nil (able_of 0 (take i cs))))

-- they are no more than the clients
pub able_few : (number : ℕ) (cs : List Client) → length (able_of number cs) ≤ length cs
able_few number [] = omega arith
able_few number (c ∷ cs) = by_able (is_able c) (able_few (number + 1) cs)
  where
    by_able : (b : Bool) → length (able_of (number + 1) cs) ≤ length cs
        → length (cond b (number ∷ able_of (number + 1) cs) (able_of (number + 1) cs)) ≤ suc (length cs)
    by_able true few = omega (arith, few)
    by_able false few = omega (arith, few)

-- ---- one is changed

pub set_changes : (i : ℕ) (cs : List Client) (y : Client) → slice_set cs i y ≡ changed i (λ c. y) cs
set_changes i [] y = refl
set_changes zero (x ∷ xs) y = refl
set_changes (suc i) (x ∷ xs) y = ap (λ (l : List Client). x ∷ l) (set_changes i xs y)

-- it is changed by a function of what it was
pub changed_as : (i : ℕ) (cs : List Client) (f : Client → Client) (c : Client) → slice_get cs i ≡ Some c → changed i (λ x. f c) cs ≡ changed i f cs
changed_as i [] f c at = absurd cc
changed_as zero (x ∷ xs) f c at = let same : c ≡ x = cc in ap (λ (y : Client). f y ∷ xs) same
changed_as (suc i) (x ∷ xs) f c at = ap (λ (l : List Client). x ∷ l) (changed_as i xs f c at)

-- there is one
pub there_is : (P : Client → Type 0) (i : ℕ) (cs : List Client) → IsOfOne P i cs → i < length cs
there_is P i [] is = absurd is
there_is P zero (x ∷ xs) is = omega arith
there_is P (suc i) (x ∷ xs) is = let below = there_is P i xs is in omega (arith, below)

pub get_one : (P : Client → Type 0) (i : ℕ) (cs : List Client) (d : Client) → IsOfOne P i cs → P (slice_index_or cs i d)
get_one P i [] d is = absurd is
get_one P zero (x ∷ xs) d is = is
get_one P (suc i) (x ∷ xs) d is = get_one P i xs d is

pub all_at : (P : Client → Type 0) (i : ℕ) (cs : List Client) (d : Client) → i < length cs → AllByRecursion P cs → P (slice_index_or cs i d)
all_at P i [] d below all = absurd (omega (arith, below))
all_at P zero (x ∷ xs) d below all = all.0
all_at P (suc i) (x ∷ xs) d below all = all_at P i xs d (omega (arith, below)) all.1

-- a set item is changed by a function
pub set_by : (P : Client → Type 0) (f : Client → Client) (i : ℕ) (cs : List Client) (c d y : Client) → IsOfOne P i cs → c ≡ slice_index_or cs i d → y ≡ f c
    → slice_set cs i y ≡ changed i f cs
set_by P f i cs c d y there is new =
    set_changes i cs y
    ∙ (ap (λ (z : Client). changed i (λ x. z) cs) new
    ∙ (ap (λ (z : Client). changed i (λ x. f z) cs) is
    ∙ changed_as i cs f (slice_index_or cs i d) (item_at i cs d (there_is P i cs there))))

-- ---- who can go on after a change

-- none of those behind is below
below_none : (n first : ℕ) (cs : List Client) → n ≤ first → below n (able_of first cs) ≡ 0
below_none n first [] none = refl
below_none n first (c ∷ cs) none = by_able (is_able c) (below_none n (first + 1) cs (omega (arith, none)))
  where
    by_able : (b : Bool) → below n (able_of (first + 1) cs) ≡ 0 → below n (cond b (first ∷ able_of (first + 1) cs) (able_of (first + 1) cs)) ≡ 0
    by_able true ih = ap (λ (b : Bool). cond b (suc (below n (able_of (first + 1) cs))) 0) (le-ltb first n none)
    by_able false ih = ih

-- behind a lower number
after_lower : (n first : ℕ) (was is : Bool) (able : List ℕ) → first < n → able_after n was is (first ∷ able) ≡ first ∷ able_after n was is able
after_lower n first true true able lower = refl
after_lower n first false false able lower = refl
after_lower n first true false able lower = ap (λ (b : Bool). remove (first ∷ able) (cond b (suc (below n able)) 0)) (lt-ltb first n lower)
after_lower n first false true able lower = ap (λ (b : Bool). insert (first ∷ able) (cond b (suc (below n able)) 0) n) (lt-ltb first n lower)

-- in front of higher ones
after_higher : (n : ℕ) (was is : Bool) (cs : List Client)
    → cond is (n ∷ able_of (n + 1) cs) (able_of (n + 1) cs) ≡ able_after n was is (cond was (n ∷ able_of (n + 1) cs) (able_of (n + 1) cs))
after_higher n true true cs = refl
after_higher n false false cs = refl
after_higher n true false cs =
    sym (ap (λ (b : Bool). remove (n ∷ able_of (n + 1) cs) (cond b (suc (below n (able_of (n + 1) cs))) 0)) (le-ltb n n (omega arith)))
after_higher n false true cs = sym (ap (λ (k : ℕ). insert (able_of (n + 1) cs) k n) (below_none n (n + 1) cs (omega arith)))

-- those that can go on, of which one was changed
pub able_changed : (first i n : ℕ) (f : Client → Client) (cs : List Client) (c : Client) → n ≡ first + i → slice_get cs i ≡ Some c
    → able_of first (changed i f cs) ≡ able_after n (is_able c) (is_able (f c)) (able_of first cs)
able_changed first i n f [] c is at = absurd cc
able_changed first zero n f (x ∷ xs) c is at =
    let same : x ≡ c = cc in
    let here : n ≡ first = omega (arith, is) in
    ap (λ (y : Client). cond (is_able (f y)) (first ∷ able_of (first + 1) xs) (able_of (first + 1) xs)) same
    ∙ (after_higher first (is_able c) (is_able (f c)) xs
    ∙ (ap (λ (m : ℕ). able_after m (is_able c) (is_able (f c)) (cond (is_able c) (first ∷ able_of (first + 1) xs) (able_of (first + 1) xs))) (sym here)
    ∙ ap (λ (y : Client). able_after n (is_able c) (is_able (f c)) (cond (is_able y) (first ∷ able_of (first + 1) xs) (able_of (first + 1) xs))) (sym same)))
able_changed first (suc i) n f (x ∷ xs) c is at = by_able (is_able x) (able_changed (first + 1) i n f xs c (omega (arith, is)) at)
  where
    old : List ℕ
    old = able_of (first + 1) xs

    new : List ℕ
    new = able_of (first + 1) (changed i f xs)

    by_able : (b : Bool) → new ≡ able_after n (is_able c) (is_able (f c)) old
        → cond b (first ∷ new) new ≡ able_after n (is_able c) (is_able (f c)) (cond b (first ∷ old) old)
    by_able true ih = ap (λ (l : List ℕ). first ∷ l) ih ∙ sym (after_lower n first (is_able c) (is_able (f c)) old (omega (arith, is)))
    by_able false ih = ih

-- one that can go on is among them
pub able_there : (first i n : ℕ) (cs : List Client) (c : Client) → n ≡ first + i → slice_get cs i ≡ Some c → is_able c ≡ true
    → below n (able_of first cs) < length (able_of first cs)
able_there first i n [] c is at able = absurd cc
able_there first zero n (x ∷ xs) c is at able =
    let same : x ≡ c = cc in
    by_able (is_able x) (ap is_able same ∙ able)
  where
    by_able : (b : Bool) → b ≡ true
        → below n (cond b (first ∷ able_of (first + 1) xs) (able_of (first + 1) xs)) < length (cond b (first ∷ able_of (first + 1) xs) (able_of (first + 1) xs))
    by_able true can = omega (
      arith,
      ap (λ (b : Bool). cond b (suc (below n (able_of (first + 1) xs))) 0) (le-ltb first n (omega (arith, is))),
    )
    by_able false cannot = absurd cc
able_there first (suc i) n (x ∷ xs) c is at able = by_able (is_able x) (able_there (first + 1) i n xs c (omega (arith, is)) at able)
  where
    old : List ℕ
    old = able_of (first + 1) xs

    by_able : (b : Bool) → below n old < length old → below n (cond b (first ∷ old) old) < length (cond b (first ∷ old) old)
    by_able true ih = omega (arith, ih, ap (λ (b : Bool). cond b (suc (below n old)) 0) (lt-ltb first n (omega (arith, is))))
    by_able false ih = ih

-- where one can't, they are fewer than the clients
pub able_fewer : (first i : ℕ) (cs : List Client) (c : Client) → slice_get cs i ≡ Some c → is_able c ≡ false → length (able_of first cs) < length cs
able_fewer first i [] c at able = absurd cc
able_fewer first zero (x ∷ xs) c at able =
    let same : x ≡ c = cc in
    by_able (is_able x) (ap is_able same ∙ able)
  where
    by_able : (b : Bool) → b ≡ false → length (cond b (first ∷ able_of (first + 1) xs) (able_of (first + 1) xs)) < suc (length xs)
    by_able true can = absurd cc
    by_able false cannot = let few = able_few (first + 1) xs in omega (arith, few)
able_fewer first (suc i) (x ∷ xs) c at able = by_able (is_able x) (able_fewer (first + 1) i xs c at able)
  where
    by_able : (b : Bool) → length (able_of (first + 1) xs) < length xs
        → length (cond b (first ∷ able_of (first + 1) xs) (able_of (first + 1) xs)) < suc (length xs)
    by_able true ih = omega (arith, ih)
    by_able false ih = omega (arith, ih)

pub below_few : (n : ℕ) (able : List ℕ) → below n able ≤ length able
below_few n [] = omega arith
below_few n (x ∷ xs) = by_lower (nat_lt x n) (below_few n xs)
  where
    by_lower : (b : Bool) → below n xs ≤ length xs → cond b (suc (below n xs)) 0 ≤ suc (length xs)
    by_lower true ih = omega (arith, ih)
    by_lower false ih = omega arith

-- A client is looked at before and after a change: it is told whether it could go on, and whether it can.
module _ (client : ℕ) (cs : List Client) (able : List ℕ) (d : Client) (was : Bool) (ables : able ≡ able_of 0 cs) (there : client < length cs)
    (was_able : was ≡ is_able (slice_index_or cs client d)) where
  abbrev before : Client
  before = slice_index_or cs client d

  at : slice_get cs client ≡ Some before
  at = item_at client cs d there

  pub leaves_there : was ≡ true → below client able < length able
  leaves_there could = subst (λ (l : List ℕ). below client l < length l) (sym ables)
      (able_there 0 client client cs before (omega arith) at (sym was_able ∙ could))

  pub joins_within : was ≡ false → length cs ≤ 64 → length able < 64
  joins_within could_not few =
      let fewer = able_fewer 0 client cs before at (sym was_able ∙ could_not) in
      omega (arith, fewer, few, ap (λ (l : List ℕ). length l) ables)

  pub able_noted : (after : Client) (is : Bool) (cs' : List Client) (able' : List ℕ) → is ≡ is_able after → cs' ≡ slice_set cs client after
      → able' ≡ able_after client was is able → able' ≡ able_of 0 cs'
  able_noted after is cs' able' is_able_now set noted =
      noted
      ∙ (ap (λ (b : Bool). able_after client b is able) was_able
      ∙ (ap (λ (b : Bool). able_after client (is_able before) b able) is_able_now
      ∙ (ap (λ (l : List ℕ). able_after client (is_able before) (is_able after) l) ables
      ∙ (sym (able_changed 0 client client (λ c. after) cs before (omega arith) at)
      ∙ (ap (λ (l : List Client). able_of 0 l) (sym (set_changes client cs after)) ∙ ap (λ (l : List Client). able_of 0 l) (sym set))))))

-- what is left is as it was where a change leaves it so
pub lefts_same : (i : ℕ) (f : Client → Client) (cs : List Client) → ((c : Client) → left_of (f c) ≡ left_of c) → lefts (changed i f cs) ≡ lefts cs
lefts_same i f [] same = refl
lefts_same zero f (x ∷ xs) same = ap (λ (l : List Ask). l ∷ lefts xs) (same x)
lefts_same (suc i) f (x ∷ xs) same = ap (λ (l : List (List Ask)). left_of x ∷ l) (lefts_same i f xs same)

pub length_changed : (i : ℕ) (f : Client → Client) (cs : List Client) → length (changed i f cs) ≡ length cs
length_changed i f [] = refl
length_changed zero f (x ∷ xs) = refl
length_changed (suc i) f (x ∷ xs) = ap suc (length_changed i f xs)

pub well_changed : (P : Client → Type 0) (i : ℕ) (f : Client → Client) (cs : List Client) → ((c : Client) → P c → P (f c)) → AllByRecursion P cs
    → AllByRecursion P (changed i f cs)
well_changed P i f [] keeps all = tt
well_changed P zero f (x ∷ xs) keeps all = (keeps x all.0, all.1)
well_changed P (suc i) f (x ∷ xs) keeps all = (all.0, well_changed P i f xs keeps all.1)

-- ---- a command is taken

-- the next command of one of them
pub takes_of : (client : ℕ) (cs : List Client) (b d : Client) (l : Line) (after : Client) → client < length cs → b ≡ slice_index_or cs client d
    → TakesLine b l after → TakesOf client cs l (slice_set cs client after)
takes_of client cs b d l after there is takes = record {
  before = b;
  there = item_at client cs d there ∙ ap (λ (c : Client). Some c) (sym is);
  after = after;
  takes = takes;
  is = set_changes client cs after;
}

-- ---- new clients

-- how far making them has come
pub record IsMaking (scripts : List (List Line)) (all : List Client) (left : List (List Line)) : Type 0 where
  pub so_far : map asks_of scripts ≡ lefts all ++ map asks_of left
  pub well : AllByRecursion IsClient all
  pub none : AllByRecursion (λ c. c.unacked ≡ 0) all
  pub few : length all + length left ≤ 64

pub making_begins : (scripts left : List (List Line)) → left ≡ scripts → length scripts ≤ 64 → IsMaking scripts [] left
making_begins scripts left same few = record {
  so_far = ap (λ (l : List (List Line)). map asks_of l) (sym same);
  well = tt;
  none = tt;
  few = omega (arith, few, ap (λ (l : List (List Line)). length l) same);
}

lefts_push : (all : List Client) (c : Client) (more : List (List Ask)) → lefts (all ++ c ∷ []) ++ more ≡ lefts all ++ (left_of c ∷ more)
lefts_push [] c more = refl
lefts_push (x ∷ xs) c more = ap (λ (l : List (List Ask)). left_of x ∷ l) (lefts_push xs c more)

pub making_goes_on : (scripts left more : List (List Line)) (lines : List Line) (all : List Client) (c : Client) → IsMaking scripts all left
    → left ≡ lines ∷ more → IsNewClient lines c → IsMaking scripts (all ++ c ∷ []) more
making_goes_on scripts left more lines all c making is new = record {
  so_far =
      making.so_far
      ∙ (ap (λ (l : List (List Line)). lefts all ++ map asks_of l) is
      ∙ (ap (λ (l : List Ask). lefts all ++ (l ∷ map asks_of more)) (sym new.left) ∙ sym (lefts_push all c (map asks_of more))));
  well = all_push IsClient all c making.well new.well;
  none = all_push (λ k. k.unacked ≡ 0) all c making.none new.none;
  few = omega (arith, making.few, length-append all (c ∷ []), ap (λ (l : List (List Line)). length l) is);
}

pub making_ends : (scripts left : List (List Line)) (all : List Client) → IsMaking scripts all left → left ≡ [] → map asks_of scripts ≡ lefts all
making_ends scripts left all making none =
    making.so_far ∙ (ap (λ (l : List (List Line)). lefts all ++ map asks_of l) none ∙ append-nil (lefts all))
