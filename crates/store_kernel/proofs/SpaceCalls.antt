-- Units that are taken one after the other, and given back one after the other.
use Rattle.std.proofs.Common.{◌≡◌, ℕ, ◌+◌, ◌^◌, ◌<◌, ◌≤◌, false, List, [], ◌∷◌, ◌++◌, map, drop, length, get_or, refl, sym, ap, subst, ◌∙◌, append_assoc, arith}
use Rattle.std.specs.List.{AllByRecursion, flat_map}
use Rattle.std.proofs.lemmas.List.{drop_more}
use Rattle.unit_fields.specs.Prelude.{Ascends}
use Rattle.plan_rows.specs.declared.plan.FreshUnit.{FreshUnit}
use Rattle.unit_allocator.specs.Prelude.{Space, IsWithin, is_free, taken_one, given_one, taken, given}
use Rattle.unit_allocator.proofs.FreeUnits.{taken_is_not_free, range_stays}
use Rattle.store_steps.specs.declared.context.Context.{Context}
use Rattle.store_kernel.specs.Units.{IsFreeUnit, IsTakenUnit, CanBeTaken, CanBeGiven}

-- what is left begins with the item of this turn
item_left : {A : Type 0} (xs : List A) (i : ℕ) (x : A) → i < length xs → x ≡ get_or xs i x → drop i xs ≡ x ∷ drop (i + 1) xs
item_left xs i x below is = drop_more xs i x below ∙ ap (λ y. y ∷ drop (i + 1) xs) (sym is)

-- ---- taking

-- the units ascend, and each is free
pub record CanTake (units : List ℕ) (space : Space) : Type 0 where
  pub ascend : Ascends units
  pub free : CanBeTaken units space

above_free : (space : Space) (u : ℕ) (units : List ℕ) → IsFreeUnit space u → AllByRecursion (λ v. u < v) units → CanBeTaken units space
    → CanBeTaken units (taken_one space u)
above_free space u [] one above free = tt
above_free space u (v ∷ units) one above free = (
  record {
    within = (range_stays space u v (free.0).within).0;
    free = (taken_is_not_free space u one.within).1 v (free.0).within (λ e. omega (arith, e, above.0)) ∙ (free.0).free;
  },
  above_free space u units one above.1 free.1,
)

-- those behind the first one stay free where it is taken
pub can_take_more : (f : FreshUnit) (fresh : List FreshUnit) (space : Space) → CanTake (map (λ g. g.unit) (f ∷ fresh)) space
    → CanTake (map (λ g. g.unit) fresh) (taken_one space f.unit)
can_take_more f fresh space can = record {
  ascend = can.ascend.1;
  free = above_free space f.unit (map (λ (g : FreshUnit). g.unit) fresh) can.free.0 can.ascend.0 can.free.1;
}

-- the loop that takes: what is left to take of these units
pub record TakesOn (fresh : List FreshUnit) (start space : Space) (i : ℕ) : Type 0 where
  pub ahead : taken space (map (λ f. f.unit) (drop i fresh)) ≡ taken start (map (λ f. f.unit) fresh)
  pub can : CanTake (map (λ f. f.unit) (drop i fresh)) space

pub takes_on : (fresh : List FreshUnit) (start space after : Space) (i : ℕ) (f : FreshUnit) → i < length fresh → f ≡ get_or fresh i f
    → after ≡ taken_one space f.unit
    → taken space (map (λ g. g.unit) (drop i fresh)) ≡ taken start (map (λ g. g.unit) fresh) → CanTake (map (λ g. g.unit) (drop i fresh)) space
    → TakesOn fresh start after (i + 1)
takes_on fresh start space after i f below is made ahead can =
    let rest : List FreshUnit = drop (i + 1) fresh in
    let left : drop i fresh ≡ f ∷ rest = item_left fresh i f below is in
    subst (λ (s : Space). TakesOn fresh start s (i + 1)) (sym made) (record {
      ahead = sym (ap (λ (fs : List FreshUnit). taken space (map (λ (g : FreshUnit). g.unit) fs)) left) ∙ ahead;
      can = can_take_more f rest space (subst (λ (fs : List FreshUnit). CanTake (map (λ (g : FreshUnit). g.unit) fs) space) left can);
    })

-- ---- giving back

-- what a run of one unit asks of the allocator
pub record CanGive (unit : ℕ) (space : Space) : Type 0 where
  pub within : (u : ℕ) → unit ≤ u → u < unit + 1 → IsWithin space u
  pub taken : (u : ℕ) → unit ≤ u → u < unit + 1 → is_free space u ≡ false
  pub fits : unit + 1 < 2 ^ 32

pub can_give : (u : ℕ) (units : List ℕ) (space : Space) → CanBeGiven (u ∷ units) space → CanGive u space
can_give u units space can =
    let is : IsTakenUnit space u = can [] units u refl in
    record {
      within = λ v from to. subst (IsWithin space) (let same : u ≡ v = omega (arith, from, to) in same) is.within;
      taken = λ v from to. subst (λ (w : ℕ). is_free space w ≡ false) (let same : u ≡ v = omega (arith, from, to) in same) is.taken;
      fits = is.fits;
    }

pub can_give_more : (u : ℕ) (units : List ℕ) (space : Space) → CanBeGiven (u ∷ units) space → CanBeGiven units (given_one space u)
can_give_more u units space can front rest v is = can (u ∷ front) rest v (ap (λ (us : List ℕ). u ∷ us) is)

-- the item of this turn can be given
pub can_give_item : (units : List ℕ) (space : Space) (i u : ℕ) → i < length units → u ≡ get_or units i u → CanBeGiven (drop i units) space
    → CanGive u space
can_give_item units space i u below is can =
    can_give u (drop (i + 1) units) space (subst (λ (us : List ℕ). CanBeGiven us space) (item_left units i u below is) can)

-- the loop that gives back: what is left to give of these units
pub record GivesOn (units : List ℕ) (start space : Space) (i : ℕ) : Type 0 where
  pub ahead : given space (drop i units) ≡ given start units
  pub can : CanBeGiven (drop i units) space

pub gives_on : (units : List ℕ) (start space after : Space) (i u : ℕ) → i < length units → u ≡ get_or units i u → after ≡ given_one space u
    → given space (drop i units) ≡ given start units → CanBeGiven (drop i units) space → GivesOn units start after (i + 1)
gives_on units start space after i u below is made ahead can =
    let rest : List ℕ = drop (i + 1) units in
    let left : drop i units ≡ u ∷ rest = item_left units i u below is in
    subst (λ (s : Space). GivesOn units start s (i + 1)) (sym made) (record {
      ahead = sym (ap (given space) left) ∙ ahead;
      can = can_give_more u rest space (subst (λ (us : List ℕ). CanBeGiven us space) left can);
    })

-- ---- giving back, list by list

given_both : (us vs : List ℕ) (space : Space) → given space (us ++ vs) ≡ given (given space us) vs
given_both [] vs space = refl
given_both (u ∷ us) vs space = given_both us vs (given_one space u)

-- of two lists the first can be given, and then the second
pub can_give_front : (us vs : List ℕ) (space : Space) → CanBeGiven (us ++ vs) space → CanBeGiven us space
can_give_front us vs space can front rest u is = can front (rest ++ vs) u (ap (λ (ws : List ℕ). ws ++ vs) is ∙ append_assoc front (u ∷ rest) vs)

can_give_behind : (us vs : List ℕ) (space : Space) → CanBeGiven (us ++ vs) space → CanBeGiven vs (given space us)
can_give_behind us vs space can front rest u is =
    subst (λ (s : Space). IsTakenUnit s u) (given_both us front space)
    (can (us ++ front) rest u (ap (λ (ws : List ℕ). us ++ ws) is ∙ sym (append_assoc us front (u ∷ rest))))

abbrev pub released : List Context → List ℕ
released xs = flat_map (λ x. x.released) xs

-- what the context of this turn released can be given
pub can_give_context : (xs : List Context) (space : Space) (i : ℕ) (x : Context) → i < length xs → x ≡ get_or xs i x
    → CanBeGiven (released (drop i xs)) space → CanBeGiven x.released space
can_give_context xs space i x below is can =
    can_give_front x.released (released (drop (i + 1) xs)) space
    (subst (λ (ys : List Context). CanBeGiven (released ys) space) (item_left xs i x below is) can)

-- the loop that gives back what contexts released: what is left to give
pub record FreesOn (xs : List Context) (start space : Space) (i : ℕ) : Type 0 where
  pub ahead : given space (released (drop i xs)) ≡ given start (released xs)
  pub can : CanBeGiven (released (drop i xs)) space

pub frees_on : (xs : List Context) (start space after : Space) (i : ℕ) (x : Context) → i < length xs → x ≡ get_or xs i x
    → after ≡ given space x.released → given space (released (drop i xs)) ≡ given start (released xs) → CanBeGiven (released (drop i xs)) space
    → FreesOn xs start after (i + 1)
frees_on xs start space after i x below is made ahead can =
    let rest : List Context = drop (i + 1) xs in
    let left : drop i xs ≡ x ∷ rest = item_left xs i x below is in
    subst (λ (s : Space). FreesOn xs start s (i + 1)) (sym made) (record {
      ahead = sym (given_both x.released (released rest) space) ∙ sym (ap (λ (ys : List Context). given space (released ys)) left) ∙ ahead;
      can = can_give_behind x.released (released rest) space (subst (λ (ys : List Context). CanBeGiven (released ys) space) left can);
    })
