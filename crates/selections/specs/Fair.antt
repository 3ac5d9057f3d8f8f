-- Lists of things that have names, and fair selections of them: of each name the first ones, in order.
use Rattle.std.specs.Prelude.{◌≡◌, Bool, true, false, List, [], ◌∷◌, ◌++◌, filter}

-- whether a thing is under a name
module _ {K A : Type 0} (on : K → A → Bool) where
  -- those under a name
  abbrev pub under : K → List A → List A
  under n xs = filter (on n) xs

  -- of each name the first ones are selected, in order
  abbrev pub IsFair : List A → List A → Type 0
  IsFair all some = (n : K) → (rest : List A) × (under n all ≡ under n some ++ rest)

  -- all are, in the order of each name
  abbrev pub IsComplete : List A → List A → Type 0
  IsComplete all some = (n : K) → under n some ≡ under n all

  -- A selection that has the one that came last: under each of its names it stands behind all others, and none stands behind it. Without
  -- it the selection is fair among the others.
  pub record HasLast (all : List A) (x : A) (some : List A) : Type 0 where
    pub front : List A
    pub back : List A
    pub is : some ≡ front ++ x ∷ back
    pub without : IsFair all (front ++ back)
    pub behind : (n : K) → on n x ≡ true → under n front ≡ under n all
    pub none : (n : K) → on n x ≡ true → under n back ≡ []

  -- no name has both under it
  abbrev pub ShareNoName : A → A → Type 0
  ShareNoName x y = (n : K) → on n x ≡ true → on n y ≡ false

  -- each thing has a name, and may have others
  abbrev pub EachHasName : Type 0
  EachHasName = (x : A) → (n : K) × (on n x ≡ true)
