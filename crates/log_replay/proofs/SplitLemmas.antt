-- Of units that ascend the first one, and the others.
use Rattle.std.proofs.Common.{◌≡◌, ◌≢◌, ℕ, zero, suc, ◌+◌, ◌-◌, ◌*◌, ◌<◌, ◌≤◌, Bool, true, false, List, [], ◌∷◌, length, take, drop, get_or, refl, sym, ap, subst, ◌∙◌, arith}
use Rattle.std.specs.Prelude.{Contains, All}
use Rattle.std.proofs.lemmas.Grind.{get_or_default_zero}
use Rattle.std.proofs.lemmas.List.{drop-drop}
use Rattle.std.proofs.lemmas.List.Elements.{Contains-get_or, All-tail}
use Rattle.byte_maps.specs.Units.{unit_at, zeros}
use Rattle.log_replay.specs.Prelude.{UnitsAscend, IsNotZero, AreNotZero, IsFirstStale, AreParts}

pub next_unit : (bytes : List ℕ) (j : ℕ) → unit_at j (drop 4096 bytes) ≡ unit_at (1 + j) bytes
unfolding unit_at
next_unit bytes j =
    let place : 4096 + 4096 * j ≡ 4096 * (1 + j) = omega arith in
    ap (λ l. take 4096 l) (drop-drop (4096 * j) 4096 bytes ∙ ap (λ n. drop n bytes) place)

-- units that ascend from one on are at least as far from it as they are many
at_least : (low : ℕ) (units : List ℕ) → UnitsAscend units → ((unit : ℕ) → Contains units unit → low ≤ unit) → (i : ℕ) → i < length units → low + i ≤ get_or units i 0
at_least low units ascend from zero within = let least : low ≤ get_or units 0 0 = from (get_or units 0 0) (Contains-get_or units 0 0 within) in omega (arith, least)
at_least low units ascend from (suc i) within =
    let before : low + i ≤ get_or units i 0 = at_least low units ascend from i (omega (arith, within)) in
    let more : get_or units i 0 < get_or units (suc i) 0 = ascend i (suc i) (omega arith) within in
    omega (arith, before, more)

few : (low high : ℕ) (units : List ℕ) → UnitsAscend units → ((unit : ℕ) → Contains units unit → low ≤ unit) → ((unit : ℕ) → Contains units unit → unit < high)
    → low ≤ high → length units ≤ high - low
few low high [] ascend from to le = omega arith
few low high (unit ∷ units) ascend from to le =
    let all = unit ∷ units in
    let last = length units in
    let within : last < length all = omega arith in
    let least : low + last ≤ get_or all last 0 = at_least low all ascend from last within in
    let below : get_or all last 0 < high = to (get_or all last 0) (Contains-get_or all last 0 within) in
    omega (arith, least, below)

-- what holds of a unit holds of it from the next one on
from_next : (first end : ℕ) (bytes : List ℕ) (unit : ℕ) → first < end → first < unit → IsNotZero first (end - first) bytes unit
    → IsNotZero (first + 1) (end - (first + 1)) (drop 4096 bytes) unit
from_next first end bytes unit some behind is =
    let place : 1 + (unit - (first + 1)) ≡ unit - first = omega (arith, behind) in
    record {
      from = omega (arith, behind);
      to = omega (arith, is.to, some);
      holds = λ zero_there. is.holds (sym (next_unit bytes (unit - (first + 1)) ∙ ap (λ n. unit_at n bytes) place) ∙ zero_there);
    }

module _ (first end : ℕ) (bytes : List ℕ) (some : first < end) where
  abbrev Rest : List ℕ → Type 0
  Rest others = AreNotZero (first + 1) (end - (first + 1)) (drop 4096 bytes) others

  with_first : (others : List ℕ) → AreNotZero first (end - first) bytes (first ∷ others) → IsFirstStale true bytes × Rest others
  with_first others are = (
    subst (λ n. unit_at n bytes ≢ zeros 4096) (omega arith) (are.each first (zero, omega arith, refl)).holds,
    record {
      each = each;
      others = λ k below not.
          let place : first + 1 + k ≡ first + (1 + k) = omega arith in
          next_unit bytes k ∙ are.others (1 + k) (omega (arith, below)) (λ here. not (subst (Contains others) (sym place) (behind k here)));
      ascend = λ i j before within. are.ascend (suc i) (suc j) (omega (arith, before)) (omega (arith, within));
      many = omega (arith, are.many);
    },
  )
    where
      each : (unit : ℕ) → Contains others unit → IsNotZero (first + 1) (end - (first + 1)) (drop 4096 bytes) unit
      each unit (k, within, is) =
          let up : first < get_or others k 0 = are.ascend zero (suc k) (omega arith) (omega (arith, within)) in
          let here : get_or others k 0 ≡ unit = sym (get_or_default_zero others k unit within) ∙ is in
          from_next first end bytes unit some (omega (arith, up, here)) (are.each unit (suc k, omega (arith, within), is))

      behind : (k : ℕ) → Contains (first ∷ others) (first + (1 + k)) → Contains others (first + (1 + k))
      behind k (zero, within, is) = absurd (omega (arith, is))
      behind k (suc i, within, is) = (i, omega (arith, within), is)

  without_first : (units : List ℕ) → ((more : List ℕ) → units ≢ first ∷ more) → AreNotZero first (end - first) bytes units
      → IsFirstStale false bytes × Rest units
  without_first units none are =
      let place : first ≡ first + 0 = omega arith in (
        are.others 0 (omega (arith, some)) (λ here. apart units none are.ascend (λ unit there. (are.each unit there).from) (subst (Contains units) (sym place) here)),
        record {
          each = each;
          others = λ k below not.
              let there : first + 1 + k ≡ first + (1 + k) = omega arith in
              next_unit bytes k ∙ are.others (1 + k) (omega (arith, below)) (λ here. not (subst (Contains units) (sym there) here));
          ascend = are.ascend;
          many = few (first + 1) end units are.ascend (λ unit there. (each unit there).from)
              (λ unit there. let is = are.each unit there in omega (arith, some, is.to)) (omega (arith, some));
        },
      )
    where
      apart : (units : List ℕ) → ((more : List ℕ) → units ≢ first ∷ more) → UnitsAscend units → ((unit : ℕ) → Contains units unit → first ≤ unit)
          → Contains units first → ⊥
      apart [] none ascend from here = omega (arith, here.1)
      apart (unit ∷ units) none ascend from (zero, within, is) = none units (ap (λ n. n ∷ units) is)
      apart (unit ∷ units) none ascend from (suc k, within, is) =
          let up : unit < get_or units k 0 = ascend zero (suc k) (omega arith) within in
          let least : first ≤ unit = from unit (zero, omega arith, refl) in
          let here : get_or units k 0 ≡ first = sym (get_or_default_zero units k first (omega (arith, within))) ∙ is in
          omega (arith, up, least, here)

      each : (unit : ℕ) → Contains units unit → IsNotZero (first + 1) (end - (first + 1)) (drop 4096 bytes) unit
      each unit here =
          let is = are.each unit here in
          let other : unit ≢ first = λ same. apart units none are.ascend (λ unit there. (are.each unit there).from) (subst (Contains units) same here) in
          from_next first end bytes unit some (omega (arith, is.from, other)) is

  pub split_not_zero : (units : List ℕ) (is_stale : Bool) (others : List ℕ) → AreNotZero first (end - first) bytes units
      → AreParts units first is_stale others → IsFirstStale is_stale bytes × Rest others
  split_not_zero units true others are parts = with_first others (subst (AreNotZero first (end - first) bytes) parts are)
  split_not_zero units false others are parts =
      let both = without_first units parts.1 are in
      (both.0, subst Rest (sym parts.0) both.1)

-- ---- the others

pub all_others : (P : ℕ → Type 0) (units : List ℕ) (unit : ℕ) (is_first : Bool) (others : List ℕ) → AreParts units unit is_first others → All P units → All P others
all_others P units unit true others parts all = All-tail P unit others (subst (All P) parts all)
all_others P units unit false others parts all = subst (All P) (sym parts.0) all

pub fewer_others : (units : List ℕ) (unit : ℕ) (is_first : Bool) (others : List ℕ) → AreParts units unit is_first others → length others ≤ length units
fewer_others units unit true others parts = omega (arith, ap length parts)
fewer_others units unit false others parts = omega (arith, ap length parts.0)
