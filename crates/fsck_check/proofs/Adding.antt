-- Findings of units, compared one behind the other.
use Rattle.std.proofs.Common.{◌≡◌, ◌==◌, true, inl, inr, ℕ, zero, suc, ◌+◌, ◌*◌, ◌<◌, ◌≤◌, List, [], ◌∷◌, ◌++◌, Option, Some, None, length, take, drop, get_or, refl, sym, ap, subst, ◌∙◌, arith, append_assoc, append-nil, length-take, length-append}
use Rattle.std.specs.Prelude.{IfSome}
use Rattle.std.proofs.lemmas.Bool.Decides.{nat_tests}
use Rattle.std.proofs.lemmas.List.{take_more}
use Rattle.byte_maps.specs.Units.{unit_at, IsUnits}
use Rattle.byte_maps.proofs.UnitLemmas.{length-unit_at}
use Rattle.block_device.specs.Prelude.{Disk, History, HasRead, HasNoBadDone, last_at}
use Rattle.read_facts.specs.Prelude.{IsHeldAt}
use Rattle.findings.specs.declared.finding.Finding.{Finding}
use Rattle.findings.specs.declared.finding.Finding.TheVariants.{BadSum}
use Rattle.unit_fields.specs.declared.width.Width.{Width}
use Rattle.meta_rows.specs.Prelude.{Rows}
use Rattle.row_format.specs.Prelude.{Extent, slot}
use Rattle.plan_rows.specs.Prelude.{page_unit}
use Rattle.fsck_check.specs.Sums.{UnitSum, sum_at, slot_sums, unit_sums_from, extent_places, shard_places, HasSum, HasOther, FindsBadSums, AddsSums, IsUnitIn}

module _ (held : ℕ → List ℕ → Type 0) where
  pub sums_joined : (ps qs : List UnitSum) (a b : List Finding) → FindsBadSums held ps a → FindsBadSums held qs b → FindsBadSums held (ps ++ qs) (a ++ b)
  sums_joined [] qs a b none more = subst (λ (l : List Finding). FindsBadSums held qs (l ++ b)) (sym none) more
  sums_joined (p ∷ ps) qs a b (inl has) more = inl (has.0, sums_joined ps qs a b has.1 more)
  sums_joined (p ∷ ps) qs a b (inr has) more =
      inr (has.0, has.1 ++ b, ap (λ (l : List Finding). l ++ b) has.2, has.3, sums_joined ps qs has.1 b has.4 more)

  pub adds_none : (x : List Finding) → AddsSums held [] x x
  adds_none x = ([], sym (append-nil x), refl)

  pub adds_joined : (ps qs : List UnitSum) (x y z : List Finding) → AddsSums held ps x y → AddsSums held qs y z → AddsSums held (ps ++ qs) x z
  adds_joined ps qs x y z a b =
      (a.0 ++ b.0, b.1 ∙ ap (λ (l : List Finding). l ++ b.0) a.1 ∙ append_assoc x a.0 b.0, sums_joined ps qs a.0 b.0 a.2 b.2)

  pub adds_good : (p : UnitSum) (x : List Finding) → HasSum held p → AddsSums held (p ∷ []) x x
  adds_good p x has = ([], sym (append-nil x), inl (has, refl))

  pub adds_bad : (p : UnitSum) (found : ℕ) (x y : List Finding) → HasOther held p found → y ≡ x ++ BadSum p.0 p.1 found ∷ [] → AddsSums held (p ∷ []) x y
  adds_bad p found x y has is = (BadSum p.0 p.1 found ∷ [], is, inr (found, [], refl, has, refl))

-- what holds of what one relation holds
pub sums_as : (held other : ℕ → List ℕ → Type 0) → ((unit : ℕ) (bytes : List ℕ) → held unit bytes → other unit bytes) → (ps : List UnitSum) (out : List Finding)
    → FindsBadSums held ps out → FindsBadSums other ps out
sums_as held other more [] out none = none
sums_as held other more (p ∷ ps) out (inl has) = inl ((has.0.0, (more p.0 has.0.0 has.0.1.0, has.0.1.1)), sums_as held other more ps out has.1)
sums_as held other more (p ∷ ps) out (inr has) = inr (
  has.0,
  has.1,
  has.2,
  record { bytes = has.3.bytes; size = has.3.size; holds = more p.0 has.3.bytes has.3.holds; is_found = has.3.is_found; differs = has.3.differs },
  sums_as held other more ps has.1 has.4,
)

pub adds_as : (held other : ℕ → List ℕ → Type 0) → ((unit : ℕ) (bytes : List ℕ) → held unit bytes → other unit bytes) → (ps : List UnitSum) (x y : List Finding)
    → AddsSums held ps x y → AddsSums other ps x y
adds_as held other more ps x y adds = (adds.0, adds.1, sums_as held other more ps adds.0 adds.2)

-- ---- consecutive units

pub places_joined : (unit : ℕ) (a b : List ℕ) → unit_sums_from unit (a ++ b) ≡ unit_sums_from unit a ++ unit_sums_from (unit + length a) b
places_joined unit [] b = let same : unit ≡ unit + 0 = omega arith in ap (λ u. unit_sums_from u b) same
places_joined unit (k ∷ a) b =
    let same : (unit + 1) + length a ≡ unit + length (k ∷ a) = omega arith in
    ap (λ (l : List UnitSum). (unit, k) ∷ l) (places_joined (unit + 1) a b ∙ ap (λ u. unit_sums_from (unit + 1) a ++ unit_sums_from u b) same)

-- one unit more
pub place_more : (held : ℕ → List ℕ → Type 0) (at i : ℕ) (kept : List ℕ) (x y z : List Finding) → i < length kept
    → AddsSums held (unit_sums_from at (take i kept)) x y → AddsSums held ((at + i, get_or kept i 0) ∷ []) y z → AddsSums held (unit_sums_from at (take (i + 1) kept)) x z
place_more held at i kept x y z lt before one =
    let long : length (take i kept) ≡ i = omega (arith, length-take i kept) in
    let list = ap (unit_sums_from at) (take_more kept i 0 lt) ∙ places_joined at (take i kept) (get_or kept i 0 ∷ [])
    ∙ ap (λ n. unit_sums_from at (take i kept) ++ (at + n, get_or kept i 0) ∷ []) long in
    subst (λ (l : List UnitSum). AddsSums held l x z) (sym list) (adds_joined held (unit_sums_from at (take i kept)) ((at + i, get_or kept i 0) ∷ []) x y z before one)

-- a unit among those that were read
pub read_unit : (at count i : ℕ) (bytes : List ℕ) → IsUnits count bytes → i < count → IsUnitIn at count bytes (at + i) (unit_at i bytes)
read_unit at count i bytes whole lt = (i, lt, refl, refl, length-unit_at i bytes (omega (arith, whole, lt)))

held_unit : (d : Disk) (at count i : ℕ) (bytes : List ℕ) → HasRead d at count bytes → i < count → IsHeldAt d (at + i) (unit_at i bytes)
held_unit d at count i bytes read lt = by d.history read.units
  where
    by : (o : Option History) → IfSome o (λ h. (k : ℕ) → k < count → HasNoBadDone h.log (at + k) → unit_at k bytes ≡ last_at h (at + k))
        → IfSome o (λ h. HasNoBadDone h.log (at + i) → unit_at i bytes ≡ last_at h (at + i))
    by None units = tt
    by (Some h) units = units i lt

pub held_read : (d : Disk) (at count : ℕ) (bytes : List ℕ) → HasRead d at count bytes → (unit : ℕ) (b : List ℕ) → IsUnitIn at count bytes unit b → IsHeldAt d unit b
held_read d at count bytes read unit b is =
    subst (λ u. IsHeldAt d u b) (sym is.2) (subst (IsHeldAt d (at + is.0)) (sym is.3) (held_unit d at count is.0 bytes read is.1))

-- ---- one piece after the other

same_number : (a b : ℕ) → (a == b) ≡ true → a ≡ b
same_number a b is = grind (arith, nat_tests, is)

pub no_units : (xs : List ℕ) → (length xs == 0) ≡ true → xs ≡ []
no_units [] none = refl
no_units (x ∷ xs) none = absurd (let long : length (x ∷ xs) ≡ 0 = same_number (length (x ∷ xs)) 0 none in omega (arith, long))

-- what is left stands inside
pub inside : (unit at n units : ℕ) (csums done left : List ℕ) → csums ≡ done ++ left → at ≡ unit + length done → n ≤ length left → unit + length csums ≤ units → at + n ≤ units
inside unit at n units csums done left split is few fits =
    let long : length csums ≡ length done + length left = ap length split ∙ length-append done left in omega (arith, long, is, few, fits)

pub piece_more : (held : ℕ → List ℕ → Type 0) (unit at : ℕ) (done front : List ℕ) (x y z : List Finding) → at ≡ unit + length done
    → AddsSums held (unit_sums_from unit done) x y → AddsSums held (unit_sums_from at front) y z → AddsSums held (unit_sums_from unit (done ++ front)) x z
piece_more held unit at done front x y z is before more =
    subst (λ (l : List UnitSum). AddsSums held l x z) (sym (places_joined unit done front))
    (adds_joined held (unit_sums_from unit done) (unit_sums_from (unit + length done) front) x y z before (subst (λ a. AddsSums held (unit_sums_from a front) y z) is more))

-- ---- the extents of a shard

module _ (w : Width) (rows : Rows) where
  shard_joined : (a b : List Extent) → shard_places w rows (a ++ b) ≡ shard_places w rows a ++ shard_places w rows b
  shard_joined [] b = refl
  shard_joined (e ∷ a) b =
      ap (λ (l : List UnitSum). extent_places w rows e ++ l) (shard_joined a b)
      ∙ sym (append_assoc (extent_places w rows e) (shard_places w rows a) (shard_places w rows b))

  pub extent_more : (held : ℕ → List ℕ → Type 0) (es : List Extent) (i : ℕ) (e : Extent) (x y z : List Finding) → i < length es → e ≡ get_or es i e
      → AddsSums held (shard_places w rows (take i es)) x y → AddsSums held (extent_places w rows e) y z
      → AddsSums held (shard_places w rows (take (i + 1) es)) x z
  extent_more held es i e x y z lt is before more =
      let one : shard_places w rows (e ∷ []) ≡ extent_places w rows e = append-nil (extent_places w rows e) in
      let list : shard_places w rows (take (i + 1) es) ≡ shard_places w rows (take i es) ++ extent_places w rows e =
      ap (shard_places w rows) (take_more es i e lt ∙ ap (λ (f : Extent). take i es ++ f ∷ []) (sym is)) ∙ shard_joined (take i es) (e ∷ [])
      ∙ ap (λ (l : List UnitSum). shard_places w rows (take i es) ++ l) one in
      subst (λ (l : List UnitSum). AddsSums held l x z) (sym list)
      (adds_joined held (shard_places w rows (take i es)) (extent_places w rows e) x y z before more)

  -- one slot more
  slots_joined : (sbid index n : ℕ) → slot_sums w rows sbid index (suc n) ≡ slot_sums w rows sbid index n ++ sum_at (page_unit w rows (slot sbid (index + n))) ∷ []
  slots_joined sbid index zero = let same : index ≡ index + 0 = omega arith in ap (λ k. sum_at (page_unit w rows (slot sbid k)) ∷ []) same
  slots_joined sbid index (suc n) =
      let next : (index + 1) + n ≡ index + suc n = omega arith in
      ap (λ (l : List UnitSum). sum_at (page_unit w rows (slot sbid index)) ∷ l)
      (slots_joined sbid (index + 1) n
      ∙ ap (λ k. slot_sums w rows sbid (index + 1) n ++ sum_at (page_unit w rows (slot sbid k)) ∷ []) next)

  pub slot_more : (held : ℕ → List ℕ → Type 0) (sbid index i : ℕ) (x y z : List Finding) → AddsSums held (slot_sums w rows sbid index i) x y
      → AddsSums held (sum_at (page_unit w rows (slot sbid (index + i))) ∷ []) y z → AddsSums held (slot_sums w rows sbid index (i + 1)) x z
  slot_more held sbid index i x y z before more =
      let on : suc i ≡ i + 1 = omega arith in
      subst (λ n. AddsSums held (slot_sums w rows sbid index n) x z) on
      (subst (λ (l : List UnitSum). AddsSums held l x z) (sym (slots_joined sbid index i))
      (adds_joined held (slot_sums w rows sbid index i) (sum_at (page_unit w rows (slot sbid (index + i))) ∷ []) x y z before more))

-- ---- units of bytes

pub unit_is : (i : ℕ) (bytes : List ℕ) → take 4096 (drop (4096 * i) bytes) ≡ unit_at i bytes
unfolding unit_at
unit_is i bytes = refl
