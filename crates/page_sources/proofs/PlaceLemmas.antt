-- Old bytes of places, read one by one.
use Rattle.std.proofs.Common.{◌≡◌, ℕ, zero, suc, ◌+◌, ◌<◌, List, [], ◌∷◌, ◌++◌, length, map, take, get_or, Option, None, refl, sym, ap, ap₂, subst, ◌∙◌, arith}
use Rattle.std.specs.Prelude.{MatchOption}
use Rattle.std.proofs.lemmas.List.{map-append, take_more}
use Rattle.meta_rows.proofs.ChunkLemmas.{all_both}
use Rattle.byte_maps.specs.Units.{unit_at}
use Rattle.byte_maps.proofs.Prelude.{length-unit_at, unit_at-whole}
use Rattle.crc32c_csum.specs.Prelude.{crc32c}
use Rattle.block_device.specs.Prelude.{Disk, HasRead}
use Rattle.store_image.specs.Prelude.{PageUnit}
use Rattle.read_facts.specs.Prelude.{IsHeldAt, IsRead, AreGoodUnits}
use Rattle.read_facts.proofs.Units.{good_append}
use Rattle.plan_rows.specs.declared.plan.ReadUnit.{ReadUnit}
use Rattle.page_sources.specs.declared.parts.PartFail.{PartFail}
use Rattle.page_sources.specs.declared.parts.PartFail.TheVariants as why
use Rattle.page_sources.specs.Found.{unit_with}
use Rattle.page_sources.specs.Parts.{AreSums, IsUnitsFail}
use Rattle.page_sources.specs.Places.{GivesPlaces, IsPlacesFail}
use Rattle.page_sources.proofs.PartLemmas.{held}

-- one unit that was read holds these bytes
held_whole : (d : Disk) (unit : ℕ) (bytes : List ℕ) → HasRead d unit 1 bytes → IsHeldAt d unit bytes
held_whole d unit bytes read =
    let first : unit + 0 ≡ unit = omega arith in
    subst (IsHeldAt d unit) (unit_at-whole bytes (omega (arith, read.size)))
    (subst (λ (u : ℕ). IsHeldAt d u (unit_at 0 bytes)) first (held d unit 1 0 bytes read (omega arith)))

-- a unit that isn't in memory was read, and its bytes have the checksum that is kept
pub unit_given : (memory : ℕ → Option (List ℕ)) (d : Disk) (place : PageUnit) (unit csum at : ℕ) (bytes sums : List ℕ) → unit_with unit csum ≡ place
    → at ≡ unit → memory at ≡ None → get_or sums 0 0 ≡ csum → HasRead d at 1 bytes → AreSums 1 bytes sums
    → GivesPlaces memory d (place ∷ []) (record { unit = unit; bytes = bytes } ∷ [])
unit_given memory d place unit csum at bytes sums is there away kept read are =
    let long : length bytes ≡ 4096 = omega (arith, read.size) in
    let out : memory unit ≡ None = ap memory (sym there) ∙ away in
    let holds : IsHeldAt d unit bytes = subst (λ (u : ℕ). IsHeldAt d u bytes) there (held_whole d at bytes read) in
    let sum : crc32c bytes ≡ csum = ap crc32c (sym (unit_at-whole bytes long)) ∙ sym (are 0 (omega arith)) ∙ kept in
    let gives : IsRead memory (IsHeldAt d) (unit_with unit csum) bytes =
    subst (λ (copy : Option (List ℕ)). MatchOption copy (IsHeldAt d unit bytes × (crc32c bytes ≡ csum)) (λ b. bytes ≡ b)) (sym out) (holds, sum) in
    subst (λ (p : PageUnit). GivesPlaces memory d (p ∷ []) (record { unit = unit; bytes = bytes } ∷ [])) is (record {
      units = record { units = refl; whole = (long, tt) };
      good = (gives, tt);
    })

-- a unit that isn't in memory failed to be read, or has another checksum
pub unit_fails : (memory : ℕ → Option (List ℕ)) (d : Disk) (place : PageUnit) (unit csum at : ℕ) (sums : List ℕ) (fail : PartFail)
    → unit_with unit csum ≡ place → at ≡ unit → memory at ≡ None → get_or sums 0 0 ≡ csum → IsUnitsFail d at 1 sums fail
    → IsPlacesFail memory d (place ∷ []) fail
unit_fails memory d place unit csum at sums (why.BadPage bad) is there away kept fails =
    let bytes = fails.0 in
    let read = fails.1 in
    let m = fails.2 in
    let first : m.index ≡ 0 = omega (arith, m.within) in
    let from : bad.unit ≡ at = omega (arith, m.unit, m.within) in
    let same : bad.kept ≡ csum = m.is_kept ∙ ap (λ i. get_or sums i 0) first ∙ kept in
    record {
      front = [];
      rest = [];
      is = ap (λ (p : PageUnit). p ∷ []) (sym is ∙ sym (ap₂ unit_with (from ∙ there) same));
      before = [];
      good = tt;
      bad = record {
        not_in_memory = ap memory from ∙ away;
        bytes = unit_at m.index bytes;
        size = length-unit_at m.index bytes (omega (arith, m.within, read.size));
        holds = subst (λ (u : ℕ). IsHeldAt d u (unit_at m.index bytes)) (sym m.unit) (held d at 1 m.index bytes read m.within);
        is_found = m.is_found;
        differs = m.differs;
      };
    }
unit_fails memory d place unit csum at sums why.Memory is there away kept fails = tt
unit_fails memory d place unit csum at sums why.Fault is there away kept fails = record {
  front = [];
  on = unit_with unit csum;
  rest = [];
  is = ap (λ (p : PageUnit). p ∷ []) (sym is);
  not_in_memory = ap memory (sym there) ∙ away;
}

-- what was read of one place more goes behind what was read before
pub one_place_more : (memory : ℕ → Option (List ℕ)) (d : Disk) (places : List PageUnit) (i : ℕ) (place : PageUnit) (read more : List ReadUnit) (r : ReadUnit)
    → i < length places → place ≡ get_or places i place → more ≡ read ++ r ∷ [] → GivesPlaces memory d (take i places) read
    → GivesPlaces memory d (place ∷ []) (r ∷ []) → GivesPlaces memory d (take (i + 1) places) more
one_place_more memory d places i place read more r lt is grown front one =
    let reached : take (i + 1) places ≡ take i places ++ place ∷ [] = take_more places i place lt ∙ ap (λ p. take i places ++ p ∷ []) (sym is) in
    subst (λ ps. GivesPlaces memory d ps more) (sym reached) (subst (GivesPlaces memory d (take i places ++ place ∷ [])) (sym grown) (record {
      units = record {
        units = map-append (λ q. q.unit) read (r ∷ []) ∙ ap₂ (λ (a b : List ℕ). a ++ b) front.units.units one.units.units ∙ sym (map-append (λ (on : PageUnit). on.unit) (take i places) (place ∷ []));
        whole = all_both (λ q. length q.bytes ≡ 4096) read (r ∷ []) front.units.whole one.units.whole;
      };
      good = subst (AreGoodUnits memory (IsHeldAt d) (take i places ++ place ∷ [])) (sym (map-append (λ q. q.bytes) read (r ∷ [])))
          (good_append memory (IsHeldAt d) (take i places) (place ∷ []) (map (λ q. q.bytes) read) (r.bytes ∷ []) front.good one.good);
    }))

-- what stands from a place on, behind those in front of it
from_place : (places : List PageUnit) (i : ℕ) (place : PageUnit) → i < length places → place ≡ get_or places i place
    → (rest : List PageUnit) × (places ≡ take i places ++ place ∷ rest)
from_place [] i place lt is = absurd (omega (arith, lt))
from_place (p ∷ places) zero place lt is = (places, ap (λ (q : PageUnit). q ∷ places) (sym is))
from_place (p ∷ places) (suc i) place lt is =
    let more = from_place places i place (omega (arith, lt)) is in
    (more.0, ap (λ (qs : List PageUnit). p ∷ qs) more.1)

-- the one place of a list
only_place : (place one : PageUnit) (xs ys : List PageUnit) → place ∷ [] ≡ xs ++ one ∷ ys → place ≡ one
only_place place one [] ys same = cc
only_place place one (x ∷ []) ys same = absurd cc
only_place place one (x ∷ z ∷ xs) ys same = absurd cc

-- a place that fails behind others that were read
pub fails_behind_places : (memory : ℕ → Option (List ℕ)) (d : Disk) (places : List PageUnit) (i : ℕ) (place : PageUnit) (read : List ReadUnit)
    (fail : PartFail) → i < length places → place ≡ get_or places i place → GivesPlaces memory d (take i places) read
    → IsPlacesFail memory d (place ∷ []) fail → IsPlacesFail memory d places fail
fails_behind_places memory d places i place read (why.BadPage bad) lt is front fails =
    let rest = from_place places i place lt is in
    let one = only_place place (unit_with bad.unit bad.kept) fails.front fails.rest fails.is in
    record {
      front = take i places;
      rest = rest.0;
      is = rest.1 ∙ ap (λ (p : PageUnit). take i places ++ p ∷ rest.0) one;
      before = map (λ r. r.bytes) read;
      good = front.good;
      bad = fails.bad;
    }
fails_behind_places memory d places i place read why.Memory lt is front fails = tt
fails_behind_places memory d places i place read why.Fault lt is front fails =
    let rest = from_place places i place lt is in
    let one = only_place place fails.on fails.front fails.rest fails.is in
    record {
      front = take i places;
      on = fails.on;
      rest = rest.0;
      is = rest.1 ∙ ap (λ (p : PageUnit). take i places ++ p ∷ rest.0) one;
      not_in_memory = fails.not_in_memory;
    }
