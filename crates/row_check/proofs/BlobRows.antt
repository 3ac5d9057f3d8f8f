-- What a shard asks of the blobs on whose slots its pages stand.
use Rattle.std.proofs.Common.{◌≡◌, ◌↔◌, ℕ, ◌+◌, ◌<◌, ◌≤◌, ◌^◌, Bool, List, ◌++◌, length, drop, Option, Some, None, Result, Ok, Err, IfOk, IsTrue, MatchOption, refl, sym, ap, subst, ◌∙◌, arith}
use Rattle.std.specs.Prelude.{IsSome}
use Rattle.std.specs.FinMap as map
use Rattle.unit_fields.specs.declared.width.Width.{Width}
use Rattle.meta_rows.specs.Prelude.{Rows}
use Rattle.row_format.specs.Prelude.{shared_key, Body, shared, Slot, blob}
use Rattle.row_format.specs.Row as format
use Rattle.row_format.proofs.Prelude.{same_row}
use Rattle.store_image.specs.Prelude.{HasRow, HasSlots, IsNamedEarlier}
use Rattle.row_reading.specs.declared.row.Row.{Row}
use Rattle.row_reading.specs.declared.row.Row.TheVariants as read
use Rattle.row_reading.specs.Reading.{format_row, SpellsRow, IsNoRow}
use Rattle.row_check.specs.Named.{Namers, IsNamedByOther, KnowsEarlier, IsCountSaid, SaysSlots, HasSoMany}
use Rattle.row_check.proofs.Named.{same_blob}

-- ---- how many slots a row says

module _ (w : Width) (key value : List ℕ) (end : ℕ) where
  pub said_enough : (count : ℕ) → IsCountSaid value count → end ≤ count → SaysSlots w key value end
  said_enough count said le sbid unit slots spells = omega (arith, le, said w sbid unit slots spells.fits spells.value_is)

  slots_of : (a b : ℕ) (c d : ℕ) (xs ys : List Slot) → blob a c xs ≡ blob b d ys → xs ≡ ys
  slots_of a b c d xs ys e = cc

  pub read_enough : (found : Option Row) → MatchOption found (IsNoRow w key value) (λ row. SpellsRow w key value (format_row row value))
      → HasSoMany found end ↔ SaysSlots w key value end
  read_enough None none = (λ is sbid unit slots spells. absurd (none (blob sbid unit slots) spells), λ says. tt)
  read_enough (Some row) is = by row is
    where
      same : (row : Row) → SpellsRow w key value (format_row row value) → (r : format.Row) → SpellsRow w key value r → format_row row value ≡ r
      same row a r b = same_row w (format_row row value) r a.fits b.fits (sym a.key_is ∙ b.key_is) (sym a.value_is ∙ b.value_is)

      other : (row : Row) → SpellsRow w key value (format_row row value) → ((sbid unit : ℕ) (slots : List Slot) → format_row row value ≡ blob sbid unit slots → ⊥)
          → Unit {0} ↔ SaysSlots w key value end
      other row a apart = (λ is sbid unit slots b. absurd (apart sbid unit slots (same row a (blob sbid unit slots) b)), λ says. tt)

      by : (row : Row) → SpellsRow w key value (format_row row value) → HasSoMany (Some row) end ↔ SaysSlots w key value end
      by (read.Collection d) a = other (read.Collection d) a (λ s u x e. cc)
      by (read.Onode d u size) a = other (read.Onode d u size) a (λ s u x e. cc)
      by (read.Shard d u page es) a = other (read.Shard d u page es) a (λ s u x e. cc)
      by (read.Attribute d u n) a = other (read.Attribute d u n) a (λ s u x e. cc)
      by (read.OmapHeader d u) a = other (read.OmapHeader d u) a (λ s u x e. cc)
      by (read.OmapPair d u k) a = other (read.OmapPair d u k) a (λ s u x e. cc)
      by (read.Bitmap r bits) a = other (read.Bitmap r bits) a (λ s u x e. cc)
      by (read.Blob sbid first slots) a = (
        λ le s u xs b. subst (λ (l : List Slot). end ≤ length l) (slots_of sbid s first u slots xs (same (read.Blob sbid first slots) a (blob s u xs) b)) le,
        λ says. says sbid first slots a,
      )

-- ---- the slots of an extent

module _ (w : Width) (rows : Rows) (c : List ℕ) (sbid first count : ℕ) (low : sbid < 2 ^ 64) where
  says_as_has : (value : List ℕ) (end : ℕ) → map.get rows (shared_key sbid) ≡ Some value → SaysSlots w (shared_key sbid) value end
      ↔ ((unit : ℕ) (slots : List Slot) → HasRow w rows (blob sbid unit slots) → end ≤ length slots)
  says_as_has value end stands = (
    λ says unit slots has. says sbid unit slots (record { fits = has.fits; key_is = refl; value_is = bytes (sym stands ∙ has.stands) }),
    λ each t unit slots spells.
        let same : t ≡ sbid = same_blob t sbid spells.fits.number low (sym spells.key_is) in
        let here : SpellsRow w (shared_key sbid) value (blob sbid unit slots) = subst (λ n. SpellsRow w (shared_key sbid) value (blob n unit slots)) same spells in
        each unit slots (record { fits = here.fits; stands = stands ∙ ap Some here.value_is }),
  )
    where
      bytes : {x y : List ℕ} → Some x ≡ Some y → x ≡ y
      bytes e = cc

  pub slots_answer : {E : Type 0} (m : Namers) (body : Body) (key value : List ℕ) (end : ℕ) (r : Result Bool E) → body ≡ shared sbid first count
      → key ≡ shared_key sbid → end ≡ first + count → map.get rows (shared_key sbid) ≡ Some value → KnowsEarlier w rows m c
      → (IsNamedByOther m (shared_key sbid) c → ⊥) → IfOk r (λ says. IsTrue says ↔ SaysSlots w key value end)
      → IfOk r (λ has. IsTrue has ↔ HasSlots w rows c body)
  slots_answer m body key value end (Err e) is key_is end_is stands knows other says = tt
  slots_answer m body key value end (Ok b) is key_is end_is stands knows other says =
      let here : IsTrue b ↔ SaysSlots w (shared_key sbid) value (first + count) =
      subst (λ n. IsTrue b ↔ SaysSlots w (shared_key sbid) value n) end_is (subst (λ (k : List ℕ). IsTrue b ↔ SaysSlots w k value end) key_is says) in
      let has = says_as_has value (first + count) stands in
      let first_one : ¬ (IsNamedEarlier w rows c sbid) = λ earlier. other ((knows sbid low).1 earlier) in
      subst (λ (x : Body). IsTrue b ↔ HasSlots w rows c x) (sym is) (
        λ yes. (subst IsSome (sym stands) refl, has.0 (here.0 yes), first_one),
        λ slots. here.1 (has.1 slots.1),
      )
