-- What a call makes of the rows.
use Rattle.std.specs.Prelude.{◌≡◌, ℕ, ◌+◌, ◌-◌, ◌≤◌, List, [], ◌∷◌, ◌++◌, map}
use Rattle.meta_rows.specs.Prelude.{rows_after}
use Rattle.meta_log.specs.Prelude.{unit_count, IsSuper, next_super}
use Rattle.unit_allocator.specs.Prelude.{given, taken}
use Rattle.selections.specs.Fair.{IsComplete}
use Rattle.store_steps.specs.Intents.{Intent, is_in, ops_by, released_by, needs_by}
use Rattle.store_steps.specs.Parts.{RowsPart}
use Rattle.store_steps.specs.RowsWithin.{rows_units}

-- one more is accepted, which makes so many blobs
abbrev pub with_accepted : Intent → ℕ → RowsPart → RowsPart
with_accepted x more p = record p {
  submitted = rows_after p.submitted x.ops;
  intents = p.intents ++ x ∷ [];
  space = taken p.space (map (λ f. f.unit) x.fresh);
  reserved = p.reserved + x.need;
  next = p.next + more;
}

-- the first ones are committed, by a record of this number
abbrev pub applied : ℕ → List Intent → List Intent → RowsPart → RowsPart
applied number front back p = record p {
  rows = rows_after p.rows (ops_by front);
  intents = back;
  space = given p.space (released_by front);
  tail = p.tail + unit_count number (ops_by front);
  reserved = p.reserved - needs_by front;
}

-- the halves change places, where the next record's number is this one: the log is the committed rows as one record
abbrev pub rewritten : ℕ → RowsPart → RowsPart
rewritten number p = record p { sup = next_super p.sup number; tail = rows_units p.rows }

-- They stay, one more joins, they change places but not among those of one collection, the first ones are committed, by a record that takes no more
-- than they need and fits behind the tail, or the halves change places.
pub data RowsGo : RowsPart → RowsPart → Type 0 where
  same : {p q : RowsPart} → q ≡ p → RowsGo p q
  joins : {p q : RowsPart} (x : Intent) (more : ℕ) → q ≡ with_accepted x more p → RowsGo p q
  reorders : {p q : RowsPart} (later : List Intent) → IsComplete is_in p.intents later → q ≡ record p { intents = later } → RowsGo p q
  applies : {p q : RowsPart} (number : ℕ) (front back : List Intent) → p.intents ≡ front ++ back
      → (unit_count number (ops_by front) ≤ needs_by front) × (p.tail + unit_count number (ops_by front) ≤ p.sup.half)
      → q ≡ applied number front back p → RowsGo p q
  switches : {p q : RowsPart} (number : ℕ) → IsSuper (next_super p.sup number) → q ≡ rewritten number p → RowsGo p q
