-- Values of an object, by rows whose keys have the names behind a front.
use Rattle.std.specs.Prelude.{ℕ, List, drop}
use Rattle.unit_fields.specs.Prelude.{IsName}
use Rattle.read_facts.specs.declared.view.ValueView.{ValueView}

-- the value of a row, whose name stands behind so many bytes of the key
abbrev pub value_behind : ℕ → List ℕ × List ℕ → ValueView
value_behind skip row = record { name = drop skip row.0; value = row.1 }

-- what stands there is a name
abbrev pub IsNamedBehind : ℕ → List ℕ × List ℕ → Type 0
IsNamedBehind skip row = IsName (drop skip row.0)
