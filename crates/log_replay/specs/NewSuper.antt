-- The super of a new store.
use Rattle.std.specs.Prelude.{ℕ, ◌+◌, ◌*◌}
use Rattle.meta_log.specs.declared.slot.Super.{Super}

abbrev pub new_super : ℕ → ℕ → ℕ → Super
new_super units half prefer = record { units = units; half = half; prefer = prefer; epoch = 0; first = 0 }

-- the fewest units of a store with such halves: the slots, the halves, and a data unit
abbrev pub units_needed : ℕ → ℕ
units_needed half = 2 * half + 3
