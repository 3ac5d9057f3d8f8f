-- Which units are those of a store, also after some were taken or given back.
use Rattle.std.proofs.Common.{ℕ, ◌+◌, ◌-◌, true, false, List, [], ◌∷◌, Contains, ap, ◌∙◌, arith}
use Rattle.run_facts.proofs.Common.{Super, IsDataUnit, Space, IsWithin, taken_one, given_one, taken, given}
use Rattle.std.proofs.lemmas.List.{length-set}
use Rattle.meta_log.specs.Prelude.{data_unit}
use Rattle.run_facts.specs.Prelude.{IsSpaceOf}

-- the units of a list are data units
abbrev pub AreData : Super → List ℕ → Type 0
AreData sup us = (v : ℕ) → Contains us v → IsDataUnit sup v

module _ (sup : Super) where
  -- the data units are those of the space
  pub data_within : (space : Space) (u : ℕ) → IsSpaceOf sup space → IsDataUnit sup u → IsWithin space u
  data_within space u is on = record { from = omega (arith, is.first, on.0); to = omega (arith, is.first, is.count, on.1) }

  pub within_data : (space : Space) (u : ℕ) → IsSpaceOf sup space → IsWithin space u → IsDataUnit sup u
  within_data space u is within = (omega (arith, is.first, within.from), omega (arith, is.first, is.count, within.to))

  one_taken : (space : Space) (u : ℕ) → IsSpaceOf sup space → IsSpaceOf sup (taken_one space u)
  one_taken space u is = record {
    first = is.first;
    count = ap (λ n. data_unit sup + n) (length-set space.idle (u - space.first) false) ∙ is.count;
  }

  one_given : (space : Space) (u : ℕ) → IsSpaceOf sup space → IsSpaceOf sup (given_one space u)
  one_given space u is = record {
    first = is.first;
    count = ap (λ n. data_unit sup + n) (length-set space.idle (u - space.first) true) ∙ is.count;
  }

  pub space_taken : (space : Space) (us : List ℕ) → IsSpaceOf sup space → IsSpaceOf sup (taken space us)
  space_taken space [] is = is
  space_taken space (u ∷ us) is = space_taken (taken_one space u) us (one_taken space u is)

  pub space_given : (space : Space) (us : List ℕ) → IsSpaceOf sup space → IsSpaceOf sup (given space us)
  space_given space [] is = is
  space_given space (u ∷ us) is = space_given (given_one space u) us (one_given space u is)
