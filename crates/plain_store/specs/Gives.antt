-- A call answers what a definition gives, unless memory ran out.
use Rattle.std.specs.Prelude.{◌≡◌, Option, Some, None, Result, Ok, Err, IsOk}
use Rattle.object_model.specs.declared.op.Refusal.{Refusal}
use Rattle.object_model.specs.declared.op.Refusal.TheVariants.{NoObject}
use Rattle.plain_store.specs.declared.fault.ArgFault.{ArgFault}
use Rattle.plain_store.specs.declared.fault.ArgFault.TheVariants.{Memory, Refused}

-- a refusal is the definition's, and nothing is said of want of memory
abbrev pub FailsAs : {A : Type 0} → ArgFault → Result A Refusal → Type 0
FailsAs Memory given = Unit {0}
FailsAs (Refused refusal) given = given ≡ Err refusal

-- what is seen of the result is what the definition gives
abbrev pub GivesBy : {X A : Type 0} → (X → A) → Result X ArgFault → Result A Refusal → Type 0
GivesBy view (Ok x) given = given ≡ Ok (view x)
GivesBy view (Err fault) given = FailsAs fault given

-- the result is what the definition gives
abbrev pub GivesResult : {A : Type 0} → Result A ArgFault → Result A Refusal → Type 0
GivesResult (Ok x) given = given ≡ Ok x
GivesResult (Err fault) given = FailsAs fault given

-- the same of a call that takes no memory
abbrev pub GivesExactly : {X A : Type 0} → (X → A) → Result X Refusal → Result A Refusal → Type 0
GivesExactly view (Ok x) given = given ≡ Ok (view x)
GivesExactly view (Err refusal) given = given ≡ Err refusal

-- after a call that changes a value, the value is what the definition gives
abbrev pub Applies : {A : Type 0} → Result (Unit {0}) ArgFault → Result A Refusal → A → Type 0
Applies (Ok done) given after = given ≡ Ok after
Applies (Err fault) given after = FailsAs fault given

-- a call that only tests passes where the definition gives something
abbrev pub Passes : {A : Type 0} → Result (Unit {0}) ArgFault → Result A Refusal → Type 0
Passes (Ok done) given = IsOk given
Passes (Err fault) given = FailsAs fault given

-- a call finds what is there, and refuses where nothing is
abbrev pub GivesFound : {A : Type 0} → Result A ArgFault → Option A → Type 0
GivesFound (Ok x) there = there ≡ Some x
GivesFound (Err Memory) there = Unit {0}
GivesFound (Err (Refused refusal)) there = (there ≡ None) × (refusal ≡ NoObject)
