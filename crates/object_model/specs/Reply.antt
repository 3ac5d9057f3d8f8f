-- What the store answers to a command, given the objects.
use Rattle.std.specs.Prelude.{ℕ, ◌+◌, nat_lt, List, length, take, drop, Result, Ok, Err, if◌then◌else◌}
use Rattle.std.specs.Option.{option_map_or}
use Rattle.std.specs.FinMap as finite
use Rattle.byte_maps.specs.ByteMap.{ByteMap}
use Rattle.crc32c_csum.specs.Prelude.{crc32c}
use Rattle.object_model.specs.declared.op.Refusal.{Refusal}
use Rattle.object_model.specs.declared.op.Refusal.TheVariants.{NoCollection, NoObject, NoAttr, BadRange}
use Rattle.object_model.specs.declared.command.Command.{Command}
use Rattle.object_model.specs.declared.command.Command.TheVariants as ask
use Rattle.object_model.specs.declared.command.Read.{Read}
use Rattle.object_model.specs.declared.command.Read.TheVariants as reads
use Rattle.object_model.specs.declared.command.Answer.{Answer}
use Rattle.object_model.specs.declared.command.Answer.TheVariants as answer
use Rattle.object_model.specs.Objects.{Object, Collection, Objects}
use Rattle.object_model.specs.Effect.{object_limit}
use Rattle.object_model.specs.Limits.{submitted_effect}

-- the answer to a transaction with this effect
abbrev pub accepted_if : Result Objects Refusal → Answer
accepted_if (Ok objects) = answer.Accepted
accepted_if (Err refusal) = answer.Refused refusal

-- the answer of a read of what was found, or its refusal
abbrev pub answer_from : {A : Type 0} → Result A Refusal → (A → Answer) → Answer
answer_from (Ok x) read = read x
answer_from (Err refusal) read = answer.Refused refusal

-- the collection under a name
abbrev pub found_collection : Objects → List ℕ → Result Collection Refusal
found_collection objects c = option_map_or (λ found. Ok found) (finite.get objects c) (Err NoCollection)

-- the object under two names: its collection is looked for first
abbrev pub found_object : Objects → List ℕ → List ℕ → Result Object Refusal
found_object objects c o = option_map_or (λ found. option_map_or (λ b. Ok b) (finite.get found o) (Err NoObject)) (finite.get objects c) (Err NoCollection)

-- a read of an object
abbrev pub answer_of_object : Objects → List ℕ → List ℕ → (Object → Answer) → Answer
answer_of_object objects c o read = answer_from (found_object objects c o) read

-- the value under a name, refused where there is none
abbrev pub value_of : ByteMap (List ℕ) → List ℕ → Answer
value_of m name = option_map_or (λ value. answer.Bytes value) (finite.get m name) (answer.Refused NoAttr)

-- The answer of plain objects to each read. One of bytes is cut at the object's size.
abbrev pub read_reply : Read → Objects → Answer
read_reply (reads.Bytes c o off len) objects = answer_of_object objects c o (λ b.
    if nat_lt object_limit (off + len) then answer.Refused BadRange else answer.Bytes (take len (drop off b.bytes)))
read_reply (reads.Sum c o) objects = answer_of_object objects c o (λ b. answer.Sum (length b.bytes) (crc32c b.bytes))
read_reply (reads.Stat c o) objects = answer_of_object objects c o (λ b. answer.Size (length b.bytes))
read_reply (reads.GetAttr c o name) objects = answer_of_object objects c o (λ b. value_of b.attrs name)
read_reply (reads.OmapGet c o key) objects = answer_of_object objects c o (λ b. value_of b.omap key)
read_reply (reads.OmapHeader c o) objects = answer_of_object objects c o (λ b. answer.Bytes b.header)
read_reply (reads.List c) objects = answer_from (found_collection objects c) (λ found. answer.Names (finite.keys found))

-- The answer of plain objects to each command.
abbrev pub reply_of : Command → Objects → Answer
reply_of (ask.Change change) objects = accepted_if (submitted_effect change objects)
reply_of (ask.Read read) objects = read_reply read objects
