-- The limits of a whole transaction.
use Rattle.std.specs.Prelude.{ℕ, ◌+◌, nat_lt, ◌||◌, Bool, List, length, sum_by, Result, Err, IsTrue, if◌then◌else◌}
use Rattle.object_model.specs.declared.op.Op.{Op}
use Rattle.object_model.specs.declared.op.Op.TheVariants.{Write, SetAttr, RmAttr, OmapSet, OmapRm, OmapRmRange, OmapHeader}
use Rattle.object_model.specs.declared.op.Pair.{Pair}
use Rattle.object_model.specs.declared.op.Refusal.{Refusal}
use Rattle.object_model.specs.declared.op.Refusal.TheVariants.{TooBig}
use Rattle.object_model.specs.Objects.{Objects}
use Rattle.object_model.specs.Effect.{Change, transaction_effect}

-- the most operations of a transaction
abbrev pub operation_limit : ℕ
operation_limit = 256

-- the most payload bytes of a transaction
abbrev pub payload_limit : ℕ
payload_limit = 1048576

-- the bytes of the keys and values of pairs
abbrev pub payload_of_pairs : List Pair → ℕ
payload_of_pairs pairs = sum_by (λ p. length p.key + length p.value) pairs

-- the bytes of keys
abbrev pub payload_of_keys : List (List ℕ) → ℕ
payload_of_keys keys = sum_by length keys

-- The payload bytes of an operation: data and headers, and the names, keys and values of attributes and omap, those that are taken away and a range's ends too.
abbrev pub payload_of : Op → ℕ
payload_of (Write o off bytes) = length bytes
payload_of (SetAttr o name value) = length name + length value
payload_of (RmAttr o name) = length name
payload_of (OmapSet o pairs) = payload_of_pairs pairs
payload_of (OmapRm o keys) = payload_of_keys keys
payload_of (OmapRmRange o first last) = length first + length last
payload_of (OmapHeader o value) = length value
payload_of op = 0

-- whether a transaction has too many operations or too many payload bytes
abbrev pub is_too_large : Change → Bool
is_too_large change = nat_lt operation_limit (length change.ops) || nat_lt payload_limit (sum_by payload_of change.ops)

abbrev pub IsTooLarge : Change → Type 0
IsTooLarge change = IsTrue (is_too_large change)

-- What a submitted transaction makes of the objects: too large first, then its own refusal.
abbrev pub submitted_effect : Change → Objects → Result Objects Refusal
submitted_effect change objects = if is_too_large change then Err TooBig else transaction_effect change objects
