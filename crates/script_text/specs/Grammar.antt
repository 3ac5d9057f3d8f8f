-- How a line is spelled. A line says at most one thing, and data may have two spellings.
use Rattle.std.specs.Prelude.{◌≡◌, ◌≢◌, ◌⊎◌, ℕ, ◌+◌, ◌-◌, ◌/◌, ◌%◌, ◌^◌, ◌<◌, ◌≤◌, nat_lt, nat_le, ◌==◌}
use Rattle.std.specs.Prelude.{Bool, true, false, ◌&&◌, ◌||◌, if◌then◌else◌, List, [], ◌∷◌, ◌++◌, length, replicate, codes, decimal}
use Rattle.std.specs.List.{AllByRecursion}
use Rattle.unit_fields.specs.Prelude.{IsCollName, IsName}
use Rattle.object_model.specs.declared.op.Op.{Op}
use Rattle.object_model.specs.declared.op.Op.TheVariants.{MkColl, RmColl, Touch, Write, Zero, Truncate, Remove, SetAttr, RmAttr, RmAttrs, Clone, CloneRange, OmapSet, OmapRm, OmapRmRange, OmapClear, OmapHeader}
use Rattle.object_model.specs.declared.op.Pair.{Pair}
use Rattle.object_model.specs.Prelude.{Change}
use Rattle.object_model.specs.declared.command.Command.TheVariants as command
use Rattle.object_model.specs.declared.command.Read.{Read}
use Rattle.object_model.specs.declared.command.Read.TheVariants as reads
use Rattle.script_text.specs.declared.line.What.{What}
use Rattle.script_text.specs.declared.line.What.TheVariants.{Command, Wait}

-- ---- words and bytes

-- no byte is this one
abbrev pub HasNo : ℕ → List ℕ → Type 0
HasNo c bytes = AllByRecursion (λ b. b ≢ c) bytes

-- numbers of eight bits
abbrev pub EachIsByte : List ℕ → Type 0
EachIsByte bytes = AllByRecursion (λ b. b < 256) bytes

-- none has a space in it
abbrev pub AreWords : List (List ℕ) → Type 0
AreWords words = AllByRecursion (HasNo 0x20) words

-- words with one space between them
abbrev pub in_words : List (List ℕ) → List ℕ
in_words [] = []
in_words (word ∷ []) = word
in_words (word ∷ next ∷ words) = word ++ (0x20 ∷ in_words (next ∷ words))

-- each byte by its code, one behind another
unfoldable pub spelled_by : (ℕ → List ℕ) → List ℕ → List ℕ
spelled_by code [] = []
spelled_by code (b ∷ bs) = code b ++ spelled_by code bs

-- a hexadecimal digit, where the letter for ten is `A` or `a`
abbrev pub hex_digit_from : ℕ → ℕ → ℕ
hex_digit_from ten d = if nat_lt d 10 then 0x30 + d else ten + (d - 10)

-- a byte as two hexadecimal digits
unfoldable pub hex_pair : ℕ → ℕ → List ℕ
hex_pair ten b = hex_digit_from ten (b / 16) ∷ hex_digit_from ten (b % 16) ∷ []

-- ---- numbers and names

-- a number below 2^64 in decimal, without leading zeros
abbrev pub IsNumber : List ℕ → ℕ → Type 0
IsNumber word n = (n < 2 ^ 64) × (word ≡ decimal n)

-- from the one byte to the other
abbrev pub is_byte_between : ℕ → ℕ → ℕ → Bool
is_byte_between first last b = nat_le first b && nat_le b last

-- digits, capital and small letters, `.`, `_` and `-`
abbrev pub is_plain : ℕ → Bool
is_plain b = is_byte_between 0x30 0x39 b || is_byte_between 0x41 0x5a b || is_byte_between 0x61 0x7a b || b == 0x2e || b == 0x5f || b == 0x2d

-- a byte of a name: itself, or `%` and two digits with capital letters
unfoldable pub escape : ℕ → List ℕ
escape b = if is_plain b then b ∷ [] else 0x25 ∷ hex_pair 0x41 b

-- how a name is spelled
abbrev pub escaped : List ℕ → List ℕ
escaped name = spelled_by escape name

-- the word spells this name
pub record IsNameWord (word name : List ℕ) : Type 0 where
  pub named : IsName name
  pub are_bytes : EachIsByte name
  pub spelled : word ≡ escaped name

-- ---- data

-- `hex:` and two digits with small letters for each byte
pub record IsHexWord (word bytes : List ℕ) : Type 0 where
  pub are_bytes : EachIsByte bytes
  pub spelled : word ≡ codes "hex:" ++ spelled_by (hex_pair 0x61) bytes

-- a byte, as two such digits, and how often it stands
pub record IsFill (text : List ℕ) (byte count : ℕ) : Type 0 where
  pub fits : byte < 256
  pub few : count ≤ 2097152
  pub spelled : text ≡ hex_pair 0x61 byte ++ (0x3a ∷ decimal count)

-- `fill:XX:NUM`
pub record IsFillWord (word bytes : List ℕ) : Type 0 where
  pub text : List ℕ
  pub byte : ℕ
  pub count : ℕ
  pub fill : IsFill text byte count
  pub spelled : word ≡ codes "fill:" ++ text
  pub filled : bytes ≡ replicate count byte

-- the word spells this data
abbrev pub IsDataWord : List ℕ → List ℕ → Type 0
IsDataWord word bytes = IsHexWord word bytes ⊎ IsFillWord word bytes

-- ---- lines

-- the word of an operation, where scripts have one so far
abbrev pub op_word : Op → List ℕ
op_word MkColl = codes "mkcoll"
op_word (Touch object) = codes "touch"
op_word (Write object off bytes) = codes "write"
op_word (Zero object off len) = codes "zero"
op_word (Truncate object size) = codes "truncate"
op_word (Remove object) = codes "remove"
op_word RmColl = codes "rmcoll"
op_word (SetAttr object name value) = codes "setattr"
op_word (RmAttr object name) = codes "rmattr"
op_word (RmAttrs object) = codes "rmattrs"
op_word (OmapSet object pairs) = codes "omapset"
op_word (OmapRm object keys) = codes "omaprm"
op_word (OmapRmRange object first last) = codes "omaprmrange"
op_word (OmapClear object) = codes "omapclear"
op_word (OmapHeader object value) = codes "omapheader"
op_word op = []

-- `O`
pub record AreObjectArgs (args : List (List ℕ)) (object : List ℕ) : Type 0 where
  pub object_word : List ℕ
  pub words : args ≡ object_word ∷ []
  pub names : IsNameWord object_word object

-- `O NUM DATA`
pub record AreWriteArgs (args : List (List ℕ)) (object : List ℕ) (off : ℕ) (bytes : List ℕ) : Type 0 where
  pub object_word : List ℕ
  pub off_word : List ℕ
  pub data_word : List ℕ
  pub words : args ≡ object_word ∷ off_word ∷ data_word ∷ []
  pub names : IsNameWord object_word object
  pub offset : IsNumber off_word off
  pub holds : IsDataWord data_word bytes

-- `O NUM NUM`, the offset and the length
pub record AreRangeArgs (args : List (List ℕ)) (object : List ℕ) (off len : ℕ) : Type 0 where
  pub object_word : List ℕ
  pub off_word : List ℕ
  pub len_word : List ℕ
  pub words : args ≡ object_word ∷ off_word ∷ len_word ∷ []
  pub names : IsNameWord object_word object
  pub offset : IsNumber off_word off
  pub count : IsNumber len_word len

-- `O NUM`, the size
pub record AreSizeArgs (args : List (List ℕ)) (object : List ℕ) (size : ℕ) : Type 0 where
  pub object_word : List ℕ
  pub size_word : List ℕ
  pub words : args ≡ object_word ∷ size_word ∷ []
  pub names : IsNameWord object_word object
  pub sized : IsNumber size_word size

-- `O NAME`
pub record AreNameArgs (args : List (List ℕ)) (object name : List ℕ) : Type 0 where
  pub object_word : List ℕ
  pub name_word : List ℕ
  pub words : args ≡ object_word ∷ name_word ∷ []
  pub names : IsNameWord object_word object
  pub called : IsNameWord name_word name

-- `O DATA`
pub record AreDataArgs (args : List (List ℕ)) (object value : List ℕ) : Type 0 where
  pub object_word : List ℕ
  pub data_word : List ℕ
  pub words : args ≡ object_word ∷ data_word ∷ []
  pub names : IsNameWord object_word object
  pub holds : IsDataWord data_word value

-- `O NAME DATA`
pub record AreAttrArgs (args : List (List ℕ)) (object name value : List ℕ) : Type 0 where
  pub object_word : List ℕ
  pub name_word : List ℕ
  pub data_word : List ℕ
  pub words : args ≡ object_word ∷ name_word ∷ data_word ∷ []
  pub names : IsNameWord object_word object
  pub called : IsNameWord name_word name
  pub holds : IsDataWord data_word value

-- `O NAME NAME`, the first key and the one behind the last
pub record AreKeyRangeArgs (args : List (List ℕ)) (object first last : List ℕ) : Type 0 where
  pub object_word : List ℕ
  pub first_word : List ℕ
  pub last_word : List ℕ
  pub words : args ≡ object_word ∷ first_word ∷ last_word ∷ []
  pub names : IsNameWord object_word object
  pub begins : IsNameWord first_word first
  pub ends : IsNameWord last_word last

-- words for keys, one each
abbrev pub AreKeyWords : List (List ℕ) → List (List ℕ) → Type 0
AreKeyWords [] [] = Unit {0}
AreKeyWords (word ∷ words) (key ∷ keys) = IsNameWord word key × AreKeyWords words keys
AreKeyWords words keys = ⊥

-- words for pairs, two each: the key and the value
abbrev pub ArePairWords : List (List ℕ) → List Pair → Type 0
ArePairWords [] [] = Unit {0}
ArePairWords (key_word ∷ value_word ∷ words) (p ∷ pairs) = IsNameWord key_word p.key × IsDataWord value_word p.value × ArePairWords words pairs
ArePairWords words pairs = ⊥

-- `O` and one or more NAME
pub record AreKeysArgs (args : List (List ℕ)) (object : List ℕ) (keys : List (List ℕ)) : Type 0 where
  pub object_word : List ℕ
  pub key_words : List (List ℕ)
  pub words : args ≡ object_word ∷ key_words
  pub names : IsNameWord object_word object
  pub spell : AreKeyWords key_words keys
  pub some : 0 < length keys

-- `O` and one or more `NAME DATA`
pub record ArePairsArgs (args : List (List ℕ)) (object : List ℕ) (pairs : List Pair) : Type 0 where
  pub object_word : List ℕ
  pub pair_words : List (List ℕ)
  pub words : args ≡ object_word ∷ pair_words
  pub names : IsNameWord object_word object
  pub spell : ArePairWords pair_words pairs
  pub some : 0 < length pairs

-- the words behind the collection's
abbrev pub AreArgs : List (List ℕ) → Op → Type 0
AreArgs args MkColl = args ≡ []
AreArgs args (Touch object) = AreObjectArgs args object
AreArgs args (Write object off bytes) = AreWriteArgs args object off bytes
AreArgs args (Zero object off len) = AreRangeArgs args object off len
AreArgs args (Truncate object size) = AreSizeArgs args object size
AreArgs args (Remove object) = AreObjectArgs args object
AreArgs args RmColl = args ≡ []
AreArgs args (SetAttr object name value) = AreAttrArgs args object name value
AreArgs args (RmAttr object name) = AreNameArgs args object name
AreArgs args (RmAttrs object) = AreObjectArgs args object
AreArgs args (OmapSet object pairs) = ArePairsArgs args object pairs
AreArgs args (OmapRm object keys) = AreKeysArgs args object keys
AreArgs args (OmapRmRange object first last) = AreKeyRangeArgs args object first last
AreArgs args (OmapClear object) = AreObjectArgs args object
AreArgs args (OmapHeader object value) = AreDataArgs args object value
AreArgs args op = ⊥

-- the words of a transaction of one operation: the operation's, the collection, and what they are about
pub record AreChangeWords (words : List (List ℕ)) (change : Change) : Type 0 where
  pub op : Op
  pub args : List (List ℕ)
  pub alone : change.ops ≡ op ∷ []
  pub named : IsCollName change.coll
  pub whole : words ≡ op_word op ∷ change.coll ∷ args
  pub about : AreArgs args op

-- the words of a read of an object's bytes: `read C O NUM NUM`, the offset and the length
pub record AreReadWords (words : List (List ℕ)) (coll object : List ℕ) (off len : ℕ) : Type 0 where
  pub object_word : List ℕ
  pub off_word : List ℕ
  pub len_word : List ℕ
  pub named : IsCollName coll
  pub whole : words ≡ codes "read" ∷ coll ∷ object_word ∷ off_word ∷ len_word ∷ []
  pub names : IsNameWord object_word object
  pub offset : IsNumber off_word off
  pub size : IsNumber len_word len

-- the words of a read of an object as a whole: this one, `C` and `O`
pub record AreObjectWords (word : List ℕ) (words : List (List ℕ)) (coll object : List ℕ) : Type 0 where
  pub object_word : List ℕ
  pub named : IsCollName coll
  pub whole : words ≡ word ∷ coll ∷ object_word ∷ []
  pub names : IsNameWord object_word object

-- the words of a read of a value of an object: this one, `C`, `O` and the value's name
pub record AreValueWords (word : List ℕ) (words : List (List ℕ)) (coll object name : List ℕ) : Type 0 where
  pub object_word : List ℕ
  pub name_word : List ℕ
  pub named : IsCollName coll
  pub whole : words ≡ word ∷ coll ∷ object_word ∷ name_word ∷ []
  pub names : IsNameWord object_word object
  pub called : IsNameWord name_word name

-- the words of a read of a collection's names: `list C`
pub record AreListWords (words : List (List ℕ)) (coll : List ℕ) : Type 0 where
  pub named : IsCollName coll
  pub whole : words ≡ codes "list" ∷ coll ∷ []

-- the words say this read
abbrev pub AreWordsOfRead : List (List ℕ) → Read → Type 0
AreWordsOfRead words (reads.Bytes coll object off len) = AreReadWords words coll object off len
AreWordsOfRead words (reads.Sum coll object) = AreObjectWords (codes "sum") words coll object
AreWordsOfRead words (reads.Stat coll object) = AreObjectWords (codes "stat") words coll object
AreWordsOfRead words (reads.GetAttr coll object name) = AreValueWords (codes "getattr") words coll object name
AreWordsOfRead words (reads.OmapGet coll object key) = AreValueWords (codes "omapget") words coll object key
AreWordsOfRead words (reads.OmapHeader coll object) = AreObjectWords (codes "omaphdr") words coll object
AreWordsOfRead words (reads.List coll) = AreListWords words coll

-- the words say this
abbrev pub AreWordsOf : List (List ℕ) → What → Type 0
AreWordsOf words (Command (command.Change change)) = AreChangeWords words change
AreWordsOf words (Command (command.Read read)) = AreWordsOfRead words read
AreWordsOf words Wait = words ≡ codes "wait" ∷ []

-- the operations that the kernel can do so far: all but clones
abbrev pub IsKnownChangeOp : Op → Type 0
IsKnownChangeOp (Clone object to) = ⊥
IsKnownChangeOp (CloneRange object to src len dst) = ⊥
IsKnownChangeOp op = Unit {0}

-- the transactions that it can do so far
abbrev pub IsKnownChange : List Op → Type 0
IsKnownChange [] = ⊥
IsKnownChange (op ∷ ops) = IsKnownChangeOp op × AllByRecursion IsKnownChangeOp ops

-- what the kernel can do so far, and each read: any other line is a bad one
abbrev pub FitsWhat : What → Type 0
FitsWhat (Command (command.Change change)) = IsKnownChange change.ops
FitsWhat what = Unit {0}

-- the text of a line says this
pub record IsLineOf (text : List ℕ) (what : What) : Type 0 where
  pub words : List (List ℕ)
  pub whole : text ≡ in_words words
  pub say : AreWordsOf words what
  pub fits : FitsWhat what

-- a transaction of this operation
abbrev pub op_line : List ℕ → Op → What
op_line coll op = Command (command.Change (record { coll = coll; ops = op ∷ [] }))

-- a command counts as one, and `wait` doesn't count
abbrev pub command_count : What → ℕ
command_count (Command command) = 1
command_count Wait = 0

abbrev pub is_wait : What → Bool
is_wait (Command command) = false
is_wait Wait = true

-- an empty line, or a comment
abbrev pub IsPassedOver : List ℕ → Type 0
IsPassedOver [] = Unit {0}
IsPassedOver (b ∷ bs) = b ≡ 0x23
