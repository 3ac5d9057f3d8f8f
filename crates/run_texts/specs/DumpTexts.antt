-- What a run of `dump` prints: a function of what its walk saw, and of its end.
use Rattle.std.specs.Prelude.{ℕ, Bool, true, false, List, [], ◌∷◌, ◌++◌, map, Result, Ok, Err, codes, decimal}
use Rattle.std.specs.List.{flat_map, list_any}
use Rattle.read_facts.specs.declared.view.BadSum.{BadSum}
use Rattle.read_facts.specs.declared.view.CollView.{CollView}
use Rattle.read_facts.specs.declared.view.ObjectView.{ObjectView}
use Rattle.read_facts.specs.declared.view.ValueView.{ValueView}
use Rattle.script_text.specs.Prelude.{escaped}
use Rattle.run_texts.specs.declared.work_end.WorkEnd.{WorkEnd}
use Rattle.run_texts.specs.declared.work_end.WorkEnd.TheVariants.{Done}
use Rattle.run_texts.specs.Hex.{hex_text, hex_or_dash, hex_sum}
use Rattle.run_texts.specs.Replies.{csum_text}
use Rattle.run_texts.specs.StepTexts.{fail_lines, end_status}
use Rattle.run_texts.specs.Texts.{as_text}

-- the checksum of an object's bytes, or its first bad unit
abbrev pub sum_text : Result ℕ BadSum → List ℕ
sum_text (Ok crc) = codes "crc " ++ hex_sum crc
sum_text (Err bad) = csum_text bad.unit bad.kept bad.found

-- an object, by its name, its size and its checksum
abbrev pub view_line : ObjectView → List ℕ
view_line v = codes "object " ++ escaped v.name ++ codes " size " ++ decimal v.size ++ codes " " ++ sum_text v.sum

-- a value of an object by its name and its bytes, behind a word for its kind
abbrev pub value_line : List ℕ → ValueView → List ℕ
value_line word v = word ++ escaped v.name ++ codes " " ++ hex_or_dash v.value

abbrev pub value_lines : List ℕ → List ValueView → List (List ℕ)
value_lines word values = map (value_line word) values

-- the header of an omap, unless it is empty
abbrev pub header_lines : List ℕ → List (List ℕ)
header_lines [] = []
header_lines (b ∷ bs) = (codes "header " ++ hex_text (b ∷ bs)) ∷ []

-- an object with its attributes, the header of its omap and its pairs
abbrev pub object_lines : ObjectView → List (List ℕ)
object_lines v = view_line v ∷ (value_lines (codes "attr ") v.attrs ++ (header_lines v.header ++ value_lines (codes "omap ") v.omap))

-- a collection, and the objects that were seen of it
abbrev pub coll_lines : CollView → List (List ℕ)
coll_lines v = (codes "coll " ++ escaped v.coll) ∷ flat_map object_lines v.objects

-- the collections that were seen
abbrev pub walk_lines : List CollView → List (List ℕ)
walk_lines colls = flat_map coll_lines colls

-- an object has a bad unit
abbrev pub is_bad : Result ℕ BadSum → Bool
is_bad (Ok crc) = false
is_bad (Err bad) = true

-- some object of a collection has a bad unit
abbrev pub has_bad_object : CollView → Bool
has_bad_object v = list_any (λ o. is_bad o.sum) v.objects

-- some object of a walk has a bad unit
abbrev pub has_bad_view : List CollView → Bool
has_bad_view colls = list_any has_bad_object colls

-- the lines behind those of objects
abbrev pub last_lines : Bool → WorkEnd → List (List ℕ)
last_lines bad (Done free) = codes "end" ∷ []
last_lines bad end = fail_lines bad end

-- the whole text
abbrev pub dump_text : List CollView → WorkEnd → List ℕ
dump_text colls end = as_text (walk_lines colls ++ last_lines (has_bad_view colls) end)

-- the exit status
abbrev pub dump_number : List CollView → WorkEnd → ℕ
dump_number colls end = end_status (has_bad_view colls) end
