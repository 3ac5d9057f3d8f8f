-- The end of planning: the rows of objects whose layouts a transaction has changed, over the changes of its values.
use Rattle.std.specs.Prelude.{◌≡◌, ℕ, ◌<◌, ◌^◌, ◌==◌, ◌||◌, ◌&&◌, not, Bool, true, false, List, [], ◌∷◌, Option, Some, None, Contains, if◌then◌else◌}
use Rattle.std.specs.Int.{w64, to_le_bytes}
use Rattle.std.specs.List.{list_any, AllByRecursion}
use Rattle.std.specs.Option.{option_map, option_map_or}
use Rattle.std.specs.FinMap as finite
use Rattle.std.specs.FinSet as set
use Rattle.byte_maps.specs.ByteMap.{ByteMap}
use Rattle.object_model.specs.declared.op.Op.{Op}
use Rattle.object_model.specs.Prelude.{Change, is_same}
use Rattle.unit_fields.specs.Prelude.{IsName}
use Rattle.unit_fields.specs.declared.width.Width.{Width}
use Rattle.meta_rows.specs.Prelude.{Rows}
use Rattle.row_format.specs.Prelude.{coll_key, onode_key, shard_key, Extent, Place, own}
use Rattle.bitmap_freelist.specs.Bitmap.{Units}
use Rattle.blob_map.specs.Prelude.{PageMap, extents_of}
use Rattle.extent_shards.specs.Prelude.{shard_bytes, shards_of, shard_limit, first_of}
use Rattle.row_changes.specs.Prelude.{ChangeMap, value_seen}
use Rattle.plan_drafts.specs.declared.draft.Draft.{Draft}
use Rattle.plan_rows.specs.Prelude.{blob_value}
use Rattle.shared_blobs.specs.Blob.{Blob}
use Rattle.plan_drafts.specs.Prelude.{Held, there_after, EndsBelow, Layout, HasLayout, or_empty, size_at, CollDraft, laid, GetsDraft}
use Rattle.txn_planner.specs.declared.planning.Planning.{Planning}
use Rattle.txn_planner.specs.declared.touched.Touched.{Touched}
use Rattle.txn_planner.specs.Planning.{IsStateOf}

-- ---- objects

-- a page of an object has come, gone or moved, where one may have been left
abbrev pub is_moved : Bool → Option Draft → Bool
is_moved left None = left
is_moved left (Some x) = left || not (finite.len x.puts == 0)

-- each taking by which the object has put a page is one of so many
abbrev pub PutsBelow : ℕ → Option Draft → Type 0
PutsBelow n now = (x : Draft) (page taking : ℕ) → now ≡ Some x → finite.get x.puts page ≡ Some taking → taking < n

-- so it is of all objects that were looked at
abbrev pub AllTakeBelow : ℕ → ByteMap Touched → Type 0
AllTakeBelow n objects = (o : List ℕ) (t : Touched) → finite.get objects o ≡ Some t → PutsBelow n t.now

-- and all have names
abbrev pub AllNamed : ByteMap Touched → Type 0
AllNamed objects = (o : List ℕ) (t : Touched) → finite.get objects o ≡ Some t → IsName o

-- the layout that it has on these units
abbrev pub laid_now : List ℕ → Held → Touched → Option Layout
laid_now units held t = option_map (laid units held) t.now

-- ---- changes of rows

-- the pages where shards begin, with these
abbrev pub openings : List (List Extent) → Units → Units
openings [] pages = pages
openings (shard ∷ shards) pages = openings shards (set.insert pages (first_of shard))

-- the first of these pages
abbrev pub first_page : List (ℕ × Place) → Option ℕ
first_page [] = None
first_page (p ∷ ps) = Some p.0

-- the first page, if there is one, with others
abbrev pub with_first_page : Option ℕ → Units → Units
with_first_page None pages = pages
with_first_page (Some first) pages = set.insert pages first

-- the shard that begins at a page goes, but for one that comes anew
abbrev pub without_shard : List ℕ → List ℕ → Units → ℕ → ChangeMap → ChangeMap
without_shard c o anew page changes = if set.contains anew page then changes else finite.insert changes (shard_key c o page) None

-- so do those that begin at these pages
abbrev pub without_shards : List ℕ → List ℕ → Units → List ℕ → ChangeMap → ChangeMap
without_shards c o anew [] changes = changes
without_shards c o anew (page ∷ pages) changes = without_shards c o anew pages (without_shard c o anew page changes)

-- whether a row has this value
abbrev pub has_value : Option (List ℕ) → List ℕ → Bool
has_value None value = false
has_value (Some held) value = is_same held value

-- each of these is one of the rows
abbrev pub AreOfRows : Rows → List (List ℕ × List ℕ) → Type 0
AreOfRows rows es = AllByRecursion (λ e. finite.get rows e.0 ≡ Some e.1) es

-- the value of the first of them, if it has this key
abbrev pub first_value : List ℕ → List (List ℕ × List ℕ) → Option (List ℕ)
first_value key [] = None
first_value key (e ∷ es) = if is_same e.0 key then Some e.1 else None

-- whether there is one, and no other
abbrev pub is_single : {X : Type 0} → List X → Bool
is_single [] = false
is_single (x ∷ []) = true
is_single (x ∷ (y ∷ ys)) = false

-- A shard comes, but for one whose row has its bytes already. The row of an only one isn't looked at: its map has changed.
abbrev pub with_shard : Width → Rows → List ℕ → List ℕ → Bool → List Extent → ChangeMap → ChangeMap
with_shard w rows c o only shard changes = if not only && has_value (finite.get rows (shard_key c o (first_of shard))) (shard_bytes w shard)
    then changes
    else finite.insert changes (shard_key c o (first_of shard)) (Some (shard_bytes w shard))

-- so do these
abbrev pub with_shards : Width → Rows → List ℕ → List ℕ → Bool → List (List Extent) → ChangeMap → ChangeMap
with_shards w rows c o only [] changes = changes
with_shards w rows c o only (shard ∷ shards) changes = with_shards w rows c o only shards (with_shard w rows c o only shard changes)

-- the shards of a map
abbrev pub cut_of : Width → PageMap → List (List Extent)
cut_of w pages = shards_of w (Some shard_limit) (extents_of (finite.entries pages))

-- the shards of pages come, and begin at the first of them and at these
pub record ArePut (w : Width) (rows : Rows) (c o : List ℕ) (ps : List (ℕ × Place)) (behind : Units) (changes changes' : ChangeMap) : Type 0 where
  pub begin : with_first_page (first_page ps) behind ≡ openings (shards_of w (Some shard_limit) (extents_of ps)) set.empty
  pub come : changes'
      ≡ with_shards w rows c o (is_single (shards_of w (Some shard_limit) (extents_of ps))) (shards_of w (Some shard_limit) (extents_of ps)) changes

-- an object with shards at these pages gets a map: its shards come, and those go that begin where none of them does
abbrev pub with_map : Width → Rows → List ℕ → List ℕ → List ℕ → PageMap → ChangeMap → ChangeMap
with_map w rows c o present pages changes = without_shards c o (openings (cut_of w pages) set.empty) present
    (with_shards w rows c o (is_single (cut_of w pages)) (cut_of w pages) changes)

-- whether an object is as long as it was, or missing as it was
abbrev pub is_as_long : Option ℕ → Option ℕ → Bool
is_as_long None None = true
is_as_long (Some before) (Some size) = before == size
is_as_long before size = false

-- its onode says this size, or goes where there is none; one that says it already stays
abbrev pub with_onode : List ℕ → List ℕ → Option ℕ → Option ℕ → ChangeMap → ChangeMap
with_onode c o before size changes =
    if is_as_long before size then changes else finite.insert changes (onode_key c o) (option_map (to_le_bytes w64) size)

-- an object that was looked at gets its rows: its onode by its size alone, and its shards by its map alone
abbrev pub with_touched : Width → Rows → List ℕ → List ℕ → Held → List ℕ → Touched → ChangeMap → ChangeMap
with_touched w rows c units held o t changes = if is_moved t.left t.now
    then with_map w rows c o t.shards.items (or_empty (laid_now units held t)).pages (with_onode c o t.before (size_at (laid_now units held t)) changes)
    else with_onode c o t.before (size_at (laid_now units held t)) changes

-- so do those with these names, from the first on, each taken out of them
abbrev pub with_objects : Width → Rows → List ℕ → List ℕ → Held → List (List ℕ) → ByteMap Touched → ChangeMap → ChangeMap
with_objects w rows c units held [] objects changes = changes
with_objects w rows c units held (o ∷ names) objects changes = with_objects w rows c units held names (finite.remove objects o)
    (option_map_or (λ t. with_touched w rows c units held o t changes) (finite.get objects o) changes)

-- the row of a collection that is there, or none
abbrev pub coll_row : Bool → Option (List ℕ)
coll_row there = if there then Some [] else None

-- whether an operation makes the collection, or takes it away
abbrev pub is_on_coll : Op → Bool
is_on_coll op = there_after op false || not (there_after op true)

-- and of all of a state, with the row of the collection where one of the operations is on that
abbrev pub with_rows : Width → Rows → Change → List ℕ → Held → Planning → ChangeMap
with_rows w rows change units held p =
    if list_any is_on_coll change.ops then finite.insert (with_objects w rows change.coll units held (finite.keys p.objects) p.objects p.values)
    (coll_key change.coll) (coll_row p.there)
    else with_objects w rows change.coll units held (finite.keys p.objects) p.objects p.values

-- ---- blobs

-- blobs, each under the key of its row, get rows as they are; one of which no page names a slot loses it
abbrev pub with_blobs : Width → List (List ℕ × Blob) → ChangeMap → ChangeMap
with_blobs w [] changes = changes
with_blobs w (e ∷ es) changes = with_blobs w es (finite.insert changes e.0 (blob_value w e.1.first e.1.slots))

-- ---- what they come to

-- no page of an object stands on one of these units
abbrev pub AreNew : (List ℕ → Option Layout) → List ℕ → Type 0
AreNew layouts units = (o : List ℕ) (page unit csum : ℕ) → IsName o → finite.get (or_empty (layouts o)).pages page ≡ Some (own unit csum)
    → Contains units unit → ⊥

-- the pages of all objects have numbers that fit their field
abbrev pub HaveNumbers : CollDraft → Type 0
HaveNumbers d = (o : List ℕ) (x : Draft) → IsName o → d.layout o ≡ Some x → EndsBelow x (2 ^ 32)

-- where no operation is on the collection, its row is that of the draft already
abbrev pub HasCollRow : Rows → Change → CollDraft → Type 0
HasCollRow rows change d = list_any is_on_coll change.ops ≡ false → finite.get rows (coll_key change.coll) ≡ coll_row d.there

-- What is seen through the changes are the rows of the draft, where its pages are put on units on which none stood.
abbrev pub IsChangesOf : Width → Rows → Change → Planning → List ℕ → Held → ChangeMap → Type 0
IsChangesOf w rows change p units held changes = (layouts : List ℕ → Option Layout) (d : CollDraft) → IsStateOf rows change.coll layouts d p
    → ((o : List ℕ) → IsName o → HasLayout w rows change.coll o (layouts o)) → HasCollRow rows change d → AreNew layouts units → HaveNumbers d
    → (after : Rows) → ((key : List ℕ) → finite.get after key ≡ value_seen rows changes key)
    → GetsDraft w rows after change.coll layouts units held d
