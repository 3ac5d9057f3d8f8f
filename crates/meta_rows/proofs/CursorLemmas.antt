-- Places in the spelling of rows, and parts of it.
use Rattle.std.proofs.Common.{◌≡◌, ℕ, zero, suc, ◌+◌, ◌-◌, ◌<◌, ◌≤◌, Bool, true, false, T, List, [], ◌∷◌, ◌++◌, length, get_or, take, drop, min, Option, Some, None, refl, sym, ap, ap₂, subst, ◌∙◌, arith, append_assoc, append-nil}
use Rattle.std.specs.Ordering.{is_lt}
use Rattle.std.specs.FinMap as map
use Rattle.std.specs.FinMap.{is_sorted, entries_sorted}
use Rattle.std.proofs.Math.Seq.{drop-nil, take-nil, drop-append-add}
use Rattle.std.proofs.lemmas.List.{length-append, drop-append-le, take_all, take_at, take-append-drop, get_or-append-add, nil_from_length}
use Rattle.std.proofs.lemmas.List.Concat.{flat_map-cons}
use Rattle.byte_maps.specs.ByteMap.{byte_order}
use Rattle.byte_maps.proofs.Prelude.{both_first, both_second}
use Rattle.meta_rows.specs.declared.row_op.RowOp.TheVariants.{Set}
use Rattle.meta_rows.specs.declared.part.Part.{Part}
use Rattle.meta_rows.specs.Prelude.{Rows, op_bytes, ops_bytes, AllFit, rows_size, list_size, rows_from_to, NoneBelow, StartsAt, Entry, joined, sets_of, row_sets, rows_on, StandsIn, part_with, HasCome}
use Rattle.meta_rows.proofs.ChunkLemmas.{joined-append}
use Rattle.meta_rows.proofs.ListSizes.{list_size-append}
use Rattle.meta_rows.proofs.SetLemmas.{size-sets, same_key}
use Rattle.meta_rows.proofs.RangeLemmas.{starts_there, none_behind, range_is}

-- ---- a part of bytes that come

drop_past : (n : ℕ) (xs ys : List ℕ) → length xs ≤ n → drop n (xs ++ ys) ≡ drop (n - length xs) ys
drop_past n xs ys long =
    let sum : n ≡ length xs + (n - length xs) = omega (arith, long) in ap (λ k. drop k (xs ++ ys)) sum ∙ drop-append-add xs ys (n - length xs)

-- bytes of which as many are taken as are wanted
pub take_both : (n : ℕ) (xs ys : List ℕ) → take n (xs ++ ys) ≡ take (min n (length xs)) xs ++ take (n - min n (length xs)) ys
take_both zero xs ys =
    let none : min 0 (length xs) ≡ 0 = omega arith in
    let rest : 0 - min 0 (length xs) ≡ 0 = omega arith in
    sym (ap₂ (λ (a b : ℕ). take a xs ++ take b ys) none rest)
take_both (suc n) [] ys =
    let none : min (suc n) 0 ≡ 0 = omega arith in
    let rest : suc n - min (suc n) 0 ≡ suc n = omega arith in
    sym (ap₂ (λ (a b : ℕ). take a [] ++ take b ys) none rest)
take_both (suc n) (x ∷ xs) ys =
    let one : min (suc n) (suc (length xs)) ≡ suc (min n (length xs)) = omega arith in
    let rest : suc n - min (suc n) (suc (length xs)) ≡ n - min n (length xs) = omega arith in
    ap (λ (l : List ℕ). x ∷ l) (take_both n xs ys) ∙ sym (ap₂ (λ (a b : ℕ). take a (x ∷ xs) ++ take b ys) one rest)

-- all that came is passed over
pub passed_over : (held came : List ℕ) (skip skip' left : ℕ) → length came ≤ skip → skip' ≡ skip - length came → (more : List ℕ)
    → held ++ take left (drop skip' more) ≡ held ++ take left (drop skip (came ++ more))
passed_over held came skip skip' left long is more =
    ap (λ (l : List ℕ). held ++ take left l) (ap (λ k. drop k more) is ∙ sym (drop_past skip came more long))

-- some of it is taken
pub part_taken : (held came here now : List ℕ) (skip left count left' : ℕ) → skip ≤ length came → here ≡ drop skip came → count ≡ min left (length here)
    → now ≡ held ++ take count here → left' ≡ left - count → (more : List ℕ) → now ++ take left' more ≡ held ++ take left (drop skip (came ++ more))
part_taken held came here now skip left count left' within here_is count_is now_is left_is more =
    let behind : drop skip (came ++ more) ≡ here ++ more = drop-append-le skip came more within ∙ ap (λ (l : List ℕ). l ++ more) (sym here_is) in
    let both : take left (here ++ more) ≡ take count here ++ take left' more =
    take_both left here more ∙ ap₂ (λ (a b : ℕ). take a here ++ take b more) (sym count_is) (sym (left_is ∙ ap (λ k. left - k) count_is)) in
    ap (λ (l : List ℕ). l ++ take left' more) now_is
    ∙ append_assoc held (take count here) (take left' more)
    ∙ ap (λ (l : List ℕ). held ++ l) (sym both)
    ∙ ap (λ (l : List ℕ). held ++ take left l) (sym behind)

-- bytes come behind others
pub takes_then : (a b : List ℕ) (p q r : Part) → HasCome a p q → HasCome b q r → HasCome (a ++ b) p r
takes_then a b p q r first then more = then more ∙ first (b ++ more) ∙ ap (part_with p) (sym (append_assoc a b more))

-- nothing more comes, or nothing more is wanted
pub part_whole : (p : Part) → part_with p [] ≡ p.bytes.items
part_whole p = ap (λ (l : List ℕ). p.bytes.items ++ l) (ap (take p.left) (drop-nil p.skip) ∙ take-nil p.left) ∙ append-nil p.bytes.items

pub part_full : (p : Part) (more : List ℕ) → p.left ≡ 0 → part_with p more ≡ p.bytes.items
part_full p more none = ap (λ k. p.bytes.items ++ take k (drop p.skip more)) none ∙ append-nil p.bytes.items

-- ---- the spelling of rows, one behind the other

pub row_first : (row : Entry) (rows : List Entry) → ops_bytes (sets_of (row ∷ rows)) ≡ op_bytes (Set row.0 row.1) ++ ops_bytes (sets_of rows)
row_first row rows = flat_map-cons op_bytes (Set row.0 row.1) (sets_of rows)

bytes_both : (a b : List Entry) → ops_bytes (sets_of (a ++ b)) ≡ ops_bytes (sets_of a) ++ ops_bytes (sets_of b)
bytes_both [] b = refl
bytes_both (row ∷ a) b =
    row_first row (a ++ b)
    ∙ ap (λ (l : List ℕ). op_bytes (Set row.0 row.1) ++ l) (bytes_both a b)
    ∙ sym (append_assoc (op_bytes (Set row.0 row.1)) (ops_bytes (sets_of a)) (ops_bytes (sets_of b)))
    ∙ ap (λ (l : List ℕ). l ++ ops_bytes (sets_of b)) (sym (row_first row a))

pub fit_front : (a b : List Entry) → AllFit (sets_of (a ++ b)) → AllFit (sets_of a)
fit_front [] b all = tt
fit_front (row ∷ a) b all = (all.0, fit_front a b all.1)

pub fit_back : (a b : List Entry) → AllFit (sets_of (a ++ b)) → AllFit (sets_of b)
fit_back [] b all = all
fit_back (row ∷ a) b all = fit_back a b all.1

-- ---- the rows below a key and those from it on

not_less : (key : List ℕ) → is_lt (byte_order key []) ≡ false
not_less [] = refl
not_less (x ∷ key) = refl

none_below : (es : List Entry) → NoneBelow [] es
none_below [] = tt
none_below (e ∷ es) = (not_less e.0, none_below es)

from_first : (es : List Entry) → StartsAt [] es 0
from_first es = (omega arith, tt, none_below es)

starts : (key : List ℕ) (es : List Entry) → T (is_sorted byte_order es) → (at : ℕ) × StartsAt key es at
starts key [] sorted = (0, (omega arith, tt, tt))
starts key (e ∷ es) sorted = by (is_lt (byte_order e.0 key)) refl (starts key es (both_second _ _ sorted))
  where
    by : (b : Bool) → is_lt (byte_order e.0 key) ≡ b → (at : ℕ) × StartsAt key es at → (at : ℕ) × StartsAt key (e ∷ es) at
    by true is later = (suc later.0, (omega (arith, later.1.0), (is, later.1.1), later.1.2))
    by false is later = (0, (omega arith, tt, (is, none_behind key (byte_order e.0 key) e es refl is (both_first _ _ sorted))))

below_is : (rows : Rows) (key : List ℕ) (at : ℕ) → StartsAt key (map.entries rows) at → rows_from_to rows [] (Some key) ≡ take at (map.entries rows)
below_is rows key at s = range_is [] (Some key) (map.entries rows) 0 at (from_first (map.entries rows)) s

on_is : (rows : Rows) (key : List ℕ) (at : ℕ) → StartsAt key (map.entries rows) at → rows_from_to rows key None ≡ drop at (map.entries rows)
on_is rows key at s =
    let es = map.entries rows in
    range_is key None es at (length es) s refl ∙ ap (drop at) (take_all (length es) es (omega arith))

all_is : (rows : Rows) → rows_from_to rows [] None ≡ map.entries rows
all_is rows = let es = map.entries rows in range_is [] None es 0 (length es) (from_first es) refl ∙ take_all (length es) es (omega arith)

pub parted : (rows : Rows) (key : Option (List ℕ)) → rows_from_to rows [] key ++ rows_on rows key ≡ map.entries rows
parted rows None = append-nil (rows_from_to rows [] None) ∙ all_is rows
parted rows (Some key) =
    let s = starts key (map.entries rows) (entries_sorted rows) in
    ap₂ (λ (a b : List Entry). a ++ b) (below_is rows key s.0 s.1) (on_is rows key s.0 s.1) ∙ take-append-drop s.0 (map.entries rows)

pub sizes : (rows : Rows) (key : Option (List ℕ)) → list_size (rows_from_to rows [] key) + list_size (rows_on rows key) ≡ rows_size rows
sizes rows key = sym (list_size-append (rows_from_to rows [] key) (rows_on rows key)) ∙ ap list_size (parted rows key)

pub fit_below : (rows : Rows) (key : Option (List ℕ)) → AllFit (row_sets rows) → AllFit (sets_of (rows_from_to rows [] key))
fit_below rows key all = fit_front (rows_from_to rows [] key) (rows_on rows key) (subst (λ (es : List Entry). AllFit (sets_of es)) (sym (parted rows key)) all)

pub fit_on : (rows : Rows) (key : Option (List ℕ)) → AllFit (row_sets rows) → AllFit (sets_of (rows_on rows key))
fit_on rows key all = fit_back (rows_from_to rows [] key) (rows_on rows key) (subst (λ (es : List Entry). AllFit (sets_of es)) (sym (parted rows key)) all)

-- the bytes behind a cursor are those of the rows from its key on, but for those that it passed
pub bytes_behind : (rows : Rows) (key : Option (List ℕ)) (passed : ℕ)
    → drop passed (ops_bytes (sets_of (rows_on rows key))) ≡ drop (list_size (rows_from_to rows [] key) + passed) (ops_bytes (row_sets rows))
bytes_behind rows key passed =
    let below = rows_from_to rows [] key in
    let on = rows_on rows key in
    let whole : ops_bytes (row_sets rows) ≡ ops_bytes (sets_of below) ++ ops_bytes (sets_of on) =
    ap (λ (es : List Entry). ops_bytes (sets_of es)) (sym (parted rows key)) ∙ bytes_both below on in
    sym (ap₂ (λ (n : ℕ) (l : List ℕ). drop (n + passed) l) (sym (size-sets below)) whole
    ∙ drop-append-add (ops_bytes (sets_of below)) (ops_bytes (sets_of on)) passed)

-- ---- a row among others

pub in_back : (front rows : List Entry) (key : List ℕ) (passed place : ℕ) → StandsIn rows key passed place → StandsIn (front ++ rows) key passed (list_size front + place)
in_back front rows key passed place i = record {
  front = front ++ i.front;
  value = i.value;
  back = i.back;
  is = ap (λ (l : List Entry). front ++ l) i.is ∙ sym (append_assoc front i.front ((key, i.value) ∷ i.back));
  place_is = omega (arith, i.place_is, list_size-append front i.front);
}

pub in_front : (rows back : List Entry) (key : List ℕ) (passed place : ℕ) → StandsIn rows key passed place → StandsIn (rows ++ back) key passed place
in_front rows back key passed place i = record {
  front = i.front;
  value = i.value;
  back = i.back ++ back;
  is = ap (λ (l : List Entry). l ++ back) i.is ∙ append_assoc i.front ((key, i.value) ∷ i.back) back;
  place_is = i.place_is;
}

-- how many bytes lie before a place in its bytes
pub place_before : (rows : Rows) (key : List ℕ) (passed place : ℕ) → StandsIn (map.entries rows) key passed place
    → list_size (rows_from_to rows [] (Some key)) + passed ≡ place
place_before rows key passed place i =
    let es = map.entries rows in
    let n = length i.front in
    let row : Entry = (key, i.value) in
    let within : n < length es = omega (arith, ap length i.is, length-append i.front (row ∷ i.back)) in
    let none : n ≡ n + 0 = omega arith in
    let there : (d : Entry) → get_or es n d ≡ row =
    λ d. ap₂ (λ (l : List Entry) k. get_or l k d) i.is none ∙ get_or-append-add i.front (row ∷ i.back) 0 d in
    let s = starts_there key es n (entries_sorted rows) within (λ d. ap (λ (e : Entry). byte_order e.0 key) (there d) ∙ same_key key) in
    let front : rows_from_to rows [] (Some key) ≡ i.front = below_is rows key n s ∙ ap (take n) i.is ∙ take_at i.front (row ∷ i.back) n refl in
    ap (λ (l : List Entry). list_size l + passed) front ∙ i.place_is

-- a place in the rows from a key on, and one in those below it
pub place_on : (rows : Rows) (from : Option (List ℕ)) (key : List ℕ) (passed place : ℕ) → StandsIn (rows_on rows from) key passed place
    → list_size (rows_from_to rows [] (Some key)) + passed ≡ list_size (rows_from_to rows [] from) + place
place_on rows from key passed place i =
    let below = rows_from_to rows [] from in
    place_before rows key passed (list_size below + place) (subst (λ (es : List Entry). StandsIn es key passed (list_size below + place)) (parted rows from)
    (in_back below (rows_on rows from) key passed place i))

pub place_below : (rows : Rows) (from : Option (List ℕ)) (key : List ℕ) (passed place : ℕ) → StandsIn (rows_from_to rows [] from) key passed place
    → list_size (rows_from_to rows [] (Some key)) + passed ≡ place
place_below rows from key passed place i =
    place_before rows key passed place (subst (λ (es : List Entry). StandsIn es key passed place) (parted rows from)
    (in_front (rows_from_to rows [] from) (rows_on rows from) key passed place i))

-- the two ends
pub before_all : (rows : Rows) → list_size (rows_from_to rows [] (Some [])) + 0 ≡ 0
before_all rows = ap (λ (l : List Entry). list_size l + 0) (below_is rows [] 0 (from_first (map.entries rows)))

pub before_end : (rows : Rows) → list_size (rows_from_to rows [] None) + 0 ≡ rows_size rows
before_end rows = omega (arith, ap list_size (all_is rows))

-- the bytes of a row and those of the rows behind it
pub size_first : (row : Entry) (rows : List Entry) → list_size (row ∷ rows) ≡ (7 + length row.0 + length row.1) + list_size rows
size_first row rows = refl

pub size_last : (rows : List Entry) (row : Entry) → list_size (rows ++ row ∷ []) ≡ list_size rows + (7 + length row.0 + length row.1)
size_last rows row = omega (arith, list_size-append rows (row ∷ []))

-- ---- the last row of a range

last_of_last : (here mid last last' : List Entry) (row : Entry) → last ≡ last' ++ row ∷ [] → here ++ (mid ++ last) ≡ here ++ (mid ++ last') ++ row ∷ []
last_of_last here mid last last' row is =
    ap (λ (l : List Entry). here ++ (mid ++ l)) is
    ∙ ap (λ (l : List Entry). here ++ l) (sym (append_assoc mid last' (row ∷ [])))
    ∙ sym (append_assoc here (mid ++ last') (row ∷ []))

pub last_of_more : (here : List Entry) (more chunks : List (List Entry)) (chunk last last' : List Entry) (row : Entry) → length last ≡ 0
    → more ≡ chunks ++ chunk ∷ [] → chunk ≡ last' ++ row ∷ [] → here ++ (joined more ++ last) ≡ here ++ (joined chunks ++ last') ++ row ∷ []
last_of_more here more chunks chunk last last' row none more_is is =
    let rows : joined more ++ last ≡ joined chunks ++ chunk =
    ap₂ (λ (a b : List Entry). a ++ b) (ap joined more_is ∙ joined-append chunks (chunk ∷ [])) (nil_from_length last none)
    ∙ append-nil (joined chunks ++ (chunk ++ []))
    ∙ ap (λ (l : List Entry). joined chunks ++ l) (append-nil chunk)
    in
    ap (λ (l : List Entry). here ++ l) rows ∙ last_of_last here (joined chunks) chunk last' row is
