-- The bytes of rows in a list, after a change at one place.
use Rattle.std.proofs.Common.{◌≡◌, ℕ, zero, suc, ◌+◌, ◌-◌, ◌<◌, ◌≤◌, ◌%◌, List, [], ◌∷◌, ◌++◌, length, get_or, set, ap, arith}
use Rattle.std.specs.List.{insert, remove}
use Rattle.meta_rows.specs.Prelude.{list_size}

pub list_size-append : (a b : List (List ℕ × List ℕ)) → list_size (a ++ b) ≡ list_size a + list_size b
list_size-append [] b = let g : list_size b ≡ 0 + list_size b = omega arith in g
list_size-append (e ∷ a) b =
    let rest = list_size-append a b in
    let g : (7 + length e.0 + length e.1) + list_size (a ++ b) ≡ ((7 + length e.0 + length e.1) + list_size a) + list_size b = omega (arith, rest) in g

size-set : (es : List (List ℕ × List ℕ)) (at : ℕ) (old : List ℕ × List ℕ) (value : List ℕ) → at < length es → old ≡ get_or es at old
    → list_size (set es at (old.0, value)) + length old.1 ≡ list_size es + length value
size-set [] at old value l is = absurd (omega arith)
size-set (e ∷ es) zero old value l is =
    let key = ap (λ (x : List ℕ × List ℕ). length x.0) is in
    let held = ap (λ (x : List ℕ × List ℕ). length x.1) is in
    let g : ((7 + length old.0 + length value) + list_size es) + length old.1 ≡ ((7 + length e.0 + length e.1) + list_size es) + length value = omega (arith, key, held) in g
size-set (e ∷ es) (suc at) old value l is =
    let rest = size-set es at old value (omega arith) is in
    let g : ((7 + length e.0 + length e.1) + list_size (set es at (old.0, value))) + length old.1 ≡ ((7 + length e.0 + length e.1) + list_size es) + length value = omega (arith, rest) in g

size-remove : (es : List (List ℕ × List ℕ)) (at : ℕ) (old : List ℕ × List ℕ) → at < length es → old ≡ get_or es at old
    → list_size (remove es at) + (7 + length old.0 + length old.1) ≡ list_size es
size-remove [] at old l is = absurd (omega arith)
size-remove (e ∷ es) zero old l is =
    let key = ap (λ (x : List ℕ × List ℕ). length x.0) is in
    let held = ap (λ (x : List ℕ × List ℕ). length x.1) is in
    let g : list_size es + (7 + length old.0 + length old.1) ≡ (7 + length e.0 + length e.1) + list_size es = omega (arith, key, held) in g
size-remove (e ∷ es) (suc at) old l is =
    let rest = size-remove es at old (omega arith) is in
    let g : ((7 + length e.0 + length e.1) + list_size (remove es at)) + (7 + length old.0 + length old.1) ≡ (7 + length e.0 + length e.1) + list_size es = omega (arith, rest) in g

size-insert : (es : List (List ℕ × List ℕ)) (at : ℕ) (e : List ℕ × List ℕ) → at ≤ length es → list_size (insert es at e) ≡ list_size es + (7 + length e.0 + length e.1)
size-insert [] zero e l = let g : (7 + length e.0 + length e.1) + 0 ≡ 0 + (7 + length e.0 + length e.1) = omega arith in g
size-insert [] (suc at) e l = absurd (omega arith)
size-insert (f ∷ es) zero e l =
    let g : (7 + length e.0 + length e.1) + ((7 + length f.0 + length f.1) + list_size es) ≡ ((7 + length f.0 + length f.1) + list_size es) + (7 + length e.0 + length e.1) = omega arith in g
size-insert (f ∷ es) (suc at) e l =
    let rest = size-insert es at e (omega arith) in
    let g : (7 + length f.0 + length f.1) + list_size (insert es at e) ≡ ((7 + length f.0 + length f.1) + list_size es) + (7 + length e.0 + length e.1) = omega (arith, rest) in g

-- ---- in 64 bits

swapped : (k o v size size' before after : ℕ) → before ≡ (7 + k + o) % 18446744073709551616 → after ≡ (7 + k + v) % 18446744073709551616 → size' + o ≡ size + v
    → (size + (after + (18446744073709551616 - before)) % 18446744073709551616) % 18446744073709551616 ≡ size' % 18446744073709551616
swapped k o v size size' before after b a is = omega (arith, b, a, is)

gone : (k o size size' before : ℕ) → before ≡ (7 + k + o) % 18446744073709551616 → size' + (7 + k + o) ≡ size
    → (size + (0 + (18446744073709551616 - before)) % 18446744073709551616) % 18446744073709551616 ≡ size' % 18446744073709551616
gone k o size size' before b is = omega (arith, b, is)

came : (n size size' more : ℕ) → more ≡ n % 18446744073709551616 → size' ≡ size + n → (size + more) % 18446744073709551616 ≡ size' % 18446744073709551616
came n size size' more b is = omega (arith, b, is)

pub set_grows : (es : List (List ℕ × List ℕ)) (at : ℕ) (old : List ℕ × List ℕ) (value : List ℕ) (before after : ℕ) → at < length es → old ≡ get_or es at old
    → before ≡ (7 + length old.0 + length old.1) % 18446744073709551616 → after ≡ (7 + length old.0 + length value) % 18446744073709551616
    → (list_size es + (after + (18446744073709551616 - before)) % 18446744073709551616) % 18446744073709551616 ≡ list_size (set es at (old.0, value)) % 18446744073709551616
set_grows es at old value before after l is b a =
    swapped (length old.0) (length old.1) (length value) (list_size es) (list_size (set es at (old.0, value))) before after b a (size-set es at old value l is)

pub remove_grows : (es : List (List ℕ × List ℕ)) (at : ℕ) (old : List ℕ × List ℕ) (before : ℕ) → at < length es → old ≡ get_or es at old
    → before ≡ (7 + length old.0 + length old.1) % 18446744073709551616
    → (list_size es + (0 + (18446744073709551616 - before)) % 18446744073709551616) % 18446744073709551616 ≡ list_size (remove es at) % 18446744073709551616
remove_grows es at old before l is b = gone (length old.0) (length old.1) (list_size es) (list_size (remove es at)) before b (size-remove es at old l is)

pub insert_grows : (es : List (List ℕ × List ℕ)) (at : ℕ) (e : List ℕ × List ℕ) (more : ℕ) → at ≤ length es → more ≡ (7 + length e.0 + length e.1) % 18446744073709551616
    → (list_size es + more) % 18446744073709551616 ≡ list_size (insert es at e) % 18446744073709551616
insert_grows es at e more l b = came (7 + length e.0 + length e.1) (list_size es) (list_size (insert es at e)) more b (size-insert es at e l)

-- one part of three
pub part_grows : (b c a c' : List (List ℕ × List ℕ)) (more : ℕ) → (list_size c + more) % 18446744073709551616 ≡ list_size c' % 18446744073709551616
    → (list_size (b ++ (c ++ a)) + more) % 18446744073709551616 ≡ list_size (b ++ (c' ++ a)) % 18446744073709551616
part_grows b c a c' more is =
    let old = list_size-append b (c ++ a) in
    let old_back = list_size-append c a in
    let new = list_size-append b (c' ++ a) in
    let new_back = list_size-append c' a in
    part (list_size b) (list_size c) (list_size a) (list_size c') more (list_size (b ++ (c ++ a))) (list_size (c ++ a)) (list_size (b ++ (c' ++ a))) (list_size (c' ++ a)) old old_back new new_back is
  where
    part : (b c a c' more all rest all' rest' : ℕ) → all ≡ b + rest → rest ≡ c + a → all' ≡ b + rest' → rest' ≡ c' + a
        → (c + more) % 18446744073709551616 ≡ c' % 18446744073709551616 → (all + more) % 18446744073709551616 ≡ all' % 18446744073709551616
    part b c a c' more all rest all' rest' p q r s is = omega (arith, p, q, r, s, is)

-- one operation after others
pub kept_grows : (size all more all' : ℕ) → size ≡ all % 18446744073709551616 → (all + more) % 18446744073709551616 ≡ all' % 18446744073709551616
    → (size + more) % 18446744073709551616 ≡ all' % 18446744073709551616
kept_grows size all more all' is grows = omega (arith, is, grows)
