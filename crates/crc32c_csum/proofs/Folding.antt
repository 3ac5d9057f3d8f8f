-- Folding leaves the remainder.
use Rattle.std.proofs.Common.{◌≡◌, ℕ, zero, suc, ◌+◌, ◌-◌, ◌/◌, ◌%◌, ◌^◌, ◌<◌, ◌≤◌, List, [], ◌∷◌, ◌++◌, length, get_or, take, drop, replicate, All, refl, sym, ap, ap₂, ◌∙◌, arith, lit<, lit≤, length-append, take-add, take_at, take-take, take-append-drop, drop-drop, length-take-le, append_assoc}
use Rattle.std.specs.Prelude.{bit_xor}
use Rattle.std.specs.Int.Bits.{xor_assoc, xor_self, xor_zero_l, xor_zero_r}
use Rattle.std.specs.Simd.Lanes.{zip2}
use Rattle.std.proofs.lemmas.Simd.{chunk-drop, length-chunk, length-zip2, pick_l_whole, put_chunk_whole}
use lib.Lanes.{pick_l, put_chunk}
use borrow.Rule.Slice.PartMut.{put_mid, mid_of, post_of}
use Rattle.std.specs.List.{range_with_len}
use Rattle.std.proofs.lemmas.List.{take-append-le, take-replicate, drop-replicate, drop_all, drop_at, get_or_default}
use Rattle.std.proofs.lemmas.List.Elements.{All-take}
use Rattle.crc32c_csum.specs.Prelude.{after_bits, after_byte, remainder, after_zeros, multiple, sixteen, put_on, of_first, of_put_on, of_taken}
use Rattle.crc32c_csum.proofs.Linear.{left, after_bits-xor, after_zeros-xor, one_byte, remainder-xor, remainder-append}
use Rattle.crc32c_csum.proofs.Laws.{remainder_fits}
use Rattle.crc32c_csum.proofs.Multiple.{swap4, multiple_is_zero}

pub xor_twice : (a d : ℕ) → bit_xor (bit_xor a d) d ≡ a
xor_twice a d = xor_assoc a d d ∙ ap (bit_xor a) (xor_self d) ∙ xor_zero_r a

zip_twice : (xs ys : List ℕ) → length xs ≡ length ys → zip2 bit_xor (zip2 bit_xor xs ys) ys ≡ xs
zip_twice [] ys e = refl
zip_twice (x ∷ xs) [] e = absurd (omega (arith, e))
zip_twice (x ∷ xs) (y ∷ ys) e = ap₂ (λ l ls. l ∷ ls) (xor_twice x y) (zip_twice xs ys (omega (arith, e)))

-- the remainder is linear in the bytes
remainder-zip2 : (xs ys : List ℕ) (a b : ℕ) → length xs ≡ length ys → remainder (bit_xor a b) (zip2 bit_xor xs ys) ≡ bit_xor (remainder a xs) (remainder b ys)
remainder-zip2 [] [] a b e = refl
remainder-zip2 [] (y ∷ ys) a b e = absurd (omega (arith, e))
remainder-zip2 (x ∷ xs) [] a b e = absurd (omega (arith, e))
remainder-zip2 (x ∷ xs) (y ∷ ys) a b e =
    ap (λ r. remainder r (zip2 bit_xor xs ys)) (ap (after_bits 8) (swap4 a b x y) ∙ after_bits-xor 8 (bit_xor a x) (bit_xor b y))
    ∙ remainder-zip2 xs ys (after_byte a x) (after_byte b y) (omega (arith, e))

remainder-zeros : (n r : ℕ) → remainder r (replicate n 0) ≡ after_zeros n r
unfolding after_zeros
remainder-zeros zero r = refl
remainder-zeros (suc n) r = ap (λ x. remainder (after_bits 8 x) (replicate n 0)) (xor_zero_r r) ∙ remainder-zeros n (after_bits 8 r)

of_first_more : (n m : ℕ) (bytes : List ℕ) → remainder (of_first n bytes) (take m (drop n bytes)) ≡ of_first (n + m) bytes
of_first_more n m bytes = sym (remainder-append (take n bytes) (take m (drop n bytes)) 0) ∙ ap (remainder 0) (sym (take-add n m bytes))

-- sixteen bytes that lead from one remainder to another
abbrev Leads : List ℕ → ℕ → ℕ → Type 0
Leads bytes x y = (length bytes ≡ 16) × (remainder x bytes ≡ y)

first_leads : (n m : ℕ) (taken : List ℕ) → n + 16 ≤ length taken → m ≡ n + 16 → Leads (sixteen n taken) (of_first n taken) (of_first m taken)
first_leads n m taken long e = (length-chunk n 16 taken long, of_first_more n 16 taken ∙ ap (λ k. of_first k taken) (sym e))

both_lead : (ps qs : List ℕ) (x y u v : ℕ) → Leads ps x y → Leads qs u v → Leads (zip2 bit_xor ps qs) (bit_xor x u) (bit_xor y v)
both_lead ps qs x y u v a b =
    let same : length ps ≡ length qs = omega (arith, a.0, b.0) in
    (length-zip2 bit_xor ps qs same ∙ a.0, remainder-zip2 ps qs x u same ∙ ap₂ bit_xor a.1 b.1)

put_on_leads : (t : ℕ) (taken : List ℕ) → t + 152 ≤ length taken → Leads (put_on t taken) (of_put_on t taken) (of_put_on (t + 16) taken)
put_on_leads t taken long =
    both_lead _ _ _ _ _ _ (first_leads (t + 136) (t + 16 + 136) taken (omega (arith, long)) (omega arith))
    (both_lead _ _ _ _ _ _ (first_leads (t + 113) (t + 16 + 113) taken (omega (arith, long)) (omega arith))
    (both_lead _ _ _ _ _ _ (first_leads (t + 107) (t + 16 + 107) taken (omega (arith, long)) (omega arith))
    (both_lead _ _ _ _ _ _ (first_leads (t + 32) (t + 16 + 32) taken (omega (arith, long)) (omega arith))
    (first_leads t (t + 16) taken (omega (arith, long)) refl))))

-- sixteen bytes of the page, from what is left of them and what was put on
given_back : (t x : ℕ) (taken page s : List ℕ) → t + 152 ≤ length taken → t + 16 ≤ length page → s ≡ zip2 bit_xor (sixteen t page) (put_on t taken)
    → (remainder (bit_xor x (of_put_on t taken)) (drop t page) ≡ remainder (bit_xor (remainder x s) (of_put_on (t + 16) taken)) (drop (t + 16) page)) × (length s ≡ 16)
given_back t x taken page s long enough is =
    let leads : Leads (put_on t taken) (of_put_on t taken) (of_put_on (t + 16) taken) = put_on_leads t taken long in
    let many : length (sixteen t page) ≡ 16 = length-chunk t 16 page enough in
    let same : length (sixteen t page) ≡ length (put_on t taken) = omega (arith, many, leads.0) in
    let sixteen_left : length s ≡ 16 = ap (λ l. length l) is ∙ length-zip2 bit_xor (sixteen t page) (put_on t taken) same ∙ many in
    let back : sixteen t page ≡ zip2 bit_xor s (put_on t taken) = sym (zip_twice (sixteen t page) (put_on t taken) same) ∙ ap (λ l. zip2 bit_xor l (put_on t taken)) (sym is) in (
      ap (remainder (bit_xor x (of_put_on t taken))) (chunk-drop t 16 page)
          ∙ remainder-append (sixteen t page) (drop (t + 16) page) (bit_xor x (of_put_on t taken))
          ∙ ap (λ r. remainder r (drop (t + 16) page))
          (ap (remainder (bit_xor x (of_put_on t taken))) back
          ∙ remainder-zip2 s (put_on t taken) x (of_put_on t taken) (omega (arith, sixteen_left, leads.0))
          ∙ ap (bit_xor (remainder x s)) leads.1),
      sixteen_left,
    )

-- what is written from a place on leaves the remainders before it
kept : (n j : ℕ) (taken rest : List ℕ) → j ≤ n → n ≤ length taken → of_first j (take n taken ++ rest) ≡ of_first j taken
kept n j taken rest le long =
    ap (remainder 0) (take-append-le j (take n taken) rest (omega (arith, le, length-take-le n taken long)) ∙ take-take j n taken le)

-- sixteen bytes are taken out: k is how many places are written
pub taken_out : (t k : ℕ) (taken page s : List ℕ) → t + 306 ≤ length taken → t + 16 ≤ length page → k ≡ 16 → s ≡ zip2 bit_xor (sixteen t page) (put_on t taken)
    → remainder (of_taken (t + 16) (put_mid (t + 290) k taken (put_chunk 0 (mid_of (t + 290) k taken) s))) (drop (t + 16) page) ≡ remainder (of_taken t taken) (drop t page)
taken_out t k taken page s long enough e is =
    let back = given_back t (of_first (t + 290) taken) taken page s (omega (arith, long)) enough is in
    let n : ℕ = t + 290 in
    let rest : List ℕ = post_of n k taken in
    let new : List ℕ = put_mid n k taken (put_chunk 0 (mid_of n k taken) s) in
    let mid : length (mid_of n k taken) ≡ length s = ap (λ j. length (mid_of n j taken)) e ∙ length-chunk n 16 taken (omega (arith, long)) ∙ sym back.1 in
    let written : new ≡ take n taken ++ (s ++ rest) = ap (λ l. take n taken ++ (l ++ rest)) (put_chunk_whole (mid_of n k taken) s mid) in
    let at : length (take n taken ++ s) ≡ t + 16 + 290 = length-append (take n taken) s ∙ omega (arith, length-take-le n taken (omega (arith, long)), back.1) in
    let far : of_first (t + 16 + 290) new ≡ remainder (of_first n taken) s =
    ap (of_first (t + 16 + 290)) (written ∙ sym (append_assoc (take n taken) s rest)) ∙ ap (remainder 0) (take_at (take n taken ++ s) rest (t + 16 + 290) at) ∙ remainder-append (take n taken) s 0 in
    let near : (j : ℕ) → j ≤ n → of_first j new ≡ of_first j taken = λ j le. ap (of_first j) written ∙ kept n j taken (s ++ rest) le (omega (arith, long)) in
    ap (λ r. remainder r (drop (t + 16) page))
    (ap₂ bit_xor far (ap₂ bit_xor (near (t + 16 + 136) (omega arith)) (ap₂ bit_xor (near (t + 16 + 113) (omega arith)) (ap₂ bit_xor (near (t + 16 + 107) (omega arith)) (ap₂ bit_xor (near (t + 16 + 32) (omega arith)) (near (t + 16) (omega arith)))))))
    ∙ sym back.0

-- sixteen bytes of the last ones, which stay
pub stays : (t r next : ℕ) (taken page s : List ℕ) → t + 306 ≤ length taken → t + 16 ≤ length page → s ≡ zip2 bit_xor (sixteen t page) (put_on t taken) → sixteen (t + 290) taken ≡ replicate 16 0
    → next ≡ remainder r (pick_l 0 s (range_with_len 0 16)) → remainder (bit_xor (of_taken (t + 16) taken) next) (drop (t + 16) page) ≡ remainder (bit_xor (of_taken t taken) r) (drop t page)
stays t r next taken page s long enough is none e =
    let x : ℕ = of_first (t + 290) taken in
    let back = given_back t (bit_xor x r) taken page s (omega (arith, long)) enough is in
    let more : of_first (t + 16 + 290) taken ≡ after_zeros 16 x =
    ap (λ k. of_first k taken) (omega arith) ∙ sym (of_first_more (t + 290) 16 taken) ∙ ap (remainder x) none ∙ remainder-zeros 16 x in
    let here : bit_xor (of_first (t + 16 + 290) taken) (remainder r s) ≡ remainder (bit_xor x r) s =
    ap (λ y. bit_xor y (remainder r s)) (more ∙ ap (λ k. after_zeros k x) (sym back.1)) ∙ sym (remainder-xor s x r) in
    ap (λ y. remainder (bit_xor (of_taken (t + 16) taken) y) (drop (t + 16) page)) (e ∙ ap (remainder r) (pick_l_whole 0 s 16 back.1))
    ∙ ap (λ y. remainder y (drop (t + 16) page)) (left (of_first (t + 16 + 290) taken) (of_put_on (t + 16) taken) (remainder r s) ∙ ap (λ y. bit_xor y (of_put_on (t + 16) taken)) here)
    ∙ sym back.0
    ∙ ap (λ y. remainder y (drop t page)) (sym (left x (of_put_on t taken) r))

-- two that are each the exclusive or of two
joined : (a b z y n m : ℕ) → a ≡ bit_xor z n → b ≡ bit_xor y m → bit_xor a b ≡ bit_xor (bit_xor z y) (bit_xor n m)
joined a b z y n m e f = ap₂ bit_xor e f ∙ swap4 z n y m

-- so are the six terms of the multiple together
six : (a z n : ℕ → ℕ) (x : ℕ) → ((k : ℕ) → k ≤ 290 → a k ≡ bit_xor (z k) (n k))
    → bit_xor (a 290) (bit_xor (a 136) (bit_xor (a 113) (bit_xor (a 107) (bit_xor (a 32) x))))
    ≡ bit_xor (bit_xor (z 290) (bit_xor (z 136) (bit_xor (z 113) (bit_xor (z 107) (bit_xor (z 32) x)))))
    (bit_xor (n 290) (bit_xor (n 136) (bit_xor (n 113) (bit_xor (n 107) (bit_xor (n 32) 0)))))
six a z n x at =
    let a1 : ℕ = bit_xor (a 32) x in
    let z1 : ℕ = bit_xor (z 32) x in
    let n1 : ℕ = bit_xor (n 32) 0 in
    let a2 : ℕ = bit_xor (a 107) a1 in
    let z2 : ℕ = bit_xor (z 107) z1 in
    let n2 : ℕ = bit_xor (n 107) n1 in
    let a3 : ℕ = bit_xor (a 113) a2 in
    let z3 : ℕ = bit_xor (z 113) z2 in
    let n3 : ℕ = bit_xor (n 113) n2 in
    let a4 : ℕ = bit_xor (a 136) a3 in
    let z4 : ℕ = bit_xor (z 136) z3 in
    let n4 : ℕ = bit_xor (n 136) n3 in
    let e1 : a1 ≡ bit_xor z1 n1 = joined (a 32) x (z 32) x (n 32) 0 (at 32 (lit≤ tt)) (sym (xor_zero_r x)) in
    let e2 : a2 ≡ bit_xor z2 n2 = joined (a 107) a1 (z 107) z1 (n 107) n1 (at 107 (lit≤ tt)) e1 in
    let e3 : a3 ≡ bit_xor z3 n3 = joined (a 113) a2 (z 113) z2 (n 113) n2 (at 113 (lit≤ tt)) e2 in
    let e4 : a4 ≡ bit_xor z4 n4 = joined (a 136) a3 (z 136) z3 (n 136) n3 (at 136 (lit≤ tt)) e3 in
    joined (a 290) a4 (z 290) z4 (n 290) n4 (at 290 (lit≤ tt)) e4

-- the last 290 bytes that were taken out tell as much as all of them, since the multiple of what is in front of them is zero
pub moved : (t : ℕ) (taken last rest : List ℕ) → t + 290 ≤ length taken → All (λ b. b < 256) taken → last ≡ take 290 (drop t taken) → of_taken 0 (last ++ rest) ≡ of_taken t taken
unfolding multiple
moved t taken last rest long bytes is =
    let x : ℕ = of_first t taken in
    let new : List ℕ = last ++ rest in
    let many : length last ≡ 290 = ap (λ l. length l) is ∙ length-chunk t 290 taken long in
    let longer : 290 ≤ length new = omega (arith, many, length-append last rest) in
    let at : (k : ℕ) → k ≤ 290 → of_first (t + k) taken ≡ bit_xor (after_zeros k x) (of_first k new) = λ k le.
    let front : take k (drop t taken) ≡ take k new =
    sym (take-append-le k last rest (omega (arith, many, le)) ∙ ap (take k) is ∙ take-take k 290 (drop t taken) le) in
    sym (of_first_more t k taken)
    ∙ ap₂ remainder (sym (xor_zero_r x)) front
    ∙ remainder-xor (take k new) x 0
    ∙ ap (λ n. bit_xor (after_zeros n x) (of_first k new)) (length-take-le k new (omega (arith, longer, le))) in
    sym (six (λ k. of_first (t + k) taken) (λ k. after_zeros k x) (λ k. of_first k new) x at
    ∙ ap (λ y. bit_xor y (of_taken 0 new)) (multiple_is_zero 32 x (lit≤ tt) (remainder_fits (take t taken) 0 (lit< tt) (All-take (λ b. b < 256) t taken bytes)))
    ∙ xor_zero_l (of_taken 0 new))

-- where only zeros were taken out of the last 304 bytes, nothing of all is left
none_left : (taken : List ℕ) → length taken ≡ 594 → All (λ b. b < 256) taken → drop 290 taken ≡ replicate 304 0 → of_taken 304 taken ≡ 0
unfolding multiple
none_left taken long bytes none =
    let x : ℕ = of_first 304 taken in
    let zeros : drop 304 taken ≡ replicate 290 0 = sym (drop-drop 14 290 taken) ∙ ap (drop 14) none ∙ drop-replicate 14 304 0 in
    let at : (j : ℕ) → j ≤ 290 → of_first (304 + j) taken ≡ after_zeros j x =
    λ j le. sym (of_first_more 304 j taken) ∙ ap (remainder x) (ap (take j) zeros ∙ take-replicate j 290 0 le) ∙ remainder-zeros j x in
    ap₂ bit_xor (at 290 (lit≤ tt)) (ap₂ bit_xor (at 136 (lit≤ tt)) (ap₂ bit_xor (at 113 (lit≤ tt)) (ap₂ bit_xor (at 107 (lit≤ tt)) (ap (λ y. bit_xor y x) (at 32 (lit≤ tt))))))
    ∙ multiple_is_zero 32 x (lit≤ tt) (remainder_fits (take 304 taken) 0 (lit< tt) (All-take (λ b. b < 256) 304 taken bytes))

-- the bytes of a remainder leave it
byte_of : (n r : ℕ) (bytes : List ℕ) → length bytes ≡ n → remainder 0 bytes ≡ after_zeros n (r / 256) → remainder 0 (r % 256 ∷ bytes) ≡ after_zeros (suc n) r
unfolding after_zeros
byte_of n r bytes many rest =
    let q : ℕ = after_bits 8 (r % 256) in
    ap (λ y. remainder (after_bits 8 y) bytes) (xor_zero_l (r % 256))
    ∙ ap (λ y. remainder y bytes) (sym (xor_zero_r q))
    ∙ remainder-xor bytes q 0
    ∙ ap₂ bit_xor (ap (λ k. after_zeros k q) many) rest
    ∙ sym (after_zeros-xor n q (r / 256))
    ∙ ap (after_zeros n) (ap (λ y. bit_xor (after_bits 8 y) (r / 256)) (sym (xor_zero_r (r % 256))) ∙ sym (one_byte r 0) ∙ ap (after_bits 8) (xor_zero_r r))

-- five numbers and another are zero together where the five are the other
alone : (a b c d e x : ℕ) → bit_xor a (bit_xor b (bit_xor c (bit_xor d (bit_xor e x)))) ≡ 0 → bit_xor a (bit_xor b (bit_xor c (bit_xor d (bit_xor e 0)))) ≡ x
alone a b c d e x zero_all =
    let five : ℕ = bit_xor a (bit_xor b (bit_xor c (bit_xor d e))) in
    let out : (y : ℕ) → bit_xor a (bit_xor b (bit_xor c (bit_xor d (bit_xor e y)))) ≡ bit_xor five y = λ y.
    ap (bit_xor a) (ap (bit_xor b) (ap (bit_xor c) (sym (xor_assoc d e y)) ∙ sym (xor_assoc c (bit_xor d e) y)) ∙ sym (xor_assoc b (bit_xor c (bit_xor d e)) y)) ∙ sym (xor_assoc a (bit_xor b (bit_xor c (bit_xor d e))) y) in
    out 0 ∙ xor_zero_r five ∙ sym (xor_twice five x) ∙ ap (λ y. bit_xor y x) (sym (out x) ∙ zero_all) ∙ xor_zero_l x

-- the remainder before all bytes, as bytes that were taken out before them
pub begun : (n r : ℕ) (taken : List ℕ) → 286 ≤ n → r < 2 ^ 32 → taken ≡ r % 256 ∷ r / 256 % 256 ∷ r / 256 / 256 % 256 ∷ r / 256 / 256 / 256 % 256 ∷ replicate n 0 → of_taken 0 taken ≡ r
unfolding multiple after_zeros
begun n r taken many fits is =
    let none : 0 ≡ r / 256 / 256 / 256 / 256 = omega (arith, fits) in
    let bytes : List ℕ = r % 256 ∷ r / 256 % 256 ∷ r / 256 / 256 % 256 ∷ r / 256 / 256 / 256 % 256 ∷ [] in
    let four : remainder 0 bytes ≡ after_zeros 4 r = byte_of 3 r (r / 256 % 256 ∷ r / 256 / 256 % 256 ∷ r / 256 / 256 / 256 % 256 ∷ []) refl (byte_of 2 (r / 256) (r / 256 / 256 % 256 ∷ r / 256 / 256 / 256 % 256 ∷ []) refl (byte_of 1 (r / 256 / 256) (r / 256 / 256 / 256 % 256 ∷ []) refl (byte_of 0 (r / 256 / 256 / 256) [] refl none))) in
    let at : (j : ℕ) → j ≤ 286 → of_first (suc (suc (suc (suc j)))) taken ≡ after_zeros (suc (suc (suc (suc j)))) r = λ j le.
    ap (of_first (suc (suc (suc (suc j))))) is ∙ ap (λ l. remainder 0 (r % 256 ∷ r / 256 % 256 ∷ r / 256 / 256 % 256 ∷ r / 256 / 256 / 256 % 256 ∷ l)) (take-replicate j n 0 (omega (arith, many, le)))
    ∙ ap (λ y. remainder y (replicate j 0)) four ∙ remainder-zeros j (after_zeros 4 r) in
    ap₂ bit_xor (at 286 (lit≤ tt)) (ap₂ bit_xor (at 132 (lit≤ tt)) (ap₂ bit_xor (at 109 (lit≤ tt)) (ap₂ bit_xor (at 103 (lit≤ tt)) (ap (λ y. bit_xor y 0) (at 28 (lit≤ tt))))))
    ∙ alone (after_zeros 290 r) (after_zeros 136 r) (after_zeros 113 r) (after_zeros 107 r) (after_zeros 32 r) r (multiple_is_zero 32 r (lit≤ tt) fits)

-- of the last 304 bytes nothing was taken out
pub sixteen_zeros : (t : ℕ) (taken : List ℕ) → t + 16 ≤ 304 → drop 290 taken ≡ replicate 304 0 → sixteen (t + 290) taken ≡ replicate 16 0
sixteen_zeros t taken to e =
    ap (take 16) (ap (λ k. drop k taken) (omega arith) ∙ sym (drop-drop t 290 taken) ∙ ap (drop t) e ∙ drop-replicate t 304 0)
    ∙ take-replicate 16 (304 - t) 0 (omega (arith, to))

pub whole_and_more : (n r : ℕ) (bytes : List ℕ) → remainder (remainder r (take n bytes)) (drop n bytes) ≡ remainder r bytes
whole_and_more n r bytes = sym (remainder-append (take n bytes) (drop n bytes) r) ∙ ap (remainder r) (take-append-drop n bytes)

-- behind the last byte only the remainder of those that stayed is left
pub all_done : (r : ℕ) (taken stay : List ℕ) → length taken ≡ 594 → ((i : ℕ) → get_or taken i 0 < 256) → length stay ≡ 304 → drop 290 taken ≡ replicate 304 0
    → r ≡ remainder (bit_xor (of_taken 304 taken) r) (drop 304 stay)
all_done r taken stay long bytes enough zeros =
    let small : All (λ b. b < 256) taken = λ k d lt. omega (arith, get_or_default taken k d 0 lt, bytes k) in
    sym (xor_zero_l r)
    ∙ ap (λ y. bit_xor y r) (sym (none_left taken long small zeros))
    ∙ ap (remainder (bit_xor (of_taken 304 taken) r)) (sym (drop_all 304 stay (omega (arith, enough))))

-- the last bytes that were taken out, at the front
pub at_front : (t : ℕ) (taken last rest new : List ℕ) → t + 290 ≤ length taken → ((i : ℕ) → get_or taken i 0 < 256) → last ≡ take 290 (drop t taken) → new ≡ last ++ rest
    → of_taken 0 new ≡ of_taken t taken
at_front t taken last rest new long bytes is laid =
    let small : All (λ b. b < 256) taken = λ k d lt. omega (arith, get_or_default taken k d 0 lt, bytes k) in
    ap (of_taken 0) laid ∙ moved t taken last rest long small is

-- one more piece is taken out, and then stands at the front
pub piece_out : (n r r2 : ℕ) (left piece rest taken1 : List ℕ) → piece ≡ take n left → rest ≡ drop n left → n ≤ length left → of_taken (length piece) taken1 ≡ remainder r piece → r2 ≡ of_taken n taken1
    → remainder r2 rest ≡ remainder r left
piece_out n r r2 left piece rest taken1 front back long out moved =
    let many : length piece ≡ n = ap (λ l. length l) front ∙ length-take-le n left long in
    ap₂ remainder (moved ∙ ap (λ k. of_taken k taken1) (sym many) ∙ out ∙ ap (remainder r) front) back ∙ whole_and_more n r left

-- zeros behind the last bytes that were taken out
pub zeros_behind : (last new : List ℕ) → length last ≡ 290 → new ≡ last ++ drop 290 (replicate 594 0) → drop 290 new ≡ replicate 304 0
zeros_behind last new many is = ap (drop 290) is ∙ drop_at last (drop 290 (replicate 594 0)) 290 many ∙ drop-replicate 290 594 0

-- the last piece is taken out, and what stays is left to the tables
pub last_out : (n r r1 r2 : ℕ) (bytes piece rest stay left taken1 : List ℕ) → piece ≡ take n bytes → rest ≡ drop n bytes → n ≤ length bytes → stay ≡ take 304 rest → left ≡ drop 304 rest
    → of_taken (length piece) taken1 ≡ remainder r piece → r1 ≡ of_taken n taken1 → r2 ≡ remainder r1 stay → remainder r2 left ≡ remainder r bytes
last_out n r r1 r2 bytes piece rest stay left taken1 front back long front2 back2 out moved is =
    ap₂ remainder (is ∙ ap (remainder r1) front2) back2 ∙ whole_and_more 304 r1 rest ∙ piece_out n r r1 bytes piece rest taken1 front back long out moved
