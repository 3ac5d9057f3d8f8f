-- Runs and their units, one more at the end.
use Rattle.std.proofs.Common.{◌≡◌, ℕ, zero, suc, ◌+◌, ◌-◌, ◌<◌, ◌≤◌, true, false, List, [], ◌∷◌, ◌++◌, length, get_or, refl, sym, ap, subst, ◌∙◌, arith, append_assoc}
use Rattle.std.specs.List.{range_with_len}
use Rattle.std.proofs.lemmas.List.{append-nil, length-set, length_push, get_or-set_other}
use Rattle.std.specs.Prelude.{◌&&◌, ◌==◌}
use Rattle.std.proofs.Common.{◌≢◌}
use Rattle.unit_allocator.specs.declared.allocator.Run.{Run}
use Rattle.unit_allocator.specs.Prelude.{Space, free_units, taken, taken_one, given, given_one, is_free, IsWithin, units_of, units_of_run}

pub units_push : (xs : List Run) (r : Run) → units_of (xs ++ r ∷ []) ≡ units_of xs ++ units_of_run r
units_push [] r = append-nil _
units_push (x ∷ xs) r = ap (λ us. units_of_run x ++ us) (units_push xs r) ∙ sym (append_assoc (units_of_run x) (units_of xs) (units_of_run r))

pub range_push : (a n : ℕ) → range_with_len a (n + 1) ≡ range_with_len a n ++ (a + n) ∷ []
range_push a n = ap (range_with_len a) (more n) ∙ pushed a n
  where
    more : (n : ℕ) → n + 1 ≡ suc n
    more n = omega arith

    pushed : (a n : ℕ) → range_with_len a (suc n) ≡ range_with_len a n ++ (a + n) ∷ []
    pushed a zero = let e : a ≡ a + 0 = omega arith in ap (λ k. k ∷ []) e
    pushed a (suc n) = let e : (a + 1) + n ≡ a + suc n = omega arith in ap (λ xs. a ∷ xs) (pushed (a + 1) n ∙ ap (λ k. range_with_len (a + 1) n ++ k ∷ []) e)

pub longer_last : (xs : List Run) (last : Run) (unit : ℕ) → last.first + last.count ≡ unit
    → units_of (xs ++ (record { first = last.first; count = last.count + 1 }) ∷ []) ≡ units_of (xs ++ last ∷ []) ++ unit ∷ []
longer_last xs last unit is =
    units_push xs _ ∙ ap (λ us. units_of xs ++ us) (range_push last.first last.count ∙ ap (λ k. units_of_run last ++ k ∷ []) is)
    ∙ sym (append_assoc (units_of xs) (units_of_run last) (unit ∷ [])) ∙ ap (λ us. us ++ unit ∷ []) (sym (units_push xs last))

pub taken_push : (s : Space) (us : List ℕ) (u : ℕ) → taken s (us ++ u ∷ []) ≡ taken_one (taken s us) u
taken_push s [] u = refl
taken_push s (x ∷ us) u = taken_push (taken_one s x) us u

pub given_push : (s : Space) (us : List ℕ) (u : ℕ) → given s (us ++ u ∷ []) ≡ given_one (given s us) u
given_push s [] u = refl
given_push s (x ∷ us) u = given_push (given_one s x) us u

pub given_elsewhere : (s : Space) (u q : ℕ) → s.first ≤ u → u < q → is_free (given_one s u) q ≡ is_free s q
given_elsewhere s u q from lt =
    let apart : q - s.first ≢ u - s.first = λ e. absurd (omega (arith, e, from, lt)) in
    ap (λ b. b && (get_or s.holds (q - s.first) 0 == 0)) (get_or-set_other s.idle (u - s.first) (q - s.first) true false apart)

pub record GivesOn (start new : Space) (first end unit : ℕ) : Type 0 where
  pub given_so_far : new ≡ given start (range_with_len first (unit - first))
  pub within : (u : ℕ) → unit ≤ u → u < end → IsWithin new u
  pub taken : (u : ℕ) → unit ≤ u → u < end → is_free new u ≡ false

pub gives_on : (start now new : Space) (first end unit : ℕ) → first ≤ unit → unit < end → GivesOn start now first end unit → new ≡ given_one now unit
    → GivesOn start new first end (unit + 1)
gives_on start now new first end unit le lt so is = record {
  given_so_far =
      let more : (unit + 1) - first ≡ (unit - first) + 1 = omega (arith, le) in
      let last : first + (unit - first) ≡ unit = omega (arith, le) in
      is ∙ ap (λ t. given_one t unit) so.given_so_far ∙ sym (given_push start (range_with_len first (unit - first)) unit)
      ∙ ap (given start) (ap (λ k. range_with_len first (unit - first) ++ k ∷ []) (sym last) ∙ sym (range_push first (unit - first))
      ∙ ap (range_with_len first) (sym more));
  within = λ u from to.
      let w = so.within u (omega (arith, from)) to in
      let here : IsWithin (given_one now unit) u =
      record { from = w.from; to = subst (λ n. u < now.first + n) (sym (length-set now.idle (unit - now.first) true)) w.to } in
      subst (λ t. IsWithin t u) (sym is) here;
  taken = λ u from to. ap (λ t. is_free t u) is ∙ given_elsewhere now unit u (so.within unit (omega arith) lt).from (omega (arith, from))
      ∙ so.taken u (omega (arith, from)) to;
}

pub record TakesOn (start now new : Space) (us vs : List ℕ) (i : ℕ) : Type 0 where
  pub units : free_units start ≡ vs ++ free_units new
  pub counted : length vs ≡ i + 1
  pub taken_so_far : new ≡ taken start vs

pub takes_on : (start now new : Space) (us vs : List ℕ) (u i : ℕ) → free_units start ≡ us ++ free_units now → length us ≡ i → now ≡ taken start us
    → free_units now ≡ u ∷ free_units (taken_one now u) → new ≡ taken_one now u → vs ≡ us ++ u ∷ [] → TakesOn start now new us vs i
takes_on start now new us vs u i units counted so_far lowest step added = record {
  units = units ∙ ap (λ xs. us ++ xs) lowest ∙ sym (append_assoc us (u ∷ []) (free_units (taken_one now u)))
      ∙ ap (λ ws. ws ++ free_units (taken_one now u)) (sym added) ∙ ap (λ t. vs ++ free_units t) (sym step);
  counted = ap length added ∙ length_push us u ∙ ap (λ n. n + 1) counted;
  taken_so_far = step ∙ ap (λ t. taken_one t u) so_far ∙ sym (taken_push start us u) ∙ ap (taken start) (sym added);
}
