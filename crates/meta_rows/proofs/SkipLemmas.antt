-- Rows at the front of a range, left out.
use Rattle.std.proofs.Common.{◌≡◌, inl, inr, ℕ, ◌+◌, ◌<◌, List, [], ◌∷◌, ◌++◌, length, get_or, take, drop, refl, sym, ap, subst, ◌∙◌, arith, append_assoc, append-nil}
use Rattle.std.proofs.lemmas.List.{take-append-drop, drop_more}
use Rattle.meta_rows.specs.Prelude.{Entry, joined, StopsAt, BeginsReached, SkipsTo}
use Rattle.meta_rows.proofs.ChunkLemmas.{joined-append}

module _ (R : List ℕ → Type 0) where
  -- one time after the other
  pub skips_twice : (a b c : List Entry) → SkipsTo R a b → SkipsTo R b c → SkipsTo R a c
  skips_twice a b c one two = record {
    front = one.front ++ two.front;
    is = one.is ∙ ap (λ (l : List Entry). one.front ++ l) two.is ∙ sym (append_assoc one.front two.front c);
    stops = elim two.stops [
      | inr reached ↦ inr reached
      | inl none ↦ elim one.stops [
        | inl none' ↦ inl ((λ i. none' i ++ none i))
        | inr reached ↦ inr (subst (BeginsReached R) (two.is ∙ ap (λ (l : List Entry). l ++ c) none) reached)
      ]
    ];
  }

  begins : (rows behind : List Entry) → BeginsReached R rows → BeginsReached R (rows ++ behind)
  begins [] behind is = absurd is
  begins (row ∷ rows) behind is = is

  -- on to the last piece
  pub skips_to_last : (here middle last : List Entry) → BeginsReached R last → SkipsTo R (here ++ (middle ++ last)) (last ++ ([] ++ []))
  skips_to_last here middle last reached = record {
    front = here ++ middle;
    is = sym (append_assoc here middle last) ∙ ap (λ (l : List Entry). (here ++ middle) ++ l) (sym (append-nil last));
    stops = inr (begins last [] reached);
  }

  -- on to a chunk
  pub skips_to_chunk : (here : List Entry) (more : List (List Entry)) (last : List Entry) (at : ℕ) (d : List Entry) → at < length more
      → BeginsReached R (get_or more at d) → SkipsTo R (here ++ (joined more ++ last)) (get_or more at d ++ (joined (drop (at + 1) more) ++ last))
  skips_to_chunk here more last at d within reached =
      let chunk : List Entry = get_or more at d in
      let front : List Entry = joined (take at more) in
      let rest : List Entry = joined (drop (at + 1) more) in
      let parts : joined more ≡ front ++ (chunk ++ rest) =
      ap joined (sym (take-append-drop at more) ∙ ap (λ (l : List (List Entry)). take at more ++ l) (drop_more more at d within))
      ∙ joined-append (take at more) (chunk ∷ drop (at + 1) more) in
      record {
        front = here ++ front;
        is = ap (λ (l : List Entry). here ++ (l ++ last)) parts
            ∙ ap (λ (l : List Entry). here ++ l) (append_assoc front (chunk ++ rest) last ∙ ap (λ (l : List Entry). front ++ l) (append_assoc chunk rest last))
            ∙ sym (append_assoc here front (chunk ++ (rest ++ last)));
        stops = inr (begins chunk (rest ++ last) reached);
      }

  -- within a piece
  pub skips_here : (here behind : List Entry) (count : ℕ) → StopsAt R here count → SkipsTo R (here ++ behind) (drop count here ++ behind)
  skips_here here behind count stops = record {
    front = take count here;
    is = ap (λ (l : List Entry). l ++ behind) (sym (take-append-drop count here)) ∙ append_assoc (take count here) (drop count here) behind;
    stops = elim stops [
      | inl none ↦ inl (ap (λ (n : ℕ). take n here) none)
      | inr found ↦ inr (begins (drop count here) behind (subst (BeginsReached R) (sym (drop_more here count ([], []) found.0)) (found.1 ([], []))))
    ];
  }
