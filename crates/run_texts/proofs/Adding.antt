-- Texts that are added one behind another.
use Rattle.std.proofs.Common.{◌≡◌, ℕ, List, [], ◌++◌, length, take, drop, Bool, true, false, refl, sym, ap, subst, ◌∙◌}
use Rattle.std.proofs.Common.{append_assoc, append-nil}
use Rattle.std.proofs.lemmas.List.{take-append-drop}
use Rattle.std.proofs.Math.Seq.{take-append_seam}
use Rattle.block_device.specs.Prelude.{Rose}
use Rattle.end_points.specs.Sink.{with_bytes}
use Rattle.run_texts.specs.Prelude.{Output, TookFront, Printed, Waiting, IsPartWritten, HasStopped, PrintedSoFar, AddsText}
use Rattle.run_texts.proofs.Taking.{with_nothing, with_two}

-- what was printed so far, of the same text said otherwise
same_text : (failed : Bool) (start now : Output) (text other waiting : List ℕ) → text ≡ other → PrintedSoFar failed start text waiting now
    → PrintedSoFar failed start other waiting now
same_text failed start now text other waiting same so_far = subst (λ (t : List ℕ). PrintedSoFar failed start t waiting now) same so_far

-- two texts, one behind the other
pub both : {a b : List ℕ} {p q r : Waiting} {o1 o2 o3 : Output} → AddsText a p q o1 o2 → AddsText b q r o2 o3 → AddsText (a ++ b) p r o1 o3
both {a} {b} {p} {q} {r} {o1} {o2} {o3} first second = record {
  more = λ start printed so_far.
      same_text r.failed start o3 ((printed ++ a) ++ b) (printed ++ (a ++ b)) r.bytes (append_assoc printed a b)
      (second.more start (printed ++ a) (first.more start printed so_far));
}

-- the same text, said otherwise
pub said : {a b : List ℕ} {p q : Waiting} {o1 o2 : Output} → a ≡ b → AddsText a p q o1 o2 → AddsText b p q o1 o2
said {a} {b} {p} {q} {o1} {o2} same adds = subst (λ (t : List ℕ). AddsText t p q o1 o2) same adds

-- no text
pub nothing : (p : Waiting) (o : Output) → AddsText [] p p o o
nothing p o = record {
  more = λ start printed so_far. same_text p.failed start o printed (printed ++ []) p.bytes (sym (append-nil printed)) so_far;
}

-- bytes that wait with the others
pub waits_too : (p : Waiting) (bytes : List ℕ) (o : Output) → AddsText bytes p (record p { bytes = p.bytes ++ bytes }) o o
waits_too p bytes o = record { more = by p.failed }
  where
    by : (failed : Bool) (start : Output) (printed : List ℕ) → PrintedSoFar failed start printed p.bytes o
        → PrintedSoFar failed start (printed ++ bytes) (p.bytes ++ bytes) o
    by false start printed so_far = record {
      front = so_far.front;
      all = ap (λ (t : List ℕ). t ++ bytes) so_far.all ∙ append_assoc so_far.front p.bytes bytes;
      written = so_far.written;
      kept = so_far.kept;
    }
    by true start printed so_far = record {
      front = so_far.front;
      rest = so_far.rest ++ bytes;
      all = ap (λ (t : List ℕ). t ++ bytes) so_far.all ∙ append_assoc so_far.front so_far.rest bytes;
      written = so_far.written;
      rose = so_far.rose;
    }

-- of what waited a front was written, and the sink failed
pub front_written : (p : Waiting) (text : List ℕ) (o1 o2 : Output) → p.failed ≡ false → text ≡ p.bytes → TookFront text o1 o2
    → AddsText [] p (record { bytes = []; failed = true }) o1 o2
front_written p text o1 o2 good same took =
    record { more = λ start printed so_far. by start printed (subst (λ (b : Bool). PrintedSoFar b start printed p.bytes o1) good so_far) }
  where
    part : List ℕ
    part = take took.count text

    by : (start : Output) (printed : List ℕ) → IsPartWritten start printed p.bytes o1 → HasStopped start (printed ++ []) o2
    by start printed so_far = record {
      front = so_far.front ++ part;
      rest = drop took.count text;
      all = append-nil printed ∙ so_far.all ∙ ap (λ (t : List ℕ). so_far.front ++ t) (sym same ∙ sym (take-append-drop took.count text))
          ∙ sym (append_assoc so_far.front part (drop took.count text));
      written = took.written ∙ ap (λ w. with_bytes w part) so_far.written ∙ with_two start.written so_far.front part;
      rose = subst (λ (n : ℕ). Rose n o2.faults) so_far.kept took.rose;
    }

-- of all these items, as they are spelled, those in front of what is left were added
pub record IsAddedUpTo {A : Type 0} (spell : List A → List ℕ) (left all : List A) (p q : Waiting) (o1 o2 : Output) : Type 0 where
  pub front : List A
  pub parts : all ≡ front ++ left
  pub adds : AddsText (spell front) p q o1 o2

-- a spelling goes item by item
abbrev pub GoesByItems : {A : Type 0} → (List A → List ℕ) → Type 0
GoesByItems {A} spell = (xs ys : List A) → spell (xs ++ ys) ≡ spell xs ++ spell ys

-- some more were added
pub more_added : {A : Type 0} {left all rest : List A} {p q r : Waiting} {o1 o2 o3 : Output} (spell : List A → List ℕ) → GoesByItems spell
    → (piece : List A) → IsAddedUpTo spell left all p q o1 o2 → left ≡ piece ++ rest → AddsText (spell piece) q r o2 o3
    → IsAddedUpTo spell rest all p r o1 o3
more_added {A} {left} {all} {rest} {p} {q} {r} {o1} {o2} {o3} spell goes piece so_far cut added = record {
  front = so_far.front ++ piece;
  parts = so_far.parts ∙ ap (λ (l : List A). so_far.front ++ l) cut ∙ sym (append_assoc so_far.front piece rest);
  adds = said (sym (goes so_far.front piece)) (both so_far.adds added);
}

-- none is left
pub all_added : {A : Type 0} {left all : List A} {p q : Waiting} {o1 o2 : Output} (spell : List A → List ℕ) → left ≡ []
    → IsAddedUpTo spell left all p q o1 o2 → AddsText (spell all) p q o1 o2
all_added {A} {left} {all} {p} {q} {o1} {o2} spell none so_far =
    said (sym (ap spell (so_far.parts ∙ ap (λ (l : List A). so_far.front ++ l) none ∙ append-nil so_far.front))) so_far.adds

-- at the start none was added
pub none_added : {A : Type 0} (spell : List A → List ℕ) (all : List A) (p : Waiting) (o : Output) → spell [] ≡ [] → IsAddedUpTo spell all all p p o o
none_added spell all p o none = record { front = []; parts = refl; adds = said (sym none) (nothing p o) }

-- a spelling of bytes as they are
abbrev pub as_they_are : List ℕ → List ℕ
as_they_are bytes = bytes

-- one piece more was added, in the room that was made for it
pub piece_added : {left all rest : List ℕ} {p q r s : Waiting} {o1 o2 o3 : Output} (piece : List ℕ) → IsAddedUpTo as_they_are left all p q o1 o2
    → left ≡ piece ++ rest → AddsText [] q r o2 o3 → s ≡ record r { bytes = r.bytes ++ piece } → IsAddedUpTo as_they_are rest all p s o1 o3
piece_added {left} {all} {rest} {p} {q} {r} {s} {o1} {o2} {o3} piece so_far cut room kept =
    more_added as_they_are (λ xs ys. refl) piece so_far cut (both room (subst (λ (v : Waiting). AddsText piece r v o3 o3) (sym kept) (waits_too r piece o3)))

-- the first text of a run, and what is printed then
pub from_nothing : {text : List ℕ} {p q : Waiting} {o1 o2 : Output} → p ≡ record { bytes = []; failed = false } → AddsText text p q o1 o2
    → PrintedSoFar q.failed o1 text q.bytes o2
from_nothing {text} {p} {q} {o1} {o2} fresh adds =
    let start : PrintedSoFar false o1 [] [] o1 = record { front = []; all = refl; written = sym (with_nothing o1.written); kept = refl } in
    (subst (λ (v : Waiting). AddsText text v q o1 o2) fresh adds).more o1 [] start

-- all that was printed, where the sink has failed
pub stopped_in : (start now : Output) (text : List ℕ) → HasStopped start (text ++ []) now → TookFront text start now
stopped_in start now text so_far =
    let whole : text ≡ so_far.front ++ so_far.rest = sym (append-nil text) ∙ so_far.all in
    record {
      count = length so_far.front;
      written = so_far.written ∙ ap (λ (t : List ℕ). with_bytes start.written t)
          (sym (ap (λ (t : List ℕ). take (length so_far.front) t) whole ∙ take-append_seam so_far.front so_far.rest));
      rose = so_far.rose;
    }

-- a run that has this end, said otherwise
pub with_end : {end same : ℕ} {text : List ℕ} {status : ℕ} {old new : Output} → end ≡ same → Printed end text status old new
    → Printed same text status old new
with_end {end} {same} {text} {status} {old} {new} is printed = subst (λ (n : ℕ). Printed n text status old new) is printed
