-- Scripts that are read one behind another.
use Rattle.std.proofs.Common.{◌≡◌, inl, ℕ, zero, suc, ◌+◌, ◌<◌, List, [], ◌∷◌, ◌++◌, map, take, length, get_or, replicate, Option, Some, None, Err}
use Rattle.std.proofs.Common.{IsSome, IfSome, Vec, Global, ap, ◌∙◌, sym, refl, subst, arith}
use Rattle.std.specs.Prelude.{IsErrOf}
use Rattle.std.specs.FinMap as finite
use Rattle.std.proofs.lemmas.List.{map-append, take_more}
use Rattle.block_device.specs.Prelude.{Rose}
use Rattle.end_points.specs.Bay.{BayView, Names}
use Rattle.script_text.specs.Prelude.{IsScript, IsBadAt, IsTextOf, IfLine}
use Rattle.script_text.specs.declared.fail.ScriptFail.{ScriptFail}
use Rattle.script_text.specs.declared.fail.ScriptFail.TheVariants as script
use Rattle.script_text.specs.declared.line.Line.{Line}
use Rattle.script_reading.specs.declared.unread.Unread.{Unread}
use Rattle.script_reading.specs.declared.unread.Unread.TheVariants as unread
use Rattle.script_reading.specs.Prelude.{IsTextUnder, HasScript, HasBadLine, HaveScripts, AreReadWhole, HaveFront, HasBadScript, FailsToRead}
use Rattle.script_reading.specs.Scripts.{ScriptFailsAt, unread_script}

-- ---- one script

-- the text that a source gave is that under the name
pub text_under : (names : Option Names) (name : List ℕ) (left : Option (List ℕ)) (text : List ℕ)
    → IfSome names (λ n. IsSome left × (left ≡ finite.get n.texts name)) → IsTextOf left text → IsTextUnder names name text
text_under None name left text told is = tt
text_under (Some n) name None text told is = let never = told.0 in absurd cc
text_under (Some n) name (Some whole) text told is = sym told.1 ∙ ap (λ (t : List ℕ). Some t) is

-- the sources with one more behind
pub one_source : {S : Type 0} (f : S → ℕ) (new old : List S) (x : S) (before : List ℕ) → new ≡ old ++ (x ∷ []) → map f old ≡ before
    → map f new ≡ before ++ (f x ∷ [])
one_source {S} f new old x before pushed is =
    ap (λ (l : List S). map f l) pushed ∙ (map-append f old (x ∷ []) ∙ ap (λ (l : List ℕ). l ++ (f x ∷ [])) is)

one_more : (n k : ℕ) → replicate n k ++ (k ∷ []) ≡ replicate (suc n) k
one_more zero k = refl
one_more (suc n) k = ap (λ (l : List ℕ). k ∷ l) (one_more n k)

-- one more source without a fault
pub one_whole : (script fault : ℕ) (faults : List ℕ) (before now : ℕ) → faults ≡ replicate script 0 ++ (fault ∷ []) → fault ≡ 0 → now ≡ before
    → AreReadWhole (script + 1) faults before now
one_whole script fault faults before now are none same =
    let next : suc script ≡ script + 1 = omega arith in
    record {
      sources = are ∙ (ap (λ (k : ℕ). replicate script 0 ++ (k ∷ [])) none ∙ (one_more script 0 ∙ ap (λ (k : ℕ). replicate k 0) next));
      bay = same;
    }

-- the script that the bay opened has lines
pub has_script : (names : Option Names) (name file : List ℕ) (left : Option (List ℕ)) (lines : List Line)
    → (text : List ℕ) × IsTextOf left text × IsScript text lines → name ≡ file
    → IfSome names (λ n. IsSome left × (left ≡ finite.get n.texts name)) → HasScript names file lines
has_script names name file left lines has is told =
    subst (λ (f : List ℕ). HasScript names f lines) is
    (record { text = has.0; under = text_under names name left has.0 told has.1; script = has.2 })

-- why a script wasn't read that the bay opened
pub script_fails : {T : Type 0} (e : ScriptFail) (i : ℕ) (names : Option Names) (files : List (List ℕ)) (name : List ℕ) (left : Option (List ℕ))
    (none some before now : ℕ) (faults : List ℕ) → IfLine e (λ n. (text : List ℕ) × IsTextOf left text × IsBadAt text n)
    → (e ≡ script.ReadFault → Rose none some) → (¬ IsErrOf {T = T} (Err e) script.ReadFault → some ≡ none) → now ≡ before → none ≡ 0
    → name ≡ get_or files i [] → IfSome names (λ n. IsSome left × (left ≡ finite.get n.texts name)) → faults ≡ replicate i 0 ++ (some ∷ [])
    → ScriptFailsAt i (unread_script e i) names files faults before now
script_fails {T} script.Memory i names files name left none some before now faults bad rose kept same is name_is told all = tt
script_fails {T} (script.Line n) i names files name left none some before now faults bad rose kept same is name_is told all = (
  refl,
  subst (λ (f : List ℕ). HasBadLine names f n) name_is (record { text = bad.0; under = text_under names name left bad.0 told bad.1; bad = bad.2 }),
  one_whole i some faults before now all (kept (λ e. absurd cc) ∙ is) same,
)
script_fails {T} script.ReadFault i names files name left none some before now faults bad rose kept same is name_is told all =
    inl (record { count = some; some = omega (arith, rose refl, is); sources = all; bay = same })

-- ---- all scripts

-- one more script was read
pub have_more : (names : Option Names) (front : List (List ℕ)) (name : List ℕ) (scripts : List (List Line)) (lines : List Line)
    → HaveScripts names front scripts → HasScript names name lines → HaveScripts names (front ++ (name ∷ [])) (scripts ++ (lines ∷ []))
have_more names [] name [] lines have one = (one, tt)
have_more names (f ∷ front) name (s ∷ scripts) lines have one = (have.0, have_more names front name scripts lines have.1 one)
have_more names [] name (s ∷ scripts) lines have one = absurd have
have_more names (f ∷ front) name [] lines have one = absurd have

-- the lines of all scripts, with one more behind
pub lines_behind : (old new : List (Vec Line Global)) (last : Vec Line Global) → new ≡ old ++ (last ∷ [])
    → map (λ s. s.items) new ≡ map (λ s. s.items) old ++ (last.items ∷ [])
lines_behind old new last pushed =
    ap (λ (l : List (Vec Line Global)). map {A = Vec Line Global} {B = List Line} (λ s. s.items) l) pushed
    ∙ map-append {A = Vec Line Global} {B = List Line} (λ s. s.items) old (last ∷ [])

-- the scripts of the files up to one more, where the bay tells the same as at the start
pub have_next : (old now : BayView) (files : List (List ℕ)) (i : ℕ) (scripts : List (List Line)) (lines : List Line) → now ≡ old → i < length files
    → HaveScripts old.names (take i files) scripts → HasScript now.names (get_or files i []) lines
    → HaveScripts old.names (take (i + 1) files) (scripts ++ (lines ∷ []))
have_next old now files i scripts lines same within have one =
    subst (λ (front : List (List ℕ)). HaveScripts old.names front (scripts ++ (lines ∷ []))) (sym (take_more files i [] within))
    (have_more old.names (take i files) (get_or files i []) scripts lines have
    (subst (λ (b : BayView). HasScript b.names (get_or files i []) lines) same one))

-- why the scripts weren't read, where those before this one were
pub fails_to_read : (e : Unread) (old mid : BayView) (files : List (List ℕ)) (i : ℕ) (scripts : List (List Line)) (faults : List ℕ)
    (before at now : ℕ) → mid ≡ old → at ≡ before → i < length files → HaveScripts old.names (take i files) scripts
    → ScriptFailsAt i e mid.names files faults at now → FailsToRead e old.names files faults before now
fails_to_read e old mid files i scripts faults before at now same kept within have fails =
    by e (subst (λ (k : ℕ). ScriptFailsAt i e old.names files faults k now) kept (subst (λ (b : BayView). ScriptFailsAt i e b.names files faults at now) same fails))
  where
    front : HaveFront old.names files i
    front = record { within = within; scripts = scripts; lines = have }

    by : (e : Unread) → ScriptFailsAt i e old.names files faults before now → FailsToRead e old.names files faults before now
    by unread.Memory fails = tt
    by (unread.Line script n) fails =
        subst (λ (k : ℕ). HasBadScript k n old.names files faults before now) (sym fails.0)
        (record { front = front; bad = fails.1; whole = fails.2 })
    by unread.Fault fails = record { script = i; front = front; cause = fails }
