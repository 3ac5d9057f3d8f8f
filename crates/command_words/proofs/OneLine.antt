-- Words spell one command line at most.
use Rattle.std.proofs.Common.{◌≡◌, ◌≢◌, ℕ, List, get_or, Option, Some, codes, refl, sym, subst, ◌∙◌, arith}
use Rattle.clap.specs.Words.{Row, Text, subcommand_of}
use Rattle.command_words.specs.declared.command_line.CommandLine.{CommandLine}
use Rattle.command_words.specs.declared.command_line.CommandLine.TheVariants.{Mkfs, Step, Dump, Fsck}
use Rattle.command_words.specs.CommandLine.{HasText, HasTexts, SaysCommandLine, Spells}
use Rattle.command_words.specs.Table.{table}
use Rattle.command_words.proofs.Found.{one_number}
use Rattle.command_words.proofs.Says.{differ}

one_text : (id : Text) (rows : List Row) (a b : Text) → HasText id rows a → HasText id rows b → a ≡ b
one_text id rows a b has also = let two : Some a ≡ Some b = sym has ∙ also in cc

one_texts : (id : Text) (rows : List Row) (a b : List Text) → HasTexts id rows a → HasTexts id rows b → a ≡ b
one_texts id rows a b has also = let two : Some a ≡ Some b = sym has ∙ also in cc

-- two commands have other names
apart : {A : Type 0} (name a b : Text) (m n : ℕ) → get_or a 0 0 ≡ m → get_or b 0 0 ≡ n → m ≢ n → name ≡ a → name ≡ b → A
apart name a b m n at also other is same = differ a b 0 m n at also other (sym is ∙ same)

module _ (name : Text) (rows : List Row) where
  same_line : (a b : CommandLine) → SaysCommandLine name rows a → SaysCommandLine name rows b → a ≡ b
  same_line (Mkfs dev half units prefer) (Mkfs d h u p) s t =
      let devs = one_text (codes "DEV") rows dev d s.1 t.1 in
      let halves = one_number (codes "half") rows half h s.2 t.2 in
      let counts = one_number (codes "units") rows units u s.3 t.3 in
      let prefers = one_number (codes "prefer") rows prefer p s.4 t.4 in
      λ i. Mkfs (devs i) (halves i) (counts i) (prefers i)
  same_line (Step dev seed scripts) (Step d x f) s t =
      let devs = one_text (codes "DEV") rows dev d s.1 t.1 in
      let seeds = one_number (codes "seed") rows seed x s.2 t.2 in
      let files = one_texts (codes "SCRIPT") rows scripts f s.3 t.3 in
      λ i. Step (devs i) (seeds i) (files i)
  same_line (Dump dev) (Dump d) s t = let devs = one_text (codes "DEV") rows dev d s.1 t.1 in λ i. Dump (devs i)
  same_line (Fsck dev) (Fsck d) s t = let devs = one_text (codes "DEV") rows dev d s.1 t.1 in λ i. Fsck (devs i)
  same_line (Mkfs dev half units prefer) (Step d x f) s t = apart name (codes "mkfs") (codes "step") 109 115 refl refl (omega arith) s.0 t.0
  same_line (Mkfs dev half units prefer) (Dump d) s t = apart name (codes "mkfs") (codes "dump") 109 100 refl refl (omega arith) s.0 t.0
  same_line (Mkfs dev half units prefer) (Fsck d) s t = apart name (codes "mkfs") (codes "fsck") 109 102 refl refl (omega arith) s.0 t.0
  same_line (Step dev seed scripts) (Mkfs d h u p) s t = apart name (codes "step") (codes "mkfs") 115 109 refl refl (omega arith) s.0 t.0
  same_line (Step dev seed scripts) (Dump d) s t = apart name (codes "step") (codes "dump") 115 100 refl refl (omega arith) s.0 t.0
  same_line (Step dev seed scripts) (Fsck d) s t = apart name (codes "step") (codes "fsck") 115 102 refl refl (omega arith) s.0 t.0
  same_line (Dump dev) (Mkfs d h u p) s t = apart name (codes "dump") (codes "mkfs") 100 109 refl refl (omega arith) s.0 t.0
  same_line (Dump dev) (Step d x f) s t = apart name (codes "dump") (codes "step") 100 115 refl refl (omega arith) s.0 t.0
  same_line (Dump dev) (Fsck d) s t = apart name (codes "dump") (codes "fsck") 100 102 refl refl (omega arith) s.0 t.0
  same_line (Fsck dev) (Mkfs d h u p) s t = apart name (codes "fsck") (codes "mkfs") 102 109 refl refl (omega arith) s.0 t.0
  same_line (Fsck dev) (Step d x f) s t = apart name (codes "fsck") (codes "step") 102 115 refl refl (omega arith) s.0 t.0
  same_line (Fsck dev) (Dump d) s t = apart name (codes "fsck") (codes "dump") 102 100 refl refl (omega arith) s.0 t.0

pub one_line : (words : List Text) (a b : CommandLine) → Spells words a → Spells words b → a ≡ b
one_line words a b s t =
    let two : Some (t.name, t.rows) ≡ Some (s.name, s.rows) = sym t.found ∙ s.found in
    let same : (t.name, t.rows) ≡ (s.name, s.rows) = cc in
    same_line s.name s.rows a b s.says (subst (λ (p : Text × List Row). SaysCommandLine p.0 p.1 b) same t.says)
