-- Which command lines are said by the name of a command.
use Rattle.std.proofs.Common.{◌≡◌, ◌≢◌, ℕ, List, get_or, codes, refl, ap, sym, ◌∙◌, arith}
use Rattle.clap.specs.Words.{Row, Text}
use Rattle.command_words.specs.declared.command_line.CommandLine.TheVariants.{Mkfs, Step, Dump, Fsck}
use Rattle.command_words.specs.CommandLine.{IsInRange, SaysCommandLine, IsNotSaid}

-- two names differ in a letter
pub differ : {A : Type 0} (a b : Text) (k m n : ℕ) → get_or a k 0 ≡ m → get_or b k 0 ≡ n → m ≢ n → a ≡ b → A
differ a b k m n at also apart is = absurd (apart (sym at ∙ ap (λ (t : Text). get_or t k 0) is ∙ also))

module _ (rows : List Row) where
  pub no_mkfs : ((dev : Text) (half units prefer : ℕ) → IsInRange (Mkfs dev half units prefer) → SaysCommandLine (codes "mkfs") rows (Mkfs dev half units prefer) → ⊥) → IsNotSaid (codes "mkfs") rows
  no_mkfs else_none (Mkfs dev half units prefer) s = else_none dev half units prefer s.0 s.1
  no_mkfs else_none (Step dev seed scripts) s = differ (codes "mkfs") (codes "step") 0 109 115 refl refl (omega arith) s.1.0
  no_mkfs else_none (Dump dev) s = differ (codes "mkfs") (codes "dump") 0 109 100 refl refl (omega arith) s.1.0
  no_mkfs else_none (Fsck dev) s = differ (codes "mkfs") (codes "fsck") 0 109 102 refl refl (omega arith) s.1.0

  pub no_step : ((dev : Text) (seed : ℕ) (scripts : List Text) → IsInRange (Step dev seed scripts) → SaysCommandLine (codes "step") rows (Step dev seed scripts) → ⊥) → IsNotSaid (codes "step") rows
  no_step else_none (Step dev seed scripts) s = else_none dev seed scripts s.0 s.1
  no_step else_none (Mkfs dev half units prefer) s = differ (codes "step") (codes "mkfs") 0 115 109 refl refl (omega arith) s.1.0
  no_step else_none (Dump dev) s = differ (codes "step") (codes "dump") 0 115 100 refl refl (omega arith) s.1.0
  no_step else_none (Fsck dev) s = differ (codes "step") (codes "fsck") 0 115 102 refl refl (omega arith) s.1.0

  pub no_dump : ((dev : Text) → IsInRange (Dump dev) → SaysCommandLine (codes "dump") rows (Dump dev) → ⊥) → IsNotSaid (codes "dump") rows
  no_dump else_none (Dump dev) s = else_none dev s.0 s.1
  no_dump else_none (Mkfs dev half units prefer) s = differ (codes "dump") (codes "mkfs") 0 100 109 refl refl (omega arith) s.1.0
  no_dump else_none (Step dev seed scripts) s = differ (codes "dump") (codes "step") 0 100 115 refl refl (omega arith) s.1.0
  no_dump else_none (Fsck dev) s = differ (codes "dump") (codes "fsck") 0 100 102 refl refl (omega arith) s.1.0

  pub no_fsck : ((dev : Text) → IsInRange (Fsck dev) → SaysCommandLine (codes "fsck") rows (Fsck dev) → ⊥) → IsNotSaid (codes "fsck") rows
  no_fsck else_none (Fsck dev) s = else_none dev s.0 s.1
  no_fsck else_none (Mkfs dev half units prefer) s = differ (codes "fsck") (codes "mkfs") 0 102 109 refl refl (omega arith) s.1.0
  no_fsck else_none (Step dev seed scripts) s = differ (codes "fsck") (codes "step") 0 102 115 refl refl (omega arith) s.1.0
  no_fsck else_none (Dump dev) s = differ (codes "fsck") (codes "dump") 0 102 100 refl refl (omega arith) s.1.0

  -- a name that is none of these says nothing
  pub no_other : (name : Text) → name ≢ codes "mkfs" → name ≢ codes "step" → name ≢ codes "dump" → name ≢ codes "fsck" → IsNotSaid name rows
  no_other name mkfs step dump fsck (Mkfs dev half units prefer) s = mkfs s.1.0
  no_other name mkfs step dump fsck (Step dev seed scripts) s = step s.1.0
  no_other name mkfs step dump fsck (Dump dev) s = dump s.1.0
  no_other name mkfs step dump fsck (Fsck dev) s = fsck s.1.0
