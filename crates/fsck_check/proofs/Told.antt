-- What is found of a store, and of the device that it stands on.
use Rattle.std.proofs.Common.{◌≡◌, ℕ, ◌<◌, List, [], ◌∷◌, length, map, Option, Some, None, Result, Ok, Err, arith}
use Rattle.std.specs.Prelude.{IfSome, IfOk}
use Rattle.block_device.specs.Prelude.{Disk, History, last}
use Rattle.meta_log.specs.declared.slot.Super.{Super}
use Rattle.meta_log.specs.Prelude.{active_half}
use Rattle.meta_rows.specs.Prelude.{Rows}
use Rattle.row_check.specs.Bad.{AreBadKeys, IsLeastBad}
use Rattle.read_facts.specs.Prelude.{IsHeldAt}
use Rattle.ordered_lists.specs.Lists.{IsIn}
use Rattle.log_replay.specs.Opening.{IsAbout, IsFoundIn}
use Rattle.log_replay.specs.Cleared.{IsAllClean}
use Rattle.log_replay.specs.FoundOn.{as_found, IsFoundOn}
use Rattle.log_replay.specs.declared.replaying.FoundStore.{FoundStore}
use Rattle.findings.specs.declared.finding.Finding.{Finding}
use Rattle.findings.specs.declared.finding.Finding.TheVariants.{BadRow}
use Rattle.findings.specs.Findings.{FindsBadRows, AreFindings}
use Rattle.fsck_check.specs.Checking.{FoundAll}

about_as : (d : Disk) (P Q : List ℕ → Type 0) → ((contents : List ℕ) → P contents → Q contents) → IsAbout d P → IsAbout d Q
about_as d P Q more about = by d.history about
  where
    by : (o : Option History) → IfSome o (λ h. IsAllClean h → P (last h.start h.log)) → IfSome o (λ h. IsAllClean h → Q (last h.start h.log))
    by None a = tt
    by (Some h) a = λ clean. more (last h.start h.log) (a clean)

pub found_all : (d : Disk) (store : FoundStore) (found : List Finding) → IsFoundOn d store → AreFindings store.sup (IsHeldAt d) store.log.rows.rows found
    → FoundAll d found
found_all d store found on are = record {
  store = as_found store;
  about = about_as d (λ contents. IsFoundIn contents (as_found store) × (on.half ≡ active_half contents store.sup))
      (λ contents. IsFoundIn contents (as_found store)) (λ contents is. is.0) on.about;
  are = are;
}

is_some : {A : Type 0} (x : A) (xs : List A) → IsIn x xs → 0 < length xs
is_some x [] is = absurd is
is_some x (y ∷ ys) is = omega arith

pub bad_rows_found : (s : Super) (rows : Rows) (key : List ℕ) (keys : List (List ℕ)) (found : List Finding) → IsLeastBad s rows key → AreBadKeys s rows keys
    → found ≡ map BadRow keys → FindsBadRows s rows found
bad_rows_found s rows key keys found least are is = record { keys = keys; are = are; some = is_some key keys (are.all key least.bad); is = is }

pub each_ok : {A E : Type 0} (r : Result A E) (P Q : A → Type 0) → ((x : A) → P x → Q x) → IfOk r P → IfOk r Q
each_ok (Ok x) P Q more p = more x p
each_ok (Err e) P Q more p = tt
