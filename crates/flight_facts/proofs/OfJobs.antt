-- What a submission in flight touches, by its job: units that a context gave, units of the record or of the checkpoint, the other slot, or none.
use Rattle.std.proofs.Common.{◌≡◌, ℕ, false, List, Option, Some, None, refl, sym, ap, subst, ◌∙◌}
use Rattle.flight_facts.proofs.Common.{option_map, Flight, Context, Job, Meta, other_slot}
use Rattle.store_steps.specs.declared.flight.Job.TheVariants as job
use Rattle.flight_facts.specs.Prelude.{units_of_job, is_of_batch, is_of_switch, IsWriteOf, TouchesOnly, IsGivenPiece, IsGivenRun, TouchesOnlyOf, IsOfJob}

pub data Touched (m : Meta) (pending : List Context) (j : Job) (g : Flight) : Type 0 where
  by_write : (place count : ℕ) → j ≡ job.Data place count → IsWriteOf pending place count g → Touched m pending j g
  by_piece : j ≡ job.Record → TouchesOnlyOf (IsGivenPiece m) m.begun g → Touched m pending j g
  by_run : j ≡ job.Check → TouchesOnlyOf (IsGivenRun m) m.check g → Touched m pending j g
  by_slot : j ≡ job.Slot → TouchesOnly (λ unit. unit ≡ other_slot m.sup) g → Touched m pending j g
  by_none : g.bytes ≡ 0 → ((m' : Meta) (later : List Context) → IsOfJob m' later j g) → ((place : ℕ) → units_of_job place j ≡ 0) → Touched m pending j g

pub touched : (m : Meta) (pending : List Context) (j : Job) (g : Flight) → IsOfJob m pending j g → Touched m pending j g
touched m pending (job.Data place count) g is = by_write place count refl is
touched m pending job.Record g is = by_piece refl is
touched m pending job.Check g is = by_run refl is
touched m pending job.Slot g is = by_slot refl is
touched m pending other g is = by_none is (λ m' later. is) (λ place. refl)

-- only a data write is of units of a context
pub no_units : (m : Meta) (pending : List Context) (j : Job) (g : Flight) → Touched m pending j g → (place : ℕ)
    → ((of count : ℕ) → j ≡ job.Data of count → IsWriteOf pending of count g → units_of_job place j ≡ 0) → units_of_job place j ≡ 0
no_units m pending j g (by_write of count its write) place away = away of count its write
no_units m pending j g (by_piece its piece) place away = ap (units_of_job place) its
no_units m pending j g (by_run its run) place away = ap (units_of_job place) its
no_units m pending j g (by_slot its slot) place away = ap (units_of_job place) its
no_units m pending j g (by_none empty still none) place away = none place

-- What the two logs and their contexts have in common, so that what is in flight is of its job in both.
pub record GoesOn (m m' : Meta) (pending later : List Context) : Type 0 where
  pub writes : (place count : ℕ) (g : Flight) → IsWriteOf pending place count g → IsWriteOf later place count g
  pub pieces : (g : Flight) → TouchesOnlyOf (IsGivenPiece m) m.begun g → TouchesOnlyOf (IsGivenPiece m') m'.begun g
  pub runs : (g : Flight) → TouchesOnlyOf (IsGivenRun m) m.check g → TouchesOnlyOf (IsGivenRun m') m'.check g
  pub slot : other_slot m'.sup ≡ other_slot m.sup

pub job_then : (m m' : Meta) (pending later : List Context) → GoesOn m m' pending later → (j : Job) (g : Flight) → IsOfJob m pending j g
    → IsOfJob m' later j g
job_then m m' pending later on j g is = of_touched (touched m pending j g is)
  where
    of_touched : Touched m pending j g → IsOfJob m' later j g
    of_touched (by_write place count its write) = subst (λ (k : Job). IsOfJob m' later k g) (sym its) (on.writes place count g write)
    of_touched (by_piece its piece) = subst (λ (k : Job). IsOfJob m' later k g) (sym its) (on.pieces g piece)
    of_touched (by_run its run) = subst (λ (k : Job). IsOfJob m' later k g) (sym its) (on.runs g run)
    of_touched (by_slot its slot) = subst (λ (k : Job). IsOfJob m' later k g) (sym its)
        (λ unit out. slot unit (λ same. out (same ∙ sym on.slot)))
    of_touched (by_none empty still none) = still m' later

-- ---- the cases of it

-- a flight touches no more than before
pub touches_more : {P Q : ℕ → Type 0} → ((unit : ℕ) → P unit → Q unit) → (g : Flight) → TouchesOnly P g → TouchesOnly Q g
touches_more {P} {Q} more g only unit out = only unit (λ p. out (more unit p))

pub piece_more : {A B : Type 0} (P : A → ℕ → Type 0) (Q : B → ℕ → Type 0) (o : Option A) (change : A → B)
    → ((x : A) (unit : ℕ) → P x unit → Q (change x) unit) → (g : Flight) → TouchesOnlyOf P o g → TouchesOnlyOf Q (option_map change o) g
piece_more P Q None change more g is = absurd is
piece_more {A} {B} P Q (Some x) change more g is = λ unit out. is unit (λ p. out (more x unit p))

-- whatever context they are of, data writes alone are neither of the batch nor of a switch
pub job_of_data : (m m' : Meta) (pending : List Context) (j : Job) (g : Flight) → is_of_batch j ≡ false → is_of_switch j ≡ false
    → IsOfJob m pending j g → IsOfJob m' pending j g
job_of_data m m' pending (job.Data place count) g batch switch is = is
job_of_data m m' pending job.Check g batch switch is = absurd (cc)
job_of_data m m' pending job.CheckFlush g batch switch is = absurd (cc)
job_of_data m m' pending job.Slot g batch switch is = absurd (cc)
job_of_data m m' pending job.SlotFlush g batch switch is = absurd (cc)
job_of_data m m' pending other g batch switch is = absurd (cc)
