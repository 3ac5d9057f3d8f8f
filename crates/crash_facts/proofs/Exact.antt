-- How exact the bitmap is, with the operations of each fair selection of the intents under way.
use Rattle.std.proofs.Common.{◌≡◌, ℕ, ◌≤◌, true, List, [], ◌∷◌, ◌++◌, length, Option, Some, None}
use Rattle.std.proofs.Common.{refl, sym, ap, subst, ◌∙◌}
use Rattle.std.proofs.lemmas.Option.{same_Some}
use Rattle.std.proofs.lemmas.List.{take-append-le}
use Rattle.unit_fields.specs.declared.width.Width.{Width}
use Rattle.block_device.specs.Prelude.{last, Disk, History, with_event}
use Rattle.block_device.specs.declared.event.Event.{Event}
use Rattle.block_device.specs.declared.event.Event.TheVariants.{Write, Flush, Done}
use Rattle.meta_rows.specs.declared.row_op.RowOp.{RowOp}
use Rattle.meta_rows.specs.Prelude.{Rows, rows_after}
use Rattle.meta_log.specs.Prelude.{width_of}
use Rattle.store_image.specs.Prelude.{IsLeaked, IsExactBut, IsExactAs, IsLeakedIn}
use Rattle.store_image.proofs.Prelude.{renamed, is_left_out}
use Rattle.store_steps.specs.Prelude.{Intent, intents, is_in, rows_by, uncommitted, begun_ops, RowsPart, rows_part, Touch, after, run_write, RowsGo, joins, reorders, with_accepted, Footprint, Batch, State, batch_ops}
use Rattle.store_steps.specs.Touch as touch
use Rattle.store_steps.specs.RowsGo.{same, applies, switches}
use Rattle.run_facts.specs.Prelude.{IsKept, AreRowsKept}
use Rattle.space_facts.proofs.Prelude.{selection_exact, rows_append, rows_by_ops}
use Rattle.run_facts.proofs.Prelude.{IsMade, made_batch, flat_intents}
use Rattle.meta_store.specs.Store.{Begun}
use Rattle.std.specs.Option.{option_map_or}
use Rattle.selections.proofs.Selecting.{fair_nil, fair_among, fair_behind, each_of_none}
use Rattle.book_facts.specs.Prelude.{IsFairSelection}
use Rattle.book_facts.proofs.Prelude.{has_coll}
use Rattle.crash_facts.specs.Store.{contents_at, SelectionsAreExact}
use Rattle.crash_facts.proofs.Fronts.{front_fair}

-- ---- rows

-- rows that are exact as others are, of which no units are leaked but those leaked in the image
pub exact_over : (w : Width) (before : List ℕ) (rows later : Rows) → IsExactBut w (IsLeakedIn before) rows → IsExactAs w rows later
    → IsExactBut w (IsLeakedIn before) later
exact_over w before rows later exact as_rows =
    renamed w (IsLeaked w rows) (IsLeakedIn before) later (λ unit _ was. is_left_out w (IsLeakedIn before) rows unit exact was) as_rows

-- ---- selections

pub rows_exact : (w : Width) (leaked : ℕ → Type 0) (rows : Rows) (xs : List Intent) → SelectionsAreExact w leaked rows xs → IsExactBut w leaked rows
rows_exact w leaked rows xs every = every [] (fair_nil is_in xs)

pub exact_none : (w : Width) (leaked : ℕ → Type 0) (rows : Rows) → IsExactBut w leaked rows → SelectionsAreExact w leaked rows []
exact_none w leaked rows = each_of_none is_in has_coll (λ (xs : List Intent). IsExactBut w leaked (rows_by rows xs))

-- ---- a kept state

module _ (before : List ℕ) (s : State) (d : Disk) (kept : IsKept s d) (up : s.down ≡ None)
    (exact : IsExactBut (width_of s.log.sup) (IsLeakedIn before) s.log.rows) where
  -- each selection is as exact as the committed rows
  pub kept_selections : SelectionsAreExact (width_of s.log.sup) (IsLeakedIn before) s.log.rows (intents (uncommitted s))
  kept_selections some fair =
      let rows : AreRowsKept (rows_part s) = (kept.up up).rows in
      exact_over (width_of s.log.sup) before s.log.rows (rows_by s.log.rows some) exact
      (selection_exact s.log.sup s.log.rows (intents (uncommitted s)) rows.good rows.planned some fair)

-- ---- the record that is being written

-- the rows after it are exact too
abbrev pub IsBegunExact : Width → (ℕ → Type 0) → State → Type 0
IsBegunExact w leaked s = (ops : List RowOp) → begun_ops s.log.begun ≡ Some ops → IsExactBut w leaked (rows_after s.log.rows ops)

-- a record that was made is that of the open batch
pub record IsOfBatch (s : State) (ops : List RowOp) : Type 0 where
  pub writing : Begun
  pub begun : s.log.begun ≡ Some writing
  pub batch : Batch
  pub is_open : s.batch ≡ Some batch
  pub rows : rows_by s.log.rows (intents batch.contexts) ≡ rows_after s.log.rows ops

pub batch_rows : (rows : Rows) (b : Batch) → rows_by rows (intents b.contexts) ≡ rows_after rows (batch_ops b)
batch_rows rows b = sym (rows_by_ops rows (intents b.contexts)) ∙ ap (rows_after rows) (flat_intents (λ x. x.ops) b.contexts)

-- whose contexts come first
pub batch_first : (s : State) (b : Batch) → s.batch ≡ Some b → uncommitted s ≡ b.contexts ++ s.pending
batch_first s b is = ap (λ (o : Option Batch). option_map_or (λ (c : Batch). c.contexts) o [] ++ s.pending) is

pub begun_of : (s : State) (d : Disk) (ops : List RowOp) → IsKept s d → s.down ≡ None → begun_ops s.log.begun ≡ Some ops → IsOfBatch s ops
begun_of s d ops kept up is = of_begun s.log.begun refl is
  where
    of_begun : (o : Option Begun) → s.log.begun ≡ o → begun_ops o ≡ Some ops → IsOfBatch s ops
    of_begun None e is = absurd (cc)
    of_begun (Some r) e is =
        let made : IsMade s r = made_batch s d r (kept.up up) e in
        record {
          writing = r;
          begun = e;
          batch = made.batch;
          is_open = made.is_open;
          rows = batch_rows s.log.rows made.batch ∙ ap (rows_after s.log.rows) (sym made.ops ∙ same_Some r.ops ops is);
        }

pub kept_begun : (leaked : ℕ → Type 0) (s : State) (d : Disk) → IsKept s d → s.down ≡ None
    → SelectionsAreExact (width_of s.log.sup) leaked s.log.rows (intents (uncommitted s)) → IsBegunExact (width_of s.log.sup) leaked s
kept_begun leaked s d kept up every ops begun =
    let of : IsOfBatch s ops = begun_of s d ops kept up begun in
    subst (IsExactBut (width_of s.log.sup) leaked) of.rows
    (every (intents of.batch.contexts) (front_fair s d kept up of.batch.contexts s.pending (batch_first s of.batch of.is_open)))

-- ---- the contents when the mount began stay what they were

pub same_contents : (base : ℕ) (h : History) (e : Event) → base ≤ length h.log → contents_at base (with_event h e) ≡ contents_at base h
same_contents base h e reached = ap (λ (log : List Event). last h.start log) (take-append-le base h.log (e ∷ []) reached)

touched_contents : (base : ℕ) (h : History) (t : Touch) → base ≤ length h.log → contents_at base (after t h) ≡ contents_at base h
touched_contents base h touch.nothing reached = refl
touched_contents base h (touch.ends ticket) reached = same_contents base h (Done ticket true) reached
touched_contents base h (touch.flushes ticket) reached = same_contents base h Flush reached
touched_contents base h (touch.on_data ticket run) reached = same_contents base h (run_write run) reached
touched_contents base h (touch.on_half ticket unit bytes) reached = same_contents base h (Write unit bytes) reached
touched_contents base h (touch.on_other ticket unit bytes) reached = same_contents base h (Write unit bytes) reached
touched_contents base h (touch.on_slot ticket unit bytes) reached = same_contents base h (Write unit bytes) reached

-- ---- each call

-- all selections of a part of the rows are exact
abbrev AreExact : (ℕ → Type 0) → RowsPart → Type 0
AreExact leaked p = SelectionsAreExact (width_of p.sup) leaked p.rows p.intents

part_exact : (leaked : ℕ → Type 0) (p q : RowsPart) → RowsGo p q → ((x : Intent) (more : ℕ) → q ≡ with_accepted x more p → AreExact leaked q) → AreExact leaked p
    → AreExact leaked q
part_exact leaked p q (same is) one every = subst (AreExact leaked) (sym is) every
part_exact leaked p q (joins x more is) one every = one x more is
part_exact leaked p q (reorders later order is) one every =
    subst (AreExact leaked) (sym is) (λ some fair. every some (fair_among is_in later p.intents some (λ n. sym (order n)) fair))
part_exact leaked p q (switches number limits is) one every = subst (AreExact leaked) (sym is) every
part_exact leaked p q (applies number front back both fits is) one every = subst (AreExact leaked) (sym is)
    (λ some fair. subst (IsExactBut (width_of p.sup) leaked)
    (rows_append p.rows front some ∙ ap (λ (rows : Rows). rows_by rows some) (sym (rows_by_ops p.rows front)))
    (every (front ++ some) (subst (λ (xs : List Intent). IsFairSelection xs (front ++ some)) (sym both) (fair_behind is_in front back some fair))))

-- the rows with one more are as exact as the committed ones, which stay
pub footprint_exact : (base : ℕ) (s s' : State) (d d' : Disk) (h : History) → (f : Footprint s d s' d') → IsKept s' d' → s'.down ≡ None
    → base ≤ length h.log → AreExact (IsLeakedIn (contents_at base h)) (rows_part s)
    → AreExact (IsLeakedIn (contents_at base (after f.touch h))) (rows_part s')
footprint_exact base s s' d d' h f kept up reached every =
    let before : List ℕ = contents_at base h in
    subst (λ (contents : List ℕ). AreExact (IsLeakedIn contents) (rows_part s')) (sym (touched_contents base h f.touch reached))
    (part_exact (IsLeakedIn before) (rows_part s) (rows_part s') f.rows
    (λ x more is. kept_selections before s' d' kept up (subst (λ (q : RowsPart). IsExactBut (width_of q.sup) (IsLeakedIn before) q.rows) (sym is)
    (rows_exact (width_of s.log.sup) (IsLeakedIn before) s.log.rows (intents (uncommitted s)) every))) every)
