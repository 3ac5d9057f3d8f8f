-- What is known of the active half is kept, whatever a call makes of them.
use Rattle.std.proofs.Common.{◌≡◌, inl, inr, ℕ, ◌+◌, ◌*◌, ◌≤◌, true, List, [], ◌∷◌, ◌++◌, length, Option, Some, None, refl, sym, subst, arith}
use Rattle.byte_maps.specs.Units.{IsUnits}
use Rattle.block_device.specs.Prelude.{last, WritesNothing, History, Flight, with_event, EventFits, EachWriteIsAnswered, QuietAt}
use Rattle.block_device.specs.declared.event.Event.{Event}
use Rattle.block_device.specs.declared.event.Event.TheVariants.{Write, Flush, Done}
use Rattle.meta_rows.specs.declared.row_op.RowOp.{RowOp}
use Rattle.meta_log.specs.declared.slot.Super.{Super}
use Rattle.meta_log.specs.Prelude.{IsSuper, active_unit, other_unit}
use Rattle.log_facts.specs.Prelude.{FlushState, not_sent, sent, flushed, WritesNoneOf, ActiveHalfStands}
use Rattle.log_facts.proofs.Keeping.{written_before, written_behind, data_spares_half, half_before_data, half_push, half_quiet}
use Rattle.log_facts.proofs.Writing.{half_begin, half_piece, half_sync, half_synced, half_commit}
use Rattle.store_steps.specs.Prelude.{unsent_units, run_bytes, HalfPart, Touch, nothing, ends, flushes, on_data, on_half, on_other, on_slot, half_switched, after, run_write, IsPlaced, IsNoPiece, HalfGoes, begins, gives_piece, syncs, is_synced, moves_on}
use Rattle.run_facts.proofs.OtherHalf.{halves_apart}
use Rattle.unit_facts.proofs.Units.{other_before_data}
use Rattle.unit_facts.proofs.Events.{HasNextTicket}
use Rattle.store_steps.specs.HalfGoes.{same}
use Rattle.store_steps.specs.HalfGoes as half

-- the active half with some records
pub record HalfStands (h : History) (p : HalfPart) : Type 0 where
  pub recs : List (List RowOp)
  pub stands : ActiveHalfStands h p.sup p.rows p.tail p.number p.begun p.from p.second recs

-- the half with what these are
abbrev StandsAt : History → HalfPart → Option (List RowOp) → ℕ → FlushState → List (List RowOp) → Type 0
StandsAt h p begun from second recs = ActiveHalfStands h p.sup p.rows p.tail p.number begun from second recs

stands_at : (h : History) (p : HalfPart) (begun : Option (List RowOp)) (second : FlushState) (recs : List (List RowOp)) → p.begun ≡ begun
    → p.second ≡ second → StandsAt h p p.begun p.from p.second recs → StandsAt h p begun p.from second recs
stands_at h p begun second recs b f stands =
    subst (λ o. StandsAt h p o p.from second recs) b (subst (λ g. StandsAt h p p.begun p.from g recs) f stands)

spared : (h : History) (e : Event) (p : HalfPart) → EventFits (length (last h.start h.log)) e
    → WritesNoneOf (active_unit p.sup) p.sup.half e → HalfStands h p → HalfStands (with_event h e) p
spared h e p fit half known = record {
  recs = known.recs;
  stands = half_push h p.sup p.rows p.tail p.number p.begun p.from p.second known.recs e fit half known.stands;
}

quiet : (h : History) (e : Event) (p : HalfPart) → WritesNothing e → HalfStands h p → HalfStands (with_event h e) p
quiet h e p none known = record {
  recs = known.recs;
  stands = half_quiet h p.sup p.rows p.tail p.number p.begun p.from p.second known.recs e none known.stands;
}

-- the other half isn't this one
other_spares_half : (s : Super) (at : ℕ) (bytes : List ℕ) → other_unit s ≤ at → 4096 * at + length bytes ≤ 4096 * (other_unit s + s.half)
    → WritesNoneOf (active_unit s) s.half (Write at bytes)
other_spares_half s at bytes behind inside = elim (halves_apart s) [
  | inl before ↦ written_behind (active_unit s) s.half at bytes (omega (arith, before, behind))
  | inr later ↦ written_before (active_unit s) s.half at bytes (omega (arith, later, inside))
]

same_half : (t : Touch) (p : HalfPart) (h : History) → IsNoPiece t → IsPlaced p.sup t → IsUnits p.sup.units (last h.start h.log)
    → 2 * p.sup.half + 3 ≤ p.sup.units → HalfStands h p → HalfStands (after t h) p
same_half nothing p h spares placed size room known = known
same_half (ends ticket) p h spares placed size room known = quiet h (Done ticket true) p tt known
same_half (flushes ticket) p h spares placed size room known = quiet h Flush p tt known
same_half (on_data ticket run) p h spares placed size room known =
    let bytes : List ℕ = run_bytes (unsent_units run) in
    spared h (run_write run) p (omega (arith, placed.1, size)) (data_spares_half p.sup run.first.unit bytes placed.0.0.0) known
same_half (on_half ticket unit bytes) p h spares placed size room known = absurd spares
same_half (on_other ticket unit bytes) p h spares placed size room known =
    spared h (Write unit bytes) p (omega (arith, placed.1, other_before_data p.sup, room, size)) (other_spares_half p.sup unit bytes placed.0 placed.1) known
same_half (on_slot ticket unit bytes) p h spares placed size room known =
    spared h (Write unit bytes) p (omega (arith, placed.0, placed.1, room, size))
    (written_before (active_unit p.sup) p.sup.half unit bytes (omega (arith, placed.0, placed.1))) known

-- once the halves have changed places the other one stands
abbrev pub IsMoved : History → {flights : List Flight} {t : Touch} (p : HalfPart) {q : HalfPart} → HalfGoes flights t p q → Type 0
IsMoved h p (half.switches is) = HalfStands h (half_switched p)
IsMoved h p other = Unit {0}

pub half_known : (base : ℕ) (flights : List Flight) (t : Touch) (p q : HalfPart) (h : History) (goes : HalfGoes flights t p q) → IsMoved h p goes
    → IsPlaced p.sup t
    → IsUnits p.sup.units (last h.start h.log) → IsSuper p.sup → QuietAt base h → EachWriteIsAnswered base h flights → HasNextTicket h t
    → HalfStands h p → HalfStands (after t h) q
half_known base flights t p q h (same spares is) moved placed size limits quiet_since each next known =
    subst (HalfStands (after t h)) (sym is) (same_half t p h spares placed size limits.room known)
half_known base flights t p q h (begins ops none spellable room is) moved placed size limits quiet_since each next known =
    subst (HalfStands h) (sym is) (record {
      recs = known.recs;
      stands = half_begin h p.sup p.rows p.tail p.number ops known.recs p.from p.second spellable room
          (stands_at h p None p.second known.recs none refl known.stands);
    })
half_known base flights t p q h (gives_piece ticket unit bytes g) moved placed size limits quiet_since each next known =
    let e : Event = Write unit bytes in
    let fit : EventFits (length (last h.start h.log)) e = omega (arith, placed.1, half_before_data p.sup, limits.room, size) in
    subst (HalfStands (with_event h e)) (sym g.then) (record {
      recs = known.recs;
      stands = subst (λ o. StandsAt (with_event h e) p o g.from p.second known.recs) (sym g.begun)
          (subst (λ f. StandsAt (with_event h e) p (Some g.ops) g.from f known.recs) (sym g.second)
          (half_piece h p.sup p.rows p.tail p.number g.ops known.recs p.from g.from g.earlier
          (stands_at h p (Some g.ops) not_sent known.recs g.begun g.second known.stands) unit bytes g.place g.cut fit));
    })
half_known base flights t p q h (syncs ticket ops begun second untouched is) moved placed size limits quiet_since each next known =
    subst (HalfStands (with_event h Flush)) (sym is) (record {
      recs = known.recs;
      stands = subst (λ o. StandsAt (with_event h Flush) p o p.from (sent ticket) known.recs) (sym begun)
          (subst (λ (n : ℕ). StandsAt (with_event h Flush) p (Some ops) p.from (sent n) known.recs) (sym next)
          (half_sync h p.sup p.rows p.tail p.number ops known.recs base flights p.from quiet_since each untouched
          (stands_at h p (Some ops) not_sent known.recs begun second known.stands)));
    })
half_known base flights t p q h (is_synced ticket ops begun second is) moved placed size limits quiet_since each next known =
    let e : Event = Done ticket true in
    subst (HalfStands (with_event h e)) (sym is) (record {
      recs = known.recs;
      stands = subst (λ o. StandsAt (with_event h e) p o p.from flushed known.recs) (sym begun)
          (half_synced h p.sup p.rows p.tail p.number ops known.recs ticket p.from
          (stands_at h p (Some ops) (sent ticket) known.recs begun second known.stands));
    })
half_known base flights t p q h (moves_on ops begun from second is) moved placed size limits quiet_since each next known =
    subst (HalfStands h) (sym is) (record {
      recs = known.recs ++ ops ∷ [];
      stands = half_commit h p.sup p.rows p.tail p.number ops known.recs
          (subst (λ n. StandsAt h p (Some ops) n flushed known.recs) from (stands_at h p (Some ops) flushed known.recs begun second known.stands));
    })
half_known base flights t p q h (half.switches is) moved placed size limits quiet_since each next known = subst (HalfStands h) (sym is) moved
