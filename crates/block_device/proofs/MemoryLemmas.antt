-- What each call does to a device in memory.
use Rattle.std.proofs.Common.{◌≡◌, ◌≢◌, inl, inr, ℕ, ◌+◌, ◌*◌, ◌<◌, ◌≤◌, List, [], ◌∷◌, ◌++◌, length, map, drop, Some, Bool, refl, sym, ◌∙◌, ap, subst, arith, length-drop}
use Rattle.std.proofs.lemmas.List.{map_push, length-map, length_push, length-take-le}
use Rattle.std.proofs.lemmas.List.Elements.{All-contains}
use Rattle.byte_maps.specs.Units.{unit_at, units_from}
use Rattle.byte_maps.proofs.Prelude.{unit_at-part}
use Rattle.block_device.specs.Prelude.{last, after_event, Submitted, Reaped, Waited, HasRead, IsSound, flight_of, find_flight, without, IsWholeEvent, flight, lowered, others, AreOpen, IsPatient, WasTaken, NoneWasReady, MemoryDisk, IsMemoryDisk, disk_of}
use Rattle.block_device.proofs.LogLemmas.{last-push}
use Rattle.block_device.proofs.ImageLemmas.{length-last, all_fit_push}
use Rattle.block_device.proofs.AnswerLemmas.{answers_submitted, answers_lowered, answers_done}
use Rattle.block_device.proofs.Pendings.{find_new, find_open, flights_lowered, flights_others, length-others, open_push, open_lowered, open_others, patient_push, patient_wait, patient_again}
use Rattle.block_device.specs.declared.event.Event.{Event}
use Rattle.block_device.specs.declared.event.Event.TheVariants.{Done}
use Rattle.block_device.specs.declared.pending.Pending.{Pending}

-- as it is kept, the device is sound

few_waits : (ps : List Pending) (waits : ℕ) → IsPatient ps waits → waits ≤ 64
few_waits ps waits (inl none) = omega (arith, none.1)
few_waits ps waits (inr one) = omega (arith, one.2)

pub sound_kept : (d : MemoryDisk) → IsMemoryDisk d → IsSound (disk_of d)
sound_kept d k = record {
  units = k.units;
  depth = omega arith;
  room = omega (arith, length-map d.pending flight, k.in_flight.few);
  waits = few_waits d.pending d.waits k.patient;
  size = k.size;
  size_now = length-last d.start d.log k.fits ∙ k.size;
  once = k.answers.once;
}

-- a submission

pub kept_submit : (d : MemoryDisk) (event : Event) (p : Pending) (log' : List Event) (ps' : List Pending) (writes flushes : ℕ) → IsMemoryDisk d → length d.pending < 64
    → IsWholeEvent (length d.start) event → ((t : ℕ) (o : Bool) → event ≢ Done t o) → p.ticket ≡ length d.log → p.lag ≤ 63 → writes + flushes ≡ d.writes + d.flushes + 1
    → log' ≡ d.log ++ event ∷ [] → ps' ≡ d.pending ++ p ∷ [] → IsMemoryDisk (record d { log = log'; pending = ps'; writes = writes; flushes = flushes })
kept_submit d event p log' ps' writes flushes k room whole none place low more log_is ps_is =
    let size : length (d.log ++ event ∷ []) ≡ length d.log + 1 = length_push d.log event in
    rw (log_is, ps_is) (record {
      units = k.units;
      size = k.size;
      fits = all_fit_push (length d.start) d.log (d.log ++ event ∷ []) event k.fits refl whole;
      answers = answers_submitted d.log event d.pending p k.answers none place;
      in_flight = rw size (open_push (length d.log) d.pending p k.in_flight place room low);
      lags = k.lags;
      patient = patient_push d.pending p d.waits k.patient low;
      counts = omega (arith, k.counts, size);
    })

pub submitted_now : (d v : MemoryDisk) (event : Event) (p : Pending) (n : ℕ) (log' : List Event) (ps' : List Pending) (writes flushes : ℕ) → d ≡ v → IsMemoryDisk d
    → n ≡ length d.log → flight p ≡ flight_of n event → log' ≡ d.log ++ event ∷ [] → ps' ≡ d.pending ++ p ∷ []
    → Submitted (disk_of v) n event (disk_of (record d { log = log'; pending = ps'; writes = writes; flushes = flushes }))
submitted_now d v event p n log' ps' writes flushes view k place flight_is log_is ps_is =
    subst (λ (w : MemoryDisk). Submitted (disk_of w) n event (disk_of (record d { log = log'; pending = ps'; writes = writes; flushes = flushes }))) view (record {
      is_new = ap (λ (m : ℕ). find_flight m (map flight d.pending)) place ∙ find_new (length d.log) d.pending k.in_flight.below;
      place = place;
      after =
          let flights : map flight ps' ≡ map flight d.pending ++ flight_of n event ∷ [] = ap (λ l. map flight l) ps_is ∙ map_push flight d.pending p ∙ ap (λ f. map flight d.pending ++ f ∷ []) flight_is in
          λ i. record { units = d.units; depth = 64; flights = flights i; waits = d.waits; history = Some (record { start = d.start; log = log_is i }) };
    })

-- a reap that gives none

pub kept_none : (d : MemoryDisk) (ps' : List Pending) → IsMemoryDisk d → NoneWasReady d.pending ps' → 0 < length d.pending → IsMemoryDisk (record d { pending = ps'; waits = d.waits + 1 })
kept_none d ps' k was some = record {
  units = k.units;
  size = k.size;
  fits = k.fits;
  answers = rw was.rest (answers_lowered d.log d.pending k.answers);
  in_flight = rw was.rest (open_lowered (length d.log) d.pending k.in_flight);
  lags = k.lags;
  patient = (patient_wait d.pending ps' d.waits k.patient was some).0;
  counts = k.counts;
}

pub waited_now : (d v : MemoryDisk) (ps' : List Pending) → d ≡ v → IsMemoryDisk d → NoneWasReady d.pending ps' → 0 < length d.pending → Waited (disk_of v) (disk_of (record d { pending = ps'; waits = d.waits + 1 }))
waited_now d v ps' view k was some =
    let flights : map flight ps' ≡ map flight d.pending = ap (λ l. map flight l) was.rest ∙ flights_lowered d.pending in
    subst (λ (w : MemoryDisk). Waited (disk_of w) (disk_of (record d { pending = ps'; waits = d.waits + 1 }))) view (inr (
      λ none. omega (arith, ap length none, length-map d.pending flight),
      (patient_wait d.pending ps' d.waits k.patient was some).1,
      λ i. record { units = d.units; depth = 64; flights = flights i; waits = d.waits + 1; history = Some (record { start = d.start; log = d.log }) },
    ))

-- one that gives a ticket

pub kept_done : (d : MemoryDisk) (p : Pending) (log' : List Event) (ps' : List Pending) (faults : ℕ) → IsMemoryDisk d → WasTaken d.pending p ps' → log' ≡ d.log ++ Done p.ticket p.ok ∷ []
    → IsMemoryDisk (record d { log = log'; pending = ps'; waits = 0; faults = faults })
kept_done d p log' ps' faults k was log_is =
    let event = Done p.ticket p.ok in
    let size : length (d.log ++ event ∷ []) ≡ length d.log + 1 = length_push d.log event in
    let before : p.ticket < length d.log = All-contains (λ q. q.ticket < length d.log) d.pending p k.in_flight.below was.is_open in
    let rest = open_lowered (length d.log + 1) (others p.ticket d.pending) (open_others (length d.log) d.pending p was.is_open k.in_flight) in
    rw (log_is, was.rest) (record {
      units = k.units;
      size = k.size;
      fits = all_fit_push (length d.start) d.log (d.log ++ event ∷ []) event k.fits refl tt;
      answers = answers_lowered (d.log ++ event ∷ []) (others p.ticket d.pending) (answers_done d.log d.pending p k.answers was.is_open before);
      in_flight = rw size rest;
      lags = k.lags;
      patient = patient_again (map lowered (others p.ticket d.pending)) rest.low;
      counts = omega (arith, k.counts, size);
    })

pub length-taken : (old new : List Pending) (p : Pending) (n : ℕ) → AreOpen n old → WasTaken old p new → length new + 1 ≡ length old
length-taken old new p n are was = omega (arith, ap length was.rest, length-map (others p.ticket old) lowered, length-others old p was.is_open are.ascend)

pub reaped_now : (d v : MemoryDisk) (p : Pending) (log' : List Event) (ps' : List Pending) (faults : ℕ) → d ≡ v → IsMemoryDisk d → WasTaken d.pending p ps' → log' ≡ d.log ++ Done p.ticket p.ok ∷ []
    → Reaped (disk_of v) p.ticket p.ok (disk_of (record d { log = log'; pending = ps'; waits = 0; faults = faults }))
reaped_now d v p log' ps' faults view k was log_is =
    let flights : map flight ps' ≡ without p.ticket (map flight d.pending) =
    ap (λ l. map flight l) was.rest ∙ flights_lowered (others p.ticket d.pending) ∙ flights_others p.ticket d.pending in
    subst (λ (w : MemoryDisk). Reaped (disk_of w) p.ticket p.ok (disk_of (record d { log = log'; pending = ps'; waits = 0; faults = faults }))) view (record {
      was_open = find_open d.pending p was.is_open;
      fewer = omega (arith, length-map d.pending flight, length-map ps' flight, length-taken d.pending ps' p (length d.log) k.in_flight was);
      after = λ i. record { units = d.units; depth = 64; flights = flights i; waits = 0; history = Some (record { start = d.start; log = log_is i }) };
    })

-- a read

pub read_now : (v : MemoryDisk) (at count : ℕ) (bytes : List ℕ) → bytes ≡ units_from at count (last v.start v.log) → 4096 * (at + count) ≤ length (last v.start v.log) → HasRead (disk_of v) at count bytes
unfolding units_from
read_now v at count bytes are inside = record {
  size = ap length are ∙ length-take-le (4096 * count) (drop (4096 * at) (last v.start v.log)) (omega (arith, length-drop (4096 * at) (last v.start v.log)));
  units = λ k below _. ap (λ (l : List ℕ). unit_at k l) are ∙ unit_at-part at count k (last v.start v.log) below;
}

-- the contents

pub contents_push : (start contents contents' : List ℕ) (log log' : List Event) (event : Event)
    → contents ≡ last start log → log' ≡ log ++ event ∷ [] → contents' ≡ after_event contents event → contents' ≡ last start log'
contents_push start contents contents' log log' event is log_is is' =
    is' ∙ ap (λ c. after_event c event) is ∙ sym (last-push start log event) ∙ ap (λ l. last start l) (sym log_is)

-- room for one more, seen from outside
pub few_flights : (d v : MemoryDisk) → d ≡ v → length (disk_of v).flights < (disk_of v).depth → length d.pending < 64
few_flights d v view room =
    let fewer : length (map flight d.pending) < 64 = subst (λ (w : MemoryDisk). length (disk_of w).flights < 64) (sym view) room in
    omega (arith, length-map d.pending flight)
