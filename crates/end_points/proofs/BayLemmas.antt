-- What a bay in memory hands out.
use Rattle.std.proofs.Common.{◌≡◌, ◌⊎◌, inl, inr, ℕ, ◌-◌, ◌*◌, ◌/◌, min, List, [], ◌++◌, length, take, replicate, Bool, cond, Option, Some, None, Result, Ok, Err, refl, sym, ◌∙◌, ap, subst, arith, length-append}
use Rattle.std.specs.Prelude.{OnOk, OnErr, unwrap_or}
use Rattle.std.specs.FinMap as map
use Rattle.std.specs.FinMap.{get-empty}
use Rattle.std.specs.Ordering.{eq_by_cmp}
use Rattle.std.proofs.lemmas.Bool.{cases_Bool, cases_lt}
use Rattle.std.proofs.lemmas.List.{length-take, length-replicate, take-take, take_all}
use Rattle.byte_maps.specs.ByteMap.{ByteMap, byte_order}
use Rattle.byte_maps.specs.Units.{zeros}
use Rattle.byte_maps.proofs.Prelude.{after_insert}
use Rattle.block_device.specs.Prelude.{MemoryDisk, fresh_memory, disk_of}
use Rattle.end_points.specs.Bay.{HandedOut, IsFewUnits, HasAskedUnits, StartsWith, cut_or_filled, start_of}
use Rattle.end_points.specs.Memory.{MemoryShelf, IsShelf, AreContents, IsStarted, view_of, after_device}
use Rattle.end_points.specs.declared.bay.How.{How}
use Rattle.end_points.specs.declared.bay.How.TheVariants.{Make, Plain, Queued}

pub length-cut_or_filled : (size : ℕ) (bytes : List ℕ) → length (cut_or_filled size bytes) ≡ size
unfolding zeros
length-cut_or_filled size bytes = omega (arith, length-append (take size bytes) (replicate (size - length bytes) 0), length-take size bytes, length-replicate {A = ℕ} (size - length bytes) 0)

-- a front of the bytes, cut or filled up
pub resized_front : (size n : ℕ) (bytes front : List ℕ) → front ≡ take (min (length bytes) size) bytes → n ≡ length front → take size front ++ replicate (size - n) 0 ≡ cut_or_filled size bytes
unfolding zeros
resized_front size n bytes front is count = elim (cases_lt size (length bytes)) [
  | inl longer ↦
      let cut : front ≡ take size bytes = is ∙ ap (λ (n : ℕ). take n bytes) (omega arith) in
      let same : take size front ≡ take size bytes = ap (λ (l : List ℕ). take size l) cut ∙ take-take size size bytes (omega arith) in
      let rest : size - n ≡ size - length bytes = omega (arith, ap length cut, length-take size bytes) in
      ap (λ (l : List ℕ). l ++ replicate (size - n) 0) same ∙ ap (λ (n : ℕ). take size bytes ++ replicate n 0) rest
  | inr shorter ↦
      let whole : front ≡ bytes = is ∙ ap (λ (n : ℕ). take n bytes) (omega arith) ∙ take_all (length bytes) bytes (omega arith) in
      ap (λ (m : ℕ). take size front ++ replicate (size - m) 0) count ∙ ap (λ (l : List ℕ). take size l ++ replicate (size - length l) 0) whole
]

-- one of two, by the answer
pub by_answer : {X E : Type 0} (P Q : Type 0) (r : Result X E) → OnOk r P → OnErr r Q → P ⊎ Q
by_answer P Q (Ok x) p q = inl p
by_answer P Q (Err e) p q = inr q

-- contents that are put under a name keep the others
pub all_contents_insert : (m : ByteMap (List ℕ)) (key value : List ℕ) → ((name bytes : List ℕ) → map.get m name ≡ Some bytes → AreContents bytes) → AreContents value
    → (name bytes : List ℕ) → map.get (map.insert m key value) name ≡ Some bytes → AreContents bytes
all_contents_insert m key value all fits name bytes got = elim (cases_Bool (eq_by_cmp byte_order name key)) [
  | inl same ↦
      let is : Some value ≡ Some bytes = sym (after_insert m key value name ∙ ap (λ (b : Bool). cond b (Some value) (map.get m name)) same) ∙ got in
      let value_is : value ≡ bytes = cc in
      subst AreContents value_is fits
  | inr other ↦ all name bytes (sym (after_insert m key value name ∙ ap (λ (b : Bool). cond b (Some value) (map.get m name)) other) ∙ got)
]

pub no_contents : (m : ByteMap (List ℕ)) → m ≡ map.empty → (name bytes : List ℕ) → map.get m name ≡ Some bytes → AreContents bytes
no_contents m is name bytes got =
    let none : map.get m name ≡ None = ap (λ (n : ByteMap (List ℕ)). map.get n name) is ∙ get-empty byte_order name in
    absurd (cc (none, got))

-- what a device starts with is whole units
pub start_contents : (s : MemoryShelf) (name start : List ℕ) (how : How) → IsShelf s → IsFewUnits how → start_of s.names name how ≡ Some start → AreContents start
start_contents s name start (Make units) shelf few is =
    let held = unwrap_or (map.get s.names.devices name) [] in
    let same : cut_or_filled (4096 * units) held ≡ start = cc in
    let size : length start ≡ 4096 * units = ap length (sym same) ∙ length-cut_or_filled (4096 * units) held in
    (omega arith, omega arith)
start_contents s name start Plain shelf few is = shelf.contents name start is
start_contents s name start Queued shelf few is = shelf.contents name start is

asked_units : (s : MemoryShelf) (name start : List ℕ) (how : How) → start_of s.names name how ≡ Some start → HasAskedUnits how (length start / 4096)
asked_units s name start (Make units) is =
    let held = unwrap_or (map.get s.names.devices name) [] in
    let same : cut_or_filled (4096 * units) held ≡ start = cc in
    let size : length start ≡ 4096 * units = ap length (sym same) ∙ length-cut_or_filled (4096 * units) held in
    omega arith
asked_units s name start Plain is = tt
asked_units s name start Queued is = tt

pub handed_out : (s v : MemoryShelf) (name : List ℕ) (how : How) (d : MemoryDisk) → s ≡ v → IsStarted v (start_of v.names name how) d → HandedOut (view_of v) name how (disk_of d) d.faults (view_of (after_device s))
handed_out s v name how d view started =
    subst (λ (w : MemoryShelf). HandedOut (view_of w) name how (disk_of d) d.faults (view_of (after_device s))) view
    (by_start (start_of s.names name how) refl (subst (λ (w : MemoryShelf). IsStarted w (start_of w.names name how) d) (sym view) started))
  where
    by_start : (o : Option (List ℕ)) → start_of s.names name how ≡ o → IsStarted s o d → HandedOut (view_of s) name how (disk_of d) d.faults (view_of (after_device s))
    by_start None is none = absurd none
    by_start (Some start) is fresh = subst (λ (e : MemoryDisk). HandedOut (view_of s) name how (disk_of e) e.faults (view_of (after_device s))) (sym fresh) (record {
      fresh = record { idle = refl; waits = refl; log = refl };
      no_faults = refl;
      units = asked_units s name start how is;
      contents = subst (λ o. StartsWith (disk_of (fresh_memory start s.lags s.device_fails)) o) (sym is) refl;
      after = refl;
    })
