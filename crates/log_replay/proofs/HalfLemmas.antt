-- A half of the log, read piece by piece.
use Rattle.std.proofs.Common.{◌≡◌, inl, inr, ℕ, ◌+◌, ◌-◌, ◌*◌, ◌<◌, ◌≤◌, List, [], ◌∷◌, ◌++◌, length, take, drop, Option, Some, None, refl, sym, ap, ap₂, subst, ◌∙◌, append_assoc, arith, take-append-drop, length-drop}
use Rattle.std.specs.Prelude.{MatchOption}
use Rattle.std.specs.FinMap as map
use Rattle.std.proofs.lemmas.Bool.{cases_lt}
use Rattle.std.proofs.lemmas.List.{length-append, append-nil, drop-drop, drop-append-le, take-append-le, take_at, drop_at, drop_all}
use Rattle.byte_maps.specs.Units.{unit_at, units_from, IsUnits}
use Rattle.byte_maps.proofs.Prelude.{unit_at-append_front, unit_at-append_back}
use Rattle.block_device.specs.Prelude.{Disk, HasRead, IsSound}
use Rattle.block_device.proofs.RangeLemmas.{units_from-same}
use Rattle.meta_rows.specs.declared.row_op.RowOp.{RowOp}
use Rattle.meta_rows.specs.Prelude.{Rows, rows_after}
use Rattle.meta_log.specs.Prelude.{record_units, unit_count, BeginsWithRecord, active_half, IsAtFront, BeginsNoRecord, TakesUnits, units_of_records, IsSuper, IsActiveSlot, active_unit}
use Rattle.meta_log.specs.declared.scanning.FoundRecord.{FoundRecord}
use Rattle.meta_log.proofs.SealLemmas.{length-record_units, unit_count-some}
use Rattle.meta_log.proofs.ScanLemmas.{StandUpTo, length-with_record}
use Rattle.log_replay.specs.Prelude.{IsAbout, IsFoundIn, IsFoundOn, as_found, first_behind, half_end, rest_of, IsReplay, AreNotZero, HasPiece, AreUnitsFrom, bytes_not_passed, IsReader, IsUnread, Skips, ReadsOn, HasNoRecord, HoldsRecord, HasReplayed, HasStale, IsHalfRead}
use Rattle.log_replay.specs.declared.replaying.FoundStore.{FoundStore}
use Rattle.log_replay.specs.declared.half_reader.HalfReader.{HalfReader}
use Rattle.log_replay.specs.declared.replaying.Replayed.{Replayed}
use Rattle.log_replay.proofs.OpeningLemmas.{seen, about_all, about_both, with_size}
use Rattle.log_replay.proofs.ReplayLemmas.{ReplayedSoFar, replayed_none, replayed_more, replayed_all, replay_within}
use Rattle.log_replay.proofs.ReplayFit.{replay_fit}

-- ---- units that were read

pub no_units : (at count : ℕ) (d : Disk) → count ≡ 0 → AreUnitsFrom at count [] d
no_units at count d none = record {
  size = omega (arith, none);
  pieces = about_all d (HasPiece at count []) (λ contents k below. absurd (omega (arith, below, none)));
}

join_pieces : (at n m : ℕ) (a b contents : List ℕ) → IsUnits n a → HasPiece at n a contents → HasPiece (at + n) m b contents
    → HasPiece at (n + m) (a ++ b) contents
join_pieces at n m a b contents size first second k below = elim (cases_lt k n) [
  | inl lt ↦ first k lt ∙ sym (unit_at-append_front k a b (omega (arith, size, lt)))
  | inr ge ↦
      let j = k - n in
      let place : at + k ≡ at + n + j = omega (arith, ge) in
      ap (λ (p : ℕ). unit_at p contents) place
      ∙ second j (omega (arith, below, ge))
      ∙ sym (unit_at-append_back n k j a b size (omega (arith, ge)))
]

units_join : (at n m : ℕ) (a b : List ℕ) (d : Disk) → AreUnitsFrom at n a d → AreUnitsFrom (at + n) m b d → AreUnitsFrom at (n + m) (a ++ b) d
units_join at n m a b d first second = record {
  size = omega (arith, length-append a b, first.size, second.size);
  pieces = about_both d (HasPiece at n a) (HasPiece (at + n) m b) (HasPiece at (n + m) (a ++ b))
      (λ contents p q. join_pieces at n m a b contents first.size p q) first.pieces second.pieces;
}

pub between_join : (first mid end : ℕ) (a b : List ℕ) (d : Disk) → first ≤ mid → mid ≤ end → AreUnitsFrom first (mid - first) a d
    → AreUnitsFrom mid (end - mid) b d → AreUnitsFrom first (end - first) (a ++ b) d
between_join first mid end a b d le more p q =
    let place : mid ≡ first + (mid - first) = omega (arith, le) in
    let count : mid - first + (end - mid) ≡ end - first = omega (arith, le, more) in
    subst (λ (n : ℕ). AreUnitsFrom first n (a ++ b) d) count
    (units_join first (mid - first) (end - mid) a b d p (subst (λ (n : ℕ). AreUnitsFrom n (end - mid) b d) place q))

pub units_read : (d : Disk) (at count : ℕ) (bytes : List ℕ) → IsSound d → HasRead d at count bytes → AreUnitsFrom at count bytes d
units_read d at count bytes sound read =
    record { size = read.size; pieces = seen d at count bytes (HasPiece at count bytes) sound read (λ contents same. same) }

pub whole_units : (first count : ℕ) (bytes : List ℕ) (d : Disk) → first + count ≤ d.units → IsSound d → AreUnitsFrom first count bytes d
    → IsAbout d (λ contents. bytes ≡ units_from first count contents)
whole_units first count bytes d inside sound are = with_size d (λ contents. bytes ≡ units_from first count contents) sound
    (about_both d (HasPiece first count bytes) (HasPiece first count bytes) (λ contents. IsUnits d.units contents → bytes ≡ units_from first count contents)
    (λ contents same again whole. sym (units_from-same first count contents bytes are.size (omega (arith, whole, inside)) same)) are.pieces are.pieces)

-- ---- the reader

pub new_reader : (h : HalfReader) (first end : ℕ) → IsUnread h first end → first ≤ end → IsReader h
new_reader h first end new le = record {
  read = omega (arith, new.at, new.next);
  more = omega (arith, new.next, new.end_is, le);
  start = omega (arith, new.start);
  size = omega (arith, new.at, new.next, ap length (nothing_left h first end new));
}
  where
    nothing_left : (h : HalfReader) (first end : ℕ) → IsUnread h first end → bytes_not_passed h ≡ []
    nothing_left h first end new = ap₂ (λ (n : ℕ) (l : List ℕ). drop n l) new.start new.none

pub left_of_new : (h : HalfReader) (first end : ℕ) → IsUnread h first end → bytes_not_passed h ≡ []
left_of_new h first end new = ap₂ (λ (n : ℕ) (l : List ℕ). drop n l) new.start new.none

pub reads_none : (d : Disk) (old new : HalfReader) → IsReader new → bytes_not_passed new ≡ bytes_not_passed old → new.at ≡ old.at → new.next ≡ old.next → new.end ≡ old.end
    → ReadsOn d old new
reads_none d old new reader left at next end_is = record {
  reader = reader;
  at = at;
  end_is = end_is;
  order = omega (arith, next);
  bytes = [];
  left = left ∙ sym (append-nil (bytes_not_passed old));
  units = no_units old.next (new.next - old.next) d (omega (arith, next));
}

pub reads_join : (d : Disk) (a b c : HalfReader) → ReadsOn d a b → ReadsOn d b c → ReadsOn d a c
reads_join d a b c p q = record {
  reader = q.reader;
  at = q.at ∙ p.at;
  end_is = q.end_is ∙ p.end_is;
  order = omega (arith, p.order, q.order);
  bytes = p.bytes ++ q.bytes;
  left = q.left ∙ ap (λ (l : List ℕ). l ++ q.bytes) p.left ∙ append_assoc (bytes_not_passed a) p.bytes q.bytes;
  units = between_join a.next b.next c.next p.bytes q.bytes d p.order q.order p.units q.units;
}

-- one piece, over bytes that were all passed over
pub reads_over : (d : Disk) (old new : HalfReader) (count : ℕ) (piece : List ℕ) → IsSound d → IsReader old → HasRead d old.next count piece
    → old.next + count ≤ old.end → length old.bytes.items ≤ old.start → new.bytes.items ≡ piece → new.start ≡ 0 → new.at ≡ old.at
    → new.next ≡ old.next + count → new.end ≡ old.end → ReadsOn d old new
reads_over d old new count piece sound reader read inside over bytes start at next end_is =
    let none : bytes_not_passed old ≡ [] = drop_all old.start old.bytes.items over in
    let left : bytes_not_passed new ≡ bytes_not_passed old ++ piece = ap₂ (λ (n : ℕ) (l : List ℕ). drop n l) start bytes ∙ ap (λ (l : List ℕ). l ++ piece) (sym none) in
    let many : count ≡ new.next - old.next = omega (arith, next) in
    record {
      reader = record {
        read = omega (arith, reader.read, at, next);
        more = omega (arith, inside, next, end_is);
        start = omega (arith, start);
        size = omega (arith, ap length left, length-append (bytes_not_passed old) piece, reader.size, reader.read, read.size, at, next);
      };
      at = at;
      end_is = end_is;
      order = omega (arith, next);
      bytes = piece;
      left = left;
      units = subst (λ (n : ℕ). AreUnitsFrom old.next n piece d) many (units_read d old.next count piece sound read);
    }

-- one piece more
pub reads_piece : (d : Disk) (old new : HalfReader) (count : ℕ) (piece : List ℕ) → IsSound d → IsReader old → HasRead d old.next count piece
    → old.next + count ≤ old.end → new.bytes.items ≡ old.bytes.items ++ piece → new.start ≡ old.start → new.at ≡ old.at → new.next ≡ old.next + count
    → new.end ≡ old.end → ReadsOn d old new
reads_piece d old new count piece sound reader read inside bytes start at next end_is =
    let left : bytes_not_passed new ≡ bytes_not_passed old ++ piece = ap₂ (λ (n : ℕ) (l : List ℕ). drop n l) start bytes
    ∙ drop-append-le old.start old.bytes.items piece reader.start in
    let many : count ≡ new.next - old.next = omega (arith, next) in
    record {
      reader = record {
        read = omega (arith, reader.read, at, next);
        more = omega (arith, inside, next, end_is);
        start = omega (arith, start, reader.start, ap length bytes, length-append old.bytes.items piece);
        size = omega (arith, ap length left, length-append (bytes_not_passed old) piece, reader.size, reader.read, read.size, at, next);
      };
      at = at;
      end_is = end_is;
      order = omega (arith, next);
      bytes = piece;
      left = left;
      units = subst (λ (n : ℕ). AreUnitsFrom old.next n piece d) many (units_read d old.next count piece sound read);
    }

pub skips : (units : ℕ) (old new : HalfReader) → IsReader old → 4096 * units ≤ length (bytes_not_passed old) → new.bytes.items ≡ old.bytes.items
    → new.start ≡ old.start + 4096 * units → new.at ≡ old.at + units → new.next ≡ old.next → new.end ≡ old.end → Skips units old new
skips units old new reader there bytes start at next end_is =
    let left : bytes_not_passed new ≡ drop (4096 * units) (bytes_not_passed old) = ap₂ (λ (n : ℕ) (l : List ℕ). drop n l) start bytes
    ∙ sym (drop-drop (4096 * units) old.start old.bytes.items) in
    let all : length (bytes_not_passed old) ≡ length old.bytes.items - old.start = length-drop old.start old.bytes.items in
    let fewer : length (bytes_not_passed new) ≡ length (bytes_not_passed old) - 4096 * units = ap length left ∙ length-drop (4096 * units) (bytes_not_passed old) in
    record {
      reader = record {
        read = omega (arith, reader.read, reader.size, there, at, next);
        more = omega (arith, reader.more, next, end_is);
        start = omega (arith, start, there, all, ap length bytes);
        size = omega (arith, fewer, reader.size, there, at, next);
      };
      at = at;
      next = next;
      end_is = end_is;
      left = left;
    }

-- ---- records in front of what is left

-- a record that ends within the front of bytes stands there
record_in_front : (front more : List ℕ) (number : ℕ) (ops : List RowOp) (rest : List ℕ) → BeginsWithRecord (front ++ more) number ops rest
    → 4096 * unit_count number ops ≤ length front → BeginsWithRecord front number ops (drop (4096 * unit_count number ops) front)
record_in_front front more number ops rest here within =
    let size = 4096 * unit_count number ops in
    let same : take size front ≡ record_units number ops = sym (take-append-le size front more within) ∙ ap (take size) here.spelled
    ∙ take_at (record_units number ops) rest size (length-record_units number ops) in
    record {
      spelled = sym (take-append-drop size front) ∙ ap (λ (l : List ℕ). l ++ drop size front) same;
      number_below = here.number_below;
      body_below = here.body_below;
      fit = here.fit;
    }

pub with_more : (bytes more : List ℕ) (number : ℕ) (ops : List RowOp) (rest : List ℕ) → BeginsWithRecord bytes number ops rest
    → BeginsWithRecord (bytes ++ more) number ops (rest ++ more)
with_more bytes more number ops rest here = record {
  spelled = ap (λ (l : List ℕ). l ++ more) here.spelled ∙ append_assoc (record_units number ops) rest more;
  number_below = here.number_below;
  body_below = here.body_below;
  fit = here.fit;
}

stand_more : (records : List (List RowOp)) (number : ℕ) (bytes left more : List ℕ) → StandUpTo records number bytes left
    → StandUpTo records number (bytes ++ more) (left ++ more)
stand_more [] number bytes left more stand = ap (λ (l : List ℕ). l ++ more) stand
stand_more (ops ∷ records) number bytes left more stand =
    (stand.0 ++ more, with_more bytes more number ops stand.0 stand.1, stand_more records (number + 1) stand.0 left more stand.2)

-- no record stands in front: the half ends there, there is no head of this number, or the record would reach past the half
pub none_at_end : (h : HalfReader) (number : ℕ) → IsReader h → h.at ≡ h.end → HasNoRecord h number
none_at_end h number reader is more ops rest size here = omega (
  arith,
  reader.read,
  reader.more,
  reader.size,
  is,
  size,
  length-append (bytes_not_passed h) more,
  length-with_record (bytes_not_passed h ++ more) number ops rest here,
  unit_count-some number ops,
)

pub none_by_head : (h : HalfReader) (number : ℕ) → BeginsNoRecord (bytes_not_passed h) number → HasNoRecord h number
none_by_head h number none more ops rest size here = none more ops rest here

pub none_by_size : (h : HalfReader) (number units : ℕ) → IsReader h → TakesUnits (bytes_not_passed h) number units → h.end - h.at < units → HasNoRecord h number
none_by_size h number units reader takes long more ops rest size here = omega (
  arith,
  reader.read,
  reader.more,
  reader.size,
  long,
  size,
  length-append (bytes_not_passed h) more,
  length-with_record (bytes_not_passed h ++ more) number ops rest here,
  takes more ops rest here,
)

pub holds_record : (d : Disk) (old new : HalfReader) (number units : ℕ) → TakesUnits (bytes_not_passed old) number units → ReadsOn d old new
    → 4096 * units ≤ length (bytes_not_passed new) → HoldsRecord new number
holds_record d old new number units takes read there more ops rest here =
    let whole : bytes_not_passed new ++ more ≡ bytes_not_passed old ++ (read.bytes ++ more) = ap (λ (l : List ℕ). l ++ more) read.left ∙ append_assoc (bytes_not_passed old) read.bytes more in
    let is = takes (read.bytes ++ more) ops rest (subst (λ (l : List ℕ). BeginsWithRecord l number ops rest) whole here) in
    omega (arith, there, is)

-- where it was read to its end, and there is none
pub none_held : (h : HalfReader) (number : ℕ) → HoldsRecord h number → ((ops : List RowOp) (rest : List ℕ) → ¬ BeginsWithRecord (bytes_not_passed h) number ops rest)
    → HasNoRecord h number
none_held h number holds none more ops rest size here =
    none ops (drop (4096 * unit_count number ops) (bytes_not_passed h)) (record_in_front (bytes_not_passed h) more number ops rest here (holds more ops rest here))

pub record_or_none : (h : HalfReader) (number : ℕ) (found : Option FoundRecord) → HoldsRecord h number
    → MatchOption found ((ops : List RowOp) (rest : List ℕ) → ¬ BeginsWithRecord (bytes_not_passed h) number ops rest) (IsAtFront (bytes_not_passed h) number)
    → MatchOption found (HasNoRecord h number) (IsAtFront (bytes_not_passed h) number)
record_or_none h number None holds none = none_held h number holds none
record_or_none h number (Some record_there) holds is = is

-- ---- records, one after another

-- the records so far were passed over and applied
pub record ReplayedHalf (d : Disk) (old : HalfReader) (first : ℕ) (now : HalfReader) (rows : Rows) (tail number : ℕ) : Type 0 where
  pub reader : IsReader now
  pub end_is : now.end ≡ old.end
  pub order : old.at ≤ now.next
  pub bytes : List ℕ
  pub read : AreUnitsFrom old.at (now.next - old.at) bytes d
  pub at : now.at ≡ old.at + tail
  pub so_far : ReplayedSoFar bytes first (bytes_not_passed now) rows tail number

pub half_begun : (d : Disk) (h : HalfReader) (first : ℕ) (rows : Rows) → IsUnread h h.at h.end → h.at ≤ h.end → rows ≡ map.empty
    → ReplayedHalf d h first h rows 0 first
half_begun d h first rows new le none = record {
  reader = new_reader h h.at h.end new le;
  end_is = refl;
  order = omega (arith, new.next);
  bytes = [];
  read = no_units h.at (h.next - h.at) d (omega (arith, new.next));
  at = omega arith;
  so_far = subst (λ (l : List ℕ). ReplayedSoFar [] first l rows 0 first) (sym (left_of_new h h.at h.end new)) (replayed_none [] first rows none);
}

so_far_more : (bytes left more : List ℕ) (first : ℕ) (rows : Rows) (tail number : ℕ) → ReplayedSoFar bytes first left rows tail number
    → ReplayedSoFar (bytes ++ more) first (left ++ more) rows tail number
so_far_more bytes left more first rows tail number so_far = record {
  records = so_far.records;
  stand = stand_more so_far.records first bytes left more so_far.stand;
  made = so_far.made;
  tail_is = so_far.tail_is;
  number_is = so_far.number_is;
  size = omega (arith, so_far.size, length-append bytes more, length-append left more);
}

-- more was read
pub half_read : (d : Disk) (old : HalfReader) (first : ℕ) (now then : HalfReader) (rows : Rows) (tail number : ℕ) → ReplayedHalf d old first now rows tail number
    → ReadsOn d now then → ReplayedHalf d old first then rows tail number
half_read d old first now then rows tail number so_far read = record {
  reader = read.reader;
  end_is = read.end_is ∙ so_far.end_is;
  order = omega (arith, so_far.order, read.order);
  bytes = so_far.bytes ++ read.bytes;
  read = between_join old.at now.next then.next so_far.bytes read.bytes d so_far.order read.order so_far.read read.units;
  at = read.at ∙ so_far.at;
  so_far = subst (λ (l : List ℕ). ReplayedSoFar (so_far.bytes ++ read.bytes) first l rows tail number) (sym read.left)
      (so_far_more so_far.bytes (bytes_not_passed now) read.bytes first rows tail number so_far.so_far);
}

-- a record was passed over and applied
pub half_replayed : (d : Disk) (old : HalfReader) (first : ℕ) (now then : HalfReader) (rows : Rows) (tail number : ℕ) (found : FoundRecord) (after : Rows)
    → ReplayedHalf d old first now rows tail number → IsAtFront (bytes_not_passed now) number found → Skips found.units now then → after ≡ rows_after rows found.ops
    → ReplayedHalf d old first then after (tail + found.units) (number + 1)
half_replayed d old first now then rows tail number found after so_far is skip applied = record {
  reader = skip.reader;
  end_is = skip.end_is ∙ so_far.end_is;
  order = omega (arith, so_far.order, skip.next);
  bytes = so_far.bytes;
  read = subst (λ (n : ℕ). AreUnitsFrom old.at (n - old.at) so_far.bytes d) (sym skip.next) so_far.read;
  at = omega (arith, skip.at, so_far.at);
  so_far = replayed_more so_far.bytes first (bytes_not_passed now) rows tail number found (bytes_not_passed then) after is skip.left applied so_far.so_far;
}

-- the units of a record that stands in front are there
pub record_there : (left : List ℕ) (number : ℕ) (found : FoundRecord) → IsAtFront left number found → (4096 * found.units ≤ length left) × (0 < found.units)
record_there left number found is = (
  omega (arith, is.size, length-with_record left number found.ops _ is.stands),
  omega (arith, is.size, unit_count-some number found.ops),
)

-- what is left is behind the records
left_behind : (records : List (List RowOp)) (number : ℕ) (bytes left : List ℕ) → StandUpTo records number bytes left
    → left ≡ drop (4096 * units_of_records number records) bytes
left_behind [] number bytes left stand = sym stand
left_behind (ops ∷ records) number bytes left stand =
    let rest = left_behind records (number + 1) stand.0 left stand.2 in
    let units = unit_count number ops in
    let cut : drop (4096 * units) bytes ≡ stand.0 = ap (drop (4096 * units)) stand.1.spelled
    ∙ drop_at (record_units number ops) stand.0 (4096 * units) (length-record_units number ops) in
    let sum : 4096 * units + 4096 * units_of_records (number + 1) records ≡ 4096 * (units + units_of_records (number + 1) records) = omega arith in
    rest
    ∙ ap (drop (4096 * units_of_records (number + 1) records)) (sym cut)
    ∙ drop-drop (4096 * units_of_records (number + 1) records) (4096 * units) bytes
    ∙ ap (λ (n : ℕ). drop n bytes) sum

pub half_done : (d : Disk) (old : HalfReader) (first : ℕ) (now : HalfReader) (log : Replayed) → ReplayedHalf d old first now log.rows.rows log.tail log.number
    → HasNoRecord now log.number → HasReplayed d old first now log
half_done d old first now log so_far none =
    let was = so_far.so_far in
    record {
      reader = so_far.reader;
      end_is = so_far.end_is;
      order = so_far.order;
      bytes = so_far.bytes;
      read = so_far.read;
      at = so_far.at;
      left = left_behind was.records first so_far.bytes (bytes_not_passed now) was.stand ∙ ap (λ (n : ℕ). drop (4096 * n) so_far.bytes) (sym was.tail_is);
      all = λ more size. replayed_all (so_far.bytes ++ more) first (bytes_not_passed now ++ more) log.rows.rows log.tail log.number (λ ops rest. none more ops rest size)
          (so_far_more so_far.bytes (bytes_not_passed now) more first log.rows.rows log.tail log.number was);
    }

-- ---- the whole half

pub half_was_read : (d : Disk) (begin now : HalfReader) (first count number : ℕ) (log : Replayed) (stale : List ℕ) → IsSound d → first + count ≤ d.units
    → IsUnread begin first (first + count) → HasReplayed d begin number now log → HasStale d now stale → IsHalfRead d first count number log stale
half_was_read d begin now first count number log stale sound inside new replayed found =
    let half = replayed.bytes ++ found.more in
    let end_is : now.end ≡ first + count = replayed.end_is ∙ new.end_is in
    let many : now.end - begin.at ≡ count = omega (arith, end_is, new.at) in
    let units : AreUnitsFrom begin.at (now.end - begin.at) half d =
    between_join begin.at now.next now.end replayed.bytes found.more d replayed.order replayed.reader.more replayed.read found.read in
    let are : AreUnitsFrom first count half d =
    subst (λ (n : ℕ). AreUnitsFrom n count half d) new.at (subst (λ (n : ℕ). AreUnitsFrom begin.at n half d) many units) in
    let place : now.at ≡ first + log.tail = omega (arith, replayed.at, new.at) in
    let behind : now.end - now.at ≡ count - log.tail = omega (arith, end_is, place) in
    let within : 4096 * log.tail ≤ length replayed.bytes = omega (arith, replayed.read.size, replayed.at, replayed.reader.read, replayed.order) in
    let rest : bytes_not_passed now ++ found.more ≡ drop (4096 * log.tail) half =
    ap (λ (l : List ℕ). l ++ found.more) replayed.left ∙ sym (drop-append-le (4096 * log.tail) replayed.bytes found.more within) in
    record {
      half = half;
      size = are.size;
      read = whole_units first count half d inside sound are;
      replay = replayed.all found.more found.read.size;
      stale = subst (λ (n : ℕ). AreNotZero n (count - log.tail) (drop (4096 * log.tail) half) stale) place
          (subst (λ (n : ℕ). AreNotZero now.at n (drop (4096 * log.tail) half) stale) behind
          (subst (λ (l : List ℕ). AreNotZero now.at (now.end - now.at) l stale) rest found.stale));
    }

pub new_again : (h : HalfReader) (first end : ℕ) → IsUnread h first end → IsUnread h h.at h.end
new_again h first end new = record { at = refl; next = new.next ∙ sym new.at; end_is = refl; start = new.start; none = new.none }

-- the store that was found
pub found_on : (d : Disk) (s : FoundStore) (at : ℕ) → at ≡ active_unit s.sup → IsSuper s.sup → s.sup.units ≡ d.units
    → IsAbout d (λ contents. IsActiveSlot contents s.sup) → IsHalfRead d at s.sup.half s.sup.first s.log s.stale.items → IsFoundOn d s
found_on d s at place limits units active read =
    let here = subst (λ (n : ℕ). IsHalfRead d n s.sup.half s.sup.first s.log s.stale.items) place read in
    let many : s.sup.half - s.log.tail ≡ half_end s - first_behind s = omega arith in
    record {
      limits = limits;
      units_are = units;
      tail = omega (arith, here.replay.within, here.size);
      within = replay_within here.half s.sup.first s.log.rows.rows s.log.tail s.log.number here.replay;
      fit = replay_fit here.half s.sup.first s.log.rows.rows s.log.tail s.log.number here.replay;
      half = here.half;
      stale = subst (λ (n : ℕ). AreNotZero (first_behind s) n (rest_of here.half s) s.stale.items) many here.stale;
      about = about_both d (λ contents. IsActiveSlot contents s.sup) (λ contents. here.half ≡ units_from (active_unit s.sup) s.sup.half contents)
          (λ contents. IsFoundIn contents (as_found s) × (here.half ≡ active_half contents s.sup))
          (λ contents slot same. (
            record { active = slot; replay = subst (λ (l : List ℕ). IsReplay l s.sup.first s.log.rows.rows s.log.tail s.log.number) same here.replay },
            same,
          )) active here.read;
    }
