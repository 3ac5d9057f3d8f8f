-- What was told `ok` is among the commits that every crash behind it leaves.
use Rattle.std.proofs.Common.{◌≡◌, ℕ, zero, suc, ◌+◌, ◌%◌, ◌<◌, ◌≤◌, Bool, true, false, cond, List, [], ◌∷◌, length, get_or, slice_get, Option, Some, None, is_some, refl, ap, subst, arith}
use Rattle.std.proofs.Math.Seq.{take-length}
use Rattle.std.proofs.lemmas.Option.{IfSome_then}
use Rattle.std.specs.Prelude.{nat_lt, ◌&&◌, ◌||◌, ◌==◌, IfSome, IsSomeAnd, codes}
use Rattle.block_device.specs.Prelude.{Disk}
use Rattle.object_model.specs.Prelude.{Objects, is_acknowledged, HasAcked}
use Rattle.object_model.specs.declared.op.Refusal.TheVariants.{NoCollection, CollectionExists, NotEmpty, NoObject, NoAttr, SameObject, BadRange, TooBig}
use Rattle.object_model.specs.declared.book.Book.{Book}
use Rattle.object_model.specs.declared.book.Commit.{Commit}
use Rattle.object_model.specs.declared.command.Command.{Command}
use Rattle.object_model.specs.declared.command.Command.TheVariants as ask
use Rattle.object_model.specs.declared.command.Read.TheVariants as reads
use Rattle.object_model.specs.declared.command.Answer.{Answer}
use Rattle.object_model.specs.declared.command.Answer.TheVariants as answer
use Rattle.store_image.specs.Prelude.{LeavesPrefix}
use Rattle.run_texts.specs.Prelude.{reply_text, hex_digit}
use Rattle.bstore_top.specs.Prelude.{AreAckedWithin, IsDurableFrom, is_among_first, IsToldOk, EachImageHolds}

-- ---- the reply `ok` is that of an acknowledged transaction alone: no other has a `k` behind its first letter

abbrev second : List ℕ → ℕ
second text = get_or text 1 0

-- a digit is none
digit_other : (n : ℕ) → n < 16 → hex_digit n ≡ 107 → ⊥
digit_other n few is = by (nat_lt n 10) is
  where
    by : (b : Bool) → cond b (0x30 + n) (0x57 + n) ≡ 107 → ⊥
    by true same = omega (arith, same, few)
    by false same = omega (arith, same, few)

value_other : (bytes : List ℕ) (command : Command) → reply_text false command (answer.Bytes bytes) ≡ codes "ok" → ⊥
value_other bytes (ask.Read (reads.Bytes c o off len)) is = let no : 97 ≡ 107 = ap second is in omega (arith, no)
value_other bytes (ask.Read (reads.GetAttr c o name)) is = let no : 116 ≡ 107 = ap second is in omega (arith, no)
value_other bytes (ask.Read (reads.OmapGet c o key)) is = let no : 109 ≡ 107 = ap second is in omega (arith, no)
value_other bytes (ask.Read (reads.OmapHeader c o)) is = let no : 101 ≡ 107 = ap second is in omega (arith, no)
value_other [] command is = let no : 0 ≡ 107 = ap second is in omega (arith, no)
value_other (b ∷ bs) command is = digit_other (b % 16) (omega arith) (ap second is)

acked_reply : (acked : Bool) (command : Command) (a : Answer) → reply_text acked command a ≡ codes "ok" → acked ≡ true
acked_reply true command a is = refl
acked_reply false command answer.Accepted is = let no : 101 ≡ 107 = ap second is in absurd (omega (arith, no))
acked_reply false command (answer.Refused NoCollection) is = let no : 49 ≡ 107 = ap second is in absurd (omega (arith, no))
acked_reply false command (answer.Refused CollectionExists) is = let no : 50 ≡ 107 = ap second is in absurd (omega (arith, no))
acked_reply false command (answer.Refused NotEmpty) is = let no : 51 ≡ 107 = ap second is in absurd (omega (arith, no))
acked_reply false command (answer.Refused NoObject) is = let no : 52 ≡ 107 = ap second is in absurd (omega (arith, no))
acked_reply false command (answer.Refused NoAttr) is = let no : 53 ≡ 107 = ap second is in absurd (omega (arith, no))
acked_reply false command (answer.Refused SameObject) is = let no : 54 ≡ 107 = ap second is in absurd (omega (arith, no))
acked_reply false command (answer.Refused BadRange) is = let no : 55 ≡ 107 = ap second is in absurd (omega (arith, no))
acked_reply false command (answer.Refused TooBig) is = let no : 56 ≡ 107 = ap second is in absurd (omega (arith, no))
acked_reply false command (answer.NoSpace need free) is = let no : 57 ≡ 107 = ap second is in absurd (omega (arith, no))
acked_reply false command (answer.MetaFull need room) is = let no : 49 ≡ 107 = ap second is in absurd (omega (arith, no))
acked_reply false command (answer.Csum unit kept found) is = let no : 49 ≡ 107 = ap second is in absurd (omega (arith, no))
acked_reply false command (answer.Bytes bytes) is = absurd (value_other bytes command is)
acked_reply false command (answer.Size size) is = let no : 105 ≡ 107 = ap second is in absurd (omega (arith, no))
acked_reply false command (answer.Sum size crc) is = let no : 117 ≡ 107 = ap second is in absurd (omega (arith, no))
acked_reply false command (answer.Names names) is = let no : 98 ≡ 107 = ap second is in absurd (omega (arith, no))

-- ---- what is acknowledged by a cut is among the first commits that have all that was

among : (place cut : ℕ) (cs : List Commit) (count : ℕ) → AreAckedWithin cut cs → HasAcked 0 cut cs count → is_acknowledged cs place ≡ true
    → is_among_first count cs place ≡ true
among place cut [] count within has is = absurd cc
among place cut (c ∷ cs) zero within has is =
    of (c.place == place) c.acked_at within.0 (has 0) is (among place cut cs zero within.1 behind)
  where
    behind : HasAcked 0 cut cs 0
    behind i = IfSome_then (slice_get cs i) (has (suc i)) (λ (d : Commit) none acked. absurd (omega (arith, none acked)))

    of : (here : Bool) (o : Option ℕ) → IfSome o (λ n. n ≤ cut) → (IsSomeAnd o (λ n. 0 + n ≤ cut) → 0 < 0)
        → ((here && is_some o) || is_acknowledged cs place) ≡ true → (is_acknowledged cs place ≡ true → false ≡ true) → false ≡ true
    of true (Some n) le none is later = absurd (omega (arith, none (omega (arith, le))))
    of true None le none is later = later is
    of false o le none is later = later is
among place cut (c ∷ cs) (suc n) within has is = of (c.place == place) (is_some c.acked_at) is (among place cut cs n within.1 behind)
  where
    behind : HasAcked 0 cut cs n
    behind i = IfSome_then (slice_get cs i) (has (suc i)) (λ (d : Commit) first acked. omega (arith, first acked))

    of : (here acked : Bool) → ((here && acked) || is_acknowledged cs place) ≡ true
        → (is_acknowledged cs place ≡ true → is_among_first n cs place ≡ true) → (here || is_among_first n cs place) ≡ true
    of true acked is later = refl
    of false acked is later = later is

-- ---- the law

pub told_ok_there : (contents : List ℕ) (objects : Objects) (book : Book) (disk : Disk) (durable : IsDurableFrom contents objects book disk)
    (place : ℕ) → IsToldOk book place → EachImageHolds place durable.history objects book
told_ok_there contents objects book disk durable place told image crash chance =
    let h = durable.history in
    let whole : LeavesPrefix 0 h.start objects book h.log =
    subst (LeavesPrefix 0 h.start objects book) (take-length h.log) (durable.cuts (length h.log) (omega arith) (omega arith)) in
    let prefix = whole image crash chance in
    record {
      prefix = prefix;
      among = among place (length h.log) book.commits prefix.count durable.by_now prefix.has_acked
          (acked_reply (is_acknowledged book.commits place) told.entry.command told.entry.answer told.reply);
    }
