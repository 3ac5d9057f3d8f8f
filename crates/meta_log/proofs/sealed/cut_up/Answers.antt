use Rattle.std.proofs.Common.{◌≡◌, ◌+◌, ◌-◌, ◌*◌, ◌∙◌, [], ◌∷◌, length, take, drop, sym, ap, ap₂, subst, arith}
use Rattle.std.proofs.lemmas.List.{length-append}
use Rattle.byte_maps.specs.Units.{units_for}
use Rattle.crc32c_csum.specs.Prelude.{remainder}
use Rattle.meta_rows.specs.Prelude.{ops_bytes}
use Rattle.meta_log.specs.Prelude.{record_head, piece_count, body_before, BeginAt}
use Rattle.meta_log.proofs.RecordLemmas.{count_below}
use Rattle.meta_log.proofs.SealLemmas.{length-record_bytes, before_more, begin_more}
use Rattle.meta_log.proofs.RowsLemmas.{sum_more, sum_whole}
use Rattle.meta_log.proofs.sealed.cut_up.Goals as goal

pub overflow_cast-ops : goal.overflow_cast-ops
overflow_cast-ops c = omega (arith, c.requires.sealable.body_below, count_below c.args.ops.now)

pub loop-k-preserved : goal.loop-k-preserved
loop-k-preserved c =
    let ops = c.args.ops.now in
    let l = c.loop-k in
    let s = body_before c.args.size (64 * l.k) in
    let t = body_before c.args.size (64 * (l.k + 1)) in
    let count : c.body_before.result - c.body_before-in-loop-k.result ≡ t - s = omega (arith, c.body_before.ensures, c.body_before-in-loop-k.ensures) in
    let taken = c.in_ok-bytes.ensures ∙ ap₂ (λ n k. take n (drop k (ops_bytes ops))) count l.invariant.place in
    record {
      within = c.behind-at.ensures.within;
      place = c.behind-at.ensures.place ∙ ap₂ (λ a b. a + b) l.invariant.place count ∙ before_more c.args.size l.k;
      counted = omega (arith, ap length c.in_ok-push.ensures.items, length-append l.starts.items (l.at ∷ []), l.invariant.counted);
      begin = subst (BeginAt ops 0) (sym c.in_ok-push.ensures.items) (begin_more ops 0 l.starts.items l.at l.invariant.begin l.invariant.within
          (l.invariant.place ∙ ap₂ (λ n k. body_before n (64 * k)) c.requires.size (omega (arith, l.invariant.counted))));
      sum = sum_more (record_head c.args.number ops) (ops_bytes ops) c.in_ok-bytes.bytes.items s t l.digest c.update.new.self (omega arith)
          (omega (arith, c.requires.size)) l.invariant.sum taken (c.update.ensures ∙ ap (remainder l.digest) c.deref.ensures.value);
    }

pub returns : goal.returns
returns c =
    let ops = c.args.ops.now in
    let l = c.loop-k in
    let all : l.k ≡ piece_count c.args.units = omega (arith, c.loop-k-test.false, l.auto.k-end, c.pieces_of-pieces.ensures) in
    let units : c.args.units ≡ units_for (24 + length (ops_bytes ops)) = c.requires.units ∙ ap units_for (length-record_bytes c.args.number ops) in
    let s = body_before c.args.size (64 * l.k) in
    let whole : s ≡ length (ops_bytes ops) = omega (arith, all, units, c.requires.size) in
    record {
      counted = l.invariant.counted ∙ all ∙ ap piece_count c.requires.units;
      begin = l.invariant.begin;
      sum = c.finish.ensures ∙ sum_whole (record_head c.args.number ops) (ops_bytes ops) s l.digest whole l.invariant.sum;
    }
