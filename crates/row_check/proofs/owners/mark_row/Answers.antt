use Rattle.std.proofs.Common.{true, false, length, subst}
use Rattle.row_check.specs.Owned.{TellsShard}
use Rattle.row_check.specs.Tallies.{BeginsBlob}
use Rattle.row_check.proofs.MarkedRows.{shard_below, shard_marked, no_row_marked, read_ends, read_marked}
use Rattle.row_check.proofs.owners.mark_row.Goals as goal

pub mark_spelled-requires : goal.mark_spelled-requires
mark_spelled-requires c =
    let told : TellsShard c.args.width c.args.key.now c.args.value.now true =
    subst (TellsShard c.args.width c.args.key.now c.args.value.now) c.if-is_shard.true (c.is_shard.ensures c.args.width) in
    shard_below c.args.width c.args.key.now c.args.value.now _ c.requires told

pub returns-then-is_shard : goal.returns-then-is_shard
returns-then-is_shard c =
    let told : TellsShard c.args.width c.args.key.now c.args.value.now true =
    subst (TellsShard c.args.width c.args.key.now c.args.value.now) c.if-is_shard.true (c.is_shard.ensures c.args.width) in
    shard_marked c.args.width c.args.key.now c.args.value.now c.args.marks.now c.mark_spelled.new.self told c.mark_spelled.ensures

pub returns-then-not-is_blob_key : goal.returns-then-not-is_blob_key
returns-then-not-is_blob_key c =
    let told : TellsShard c.args.width c.args.key.now c.args.value.now false =
    subst (TellsShard c.args.width c.args.key.now c.args.value.now) c.if-is_shard.false (c.is_shard.ensures c.args.width) in
    let other : ¬ (BeginsBlob c.args.key.now) = λ begins. let yes = c.if-not-is_blob_key.ensures.1 begins in cc in
    no_row_marked c.args.width c.args.key.now c.args.value.now c.args.marks.now told other

pub mark_blob-requires : goal.mark_blob-requires
mark_blob-requires c =
    read_ends c.args.width c.args.key.now c.args.value.now (length c.args.marks.now.owned) c.in_ok-row.row c.requires c.in_ok-row.ensures

pub returns : goal.returns
returns c =
    let told : TellsShard c.args.width c.args.key.now c.args.value.now false =
    subst (TellsShard c.args.width c.args.key.now c.args.value.now) c.if-is_shard.false (c.is_shard.ensures c.args.width) in
    read_marked c.args.width c.args.key.now c.args.value.now c.args.marks.now c.mark_blob.new.marks c.in_ok-row.row told c.in_ok-row.ensures c.mark_blob.ensures
