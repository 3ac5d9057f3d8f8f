use Rattle.std.proofs.Common.{◌+◌, ◌<◌, ◌≤◌, ℕ, arith}
use Rattle.std.proofs.lemmas.List.Elements.{All-weaker}
use Rattle.log_replay.proofs.ClearLemmas.{later_join, clears_none, clears_wider, others_between, cleared_none, cleared_both, clears_both}
use Rattle.log_replay.proofs.SplitLemmas.{split_not_zero, all_others, fewer_others}
use Rattle.log_replay.proofs.clearing.clear_behind.Goals as goal

pub returns-then-first-end-clause-cleared : goal.returns-then-first-end-clause-cleared
returns-then-first-end-clause-cleared g c bytes are = cleared_none c.args.first c.args.end bytes (g.D.Device.disk c.args.dev.now) (omega arith)

pub returns-then-first-end-clause-only : goal.returns-then-first-end-clause-only
returns-then-first-end-clause-only g c bytes are = clears_none c.args.first c.args.end bytes (g.D.Device.disk c.args.dev.now)

pub returns-in_err-first_events-clause-only : goal.returns-in_err-first_events-clause-only
returns-in_err-first_events-clause-only g c bytes are =
    let disk = g.D.Device.disk in
    clears_wider c.args.first c.args.end bytes (disk c.args.dev.now).history (disk c.clear_first.new.dev).history
    (omega (arith, c.requires.order, c.if-first-end.false)) (c.in_err-first_events.ensures.only bytes)

pub clear_others-requires-clause-inside : goal.clear_others-requires-clause-inside
clear_others-requires-clause-inside g c =
    let parts = c.split-is_stale.result in
    All-weaker (λ unit. (c.args.first ≤ unit) × (unit < c.args.end)) (λ unit. unit < (g.D.Device.disk c.clear_first.new.dev).units)
    (λ (unit : ℕ) is. omega (arith, is.1, c.requires.inside, c.in_ok-first_events.ensures.later.units)) parts.1.now
    (all_others (λ unit. (c.args.first ≤ unit) × (unit < c.args.end)) c.args.stale.now c.args.first parts.0 parts.1.now c.split-is_stale.ensures c.requires.between)

pub clear_others-requires-clause-few : goal.clear_others-requires-clause-few
clear_others-requires-clause-few g c =
    let parts = c.split-is_stale.result in
    omega (arith, c.requires.many, fewer_others c.args.stale.now c.args.first parts.0 parts.1.now c.split-is_stale.ensures)

pub returns-in_err-other_events-clause-later : goal.returns-in_err-other_events-clause-later
returns-in_err-other_events-clause-later g c =
    let disk = g.D.Device.disk in
    later_join (disk c.args.dev.now) (disk c.clear_first.new.dev) (disk c.clear_others.new.dev) c.in_ok-first_events.ensures.later c.in_err-other_events.ensures.later

pub returns-in_err-other_events-clause-only : goal.returns-in_err-other_events-clause-only
returns-in_err-other_events-clause-only g c bytes are =
    let disk = g.D.Device.disk in
    let parts = c.split-is_stale.result in
    let some : c.args.first < c.args.end = omega (arith, c.requires.order, c.if-first-end.false) in
    let both = split_not_zero c.args.first c.args.end bytes some c.args.stale.now parts.0 parts.1.now are c.split-is_stale.ensures in
    clears_both c.args.first c.args.end bytes parts.1.now some both.1 c.in_ok-first_events.first_events (disk c.args.dev.now) (disk c.clear_first.new.dev)
    (disk c.clear_others.new.dev) (c.in_ok-first_events.ensures.cleared bytes both.0)
    (c.in_err-other_events.ensures.only (c.args.first + 1) c.args.end (others_between c.args.first c.args.end bytes parts.1.now some both.1))

pub returns-clause-later : goal.returns-clause-later
returns-clause-later g c =
    let disk = g.D.Device.disk in
    later_join (disk c.args.dev.now) (disk c.clear_first.new.dev) (disk c.clear_others.new.dev) c.in_ok-first_events.ensures.later c.in_ok-other_events.ensures.later

pub returns-clause-cleared : goal.returns-clause-cleared
returns-clause-cleared g c bytes are =
    let disk = g.D.Device.disk in
    let parts = c.split-is_stale.result in
    let some : c.args.first < c.args.end = omega (arith, c.requires.order, c.if-first-end.false) in
    let both = split_not_zero c.args.first c.args.end bytes some c.args.stale.now parts.0 parts.1.now are c.split-is_stale.ensures in
    cleared_both c.args.first c.args.end bytes parts.1.now some both.1 c.in_ok-first_events.first_events c.in_ok-other_events.other_events (disk c.args.dev.now)
    (disk c.clear_first.new.dev) (disk c.clear_others.new.dev) (c.in_ok-first_events.ensures.cleared bytes both.0) c.in_ok-other_events.ensures.cleared

pub returns-clause-only : goal.returns-clause-only
returns-clause-only g c bytes are =
    let disk = g.D.Device.disk in
    let parts = c.split-is_stale.result in
    let some : c.args.first < c.args.end = omega (arith, c.requires.order, c.if-first-end.false) in
    let both = split_not_zero c.args.first c.args.end bytes some c.args.stale.now parts.0 parts.1.now are c.split-is_stale.ensures in
    clears_both c.args.first c.args.end bytes parts.1.now some both.1 c.in_ok-first_events.first_events (disk c.args.dev.now) (disk c.clear_first.new.dev)
    (disk c.clear_others.new.dev) (c.in_ok-first_events.ensures.cleared bytes both.0)
    (c.in_ok-other_events.ensures.only (c.args.first + 1) c.args.end (others_between c.args.first c.args.end bytes parts.1.now some both.1))
