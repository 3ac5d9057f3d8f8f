use Rattle.std.proofs.Common.{◌≡◌, ◌+◌, ◌-◌, ◌*◌, sym, ap, subst, arith, take, drop}
use Rattle.std.specs.Prelude.{All}
use Rattle.byte_maps.specs.Units.{unit_at}
use Rattle.byte_maps.proofs.Prelude.{length-unit_at}
use Rattle.log_replay.proofs.StaleLemmas.{zeros-from_all, all_of_zeros}
use Rattle.log_replay.proofs.stale.is_zero_unit.Goals as goal

pub returns : goal.returns
unfolding unit_at
returns c =
    let k = c.args.k in
    let bytes = c.args.bytes.now in
    let cut : 4096 * k + 4096 - 4096 * k ≡ 4096 = omega arith in
    let same : take (4096 * k + 4096 - 4096 * k) (drop (4096 * k) bytes) ≡ unit_at k bytes = ap (λ n. take n (drop (4096 * k) bytes)) cut in (
      λ yes. zeros-from_all 4096 (unit_at k bytes) (length-unit_at k bytes c.requires) (subst (All (λ b. b ≡ 0)) same (c.is_zero.ensures.0 yes)),
      λ is_zero. c.is_zero.ensures.1 (subst (All (λ b. b ≡ 0)) (sym same) (all_of_zeros 4096 (unit_at k bytes) is_zero)),
    )
