use Rattle.std.proofs.Common.{◌≡◌, ◌*◌, ◌≤◌, ◌++◌, length, take}
use Rattle.crc32c_csum.specs.Prelude.{all_ones, remainder}
use Rattle.meta_rows.specs.Prelude.{ops_bytes, ops_before}
use Rattle.meta_log.specs.Prelude.{record_head, body_before, BeginAt}
use Rattle.meta_log.proofs.sealed.cut_up.Given as goal

abbrev pub invariant-loop-k : goal.invariant-loop-k
invariant-loop-k l = record {
  within : l.at.ops ≤ length l.ops;
  place : ops_before l.ops l.at ≡ body_before l.size (64 * l.k);
  counted : length l.starts.items ≡ l.k;
  begin : BeginAt l.ops 0 l.starts.items;
  sum : l.digest ≡ remainder all_ones (record_head l.number l.ops ++ take (body_before l.size (64 * l.k)) (ops_bytes l.ops));
}
