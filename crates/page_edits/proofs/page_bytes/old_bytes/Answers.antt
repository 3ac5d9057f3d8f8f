use Rattle.std.proofs.Common.{◌≡◌, ℕ, List, length, cond, sym, ap, ◌∙◌}
use Rattle.std.proofs.lemmas.Bool.{eq-eqb}
use Rattle.byte_maps.specs.Units.{zeros}
use Rattle.plan_drafts.specs.Edits.{bytes_read}
use Rattle.page_edits.specs.declared.writes.OldBytes.{OldBytes}
use Rattle.page_edits.specs.Writes.{old_bytes, whole_or_zeros}
use Rattle.page_edits.proofs.Results.{all_ok}
use Rattle.page_edits.proofs.Patches.{read_whole}
use Rattle.page_edits.proofs.page_bytes.old_bytes.Goals as goal

whole_is : (bytes : List ℕ) → length bytes ≡ 4096 → whole_or_zeros bytes ≡ bytes
whole_is bytes long = ap (λ b. cond b bytes (zeros 4096)) (eq-eqb (length bytes) 4096 long)

pub returns-in-Some-clause-bytes : goal.returns-in-Some-clause-bytes
returns-in-Some-clause-bytes c =
    let read = c.args.read.now in
    let unit = c.in-Read.unit in
    let now : List ℕ = c.as_slice.result.now in
    let is : c.as_slice.result.now ≡ bytes_read c.args.read.now c.in-Read.unit = c.as_slice.ensures ∙ c.in-Some.ensures in
    let long : length c.as_slice.result.now ≡ 4096 = ap length is ∙ read_whole read unit c.requires in
    all_ok _ _ c.copy_of.result
    (λ copy same. same ∙ whole_is now long ∙ is ∙ sym (ap (λ (o : OldBytes). old_bytes read c.args.present o) c.in-Read.is))
    c.copy_of.ensures.bytes
