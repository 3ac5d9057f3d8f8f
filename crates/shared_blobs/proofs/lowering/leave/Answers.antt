use Rattle.std.proofs.Common.{◌++◌, refl, ap, ◌∙◌, option_to_list}
use Rattle.std.specs.FinMap as finite
use Rattle.std.proofs.lemmas.Result.{on_ok_weaker}
use Rattle.shared_blobs.proofs.Leaving.{leaves_none, leaves_one}
use Rattle.shared_blobs.proofs.lowering.leave.Goals as goal

pub returns-in_default : goal.returns-in_default
returns-in_default c =
    leaves_none c.args.width c.args.rows.now.rows c.requires.good c.args.slot c.blob_key.ensures.small c.args.lowered.now
    (record { blobs = c.take_blob.new.blobs; freed = c.args.lowered.now.freed }) c.in_ok-held.held c.in_ok-held.ensures.blob c.in_default.is
    c.in_ok-held.ensures.taken refl

pub returns : goal.returns
returns c =
    on_ok_weaker c.insert.result (λ put. leaves_one c.args.width c.args.rows.now.rows c.requires.good c.args.slot c.blob_key.ensures.small
    c.args.lowered.now (record { blobs = c.insert.new.self; freed = c.add.new.freed }) c.in_ok-held.held c.in_ok-held.ensures.blob c.in-Some.blob
    c.in-Some.is
    (put ∙ (λ i. finite.insert (c.in_ok-held.ensures.taken i) (c.in_ok-key.ensures.key i) (c.put-unit.ensures.blob i)))
    (c.in_ok-add.ensures ∙ ap (λ u. c.args.lowered.now.freed.items ++ option_to_list u) c.put-unit.ensures.freed)) c.insert.ensures.ok
