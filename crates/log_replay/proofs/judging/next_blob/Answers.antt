use Rattle.log_replay.specs.Opening.{IsNextBlob}
use Rattle.log_replay.proofs.judging.next_blob.Goals as goal

-- src/judging.rt:73:1
pub returns-in-Some : goal.returns-in-Some
returns-in-Some c = IsNextBlob.behind c.in-Some.sbid c.in-Some.ensures

-- src/judging.rt:73:1
pub returns-in-None : goal.returns-in-None
returns-in-None c = IsNextBlob.first c.in-None.ensures
